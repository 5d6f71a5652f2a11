-- What the words behind the program's name ask for.
use Rattle.std.specs.Prelude.{◌≡◌, ℕ, List, [], ◌∷◌, codes}

-- what the program can be asked to do
pub data Command : Type 0 where
  Trace : Command

-- The words ask for this command: `trace` is asked for by that one word.
abbrev pub AskFor : List (List ℕ) → Command → Type 0
AskFor words Trace = words ≡ codes "trace" ∷ []

-- they ask for some command
abbrev pub AskForSome : List (List ℕ) → Type 0
AskForSome words = (command : Command) × AskFor words command
