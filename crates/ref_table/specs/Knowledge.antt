-- What a seat of the table knows.
use Rattle.std.specs.Prelude.{ℕ, List, []}
use Rattle.stm_model.specs.Attempt.{no_attempt}
use Rattle.stm_model.specs.History.{Entry}
use Rattle.stm_model.specs.World.{View}
use Rattle.stm_model.specs.declared.settings.Settings.{Settings}

-- Whose a seat is: the maker's, which has given so many numbers and has gathered these again, each with how many entries its caller had seen; a caller's, by its number; or a mark's, which is kept for whoever heeds it.
pub data Whose : Type 0 where
  Maker : (given : ℕ) → (gathered : List (ℕ × ℕ)) → Whose
  Caller : (number : ℕ) → Whose
  Mark : Whose

-- whose the seat is, what its caller knows, the entries of the history that it has seen, and others that were joined to it, which its caller may have seen or not
pub record Knowledge : Type 0 where
  pub whose : Whose
  pub view : View
  pub seen : List Entry
  pub joined : List Entry

-- what a caller knows that has made no attempt and has seen so many entries
abbrev pub first_view : ℕ → Settings → ℕ → View
first_view number settings seen = record { attempt = no_attempt number settings; seen = seen; since = 0; clock = 0; waits = [] }

-- what the maker knows at first
abbrev pub opening_knowledge : Settings → Knowledge
opening_knowledge settings = record { whose = Maker 0 []; view = first_view 0 settings 0; seen = []; joined = [] }
