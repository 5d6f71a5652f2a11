-- Lists of calls, which may stop being told.
use Rattle.std.specs.Prelude.{◌≡◌, ℕ, nat_lt, if◌then◌else◌, List, [], ◌∷◌, ◌++◌, length, Option, Some, None, IfSome, IsSomeAnd}

-- Where a list is told after the call, it is the one told before, with the call at its end.
abbrev pub TellsNext : {T : Type 0} → Option (List T) → Option (List T) → T → Type 0
TellsNext before after call = IfSome after (λ calls. IsSomeAnd before (λ earlier. calls ≡ earlier ++ call ∷ []))

-- A list with room for so many calls, after one more. Where the room is used up the call is lost, and the list is given up.
abbrev pub after_call : {T : Type 0} → ℕ → Option (List T) → T → Option (List T)
after_call room None call = None
after_call room (Some calls) call = if nat_lt (length calls) room then Some (calls ++ call ∷ []) else None
