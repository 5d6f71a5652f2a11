-- What came into a list of calls that may stop being told.
use Rattle.std.specs.Prelude.{◌≡◌, List, ◌++◌, IfSome, IsSomeAnd, Option}

-- Where a list is told afterwards, it is the one told before, with these calls at its end.
abbrev pub TellsMore : {T : Type 0} → Option (List T) → Option (List T) → List T → Type 0
TellsMore before after calls = IfSome after (λ all. IsSomeAnd before (λ earlier. all ≡ earlier ++ calls))

-- The same calls came into what an attempt counts and into what is told.
pub record Calls {T : Type 0} (counted counted_then : List T) (told told_then : Option (List T)) : Type 0 where
  pub calls : List T
  pub counts : counted_then ≡ counted ++ calls
  pub tells : TellsMore told told_then calls
