-- What a policy grants.
use Rattle.std.specs.Prelude.{ℕ, Bool, true, false}
use Rattle.meta_word.specs.declared.policy.Policy.{Policy}
use Rattle.meta_word.specs.declared.policy.Policy.TheVariants.{Doom, GiveWay, Look}

-- how many looks it grants after the first
abbrev pub looks : Policy → ℕ
looks GiveWay = 0
looks (Look more) = more
looks (Doom more) = more

-- whether it tries to doom the owner of a cell that is to be written
abbrev pub dooms : Policy → Bool
dooms (Doom more) = true
dooms _ = false
