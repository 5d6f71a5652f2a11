-- What an attempt does that got no hold of a cell, by its policy.
use Rattle.std.specs.Prelude.{ℕ, Bool, not, ◌&&◌, nat_lt, if◌then◌else◌}
use Rattle.conflict_policy.specs.declared.Move.{Move}
use Rattle.conflict_policy.specs.declared.Move.TheVariants.{Again, GiveWay as ToGiveWay, TryDoom}
use Rattle.meta_word.specs.Meta.{owned_by_another}
use Rattle.meta_word.specs.Policy.{dooms, looks}
use Rattle.meta_word.specs.declared.meta.Meta.{Meta}
use Rattle.meta_word.specs.declared.policy.Policy.{Policy}

-- The owner is to be doomed where the policy says so, no doom was tried, and another owns the cell. Else there is one round more as long as the policy grants one.
abbrev pub move_for : Policy → (rounds_done : ℕ) → (doom_tried : Bool) → Meta → (own : ℕ) → Move
move_for policy rounds_done doom_tried meta own =
    if dooms policy && (not doom_tried && owned_by_another own meta) then TryDoom meta.owner else
    if nat_lt (looks policy) rounds_done then ToGiveWay else Again
