-- The clock that was loaded last counts no more entries than were seen.
use Rattle.std.proofs.Common.{◌≤◌, arith}
use Rattle.stm_model.specs.Accesses.{Act, LoadClock}
use Rattle.stm_model.specs.World.{View, World, clock_after, seen_after, view_after}
use Rattle.opacity.proofs.Knowing.{seen_more}

-- That stays so over an access of a caller that has seen no more than the clock counts.
pub clock_low : (w : World) (view : View) (act : Act) → view.seen ≤ w.clock → view.clock ≤ view.seen → (view_after w view act).clock ≤ (view_after w view act).seen
unfolding clock_after seen_after
clock_low w view LoadClock low within = omega arith
clock_low w view act low within = omega (arith, within, seen_more w view act low)
