-- Functions that are replaced at one place, and worlds in which one caller's view is.
use Rattle.std.proofs.Common.{◌≡◌, ℕ, ◌≢◌, ap, arith}
use Rattle.std.proofs.lemmas.Bool.Decides.{nat_tests}
use Rattle.stm_model.specs.World.{View, World, attempt_of, replaced, with_view}

pub replaced_here : {X : Type 0} (f : ℕ → X) (place : ℕ) (x : X) → replaced f place x place ≡ x
unfolding replaced
replaced_here f place x = grind (arith, nat_tests)

pub replaced_else : {X : Type 0} (f : ℕ → X) (place : ℕ) (x : X) (other : ℕ) → other ≢ place → replaced f place x other ≡ f other
unfolding replaced
replaced_else f place x other apart = grind (arith, nat_tests)

pub attempt_here : (w : World) (p : ℕ) (x : View) → attempt_of (with_view w p x) p ≡ x.attempt
attempt_here w p x = ap (λ (view : View). view.attempt) (replaced_here w.view p x)

pub attempt_else : (w : World) (p : ℕ) (x : View) (q : ℕ) → q ≢ p → attempt_of (with_view w p x) q ≡ attempt_of w q
attempt_else w p x q apart = ap (λ (view : View). view.attempt) (replaced_else w.view p x q apart)
