use Rattle.std.proofs.Common.{◌<◌, nat_lt, IsTrue, ℕ, sym, ap, subst, ◌∙◌, arith}
use Rattle.std.proofs.lemmas.Bool.Decides.{nat_tests}
use Rattle.stm_core.proofs.Shown.{shown_alike}
use Rattle.stm_core.specs.Machine.{Machine}
use Rattle.stm_core.proofs.attempt.Attempt.is_late.Goals as goal

decided : (turn : ℕ) → (IsTrue (nat_lt 0 turn) → 0 < turn) × (0 < turn → IsTrue (nat_lt 0 turn))
decided turn = grind (arith, nat_tests)

pub returns : goal.returns
returns c =
    let r = c.self.inside.running in
    let same = sym (shown_alike r c.self.invariant).turn ∙ ap (λ (m : Machine). m.attempt.turn) c.self.view_is in
    subst (λ (turn : ℕ). (IsTrue (nat_lt 0 r.turn) → 0 < turn) × (0 < turn → IsTrue (nat_lt 0 r.turn))) same (decided r.turn)
