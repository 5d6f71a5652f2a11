-- What holds of an attempt in a safe world, taken out of it.
use Rattle.std.proofs.Common.{◌≡◌, ℕ, ◌-◌, ◌<◌, ◌≤◌, IsTrue, List, length, Option, Some, refl, sym, arith, inl, inr, subst}
use Rattle.std.specs.Prelude.{◌⊎◌, nat_eq}
use Rattle.std.proofs.lemmas.Bool.Decides.{nat_tests}
use Rattle.stm_model.specs.declared.cause.Cause.{Cause}
use Rattle.stm_model.specs.declared.ending.Ending.{Ending}
use Rattle.stm_model.specs.declared.ending.Ending.TheVariants.{Committed, Rolled}
use Rattle.stm_model.specs.Attempt.{Attempt, Late, Prepare, Ready, Stage, Stopped, Write, held_at}
use Rattle.stm_model.specs.Heap.{writes_to}
use Rattle.stm_model.specs.History.{entry_after}
use Rattle.stm_model.specs.Moves.{AwaitsAskAt}
use Rattle.stm_model.specs.Safe.{EndsSo, IsShown, SafeAttempt, SafeCell}
use Rattle.stm_model.specs.World.{Terms, World, attempt_of, entry_of}

pub rolled_shows : (terms : Terms) (w : World) (p : ℕ) (t : Attempt) (cause : Cause) (prefix : ℕ) → SafeAttempt terms w p t → t.ending ≡ Some (Rolled cause prefix)
    → (prefix ≡ t.prefix) × IsShown t cause
unfolding EndsSo
rolled_shows terms w p t cause prefix safe ends = subst (λ (ending : Option Ending). EndsSo w t ending) ends safe.ends_so

pub committed_shows : (terms : Terms) (w : World) (p : ℕ) (t : Attempt) (stamp : ℕ) → SafeAttempt terms w p t → t.ending ≡ Some (Committed stamp)
    → (0 < stamp) × (stamp ≤ length w.history) × (entry_after w.history (stamp - 1) ≡ entry_of t)
unfolding EndsSo
committed_shows terms w p t stamp safe ends = subst (λ (ending : Option Ending). EndsSo w t ending) ends safe.ends_so

-- Who waits to be asked holds all that it has written.
holds_asked : (writes : List Write) (stage : Stage) → AwaitsAskAt stage → held_at writes stage ≡ writes
unfolding held_at AwaitsAskAt
holds_asked writes (Ready told) waits = refl
holds_asked writes (Late token) waits = refl
holds_asked writes (Stopped cause) waits = refl
holds_asked writes stage waits = absurd waits

holds_all : (writes : List Write) (stage : Stage) → AwaitsAskAt stage ⊎ (stage ≡ Prepare) → held_at writes stage ≡ writes
unfolding held_at
holds_all writes stage (inl waits) = holds_asked writes stage waits
holds_all writes stage (inr stands) = rw stands refl

pub written_owned : (terms : Terms) (w : World) (p cell : ℕ) → SafeCell terms w cell → 0 < p → AwaitsAskAt (attempt_of w p).stage ⊎ ((attempt_of w p).stage ≡ Prepare)
    → IsTrue (writes_to (attempt_of w p).now.writes cell) → (w.meta cell).owner ≡ p
written_owned terms w p cell safe low stands writes =
    let all = holds_all (attempt_of w p).now.writes (attempt_of w p).stage stands in
    let holds : IsTrue (nat_eq p (w.meta cell).owner) = rw (sym (safe.owner p low), all) writes in
    grind (arith, nat_tests)
