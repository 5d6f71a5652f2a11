-- One turn of a before-commit body, from its run to what comes next.
use Rattle.std.proofs.Common.{◌≡◌, ◌≢◌, ℕ, ◌<◌, ◌^◌, ◌⊎◌, List, Some, Result, Ok, Err, sym, subst, ◌∙◌}
use Rattle.meta_word.specs.declared.status.Phase.TheVariants.{Active}
use Rattle.ref_table.specs.Seats.{SeatState}
use Rattle.stm_model.specs.Attempt.{Attempt, Ended, Late, cause_at, cells_of}
use Rattle.stm_model.specs.CellsState.{Book}
use Rattle.stm_model.specs.Moves.{AwaitsAsk, EndsLate, MayAsk, moved}
use Rattle.stm_model.specs.Ran.{Ran}
use Rattle.stm_model.specs.Refusing.{IsOfBody}
use Rattle.stm_model.specs.World.{Terms, cells_in}
use Rattle.stm_model.specs.declared.access.Ask.TheVariants.{Abandon}
use Rattle.stm_model.specs.declared.cause.Cause.{Cause}
use Rattle.stm_model.specs.declared.note.Note.{Note}
use Rattle.txn_drive.specs.Going.{IsAsked}
use Rattle.txn_drive.specs.Paying.{IsLed}
use Rattle.txn_drive.specs.Standing.{Rests}
use Rattle.txn_run.specs.Flights.{MayBeAsked, Stands}
use Rattle.txn_run.specs.Turns.{InTurn, Turning, turns_left}
use Rattle.txn_run.proofs.Finishing.{abandon_ends, late_led}
use Rattle.txn_run.proofs.Known.{active_here}
use Rattle.txn_run.proofs.Standing.{rests_waits}
use Rattle.txn_run.proofs.Turning.{abandon_falls, finish_falls, turned_ill, turned_well, turning_from}

-- A body that answers a cause may roll back with it.
pub may_abandon : (lawful : List ℕ → Type 0) (may : List ℕ → List ℕ → Type 0) (terms : Terms) (u : Attempt) (cause : Cause) → Rests u → u.stage ≢ Ended
    → IsOfBody cause ⊎ (cause_at u.stage ≡ Some cause) → MayBeAsked lawful may terms u (Abandon cause)
unfolding MayAsk
may_abandon lawful may terms u cause rests going gave = record { waits = rests_waits u rests going; able = gave; owes = λ is. absurd (cc is) }

module _ {B : Type 0} (late_means : B → ℕ → List ℕ → Book → Result (Unit {0}) Cause → Book → B → Type 0) (late_leaves : B → ℕ → List ℕ → Book → B → Type 0)
    (lawful : List ℕ → Type 0) (may : List ℕ → List ℕ → Type 0) (terms : Terms) (seat : SeatState) (t u v : Attempt) (next left : B) (token : ℕ)
    (late : t.stage ≡ Late token) (stands : Stands lawful may terms seat u) (going : u.stage ≢ Ended) (same : u.turn ≡ t.turn) (answer : Result (Unit {0}) Cause)
    (ran : Ran lawful may (λ heap book answer after. late_means next token heap book answer after left) (λ heap book. late_leaves next token heap book left) answer (cells_of (cells_in terms) t) (cells_of (cells_in terms) u)) where
  waits : AwaitsAsk u
  waits = rests_waits u stands.rests going

  active : u.phase ≡ Active
  active = active_here lawful may terms seat u stands.on waits

  module _ (Going : Type 0) (first : B) (reads : List Note) (before : Book) (turn : InTurn Going late_means late_leaves lawful may (cells_in terms) first reads before t next) where
    same_token : token ≡ turn.token
    same_token = let both : Late token ≡ Late turn.token = sym late ∙ turn.stage in cc both

    ran_here : Ran lawful may (λ heap book answer after. late_means next turn.token heap book answer after left) (λ heap book. late_leaves next turn.token heap book left) answer (cells_of (cells_in terms) t) (cells_of (cells_in terms) u)
    ran_here = subst (λ (n : ℕ). Ran lawful may (λ heap book answer after. late_means next n heap book answer after left) (λ heap book. late_leaves next n heap book left) answer (cells_of (cells_in terms) t) (cells_of (cells_in terms) u)) same_token ran

    pub turns_on : answer ≡ Ok tt → IsLed (moved u EndsLate) v → Rests v → Turning Going late_means late_leaves lawful may (cells_in terms) first reads before v left
    turns_on well led rests = turning_from late_means late_leaves Going lawful may (cells_in terms) first reads before u v left
        (turned_well late_means late_leaves Going lawful may (cells_in terms) first reads before t u next left answer turn waits active stands.refused same ran_here well)
        (late_led u v waits led rests)

    pub turns_back : (cause : Cause) → answer ≡ Err cause → IsAsked u (Abandon cause) v → Rests v → Turning Going late_means late_leaves lawful may (cells_in terms) first reads before v left
    turns_back cause ill asked rests =
        turned_ill late_means late_leaves Going lawful may (cells_in terms) first reads before t u next left answer turn waits active stands.refused same ran_here cause v ill
        (abandon_ends cause u v waits asked rests)

  pub falls_on : t.turn < 2 ^ 64 → IsLed (moved u EndsLate) v → Rests v → turns_left v.stage v.turn < turns_left t.stage t.turn
  falls_on low led rests = finish_falls t u v token late low same (late_led u v waits led rests)

  pub falls_back : (cause : Cause) → t.turn < 2 ^ 64 → IsAsked u (Abandon cause) v → Rests v → turns_left v.stage v.turn < turns_left t.stage t.turn
  falls_back cause low asked rests = abandon_falls t u v token cause late low (abandon_ends cause u v waits asked rests)
