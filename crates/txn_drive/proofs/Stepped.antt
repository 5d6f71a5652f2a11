-- What an access of a seat makes of its caller's attempt.
use Rattle.std.proofs.Common.{◌≡◌, ℕ, ◌<◌, ◌≤◌, List, [], length, Some, sym, ap, ◌∙◌, ⊎_elim}
use Rattle.ref_table.specs.Performs.{IsStepOfWorld, Performed}
use Rattle.ref_table.specs.Seats.{IsSameSeat, SeatState}
use Rattle.ref_table.specs.Seen.{SafeSeat}
use Rattle.stm_core.specs.Machine.{IsSameAttempt}
use Rattle.stm_model.specs.After.{after_word}
use Rattle.stm_model.specs.Attempt.{Attempt}
use Rattle.stm_model.specs.History.{Entry, entry_after}
use Rattle.stm_model.specs.World.{Terms, View}
use Rattle.stm_model.specs.declared.access.Access.{Access}
use Rattle.txn_drive.specs.Standing.{IsOn}
use Rattle.txn_drive.specs.Stepping.{Accesses, MayAccess}
use Rattle.txn_drive.proofs.Ends.{word_ends}

module _ (lawful : List ℕ → Type 0) (may : List ℕ → List ℕ → Type 0) (terms : Terms) (before after : SeatState) (t u : Attempt) (access : Access) (found : ℕ)
    (able : MayAccess lawful may terms before.view access t) (seat : IsSameSeat before after) (steps : IsStepOfWorld lawful may terms access found before after (Some t))
    (performed : Performed t found before after) (safe : SafeSeat lawful may terms after) (is : u ≡ after_word t found) (same : IsSameAttempt t u) where
  -- the seat knows the attempt then
  knows : after.view.attempt ≡ u
  knows = ap (λ (view : View). view.attempt) performed.view ∙ sym is

  on : IsOn lawful may terms after u
  on = record {
    comes = record { moves = []; may = tt; reach = knows };
    shown = record {
      world = steps.later;
      safe = steps.stays_safe;
      knows = steps.knows ∙ ap steps.later.view (sym seat.number);
      had = steps.has;
    };
    safe = safe;
    over = λ over. record { is = ap (λ (a : Attempt). record a { due = u.due; now = record a.now { runs = u.now.runs } }) (sym knows); handlers = word_ends t u access found able.is_next is over };
  }

  mine : (n : ℕ) → length before.seen ≤ n → n < length after.seen → (entry_after after.seen n).caller ≡ before.number → (entry_after after.seen n).serial ≡ t.serial
  mine n low high own = ⊎_elim (λ other. absurd (other own)) (λ won. ap (λ (e : Entry). e.serial) won.2) (performed.fresh n low high)

  pub accessed : Accesses lawful may terms before t after u
  accessed = record {
    found = found;
    leads = is;
    on = on;
    same = same;
    seat = record { same = seat; grows = performed.grows; mine = mine; waits = ap (λ (view : View). view.waits) performed.view };
    since = ap (λ (view : View). view.since) performed.view;
    count = ap (λ (view : View). view.seen) performed.view;
  }
