-- What several steps make of a seat and of a running attempt.
use Rattle.std.proofs.Common.{◌≡◌, ◌≢◌, ℕ, List, length, Option, Some, refl, sym, ap, subst, ◌∙◌, arith, inl, inr}
use Rattle.std.proofs.lemmas.Bool.{cases_lt}
use Rattle.ref_table.proofs.Beginnings.{prefix_self, prefix_trans}
use Rattle.ref_table.specs.Seats.{SeatState}
use Rattle.stm_core.specs.Machine.{IsSameAttempt}
use Rattle.stm_model.specs.Attempt.{Announce, Attempt, Stage}
use Rattle.stm_model.specs.Handlers.{Handlers}
use Rattle.stm_model.specs.History.{Entry, entry_after}
use Rattle.stm_model.proofs.HistoryLemmas.{entry_after-append}
use Rattle.stm_model.specs.World.{Terms, View, since_at}
use Rattle.txn_drive.specs.Going.{Continues, Goes, SeesMore}
use Rattle.txn_drive.specs.Moment.{Moment, moment}
use Rattle.txn_drive.specs.Paying.{IsLed}
use Rattle.txn_drive.specs.Standing.{IsOn}
use Rattle.txn_drive.specs.Stepping.{Accesses, Settles}
use Rattle.stm_model.specs.Accesses.{next_access}
use Rattle.stm_model.specs.declared.access.Access.{Access}
use Rattle.txn_drive.proofs.Keeping.{Keeps, keeps_word}
use Rattle.txn_drive.proofs.Led.{led_on, led_self, led_word}
use Rattle.txn_drive.proofs.Told.{calls_none, calls_on, calls_same}

pub sees_self : (serial : ℕ) (seat : SeatState) → SeesMore serial seat seat
sees_self serial seat = record {
  same = record { table = refl; number = refl; lists = refl };
  grows = prefix_self seat.seen;
  mine = λ n low high own. absurd (omega (arith, low, high));
  waits = refl;
}

pub sees_on : (serial : ℕ) (a b c : SeatState) → SeesMore serial a b → SeesMore serial b c → SeesMore serial a c
sees_on serial a b c one two = record {
  same = record { table = two.same.table ∙ one.same.table; number = two.same.number ∙ one.same.number; lists = two.same.lists ∙ one.same.lists };
  grows = prefix_trans a.seen b.seen c.seen one.grows two.grows;
  mine = λ n low high own. elim (cases_lt n (length b.seen)) [
    | inl early ↦
        let here : entry_after c.seen n ≡ entry_after b.seen n = sym (ap (λ (h : List Entry). entry_after h n) two.grows.1) ∙ entry_after-append b.seen two.grows.0 n early in
        ap (λ (e : Entry). e.serial) here ∙ one.mine n low early (sym (ap (λ (e : Entry). e.caller) here) ∙ own)
    | inr late ↦ two.mine n late high (own ∙ sym one.same.number)
  ];
  waits = two.waits ∙ one.waits;
}

same_on : (a b c : Attempt) → IsSameAttempt a b → IsSameAttempt b c → IsSameAttempt a c
same_on a b c one two = record { own = two.own ∙ one.own; serial = two.serial ∙ one.serial; settings = two.settings ∙ one.settings }

pub continues_self : (m : Moment) → Continues m m
continues_self m = record {
  same = record { own = refl; serial = refl; settings = refl };
  seat = sees_self m.attempt.serial m.seat;
  since = λ started. (refl, started);
  runs = calls_none m.attempt.now.runs m.runs;
  rings = calls_none m.attempt.rings m.rings;
}

pub continues_on : (a b c : Moment) → Continues a b → Continues b c → Continues a c
continues_on a b c one two = record {
  same = same_on a.attempt b.attempt c.attempt one.same two.same;
  seat = sees_on a.attempt.serial a.seat b.seat c.seat one.seat (subst (λ (serial : ℕ). SeesMore serial b.seat c.seat) one.same.serial two.seat);
  since = λ started. let first = one.since started in let then = two.since first.1 in (then.0 ∙ first.0, then.1);
  runs = calls_on a.attempt.now.runs b.attempt.now.runs c.attempt.now.runs a.runs b.runs c.runs one.runs two.runs;
  rings = calls_on a.attempt.rings b.attempt.rings c.attempt.rings a.rings b.rings c.rings one.rings two.rings;
}

pub goes_self : (m : Moment) → Goes m m
goes_self m = record { continues = continues_self m; led = led_self m.attempt; turn = refl }

pub goes_on : (a b c : Moment) → Goes a b → Goes b c → Goes a c
goes_on a b c one two = record {
  continues = continues_on a b c one.continues two.continues;
  led = led_on a.attempt b.attempt c.attempt one.led two.led;
  turn = two.turn ∙ one.turn;
}

-- ---- an access

since_then : (view : View) (stage : Stage) → stage ≢ Announce → since_at view stage ≡ view.since
unfolding since_at
since_then view Announce started = absurd (started refl)
since_then view stage started = refl

pub accesses_go : (lawful : List ℕ → Type 0) (may : List ℕ → List ℕ → Type 0) (terms : Terms) (before after : SeatState) (t u : Attempt) (runs : Option Handlers) (rings : Option (List ℕ)) → Accesses lawful may terms before t after u
    → Keeps t u → IsLed t u → Goes (moment before t runs rings) (moment after u runs rings)
accesses_go lawful may terms before after t u runs rings done keeps led = record {
  continues = record {
    same = done.same;
    seat = done.seat;
    since = λ started. (done.since ∙ since_then before.view t.stage started, keeps.started started);
    runs = calls_same t.now.runs u.now.runs runs runs keeps.runs refl;
    rings = calls_same t.rings u.rings rings rings keeps.rings refl;
  };
  led = led;
  turn = keeps.turn;
}

pub accessed_goes : (lawful : List ℕ → Type 0) (may : List ℕ → List ℕ → Type 0) (terms : Terms) (before after : SeatState) (t u : Attempt) (runs : Option Handlers) (rings : Option (List ℕ)) (access : Access)
    → Accesses lawful may terms before t after u → next_access t ≡ Some access → Goes (moment before t runs rings) (moment after u runs rings)
accessed_goes lawful may terms before after t u runs rings access done comes =
    accesses_go lawful may terms before after t u runs rings done (subst (Keeps t) (sym done.leads) (keeps_word t done.found)) (led_word t u access done.found comes done.leads)

-- ---- what was due is done

module _ (t u : Attempt) (runs runs_then : Option Handlers) (rings rings_then : Option (List ℕ)) (settles : Settles t u runs runs_then rings rings_then) where
  stage_then : u.stage ≡ t.stage
  stage_then = ap (λ (a : Attempt). a.stage) settles.is

  pub settles_go : (seat : SeatState) → Goes (moment seat t runs rings) (moment seat u runs_then rings_then)
  settles_go seat = record {
    continues = record {
      same = record { own = ap (λ (a : Attempt). a.own) settles.is; serial = ap (λ (a : Attempt). a.serial) settles.is; settings = ap (λ (a : Attempt). a.settings) settles.is };
      seat = sees_self t.serial seat;
      since = λ started. (refl, λ is. started (sym stage_then ∙ is));
      runs = settles.ran;
      rings = settles.rang;
    };
    led = settles.led;
    turn = ap (λ (a : Attempt). a.turn) settles.is;
  }

  pub settles_stands : (lawful : List ℕ → Type 0) (may : List ℕ → List ℕ → Type 0) (terms : Terms) (seat : SeatState) → IsOn lawful may terms seat t → IsOn lawful may terms seat u
  settles_stands lawful may terms seat on = record {
    comes = settles.comes terms seat.view.attempt on.comes;
    shown = on.shown;
    safe = on.safe;
    over = λ over.
        let same = on.over (sym stage_then ∙ over) in
        let after = settles.handlers same.handlers in
        record {
          is = settles.is ∙ (ap (λ (rings : List ℕ). record t { due = u.due; rings = rings; now = record t.now { runs = u.now.runs } }) after.1
              ∙ ap (λ (a : Attempt). record a { due = u.due; now = record a.now { runs = u.now.runs } }) same.is);
          handlers = after.0;
        };
  }
