-- What a step, an exchange of the clock and a local move of a caller make of a simulation.
use Rattle.std.proofs.Common.{◌≡◌, ℕ, suc, ◌+◌, ◌-◌, ◌<◌, ◌≤◌, List, [], ◌∷◌, length, get_or, Option, Some, None, ap, sym, ◌∙◌, refl, subst, arith}
use Rattle.std.proofs.lemmas.Grind.{common_steps}
use Rattle.opacity.specs.Plain.{AreAttempts, MayDecide, ShowsAccess, ShowsSafe, terms_of, writes_in}
use Rattle.opacity.specs.Words.{IsOfTable, word_found}
use Rattle.stm_core.specs.Machine.{ClockFits, Decides, Machine, Makes}
use Rattle.op_commit.specs.Buffered.{buffered}
use Rattle.meta_word.specs.declared.meta.TheConstants.{MAX_VERSION}
use Rattle.stm_model.specs.Accesses.{Act, ExchangeClock, access_of, next, next_at, packed, word_of}
use Rattle.stm_model.specs.After.{after_word}
use Rattle.stm_model.specs.Attempt.{Announce, Attempt, Ended, Write, no_attempt}
use Rattle.stm_model.specs.History.{Entry}
use Rattle.stm_model.specs.Moves.{Begins, Does, May, Move, moved}
use Rattle.stm_model.specs.Safe.{Safe, SerialAt}
use Rattle.stm_model.specs.Shown.{shown_by}
use Rattle.stm_model.specs.World.{IsCaller, MayHappen, MeetsOwed, Moves, Steps, Terms, View, World, attempt_of, cells_in, happened, place_of, step, step_by, world_of}
use Rattle.stm_model.specs.declared.access.Access.{Access}
use Rattle.stm_model.specs.declared.note.Note.{Note}
use Rattle.stm_model.specs.declared.settings.Settings.{Settings}
use Rattle.meta_word.specs.Status.{status_of}
use Rattle.meta_word.specs.declared.status.TxnStatus.{TxnStatus}
use Rattle.opacity.proofs.Places.{attempt_here}
use Rattle.opacity.proofs.Steps.{event_safe}
use Rattle.opacity.proofs.Tables.{status_in, status_own}
use Rattle.world_run.specs.Going.{Advances}
use Rattle.world_run.specs.Simulation.{Simulation, HasSameTerms, Happens, InvariantOn, IsOver, IsSameOf, MeetsOwedNext, Shows, attempt_in, latest, machine_at, terms_in}
use Rattle.world_run.specs.Places.{Changes, HasDue, IsDone, IsGivenWord, MayBeGiven, StandsAt}
use Rattle.world_run.proofs.Falls.{did_falls, took_falls}
use Rattle.world_run.proofs.Seats.{Follows, Reseats, none_changed, own_now, there_now}
use Rattle.world_run.proofs.Seats as seats
use Rattle.world_run.proofs.Steps.{attempts_shown, clock_fits, ground_safe, of_table, own_step, tells}

-- a seat that is taken
pub record Seat {L : Type 0} (c : Simulation L) (p : ℕ) : Type 0 where
  pub machine : Machine
  pub there : machine_at c p ≡ Some machine

pub own_seat : {L : Type 0} {c : Simulation L} {p : ℕ} (seat : Seat c p) → attempt_in c p ≡ seat.machine.attempt
own_seat {c = c} {p = p} seat = ap (λ (machine : Option Machine). latest c.settings p machine) seat.there

-- Who makes an access has an attempt.
seat_of : {L : Type 0} (c : Simulation L) (p : ℕ) (act : Act) → next (attempt_in c p) ≡ Some act → Seat c p
unfolding next_at
seat_of c p act is = go (machine_at c p) refl
  where
    go : (machine : Option Machine) → machine_at c p ≡ machine → Seat c p
    go None none = let same : next (latest c.settings p None) ≡ Some act = rw none at is in cc
    go (Some machine) some = record { machine = machine; there = some }

-- The machine that was found at a seat is the caller's.
pub seat_is : (settings : Settings) (p : ℕ) (machines : List (Option Machine)) → p - 1 < length machines → (found : Option Machine) (machine : Machine) → found ≡ get_or machines (p - 1) found → found ≡ Some machine
    → latest settings p (get_or machines (p - 1) None) ≡ machine.attempt
seat_is settings p machines low found machine same some =
    let default : get_or machines (p - 1) None ≡ get_or machines (p - 1) found = grind (arith, common_steps) in
    ap (λ (each : Option Machine). latest settings p each) (default ∙ sym same ∙ some)

-- Who has begun no attempt doesn't exchange the clock.
pub nobody_decides : {A : Type 0} (settings : Settings) (p : ℕ) (machines : List (Option Machine)) (found : Option Machine) → found ≡ get_or machines (p - 1) found → found ≡ None
    → (old : ℕ) → Decides (latest settings p (get_or machines (p - 1) None)) old → A
unfolding next_at
nobody_decides settings p machines found same none old decides =
    let named = rw none at same in
    let here : get_or machines (p - 1) None ≡ None = sym named in
    let never : next (latest settings p None) ≡ Some (ExchangeClock old) = rw here at decides.next in cc

-- What the exchange of the clock finds is the clock.
pub clock_found : (terms : Terms) (words : List ℕ) (taken : ℕ) → word_found terms words (access_of (ExchangeClock taken)) ≡ get_or words 0 0
unfolding access_of word_of place_of
clock_found terms words taken = refl

-- The buffered cells are the writes.
pub writes_back : (writes : List Write) → writes_in (buffered writes) ≡ writes
writes_back [] = refl
writes_back (write ∷ writes) = ap (λ (behind : List Write). write ∷ behind) (writes_back writes)

-- Who does nothing leaves the world as it is.
pub idle : {L : Type 0} (lawful : L → List ℕ → Type 0) (may : L → List ℕ → List ℕ → Type 0) (c : Simulation L) (p : ℕ) → IsCaller (terms_in c) p → next (attempt_in c p) ≡ None
    → Happens lawful may c (Steps p) c
unfolding happened MayHappen step_by
idle lawful may c p caller none = record {
  terms = none_changed c;
  able = λ w shows. caller;
  shows = λ w shows.
      let no_act : next (attempt_of w p) ≡ None = rw (shows.attempts p caller) none in
      subst (λ (v : World). Shows lawful may c v) (sym (ap (λ (this : Option Act). step_by w p this) no_act)) shows;
}

module _ {L : Type 0} {lawful : L → List ℕ → Type 0} {may : L → List ℕ → List ℕ → Type 0} {count clock : ℕ} {before : Simulation L}
    (old : InvariantOn lawful may count clock before) (p : ℕ) (caller : IsCaller (terms_in before) p) where
  pub within : p - 1 < length before.machines
  within = let above : 0 < p = caller.0 in let low : p ≤ before.settings.callers = caller.1 in omega (arith, above, low, old.whole.size)

  pub stands : (seat : Seat before p) → StandsAt before.machines (p - 1) seat.machine
  stands seat = record { within = within; there = seat.there }

  -- the terms by the table's own count and limit
  abbrev pub table : Terms
  table = terms_of before.opening count clock

  pub table_is : table ≡ terms_in before
  table_is = λ i. record { opening = before.opening; callers = old.callers i; limit = old.limit i }

  pub caller_of_table : IsCaller table p
  caller_of_table = subst (λ (terms : Terms). IsCaller terms p) (sym table_is) caller

  attempts_of : (w : World) → Shows lawful may before w → AreAttempts (shown_by tells) count before.machines w.view
  attempts_of w shows = subst (λ (callers : ℕ). AreAttempts (shown_by tells) callers before.machines w.view) (sym old.callers) (attempts_shown shows old.whole.size)

  safe_of : (w : World) → Shows lawful may before w → Safe (lawful before.law) (may before.law) table (world_of table before.words before.history w.view)
  safe_of w shows = subst (λ (terms : Terms). Safe (lawful before.law) (may before.law) terms (world_of terms before.words before.history w.view)) (sym table_is) (ground_safe shows)

  pub was_own : {machines : List (Option Machine)} {was now : Machine} → Changes before.machines machines (p - 1) was now → was.attempt ≡ attempt_in before p
  was_own changes = sym (ap (λ (machine : Option Machine). latest before.settings p machine) changes.there)

  pub reseats : {after : Simulation L} {was now : Machine} → HasSameTerms before after → Changes before.machines after.machines (p - 1) was now → Reseats p before after now
  reseats terms changes = record { terms = terms; within = changes.within; machines = changes.others }

  pub same_of : {after : Simulation L} {was now : Machine} → HasSameTerms before after → Changes before.machines after.machines (p - 1) was now → IsSameOf p before after
  same_of {after = after} {now = now} terms changes =
      let own : attempt_in after p ≡ now.attempt = own_now caller (reseats terms changes) in
      record {
        begun = λ some. rw (there_now caller (reseats terms changes)) refl;
        same = rw (own, ← was_own changes) changes.same;
      }

  -- The clock that is exchanged is below its limit.
  pub clock_below : (taken : ℕ) → Decides (attempt_in before p) taken → taken < MAX_VERSION
  clock_below taken decides =
      let safe = old.whole.shows.safe in
      let limit : (attempt_in before p).settings.clock ≡ (terms_in before).limit = subst (λ (t : Attempt). t.settings.clock ≡ (terms_in before).limit) (old.whole.shows.attempts p caller) (safe.attempts p caller).sound.limit in
      let fits : (terms_in before).limit ≤ MAX_VERSION = safe.fits.limit in
      omega (arith, decides.below, limit, fits)

  -- ---- accesses

  module _ (act : Act) (is : next (attempt_in before p) ≡ Some act) where
    view_next : (w : World) → Shows lawful may before w → next (w.view p).attempt ≡ Some act
    view_next w shows = rw (shows.attempts p caller) is

    pub act_of_table : IsOfTable table (word_of (access_of act))
    act_of_table = rw table_is (of_table (lawful before.law) (may before.law) (terms_in before) before.words before.history old.whole.world.view p act
        (ground_safe old.whole.shows) caller (view_next old.whole.world old.whole.shows))

    pub may_be_given : (found : ℕ) → found ≡ word_found table before.words (access_of act) → MayBeGiven before.machines (p - 1) found
    may_be_given found same =
        let seat = seat_of before p act is in
        let shows = old.whole.shows in
        let view_own : (old.whole.world.view p).attempt ≡ seat.machine.attempt = shows.attempts p caller ∙ own_seat seat in
        record {
          machine = seat.machine;
          stands = stands seat;
          able = record {
            going = rw (← own_seat seat, is) refl;
            clock = rw same
                (subst (λ (terms : Terms). ClockFits seat.machine.attempt (next seat.machine.attempt) (word_found terms before.words (access_of act))) (sym table_is)
                (subst (λ (t : Attempt). ClockFits t (next t) (word_found (terms_in before) before.words (access_of act))) view_own
                (clock_fits (lawful before.law) (may before.law) (terms_in before) before.words before.history old.whole.world.view p act (ground_safe shows) caller (view_next old.whole.world shows))));
          };
        }

    module _ {after : Simulation L} (terms : HasSameTerms before after) (found : ℕ) (same : found ≡ word_found table before.words (access_of act))
        (given : IsGivenWord before.machines after.machines (p - 1) found)
        (shown : (w : World) → Shows lawful may before w → ShowsSafe (lawful before.law) (may before.law) table after.words after.history (step (world_of table before.words before.history w.view) p)) where
      own_after : (w : World) → Shows lawful may before w → attempt_of (step w p) p ≡ given.now.attempt
      own_after w shows =
          let own_view : (w.view p).attempt ≡ given.was.attempt = shows.attempts p caller ∙ sym (was_own given.changes) in
          ap (λ (v : World). attempt_of (step v p) p) shows.words
          ∙ own_step (lawful before.law) (may before.law) (terms_in before) before.words before.history w.view p act (ground_safe shows) caller (view_next w shows)
          ∙ ap (λ (t : Attempt). after_word t (word_found (terms_in before) before.words (access_of act))) own_view
          ∙ ap (λ (word : ℕ). after_word given.was.attempt word) (sym (same ∙ ap (λ (terms : Terms). word_found terms before.words (access_of act)) table_is))
          ∙ sym given.attempt

      -- the world after the step, on the simulation's own terms
      then_shown : (w : World) → Shows lawful may before w → ShowsSafe (lawful before.law) (may before.law) (terms_in before) after.words after.history (step w p)
      then_shown w shows =
          subst (λ (v : World). ShowsSafe (lawful before.law) (may before.law) (terms_in before) after.words after.history (step v p)) (sym shows.words)
          (subst (λ (terms : Terms). ShowsSafe (lawful before.law) (may before.law) terms after.words after.history (step (world_of terms before.words before.history w.view) p)) table_is (shown w shows))

      may_step : (w : World) → Shows lawful may before w → MayHappen (terms_in before) w (Steps p)
      unfolding MayHappen
      may_step w shows = caller

      pub steps : Follows lawful may count clock before (Steps p) after
      unfolding happened
      steps = seats.follows caller (reseats terms given.changes) lawful may (Steps p) refl may_step own_after (λ w shows. (then_shown w shows).shows) (λ w shows. (then_shown w shows).safe)
          count clock old

      pub advances : Advances lawful may p before (Steps p) after
      advances = record {
        happens = steps.happens;
        same = same_of terms given.changes;
        falls = took_falls before p after.machines found given;
      }

  -- What an access makes of a simulation, by what the table makes of it.
  module _ (access : Access) (makes : Makes (attempt_in before p) access) where
    pub access_of_table : IsOfTable table (word_of access)
    access_of_table = subst (λ (each : Access). IsOfTable table (word_of each)) makes.made (act_of_table makes.act makes.next)

    pub access_given : (found : ℕ) → found ≡ word_found table before.words access → MayBeGiven before.machines (p - 1) found
    access_given found same = may_be_given makes.act makes.next found (rw makes.made same)

    module _ {after : Simulation L} (terms : HasSameTerms before after) (found : ℕ) (same : found ≡ word_found table before.words access)
        (given : IsGivenWord before.machines after.machines (p - 1) found) (history : after.history ≡ before.history)
        (shown : (history : List Entry) (view : ℕ → View) → AreAttempts (shown_by tells) count before.machines view
        → Safe (lawful before.law) (may before.law) table (world_of table before.words history view)
        → ShowsAccess (lawful before.law) (may before.law) table before.words after.words history view p access) where
      shown_then : (w : World) → Shows lawful may before w → ShowsSafe (lawful before.law) (may before.law) table after.words after.history (step (world_of table before.words before.history w.view) p)
      shown_then w shows = rw history
          ((shown before.history w.view (attempts_of w shows) (safe_of w shows)).step (ap packed (view_next makes.act makes.next w shows) ∙ ap Some makes.made))

      pub access_follows : Follows lawful may count clock before (Steps p) after
      access_follows = steps makes.act makes.next terms found (rw makes.made same) given shown_then

      pub access_advances : Advances lawful may p before (Steps p) after
      access_advances = advances makes.act makes.next terms found (rw makes.made same) given shown_then

  -- What the exchange of the clock makes of a simulation, by what the table makes of it.
  module _ (taken : ℕ) (takes : next (attempt_in before p) ≡ Some (ExchangeClock taken)) where
    pub exchange_given : (found : ℕ) → found ≡ get_or before.words 0 0 → MayBeGiven before.machines (p - 1) found
    exchange_given found same = may_be_given (ExchangeClock taken) takes found (same ∙ sym (clock_found table before.words taken))

    module _ {after : Simulation L} (terms : HasSameTerms before after) (found : ℕ) (same : found ≡ get_or before.words 0 0)
        (given : IsGivenWord before.machines after.machines (p - 1) found) (owed : MeetsOwedNext lawful may before p)
        (notes writes : List Note) (noted : notes ≡ (attempt_in before p).notes) (written : writes_in writes ≡ (attempt_in before p).now.writes)
        (shown : (view : ℕ → View) → AreAttempts (shown_by tells) count before.machines view
        → MayDecide (lawful before.law) (may before.law) table before.words before.history view p taken notes writes
        → ShowsSafe (lawful before.law) (may before.law) table after.words after.history (step (world_of table before.words before.history view) p)) where
      meets : (w : World) → Shows lawful may before w → MeetsOwed (lawful before.law) (may before.law) table (world_of table before.words before.history w.view) (Steps p)
      unfolding MeetsOwed world_of
      meets w shows = rw (shows.attempts p caller) owed

      shown_won : (w : World) → Shows lawful may before w → ShowsSafe (lawful before.law) (may before.law) table after.words after.history (step (world_of table before.words before.history w.view) p)
      shown_won w shows =
          shown w.view (attempts_of w shows) (record {
            safe = safe_of w shows;
            comes = view_next (ExchangeClock taken) takes w shows;
            noted = noted ∙ ap (λ (t : Attempt). t.notes) (sym (shows.attempts p caller));
            written = written ∙ ap (λ (t : Attempt). t.now.writes) (sym (shows.attempts p caller));
            owes = meets w shows;
          })

      pub exchange_follows : Follows lawful may count clock before (Steps p) after
      exchange_follows = steps (ExchangeClock taken) takes terms found (same ∙ sym (clock_found table before.words taken)) given shown_won

      pub exchange_advances : Advances lawful may p before (Steps p) after
      exchange_advances = advances (ExchangeClock taken) takes terms found (same ∙ sym (clock_found table before.words taken)) given shown_won

  -- ---- local moves

  module _ (this : Move) (able : May (cells_in (terms_in before)) (terms_in before).limit (attempt_in before p) this)
      {after : Simulation L} {now : Machine} (seat : Reseats p before after now)
      (words : after.words ≡ before.words) (history : after.history ≡ before.history) (is : now.attempt ≡ moved (attempt_in before p) this) where
    may_move : (w : World) → Shows lawful may before w → MayHappen (terms_in before) w (Moves p this)
    unfolding MayHappen
    may_move w shows = (caller, subst (λ (t : Attempt). May (cells_in (terms_in before)) (terms_in before).limit t this) (sym (shows.attempts p caller)) able)

    own_moved : (w : World) → Shows lawful may before w → attempt_of (happened w (Moves p this)) p ≡ now.attempt
    unfolding happened
    own_moved w shows =
        attempt_here w p (record (w.view p) { attempt = moved (attempt_of w p) this })
        ∙ ap (λ (t : Attempt). moved t this) (shows.attempts p caller) ∙ sym is

    words_moved : (w : World) → Shows lawful may before w → happened w (Moves p this) ≡ world_of (terms_in before) after.words after.history (happened w (Moves p this)).view
    unfolding happened world_of
    words_moved w shows = rw (words, history) (ap (λ (v : World). record v { view = (happened w (Moves p this)).view }) shows.words)

    safe_moved : (w : World) → Shows lawful may before w → Safe (lawful before.law) (may before.law) (terms_in before) (happened w (Moves p this))
    unfolding MeetsOwed
    safe_moved w shows = event_safe (lawful before.law) (may before.law) (terms_in before) w (Moves p this) (may_move w shows) tt shows.safe

    pub moves : Follows lawful may count clock before (Moves p this) after
    moves = seats.follows caller seat lawful may (Moves p this) refl may_move own_moved words_moved safe_moved count clock old

  -- ---- what begins

  module _ (over : IsOver (attempt_in before p)) where
    own_number : (attempt_in before p).own ≡ p
    own_number = subst (λ (t : Attempt). t.own ≡ p) (old.whole.shows.attempts p caller) (old.whole.shows.safe.attempts p caller).sound.own

    pub serial_is : (attempt_in before p).serial ≡ (status_of (get_or before.words p 0)).serial
    unfolding world_of SerialAt
    serial_is =
        let shows = old.whole.shows in
        let t = (old.whole.world.view p).attempt in
        let same : t ≡ attempt_in before p = shows.attempts p caller in
        let ended : t.stage ≡ Ended = rw same over.ended in
        let told : SerialAt Ended t.serial (status_in (terms_in before) before.words p).serial = rw ended at ((ground_safe shows).statuses p caller).serial in
        ap (λ (u : Attempt). u.serial) (sym same) ∙ told ∙ ap (λ (status : TxnStatus). status.serial) (status_own (terms_in before) before.words p caller)

    module _ (serial : ℕ) (number : serial ≡ (status_of (get_or before.words p 0)).serial) (fewer : serial < before.settings.attempts) where
      same_serial : (attempt_in before p).serial ≡ serial
      same_serial = serial_is ∙ sym number

      able_to_begin : May (cells_in (terms_in before)) (terms_in before).limit (attempt_in before p) (Begins before.settings)
      unfolding May
      able_to_begin = (over.ended, over.nothing_due, refl, (let same = same_serial in omega (arith, fewer, same)), old.whole.attempts)

      begins_so : moved (attempt_in before p) (Begins before.settings) ≡ record (no_attempt p before.settings) { serial = serial + 1; stage = Announce }
      unfolding moved
      begins_so =
          let next : suc (attempt_in before p).serial ≡ serial + 1 = (let same = same_serial in omega (arith, same)) in
          λ i. record (no_attempt (own_number i) before.settings) { serial = next i; stage = Announce }

      pub begins : {after : Simulation L} {now : Machine} → Reseats p before after now → after.words ≡ before.words → after.history ≡ before.history
          → now.attempt ≡ record (no_attempt p before.settings) { serial = serial + 1; stage = Announce } → Follows lawful may count clock before (Moves p (Begins before.settings)) after
      begins seat words history is = moves (Begins before.settings) able_to_begin seat words history (is ∙ sym begins_so)

  -- ---- what is due

  module _ (due : 0 < length (attempt_in before p).due) where
    due_seat : (machine : Option Machine) → machine_at before p ≡ machine → HasDue before.machines (p - 1)
    due_seat None none = let here : 0 < length (latest before.settings p None).due = rw none at due in absurd (omega (arith, here))
    due_seat (Some machine) some = record { machine = machine; stands = record { within = within; there = some }; due = rw some at due }

    pub has_due : HasDue before.machines (p - 1)
    has_due = due_seat (machine_at before p) refl

    module _ {after : Simulation L} (terms : HasSameTerms before after) (words : after.words ≡ before.words) (history : after.history ≡ before.history)
        (done : IsDone before.machines after.machines (p - 1)) where
      does_so : done.now.attempt ≡ moved (attempt_in before p) Does
      does_so = done.attempt ∙ ap (λ (t : Attempt). moved t Does) (was_own done.changes)

      able : May (cells_in (terms_in before)) (terms_in before).limit (attempt_in before p) Does
      unfolding May
      able = due

      pub does : Follows lawful may count clock before (Moves p Does) after
      does = moves Does able (reseats terms done.changes) words history does_so

      pub done_advances : Advances lawful may p before (Moves p Does) after
      done_advances = record { happens = does.happens; same = same_of terms done.changes; falls = did_falls before p after.machines due done }
