-- What a caller's seat and the maker's can rely on, where the words and the seats show a safe world.
use Rattle.std.proofs.Common.{◌≡◌, ◌≢◌, ℕ, suc, ◌+◌, ◌-◌, ◌<◌, ◌≤◌, List, length, Option, Some, None, refl, sym, ap, subst, ◌∙◌, inl, inr, arith}
use Rattle.std.specs.Prelude.{IfSome}
use Rattle.std.proofs.lemmas.Bool.{cases_lt}
use Rattle.std.proofs.lemmas.List.Elements.{All-weaker}
use mathlib.Core.Option.{some}
use mathlib.Core.List.{IsPrefix}
use lib.ListN.{get_elem?}
use Rattle.atomic_table.specs.Seated.{TableId}
use Rattle.stm_model.specs.Accesses.{Act, access_of, next_at, word_of}
use Rattle.stm_model.specs.Attempt.{Attempt, Stage, Announce, cause_at}
use Rattle.stm_model.specs.Heap.{Agrees}
use Rattle.stm_model.specs.History.{Entry, IsLegal, entry_after, state}
use Rattle.stm_model.specs.Safe.{EndsSo, HasBegun, IsKept, Opaque, Safe, SafeAttempt, SerialAt, caller_at, serial_at}
use Rattle.stm_model.specs.World.{IsCaller, Terms, View, World, attempt_of, entry_of, world_of}
use Rattle.stm_model.specs.declared.ending.Ending.{Ending}
use Rattle.stm_model.specs.declared.ending.Ending.TheVariants.{Committed, Read}
use Rattle.stm_model.specs.declared.settings.Settings.{Settings}
use Rattle.stm_model.proofs.HistoryLemmas.{IsLegal-front, entry_after-append, state-append}
use Rattle.opacity.specs.Alone.{EndsByItself, IsAlone, IsUndisturbed}
use Rattle.opacity.specs.Known.{IsKnown, clock_at}
use Rattle.opacity.specs.Words.{FitsTable, IsOfTable}
use Rattle.opacity.proofs.NextAccess.{fits_at}
use Rattle.opacity.proofs.Runs.{safe_opaque}
use Rattle.opacity.proofs.Truths.{committed_shows, rolled_shows}
use Rattle.ref_table.specs.Knowledge.{Caller, Knowledge, Maker, first_view}
use Rattle.ref_table.specs.Rule.{IsMakerSeat, IsSafeTable, WasGathered}
use Rattle.ref_table.specs.Seats.{MakerState}
use Rattle.ref_table.specs.declared.lists.Lists.{Lists}
use Rattle.ref_table.specs.Seen.{HasAllOf, HasOwnEntries, IsLawfulHistory, IsTrueOf, SafeMaker, SafeSeat}
use Rattle.ref_table.proofs.Fitting.{of_caller, of_maker}
use Rattle.ref_table.proofs.Beginnings.{prefix_length}

-- ---- beginnings of a history

pub entry_then : (xs ys : List Entry) (n : ℕ) → IsPrefix xs ys → n < length xs → entry_after xs n ≡ entry_after ys n
entry_then xs ys n first low = sym (entry_after-append xs first.0 n low) ∙ ap (λ (h : List Entry). entry_after h n) first.1

pub state_then : (opening : List ℕ) (xs ys : List Entry) (n : ℕ) → IsPrefix xs ys → n ≤ length xs → state opening xs n ≡ state opening ys n
state_then opening xs ys n first low = sym (state-append opening xs first.0 n low) ∙ ap (λ (h : List Entry). state opening h n) first.1

-- ---- a safe world

-- a status word has no later number than its caller's attempt
serial_low : (stage : Stage) (serial word : ℕ) → SerialAt stage serial word → word ≤ serial
unfolding SerialAt
serial_low Announce serial word is = omega arith
serial_low stage serial word is = omega arith

-- one that has only read ends with its prefix
read_shows : (terms : Terms) (w : World) (p : ℕ) (t : Attempt) (prefix : ℕ) → SafeAttempt terms w p t → t.ending ≡ Some (Read prefix) → prefix ≡ t.prefix
unfolding EndsSo
read_shows terms w p t prefix safe ends = subst (λ (ending : Option Ending). EndsSo w t ending) ends safe.ends_so

within_if : (terms : Terms) (act : Option Act) → IfSome act (FitsTable terms) → IfSome act (λ act. IsOfTable terms (word_of (access_of act)))
within_if terms None fits = tt
within_if terms (Some act) fits = fits.word

module _ (lawful : List ℕ → Type 0) (may : List ℕ → List ℕ → Type 0) (terms : Terms) (w : World) (safe : Safe lawful may terms w) (seen : List Entry) (first : IsPrefix seen w.history) where
  low_seen : (n : ℕ) → n ≤ length seen → n ≤ length w.history
  low_seen n low = omega (arith, low, prefix_length seen w.history first)

  entry_seen : (n : ℕ) → n < length seen → entry_after seen n ≡ entry_after w.history n
  entry_seen n low = entry_then seen w.history n first low

  -- whose an entry is in the history
  its_caller : (n q : ℕ) → n < length seen → (entry_after seen n).caller ≡ q → caller_at w n ≡ q
  its_caller n q low own = sym (ap (λ (e : Entry). e.caller) (entry_seen n low)) ∙ own

  state_seen : (n : ℕ) → n ≤ length seen → state terms.opening seen n ≡ state terms.opening w.history n
  state_seen n low = state_then terms.opening seen w.history n first low

  -- its caller has seen it
  pub seen_by : (n q : ℕ) → n < length seen → (entry_after seen n).caller ≡ q → n < (w.view q).seen
  seen_by n q low own = subst (λ (q : ℕ). n < (w.view q).seen) (its_caller n q low own) (safe.callers.seen n (low_seen (suc n) low))

  pub entry_caller : (n : ℕ) → n < length seen → IsCaller terms (entry_after seen n).caller
  entry_caller n low = subst (λ (e : Entry). IsCaller terms e.caller) (sym (entry_seen n low)) (safe.callers.callers n (low_seen (suc n) low))

  pub is_lawful : IsLawfulHistory lawful may terms seen
  is_lawful = record {
    legal = IsLegal-front terms.opening seen first.0 (subst (IsLegal terms.opening) (sym first.1) safe.legal);
    law = record {
      each = λ n low. subst lawful (sym (state_seen n low)) (safe.law.each n (low_seen n low));
      next = λ n low.
          let here : state terms.opening w.history n ≡ state terms.opening seen n = sym (state_seen n (omega arith)) in
          let then : state terms.opening w.history (suc n) ≡ state terms.opening seen (suc n) = sym (state_seen (suc n) low) in
          subst (λ (y : List ℕ × List ℕ). may y.0 y.1) (λ i. (here i, then i)) (safe.law.next n (low_seen (suc n) low));
    };
    callers = entry_caller;
  }

  module _ (p : ℕ) (caller : IsCaller terms p) where
    abbrev t : Attempt
    t = attempt_of w p

    pub own_entries : HasOwnEntries p t seen
    own_entries = record {
      latest = λ n low own.
          let at : caller_at w n ≡ p = its_caller n p low own in
          let serial : serial_at w n ≤ (w.status p).serial = subst (λ (q : ℕ). serial_at w n ≤ (w.status q).serial) at (safe.callers.latest n (low_seen (suc n) low)) in
          let word : (w.status p).serial ≤ t.serial = serial_low t.stage t.serial (w.status p).serial (safe.statuses p caller).serial in
          let same : (entry_after seen n).serial ≡ serial_at w n = ap (λ (e : Entry). e.serial) (entry_seen n low) in
          omega (arith, serial, word, same);
      ascend = λ m n less low first_own second_own.
          let at : caller_at w m ≡ caller_at w n = its_caller m p (omega arith) first_own ∙ sym (its_caller n p low second_own) in
          let serials : serial_at w m < serial_at w n = safe.callers.ascend m n less (low_seen (suc n) low) at in
          let same_first : (entry_after seen m).serial ≡ serial_at w m = ap (λ (e : Entry). e.serial) (entry_seen m (omega arith)) in
          let same_second : (entry_after seen n).serial ≡ serial_at w n = ap (λ (e : Entry). e.serial) (entry_seen n low) in
          omega (arith, serials, same_first, same_second);
      undecided = λ n low own kept none.
          let serial : serial_at w n < t.serial = safe.callers.undecided n p (low_seen (suc n) low) (its_caller n p low own) kept none in
          let same : (entry_after seen n).serial ≡ serial_at w n = ap (λ (e : Entry). e.serial) (entry_seen n low) in
          omega (arith, serial, same);
    }

    -- The caller has seen as much, and knows no more.
    module _ (counted : length seen ≡ (w.view p).seen) (known : IsKnown (w.view p)) (clock : (w.view p).clock ≤ (w.view p).seen) where
      opaque_seen : HasBegun t.stage → IsKept t.stage t.ending → Opaque terms.opening seen (w.view p).since t
      opaque_seen begun kept =
          let all = safe_opaque lawful may terms w p safe caller begun kept in
          let low : t.prefix ≤ length seen = omega (arith, known.prefix, counted) in
          record { prefix = low; fresh = all.fresh; notes = subst (Agrees t.notes) (sym (state_seen t.prefix low)) all.notes }

      committed_seen : (stamp : ℕ) → t.ending ≡ Some (Committed stamp) → (0 < stamp) × (stamp ≤ length seen) × (entry_after seen (stamp - 1) ≡ entry_of t)
      committed_seen stamp ends =
          let so = committed_shows terms w p t stamp (safe.attempts p caller) ends in
          let above : 0 < stamp = so.0 in
          let own : caller_at w (stamp - 1) ≡ p = ap (λ (e : Entry). e.caller) so.2 ∙ (safe.attempts p caller).sound.own in
          let here : stamp - 1 < (w.view p).seen = subst (λ (q : ℕ). stamp - 1 < (w.view q).seen) own (safe.callers.seen (stamp - 1) (omega (arith, so.0, so.1))) in
          let low : stamp ≤ length seen = omega (arith, above, here, counted) in
          (above, low, entry_seen (stamp - 1) (omega (arith, above, low)) ∙ so.2)

      pub is_true : IsTrueOf terms.opening seen (w.view p).since t
      is_true = record {
        opaque = opaque_seen;
        refused = (safe.attempts p caller).refused;
        rolled = λ cause prefix ends. rolled_shows terms w p t cause prefix (safe.attempts p caller) ends;
        read = λ prefix ends. read_shows terms w p t prefix (safe.attempts p caller) ends;
        committed = committed_seen;
      }

      pub safe_seat_in : (table : TableId) (lists : Lists) → (terms.callers ≡ 1 → IsAlone w 1)
          → SafeSeat lawful may terms record { table = table; number = p; view = w.view p; seen = seen; lists = lists }
      safe_seat_in table lists alone = record {
        caller = caller;
        own = (safe.attempts p caller).sound.own;
        limit = (safe.attempts p caller).sound.limit;
        serial = (safe.attempts p caller).sound.serial;
        counted = counted;
        since = (safe.views p caller.1).since;
        clock = clock;
        known = known;
        seen = is_lawful;
        entries = own_entries;
        attempt = is_true;
        within = within_if terms (next_at t t.stage) (fits_at lawful may terms w p safe caller t.stage (safe.attempts p caller).stage (safe.attempts p caller).ending);
        undisturbed = λ one. let only : p ≡ 1 = omega (arith, one, caller.0, caller.1) in
            subst (λ (q : ℕ). IsUndisturbed (attempt_of w q)) (sym only) (alone one).goes.undisturbed;
      }

-- ---- seats

module _ (lawful : List ℕ → Type 0) (may : List ℕ → List ℕ → Type 0) (terms : Terms) (settings : Settings) (words : List ℕ) (seats : List Knowledge) (shows : IsSafeTable lawful may terms settings words seats) (i : ℕ) (k : Knowledge) (there : get_elem? seats i ≡ some k) where
  -- What a caller's seat can rely on.
  pub safe_seat : (table : TableId) (lists : Lists) (p : ℕ) → k.whose ≡ Caller p → SafeSeat lawful may terms record { table = table; number = p; view = k.view; seen = k.seen; lists = lists }
  unfolding world_of
  safe_seat table lists p is =
      let fits = shows.each i k there in
      let own = of_caller settings shows.who shows.place shows.given i p k is fits.whose in
      let caller : IsCaller terms p = (own.low, omega (arith, own.high, shows.few)) in
      subst (λ (view : View). SafeSeat lawful may terms record { table = table; number = p; view = view; seen = k.seen; lists = lists }) own.shows
      (safe_seat_in lawful may terms (world_of terms words shows.history shows.who) shows.safe k.seen fits.seen p caller
      (own.counted ∙ sym (ap (λ (view : View). view.seen) own.shows)) (subst IsKnown (sym own.shows) own.known) (subst (λ (view : View). view.clock ≤ view.seen) (sym own.shows) own.clock) table lists shows.alone)

  -- No entry of its own is in the history behind those that it has seen.
  pub none_in : (p : ℕ) → k.whose ≡ Caller p → (seen : List Entry) → IsPrefix seen shows.history → (n : ℕ) → length k.seen ≤ n → n < length seen → (entry_after seen n).caller ≢ p
  unfolding world_of
  none_in p is seen first n past low its =
      let own = of_caller settings shows.who shows.place shows.given i p k is (shows.each i k there).whose in
      let has : n < (shows.who p).seen = seen_by lawful may terms (world_of terms words shows.history shows.who) shows.safe seen first n p low its in
      let same : (shows.who p).seen ≡ k.view.seen = ap (λ (view : View). view.seen) own.shows in
      omega (arith, past, has, same, own.counted)

  -- What the maker can rely on.
  module _ (g : ℕ) (gathered : List (ℕ × ℕ)) (is : k.whose ≡ Maker g gathered) where
    makers : IsMakerSeat settings shows.who shows.place shows.given i g gathered k.view k.seen
    makers = of_maker settings shows.who shows.place shows.given i g gathered k is (shows.each i k there).whose

    -- who was given a number has it
    given_low : (n : ℕ) → n < length k.seen → (entry_after k.seen n).caller ≤ g
    unfolding world_of
    given_low n low =
        let w = world_of terms words shows.history shows.who in
        let fits = shows.each i k there in
        let q : ℕ = (entry_after k.seen n).caller in
        let caller : IsCaller terms q = entry_caller lawful may terms w shows.safe k.seen fits.seen n low in
        let has : n < (shows.who q).seen = seen_by lawful may terms w shows.safe k.seen fits.seen n q low refl in
        elim (cases_lt g q) [
          | inl more ↦
              let fresh : shows.who q ≡ first_view q settings 0 = shows.fresh q (omega (arith, more, makers.counts)) caller.1 in
              let none : (shows.who q).seen ≡ 0 = ap (λ (view : View). view.seen) fresh in
              absurd (omega (arith, none, has))
          | inr within ↦ within
        ]

    all_of : (one : ℕ × ℕ) → WasGathered shows.who shows.place shows.given k.seen one → HasAllOf g k.seen one
    unfolding world_of
    all_of one was = record {
      low = was.low;
      high = omega (arith, was.high, makers.counts);
      within = was.within;
      all = λ n low own.
          let w = world_of terms words shows.history shows.who in
          let has : n < (shows.who one.0).seen = seen_by lawful may terms w shows.safe k.seen (shows.each i k there).seen n one.0 low own in
          omega (arith, has, was.counted);
    }

    pub safe_maker : (table : TableId) → SafeMaker lawful may terms record { table = table; given = g; gathered = gathered; seen = k.seen }
    unfolding world_of
    safe_maker table = record {
      few = omega (arith, makers.counts, shows.few);
      seen = is_lawful lawful may terms (world_of terms words shows.history shows.who) shows.safe k.seen (shows.each i k there).seen;
      given = given_low;
      gathered = All-weaker (WasGathered shows.who shows.place shows.given k.seen) (HasAllOf g k.seen) all_of gathered makers.each;
    }

    -- It has made no attempt.
    pub maker_rests : k.view ≡ first_view 0 settings 0
    maker_rests = makers.rests

-- ---- a seat that was just cut off the maker's

module _ (lawful : List ℕ → Type 0) (may : List ℕ → List ℕ → Type 0) (terms : Terms) (maker : MakerState) (rests : SafeMaker lawful may terms maker) where
  -- None of the entries that the maker has seen is of a number that it hasn't given.
  pub none_of_new : (n : ℕ) → n < length maker.seen → (entry_after maker.seen n).caller ≢ maker.given + 1
  none_of_new n low own = omega (arith, rests.given n low, own)

  pub new_safe_seat : (settings : Settings) (table : TableId) (lists : Lists) → maker.given < terms.callers → settings.clock ≡ terms.limit
      → SafeSeat lawful may terms record { table = table; number = maker.given + 1; view = first_view (maker.given + 1) settings (length maker.seen); seen = maker.seen; lists = lists }
  unfolding clock_at cause_at next_at HasBegun IsKept EndsByItself
  new_safe_seat settings table lists room limit = record {
    caller = (omega arith, omega (arith, room));
    own = refl;
    limit = limit;
    serial = omega arith;
    counted = refl;
    since = omega arith;
    clock = omega arith;
    known = record { prefix = omega arith; clock = omega arith };
    seen = rests.seen;
    entries = record {
      latest = λ n low own. absurd (none_of_new n low own);
      ascend = λ m n less low first second. absurd (none_of_new n low second);
      undecided = λ n low own kept none. absurd (none_of_new n low own);
    };
    attempt = record {
      opaque = λ begun kept. absurd kept;
      refused = tt;
      rolled = λ cause prefix ends. absurd (cc ends);
      read = λ prefix ends. absurd (cc ends);
      committed = λ stamp ends. absurd (cc ends);
    };
    within = tt;
    undisturbed = λ one. record { refused = tt; ending = tt };
  }
