-- A step of a caller's attempt, and its wait, as accesses of its seat.
use Rattle.std.proofs.Common.{◌≡◌, ◌≢◌, ℕ, suc, ◌+◌, ◌*◌, ◌<◌, ◌≤◌, List, [], ◌∷◌, ◌++◌, length, get_or, take, Option, Some, None, refl, sym, ap, subst, ◌∙◌, inl, inr, ⊎_elim, arith, length-append, append-nil}
use Rattle.std.proofs.lemmas.Bool.{cases_lt, eq-eqb}
use mathlib.Core.Option.{some}
use mathlib.Core.List.{IsPrefix}
use lib.ListN.{get_elem?}
use Rattle.meta_word.specs.Meta.{meta_of}
use Rattle.stm_model.specs.Accesses.{Act, ClearOwner, ExchangeClock, ExchangeMeta, LoadClock, LoadMeta, SetChanging, SetPending, SwapMeta, access_of, next, word_of}
use Rattle.stm_model.specs.After.{after_word}
use Rattle.stm_model.specs.Attempt.{Announce, Attempt, Ended, Stage}
use Rattle.stm_model.specs.History.{Entry, entry_after}
use Rattle.stm_model.specs.Moves.{MayAll, moved_on}
use Rattle.stm_model.specs.Owes.{Owes}
use Rattle.stm_model.specs.Safe.{Safe}
use Rattle.stm_model.specs.World.{IsCaller, MayHappen, MeetsOwed, Steps, Terms, View, Waits, World, cells_in, clock_after, entry_of, found, happened, place_of, replaced, seen_after, since_at, step, view_after, wait, words_after, world_of}
use Rattle.stm_model.specs.declared.access.Access.{Access}
use Rattle.stm_model.specs.declared.access.Access.TheVariants.{SetBits}
use Rattle.stm_model.specs.declared.access.Word.TheVariants.{Meta as MetaOf}
use Rattle.stm_model.specs.declared.settings.Settings.{Settings}
use Rattle.stm_model.proofs.HistoryLemmas.{entry_after_push}
use Rattle.opacity.specs.Alone.{IsAlone, LeavesAlone}
use Rattle.opacity.specs.Known.{IsKnown}
use Rattle.opacity.specs.Plain.{IsTableStep, IsUndecided, ShowsSafe}
use Rattle.opacity.specs.Words.{BringsWords, IsOfTable, IsTable, table_after, word_found}
use Rattle.opacity.proofs.KnownEvents.{event_known, moved_known}
use Rattle.opacity.proofs.LoneRuns.{event_alone, moved_alone}
use Rattle.opacity.proofs.Places.{replaced_else, replaced_here}
use Rattle.opacity.proofs.PlainSteps.{act_plain}
use Rattle.opacity.proofs.Runs.{moves_safe}
use Rattle.opacity.proofs.TableStep.{table_step}
use Rattle.opacity.proofs.TableSteps.{table_stays}
use Rattle.opacity.proofs.Touch.{owner_low}
use Rattle.atomic_table.specs.Seated.{TableId}
use Rattle.atomic_table.specs.Table.{Me, keeps}
use Rattle.ref_table.specs.Keyed.{AllowsAccess, Tells}
use Rattle.ref_table.specs.Knowledge.{Caller, Knowledge}
use Rattle.ref_table.specs.Performs.{FoundFits, IsNewEntry, IsNextOf, IsWait, MayPerform, announced, clock_then, seen_then}
use Rattle.ref_table.specs.Rule.{IsCallerSeat, Keeps, IsSafeTable}
use Rattle.ref_table.proofs.Clocks.{clock_low}
use Rattle.ref_table.proofs.Keeping.{IsAfter, Sees, caller, fits, now, seat, sees, take_prefix}
use Rattle.ref_table.proofs.Beginnings.{prefix_length, prefix_self}
use Rattle.ref_table.proofs.SafeSeats.{entry_then}
use Rattle.ref_table.proofs.Stored.{Acts, acts_of, same_word}

-- ---- what was found

-- What is found in a safe world fits.
fits_found : (lawful : List ℕ → Type 0) (may : List ℕ → List ℕ → Type 0) (terms : Terms) (words : List ℕ) (history : List Entry) (view : ℕ → View) (act : Act)
    → Safe lawful may terms (world_of terms words history view) → IsOfTable terms (word_of (access_of act)) → FoundFits terms (word_of (access_of act)) (announced (access_of act) (word_found terms words (access_of act)))
unfolding world_of FoundFits announced access_of word_of place_of IsOfTable
fits_found lawful may terms words history view LoadClock safe within = safe.limit
fits_found lawful may terms words history view (ExchangeClock old) safe within = safe.limit
fits_found lawful may terms words history view (LoadMeta cell) safe within = owner_low lawful may terms (world_of terms words history view) safe cell within
fits_found lawful may terms words history view (ExchangeMeta cell old new) safe within = owner_low lawful may terms (world_of terms words history view) safe cell within
fits_found lawful may terms words history view (SetChanging cell) safe within = owner_low lawful may terms (world_of terms words history view) safe cell within
fits_found lawful may terms words history view (SetPending cell) safe within = owner_low lawful may terms (world_of terms words history view) safe cell within
fits_found lawful may terms words history view (ClearOwner cell) safe within = owner_low lawful may terms (world_of terms words history view) safe cell within
fits_found lawful may terms words history view (SwapMeta cell new) safe within = owner_low lawful may terms (world_of terms words history view) safe cell within
fits_found lawful may terms words history view act safe within = tt

pub found_fits : (lawful : List ℕ → Type 0) (may : List ℕ → List ℕ → Type 0) (terms : Terms) (words : List ℕ) (history : List Entry) (view : ℕ → View) (act : Act) (access : Access) → access ≡ access_of act
    → Safe lawful may terms (world_of terms words history view) → IsOfTable terms (word_of (access_of act)) → FoundFits terms (word_of access) (announced access (word_found terms words access))
found_fits lawful may terms words history view act access made safe within =
    subst (λ (y : Access). FoundFits terms (word_of y) (announced y (word_found terms words y))) (sym made) (fits_found lawful may terms words history view act safe within)

-- ---- what the view is then

seen_found : (terms : Terms) (words : List ℕ) (history : List Entry) (views : ℕ → View) (view : View) (act : Act)
    → seen_after (world_of terms words history views) view act ≡ seen_then (Some act) (announced (access_of act) (word_found terms words (access_of act))) view.seen
unfolding seen_after seen_then announced access_of word_of place_of world_of
seen_found terms words history views view LoadClock = refl
seen_found terms words history views view (ExchangeClock old) = refl
seen_found terms words history views view act = refl

clock_found : (terms : Terms) (words : List ℕ) (history : List Entry) (views : ℕ → View) (view : View) (act : Act)
    → clock_after (world_of terms words history views) view act ≡ clock_then (Some act) (announced (access_of act) (word_found terms words (access_of act))) view.clock
unfolding clock_after clock_then announced access_of word_of place_of world_of
clock_found terms words history views view LoadClock = refl
clock_found terms words history views view act = refl

since_same : (view : View) (t : Attempt) (stage : Stage) → since_at (record view { attempt = t }) stage ≡ since_at view stage
unfolding since_at
since_same view t Announce = refl
since_same view t stage = refl

-- what an exchange of the clock finds
exchange_found : (terms : Terms) (words : List ℕ) (old : ℕ) → announced (access_of (ExchangeClock old)) (word_found terms words (access_of (ExchangeClock old))) ≡ get_or words 0 0
unfolding announced access_of word_of place_of
exchange_found terms words old = refl

-- who wins it has seen one entry more
won_seen : (old found before : ℕ) → found ≡ old → seen_then (Some (ExchangeClock old)) found before ≡ suc old
unfolding seen_then
won_seen old found before same = rw (eq-eqb found old same) refl

one_act : (one other : Act) → Some one ≡ Some other → one ≡ other
one_act one other is = cc

-- ---- a step of an attempt

module _ (lawful : List ℕ → Type 0) (may : List ℕ → List ℕ → Type 0) (terms : Terms) (settings : Settings) (words : List ℕ) (seats : List Knowledge) (k : IsSafeTable lawful may terms settings words seats)
    (id p : ℕ) (before : Knowledge) (is : before.whose ≡ Caller p) (here : get_elem? seats id ≡ some before)
    (shown : Attempt) (access : Access) (asks : IsNextOf lawful may terms before.view access shown) (brings : BringsWords access) where
  pub acts : Acts (next shown) access
  acts = acts_of (next shown) access asks.is_next

  own : IsCallerSeat k.who k.place k.given id p before.view before.seen
  own = seat lawful may terms settings words seats k id p before is here

  low : IsCaller terms p
  low = caller lawful may terms settings words seats k id p before is here

  -- what the caller knows, with the shown attempt
  abbrev mine : View
  mine = record before.view { attempt = shown }

  -- the views after the local moves
  abbrev who_moved : ℕ → View
  who_moved = replaced k.who p (record (k.who p) { attempt = moved_on (k.who p).attempt asks.comes.moves })

  able : MayAll (cells_in terms) terms.limit (k.who p).attempt asks.comes.moves
  able = subst (λ (v : View). MayAll (cells_in terms) terms.limit v.attempt asks.comes.moves) (sym own.shows) asks.comes.may

  moved_here : who_moved p ≡ mine
  moved_here =
      replaced_here k.who p (record (k.who p) { attempt = moved_on (k.who p).attempt asks.comes.moves })
      ∙ (ap (λ (v : View). record v { attempt = moved_on v.attempt asks.comes.moves }) own.shows ∙ ap (λ (t : Attempt). record before.view { attempt = t }) asks.comes.reach)

  safe_moved : Safe lawful may terms (world_of terms words k.history who_moved)
  unfolding world_of
  safe_moved = moves_safe lawful may terms asks.comes.moves (world_of terms words k.history k.who) p low able k.safe

  known_moved : IsKnown (who_moved p)
  unfolding world_of
  known_moved =
      let known : IsKnown (k.who p) = subst IsKnown (sym own.shows) own.known in
      moved_known (world_of terms words k.history k.who) p asks.comes.moves p known known

  abbrev w : World
  w = world_of terms words k.history who_moved

  meets : MeetsOwed lawful may terms w (Steps p)
  unfolding MeetsOwed world_of
  meets = λ wins.
      let same : next shown ≡ Some (ExchangeClock (get_or words 0 0)) = ap (λ (v : View). next v.attempt) (sym moved_here) ∙ wins in
      subst (λ (t : Attempt). Owes lawful may (cells_in terms) t.notes t.now.writes) (sym (ap (λ (v : View). v.attempt) moved_here)) (asks.owes (get_or words 0 0) same)

  is_next : next (who_moved p).attempt ≡ Some acts.act
  is_next = ap (λ (v : View). next v.attempt) moved_here ∙ acts.is_next

  abbrev pub after : World
  after = step w p

  pub steps : IsTableStep lawful may terms words k.history who_moved p acts.act after
  steps = table_step lawful may terms words k.history who_moved p acts.act safe_moved k.table low is_next (subst BringsWords acts.made brings) meets

  shown_then : after ≡ world_of terms (table_after terms words access) after.history after.view
  shown_then = steps.shows.shows ∙ ap (λ (y : Access). world_of terms (table_after terms words y) after.history after.view) (sym acts.made)

  known_then : IsKnown (after.view p)
  unfolding happened MayHappen world_of
  known_then = event_known lawful may terms w safe_moved (Steps p) p low known_moved

  grows : IsPrefix k.history after.history
  grows = ⊎_elim (λ e. ([], append-nil k.history ∙ sym e)) (λ e. (entry_of (who_moved p).attempt ∷ [], sym e.1)) steps.entries

  alone_stays : IsAlone (world_of terms words k.history k.who) p → IsAlone after p
  unfolding happened MayHappen LeavesAlone world_of
  alone_stays start =
      let moved : IsAlone w p = moved_alone (world_of terms words k.history k.who) p (cells_in terms) terms.limit asks.comes.moves able start in
      event_alone lawful may terms w p safe_moved low moved (Steps p) refl low

  alone_then : terms.callers ≡ 1 → IsAlone (world_of terms (table_after terms words access) after.history after.view) 1
  alone_then one =
      let only : p ≡ 1 = omega (arith, one, low.0, low.1) in
      let start : IsAlone (world_of terms words k.history k.who) p = subst (λ (q : ℕ). IsAlone (world_of terms words k.history k.who) q) (sym only) (k.alone one) in
      subst (λ (q : ℕ). IsAlone (world_of terms (table_after terms words access) after.history after.view) q) only
      (subst (λ (v : World). IsAlone v p) shown_then (alone_stays start))

  mine_low_seen : mine.seen ≤ w.clock
  unfolding world_of
  mine_low_seen =
      let same : (k.who p).seen ≡ before.view.seen = ap (λ (v : View). v.seen) own.shows in
      omega (arith, same, (k.safe.views p low.1).seen, k.safe.clock)

  clock_then_low : (after.view p).clock ≤ (after.view p).seen
  clock_then_low = subst (λ (v : View). v.clock ≤ v.seen) (sym (steps.own ∙ ap (λ (v : View). view_after w v acts.act) moved_here)) (clock_low w mine acts.act mine_low_seen own.clock)

  moved_seen : (who_moved p).seen ≡ before.view.seen
  moved_seen = ap (λ (v : View). v.seen) moved_here

  -- The table after the access shows the world after the step.
  pub step_after : IsAfter lawful may terms k.history k.who p (table_after terms words access) after.history after.view
  step_after = record {
    safe = subst (Safe lawful may terms) shown_then steps.shows.safe;
    table = subst (λ (y : Access). IsTable terms (table_after terms words y)) (sym acts.made) steps.table;
    grows = grows;
    others = λ q other. steps.others q other ∙ replaced_else k.who p (record (k.who p) { attempt = moved_on (k.who p).attempt asks.comes.moves }) q other;
    more = let own_seen : (k.who p).seen ≡ before.view.seen = ap (λ (v : View). v.seen) own.shows in omega (arith, own_seen, moved_seen, steps.seen);
    clock = clock_then_low;
    known = known_then;
    alone = alone_then;
  }

  pub saw : Sees lawful may terms settings seats id p before.seen (table_after terms words access) after.history (after.view p)
  saw = sees lawful may terms settings words seats k id p before is here (table_after terms words access) after.history after.view step_after

  -- ---- the view then

  -- what is announced
  abbrev pub told : ℕ
  told = announced access (word_found terms words access)

  told_act : told ≡ announced (access_of acts.act) (word_found terms words (access_of acts.act))
  told_act = ap (λ (y : Access). announced y (word_found terms words y)) acts.made

  view_here : after.view p ≡ view_after w mine acts.act
  view_here = steps.own ∙ ap (λ (v : View). view_after w v acts.act) moved_here

  attempt_then : (after.view p).attempt ≡ after_word shown told
  attempt_then =
      steps.attempt
      ∙ (ap (λ (v : View). after_word v.attempt (word_found terms words (access_of acts.act))) moved_here
      ∙ (same_word shown acts.act (word_found terms words (access_of acts.act)) acts.is_next ∙ ap (λ (n : ℕ). after_word shown n) (sym told_act)))

  seen_is : (after.view p).seen ≡ seen_then (next shown) told before.view.seen
  seen_is =
      ap (λ (v : View). v.seen) view_here
      ∙ (seen_found terms words k.history who_moved mine acts.act
      ∙ (ap (λ (n : ℕ). seen_then (Some acts.act) n before.view.seen) (sym told_act) ∙ ap (λ (this : Option Act). seen_then this told before.view.seen) (sym acts.is_next)))

  since_is : (after.view p).since ≡ since_at before.view shown.stage
  since_is = ap (λ (v : View). v.since) view_here ∙ since_same before.view shown shown.stage

  clock_is : (after.view p).clock ≡ clock_then (next shown) told before.view.clock
  clock_is =
      ap (λ (v : View). v.clock) view_here
      ∙ (clock_found terms words k.history who_moved mine acts.act
      ∙ (ap (λ (n : ℕ). clock_then (Some acts.act) n before.view.clock) (sym told_act) ∙ ap (λ (this : Option Act). clock_then this told before.view.clock) (sym acts.is_next)))

  waits_is : (after.view p).waits ≡ before.view.waits
  waits_is = ap (λ (v : View). v.waits) view_here

  pub view_is : after.view p ≡ record before.view {
    attempt = after_word shown told;
    seen = seen_then (next shown) told before.view.seen;
    since = since_at before.view shown.stage;
    clock = clock_then (next shown) told before.view.clock;
  }
  view_is = λ i. record { attempt = attempt_then i; seen = seen_is i; since = since_is i; clock = clock_is i; waits = waits_is i }

  -- ---- the entries that are seen then

  abbrev pub after_seen : List Entry
  after_seen = take (after.view p).seen after.history

  high : length after_seen ≤ length after.history
  high = prefix_length after_seen after.history saw.first

  entry_seen : (n : ℕ) → n < length after_seen → entry_after after_seen n ≡ entry_after after.history n
  entry_seen n within = entry_then after_seen after.history n saw.first within

  -- an old entry that wasn't seen is another's
  old_entry : (n : ℕ) → length before.seen ≤ n → n < length k.history → (entry_after k.history n).caller ≢ p
  unfolding world_of
  old_entry n new within own_entry =
      let its : n < (k.who (entry_after k.history n).caller).seen = k.safe.callers.seen n within in
      let mine_too : n < (k.who p).seen = subst (λ (q : ℕ). n < (k.who q).seen) own_entry its in
      let same : (k.who p).seen ≡ before.view.seen = ap (λ (v : View). v.seen) own.shows in
      omega (arith, new, mine_too, same, own.counted)

  old_then : (n : ℕ) → length before.seen ≤ n → n < length after_seen → n < length k.history → (entry_after after_seen n).caller ≢ p
  old_then n new within old own_entry =
      let same : entry_after after_seen n ≡ entry_after k.history n = entry_seen n within ∙ sym (entry_then k.history after.history n grows old) in
      old_entry n new old (sym (ap (λ (e : Entry). e.caller) same) ∙ own_entry)

  clock_counts : get_or words 0 0 ≡ length k.history
  unfolding world_of
  clock_counts = k.safe.clock

  -- the entry that the exchange leaves
  last_entry : (n : ℕ) → n < length after_seen → n ≡ length k.history → after.history ≡ k.history ++ entry_of (who_moved p).attempt ∷ [] → entry_after after_seen n ≡ entry_of shown
  last_entry n within last won =
      entry_seen n within
      ∙ (ap (λ (h : List Entry). entry_after h n) won
      ∙ (entry_after_push k.history (entry_of (who_moved p).attempt) n (sym last) ∙ ap (λ (v : View). entry_of v.attempt) moved_here))

  new_entry : (n : ℕ) → n < length after_seen → length k.history ≤ n → (acts.act ≡ ExchangeClock (get_or words 0 0)) × (after.history ≡ k.history ++ entry_of (who_moved p).attempt ∷ []) → IsNewEntry p shown told after_seen n
  new_entry n within past won =
      let long : length after.history ≡ length k.history + 1 = ap length won.1 ∙ length-append k.history (entry_of (who_moved p).attempt ∷ []) in
      let last : n ≡ length k.history = omega (arith, within, high, long, past) in
      let clock : get_or words 0 0 ≡ n = clock_counts ∙ sym last in
      let this : next shown ≡ Some (ExchangeClock n) = acts.is_next ∙ (ap (λ (act : Act). Some act) won.0 ∙ ap (λ (m : ℕ). Some (ExchangeClock m)) clock) in
      let finds : told ≡ get_or words 0 0 = told_act ∙ (ap (λ (act : Act). announced (access_of act) (word_found terms words (access_of act))) won.0 ∙ exchange_found terms words (get_or words 0 0)) in
      inr (this, finds ∙ clock, last_entry n within last won.1)

  pub fresh_then : (n : ℕ) → length before.seen ≤ n → n < length after_seen → IsNewEntry p shown told after_seen n
  fresh_then n new within = elim (cases_lt n (length k.history)) [
    | inl old ↦ inl (old_then n new within old)
    | inr past ↦ elim steps.entries [
      | inl same ↦ let long : length after.history ≡ length k.history = ap length same in absurd (omega (arith, within, high, long, past))
      | inr won ↦ new_entry n within past won
    ]
  ]

  pub wins_then : (old : ℕ) → next shown ≡ Some (ExchangeClock old) → told ≡ old → entry_after after_seen old ≡ entry_of shown
  wins_then old exchanges finds =
      let act : acts.act ≡ ExchangeClock old = one_act acts.act (ExchangeClock old) (sym acts.is_next ∙ exchanges) in
      let found : told ≡ get_or words 0 0 = told_act ∙ (ap (λ (act : Act). announced (access_of act) (word_found terms words (access_of act))) act ∙ exchange_found terms words old) in
      let last : old ≡ length k.history = sym finds ∙ (found ∙ clock_counts) in
      let more : (after.view p).seen ≡ suc old = seen_is ∙ (ap (λ (this : Option Act). seen_then this told before.view.seen) exchanges ∙ won_seen old told before.view.seen finds) in
      let count : length after_seen ≡ (after.view p).seen = saw.counted in
      let within : old < length after_seen = omega (arith, count, more) in
      elim steps.entries [
        | inl same ↦ let long : length after.history ≡ length k.history = ap length same in absurd (omega (arith, within, high, long, last))
        | inr won ↦ last_entry old within last won.1
      ]

  -- ---- all that it tells

  pub step_tells : (table : TableId) → Tells lawful may terms table p access (Some shown) told before (now p (after.view p) after.history)
  step_tells table = record {
    whose = refl;
    fits = found_fits lawful may terms words k.history who_moved acts.act access acts.made safe_moved steps.word;
    steps = λ lists. record {
      words = words;
      history = k.history;
      view = who_moved;
      later = after;
      table = k.table;
      safe = safe_moved;
      had = (fits lawful may terms settings words seats k id p before is here).seen;
      knew = moved_here;
      answers = refl;
      comes = refl;
      shows = shown_then;
      stays_safe = steps.shows.safe;
      has = saw.first;
      knows = refl;
    };
    performs = λ lists. record {
      view = view_is;
      grows = saw.grows;
      fresh = fresh_then;
      wins = wins_then;
    };
    safe_seat = λ lists. saw.safe_seat table lists;
  }

-- ---- a wait

-- the cell that a wait is for
cell_in : Access → ℕ
cell_in (SetBits (MetaOf addr) mask) = addr.0
cell_in access = 0

one_cell : (cell other : ℕ) → access_of (SetPending cell) ≡ access_of (SetPending other) → cell ≡ other
unfolding access_of cell_in
one_cell cell other is = ap cell_in is

module _ (lawful : List ℕ → Type 0) (may : List ℕ → List ℕ → Type 0) (terms : Terms) (settings : Settings) (words : List ℕ) (seats : List Knowledge) (k : IsSafeTable lawful may terms settings words seats)
    (id p : ℕ) (before : Knowledge) (is : before.whose ≡ Caller p) (here : get_elem? seats id ≡ some before)
    (access : Access) (asks : IsWait terms before.view access) (brings : BringsWords access) where
  mine_own : IsCallerSeat k.who k.place k.given id p before.view before.seen
  mine_own = seat lawful may terms settings words seats k id p before is here

  mine_low : IsCaller terms p
  mine_low = caller lawful may terms settings words seats k id p before is here

  at_rest : (k.who p).attempt.stage ≡ Ended
  at_rest = ap (λ (v : View). v.attempt.stage) mine_own.shows ∙ asks.at_rest

  abbrev start : World
  start = world_of terms words k.history k.who

  abbrev pub waited : World
  waited = wait start p asks.cell

  not_clock : IsUndecided access
  unfolding IsUndecided access_of
  not_clock = subst IsUndecided (sym asks.sets) tt

  wait_shows : ShowsSafe lawful may terms (table_after terms words access) k.history waited
  wait_shows = (act_plain lawful may terms words k.history k.who p k.safe k.table mine_low access brings not_clock).wait asks.cell at_rest asks.in_range asks.sets

  -- what the caller knows then
  abbrev pub view_waited : View
  view_waited = record (k.who p) { waits = (k.who p).waits ++ (asks.cell, meta_of (get_or words (terms.callers + 1 + 2 * asks.cell) 0)) ∷ [] }

  waited_here : waited.view p ≡ view_waited
  unfolding words_after world_of
  waited_here = replaced_here k.who p view_waited

  waited_else : (q : ℕ) → q ≢ p → waited.view q ≡ k.who q
  unfolding words_after world_of
  waited_else q other = replaced_else k.who p view_waited q other

  waited_history : waited.history ≡ k.history
  unfolding words_after world_of
  waited_history = refl

  known_waited : IsKnown (waited.view p)
  known_waited =
      let known : IsKnown (k.who p) = subst IsKnown (sym mine_own.shows) mine_own.known in
      subst IsKnown (sym waited_here) record { prefix = known.prefix; clock = known.clock }

  alone_waits : IsAlone start p → IsAlone waited p
  unfolding happened MayHappen LeavesAlone world_of
  alone_waits was = event_alone lawful may terms start p k.safe mine_low was (Waits p asks.cell) refl (mine_low, at_rest, asks.in_range)

  alone_waited : terms.callers ≡ 1 → IsAlone (world_of terms (table_after terms words access) k.history waited.view) 1
  alone_waited one =
      let only : p ≡ 1 = omega (arith, one, mine_low.0, mine_low.1) in
      let was : IsAlone start p = subst (λ (q : ℕ). IsAlone start q) (sym only) (k.alone one) in
      subst (λ (q : ℕ). IsAlone (world_of terms (table_after terms words access) k.history waited.view) q) only
      (subst (λ (v : World). IsAlone v p) wait_shows.shows (alone_waits was))

  pub wait_after : IsAfter lawful may terms k.history k.who p (table_after terms words access) k.history waited.view
  wait_after = record {
    safe = subst (Safe lawful may terms) wait_shows.shows wait_shows.safe;
    table = table_stays terms words access k.table brings;
    grows = prefix_self k.history;
    others = waited_else;
    more = let same : (waited.view p).seen ≡ (k.who p).seen = ap (λ (v : View). v.seen) waited_here in omega (arith, same);
    clock = subst (λ (v : View). v.clock ≤ v.seen) (sym waited_here) (subst (λ (v : View). v.clock ≤ v.seen) (sym mine_own.shows) mine_own.clock);
    known = known_waited;
    alone = alone_waited;
  }

  pub waits_saw : Sees lawful may terms settings seats id p before.seen (table_after terms words access) k.history (waited.view p)
  waits_saw = sees lawful may terms settings words seats k id p before is here (table_after terms words access) k.history waited.view wait_after

  found_pending : (cell : ℕ) → announced (access_of (SetPending cell)) (word_found terms words (access_of (SetPending cell))) ≡ get_or words (terms.callers + 1 + 2 * cell) 0
  unfolding announced access_of word_of place_of
  found_pending cell = refl

  abbrev pub heard : ℕ
  heard = announced access (word_found terms words access)

  heard_is : heard ≡ get_or words (terms.callers + 1 + 2 * asks.cell) 0
  heard_is = ap (λ (y : Access). announced y (word_found terms words y)) asks.sets ∙ found_pending asks.cell

  wait_view : waited.view p ≡ record before.view { waits = before.view.waits ++ (asks.cell, meta_of heard) ∷ [] }
  wait_view =
      waited_here
      ∙ (ap (λ (v : View). record v { waits = v.waits ++ (asks.cell, meta_of (get_or words (terms.callers + 1 + 2 * asks.cell) 0)) ∷ [] }) mine_own.shows
      ∙ ap (λ (n : ℕ). record before.view { waits = before.view.waits ++ (asks.cell, meta_of n) ∷ [] }) (sym heard_is))

  waited_seen : take (waited.view p).seen k.history ≡ before.seen
  waited_seen =
      let count : (waited.view p).seen ≡ length before.seen = ap (λ (v : View). v.seen) waited_here ∙ (ap (λ (v : View). v.seen) mine_own.shows ∙ sym mine_own.counted) in
      ap (λ (n : ℕ). take n k.history) count ∙ take_prefix before.seen k.history (fits lawful may terms settings words seats k id p before is here).seen

  range : IsOfTable terms (word_of (access_of (SetPending asks.cell)))
  unfolding IsOfTable word_of access_of
  range = asks.in_range

  pub wait_tells : (table : TableId) → Tells lawful may terms table p access None heard before (now p (waited.view p) k.history)
  wait_tells table = record {
    whose = refl;
    fits = found_fits lawful may terms words k.history k.who (SetPending asks.cell) access asks.sets k.safe range;
    steps = λ lists. record {
      words = words;
      history = k.history;
      view = k.who;
      later = waited;
      table = k.table;
      safe = k.safe;
      had = (fits lawful may terms settings words seats k id p before is here).seen;
      knew = mine_own.shows;
      answers = refl;
      comes = (asks.cell, asks.sets, refl);
      shows = wait_shows.shows ∙ ap (λ (history : List Entry). world_of terms (table_after terms words access) history waited.view) (sym waited_history);
      stays_safe = wait_shows.safe;
      has = subst (IsPrefix (now p (waited.view p) k.history).seen) (sym waited_history) waits_saw.first;
      knows = refl;
    };
    performs = λ lists cell sets. (
      wait_view ∙ ap (λ (c : ℕ). record before.view { waits = before.view.waits ++ (c, meta_of heard) ∷ [] }) (one_cell asks.cell cell (sym asks.sets ∙ sets)),
      waited_seen,
    );
    safe_seat = λ lists. waits_saw.safe_seat table lists;
  }

-- ---- as the table asks for it

-- The access keeps the rule and tells what it makes of the seat.
pub allows : (lawful : List ℕ → Type 0) (may : List ℕ → List ℕ → Type 0) (terms : Terms) (settings : Settings) (table : TableId) (id p : ℕ) (me : Me Unit Knowledge) (access : Access) (shown : Option Attempt) → me.0.whose ≡ Caller p
    → MayPerform lawful may terms me.0.view access shown → BringsWords access → AllowsAccess (Keeps lawful may terms settings) terms.callers id me access (Tells lawful may terms table p access shown)
allows lawful may terms settings table id p me access None is asks brings s k _ here _ =
    let world : World = waited lawful may terms settings s.words s.views k id p me.0 is here access asks brings in (
      now p (world.view p) k.history,
      keeps,
      tt,
      (waits_saw lawful may terms settings s.words s.views k id p me.0 is here access asks brings).shows,
      (wait_tells lawful may terms settings s.words s.views k id p me.0 is here access asks brings table, refl),
    )
allows lawful may terms settings table id p me access (Some shown) is asks brings s k _ here _ =
    let world : World = after lawful may terms settings s.words s.views k id p me.0 is here shown access asks brings in (
      now p (world.view p) world.history,
      keeps,
      tt,
      (saw lawful may terms settings s.words s.views k id p me.0 is here shown access asks brings).shows,
      (step_tells lawful may terms settings s.words s.views k id p me.0 is here shown access asks brings table, refl),
    )
