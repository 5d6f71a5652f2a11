-- The exchange of the clock that is won keeps the world safe, and the law of heaps.
use Rattle.std.proofs.Common.{◌≡◌, ◌≢◌, ℕ, suc, ◌-◌, ◌<◌, ◌≤◌, ◌⊎◌, ◌&&◌, not, true, false, Bool, Some, None, cond, if◌then◌else◌, List, [], ◌∷◌, ◌++◌, length, refl, sym, ap, ◌∙◌, arith, inl, inr, subst, slice_index}
use Rattle.std.specs.List.{All}
use Rattle.std.proofs.lemmas.Bool.{cases_Bool, cases_eq, cases_lt, eq-eqb}
use Rattle.std.proofs.lemmas.List.{length_push}
use Rattle.meta_word.specs.declared.status.Phase.TheVariants.{Preparing}
use Rattle.stm_model.specs.declared.ending.Ending.TheVariants.{Committed}
use Rattle.stm_model.specs.After.{at, store_on}
use Rattle.stm_model.specs.Attempt.{Attempt, Decide, Due, Stage, StoreValues, held_at, unmarked_at, holds, marks, stamp_of}
use Rattle.stm_model.specs.Heap.{over, writes_to}
use Rattle.stm_model.specs.History.{Entry, IsCurrent, IsLegal, entry_after, last, state}
use Rattle.stm_model.specs.Owes.{Owes}
use Rattle.stm_model.specs.Safe.{IsKept, EntriesAreCallers, EndingAt, EndsSo, HasBegun, HoldsNewest, KeepsLaw, PhaseAt, Safe, SafeAttempt, SafeCell, SafeStage, SafeStatus, SafeView, WasSampled, caller_at, serial_at, stamp_on, value_then, Sound}
use Rattle.stm_model.specs.World.{IsCaller, Terms, View, World, attempt_of, cells_in, entry_of, with_view}
use Rattle.stm_model.proofs.HeapLemmas.{over_other}
use Rattle.stm_model.proofs.HistoryLemmas.{IsLegal-push, entry_after-append, entry_after_push, last-append, last_push, state-append, state_push}
use Rattle.opacity.proofs.Cells.{AlikeAt, MovesOn, SameCell, cell_same, onward_of, same_of}
use Rattle.opacity.proofs.Ends.{clash}
use Rattle.opacity.proofs.Fits.{ending_is, phase_is, stage_is}
use Rattle.opacity.proofs.LawLemmas.{KeepsLaw-push}
use Rattle.opacity.proofs.Onward.{Continues, Onward, attempt_onward}
use Rattle.opacity.proofs.Places.{attempt_else, attempt_here, replaced_else, replaced_here}
use Rattle.opacity.proofs.Samples.{sampled_all}
use Rattle.opacity.proofs.Stands.{Follows, serial_from, serial_to}
use Rattle.opacity.proofs.Stores.{Stores, store_follows, store_safe, store_stores}
use Rattle.opacity.proofs.Touch.{owner_is}
use Rattle.opacity.proofs.Whole.{assemble}

module _ (lawful : List ℕ → Type 0) (may : List ℕ → List ℕ → Type 0) (terms : Terms) (w : World) (p : ℕ) (safe : Safe lawful may terms w) (caller : IsCaller terms p)
    (lost clock : ℕ) (due : List Due) (is : (attempt_of w p).stage ≡ Decide lost clock) (won : w.clock ≡ clock) (owes : Owes lawful may (cells_in terms) (attempt_of w p).notes (attempt_of w p).now.writes) where
  abbrev t : Attempt
  t = attempt_of w p

  -- the attempt, once it is decided
  abbrev certain : Attempt
  certain = record t { ending = Some (Committed (suc clock)); due = due }

  abbrev u : Attempt
  u = store_on certain t.now.writes

  abbrev x : View
  x = record (w.view p) { attempt = u; seen = suc clock }

  -- the world with the new entry, and then the caller's view
  abbrev longer : World
  longer = record w { clock = suc clock; history = w.history ++ entry_of t ∷ [] }

  abbrev after : World
  after = with_view longer p x

  own_after : attempt_of after p ≡ u
  own_after = attempt_here longer p x

  others_after : (q : ℕ) → q ≢ p → attempt_of after q ≡ attempt_of w q
  others_after q other = attempt_else longer p x q other

  view_after : after.view p ≡ x
  view_after = replaced_here w.view p x

  views_after : (q : ℕ) → q ≢ p → after.view q ≡ w.view q
  views_after q other = replaced_else w.view p x q other

  sampled : WasSampled w t clock [] × (clock < terms.limit)
  unfolding SafeStage
  sampled =
      let here : (0 < length t.now.writes) × WasSampled w t clock [] × (clock < terms.limit) = stage_is terms w p (Decide lost clock) (safe.attempts p caller) is in
      (here.1, here.2)

  undecided : t.ending ≡ None
  unfolding EndingAt
  undecided = ending_is terms w p (Decide lost clock) (safe.attempts p caller) is

  prepares : t.phase ≡ Preparing
  unfolding PhaseAt
  prepares = phase_is terms w p (Decide lost clock) (safe.attempts p caller) is

  at_end : clock ≡ length w.history
  at_end = sym won ∙ safe.clock

  grown : length after.history ≡ suc (length w.history)
  grown = length_push w.history (entry_of t) ∙ omega arith

  -- ---- the history

  goes : Continues terms w after
  goes = record {
    longer = omega (arith, grown);
    state = λ n low. state-append terms.opening w.history (entry_of t ∷ []) n low;
    last = λ n cell low. last-append w.history (entry_of t ∷ []) n cell low;
    entry = λ n low. entry_after-append w.history (entry_of t ∷ []) n low;
  }

  all_current : All (IsCurrent terms.opening w.history (length w.history)) t.notes
  all_current = rw at_end at (sampled_all w t clock terms.opening sampled.0 (safe.attempts p caller).sound.notes)

  legal_after : IsLegal terms.opening after.history
  legal_after = IsLegal-push terms.opening w.history (entry_of t) safe.legal (safe.attempts p caller).sound.entry all_current

  law_after : KeepsLaw lawful may terms.opening after.history
  law_after = KeepsLaw-push lawful may terms.opening w.history (entry_of t) safe.legal safe.law all_current owes

  abbrev heap : List ℕ
  heap = state terms.opening w.history (length w.history)

  state_new : state terms.opening after.history (suc (length w.history)) ≡ over heap t.now.writes
  state_new = state_push terms.opening w.history (entry_of t)

  state_old : (n : ℕ) → n ≤ length w.history → state terms.opening after.history n ≡ state terms.opening w.history n
  state_old n low = state-append terms.opening w.history (entry_of t ∷ []) n low

  -- ---- cells

  holds_writes : (cell : ℕ) → holds t cell ≡ writes_to t.now.writes cell
  unfolding held_at
  holds_writes cell = subst (λ (s : Stage). writes_to (held_at t.now.writes s) cell ≡ writes_to t.now.writes cell) (sym is) refl

  stores : (cell : ℕ) → Stores u certain t.now.writes cell
  stores cell = store_stores certain t.now.writes cell

  last_new : (cell : ℕ) → last after.history (length after.history) cell ≡ cond (writes_to t.now.writes cell) (suc (length w.history)) (last w.history (length w.history) cell)
  last_new cell = rw grown (last_push w.history (entry_of t) cell)

  alike_free : (cell : ℕ) → writes_to t.now.writes cell ≡ false → AlikeAt cell u t
  alike_free cell free =
      let none : holds t cell ≡ false = holds_writes cell ∙ free in
      record {
        held = (stores cell).held ∙ sym (holds_writes cell);
        marked = λ held. absurd (clash _ held none);
        unstored = λ held. absurd (clash _ held none);
        stamp = λ held. absurd (clash _ held none);
      }

  same_after : (cell : ℕ) → cell < cells_in terms → writes_to t.now.writes cell ≡ false → SameCell terms w after cell
  same_after cell within free =
      same_of terms w after p cell (safe.cells cell within) caller.0 others_after (rw own_after (alike_free cell free)) refl refl
      (last_new cell ∙ rw free refl)
      (rw grown (ap (λ (h : List ℕ). slice_index h cell) state_new ∙ over_other heap t.now.writes cell free))

  module _ (cell : ℕ) (within : cell < cells_in terms) (written : writes_to t.now.writes cell ≡ true) where
    mine : (w.meta cell).owner ≡ p
    mine = owner_is lawful may terms w safe p cell caller.0 within (holds_writes cell ∙ written)

    stamp_before : stamp_on w cell ≡ 0
    stamp_before = rw (mine, undecided) refl

    stamp_then : stamp_on after cell ≡ suc clock
    stamp_then = rw (mine, own_after) (stores cell).stamp

    marked_before : (w.meta cell).changing ≡ true
    unfolding held_at unmarked_at
    marked_before =
        let marked : marks t cell ≡ true = subst (λ (s : Stage). (writes_to (held_at t.now.writes s) cell && not (writes_to (unmarked_at t.phase t.now.writes s) cell)) ≡ true) (sym is) (rw written refl) in
        (safe.cells cell within).changing ∙ rw mine marked

    value_before : (n : ℕ) → n ≡ length w.history → w.value cell ≡ value_then terms after n cell
    value_before n here =
        let settled : HoldsNewest terms w cell = (safe.cells cell within).settled stamp_before in
        rw here (settled.value ∙ sym (ap (λ (h : List ℕ). slice_index h cell) (state_old (length w.history) (omega arith))))

    version_before : (n : ℕ) → n ≡ length w.history → (w.meta cell).version ≡ last after.history n cell
    version_before n here =
        let settled : HoldsNewest terms w cell = (safe.cells cell within).settled stamp_before in
        rw here (settled.version ∙ sym (last-append w.history (entry_of t ∷ []) (length w.history) cell (omega arith)))

    before : suc clock - 1 ≡ length w.history
    before = omega (arith, at_end)

    unstored_value : (b : Bool) → b ≡ true → (if b then suc clock - 1 else suc clock) ≡ length w.history
    unstored_value b same = rw same before

    cell_after : SafeCell terms after cell
    cell_after = record {
      owner = λ q above. elim (cases_eq q p) [
        | inl same ↦ rw (same, own_after, (stores cell).held, written, mine) (sym (eq-eqb p p refl))
        | inr other ↦ rw (others_after q other) ((safe.cells cell within).owner q above)
      ];
      changing = rw (mine, own_after, (stores cell).marked, written) marked_before;
      settled = λ none. absurd (never none);
      written = λ some. rw stamp_then (record {
        changing = marked_before;
        version = version_before (suc clock - 1) before;
        newest = last_new cell ∙ rw written (omega (arith, at_end));
        value = rw (mine, own_after) (value_before _ (unstored_value _ ((stores cell).unstored written ∙ written)));
      });
    }
      where
        never : stamp_on after cell ≡ 0 → ⊥
        never none = absurd (omega (arith, none, stamp_then))

    moves_after : MovesOn w after cell
    moves_after = record { version = omega arith; pending = λ same set. set; written = inl stamp_before }

  on : Onward terms w after
  on = onward_of terms w after goes (λ cell within. elim (cases_Bool (writes_to t.now.writes cell)) [
    | inl written ↦ inr (moves_after cell within written)
    | inr free ↦ inl (same_after cell within free)
  ])

  cells_after : (cell : ℕ) → cell < cells_in terms → SafeCell terms after cell
  cells_after cell within = elim (cases_Bool (writes_to t.now.writes cell)) [
    | inl written ↦ cell_after cell within written
    | inr free ↦ cell_same terms w after cell (same_after cell within free) goes (safe.cells cell within)
  ]

  -- ---- the caller

  owned_by : t.own ≡ p
  owned_by = (safe.attempts p caller).sound.own

  entry_new : entry_after after.history (length w.history) ≡ entry_of t
  entry_new = entry_after_push w.history (entry_of t) (length w.history) refl

  caller_new : caller_at after (length w.history) ≡ p
  caller_new = ap (λ (e : Entry). e.caller) entry_new ∙ owned_by

  serial_new : serial_at after (length w.history) ≡ t.serial
  serial_new = ap (λ (e : Entry). e.serial) entry_new

  caller_old : (n : ℕ) → n < length w.history → caller_at after n ≡ caller_at w n
  caller_old n low = ap (λ (e : Entry). e.caller) (goes.entry n low)

  serial_old : (n : ℕ) → n < length w.history → serial_at after n ≡ serial_at w n
  serial_old n low = ap (λ (e : Entry). e.serial) (goes.entry n low)

  -- an entry is an old one, or the new one
  entries : (n : ℕ) → n < length after.history → (n < length w.history) ⊎ (n ≡ length w.history)
  entries n within = elim (cases_lt n (length w.history)) [
    | inl less ↦ inl less
    | inr more ↦ inr (omega (arith, grown))
  ]

  begun_here : HasBegun t.stage
  unfolding HasBegun
  begun_here = subst (λ (s : Stage). HasBegun s) (sym is) tt

  kept_here : IsKept t.stage t.ending
  unfolding IsKept
  kept_here = subst (λ (s : Stage). IsKept s t.ending) (sym is) tt

  serial_word : t.serial ≡ (w.status p).serial
  serial_word = serial_from t.stage t.serial (w.status p).serial begun_here (safe.statuses p caller).serial

  follows : Follows (at certain (StoreValues (0, 0) [])) u
  follows = store_follows certain (0, 0) [] t.now.writes

  -- each old entry of the caller has a lower serial
  serial_low : (n : ℕ) → n < length w.history → caller_at w n ≡ p → serial_at w n < t.serial
  serial_low n low same = safe.callers.undecided n p low same kept_here (rw undecided refl)

  seen_rises : (q : ℕ) → (w.view q).seen ≤ (after.view q).seen
  seen_rises q = elim (cases_eq q p) [
    | inl same ↦ rw (same, view_after) (omega (arith, (safe.views p caller.1).seen, at_end))
    | inr other ↦ rw (views_after q other) (omega arith)
  ]

  seen_own : (after.view p).seen ≡ suc (length w.history)
  seen_own = rw view_after (omega (arith, at_end))

  number_after : (n : ℕ) → (n < length w.history) ⊎ (n ≡ length w.history) → IsCaller terms (caller_at after n)
  number_after n (inl less) = rw (caller_old n less) (safe.callers.callers n less)
  number_after n (inr here) = rw (here, caller_new) caller

  seen_after : (n : ℕ) → (n < length w.history) ⊎ (n ≡ length w.history) → n < (after.view (caller_at after n)).seen
  seen_after n (inl less) = rw (caller_old n less) (omega (arith, safe.callers.seen n less, seen_rises (caller_at w n)))
  seen_after n (inr here) = rw (here, caller_new) (omega (arith, seen_own))

  latest_after : (n : ℕ) → (n < length w.history) ⊎ (n ≡ length w.history) → serial_at after n ≤ (w.status (caller_at after n)).serial
  latest_after n (inl less) = rw (caller_old n less, serial_old n less) (safe.callers.latest n less)
  latest_after n (inr here) = rw (here, caller_new, serial_new) (omega (arith, serial_word))

  ascend_after : (m n : ℕ) → m < n → (n < length w.history) ⊎ (n ≡ length w.history) → caller_at after m ≡ caller_at after n → serial_at after m < serial_at after n
  ascend_after m n before (inl less) same =
      let low : m < length w.history = omega arith in
      let callers : caller_at w m ≡ caller_at w n = sym (caller_old m low) ∙ same ∙ caller_old n less in
      rw (serial_old m low, serial_old n less) (safe.callers.ascend m n before less callers)
  ascend_after m n before (inr here) same =
      let low : m < length w.history = omega arith in
      let own : caller_at w m ≡ p = sym (caller_old m low) ∙ same ∙ ap (λ (k : ℕ). caller_at after k) here ∙ caller_new in
      rw (here, serial_new, serial_old m low) (serial_low m low own)

  undecided_after : (n q : ℕ) → (n < length w.history) ⊎ (n ≡ length w.history) → caller_at after n ≡ q → IsKept (attempt_of after q).stage (attempt_of after q).ending → stamp_of (attempt_of after q) ≡ 0 → (q ≡ p) ⊎ (q ≢ p)
      → serial_at after n < (attempt_of after q).serial
  undecided_after n q entry same flies none (inl own) =
      let stamp : stamp_of (attempt_of after q) ≡ suc clock = rw (own, own_after) (stores 0).stamp in
      absurd (omega (arith, stamp, none))
  undecided_after n q (inl less) same flies none (inr other) =
      let callers : caller_at w n ≡ q = sym (caller_old n less) ∙ same in
      rw (serial_old n less, others_after q other) (safe.callers.undecided n q less callers (rw (others_after q other) at flies) (rw (others_after q other) at none))
  undecided_after n q (inr here) same flies none (inr other) =
      let own : q ≡ p = sym same ∙ ap (λ (k : ℕ). caller_at after k) here ∙ caller_new in
      absurd (other own)

  callers_after : EntriesAreCallers terms after
  callers_after = record {
    callers = λ n within. number_after n (entries n within);
    seen = λ n within. seen_after n (entries n within);
    ascend = λ m n before within same. ascend_after m n before (entries n within) same;
    latest = λ n within. latest_after n (entries n within);
    undecided = λ n q within same flies none. undecided_after n q (entries n within) same flies none (cases_eq q p);
  }

  own_safe : SafeAttempt terms after p u
  unfolding EndingAt EndsSo
  own_safe =
      let lifted : SafeAttempt terms after p t = attempt_onward terms w after on p t (safe.attempts p caller) in
      let sound : Sound terms after p certain = lifted.sound in
      let before : suc clock - 1 ≡ length w.history = omega (arith, at_end) in
      store_safe terms after p certain (0, 0) [] t.now.writes sound prepares tt
      (omega arith, omega (arith, grown, at_end), rw before entry_new) ([], refl)

  view_safe : SafeView after x
  view_safe =
      let old = safe.views p caller.1 in
      record {
        seen = omega (arith, grown, at_end);
        since = omega (arith, old.since, old.seen, at_end);
        clock = omega (arith, old.clock, grown);
        fresh = λ begun flies.
            let low : (w.view p).since ≤ t.prefix = old.fresh begun_here kept_here in
            omega (arith, low, follows.prefix);
      }

  status_safe : SafeStatus u (w.status p)
  status_safe = record {
    serial = serial_to u.stage u.serial (w.status p).serial follows.begun (follows.serial ∙ serial_word);
    phase = rw follows.phase (safe.statuses p caller).phase;
  }

  pub decided_safe : Safe lawful may terms after
  decided_safe =
      assemble lawful may terms w after p safe caller on views_after (λ q other. inl refl)
      (omega (arith, grown, at_end)) (omega (arith, sampled.1)) legal_after law_after callers_after cells_after
      (rw own_after own_safe) (rw view_after view_safe) (rw own_after status_safe)
