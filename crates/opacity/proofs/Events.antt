-- What a caller does that has no attempt in flight keeps the world safe.
use Rattle.std.proofs.Common.{◌≡◌, ◌≢◌, ℕ, ◌<◌, ◌≤◌, ◌⊎◌, ◌++◌, true, List, [], ◌∷◌, length, refl, sym, ap, ◌∙◌, arith, inl, inr}
use Rattle.std.proofs.lemmas.Bool.{cases_eq}
use Rattle.meta_word.specs.declared.meta.Meta.{Meta}
use Rattle.stm_model.specs.Attempt.{Attempt, holds, marks, stamp_of, unstored_at}
use Rattle.stm_model.specs.Heap.{writes_to}
use Rattle.stm_model.specs.Safe.{EntriesAreCallers, IsBeingWritten, HoldsNewest, Safe, SafeCell, SafeView, caller_at, stamp_on}
use Rattle.stm_model.specs.World.{IsCaller, Terms, View, World, attempt_of, cells_in, words_after, look, replaced, wait, with_view}
use Rattle.opacity.specs.Effects.{learn}
use Rattle.opacity.proofs.Cells.{MovesOn, SameCell, cell_same, onward_of}
use Rattle.opacity.proofs.Onward.{Continues, Onward, attempt_onward, continues_same}
use Rattle.opacity.proofs.Places.{attempt_else, attempt_here, replaced_else, replaced_here}
use Rattle.opacity.proofs.Whole.{view_onward}

module _ (lawful : List ℕ → Type 0) (may : List ℕ → List ℕ → Type 0) (terms : Terms) (w : World) (meta : ℕ → Meta) (p : ℕ) (x : View) (safe : Safe lawful may terms w)
    (attempt : x.attempt ≡ attempt_of w p) (view : SafeView w x) (seen : (w.view p).seen ≤ x.seen) where
  abbrev after : World
  after = with_view (record w { meta = meta }) p x

  attempts_same : (q : ℕ) → attempt_of after q ≡ attempt_of w q
  attempts_same q = elim (cases_eq q p) [
    | inl is ↦ rw (is, attempt_here (record w { meta = meta }) p x) attempt
    | inr other ↦ attempt_else (record w { meta = meta }) p x q other
  ]

  view_here : after.view p ≡ x
  view_here = replaced_here w.view p x

  view_else : (q : ℕ) → q ≢ p → after.view q ≡ w.view q
  view_else q other = replaced_else w.view p x q other

  goes : Continues terms w after
  goes = continues_same terms w after refl

  same_attempts : (cell : ℕ) → meta cell ≡ w.meta cell → SameCell terms w after cell
  same_attempts cell same = record {
    meta = same;
    value = refl;
    last_now = refl;
    value_now = refl;
    held = λ q above. ap (λ (t : Attempt). holds t cell) (attempts_same q);
    marked = ap (λ (t : Attempt). marks t cell) (attempts_same (w.meta cell).owner);
    unstored = ap (λ (t : Attempt). writes_to (unstored_at t.stage) cell) (attempts_same (w.meta cell).owner);
    stamp = ap (λ (t : Attempt). stamp_of t) (attempts_same (w.meta cell).owner);
  }

  seen_rises : (q : ℕ) → (w.view q).seen ≤ (after.view q).seen
  seen_rises q = elim (cases_eq q p) [
    | inl is ↦ rw (is, view_here) seen
    | inr other ↦ rw (view_else q other) (omega arith)
  ]

  callers_after : EntriesAreCallers terms after
  callers_after = record {
    callers = safe.callers.callers;
    seen = λ n within. omega (arith, safe.callers.seen n within, seen_rises (caller_at w n));
    ascend = safe.callers.ascend;
    latest = safe.callers.latest;
    undecided = λ n q within is. rw (attempts_same q) (safe.callers.undecided n q within is);
  }

  -- Each cell stays the same or moves on.
  calm_safe : ((cell : ℕ) → cell < cells_in terms → SameCell terms w after cell ⊎ (MovesOn w after cell × SafeCell terms after cell)) → Safe lawful may terms after
  calm_safe each = record {
    fits = safe.fits;
    clock = safe.clock;
    limit = safe.limit;
    legal = safe.legal;
    law = record { each = safe.law.each; next = safe.law.next };
    callers = callers_after;
    cells = cells;
    attempts = λ q is. rw (attempts_same q) (attempt_onward terms w after on q (attempt_of w q) (safe.attempts q is));
    views = λ q is. elim (cases_eq q p) [
      | inl own ↦ rw (own, view_here) (view_onward terms w after x goes view)
      | inr other ↦ rw (view_else q other) (view_onward terms w after (w.view q) goes (safe.views q is))
    ];
    statuses = λ q is. rw (attempts_same q) (safe.statuses q is);
    nobody = λ q none.
        let is = safe.nobody q none in
        record { stage = ap (λ (t : Attempt). t.stage) (attempts_same q) ∙ is.stage; stamp = ap (λ (t : Attempt). stamp_of t) (attempts_same q) ∙ is.stamp; empty = is.empty };
  }
    where
      moves : (cell : ℕ) → cell < cells_in terms → SameCell terms w after cell ⊎ MovesOn w after cell
      moves cell within = elim (each cell within) [ inl same ↦ inl same | inr on ↦ inr on.0 ]

      on : Onward terms w after
      on = onward_of terms w after goes moves

      cells : (cell : ℕ) → cell < cells_in terms → SafeCell terms after cell
      cells cell within = elim (each cell within) [
        | inl same ↦ cell_same terms w after cell same goes (safe.cells cell within)
        | inr on ↦ on.1
      ]

module _ (lawful : List ℕ → Type 0) (may : List ℕ → List ℕ → Type 0) (terms : Terms) (w : World) (p : ℕ) (safe : Safe lawful may terms w) where
  module _ (low : p ≤ terms.callers) where
    abbrev looks : View
    looks = record (w.view p) { seen = w.clock }

    looks_safe : SafeView w looks
    looks_safe = let old = safe.views p low in record { seen = omega (arith, safe.clock); since = omega (arith, old.since, old.seen, safe.clock); clock = old.clock; fresh = old.fresh }

    sees_more : (w.view p).seen ≤ looks.seen
    sees_more = omega (arith, (safe.views p low).seen, safe.clock)

    pub look_safe : Safe lawful may terms (look w p)
    look_safe = calm_safe lawful may terms w w.meta p looks safe refl looks_safe sees_more (λ cell within. inl (same_attempts lawful may terms w w.meta p looks safe refl looks_safe sees_more cell refl))

  module _ (low : p ≤ terms.callers) (n : ℕ) (more : (w.view p).seen ≤ n) (there : n ≤ length w.history) where
    abbrev learned : View
    learned = record (w.view p) { seen = n }

    learned_safe : SafeView w learned
    learned_safe = let old = safe.views p low in record { seen = there; since = omega (arith, old.since, more); clock = old.clock; fresh = old.fresh }

    pub learn_safe : Safe lawful may terms (learn w p n)
    learn_safe = calm_safe lawful may terms w w.meta p learned safe refl learned_safe more (λ cell within. inl (same_attempts lawful may terms w w.meta p learned safe refl learned_safe more cell refl))

  module _ (caller : IsCaller terms p) (cell : ℕ) (within : cell < cells_in terms) where
    abbrev meta : Meta
    meta = record (w.meta cell) { pending = true }

    abbrev x : View
    x = record (w.view p) { waits = (w.view p).waits ++ (cell, w.meta cell) ∷ [] }

    abbrev waiting : World
    waiting = with_view (record w { meta = replaced w.meta cell meta }) p x

    view_safe : SafeView w x
    view_safe = let old = safe.views p caller.1 in record { seen = old.seen; since = old.since; clock = old.clock; fresh = old.fresh }

    same : (q : ℕ) → attempt_of waiting q ≡ attempt_of w q
    same q = attempts_same lawful may terms w (replaced w.meta cell meta) p x safe refl view_safe (omega arith) q

    meta_here : waiting.meta cell ≡ meta
    meta_here = replaced_here w.meta cell meta

    stamp_stays : stamp_on waiting cell ≡ stamp_on w cell
    stamp_stays = rw (meta_here, same (w.meta cell).owner) refl

    cell_waiting : SafeCell terms waiting cell
    cell_waiting =
        let old = safe.cells cell within in
        record {
          owner = λ q above. rw (same q, meta_here) (old.owner q above);
          changing = rw (meta_here, same (w.meta cell).owner) old.changing;
          settled = λ none. let is : HoldsNewest terms w cell = old.settled (sym stamp_stays ∙ none) in record { version = rw meta_here is.version; value = is.value };
          written = λ some.
              let is : IsBeingWritten terms w cell (stamp_on w cell) = old.written (omega (arith, some, stamp_stays)) in
              rw stamp_stays (record { changing = rw meta_here is.changing; version = rw meta_here is.version; newest = is.newest; value = rw (meta_here, same (w.meta cell).owner) is.value });
        }

    moves : MovesOn w waiting cell
    moves = record { version = rw meta_here (omega arith); pending = λ at set. rw meta_here refl; written = by_stamp (cases_eq (stamp_on w cell) 0) }
      where
        by_stamp : (stamp_on w cell ≡ 0) ⊎ (stamp_on w cell ≢ 0) → (stamp_on w cell ≡ 0) ⊎ (0 < stamp_on waiting cell) ⊎ ((w.meta cell).version < (waiting.meta cell).version)
        by_stamp (inl none) = inl none
        by_stamp (inr some) = inr (inl (omega (arith, some, stamp_stays)))

    pub wait_safe : Safe lawful may terms (wait w p cell)
    unfolding words_after
    wait_safe =
        calm_safe lawful may terms w (replaced w.meta cell meta) p x safe refl view_safe (omega arith)
        (λ b inside. elim (cases_eq b cell) [
          | inl is ↦ inr (rw is (moves, cell_waiting))
          | inr other ↦ inl (same_attempts lawful may terms w (replaced w.meta cell meta) p x safe refl view_safe (omega arith) b (replaced_else w.meta cell meta b other))
        ])
