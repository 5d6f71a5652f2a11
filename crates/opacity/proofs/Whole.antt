-- What makes the world safe again after an event of one caller.
use Rattle.std.proofs.Common.{◌≡◌, ℕ, ◌<◌, ◌≤◌, ◌⊎◌, ◌≢◌, List, length, refl, sym, ap, ◌∙◌, arith, inl, inr}
use Rattle.std.proofs.lemmas.Bool.{cases_eq}
use Rattle.meta_word.specs.declared.meta.Meta.{Meta}
use Rattle.meta_word.specs.declared.status.Phase.TheVariants.{Active, Idle}
use Rattle.meta_word.specs.declared.status.TxnStatus.{TxnStatus}
use Rattle.stm_model.specs.Accesses.{doomed}
use Rattle.stm_model.specs.Attempt.{Attempt, stamp_of}
use Rattle.stm_model.specs.History.{IsLegal}
use Rattle.stm_model.specs.Safe.{IsKept, EntriesAreCallers, IsNobody, KeepsLaw, Safe, SafeAttempt, SafeCell, SafeStatus, SafeView, caller_at, serial_at}
use Rattle.stm_model.specs.World.{IsCaller, Terms, View, World, attempt_of, cells_in, with_view}
use Rattle.opacity.proofs.Cells.{MovesOn, SameCell, cell_same, onward_of}
use Rattle.opacity.proofs.Onward.{Continues, Onward, attempt_onward, continues_same}
use Rattle.opacity.proofs.Places.{attempt_else, attempt_here, replaced_else, replaced_here}

-- A status word stays, or its attempt was active and is doomed.
abbrev pub KeepsWord : TxnStatus → TxnStatus → Type 0
KeepsWord old new = (new ≡ old) ⊎ ((old.phase ≡ Active) × (new ≡ doomed old))

was_active : (t : Attempt) (old : TxnStatus) → SafeStatus t old → old.phase ≡ Active → t.phase ≡ Active
was_active t old safe active = elim safe.phase [
  | inl same ↦ sym same ∙ active
  | inr is ↦ is.0
]

status_kept : (t : Attempt) (old new : TxnStatus) → KeepsWord old new → SafeStatus t old → SafeStatus t new
status_kept t old new (inl same) safe = rw same safe
status_kept t old new (inr is) safe = rw is.1 (record { serial = safe.serial; phase = inr (was_active t old safe is.0, refl) })

nobody_kept : (view : View) (old new : TxnStatus) → KeepsWord old new → IsNobody view old → IsNobody view new
nobody_kept view old new (inl same) is = rw same is
nobody_kept view old new (inr active) is =
    let idle : old.phase ≡ Idle = ap (λ (word : TxnStatus). word.phase) is.empty in
    let clash : Active ≡ Idle = sym active.0 ∙ idle in
    cc

serial_kept : (old new : TxnStatus) → KeepsWord old new → old.serial ≤ new.serial
serial_kept old new (inl same) = rw same (omega arith)
serial_kept old new (inr is) = rw is.1 (omega arith)

pub view_onward : (terms : Terms) (w v : World) (view : View) → Continues terms w v → SafeView w view → SafeView v view
view_onward terms w v view goes safe = record {
  seen = omega (arith, safe.seen, goes.longer);
  since = safe.since;
  clock = omega (arith, safe.clock, goes.longer);
  fresh = safe.fresh;
}

module _ (lawful : List ℕ → Type 0) (may : List ℕ → List ℕ → Type 0) (terms : Terms) (w v : World) (p : ℕ) (safe : Safe lawful may terms w) (caller : IsCaller terms p) where
  pub assemble : Onward terms w v → ((q : ℕ) → q ≢ p → v.view q ≡ w.view q) → ((q : ℕ) → q ≢ p → KeepsWord (w.status q) (v.status q))
      → v.clock ≡ length v.history → v.clock ≤ terms.limit → IsLegal terms.opening v.history → KeepsLaw lawful may terms.opening v.history → EntriesAreCallers terms v
      → ((cell : ℕ) → cell < cells_in terms → SafeCell terms v cell) → SafeAttempt terms v p (attempt_of v p) → SafeView v (v.view p) → SafeStatus (attempt_of v p) (v.status p)
      → Safe lawful may terms v
  assemble on views words clock limit legal law callers cells attempt view status = record {
    fits = safe.fits;
    clock = clock;
    limit = limit;
    legal = legal;
    law = law;
    callers = callers;
    cells = cells;
    attempts = λ q is. elim (cases_eq q p) [
      | inl own ↦ rw own attempt
      | inr other ↦ rw (attempts q other) (attempt_onward terms w v on q (attempt_of w q) (safe.attempts q is))
    ];
    views = λ q is. elim (cases_eq q p) [
      | inl own ↦ rw own view
      | inr other ↦ rw (views q other) (view_onward terms w v (w.view q) on.goes (safe.views q is))
    ];
    statuses = λ q is. elim (cases_eq q p) [
      | inl own ↦ rw own status
      | inr other ↦ rw (attempts q other) (status_kept (attempt_of w q) (w.status q) (v.status q) (words q other) (safe.statuses q is))
    ];
    nobody = λ q none.
        let other : q ≢ p = λ same. elim none [ inl zero ↦ omega (arith, caller.0) | inr past ↦ omega (arith, caller.1) ] in
        rw (views q other) (nobody_kept (w.view q) (w.status q) (v.status q) (words q other) (safe.nobody q none));
  }
    where
      attempts : (q : ℕ) → q ≢ p → attempt_of v q ≡ attempt_of w q
      attempts q other = ap (λ (view : View). view.attempt) (views q other)

-- what becomes of a world where the clock and the history stay, and one caller's view becomes this one
abbrev pub quiet : World → (ℕ → Meta) → (ℕ → ℕ) → (ℕ → TxnStatus) → ℕ → View → World
quiet w meta value status p view = with_view (record w { meta = meta; value = value; status = status }) p view

-- The caller's view is safe in the world as it was, its seen entries and its serial rise, and it has no entry where it is undecided.
pub record OwnSafe (terms : Terms) (w : World) (p : ℕ) (x : View) (word : TxnStatus) : Type 0 where
  pub attempt : SafeAttempt terms w p x.attempt
  pub view : SafeView w x
  pub status : SafeStatus x.attempt word
  pub seen : (w.view p).seen ≤ x.seen
  pub serial : (w.status p).serial ≤ word.serial
  pub undecided : (n : ℕ) → n < length w.history → caller_at w n ≡ p → IsKept x.attempt.stage x.attempt.ending → stamp_of x.attempt ≡ 0 → serial_at w n < x.attempt.serial

module _ (lawful : List ℕ → Type 0) (may : List ℕ → List ℕ → Type 0) (terms : Terms) (w : World) (meta : ℕ → Meta) (value : ℕ → ℕ) (status : ℕ → TxnStatus) (p : ℕ) (view : View)
    (safe : Safe lawful may terms w) (caller : IsCaller terms p) where
  abbrev then : World
  then = quiet w meta value status p view

  view_here : then.view p ≡ view
  view_here = replaced_here w.view p view

  view_else : (q : ℕ) → q ≢ p → then.view q ≡ w.view q
  view_else q other = replaced_else w.view p view q other

  pub own_here : attempt_of then p ≡ view.attempt
  own_here = attempt_here (record w { meta = meta; value = value; status = status }) p view

  pub others_else : (q : ℕ) → q ≢ p → attempt_of then q ≡ attempt_of w q
  others_else q other = attempt_else (record w { meta = meta; value = value; status = status }) p view q other

  seen_rises : OwnSafe terms w p view (status p) → (q : ℕ) → (w.view q).seen ≤ (then.view q).seen
  seen_rises own q = elim (cases_eq q p) [
    | inl is ↦ rw (is, view_here) own.seen
    | inr other ↦ rw (view_else q other) (omega arith)
  ]

  serial_rises : OwnSafe terms w p view (status p) → ((q : ℕ) → q ≢ p → KeepsWord (w.status q) (status q)) → (q : ℕ) → (w.status q).serial ≤ (status q).serial
  serial_rises own words q = elim (cases_eq q p) [
    | inl is ↦ rw is own.serial
    | inr other ↦ serial_kept (w.status q) (status q) (words q other)
  ]

  callers_then : OwnSafe terms w p view (status p) → ((q : ℕ) → q ≢ p → KeepsWord (w.status q) (status q)) → EntriesAreCallers terms then
  callers_then own words = record {
    callers = safe.callers.callers;
    seen = λ n within. omega (arith, safe.callers.seen n within, seen_rises own (caller_at w n));
    ascend = safe.callers.ascend;
    latest = λ n within. omega (arith, safe.callers.latest n within, serial_rises own words (caller_at w n));
    undecided = λ n q within is. elim (cases_eq q p) [
      | inl same ↦ rw (same, own_here) (own.undecided n within (is ∙ same))
      | inr other ↦ rw (others_else q other) (safe.callers.undecided n q within is)
    ];
  }

  safe_quiet : Onward terms w then → ((q : ℕ) → q ≢ p → KeepsWord (w.status q) (status q)) → ((cell : ℕ) → cell < cells_in terms → SafeCell terms then cell)
      → OwnSafe terms w p view (status p) → Safe lawful may terms then
  safe_quiet on words cells own =
      assemble lawful may terms w then p safe caller on view_else words safe.clock safe.limit safe.legal
      (record { each = safe.law.each; next = safe.law.next }) (callers_then own words) cells
      (rw own_here (attempt_onward terms w then on p view.attempt own.attempt))
      (rw view_here (view_onward terms w then view (continues_same terms w then refl) own.view))
      (rw own_here own.status)

  -- where each cell stays the same or moves on
  pub safe_moved : ((cell : ℕ) → cell < cells_in terms → SameCell terms w then cell ⊎ (MovesOn w then cell × SafeCell terms then cell))
      → ((q : ℕ) → q ≢ p → KeepsWord (w.status q) (status q)) → OwnSafe terms w p view (status p) → Safe lawful may terms then
  safe_moved each words own = safe_quiet (onward_of terms w then goes on) words cells own
    where
      goes : Continues terms w then
      goes = continues_same terms w then refl

      on : (cell : ℕ) → cell < cells_in terms → SameCell terms w then cell ⊎ MovesOn w then cell
      on cell within = elim (each cell within) [ inl same ↦ inl same | inr moves ↦ inr moves.0 ]

      cells : (cell : ℕ) → cell < cells_in terms → SafeCell terms then cell
      cells cell within = elim (each cell within) [
        | inl same ↦ cell_same terms w then cell same goes (safe.cells cell within)
        | inr moves ↦ moves.1
      ]
