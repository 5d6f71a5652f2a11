-- A cell of which nothing has changed, and how its owner holds it, stays safe.
use Rattle.std.proofs.Common.{◌≡◌, ℕ, ◌-◌, ◌<◌, ◌≤◌, ◌⊎◌, ◌≢◌, Bool, true, false, if◌then◌else◌, length, refl, sym, ap, ◌∙◌, arith, inl, inr, slice_index}
use Rattle.std.proofs.lemmas.Bool.{cases_eq, eq-eqb}
use Rattle.meta_word.specs.declared.meta.Meta.{Meta}
use Rattle.stm_model.specs.Attempt.{Attempt, holds, marks, stamp_of, unstored_at}
use Rattle.stm_model.specs.Heap.{writes_to}
use Rattle.stm_model.specs.History.{last}
use Rattle.stm_model.specs.Safe.{IsBeingWritten, HoldsNewest, SafeCell, stamp_on, value_then}
use Rattle.stm_model.specs.World.{Terms, World, attempt_of, cells_in}
use Rattle.stm_model.proofs.HistoryLemmas.{last_below}
use Rattle.opacity.proofs.Onward.{Continues, Onward}

-- Two attempts hold a cell alike.
pub record AlikeAt (cell : ℕ) (t u : Attempt) : Type 0 where
  pub held : holds t cell ≡ holds u cell
  pub marked : holds u cell ≡ true → marks t cell ≡ marks u cell
  pub unstored : holds u cell ≡ true → writes_to (unstored_at t.stage) cell ≡ writes_to (unstored_at u.stage) cell
  pub stamp : holds u cell ≡ true → stamp_of t ≡ stamp_of u

pub alike_refl : (cell : ℕ) (t : Attempt) → AlikeAt cell t t
alike_refl cell t = record { held = refl; marked = λ h. refl; unstored = λ h. refl; stamp = λ h. refl }

-- Nothing about a cell has changed.
pub record SameCell (terms : Terms) (w v : World) (cell : ℕ) : Type 0 where
  pub meta : v.meta cell ≡ w.meta cell
  pub value : v.value cell ≡ w.value cell
  pub last_now : last v.history (length v.history) cell ≡ last w.history (length w.history) cell
  pub value_now : value_then terms v (length v.history) cell ≡ value_then terms w (length w.history) cell
  pub held : (q : ℕ) → 0 < q → holds (attempt_of v q) cell ≡ holds (attempt_of w q) cell
  pub marked : marks (attempt_of v (w.meta cell).owner) cell ≡ marks (attempt_of w (w.meta cell).owner) cell
  pub unstored : writes_to (unstored_at (attempt_of v (w.meta cell).owner).stage) cell ≡ writes_to (unstored_at (attempt_of w (w.meta cell).owner).stage) cell
  pub stamp : stamp_of (attempt_of v (w.meta cell).owner) ≡ stamp_of (attempt_of w (w.meta cell).owner)

if_below : (b : Bool) (x y n : ℕ) → x ≤ n → y ≤ n → (if b then x else y) ≤ n
if_below true x y n low high = low
if_below false x y n low high = high

module _ (terms : Terms) (w v : World) (cell : ℕ) (same : SameCell terms w v cell) where
  stamp_kept : stamp_on v cell ≡ stamp_on w cell
  stamp_kept = rw same.meta same.stamp

  value_kept : Continues terms w v → (n : ℕ) → n ≤ length w.history → value_then terms v n cell ≡ value_then terms w n cell
  value_kept goes n low = ap (λ heap. slice_index heap cell) (goes.state n low)

  written_kept : Continues terms w v → SafeCell terms w cell → 0 < stamp_on w cell → IsBeingWritten terms v cell (stamp_on v cell)
  written_kept goes safe some =
      let is : IsBeingWritten terms w cell (stamp_on w cell) = safe.written some in
      let high : stamp_on w cell ≤ length w.history = omega (arith, is.newest, last_below w.history (length w.history) cell) in
      let low : stamp_on w cell - 1 ≤ length w.history = omega arith in
      rw stamp_kept (record {
        changing = rw same.meta is.changing;
        version = rw same.meta (is.version ∙ sym (goes.last (stamp_on w cell - 1) cell low));
        newest = same.last_now ∙ is.newest;
        value = rw (same.meta, same.unstored, same.value) (is.value ∙ sym (value_kept goes _
            (if_below (writes_to (unstored_at (attempt_of w (w.meta cell).owner).stage) cell) (stamp_on w cell - 1) (stamp_on w cell) (length w.history) low high)));
      })

  pub cell_same : Continues terms w v → SafeCell terms w cell → SafeCell terms v cell
  cell_same goes safe = record {
    owner = λ q above. rw (same.held q above, same.meta) (safe.owner q above);
    changing = rw same.meta (safe.changing ∙ sym same.marked);
    settled = λ none.
        let is : HoldsNewest terms w cell = safe.settled (sym stamp_kept ∙ none) in
        record { version = rw same.meta (is.version ∙ sym same.last_now); value = rw same.value (is.value ∙ sym same.value_now) };
    written = λ some. written_kept goes safe (omega (arith, some, stamp_kept));
  }

-- A cell moved on: it has no earlier version, at one version it keeps its pending bit, and it keeps a decided writer or has a later version.
pub record MovesOn (w v : World) (cell : ℕ) : Type 0 where
  pub version : (w.meta cell).version ≤ (v.meta cell).version
  pub pending : (w.meta cell).version ≡ (v.meta cell).version → (w.meta cell).pending ≡ true → (v.meta cell).pending ≡ true
  pub written : (stamp_on w cell ≡ 0) ⊎ (0 < stamp_on v cell) ⊎ ((w.meta cell).version < (v.meta cell).version)

still_written : (before now first second : ℕ) → 0 < before → (before ≡ 0) ⊎ (0 < now) ⊎ (first < second) → (0 < now) ⊎ (first < second)
still_written before now first second some cases = grind arith

same_moves_on : (terms : Terms) (w v : World) (cell : ℕ) → SameCell terms w v cell → MovesOn w v cell
same_moves_on terms w v cell same = record {
  version = omega (arith, ap (λ (meta : Meta). meta.version) same.meta);
  pending = λ at set. ap (λ (meta : Meta). meta.pending) same.meta ∙ set;
  written = elim (cases_eq (stamp_on w cell) 0) [
    | inl none ↦ inl none
    | inr some ↦ inr (inl (omega (arith, some, stamp_kept terms w v cell same)))
  ];
}

pub onward_of : (terms : Terms) (w v : World) → Continues terms w v → ((cell : ℕ) → cell < cells_in terms → SameCell terms w v cell ⊎ MovesOn w v cell) → Onward terms w v
onward_of terms w v goes each = record {
  goes = goes;
  version = λ cell within. (moves cell within).version;
  pending = λ cell within. (moves cell within).pending;
  written = λ cell within some. still_written (stamp_on w cell) (stamp_on v cell) _ _ some (moves cell within).written;
}
  where
    moves : (cell : ℕ) → cell < cells_in terms → MovesOn w v cell
    moves cell within = elim (each cell within) [
      | inl same ↦ same_moves_on terms w v cell same
      | inr on ↦ on
    ]

-- Where one caller's attempt alone changes, and holds the cell alike, and the cell's words stay, nothing about the cell changes.
module _ (terms : Terms) (w v : World) (p cell : ℕ) (safe : SafeCell terms w cell) (above : 0 < p)
    (others : (q : ℕ) → q ≢ p → attempt_of v q ≡ attempt_of w q) (alike : AlikeAt cell (attempt_of v p) (attempt_of w p)) where
  at_owner : (P : Attempt → Attempt → Type 0) → ((t : Attempt) → P t t) → (holds (attempt_of w p) cell ≡ true → P (attempt_of v p) (attempt_of w p))
      → P (attempt_of v (w.meta cell).owner) (attempt_of w (w.meta cell).owner)
  at_owner P same own = elim (cases_eq (w.meta cell).owner p) [
    | inl is ↦
        let holder : holds (attempt_of w p) cell ≡ true = safe.owner p above ∙ eq-eqb p (w.meta cell).owner (sym is) in
        rw is (own holder)
    | inr other ↦ rw (others (w.meta cell).owner other) (same (attempt_of w (w.meta cell).owner))
  ]

  pub same_of : v.meta cell ≡ w.meta cell → v.value cell ≡ w.value cell → last v.history (length v.history) cell ≡ last w.history (length w.history) cell
      → value_then terms v (length v.history) cell ≡ value_then terms w (length w.history) cell → SameCell terms w v cell
  same_of meta value last_now value_now = record {
    meta = meta;
    value = value;
    last_now = last_now;
    value_now = value_now;
    held = λ q from. elim (cases_eq q p) [ inl is ↦ rw is alike.held | inr other ↦ rw (others q other) ];
    marked = at_owner (λ t u. marks t cell ≡ marks u cell) (λ t. refl) alike.marked;
    unstored = at_owner (λ t u. writes_to (unstored_at t.stage) cell ≡ writes_to (unstored_at u.stage) cell) (λ t. refl) alike.unstored;
    stamp = at_owner (λ t u. stamp_of t ≡ stamp_of u) (λ t. refl) alike.stamp;
  }
