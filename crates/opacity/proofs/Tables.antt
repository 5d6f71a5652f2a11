-- A word that is put into a table shows as one part of the world that is replaced.
use Rattle.std.proofs.Common.{◌≡◌, ◌≢◌, ℕ, ◌+◌, ◌*◌, ◌<◌, ◌≤◌, List, length, get_or, set, ◌||◌, if◌then◌else◌, nat_eq, nat_lt, refl, ap, arith, inl, inr}
use Rattle.std.proofs.lemmas.Bool.{cases_eq, cases_lt}
use Rattle.std.proofs.lemmas.Bool.Decides.{nat_tests}
use Rattle.std.proofs.lemmas.List.{get_or-set_other, get_or-set_same}
use Rattle.meta_word.specs.Meta.{meta_of}
use Rattle.meta_word.specs.Status.{status_of}
use Rattle.meta_word.specs.declared.status.Phase.TheVariants.{Idle}
use Rattle.meta_word.specs.declared.status.TxnStatus.{TxnStatus}
use Rattle.stm_model.specs.History.{Entry}
use Rattle.stm_model.specs.World.{IsCaller, Terms, View, World, cells_in, replaced, with_meta, with_status, world_of, words_in}
use Rattle.opacity.proofs.Places.{replaced_else, replaced_here}

-- the status that the words show
abbrev pub status_in : Terms → List ℕ → ℕ → TxnStatus
status_in terms words p =
    if nat_eq p 0 || nat_lt terms.callers p then record { serial = 0; phase = Idle } else status_of (get_or words p 0)

pub status_own : (terms : Terms) (words : List ℕ) (p : ℕ) → IsCaller terms p → status_in terms words p ≡ status_of (get_or words p 0)
status_own terms words p caller = let low = caller.0 in let high = caller.1 in grind (arith, nat_tests)

module _ (terms : Terms) (words : List ℕ) (history : List Entry) (view : ℕ → View) (size : length words ≡ words_in terms) where
  abbrev shown : List ℕ → World
  shown ws = world_of terms ws history view

  abbrev meta_place : ℕ → ℕ
  meta_place cell = terms.callers + 1 + 2 * cell

  abbrev value_place : ℕ → ℕ
  value_place cell = terms.callers + 2 + 2 * cell

  other : (place x k : ℕ) → k ≢ place → get_or (set words place x) k 0 ≡ get_or words k 0
  other place x k apart = get_or-set_other words place k x 0 apart

  same : (place x : ℕ) → place < words_in terms → get_or (set words place x) place 0 ≡ x
  same place x within = get_or-set_same words place x 0 (omega (arith, within, size))

  status_else : (place x p : ℕ) → (p ≢ 0 → p ≤ terms.callers → p ≢ place) → status_in terms (set words place x) p ≡ status_in terms words p
  status_else place x p apart = elim (cases_eq p 0) [
    | inl zero ↦ rw zero refl
    | inr some ↦ elim (cases_lt terms.callers p) [
      | inl past ↦ grind (arith, nat_tests)
      | inr within ↦ rw (other place x p (apart some within)) refl
    ]
  ]

  status_here : (q x p : ℕ) → IsCaller terms q → status_in terms (set words q x) p ≡ replaced (status_in terms words) q (status_of x) p
  status_here q x p caller = elim (cases_eq p q) [
    | inl here ↦ rw (here, replaced_here (status_in terms words) q (status_of x), status_own terms (set words q x) q caller, same q x (omega (arith, caller.1))) refl
    | inr apart ↦ rw (replaced_else (status_in terms words) q (status_of x) p apart) (status_else q x p (λ some within. apart))
  ]

  meta_here : (a x b : ℕ) → a < cells_in terms → meta_of (get_or (set words (meta_place a) x) (meta_place b) 0) ≡ replaced (λ cell. meta_of (get_or words (meta_place cell) 0)) a (meta_of x) b
  meta_here a x b within = elim (cases_eq b a) [
    | inl here ↦ rw (here, replaced_here (λ cell. meta_of (get_or words (meta_place cell) 0)) a (meta_of x), same (meta_place a) x (omega (arith, within))) refl
    | inr apart ↦
        let places : meta_place b ≢ meta_place a = λ e. apart (omega arith) in
        rw (replaced_else (λ cell. meta_of (get_or words (meta_place cell) 0)) a (meta_of x) b apart, other (meta_place a) x (meta_place b) places) refl
  ]

  value_here : (a x b : ℕ) → a < cells_in terms → get_or (set words (value_place a) x) (value_place b) 0 ≡ replaced (λ cell. get_or words (value_place cell) 0) a x b
  value_here a x b within = elim (cases_eq b a) [
    | inl here ↦ rw (here, replaced_here (λ cell. get_or words (value_place cell) 0) a x, same (value_place a) x (omega (arith, within))) refl
    | inr apart ↦
        let places : value_place b ≢ value_place a = λ e. apart (omega arith) in
        rw (replaced_else (λ cell. get_or words (value_place cell) 0) a x b apart, other (value_place a) x (value_place b) places) refl
  ]

  pub set_clock : (x : ℕ) → shown (set words 0 x) ≡ record (shown words) { clock = x }
  unfolding world_of
  set_clock x = λ i. record {
    clock = same 0 x (omega arith) i;
    status = λ p. status_else 0 x p (λ some within. some) i;
    meta = λ cell. ap meta_of (other 0 x (meta_place cell) (omega arith)) i;
    value = λ cell. other 0 x (value_place cell) (omega arith) i;
    history = history;
    view = view;
  }

  pub set_status : (q x : ℕ) → IsCaller terms q → shown (set words q x) ≡ with_status (shown words) q (status_of x)
  unfolding world_of
  set_status q x caller = λ i. record {
    clock = other q x 0 (omega (arith, caller.0)) i;
    status = λ p. status_here q x p caller i;
    meta = λ cell. ap meta_of (other q x (meta_place cell) (omega (arith, caller.1))) i;
    value = λ cell. other q x (value_place cell) (omega (arith, caller.1)) i;
    history = history;
    view = view;
  }

  pub set_meta : (a x : ℕ) → a < cells_in terms → shown (set words (meta_place a) x) ≡ with_meta (shown words) a (meta_of x)
  unfolding world_of
  set_meta a x within = λ i. record {
    clock = other (meta_place a) x 0 (omega arith) i;
    status = λ p. status_else (meta_place a) x p (λ some low. omega (arith, low)) i;
    meta = λ cell. meta_here a x cell within i;
    value = λ cell. other (meta_place a) x (value_place cell) (omega arith) i;
    history = history;
    view = view;
  }

  pub set_value : (a x : ℕ) → a < cells_in terms → shown (set words (value_place a) x) ≡ record (shown words) { value = replaced (shown words).value a x }
  unfolding world_of
  set_value a x within = λ i. record {
    clock = other (value_place a) x 0 (omega arith) i;
    status = λ p. status_else (value_place a) x p (λ some low. omega (arith, low)) i;
    meta = λ cell. ap meta_of (other (value_place a) x (meta_place cell) (omega arith)) i;
    value = λ cell. value_here a x cell within i;
    history = history;
    view = view;
  }
