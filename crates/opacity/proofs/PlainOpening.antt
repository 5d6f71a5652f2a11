-- The words with which a table opens show the world as it opens.
use Rattle.std.proofs.Common.{◌≡◌, ℕ, ◌+◌, ◌*◌, ◌<◌, ◌^◌, ◌||◌, Bool, true, false, if◌then◌else◌, nat_eq, nat_lt, List, [], length, get_or, set, replicate, refl, sym, ap, ◌∙◌, arith, inl, inr}
use Rattle.std.proofs.lemmas.Bool.{cases_eq, cases_lt}
use Rattle.std.proofs.lemmas.Bool.Decides.{nat_tests}
use Rattle.std.proofs.lemmas.List.{get_or-replicate, get_or-set_other, get_or-set_same, get_or_past, length-replicate, length-set}
use Rattle.std.proofs.lemmas.Grind.{get_or_default_zero}
use Rattle.stm_model.specs.Heap.{AreWords}
use Rattle.std.proofs.lemmas.List.Elements.{All-replicate, All-set}
use Rattle.meta_word.specs.Meta.{meta_of}
use Rattle.meta_word.specs.Status.{status_of}
use Rattle.meta_word.specs.declared.status.Phase.TheVariants.{Idle}
use Rattle.meta_word.specs.declared.status.TxnStatus.{TxnStatus}
use Rattle.stm_model.specs.World.{Terms, opened, unwritten, world_of}
use Rattle.stm_model.specs.declared.settings.Settings.{Settings}
use Rattle.opacity.specs.Plain.{OpensTo, terms_of}
use Rattle.opacity.proofs.Tables.{status_in}

pub all_words : (heap : List ℕ) → ((cell : ℕ) → get_or heap cell 0 < 2 ^ 64) → AreWords heap
all_words heap each = λ k d within. rw (get_or_default_zero heap k d within) (each k)

zero_at : (n k : ℕ) → (let zeros : List ℕ = replicate n 0 in get_or zeros k 0 ≡ 0)
zero_at n k = let zero : ℕ = 0 in elim (cases_lt k n) [
  | inl within ↦ get_or-replicate n k zero 0 within
  | inr past ↦ get_or_past (replicate n 0) k 0 (omega (arith, past, length-replicate n zero))
]

pub opens_empty : (opening : List ℕ) (callers : ℕ) → OpensTo opening callers 0 (replicate (callers + 1 + 2 * length opening) 0)
opens_empty opening callers = record {
  size = length-replicate (callers + 1 + 2 * length opening) 0;
  each = All-replicate (λ (number : ℕ). number < 2 ^ 64) (callers + 1 + 2 * length opening) 0 (omega arith);
  front = λ place within. zero_at (callers + 1 + 2 * length opening) place;
  metas = λ cell. zero_at (callers + 1 + 2 * length opening) (callers + 1 + 2 * cell);
  values = λ cell within. absurd (omega (arith, within));
}

pub opens_more : (opening : List ℕ) (callers count : ℕ) (words : List ℕ) → OpensTo opening callers count words → count < length opening → get_or opening count 0 < 2 ^ 64
    → OpensTo opening callers (count + 1) (set words (callers + 2 + 2 * count) (get_or opening count 0))
opens_more opening callers count words opens within word =
    let place : ℕ = callers + 2 + 2 * count in
    let value : ℕ = get_or opening count 0 in
    let room : callers + 2 + 2 * count < length words = omega (arith, within, opens.size) in
    record {
      size = length-set words place value ∙ opens.size;
      each = All-set (λ (number : ℕ). number < 2 ^ 64) words place value word opens.each;
      front = λ at low. get_or-set_other words place at value 0 (λ same. absurd (omega (arith, low, same))) ∙ opens.front at low;
      metas = λ cell. get_or-set_other words place (callers + 1 + 2 * cell) value 0 (λ same. absurd (omega (arith, same))) ∙ opens.metas cell;
      values = λ cell low. elim (cases_eq cell count) [
        | inl here ↦ rw here (get_or-set_same words place value 0 room)
        | inr apart ↦ get_or-set_other words place (callers + 2 + 2 * cell) value 0 (λ same. apart (omega (arith, same))) ∙ opens.values cell (omega (arith, low, apart))
      ];
    }

either : (b : Bool) (x y : TxnStatus) → y ≡ x → (if b then x else y) ≡ x
either true x y same = refl
either false x y same = same

status_empty : status_of 0 ≡ record { serial = 0; phase = Idle }
unfolding status_of
status_empty = refl

meta_empty : meta_of 0 ≡ unwritten
unfolding meta_of
meta_empty = refl

module _ (opening : List ℕ) (callers limit : ℕ) (words : List ℕ) (opens : OpensTo opening callers (length opening) words) (settings : Settings) where
  abbrev terms : Terms
  terms = terms_of opening callers limit

  status_at : (p : ℕ) → status_in terms words p ≡ record { serial = 0; phase = Idle }
  status_at p = elim (cases_lt callers p) [
    | inl past ↦ grind (arith, nat_tests)
    | inr within ↦ either (nat_eq p 0 || nat_lt callers p) (record { serial = 0; phase = Idle }) (status_of (get_or words p 0)) (ap status_of (opens.front p within) ∙ status_empty)
  ]

  value_at : (cell : ℕ) → get_or words (callers + 2 + 2 * cell) 0 ≡ get_or opening cell 0
  value_at cell = elim (cases_lt cell (length opening)) [
    | inl within ↦ opens.values cell within
    | inr past ↦ get_or_past words (callers + 2 + 2 * cell) 0 (omega (arith, past, opens.size)) ∙ sym (get_or_past opening cell 0 past)
  ]

  pub shows_opened : world_of terms words [] (opened terms settings).view ≡ opened terms settings
  unfolding world_of
  shows_opened = λ i. record {
    clock = opens.front 0 (omega arith) i;
    status = λ p. status_at p i;
    meta = λ cell. (ap meta_of (opens.metas cell) ∙ meta_empty) i;
    value = λ cell. value_at cell i;
    history = [];
    view = (opened terms settings).view;
  }
