-- How heaps and last writers go along a history.
use Rattle.std.proofs.Common.{◌≡◌, ℕ, zero, suc, ◌-◌, ◌<◌, ◌≤◌, ◌^◌, Bool, true, false, cond, List, [], ◌∷◌, ◌++◌, length, get_or, refl, sym, ap, ◌∙◌, ◌≢◌, ◌⊎◌, inl, inr, arith, subst, length-append}
use Rattle.std.specs.List.{All}
use Rattle.std.specs.Map.{values_of}
use Rattle.std.proofs.lemmas.Bool.{cases_lt}
use Rattle.std.proofs.lemmas.Bool.Decides.{nat_tests}
use Rattle.std.proofs.lemmas.List.{get_or_append_left, get_or_past, get_or_push}
use Rattle.std.proofs.lemmas.List.Elements.{All-nil, All-push}
use Rattle.stm_model.specs.declared.note.Note.{Note}
use Rattle.stm_model.specs.Heap.{Agrees, AreWords, over, writes_to}
use Rattle.stm_model.specs.History.{Entry, IsCurrent, IsEntry, IsLegal, entry_after, last, no_entry, state}
use Rattle.stm_model.proofs.HeapLemmas.{AreWords-over, length-over, over_other}

-- ---- one entry further

pub state-zero : (opening : List ℕ) (history : List Entry) → state opening history 0 ≡ opening
unfolding state
state-zero opening history = refl

pub state-suc : (opening : List ℕ) (history : List Entry) (n : ℕ) → state opening history (suc n) ≡ over (state opening history n) (entry_after history n).writes
unfolding state
state-suc opening history n = refl

pub last-zero : (history : List Entry) (address : ℕ) → last history 0 address ≡ 0
unfolding last
last-zero history address = refl

pub last-suc : (history : List Entry) (n address : ℕ) → last history (suc n) address ≡ cond (writes_to (entry_after history n).writes address) (suc n) (last history n address)
unfolding last
last-suc history n address = refl

-- Either the next entry writes the cell, and is its last writer, or the last writer is the one before it.
pub last_cases : (history : List Entry) (n address : ℕ)
    → ((writes_to (entry_after history n).writes address ≡ true) × (last history (suc n) address ≡ suc n))
    ⊎ ((writes_to (entry_after history n).writes address ≡ false) × (last history (suc n) address ≡ last history n address))
last_cases history n address =
    rw last-suc (elim (writes_to (entry_after history n).writes address) as (λ b. ((b ≡ true) × (cond b (suc n) (last history n address) ≡ suc n)) ⊎ ((b ≡ false) × (cond b (suc n) (last history n address) ≡ last history n address))) [
      | true ↦ inl (refl, refl)
      | false ↦ inr (refl, refl)
    ])

-- a cell that the next entry doesn't write
pub state_other : (opening : List ℕ) (history : List Entry) (n address : ℕ) → writes_to (entry_after history n).writes address ≡ false
    → get_or (state opening history (suc n)) address 0 ≡ get_or (state opening history n) address 0
state_other opening history n address none =
    rw state-suc (over_other (state opening history n) (entry_after history n).writes address none)

pub length-state : (opening : List ℕ) (history : List Entry) (n : ℕ) → length (state opening history n) ≡ length opening
length-state opening history zero = ap length (state-zero opening history)
length-state opening history (suc n) =
    ap length (state-suc opening history n) ∙ length-over (state opening history n) (entry_after history n).writes ∙ length-state opening history n

-- ---- the last writer

below_step : (n before after : ℕ) (b : Bool) → before ≤ n → after ≡ cond b (suc n) before → after ≤ suc n
below_step n before after b below is = grind (arith, nat_tests)

pub last_below : (history : List Entry) (n address : ℕ) → last history n address ≤ n
last_below history zero address = rw last-zero (omega arith)
last_below history (suc n) address = below_step n _ _ _ (last_below history n address) (last-suc history n address)

-- an entry that writes is one of the history
within_step : (history : List Entry) (n address : ℕ) → writes_to (entry_after history n).writes address ≡ true → n < length history
within_step history n address written = elim (cases_lt n (length history)) [
  | inl less ↦ less
  | inr past ↦ let none : writes_to (entry_after history n).writes address ≡ false = rw (get_or_past history n no_entry past) refl in cc (none, written)
]

pub last_within : (history : List Entry) (n address : ℕ) → last history n address ≤ length history
last_within history zero address = rw last-zero (omega arith)
last_within history (suc n) address = elim (last_cases history n address) [
  | inl written ↦ let less = within_step history n address written.0 in omega (arith, written.1)
  | inr other ↦ rw other.1 (last_within history n address)
]

-- it writes the cell
pub last_writes : (history : List Entry) (n address : ℕ) → last history n address ≢ 0 → writes_to (entry_after history (last history n address - 1)).writes address ≡ true
last_writes history zero address some = absurd (some (last-zero history address))
last_writes history (suc n) address some = elim (last_cases history n address) [
  | inl written ↦
      let here : last history (suc n) address - 1 ≡ n = omega (arith, written.1) in
      rw here written.0
  | inr other ↦ rw other.1 (last_writes history n address (λ none. some (other.1 ∙ none)))
]

-- and no later one does
none_step : (history : List Entry) (n address k : ℕ) → writes_to (entry_after history n).writes address ≡ false → k ≤ n
    → (k < n → writes_to (entry_after history k).writes address ≡ false)
    → writes_to (entry_after history k).writes address ≡ false
none_step history n address k none below before = elim (cases_lt k n) [
  | inl less ↦ before less
  | inr more ↦ let here : k ≡ n = omega arith in rw here none
]

pub none_after_last : (history : List Entry) (n address k : ℕ) → last history n address ≤ k → k < n → writes_to (entry_after history k).writes address ≡ false
none_after_last history zero address k from below = absurd (omega arith)
none_after_last history (suc n) address k from below = elim (last_cases history n address) [
  | inl written ↦ absurd (omega (arith, written.1))
  | inr other ↦ none_step history n address k other.0 (omega arith) (λ less. none_after_last history n address k (omega (arith, other.1)) less)
]

-- ---- between a cell's last writer and a place

-- the cell at two places: one last writer, and one word
abbrev pub IsSame : List ℕ → List Entry → ℕ → ℕ → ℕ → Type 0
IsSame opening history m n address =
    (last history m address ≡ last history n address) × (get_or (state opening history m) address 0 ≡ get_or (state opening history n) address 0)

same_step : (opening : List ℕ) (history : List Entry) (n k address : ℕ) → last history (suc n) address ≤ n → (last history n address ≤ k → IsSame opening history k n address)
    → last history (suc n) address ≤ k → IsSame opening history k (suc n) address
same_step opening history n k address early before from = elim (last_cases history n address) [
  | inl written ↦ absurd (omega (arith, written.1))
  | inr other ↦
      let same : IsSame opening history k n address = before (omega (arith, other.1)) in
      (same.0 ∙ sym other.1, same.1 ∙ sym (state_other opening history n address other.0))
]

-- Nothing becomes of the cell from its last writer on.
pub same_since_last : (opening : List ℕ) (history : List Entry) (n k address : ℕ) → k ≤ n → last history n address ≤ k → IsSame opening history k n address
same_since_last opening history zero k address below from = let here : k ≡ 0 = omega arith in rw here (refl, refl)
same_since_last opening history (suc n) k address below from = elim (cases_lt n k) [
  | inl more ↦ let here : k ≡ suc n = omega arith in rw here (refl, refl)
  | inr less ↦ same_step opening history n k address (omega arith) (λ since. same_since_last opening history n k address less since) from
]

-- one last writer, one word
pub same_from_last : (opening : List ℕ) (history : List Entry) (m n address : ℕ) → last history m address ≡ last history n address
    → get_or (state opening history m) address 0 ≡ get_or (state opening history n) address 0
same_from_last opening history m n address same = elim (cases_lt n m) [
  | inl more ↦ sym (same_since_last opening history m n address (omega arith) (omega (arith, last_below history n address))).1
  | inr less ↦ (same_since_last opening history n m address less (omega (arith, last_below history m address))).1
]

pub IsCurrent-moved : (opening : List ℕ) (history : List Entry) (m n : ℕ) (note : Note) → IsCurrent opening history m note
    → note.version ≡ last history n note.addr.0 → IsCurrent opening history n note
IsCurrent-moved opening history m n note current version = record {
  value = sym (same_from_last opening history m n note.addr.0 (sym current.version ∙ version)) ∙ current.value;
  version = version;
}

pub Agrees-from_current : (opening : List ℕ) (history : List Entry) (n : ℕ) (notes : List Note) → All (IsCurrent opening history n) notes
    → Agrees notes (state opening history n)
Agrees-from_current opening history n notes current = λ k d within. (current k d within).value

-- ---- entries at the end

pub entry_after-append : (history more : List Entry) (n : ℕ) → n < length history → entry_after (history ++ more) n ≡ entry_after history n
entry_after-append history more n within = get_or_append_left history more no_entry n within

pub entry_after_push : (history : List Entry) (entry : Entry) (n : ℕ) → length history ≡ n → entry_after (history ++ entry ∷ []) n ≡ entry
entry_after_push history entry n here = get_or_push history entry no_entry n here

pub state-append : (opening : List ℕ) (history more : List Entry) (n : ℕ) → n ≤ length history → state opening (history ++ more) n ≡ state opening history n
state-append opening history more zero within = state-zero opening (history ++ more) ∙ sym (state-zero opening history)
state-append opening history more (suc n) within =
    let less : n < length history = omega arith in
    rw (state-suc opening (history ++ more) n, state-suc opening history n, entry_after-append history more n less)
    (ap (λ heap. over heap (entry_after history n).writes) (state-append opening history more n (omega arith)))

pub last-append : (history more : List Entry) (n address : ℕ) → n ≤ length history → last (history ++ more) n address ≡ last history n address
last-append history more zero address within = last-zero (history ++ more) address ∙ sym (last-zero history address)
last-append history more (suc n) address within =
    let less : n < length history = omega arith in
    rw (last-suc (history ++ more) n address, last-suc history n address, entry_after-append history more n less)
    (ap (λ before. cond (writes_to (entry_after history n).writes address) (suc n) before) (last-append history more n address (omega arith)))

-- the heap and the last writers after a new entry
pub state_push : (opening : List ℕ) (history : List Entry) (entry : Entry)
    → state opening (history ++ entry ∷ []) (suc (length history)) ≡ over (state opening history (length history)) entry.writes
state_push opening history entry =
    rw (
      state-suc opening (history ++ entry ∷ []) (length history),
      entry_after_push history entry (length history) refl,
      state-append opening history (entry ∷ []) (length history) (omega arith),
    ) refl

pub last_push : (history : List Entry) (entry : Entry) (address : ℕ)
    → last (history ++ entry ∷ []) (suc (length history)) address ≡ cond (writes_to entry.writes address) (suc (length history)) (last history (length history) address)
last_push history entry address =
    rw (
      last-suc (history ++ entry ∷ []) (length history) address,
      entry_after_push history entry (length history) refl,
      last-append history (entry ∷ []) (length history) address (omega arith),
    ) refl

-- what is current at a place within a history is so whatever comes at its end, and the other way round
pub IsCurrent-append : (opening : List ℕ) (history more : List Entry) (n : ℕ) (note : Note) → n ≤ length history
    → IsCurrent opening history n note → IsCurrent opening (history ++ more) n note
IsCurrent-append opening history more n note within current = record {
  value = rw (state-append opening history more n within) current.value;
  version = current.version ∙ sym (last-append history more n note.addr.0 within);
}

pub IsCurrent-front : (opening : List ℕ) (history more : List Entry) (n : ℕ) (note : Note) → n ≤ length history
    → IsCurrent opening (history ++ more) n note → IsCurrent opening history n note
IsCurrent-front opening history more n note within current = record {
  value = rw (← state-append opening history more n within) current.value;
  version = current.version ∙ last-append history more n note.addr.0 within;
}

-- ---- legal histories

AllCurrent-at : (opening : List ℕ) (history : List Entry) (n : ℕ) (entry other : Entry) → entry ≡ other → All (IsCurrent opening history n) other.reads → All (IsCurrent opening history n) entry.reads
AllCurrent-at opening history n entry other is current = rw is current

All-front : (history more : List Entry) → All IsEntry (history ++ more) → All IsEntry history
All-front history more all = λ k d within.
    let here : k < length (history ++ more) = omega (arith, length-append history more) in
    rw (get_or_append_left history more d k within) at (all k d here)

pub IsLegal-front : (opening : List ℕ) (history more : List Entry) → IsLegal opening (history ++ more) → IsLegal opening history
IsLegal-front opening history more legal = record {
  opening_words = legal.opening_words;
  entries = All-front history more legal.entries;
  reads = λ n within k d there.
      IsCurrent-front opening history more n _ (omega arith)
      (AllCurrent-at opening (history ++ more) n (entry_after history n) (entry_after (history ++ more) n) (sym (entry_after-append history more n within))
      (legal.reads n (omega (arith, length-append history more))) k d there);
}

pub IsLegal-push : (opening : List ℕ) (history : List Entry) (entry : Entry) → IsLegal opening history → IsEntry entry
    → All (IsCurrent opening history (length history)) entry.reads → IsLegal opening (history ++ entry ∷ [])
IsLegal-push opening history entry legal is_entry current = record {
  opening_words = legal.opening_words;
  entries = All-push IsEntry history entry legal.entries is_entry;
  reads = λ n within. elim (cases_lt n (length history)) [
    | inl less ↦ λ k d there.
        IsCurrent-append opening history (entry ∷ []) n _ (omega arith)
        (AllCurrent-at opening history n (entry_after (history ++ entry ∷ []) n) (entry_after history n) (entry_after-append history (entry ∷ []) n less)
        (legal.reads n less) k d there)
    | inr more ↦
        let here : length history ≡ n = omega (arith, length-append history (entry ∷ [])) in
        λ k d there.
        IsCurrent-append opening history (entry ∷ []) n _ (omega arith)
        (AllCurrent-at opening history n (entry_after (history ++ entry ∷ []) n) entry (entry_after_push history entry n here)
        (subst (λ m. All (IsCurrent opening history m) entry.reads) here current) k d there)
  ];
}

-- what the entries write are words
written_words : (history : List Entry) (n : ℕ) → All IsEntry history → AreWords (values_of (entry_after history n).writes)
written_words history n entries = elim (cases_lt n (length history)) [
  | inl less ↦ (entries n no_entry less).words
  | inr past ↦ rw (get_or_past history n no_entry past) (All-nil (λ number. number < 2 ^ 64))
]

pub AreWords-state : (opening : List ℕ) (history : List Entry) (n : ℕ) → AreWords opening → All IsEntry history → AreWords (state opening history n)
AreWords-state opening history zero words entries = rw (state-zero opening history) words
AreWords-state opening history (suc n) words entries =
    rw (state-suc opening history n)
    (AreWords-over (state opening history n) (entry_after history n).writes (AreWords-state opening history n words entries) (written_words history n entries))
