-- What the table allows for an access, by its kind.
use Rattle.std.proofs.Common.{◌≡◌, ℕ, ◌<◌, bit_and, bit_or, subst, sym, ap, arith}
use Rattle.std.specs.Int.{bit_not, w64}
use prog.Atomic.{either}
use Rattle.std.specs.Prelude.{◌==◌}
use Rattle.atomic_table.specs.Table.{Allows, Me, State}
use Rattle.opacity.specs.Words.{IsOfTable, effect}
use Rattle.stm_model.specs.Accesses.{word_of}
use Rattle.stm_model.specs.World.{Terms, place_of, words_in}
use Rattle.stm_model.specs.declared.access.Access.{Access}
use Rattle.stm_model.specs.declared.access.Access.TheVariants.{ClearBits, Exchange, Load, SetBits, Store, Swap}
use Rattle.stm_model.specs.declared.access.Word.{Word}
use Rattle.stm_model.specs.declared.access.Word.TheVariants.{Clock, Meta as MetaOf, Status, Value}
use Rattle.ref_table.specs.Keyed.{AllowsAccess}
use Rattle.ref_table.specs.Performs.{announced}
use Rattle.ref_table.specs.Knowledge.{Knowledge}

-- ---- the word's place

place_low : (terms : Terms) (word : Word) → IsOfTable terms word → place_of terms.callers word < words_in terms
unfolding IsOfTable place_of
place_low terms Clock within = omega arith
place_low terms (Status p) within = omega (arith, within.1)
place_low terms (MetaOf addr) within = omega (arith, within)
place_low terms (Value addr) within = omega (arith, within)

pub place_within : (terms : Terms) (access : Access) (word : Word) (place words : ℕ) → word_of access ≡ word → IsOfTable terms (word_of access) → words ≡ words_in terms → place ≡ place_of terms.callers word → place < words
place_within terms access word place words is within count at =
    let low = place_low terms word (subst (IsOfTable terms) is within) in omega (arith, low, count, at)

-- ---- each kind

module _ (holds : State Unit Knowledge → Type 0) (told : ℕ → Knowledge → Knowledge → Type 0) (terms : Terms) (id : ℕ) (me : Me Unit Knowledge) (slots words place : ℕ) (access : Access)
    (none : slots ≡ 0) (count : words ≡ words_in terms) (within : IsOfTable terms (word_of access)) (allowed : AllowsAccess holds terms.callers id me access told) where
  abbrev pub Then : ℕ → Me Unit Knowledge → Type 0
  Then found after = told found me.0 after.0 × (after.1 ≡ me.1)

  abbrev Serves : (slots place : ℕ) → Access → Type 0
  Serves slots place access = Allows holds slots id me place (effect access) (λ found after. Then (announced access found) after)

  carry : (this : Access) → access ≡ this → place ≡ place_of terms.callers (word_of this) → (place < words) × Serves slots place this
  carry this is at = (
    place_within terms access (word_of this) place words (ap word_of is) within count at,
    subst (λ (z : ℕ × ℕ). Serves z.0 z.1 this) (λ i. (sym none i, sym at i)) (subst (λ (z : Access). Serves 0 (place_of terms.callers (word_of z)) z) is allowed),
  )

  pub loads : (word : Word) → access ≡ Load word → place ≡ place_of terms.callers word → (place < words) × Allows holds slots id me place (λ n. n) Then
  unfolding effect announced word_of
  loads word is at = carry (Load word) is at

  pub stores : (word : Word) (new : ℕ) → access ≡ Store word new → place ≡ place_of terms.callers word → (place < words) × Allows holds slots id me place (λ _. new) (λ _. Then new)
  unfolding effect announced word_of
  stores word new is at = carry (Store word new) is at

  pub swaps : (word : Word) (new : ℕ) → access ≡ Swap word new → place ≡ place_of terms.callers word → (place < words) × Allows holds slots id me place (λ _. new) Then
  unfolding effect announced word_of
  swaps word new is at = carry (Swap word new) is at

  pub exchanges : (word : Word) (old new : ℕ) → access ≡ Exchange word old new → place ≡ place_of terms.callers word → (place < words) × Allows holds slots id me place (λ n. either (n == old) new n) Then
  unfolding effect announced word_of
  exchanges word old new is at = carry (Exchange word old new) is at

  pub sets : (word : Word) (mask : ℕ) → access ≡ SetBits word mask → place ≡ place_of terms.callers word → (place < words) × Allows holds slots id me place (λ n. bit_or n mask) Then
  unfolding effect announced word_of
  sets word mask is at = carry (SetBits word mask) is at

  pub clears : (word : Word) (mask other : ℕ) → access ≡ ClearBits word mask → other ≡ bit_not w64 mask → place ≡ place_of terms.callers word → (place < words) × Allows holds slots id me place (λ n. bit_and n other) Then
  unfolding effect announced word_of
  clears word mask other is same at =
      let both = carry (ClearBits word mask) is at in
      (both.0, subst (λ (z : ℕ). Allows holds slots id me place (λ n. bit_and n z) Then) (sym same) both.1)
