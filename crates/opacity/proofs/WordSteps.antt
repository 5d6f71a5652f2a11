-- What an access does to the words of a table is what it does to the world that they show.
use Rattle.std.proofs.Common.{◌≡◌, ℕ, ◌+◌, ◌*◌, suc, ◌<◌, ◌^◌, ◌++◌, ◌∷◌, [], Bool, true, false, nat_eq, if◌then◌else◌, List, Some, get_or, set, refl, sym, ap, ◌∙◌, arith, ◌⊎◌, inl, inr}
use Rattle.std.proofs.lemmas.Bool.{eq-eqb, eqb-true}
use Rattle.std.proofs.lemmas.Bool.Decides.{nat_tests}
use Rattle.std.proofs.lemmas.List.{set-get_or}
use Rattle.meta_word.proofs.MetaLemmas.{meta_of-cleared, meta_of-meta_word, meta_of-or_changing, meta_of-or_pending, meta_word-meta_of}
use Rattle.meta_word.proofs.StatusLemmas.{status_of-status_word, status_word-status_of}
use Rattle.meta_word.specs.Meta.{MetaFits, meta_of, meta_word, same_meta}
use Rattle.meta_word.specs.Status.{StatusFits, status_of, status_word, same_status}
use Rattle.meta_word.specs.declared.meta.Meta.{Meta}
use Rattle.meta_word.specs.declared.status.TxnStatus.{TxnStatus}
use Rattle.stm_model.specs.Accesses.{Act, ClearOwner, LoadClock, LoadMeta, LoadStatus, LoadValue, OfStatus, SetChanging, SetPending, StoreStatus, StoreValue, SwapMeta, ExchangeClock, ExchangeMeta, ExchangeStatus, access_of, answer_of, word_of}
use Rattle.stm_model.specs.Attempt.{Attempt}
use Rattle.stm_model.specs.History.{Entry}
use Rattle.stm_model.specs.World.{IsCaller, Terms, View, World, cells_in, entry_of, found, place_of, with_meta, with_status, words_after, words_in, world_of}
use Rattle.opacity.specs.Words.{FieldsFit, IsOfTable, IsTable, effect, table_after, word_found}
use Rattle.opacity.proofs.Acquires.{same_parts, same_pending, same_whole}
use Rattle.opacity.proofs.Dooms.{status_same}
use Rattle.opacity.proofs.Effects.{words_history}
use Rattle.opacity.proofs.Tables.{set_clock, set_meta, set_status, set_value, status_in, status_own}

pub found_word : (terms : Terms) (words : List ℕ) (history : List Entry) (view : ℕ → View) (act : Act) → IsOfTable terms (word_of (access_of act))
    → found (world_of terms words history view) act ≡ answer_of act (word_found terms words (access_of act))
unfolding found world_of answer_of word_of access_of place_of IsOfTable
found_word terms words history view LoadClock within = refl
found_word terms words history view (ExchangeClock old) within = refl
found_word terms words history view (LoadStatus p) within = ap OfStatus (status_own terms words p within)
found_word terms words history view (StoreStatus p new) within = ap OfStatus (status_own terms words p within)
found_word terms words history view (ExchangeStatus p old new) within = ap OfStatus (status_own terms words p within)
found_word terms words history view (LoadMeta cell) within = refl
found_word terms words history view (ExchangeMeta cell old new) within = refl
found_word terms words history view (SetChanging cell) within = refl
found_word terms words history view (SetPending cell) within = refl
found_word terms words history view (ClearOwner cell) within = refl
found_word terms words history view (SwapMeta cell new) within = refl
found_word terms words history view (LoadValue cell) within = refl
found_word terms words history view (StoreValue cell value) within = refl

-- ---- tests of fields are tests of words

tests_agree : (a b : Bool) → (a ≡ true → b ≡ true) → (b ≡ true → a ≡ true) → a ≡ b
tests_agree true b there back = sym (there refl)
tests_agree false true there back = back refl
tests_agree false false there back = refl

status_itself : (status : TxnStatus) → same_status status status ≡ true
status_itself status = grind (arith, nat_tests)

status_tests : (word : ℕ) (old : TxnStatus) → word < 2 ^ 64 → StatusFits old → same_status (status_of word) old ≡ nat_eq word (status_word old)
status_tests word old below fits = tests_agree _ _
    (λ same. eq-eqb word (status_word old) (sym (status_word-status_of word below) ∙ ap status_word (status_same (status_of word) old same)))
    (λ same. rw (eqb-true word (status_word old) same, status_of-status_word old fits) (status_itself old))

meta_same : (meta other : Meta) → same_meta meta other ≡ true → meta ≡ other
meta_same meta other same =
    let parts = same_parts meta other same in
    let pending = same_pending meta other same in
    λ i. record { changing = parts.changing i; pending = pending i; owner = parts.owner i; version = parts.version i }

meta_tests : (word : ℕ) (old : Meta) → word < 2 ^ 64 → MetaFits old → same_meta (meta_of word) old ≡ nat_eq word (meta_word old)
meta_tests word old below fits = tests_agree _ _
    (λ same. eq-eqb word (meta_word old) (sym (meta_word-meta_of word below) ∙ ap meta_word (meta_same (meta_of word) old same)))
    (λ same. rw (eqb-true word (meta_word old) same, meta_of-meta_word old fits) (same_whole old))

-- ---- the words after an access

module _ (terms : Terms) (words : List ℕ) (history : List Entry) (view : ℕ → View) (table : IsTable terms words) (t : Attempt) where
  abbrev w : World
  w = world_of terms words history view

  abbrev meta_place : ℕ → ℕ
  meta_place cell = terms.callers + 1 + 2 * cell

  abbrev value_place : ℕ → ℕ
  value_place cell = terms.callers + 2 + 2 * cell

  below : (place : ℕ) → place < words_in terms → get_or words place 0 < 2 ^ 64
  below place within = table.each place 0 (omega (arith, within, table.size))

  stays : (place : ℕ) → w ≡ world_of terms (set words place (get_or words place 0)) history view
  stays place = rw (set-get_or words place 0) refl

  takes : (b c : Bool) (place new : ℕ) (next : World) → b ≡ c → world_of terms (set words place new) next.history view ≡ next
      → (if b then next else w) ≡ world_of terms (set words place (if c then new else get_or words place 0)) (if b then next else w).history view
  unfolding world_of
  takes true true place new next same is = sym is
  takes false false place new next same is = stays place
  takes true false place new next same is = cc
  takes false true place new next same is = cc

  puts_status : (p : ℕ) (new : TxnStatus) → IsCaller terms p → StatusFits new → world_of terms (set words p (status_word new)) history view ≡ with_status w p new
  puts_status p new caller fits =
      set_status terms words history view table.size p (status_word new) caller ∙ ap (λ (status : TxnStatus). with_status w p status) (status_of-status_word new fits)

  puts_meta : (cell word : ℕ) (new : Meta) → cell < cells_in terms → meta_of word ≡ new → world_of terms (set words (meta_place cell) word) history view ≡ with_meta w cell new
  puts_meta cell word new within is =
      set_meta terms words history view table.size cell word within ∙ ap (λ (meta : Meta). with_meta w cell meta) is

  pub shows_after : (act : Act) → IsOfTable terms (word_of (access_of act)) → FieldsFit act
      → words_after w t act ≡ world_of terms (table_after terms words (access_of act)) (words_after w t act).history view
  unfolding words_after world_of word_of access_of place_of effect IsOfTable FieldsFit
  shows_after LoadClock within fit = stays 0
  shows_after (ExchangeClock old) within fit =
      takes (nat_eq (get_or words 0 0) old) (nat_eq (get_or words 0 0) old) 0 (suc old) (record w { clock = suc old; history = history ++ entry_of t ∷ [] }) refl
      (set_clock terms words (history ++ entry_of t ∷ []) view table.size (suc old))
  shows_after (LoadStatus p) within fit = stays p
  shows_after (StoreStatus p new) within fit = sym (puts_status p new within fit)
  shows_after (ExchangeStatus p old new) within fit =
      takes (same_status (status_in terms words p) old) (nat_eq (get_or words p 0) (status_word old)) p (status_word new) (with_status w p new)
      (ap (λ (status : TxnStatus). same_status status old) (status_own terms words p within) ∙ status_tests (get_or words p 0) old (below p (omega (arith, within.1))) fit.0)
      (puts_status p new within fit.1)
  shows_after (LoadMeta cell) within fit = stays (meta_place cell)
  shows_after (ExchangeMeta cell old new) within fit =
      takes (same_meta (meta_of (get_or words (meta_place cell) 0)) old) (nat_eq (get_or words (meta_place cell) 0) (meta_word old)) (meta_place cell) (meta_word new) (with_meta w cell new)
      (meta_tests (get_or words (meta_place cell) 0) old (below (meta_place cell) (omega (arith, within))) fit.0)
      (puts_meta cell (meta_word new) new within (meta_of-meta_word new fit.1))
  shows_after (SetChanging cell) within fit =
      sym (puts_meta cell _ _ within (meta_of-or_changing (get_or words (meta_place cell) 0) (below (meta_place cell) (omega (arith, within)))))
  shows_after (SetPending cell) within fit =
      sym (puts_meta cell _ _ within (meta_of-or_pending (get_or words (meta_place cell) 0) (below (meta_place cell) (omega (arith, within)))))
  shows_after (ClearOwner cell) within fit =
      sym (puts_meta cell _ _ within (meta_of-cleared (get_or words (meta_place cell) 0) (below (meta_place cell) (omega (arith, within)))))
  shows_after (SwapMeta cell new) within fit = sym (puts_meta cell (meta_word new) new within (meta_of-meta_word new fit))
  shows_after (LoadValue cell) within fit = stays (value_place cell)
  shows_after (StoreValue cell value) within fit = sym (set_value terms words history view table.size cell value within)

-- ---- the history after it

pub history_after : (terms : Terms) (words : List ℕ) (history : List Entry) (view : ℕ → View) (t : Attempt) (act : Act)
    → (let after = words_after (world_of terms words history view) t act in (after.history ≡ history) ⊎ ((act ≡ ExchangeClock (get_or words 0 0)) × (after.history ≡ history ++ entry_of t ∷ [])))
unfolding world_of
history_after terms words history view t act = elim (words_history (world_of terms words history view) t act) [
  | inl same ↦ inl same
  | inr won ↦ inr (the_act act (ExchangeClock (get_or words 0 0)) won.0, won.1)
]
  where
    the_act : (one other : Act) → Some one ≡ Some other → one ≡ other
    the_act one other is = cc
