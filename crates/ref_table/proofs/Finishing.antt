-- The values that are read of a closed table, one after another.
use Rattle.std.proofs.Common.{◌≡◌, ℕ, ◌+◌, ◌*◌, ◌<◌, List, [], ◌∷◌, ◌++◌, length, take, ap, sym, ◌∙◌, arith, length-append}
use mathlib.Core.Option.{some}
use lib.ListN.{get_elem?}
use Rattle.stm_model.specs.History.{Entry, state}
use Rattle.stm_model.specs.World.{Terms, cells_in}
use Rattle.stm_model.proofs.HistoryLemmas.{length-state}
use Rattle.atomic_table.specs.Table.{Final, Me, Seen}
use Rattle.stm_model.specs.declared.settings.Settings.{Settings}
use Rattle.ref_table.specs.Keyed.{HoldsMaker}
use Rattle.ref_table.specs.Knowledge.{Knowledge}
use Rattle.ref_table.specs.Parts.{gathered_of}
use Rattle.ref_table.specs.Rule.{Keeps}
use Rattle.ref_table.proofs.Closing.{EndsAs, closes, value_read, values_more, values_whole}

pub one_longer : (values then : List ℕ) (n cell : ℕ) → then ≡ values ++ n ∷ [] → length values ≡ cell → length then ≡ cell + 1
one_longer values then n cell is so = ap length is ∙ (length-append values (n ∷ []) ∙ ap (λ (m : ℕ). m + 1) so)

-- What the words of a closed table are, by what the maker's seat kept.
pub ended : (lawful : List ℕ → Type 0) (may : List ℕ → List ℕ → Type 0) (terms : Terms) (settings : Settings) (id given : ℕ) (gathered : List (ℕ × ℕ)) (me : Me Unit Knowledge) (words : List ℕ) (slots : List Unit)
    → HoldsMaker given me → gathered_of me.0.whose ≡ gathered → length gathered ≡ given → Final (Seen (Keeps lawful may terms settings) id me.0) words slots → EndsAs terms me.0.seen words
ended lawful may terms settings id given gathered me words slots holds same all ends =
    closes lawful may terms settings id given (gathered_of me.0.whose) me.0 words slots holds.whose (ap length same ∙ all) ends

module _ (terms : Terms) (seen : List Entry) (words : List ℕ) (ends : EndsAs terms seen words) (opening : List ℕ) (all : List Entry) (same : terms.opening ≡ opening) (whole : seen ≡ all) where
  abbrev Heap : List ℕ
  Heap = state terms.opening seen (length seen)

  heap_is : Heap ≡ state opening all (length all)
  heap_is = λ i. state (same i) (whole i) (length (whole i))

  pub one_more : (values then : List ℕ) (cell place n : ℕ) → cell < cells_in terms → place ≡ terms.callers + 2 + 2 * cell → get_elem? words place ≡ some n → values ≡ take cell (state opening all (length all))
      → then ≡ values ++ n ∷ [] → then ≡ take (cell + 1) (state opening all (length all))
  one_more values then cell place n within at read so is =
      let low : cell < length Heap = omega (arith, within, length-state terms.opening seen (length seen)) in
      let more = values_more Heap values cell n low (so ∙ ap (λ (heap : List ℕ). take cell heap) (sym heap_is)) (value_read terms seen words place cell n ends within at read) in
      is ∙ (more ∙ ap (λ (heap : List ℕ). take (cell + 1) heap) heap_is)

  pub all_values : (values then : List ℕ) (cell : ℕ) → cell ≡ cells_in terms → values ≡ take cell (state opening all (length all)) → then ≡ values → then ≡ state opening all (length all)
  all_values values then cell done so is =
      is ∙ values_whole terms seen values (so ∙ (ap (λ (n : ℕ). take n (state opening all (length all))) done ∙ ap (λ (heap : List ℕ). take (cells_in terms) heap) (sym heap_is))) ∙ heap_is
