-- A ref is written: the law is kept, and the contents have its new value.
use Rattle.std.proofs.Common.{◌≡◌, ◌≢◌, ℕ, ◌+◌, ◌*◌, ◌<◌, zero, suc, List, [], ◌∷◌, take, get_or, set, refl, sym, ◌∙◌, ap, arith}
use Rattle.std.proofs.lemmas.List.{get_or-set_other}
use Rattle.stm_model.specs.declared.sizes.Layout.{Layout}
use Rattle.stm_model.specs.Layouts.{generation_at, root_at, slot_at}
use Rattle.ledger_model.specs.declared.job.Contents.{Contents}
use Rattle.trie_law.specs.Holding.{HoldsContents}
use Rattle.trie_law.specs.Law.{IsLawful, MayBecome, map_root, slot_root}
use Rattle.trie_law.proofs.Bounds.{used_behind}
use Rattle.trie_law.proofs.Holdings.{pairs_stay}
use Rattle.trie_law.proofs.Lawful.{behind_set}
use Rattle.trie_law.proofs.Tokens.{set_lawful, set_may, set_stands}

take_set : (n i value : ℕ) (cells : List ℕ) → i < n → take n (set cells i value) ≡ set (take n cells) i value
take_set zero i value cells within = absurd (omega (arith, within))
take_set (suc n) i value [] within = refl
take_set (suc n) zero value (cell ∷ cells) within = refl
take_set (suc n) (suc i) value (cell ∷ cells) within = ap (λ (rest : List ℕ). cell ∷ rest) (take_set n i value cells (omega (arith, within)))

module _ (layout : Layout) (heap : List ℕ) (cell value : ℕ) (lawful : IsLawful layout heap) (within : cell < layout.refs) where
  low : cell < layout.refs + 2 * layout.maps + layout.snaps
  low = omega (arith, within)

  no_generation : (n : ℕ) → n < layout.maps → generation_at layout n ≢ cell
  no_generation n there same = omega (arith, same, within)

  abbrev written : List ℕ
  written = set heap cell value

  same_root : (n : ℕ) → map_root layout written n ≡ map_root layout heap n
  same_root n = get_or-set_other heap cell (root_at layout n) value 0 (λ same. omega (arith, same, within))

  same_slot : (n : ℕ) → slot_root layout written n ≡ slot_root layout heap n
  same_slot n = get_or-set_other heap cell (slot_at layout n) value 0 (λ same. omega (arith, same, within))

  pub ref_lawful : IsLawful layout written
  ref_lawful = set_lawful layout heap cell value lawful low no_generation
      (λ n there. rw (same_root n) (lawful.maps n there)) (λ n there zero. same_root n ∙ lawful.none n there zero) (λ n there. rw (same_slot n) (lawful.slots n there))

  pub ref_may : MayBecome layout heap written
  ref_may = set_may layout heap cell value lawful low no_generation

  pub ref_contents : (contents : Contents) → HoldsContents layout heap contents → HoldsContents layout written (record contents { refs = set contents.refs cell value })
  ref_contents contents holds = record {
    refs = ap (λ (cells : List ℕ). set cells cell value) holds.refs ∙ sym (take_set layout.refs cell value heap within);
    map_count = holds.map_count;
    maps = λ n there. rw (same_root n) (pairs_stay layout heap written (map_root layout heap n) (get_or contents.maps n []) (set_stands layout heap cell value lawful low no_generation (map_root layout heap n)) (holds.maps n there));
    slot_count = holds.slot_count;
    slots = λ n there. rw (same_slot n) (pairs_stay layout heap written (slot_root layout heap n) (get_or contents.slots n []) (set_stands layout heap cell value lawful low no_generation (slot_root layout heap n)) (holds.slots n there));
    used = holds.used ∙ sym (used_behind layout heap written (behind_set layout heap cell value low));
  }
