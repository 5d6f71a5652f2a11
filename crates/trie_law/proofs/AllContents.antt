-- A lawful heap holds contents, and these alone.
use Rattle.std.proofs.Common.{◌≡◌, ℕ, ◌<◌, zero, suc, List, [], ◌∷◌, length, take, get_or, refl, sym, ◌∙◌, ap, arith}
use Rattle.std.proofs.lemmas.List.{ext_get_or}
use Rattle.stm_model.specs.declared.sizes.Layout.{Layout}
use Rattle.ledger_model.specs.declared.job.Contents.{Contents}
use Rattle.trie_law.specs.Blocks.{used_count}
use Rattle.trie_law.specs.Holding.{HasPairs, HoldsContents}
use Rattle.trie_law.specs.Law.{IsLawful, map_root, slot_root}
use Rattle.trie_law.proofs.Collected.{trie_has_pairs}
use Rattle.trie_law.proofs.Holdings.{one_pairs}

-- ---- there are some

first_or_later : (n : ℕ) (P : ℕ → List (ℕ × ℕ) → Type 0) (first : List (ℕ × ℕ)) (lists : List (List (ℕ × ℕ))) → P 0 first → ((i : ℕ) → i < n → P (suc i) (get_or lists i []))
    → (i : ℕ) → i < suc n → P i (get_or (first ∷ lists) i [])
first_or_later n P first lists here later zero within = here
first_or_later n P first lists here later (suc i) within = later i (omega (arith, within))

-- where each place below a number has pairs, one list has them all
listed : (n : ℕ) (P : ℕ → List (ℕ × ℕ) → Type 0) → ((i : ℕ) → i < n → (pairs : List (ℕ × ℕ)) × P i pairs)
    → (lists : List (List (ℕ × ℕ))) × (length lists ≡ n) × ((i : ℕ) → i < n → P i (get_or lists i []))
listed zero P each = ([], refl, λ i within. absurd (omega (arith, within)))
listed (suc n) P each =
    let first = each 0 (omega arith) in
    let rest = listed n (λ i. P (suc i)) (λ i within. each (suc i) (omega (arith, within))) in
    (first.0 ∷ rest.0, omega (arith, rest.1), first_or_later n P first.0 rest.0 first.1 rest.2)

pub contents_there : (layout : Layout) (heap : List ℕ) → IsLawful layout heap → (contents : Contents) × HoldsContents layout heap contents
contents_there layout heap lawful =
    let maps = listed layout.maps (λ map. HasPairs layout heap (map_root layout heap map))
    (λ map within. let has = lawful.maps map within in trie_has_pairs layout heap (map_root layout heap map) has.tree has.trie) in
    let slots = listed layout.snaps (λ snap. HasPairs layout heap (slot_root layout heap snap))
    (λ snap within. let has = lawful.slots snap within in trie_has_pairs layout heap (slot_root layout heap snap) has.tree has.trie) in (
      record { refs = take layout.refs heap; maps = maps.0; slots = slots.0; used = used_count layout heap },
      record { refs = refl; map_count = maps.1; maps = maps.2; slot_count = slots.1; slots = slots.2; used = refl },
    )

-- ---- and no others

contents_same : (one other : Contents) → one.refs ≡ other.refs → one.maps ≡ other.maps → one.slots ≡ other.slots → one.used ≡ other.used → one ≡ other
contents_same one other refs maps slots used =
    ap (λ (x : List ℕ). record { refs = x; maps = one.maps; slots = one.slots; used = one.used }) refs
    ∙ (ap (λ (x : List (List (ℕ × ℕ))). record { refs = other.refs; maps = x; slots = one.slots; used = one.used }) maps
    ∙ (ap (λ (x : List (List (ℕ × ℕ))). record { refs = other.refs; maps = other.maps; slots = x; used = one.used }) slots
    ∙ ap (λ (x : ℕ). record { refs = other.refs; maps = other.maps; slots = other.slots; used = x }) used))

pub one_contents : (layout : Layout) (heap : List ℕ) (one other : Contents) → HoldsContents layout heap one → HoldsContents layout heap other → one ≡ other
one_contents layout heap one other first second = contents_same one other (first.refs ∙ sym second.refs)
    (ext_get_or [] one.maps other.maps (first.map_count ∙ sym second.map_count) (λ map within.
    let there : map < layout.maps = omega (arith, within, first.map_count) in
    one_pairs layout heap (map_root layout heap map) (get_or one.maps map []) (get_or other.maps map []) (first.maps map there) (second.maps map there)))
    (ext_get_or [] one.slots other.slots (first.slot_count ∙ sym second.slot_count) (λ snap within.
    let there : snap < layout.snaps = omega (arith, within, first.slot_count) in
    one_pairs layout heap (slot_root layout heap snap) (get_or one.slots snap []) (get_or other.slots snap []) (first.slots snap there) (second.slots snap there)))
    (first.used ∙ sym second.used)
