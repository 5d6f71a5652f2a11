-- An opening heap is lawful.
use Rattle.std.proofs.Common.{◌≡◌, ℕ, List, [], arith, inl}
use Rattle.stm_model.specs.declared.sizes.Layout.{Layout}
use Rattle.stm_model.specs.Layouts.{block_at, generation_at, root_at, slot_at, stripe_at}
use Rattle.trie_law.specs.Blocks.{IsDrawn}
use Rattle.trie_law.specs.Law.{HasTrie, IsLawful, map_generation}
use Rattle.trie_law.specs.Opening.{IsOpening}
use Rattle.trie_law.specs.Tries.{IsTrie, Leaves}
use Rattle.trie_law.proofs.LeafPairLemmas.{distinct_none}

none_drawn : (layout : Layout) (heap : List ℕ) (block : ℕ) → IsOpening layout heap → ¬ IsDrawn layout heap block
none_drawn layout heap block opening d = omega (arith, opening.zero (stripe_at layout d.stripe) (omega arith), d.drawn)

-- a root of 0 has the trie without leaves
pub root_none : (layout : Layout) (heap : List ℕ) (root : ℕ) → root ≡ 0 → IsTrie layout heap root (Leaves [])
root_none layout heap root none = record {
  stands = none;
  drawn = tt;
  shaped = record { deep = omega arith; single = λ shallow. omega arith; filled = tt; pairs = record { distinct = distinct_none; here = λ key value found. cc } };
}

root_lawful : (layout : Layout) (heap : List ℕ) (own root : ℕ) → root ≡ 0 → HasTrie layout heap own root
root_lawful layout heap own root none = record { tree = Leaves []; trie = root_none layout heap root none; owned = record { same = tt; once = λ some block. omega arith } }

pub opening_lawful : (layout : Layout) (heap : List ℕ) → IsOpening layout heap → IsLawful layout heap
opening_lawful layout heap opening = record {
  size = opening.size;
  maps = λ map within. root_lawful layout heap (map_generation layout heap map) _ (opening.zero (root_at layout map) (omega arith));
  none = λ map within zero. opening.zero (root_at layout map) (omega arith);
  slots = λ snap within. root_lawful layout heap 0 _ (opening.zero (slot_at layout snap) (omega arith));
  counts = λ stripe within. omega (arith, opening.zero (stripe_at layout stripe) (omega arith));
  undrawn = λ block index is no within. opening.zero (block_at layout block index) (omega arith);
  map_generations = λ map within. inl (opening.zero (generation_at layout map) (omega arith));
  block_generations = λ block drawn. absurd (none_drawn layout heap block opening drawn);
  apart = λ one other one_in other_in same some. absurd (omega (arith, some, opening.zero (generation_at layout one) (omega arith)));
  children = λ block drawn. absurd (none_drawn layout heap block opening drawn);
}
