-- The law is kept where a map's trie was written and its root set, and where a map gets a new token.
use Rattle.std.proofs.Common.{◌≡◌, ◌≢◌, ℕ, ◌+◌, ◌*◌, ◌<◌, ◌≤◌, List, length, get_or, set, refl, sym, ◌∙◌, ap, subst, arith, inl, inr, length-set}
use Rattle.std.proofs.lemmas.Bool.Decides.{eqb_tells}
use Rattle.std.proofs.lemmas.List.{get_or-set_other, get_or-set_same}
use Rattle.stm_model.specs.declared.sizes.Layout.{Layout}
use Rattle.stm_model.specs.Layouts.{block_at, generation_at, root_at, slot_at, stripe_at}
use Rattle.trie_law.specs.Blocks.{IsDrawn, IsNode, SameBlock, drawn_count, generation}
use Rattle.trie_law.specs.Growing.{Grown, IsMadeFrom, IsWritable}
use Rattle.trie_law.specs.Law.{HasTrie, IsGeneration, IsLawful, IsLive, IsLiveBlock, MayBecome, map_generation, map_root, slot_root}
use Rattle.trie_law.specs.LawFacts.{drawn_later}
use Rattle.trie_law.specs.Tries.{EachBlock, IsShaped, IsTrie, Tree, path_count}
use Rattle.trie_law.proofs.Growth.{children_kept, drawn_grown, drawn_or, generation_grown, live_before, maps_grown, same_generation, same_kind, same_then}
use Rattle.trie_law.proofs.Made.{made_same}
use Rattle.trie_law.proofs.Trees.{HeaderSays, blocks_any, blocks_both, blocks_weaker, headers_say, on_path, stands_kept}

-- ---- tries that are kept

-- The blocks of a trie are branches and leaves of its own generations, which are generations of the heap.
pub says_generation : (layout : Layout) (heap : List ℕ) (block own : ℕ) → ((number : ℕ) → IsDrawn layout heap number → IsGeneration layout heap (generation layout heap number))
    → HeaderSays layout heap block own → IsDrawn layout heap block → IsGeneration layout heap own
says_generation layout heap block own generations says drawn = subst (IsGeneration layout heap) says.generation (generations block drawn)

is_kept : (layout : Layout) (before after : List ℕ) (root : ℕ) (tree : Tree) → IsTrie layout before root tree → EachBlock (λ block other. SameBlock layout before after block) tree
    → ((block : ℕ) → IsDrawn layout before block → IsDrawn layout after block) → IsTrie layout after root tree
is_kept layout before after root tree is kept still = record {
  stands = stands_kept layout before after root tree kept is.stands;
  drawn = blocks_weaker (λ block other. IsDrawn layout before block) (λ block other. IsDrawn layout after block) tree (λ block other d. still block d) is.drawn;
  shaped = is.shaped;
}

pub trie_kept : (layout : Layout) (before after : List ℕ) (own root : ℕ) → (has : HasTrie layout before own root)
    → ((block : ℕ) → IsDrawn layout before block → IsGeneration layout before (generation layout before block))
    → EachBlock (λ block other. SameBlock layout before after block) has.tree → ((block : ℕ) → IsDrawn layout before block → IsDrawn layout after block)
    → ((number : ℕ) → IsGeneration layout before number → IsLive layout after number → IsLive layout before number) → HasTrie layout after own root
trie_kept layout before after own root has generations kept still live = record {
  tree = has.tree;
  trie = is_kept layout before after root has.tree has.trie kept still;
  owned = record {
    same = blocks_weaker (λ block other. (HeaderSays layout before block other × IsDrawn layout before block) × (IsLive layout before other → other ≡ own)) (λ block other. IsLive layout after other → other ≡ own) has.tree
        (λ block other facts alive. facts.1 (live other (says_generation layout before block other generations facts.0.0 facts.0.1) alive))
        (blocks_both (λ block other. HeaderSays layout before block other × IsDrawn layout before block) (λ block other. IsLive layout before other → other ≡ own) has.tree
        (blocks_both (HeaderSays layout before) (λ block other. IsDrawn layout before block) has.tree (headers_say layout before root has.tree has.trie.stands) has.trie.drawn) has.owned.same);
    once = has.owned.once;
  };
}

-- where no block is live, the trie fits any generation that is
pub trie_dead : (layout : Layout) (heap : List ℕ) (own root : ℕ) → IsLive layout heap own → HasTrie layout heap 0 root → HasTrie layout heap own root
trie_dead layout heap own root live has = record {
  tree = has.tree;
  trie = has.trie;
  owned = record {
    same = blocks_weaker (λ block other. IsLive layout heap other → other ≡ 0) (λ block other. IsLive layout heap other → other ≡ own) has.tree
        (λ block other zero alive. absurd (omega (arith, zero alive, alive.some))) has.owned.same;
    once = λ some block. elim (eqb_tells (path_count own block has.tree) 0) [
      | inl none ↦ omega (arith, none.1)
      | inr path ↦ absurd (omega (arith, some, on_path (λ number other. IsLive layout heap other → other ≡ 0) own block has.tree has.owned.same (omega (arith, path.1)) live))
    ];
  };
}

-- ---- only cells before the counts change

abbrev pub SameBehind : Layout → List ℕ → List ℕ → Type 0
SameBehind layout before after = (cell : ℕ) → layout.refs + 2 * layout.maps + layout.snaps ≤ cell → get_or after cell 0 ≡ get_or before cell 0

pub behind_set : (layout : Layout) (heap : List ℕ) (cell value : ℕ) → cell < layout.refs + 2 * layout.maps + layout.snaps → SameBehind layout heap (set heap cell value)
behind_set layout heap cell value low other high = get_or-set_other heap cell other value 0 (λ same. omega (arith, low, high, same))

module _ (layout : Layout) (before after : List ℕ) (behind : SameBehind layout before after) where
  pub behind_block : (block : ℕ) → SameBlock layout before after block
  behind_block block = record { same = λ index within. behind (block_at layout block index) (omega arith) }

  pub behind_count : (stripe : ℕ) → drawn_count layout after stripe ≡ drawn_count layout before stripe
  behind_count stripe = behind (stripe_at layout stripe) (omega arith)

  pub behind_drawn : (block : ℕ) → IsDrawn layout before block → IsDrawn layout after block
  behind_drawn block d = drawn_later layout before after block (λ stripe within. omega (arith, behind_count stripe)) d

  pub behind_undrawn : (block : ℕ) → IsDrawn layout after block → IsDrawn layout before block
  behind_undrawn block d = drawn_later layout after before block (λ stripe within. omega (arith, behind_count stripe)) d

  pub behind_generation : (number : ℕ) → IsGeneration layout before number → IsGeneration layout after number
  behind_generation number (inl none) = inl none
  behind_generation number (inr token) = inr (behind_drawn number token.0, (behind_block number).same 0 (omega arith) ∙ token.1)

-- ---- a lawful heap grew, and cells before the counts were set

module _ (layout : Layout) (start below after : List ℕ) (own : ℕ) (handed : Tree) (lawful : IsLawful layout start) (grown : Grown layout own handed start below)
    (size : length after ≡ length below) (behind : SameBehind layout below after) where
  pub step_drawn : (block : ℕ) → IsDrawn layout start block → IsDrawn layout after block
  step_drawn block d = behind_drawn layout below after behind block (drawn_grown layout own handed start below block grown d)

  pub step_generation : (number : ℕ) → IsGeneration layout start number → IsGeneration layout after number
  step_generation number is = behind_generation layout below after behind number (generation_grown layout own handed start below number grown is)

  pub step_kept : (block : ℕ) → IsDrawn layout start block → ¬ IsWritable own handed block → SameBlock layout start after block
  step_kept block d free = same_then layout start below after block (grown.kept block d free) (behind_block layout below after behind block)

  -- a block that isn't new has a generation of the heap before
  block_generation : IsGeneration layout after own → (block : ℕ) → IsDrawn layout below block → IsGeneration layout after (generation layout below block)
  block_generation is block d = elim (drawn_or layout start below block d) [
    | inl there ↦ rw (grown.generations block there) (step_generation (generation layout start block) (lawful.block_generations block there))
    | inr new ↦ rw (grown.new block d new) is
  ]

  pub step_lawful : IsGeneration layout after own
      → ((block : ℕ) → IsDrawn layout below block → IsNode layout below block → IsLive layout after (generation layout below block) → IsLive layout below (generation layout below block))
      → ((map : ℕ) → map < layout.maps → HasTrie layout after (map_generation layout after map) (map_root layout after map))
      → ((map : ℕ) → map < layout.maps → map_generation layout after map ≡ 0 → map_root layout after map ≡ 0)
      → ((snap : ℕ) → snap < layout.snaps → HasTrie layout after 0 (slot_root layout after snap))
      → ((map : ℕ) → map < layout.maps → IsGeneration layout after (map_generation layout after map))
      → ((one other : ℕ) → one < layout.maps → other < layout.maps → map_generation layout after one ≡ map_generation layout after other → 0 < map_generation layout after one → one ≡ other)
      → IsLawful layout after
  step_lawful own_is live maps none slots map_generations apart = record {
    size = size ∙ (grown.size ∙ lawful.size);
    maps = maps;
    none = none;
    slots = slots;
    counts = λ stripe within. omega (arith, behind_count layout below after behind stripe, grown.most stripe within (lawful.counts stripe within));
    undrawn = λ block index is no within.
        (behind_block layout below after behind block).same index within
        ∙ ((grown.undrawn block is (λ d. no (behind_drawn layout below after behind block d))).same index within
        ∙ lawful.undrawn block index is (λ d. no (step_drawn block d)) within);
    map_generations = map_generations;
    block_generations = λ block d.
        let earlier = behind_undrawn layout below after behind block d in
        rw (same_generation layout below after block (behind_block layout below after behind block)) (block_generation own_is block earlier);
    apart = apart;
    children = λ block d.
        let earlier = behind_undrawn layout below after behind block d in
        children_kept layout below after block record {
          drawn = behind_drawn layout below after behind;
          kinds = λ number there. same_kind layout below after number (behind_block layout below after behind number);
          generations = λ number there. same_generation layout below after number (behind_block layout below after behind number);
          live = live;
        } earlier (behind_block layout below after behind block) (grown.children lawful.children block earlier);
  }

-- ---- a map has a new root

module _ (layout : Layout) (start below : List ℕ) (map block : ℕ) (lawful : IsLawful layout start) (within : map < layout.maps)
    (has : HasTrie layout start (map_generation layout start map) (map_root layout start map)) (some : 0 < map_generation layout start map) (tree : Tree)
    (grown : Grown layout (map_generation layout start map) has.tree start below)
    (made : IsMadeFrom layout (map_generation layout start map) start below has.tree block tree) (shaped : IsShaped 0 0 tree) where
  abbrev own : ℕ
  own = map_generation layout start map

  abbrev written : List ℕ
  written = set below (root_at layout map) block

  low : root_at layout map < layout.refs + 2 * layout.maps + layout.snaps
  low = omega (arith, within)

  root_behind : SameBehind layout below written
  root_behind = behind_set layout below (root_at layout map) block low

  own_live : IsLive layout start own
  own_live = record { map = map; map_in = within; is = refl; some = some }

  same_generations : (n : ℕ) → n < layout.maps → map_generation layout written n ≡ map_generation layout start n
  same_generations n there = get_or-set_other below (root_at layout map) (generation_at layout n) block 0 (λ same. omega (arith, same)) ∙ maps_grown layout own has.tree start below grown n there

  live_start : (number : ℕ) → IsLive layout written number → IsLive layout start number
  live_start number live = live_before layout start written number same_generations live

  live_below : (number : ℕ) → IsLive layout written number → IsLive layout below number
  live_below number live = live_before layout below written number (λ n there. get_or-set_other below (root_at layout map) (generation_at layout n) block 0 (λ same. omega (arith, same))) live

  -- what the map owns is live
  own_block : (y : ℕ) → IsWritable own has.tree y → IsLiveBlock layout start y
  own_block y is =
      let says = on_path (HeaderSays layout start) own y has.tree (headers_say layout start (map_root layout start map) has.tree has.trie.stands) is.1 in
      record { node = says.node; live = subst (IsLive layout start) (sym says.generation) own_live }

  kept_unless_own : (y : ℕ) → IsDrawn layout start y → ¬ IsWritable own has.tree y → SameBlock layout start written y
  kept_unless_own y d free = step_kept layout start below written own has.tree lawful grown (length-set below (root_at layout map) block) root_behind y d free

  -- the tries of other generations are kept
  other_kept : (other root : ℕ) → own ≢ other → (one : HasTrie layout start other root) → EachBlock (λ y g. SameBlock layout start written y) one.tree
  other_kept other root apart one = blocks_weaker (λ y g. (HeaderSays layout start y g × IsDrawn layout start y) × (IsLive layout start g → g ≡ other)) (λ y g. SameBlock layout start written y) one.tree
      (λ y g facts. kept_unless_own y facts.0.1 (λ is.
      let alive : IsLive layout start g = subst (IsLive layout start) facts.0.0.generation (own_block y is).live in
      let says = on_path (HeaderSays layout start) own y has.tree (headers_say layout start (map_root layout start map) has.tree has.trie.stands) is.1 in
      apart (sym says.generation ∙ (facts.0.0.generation ∙ facts.1 alive))))
      (blocks_both (λ y g. HeaderSays layout start y g × IsDrawn layout start y) (λ y g. IsLive layout start g → g ≡ other) one.tree
      (blocks_both (HeaderSays layout start) (λ y g. IsDrawn layout start y) one.tree (headers_say layout start root one.tree one.trie.stands) one.trie.drawn) one.owned.same)

  still_written : (y : ℕ) → IsDrawn layout start y → IsDrawn layout written y
  still_written = step_drawn layout start below written own has.tree lawful grown (length-set below (root_at layout map) block) root_behind

  pub other_is : (other root : ℕ) → own ≢ other → (one : HasTrie layout start other root) → IsTrie layout written root one.tree
  other_is other root apart one = is_kept layout start written root one.tree one.trie (other_kept other root apart one) still_written

  other_trie : (other root : ℕ) → own ≢ other → HasTrie layout start other root → HasTrie layout written other root
  other_trie other root apart one = trie_kept layout start written other root one lawful.block_generations (other_kept other root apart one) still_written (λ number is live. live_start number live)

  -- and the written one is the map's
  pub written_is : IsTrie layout written block tree
  written_is = record {
    stands = stands_kept layout below written block tree (blocks_any (λ y g. SameBlock layout below written y) tree (λ y g. behind_block layout below written root_behind y)) made.stands;
    drawn = blocks_weaker (λ y g. IsDrawn layout below y) (λ y g. IsDrawn layout written y) tree (λ y g d. behind_drawn layout below written root_behind y d) made.drawn;
    shaped = shaped;
  }

  written_trie : HasTrie layout written own block
  written_trie = record {
    tree = tree;
    trie = written_is;
    owned = record {
      same = blocks_weaker (λ y g. IsLive layout below g → g ≡ own) (λ y g. IsLive layout written g → g ≡ own) tree (λ y g one live. one (live_below g live))
          (made_same layout own start below has.tree block tree (maps_grown layout own has.tree start below grown) has.owned.same made);
      once = made.once;
    };
  }

  inside : root_at layout map < length below
  inside = omega (arith, within, lawful.size, grown.size)

  pub other_root : (n : ℕ) → n < layout.maps → n ≢ map → map_root layout written n ≡ map_root layout start n
  other_root n there differs = get_or-set_other below (root_at layout map) (root_at layout n) block 0 (λ same. differs (omega (arith, same))) ∙ grown.others (root_at layout n) (omega (arith, there))

  pub same_slot : (snap : ℕ) → snap < layout.snaps → slot_root layout written snap ≡ slot_root layout start snap
  same_slot snap there = get_or-set_other below (root_at layout map) (slot_at layout snap) block 0 (λ same. omega (arith, same, within)) ∙ grown.others (slot_at layout snap) (omega (arith, there))

  pub map_written : IsLawful layout written
  map_written = step_lawful layout start below written own has.tree lawful grown (length-set below (root_at layout map) block) root_behind
      (step_generation layout start below written own has.tree lawful grown (length-set below (root_at layout map) block) root_behind own (lawful.map_generations map within))
      (λ y d node live. live_below (generation layout below y) live)
      (λ n there. elim (eqb_tells n map) [
        | inl same ↦ rw (same_generations n there, same.1, get_or-set_same below (root_at layout map) block 0 inside) written_trie
        | inr differs ↦ rw (same_generations n there, other_root n there differs.1)
            (other_trie (map_generation layout start n) (map_root layout start n) (λ same. differs.1 (sym (lawful.apart map n within there same some))) (lawful.maps n there))
      ])
      (λ n there zero. elim (eqb_tells n map) [
        | inl same ↦ absurd (omega (arith, some, sym (same_generations n there) ∙ zero, ap (map_generation layout start) same.1))
        | inr differs ↦ other_root n there differs.1 ∙ lawful.none n there (sym (same_generations n there) ∙ zero)
      ])
      (λ snap there. rw (same_slot snap there) (other_trie 0 (slot_root layout start snap) (λ same. omega (arith, some, same)) (lawful.slots snap there)))
      (λ n there. rw (same_generations n there)
      (step_generation layout start below written own has.tree lawful grown (length-set below (root_at layout map) block) root_behind (map_generation layout start n) (lawful.map_generations n there)))
      (λ one other one_in other_in same pos. lawful.apart one other one_in other_in (sym (same_generations one one_in) ∙ (same ∙ same_generations other other_in)) (omega (arith, pos, same_generations one one_in)))

  pub map_may : MayBecome layout start written
  map_may = record {
    counts = λ stripe there. omega (arith, behind_count layout below written root_behind stripe, grown.counts stripe there);
    kept = λ y d dead. kept_unless_own y d (λ is. dead (own_block y is));
    retired = λ token d is dead live. dead (live_start token live);
  }
