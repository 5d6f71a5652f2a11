-- Heaps that grow: which blocks are drawn, what a draw and a block that is filled make of a heap, and what still stands.
use Rattle.std.proofs.Common.{◌≡◌, ◌≢◌, ℕ, ◌+◌, ◌*◌, ◌/◌, ◌%◌, ◌<◌, ◌≤◌, ◌⊎◌, List, length, get_or, set, refl, sym, ◌∙◌, ap, subst, arith, inl, inr, length-set}
use Rattle.std.proofs.lemmas.Bool.{cases_lt}
use Rattle.std.proofs.lemmas.Bool.Decides.{eqb_tells}
use Rattle.std.proofs.lemmas.List.{get_or-set_same, get_or-set_other}
use Rattle.stm_model.specs.declared.sizes.Layout.{Layout}
use Rattle.stm_model.specs.Layouts.{IsBlock, block_at, block_count, cell_count, generation_at, stripe_at}
use Rattle.trie_law.specs.Blocks.{IsDrawn, IsNode, SameBlock, drawn_count, generation, kind, word}
use Rattle.trie_law.specs.Growing.{AllHaveChildren, Drew, Filled, Grown, IsWritable}
use Rattle.trie_law.specs.Law.{HasChildren, IsChildOf, IsGeneration, IsLive, IsLiveBlock, map_generation}
use Rattle.trie_law.specs.LawFacts.{drawn_later}
use Rattle.trie_law.specs.Tries.{AreDrawn, EachBlock, Stands, Tree, path_count}
use Rattle.trie_law.proofs.Trees.{HeaderSays, blocks_both, blocks_weaker, each_on_path, headers_say, on_path, stands_kept}

-- ---- which blocks are drawn

within_step : (stripes each stripe place count : ℕ) → stripe < stripes → place < each → count ≡ stripes * each → stripe * each + place < count
within_step stripes each stripe place count one two is = grind arith

pub drawn_is_block : (layout : Layout) (heap : List ℕ) (block : ℕ) → IsDrawn layout heap block → IsBlock layout block
drawn_is_block layout heap block d = record {
  some = omega (arith, d.is);
  within = omega (arith, within_step layout.stripes layout.per_stripe d.stripe d.place (block_count layout) d.stripe_in d.place_in refl, d.is);
}

apart_step : (each one other : ℕ) → one < other → one * each + each ≤ other * each
apart_step each one other less = grind arith

-- a block stands in one stripe
same_stripe : (each i j one other block : ℕ) → i < each → j < each → block ≡ 1 + one * each + i → block ≡ 1 + other * each + j → one ≡ other
same_stripe each i j one other block a b p q = elim (cases_lt one other) [
  | inl less ↦ absurd (omega (arith, apart_step each one other less, a, b, p, q))
  | inr more ↦ elim (cases_lt other one) [
    | inl less ↦ absurd (omega (arith, apart_step each other one less, a, b, p, q))
    | inr less ↦ omega (arith, more, less)
  ]
]

-- of a block drawn in one heap it can be told whether the other has drawn it too
pub drawn_or : (layout : Layout) (one other : List ℕ) (block : ℕ) → IsDrawn layout other block → IsDrawn layout one block ⊎ ¬ IsDrawn layout one block
drawn_or layout one other block d = elim (cases_lt d.place (drawn_count layout one d.stripe)) [
  | inl early ↦ inl (record { stripe = d.stripe; place = d.place; stripe_in = d.stripe_in; place_in = d.place_in; drawn = early; is = d.is })
  | inr late ↦ inr (λ x.
      let same = same_stripe layout.per_stripe d.place x.place d.stripe x.stripe block d.place_in x.place_in d.is x.is in
      let before = ap (λ (stripe : ℕ). stripe * layout.per_stripe) same in
      let count = ap (λ (stripe : ℕ). drawn_count layout one stripe) same in
      omega (arith, before, count, late, d.is, x.is, x.drawn))
]

-- ---- a block is drawn

pub fresh : (layout : Layout) (before after : List ℕ) (block : ℕ) → Drew layout before after block → ¬ IsDrawn layout before block
fresh layout before after block drew d =
    let same = same_stripe layout.per_stripe (drawn_count layout before drew.stripe) d.place drew.stripe d.stripe block drew.room d.place_in drew.is d.is in
    let in_front = ap (λ (stripe : ℕ). stripe * layout.per_stripe) same in
    let count = ap (λ (stripe : ℕ). drawn_count layout before stripe) same in
    omega (arith, in_front, count, drew.is, d.is, d.drawn)

module _ (layout : Layout) (before after : List ℕ) (block : ℕ) (size : cell_count layout ≤ length before) (drew : Drew layout before after block) where
  pub count_here : drawn_count layout after drew.stripe ≡ drawn_count layout before drew.stripe + 1
  count_here = ap (λ (heap : List ℕ). drawn_count layout heap drew.stripe) drew.counted
      ∙ get_or-set_same before (stripe_at layout drew.stripe) _ 0 (omega (arith, drew.stripe_in, size))

  pub drew_elsewhere : (cell : ℕ) → cell ≢ stripe_at layout drew.stripe → get_or after cell 0 ≡ get_or before cell 0
  drew_elsewhere cell apart = ap (λ (heap : List ℕ). get_or heap cell 0) drew.counted ∙ get_or-set_other before (stripe_at layout drew.stripe) cell _ 0 apart

  pub count_there : (stripe : ℕ) → stripe ≢ drew.stripe → drawn_count layout after stripe ≡ drawn_count layout before stripe
  count_there stripe apart = drew_elsewhere (stripe_at layout stripe) (λ is. apart (omega (arith, is)))

  pub drew_drawn : IsDrawn layout after block
  drew_drawn = record {
    stripe = drew.stripe;
    place = drawn_count layout before drew.stripe;
    stripe_in = drew.stripe_in;
    place_in = drew.room;
    drawn = omega (arith, count_here);
    is = drew.is;
  }

  drew_counts : (stripe : ℕ) → stripe < layout.stripes → drawn_count layout before stripe ≤ drawn_count layout after stripe
  drew_counts stripe within = elim (eqb_tells stripe drew.stripe) [
    | inl same ↦ rw same.1 (omega (arith, count_here))
    | inr apart ↦ omega (arith, count_there stripe apart.1)
  ]

  drew_most : (stripe : ℕ) → stripe < layout.stripes → drawn_count layout before stripe ≤ layout.per_stripe → drawn_count layout after stripe ≤ layout.per_stripe
  drew_most stripe within few = elim (eqb_tells stripe drew.stripe) [
    | inl same ↦ rw same.1 (omega (arith, count_here, drew.room))
    | inr apart ↦ omega (arith, count_there stripe apart.1, few)
  ]

  pub drew_same : (number : ℕ) → SameBlock layout before after number
  drew_same number = record { same = λ index within. drew_elsewhere (block_at layout number index) (λ is. omega (arith, is, within, drew.stripe_in)) }

  -- a draw adds just its block to those that are drawn
  pub drew_other : (number : ℕ) → number ≢ block → IsDrawn layout after number → IsDrawn layout before number
  drew_other number apart d = elim (cases_lt d.place (drawn_count layout before d.stripe)) [
    | inl early ↦ record { stripe = d.stripe; place = d.place; stripe_in = d.stripe_in; place_in = d.place_in; drawn = early; is = d.is }
    | inr late ↦ absurd (elim (eqb_tells d.stripe drew.stripe) [
      | inl same ↦
          let in_front = ap (λ (stripe : ℕ). stripe * layout.per_stripe) same.1 in
          let count = ap (λ (stripe : ℕ). drawn_count layout before stripe) same.1 in
          let count_after = ap (λ (stripe : ℕ). drawn_count layout after stripe) same.1 in
          apart (omega (arith, in_front, count, count_after, count_here, late, d.drawn, d.is, drew.is))
      | inr other ↦ omega (arith, count_there d.stripe other.1, late, d.drawn)
    ])
  ]

-- ---- a block is filled

pub filled_none : (layout : Layout) (heap : List ℕ) (block : ℕ) → Filled layout heap heap block
filled_none layout heap block = record { size = refl; outside = λ cell elsewhere. refl }

pub filled_more : (layout : Layout) (before after : List ℕ) (block index value : ℕ) → index < 18 → Filled layout before after block
    → Filled layout before (set after (block_at layout block index) value) block
filled_more layout before after block index value within filled = record {
  size = length-set after _ value ∙ filled.size;
  outside = λ cell elsewhere.
      get_or-set_other after (block_at layout block index) cell value 0
      (elim elsewhere as (λ side. cell ≢ block_at layout block index) [ inl low ↦ λ is. omega (arith, low, is) | inr high ↦ λ is. omega (arith, high, is, within) ])
      ∙ filled.outside cell elsewhere;
}

side_of : (layout : Layout) (block number index : ℕ) → 0 < block → 0 < number → number ≢ block → index < 18
    → (block_at layout number index < block_at layout block 0) ⊎ (block_at layout block 18 ≤ block_at layout number index)
side_of layout block number index one two apart within = elim (cases_lt number block) [
  | inl low ↦ inl (omega (arith, low, one, two, within))
  | inr more ↦ inr (omega (arith, more, apart, one, two))
]

module _ (layout : Layout) (before after : List ℕ) (block : ℕ) (filled : Filled layout before after block) where
  pub filled_other : (number : ℕ) → 0 < block → 0 < number → number ≢ block → SameBlock layout before after number
  filled_other number one two apart = record { same = λ index within. filled.outside (block_at layout number index) (side_of layout block number index one two apart within) }

  pub filled_count : (stripe : ℕ) → stripe < layout.stripes → drawn_count layout after stripe ≡ drawn_count layout before stripe
  filled_count stripe within = filled.outside (stripe_at layout stripe) (inl (omega (arith, within)))

  pub drawn_filled : (number : ℕ) → IsDrawn layout before number → IsDrawn layout after number
  drawn_filled number d = drawn_later layout before after number (λ stripe within. omega (arith, filled_count stripe within)) d

  pub filled_drawn : (number : ℕ) → IsDrawn layout after number → IsDrawn layout before number
  filled_drawn number d = drawn_later layout after before number (λ stripe within. omega (arith, filled_count stripe within)) d

pub same_then : (layout : Layout) (first second third : List ℕ) (block : ℕ) → SameBlock layout first second block → SameBlock layout second third block → SameBlock layout first third block
same_then layout first second third block one two = record { same = λ index within. two.same index within ∙ one.same index within }

pub same_kind : (layout : Layout) (before after : List ℕ) (block : ℕ) → SameBlock layout before after block → kind layout after block ≡ kind layout before block
same_kind layout before after block same = ap (λ header. header % 4) (same.same 0 (omega arith))

pub same_generation : (layout : Layout) (before after : List ℕ) (block : ℕ) → SameBlock layout before after block → generation layout after block ≡ generation layout before block
same_generation layout before after block same = ap (λ header. header / 64) (same.same 0 (omega arith))

-- ---- children

-- A step leaves the headers of drawn blocks as they were in kind and generation, and brings none to life.
pub record KeepsHeaders (layout : Layout) (before after : List ℕ) : Type 0 where
  pub drawn : (number : ℕ) → IsDrawn layout before number → IsDrawn layout after number
  pub kinds : (number : ℕ) → IsDrawn layout before number → kind layout after number ≡ kind layout before number
  pub generations : (number : ℕ) → IsDrawn layout before number → generation layout after number ≡ generation layout before number
  pub live : (number : ℕ) → IsDrawn layout before number → IsNode layout before number
      → IsLive layout after (generation layout before number) → IsLive layout before (generation layout before number)

-- maps that keep their generations keep what is live
pub live_before : (layout : Layout) (before after : List ℕ) (own : ℕ) → ((map : ℕ) → map < layout.maps → map_generation layout after map ≡ map_generation layout before map)
    → IsLive layout after own → IsLive layout before own
live_before layout before after own maps live = record { map = live.map; map_in = live.map_in; is = sym (maps live.map live.map_in) ∙ live.is; some = live.some }

child_kept : (layout : Layout) (before after : List ℕ) (branch child : ℕ) → KeepsHeaders layout before after → IsDrawn layout before branch
    → IsChildOf layout before branch child → IsChildOf layout after branch child
child_kept layout before after branch child keeps drawn is = record {
  drawn = keeps.drawn child is.drawn;
  same = λ live.
      let node : IsNode layout before child = subst (λ k. (k ≡ 1) ⊎ (k ≡ 2)) (keeps.kinds child is.drawn) live.node in
      let earlier : IsLiveBlock layout before child = record {
        node = node;
        live = keeps.live child is.drawn node (subst (IsLive layout after) (keeps.generations child is.drawn) live.live);
      } in
      keeps.generations child is.drawn ∙ (is.same earlier ∙ sym (keeps.generations branch drawn));
}

-- a branch whose children stay has them
pub children_kept : (layout : Layout) (before after : List ℕ) (branch : ℕ) → KeepsHeaders layout before after → IsDrawn layout before branch
    → SameBlock layout before after branch → HasChildren layout before branch → HasChildren layout after branch
children_kept layout before after branch keeps drawn same has branch_kind i within =
    let cell : word layout after branch (1 + i) ≡ word layout before branch (1 + i) = same.same (1 + i) (omega arith) in
    rw cell (elim (has (sym (keeps.kinds branch drawn) ∙ branch_kind) i within) [
      | inl none ↦ inl none
      | inr is ↦ inr (child_kept layout before after branch (word layout before branch (1 + i)) keeps drawn is)
    ])

-- ---- growing

pub grown_none : (layout : Layout) (own : ℕ) (handed : Tree) (heap : List ℕ) → Grown layout own handed heap heap
grown_none layout own handed heap = record {
  size = refl;
  counts = λ stripe within. omega arith;
  most = λ stripe within few. few;
  kept = λ block drawn no. record { same = λ index within. refl };
  kinds = λ block drawn. refl;
  generations = λ block drawn. refl;
  tokens = λ block drawn token. record { same = λ index within. refl };
  new = λ block drawn no. absurd (no drawn);
  undrawn = λ block is no. record { same = λ index within. refl };
  others = λ cell within. refl;
  children = λ all. all;
}

pub drawn_grown : (layout : Layout) (own : ℕ) (handed : Tree) (before after : List ℕ) (block : ℕ) → Grown layout own handed before after
    → IsDrawn layout before block → IsDrawn layout after block
drawn_grown layout own handed before after block grown d = drawn_later layout before after block grown.counts d

-- Two steps are one. Each block that the second may write is new, or the whole may write it.
pub grown_then : (layout : Layout) (own : ℕ) (first second whole : Tree) (start middle end : List ℕ)
    → ((block : ℕ) → IsWritable own first block → IsWritable own whole block) → ((block : ℕ) → IsDrawn layout start block → IsWritable own second block → IsWritable own whole block)
    → Grown layout own first start middle → Grown layout own second middle end → Grown layout own whole start end
grown_then layout own first second whole start middle end first_may second_may one two =
    let still = λ (block : ℕ) (d : IsDrawn layout start block). drawn_grown layout own first start middle block one d in
    record {
      size = two.size ∙ one.size;
      counts = λ stripe within. omega (arith, one.counts stripe within, two.counts stripe within);
      most = λ stripe within few. two.most stripe within (one.most stripe within few);
      kept = λ block d no. same_then layout start middle end block (one.kept block d (λ may. no (first_may block may))) (two.kept block (still block d) (λ may. no (second_may block d may)));
      kinds = λ block d. two.kinds block (still block d) ∙ one.kinds block d;
      generations = λ block d. two.generations block (still block d) ∙ one.generations block d;
      tokens = λ block d token. same_then layout start middle end block (one.tokens block d token) (two.tokens block (still block d) (one.kinds block d ∙ token));
      new = λ block d no. elim (drawn_or layout middle end block d) [
        | inl there ↦ two.generations block there ∙ one.new block there no
        | inr fresh ↦ two.new block d fresh
      ];
      undrawn = λ block is no. same_then layout start middle end block
          (one.undrawn block is (λ d. no (drawn_grown layout own second middle end block two d))) (two.undrawn block is no);
      others = λ cell within. two.others cell within ∙ one.others cell within;
      children = λ all. two.children (one.children all);
    }

-- A block is drawn and filled. Its children are such as they have to be.
module _ (layout : Layout) (own : ℕ) (handed : Tree) (before drawn after : List ℕ) (block : ℕ) (size : cell_count layout ≤ length before)
    (drew : Drew layout before drawn block) (filled : Filled layout drawn after block) where
  block_some : 0 < block
  block_some = omega (arith, drew.is)

  pub new_drawn : IsDrawn layout after block
  new_drawn = drawn_filled layout drawn after block filled block (drew_drawn layout before drawn block size drew)

  new_other : (number : ℕ) → 0 < number → number ≢ block → SameBlock layout before after number
  new_other number some apart = same_then layout before drawn after number (drew_same layout before drawn block size drew number) (filled_other layout drawn after block filled number block_some some apart)

  not_new : (number : ℕ) → IsDrawn layout before number → number ≢ block
  not_new number d is = fresh layout before drawn block drew (subst (IsDrawn layout before) is d)

  pub stays : (number : ℕ) → IsDrawn layout before number → SameBlock layout before after number
  stays number d = new_other number (drawn_is_block layout before number d).some (not_new number d)

  pub still_drawn : (number : ℕ) → IsDrawn layout before number → IsDrawn layout after number
  still_drawn number d = drawn_filled layout drawn after block filled number (drawn_later layout before drawn number (drew_counts layout before drawn block size drew) d)

  pub was_drawn : (number : ℕ) → number ≢ block → IsDrawn layout after number → IsDrawn layout before number
  was_drawn number apart d = drew_other layout before drawn block size drew number apart (filled_drawn layout drawn after block filled number d)

  pub cells_before_same : (cell : ℕ) → cell < layout.refs + 2 * layout.maps + layout.snaps → get_or after cell 0 ≡ get_or before cell 0
  cells_before_same cell within =
      filled.outside cell (inl (omega (arith, within))) ∙ drew_elsewhere layout before drawn block size drew cell (λ is. omega (arith, is, within))

  new_keeps : KeepsHeaders layout before after
  new_keeps = record {
    drawn = still_drawn;
    kinds = λ number d. same_kind layout before after number (stays number d);
    generations = λ number d. same_generation layout before after number (stays number d);
    live = λ number d node. live_before layout before after (generation layout before number) (λ map within. cells_before_same (generation_at layout map) (omega (arith, within)));
  }

  pub new_grown : generation layout after block ≡ own → (AllHaveChildren layout before → HasChildren layout after block) → Grown layout own handed before after
  new_grown header has = record {
    size = filled.size ∙ (ap length drew.counted ∙ length-set before _ _);
    counts = λ stripe within. omega (arith, drew_counts layout before drawn block size drew stripe within, filled_count layout drawn after block filled stripe within);
    most = λ stripe within few. omega (arith, drew_most layout before drawn block size drew stripe within few, filled_count layout drawn after block filled stripe within);
    kept = λ number d no. stays number d;
    kinds = new_keeps.kinds;
    generations = new_keeps.generations;
    tokens = λ number d token. stays number d;
    new = λ number d no. elim (eqb_tells number block) [
      | inl same ↦ rw same.1 header
      | inr other ↦ absurd (no (was_drawn number other.1 d))
    ];
    undrawn = λ number is no. new_other number is.some (λ same. no (subst (IsDrawn layout after) (sym same) new_drawn));
    others = cells_before_same;
    children = λ all number d. elim (eqb_tells number block) [
      | inl same ↦ rw same.1 (has all)
      | inr other ↦ let earlier = was_drawn number other.1 d in children_kept layout before after number new_keeps earlier (stays number earlier) (all number earlier)
    ];
  }

-- A drawn block that may be written is written in place, and stays what it is.
module _ (layout : Layout) (own : ℕ) (handed : Tree) (before after : List ℕ) (block : ℕ) (drawn : IsDrawn layout before block)
    (filled : Filled layout before after block) (kinds : kind layout after block ≡ kind layout before block)
    (generations : generation layout after block ≡ generation layout before block) where
  pub place_other : (number : ℕ) → 0 < number → number ≢ block → SameBlock layout before after number
  place_other number some apart = filled_other layout before after block filled number (drawn_is_block layout before block drawn).some some apart

  place_keeps : KeepsHeaders layout before after
  place_keeps = record {
    drawn = drawn_filled layout before after block filled;
    kinds = λ number d. elim (eqb_tells number block) [
      | inl same ↦ rw same.1 kinds
      | inr other ↦ same_kind layout before after number (place_other number (drawn_is_block layout before number d).some other.1)
    ];
    generations = λ number d. elim (eqb_tells number block) [
      | inl same ↦ rw same.1 generations
      | inr other ↦ same_generation layout before after number (place_other number (drawn_is_block layout before number d).some other.1)
    ];
    live = λ number d node. live_before layout before after (generation layout before number) (λ map within. filled.outside (generation_at layout map) (inl (omega (arith, within))));
  }

  pub place_grown : IsWritable own handed block → kind layout before block ≢ 3 → (AllHaveChildren layout before → HasChildren layout after block) → Grown layout own handed before after
  place_grown may no_token has = record {
    size = filled.size;
    counts = λ stripe within. omega (arith, filled_count layout before after block filled stripe within);
    most = λ stripe within few. omega (arith, filled_count layout before after block filled stripe within, few);
    kept = λ number d no. place_other number (drawn_is_block layout before number d).some (λ same. no (subst (IsWritable own handed) (sym same) may));
    kinds = place_keeps.kinds;
    generations = place_keeps.generations;
    tokens = λ number d token. place_other number (drawn_is_block layout before number d).some (λ same. no_token (subst (λ x. kind layout before x ≡ 3) same token));
    new = λ number d no. absurd (no (filled_drawn layout before after block filled number d));
    undrawn = λ number is no. place_other number is.some (λ same. no (subst (IsDrawn layout after) (sym same) (drawn_filled layout before after block filled block drawn)));
    others = λ cell within. filled.outside cell (inl (omega (arith, within)));
    children = λ all number d. elim (eqb_tells number block) [
      | inl same ↦ rw same.1 (has all)
      | inr other ↦
          let earlier = filled_drawn layout before after block filled number d in
          children_kept layout before after number place_keeps earlier (place_other number (drawn_is_block layout before number earlier).some other.1) (all number earlier)
    ];
  }

-- ---- what stays

pub generation_grown : (layout : Layout) (own : ℕ) (handed : Tree) (before after : List ℕ) (number : ℕ) → Grown layout own handed before after
    → IsGeneration layout before number → IsGeneration layout after number
generation_grown layout own handed before after number grown is = elim is [
  | inl none ↦ inl none
  | inr token ↦ inr (drawn_grown layout own handed before after number grown token.0, (grown.tokens number token.0 (omega (arith, token.1))).same 0 (omega arith) ∙ token.1)
]

-- what may be written is none of this tree's, so it stands as before
pub stands_grown : (layout : Layout) (own : ℕ) (handed : Tree) (before after : List ℕ) (block : ℕ) (tree : Tree) → Grown layout own handed before after
    → AreDrawn layout before tree → EachBlock (λ number other. ¬ IsWritable own handed number) tree → Stands layout before block tree → Stands layout after block tree
stands_grown layout own handed before after block tree grown drawn free stands =
    stands_kept layout before after block tree
    (blocks_weaker (λ number other. IsDrawn layout before number × ¬ IsWritable own handed number) (λ number other. SameBlock layout before after number) tree
    (λ number other both. grown.kept number both.0 both.1) (blocks_both (λ number other. IsDrawn layout before number) (λ number other. ¬ IsWritable own handed number) tree drawn free))
    stands

-- Two trees may have blocks in common, but none of this generation. Then the one has no block that may be written in the other.
pub trees_apart : (layout : Layout) (heap : List ℕ) (own one_root other_root : ℕ) (one other : Tree) → Stands layout heap one_root one → Stands layout heap other_root other
    → (0 < own → (block : ℕ) → 0 < path_count own block other → path_count own block one ≡ 0) → EachBlock (λ block generation. ¬ IsWritable own other block) one
trees_apart layout heap own one_root other_root one other one_stands other_stands apart =
    blocks_weaker (λ block there. HeaderSays layout heap block there × (0 < path_count there block one)) (λ block there. ¬ IsWritable own other block) one
    (λ block there says is.
    let header = on_path (HeaderSays layout heap) own block other (headers_say layout heap other_root other other_stands) is.1 in
    let same : there ≡ own = sym says.0.generation ∙ header.generation in
    omega (arith, apart is.0 block is.1, subst (λ x. 0 < path_count x block one) same says.1))
    (blocks_both (HeaderSays layout heap) (λ block there. 0 < path_count there block one) one (headers_say layout heap one_root one one_stands) (each_on_path one))

pub maps_grown : (layout : Layout) (own : ℕ) (handed : Tree) (before after : List ℕ) → Grown layout own handed before after
    → (map : ℕ) → map < layout.maps → map_generation layout after map ≡ map_generation layout before map
maps_grown layout own handed before after grown map within = grown.others (generation_at layout map) (omega (arith, within))

pub all_drawn_grown : (layout : Layout) (own : ℕ) (handed : Tree) (before after : List ℕ) (tree : Tree) → Grown layout own handed before after → AreDrawn layout before tree → AreDrawn layout after tree
all_drawn_grown layout own handed before after tree grown drawn = blocks_weaker (λ number other. IsDrawn layout before number) (λ number other. IsDrawn layout after number) tree
    (λ number other d. drawn_grown layout own handed before after number grown d) drawn
