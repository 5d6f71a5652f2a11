-- With a new token a map owns none of its blocks any more, however many they are. A snapshot and a share rest on that.
use Rattle.std.proofs.Common.{◌≡◌, ◌≢◌, ℕ, ◌+◌, ◌*◌, ◌<◌, ◌≤◌, List, [], length, set, refl, sym, ◌∙◌, ap, subst, arith, inl, inr, length-set}
use Rattle.std.proofs.lemmas.Bool.Decides.{eqb_tells}
use Rattle.std.proofs.lemmas.List.{get_or-set_other, get_or-set_same}
use Rattle.stm_model.specs.declared.sizes.Layout.{Layout}
use Rattle.stm_model.specs.Layouts.{cell_count, generation_at, root_at, slot_at}
use Rattle.trie_law.specs.Blocks.{IsDrawn, IsNode, SameBlock, generation, kind}
use Rattle.trie_law.specs.Growing.{DrewToken, Grown}
use Rattle.trie_law.specs.Law.{HasTrie, IsGeneration, IsLawful, IsLive, MayBecome, map_generation, map_root, slot_root}
use Rattle.trie_law.specs.LawFacts.{may_go_on}
use Rattle.trie_law.specs.Tries.{IsTrie, Leaves, Tree}
use Rattle.trie_law.proofs.Growth.{fresh, grown_none, live_before, maps_grown, new_drawn, new_grown, was_drawn}
use Rattle.trie_law.proofs.Lawful.{SameBehind, behind_block, behind_count, behind_drawn, behind_generation, behind_set, step_drawn, step_generation, step_kept, step_lawful, trie_dead, trie_kept, says_generation}
use Rattle.trie_law.proofs.Trees.{HeaderSays, blocks_any, blocks_both, blocks_weaker, headers_say, stands_kept}

pub token_grown : (layout : Layout) (start below : List ℕ) (token : ℕ) → cell_count layout ≤ length start → DrewToken layout start below token → Grown layout token (Leaves []) start below
token_grown layout start below token room drew = new_grown layout token (Leaves []) start drew.drawn below token room drew.drew drew.filled (omega (arith, drew.token))
    (λ all is_branch. absurd (omega (arith, drew.token, is_branch)))

token_some : (layout : Layout) (start below : List ℕ) (token : ℕ) → DrewToken layout start below token → 0 < token
token_some layout start below token drew = omega (arith, drew.drew.is)

module _ (layout : Layout) (start below after : List ℕ) (map token : ℕ) (lawful : IsLawful layout start) (within : map < layout.maps) (drew : DrewToken layout start below token)
    (size : length after ≡ length below) (behind : SameBehind layout below after) (gen_here : map_generation layout after map ≡ token)
    (gen_other : (n : ℕ) → n < layout.maps → n ≢ map → map_generation layout after n ≡ map_generation layout start n) where
  room : cell_count layout ≤ length start
  room = omega (arith, lawful.size)

  grown : Grown layout token (Leaves []) start below
  grown = token_grown layout start below token room drew

  token_drawn : IsDrawn layout below token
  token_drawn = new_drawn layout token (Leaves []) start drew.drawn below token room drew.drew drew.filled

  some_token : 0 < token
  some_token = omega (arith, drew.drew.is)

  not_old : ¬ IsGeneration layout start token
  not_old (inl none) = omega (arith, none, some_token)
  not_old (inr old) = fresh layout start drew.drawn token drew.drew old.0

  pub token_live : IsLive layout after token
  token_live = record { map = map; map_in = within; is = gen_here; some = some_token }

  -- what was a generation and is live was live before, and isn't the map's old one
  lives : (number : ℕ) → IsGeneration layout start number → IsLive layout after number → IsLive layout start number × (number ≢ map_generation layout start map)
  lives number is live = elim (eqb_tells live.map map) [
    | inl same ↦ absurd (not_old (subst (IsGeneration layout start) (sym live.is ∙ (ap (map_generation layout after) same.1 ∙ gen_here)) is))
    | inr differs ↦
        let here : map_generation layout start live.map ≡ number = sym (gen_other live.map live.map_in differs.1) ∙ live.is in (
          record { map = live.map; map_in = live.map_in; is = here; some = live.some },
          λ same. differs.1 (lawful.apart live.map map live.map_in within (here ∙ same) (omega (arith, here, live.some))),
        )
  ]

  all_drawn : (block : ℕ) → IsDrawn layout start block → IsDrawn layout after block
  all_drawn = step_drawn layout start below after token (Leaves []) lawful grown size behind

  all_kept : (block : ℕ) → IsDrawn layout start block → SameBlock layout start after block
  all_kept block d = step_kept layout start below after token (Leaves []) lawful grown size behind block d (λ is. omega (arith, is.1))

  -- every trie is kept
  pub kept_trie : (own root : ℕ) → HasTrie layout start own root → HasTrie layout after own root
  kept_trie own root has = trie_kept layout start after own root has lawful.block_generations
      (blocks_weaker (λ block other. IsDrawn layout start block) (λ block other. SameBlock layout start after block) has.tree (λ block other d. all_kept block d) has.trie.drawn)
      all_drawn (λ number is live. (lives number is live).0)

  pub kept_stands : (root : ℕ) (tree : Tree) → IsTrie layout start root tree → IsTrie layout after root tree
  kept_stands root tree is = record {
    stands = stands_kept layout start after root tree
        (blocks_weaker (λ block other. IsDrawn layout start block) (λ block other. SameBlock layout start after block) tree (λ block other d. all_kept block d) is.drawn) is.stands;
    drawn = blocks_weaker (λ block other. IsDrawn layout start block) (λ block other. IsDrawn layout after block) tree (λ block other d. all_drawn block d) is.drawn;
    shaped = is.shaped;
  }

  -- that of the map has no live block any more
  pub retired : HasTrie layout after 0 (map_root layout start map)
  retired =
      let has = lawful.maps map within in
      let root = map_root layout start map in
      record {
        tree = has.tree;
        trie = kept_stands root has.tree has.trie;
        owned = record {
          same = blocks_weaker (λ block other. (HeaderSays layout start block other × IsDrawn layout start block) × (IsLive layout start other → other ≡ map_generation layout start map))
              (λ block other. IsLive layout after other → other ≡ 0) has.tree
              (λ block other facts live.
              let earlier = lives other (says_generation layout start block other lawful.block_generations facts.0.0 facts.0.1) live in
              absurd (earlier.1 (facts.1 earlier.0)))
              (blocks_both (λ block other. HeaderSays layout start block other × IsDrawn layout start block) (λ block other. IsLive layout start other → other ≡ map_generation layout start map) has.tree
              (blocks_both (HeaderSays layout start) (λ block other. IsDrawn layout start block) has.tree (headers_say layout start root has.tree has.trie.stands) has.trie.drawn) has.owned.same);
          once = λ some block. absurd (omega (arith, some));
        };
      }

  token_is_generation : IsGeneration layout after token
  token_is_generation = behind_generation layout below after behind token (inr (token_drawn, drew.token))

  -- a branch or a leaf that is live was live before
  node_live : (block : ℕ) → IsDrawn layout below block → IsNode layout below block → IsLive layout after (generation layout below block) → IsLive layout below (generation layout below block)
  node_live block d node live = elim (eqb_tells block token) [
    | inl same ↦ absurd (
        let is : kind layout below token ≡ 3 = omega (arith, drew.token) in
        let node_token : IsNode layout below token = subst (IsNode layout below) same.1 node in
        elim node_token [ inl branch ↦ omega (arith, is, branch) | inr leaf ↦ omega (arith, is, leaf) ])
    | inr differs ↦
        let there = was_drawn layout token (Leaves []) start drew.drawn below token room drew.drew drew.filled block differs.1 d in
        let is = subst (IsGeneration layout start) (sym (grown.generations block there)) (lawful.block_generations block there) in
        live_before layout below start (generation layout below block) (λ n n_in. sym (maps_grown layout token (Leaves []) start below grown n n_in)) (lives (generation layout below block) is live).0
  ]

  pub token_lawful : HasTrie layout after 0 (map_root layout after map)
      → ((n : ℕ) → n < layout.maps → n ≢ map → map_root layout after n ≡ map_root layout start n)
      → ((snap : ℕ) → snap < layout.snaps → HasTrie layout after 0 (slot_root layout after snap)) → IsLawful layout after
  token_lawful own_root roots slots = step_lawful layout start below after token (Leaves []) lawful grown size behind token_is_generation node_live
      (λ n there. elim (eqb_tells n map) [
        | inl same ↦ rw (same.1, gen_here) (trie_dead layout after token (map_root layout after map) token_live own_root)
        | inr differs ↦ rw (gen_other n there differs.1, roots n there differs.1) (kept_trie (map_generation layout start n) (map_root layout start n) (lawful.maps n there))
      ])
      (λ n there zero. elim (eqb_tells n map) [
        | inl same ↦ absurd (omega (arith, some_token, sym gen_here ∙ (ap (map_generation layout after) (sym same.1) ∙ zero)))
        | inr differs ↦ roots n there differs.1 ∙ lawful.none n there (sym (gen_other n there differs.1) ∙ zero)
      ])
      slots
      (λ n there. elim (eqb_tells n map) [
        | inl same ↦ rw (same.1, gen_here) token_is_generation
        | inr differs ↦ rw (gen_other n there differs.1)
            (step_generation layout start below after token (Leaves []) lawful grown size behind (map_generation layout start n) (lawful.map_generations n there))
      ])
      (λ one other one_in other_in same some. elim (eqb_tells one map) [
        | inl here ↦ elim (eqb_tells other map) [
          | inl there ↦ here.1 ∙ sym there.1
          | inr differs ↦ absurd (not_old (subst (IsGeneration layout start)
              (sym (gen_other other other_in differs.1) ∙ (sym same ∙ (ap (map_generation layout after) here.1 ∙ gen_here))) (lawful.map_generations other other_in)))
        ]
        | inr differs ↦ elim (eqb_tells other map) [
          | inl there ↦ absurd (not_old (subst (IsGeneration layout start)
              (sym (gen_other one one_in differs.1) ∙ (same ∙ (ap (map_generation layout after) there.1 ∙ gen_here))) (lawful.map_generations one one_in)))
          | inr apart ↦ lawful.apart one other one_in other_in (sym (gen_other one one_in differs.1) ∙ (same ∙ gen_other other other_in apart.1)) (omega (arith, some, gen_other one one_in differs.1))
        ]
      ])

  pub token_may : MayBecome layout start after
  token_may = record {
    counts = λ stripe there. omega (arith, behind_count layout below after behind stripe, grown.counts stripe there);
    kept = λ block d dead. all_kept block d;
    retired = λ number d is dead live. dead (lives number (inr (d, is)) live).0;
  }

-- ---- the generation's cell is set to the token

module _ (layout : Layout) (start below : List ℕ) (map token : ℕ) (lawful : IsLawful layout start) (within : map < layout.maps) (drew : DrewToken layout start below token) where
  abbrev renewed : List ℕ
  renewed = set below (generation_at layout map) token

  grown_below : Grown layout token (Leaves []) start below
  grown_below = token_grown layout start below token (omega (arith, lawful.size)) drew

  renewed_behind : SameBehind layout below renewed
  renewed_behind = behind_set layout below (generation_at layout map) token (omega (arith, within))

  renewed_here : map_generation layout renewed map ≡ token
  renewed_here = get_or-set_same below (generation_at layout map) token 0 (omega (arith, within, lawful.size, grown_below.size))

  renewed_other : (n : ℕ) → n < layout.maps → n ≢ map → map_generation layout renewed n ≡ map_generation layout start n
  renewed_other n there differs = get_or-set_other below (generation_at layout map) (generation_at layout n) token 0 (λ same. differs (omega (arith, same)))
      ∙ maps_grown layout token (Leaves []) start below grown_below n there

  pub renewed_root : (n : ℕ) → n < layout.maps → map_root layout renewed n ≡ map_root layout start n
  renewed_root n there = get_or-set_other below (generation_at layout map) (root_at layout n) token 0 (λ same. omega (arith, same)) ∙ grown_below.others (root_at layout n) (omega (arith, there))

  pub renewed_slot : (snap : ℕ) → snap < layout.snaps → slot_root layout renewed snap ≡ slot_root layout start snap
  renewed_slot snap there = get_or-set_other below (generation_at layout map) (slot_at layout snap) token 0 (λ same. omega (arith, same, within)) ∙ grown_below.others (slot_at layout snap) (omega (arith, there))

  renewed_size : length renewed ≡ length below
  renewed_size = length-set below (generation_at layout map) token

  -- all tries stand as they did
  pub renewed_stands : (root : ℕ) (tree : Tree) → IsTrie layout start root tree → IsTrie layout renewed root tree
  renewed_stands root tree is = kept_stands layout start below renewed map token lawful within drew renewed_size renewed_behind renewed_here renewed_other root tree is

  -- one without live blocks has none either
  pub renewed_kept : (root : ℕ) → HasTrie layout start 0 root → HasTrie layout renewed 0 root
  renewed_kept root has = kept_trie layout start below renewed map token lawful within drew renewed_size renewed_behind renewed_here renewed_other 0 root has

  -- and the map's own is one of them now
  pub renewed_dead : HasTrie layout renewed 0 (map_root layout start map)
  renewed_dead = retired layout start below renewed map token lawful within drew renewed_size renewed_behind renewed_here renewed_other

  pub renewed_lawful : IsLawful layout renewed
  renewed_lawful = token_lawful layout start below renewed map token lawful within drew renewed_size renewed_behind renewed_here renewed_other
      (rw (renewed_root map within) renewed_dead) (λ n there differs. renewed_root n there) (λ snap there. rw (renewed_slot snap there) (renewed_kept (slot_root layout start snap) (lawful.slots snap there)))

  pub renewed_may : MayBecome layout start renewed
  renewed_may = token_may layout start below renewed map token lawful within drew renewed_size renewed_behind renewed_here renewed_other

-- ---- a root is set to a trie without live blocks

module _ (layout : Layout) (heap : List ℕ) (cell root : ℕ) (lawful : IsLawful layout heap) (low : cell < layout.refs + 2 * layout.maps + layout.snaps)
    (no_generation : (n : ℕ) → n < layout.maps → generation_at layout n ≢ cell) where
  abbrev set_root : List ℕ
  set_root = set heap cell root

  set_behind : SameBehind layout heap set_root
  set_behind = behind_set layout heap cell root low

  set_generations : (n : ℕ) → n < layout.maps → map_generation layout set_root n ≡ map_generation layout heap n
  set_generations n there = get_or-set_other heap cell (generation_at layout n) root 0 (no_generation n there)

  set_live : (number : ℕ) → IsLive layout set_root number → IsLive layout heap number
  set_live number live = live_before layout heap set_root number set_generations live

  set_trie : (own r : ℕ) → HasTrie layout heap own r → HasTrie layout set_root own r
  set_trie own r has = trie_kept layout heap set_root own r has lawful.block_generations
      (blocks_any (λ block other. SameBlock layout heap set_root block) has.tree (λ block other. behind_block layout heap set_root set_behind block))
      (behind_drawn layout heap set_root set_behind) (λ number is live. set_live number live)

  pub set_stands : (r : ℕ) (tree : Tree) → IsTrie layout heap r tree → IsTrie layout set_root r tree
  set_stands r tree is = record {
    stands = stands_kept layout heap set_root r tree (blocks_any (λ block other. SameBlock layout heap set_root block) tree (λ block other. behind_block layout heap set_root set_behind block)) is.stands;
    drawn = blocks_weaker (λ block other. IsDrawn layout heap block) (λ block other. IsDrawn layout set_root block) tree (λ block other d. behind_drawn layout heap set_root set_behind block d) is.drawn;
    shaped = is.shaped;
  }

  pub set_lawful : ((map : ℕ) → map < layout.maps → HasTrie layout heap (map_generation layout heap map) (map_root layout set_root map))
      → ((map : ℕ) → map < layout.maps → map_generation layout heap map ≡ 0 → map_root layout set_root map ≡ 0)
      → ((snap : ℕ) → snap < layout.snaps → HasTrie layout heap 0 (slot_root layout set_root snap)) → IsLawful layout set_root
  set_lawful maps none slots = step_lawful layout heap heap set_root 0 (Leaves []) lawful (grown_none layout 0 (Leaves []) heap) (length-set heap cell root) set_behind (inl refl)
      (λ block d node live. set_live (generation layout heap block) live)
      (λ n there. rw (set_generations n there) (set_trie (map_generation layout heap n) (map_root layout set_root n) (maps n there)))
      (λ n there zero. none n there (sym (set_generations n there) ∙ zero))
      (λ snap there. set_trie 0 (slot_root layout set_root snap) (slots snap there))
      (λ n there. rw (set_generations n there) (behind_generation layout heap set_root set_behind (map_generation layout heap n) (lawful.map_generations n there)))
      (λ one other one_in other_in same some. lawful.apart one other one_in other_in (sym (set_generations one one_in) ∙ (same ∙ set_generations other other_in)) (omega (arith, some, set_generations one one_in)))

  pub set_may : MayBecome layout heap set_root
  set_may = record {
    counts = λ stripe there. omega (arith, behind_count layout heap set_root set_behind stripe);
    kept = λ block d dead. behind_block layout heap set_root set_behind block;
    retired = λ number d is dead live. dead (set_live number live);
  }

pub slot_set : (layout : Layout) (heap : List ℕ) (snap root : ℕ) → IsLawful layout heap → snap < layout.snaps → HasTrie layout heap 0 root → IsLawful layout (set heap (slot_at layout snap) root)
slot_set layout heap snap root lawful within dead =
    let other = λ (cell : ℕ) (differs : cell ≢ slot_at layout snap). get_or-set_other heap (slot_at layout snap) cell root 0 differs in
    set_lawful layout heap (slot_at layout snap) root lawful (omega (arith, within)) (λ n there same. omega (arith, same, there))
    (λ n there. rw (other (root_at layout n) (λ same. omega (arith, same, there))) (lawful.maps n there))
    (λ n there zero. other (root_at layout n) (λ same. omega (arith, same, there)) ∙ lawful.none n there zero)
    (λ s there. elim (eqb_tells s snap) [
      | inl same ↦ rw (same.1, get_or-set_same heap (slot_at layout snap) root 0 (omega (arith, within, lawful.size))) dead
      | inr differs ↦ rw (other (slot_at layout s) (λ same. differs.1 (omega (arith, same)))) (lawful.slots s there)
    ])

pub root_set : (layout : Layout) (heap : List ℕ) (map root : ℕ) → IsLawful layout heap → map < layout.maps → 0 < map_generation layout heap map → HasTrie layout heap 0 root
    → IsLawful layout (set heap (root_at layout map) root)
root_set layout heap map root lawful within some dead =
    let other = λ (cell : ℕ) (differs : cell ≢ root_at layout map). get_or-set_other heap (root_at layout map) cell root 0 differs in
    let live : IsLive layout heap (map_generation layout heap map) = record { map = map; map_in = within; is = refl; some = some } in
    set_lawful layout heap (root_at layout map) root lawful (omega (arith, within)) (λ n there same. omega (arith, same))
    (λ n there. elim (eqb_tells n map) [
      | inl same ↦ rw (same.1, get_or-set_same heap (root_at layout map) root 0 (omega (arith, within, lawful.size))) (trie_dead layout heap (map_generation layout heap map) root live dead)
      | inr differs ↦ rw (other (root_at layout n) (λ same. differs.1 (omega (arith, same)))) (lawful.maps n there)
    ])
    (λ n there zero. elim (eqb_tells n map) [
      | inl same ↦ absurd (omega (arith, some, ap (map_generation layout heap) same.1, zero))
      | inr differs ↦ other (root_at layout n) (λ same. differs.1 (omega (arith, same))) ∙ lawful.none n there zero
    ])
    (λ s there. rw (other (slot_at layout s) (λ same. omega (arith, same, within))) (lawful.slots s there))

-- ---- snapshots and shares

module _ (layout : Layout) (start below : List ℕ) (map token : ℕ) (lawful : IsLawful layout start) (within : map < layout.maps) (drew : DrewToken layout start below token) where
  abbrev heap_renewed : List ℕ
  heap_renewed = set below (generation_at layout map) token

  module _ (snap : ℕ) (snap_in : snap < layout.snaps) where
    abbrev heap_taken : List ℕ
    heap_taken = set heap_renewed (slot_at layout snap) (map_root layout start map)

    pub snapshot_lawful : IsLawful layout heap_taken
    snapshot_lawful = slot_set layout heap_renewed snap (map_root layout start map) (renewed_lawful layout start below map token lawful within drew) snap_in (renewed_dead layout start below map token lawful within drew)

    pub snapshot_may : MayBecome layout start heap_taken
    snapshot_may = may_go_on layout start heap_renewed heap_taken lawful (renewed_may layout start below map token lawful within drew)
        (set_may layout heap_renewed (slot_at layout snap) (map_root layout start map) (renewed_lawful layout start below map token lawful within drew) (omega (arith, snap_in)) (λ n there same. omega (arith, same, there)))

    pub snapshot_stands : (root : ℕ) (tree : Tree) → IsTrie layout start root tree → IsTrie layout heap_taken root tree
    snapshot_stands root tree is = set_stands layout heap_renewed (slot_at layout snap) (map_root layout start map) (renewed_lawful layout start below map token lawful within drew) (omega (arith, snap_in))
        (λ n there same. omega (arith, same, there)) root tree (renewed_stands layout start below map token lawful within drew root tree is)

module _ (layout : Layout) (start below second : List ℕ) (from into token other_token : ℕ) (lawful : IsLawful layout start) (from_in : from < layout.maps) (into_in : into < layout.maps)
    (drew : DrewToken layout start below token) (drew_other : DrewToken layout (set below (generation_at layout from) token) second other_token) where
  abbrev heap_first : List ℕ
  heap_first = set below (generation_at layout from) token

  abbrev heap_second : List ℕ
  heap_second = set second (generation_at layout into) other_token

  abbrev heap_shared : List ℕ
  heap_shared = set heap_second (root_at layout into) (map_root layout start from)

  first_lawful : IsLawful layout heap_first
  first_lawful = renewed_lawful layout start below from token lawful from_in drew

  second_lawful : IsLawful layout heap_second
  second_lawful = renewed_lawful layout heap_first second into other_token first_lawful into_in drew_other

  shared_dead : HasTrie layout heap_second 0 (map_root layout start from)
  shared_dead = renewed_kept layout heap_first second into other_token first_lawful into_in drew_other (map_root layout start from) (renewed_dead layout start below from token lawful from_in drew)

  into_live : 0 < map_generation layout heap_second into
  into_live = rw (renewed_here layout heap_first second into other_token first_lawful into_in drew_other) (token_some layout heap_first second other_token drew_other)

  pub share_lawful : IsLawful layout heap_shared
  share_lawful = root_set layout heap_second into (map_root layout start from) second_lawful into_in into_live shared_dead

  pub share_may : MayBecome layout start heap_shared
  share_may = may_go_on layout start heap_first heap_shared lawful (renewed_may layout start below from token lawful from_in drew)
      (may_go_on layout heap_first heap_second heap_shared first_lawful (renewed_may layout heap_first second into other_token first_lawful into_in drew_other)
      (set_may layout heap_second (root_at layout into) (map_root layout start from) second_lawful (omega (arith, into_in)) (λ n there same. omega (arith, same))))

  pub share_stands : (root : ℕ) (tree : Tree) → IsTrie layout start root tree → IsTrie layout heap_shared root tree
  share_stands root tree is = set_stands layout heap_second (root_at layout into) (map_root layout start from) second_lawful (omega (arith, into_in)) (λ n there same. omega (arith, same)) root tree
      (renewed_stands layout heap_first second into other_token first_lawful into_in drew_other root tree (renewed_stands layout start below from token lawful from_in drew root tree is))
