-- A call came back from the chain behind a leaf. The leaf is written in front of what it made: a new one, a copy, or the leaf itself.
use Rattle.std.proofs.Common.{◌≡◌, ◌≢◌, ℕ, ◌<◌, ◌≤◌, ◌⊎◌, Bool, true, false, cond, nat_eq, ◌&&◌, List, ◌∷◌, length, refl, sym, ◌∙◌, subst, arith, inl, inr}
use Rattle.std.proofs.lemmas.Bool.Decides.{eqb_tells}
use Rattle.stm_model.specs.declared.sizes.Layout.{Layout}
use Rattle.stm_model.specs.Layouts.{cell_count}
use Rattle.trie_law.specs.Blocks.{IsDrawn, SameBlock, generation, kind, word}
use Rattle.trie_law.specs.Growing.{Drew, Filled, Grown, IsHanded, IsMadeFrom, IsWritable}
use Rattle.trie_law.specs.Tries.{EachBlock, IsLeafAt, Leaf, Leaves, Tree, path_count}
use Rattle.trie_law.proofs.Growth.{drawn_filled, drawn_grown, fresh, grown_none, grown_then, new_drawn, new_grown, place_grown, place_other, stays, still_drawn}
use Rattle.trie_law.proofs.Made.{leaf_has_none, no_path, stands_apart, undrawn_apart}
use Rattle.trie_law.proofs.Trees.{HeaderSays, blocks_weaker, chain_paths, each_on_path, headers_say, not_on_path, on_path, path_here}

one_most : (test : Bool) → cond {A = ℕ} test 1 0 ≤ 1
one_most true = omega arith
one_most false = omega arith

head_none : (own y : ℕ) (leaf : Leaf) → nat_eq y leaf.block ≡ false → cond {A = ℕ} (nat_eq y leaf.block && nat_eq own leaf.generation) 1 0 ≡ 0
head_none own y leaf differs = rw differs refl

-- ---- a new leaf

module _ (layout : Layout) (start below drawn after : List ℕ) (own : ℕ) (handed : Tree) (next w : ℕ) (leaf : Leaf) (chain : List Leaf)
    (grown : Grown layout own handed start below) (made : IsMadeFrom layout own start below handed next (Leaves chain)) (size : cell_count layout ≤ length below)
    (drew : Drew layout below drawn w) (filled : Filled layout drawn after w)
    (is_own : leaf.generation ≡ own) (is : IsLeafAt layout after w leaf) (behind : word layout after w 17 ≡ next) where
  leaf_fresh : ¬ IsDrawn layout below w
  leaf_fresh = fresh layout below drawn w drew

  leaf_fresh_start : ¬ IsDrawn layout start w
  leaf_fresh_start d = leaf_fresh (drawn_grown layout own handed start below w grown d)

  leaf_drawn : IsDrawn layout after w
  leaf_drawn = new_drawn layout own handed below drawn after w size drew filled

  pub leaf_new : Grown layout own handed start after × IsMadeFrom layout own start after handed w (Leaves (leaf ∷ chain))
  leaf_new = (
    grown_then layout own handed handed handed start below after (λ y may. may) (λ y d may. may) grown
        (new_grown layout own handed below drawn after w size drew filled (omega (arith, is.header, is.room, is_own))
        (λ all. leaf_has_none layout after w (omega (arith, is.header)))),
    record {
      stands = (
        is,
        rw behind (stands_apart layout below after w next (Leaves chain) (λ y d differs. stays layout own handed below drawn after w size drew filled y d) made.drawn
            (undrawn_apart layout below w (Leaves chain) made.drawn leaf_fresh) made.stands),
      );
      drawn = (
        rw is.is leaf_drawn,
        blocks_weaker (λ y g. IsDrawn layout below y) (λ y g. IsDrawn layout after y) (Leaves chain) (λ y g d. still_drawn layout own handed below drawn after w size drew filled y d) made.drawn,
      );
      from = (inl is_own, made.from);
      old = λ some y d. elim (eqb_tells y leaf.block) [
        | inl same ↦ absurd (leaf_fresh_start (subst (IsDrawn layout start) (same.1 ∙ is.is) d))
        | inr differs ↦ omega (arith, chain_paths own y leaf chain, head_none own y leaf differs.0, made.old some y d)
      ];
      once = λ some y. elim (eqb_tells y leaf.block) [
        | inl same ↦
            let none : path_count own y (Leaves chain) ≡ 0 = subst (λ z. path_count own z (Leaves chain) ≡ 0) (sym (same.1 ∙ is.is)) (no_path layout below own w (Leaves chain) made.drawn leaf_fresh) in
            omega (arith, chain_paths own y leaf chain, none, one_most (nat_eq y leaf.block && nat_eq own leaf.generation))
        | inr differs ↦ omega (arith, chain_paths own y leaf chain, head_none own y leaf differs.0, made.once some y)
      ];
    },
  )

-- ---- a leaf of a chain that was handed down

module _ (layout : Layout) (start below : List ℕ) (own block next : ℕ) (first leaf : Leaf) (rest chain : List Leaf)
    (handed : IsHanded layout start own block (Leaves (first ∷ rest)))
    (grown : Grown layout own (Leaves rest) start below) (made : IsMadeFrom layout own start below (Leaves rest) next (Leaves chain)) where
  may_more : (y : ℕ) → IsWritable own (Leaves rest) y → IsWritable own (Leaves (first ∷ rest)) y
  may_more y is = (is.0, omega (arith, is.1, chain_paths own y first rest))

  grown_more : Grown layout own (Leaves (first ∷ rest)) start below
  grown_more = grown_then layout own (Leaves rest) (Leaves rest) (Leaves (first ∷ rest)) start below below may_more (λ y d is. may_more y is) grown (grown_none layout own (Leaves rest) below)

  made_more : IsMadeFrom layout own start below (Leaves (first ∷ rest)) next (Leaves chain)
  made_more = record {
    stands = made.stands;
    drawn = made.drawn;
    once = made.once;
    from = blocks_weaker (λ y g. (g ≡ own) ⊎ (0 < path_count g y (Leaves rest))) (λ y g. (g ≡ own) ⊎ (0 < path_count g y (Leaves (first ∷ rest)))) (Leaves chain)
        (λ y g either. elim either [ inl same ↦ inl same | inr path ↦ inr (omega (arith, path, chain_paths g y first rest)) ]) made.from;
    old = λ some y d. omega (arith, made.old some y d, chain_paths own y first rest);
  }

  first_drawn : IsDrawn layout start block
  first_drawn = subst (IsDrawn layout start) handed.stands.0.is handed.drawn.0

  first_apart : ¬ IsWritable own (Leaves rest) block
  first_apart is =
      let says = on_path (HeaderSays layout start) own block (Leaves rest) (headers_say layout start (word layout start block 17) (Leaves rest) handed.stands.1) is.1 in
      let same : first.generation ≡ own = omega (arith, says.generation, handed.stands.0.header, handed.stands.0.room) in
      let here : cond {A = ℕ} (nat_eq block first.block && nat_eq own first.generation) 1 0 ≡ 1 = rw (handed.stands.0.is, same) (path_here block own) in
      omega (arith, handed.owned.once is.0 block, is.1, here, chain_paths own block first rest)

  -- calls behind the leaf leave it alone
  pub first_kept : SameBlock layout start below block
  first_kept = grown.kept block first_drawn first_apart

  -- ---- as a copy

  pub leaf_copied : (drawn after : List ℕ) (w : ℕ) → cell_count layout ≤ length below → Drew layout below drawn w → Filled layout drawn after w
      → leaf.generation ≡ own → IsLeafAt layout after w leaf → word layout after w 17 ≡ next
      → Grown layout own (Leaves (first ∷ rest)) start after × IsMadeFrom layout own start after (Leaves (first ∷ rest)) w (Leaves (leaf ∷ chain))
  leaf_copied drawn after w size drew filled is_own is behind =
      leaf_new layout start below drawn after own (Leaves (first ∷ rest)) next w leaf chain grown_more made_more size drew filled is_own is behind

  -- ---- in place

  module _ (after : List ℕ) (some : 0 < own) (first_own : first.generation ≡ own) (filled : Filled layout below after block)
      (is_own : leaf.generation ≡ own) (is : IsLeafAt layout after block leaf) (behind : word layout after block 17 ≡ next) where
    first_there : IsDrawn layout below block
    first_there = drawn_grown layout own (Leaves rest) start below block grown first_drawn

    path_to_first : cond {A = ℕ} (nat_eq block first.block && nat_eq own first.generation) 1 0 ≡ 1
    path_to_first = rw (handed.stands.0.is, first_own) (path_here block own)

    none_behind : path_count own block (Leaves rest) ≡ 0
    none_behind = omega (arith, handed.owned.once some block, path_to_first, chain_paths own block first rest)

    header_before : word layout below block 0 ≡ word layout start block 0
    header_before = first_kept.same 0 (omega arith)

    same_kind : kind layout after block ≡ kind layout below block
    same_kind = omega (arith, is.header, header_before, handed.stands.0.header)

    same_generation : generation layout after block ≡ generation layout below block
    same_generation = omega (arith, is.header, is.room, is_own, header_before, handed.stands.0.header, handed.stands.0.room, first_own)

    behind_apart : EachBlock (λ y g. y ≢ block) (Leaves chain)
    behind_apart = not_on_path layout below next block own (Leaves chain) made.stands
        (omega (arith, header_before, handed.stands.0.header, handed.stands.0.room, first_own)) (omega (arith, made.old some block first_drawn, none_behind))

    kept_elsewhere : (y : ℕ) → IsDrawn layout below y → y ≢ block → SameBlock layout below after y
    kept_elsewhere y d differs = place_other layout own (Leaves (first ∷ rest)) below after block first_there filled same_kind same_generation y (omega (arith, d.is)) differs

    -- the new leaf is found where the old one was
    same_head : (y : ℕ) → cond {A = ℕ} (nat_eq y leaf.block && nat_eq own leaf.generation) 1 0 ≡ cond (nat_eq y first.block && nat_eq own first.generation) 1 0
    same_head y = rw (is.is, is_own, handed.stands.0.is, first_own) refl

    pub leaf_in_place : Grown layout own (Leaves (first ∷ rest)) start after × IsMadeFrom layout own start after (Leaves (first ∷ rest)) block (Leaves (leaf ∷ chain))
    leaf_in_place = (
      grown_then layout own (Leaves (first ∷ rest)) (Leaves (first ∷ rest)) (Leaves (first ∷ rest)) start below after (λ y may. may) (λ y d may. may) grown_more
          (place_grown layout own (Leaves (first ∷ rest)) below after block first_there filled same_kind same_generation
          (some, omega (arith, path_to_first, chain_paths own block first rest)) (λ token. omega (arith, token, header_before, handed.stands.0.header))
          (λ all. leaf_has_none layout after block (omega (arith, is.header)))),
      record {
        stands = (is, rw behind (stands_apart layout below after block next (Leaves chain) kept_elsewhere made.drawn behind_apart made.stands));
        drawn = (
          rw is.is (drawn_filled layout below after block filled block first_there),
          blocks_weaker (λ y g. IsDrawn layout below y) (λ y g. IsDrawn layout after y) (Leaves chain) (λ y g d. drawn_filled layout below after block filled y d) made.drawn,
        );
        from = (inl is_own, made_more.from);
        old = λ so y d. omega (arith, chain_paths own y leaf chain, chain_paths own y first rest, same_head y, made.old so y d);
        once = λ so y. elim (eqb_tells (path_count own y (Leaves (first ∷ rest))) (path_count own y (Leaves rest))) [
          | inl same ↦ omega (arith, chain_paths own y leaf chain, chain_paths own y first rest, same_head y, same.1, made.once so y)
          | inr differs ↦
              let there = on_path (λ z g. IsDrawn layout start z) own y (Leaves (first ∷ rest)) handed.drawn (omega (arith, differs.1, chain_paths own y first rest)) in
              omega (arith, chain_paths own y leaf chain, chain_paths own y first rest, same_head y, handed.owned.once so y, made.old so y there)
        ];
      },
    )

-- ---- the chain behind a leaf, where the leaf is taken out

pub chain_behind : (layout : Layout) (heap : List ℕ) (own block : ℕ) (first : Leaf) (rest : List Leaf) → IsHanded layout heap own block (Leaves (first ∷ rest))
    → IsMadeFrom layout own heap heap (Leaves (first ∷ rest)) (word layout heap block 17) (Leaves rest)
chain_behind layout heap own block first rest handed = record {
  stands = handed.stands.1;
  drawn = handed.drawn.1;
  from = blocks_weaker (λ y g. 0 < path_count g y (Leaves rest)) (λ y g. (g ≡ own) ⊎ (0 < path_count g y (Leaves (first ∷ rest)))) (Leaves rest)
      (λ y g path. inr (omega (arith, path, chain_paths g y first rest))) (each_on_path (Leaves rest));
  old = λ some y d. omega (arith, chain_paths own y first rest);
  once = λ some y. omega (arith, handed.owned.once some y, chain_paths own y first rest);
}
