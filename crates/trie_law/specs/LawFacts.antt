-- A heap may stay as it is, and what it may become in steps it may become in one. They stand in specs/ because the impl of `Law` cites them.
use Rattle.std.specs.Prelude.{◌≡◌, ℕ, suc, ◌+◌, ◌*◌, ◌/◌, ◌%◌, ◌<◌, ◌≤◌, ◌⊎◌, List}
use Rattle.std.proofs.Common.{◌∙◌, ap, inl, inr, refl, subst, sym}
use Rattle.std.proofs.Math.Nat.{add-mul-mod_self_left, le_refl, le_trans, lt_irrefl, lt_of_lt_of_le, mul_assoc, zero-lt-suc}
use Rattle.stm_model.specs.declared.sizes.Layout.{Layout}
use Rattle.trie_law.specs.Blocks.{IsDrawn, IsNode, IsToken, drawn_count, generation, kind, word}
use Rattle.trie_law.specs.Law.{IsGeneration, IsLawful, IsLive, IsLiveBlock, MayBecome}

-- a heap may stay as it is
pub may_stay : (layout : Layout) (heap : List ℕ) → MayBecome layout heap heap
may_stay layout heap = record {
  counts = λ stripe within. le_refl (drawn_count layout heap stripe);
  kept = λ block drawn dead. record { same = λ index within. refl };
  retired = λ token drawn is dead. dead;
}

-- what is drawn stays drawn while no count falls
pub drawn_later : (layout : Layout) (before after : List ℕ) (block : ℕ)
    → ((stripe : ℕ) → stripe < layout.stripes → drawn_count layout before stripe ≤ drawn_count layout after stripe)
    → IsDrawn layout before block → IsDrawn layout after block
drawn_later layout before after block counts d = record {
  stripe = d.stripe;
  place = d.place;
  stripe_in = d.stripe_in;
  place_in = d.place_in;
  drawn = lt_of_lt_of_le d.drawn (counts d.stripe d.stripe_in);
  is = d.is;
}

-- no map ever takes a generation again that was given up
stays_dead : (layout : Layout) (before after : List ℕ) (number : ℕ) → MayBecome layout before after → IsGeneration layout before number
    → ¬ IsLive layout before number → ¬ IsLive layout after number
stays_dead layout before after number may (inl none) dead live = lt_irrefl 0 (subst (λ n. 0 < n) none live.some)
stays_dead layout before after number may (inr token) dead live = may.retired number token.0 token.1 dead live

-- the number is 3 or more
AtLeastThree : ℕ → Type 0
AtLeastThree (suc (suc (suc n))) = Unit {0}
AtLeastThree n = ⊥

token_kind : (layout : Layout) (heap : List ℕ) (block : ℕ) → IsToken layout heap block → kind layout heap block ≡ 3
token_kind layout heap block is = ap (λ header. header % 4) is ∙ (ap (λ n. (3 + n) % 4) (mul_assoc 4 16 block) ∙ add-mul-mod_self_left 3 4 (16 * block))

-- no token is a branch or a leaf
token_apart : (layout : Layout) (heap : List ℕ) (block : ℕ) → IsToken layout heap block → ¬ IsNode layout heap block
unfolding AtLeastThree
token_apart layout heap block is (inl branch) = subst AtLeastThree (sym (token_kind layout heap block is) ∙ branch) tt
token_apart layout heap block is (inr leaf) = subst AtLeastThree (sym (token_kind layout heap block is) ∙ leaf) tt

node_as : (layout : Layout) (heap other : List ℕ) (block : ℕ) → word layout heap block 0 ≡ word layout other block 0 → IsNode layout heap block → IsNode layout other block
node_as layout heap other block same node = subst (λ header. (header % 4 ≡ 1) ⊎ (header % 4 ≡ 2)) same node

-- what may be done in two steps may be done in one
pub may_go_on : (layout : Layout) (first second third : List ℕ) → IsLawful layout first
    → MayBecome layout first second → MayBecome layout second third → MayBecome layout first third
may_go_on layout first second third lawful one two = record {
  counts = λ stripe within. le_trans (one.counts stripe within) (two.counts stripe within);
  kept = λ block drawn dead.
      let kept = one.kept block drawn dead in
      let header : word layout second block 0 ≡ word layout first block 0 = kept.same 0 (zero-lt-suc 17) in
      let still : ¬ IsLiveBlock layout second block = λ alive.
      let node : IsNode layout first block = node_as layout second first block header alive.node in
      let live : IsLive layout second (generation layout first block) = subst (λ word. IsLive layout second (word / 64)) header alive.live in
      stays_dead layout first second (generation layout first block) one (lawful.block_generations block drawn)
      (λ earlier. dead (record { node = node; live = earlier })) live
      in
      let on = two.kept block (drawn_later layout first second block one.counts drawn) still in
      record { same = λ index within. on.same index within ∙ kept.same index within };
  retired = λ token drawn is dead.
      let kept = one.kept token drawn (λ alive. token_apart layout first token is alive.node) in
      two.retired token (drawn_later layout first second token one.counts drawn) (kept.same 0 (zero-lt-suc 17) ∙ is) (one.retired token drawn is dead);
}
