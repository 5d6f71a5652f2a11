-- The meaning of a statement and what it asks, by its layer, and that folding a statement keeps it.
use Rattle.std.proofs.Common.{◌≡◌, List, [], ◌∷◌, map, refl, ap, subst, ◌∙◌}
use Rattle.ledger_model.specs.declared.script.Statement.{Statement}
use Rattle.ledger_model.specs.declared.script.Statement.TheOpen.{Statement-F}
use Rattle.ledger_model.specs.declared.script.Statement.TheOpen as layer
use Rattle.ledger_model.specs.declared.script.Statement.TheViews.{roll-Statement}
use Rattle.ledger_model.specs.declared.script.Statement.TheFolds.{map-Statement, fold-Statement, fold-roll-Statement, ind-Statement}
use Rattle.ledger_model.specs.Run.{State, Known, step, known, known_by, meaning}
use Rattle.ledger_model.specs.Talk.{Own, Next, Spoken, part_by, spoken, spoken_by}

pub meaning-roll : (x : Statement-F Statement) (s : State) → meaning (roll-Statement x) s ≡ step (map-Statement Statement Known known x) s
meaning-roll x s = ap (λ (part : Known). part.does s) (fold-roll-Statement Known known_by x)

pub says-roll : (x : Statement-F Statement) (s : Own) (next : Next) → (spoken (roll-Statement x)).says s next ≡ part_by (map-Statement Statement Spoken spoken x) s next
says-roll x s next = ap (λ (part : Spoken). part.says s next) (fold-roll-Statement Spoken spoken_by x)

-- ---- a statement is kept

-- a fold whose results keep their statement
module _ (X : Type 0) (by : Statement-F X → X) (itself : X → Statement) (keeps : (layer : Statement-F X) → itself (by layer) ≡ roll-Statement (map-Statement X Statement itself layer)) where
  abbrev folded : Statement → X
  folded = fold-Statement X by

  IsKept : Statement → Type 0
  IsKept m = itself (folded m) ≡ m

  -- a statement that is kept
  abbrev KeptOne : Type 0
  KeptOne = (m : Statement) × IsKept m

  abbrev plain : KeptOne → Statement
  plain one = one.0

  block_kept : (ones : List KeptOne) → map itself (map folded (map plain ones)) ≡ map plain ones
  unfolding IsKept
  block_kept [] = refl
  block_kept (one ∷ ones) = ap (λ (m : Statement). m ∷ map itself (map folded (map plain ones))) one.1 ∙ ap (λ (ms : List Statement). one.0 ∷ ms) (block_kept ones)

  parts_kept : (parts : List (List KeptOne)) → map (map itself) (map (map folded) (map (map plain) parts)) ≡ map (map plain) parts
  parts_kept [] = refl
  parts_kept (ones ∷ parts) =
      ap (λ (ms : List Statement). ms ∷ map (map itself) (map (map folded) (map (map plain) parts))) (block_kept ones)
      ∙ ap (λ (blocks : List (List Statement)). map plain ones ∷ blocks) (parts_kept parts)

  layer_kept : (y : Statement-F KeptOne)
      → map-Statement X Statement itself (map-Statement Statement X folded (map-Statement KeptOne Statement plain y)) ≡ map-Statement KeptOne Statement plain y
  layer_kept (layer.Inner r block) = ap (λ (b : List Statement). layer.Inner r b) (block_kept block)
  layer_kept (layer.Either parts) = ap (λ (b : List (List Statement)). layer.Either b) (parts_kept parts)
  layer_kept (layer.Late block) = ap (λ (b : List Statement). layer.Late b) (block_kept block)
  layer_kept _ = refl

  itself-folded : (m : Statement) → itself (folded m) ≡ m
  unfolding IsKept
  itself-folded = ind-Statement IsKept (λ x y are.
      let same = subst (λ (z : Statement-F Statement). map-Statement X Statement itself (map-Statement Statement X folded z) ≡ z) are (layer_kept y) in
      ap itself (fold-roll-Statement X by x) ∙ (keeps (map-Statement Statement X folded x) ∙ ap roll-Statement same))

  itself_folded : (block : List Statement) → map itself (map folded block) ≡ block
  itself_folded [] = refl
  itself_folded (m ∷ block) = ap (λ (k : Statement). k ∷ map itself (map folded block)) (itself-folded m) ∙ ap (λ (ks : List Statement). m ∷ ks) (itself_folded block)

pub itself-known : (m : Statement) → (known m).itself ≡ m
itself-known = itself-folded Known known_by (λ part. part.itself) (λ layer. refl)

pub itself_all : (block : List Statement) → map (λ part. part.itself) (map known block) ≡ block
itself_all = itself_folded Known known_by (λ part. part.itself) (λ layer. refl)

pub itself-spoken : (m : Statement) → (spoken m).itself ≡ m
itself-spoken = itself-folded Spoken spoken_by (λ part. part.itself) (λ layer. refl)

pub itself_spoken : (block : List Statement) → map (λ part. part.itself) (map spoken block) ≡ block
itself_spoken = itself_folded Spoken spoken_by (λ part. part.itself) (λ layer. refl)
