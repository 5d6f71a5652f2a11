-- What stands behind a place of a job: its rows are the canonical ones, and it is within the limits.
use Rattle.std.proofs.Common.{◌≡◌, ℕ, suc, ◌+◌, ◌-◌, ◌<◌, ◌≤◌, Bool, true, ◌&&◌, nat_le, List, [], ◌∷◌, ◌++◌, length, map, flat_map, refl, sym, ap, ◌∙◌, arith, codes, append-nil, append_assoc}
use Rattle.std.proofs.lemmas.Bool.Decides.{nat_tests}
use Rattle.std.specs.List.{AllByRecursion}
use Rattle.text_lines.specs.Lines.{Row}
use Rattle.text_lines.proofs.Lists.{both as parts, and_true}
use Rattle.ledger_model.specs.Fits.{Places, is_register, fits, fits_step, each_fits, each_part_fits, block_fits, ScriptFits, WorkerFits, OpeningsAscend}
use Rattle.ledger_model.specs.declared.script.Script.{Script}
use Rattle.ledger_model.specs.declared.script.Statement.{Statement}
use Rattle.ledger_model.specs.declared.script.Statement.TheOpen as layer
use Rattle.ledger_model.specs.declared.script.Statement.TheVariants as made
use Rattle.ledger_model.specs.declared.script.Statement.TheFolds.{fold-roll-Statement}
use Rattle.script_text.specs.Standing.{Standing, Opener, OfEither, OfOr, rank}
use Rattle.script_text.specs.JobText.{Remainder, begin_with}
use Rattle.script_text.specs.Printing.{register_word, opening_line, steps_line, end_line, parts_lines, statement_step, statement_lines, block_lines, script_lines, worker_lines}
use Rattle.script_text.specs.Form.{FitsOnLine}
use Rattle.script_text.proofs.SpelledLines.{only, NamesWorker}

-- ---- the rows of what stands from some line on

abbrev pub Block : Type 0
Block = List Statement × List (List Statement)

abbrev pub further_lines : List (List Statement) → List Row
further_lines [] = []
further_lines (part ∷ parts) = (codes "or" ∷ []) ∷ (block_lines part ++ further_lines parts)

abbrev pub rest_lines : Block → List Row
rest_lines block = block_lines block.0 ++ (further_lines block.1 ++ end_line ∷ [])

abbrev pub blocks_lines : List Block → List Row
blocks_lines [] = []
blocks_lines (block ∷ blocks) = rest_lines block ++ blocks_lines blocks

-- behind the open blocks; the groups are the numbers of each line of steps
abbrev pub later_lines : List Script → List (List Script) → List (List ℕ) → List Row
later_lines scripts workers groups = flat_map script_lines scripts ++ (flat_map worker_lines workers ++ map steps_line groups)

abbrev pub rows_of : Remainder → List (List ℕ) → List Row
rows_of rest groups = map opening_line rest.openings ++ (blocks_lines rest.blocks ++ later_lines rest.scripts rest.workers groups)

-- ---- the limits of open blocks

-- the parts behind the present one, by what was opened
abbrev pub PartsFit : Places → ℕ → Opener → List (List Statement) → Type 0
PartsFit p left OfEither more = (0 < length more) × (each_part_fits left (map (λ part. map (fits p) part) more) ≡ true)
PartsFit p left OfOr more = each_part_fits left (map (λ part. map (fits p) part) more) ≡ true
PartsFit p left _ more = more ≡ []

abbrev pub BlocksFit : Places → List Opener → List Block → Type 0
BlocksFit p [] [] = Unit {0}
BlocksFit p [] (block ∷ blocks) = ⊥
BlocksFit p (opener ∷ openers) [] = ⊥
BlocksFit p (opener ∷ openers) (block ∷ blocks) =
    (block_fits p (33 - length (opener ∷ openers)) block.0 ≡ true) × PartsFit p (33 - length (opener ∷ openers)) opener block.1 × BlocksFit p openers blocks

-- What stands behind this place, which is behind the header, with its rows.
pub record Follows (p : Standing) (rest : Remainder) (rows : List Row) : Type 0 where
  pub refs : rest.refs ≡ 0
  pub openings : OpeningsAscend p.refs p.next rest.openings
  pub opened : AllByRecursion (λ opening. 0 < opening.1) rest.openings
  pub no_openings : 4 ≤ rank p.come_to → rest.openings ≡ []
  pub blocks : BlocksFit (only p.refs) p.openers rest.blocks
  pub scripts : AllByRecursion (ScriptFits (only p.refs)) rest.scripts
  pub few_scripts : p.scripts + length rest.scripts ≤ 4096
  pub no_scripts : (rank p.come_to ≡ 4 → ⊥) → rest.scripts ≡ []
  pub workers : AllByRecursion (WorkerFits (only p.refs)) rest.workers
  pub few_workers : p.workers + length rest.workers ≤ 16
  pub no_workers : 5 ≤ rank p.come_to → rest.workers ≡ []
  pub steps : p.steps + length rest.steps ≤ 262144
  pub named : AllByRecursion (NamesWorker (p.workers + length rest.workers)) rest.steps
  -- the numbers of each line of steps
  pub groups : List (List ℕ)
  pub sizes : AllByRecursion FitsOnLine groups
  pub joined : flat_map (λ group. group) groups ≡ rest.steps
  pub rows_are : rows ≡ rows_of rest groups

-- ---- lemmas on lists

pub bare : (openings : List (ℕ × ℕ)) (blocks : List Block) (more : List Row) → openings ≡ [] → blocks ≡ [] → map opening_line openings ++ (blocks_lines blocks ++ more) ≡ more
bare openings blocks more e f = ap (λ (os : List (ℕ × ℕ)). map opening_line os ++ (blocks_lines blocks ++ more)) e ∙ ap (λ (bs : List Block). blocks_lines bs ++ more) f

pub unopened : (openings : List (ℕ × ℕ)) (more : List Row) → openings ≡ [] → map opening_line openings ++ more ≡ more
unopened openings more e = ap (λ (os : List (ℕ × ℕ)). map opening_line os ++ more) e

pub no_blocks : (p : Places) (openers : List Opener) (blocks : List Block) → openers ≡ [] → BlocksFit p openers blocks → blocks ≡ []
no_blocks p [] [] e h = refl
no_blocks p [] (b ∷ blocks) e h = absurd h
no_blocks p (o ∷ openers) blocks e h = cc

pub no_openers : (p : Places) (openers : List Opener) → openers ≡ [] → BlocksFit p openers []
no_openers p [] e = tt
no_openers p (o ∷ openers) e = cc

pub lower : (refs low next : ℕ) (openings : List (ℕ × ℕ)) → low ≤ next → OpeningsAscend refs next openings → OpeningsAscend refs low openings
lower refs low next [] l h = tt
lower refs low next (o ∷ openings) l h = (omega (arith, l, h.0), h.1, h.2, h.3)

-- ---- a statement in front of the innermost block

pub begin_fits : (p : Places) (openers : List Opener) (blocks : List Block) (m : Statement) → 0 < length openers → fits p m (33 - length openers) ≡ true
    → BlocksFit p openers blocks → BlocksFit p openers (begin_with m blocks)
begin_fits p [] blocks m l f h = absurd (omega arith)
begin_fits p (o ∷ openers) [] m l f h = absurd h
begin_fits p (o ∷ openers) (b ∷ blocks) m l f h =
    (and_true (fits p m (33 - length (o ∷ openers))) (each_fits (33 - length (o ∷ openers)) (map (fits p) b.0)) f h.0, h.1, h.2)

pub begin_lines : (p : Places) (openers : List Opener) (blocks : List Block) (m : Statement) → 0 < length openers → BlocksFit p openers blocks
    → (more : List Row) → blocks_lines (begin_with m blocks) ++ more ≡ statement_lines m ++ (blocks_lines blocks ++ more)
begin_lines p [] blocks m l h more = absurd (omega arith)
begin_lines p (o ∷ openers) [] m l h more = absurd h
begin_lines p (o ∷ openers) (b ∷ blocks) m l h more =
    at (statement_lines m) (block_lines b.0) (further_lines b.1 ++ end_line ∷ []) (blocks_lines blocks) where
      at : (s a c d : List Row) → (((s ++ a) ++ c) ++ d) ++ more ≡ s ++ (((a ++ c) ++ d) ++ more)
      at s a c d =
          ap (λ (r : List Row). (r ++ d) ++ more) (append_assoc s a c)
          ∙ ap (λ (r : List Row). r ++ more) (append_assoc s (a ++ c) d)
          ∙ append_assoc s ((a ++ c) ++ d) more

-- ---- statements of several lines

pub inner_lines : (r : ℕ) (block : List Statement) → statement_lines (made.Inner r block) ≡ (codes "inner" ∷ register_word r ∷ []) ∷ (block_lines block ++ end_line ∷ [])
inner_lines r block = ap statement_lines (sym (made.rolls-Inner r block)) ∙ fold-roll-Statement (List Row) statement_step (layer.Inner r block)

pub late_lines : (block : List Statement) → statement_lines (made.Late block) ≡ (codes "late" ∷ []) ∷ (block_lines block ++ end_line ∷ [])
late_lines block = ap statement_lines (sym (made.rolls-Late block)) ∙ fold-roll-Statement (List Row) statement_step (layer.Late block)

parts_are : (first : List Statement) (more : List (List Statement)) → parts_lines (map (λ part. map statement_lines part) (first ∷ more)) ≡ block_lines first ++ further_lines more
parts_are first [] = sym (append-nil (block_lines first))
parts_are first (next ∷ more) = ap (λ (r : List Row). block_lines first ++ ((codes "or" ∷ []) ∷ r)) (parts_are next more)

pub either_lines : (first : List Statement) (more : List (List Statement)) → statement_lines (made.Either (first ∷ more)) ≡ (codes "either" ∷ []) ∷ rest_lines (first, more)
either_lines first more =
    ap statement_lines (sym (made.rolls-Either (first ∷ more))) ∙ fold-roll-Statement (List Row) statement_step (layer.Either (first ∷ more))
    ∙ ap (λ (r : List Row). (codes "either" ∷ []) ∷ (r ++ end_line ∷ [])) (parts_are first more)
    ∙ ap (λ (r : List Row). (codes "either" ∷ []) ∷ r) (append_assoc (block_lines first) (further_lines more) (end_line ∷ []))

pub inner_fits : (p : Places) (r : ℕ) (block : List Statement) (left : ℕ) → is_register r ≡ true → block_fits p left block ≡ true → fits p (made.Inner r block) (suc left) ≡ true
inner_fits p r block left f g =
    ap (λ (m : Statement). fits p m (suc left)) (sym (made.rolls-Inner r block)) ∙ ap (λ (h : ℕ → Bool). h (suc left)) (fold-roll-Statement (ℕ → Bool) (fits_step p) (layer.Inner r block))
    ∙ and_true (is_register r) (block_fits p left block) f g

pub late_fits : (p : Places) (block : List Statement) (left : ℕ) → block_fits p left block ≡ true → fits p (made.Late block) (suc left) ≡ true
late_fits p block left g =
    ap (λ (m : Statement). fits p m (suc left)) (sym (made.rolls-Late block)) ∙ ap (λ (h : ℕ → Bool). h (suc left)) (fold-roll-Statement (ℕ → Bool) (fits_step p) (layer.Late block))
    ∙ g

two_parts : {X : Type 0} (xs : List X) (n : ℕ) → 0 < length xs → length xs ≡ n → nat_le 2 (suc n) ≡ true
two_parts xs n l e = grind (arith, nat_tests)

mapped_length : {X Y : Type 0} (f : X → Y) (xs : List X) → length xs ≡ length (map f xs)
mapped_length f [] = refl
mapped_length f (x ∷ xs) = ap suc (mapped_length f xs)

pub either_fits : (p : Places) (first : List Statement) (more : List (List Statement)) (left : ℕ) → block_fits p left first ≡ true → 0 < length more
    → each_part_fits left (map (λ part. map (fits p) part) more) ≡ true → fits p (made.Either (first ∷ more)) (suc left) ≡ true
either_fits p first more left f l g =
    ap (λ (m : Statement). fits p m (suc left)) (sym (made.rolls-Either (first ∷ more))) ∙ ap (λ (h : ℕ → Bool). h (suc left)) (fold-roll-Statement (ℕ → Bool) (fits_step p) (layer.Either (first ∷ more)))
    ∙ and_true (nat_le 2 (suc (length (map (λ part. map (fits p) part) more)))) (block_fits p left first && each_part_fits left (map (λ part. map (fits p) part) more))
    (two_parts more (length (map (λ part. map (fits p) part) more)) l (mapped_length (λ part. map (fits p) part) more))
    (and_true (block_fits p left first) (each_part_fits left (map (λ part. map (fits p) part) more)) f g)
