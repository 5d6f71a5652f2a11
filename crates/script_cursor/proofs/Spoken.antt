-- What a nested statement asks and how much it may take.
use Rattle.std.proofs.Common.{◌≡◌, ℕ, ◌+◌, List, [], ◌∷◌, ◌++◌, length, map, refl, ap, sym, ◌∙◌}
use Rattle.std.specs.Prelude.{sum, sum_by}
use Rattle.std.proofs.lemmas.List.Sums.{sum-map, sum_by-cons}
use Rattle.stm_model.specs.declared.access.Ask.TheVariants as ask
use Rattle.ledger_model.specs.Run.{Kept}
use Rattle.ledger_model.specs.Talk.{Next, Own, catching, first_of_them, level, spoken, tells}
use Rattle.ledger_model.specs.declared.script.Statement.{Statement}
use Rattle.ledger_model.specs.declared.script.Statement.TheOpen.{Statement-F}
use Rattle.ledger_model.specs.declared.script.Statement.TheOpen as layer
use Rattle.ledger_model.specs.declared.script.Statement.TheVariants as made
use Rattle.ledger_model.specs.declared.script.Statement.TheViews.{roll-Statement}
use Rattle.ledger_model.specs.declared.script.Statement.TheFolds.{fold-roll-Statement, map-Statement}
use Rattle.ledger_model.proofs.Meaning.{itself_spoken, says-roll}
use Rattle.script_cursor.specs.Cursors.{block_work, parts_work, work, work_by}

-- ---- what a statement asks

pub part_inner : (r : ℕ) (block : List Statement) (s : Own) (next : Next) → (spoken (made.Inner r block)).says s next ≡ level (map spoken block) s (catching r next)
part_inner r block s next = ap (λ (m : Statement). (spoken m).says s next) (sym (made.rolls-Inner r block)) ∙ says-roll (layer.Inner r block) s next

pub part_either : (parts : List (List Statement)) (s : Own) (next : Next) → (spoken (made.Either parts)).says s next ≡ first_of_them (map (map spoken) parts) s next
part_either parts s next = ap (λ (m : Statement). (spoken m).says s next) (sym (made.rolls-Either parts)) ∙ says-roll (layer.Either parts) s next

pub part_late : (body : List Statement) (s : Own) (next : Next)
    → (spoken (made.Late body)).says s next ≡ tells (ask.Later (length s.lates)) (next Kept (record s { lates = s.lates ++ body ∷ [] }))
part_late body s next =
    ap (λ (m : Statement). (spoken m).says s next) (sym (made.rolls-Late body)) ∙ says-roll (layer.Late body) s next ∙
    ap (λ (b : List Statement). tells (ask.Later (length s.lates)) (next Kept (record s { lates = s.lates ++ b ∷ [] }))) (itself_spoken body)

-- ---- how much a statement may take

work_is : (x : Statement-F Statement) (m : Statement) → roll-Statement x ≡ m → work m ≡ work_by (map-Statement Statement ℕ work x)
work_is x m e = ap work (sym e) ∙ fold-roll-Statement ℕ work_by x

block_sum : (block : List Statement) → sum (map work block) ≡ block_work block
unfolding block_work
block_sum block = sum-map work block

parts_sum : (parts : List (List Statement)) → sum_by (λ part. 5 + sum part) (map (map work) parts) ≡ parts_work parts
unfolding parts_work
parts_sum [] = refl
parts_sum (part ∷ parts) =
    let a = sum_by-cons (λ (numbers : List ℕ). 5 + sum numbers) (map work part) (map (map work) parts) in
    let b = sum_by-cons (λ (part : List Statement). 5 + block_work part) part parts in
    let c = parts_sum parts in
    rw (a, b, c, block_sum part) refl

pub work_inner : (r : ℕ) (block : List Statement) → work (made.Inner r block) ≡ 6 + block_work block
work_inner r block = work_is (layer.Inner r block) (made.Inner r block) (made.rolls-Inner r block) ∙ ap (λ (n : ℕ). 6 + n) (block_sum block)

pub work_either : (parts : List (List Statement)) → work (made.Either parts) ≡ 2 + parts_work parts
work_either parts = work_is (layer.Either parts) (made.Either parts) (made.rolls-Either parts) ∙ ap (λ (n : ℕ). 2 + n) (parts_sum parts)

pub work_late : (body : List Statement) → work (made.Late body) ≡ 6 + block_work body
work_late body = work_is (layer.Late body) (made.Late body) (made.rolls-Late body) ∙ ap (λ (n : ℕ). 6 + n) (block_sum body)
