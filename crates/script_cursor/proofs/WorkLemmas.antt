-- How much lists of statements, parts, before-commit bodies and frames may take.
use Rattle.std.proofs.Common.{◌≡◌, ℕ, zero, suc, ◌+◌, ◌≤◌, drop, take, Option, Some, option_to_list, List, [], ◌∷◌, ◌++◌, arith}
use Rattle.std.proofs.Math.Seq.{drop-nil}
use Rattle.std.proofs.lemmas.List.Sums.{sum_by-cons, sum_by_push, sum_by-take-le}
use Rattle.ledger_model.specs.declared.script.Statement.{Statement}
use Rattle.script_cursor.specs.declared.place.Frame.{Frame}
use Rattle.script_cursor.specs.Cursors.{block_work, frame_work, frames_work, lates_work, parts_work, work}

pub block_cons : (m : Statement) (block : List Statement) → block_work (m ∷ block) ≡ work m + block_work block
unfolding block_work
block_cons m block = sum_by-cons work m block

pub parts_cons : (part : List Statement) (parts : List (List Statement)) → parts_work (part ∷ parts) ≡ (5 + block_work part) + parts_work parts
unfolding parts_work
parts_cons part parts = sum_by-cons (λ (part : List Statement). 5 + block_work part) part parts

pub lates_cons : (body : List Statement) (lates : List (List Statement)) → lates_work (body ∷ lates) ≡ (4 + block_work body) + lates_work lates
unfolding lates_work
lates_cons body lates = sum_by-cons (λ (body : List Statement). 4 + block_work body) body lates

pub frames_push : (frames : List Frame) (frame : Frame) → frames_work (frames ++ frame ∷ []) ≡ frames_work frames + frame_work frame
unfolding frames_work
frames_push frames frame = sum_by_push frame_work frames frame

pub frames_popped : (frames rest : List Frame) (popped : Option Frame) (f frame : Frame)
    → frames ≡ rest ++ option_to_list popped → popped ≡ Some f → f ≡ frame → frames_work frames ≡ frames_work rest + frame_work frame
frames_popped frames rest popped f frame e is same = rw (e, is, same) (frames_push rest frame)

pub lates_push : (begun : ℕ) (lates : List (List Statement)) (body : List Statement)
    → lates_work (drop begun (lates ++ body ∷ [])) ≤ lates_work (drop begun lates) + (4 + block_work body)
unfolding lates_work
lates_push zero lates body = let e = sum_by_push (λ (body : List Statement). 4 + block_work body) lates body in omega (arith, e)
lates_push (suc begun) [] body = rw (drop-nil begun) (omega arith)
lates_push (suc begun) (late ∷ lates) body = lates_push begun lates body

pub lates_take : (begun count : ℕ) (lates : List (List Statement)) → lates_work (drop begun (take count lates)) ≤ lates_work (drop begun lates)
unfolding lates_work
lates_take zero count lates = sum_by-take-le (λ (body : List Statement). 4 + block_work body) lates count
lates_take (suc begun) zero lates = omega arith
lates_take (suc begun) (suc count) [] = omega arith
lates_take (suc begun) (suc count) (late ∷ lates) = lates_take begun count lates
