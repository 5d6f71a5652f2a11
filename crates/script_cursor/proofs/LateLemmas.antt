-- The before-commit body that has its turn.
use Rattle.std.proofs.Common.{◌≡◌, ℕ, suc, ◌+◌, ◌-◌, ◌^◌, ◌<◌, ◌≤◌, drop, drop-cons, add-one, Option, Some, None, slice_get, IfNone, List, ◌∷◌, ap, ◌∙◌, arith}
use Rattle.std.proofs.lemmas.Option.{slice_get_within, get_or_from_slice_get}
use Rattle.ledger_model.specs.Run.{Kept}
use Rattle.ledger_model.specs.Talk.{Own, Over, block_part, late_talk, next_late}
use Rattle.ledger_model.specs.declared.script.Statement.{Statement}
use Rattle.script_cursor.specs.declared.place.Section.TheVariants.{Body}
use Rattle.script_cursor.specs.Cursors.{block_work, lates_from, lates_work, next_outside}
use Rattle.script_cursor.proofs.WorkLemmas.{lates_cons}

pub none_then : {X : Type 0} (o : Option X) (P Q : Type 0) → IfNone o P → (P → Q) → IfNone o Q
none_then None P Q h f = f h
none_then (Some x) P Q h f = tt

-- one turn of so many at most
turn : (most begun : ℕ) (s : Own) → begun < most → late_talk (most - begun) begun s ≡ next_late (late_talk (most - suc begun) (suc begun)) s (slice_get s.lates begun)
unfolding late_talk
turn most begun s h =
    let e : most - begun ≡ suc (most - suc begun) = omega arith in
    ap (λ (turns : ℕ). late_talk turns begun s) e

late_turn : (begun : ℕ) (s : Own) → begun < 2 ^ 32 → lates_from begun s ≡ next_late (lates_from (suc begun)) s (slice_get s.lates begun)
unfolding lates_from
late_turn begun s h = turn (2 ^ 32) begun s h

pub no_turn : (begun : ℕ) (s : Own) → 2 ^ 32 ≤ begun → lates_from begun s ≡ Over Kept
unfolding lates_from late_talk
no_turn begun s h = let e : 2 ^ 32 - begun ≡ 0 = omega arith in ap (λ (turns : ℕ). late_talk turns begun s) e

pub no_body : (begun : ℕ) (s : Own) → begun < 2 ^ 32 → slice_get s.lates begun ≡ None → lates_from begun s ≡ Over Kept
no_body begun s h is = late_turn begun s h ∙ ap (next_late (lates_from (suc begun)) s) is

pub next_body : (begun : ℕ) (s : Own) (body : List Statement) → begun < 2 ^ 32 → slice_get s.lates begun ≡ Some body
    → lates_from begun s ≡ block_part body s (next_outside Body (begun + 1))
next_body begun s body h is = rw add-one (late_turn begun s h ∙ ap (next_late (lates_from (suc begun)) s) is)

pub next_work : (begun : ℕ) (lates : List (List Statement)) (body : List Statement) → slice_get lates begun ≡ Some body
    → lates_work (drop begun lates) ≡ (4 + block_work body) + lates_work (drop (begun + 1) lates)
next_work begun lates body is =
    let e : drop begun lates ≡ body ∷ drop (suc begun) lates =
    drop-cons lates begun body (slice_get_within lates begun body is) ∙ ap (λ (late : List Statement). late ∷ drop (suc begun) lates) (get_or_from_slice_get lates begun body body is) in
    rw (add-one, e) (lates_cons body (drop (suc begun) lates))
