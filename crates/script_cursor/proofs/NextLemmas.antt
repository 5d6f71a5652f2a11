-- What comes next inside frames, the innermost of which stands last, and where a level or a script isn't kept.
use Rattle.std.proofs.Common.{◌≡◌, ℕ, ◌+◌, suc, ◌<◌, length, drop, get_or, drop-cons, add-one, Option, Some, option_to_list, List, [], ◌∷◌, ◌++◌, refl, ap, sym, ◌∙◌}
use Rattle.stm_model.specs.declared.access.Ask.TheVariants.{Undo}
use Rattle.ledger_model.specs.Run.{End}
use Rattle.ledger_model.specs.Talk.{Next, Own, back_to, closed, over, tells}
use Rattle.script_cursor.specs.declared.coming.End.{End as EndTold}
use Rattle.script_cursor.specs.declared.coming.End.TheVariants.{Kept, Failed, Retried}
use Rattle.script_cursor.specs.declared.place.Frame.{Frame}
use Rattle.script_cursor.specs.declared.place.Section.{Section}
use Rattle.script_cursor.specs.Cursors.{end_of, next_by, next_in, next_outside}

pub next_push : (frames : List Frame) (frame : Frame) (next : Next) → next_in (frames ++ frame ∷ []) next ≡ next_by frame (next_in frames next)
unfolding next_in
next_push [] frame next = refl
next_push (outer ∷ frames) frame next = next_push frames frame (next_by outer next)

pub next_popped : (frames rest : List Frame) (popped : Option Frame) (f frame : Frame) (next : Next) (end : End) (s : Own)
    → frames ≡ rest ++ option_to_list popped → popped ≡ Some f → f ≡ frame → next_by frame (next_in rest next) end s ≡ next_in frames next end s
next_popped frames rest popped f frame next end s e is same =
    rw (e, is, same) (sym (ap (λ (n : Next). n end s) (next_push rest frame next)))

-- the list from a place on
pub opened : {X : Type 0} (i : ℕ) (xs : List X) (x : X) → i < length xs → x ≡ get_or xs i x → drop i xs ≡ x ∷ drop (i + 1) xs
opened {X} i xs x h e = rw add-one (drop-cons xs i x h ∙ ap (λ (y : X). y ∷ drop (suc i) xs) (sym e))

pub close_undone : (end : EndTold) (registers : List ℕ) (count : ℕ) (next : Next) (s : Own) → (end ≡ Kept → ⊥)
    → tells Undo (next (end_of end) (back_to registers count s)) ≡ closed registers count next (end_of end) s
close_undone Kept registers count next s not_kept = absurd (not_kept refl)
close_undone (Failed code) registers count next s not_kept = refl
close_undone Retried registers count next s not_kept = refl

pub given_up : (end : EndTold) (section : Section) (begun : ℕ) (s : Own) → (end ≡ Kept → ⊥) → over (end_of end) s ≡ next_outside section begun (end_of end) s
given_up Kept section begun s not_kept = absurd (not_kept refl)
given_up (Failed code) section begun s not_kept = refl
given_up Retried section begun s not_kept = refl
