-- A buffer that is undone to a mark.
use Rattle.std.proofs.Common.{◌≡◌, ℕ, ◌<◌, ◌≤◌, List, [], ◌∷◌, ◌++◌, ◌+◌, length, take, drop, refl, sym, ap, ◌∙◌, arith, length-append, length-set}
use Rattle.std.specs.Prelude.{slice_index_or}
use Rattle.std.proofs.lemmas.List.{drop-append-le, drop_all, length-take-le, take-append-le, take_all}
use Rattle.stm_model.specs.declared.marks.WriteMark.{WriteMark}
use Rattle.write_buffer.specs.Buffer.{Buffer, IsMark, at_mark, restored, with_value}
use Rattle.write_buffer.proofs.Restored.{restored_newest, restored_none}

-- These writes lead back to the mark, when the values that were replaced since and aren't restored yet are.
pub record IsUndoing (buffer : Buffer) (mark : WriteMark) (writes replaced : List (ℕ × ℕ)) : Type 0 where
  pub leads_back : restored writes (drop mark.restores replaced) ≡ at_mark buffer mark
  pub older : take mark.restores replaced ≡ take mark.restores buffer.replaced
  pub left : mark.restores ≤ length replaced
  pub entries : length writes ≤ length buffer.writes
  pub restores : length replaced ≤ length buffer.replaced

pub undoing_begins : (buffer : Buffer) (mark : WriteMark) (writes replaced : List (ℕ × ℕ)) → IsMark buffer mark
    → writes ≡ take mark.entries buffer.writes → replaced ≡ buffer.replaced → IsUndoing buffer mark writes replaced
unfolding at_mark
undoing_begins buffer mark writes replaced is kept same =
    let entries : length (take mark.entries buffer.writes) ≡ mark.entries = length-take-le mark.entries buffer.writes is.entries in
    record {
      leads_back = rw (kept, same) refl;
      older = rw same refl;
      left = rw same is.restores;
      entries = rw kept (omega (arith, entries, is.entries));
      restores = rw same (omega arith);
    }

pub undoing_goes_on : (buffer : Buffer) (mark : WriteMark) (writes replaced after rest : List (ℕ × ℕ)) (index former : ℕ) → mark.restores < length replaced
    → replaced ≡ rest ++ (index, former) ∷ [] → after ≡ with_value writes index former
    → IsUndoing buffer mark writes replaced → IsUndoing buffer mark after rest
undoing_goes_on buffer mark writes replaced after rest index former more popped given undoing =
    let count : length replaced ≡ length rest + 1 = rw popped (length-append rest ((index, former) ∷ [])) in
    let within : mark.restores ≤ length rest = omega arith in
    record {
      leads_back =
          rw given (sym (restored_newest writes (drop mark.restores rest) index former)
          ∙ ap (restored writes) (sym (drop-append-le mark.restores rest ((index, former) ∷ []) within) ∙ sym (ap (drop mark.restores) popped))
          ∙ undoing.leads_back);
      older = sym (take-append-le mark.restores rest ((index, former) ∷ []) within) ∙ sym (ap (take mark.restores) popped) ∙ undoing.older;
      left = within;
      entries = rw given (omega (arith, length-set writes index ((slice_index_or writes index (0, 0)).0, former), undoing.entries));
      restores = omega (arith, undoing.restores);
    }

pub undoing_ends : (buffer : Buffer) (mark : WriteMark) (writes replaced : List (ℕ × ℕ)) → length replaced ≤ mark.restores → IsUndoing buffer mark writes replaced
    → (writes ≡ at_mark buffer mark) × (replaced ≡ take mark.restores buffer.replaced)
undoing_ends buffer mark writes replaced all undoing = (
  sym (restored_none writes (drop mark.restores replaced) (drop_all mark.restores replaced all)) ∙ undoing.leads_back,
  sym (take_all mark.restores replaced all) ∙ undoing.older,
)
