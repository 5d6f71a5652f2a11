-- Marks through each change of a buffer.
use Rattle.std.proofs.Common.{◌≡◌, ℕ, ◌≤◌, List, [], ◌∷◌, ◌++◌, length, get_or, take, drop, refl, sym, ap, ◌∙◌, arith, length-append}
use Rattle.std.proofs.lemmas.List.{drop-append-le, drop_all, length-take, length-take-le, take-append-le, take_all}
use Rattle.stm_model.specs.declared.marks.WriteMark.{WriteMark}
use Rattle.write_buffer.specs.Buffer.{Buffer, IsMark, IsNoLater, Keeps, at_mark, restored, with_value}
use Rattle.write_buffer.proofs.Restored.{drop_front, restored_append, restored_newest, restored_none, length_restored, take_restored, take_shorter, take_with_value, length_with_value, with_value_former, with_value_past}

-- nothing that a mark looks at has changed
pub Keeps_same : (before after : Buffer) → after.writes ≡ before.writes → after.replaced ≡ before.replaced → (mark : WriteMark) → IsMark before mark → Keeps before after mark
unfolding at_mark
Keeps_same before after writes replaced mark is =
    record {
      still = record { entries = rw writes is.entries; restores = rw replaced is.restores };
      same = rw (writes, replaced) refl;
    }

pub Keeps_then : (before between after : Buffer) (mark : WriteMark) → Keeps before between mark → Keeps between after mark → Keeps before after mark
Keeps_then before between after mark first second = record { still = second.still; same = second.same ∙ first.same }

-- a write of one cell more
pub Keeps_new : (before after : Buffer) (write : ℕ × ℕ) → after.writes ≡ before.writes ++ write ∷ [] → after.replaced ≡ before.replaced
    → (mark : WriteMark) → IsMark before mark → Keeps before after mark
unfolding at_mark
Keeps_new before after write writes replaced mark is =
    record {
      still = record { entries = rw writes (omega (arith, length-append before.writes (write ∷ []), is.entries)); restores = rw replaced is.restores };
      same = rw (writes, replaced, take-append-le mark.entries before.writes (write ∷ []) is.entries) refl;
    }

-- another value in a place, whose former one is kept
pub Keeps_again : (before after : Buffer) (place value former : ℕ) → former ≡ (get_or before.writes place (0, 0)).1
    → after.writes ≡ with_value before.writes place value → after.replaced ≡ before.replaced ++ (place, former) ∷ []
    → (mark : WriteMark) → IsMark before mark → Keeps before after mark
unfolding at_mark
Keeps_again before after place value former here writes replaced mark is =
    record {
      still = record {
        entries = rw writes (omega (arith, length_with_value before.writes place value, is.entries));
        restores = rw replaced (omega (arith, length-append before.replaced ((place, former) ∷ []), is.restores));
      };
      same =
          rw (writes, replaced, drop-append-le mark.restores before.replaced ((place, former) ∷ []) is.restores)
          (restored_newest (take mark.entries (with_value before.writes place value)) (drop mark.restores before.replaced) place former
          ∙ ap (λ (kept : List (ℕ × ℕ)). restored kept (drop mark.restores before.replaced))
          (sym (take_with_value mark.entries (with_value before.writes place value) place former)
          ∙ ap (take mark.entries) (with_value_former before.writes place value former here)));
    }

-- another value in a place that the mark doesn't count
pub Keeps_later : (before after : Buffer) (place value : ℕ) → after.writes ≡ with_value before.writes place value → after.replaced ≡ before.replaced
    → (mark : WriteMark) → IsMark before mark → mark.entries ≤ place → Keeps before after mark
unfolding at_mark
Keeps_later before after place value writes replaced mark is later =
    let few : length (take mark.entries before.writes) ≤ place = rw length-take (omega arith) in
    record {
      still = record {
        entries = rw writes (omega (arith, length_with_value before.writes place value, is.entries));
        restores = rw replaced is.restores;
      };
      same =
          rw (writes, replaced)
          (ap (λ (kept : List (ℕ × ℕ)). restored kept (drop mark.restores before.replaced))
          (take_with_value mark.entries before.writes place value ∙ with_value_past (take mark.entries before.writes) place value few));
    }

-- a mark taken no later than another one
pub IsMark_earlier : (buffer : Buffer) (since mark : WriteMark) → IsMark buffer since → IsNoLater mark since → IsMark buffer mark
IsMark_earlier buffer since mark is earlier = record { entries = omega (arith, is.entries, earlier.entries); restores = omega (arith, is.restores, earlier.restores) }

-- an undo, for marks taken no later than the one that it undoes to
pub Keeps_undone : (before after : Buffer) (mark : WriteMark) → IsMark before mark → after.writes ≡ at_mark before mark → after.replaced ≡ take mark.restores before.replaced
    → (older : WriteMark) → IsNoLater older mark → Keeps before after older
unfolding at_mark
Keeps_undone before after mark is writes replaced older earlier =
    let kept : List (ℕ × ℕ) = take mark.entries before.writes in
    let newer : List (ℕ × ℕ) = drop mark.restores before.replaced in
    let entries : length kept ≡ mark.entries = length-take-le mark.entries before.writes is.entries in
    let restores : length (take mark.restores before.replaced) ≡ mark.restores = length-take-le mark.restores before.replaced is.restores in
    record {
      still = record {
        entries = rw writes (omega (arith, length_restored kept newer, entries, earlier.entries));
        restores = rw replaced (omega (arith, restores, earlier.restores));
      };
      same =
          rw (writes, replaced)
          (ap (λ (list : List (ℕ × ℕ)). restored list (drop older.restores (take mark.restores before.replaced)))
          (take_restored older.entries kept newer
          ∙ ap (λ (list : List (ℕ × ℕ)). restored list newer) (take_shorter older.entries mark.entries before.writes earlier.entries))
          ∙ sym (restored_append (take older.entries before.writes) (drop older.restores (take mark.restores before.replaced)) newer)
          ∙ ap (restored (take older.entries before.writes)) (drop_front older.restores mark.restores before.replaced earlier.restores));
    }

-- ---- a mark of the present

pub at_mark_now : (buffer : Buffer) (mark : WriteMark) → mark.entries ≡ length buffer.writes → mark.restores ≡ length buffer.replaced → at_mark buffer mark ≡ buffer.writes
unfolding at_mark
at_mark_now buffer mark entries restores =
    rw (entries, restores, take_all (length buffer.writes) buffer.writes (omega arith))
    (restored_none buffer.writes (drop (length buffer.replaced) buffer.replaced) (drop_all (length buffer.replaced) buffer.replaced (omega arith)))
