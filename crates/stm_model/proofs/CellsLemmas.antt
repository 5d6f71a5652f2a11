-- States of cells: what is possible later was possible before, and what a single call makes of them.
use Rattle.std.proofs.Common.{◌≡◌, ℕ, ◌+◌, ◌-◌, ◌≤◌, Bool, true, false, cond, nat_eq, List, [], ◌∷◌, ◌++◌, length, Option, Some, None, refl, sym, ap, subst, ◌∙◌, arith, append_assoc}
use Rattle.std.specs.Coded.{Unit-prop}
use Rattle.std.proofs.Math.Nat.{ℕ_set}
use Rattle.std.proofs.lemmas.List.{append-nil}
use Rattle.stm_model.specs.declared.cause.Cause.{Cause}
use Rattle.stm_model.specs.declared.cause.Cause.TheVariants.{ReadConflict, Moved, Stale, WriteConflict, Doomed, ClockMoved, ClockEnd, Retry, User, Full, TooDeep, AttemptsEnd, Memory}
use Rattle.stm_model.specs.declared.note.Note.{Note}
use Rattle.stm_model.specs.Heap.{put}
use Rattle.stm_model.specs.Owes.{IsPossible, Owes}
use Rattle.stm_model.specs.CellsState.{Book, CellsState, outer, restored, restored_unless}
use Rattle.stm_model.specs.Refusing.{IsOfCells}
use Rattle.stm_model.specs.Telling.{Extends}
use Rattle.stm_model.proofs.OwesLemmas.{IsPossible-front}

-- ---- lists that extend lists

pub Extends-refl : {T : Type 0} (list : List T) → Extends list list
Extends-refl list = ([], sym (append-nil list))

pub Extends-append : {T : Type 0} (list more : List T) → Extends list (list ++ more)
Extends-append list more = (more, refl)

pub Extends-same : {T : Type 0} (before after : List T) → after ≡ before → Extends before after
Extends-same before after same = ([], same ∙ sym (append-nil before))

pub Extends-trans : {T : Type 0} (first second third : List T) → Extends first second → Extends second third → Extends first third
Extends-trans first second third one two =
    (one.0 ++ two.0, two.1 ∙ (ap (λ list. list ++ two.0) one.1 ∙ append_assoc first one.0 two.0))

-- ---- what is possible and what is owed

pub IsPossible-before : (lawful : List ℕ → Type 0) (size : ℕ) (before after : List Note) (heap : List ℕ)
    → Extends before after → IsPossible lawful size after heap → IsPossible lawful size before heap
IsPossible-before lawful size before after heap more possible =
    IsPossible-front lawful size before more.0 heap (subst (λ notes. IsPossible lawful size notes heap) more.1 possible)

-- What was owed is so after more reads, where the writes are the same.
pub Owes-later : (lawful : List ℕ → Type 0) (may : List ℕ → List ℕ → Type 0) (before after : CellsState)
    → after.size ≡ before.size → after.now.writes ≡ before.now.writes → Extends before.reads after.reads
    → Owes lawful may before.size before.reads before.now.writes → Owes lawful may after.size after.reads after.now.writes
Owes-later lawful may before after size writes reads owes = λ heap possible.
    let earlier = IsPossible-before lawful before.size before.reads after.reads heap reads
    (subst (λ n. IsPossible lawful n after.reads heap) size possible) in
    rw writes (owes heap earlier)

-- ---- causes

-- where a cause stays once it is answered, none was answered before there is none
pub none_before : {T : Type 0} (before after : Option T) → ((earlier : T) → before ≡ Some earlier → after ≡ Some earlier) → after ≡ None → before ≡ None
none_before None after again none = refl
none_before (Some cause) after again none = cc (again cause refl, none)

pub IsOfCells-prop : (cause : Cause) → IsProp (IsOfCells cause)
IsOfCells-prop (ReadConflict cell meta) = Unit-prop
IsOfCells-prop (Moved cell first second) = Unit-prop
IsOfCells-prop (Stale cell version meta) = Unit-prop
IsOfCells-prop (WriteConflict cell meta) = Unit-prop
IsOfCells-prop (TooDeep depth) = hlevel (ℕ_set)
IsOfCells-prop Memory = Unit-prop
IsOfCells-prop (Doomed status) = hlevel
IsOfCells-prop (ClockMoved first second) = hlevel
IsOfCells-prop (ClockEnd clock) = hlevel
IsOfCells-prop Retry = hlevel
IsOfCells-prop (User code) = hlevel
IsOfCells-prop (Full used blocks) = hlevel
IsOfCells-prop (AttemptsEnd serial) = hlevel

-- ---- levels

pub length-outer : (books : List Book) → length (outer books) ≡ length books - 1
length-outer [] = refl
length-outer (book ∷ books) = omega arith

-- the book after an undo of a level that began with this book
pub restored-going : (cause : Option Cause) (saved books : List Book) (now former : Book) → cause ≡ None → saved ≡ former ∷ books
    → restored_unless cause saved now ≡ restored (former ∷ []) now
restored-going cause saved books now former none is = rw (none, is) refl

-- ---- writes

length_put_step : (same : Bool) (old new : ℕ × ℕ) (writes puts : List (ℕ × ℕ)) → length puts ≤ length writes + 1
    → length (cond same (new ∷ writes) (old ∷ puts)) ≤ length (old ∷ writes) + 1
length_put_step true old new writes puts most = omega arith
length_put_step false old new writes puts most = omega arith

pub length-put : (writes : List (ℕ × ℕ)) (address value : ℕ) → length (put writes address value) ≤ length writes + 1
length-put [] address value = omega arith
length-put (write ∷ writes) address value = length_put_step (nat_eq address write.0) write (address, value) writes (put writes address value) (length-put writes address value)
