-- What an attempt of a closure concludes with.
use Rattle.std.proofs.Common.{◌≡◌, ℕ, List, None, Result, Ok, Err, sym, subst, inl}
use Rattle.std.specs.Prelude.{IfOk}
use Rattle.stm_model.specs.CellsState.{Book, CellsState}
use Rattle.stm_model.specs.Owes.{IsPossible, Owes}
use Rattle.stm_model.specs.Ran.{Running}
use Rattle.stm_model.specs.Telling.{Owing}
use Rattle.stm_model.specs.declared.cause.Cause.{Cause}
use Rattle.ref_table.specs.Seats.{StmState}
use Rattle.txn_run.specs.Callers.{CallerState}
use Rattle.txn_run.specs.Outcomes.{Concludes, ConcludesAs, Made}
use Rattle.txn_run.specs.Runners.{HasRun, StandsOn, WasCalled}
use Rattle.txn_run.specs.declared.callers.Outcome.{Outcome}
use Rattle.txn_run.specs.declared.callers.Outcome.TheVariants as with

-- An attempt that concludes with one thing concludes with what follows from it.
module _ {T : Type 0} (E F : T → List ℕ → Book → Type 0) (G K : Cause → List ℕ → Book → Type 0) (M N : List ℕ → Type 0) (opening : List ℕ) (before after : CallerState)
    (ends : (out : T) (heap : List ℕ) (book : Book) → E out heap book → F out heap book)
    (gives : (cause : Cause) (heap : List ℕ) (book : Book) → G cause heap book → K cause heap book) (leaves : (heap : List ℕ) → M heap → N heap) where
  pub concludes_map : (outcome : Outcome T) → ConcludesAs E G M opening before after outcome → ConcludesAs F K N opening before after outcome
  concludes_map (with.Committed out stamp) so = record {
    ending = so.ending;
    low = so.low;
    high = so.high;
    entry = so.entry;
    only = so.only;
    book = so.book;
    has = so.has;
    some = so.some;
    whole = ends _ _ _ so.whole;
    runs = so.runs;
  }
  concludes_map (with.Read out prefix) so = record {
    ending = so.ending;
    none = so.none;
    book = so.book;
    has = so.has;
    nothing = so.nothing;
    whole = ends _ _ _ so.whole;
    runs = so.runs;
  }
  concludes_map (with.Rolled cause prefix) so = record {
    ending = so.ending;
    none = so.none;
    book = so.book;
    has = so.has;
    answered = λ word. gives _ _ _ (so.answered word);
    at_end = λ clock is. let end = so.at_end clock is in (end.0, ends _ _ _ end.1, end.2);
    left = leaves _ so.left;
    prepared = so.prepared;
    unprepared = so.unprepared;
    runs = so.runs;
  }

-- What holds of an answer that is well under a condition.
ok_under : {T : Type 0} (C P : Type 0) (answer : Result T Cause) → (C → IfOk answer (λ out. P)) → IfOk answer (λ out. C → P)
ok_under C P (Ok out) holds = holds
ok_under C P (Err cause) holds = tt

-- A closure ran as a body does on cells.
module _ {D T L : Type 0} (law : D → L) (follows : D → D → Type 0) (state : D → CellsState) (lawful : L → List ℕ → Type 0) (may : L → List ℕ → List ℕ → Type 0)
    (start end : D) (answer : Result T Cause) (runs : Running lawful may law follows state start end (λ heap book answer after. Unit {0}) (λ heap book. Unit {0}) answer) where
  abbrev Met : L → Type 0
  Met l = Owes (lawful l) (may l) (state end).size (state end).reads (state end).now.writes

  pub owes_then : IfOk answer (λ out. Owing (lawful (law end)) (may (law end)) (state end))
  owes_then = ok_under ((state end).cause ≡ None) (Met (law end)) answer
      (λ going. subst (λ (l : L). IfOk answer (λ out. Met l)) (sym runs.same_law) (runs.states.owes going))

-- It was called on the cells of an attempt that had just begun.
module _ {D T L : Type 0} (law : D → L) (state : D → CellsState) (lawful : L → List ℕ → Type 0) (begins : D → Type 0) (called : D → Result T Cause → D → Type 0)
    (start end : D) (answer : Result T Cause) (home : L) (begun : begins start) (call : called start answer end) (same : law end ≡ home) where
  pub has_run : (given : Result T Cause) (heap : List ℕ) (book : Book) → (answer ≡ given) × StandsOn (lawful (law end)) (state end) heap book
      → HasRun begins called state (lawful home) given heap book
  has_run given heap book so = record {
    start = start;
    end = end;
    begun = begun;
    call = subst (λ (a : Result T Cause). called start a end) so.0 call;
    stands = subst (λ (l : L). StandsOn (lawful l) (state end) heap book) same so.1;
  }

  pub was_called : (heap : List ℕ) → IsPossible (lawful (law end)) (state end).size (state end).reads heap → WasCalled begins called state (lawful home) heap
  was_called heap possible = record {
    answer = answer;
    start = start;
    end = end;
    begun = begun;
    call = call;
    possible = subst (λ (l : L). IsPossible (lawful l) (state end).size (state end).reads heap) same possible;
  }

  pub concluded : {S : Type 0} (stm : StmState S) (before after : CallerState) (untouched : Type 0) (outcome : Outcome T) → Made stm.settings.attempts before after
      → ConcludesAs (λ out heap book. (answer ≡ Ok out) × StandsOn (lawful (law end)) (state end) heap book) (λ cause heap book. (answer ≡ Err cause) × StandsOn (lawful (law end)) (state end) heap book)
      (λ heap. IsPossible (lawful (law end)) (state end).size (state end).reads heap) stm.opening before after outcome
      → Concludes (λ out heap book. HasRun begins called state (lawful home) (Ok out) heap book) (λ cause heap book. HasRun begins called state (lawful home) (Err cause) heap book)
      (λ heap. WasCalled begins called state (lawful home) heap) untouched stm before after outcome
  concluded stm before after untouched outcome made so = inl (
    made,
    concludes_map _ _ _ _ _ _ stm.opening before after
        (λ out heap book. has_run (Ok out) heap book) (λ cause heap book. has_run (Err cause) heap book) was_called outcome so,
  )
