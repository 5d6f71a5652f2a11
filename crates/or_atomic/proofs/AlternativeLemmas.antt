-- One alternative after another, each in a level of its own.
use Rattle.std.proofs.Common.{◌≡◌, ℕ, suc, ◌+◌, ◌<◌, ◌≤◌, List, length, Some, None, refl, sym, ap, subst, ◌∙◌, inl, inr, arith, add-one}
use Rattle.std.specs.Prelude.{◌≢◌, ◌⊎◌, Result, Ok, Err, IfOk, IfErr}
use Rattle.stm_model.specs.declared.cause.Cause.{Cause}
use Rattle.stm_model.specs.declared.cause.Cause.TheVariants.{Retry}
use Rattle.stm_model.specs.CellsState.{Book, CellsState, kept, undone}
use Rattle.stm_model.specs.Owes.{IsPossible, Owes}
use Rattle.stm_model.specs.Refusing.{IsOfBody, RefusesLevel, deepest}
use Rattle.stm_model.specs.Telling.{Enters, Leads, Owing, Refused}
use Rattle.stm_model.specs.Ran.{Ran, Running}
use Rattle.stm_model.proofs.CellsLemmas.{Extends-refl, IsPossible-before}
use Rattle.stm_model.proofs.RanLemmas.{Grows-refl, Ran-then, run_kept, run_under, run_undone}
use Rattle.or_atomic.specs.Blocks.{AllRetry, EitherLeaves, EitherMeans, IsUndoneAfter, LevelRefused, OnlyRuns}
use Rattle.or_atomic.proofs.BlockLemmas.{level-refused, only_runs}

-- ---- between states

-- no call at all
Ran-still : {T : Type 0} (lawful : List ℕ → Type 0) (may : List ℕ → List ℕ → Type 0)
    (means : List ℕ → Book → Result T Cause → Book → Type 0) (leaves : List ℕ → Book → Type 0) (answer : Result T Cause) (s : CellsState)
    → ((heap : List ℕ) → means heap s.now answer s.now) → ((heap : List ℕ) → leaves heap s.now)
    → (s.cause ≡ None → IfOk answer (λ out. Owes lawful may s.size s.reads s.now.writes))
    → IfErr answer (λ cause. IsOfBody cause ⊎ (s.cause ≡ Some cause))
    → Ran lawful may means leaves answer s s
Ran-still lawful may means leaves answer s so left owes causes = record {
  size = refl;
  reads = Extends-refl s.reads;
  saved = λ none. refl;
  levels = omega arith;
  grows = λ none. Grows-refl s.now;
  whole = λ none decided heap possible. so heap;
  left = λ heap possible. left heap;
  owes = owes;
  causes = causes;
  again = λ earlier is. is;
}

-- a body after another, which answered Ok with no cause answered
Ran-after : {T U : Type 0} (lawful : List ℕ → Type 0) (may : List ℕ → List ℕ → Type 0)
    (means : List ℕ → Book → Result T Cause → Book → Type 0) (leaves : List ℕ → Book → Type 0)
    (means2 : List ℕ → Book → Result U Cause → Book → Type 0) (leaves2 : List ℕ → Book → Type 0)
    (both : List ℕ → Book → Result U Cause → Book → Type 0) (left : List ℕ → Book → Type 0)
    (out : T) (answer : Result U Cause) (s t u : CellsState)
    → t.cause ≡ None
    → ((heap : List ℕ) (first second third : Book) → means heap first (Ok out) second → means2 heap second answer third → both heap first answer third)
    → ((heap : List ℕ) (first second : Book) → means heap first (Ok out) second → leaves2 heap second → left heap first)
    → Ran lawful may means leaves (Ok out) s t → Ran lawful may means2 leaves2 answer t u → Ran lawful may both left answer s u
Ran-after {T} {U} lawful may means leaves means2 leaves2 both left out answer s t u going so left_so one two =
    let all : Ran {T = U} lawful may both (λ heap book. Unit {0}) answer s u =
    Ran-then lawful may means leaves means2 leaves2 both (λ heap book. Unit {0}) out answer s t u so (λ heap first second p q. tt) one two in
    record {
      size = all.size;
      reads = all.reads;
      saved = all.saved;
      levels = all.levels;
      grows = all.grows;
      whole = all.whole;
      left = λ heap possible. left_so heap s.now t.now
          (one.whole going tt heap (IsPossible-before lawful s.size t.reads u.reads heap two.reads possible))
          (two.left heap (subst (λ n. IsPossible lawful n u.reads heap) (sym one.size) possible));
      owes = all.owes;
      causes = all.causes;
      again = all.again;
    }

OnlyRuns-then : (first second third : Book) → OnlyRuns first second → OnlyRuns second third → OnlyRuns first third
OnlyRuns-then first second third one two = two ∙ ap (λ (b : Book). record b { runs = third.runs }) one

-- a further level may be opened
abbrev pub CanEnter : CellsState → Type 0
CanEnter s = (s.cause ≡ None) × (length s.saved < deepest)

-- Nothing was done yet, or a level was opened at first.
abbrev pub Begun : ℕ → CellsState → CellsState → Type 0
Begun index s t = ((index ≡ 0) × (t ≡ s)) ⊎ CanEnter s

pub can_enter : (index : ℕ) (s t e : CellsState) → Begun index s t → Enters t e → CanEnter s
can_enter index s t e (inl same) enters = let can : CanEnter t = (enters.going, enters.room) in rw same.1 at can
can_enter index s t e (inr can) enters = can

pub level-open : {T : Type 0} (answer : Result T Cause) (s t : CellsState) → CanEnter s → LevelRefused answer s t
level-open answer s t can = record {
  again = λ earlier is. cc (can.0, is);
  deep = λ none most. let room = can.1 in absurd (omega arith);
}

pub level-refused-after : {T : Type 0} (index : ℕ) (answer : Result T Cause) (cause : Cause) (s t u : CellsState) → answer ≡ Err cause → Begun index s t
    → Refused (RefusesLevel (length t.saved)) cause t u → LevelRefused answer s u
level-refused-after {T} index answer cause s t u is (inl same) refused = rw (is, ← same.1) (level-refused {T = T} cause t u refused)
level-refused-after index answer cause s t u is (inr can) refused = level-open answer s u can

-- after at least one alternative
pub level-open-after : {T : Type 0} (index number : ℕ) (answer : Result T Cause) (s t : CellsState) → 0 < number → number ≤ index → Begun index s t → LevelRefused answer s t
level-open-after index number answer s t some all (inl same) = let none = same.0 in absurd (omega arith)
level-open-after index number answer s t some all (inr can) = level-open answer s t can

-- ---- between cells

-- what was undone before and is undone now
pub only_runs_more : {S L : Type 0} (law : S → L) (follows : S → S → Type 0) (state : S → CellsState) (c d e f g : S)
    → ((state d).cause ≡ None → OnlyRuns (state c).now (state d).now) → Leads law follows state d e Enters
    → ((state f).cause ≡ None → (state f).saved ≡ (state e).saved) → Leads law follows state f g (λ before after. after ≡ undone before)
    → (state g).cause ≡ None → OnlyRuns (state c).now (state g).now
only_runs_more law follows state c d e f g so_far enters saved undo none =
    OnlyRuns-then (state c).now (state d).now (state g).now (so_far enters.states.going)
    (only_runs (state d) (state e) (state f) (state g) enters.states saved undo.states none)

module _ {S L E T : Type 0} (lawful : L → List ℕ → Type 0) (may : L → List ℕ → List ℕ → Type 0) (law : S → L) (follows : S → S → Type 0) (state : S → CellsState)
    (trans : (c d e : S) → follows c d → follows d e → follows c e)
    (means : E → ℕ → List ℕ → Book → Result T Cause → Book → E → Type 0) (leaves : E → ℕ → List ℕ → Book → E → Type 0) (number : ℕ) (choices : E) where
  -- So many alternatives asked for a retry.
  abbrev pub Retried : ℕ → E → S → S → Type 0
  Retried index next c d = Running {T = Unit {0}} lawful may law follows state c d
      (λ heap before answer after. AllRetry means index choices heap before after next) (λ heap before. EitherLeaves means leaves number choices heap before next) (Ok tt)

  -- one alternative ran
  abbrev Runs : ℕ → E → E → S → S → Result T Cause → Type 0
  Runs index next left c d answer = Running lawful may law follows state c d
      (λ heap before answer after. means next index heap before answer after left) (λ heap before. leaves next index heap before left) answer

  -- all of them together
  abbrev EitherRuns : E → S → S → Result T Cause → Type 0
  EitherRuns left c d answer = Running lawful may law follows state c d
      (λ heap before answer after. EitherMeans means number choices heap before answer after left) (λ heap before. EitherLeaves means leaves number choices heap before left) answer

  run_after : {U V : Type 0} (means1 : List ℕ → Book → Result U Cause → Book → Type 0) (leaves1 : List ℕ → Book → Type 0)
      (means2 : List ℕ → Book → Result V Cause → Book → Type 0) (leaves2 : List ℕ → Book → Type 0)
      (both : List ℕ → Book → Result V Cause → Book → Type 0) (left : List ℕ → Book → Type 0)
      (out : U) (answer : Result V Cause) (c d e : S)
      → (state d).cause ≡ None
      → ((heap : List ℕ) (first second third : Book) → means1 heap first (Ok out) second → means2 heap second answer third → both heap first answer third)
      → ((heap : List ℕ) (first second : Book) → means1 heap first (Ok out) second → leaves2 heap second → left heap first)
      → Running lawful may law follows state c d means1 leaves1 (Ok out)
      → Running lawful may law follows state d e means2 leaves2 answer
      → Running lawful may law follows state c e both left answer
  run_after means1 leaves1 means2 leaves2 both left out answer c d e going so left_so p q = record {
    same_law = q.same_law ∙ p.same_law;
    goes = trans c d e p.goes q.goes;
    states = Ran-after (lawful (law c)) (may (law c)) means1 leaves1 means2 leaves2 both left out answer (state c) (state d) (state e) going so left_so p.states
        (run_under lawful may means2 leaves2 (law c) (law d) answer (state d) (state e) p.same_law q.states);
  }

  -- what is owed once some have asked for a retry
  pub owing_so_far : (index : ℕ) (next : E) (c d : S) → Retried index next c d → Owing (lawful (law d)) (may (law d)) (state d)
  owing_so_far index next c d so_far = rw so_far.same_law so_far.states.owes

  -- and in the level after them
  pub owing_entered : (index : ℕ) (next : E) (c d e : S) → Retried index next c d → Leads law follows state d e Enters → Owing (lawful (law e)) (may (law e)) (state e)
  owing_entered index next c d e so_far enters = rw (enters.same_law, enters.states.is) (owing_so_far index next c d so_far)

  pub retried_none : (c : S) → follows c c → Owing (lawful (law c)) (may (law c)) (state c) → Retried 0 choices c c
  retried_none c stays owing = record {
    same_law = refl;
    goes = stays;
    states = Ran-still (lawful (law c)) (may (law c)) _ _ (Ok tt) (state c) (λ heap. (refl, refl)) (λ heap. inl refl) owing tt;
  }

  left_by : (index : ℕ) (next left : E) (heap : List ℕ) (first second : Book) → index < number
      → AllRetry means index choices heap first second next → leaves next index heap second left → EitherLeaves means leaves number choices heap first left
  left_by index next left heap first second within retried ends = inr (record { index = index; within = within; next = next; book = second; retried = retried }, ends)

  pub retried_one_more : (index : ℕ) (next left : E) (cause : Cause) (c d e f g : S) → index < number → cause ≡ Retry → Retried index next c d
      → Leads law follows state d e Enters → Runs index next left e f (Err cause)
      → Leads law follows state f g (λ before after. after ≡ undone before) → Retried (index + 1) left c g
  retried_one_more index next left cause c d e f g within is so_far enters ran0 undo =
      let ran : Runs index next left e f (Err Retry) = rw is at ran0 in
      let more : Retried (suc index) left c g =
      run_after _ _ _ _ _ _ tt (Ok tt) c d g enters.states.going
      (λ heap first second third before ends. (next, second, before, ends))
      (λ heap first second before ends. left_by index next left heap first second within before ends)
      so_far
      (run_undone lawful may law follows state trans _ _
      (λ heap before answer after. IsUndoneAfter (λ during. means next index heap before (Err Retry) during left) before after)
      (λ heap before. leaves next index heap before left)
      (Err Retry) (Ok tt) d e f g (λ decided. tt) (λ heap book ends. (book, ends, refl)) (λ heap ends. ends) tt
      (owing_so_far index next c d so_far) enters ran undo) in
      rw add-one more

  pub either_kept : (index : ℕ) (next left : E) (out : T) (c d e f g : S) → index < number → Retried index next c d
      → Leads law follows state d e Enters → Runs index next left e f (Ok out)
      → Leads law follows state f g (λ before after. after ≡ kept before) → EitherRuns left c g (Ok out)
  either_kept index next left out c d e f g within so_far enters ran keep =
      run_after _ _ _ _ _ _ tt (Ok out) c d g enters.states.going
      (λ heap first second third before ends. (record { index = index; within = within; next = next; book = second; retried = before }, ends))
      (λ heap first second before ends. left_by index next left heap first second within before ends)
      so_far
      (run_kept lawful may law follows state trans _ _
      (λ heap before answer after. means next index heap before answer after left) (λ heap before. leaves next index heap before left)
      out out d e f g (λ heap book ends. ends) (λ heap ends. ends) enters ran keep)

  pub either_ended : (index : ℕ) (next left : E) (cause : Cause) (c d e f g : S) → index < number → cause ≢ Retry → Retried index next c d
      → Leads law follows state d e Enters → Runs index next left e f (Err cause)
      → Leads law follows state f g (λ before after. after ≡ undone before) → EitherRuns left c g (Err cause)
  either_ended index next left cause c d e f g within other so_far enters ran undo =
      run_after _ _ _ _ _ _ tt (Err cause) c d g enters.states.going
      (λ heap first second third before ends. inr (other, record { index = index; within = within; next = next; book = second; retried = before }, ends))
      (λ heap first second before ends. left_by index next left heap first second within before ends)
      so_far
      (run_undone lawful may law follows state trans _ _
      (λ heap before answer after. IsUndoneAfter (λ during. means next index heap before (Err cause) during left) before after)
      (λ heap before. leaves next index heap before left)
      (Err cause) (Err cause) d e f g (λ decided. decided) (λ heap book ends. (book, ends, refl)) (λ heap ends. ends) ran.states.causes
      (owing_so_far index next c d so_far) enters ran undo)
