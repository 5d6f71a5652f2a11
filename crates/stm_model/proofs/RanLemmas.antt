-- What is promised of a body that is made of calls and of other bodies.
use Rattle.std.proofs.Common.{◌≡◌, ℕ, List, [], ◌∷◌, length, drop, Some, None, sym, ap, subst, ◌∙◌, inr, arith}
use Rattle.std.specs.Prelude.{Result, Ok, Err, IfOk, IfErr, ◌⊎◌}
use Rattle.stm_model.specs.declared.cause.Cause.{Cause}
use Rattle.stm_model.specs.Heap.{over}
use Rattle.stm_model.specs.Owes.{IsPossible, Owes}
use Rattle.stm_model.specs.CellsState.{Book, CellsState, entered, kept, undone, outer, restored}
use Rattle.stm_model.specs.Handlers.{undoing}
use Rattle.stm_model.specs.Telling.{Changed, Extends, Owing, Enters, Refused, Leads, Writing}
use Rattle.stm_model.specs.Refusing.{IsOfBody}
use Rattle.stm_model.specs.Ran.{Grows, IsDecided, Ran, Running}
use Rattle.stm_model.proofs.CellsLemmas.{Extends-refl, Extends-same, Extends-append, Extends-trans, IsPossible-before, Owes-later, none_before, length-outer, restored-going}

pub Grows-refl : (book : Book) → Grows book book
Grows-refl book = record { hooks = Extends-refl book.hooks; laters = Extends-refl book.laters; runs = Extends-refl book.runs }

pub Grows-same : (before after : Book) → after ≡ before → Grows before after
Grows-same before after same = subst (λ book. Grows before book) (sym same) (Grows-refl before)

pub Grows-trans : (first second third : Book) → Grows first second → Grows second third → Grows first third
Grows-trans first second third one two = record {
  hooks = Extends-trans first.hooks second.hooks third.hooks one.hooks two.hooks;
  laters = Extends-trans first.laters second.laters third.laters one.laters two.laters;
  runs = Extends-trans first.runs second.runs third.runs one.runs two.runs;
}

-- ---- between states

-- a body that the cells refused at its first call
pub Ran-refused : {T : Type 0} (lawful : List ℕ → Type 0) (may : List ℕ → List ℕ → Type 0)
    (means : List ℕ → Book → Result T Cause → Book → Type 0) (leaves : List ℕ → Book → Type 0)
    (fresh : Cause → Type 0) (cause : Cause) (s t : CellsState)
    → ((heap : List ℕ) (book : Book) → leaves heap book)
    → Refused fresh cause s t → Ran {T = T} lawful may means leaves (Err cause) s t
Ran-refused lawful may means leaves fresh cause s t left refused =
    let stopped : t.cause ≡ Some cause = ap (λ (x : CellsState). x.cause) refused.is in
    let saved : t.saved ≡ s.saved = ap (λ (x : CellsState). x.saved) refused.is in
    record {
      size = ap (λ (x : CellsState). x.size) refused.is;
      reads = Extends-same s.reads t.reads (ap (λ (x : CellsState). x.reads) refused.is);
      saved = λ none. saved;
      levels = let same : length t.saved ≡ length s.saved = ap length saved in omega arith;
      grows = λ none. cc (stopped, none);
      whole = λ none. cc (stopped, none);
      left = λ heap possible. left heap s.now;
      owes = λ none. cc (stopped, none);
      causes = inr stopped;
      again = λ earlier is. stopped ∙ ap Some (refused.again earlier is);
    }

-- a body that only reads and writes
pub Ran-wrote : {T : Type 0} (lawful : List ℕ → Type 0) (may : List ℕ → List ℕ → Type 0)
    (means : List ℕ → Book → Result T Cause → Book → Type 0) (leaves : List ℕ → Book → Type 0)
    (step : List ℕ → List ℕ → Type 0) (out : T) (s t : CellsState)
    → ((heap : List ℕ) (writes : List (ℕ × ℕ)) → step (over heap s.now.writes) (over heap writes) → means heap s.now (Ok out) (record s.now { writes = writes }))
    → ((heap : List ℕ) → leaves heap s.now)
    → Owing lawful may t → Changed lawful step s t → Ran lawful may means leaves (Ok out) s t
Ran-wrote lawful may means leaves step out s t so left owing changed =
    let now : t.now ≡ record s.now { writes = t.now.writes } = ap (λ (x : CellsState). x.now) changed.only_writes in
    let saved : t.saved ≡ s.saved = ap (λ (x : CellsState). x.saved) changed.only_writes in
    record {
      size = ap (λ (x : CellsState). x.size) changed.only_writes;
      reads = changed.reads;
      saved = λ none. saved;
      levels = let same : length t.saved ≡ length s.saved = ap length saved in omega arith;
      grows = λ none. subst (λ book. Grows s.now book) (sym now) (record {
        hooks = Extends-refl s.now.hooks;
        laters = Extends-refl s.now.laters;
        runs = Extends-refl s.now.runs;
      });
      whole = λ none decided heap possible. subst (λ book. means heap s.now (Ok out) book) (sym now) (so heap t.now.writes (changed.each heap possible));
      left = λ heap possible. left heap;
      owes = owing;
      causes = tt;
      again = λ earlier is. ap (λ (x : CellsState). x.cause) changed.only_writes ∙ is;
    }

-- a body after another, which answered Ok
pub Ran-then : {T U : Type 0} (lawful : List ℕ → Type 0) (may : List ℕ → List ℕ → Type 0)
    (means : List ℕ → Book → Result T Cause → Book → Type 0) (leaves : List ℕ → Book → Type 0)
    (means2 : List ℕ → Book → Result U Cause → Book → Type 0) (leaves2 : List ℕ → Book → Type 0)
    (both : List ℕ → Book → Result U Cause → Book → Type 0) (left : List ℕ → Book → Type 0)
    (out : T) (answer : Result U Cause) (s t u : CellsState)
    → ((heap : List ℕ) (first second third : Book) → means heap first (Ok out) second → means2 heap second answer third → both heap first answer third)
    → ((heap : List ℕ) (first second : Book) → leaves heap first → leaves2 heap second → left heap first)
    → Ran lawful may means leaves (Ok out) s t → Ran lawful may means2 leaves2 answer t u → Ran lawful may both left answer s u
Ran-then lawful may means leaves means2 leaves2 both left out answer s t u so left_so one two =
    let earlier : u.cause ≡ None → t.cause ≡ None = none_before t.cause u.cause two.again in
    let possible_then : (heap : List ℕ) → IsPossible lawful s.size u.reads heap → IsPossible lawful t.size u.reads heap =
    λ heap possible. subst (λ n. IsPossible lawful n u.reads heap) (sym one.size) possible in
    record {
      size = two.size ∙ one.size;
      reads = Extends-trans s.reads t.reads u.reads one.reads two.reads;
      saved = λ none. two.saved none ∙ one.saved (earlier none);
      levels = omega (arith, one.levels, two.levels);
      grows = λ none. Grows-trans s.now t.now u.now (one.grows (earlier none)) (two.grows none);
      whole = λ none decided heap possible. so heap s.now t.now u.now
          (one.whole (earlier none) tt heap (IsPossible-before lawful s.size t.reads u.reads heap two.reads possible))
          (two.whole none decided heap (possible_then heap possible));
      left = λ heap possible. left_so heap s.now t.now
          (one.left heap (IsPossible-before lawful s.size t.reads u.reads heap two.reads possible))
          (two.left heap (possible_then heap possible));
      owes = two.owes;
      causes = two.causes;
      again = λ cause is. two.again cause (one.again cause is);
    }

owed_if : {T : Type 0} {P : Type 0} (answer : Result T Cause) → P → IfOk answer (λ out. P)
owed_if (Ok out) owed = owed
owed_if (Err cause) owed = tt

-- A body in a level of its own that is undone after it: it leaves the writes and registrations from before, but for the handlers that ran, and whatever was owed before is met.
pub Ran-undone : {T U : Type 0} (lawful : List ℕ → Type 0) (may : List ℕ → List ℕ → Type 0)
    (means : List ℕ → Book → Result T Cause → Book → Type 0) (leaves : List ℕ → Book → Type 0)
    (means2 : List ℕ → Book → Result U Cause → Book → Type 0) (leaves2 : List ℕ → Book → Type 0)
    (answer : Result T Cause) (answer2 : Result U Cause) (s e t u : CellsState)
    → (IsDecided answer2 → IsDecided answer)
    → ((heap : List ℕ) (book : Book) → means heap s.now answer book → means2 heap s.now answer2 (restored (s.now ∷ []) book))
    → ((heap : List ℕ) → leaves heap s.now → leaves2 heap s.now)
    → IfErr answer2 (λ cause. IsOfBody cause ⊎ (t.cause ≡ Some cause))
    → Owing lawful may s → Enters s e → Ran lawful may means leaves answer e t → u ≡ undone t
    → Ran lawful may means2 leaves2 answer2 s u
Ran-undone {T} {U} lawful may means leaves means2 leaves2 answer answer2 s e t u decides so left_so causes owing enters ran0 is =
    let ran : Ran {T = T} lawful may means leaves answer (entered s) t = rw enters.is at ran0 in
    let book : t.cause ≡ None → (undone t).now ≡ restored (s.now ∷ []) t.now =
    λ none. restored-going t.cause t.saved s.saved t.now s.now none (ran.saved none) in
    let all : Ran {T = U} lawful may means2 leaves2 answer2 s (undone t) = record {
      size = ran.size;
      reads = ran.reads;
      saved = λ none. ap outer (ran.saved none);
      levels = omega (arith, length-outer t.saved, ran.levels);
      grows = λ none. subst (λ now. Grows s.now now) (sym (book none)) (record {
        hooks = Extends-refl s.now.hooks;
        laters = Extends-refl s.now.laters;
        runs = Extends-trans s.now.runs t.now.runs _ (ran.grows none).runs (Extends-append t.now.runs (undoing (drop (length s.now.hooks) t.now.hooks)));
      });
      whole = λ none decided heap possible.
          subst (λ now. means2 heap s.now answer2 now) (sym (book none)) (so heap t.now (ran.whole none (decides decided) heap possible));
      left = λ heap possible. left_so heap (ran.left heap possible);
      owes = λ none. owed_if answer2 (Owes-later lawful may s (undone t) ran.size (ap (λ (b : Book). b.writes) (book none)) ran.reads (owing enters.going));
      causes = causes;
      again = ran.again;
    } in
    subst (λ x. Ran {T = U} lawful may means2 leaves2 answer2 s x) (sym is) all

-- A body in a level of its own that is kept.
pub Ran-kept : {T U : Type 0} (lawful : List ℕ → Type 0) (may : List ℕ → List ℕ → Type 0)
    (means : List ℕ → Book → Result T Cause → Book → Type 0) (leaves : List ℕ → Book → Type 0)
    (means2 : List ℕ → Book → Result U Cause → Book → Type 0) (leaves2 : List ℕ → Book → Type 0)
    (out : T) (out2 : U) (s e t u : CellsState)
    → ((heap : List ℕ) (book : Book) → means heap s.now (Ok out) book → means2 heap s.now (Ok out2) book)
    → ((heap : List ℕ) → leaves heap s.now → leaves2 heap s.now)
    → Enters s e → Ran lawful may means leaves (Ok out) e t → u ≡ kept t
    → Ran lawful may means2 leaves2 (Ok out2) s u
Ran-kept {T} {U} lawful may means leaves means2 leaves2 out out2 s e t u so left_so enters ran0 is =
    let ran : Ran {T = T} lawful may means leaves (Ok out) (entered s) t = rw enters.is at ran0 in
    let all : Ran {T = U} lawful may means2 leaves2 (Ok out2) s (kept t) = record {
      size = ran.size;
      reads = ran.reads;
      saved = λ none. ap outer (ran.saved none);
      levels = omega (arith, length-outer t.saved, ran.levels);
      grows = ran.grows;
      whole = λ none decided heap possible. so heap t.now (ran.whole none tt heap possible);
      left = λ heap possible. left_so heap (ran.left heap possible);
      owes = ran.owes;
      causes = tt;
      again = ran.again;
    } in
    subst (λ x. Ran {T = U} lawful may means2 leaves2 (Ok out2) s x) (sym is) all

-- ---- between cells

-- what is promised under a law is so under the same law of earlier cells
pub run_under : {L T : Type 0} (lawful : L → List ℕ → Type 0) (may : L → List ℕ → List ℕ → Type 0)
    (means : List ℕ → Book → Result T Cause → Book → Type 0) (leaves : List ℕ → Book → Type 0)
    (l m : L) (answer : Result T Cause) (s t : CellsState)
    → m ≡ l → Ran {T = T} (lawful m) (may m) means leaves answer s t → Ran {T = T} (lawful l) (may l) means leaves answer s t
run_under {L} {T} lawful may means leaves l m answer s t same ran = subst (λ k. Ran {T = T} (lawful k) (may k) means leaves answer s t) same ran

pub run_refused : {S L T : Type 0} (lawful : List ℕ → Type 0) (may : List ℕ → List ℕ → Type 0) (law : S → L) (follows : S → S → Type 0) (state : S → CellsState)
    (means : List ℕ → Book → Result T Cause → Book → Type 0) (leaves : List ℕ → Book → Type 0)
    (fresh : Cause → Type 0) (cause : Cause) (c d : S)
    → ((heap : List ℕ) (book : Book) → leaves heap book)
    → Leads law follows state c d (Refused fresh cause) → Leads law follows state c d (Ran {T = T} lawful may means leaves (Err cause))
run_refused lawful may law follows state means leaves fresh cause c d left p =
    record { same_law = p.same_law; goes = p.goes; states = Ran-refused lawful may means leaves fresh cause (state c) (state d) left p.states }

pub run_wrote : {S L T : Type 0} (lawful : L → List ℕ → Type 0) (may : L → List ℕ → List ℕ → Type 0) (law : S → L) (follows : S → S → Type 0) (state : S → CellsState)
    (means : List ℕ → Book → Result T Cause → Book → Type 0) (leaves : List ℕ → Book → Type 0)
    (step : List ℕ → List ℕ → Type 0) (out : T) (c d : S)
    → ((heap : List ℕ) (writes : List (ℕ × ℕ)) → step (over heap (state c).now.writes) (over heap writes) → means heap (state c).now (Ok out) (record (state c).now { writes = writes }))
    → ((heap : List ℕ) → leaves heap (state c).now)
    → Owing (lawful (law c)) (may (law c)) (state d)
    → Writing lawful law follows state c d step → Running lawful may law follows state c d means leaves (Ok out)
run_wrote lawful may law follows state means leaves step out c d so left owing p = record {
  same_law = p.same_law;
  goes = p.goes;
  states = Ran-wrote (lawful (law c)) (may (law c)) means leaves step out (state c) (state d) so left owing p.states;
}

pub run_then : {S L T U : Type 0} (lawful : L → List ℕ → Type 0) (may : L → List ℕ → List ℕ → Type 0) (law : S → L) (follows : S → S → Type 0) (state : S → CellsState)
    → ((c d e : S) → follows c d → follows d e → follows c e)
    → (means : List ℕ → Book → Result T Cause → Book → Type 0) (leaves : List ℕ → Book → Type 0)
    (means2 : List ℕ → Book → Result U Cause → Book → Type 0) (leaves2 : List ℕ → Book → Type 0)
    (both : List ℕ → Book → Result U Cause → Book → Type 0) (left : List ℕ → Book → Type 0)
    (out : T) (answer : Result U Cause) (c d e : S)
    → ((heap : List ℕ) (first second third : Book) → means heap first (Ok out) second → means2 heap second answer third → both heap first answer third)
    → ((heap : List ℕ) (first second : Book) → leaves heap first → leaves2 heap second → left heap first)
    → Leads law follows state c d (Ran (lawful (law c)) (may (law c)) means leaves (Ok out))
    → Leads law follows state d e (Ran (lawful (law d)) (may (law d)) means2 leaves2 answer)
    → Leads law follows state c e (Ran (lawful (law c)) (may (law c)) both left answer)
run_then lawful may law follows state trans means leaves means2 leaves2 both left out answer c d e so left_so p q = record {
  same_law = q.same_law ∙ p.same_law;
  goes = trans c d e p.goes q.goes;
  states = Ran-then (lawful (law c)) (may (law c)) means leaves means2 leaves2 both left out answer (state c) (state d) (state e) so left_so p.states
      (run_under lawful may means2 leaves2 (law c) (law d) answer (state d) (state e) p.same_law q.states);
}

pub run_undone : {S L T U : Type 0} (lawful : L → List ℕ → Type 0) (may : L → List ℕ → List ℕ → Type 0) (law : S → L) (follows : S → S → Type 0) (state : S → CellsState)
    → ((c d e : S) → follows c d → follows d e → follows c e)
    → (means : List ℕ → Book → Result T Cause → Book → Type 0) (leaves : List ℕ → Book → Type 0)
    (means2 : List ℕ → Book → Result U Cause → Book → Type 0) (leaves2 : List ℕ → Book → Type 0)
    (answer : Result T Cause) (answer2 : Result U Cause) (c d e f : S)
    → (IsDecided answer2 → IsDecided answer)
    → ((heap : List ℕ) (book : Book) → means heap (state c).now answer book → means2 heap (state c).now answer2 (restored ((state c).now ∷ []) book))
    → ((heap : List ℕ) → leaves heap (state c).now → leaves2 heap (state c).now)
    → IfErr answer2 (λ cause. IsOfBody cause ⊎ ((state e).cause ≡ Some cause))
    → Owing (lawful (law c)) (may (law c)) (state c)
    → Leads law follows state c d Enters
    → Leads law follows state d e (Ran (lawful (law d)) (may (law d)) means leaves answer)
    → Leads law follows state e f (λ before after. after ≡ undone before)
    → Leads law follows state c f (Ran (lawful (law c)) (may (law c)) means2 leaves2 answer2)
run_undone lawful may law follows state trans means leaves means2 leaves2 answer answer2 c d e f decides so left_so causes owing p q r = record {
  same_law = r.same_law ∙ (q.same_law ∙ p.same_law);
  goes = trans c e f (trans c d e p.goes q.goes) r.goes;
  states = Ran-undone (lawful (law c)) (may (law c)) means leaves means2 leaves2 answer answer2 (state c) (state d) (state e) (state f) decides so left_so causes owing p.states
      (run_under lawful may means leaves (law c) (law d) answer (state d) (state e) p.same_law q.states) r.states;
}

pub run_kept : {S L T U : Type 0} (lawful : L → List ℕ → Type 0) (may : L → List ℕ → List ℕ → Type 0) (law : S → L) (follows : S → S → Type 0) (state : S → CellsState)
    → ((c d e : S) → follows c d → follows d e → follows c e)
    → (means : List ℕ → Book → Result T Cause → Book → Type 0) (leaves : List ℕ → Book → Type 0)
    (means2 : List ℕ → Book → Result U Cause → Book → Type 0) (leaves2 : List ℕ → Book → Type 0)
    (out : T) (out2 : U) (c d e f : S)
    → ((heap : List ℕ) (book : Book) → means heap (state c).now (Ok out) book → means2 heap (state c).now (Ok out2) book)
    → ((heap : List ℕ) → leaves heap (state c).now → leaves2 heap (state c).now)
    → Leads law follows state c d Enters
    → Leads law follows state d e (Ran (lawful (law d)) (may (law d)) means leaves (Ok out))
    → Leads law follows state e f (λ before after. after ≡ kept before)
    → Leads law follows state c f (Ran (lawful (law c)) (may (law c)) means2 leaves2 (Ok out2))
run_kept lawful may law follows state trans means leaves means2 leaves2 out out2 c d e f so left_so p q r = record {
  same_law = r.same_law ∙ (q.same_law ∙ p.same_law);
  goes = trans c e f (trans c d e p.goes q.goes) r.goes;
  states = Ran-kept (lawful (law c)) (may (law c)) means leaves means2 leaves2 out out2 (state c) (state d) (state e) (state f) so left_so p.states
      (run_under lawful may means leaves (law c) (law d) (Ok out) (state d) (state e) p.same_law q.states) r.states;
}

-- ---- bodies that are calls alone

pub Owes-free : (lawful : List ℕ → Type 0) (may : List ℕ → List ℕ → Type 0) (s : CellsState)
    → ((heap : List ℕ) → lawful heap) → ((before after : List ℕ) → may before after) → Owes lawful may s.size s.reads s.now.writes
Owes-free lawful may s all any = λ heap possible. (all (over heap s.now.writes), any heap (over heap s.now.writes))

-- a body all of whose calls did what they do
pub Ran-calls : {T : Type 0} (lawful : List ℕ → Type 0) (may : List ℕ → List ℕ → Type 0)
    (means : List ℕ → Book → Result T Cause → Book → Type 0) (leaves : List ℕ → Book → Type 0)
    (out : T) (s t : CellsState)
    → s.cause ≡ None → t.size ≡ s.size → Extends s.reads t.reads → t.saved ≡ s.saved → Grows s.now t.now
    → ((heap : List ℕ) → IsPossible lawful s.size t.reads heap → means heap s.now (Ok out) t.now)
    → ((heap : List ℕ) → leaves heap s.now)
    → Owes lawful may t.size t.reads t.now.writes
    → Ran lawful may means leaves (Ok out) s t
Ran-calls lawful may means leaves out s t going size reads saved grows whole left owes = record {
  size = size;
  reads = reads;
  saved = λ none. saved;
  levels = let same : length t.saved ≡ length s.saved = ap length saved in omega arith;
  grows = λ none. grows;
  whole = λ none decided heap possible. whole heap possible;
  left = λ heap possible. left heap;
  owes = λ none. owes;
  causes = tt;
  again = λ earlier is. cc (going, is);
}
