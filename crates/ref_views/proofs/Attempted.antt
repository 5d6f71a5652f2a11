-- What an attempt tells whose body is one operation.
use Rattle.std.proofs.Common.{◌≡◌, ℕ, ◌<◌, List, [], ◌∷◌, length, Option, Some, None, refl, sym, ap, subst, ◌∙◌, inl, inr, arith}
use Rattle.std.specs.Prelude.{Result, Ok, Err, MatchResult, ◌⊎◌}
use Rattle.ref_table.specs.Seats.{StmState}
use Rattle.stm_model.specs.CellsState.{Book, empty_book}
use Rattle.stm_model.specs.Whole.{RunLate, Whole}
use Rattle.stm_model.specs.declared.cause.Cause.{Cause}
use Rattle.txn_run.specs.Bodies.{Gave, IsLeft, in_run, in_late, by_run, by_late}
use Rattle.txn_run.specs.Callers.{CallerState}
use Rattle.txn_run.specs.Outcomes.{CommittedAs, Concludes, ConcludesAs, ReadAs, RolledAs}
use Rattle.txn_run.specs.declared.callers.Outcome.{Outcome}
use Rattle.txn_run.specs.declared.callers.Outcome.TheVariants as with
use Rattle.ref_views.specs.Typed.{Holds}
use Rattle.ref_views.specs.Operating.{CommittedBy, Operated, Operates, OperatesAs, ReadBy, RolledBy, answering, put_if}

-- before-commit bodies that do nothing
abbrev pub LateMeans : {B : Type 0} → B → ℕ → List ℕ → Book → Result (Unit {0}) Cause → Book → B → Type 0
LateMeans body token heap before answer after last = (last ≡ body) × MatchResult answer (λ _. after ≡ before) (λ _. ⊥)

abbrev pub LateLeaves : {B : Type 0} → B → ℕ → List ℕ → Book → B → Type 0
LateLeaves body token heap before last = last ≡ body

late_same : {B : Type 0} (heap : List ℕ) (tokens : List ℕ) (body : B) (before after : Book) (last : B)
    → RunLate LateMeans heap tokens body before after last → (after ≡ before) × (last ≡ body)
late_same heap [] body before after last run = run
late_same heap (token ∷ tokens) body before after last run =
    let rest = late_same heap tokens run.1 run.0 after last run.3 in
    (rest.0 ∙ run.2.1, rest.1 ∙ run.2.0)

module _ {B T Out : Type 0} (word_of : T → ℕ) (value_of : ℕ → Option T) (address : ℕ) (operation : T → Out → Option T → Type 0) (left : Option T → Type 0)
    (means : B → List ℕ → Book → Result Out Cause → Book → B → Type 0) (leaves : B → List ℕ → Book → B → Type 0) (body last : B)
    (run : (heap : List ℕ) (out : Out) (after : Book) → means body heap empty_book (Ok out) after last → Operated word_of value_of address operation heap empty_book out after)
    (fails : (heap : List ℕ) (cause : Cause) (after : Book) → means body heap empty_book (Err cause) after last → ⊥)
    (lost : (heap : List ℕ) → leaves body heap empty_book last → left None ⊎ ((former : T) × left (Some former) × Holds value_of address former heap))
    (came : (former : T) (out : Out) (written : Option T) → operation former out written → left (Some former))
    (spent : last ≡ body → left None) where
  whole : (heap : List ℕ) (out : Out) (book : Book) → Whole means LateMeans body heap out book last → Operated word_of value_of address operation heap empty_book out book
  whole heap out book w =
      let same = late_same heap book.laters w.next w.book book last w.lates in
      subst (λ (b : Book). Operated word_of value_of address operation heap empty_book out b) (sym same.0)
      (run heap out w.book (subst (λ (b : B). means body heap empty_book (Ok out) w.book b) (sym same.1) w.run))

  gave : (heap : List ℕ) (cause : Cause) (book : Book) → Gave means LateMeans body heap cause book last → ⊥
  gave heap cause book (in_run failed) = fails heap cause book failed
  gave heap cause book (in_late tokens token out before next ran front late) = late.1

  came_to : (heap : List ℕ) → IsLeft means leaves LateMeans LateLeaves body heap last → left None ⊎ ((former : T) × left (Some former) × Holds value_of address former heap)
  came_to heap (by_run left_so) = lost heap left_so
  came_to heap (by_late tokens token out before next ran front late) =
      let same = late_same heap tokens ran.next ran.first before next ran.lates in
      let there = run heap out ran.first (subst (λ (b : B). means body heap empty_book (Ok out) ran.first b) (sym (late ∙ same.1)) ran.run) in
      inr (there.former, came there.former out there.written there.does, there.held)

  has_written : (written : Option T) → 0 < length (put_if word_of address written []) → (value : T) × (written ≡ Some value)
  has_written None some = absurd (omega (arith, some))
  has_written (Some value) some = (value, refl)

  pub committed : (opening : List ℕ) (before after : CallerState) (out : Out) (stamp : ℕ)
      → CommittedAs (λ out heap book. Whole means LateMeans body heap out book last) opening before after out stamp
      → CommittedBy word_of value_of address operation opening before after out stamp
  committed opening before after out stamp p =
      let there = whole _ out p.book p.whole in
      let wrote = has_written there.written (subst (λ ws. 0 < length ws) (ap (λ (b : Book). b.writes) there.book) p.some) in
      record {
        ending = p.ending;
        low = p.low;
        high = p.high;
        entry = p.entry;
        only = p.only;
        former = there.former;
        written = wrote.0;
        held = there.held;
        does = subst (λ (w : Option T). operation there.former out w) wrote.1 there.does;
        writes = ap (λ e. e.writes) p.entry ∙ (p.has.writes ∙ (ap (λ (b : Book). b.writes) there.book ∙ ap (λ (w : Option T). put_if word_of address w []) wrote.1));
      }

  wrote_none : (former : T) (out : Out) (written : Option T) → operation former out written → put_if word_of address written [] ≡ [] → operation former out None
  wrote_none former out None does nothing = does
  wrote_none former out (Some value) does nothing = cc

  wrote_some : (former : T) (out : Out) (written : Option T) → operation former out written → 0 < length (put_if word_of address written [])
      → (value : T) × operation former out (Some value)
  wrote_some former out written does some =
      let wrote = has_written written some in
      (wrote.0, subst (λ (w : Option T). operation former out w) wrote.1 does)

  pub read : (opening : List ℕ) (before after : CallerState) (out : Out) (prefix : ℕ)
      → ReadAs (λ out heap book. Whole means LateMeans body heap out book last) opening before after out prefix
      → ReadBy value_of address operation opening before after out prefix
  read opening before after out prefix p =
      let there = whole _ out p.book p.whole in
      record {
        ending = p.ending;
        none = p.none;
        former = there.former;
        held = there.held;
        does = wrote_none there.former out there.written there.does (sym (ap (λ (b : Book). b.writes) there.book) ∙ p.nothing);
      }

  pub rolled : (opening : List ℕ) (before after : CallerState) (cause : Cause) (prefix : ℕ)
      → RolledAs (λ out heap book. Whole means LateMeans body heap out book last) (λ cause heap book. Gave means LateMeans body heap cause book last)
      (λ heap. IsLeft means leaves LateMeans LateLeaves body heap last) opening before after cause prefix
      → RolledBy value_of address operation left opening before after cause prefix
  rolled opening before after cause prefix p = record {
    ending = p.ending;
    none = p.none;
    cells = λ word. gave _ cause p.book (p.answered word);
    at_end = λ clock is.
        let end = p.at_end clock is in
        let there = whole _ end.0 p.book end.1 in
        let wrote = wrote_some there.former end.0 there.written there.does (subst (λ ws. 0 < length ws) (ap (λ (b : Book). b.writes) there.book) end.2) in
        (there.former, end.0, wrote.0, wrote.1, there.held);
    leaves = came_to _ p.left;
  }

  pub operates_as : (opening : List ℕ) (before after : CallerState) (outcome : Outcome Out)
      → ConcludesAs (λ out heap book. Whole means LateMeans body heap out book last) (λ cause heap book. Gave means LateMeans body heap cause book last)
      (λ heap. IsLeft means leaves LateMeans LateLeaves body heap last) opening before after outcome
      → OperatesAs word_of value_of address operation left opening before after outcome
  operates_as opening before after (with.Committed out stamp) p = committed opening before after out stamp p
  operates_as opening before after (with.Read out prefix) p = read opening before after out prefix p
  operates_as opening before after (with.Rolled cause prefix) p = rolled opening before after cause prefix p

  pub operates : {S : Type 0} (stm : StmState S) (before after : CallerState) (outcome : Outcome Out)
      → Concludes (λ out heap book. Whole means LateMeans body heap out book last) (λ cause heap book. Gave means LateMeans body heap cause book last)
      (λ heap. IsLeft means leaves LateMeans LateLeaves body heap last) (last ≡ body) stm before after outcome
      → Operates word_of value_of address operation left stm before after outcome
  operates stm before after outcome (inl made) = inl (made.0, operates_as stm.opening before after outcome made.1)
  operates stm before after outcome (inr none) = inr (record { spent = none.spent; ends = none.ends; same = none.same; body = spent none.body })

-- what is the same of a body, however its attempt ends
module _ {B Out : Type 0} (means : B → List ℕ → Book → Result Out Cause → Book → B → Type 0) (leaves : B → List ℕ → Book → B → Type 0) (body last : B) (K : B → Type 0)
    (ended : (heap : List ℕ) (out : Out) (after : Book) (b : B) → means body heap empty_book (Ok out) after b → K b)
    (lost : (heap : List ℕ) → leaves body heap empty_book last → K last) (same : K body) where
  kept_as : (opening : List ℕ) (before after : CallerState) (outcome : Outcome Out)
      → ConcludesAs (λ out heap book. Whole means LateMeans body heap out book last) (λ cause heap book. Gave means LateMeans body heap cause book last)
      (λ heap. IsLeft means leaves LateMeans LateLeaves body heap last) opening before after outcome
      → K last
  kept_as opening before after (with.Committed out stamp) p = after_all _ out p.book p.whole
    where
      after_all : (heap : List ℕ) (out : Out) (book : Book) → Whole means LateMeans body heap out book last → K last
      after_all heap out book w = subst K (sym (late_same heap book.laters w.next w.book book last w.lates).1) (ended heap out w.book w.next w.run)
  kept_as opening before after (with.Read out prefix) p = after_all _ out p.book p.whole
    where
      after_all : (heap : List ℕ) (out : Out) (book : Book) → Whole means LateMeans body heap out book last → K last
      after_all heap out book w = subst K (sym (late_same heap book.laters w.next w.book book last w.lates).1) (ended heap out w.book w.next w.run)
  kept_as opening before after (with.Rolled cause prefix) p = left_so _ p.left
    where
      left_so : (heap : List ℕ) → IsLeft means leaves LateMeans LateLeaves body heap last → K last
      left_so heap (by_run left) = lost heap left
      left_so heap (by_late tokens token out before next ran front late) =
          subst K (sym (late ∙ (late_same heap tokens ran.next ran.first before next ran.lates).1)) (ended heap out ran.first ran.next ran.run)

  pub kept : {S : Type 0} (stm : StmState S) (before after : CallerState) (outcome : Outcome Out)
      → Concludes (λ out heap book. Whole means LateMeans body heap out book last) (λ cause heap book. Gave means LateMeans body heap cause book last)
      (λ heap. IsLeft means leaves LateMeans LateLeaves body heap last) (last ≡ body) stm before after outcome
      → K last
  kept stm before after outcome (inl made) = kept_as stm.opening before after outcome made.1
  kept stm before after outcome (inr none) = subst K (sym none.body) same

-- ---- another answer

module _ {T A B : Type 0} (word_of : T → ℕ) (value_of : ℕ → Option T) (address : ℕ) (one : T → A → Option T → Type 0) (two : T → B → Option T → Type 0)
    (left : Option T → Type 0) (answer : A → B) (so : (former : T) (out : A) (written : Option T) → one former out written → two former (answer out) written) where
  answers_as : (opening : List ℕ) (before after : CallerState) (outcome : Outcome A) → OperatesAs word_of value_of address one left opening before after outcome
      → OperatesAs word_of value_of address two left opening before after (answering answer outcome)
  answers_as opening before after (with.Committed out stamp) p = record {
    ending = p.ending;
    low = p.low;
    high = p.high;
    entry = p.entry;
    only = p.only;
    former = p.former;
    written = p.written;
    held = p.held;
    does = so p.former out (Some p.written) p.does;
    writes = p.writes;
  }
  answers_as opening before after (with.Read out prefix) p = record { ending = p.ending; none = p.none; former = p.former; held = p.held; does = so p.former out None p.does }
  answers_as opening before after (with.Rolled cause prefix) p = record {
    ending = p.ending;
    none = p.none;
    cells = p.cells;
    at_end = λ clock is. let end = p.at_end clock is in (end.0, answer end.1, end.2, so end.0 end.1 (Some end.2) end.3, end.4);
    leaves = p.leaves;
  }

  pub answers : {S : Type 0} (stm : StmState S) (before after : CallerState) (outcome : Outcome A) → Operates word_of value_of address one left stm before after outcome
      → Operates word_of value_of address two left stm before after (answering answer outcome)
  answers stm before after outcome (inl made) = inl (made.0, answers_as stm.opening before after outcome made.1)
  answers stm before after outcome (inr none) = inr (record { spent = none.spent; ends = ap (answering answer) none.ends; same = none.same; body = none.body })
