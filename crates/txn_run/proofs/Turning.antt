-- The turns of before-commit bodies, one after another.
use Rattle.std.proofs.Common.{◌≡◌, ℕ, zero, suc, ◌^◌, ◌-◌, ◌<◌, ◌⊎◌, List, [], ◌∷◌, ◌++◌, drop, take, Option, Some, None, Result, Ok, Err, refl, sym, ap, subst, ◌∙◌, inl, inr, ⊎_elim, arith, append_assoc}
use Rattle.std.specs.Prelude.{IfErr, IfOk, IfSome}
use mathlib.Core.List.{IsPrefix}
use Rattle.meta_word.specs.declared.status.Phase.TheVariants.{Active}
use Rattle.stm_model.specs.Attempt.{Attempt, Ended, Late, Stage, cause_at, cells_of}
use Rattle.stm_model.specs.CellsState.{Book}
use Rattle.stm_model.specs.Moves.{AwaitsAsk, AwaitsAskAt}
use Rattle.stm_model.specs.Owes.{IsPossible, Owes}
use Rattle.stm_model.specs.Ran.{IsDecided, Ran}
use Rattle.stm_model.specs.Refusing.{IsOfBody, IsOfCells}
use Rattle.stm_model.specs.Whole.{RunLate}
use Rattle.stm_model.specs.declared.cause.Cause.{Cause}
use Rattle.stm_model.specs.declared.cause.Cause.TheVariants.{Full, Retry, User}
use Rattle.stm_model.specs.declared.note.Note.{Note}
use Rattle.txn_run.specs.Outcomes.{IsWord}
use Rattle.txn_run.specs.Turns.{GaveLate, InTurn, LeftLate, Turning, at_end, by_late, concluded, in_turn, rolled_back, turns_left}
use Rattle.stm_model.proofs.CellsLemmas.{IsPossible-before}
use Rattle.std.proofs.lemmas.List.{append-nil, take-append-drop}
use Rattle.txn_run.proofs.Finishing.{AbandonEnds, FinishEnds}
use Rattle.txn_run.proofs.Finishing as end

-- a word of a body is no cause of cells
word_of_cells : (cause : Cause) → IsWord cause → IsOfCells cause → ⊥
word_of_cells Retry word of = of
word_of_cells (User code) word of = of
word_of_cells (Full used blocks) word of = absurd of
word_of_cells cause word of = absurd word

-- and the heap decides it
pub word_decided : (T : Type 0) (cause : Cause) → IsWord cause → IsDecided {T = T} (Err cause)
word_decided T Retry word = tt
word_decided T (User code) word = tt
word_decided T (Full used blocks) word = tt
word_decided T cause word = absurd word

pub refused_word : (t : Attempt) (cause : Cause) → IfSome (cause_at t.stage) IsOfCells → cause_at t.stage ≡ Some cause → IsWord cause → ⊥
refused_word t cause of is word = word_of_cells cause word (subst (λ (c : Option Cause). IfSome c IsOfCells) is of)

-- Who is rolled back by a body is so with a cause of cells or of a body.
pub end_cause : (u v : Attempt) (cause : Cause) (end : AbandonEnds cause u v) → IfSome (cause_at u.stage) IsOfCells → IsOfBody cause ⊎ (cause_at u.stage ≡ Some cause) → IsOfCells end.last ⊎ IsOfBody end.last
end_cause u v cause end refused gave = ⊎_elim
    (λ (known : cause_at u.stage ≡ Some end.last). inl (subst (λ (c : Option Cause). IfSome c IsOfCells) known refused))
    (λ fresh. inr (⊎_elim (λ (own : IsOfBody cause). subst IsOfBody (sym fresh.1) own) (λ (other : cause_at u.stage ≡ Some cause). absurd (cc (sym fresh.0 ∙ other))) gave)) end.is

-- ---- lists

take_next : (xs more : List ℕ) (n token : ℕ) (behind : List ℕ) → drop n xs ≡ token ∷ behind → take (suc n) (xs ++ more) ≡ take n xs ++ token ∷ []
take_next [] more zero token behind is = absurd (cc is)
take_next [] more (suc n) token behind is = absurd (cc is)
take_next (x ∷ xs) more zero token behind is = let same : x ≡ token = cc is in rw same refl
take_next (x ∷ xs) more (suc n) token behind is = ap (λ (ys : List ℕ). x ∷ ys) (take_next xs more n token behind is)

take_front : (xs : List ℕ) (n token : ℕ) (behind : List ℕ) → drop n xs ≡ token ∷ behind → IsPrefix (take n xs ++ token ∷ []) xs
take_front xs n token behind is = (behind, append_assoc (take n xs) (token ∷ []) behind ∙ (ap (λ (ys : List ℕ). take n xs ++ ys) (sym is) ∙ take-append-drop n xs))

take_whole : (xs : List ℕ) (n : ℕ) → drop n xs ≡ [] → take n xs ≡ xs
take_whole xs n is = sym (append-nil (take n xs)) ∙ (ap (λ (ys : List ℕ). take n xs ++ ys) (sym is) ∙ take-append-drop n xs)

none_going : (stage : Stage) (token : ℕ) → stage ≡ Late token → cause_at stage ≡ None
unfolding cause_at
none_going stage token is = rw is refl

module _ {B : Type 0} (late_means : B → ℕ → List ℕ → Book → Result (Unit {0}) Cause → Book → B → Type 0) (late_leaves : B → ℕ → List ℕ → Book → B → Type 0) where
  -- one more before-commit body ran well
  run_one : (heap : List ℕ) (tokens : List ℕ) (token : ℕ) (body next left : B) (before book after : Book) → RunLate late_means heap tokens body before book next
      → late_means next token heap book (Ok tt) after left → RunLate late_means heap (tokens ++ token ∷ []) body before after left
  run_one heap [] token body next left before book after ran one =
      (after, left, subst (λ (b : Book). late_means body token heap b (Ok tt) after left) ran.0 (subst (λ (n : B). late_means n token heap book (Ok tt) after left) ran.1 one), (refl, refl))
  run_one heap (first ∷ tokens) token body next left before book after ran one = (ran.0, ran.1, ran.2, run_one heap tokens token ran.1 next left ran.0 book after ran.3 one)

  module _ (Going : Type 0) (lawful : List ℕ → Type 0) (may : List ℕ → List ℕ → Type 0) (size : ℕ) (body : B) (reads : List Note) (before : Book) where
    -- What is known of an attempt whose body, or whose before-commit body, is over.
    pub record IsReached (t : Attempt) (left : B) : Type 0 where
      pub waits : AwaitsAsk t
      pub active : t.phase ≡ Active
      pub refused : IfSome (cause_at t.stage) IsOfCells
      pub owes : cause_at t.stage ≡ None → Owes lawful may size t.notes t.now.writes
      pub since : cause_at t.stage ≡ None → Going
      pub earlier : (heap : List ℕ) → IsPossible lawful size t.notes heap → IsPossible lawful size reads heap
      pub ran : cause_at t.stage ≡ None → (heap : List ℕ) → IsPossible lawful size t.notes heap → RunLate late_means heap (take t.turn t.now.laters) body before t.now left
      pub leaves : (heap : List ℕ) → IsPossible lawful size t.notes heap → LeftLate Going late_means late_leaves heap body before left

    pub turning_from : (t u : Attempt) (left : B) → IsReached t left → FinishEnds t u → Turning Going late_means late_leaves lawful may size body reads before u left
    unfolding AwaitsAskAt
    turning_from t u left reached ends = elim ends [
      | end.late token tokens going next is ↦ subst (λ (a : Attempt). Turning Going late_means late_leaves lawful may size body reads before a left) (sym is) (in_turn (record {
        going = reached.since going;
        waits = record { stands = tt; nothing_due = reached.waits.nothing_due };
        done = t.turn;
        turn = refl;
        token = token;
        behind = tokens;
        stage = refl;
        next = next;
        owes = reached.owes going;
        earlier = reached.earlier;
        ran = reached.ran going;
        leaves = reached.leaves;
      }))
      | end.concluded going none led over ↦ at_end over (concluded t reached.waits reached.active led
          (λ heap possible. (
            (record { going = reached.since going; possible = reached.earlier heap possible }, subst (λ (tokens : List ℕ). RunLate late_means heap tokens body before t.now left) (take_whole t.now.laters t.turn none) (reached.ran going heap possible)),
            (reached.earlier heap possible, reached.leaves heap possible),
          )))
      | end.rolled_back cause is led over ↦ at_end over (rolled_back t cause reached.waits reached.active (inl (subst (λ (c : Option Cause). IfSome c IsOfCells) is reached.refused)) led (λ heap possible. (reached.earlier heap possible, reached.leaves heap possible))
          (λ word. absurd (refused_word t cause reached.refused is word)))
    ]

    -- ---- one turn

    module _ (t u : Attempt) (next left : B) (answer : Result (Unit {0}) Cause) (turn : InTurn Going late_means late_leaves lawful may size body reads before t next)
        (waits : AwaitsAsk u) (active : u.phase ≡ Active) (refused : IfSome (cause_at u.stage) IsOfCells) (same : u.turn ≡ t.turn)
        (ran : Ran lawful may (λ heap book answer after. late_means next turn.token heap book answer after left) (λ heap book. late_leaves next turn.token heap book left) answer (cells_of size t) (cells_of size u)) where
      was_going : cause_at t.stage ≡ None
      was_going = none_going t.stage turn.token turn.stage

      earlier : (heap : List ℕ) → IsPossible lawful size u.notes heap → IsPossible lawful size t.notes heap
      earlier heap possible = IsPossible-before lawful size t.notes u.notes heap ran.reads possible

      leaves_so : (heap : List ℕ) → IsPossible lawful size u.notes heap → LeftLate Going late_means late_leaves heap body before left
      leaves_so heap possible = by_late turn.going (take turn.done t.now.laters) turn.token t.now next (turn.ran heap (earlier heap possible)) (take_front t.now.laters turn.done turn.token turn.behind turn.next) (ran.left heap possible)

      all_turns : cause_at u.stage ≡ None → take u.turn u.now.laters ≡ take turn.done t.now.laters ++ turn.token ∷ []
      all_turns going =
          let grown = (ran.grows going).laters in
          ap (λ (n : ℕ). take n u.now.laters) (same ∙ turn.turn) ∙ (ap (λ (ys : List ℕ). take (suc turn.done) ys) grown.1 ∙ take_next t.now.laters grown.0 turn.done turn.token turn.behind turn.next)

      pub turned_well : answer ≡ Ok tt → IsReached u left
      turned_well well = record {
        waits = waits;
        active = active;
        refused = refused;
        owes = λ going. subst (λ (a : Result (Unit {0}) Cause). IfOk a (λ out. Owes lawful may size u.notes u.now.writes)) well (ran.owes going);
        since = λ going. turn.going;
        earlier = λ heap possible. turn.earlier heap (earlier heap possible);
        ran = λ going heap possible. subst (λ (tokens : List ℕ). RunLate late_means heap tokens body before u.now left) (sym (all_turns going))
            (run_one heap (take turn.done t.now.laters) turn.token body next left before t.now u.now (turn.ran heap (earlier heap possible))
            (subst (λ (a : Result (Unit {0}) Cause). late_means next turn.token heap t.now a u.now left) well (ran.whole going (subst IsDecided (sym well) tt) heap possible)));
        leaves = leaves_so;
      }

      gave_so : (cause : Cause) → answer ≡ Err cause → cause_at u.stage ≡ None → IsWord cause → (heap : List ℕ) → IsPossible lawful size u.notes heap → GaveLate late_means heap cause body before u.now left
      gave_so cause is going word heap possible = record {
        tokens = take turn.done t.now.laters;
        token = turn.token;
        then = t.now;
        next = next;
        ran = turn.ran heap (earlier heap possible);
        front = take_front t.now.laters turn.done turn.token turn.behind turn.next;
        gave = subst (λ (a : Result (Unit {0}) Cause). late_means next turn.token heap t.now a u.now left) is (ran.whole going (subst IsDecided (sym is) (word_decided (Unit {0}) cause word)) heap possible);
      }

      pub turned_ill : (cause : Cause) (v : Attempt) → answer ≡ Err cause → AbandonEnds cause u v → Turning Going late_means late_leaves lawful may size body reads before v left
      turned_ill cause v is ends = at_end ends.over (rolled_back u ends.last waits active
          (end_cause u v cause ends refused (subst (λ (a : Result (Unit {0}) Cause). IfErr a (λ c. IsOfBody c ⊎ (cause_at u.stage ≡ Some c))) is ran.causes)) ends.led (λ heap possible. (turn.earlier heap (earlier heap possible), leaves_so heap possible)) (λ word heap possible. (
            record { going = turn.going; possible = turn.earlier heap (earlier heap possible) },
            ⊎_elim
                (λ (known : cause_at u.stage ≡ Some ends.last). absurd (refused_word u ends.last refused known word))
                (λ fresh. subst (λ (c : Cause). GaveLate late_means heap c body before u.now left) (sym fresh.1) (gave_so cause is fresh.0 (subst IsWord fresh.1 word) heap possible)) ends.is,
          )))

-- ---- each turn leaves fewer

over_falls : (stage : Stage) (turn before : ℕ) → stage ≡ Ended → before < 2 ^ 64 → turns_left stage turn < 2 ^ 64 - before
unfolding turns_left
over_falls stage turn before is low = rw is (omega (arith, low))

late_falls : (stage : Stage) (turn before token : ℕ) → stage ≡ Late token → turn ≡ suc before → before < 2 ^ 64 → turns_left stage turn < 2 ^ 64 - before
unfolding turns_left
late_falls stage turn before token is more low = rw (is, more) (omega (arith, low))

-- It is said of one that has its turn.
falls_from : (t u : Attempt) (token : ℕ) → t.stage ≡ Late token → turns_left u.stage u.turn < 2 ^ 64 - t.turn → turns_left u.stage u.turn < turns_left t.stage t.turn
unfolding turns_left
falls_from t u token is falls = rw is falls

pub finish_falls : (t u v : Attempt) (token : ℕ) → t.stage ≡ Late token → t.turn < 2 ^ 64 → u.turn ≡ t.turn → FinishEnds u v → turns_left v.stage v.turn < turns_left t.stage t.turn
finish_falls t u v token is low same ends = falls_from t v token is (elim ends [
  | end.late next tokens going more here ↦ late_falls v.stage v.turn t.turn next (ap (λ (a : Attempt). a.stage) here) (ap (λ (a : Attempt). a.turn) here ∙ ap suc same) low
  | end.concluded going none led over ↦ over_falls v.stage v.turn t.turn over.stage low
  | end.rolled_back cause known led over ↦ over_falls v.stage v.turn t.turn over.stage low
])

pub abandon_falls : (t u v : Attempt) (token : ℕ) (cause : Cause) → t.stage ≡ Late token → t.turn < 2 ^ 64 → AbandonEnds cause u v → turns_left v.stage v.turn < turns_left t.stage t.turn
abandon_falls t u v token cause is low ends = falls_from t v token is (over_falls v.stage v.turn t.turn ends.over.stage low)
