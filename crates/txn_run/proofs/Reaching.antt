-- From the run of a body to the end of its attempt.
use Rattle.std.proofs.Common.{◌≡◌, ℕ, ◌⊎◌, List, [], ◌∷◌, ◌++◌, Some, None, Result, Ok, Err, sym, subst, ◌∙◌, ⊎_elim, append_assoc}
use Rattle.std.specs.Prelude.{IfErr, IfSome}
use mathlib.Core.List.{IsPrefix}
use Rattle.meta_word.specs.declared.status.Phase.TheVariants.{Active}
use Rattle.stm_model.specs.Attempt.{Attempt, cause_at, cells_of}
use Rattle.stm_model.specs.CellsState.{Book, empty_book}
use Rattle.stm_model.specs.Heap.{over}
use Rattle.stm_model.specs.Moves.{AwaitsAsk}
use Rattle.stm_model.specs.Owes.{IsPossible, Owes}
use Rattle.stm_model.specs.Ran.{IsDecided, Ran}
use Rattle.stm_model.specs.Refusing.{IsOfBody, IsOfCells}
use Rattle.stm_model.specs.Whole.{RunLate, Whole}
use Rattle.stm_model.specs.declared.cause.Cause.{Cause}
use Rattle.txn_run.specs.Bodies.{Gave, IsLeft, RanTo}
use Rattle.txn_run.specs.Bodies as so
use Rattle.txn_run.specs.Outcomes.{IsWord}
use Rattle.stm_model.specs.declared.ending.Ending.{Ending}
use Rattle.stm_model.specs.declared.ending.Ending.TheVariants.{Committed, Read, Rolled}
use Rattle.txn_run.specs.declared.callers.Outcome.{Outcome}
use Rattle.txn_run.specs.Turns.{ComesToEnd, EndsAs, GaveLate, IsOutcome, IsSince, LeftLate, MayEnd, as_it_was, by_late, concluded, rolled_back}
use Rattle.txn_run.proofs.Ending.{rolled_ends}
use Rattle.txn_run.proofs.Finishing.{AbandonEnds}
use Rattle.txn_run.proofs.Turning.{end_cause, refused_word, word_decided}

-- An attempt came to its end with less to say.
pub comes_map : (lawful : List ℕ → Type 0) (size : ℕ) (E F : List ℕ → Book → Type 0) (G K : Cause → List ℕ → Book → Type 0) (M N : List ℕ → Type 0) (u : Attempt)
    → ((heap : List ℕ) (book : Book) → E heap book → F heap book) → ((cause : Cause) (heap : List ℕ) (book : Book) → G cause heap book → K cause heap book) → ((heap : List ℕ) → M heap → N heap)
    → ComesToEnd lawful size E G M u → ComesToEnd lawful size F K N u
comes_map lawful size E F G K M N u ends gives leaves comes = elim comes [
  | concluded t waits active led all ↦ concluded t waits active led (λ heap possible. let here = all heap possible in (ends heap t.now here.0, leaves heap here.1))
  | rolled_back t cause waits active of led left gave ↦ rolled_back t cause waits active of led (λ heap possible. leaves heap (left heap possible)) (λ word heap possible. gives cause heap t.now (gave word heap possible))
]

-- Nothing is owed where nothing was written.
pub owes_nothing : (lawful : List ℕ → Type 0) (may : List ℕ → List ℕ → Type 0) (size : ℕ) (t : Attempt) → ((heap : List ℕ) → lawful heap → may heap heap) → t.now ≡ empty_book → Owes lawful may size t.notes t.now.writes
owes_nothing lawful may size t stays fresh = λ heap possible.
    subst (λ (b : Book). lawful (over heap b.writes) × may heap (over heap b.writes)) (sym fresh) (possible.keeps_law, stays heap possible.keeps_law)

prefix_front : (tokens more whole : List ℕ) → IsPrefix (tokens ++ more) whole → IsPrefix tokens whole
prefix_front tokens more whole first = (more ++ first.0, sym (append_assoc tokens more first.0) ∙ first.1)

module _ {B T : Type 0} (means : B → List ℕ → Book → Result T Cause → Book → B → Type 0) (leaves : B → List ℕ → Book → B → Type 0)
    (late_means : B → ℕ → List ℕ → Book → Result (Unit {0}) Cause → Book → B → Type 0) (late_leaves : B → ℕ → List ℕ → Book → B → Type 0)
    (lawful : List ℕ → Type 0) (may : List ℕ → List ℕ → Type 0) (size : ℕ) (body next left : B) (t u : Attempt) (fresh : t.now ≡ empty_book) where
  module _ (answer : Result T Cause) (ran : Ran lawful may (λ heap before answer after. means body heap before answer after next) (λ heap before. leaves body heap before next) answer (cells_of size t) (cells_of size u)) where
    run_whole : cause_at u.stage ≡ None → IsDecided answer → (heap : List ℕ) → IsPossible lawful size u.notes heap → means body heap empty_book answer u.now next
    run_whole going decided heap possible = subst (λ (b : Book). means body heap b answer u.now next) fresh (ran.whole going decided heap possible)

    run_left : (heap : List ℕ) → IsPossible lawful size u.notes heap → leaves body heap empty_book next
    run_left heap possible = subst (λ (b : Book). leaves body heap b next) fresh (ran.left heap possible)

    -- ---- the body answered well

    module _ (out : T) (well : answer ≡ Ok out) where
      ran_well : (heap : List ℕ) → IsSince (cause_at u.stage ≡ None) lawful size u.notes heap → means body heap empty_book (Ok out) u.now next
      ran_well heap since = subst (λ (a : Result T Cause). means body heap empty_book a u.now next) well (run_whole since.going (subst IsDecided (sym well) tt) heap since.possible)

      whole_then : (heap : List ℕ) (book : Book) → (IsSince (cause_at u.stage ≡ None) lawful size u.notes heap × RunLate late_means heap book.laters next u.now book left) → Whole means late_means body heap out book left
      whole_then heap book here = record { book = u.now; next = next; run = ran_well heap here.0; lates = here.1 }

      ran_to : (heap : List ℕ) (tokens : List ℕ) (token : ℕ) (book : Book) (then : B) → IsSince (cause_at u.stage ≡ None) lawful size u.notes heap → RunLate late_means heap tokens next u.now book then
          → IsPrefix (tokens ++ token ∷ []) book.laters → RanTo means late_means body heap tokens out book then
      ran_to heap tokens token book then since lates front = record { first = u.now; next = next; run = ran_well heap since; lates = lates; front = prefix_front tokens (token ∷ []) book.laters front }

      gave_then : (cause : Cause) (heap : List ℕ) (book : Book) → (IsSince (cause_at u.stage ≡ None) lawful size u.notes heap × GaveLate late_means heap cause next u.now book left) → Gave means late_means body heap cause book left
      gave_then cause heap book here = let gave = here.1 in
          so.in_late gave.tokens gave.token out gave.then gave.next (ran_to heap gave.tokens gave.token gave.then gave.next here.0 gave.ran gave.front) gave.front gave.gave

      left_then : (heap : List ℕ) → (IsPossible lawful size u.notes heap × LeftLate (cause_at u.stage ≡ None) late_means late_leaves heap next u.now left) → IsLeft means leaves late_means late_leaves body heap left
      left_then heap here = elim here.1 [
        | as_it_was same ↦ so.by_run (subst (λ (b : B). leaves body heap empty_book b) (sym same) (run_left heap here.0))
        | by_late going tokens token book then lates front leaving ↦
            so.by_late tokens token out book then (ran_to heap tokens token book then (record { going = going; possible = here.0 }) lates front) front leaving
      ]

      -- The attempt came to its end from there.
      pub comes_well : (v : Attempt) → ComesToEnd lawful size (λ heap book. IsSince (cause_at u.stage ≡ None) lawful size u.notes heap × RunLate late_means heap book.laters next u.now book left)
          (λ cause heap book. IsSince (cause_at u.stage ≡ None) lawful size u.notes heap × GaveLate late_means heap cause next u.now book left)
          (λ heap. IsPossible lawful size u.notes heap × LeftLate (cause_at u.stage ≡ None) late_means late_leaves heap next u.now left) v
          → ComesToEnd lawful size (λ heap book. Whole means late_means body heap out book left) (λ cause heap book. Gave means late_means body heap cause book left)
          (λ heap. IsLeft means leaves late_means late_leaves body heap left) v
      comes_well v comes = comes_map lawful size _ _ _ _ _ _ v whole_then gave_then left_then comes

  -- ---- the body answered a cause

  module _ (answer : Result T Cause) (cause : Cause) (ill : answer ≡ Err cause)
      (ran : Ran lawful may (λ heap before answer after. means body heap before answer after next) (λ heap before. leaves body heap before next) answer (cells_of size t) (cells_of size u))
      (waits : AwaitsAsk u) (active : u.phase ≡ Active) (refused : IfSome (cause_at u.stage) IsOfCells) where
    gave_here : cause_at u.stage ≡ None → IsWord cause → (heap : List ℕ) → IsPossible lawful size u.notes heap → Gave means late_means body heap cause u.now next
    gave_here going word heap possible = so.in_run (subst (λ (a : Result T Cause). means body heap empty_book a u.now next) ill
        (run_whole answer ran going (subst IsDecided (sym ill) (word_decided T cause word)) heap possible))

    pub comes_ill : (ends : List ℕ → Book → Type 0) (v : Attempt) → AbandonEnds cause u v
        → ComesToEnd lawful size ends (λ cause heap book. Gave means late_means body heap cause book next) (λ heap. IsLeft means leaves late_means late_leaves body heap next) v
    comes_ill ends v end = rolled_back u end.last waits active
        (end_cause u v cause end refused (subst (λ (a : Result T Cause). IfErr a (λ c. IsOfBody c ⊎ (cause_at u.stage ≡ Some c))) ill ran.causes)) end.led (λ heap possible. so.by_run (run_left answer ran heap possible)) (λ word heap possible. ⊎_elim
        (λ (known : cause_at u.stage ≡ Some end.last). absurd (refused_word u end.last refused known word))
        (λ fresh. subst (λ (c : Cause). Gave means late_means body heap c u.now next) (sym fresh.1) (gave_here fresh.0 (subst IsWord fresh.1 word) heap possible)) end.is)

-- ---- outcomes

module _ {T : Type 0} (lawful : List ℕ → Type 0) (size : ℕ) (ends : T → List ℕ → Book → Type 0) (gives : Cause → List ℕ → Book → Type 0) (leaves : List ℕ → Type 0) (u : Attempt) where
  pub ends_well : (ending : Ending) (out : T) (outcome : Outcome T) → u.ending ≡ Some ending → IsOutcome ending (Some out) outcome → ComesToEnd lawful size (ends out) gives leaves u → EndsAs lawful size ends gives leaves u outcome
  ends_well (Committed stamp) out outcome is told comes = subst (EndsAs lawful size ends gives leaves u) (sym told) (is, comes)
  ends_well (Read prefix) out outcome is told comes = subst (EndsAs lawful size ends gives leaves u) (sym told) (is, comes)
  ends_well (Rolled cause prefix) out outcome is told comes = subst (EndsAs lawful size ends gives leaves u) (sym told)
      (is, comes_map lawful size _ _ _ _ _ _ u (λ heap book ran. (out, ran)) (λ cause heap book gave. gave) (λ heap left. left) comes)

  pub ends_ill : (ending : Ending) (outcome : Outcome T) → u.ending ≡ Some ending → IsOutcome {T = T} ending None outcome → ComesToEnd lawful size (λ heap book. (out : T) × ends out heap book) gives leaves u → EndsAs lawful size ends gives leaves u outcome
  ends_ill (Committed stamp) outcome is told comes = absurd told
  ends_ill (Read prefix) outcome is told comes = absurd told
  ends_ill (Rolled cause prefix) outcome is told comes = subst (EndsAs lawful size ends gives leaves u) (sym told) (is, comes)

-- Who was rolled back ends so.
pub rolled_may_end : (T : Type 0) (cause : Cause) (t u : Attempt) (ending : Ending) → AbandonEnds cause t u → u.ending ≡ Some ending → MayEnd {T = T} ending None
rolled_may_end T cause t u ending ends is =
    let same : ending ≡ Rolled ends.last t.prefix = cc (sym is ∙ rolled_ends t u ends.last ends.led ends.over.stage) in rw same tt
