-- The attempt of a closure from where its caller stood before it began to where it stands after its end.
use Rattle.std.proofs.Common.{◌≡◌, ℕ, ◌⊎◌, List, Option, Some, None, Result, Ok, Err, sym, ap, subst}
use Rattle.std.specs.Prelude.{IfErr, IfOk}
use Rattle.ref_table.specs.Calls.{AreEmpty}
use Rattle.ref_table.specs.Seats.{SeatState, StmState}
use Rattle.stm_model.specs.Attempt.{Attempt}
use Rattle.stm_model.specs.CellsState.{Book}
use Rattle.stm_model.specs.Owes.{IsPossible}
use Rattle.stm_model.specs.Refusing.{IsOfBody}
use Rattle.stm_model.specs.Telling.{Owing}
use Rattle.stm_model.specs.declared.cause.Cause.{Cause}
use Rattle.txn_drive.specs.Going.{Continues}
use Rattle.txn_drive.specs.Moment.{moment}
use Rattle.txn_drive.proofs.Onward.{continues_on}
use Rattle.txn_run.specs.Callers.{MayBegin, caller_of}
use Rattle.txn_run.specs.Flights.{FlightState, cells_in_stm, state_on}
use Rattle.txn_run.specs.Outcomes.{ConcludesAs, Made}
use Rattle.txn_run.specs.Runners.{BegunBy, BegunFrom, EndedSo, IsGoing, MayEndWith, StandsOn, state_by}
use Rattle.txn_run.specs.declared.callers.Outcome.{Outcome}
use Rattle.txn_run.proofs.Lending.{begins_again, begins_with, concludes_so, made_so}

-- The attempt under way may end with what its closure answered.
pub may_end_with : {S T : Type 0} (lawful : List ℕ → Type 0) (may : List ℕ → List ℕ → Type 0) (stm first_stm : StmState S) (lawful_first : List ℕ → Type 0) (may_first : List ℕ → List ℕ → Type 0)
    (before seat : SeatState) (rings rings_then : Option (List ℕ)) (under_way : Option (FlightState S)) (flight : FlightState S) (answer : Result T Cause)
    → under_way ≡ Some flight → IsGoing under_way → BegunBy lawful_first may_first first_stm before rings seat under_way rings_then
    → IfOk answer (λ out. Owing lawful may (state_by stm under_way)) → IfErr answer (λ cause. IsOfBody cause ⊎ ((state_by stm under_way).cause ≡ Some cause))
    → MayEndWith lawful may (cells_in_stm stm) flight.attempt answer
may_end_with lawful may stm first_stm lawful_first may_first before seat rings rings_then under_way flight answer is going begun owes answers = record {
  going = subst IsGoing is going;
  first = (subst (λ f. BegunBy lawful_first may_first first_stm before rings seat f rings_then) is begun).turn;
  owes = subst (λ f. IfOk answer (λ out. Owing lawful may (state_by stm f))) is owes;
  answers = subst (λ f. IfErr answer (λ cause. IsOfBody cause ⊎ ((state_by stm f).cause ≡ Some cause))) is answers;
}

module _ {S T : Type 0} (lawful : S → List ℕ → Type 0) (may : S → List ℕ → List ℕ → Type 0) (stm first_stm : StmState S) (same_stm : stm ≡ first_stm)
    (before seat last given : SeatState) (rings rings_then rings_last : Option (List ℕ)) (under_way : Option (FlightState S)) (flight : FlightState S) (is : under_way ≡ Some flight) (u : Attempt)
    (begun : BegunBy (lawful first_stm.law) (may first_stm.law) first_stm before rings seat under_way rings_then) (answer : Result T Cause) (outcome : Outcome T)
    (ended : EndedSo (lawful stm.law) (may stm.law) stm (moment seat flight.attempt None rings_then) (moment last u None rings_last) answer outcome)
    (same : given ≡ record last { lists = given.lists }) where
  from : BegunFrom (lawful stm.law) (may stm.law) stm before rings seat flight.attempt rings_then
  from = subst (λ f. BegunBy (lawful stm.law) (may stm.law) stm before rings seat f rings_then) is
      (subst (λ (s : StmState S). BegunBy (lawful s.law) (may s.law) s before rings seat under_way rings_then) (sym same_stm) begun)

  continues : Continues (moment from.start from.first None rings) (moment last u None rings_last)
  continues = continues_on _ _ _ from.continues ended.continues

  given_caller : caller_of last None rings_last ≡ caller_of given None rings_last
  given_caller = ap (λ (s : SeatState). caller_of s None rings_last) (sym same)

  abbrev Ends : T → List ℕ → Book → Type 0
  Ends out heap book = (answer ≡ Ok out) × StandsOn (lawful stm.law) (state_by stm under_way) heap book

  abbrev Gives : Cause → List ℕ → Book → Type 0
  Gives cause heap book = (answer ≡ Err cause) × StandsOn (lawful stm.law) (state_by stm under_way) heap book

  abbrev Leaves : List ℕ → Type 0
  Leaves heap = IsPossible (lawful stm.law) (state_by stm under_way).size (state_by stm under_way).reads heap

  pub begins_then : AreEmpty given.lists → MayBegin (lawful stm.law) (may stm.law) stm given
  begins_then empty = begins_with (lawful stm.law) (may stm.law) stm last given same empty
      (begins_again (lawful stm.law) (may stm.law) stm before from.lent from.start last from.first u None None rings rings_last from.same from.able from.more from.begun continues ended.on ended.over _ _ _ outcome ended.so)

  pub made_then : Made first_stm.settings.attempts (caller_of before None rings) (caller_of given None rings_last)
  made_then = subst (λ (s : StmState S). Made s.settings.attempts (caller_of before None rings) (caller_of given None rings_last)) same_stm
      (subst (Made stm.settings.attempts (caller_of before None rings)) given_caller
      (made_so (lawful stm.law) (may stm.law) stm before from.lent from.start last from.first u None None rings rings_last from.same from.able from.more from.begun continues ended.on ended.over _ _ _ outcome ended.so))

  concludes_here : ConcludesAs (λ out heap book. (answer ≡ Ok out) × StandsOn (lawful stm.law) (state_on stm flight.attempt) heap book)
      (λ cause heap book. (answer ≡ Err cause) × StandsOn (lawful stm.law) (state_on stm flight.attempt) heap book)
      (λ heap. IsPossible (lawful stm.law) (cells_in_stm stm) flight.attempt.notes heap) stm.opening (caller_of before None rings) (caller_of last None rings_last) outcome
  concludes_here = concludes_so (lawful stm.law) (may stm.law) stm before from.lent from.start last from.first u None None rings rings_last from.same from.able from.more from.begun continues ended.on ended.over _ _ _ outcome ended.so

  pub concludes_then : ConcludesAs Ends Gives Leaves first_stm.opening (caller_of before None rings) (caller_of given None rings_last) outcome
  concludes_then = subst (λ (s : StmState S). ConcludesAs Ends Gives Leaves s.opening (caller_of before None rings) (caller_of given None rings_last) outcome) same_stm
      (subst (λ c. ConcludesAs Ends Gives Leaves stm.opening (caller_of before None rings) c outcome) given_caller
      (subst (λ f. ConcludesAs (λ out heap book. (answer ≡ Ok out) × StandsOn (lawful stm.law) (state_by stm f) heap book)
      (λ cause heap book. (answer ≡ Err cause) × StandsOn (lawful stm.law) (state_by stm f) heap book)
      (λ heap. IsPossible (lawful stm.law) (state_by stm f).size (state_by stm f).reads heap) stm.opening (caller_of before None rings) (caller_of last None rings_last) outcome) (sym is) concludes_here))
