-- From the answer of a closure to the end of its attempt.
use Rattle.std.proofs.Common.{◌≡◌, ℕ, ◌⊎◌, List, [], ◌∷◌, Some, None, Result, Ok, Err, refl, sym, ap, subst, ◌∙◌, ⊎_elim}
use Rattle.std.specs.Prelude.{IfErr, IfOk}
use Rattle.meta_word.specs.declared.status.Phase.TheVariants.{Active}
use Rattle.ref_table.specs.Seats.{SeatState}
use Rattle.stm_model.specs.Attempt.{Attempt, cause_at, cells_of}
use Rattle.stm_model.specs.CellsState.{Book}
use Rattle.stm_model.specs.Moves.{AwaitsAsk}
use Rattle.stm_model.specs.Owes.{IsPossible}
use Rattle.stm_model.specs.Refusing.{IsOfBody}
use Rattle.stm_model.specs.Telling.{Owing}
use Rattle.stm_model.specs.World.{Terms, cells_in}
use Rattle.stm_model.specs.declared.access.Ask.TheVariants.{Abandon}
use Rattle.stm_model.specs.declared.cause.Cause.{Cause}
use Rattle.txn_drive.specs.Going.{IsAsked}
use Rattle.txn_drive.specs.Standing.{Rests}
use Rattle.txn_run.specs.Flights.{MayBeAsked, Stands}
use Rattle.txn_run.specs.Outcomes.{IsWord}
use Rattle.txn_run.specs.Runners.{MayEndWith, StandsOn}
use Rattle.stm_model.specs.Whole.{RunLate}
use Rattle.txn_run.specs.Turns.{ComesToEnd, GaveLate, IsSince, LeftLate}
use Rattle.txn_run.specs.Turns as comes
use Rattle.txn_run.proofs.Finishing.{AbandonEnds, abandon_ends}
use Rattle.txn_run.proofs.Reaching.{comes_map}
use Rattle.txn_run.proofs.Known.{active_here}
use Rattle.txn_run.proofs.Standing.{rests_waits}
use Rattle.txn_run.proofs.Turned.{may_abandon}
use Rattle.txn_run.proofs.Turning.{end_cause, refused_word}

-- a before-commit body that does nothing
abbrev pub does_nothing : {B : Type 0} → B → ℕ → List ℕ → Book → Result (Unit {0}) Cause → Book → B → Type 0
does_nothing body token heap before answer after left = (answer ≡ Ok tt) × (after ≡ before)

nothing_done : {B : Type 0} (heap : List ℕ) (tokens : List ℕ) (body left : B) (before after : Book) → RunLate (does_nothing {B = B}) heap tokens body before after left → after ≡ before
nothing_done heap [] body left before after ran = ran.0
nothing_done heap (token ∷ tokens) body left before after ran = nothing_done heap tokens ran.1 left ran.0 after ran.3 ∙ ran.2.1

module _ {T : Type 0} (lawful : List ℕ → Type 0) (may : List ℕ → List ℕ → Type 0) (terms : Terms) (seat : SeatState) (t u : Attempt) (answer : Result T Cause)
    (stands : Stands lawful may terms seat t) (able : MayEndWith lawful may (cells_in terms) t answer) where
  waits : AwaitsAsk t
  waits = rests_waits t stands.rests able.going

  active : t.phase ≡ Active
  active = active_here lawful may terms seat t stands.on waits

  -- how the cells stand where the closure was refused nothing
  stood : (heap : List ℕ) → cause_at t.stage ≡ None → IsPossible lawful (cells_in terms) t.notes heap → StandsOn lawful (cells_of (cells_in terms) t) heap t.now
  stood heap going possible = record { going = going; possible = possible; has = refl }

  -- ---- it answered well

  module _ (out : T) (is : answer ≡ Ok out) where
    pub owes_well : Owing lawful may (cells_of (cells_in terms) t)
    owes_well = subst (λ (a : Result T Cause). IfOk a (λ out. Owing lawful may (cells_of (cells_in terms) t))) is able.owes

    -- What was registered to run before the commit did nothing.
    pub comes_well : {B : Type 0} (late_leaves : B → ℕ → List ℕ → Book → B → Type 0) (body left : B)
        → ComesToEnd lawful (cells_in terms) (λ heap book. IsSince (cause_at t.stage ≡ None) lawful (cells_in terms) t.notes heap × RunLate (does_nothing {B = B}) heap book.laters body t.now book left)
        (λ cause heap book. IsSince (cause_at t.stage ≡ None) lawful (cells_in terms) t.notes heap × GaveLate (does_nothing {B = B}) heap cause body t.now book left)
        (λ heap. IsPossible lawful (cells_in terms) t.notes heap × LeftLate (cause_at t.stage ≡ None) (does_nothing {B = B}) late_leaves heap body t.now left) u
        → ComesToEnd lawful (cells_in terms) (λ heap book. (answer ≡ Ok out) × StandsOn lawful (cells_of (cells_in terms) t) heap book)
        (λ cause heap book. (answer ≡ Err cause) × StandsOn lawful (cells_of (cells_in terms) t) heap book) (λ heap. IsPossible lawful (cells_in terms) t.notes heap) u
    comes_well {B} late_leaves body left comes = comes_map lawful (cells_in terms) _ _ _ _ _ _ u
        (λ heap book ran. (is, record { going = ran.0.going; possible = ran.0.possible; has = sym (nothing_done heap book.laters body left t.now book ran.1) }))
        (λ cause heap book gave. absurd (cc gave.1.gave.0)) (λ heap left. left.0) comes

  -- ---- it answered a cause

  module _ (cause : Cause) (is : answer ≡ Err cause) where
    gave : IsOfBody cause ⊎ (cause_at t.stage ≡ Some cause)
    gave = subst (λ (a : Result T Cause). IfErr a (λ c. IsOfBody c ⊎ (cause_at t.stage ≡ Some c))) is able.answers

    pub may_end_ill : MayBeAsked lawful may terms t (Abandon cause)
    may_end_ill = may_abandon lawful may terms t cause stands.rests able.going gave

    module _ (asked : IsAsked t (Abandon cause) u) (rests : Rests u) where
      pub ends_so : AbandonEnds cause t u
      ends_so = abandon_ends cause t u waits asked rests

      gave_so : (heap : List ℕ) → IsWord ends_so.last → IsPossible lawful (cells_in terms) t.notes heap → (answer ≡ Err ends_so.last) × StandsOn lawful (cells_of (cells_in terms) t) heap t.now
      gave_so heap word possible = ⊎_elim
          (λ (known : cause_at t.stage ≡ Some ends_so.last). absurd (refused_word t ends_so.last stands.refused known word))
          (λ fresh. (is ∙ ap (λ (c : Cause). Err c) (sym fresh.1), stood heap fresh.0 possible)) ends_so.is

      pub comes_ill : (ends : List ℕ → Book → Type 0)
          → ComesToEnd lawful (cells_in terms) ends (λ c heap book. (answer ≡ Err c) × StandsOn lawful (cells_of (cells_in terms) t) heap book) (λ heap. IsPossible lawful (cells_in terms) t.notes heap) u
      comes_ill E = comes.rolled_back t ends_so.last waits active (end_cause t u cause ends_so stands.refused gave) ends_so.led (λ heap possible. possible) (λ word heap possible. gave_so heap word possible)
