-- What a store announces leads as far as what it found.
use Rattle.std.proofs.Common.{◌≡◌, ℕ, List, [], ◌∷◌, Option, Some, None, refl, sym, ap, ◌∙◌}
use Rattle.meta_word.specs.declared.status.TxnStatus.{TxnStatus}
use Rattle.stm_model.specs.Accesses.{Act, unless_due, Number, OfStatus, StoreStatus, StoreValue, access_of, answer_of, next, next_at, packed}
use Rattle.stm_model.specs.After.{after_at, after_found, after_word}
use Rattle.stm_model.specs.Attempt.{Attempt, Due, Stage, Begin, Decide, ReadValue, Prepare, ExtendClock, CommitClock, OwnerStatus}
use Rattle.stm_model.specs.declared.access.Access.{Access}
use Rattle.ref_table.specs.Performs.{announced}

-- the act that an access is
pub record Acts (this : Option Act) (access : Access) : Type 0 where
  pub act : Act
  pub is_next : this ≡ Some act
  pub made : access ≡ access_of act

pub acts_of : (this : Option Act) (access : Access) → packed this ≡ Some access → Acts this access
acts_of None access is = absurd (cc is)
acts_of (Some act) access is = record { act = act; is_next = refl; made = sym (cc is) }

same_status : (t : Attempt) (stage : Stage) (p : ℕ) (new x y : TxnStatus) → next_at t stage ≡ Some (StoreStatus p new) → after_at t stage (OfStatus x) ≡ after_at t stage (OfStatus y)
unfolding next_at after_at
same_status t (OwnerStatus cell value left first) p new x y is = absurd (cc is)
same_status t Prepare p new x y is = absurd (cc is)
same_status t stage p new x y is = refl

same_number : (t : Attempt) (stage : Stage) (cell value x y : ℕ) → next_at t stage ≡ Some (StoreValue cell value) → after_at t stage (Number x) ≡ after_at t stage (Number y)
unfolding next_at after_at
same_number t Begin cell value x y is = absurd (cc is)
same_number t (ExtendClock c left first) cell value x y is = absurd (cc is)
same_number t (ReadValue c left first) cell value x y is = absurd (cc is)
same_number t (CommitClock lost) cell value x y is = absurd (cc is)
same_number t (Decide lost clock) cell value x y is = absurd (cc is)
same_number t stage cell value x y is = refl

same_after : (t : Attempt) (act : Act) (n : ℕ) → next_at t t.stage ≡ Some act → after_at t t.stage (answer_of act n) ≡ after_at t t.stage (answer_of act (announced (access_of act) n))
unfolding answer_of access_of announced
same_after t (StoreStatus p new) n is = same_status t t.stage p new _ _ is
same_after t (StoreValue cell value) n is = same_number t t.stage cell value _ _ is
same_after t act n is = refl

at_once : (dues : List Due) (act : Act) (other : Option Act) → unless_due dues other ≡ Some act → other ≡ Some act
at_once [] act other is = is
at_once (due ∷ dues) act other is = absurd (cc is)

pub next_stage : (t : Attempt) (act : Act) → next t ≡ Some act → next_at t t.stage ≡ Some act
next_stage t act is = at_once t.due act (next_at t t.stage) is

pub same_word : (t : Attempt) (act : Act) (n : ℕ) → next t ≡ Some act → after_word t n ≡ after_word t (announced (access_of act) n)
same_word t act n is =
    ap (λ o. after_found t o n) is ∙ same_after t act n (next_stage t act is) ∙ sym (ap (λ o. after_found t o (announced (access_of act) n)) is)
