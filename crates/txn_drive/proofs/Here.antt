-- Where an attempt comes by local moves from the one that its seat knows, it is of a safe world itself.
use Rattle.std.proofs.Common.{◌≡◌, ℕ, List, Some, sym, ap, subst, ◌∙◌}
use Rattle.ref_table.specs.Seats.{SeatState}
use Rattle.opacity.specs.Effects.{moved_by}
use Rattle.opacity.specs.Words.{IsOfTable}
use Rattle.opacity.proofs.NextAccess.{fits_next}
use Rattle.opacity.proofs.Places.{attempt_here}
use Rattle.opacity.proofs.Runs.{moves_safe}
use Rattle.stm_model.specs.Accesses.{ExchangeClock, access_of, next, next_access, word_of}
use Rattle.stm_model.specs.Attempt.{Attempt}
use Rattle.stm_model.specs.Moves.{MayAll, moved_on}
use Rattle.stm_model.specs.Owes.{Owes}
use Rattle.stm_model.specs.Safe.{Safe, SafeAttempt}
use Rattle.stm_model.specs.World.{Terms, View, World, attempt_of, cells_in}
use Rattle.stm_model.specs.declared.access.Access.{Access}
use Rattle.txn_drive.specs.Standing.{IsOn}
use Rattle.txn_drive.specs.Stepping.{MayAccess}
use Rattle.txn_drive.proofs.Led.{next_act}

module _ (lawful : List ℕ → Type 0) (may : List ℕ → List ℕ → Type 0) (terms : Terms) (seat : SeatState) (t : Attempt) (on : IsOn lawful may terms seat t) where
  -- the world of its last access, with the attempt as it is
  abbrev pub world_here : World
  world_here = moved_by on.shown.world seat.number on.comes.moves

  pub safe_here : Safe lawful may terms world_here
  safe_here = moves_safe lawful may terms on.comes.moves on.shown.world seat.number on.safe.caller
      (subst (λ (view : View). MayAll (cells_in terms) terms.limit view.attempt on.comes.moves) on.shown.knows on.comes.may) on.shown.safe

  pub is_here : attempt_of world_here seat.number ≡ t
  is_here = attempt_here on.shown.world seat.number _ ∙ (ap (λ (view : View). moved_on view.attempt on.comes.moves) (sym on.shown.knows) ∙ on.comes.reach)

  pub attempt_is_safe : SafeAttempt terms world_here seat.number t
  attempt_is_safe = subst (SafeAttempt terms world_here seat.number) is_here (safe_here.attempts seat.number on.safe.caller)

  pub own_here : t.own ≡ seat.number
  own_here = attempt_is_safe.sound.own

  pub limit_here : t.settings.clock ≡ terms.limit
  limit_here = attempt_is_safe.sound.limit

  pub word_here : (access : Access) → next_access t ≡ Some access → IsOfTable terms (word_of access)
  word_here access comes =
      let this = next_act t access comes in
      let fits = fits_next lawful may terms world_here seat.number safe_here on.safe.caller this.act (ap next is_here ∙ this.is) in
      let same : access_of this.act ≡ access = cc (this.made) in
      subst (λ (a : Access). IsOfTable terms (word_of a)) same fits.word

  -- It may make its next access, if it meets what is owed.
  pub may_access : (access : Access) → next_access t ≡ Some access → ((old : ℕ) → next t ≡ Some (ExchangeClock old) → Owes lawful may (cells_in terms) t.notes t.now.writes)
      → MayAccess lawful may terms seat.view access t
  may_access access comes owes = record { comes = on.comes; is_next = comes; word = word_here access comes; limit = limit_here; owes = owes }
