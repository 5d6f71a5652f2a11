-- What all quick calls use of a running attempt. Here r is what is kept of it.
use Rattle.std.proofs.Common.{◌≡◌, ℕ, List, [], Option, sym, ap, subst, inl}
use Rattle.stm_core.specs.Running.{base, due_in, none_due}
use Rattle.stm_core.specs.declared.running.Dues.{Dues}
use Rattle.stm_core.specs.declared.running.Running.{Running}
use Rattle.stm_model.specs.Attempt.{Attempt, Ready}
use Rattle.stm_model.specs.Moves.{AwaitsAskAt}
use Rattle.stm_model.specs.World.{Terms}
use Rattle.txn_drive.specs.Going.{Goes}
use Rattle.txn_drive.specs.Moment.{Moment}
use Rattle.txn_drive.specs.Standing.{Rests}
use Rattle.txn_drive.proofs.Onward.{goes_on}
use Rattle.txn_quick.specs.Gone.{HasGone}

-- Where nothing is due, the attempt has nothing due.
pub none_due_so : (r : Running) → r.due ≡ none_due → (base r).due ≡ []
none_due_so r nothing = ap (λ (dues : Dues). due_in dues r.handlers.hooks) nothing

-- Who has answered an ask, and has nothing due, waits for the next.
pub answered_rests : (t : Attempt) (told : Option ℕ) → t.stage ≡ Ready told → t.due ≡ [] → Rests t
unfolding AwaitsAskAt
answered_rests t told is nothing = inl (record { stands = subst AwaitsAskAt (sym is) tt; nothing_due = nothing })

-- What has gone on, has gone on from each moment that led there.
pub gone_from : (lawful : List ℕ → Type 0) (may : List ℕ → List ℕ → Type 0) (terms : Terms) (a b c : Moment) → Goes a b → HasGone lawful may terms b c → HasGone lawful may terms a c
gone_from lawful may terms a b c goes gone = record { goes = goes_on a b c goes gone.goes; on = gone.on; rests = gone.rests }
