-- An attempt that is over by its last access. Here t is an attempt and r what is kept of it.
use Rattle.std.proofs.Common.{◌≡◌, ℕ, List, [], ◌++◌, Some, refl, sym, ap, ◌∙◌, inr}
use Rattle.meta_word.specs.Status.{status_word}
use Rattle.meta_word.specs.declared.status.Phase.TheVariants.{Idle}
use Rattle.op_commit.specs.Buffered.{ring_for}
use Rattle.op_commit.specs.declared.commit.CommitEnd.TheVariants.{Stamp}
use Rattle.op_commit.specs.declared.commit.CommitOp.{CommitOp}
use Rattle.op_commit.specs.declared.commit.CommitPlace.TheVariants as at_commit
use Rattle.ref_table.specs.Seats.{SeatState}
use Rattle.stm_core.proofs.Ends.{commit_ends}
use Rattle.stm_core.specs.Running.{InvariantAt, IsSound, attempt_at, base, shown}
use Rattle.stm_core.specs.declared.running.Running.{Running}
use Rattle.stm_core.specs.declared.running.State.TheVariants as in_state
use Rattle.stm_model.specs.Accesses.{access_of, answer_of, next_access, next_at}
use Rattle.stm_model.specs.After.{after_at, after_word, at, final_runs, run_all}
use Rattle.stm_model.specs.Attempt.{Attempt, Close, Due, Ended}
use Rattle.stm_model.specs.Handlers.{Handlers}
use Rattle.stm_model.specs.World.{Terms}
use Rattle.stm_model.specs.declared.access.Access.{Access}
use Rattle.stm_model.specs.declared.access.Access.TheVariants.{Store}
use Rattle.stm_model.specs.declared.access.Word.TheVariants.{Status}
use Rattle.stm_model.specs.declared.ending.Ending.{Ending}
use Rattle.stm_model.specs.declared.ending.Ending.TheVariants.{Committed, Read}
use Rattle.txn_drive.proofs.Here.{may_access}
use Rattle.txn_drive.proofs.Owing.{IsCalm, calm_next}
use Rattle.txn_drive.specs.Standing.{IsOn, Rests}
use Rattle.txn_drive.specs.Stepping.{MayAccess}
use Rattle.txn_quick.specs.Committing.{IsQuiet, commits_at, to_close}
use Rattle.txn_quick.proofs.Steps.{none_due_so}

-- ---- a reader stores its status

stores_idle : (t : Attempt) → t.due ≡ [] → next_access (at t Close) ≡ Some (Store (Status t.own) (status_word (record { serial = t.serial; phase = Idle })))
unfolding next_at access_of
stores_idle t nothing = rw nothing refl

pub reader_stores : (r : Running) (word : ℕ) → IsQuiet r → word ≡ status_word (record { serial = r.serial; phase = Idle }) → next_access (to_close r) ≡ Some (Store (Status r.own) word)
reader_stores r word quiet is =
    stores_idle (record (base r) { ending = Some (Read r.prefix) }) (none_due_so r quiet.free.nothing_due) ∙ ap (λ (w : ℕ). Some (Store (Status r.own) w)) (sym is)

closes_at : (t : Attempt) (prefix found : ℕ) (due : List Due) (hooks : Handlers) → t.due ≡ due → due ≡ [] → t.now.hooks ≡ hooks → hooks ≡ []
    → after_word (at (record t { ending = Some (Read prefix) }) Close) found ≡ at (record t { phase = Idle; ending = Some (Read prefix); due = [] }) Ended
unfolding next_at after_at answer_of final_runs
closes_at t prefix found due hooks here nothing hooked none = rw (here ∙ nothing, hooked ∙ none) refl

-- the attempt that is over so
abbrev pub over_with : Running → Ending → Attempt
over_with r ending = at (record (base r) { phase = Idle; ending = Some ending }) Ended

over_due : (r : Running) (ending : Ending) → (base r).due ≡ [] → at (record (base r) { phase = Idle; ending = Some ending; due = [] }) Ended ≡ over_with r ending
over_due r ending nothing = ap (λ (due : List Due). at (record (base r) { phase = Idle; ending = Some ending; due = due }) Ended) (sym nothing)

pub reader_over : (r : Running) (found : ℕ) → IsQuiet r → over_with r (Read r.prefix) ≡ after_word (to_close r) found
reader_over r found quiet =
    let nothing = none_due_so r quiet.free.nothing_due in
    sym (closes_at (base r) r.prefix found (base r).due r.handlers.hooks refl nothing refl quiet.no_hooks ∙ over_due r (Read r.prefix) nothing)

pub may_close : (lawful : List ℕ → Type 0) (may : List ℕ → List ℕ → Type 0) (terms : Terms) (seat : SeatState) (r : Running) (access : Access) → IsOn lawful may terms seat (to_close r) → next_access (to_close r) ≡ Some access
    → MayAccess lawful may terms seat.view access (to_close r)
unfolding IsCalm
may_close lawful may terms seat r access on comes = may_access lawful may terms seat (to_close r) on access comes (λ old takes. absurd (calm_next (to_close r) old tt takes))

-- ---- a commit has a stamp

nothing_rung : (rung : List Due) (hooks : Handlers) (stamp : ℕ) → rung ≡ [] → hooks ≡ [] → rung ++ run_all (final_runs (Some (Committed stamp)) hooks) ≡ []
unfolding final_runs
nothing_rung rung hooks stamp quiet none = rw (quiet, none) refl

pub stamped_over : (r : Running) (op : CommitOp) (stamp : ℕ) → IsQuiet r → op.place ≡ at_commit.Ended (Stamp stamp) → ring_for op.rung ≡ [] → commits_at r op ≡ over_with r (Committed stamp)
stamped_over r op stamp quiet place rung =
    let t = base r in
    commit_ends op t stamp place
    ∙ (ap (λ (due : List Due). at (record t { phase = Idle; ending = Some (Committed stamp); due = due }) Ended) (nothing_rung (ring_for op.rung) r.handlers.hooks stamp rung quiet.no_hooks)
    ∙ over_due r (Committed stamp) (none_due_so r quiet.free.nothing_due))

-- ---- what is over

pub over_shown : (r : Running) (ending : Ending) → shown (record r { state = in_state.Ended ending }) ≡ over_with r ending
unfolding attempt_at
over_shown r ending = refl

pub over_rests : (r : Running) (ending : Ending) → IsQuiet r → Rests (over_with r ending)
over_rests r ending quiet = inr (record { stage = refl; nothing_due = none_due_so r quiet.free.nothing_due })

pub over_sound : (r : Running) (ending : Ending) → IsQuiet r → IsSound (record r { state = in_state.Ended ending })
unfolding InvariantAt
over_sound r ending quiet = record { fits = quiet.free.fits; runs = rw quiet.free.nothing_due tt; holds = tt }
