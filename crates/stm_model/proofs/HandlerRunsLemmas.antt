-- Which handlers run at an attempt's end and at an undo, step by step.
use Rattle.std.proofs.Common.{◌≡◌, ℕ, ◌<◌, arith, Bool, true, false, ◌||◌, nat_eq, nat_lt, cond, suc, List, [], ◌∷◌, ◌++◌, length, drop, Option, Some, None, refl, sym, ap, subst, ◌∙◌, append_assoc}
use Rattle.std.proofs.lemmas.List.{append-nil}
use Rattle.meta_word.specs.Meta.{still_has}
use Rattle.meta_word.specs.Status.{same_status}
use Rattle.meta_word.specs.declared.meta.Meta.{Meta}
use Rattle.meta_word.specs.declared.status.Phase.TheVariants.{Idle, Preparing}
use Rattle.meta_word.specs.declared.status.TxnStatus.{TxnStatus}
use Rattle.stm_model.specs.declared.access.Ask.TheVariants.{Undo}
use Rattle.stm_model.specs.declared.cause.Cause.{Cause}
use Rattle.stm_model.specs.declared.cause.Cause.TheVariants.{ClockEnd, ClockMoved, Doomed}
use Rattle.stm_model.specs.declared.ending.Ending.{Ending}
use Rattle.stm_model.specs.declared.ending.Ending.TheVariants.{Committed, Rolled}
use Rattle.stm_model.specs.declared.note.Note.{Note}
use Rattle.stm_model.specs.Accesses.{Act, Answer, Number, OfMeta, OfStatus, active, answer_of, next, next_at, unless_due}
use Rattle.stm_model.specs.After.{after, after_at, at, decided, final_runs, mark_on, note_validated, prepared, release_level_on, release_on, ring_if, roll_on, rolled, run_all, stale, store_on, validate_on, after_found, after_word}
use Rattle.stm_model.specs.Attempt.{Attempt, Due, Run, Ring, Stage, Write, Ready, Late, Stopped, ReleaseLevel, Prepare, Mark, CommitClock, CommitNote, Decide, StoreValues, Release, RollBack, Close, Ended, cause_at, cells_of, has_prepared}
use Rattle.stm_model.specs.CellsState.{Book, CellsState, level_runs, restored, returned, undone}
use Rattle.stm_model.specs.Handlers.{Handlers, after_commit, committing, failing, preparing, undoing}
use Rattle.stm_model.specs.HandlerRuns.{DoesDue, Ends, EndsAt, Finds, Step, Undoes, cells_then, due_runs, ended_runs, found_unless_due, is_rolled, led, open_runs, prepares_by, releases, runs_left, runs_at, stepped}
use Rattle.stm_model.specs.Moves.{AwaitsAsk, AwaitsAskAt, Does, Takes, asked_at, asked_going, conclude, did_first, moved, undo_level}

-- ---- what is due

pub due-run_all : (hooks : Handlers) → due_runs (run_all hooks) ≡ hooks
due-run_all [] = refl
due-run_all (hook ∷ hooks) = ap (λ list. hook ∷ list) (due-run_all hooks)

pub due-ring_if : (pending : Bool) (cell : ℕ) → due_runs (ring_if pending cell) ≡ []
due-ring_if true cell = refl
due-ring_if false cell = refl

due-ring_then : (pending : Bool) (cell : ℕ) (hooks : Handlers) → due_runs (ring_if pending cell ++ run_all hooks) ≡ hooks
due-ring_then true cell hooks = due-run_all hooks
due-ring_then false cell hooks = due-run_all hooks

-- Doing what is due first leaves what has run with what is due as it was.
pub did-runs : (t : Attempt) (dues : List Due) → (did_first (record t { due = dues }) dues).now.runs ++ due_runs (did_first (record t { due = dues }) dues).due
    ≡ t.now.runs ++ due_runs dues
did-runs t [] = refl
did-runs t (Run phase token ∷ dues) = append_assoc t.now.runs ((phase, token) ∷ []) (due_runs dues)
did-runs t (Ring cell ∷ dues) = refl

-- ---- who ends, from where nothing is due

module _ (former : Handlers) (begun : Bool) where
  at-end : (t : Attempt) (ran : Handlers) (stage : Stage) → t.now.runs ++ due_runs t.due ≡ former ++ ran → EndsAt begun t.ending stage
      → (has_prepared t.phase ≡ true → begun ≡ true) → ran ≡ runs_at begun t.ending stage t.now.hooks → Ends former t.now.hooks begun (at t stage)
  at-end t ran stage now stands phase is = record {
    stands = stands;
    phase = phase;
    registered = refl;
    runs = now ∙ ap (λ list. former ++ list) is;
  }

  rolls-on : (t : Attempt) → t.now.runs ++ due_runs t.due ≡ former ++ cond begun (preparing t.now.hooks) [] → (has_prepared t.phase ≡ true → begun ≡ true)
      → is_rolled t.ending ≡ true → (writes : List Write) → Ends former t.now.hooks begun (roll_on t writes)
  unfolding EndsAt runs_at
  rolls-on t now phase is [] = at-end t (cond begun (preparing t.now.hooks) []) Close now tt phase (rw is refl)
  rolls-on t now phase is (write ∷ behind) = at-end t (cond begun (preparing t.now.hooks) []) (RollBack write behind) now is phase refl

  pub rolls-back : (t : Attempt) (cause : Cause) → t.now.runs ++ due_runs t.due ≡ former ++ cond begun (preparing t.now.hooks) []
      → (has_prepared t.phase ≡ true → begun ≡ true) → Ends former t.now.hooks begun (rolled t cause)
  rolls-back t cause now phase = rolls-on (record t { ending = Some (Rolled cause t.prefix) }) now phase refl t.now.writes

  releases-on : (t : Attempt) → t.now.runs ++ due_runs t.due ≡ former ++ (preparing t.now.hooks ++ committing t.now.hooks)
      → (has_prepared t.phase ≡ true → begun ≡ true) → is_rolled t.ending ≡ false → (writes : List Write) → Ends former t.now.hooks begun (release_on t writes)
  unfolding EndsAt runs_at
  releases-on t now phase is [] = at-end t (preparing t.now.hooks ++ committing t.now.hooks) Close now tt phase (rw is refl)
  releases-on t now phase is (write ∷ behind) = at-end t (preparing t.now.hooks ++ committing t.now.hooks) (Release write behind) now is phase refl

  stores-on : (t : Attempt) → t.now.runs ++ due_runs t.due ≡ former ++ (preparing t.now.hooks ++ committing t.now.hooks)
      → (has_prepared t.phase ≡ true → begun ≡ true) → is_rolled t.ending ≡ false → (writes : List Write) → Ends former t.now.hooks begun (store_on t writes)
  unfolding EndsAt runs_at
  stores-on t now phase is [] = releases-on t now phase is t.now.writes
  stores-on t now phase is (write ∷ behind) = at-end t (preparing t.now.hooks ++ committing t.now.hooks) (StoreValues write behind) now is phase refl

-- ---- who prepares

module _ (former : Handlers) (t : Attempt) (now : t.now.runs ++ due_runs t.due ≡ former ++ preparing t.now.hooks) where
  marks-on : (writes : List Write) → Ends former t.now.hooks true (mark_on t writes)
  unfolding EndsAt runs_at
  marks-on [] = at-end former true t (preparing t.now.hooks) (CommitClock 0) now refl (λ is. refl) refl
  marks-on (write ∷ behind) = at-end former true t (preparing t.now.hooks) (Mark write behind) now refl (λ is. refl) refl

  limit-ends : (lost clock : ℕ) (last : Bool) → Ends former t.now.hooks true (cond last (rolled (record t { prefix = clock }) (ClockEnd clock)) (at t (Decide lost clock)))
  unfolding EndsAt runs_at
  limit-ends lost clock true = rolls-back former true (record t { prefix = clock }) (ClockEnd clock) now (λ is. refl)
  limit-ends lost clock false = at-end former true t (preparing t.now.hooks) (Decide lost clock) now refl (λ is. refl) refl

  validates-on : (lost clock : ℕ) (notes : List Note) → Ends former t.now.hooks true (validate_on t lost clock notes)
  unfolding EndsAt runs_at validate_on
  validates-on lost clock [] = limit-ends lost clock (nat_eq clock t.settings.clock)
  validates-on lost clock (note ∷ behind) = at-end former true t (preparing t.now.hooks) (CommitNote lost clock note behind) now refl (λ is. refl) refl

  note-ends : (lost clock : ℕ) (note : Note) (behind : List Note) (found : Meta) (still : Bool)
      → Ends former t.now.hooks true (cond still (validate_on t lost clock behind) (rolled t (stale note found)))
  note-ends lost clock note behind found true = validates-on lost clock behind
  note-ends lost clock note behind found false = rolls-back former true t (stale note found) now (λ is. refl)

  decides : (lost clock found : ℕ) → t.due ≡ [] → (won again : Bool) → Ends former t.now.hooks true (cond won
      (store_on (record t { ending = Some (Committed (suc clock)); due = run_all (committing t.now.hooks) }) t.now.writes)
      (cond again (at t (CommitClock (suc lost))) (rolled t (ClockMoved clock found))))
  unfolding EndsAt runs_at
  decides lost clock found none true again =
      let before : t.now.runs ≡ former ++ preparing t.now.hooks = sym (append-nil t.now.runs) ∙ rw none at now in
      stores-on former true (record t { ending = Some (Committed (suc clock)); due = run_all (committing t.now.hooks) })
      (rw (due-run_all (committing t.now.hooks), before) (append_assoc former (preparing t.now.hooks) (committing t.now.hooks)))
      (λ is. refl) refl t.now.writes
  decides lost clock found none false true = at-end former true t (preparing t.now.hooks) (CommitClock (suc lost)) now refl (λ is. refl) refl
  decides lost clock found none false false = rolls-back former true t (ClockMoved clock found) now (λ is. refl)

-- ---- whether it has begun to prepare

flag-stays : (begun phase : Bool) → (phase ≡ true → begun ≡ true) → begun ≡ (begun || phase)
flag-stays true phase so = refl
flag-stays false false so = refl
flag-stays false true so = so refl

ends-flagged : (former hooks : Handlers) (begun : Bool) (t : Attempt) → Ends former hooks begun t → Ends former hooks (begun || has_prepared t.phase) t
ends-flagged former hooks begun t ends = subst (λ flag. Ends former hooks flag t) (flag-stays begun (has_prepared t.phase) ends.phase) ends

mark_phase : (t : Attempt) (writes : List Write) → (mark_on t writes).phase ≡ t.phase
mark_phase t [] = refl
mark_phase t (write ∷ behind) = refl

prepares : (former : Handlers) (t : Attempt) (found : TxnStatus) → t.due ≡ [] → t.now.runs ≡ former ++ [] → (has_prepared t.phase ≡ true → false ≡ true) → (won : Bool)
    → (let next : Attempt = cond won (mark_on (record t { phase = Preparing; due = run_all (preparing t.now.hooks) }) t.now.writes) (rolled t (Doomed found)) in
    Ends former t.now.hooks (false || has_prepared next.phase) next)
prepares former t found none ran phase true =
    let next : Attempt = record t { phase = Preparing; due = run_all (preparing t.now.hooks) } in
    rw (mark_phase next t.now.writes)
    (marks-on former next (rw (due-run_all (preparing t.now.hooks), ran, append-nil former) refl) t.now.writes)
prepares former t found none ran phase false =
    ends-flagged former t.now.hooks false (rolled t (Doomed found)) (rolls-back former false t (Doomed found) (rw (none, append-nil t.now.runs) ran) phase)

-- ---- the last access

closing : (former : Handlers) (begun : Bool) (ending : Option Ending) (hooks : Handlers)
    → (former ++ open_runs begun ending hooks) ++ final_runs ending hooks ≡ former ++ ended_runs begun ending hooks
unfolding final_runs
closing former begun (Some (Rolled cause prefix)) hooks = append_assoc former (cond begun (preparing hooks) []) (undoing hooks)
closing former begun _ hooks = append_assoc former (preparing hooks ++ committing hooks) (after_commit hooks)
    ∙ ap (λ list. former ++ list) (append_assoc (preparing hooks) (committing hooks) (after_commit hooks))

closes : (former : Handlers) (t : Attempt) (begun : Bool) → t.now.runs ≡ former ++ open_runs begun t.ending t.now.hooks
    → Ends former t.now.hooks begun (at (record t { phase = Idle; due = run_all (final_runs t.ending t.now.hooks) }) Ended)
unfolding EndsAt runs_at
closes former t begun ran = record {
  stands = tt;
  phase = λ is. cc is;
  registered = refl;
  runs = rw (due-run_all (final_runs t.ending t.now.hooks), ran) (closing former begun t.ending t.now.hooks);
}

-- ---- each access

module _ (former : Handlers) (begun : Bool) (t : Attempt) (none : t.due ≡ []) (phase : has_prepared t.phase ≡ true → begun ≡ true) where
  undue : (ran : Handlers) → t.now.runs ≡ former ++ ran → t.now.runs ++ due_runs t.due ≡ former ++ ran
  undue ran is = rw (none, append-nil t.now.runs) is

  rung : (ran : Handlers) (pending : Bool) (cell : ℕ) → t.now.runs ≡ former ++ ran → t.now.runs ++ due_runs (ring_if pending cell) ≡ former ++ ran
  rung ran pending cell is = rw (due-ring_if pending cell, append-nil t.now.runs) is

  ends-stays : (stage : Stage) → EndsAt begun t.ending stage → t.now.runs ≡ former ++ runs_at begun t.ending stage t.now.hooks
      → Ends former t.now.hooks (begun || has_prepared t.phase) (at t stage)
  ends-stays stage stands ran = ends-flagged former t.now.hooks begun (at t stage)
      (at-end former begun t (runs_at begun t.ending stage t.now.hooks) stage (undue (runs_at begun t.ending stage t.now.hooks) ran) stands phase refl)

ends_at : (former : Handlers) (begun : Bool) (t : Attempt) (stage : Stage) (answer : Answer) → t.due ≡ [] → EndsAt begun t.ending stage
    → (has_prepared t.phase ≡ true → begun ≡ true) → t.now.runs ≡ former ++ runs_at begun t.ending stage t.now.hooks
    → (let next : Attempt = after_at (at t stage) stage answer in Ends former t.now.hooks (begun || has_prepared next.phase) next)
unfolding EndsAt runs_at after_at prepared validate_on note_validated decided
ends_at former true t Prepare answer none stands phase ran = cc stands
ends_at former false t Prepare (OfStatus found) none stands phase ran =
    prepares former t found none ran phase (same_status found (active t.serial))
ends_at former false t Prepare answer none stands phase ran = ends-stays former false t none phase Prepare stands ran
ends_at former true t (Mark write behind) (OfMeta found) none stands phase ran =
    let now = undue former true t none phase (preparing t.now.hooks) ran in marks-on former t now behind
ends_at former true t (Mark write behind) answer none stands phase ran = ends-stays former true t none phase (Mark write behind) stands ran
ends_at former false t (Mark write behind) answer none stands phase ran = cc stands
ends_at former true t (CommitClock lost) (Number clock) none stands phase ran =
    let now = undue former true t none phase (preparing t.now.hooks) ran in validates-on former t now lost clock t.notes
ends_at former true t (CommitClock lost) answer none stands phase ran = ends-stays former true t none phase (CommitClock lost) stands ran
ends_at former false t (CommitClock lost) answer none stands phase ran = cc stands
ends_at former true t (CommitNote lost clock note behind) (OfMeta found) none stands phase ran =
    let now = undue former true t none phase (preparing t.now.hooks) ran in note-ends former t now lost clock note behind found (still_has t.own note.version found)
ends_at former true t (CommitNote lost clock note behind) answer none stands phase ran = ends-stays former true t none phase (CommitNote lost clock note behind) stands ran
ends_at former false t (CommitNote lost clock note behind) answer none stands phase ran = cc stands
ends_at former true t (Decide lost clock) (Number found) none stands phase ran =
    let now = undue former true t none phase (preparing t.now.hooks) ran in decides former t now lost clock found none (nat_eq found clock) (nat_lt lost t.settings.tries)
ends_at former true t (Decide lost clock) answer none stands phase ran = ends-stays former true t none phase (Decide lost clock) stands ran
ends_at former false t (Decide lost clock) answer none stands phase ran = cc stands
ends_at former begun t (StoreValues write behind) (Number found) none stands phase ran =
    ends-flagged former t.now.hooks begun (store_on t behind) (stores-on former begun t (undue former begun t none phase (preparing t.now.hooks ++ committing t.now.hooks) ran) phase stands behind)
ends_at former begun t (StoreValues write behind) answer none stands phase ran = ends-stays former begun t none phase (StoreValues write behind) stands ran
ends_at former begun t (Release write behind) (OfMeta found) none stands phase ran =
    let next : Attempt = record t { due = ring_if found.pending write.0 } in
    ends-flagged former t.now.hooks begun (release_on next behind) (releases-on former begun next (rung former begun t none phase (preparing t.now.hooks ++ committing t.now.hooks) found.pending write.0 ran) phase stands behind)
ends_at former begun t (Release write behind) answer none stands phase ran = ends-stays former begun t none phase (Release write behind) stands ran
ends_at former begun t (RollBack write behind) (OfMeta found) none stands phase ran =
    let next : Attempt = record t { due = ring_if found.pending write.0 } in
    ends-flagged former t.now.hooks begun (roll_on next behind) (rolls-on former begun next (rung former begun t none phase (cond begun (preparing t.now.hooks) []) found.pending write.0 ran) phase stands behind)
ends_at former begun t (RollBack write behind) answer none stands phase ran = ends-stays former begun t none phase (RollBack write behind) stands ran
ends_at former begun t Close (OfStatus found) none stands phase ran =
    let next : Attempt = at (record t { phase = Idle; due = run_all (final_runs t.ending t.now.hooks) }) Ended in
    ends-flagged former t.now.hooks begun next (closes former t begun ran)
ends_at former begun t Close answer none stands phase ran = ends-stays former begun t none phase Close stands ran
ends_at former begun t Ended answer none stands phase ran = ends-stays former begun t none phase Ended stands ran
ends_at former begun t _ answer none stands phase ran = absurd stands

-- what has run, where nothing is due
ran-undue : (former ran : Handlers) (t : Attempt) → t.due ≡ [] → t.now.runs ++ due_runs t.due ≡ former ++ ran → t.now.runs ≡ former ++ ran
ran-undue former ran t none is = sym (append-nil t.now.runs) ∙ rw none at is

pub ends-access : (former hooks : Handlers) (begun : Bool) (t : Attempt) (answer : Answer) → Ends former hooks begun t → t.due ≡ []
    → Ends former hooks (begun || has_prepared (after t answer).phase) (after t answer)
ends-access former hooks begun t answer ends none =
    let ran : t.now.runs ≡ former ++ runs_at begun t.ending t.stage t.now.hooks =
    rw ends.registered (ran-undue former (runs_at begun t.ending t.stage hooks) t none ends.runs) in
    subst (λ (h : Handlers). Ends former h (begun || has_prepared (after t answer).phase) (after t answer)) ends.registered
    (ends_at former begun t t.stage answer none ends.stands ends.phase ran)

-- the same after the word that its access found, if it makes one
ends_found : (former hooks : Handlers) (begun : Bool) (t : Attempt) (dues : List Due) (act : Option Act) (word : ℕ) → t.due ≡ dues → Ends former hooks begun t
    → (let next : Attempt = after_found t (unless_due dues act) word in Ends former hooks (begun || has_prepared next.phase) next)
ends_found former hooks begun t [] None word is ends = ends-flagged former hooks begun t ends
ends_found former hooks begun t [] (Some act) word is ends = ends-access former hooks begun t (answer_of act word) ends is
ends_found former hooks begun t (due ∷ dues) act word is ends = ends-flagged former hooks begun t ends

pub ends-word : (former hooks : Handlers) (begun : Bool) (t : Attempt) (word : ℕ) → Ends former hooks begun t
    → Ends former hooks (begun || has_prepared (after_word t word).phase) (after_word t word)
ends-word former hooks begun t word ends = ends_found former hooks begun t t.due (next_at t t.stage) word refl ends

-- doing what is due changes neither the stage nor what is registered
does_at : (former hooks : Handlers) (begun : Bool) (t : Attempt) (dues : List Due) → Ends former hooks begun (record t { due = dues })
    → Ends former hooks begun (did_first (record t { due = dues }) dues)
does_at former hooks begun t [] ends = ends
does_at former hooks begun t (Run phase token ∷ dues) ends = record {
  stands = ends.stands;
  phase = ends.phase;
  registered = ends.registered;
  runs = append_assoc t.now.runs ((phase, token) ∷ []) (due_runs dues) ∙ ends.runs;
}
does_at former hooks begun t (Ring cell ∷ dues) ends = record {
  stands = ends.stands;
  phase = ends.phase;
  registered = ends.registered;
  runs = ends.runs;
}

pub ends-does : (former hooks : Handlers) (begun : Bool) (t : Attempt) → Ends former hooks begun t → Ends former hooks begun (moved t Does)
unfolding moved
ends-does former hooks begun t ends = does_at former hooks begun t t.due ends

ended_at : (former ran hooks : Handlers) (begun : Bool) (ending : Option Ending) (stage : Stage) → stage ≡ Ended
    → ran ≡ former ++ runs_at begun ending stage hooks → ran ≡ former ++ ended_runs begun ending hooks
unfolding runs_at
ended_at former ran hooks begun ending stage over is = rw over at is

pub ends-over : (former hooks : Handlers) (begun : Bool) (t : Attempt) → Ends former hooks begun t → t.stage ≡ Ended → t.due ≡ []
    → t.now.runs ≡ former ++ ended_runs begun t.ending hooks
ends-over former hooks begun t ends over none =
    ran-undue former (ended_runs begun t.ending hooks) t none (ended_at former (t.now.runs ++ due_runs t.due) hooks begun t.ending t.stage over ends.runs)

-- ---- its begin

concluded_at : (t : Attempt) → t.due ≡ [] → has_prepared t.phase ≡ false → (writes : List Write) → Ends t.now.runs t.now.hooks false (conclude t writes)
unfolding EndsAt runs_at
concluded_at t none idle [] = record {
  stands = tt;
  phase = λ is. let never : false ≡ true = sym idle ∙ is in cc;
  registered = refl;
  runs = rw (due-run_all (preparing t.now.hooks ++ committing t.now.hooks)) refl;
}
concluded_at t none idle (write ∷ writes) = record {
  stands = refl;
  phase = λ is. let never : false ≡ true = sym idle ∙ is in cc;
  registered = refl;
  runs = rw none refl;
}

pub ends-concluded : (t : Attempt) → t.due ≡ [] → has_prepared t.phase ≡ false → Ends t.now.runs t.now.hooks false (conclude t t.now.writes)
ends-concluded t none idle = concluded_at t none idle t.now.writes

pub ends-rolled : (t : Attempt) (cause : Cause) → t.due ≡ [] → has_prepared t.phase ≡ false → Ends t.now.runs t.now.hooks false (rolled t cause)
ends-rolled t cause none idle = rolls-back t.now.runs false t cause (rw none refl) (λ is. let never : false ≡ true = sym idle ∙ is in cc)

-- ---- whole runs

finds_at : (former hooks : Handlers) (begun : Bool) (t : Attempt) (dues : List Due) (answer : Answer) → t.due ≡ dues → Ends former hooks begun t
    → (let next : Attempt = found_unless_due t dues answer in Ends former hooks (begun || has_prepared next.phase) next)
finds_at former hooks begun t [] answer is ends = ends-access former hooks begun t answer ends is
finds_at former hooks begun t (due ∷ dues) answer is ends = ends-flagged former hooks begun t ends

pub ends-stepped : (former hooks : Handlers) (begun : Bool) (t : Attempt) (step : Step) → Ends former hooks begun t
    → Ends former hooks (begun || has_prepared (stepped t step).phase) (stepped t step)
unfolding stepped
ends-stepped former hooks begun t (Finds answer) ends = finds_at former hooks begun t t.due answer refl ends
ends-stepped former hooks begun t DoesDue ends =
    ends-flagged former hooks begun (did_first t t.due) (does_at former hooks begun t t.due ends)

prepares_now : (t : Attempt) (steps : List Step) → has_prepared t.phase ≡ true → prepares_by t steps ≡ true
prepares_now t [] is = is
prepares_now t (step ∷ steps) is = rw is refl

flags_join : (first second rest former : Bool) → (second ≡ true → rest ≡ true) → (former ≡ true → first ≡ true)
    → ((first || second) || rest) ≡ (first || (former || rest))
flags_join true second rest former later earlier = refl
flags_join false second rest true later earlier = let never : false ≡ true = earlier refl in cc
flags_join false true rest false later earlier = sym (later refl)
flags_join false false rest false later earlier = refl

pub ends-led : (former hooks : Handlers) (begun : Bool) (t : Attempt) (steps : List Step) → Ends former hooks begun t
    → Ends former hooks (begun || prepares_by t steps) (led t steps)
ends-led former hooks begun t [] ends = ends-flagged former hooks begun t ends
ends-led former hooks begun t (step ∷ steps) ends =
    let next : Attempt = stepped t step in
    subst (λ flag. Ends former hooks flag (led next steps))
    (flags_join begun (has_prepared next.phase) (prepares_by next steps) (has_prepared t.phase) (prepares_now next steps) ends.phase)
    (ends-led former hooks (begun || has_prepared next.phase) next steps (ends-stepped former hooks begun t step ends))

pub ends-whole : (former hooks : Handlers) (begun : Bool) (t : Attempt) (steps : List Step) → Ends former hooks begun t
    → (led t steps).stage ≡ Ended → (led t steps).due ≡ []
    → (led t steps).now.runs ≡ former ++ ended_runs (begun || prepares_by t steps) (led t steps).ending hooks
ends-whole former hooks begun t steps ends = ends-over former hooks (begun || prepares_by t steps) (led t steps) (ends-led former hooks begun t steps ends)

pub concluded-whole : (t : Attempt) (steps : List Step) → t.due ≡ [] → has_prepared t.phase ≡ false → (let last : Attempt = led (conclude t t.now.writes) steps in
    last.stage ≡ Ended → last.due ≡ [] → last.now.runs ≡ t.now.runs ++ ended_runs (prepares_by (conclude t t.now.writes) steps) last.ending t.now.hooks)
concluded-whole t steps none idle = ends-whole t.now.runs t.now.hooks false (conclude t t.now.writes) steps (ends-concluded t none idle)

-- ---- who is rolled back before it prepares

unfoldable IsRolling : Stage → Type 0
IsRolling (RollBack write behind) = Unit {0}
IsRolling Close = Unit {0}
IsRolling Ended = Unit {0}
IsRolling _ = ⊥

record RollsEarly (t : Attempt) : Type 0 where
  stands : IsRolling t.stage
  ending : is_rolled t.ending ≡ true
  phase : has_prepared t.phase ≡ false

rolling_on : (t : Attempt) → is_rolled t.ending ≡ true → has_prepared t.phase ≡ false → (writes : List Write) → RollsEarly (roll_on t writes)
unfolding IsRolling
rolling_on t ending phase [] = record { stands = tt; ending = ending; phase = phase }
rolling_on t ending phase (write ∷ behind) = record { stands = tt; ending = ending; phase = phase }

rolling_at : (t : Attempt) (stage : Stage) (answer : Answer) → IsRolling stage → is_rolled t.ending ≡ true → has_prepared t.phase ≡ false
    → RollsEarly (after_at (at t stage) stage answer)
unfolding IsRolling after_at
rolling_at t (RollBack write behind) (OfMeta found) stands ending phase = rolling_on (record t { due = ring_if found.pending write.0 }) ending phase behind
rolling_at t (RollBack write behind) answer stands ending phase = record { stands = tt; ending = ending; phase = phase }
rolling_at t Close (OfStatus found) stands ending phase = record { stands = tt; ending = ending; phase = refl }
rolling_at t Close answer stands ending phase = record { stands = tt; ending = ending; phase = phase }
rolling_at t Ended answer stands ending phase = record { stands = tt; ending = ending; phase = phase }
rolling_at t _ answer stands ending phase = absurd stands

rolling_does : (t : Attempt) (dues : List Due) → RollsEarly t → RollsEarly (did_first t dues)
rolling_does t [] rolls = rolls
rolling_does t (Run phase token ∷ dues) rolls = record { stands = rolls.stands; ending = rolls.ending; phase = rolls.phase }
rolling_does t (Ring cell ∷ dues) rolls = record { stands = rolls.stands; ending = rolls.ending; phase = rolls.phase }

rolling_finds : (t : Attempt) (dues : List Due) (answer : Answer) → RollsEarly t → RollsEarly (found_unless_due t dues answer)
rolling_finds t [] answer rolls = rolling_at t t.stage answer rolls.stands rolls.ending rolls.phase
rolling_finds t (due ∷ dues) answer rolls = rolls

rolling_step : (t : Attempt) (step : Step) → RollsEarly t → RollsEarly (stepped t step)
unfolding stepped
rolling_step t (Finds answer) rolls = rolling_finds t t.due answer rolls
rolling_step t DoesDue rolls = rolling_does t t.due rolls

rolling_led : (t : Attempt) (steps : List Step) → RollsEarly t → RollsEarly (led t steps) × (prepares_by t steps ≡ false)
rolling_led t [] rolls = (rolls, rolls.phase)
rolling_led t (step ∷ steps) rolls =
    let rest = rolling_led (stepped t step) steps (rolling_step t step rolls) in (rest.0, rw (rolls.phase, rest.1) refl)

pub rolled-whole : (t : Attempt) (cause : Cause) (steps : List Step) → t.due ≡ [] → has_prepared t.phase ≡ false → (let last : Attempt = led (rolled t cause) steps in
    last.stage ≡ Ended → last.due ≡ [] → last.now.runs ≡ t.now.runs ++ failing false t.now.hooks)
rolled-whole t cause steps none idle over undue =
    let early = rolling_led (rolled t cause) steps (rolling_on (record t { ending = Some (Rolled cause t.prefix) }) refl idle t.now.writes) in
    let whole = ends-whole t.now.runs t.now.hooks false (rolled t cause) steps (ends-rolled t cause none idle) over undue in
    rw (early.1, early.0.ending) at whole

-- ---- the undo of a level

restores : (saved : List Book) (now : Book) → record (returned saved now) { runs = (returned saved now).runs ++ level_runs saved now } ≡ restored saved now
restores [] now = rw (append-nil now.runs) refl
restores (former ∷ books) now = refl

module _ (size : ℕ) (before : CellsState) where
  -- A level of an attempt whose cells are so has still to be released, or is undone.
  level-on : (t : Attempt) (stage : Stage) (keep behind : List Write) → cause_at stage ≡ None → cells_of size (at t stage) ≡ before
      → due_runs t.due ≡ [] → ((hooks : Handlers) → due_runs (t.due ++ run_all hooks) ≡ hooks) → Undoes size before (release_level_on t keep behind)
  unfolding cause_at
  level-on t stage keep [] going same none runs = runs_left refl
      (rw (← same, going, runs (level_runs t.saved t.now), restores t.saved t.now) refl)
  level-on t stage keep (write ∷ behind) going same none runs = releases keep behind write refl none (rw (← same, going) refl)

  undo-access : (t : Attempt) (keep behind : List Write) (write : Write) (answer : Answer) → due_runs t.due ≡ []
      → cells_of size (at t (ReleaseLevel keep write behind)) ≡ before
      → Undoes size before (after_at (at t (ReleaseLevel keep write behind)) (ReleaseLevel keep write behind) answer)
  unfolding cause_at after_at
  undo-access t keep behind write (OfMeta found) none same =
      level-on (record t { due = ring_if found.pending write.0 }) (ReleaseLevel keep write behind) keep behind refl same
      (due-ring_if found.pending write.0) (due-ring_then found.pending write.0)
  undo-access t keep behind write answer none same = releases keep behind write refl none same

  undo-told : (t : Attempt) (answer : Answer) → cells_then size (at t (Ready None)) ≡ undone before
      → Undoes size before (after_at (at t (Ready None)) (Ready None) answer)
  unfolding after_at
  undo-told t answer then = runs_left refl then

  pub undoes-access : (t : Attempt) (answer : Answer) → Undoes size before t → Undoes size before (after t answer)
  undoes-access t answer (releases keep behind write is none same) =
      subst (λ stage. Undoes size before (after_at (at t stage) stage answer)) (sym is)
      (undo-access t keep behind write answer none (subst (λ stage. cells_of size (at t stage) ≡ before) is same))
  undoes-access t answer (runs_left is then) =
      subst (λ stage. Undoes size before (after_at (at t stage) stage answer)) (sym is)
      (undo-told t answer (subst (λ stage. cells_then size (at t stage) ≡ undone before) is then))

  undoes-act : (t : Attempt) (act : Option Act) (word : ℕ) → Undoes size before t → Undoes size before (after_found t act word)
  undoes-act t None word undoes = undoes
  undoes-act t (Some act) word undoes = undoes-access t (answer_of act word) undoes

  pub undoes-word : (t : Attempt) (word : ℕ) → Undoes size before t → Undoes size before (after_word t word)
  undoes-word t word undoes = undoes-act t (next t) word undoes

  undoes-did : (t : Attempt) (dues : List Due) → Undoes size before (record t { due = dues }) → Undoes size before (did_first (record t { due = dues }) dues)
  undoes-did t [] undoes = undoes
  undoes-did t (Ring cell ∷ dues) (releases keep behind write is none same) = releases keep behind write is none same
  undoes-did t (Ring cell ∷ dues) (runs_left is then) = runs_left is then
  undoes-did t (Run phase token ∷ dues) (releases keep behind write is none same) = cc none
  undoes-did t (Run phase token ∷ dues) (runs_left is then) = runs_left is (rw (append_assoc t.now.runs ((phase, token) ∷ []) (due_runs dues)) then)

  pub undoes-does : (t : Attempt) → Undoes size before t → Undoes size before (moved t Does)
  unfolding moved
  undoes-does t undoes = undoes-did t t.due undoes

  undoes-found : (t : Attempt) (dues : List Due) (answer : Answer) → Undoes size before t → Undoes size before (found_unless_due t dues answer)
  undoes-found t [] answer undoes = undoes-access t answer undoes
  undoes-found t (due ∷ dues) answer undoes = undoes

  undoes-stepped : (t : Attempt) (step : Step) → Undoes size before t → Undoes size before (stepped t step)
  unfolding stepped
  undoes-stepped t (Finds answer) undoes = undoes-found t t.due answer undoes
  undoes-stepped t DoesDue undoes = undoes-did t t.due undoes

  pub undoes-led : (t : Attempt) (steps : List Step) → Undoes size before t → Undoes size before (led t steps)
  undoes-led t [] undoes = undoes
  undoes-led t (step ∷ steps) undoes = undoes-led (stepped t step) steps (undoes-stepped t step undoes)

  releases_awaits : (stage : Stage) (keep behind : List Write) (write : Write) → stage ≡ ReleaseLevel keep write behind → AwaitsAskAt stage → ⊥
  unfolding AwaitsAskAt
  releases_awaits stage keep behind write is waits = rw is at waits

  pub undoes-over : (t : Attempt) → Undoes size before t → AwaitsAsk t → cells_of size t ≡ undone before
  undoes-over t (releases keep behind write is none same) waits = absurd (releases_awaits t.stage keep behind write is waits.stands)
  undoes-over t (runs_left is then) waits = rw (waits.nothing_due, append-nil t.now.runs) at then

undoes_saved : (size : ℕ) (t : Attempt) (stage : Stage) (saved : List Book) → t.saved ≡ saved → cause_at stage ≡ None → t.due ≡ [] → 0 < length saved
    → Undoes size (cells_of size (at t stage)) (undo_level (at t stage) saved)
undoes_saved size t stage [] is going none some = absurd (omega arith)
undoes_saved size t stage (former ∷ books) is going none some =
    level-on size (cells_of size (at t stage)) (at t stage) stage former.writes (drop (length former.writes) t.now.writes) going refl (rw none refl)
    (λ hooks. rw none (due-run_all hooks))

undoes_asked : (size : ℕ) (t : Attempt) (stage : Stage) → AwaitsAskAt stage → cause_at stage ≡ None → t.due ≡ [] → 0 < length t.saved
    → Undoes size (cells_of size (at t stage)) (asked_at (at t stage) stage Undo)
unfolding AwaitsAskAt cause_at asked_at asked_going
undoes_asked size t (Ready answer) waits going none some = undoes_saved size t (Ready answer) t.saved refl refl none some
undoes_asked size t (Late token) waits going none some = undoes_saved size t (Late token) t.saved refl refl none some
undoes_asked size t (Stopped cause) waits going none some = cc going
undoes_asked size t _ waits going none some = absurd waits

pub undoes-begins : (size : ℕ) (t : Attempt) → AwaitsAsk t → cause_at t.stage ≡ None → 0 < length t.saved
    → Undoes size (cells_of size t) (moved t (Takes Undo))
unfolding moved
undoes-begins size t waits going some = undoes_asked size t t.stage waits.stands going waits.nothing_due some

pub undone-whole : (size : ℕ) (t : Attempt) (steps : List Step) → AwaitsAsk t → cause_at t.stage ≡ None → 0 < length t.saved
    → (let last : Attempt = led (moved t (Takes Undo)) steps in AwaitsAsk last → cells_of size last ≡ undone (cells_of size t))
undone-whole size t steps waits going some =
    undoes-over size (cells_of size t) (led (moved t (Takes Undo)) steps)
    (undoes-led size (cells_of size t) (moved t (Takes Undo)) steps (undoes-begins size t waits going some))
