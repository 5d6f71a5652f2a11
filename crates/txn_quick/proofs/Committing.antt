-- A commit, access by access. Here op is the commit and r what is kept of its attempt.
use Rattle.std.proofs.Common.{◌≡◌, ◌≢◌, ℕ, ◌≤◌, IsNone, IsSome, List, [], Option, Some, None, refl, sym, ap, subst, ◌∙◌}
use Rattle.op_commit.specs.Commit.{ClockFits, committing, committing_at, due_at, due_by, end_at, end_of_commit, in_preparation}
use Rattle.op_commit.specs.declared.commit.CommitOp.{CommitOp}
use Rattle.op_commit.specs.declared.commit.CommitPlace.{CommitPlace}
use Rattle.op_commit.specs.declared.commit.CommitPlace.TheVariants as at_commit
use Rattle.ref_table.specs.Performs.{FoundFits}
use Rattle.ref_table.specs.Seats.{SeatState}
use Rattle.stm_core.proofs.Shown.{next_is}
use Rattle.stm_core.proofs.Stands.{stands}
use Rattle.stm_core.specs.Machine.{ClockFits as AnswerFits, IsSameAttempt}
use Rattle.stm_core.specs.Running.{InvariantAt, IsCommitting, attempt_at, base}
use Rattle.stm_core.specs.declared.running.Running.{Running}
use Rattle.stm_core.specs.declared.running.State.TheVariants as in_state
use Rattle.stm_model.specs.Accesses.{Act, LoadClock, next, next_access, next_at, packed, unless_due, word_of}
use Rattle.stm_model.specs.After.{after_word, at}
use Rattle.stm_model.specs.Attempt.{Attempt, CommitClock, Due}
use Rattle.stm_model.specs.World.{Terms, cells_in}
use Rattle.stm_model.specs.declared.access.Access.{Access}
use Rattle.stm_model.specs.declared.cause.Addr.{Addr}
use Rattle.txn_drive.proofs.Here.{may_access}
use Rattle.txn_drive.proofs.Keeping.{Keeps, keeps_word}
use Rattle.txn_drive.proofs.Onward.{accessed_goes, goes_on, goes_self}
use Rattle.txn_drive.proofs.Resting.{pays_now, pays_on}
use Rattle.txn_drive.proofs.Taking.{may_take}
use Rattle.txn_drive.specs.Going.{Goes}
use Rattle.txn_drive.specs.Moment.{moment}
use Rattle.txn_drive.specs.Paying.{Pays}
use Rattle.txn_drive.specs.Standing.{IsOn}
use Rattle.txn_drive.specs.Stepping.{Accesses, MayAccess}
use Rattle.txn_quick.specs.Committing.{CommitsOn, IsInCommit, IsQuiet, IsUndisturbed, commits_at}
use Rattle.txn_quick.proofs.Steps.{none_due_so}

-- ---- what is due

due_quiet : (place : CommitPlace) (rung : Option Addr) (t : Attempt) → IsNone (end_at place) → rung ≡ None → due_at place rung t ≡ []
due_quiet (at_commit.Ended end) rung t going quiet = absurd (cc going)
due_quiet at_commit.Prepare rung t going quiet = rw quiet refl
due_quiet (at_commit.Mark index) rung t going quiet = rw quiet refl
due_quiet (at_commit.CommitClock lost) rung t going quiet = rw quiet refl
due_quiet (at_commit.CommitNote lost clock index) rung t going quiet = rw quiet refl
due_quiet (at_commit.Decide lost clock) rung t going quiet = rw quiet refl
due_quiet (at_commit.StoreValues stamp index) rung t going quiet = rw quiet refl
due_quiet (at_commit.Release stamp index) rung t going quiet = rw quiet refl
due_quiet (at_commit.Close stamp) rung t going quiet = rw quiet refl

-- Where nothing is due in it, it is the attempt itself that commits.
pub commits_so : (r : Running) (op : CommitOp) → due_by op (base r) ≡ [] → (base r).due ≡ [] → commits_at r op ≡ committing op (base r)
commits_so r op none nothing = ap (λ (due : List Due). committing op (record (base r) { due = due })) (none ∙ sym nothing)

pub undisturbed_so : (r : Running) (op : CommitOp) → IsQuiet r → IsUndisturbed op → commits_at r op ≡ committing op (base r)
undisturbed_so r op quiet here = commits_so r op (due_quiet op.place op.rung (base r) here.going here.quiet) (none_due_so r quiet.free.nothing_due)

-- ---- its next access

none_made : (act : Option Act) → IsSome act → packed act ≢ None
none_made None some none = cc some
none_made (Some act) some none = cc none

makes_some : (t : Attempt) → t.due ≡ [] → IsSome (next_at t t.stage) → next_access t ≢ None
makes_some t nothing some none =
    let made : packed (next_at t t.stage) ≡ None = sym (ap packed (next_is t nothing)) ∙ none in
    none_made (next_at t t.stage) some made

-- An undisturbed commit makes an access.
pub makes_access : (r : Running) (op : CommitOp) → IsQuiet r → IsCommitting r op → IsNone (end_of_commit op) → next_access (committing op (base r)) ≢ None
unfolding InvariantAt attempt_at
makes_access r op quiet commits going =
    let here = stands r (in_state.Commit op) (commits, going) in
    makes_some (committing op (base r)) (here.same.due ∙ none_due_so r quiet.free.nothing_due) (here.acts refl)

module _ (lawful : List ℕ → Type 0) (may : List ℕ → List ℕ → Type 0) (terms : Terms) (r : Running) where
  -- It may make the access that comes next.
  pub may_commit : (seat : SeatState) (op : CommitOp) (access : Access) → IsInCommit lawful may terms seat r op → next_access (commits_at r op) ≡ Some access → MayAccess lawful may terms seat.view access (commits_at r op)
  may_commit seat op access here comes =
      may_access lawful may terms seat (commits_at r op) here.on access comes (pays_now lawful may (cells_in terms) (commits_at r op) here.pays)

-- ---- what it finds

clock_at : (place : CommitPlace) (writes : ℕ) (t : Attempt) (limit found : ℕ) → t.due ≡ [] → t.settings.clock ≡ limit → AnswerFits (committing_at place writes t) (next (committing_at place writes t)) found → ClockFits place limit found
unfolding AnswerFits next_at
clock_at (at_commit.CommitClock lost) writes t limit found nothing same fits =
    let u = at (in_preparation t) (CommitClock lost) in
    let within : found ≤ t.settings.clock = subst (λ (due : List Due). AnswerFits u (unless_due due (Some LoadClock)) found) nothing fits in
    subst (λ (n : ℕ). found ≤ n) same within
clock_at _ writes t limit found nothing same fits = tt

-- A clock that it finds is within the limit.
pub clock_found : (terms : Terms) (r : Running) (op : CommitOp) (access : Access) (found : ℕ) → IsQuiet r → IsCommitting r op → IsUndisturbed op
    → next_access (commits_at r op) ≡ Some access → (commits_at r op).settings.clock ≡ terms.limit → FoundFits terms (word_of access) found → ClockFits op.place op.limit found
clock_found terms r op access found quiet commits here comes limit fits =
    let takes = may_take terms (commits_at r op) access found comes limit fits in
    clock_at op.place op.writes (base r) op.limit found (none_due_so r quiet.free.nothing_due) commits.made_for.limit
    (subst (λ (t : Attempt). AnswerFits t (next t) found) (undisturbed_so r op quiet here) takes.clock)

-- The same attempt goes on by its access.
pub same_word : (t u : Attempt) (found : ℕ) → u ≡ after_word t found → IsSameAttempt t u
same_word t u found is =
    let keeps : Keeps t u = subst (Keeps t) (sym is) (keeps_word t found) in
    record { own = keeps.own; serial = keeps.serial; settings = keeps.settings }

-- ---- it goes on

module _ (lawful : List ℕ → Type 0) (may : List ℕ → List ℕ → Type 0) (terms : Terms) (r : Running) where
  pub accessed_commits : (before after : SeatState) (op later : CommitOp) (access : Access) → IsInCommit lawful may terms before r op → IsCommitting r later → next_access (commits_at r op) ≡ Some access
      → Accesses lawful may terms before (commits_at r op) after (commits_at r later) → CommitsOn lawful may terms r before op after later
  accessed_commits before after op later access here commits comes made =
      let t = commits_at r op in
      let u = commits_at r later in
      record {
        goes = λ runs rings. accessed_goes lawful may terms before after t u runs rings access made comes;
        here = record {
          on = made.on;
          pays = pays_on lawful may (cells_in terms) t u (accessed_goes lawful may terms before after t u None None access made comes).led here.pays;
          commits = commits;
        };
      }

  pub commits_self : (seat : SeatState) (op : CommitOp) → IsInCommit lawful may terms seat r op → CommitsOn lawful may terms r seat op seat op
  commits_self seat op here = record { goes = λ runs rings. goes_self (moment seat (commits_at r op) runs rings); here = here }

  pub commits_on : (a b c : SeatState) (one two three : CommitOp) → CommitsOn lawful may terms r a one b two → CommitsOn lawful may terms r b two c three → CommitsOn lawful may terms r a one c three
  commits_on a b c one two three first second = record {
    goes = λ runs rings. goes_on (moment a (commits_at r one) runs rings) (moment b (commits_at r two) runs rings) (moment c (commits_at r three) runs rings) (first.goes runs rings) (second.goes runs rings);
    here = second.here;
  }

  -- The same attempt, kept by another place.
  pub commits_same : (before after : SeatState) (op later same : CommitOp) → CommitsOn lawful may terms r before op after later → commits_at r same ≡ commits_at r later → IsCommitting r same → CommitsOn lawful may terms r before op after same
  commits_same before after op later same made is commits = record {
    goes = λ runs rings. subst (λ (t : Attempt). Goes (moment before (commits_at r op) runs rings) (moment after t runs rings)) (sym is) (made.goes runs rings);
    here = record {
      on = subst (IsOn lawful may terms after) (sym is) made.here.on;
      pays = subst (Pays lawful may (cells_in terms)) (sym is) made.here.pays;
      commits = commits;
    };
  }
