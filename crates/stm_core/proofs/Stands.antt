-- The states of an attempt: only its stage, phase, ending and prefix are its operation's, and in the middle of one it makes an access.
use Rattle.std.proofs.Common.{◌≡◌, ℕ, ◌-◌, ◌<◌, ◌≤◌, Bool, true, false, if◌then◌else◌, nat_eq, IsNone, IsSome, List, [], ◌∷◌, ◌++◌, drop, length, Option, Some, None, refl, sym, ap, subst, arith}
use Rattle.op_commit.specs.Buffered.{buffered, note_of_write}
use Rattle.std.proofs.lemmas.Bool.Decides.{nat_tests}
use Rattle.std.proofs.lemmas.List.{length-drop, length-map}
use Rattle.stm_model.specs.Handlers.{Handlers}
use Rattle.meta_word.specs.declared.meta.Meta.{Meta}
use Rattle.op_commit.specs.Acquire as acquire
use Rattle.op_commit.specs.Back as rollback
use Rattle.op_commit.specs.Commit as commit
use Rattle.op_commit.specs.declared.acquire.AcquireOp.{AcquireOp}
use Rattle.op_commit.specs.declared.acquire.AcquirePlace.{AcquirePlace}
use Rattle.op_commit.specs.declared.acquire.AcquirePlace.TheVariants as at_acquire
use Rattle.op_commit.specs.declared.back.BackPlace.{BackPlace}
use Rattle.op_commit.specs.declared.back.BackPlace.TheVariants as at_back
use Rattle.op_commit.specs.declared.commit.CommitPlace.{CommitPlace}
use Rattle.op_commit.specs.declared.commit.CommitPlace.TheVariants as at_commit
use Rattle.op_read.specs.Extend as extension
use Rattle.op_read.specs.Read as read
use Rattle.op_read.specs.declared.extend.ExtendPlace.{ExtendPlace}
use Rattle.op_read.specs.declared.extend.ExtendPlace.TheVariants as at_extend
use Rattle.op_read.specs.declared.read.ReadPlace.{ReadPlace}
use Rattle.op_read.specs.declared.read.ReadPlace.TheVariants as at_read
use Rattle.stm_core.specs.Running.{InvariantAt, attempt_at, base, closing}
use Rattle.stm_core.specs.declared.running.Running.{Running}
use Rattle.stm_core.specs.declared.running.State.{State}
use Rattle.stm_core.specs.declared.running.State.TheVariants as in_state
use Rattle.stm_model.specs.declared.cause.Cause.TheVariants.{ClockEnd}
use Rattle.stm_model.specs.declared.ending.Ending.TheVariants.{Rolled}
use Rattle.stm_model.specs.declared.note.Note.{Note}
use Rattle.stm_model.specs.Accesses.{Act, ExchangeClock, next_at}
use Rattle.stm_model.specs.After.{at, validate_on, extend_on, mark_on, release_level_on, release_on, roll_on, rolled, store_on}
use Rattle.stm_model.specs.Attempt.{Attempt, CommitNote, Close, Decide, Due, ExtendNote, ReadValue, Mark, Release, ExtendClock, RollBack, CommitClock, Stage, StoreValues, Write as OneWrite}

abbrev pub with_past : Attempt → List Due → List ℕ → Handlers → Attempt
with_past t dues cells runs = record t { now = record t.now { runs = runs }; due = dues; rings = cells }

-- the attempt, with the stage, phase, ending and prefix of the other
abbrev during : (t other : Attempt) → Attempt
during t other = record t { stage = other.stage; phase = other.phase; ending = other.ending; prefix = other.prefix }

-- The same is made of the attempt where something else is due and was done.
abbrev IsAlike : (make : Attempt → Attempt) (t : Attempt) → Type 0
IsAlike make t = (dues : List Due) (cells : List ℕ) (runs : Handlers) → make (with_past t dues cells runs) ≡ with_past (make t) dues cells runs

-- What is made of the attempt has all else of it, and the same is made of it whatever is due and was done.
abbrev Keeps : (make : Attempt → Attempt) (t : Attempt) → Type 0
Keeps make t = (make t ≡ during t (make t)) × IsAlike make t

-- Where this act is the exchange of the clock, that is below this limit.
abbrev pub IsBelow : Option Act → (limit : ℕ) → Type 0
IsBelow act limit = (old : ℕ) → act ≡ Some (ExchangeClock old) → old < limit

-- So it is in the middle of an operation, which makes an access.
abbrev Within : (make : Attempt → Attempt) (t : Attempt) → Type 0
Within make t = Keeps make t × (IsSome (next_at (make t) (make t).stage) × IsBelow (next_at (make t) (make t).stage) t.settings.clock)

-- It is at a stage where it doesn't exchange the clock.
at_stage : (t : Attempt) (stage : Stage) → IsSome (next_at (at t stage) stage) → IsBelow (next_at (at t stage) stage) t.settings.clock → Within (λ t. at t stage) t
at_stage t stage acts below = ((refl, λ dues cells runs. refl), (acts, below))

exchange_below : (clock limit : ℕ) → clock < limit → IsBelow (Some (ExchangeClock clock)) limit
exchange_below clock limit low old is = let one : clock ≡ old = cc in omega (arith, one, low)

roll_on_within : (t : Attempt) (writes : List OneWrite) → Within (λ t. roll_on t writes) t
unfolding next_at
roll_on_within t [] = at_stage t Close refl (λ old is. cc)
roll_on_within t (write ∷ behind) = at_stage t (RollBack write behind) refl (λ old is. cc)

mark_on_within : (t : Attempt) (writes : List OneWrite) → Within (λ t. mark_on t writes) t
unfolding next_at
mark_on_within t [] = at_stage t (CommitClock 0) refl (λ old is. cc)
mark_on_within t (write ∷ behind) = at_stage t (Mark write behind) refl (λ old is. cc)

release_on_within : (t : Attempt) (writes : List OneWrite) → Within (λ t. release_on t writes) t
unfolding next_at
release_on_within t [] = at_stage t Close refl (λ old is. cc)
release_on_within t (write ∷ behind) = at_stage t (Release write behind) refl (λ old is. cc)

store_on_within : (t : Attempt) (writes : List OneWrite) → Within (λ t. store_on t writes) t
unfolding next_at
store_on_within t [] = release_on_within t t.now.writes
store_on_within t (write ∷ behind) = at_stage t (StoreValues write behind) refl (λ old is. cc)

limit_within : (t : Attempt) (lost clock : ℕ) (at_limit : Bool) → (at_limit ≡ false → clock < t.settings.clock) →
    Within (λ t. if at_limit then rolled (record t { prefix = clock }) (ClockEnd clock) else at t (Decide lost clock)) t
unfolding next_at
limit_within t lost clock true low = roll_on_within (record t { prefix = clock; ending = Some (Rolled (ClockEnd clock) clock) }) t.now.writes
limit_within t lost clock false low = at_stage t (Decide lost clock) refl (exchange_below clock t.settings.clock (low refl))

below_limit : (clock limit : ℕ) → clock ≤ limit → nat_eq clock limit ≡ false → clock < limit
below_limit clock limit within differs = grind (arith, nat_tests)

check_on_within : (t : Attempt) (lost clock : ℕ) (notes : List Note) → clock ≤ t.settings.clock → Within (λ t. validate_on t lost clock notes) t
unfolding validate_on next_at
check_on_within t lost clock [] within = limit_within t lost clock (nat_eq clock t.settings.clock) (below_limit clock t.settings.clock within)
check_on_within t lost clock (note ∷ behind) within = at_stage t (CommitNote lost clock note behind) refl (λ old is. cc)

extend_on_within : (t : Attempt) (cell left : ℕ) (first : Meta) (clock : ℕ) (notes : List Note) → Within (λ t. extend_on t cell left first clock notes) t
unfolding next_at
extend_on_within t cell left first clock [] = at_stage (record t { prefix = clock }) (ReadValue cell left first) refl (λ old is. cc)
extend_on_within t cell left first clock (note ∷ behind) = at_stage t (ExtendNote cell left first clock note behind) refl (λ old is. cc)

level_on_within : (t : Attempt) (writes : List OneWrite) → 0 < length writes → Within (λ t. release_level_on t (rollback.former_writes t.saved) writes) t
unfolding next_at
level_on_within t [] some = absurd (omega (arith, some))
level_on_within t (write ∷ behind) some = ((refl, λ dues cells runs. refl), (refl, λ old is. cc))

-- ---- operations under way

read_within : (t : Attempt) (cell left : ℕ) (place : ReadPlace) → IsNone (read.ended_at place) → Within (λ t. read.reading_at t cell left place) t
unfolding next_at
read_within t cell left (at_read.Ended end) going = absurd (cc going)
read_within t cell left _ going = at_stage t _ refl (λ old is. cc)

extension_within : (t : Attempt) (cell left : ℕ) (first : Meta) (place : ExtendPlace) → IsNone (extension.end_at place) → Within (λ t. extension.extending_at place cell left first t) t
unfolding next_at
extension_within t cell left first at_extend.ExtendClock going = at_stage t (ExtendClock cell left first) refl (λ old is. cc)
extension_within t cell left first (at_extend.ExtendNote clock index) going = extend_on_within t cell left first clock (drop index t.notes)
extension_within t cell left first (at_extend.Ended end) going = absurd (cc going)

acquire_within : (op : AcquireOp) (value : ℕ) (t : Attempt) (place : AcquirePlace) → IsNone (acquire.end_at place) → Within (λ t. acquire.acquiring_at op value t place) t
unfolding next_at
acquire_within op value t (at_acquire.Ended end) going = absurd (cc going)
acquire_within op value t _ going = at_stage t _ refl (λ old is. cc)

commit_within : (writes count : ℕ) (t : Attempt) (place : CommitPlace) → commit.IsInPlace place writes t.settings.clock count → IsNone (commit.end_at place) → Within (λ t. commit.committing_at place writes t) t
unfolding next_at
commit_within writes count t (at_commit.Mark index) within going = mark_on_within (commit.in_preparation t) (drop index t.now.writes)
commit_within writes count t (at_commit.CommitNote lost clock index) within going = check_on_within (commit.in_preparation t) lost clock (drop (index - writes) t.notes) within.1.1
commit_within writes count t (at_commit.Decide lost clock) within going = ((refl, λ dues cells runs. refl), (refl, exchange_below clock t.settings.clock within))
commit_within writes count t (at_commit.StoreValues stamp index) within going = store_on_within (commit.stamped t stamp) (drop index t.now.writes)
commit_within writes count t (at_commit.Release stamp index) within going = release_on_within (commit.stamped t stamp) (drop index t.now.writes)
commit_within writes count t (at_commit.Ended end) within going = absurd (cc going)
commit_within writes count t _ within going = ((refl, λ dues cells runs. refl), (refl, λ old is. cc))

back_within : (whole : Bool) (t : Attempt) (place : BackPlace) → whole ≡ true → IsNone (rollback.end_at place) → Within (λ t. rollback.backing_at place whole t) t
back_within true t (at_back.Cell index) is going = roll_on_within t (drop index t.now.writes)
back_within false t (at_back.Cell index) is going = absurd (cc is)
back_within whole t (at_back.Ended end) is going = absurd (cc going)

some_left : (writes : List OneWrite) (index : ℕ) → index < length (buffered writes) → 0 < length (drop index writes)
some_left writes index within =
    omega (arith, within, length-map writes note_of_write, length-drop index writes)

undo_within : (whole : Bool) (t : Attempt) (place : BackPlace) → whole ≡ false → rollback.IsInPlace place whole (buffered t.now.writes) → IsNone (rollback.end_at place) → Within (λ t. rollback.backing_at place whole t) t
undo_within false t (at_back.Cell index) is within going = level_on_within t (drop index t.now.writes) (some_left t.now.writes index within)
undo_within true t (at_back.Cell index) is within going = absurd (cc is)
undo_within whole t (at_back.Ended end) is within going = absurd (cc going)

-- ---- its state

-- It waits for no word: it waits to be asked, or is over.
abbrev pub rests_at : State → Bool
rests_at (in_state.Ready told) = true
rests_at (in_state.Late token) = true
rests_at (in_state.Undone hooks) = true
rests_at (in_state.Stopped cause) = true
rests_at (in_state.Ended ending) = true
rests_at state = false

-- The one has what the other has, but for its stage, phase, ending, prefix and handlers.
pub record Same (t u : Attempt) : Type 0 where
  pub own : u.own ≡ t.own
  pub serial : u.serial ≡ t.serial
  pub settings : u.settings ≡ t.settings
  pub notes : u.notes ≡ t.notes
  pub writes : u.now.writes ≡ t.now.writes
  pub runs : u.now.runs ≡ t.now.runs
  pub saved : u.saved ≡ t.saved
  pub turn : u.turn ≡ t.turn
  pub due : u.due ≡ t.due
  pub rings : u.rings ≡ t.rings

-- An attempt in this state is the same, is so whatever is due and was done, and unless it rests makes an access, of which an exchange of the clock is below the limit.
pub record Stands (t : Attempt) (state : State) : Type 0 where
  pub same : Same t (attempt_at t state)
  pub also : (dues : List Due) (cells : List ℕ) (runs : Handlers) → attempt_at (with_past t dues cells runs) state ≡ with_past (attempt_at t state) dues cells runs
  pub acts : rests_at state ≡ false → IsSome (next_at (attempt_at t state) (attempt_at t state).stage)
  pub below : IsBelow (next_at (attempt_at t state) (attempt_at t state).stage) t.settings.clock

same : (t u : Attempt) → u ≡ during t u → Same t u
same t u is = record {
  own = ap (λ (x : Attempt). x.own) is;
  serial = ap (λ (x : Attempt). x.serial) is;
  settings = ap (λ (x : Attempt). x.settings) is;
  notes = ap (λ (x : Attempt). x.notes) is;
  writes = ap (λ (x : Attempt). x.now.writes) is;
  runs = ap (λ (x : Attempt). x.now.runs) is;
  saved = ap (λ (x : Attempt). x.saved) is;
  turn = ap (λ (x : Attempt). x.turn) is;
  due = ap (λ (x : Attempt). x.due) is;
  rings = ap (λ (x : Attempt). x.rings) is;
}

acting : (t : Attempt) (state : State) → Within (λ t. attempt_at t state) t → Stands t state
acting t state within = record { same = same t (attempt_at t state) within.0.0; also = within.0.1; acts = λ going. within.1.0; below = within.1.1 }

resting : (t : Attempt) (state : State) → rests_at state ≡ true → Keeps (λ t. attempt_at t state) t → next_at (attempt_at t state) (attempt_at t state).stage ≡ None → Stands t state
resting t state rests keeps none = record {
  same = same t (attempt_at t state) keeps.0;
  also = keeps.1;
  acts = λ going. cc;
  below = λ old is. cc;
}

pub stands : (r : Running) (state : State) → InvariantAt r state → Stands (base r) state
unfolding InvariantAt attempt_at next_at
stands r in_state.Announce holds = acting (base r) in_state.Announce (((refl, λ dues cells runs. refl), (refl, λ old is. cc)))
stands r in_state.Begin holds = acting (base r) in_state.Begin (((refl, λ dues cells runs. refl), (refl, λ old is. cc)))
stands r (in_state.Ready told) holds = resting (base r) (in_state.Ready told) refl (refl, λ dues cells runs. refl) refl
stands r (in_state.Late token) holds = resting (base r) (in_state.Late token) refl (refl, λ dues cells runs. refl) refl
stands r (in_state.Undo op) holds = acting (base r) (in_state.Undo op) (undo_within op.whole (base r) op.place holds.0.part holds.0.along.place holds.1)
stands r (in_state.Undone hooks) holds = record {
  same = record { own = refl; serial = refl; settings = refl; notes = refl; writes = refl; runs = refl; saved = refl; turn = refl; due = refl; rings = refl };
  also = λ dues cells runs. refl;
  acts = λ going. cc;
  below = λ old is. cc;
}
stands r (in_state.Stopped cause) holds = resting (base r) (in_state.Stopped cause) refl (refl, λ dues cells runs. refl) refl
stands r (in_state.Read op) holds = acting (base r) (in_state.Read op) (read_within (base r) op.addr.0 op.left op.place holds.1)
stands r (in_state.Extend reading first op) holds = acting (base r) (in_state.Extend reading first op) (extension_within (base r) reading.addr.0 reading.left first op.place holds.1)
stands r (in_state.Acquire op value) holds = acting (base r) (in_state.Acquire op value) (acquire_within op value (base r) op.place holds.1)
stands r (in_state.Commit op) holds =
    let notes = buffered r.footprint.writes.writes ++ r.footprint.reads.notes in
    let within : commit.IsInPlace op.place op.writes r.settings.clock (length notes) = subst (λ limit. commit.IsInPlace op.place op.writes limit (length notes)) (sym holds.0.made_for.limit) holds.0.along.place in
    acting (base r) (in_state.Commit op) (commit_within op.writes (length notes) (base r) op.place within holds.1)
stands r (in_state.RollBack op ending prepared) holds = acting (base r) (in_state.RollBack op ending prepared) (back_within op.whole (closing (base r) ending prepared) op.place holds.0.whole holds.1)
stands r (in_state.Ended ending) holds = resting (base r) (in_state.Ended ending) refl (refl, λ dues cells runs. refl) refl
