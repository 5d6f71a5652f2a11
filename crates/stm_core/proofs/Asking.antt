-- An ask is taken, or refused, out of memory.
use Rattle.std.proofs.Common.{◌≡◌, ℕ, ◌+◌, ◌*◌, ◌<◌, ◌^◌, ◌⊎◌, ◌-◌, ◌||◌, inl, inr, if◌then◌else◌, is_some, IsFalse, IsSome, IsTrue, List, [], ◌∷◌, length, Option, None, refl, sym, ap, ◌∙◌, subst, arith}
use Rattle.lifecycle.specs.declared.walk.Walk.{Walk}
use Rattle.meta_word.specs.Policy.{looks}
use Rattle.stm_core.proofs.Doing.{runs_so}
use Rattle.stm_core.proofs.Marked.{as_many}
use Rattle.stm_core.proofs.Shown.{nothing_due_so, shown_alike}
use Rattle.stm_core.proofs.Stands.{Stands, stands}
use Rattle.op_commit.specs.Back.{former_writes}
use Rattle.stm_core.specs.Machine.{HasSpare, IsRefused, TakesNoMemory, accesses_asked, reads_asked, writes_asked}
use Rattle.stm_core.specs.Running.{HasOpen, InvariantAt, IsSound, RunsOut, attempt_at, base, machine_of, none_due, refused, shown, standing_at}
use Rattle.stm_core.specs.Past.{books_in}
use Rattle.stm_core.specs.declared.running.Dues.{Dues}
use Rattle.stm_core.specs.declared.running.Running.{Running}
use Rattle.stm_core.specs.declared.running.State.{State}
use Rattle.stm_core.specs.declared.running.State.TheVariants as in_state
use Rattle.stm_model.specs.declared.access.Ask.{Ask}
use Rattle.stm_model.specs.declared.access.Ask.TheVariants.{Abandon, Enter, Finish, Get, Hook, Keep, Later, Set, Undo}
use Rattle.stm_model.specs.declared.cause.Cause.{Cause}
use Rattle.stm_model.specs.declared.cause.Cause.TheVariants.{Memory}
use Rattle.stm_model.specs.After.{at, note_of, rolled, stopped}
use Rattle.stm_model.specs.Accesses.{next_at}
use Rattle.stm_model.specs.CellsState.{outer}
use Rattle.stm_model.specs.Heap.{writes_to}
use Rattle.stm_model.specs.declared.marks.Level.{Level}
use Rattle.stm_model.specs.Attempt.{Attempt, Late, Prepare, Ready, Stage, Stopped, Write as OneWrite, cause_at}
use Rattle.stm_model.specs.Moves.{AwaitsAsk, AwaitsAskAt, EndsLate, IsCall, MayAsk, MayRunOut, Takes, asked_at, asked_going, asked_stopped, conclude, go_on, late_over_at, moved}

-- ---- who waits to be asked is ready or was refused something

-- where it makes an access it waits for no ask
acts_or_waits : (t : Attempt) (stage : Stage) → AwaitsAskAt stage → IsSome (next_at t stage) → ⊥
unfolding AwaitsAskAt next_at
acts_or_waits t (Ready told) waits acts = cc acts
acts_or_waits t (Late token) waits acts = cc acts
acts_or_waits t (Stopped cause) waits acts = cc acts
acts_or_waits t _ waits acts = waits

state_waits : (t : Attempt) (state : State) → Stands t state → AwaitsAskAt (attempt_at t state).stage → ((told : Option ℕ) → state ≡ in_state.Ready told → ⊥) → ((token : ℕ) → state ≡ in_state.Late token → ⊥) →
    ((cause : Cause) → state ≡ in_state.Stopped cause → ⊥) → ((hooks : ℕ) → state ≡ in_state.Undone hooks → ⊥) → ⊥
unfolding attempt_at AwaitsAskAt
state_waits t (in_state.Ready told) here waits ready late stops undone = ready told refl
state_waits t (in_state.Late token) here waits ready late stops undone = late token refl
state_waits t (in_state.Stopped cause) here waits ready late stops undone = stops cause refl
state_waits t (in_state.Undone hooks) here waits ready late stops undone = undone hooks refl
state_waits t (in_state.Ended ending) here waits ready late stops undone = waits
state_waits t _ here waits ready late stops undone = acts_or_waits _ _ waits (here.acts refl)

no_act_late : (t : Attempt) (stage : Stage) (token : ℕ) → stage ≡ Late token → IsSome (next_at t stage) → ⊥
unfolding next_at
no_act_late t stage token is acts = cc (subst (λ stage. IsSome (next_at t stage)) is acts)

late_at_state : (r : Running) (state : State) → Stands (base r) state → InvariantAt r state → (token : ℕ) → (attempt_at (base r) state).stage ≡ Late token → 0 < r.turn
unfolding attempt_at InvariantAt
late_at_state r (in_state.Ready told) here holds token is = absurd (cc is)
late_at_state r (in_state.Late other) here holds token is = holds
late_at_state r (in_state.Undone hooks) here holds token is = absurd (cc is)
late_at_state r (in_state.Stopped cause) here holds token is = absurd (cc is)
late_at_state r (in_state.Ended ending) here holds token is = absurd (cc is)
late_at_state r state here holds token is = absurd (no_act_late _ _ token is (here.acts refl))

-- Where a before-commit body has its turn, one has had it.
pub late_there : (r : Running) → IsSound r → (token : ℕ) → (shown r).stage ≡ Late token → 0 < (shown r).turn
late_there r sound token is =
    let here = stands r r.state sound.holds in
    let turn = late_at_state r r.state here sound.holds token is in
    omega (arith, turn, here.same.turn)

-- While runs of an undone level are left, something is due.
due_undone : (r : Running) → IsSound r → r.due ≡ none_due → (hooks : ℕ) → r.state ≡ in_state.Undone hooks → ⊥
due_undone r sound nothing hooks is = cc (subst (λ (runs : Option Walk). IsSome runs) (ap (λ (dues : Dues). dues.runs) nothing) (runs_so r sound hooks is))

pub waits_so : (r : Running) → IsSound r → AwaitsAsk (shown r) → ((told : Option ℕ) → r.state ≡ in_state.Ready told → ⊥) → ((token : ℕ) → r.state ≡ in_state.Late token → ⊥) → ((cause : Cause) → r.state ≡ in_state.Stopped cause → ⊥) → ⊥
waits_so r sound waits ready late stops = state_waits (base r) r.state (stands r r.state sound.holds) waits.stands ready late stops (due_undone r sound (nothing_due_so r sound waits.nothing_due))

-- ---- what the asks make of an attempt that waits

-- At this stage nothing was refused, and asks are taken.
pub record TakesAsks (stage : Stage) : Type 0 where
  pub taken : (t : Attempt) (ask : Ask) → asked_at t stage ask ≡ asked_going t ask
  pub over : (t : Attempt) → late_over_at t stage ≡ go_on t
  pub uncaused : cause_at stage ≡ None

ready_takes : (told : Option ℕ) → TakesAsks (Ready told)
unfolding asked_at late_over_at cause_at
ready_takes told = record { taken = λ t ask. refl; over = λ t. refl; uncaused = refl }

late_takes : (token : ℕ) → TakesAsks (Late token)
unfolding asked_at late_over_at cause_at
late_takes token = record { taken = λ t ask. refl; over = λ t. refl; uncaused = refl }

-- It waits at this stage to be asked, and nothing was refused.
pub record WaitsAt (r : Running) : Type 0 where
  pub stage : Stage
  pub takes : TakesAsks stage
  pub here : shown r ≡ standing_at r stage

ready_at : (r : Running) (told : Option ℕ) → r.state ≡ in_state.Ready told → WaitsAt r
unfolding attempt_at
ready_at r told is = record { stage = Ready told; takes = ready_takes told; here = ap (λ state. attempt_at (base r) state) is }

late_at : (r : Running) (token : ℕ) → r.state ≡ in_state.Late token → WaitsAt r
unfolding attempt_at
late_at r token is = record { stage = Late token; takes = late_takes token; here = ap (λ state. attempt_at (base r) state) is }

pub waits_at : (r : Running) → ((told : Option ℕ) × (r.state ≡ in_state.Ready told)) ⊎ ((token : ℕ) × (r.state ≡ in_state.Late token)) → WaitsAt r
waits_at r (inl ready) = ready_at r ready.0 ready.1
waits_at r (inr late) = late_at r late.0 late.1

module _ (r : Running) (waits : WaitsAt r) where
  abbrev asked_here : Attempt
  asked_here = standing_at r waits.stage

  pub going_taken : (ask : Ask) (after : Attempt) → after ≡ asked_going asked_here ask → after ≡ moved (shown r) (Takes ask)
  unfolding moved
  going_taken ask after is = is ∙ sym (waits.takes.taken asked_here ask) ∙ ap (λ t. moved t (Takes ask)) (sym waits.here)

  pub going_asked : (ask : Ask) (after : Attempt) → (after ≡ asked_going asked_here ask) ⊎ RunsOut asked_here ask after → (after ≡ moved (shown r) (Takes ask)) ⊎ IsRefused (shown r) ask after
  unfolding moved
  going_asked ask after (inl is) = inl (going_taken ask after is)
  going_asked ask after (inr lacks) = inr (record {
    wants = subst (λ t. MayRunOut t ask) (sym waits.here) lacks.0;
    going = ap (λ (t : Attempt). cause_at t.stage) waits.here ∙ waits.takes.uncaused;
    stops = lacks.1 ∙ ap (λ t. stopped t Memory) (sym waits.here);
  })

  -- where its before-commit body is over
  pub going_over : (after : Attempt) → after ≡ asked_going asked_here Finish → after ≡ moved (shown r) EndsLate
  unfolding moved asked_going
  going_over after is = is ∙ sym (waits.takes.over asked_here) ∙ ap (λ t. moved t EndsLate) (sym waits.here)

-- where it was refused something
pub stopped_so : (r : Running) (cause : Cause) → r.state ≡ in_state.Stopped cause → shown r ≡ at (base r) (Stopped cause)
unfolding attempt_at
stopped_so r cause is = ap (λ state. attempt_at (base r) state) is

pub stopped_taken : (r : Running) (cause : Cause) (ask : Ask) (after : Attempt) → r.state ≡ in_state.Stopped cause → after ≡ asked_stopped (refused r cause) cause ask → after ≡ moved (shown r) (Takes ask)
unfolding moved asked_at
stopped_taken r cause ask after is takes = takes ∙ ap (λ t. moved t (Takes ask)) (sym (stopped_so r cause is))

pub stopped_over : (r : Running) (cause : Cause) (after : Attempt) → r.state ≡ in_state.Stopped cause → after ≡ rolled (refused r cause) cause → after ≡ moved (shown r) EndsLate
unfolding moved late_over_at
stopped_over r cause after is rolls = rolls ∙ ap (λ t. moved t EndsLate) (sym (stopped_so r cause is))

-- each call leaves it as it is
pub call_stays : (t : Attempt) (cause : Cause) (ask : Ask) → IsCall ask → asked_stopped t cause ask ≡ t
unfolding asked_stopped IsCall
call_stays t cause Keep call = absurd call
call_stays t cause Undo call = absurd call
call_stays t cause Finish call = absurd call
call_stays t cause (Abandon other) call = absurd call
call_stays t cause _ call = refl

-- a level is closed
pub closes_stopped : (t : Attempt) (cause : Cause) (ask : Ask) → (ask ≡ Keep) ⊎ (ask ≡ Undo) → asked_stopped t cause ask ≡ record t { saved = outer t.saved }
unfolding asked_stopped
closes_stopped t cause ask (inl is) = ap (asked_stopped t cause) is
closes_stopped t cause ask (inr is) = ap (asked_stopped t cause) is

pub has_open : (ask : Ask) (levels : List Level) → (ask ≡ Keep) ⊎ (ask ≡ Undo) → HasOpen ask levels → 0 < length levels
unfolding HasOpen
has_open ask levels (inl is) inside = subst (λ ask. HasOpen ask levels) is inside
has_open ask levels (inr is) inside = subst (λ ask. HasOpen ask levels) is inside

stopped_at : (t : Attempt) (cause : Cause) (ask : Ask) → IsCall ask → asked_at t (Stopped cause) ask ≡ t
unfolding asked_at
stopped_at t cause ask call = call_stays t cause ask call

pub stays_so : (t after : Attempt) (cause : Cause) (ask : Ask) → t.stage ≡ Stopped cause → IsCall ask → (after ≡ moved t (Takes ask)) ⊎ IsRefused t ask after → after ≡ t
unfolding moved cause_at
stays_so t after cause ask is call (inl takes) = takes ∙ ap (λ stage. asked_at t stage ask) is ∙ stopped_at t cause ask call
stays_so t after cause ask is call (inr refused) = absurd (cc (sym (ap cause_at is) ∙ refused.going))

-- ---- the end of a body

pub concludes : (t : Attempt) (writes : List OneWrite) → (length writes ≡ 0 → ⊥) → conclude t writes ≡ at t Prepare
concludes t [] some = absurd (some refl)
concludes t (write ∷ writes) some = refl

-- ---- what is left and what is spare

-- How many may follow an ask goes by what was read and written alone.
accesses_alike : (t u : Attempt) (ask : Ask) → t.settings ≡ u.settings → t.notes ≡ u.notes → t.now.writes ≡ u.now.writes → accesses_asked t ask ≡ accesses_asked u ask
unfolding accesses_asked
accesses_alike t u (Get cell) settings notes writes = λ i. (looks (settings i).policy + 1) * (4 + length (notes i))
accesses_alike t u (Set cell value) settings notes writes = λ i. (looks (settings i).policy + 1) * 4
accesses_alike t u Finish settings notes writes = λ i. 3 * length (writes i) + ((settings i).tries + 1) * (length (notes i) + 2) + 2 + (length (writes i) + 1)
accesses_alike t u (Abandon cause) settings notes writes = λ i. length (writes i) + 1
accesses_alike t u Undo settings notes writes = λ i. length (writes i)
accesses_alike t u ask settings notes writes = refl

pub accesses_shown : (r : Running) (ask : Ask) → IsSound r → accesses_asked (base r) ask ≡ accesses_asked (shown r) ask
accesses_shown r ask sound = let alike = shown_alike r sound in accesses_alike (base r) (shown r) ask (sym alike.settings) (sym alike.notes) (sym alike.writes)

-- How much room an ask uses up goes by what was read and written alone.
reads_alike : (t u : Attempt) (ask : Ask) → t.notes ≡ u.notes → t.now.writes ≡ u.now.writes → reads_asked t ask ≡ reads_asked u ask
unfolding reads_asked
reads_alike t u (Get cell) notes writes = λ i. if writes_to (writes i) cell.0 || is_some (note_of (notes i) cell.0) then 0 else 1
reads_alike t u ask notes writes = refl

writes_alike : (t u : Attempt) (ask : Ask) → t.now.writes ≡ u.now.writes → writes_asked t ask ≡ writes_asked u ask
unfolding writes_asked
writes_alike t u (Set cell value) writes = λ i. if writes_to (writes i) cell.0 then 0 else 1
writes_alike t u ask writes = refl

pub room_shown : (r after : Running) (ask : Ask) → IsSound r →
    HasSpare (r.footprint.reads.spare - reads_asked (base r) ask) (r.footprint.writes.spare - writes_asked (base r) ask) (machine_of after) →
    HasSpare ((machine_of r).spare_reads - reads_asked (shown r) ask) ((machine_of r).spare_writes - writes_asked (shown r) ask) (machine_of after)
room_shown r after ask sound room =
    let alike = shown_alike r sound in
    let reads = reads_alike (base r) (shown r) ask (sym alike.notes) (sym alike.writes) in
    let writes = writes_alike (base r) (shown r) ask (sym alike.writes) in
    record { for_reads = omega (arith, room.for_reads, reads); for_writes = omega (arith, room.for_writes, writes) }

-- What is under way has its room beside what is spare.
pub less_spare : (r : Running) (ask : Ask) → IsSound r → TakesNoMemory (machine_of r).spare_reads (machine_of r).spare_writes (shown r) ask → TakesNoMemory r.footprint.reads.spare r.footprint.writes.spare (base r) ask
less_spare r (Get cell) sound some = omega (arith, some)
less_spare r (Set cell value) sound (inl some) = inl (subst (λ writes. IsFalse (writes_to writes cell.0)) (shown_alike r sound).writes some.0, omega (arith, some.1))
less_spare r (Set cell value) sound (inr first) = let alike = shown_alike r sound in inr (record {
  written = subst (λ writes. IsTrue (writes_to writes cell.0)) alike.writes first.written;
  unwritten = subst (λ books. IsFalse (writes_to (former_writes books) cell.0)) alike.saved first.unwritten;
})
less_spare r Enter sound inside = subst (λ books. 0 < length books) (shown_alike r sound).saved inside
less_spare r (Hook phase token) sound some = some
less_spare r (Later token) sound some = some
less_spare r ask sound some = tt

-- A level is open where an ask that may come closes one.
may_close : (ask : Ask) (t : Attempt) (levels : List Level) → length t.saved ≡ length levels → MayAsk (2 ^ 32) t ask → HasOpen ask levels
unfolding MayAsk HasOpen
may_close Keep t levels same may = omega (arith, same, may)
may_close Undo t levels same may = omega (arith, same, may)
may_close ask t levels same may = tt

pub closes_open : (r : Running) (ask : Ask) → IsSound r → MayAsk (2 ^ 32) (shown r) ask → HasOpen ask r.levels
closes_open r ask sound may =
    may_close ask (shown r) r.levels (ap length (shown_alike r sound).saved ∙ sym (as_many r.footprint.writes r.handlers r.levels (books_in r.past) sound.fits.marks)) may
