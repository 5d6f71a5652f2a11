-- What a write makes of what the body sees. Here t is an attempt.
use Rattle.std.proofs.Common.{◌≡◌, ◌≢◌, ℕ, zero, suc, Bool, true, false, not, ◌&&◌, nat_eq, List, [], Option, Some, None, refl, subst}
use Rattle.meta_word.specs.Meta.{owned_by_another, same_but_pending, same_meta}
use Rattle.meta_word.specs.Policy.{dooms}
use Rattle.meta_word.specs.declared.meta.Meta.{Meta}
use Rattle.stm_model.specs.Accesses.{Answer, OfMeta, OfStatus}
use Rattle.stm_model.specs.After.{acquire_again, acquiring, after, after_at, exchanged, is_active, meta_acquired, note_of, owner_status_loaded, owner_validated}
use Rattle.stm_model.specs.Attempt.{Acquire, AcquireMeta, Attempt, DoomOwner, Ended, Late, OwnerMeta, OwnerStatus, Ready, Stage, Stopped, cause_at, cells_of}
use Rattle.stm_model.specs.CellsState.{CellsState}
use Rattle.stm_model.specs.FirstUse.{WriteOn, WritesAt, done, goes_on, refused}
use Rattle.stm_model.specs.Heap.{writes_to}
use Rattle.stm_model.specs.Moves.{AwaitsAsk, AwaitsAskAt, Takes, asked_at, asked_going, moved}
use Rattle.stm_model.specs.declared.access.Ask.TheVariants.{Set}
use Rattle.stm_model.specs.declared.cause.Addr.{Addr}
use Rattle.stm_model.specs.declared.note.Note.{Note}
use Rattle.stm_model.proofs.AttemptLemmas.{set-is-written}
use Rattle.stm_model.proofs.FirstUseLemmas.{write-begins, write-begins-same, write-on}
use Rattle.txn_drive.specs.Paying.{IsLed}
use Rattle.txn_drive.specs.Standing.{Rests}
use Rattle.txn_run.specs.Flights.{Tells, told_at}
use Rattle.txn_run.proofs.Awaiting.{IsTold, if_due, led_holds, ready_going, ready_waits, rests_waits, stays, stopped_going, stopped_waits, told_here, told_ready, told_stopped}

-- ---- nothing comes due in a write

again_due : (t : Attempt) (cell value left : ℕ) (tried : Bool) (first latest : Meta) → t.due ≡ [] → (acquire_again t cell value left tried first latest).due ≡ []
again_due t cell value zero tried first latest nothing = nothing
again_due t cell value (suc left) tried first latest nothing = nothing

acquiring_due : (t : Attempt) (cell value left : ℕ) (tried : Bool) (first : Meta) → t.due ≡ [] → (acquiring t cell value left tried first).due ≡ []
unfolding acquiring
acquiring_due t cell value left tried first nothing =
    if_due (owned_by_another t.own first) _ _
    (if_due (dooms t.settings.policy && not tried) _ _ nothing (again_due t cell value left tried first first nothing))
    (if_due (nat_eq first.owner 0) _ _ nothing (again_due t cell value left tried first first nothing))

acquired_due : (t : Attempt) (cell value left : ℕ) (tried : Bool) (note : Option Note) (first : Meta) → t.due ≡ [] → (meta_acquired t cell value left tried note first).due ≡ []
acquired_due t cell value left tried None first nothing = acquiring_due t cell value left tried first nothing
acquired_due t cell value left tried (Some note) first nothing =
    if_due (nat_eq note.version first.version) _ _ (acquiring_due t cell value left tried first nothing) nothing

write_due : (t : Attempt) (address word : ℕ) (stage : Stage) (answer : Answer) → WritesAt address word stage → t.due ≡ [] → (after_at t stage answer).due ≡ []
unfolding WritesAt after_at exchanged owner_status_loaded owner_validated
write_due t address word (AcquireMeta cell value left tried) (OfMeta found) stands nothing = acquired_due t cell value left tried (note_of t.notes cell) found nothing
write_due t address word (AcquireMeta cell value left tried) answer stands nothing = nothing
write_due t address word (Acquire cell value left tried first expected again) (OfMeta found) stands nothing =
    if_due (same_meta found expected) _ _ nothing
    (if_due (not again && same_but_pending found expected) _ _ nothing (again_due t cell value left tried first found nothing))
write_due t address word (Acquire cell value left tried first expected again) answer stands nothing = nothing
write_due t address word (OwnerStatus cell value left first) (OfStatus found) stands nothing =
    if_due (is_active found.phase) _ _ nothing (again_due t cell value left true first first nothing)
write_due t address word (OwnerStatus cell value left first) answer stands nothing = nothing
write_due t address word (OwnerMeta cell value left first status) (OfMeta found) stands nothing =
    if_due (nat_eq found.owner first.owner && not found.changing) _ _ nothing (again_due t cell value left true first found nothing)
write_due t address word (OwnerMeta cell value left first status) answer stands nothing = nothing
write_due t address word (DoomOwner cell value left first second status) (OfStatus found) stands nothing = again_due t cell value left true first second nothing
write_due t address word (DoomOwner cell value left first second status) answer stands nothing = nothing
write_due t address word stage answer stands nothing = absurd stands

-- ---- a first write

writes_waits : (address word : ℕ) (stage : Stage) → WritesAt address word stage → AwaitsAskAt stage → ⊥
unfolding WritesAt AwaitsAskAt
writes_waits address word (AcquireMeta cell value left tried) stands waits = waits
writes_waits address word (Acquire cell value left tried first expected again) stands waits = waits
writes_waits address word (OwnerStatus cell value left first) stands waits = waits
writes_waits address word (OwnerMeta cell value left first status) stands waits = waits
writes_waits address word (DoomOwner cell value left first second status) stands waits = waits
writes_waits address word stage stands waits = stands

writes_going : (address word : ℕ) (stage : Stage) → WritesAt address word stage → stage ≢ Ended
unfolding WritesAt
writes_going address word stage stands is = rw is at stands

module _ (lawful : List ℕ → Type 0) (size : ℕ) (cell : Addr) (word : ℕ) (before : CellsState) where
  abbrev Onward : Attempt → Type 0
  Onward t = WriteOn size cell.0 word before t

  answered : (t : Attempt) (answer : Answer) → t.due ≡ [] → Onward t → Onward (after t answer) × ((after t answer).due ≡ [])
  answered t answer nothing (goes_on writes same) = (
    subst (λ (state : CellsState). WriteOn size cell.0 word state (after t answer)) same (write-on size cell.0 word t answer writes),
    write_due t cell.0 word t.stage answer writes.stands nothing,
  )
  answered t answer nothing (done is does) = stays Onward t answer (ready_waits t.stage None is) nothing (done is does)
  answered t answer nothing (refused cause is refuses) = stays Onward t answer (stopped_waits t.stage cause is) nothing (refused cause is refuses)

  write_waits : (u : Attempt) → Onward u → Rests u → AwaitsAsk u
  write_waits u (goes_on writes same) rests = rests_waits u (writes_going cell.0 word u.stage writes.stands) rests
  write_waits u (done is does) rests = rests_waits u (ready_going u.stage None is) rests
  write_waits u (refused cause is refuses) rests = rests_waits u (stopped_going u.stage cause is) rests

  write_tells : (u : Attempt) → Onward u → AwaitsAsk u → Tells lawful (Set cell word) (told_at u.stage) before (cells_of size u)
  unfolding Tells
  write_tells u (goes_on writes same) waits = absurd (writes_waits cell.0 word u.stage writes.stands waits.stands)
  write_tells u (done is does) waits = rw (told_ready u.stage None is) does
  write_tells u (refused cause is refuses) waits = rw (told_stopped u.stage cause is) refuses

-- ---- a write

rewrites_at : (t : Attempt) (stage : Stage) (cell : Addr) (word : ℕ) → AwaitsAskAt stage → cause_at stage ≡ None → writes_to t.now.writes cell.0 ≡ true
    → (asked_at t stage (Set cell word)).stage ≡ Ready None
unfolding AwaitsAskAt asked_at asked_going cause_at
rewrites_at t (Ready told) cell word waits going is = rw is refl
rewrites_at t (Late token) cell word waits going is = rw is refl
rewrites_at t (Stopped cause) cell word waits going is = cc going
rewrites_at t stage cell word waits going is = absurd waits

module _ (lawful : List ℕ → Type 0) (size : ℕ) (cell : Addr) (word : ℕ) (t u : Attempt) (waits : AwaitsAsk t) (going : cause_at t.stage ≡ None) where
  abbrev taken : Attempt
  taken = moved t (Takes (Set cell word))

  first_write : writes_to t.now.writes cell.0 ≡ false → taken.due ≡ [] → IsLed taken u → Rests u → IsTold lawful size (Set cell word) t u
  first_write unwritten nothing leads rests =
      let begins : WriteOn size cell.0 word (cells_of size t) taken =
      goes_on (write-begins t cell word waits.stands going unwritten) (write-begins-same size t cell word waits.stands going unwritten) in
      let on : WriteOn size cell.0 word (cells_of size t) u =
      led_holds (WriteOn size cell.0 word (cells_of size t)) (answered lawful size cell word (cells_of size t)) taken u leads nothing begins in
      let rest : AwaitsAsk u = write_waits lawful size cell word (cells_of size t) u on rests in
      record { waits = rest; tells = write_tells lawful size cell word (cells_of size t) u on rest }

  rewrite : writes_to t.now.writes cell.0 ≡ true → taken.due ≡ [] → IsLed taken u → IsTold lawful size (Set cell word) t u
  unfolding Tells moved
  rewrite is nothing leads =
      let ready : taken.stage ≡ Ready None = rewrites_at t t.stage cell word waits.stands going is in
      let waiting : AwaitsAsk taken = record { stands = ready_waits taken.stage None ready; nothing_due = nothing } in
      let does : Tells lawful (Set cell word) (told_at taken.stage) (cells_of size t) (cells_of size taken) =
      rw (told_ready taken.stage None ready) (record { going = going; is = set-is-written size t cell word waits.stands going is }) in
      told_here lawful size (Set cell word) t u taken waiting does leads

  write_so : (here : Bool) → writes_to t.now.writes cell.0 ≡ here → taken.due ≡ [] → IsLed taken u → Rests u → IsTold lawful size (Set cell word) t u
  write_so true is nothing leads rests = rewrite is nothing leads
  write_so false is nothing leads rests = first_write is nothing leads rests

  -- A write that was taken is done, or refused.
  pub set_told : taken.due ≡ [] → IsLed taken u → Rests u → IsTold lawful size (Set cell word) t u
  set_told nothing leads rests = write_so (writes_to t.now.writes cell.0) refl nothing leads rests
