-- What a read makes of what the body sees. Here t is an attempt.
use Rattle.std.proofs.Common.{◌≡◌, ◌≢◌, ℕ, zero, suc, ◌<◌, false, nat_eq, nat_lt, List, [], ◌∷◌, length, get_or, Option, Some, None, is_some, refl, sym, ap, subst, ◌∙◌, inl, inr}
use Rattle.std.specs.Map.{lookup}
use Rattle.meta_word.specs.Meta.{changing_by_another, still_has}
use Rattle.meta_word.specs.declared.meta.Meta.{Meta}
use Rattle.opacity.proofs.Shown.{found_note}
use Rattle.stm_model.specs.Accesses.{Answer, Number, OfMeta}
use Rattle.stm_model.specs.After.{after, after_at, answer_with, extend_on, extended, meta_read, note_of, read_again, validated}
use Rattle.stm_model.specs.Attempt.{Attempt, Ended, ExtendClock, ExtendNote, ReadMeta, ReadValue, Stage, Validate, cause_at, cells_of}
use Rattle.stm_model.specs.CellsState.{CellsState}
use Rattle.stm_model.specs.FirstUse.{ReadsAt, ReadOn, goes_on, told, refused}
use Rattle.stm_model.specs.Heap.{Agrees, over, writes_to}
use Rattle.stm_model.specs.Moves.{AwaitsAsk, AwaitsAskAt, Takes, moved}
use Rattle.stm_model.specs.Telling.{Got, IsAtHand}
use Rattle.stm_model.specs.declared.access.Ask.TheVariants.{Get}
use Rattle.stm_model.specs.declared.cause.Addr.{Addr}
use Rattle.stm_model.specs.declared.cause.Cause.{Cause}
use Rattle.stm_model.specs.declared.note.Note.{Note}
use Rattle.stm_model.proofs.AttemptLemmas.{get-noted, get-written}
use Rattle.stm_model.proofs.FirstUseLemmas.{found-noted, read-begins, read-begins-same, read-on}
use Rattle.stm_model.proofs.HeapLemmas.{over_found, over_other, writes_to-lookup}
use Rattle.txn_drive.specs.Paying.{IsLed}
use Rattle.txn_drive.specs.Standing.{Rests}
use Rattle.txn_run.specs.Flights.{Tells, told_at}
use Rattle.txn_run.proofs.Awaiting.{IsTold, if_due, led_holds, ready_going, ready_waits, rests_waits, stays, stopped_going, stopped_waits, told_here, told_ready, told_stopped}

-- ---- nothing comes due in a read

again_due : (t : Attempt) (cell left : ℕ) (cause : Cause) → t.due ≡ [] → (read_again t cell left cause).due ≡ []
again_due t cell zero cause nothing = nothing
again_due t cell (suc left) cause nothing = nothing

extend_due : (t : Attempt) (cell left : ℕ) (first : Meta) (clock : ℕ) (behind : List Note) → t.due ≡ [] → (extend_on t cell left first clock behind).due ≡ []
extend_due t cell left first clock [] nothing = nothing
extend_due t cell left first clock (note ∷ behind) nothing = nothing

read_due : (t : Attempt) (notes : List Note) (address : ℕ) (stage : Stage) (answer : Answer) → ReadsAt notes address stage → t.due ≡ [] → (after_at t stage answer).due ≡ []
unfolding ReadsAt after_at meta_read extended validated
read_due t notes address (ReadMeta cell left) (OfMeta found) stands nothing =
    if_due (changing_by_another t.own found) _ _ (again_due t cell left _ nothing) (if_due (nat_lt t.prefix found.version) _ _ nothing nothing)
read_due t notes address (ReadMeta cell left) answer stands nothing = nothing
read_due t notes address (ExtendClock cell left first) (Number clock) stands nothing = extend_due t cell left first clock t.notes nothing
read_due t notes address (ExtendClock cell left first) answer stands nothing = nothing
read_due t notes address (ExtendNote cell left first clock note behind) (OfMeta found) stands nothing =
    if_due (still_has t.own note.version found) _ _ (extend_due t cell left first clock behind nothing) nothing
read_due t notes address (ExtendNote cell left first clock note behind) answer stands nothing = nothing
read_due t notes address (ReadValue cell left first) (Number value) stands nothing = nothing
read_due t notes address (ReadValue cell left first) answer stands nothing = nothing
read_due t notes address (Validate cell left first value) (OfMeta found) stands nothing =
    if_due (still_has t.own first.version found) _ _ nothing (again_due t cell left _ nothing)
read_due t notes address (Validate cell left first value) answer stands nothing = nothing
read_due t notes address stage answer stands nothing = absurd stands

-- ---- a first read

reads_waits : (notes : List Note) (address : ℕ) (stage : Stage) → ReadsAt notes address stage → AwaitsAskAt stage → ⊥
unfolding ReadsAt AwaitsAskAt
reads_waits notes address (ReadMeta cell left) stands waits = waits
reads_waits notes address (ExtendClock cell left first) stands waits = waits
reads_waits notes address (ExtendNote cell left first clock note behind) stands waits = waits
reads_waits notes address (ReadValue cell left first) stands waits = waits
reads_waits notes address (Validate cell left first value) stands waits = waits
reads_waits notes address stage stands waits = stands

reads_going : (notes : List Note) (address : ℕ) (stage : Stage) → ReadsAt notes address stage → stage ≢ Ended
unfolding ReadsAt
reads_going notes address stage stands is = rw is at stands

module _ (lawful : List ℕ → Type 0) (size : ℕ) (cell : Addr) (before : CellsState) where
  abbrev Onward : Attempt → Type 0
  Onward t = ReadOn lawful size cell.0 before t

  answered : (t : Attempt) (answer : Answer) → t.due ≡ [] → Onward t → Onward (after t answer) × ((after t answer).due ≡ [])
  answered t answer nothing (goes_on reads same) = (
    subst (λ (state : CellsState). ReadOn lawful size cell.0 state (after t answer)) same (read-on lawful size cell.0 t answer reads),
    read_due t t.notes cell.0 t.stage answer reads.stands nothing,
  )
  answered t answer nothing (told value is got) = stays Onward t answer (ready_waits t.stage (Some value) is) nothing (told value is got)
  answered t answer nothing (refused cause is refuses) = stays Onward t answer (stopped_waits t.stage cause is) nothing (refused cause is refuses)

  read_waits : (u : Attempt) → Onward u → Rests u → AwaitsAsk u
  read_waits u (goes_on reads same) rests = rests_waits u (reads_going u.notes cell.0 u.stage reads.stands) rests
  read_waits u (told value is got) rests = rests_waits u (ready_going u.stage (Some value) is) rests
  read_waits u (refused cause is refuses) rests = rests_waits u (stopped_going u.stage cause is) rests

  read_tells : (u : Attempt) → Onward u → AwaitsAsk u → Tells lawful (Get cell) (told_at u.stage) before (cells_of size u)
  unfolding Tells
  read_tells u (goes_on reads same) waits = absurd (reads_waits u.notes cell.0 u.stage reads.stands waits.stands)
  read_tells u (told value is got) waits = rw (told_ready u.stage (Some value) is) got
  read_tells u (refused cause is refuses) waits = rw (told_stopped u.stage cause is) refuses

module _ (lawful : List ℕ → Type 0) (size : ℕ) (cell : Addr) (t u : Attempt) (waits : AwaitsAsk t) (going : cause_at t.stage ≡ None) where
  first_read : lookup (nat_eq cell.0) t.now.writes ≡ None → note_of t.notes cell.0 ≡ None → (moved t (Takes (Get cell))).due ≡ [] → IsLed (moved t (Takes (Get cell))) u → Rests u
      → IsTold lawful size (Get cell) t u
  first_read unwritten unnoted nothing leads rests =
      let begins : ReadOn lawful size cell.0 (cells_of size t) (moved t (Takes (Get cell))) =
      goes_on (read-begins t cell waits.stands going unwritten unnoted) (read-begins-same size t cell waits.stands going unwritten unnoted) in
      let on : ReadOn lawful size cell.0 (cells_of size t) u =
      led_holds (ReadOn lawful size cell.0 (cells_of size t)) (answered lawful size cell (cells_of size t)) (moved t (Takes (Get cell))) u leads nothing begins in
      let rest : AwaitsAsk u = read_waits lawful size cell (cells_of size t) u on rests in
      record { waits = rest; tells = read_tells lawful size cell (cells_of size t) u on rest }

  -- ---- a cell that is at hand

  answers : (value : ℕ) → IsAtHand cell.0 (cells_of size t) → ((heap : List ℕ) → length heap ≡ size → Agrees t.notes heap → get_or (over heap t.now.writes) cell.0 0 ≡ value)
      → moved t (Takes (Get cell)) ≡ answer_with t value → IsLed (moved t (Takes (Get cell))) u → IsTold lawful size (Get cell) t u
  unfolding Tells told_at cause_at AwaitsAskAt
  answers value here holds is leads =
      let waiting : AwaitsAsk (answer_with t value) = record { stands = tt; nothing_due = waits.nothing_due } in
      let got : Got lawful cell.0 value (cells_of size t) (cells_of size (answer_with t value)) = record {
        going = going;
        only_reads = rw going refl;
        noted = inl (here, refl);
        told = λ heap possible. holds heap possible.cells possible.agrees;
      } in
      told_here lawful size (Get cell) t u (answer_with t value) waiting got (subst (λ (a : Attempt). IsLed a u) is leads)

  noted : (note : Note) → cell.0 < size → lookup (nat_eq cell.0) t.now.writes ≡ None → note_of t.notes cell.0 ≡ Some note → IsLed (moved t (Takes (Get cell))) u
      → IsTold lawful size (Get cell) t u
  noted note within away is leads =
      let unwritten : writes_to t.now.writes cell.0 ≡ false = writes_to-lookup t.now.writes cell.0 ∙ ap is_some away in
      let (named, (k, one, inside, here, same)) = found-noted t.notes cell.0 note is in
      answers note.value (inr (k, one, inside, here, ap (λ (a : Addr). a.0) same.0 ∙ named))
      (λ heap long agrees. over_other heap t.now.writes cell.0 unwritten
      ∙ (ap (λ place. get_or heap place 0) (sym named) ∙ (found_note (λ (each : Note). get_or heap each.addr.0 0 ≡ each.value) t.notes cell.0 note agrees is).0))
      (get-noted t cell note waits.stands going away is) leads

  buffered : (value : ℕ) → cell.0 < size → lookup (nat_eq cell.0) t.now.writes ≡ Some value → IsLed (moved t (Takes (Get cell))) u → IsTold lawful size (Get cell) t u
  buffered value within is leads =
      answers value (inl (writes_to-lookup t.now.writes cell.0 ∙ ap is_some is))
      (λ heap long agrees. over_found heap t.now.writes cell.0 value (subst (λ n. cell.0 < n) (sym long) within) is)
      (get-written t cell value waits.stands going is) leads

  -- ---- a read

  read_unwritten : cell.0 < size → lookup (nat_eq cell.0) t.now.writes ≡ None → (found : Option Note) → note_of t.notes cell.0 ≡ found → (moved t (Takes (Get cell))).due ≡ []
      → IsLed (moved t (Takes (Get cell))) u → Rests u → IsTold lawful size (Get cell) t u
  read_unwritten within away (Some note) is nothing leads rests = noted note within away is leads
  read_unwritten within away None is nothing leads rests = first_read away is nothing leads rests

  read_so : cell.0 < size → (found : Option ℕ) → lookup (nat_eq cell.0) t.now.writes ≡ found → (moved t (Takes (Get cell))).due ≡ [] → IsLed (moved t (Takes (Get cell))) u → Rests u
      → IsTold lawful size (Get cell) t u
  read_so within (Some value) is nothing leads rests = buffered value within is leads
  read_so within None is nothing leads rests = read_unwritten within is (note_of t.notes cell.0) refl nothing leads rests

  -- A read that was taken tells a value, or is refused.
  pub get_told : cell.0 < size → (moved t (Takes (Get cell))).due ≡ [] → IsLed (moved t (Takes (Get cell))) u → Rests u → IsTold lawful size (Get cell) t u
  get_told within nothing leads rests = read_so within (lookup (nat_eq cell.0) t.now.writes) refl nothing leads rests
