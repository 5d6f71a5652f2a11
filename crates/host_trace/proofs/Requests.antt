-- What a request leaves of where an attempt stands among what its script asks: where it may answer then, what follows may be asked of it.
use Rattle.std.proofs.Common.{◌≡◌, ◌<◌, ◌^◌, inl, ℕ, suc, Bool, true, false, nat_eq, nat_lt, if◌then◌else◌, List, [], ◌∷◌, ◌++◌, length, drop, Option, Some, None, IsSome, ap, sym, refl, subst, arith, length-append, length-drop}
use Rattle.std.proofs.lemmas.Bool.Decides.{nat_tests}
use Rattle.std.specs.Map.{lookup}
use Rattle.stm_model.specs.After.{at, note_of, release_level_on, roll_on, rolled}
use Rattle.stm_model.specs.Attempt.{Attempt, Stage, Write, AcquireMeta, Close, Late, Prepare, ReadMeta, Ready, Stopped}
use Rattle.stm_model.specs.CellsState.{Book, outer}
use Rattle.stm_model.specs.Heap.{put, writes_to}
use Rattle.stm_model.specs.Moves.{AwaitsAsk, AwaitsAskAt, EndsLate, MayAsk, Takes, asked_at, asked_going, conclude, late_over_at, moved, read_buffered, read_noted, turn_to, undo_level}
use Rattle.stm_model.specs.Refusing.{IsOfBody, deepest}
use Rattle.stm_model.specs.declared.access.Ask.{Ask}
use Rattle.stm_model.specs.declared.access.Ask.TheVariants.{Abandon, Enter, Finish, Get, Hook, Keep, Later, Set, Undo}
use Rattle.stm_model.specs.declared.cause.Cause.{Cause}
use Rattle.stm_model.specs.declared.cause.Cause.TheVariants.{Retry, User}
use Rattle.stm_model.specs.declared.ending.Ending.TheVariants.{Rolled}
use Rattle.stm_model.specs.declared.note.Note.{Note}
use Rattle.ledger_model.specs.Allowed.{AllowedAfter, Footing, GivesUp, IsAllowed, IsAllowedAsk, TurnsTo, footing_after}
use Rattle.ledger_model.specs.Talk.{Talk, Asks, Ends}
use Rattle.ledger_model.specs.Traced.{answer_at}
use Rattle.world_run.specs.Simulation.{IsAskable, WaitsLate}
use Rattle.host_trace.specs.Footings.{Expects, Hears, footing_at, footing_in, footing_of, laters_in, rank}

-- ---- who waits

waits_at : (stage : Stage) → IsSome (answer_at stage) → AwaitsAskAt stage
unfolding AwaitsAskAt
waits_at (Ready told) some = tt
waits_at (Late token) some = tt
waits_at stage some = cc

pub awaits : (size : ℕ) (t : Attempt) (talk : Talk) → Hears size t talk → AwaitsAsk t
awaits size t talk hears = record { stands = waits_at t.stage hears.waits; nothing_due = hears.nothing_due }

-- ---- what may be asked

of_body : (cause : Cause) (rest : Talk) → GivesUp cause rest → IsOfBody cause
of_body (User code) rest gives = tt
of_body Retry rest gives = tt
of_body cause rest gives = absurd gives

laters_length : (books : List Book) → length (laters_in books) ≡ length books
laters_length [] = refl
laters_length (book ∷ books) = ap suc (laters_length books)

may_ask : (size : ℕ) (t : Attempt) (ask : Ask) (rest : ℕ → Talk) → IsAllowedAsk size (footing_of t) ask
    → ((answer : ℕ) → answer < 2 ^ 64 → AllowedAfter ask (footing_of t) (λ g. IsAllowed size g (rest answer)) (rest answer)) → MayAsk size t ask
unfolding MayAsk
may_ask size t (Get cell) rest may after = may
may_ask size t (Set cell value) rest may after = may
may_ask size t Enter rest may after = tt
may_ask size t Keep rest may after = let same = laters_length t.saved in omega (arith, same, may)
may_ask size t Undo rest may after = let same = laters_length t.saved in omega (arith, same, may)
may_ask size t (Hook phase token) rest may after = tt
may_ask size t (Later token) rest may after = tt
may_ask size t Finish rest may after = may.0
may_ask size t (Abandon cause) rest may after = inl (of_body cause (rest 0) (after 0 (omega arith)))

pub askable : (size : ℕ) (t : Attempt) (ask : Ask) (rest : ℕ → Talk) → Hears size t (Asks ask rest) → IsAskable size t ask
askable size t ask rest hears = record { waits = awaits size t (Asks ask rest) hears; able = may_ask size t ask rest hears.allowed.0 hears.allowed.1 }

pub ends_late : (size : ℕ) (t : Attempt) (rest : Talk) → Hears size t (Ends rest) → WaitsLate t
ends_late size t rest hears = record { waits = awaits size t (Ends rest) hears; late = hears.allowed.0 }

-- ---- what follows

module _ (size : ℕ) (rest : ℕ → Talk) where
  -- what follows any answer may be asked on this footing
  abbrev May : Footing → Type 0
  May f = (answer : ℕ) → answer < 2 ^ 64 → IsAllowed size f (rest answer)

  if_expects : (b : Bool) (t u : Attempt) → Expects size t rest → Expects size u rest → Expects size (if b then t else u) rest
  if_expects true t u first second = first
  if_expects false t u first second = second

  held : (t : Attempt) (stage : Stage) → May (footing_at (at t stage) stage) → Expects size (at t stage) rest
  held t stage may = record { allowed = λ two. may }

  pub shut : (t : Attempt) (stage : Stage) → rank stage < 2 → Expects size (at t stage) rest
  shut t stage less = record { allowed = λ two. absurd (omega (arith, two, less)) }

  -- ---- it ends

  roll_expects : (t : Attempt) (behind : List Write) → Expects size (roll_on t behind) rest
  unfolding rank
  roll_expects t [] = shut t Close (omega arith)
  roll_expects t (write ∷ behind) = shut t _ (omega arith)

  conclude_expects : (t : Attempt) (writes : List Write) → Expects size (conclude t writes) rest
  unfolding rank
  conclude_expects t [] = shut (record t { ending = _; due = _ }) Close (omega arith)
  conclude_expects t (write ∷ writes) = shut t Prepare (omega arith)

  some_left : (turn : ℕ) (laters : List ℕ) (token : ℕ) (tokens : List ℕ) → drop turn laters ≡ token ∷ tokens → nat_lt turn (length laters) ≡ true
  some_left turn laters token tokens is =
      let long : length (drop turn laters) ≡ suc (length tokens) = ap length is in
      grind (arith, nat_tests, length-drop turn laters)

  -- The next before-commit body has its turn, or the end comes.
  turn_expects : (t : Attempt) (tokens : List ℕ) → drop t.turn t.now.laters ≡ tokens
      → ((answer : ℕ) → answer < 2 ^ 64 → TurnsTo (footing_of t) (λ g. IsAllowed size g (rest answer)) (rest answer)) → Expects size (turn_to t tokens) rest
  unfolding footing_at
  turn_expects t [] is turns = conclude_expects t t.now.writes
  turn_expects t (token ∷ tokens) is turns = held (record t { turn = suc t.turn }) (Late token) (λ answer word. rw (some_left t.turn t.now.laters token tokens is) at (turns answer word))

  -- ---- it goes on

  noted_expects : (t : Attempt) (cell : ℕ) (note : Option Note) → May (footing_of t) → Expects size (read_noted t cell note) rest
  unfolding footing_at
  noted_expects t cell None may = held t (ReadMeta cell _) may
  noted_expects t cell (Some note) may = held t (Ready (Some note.value)) may

  buffered_expects : (t : Attempt) (cell : ℕ) (value : Option ℕ) → May (footing_of t) → Expects size (read_buffered t cell value) rest
  unfolding footing_at
  buffered_expects t cell None may = noted_expects t cell (note_of t.notes cell) may
  buffered_expects t cell (Some value) may = held t (Ready (Some value)) may

  undo_expects : (t : Attempt) (levels : List Book) → t.saved ≡ levels → 0 < length levels → May (footing_after Undo (footing_of t)) → Expects size (undo_level t levels) rest
  unfolding footing_at rank
  undo_expects t [] is some may = absurd (omega (arith, some))
  undo_expects t (former ∷ books) is some may = releases former.writes (drop (length former.writes) t.now.writes)
    where
      there : footing_after Undo (footing_in t.now (former ∷ books) t.turn) ≡ footing_in (record former { runs = t.now.runs }) books t.turn
      there = refl

      then_may : May (footing_in (record former { runs = t.now.runs }) books t.turn)
      then_may = subst (λ (levels : List Book). May (footing_after Undo (footing_in t.now levels t.turn))) is may

      releases : (kept behind : List Write) → Expects size (release_level_on t kept behind) rest
      releases kept [] = record { allowed = λ two. rw is then_may }
      releases kept (write ∷ behind) = record { allowed = λ two. rw is then_may }

  going_expects : (t : Attempt) (ask : Ask) → IsAllowedAsk size (footing_of t) ask
      → ((answer : ℕ) → answer < 2 ^ 64 → AllowedAfter ask (footing_of t) (λ g. IsAllowed size g (rest answer)) (rest answer)) → Expects size (asked_going t ask) rest
  unfolding asked_going footing_at rank
  going_expects t (Get cell) may after = buffered_expects t cell.0 (lookup (nat_eq cell.0) t.now.writes) after
  going_expects t (Set cell value) may after =
      if_expects (writes_to t.now.writes cell.0) _ _ (held (record t { now = record t.now { writes = put t.now.writes cell.0 value } }) (Ready None) after) (held t (AcquireMeta cell.0 value _ false) after)
  going_expects t Enter may after =
      if_expects (nat_lt (length t.saved) deepest) _ _ (held (record t { saved = t.now ∷ t.saved }) (Ready None) after) (shut t (Stopped _) (omega arith))
  going_expects t Keep may after = held (record t { saved = outer t.saved }) (Ready None) (subst (λ (saved : List ℕ). May (record (footing_of t) { saved = saved })) (outer_laters t.saved) after)
    where
      outer_laters : (books : List Book) → drop 1 (laters_in books) ≡ laters_in (outer books)
      outer_laters [] = refl
      outer_laters (book ∷ books) = refl
  going_expects t Undo may after = undo_expects t t.saved refl (let same = laters_length t.saved in omega (arith, same, may)) after
  going_expects t (Hook phase token) may after = held (record t { now = record t.now { hooks = t.now.hooks ++ (phase, token) ∷ [] } }) (Ready None) after
  going_expects t (Later token) may after =
      held (record t { now = record t.now { laters = t.now.laters ++ token ∷ [] } }) (Ready None) (subst (λ (registered : ℕ). May (record (footing_of t) { registered = registered })) (sym (length_one t.now.laters token)) after)
    where
      length_one : (laters : List ℕ) (token : ℕ) → length (laters ++ token ∷ []) ≡ suc (length laters)
      length_one laters token = omega (arith, length-append laters (token ∷ []))
  going_expects t Finish may after = turn_expects t (drop t.turn t.now.laters) refl after
  going_expects t (Abandon cause) may after = roll_expects (record t { ending = Some (Rolled cause t.prefix) }) t.now.writes

  asked_expects : (t : Attempt) (stage : Stage) (ask : Ask) → IsSome (answer_at stage) → IsAllowedAsk size (footing_of t) ask
      → ((answer : ℕ) → answer < 2 ^ 64 → AllowedAfter ask (footing_of t) (λ g. IsAllowed size g (rest answer)) (rest answer)) → Expects size (asked_at t stage ask) rest
  unfolding asked_at
  asked_expects t (Ready told) ask some may after = going_expects t ask may after
  asked_expects t (Late token) ask some may after = going_expects t ask may after
  asked_expects t stage ask some may after = cc

-- after a request
pub takes_expects : (size : ℕ) (t : Attempt) (ask : Ask) (rest : ℕ → Talk) → Hears size t (Asks ask rest) → Expects size (moved t (Takes ask)) rest
unfolding moved
takes_expects size t ask rest hears = asked_expects size rest t t.stage ask hears.waits hears.allowed.0 hears.allowed.1

late_expects : (size : ℕ) (rest : Talk) (t : Attempt) (stage : Stage) → IsSome (answer_at stage) → TurnsTo (footing_of t) (λ g. IsAllowed size g rest) rest → Expects size (late_over_at t stage) (λ answer. rest)
unfolding late_over_at
late_expects size rest t (Ready told) some turns = turn_expects size (λ answer. rest) t (drop t.turn t.now.laters) refl (λ answer word. turns)
late_expects size rest t (Late token) some turns = turn_expects size (λ answer. rest) t (drop t.turn t.now.laters) refl (λ answer word. turns)
late_expects size rest t stage some turns = cc

-- after a before-commit body
pub ends_expects : (size : ℕ) (t : Attempt) (rest : Talk) → Hears size t (Ends rest) → Expects size (moved t EndsLate) (λ answer. rest)
unfolding moved
ends_expects size t rest hears = late_expects size rest t t.stage hears.waits hears.allowed.2

-- ---- what has run

module _ (t : Attempt) where
  if_runs : (b : Bool) (u v : Attempt) → u.now.runs ≡ t.now.runs → v.now.runs ≡ t.now.runs → (if b then u else v).now.runs ≡ t.now.runs
  if_runs true u v first second = first
  if_runs false u v first second = second

  buffered_runs : (cell : ℕ) (value : Option ℕ) → (read_buffered t cell value).now.runs ≡ t.now.runs
  buffered_runs cell (Some value) = refl
  buffered_runs cell None = noted (note_of t.notes cell)
    where
      noted : (note : Option Note) → (read_noted t cell note).now.runs ≡ t.now.runs
      noted None = refl
      noted (Some note) = refl

  undo_runs : (levels : List Book) → t.saved ≡ levels → (undo_level t levels).now.runs ≡ t.now.runs
  undo_runs [] is = refl
  undo_runs (former ∷ books) is = releases former.writes (drop (length former.writes) t.now.writes)
    where
      releases : (kept behind : List Write) → (release_level_on t kept behind).now.runs ≡ t.now.runs
      releases kept [] = rw is refl
      releases kept (write ∷ behind) = refl

  turn_runs : (tokens : List ℕ) → (turn_to t tokens).now.runs ≡ t.now.runs
  turn_runs [] = concludes t.now.writes
    where
      concludes : (writes : List Write) → (conclude t writes).now.runs ≡ t.now.runs
      concludes [] = refl
      concludes (write ∷ writes) = refl
  turn_runs (token ∷ tokens) = refl

  pub rolled_runs : (cause : Cause) → (rolled t cause).now.runs ≡ t.now.runs
  rolled_runs cause = rolls t.now.writes
    where
      rolls : (writes : List Write) → (roll_on (record t { ending = Some (Rolled cause t.prefix) }) writes).now.runs ≡ t.now.runs
      rolls [] = refl
      rolls (write ∷ writes) = refl

  going_runs : (ask : Ask) → (asked_going t ask).now.runs ≡ t.now.runs
  unfolding asked_going
  going_runs (Get cell) = buffered_runs cell.0 (lookup (nat_eq cell.0) t.now.writes)
  going_runs (Set cell value) = if_runs (writes_to t.now.writes cell.0) _ _ refl refl
  going_runs Enter = if_runs (nat_lt (length t.saved) deepest) _ _ refl refl
  going_runs Keep = refl
  going_runs Undo = undo_runs t.saved refl
  going_runs (Hook phase token) = refl
  going_runs (Later token) = refl
  going_runs Finish = turn_runs (drop t.turn t.now.laters)
  going_runs (Abandon cause) = rolled_runs cause

  asked_runs : (stage : Stage) (ask : Ask) → IsSome (answer_at stage) → (asked_at t stage ask).now.runs ≡ t.now.runs
  unfolding asked_at
  asked_runs (Ready told) ask some = going_runs ask
  asked_runs (Late token) ask some = going_runs ask
  asked_runs stage ask some = cc

  late_runs : (stage : Stage) → IsSome (answer_at stage) → (late_over_at t stage).now.runs ≡ t.now.runs
  unfolding late_over_at
  late_runs (Ready told) some = turn_runs (drop t.turn t.now.laters)
  late_runs (Late token) some = turn_runs (drop t.turn t.now.laters)
  late_runs stage some = cc

  -- A request runs no handler at once, nor does the end of a before-commit body.
  pub takes_runs : (ask : Ask) → IsSome (answer_at t.stage) → (moved t (Takes ask)).now.runs ≡ t.now.runs
  unfolding moved
  takes_runs ask some = asked_runs t.stage ask some

  pub ends_runs : IsSome (answer_at t.stage) → (moved t EndsLate).now.runs ≡ t.now.runs
  unfolding moved
  ends_runs some = late_runs t.stage some
