-- An attempt takes what its script asks.
use Rattle.std.proofs.Common.{◌≡◌, ℕ, suc, ◌^◌, ◌<◌, inl, Bool, true, false, nat_eq, nat_lt, if◌then◌else◌, MatchBool, IfSome, is_some, List, [], ◌∷◌, ◌++◌, length, get_or, drop, Option, Some, None, refl, sym, ap, subst, ◌∙◌, arith}
use Rattle.std.proofs.lemmas.Bool.{le-ltb, lt-ltb, ltb-false}
use Rattle.std.proofs.lemmas.List.{length-drop}
use Rattle.std.proofs.lemmas.Map.Views.{IfSome-lookup_from_All}
use Rattle.std.specs.Map.{lookup}
use Rattle.meta_word.specs.Policy.{looks}
use Rattle.stm_model.specs.declared.access.Ask.{Ask}
use Rattle.stm_model.specs.declared.access.Ask.TheVariants.{Abandon, Enter, Finish, Get, Hook, Keep, Later, Set, Undo}
use Rattle.stm_model.specs.declared.cause.Addr.{Addr}
use Rattle.stm_model.specs.declared.cause.Cause.{Cause}
use Rattle.stm_model.specs.declared.cause.Cause.TheVariants.{Retry, User, TooDeep}
use Rattle.stm_model.specs.declared.cause.HookPhase.{HookPhase}
use Rattle.stm_model.specs.declared.ending.Ending.TheVariants.{Rolled}
use Rattle.stm_model.specs.declared.note.Note.{Note}
use Rattle.stm_model.specs.After.{at, done, note_of, rolled, stopped, answer_with}
use Rattle.stm_model.specs.Attempt.{AcquireMeta, Attempt, Due, Late, ReadMeta, Ready, Stage, Stopped, cause_at}
use Rattle.stm_model.specs.CellsState.{Book, outer, restored}
use Rattle.stm_model.specs.Heap.{Agrees, over, put, writes_to}
use Rattle.stm_model.specs.Moves.{AwaitsAskAt, EndsLate, May, MayAsk, Takes, asked_at, asked_going, go_on, late_over_at, moved, read_buffered, read_noted, turn_to, undo_level}
use Rattle.stm_model.specs.Refusing.{IsOfBody, deepest}
use Rattle.stm_model.proofs.HandlerRunsLemmas.{ends-concluded, ends-rolled}
use Rattle.stm_model.proofs.HeapLemmas.{over_found, over_other, writes_to-lookup}
use Rattle.opacity.proofs.Shown.{found_note}
use Rattle.ledger_model.specs.declared.job.Contents.{Contents}
use Rattle.ledger_model.specs.declared.script.Statement.{Statement}
use Rattle.ledger_model.specs.Allowed.{Footing, GivesUp, IsAllowed, TurnsTo}
use Rattle.ledger_model.specs.Run.{End, Kept, Failed, Retried}
use Rattle.ledger_model.specs.Talk.{Talk, Over, Asks, Ends}
use Rattle.ledger_model.specs.Traced.{Progress, asked}
use Rattle.trace_laws.proofs.Moves.{Listens}
use Rattle.trace_laws.proofs.Told.{Closes, ClosesSo, Comes, GoesOn, GoesOnHere, IsTold, LevelsMatch, RollsBackSo, ToldAt, footing_of}
use Rattle.trace_laws.proofs.Closings.{roll_told}
use Rattle.trace_laws.proofs.Concluding.{closes, concluded}
use Rattle.trace_laws.proofs.Requests.{arrives, entered, from_here, hooked, kept, registered, to_here, told, undone, written}
use Rattle.trace_laws.proofs.Releases.{releases_level}
use Rattle.trace_laws.proofs.Levels.{length-laters_of}

-- ---- what an attempt makes of an ask

going_asked : (t : Attempt) (stage : Stage) (ask : Ask) → AwaitsAskAt stage → cause_at stage ≡ None → asked_at t stage ask ≡ asked_going t ask
unfolding AwaitsAskAt cause_at asked_at
going_asked t (Ready answer) ask waits going = refl
going_asked t (Late token) ask waits going = refl
going_asked t (Stopped cause) ask waits going = cc going
going_asked t _ ask waits going = absurd waits

takes_going : (t : Attempt) (ask : Ask) → Listens t → moved t (Takes ask) ≡ asked_going t ask
unfolding moved
takes_going t ask listens = going_asked t t.stage ask listens.waits.stands listens.going

going_late : (t : Attempt) (stage : Stage) → AwaitsAskAt stage → cause_at stage ≡ None → late_over_at t stage ≡ go_on t
unfolding AwaitsAskAt cause_at late_over_at
going_late t (Ready answer) waits going = refl
going_late t (Late token) waits going = refl
going_late t (Stopped cause) waits going = cc going
going_late t _ waits going = absurd waits

late_going : (t : Attempt) → Listens t → moved t EndsLate ≡ go_on t
unfolding moved
late_going t listens = going_late t t.stage listens.waits.stands listens.going

-- ---- before-commit bodies

none_left : (turn : ℕ) (laters : List ℕ) → drop turn laters ≡ [] → nat_lt turn (length laters) ≡ false
none_left turn laters none = let few = length-drop turn laters in let here = ap length none in le-ltb turn (length laters) (omega (arith, few, here))

some_left : (turn : ℕ) (laters : List ℕ) (token : ℕ) (tokens : List ℕ) → drop turn laters ≡ token ∷ tokens → nat_lt turn (length laters) ≡ true
some_left turn laters token tokens some = let few = length-drop turn laters in let here = ap length some in lt-ltb turn (length laters) (omega (arith, few, here))

module _ (base : Contents) (block : List Statement) (t : Attempt) (listens : Listens t) where
  -- ---- the next before-commit body, or the end

  module _ (g : Progress) (comes : Comes base block t.notes (g.rest 0) t.now t.saved g) (levels : LevelsMatch t.saved g)
      (turns : TurnsTo (footing_of t.now t.saved t.turn) (λ (f : Footing). IsAllowed (length base.refs) f (g.rest 0)) (g.rest 0)) where
    next_body : (tokens : List ℕ) → drop t.turn t.now.laters ≡ tokens → IsTold base block (turn_to t tokens) g
    unfolding ToldAt
    next_body [] none =
        let over : g.rest 0 ≡ Over Kept =
        subst (λ (b : Bool). MatchBool b (IsAllowed (length base.refs) (footing_of t.now t.saved (suc t.turn)) (g.rest 0)) (g.rest 0 ≡ Over Kept)) (none_left t.turn t.now.laters none) turns in
        concluded base block t g t.now.writes refl (ends-concluded t listens.waits.nothing_due listens.unprepared)
        (subst (λ (this : Talk). Comes base block t.notes this t.now t.saved g) over comes)
    next_body (token ∷ tokens) some =
        let next : Attempt = at (record t { turn = suc t.turn }) (Late token) in
        to_here base block next (g.rest 0) g listens.waits.nothing_due (record {
          comes = comes;
          allowed = subst (λ (b : Bool). MatchBool b (IsAllowed (length base.refs) (footing_of t.now t.saved (suc t.turn)) (g.rest 0)) (g.rest 0 ≡ Over Kept)) (some_left t.turn t.now.laters token tokens some) turns;
          levels = levels;
        })

    pub goes_on : IsTold base block (go_on t) g
    goes_on = next_body (drop t.turn t.now.laters) refl

  -- ---- a request

  module _ (g : Progress) (rest : ℕ → Talk) where
    -- the script goes on, with what the request leaves
    abbrev Onward : Ask → Attempt → Type 0
    Onward ask next = IsTold base block next (asked ask rest g)

    abbrev Asking : Ask → Type 0
    Asking ask = GoesOn base block t (Asks ask rest) t.now t.saved g

    abbrev none_due : t.due ≡ []
    none_due = listens.waits.nothing_due

    -- ---- a read

    answered : (cell : Addr) (value : ℕ) → value < 2 ^ 64 → ((heap : List ℕ) → length heap ≡ length base.refs → Agrees t.notes heap → get_or (over heap t.now.writes) cell.0 0 ≡ value)
        → Asking (Get cell) → Onward (Get cell) (answer_with t value)
    unfolding ToldAt
    answered cell value word holds goes =
        arrives base block t (answer_with t value) (rest value) (asked (Get cell) rest g) rest none_due refl refl (told base block t t.now t.saved g cell rest value word holds goes)

    noted : (cell : Addr) → Asking (Get cell) → lookup (nat_eq cell.0) t.now.writes ≡ None → (found : Option Note) → note_of t.notes cell.0 ≡ found → Onward (Get cell) (read_noted t cell.0 found)
    unfolding ToldAt
    noted cell goes away (Some note) is =
        let known : (note.value < 2 ^ 64) × (note.addr.0 ≡ cell.0) = found_note (λ (each : Note). each.value < 2 ^ 64) t.notes cell.0 note listens.notes is in
        let unwritten : writes_to t.now.writes cell.0 ≡ false = writes_to-lookup t.now.writes cell.0 ∙ ap (λ found. is_some found) away in
        let holds : (heap : List ℕ) → length heap ≡ length base.refs → Agrees t.notes heap → get_or (over heap t.now.writes) cell.0 0 ≡ note.value = λ heap long agrees.
        let here = found_note (λ (each : Note). get_or heap each.addr.0 0 ≡ each.value) t.notes cell.0 note agrees is in
        over_other heap t.now.writes cell.0 unwritten ∙ (ap (λ place. get_or heap place 0) (sym here.1) ∙ here.0) in
        answered cell note.value known.0 holds goes
    noted cell goes away None is =
        arrives base block t (at t (ReadMeta cell.0 (looks t.settings.policy))) (Asks (Get cell) rest) g rest none_due refl refl goes

    buffered : (cell : Addr) → Asking (Get cell) → (found : Option ℕ) → lookup (nat_eq cell.0) t.now.writes ≡ found → Onward (Get cell) (read_buffered t cell.0 found)
    buffered cell goes (Some value) is =
        let word : value < 2 ^ 64 = subst (λ (found : Option ℕ). IfSome found (λ n. n < 2 ^ 64)) is (IfSome-lookup_from_All (λ n. n < 2 ^ 64) (nat_eq cell.0) t.now.writes listens.writes) in
        answered cell value word (λ heap long agrees. over_found heap t.now.writes cell.0 value (subst (λ n. cell.0 < n) (sym long) goes.allowed.0) is) goes
    buffered cell goes None is = noted cell goes is (note_of t.notes cell.0) refl

    -- ---- a write

    put_or_acquired : (cell : Addr) (value : ℕ) → Asking (Set cell value) → (here : Bool)
        → Onward (Set cell value) (if here then done (record t { now = record t.now { writes = put t.now.writes cell.0 value } }) else at t (AcquireMeta cell.0 value (looks t.settings.policy) false))
    unfolding ToldAt
    put_or_acquired cell value goes true =
        arrives base block t (done (record t { now = record t.now { writes = put t.now.writes cell.0 value } })) (rest 0) (asked (Set cell value) rest g) rest none_due refl refl
        (written base block t t.now t.saved g cell value rest goes)
    put_or_acquired cell value goes false =
        arrives base block t (at t (AcquireMeta cell.0 value (looks t.settings.policy) false)) (Asks (Set cell value) rest) g rest none_due refl refl goes

    -- ---- levels

    opened : Asking Enter → (room : Bool) → nat_lt (length t.saved) deepest ≡ room → Onward Enter (if room then done (record t { saved = t.now ∷ t.saved }) else stopped t (TooDeep deepest))
    unfolding ToldAt
    opened goes true is =
        arrives base block t (done (record t { saved = t.now ∷ t.saved })) (rest 0) (asked Enter rest g) rest none_due refl refl (entered base block t t.now t.saved g rest goes)
    opened goes false is =
        let open_levels = length-laters_of t.saved in
        let few = goes.allowed.0 in
        let full = ltb-false (length t.saved) deepest is in
        absurd (omega (arith, open_levels, few, full))

    closed : Asking Keep → Onward Keep (done (record t { saved = outer t.saved }))
    unfolding ToldAt
    closed goes =
        arrives base block t (done (record t { saved = outer t.saved })) (rest 0) (asked Keep rest g) rest none_due refl refl (kept base block t t.now t.saved g rest goes)

    level_undone : GoesOn base block t (rest 0) (restored t.saved t.now) (outer t.saved) (asked Undo rest g) → (saved : List Book) → 0 < length saved → Onward Undo (undo_level t saved)
    level_undone goes [] some = absurd (omega (arith, some))
    level_undone goes (former ∷ books) some =
        subst (λ (due : List Due). Onward Undo (undo_level (record t { due = due }) (former ∷ books))) (sym none_due)
        (releases_level base block (asked Undo rest g) t false 0 former.writes (drop (length former.writes) t.now.writes) goes)

    -- ---- registrations

    with_hook : (phase : HookPhase) (token : ℕ) → Asking (Hook phase token) → Onward (Hook phase token) (done (record t { now = record t.now { hooks = t.now.hooks ++ (phase, token) ∷ [] } }))
    unfolding ToldAt
    with_hook phase token goes =
        arrives base block t (done (record t { now = record t.now { hooks = t.now.hooks ++ (phase, token) ∷ [] } })) (rest 0) (asked (Hook phase token) rest g) rest none_due refl refl
        (hooked base block t t.now t.saved g phase token rest goes)

    with_later : (token : ℕ) → Asking (Later token) → Onward (Later token) (done (record t { now = record t.now { laters = t.now.laters ++ token ∷ [] } }))
    unfolding ToldAt
    with_later token goes =
        arrives base block t (done (record t { now = record t.now { laters = t.now.laters ++ token ∷ [] } })) (rest 0) (asked (Later token) rest g) rest none_due refl refl
        (registered base block t t.now t.saved g token rest goes)

    -- ---- it gives up

    abbrev ending : Cause → Attempt
    ending cause = record t { ending = Some (Rolled cause t.prefix) }

    ends_so : (cause : Cause) (end : End) → rest 0 ≡ Over end → Asking (Abandon cause) → Closes base block (rolled t cause) false end (asked (Abandon cause) rest g)
    ends_so cause end over goes =
        closes base block t (asked (Abandon cause) rest g) cause end t.now.writes (ends-rolled t cause listens.waits.nothing_due listens.unprepared)
        (subst (λ (this : Talk). Comes base block t.notes this t.now t.saved g) over goes.comes)

    gives_up : (cause : Cause) → GivesUp cause (rest 0) → Asking (Abandon cause) → Onward (Abandon cause) (rolled t cause)
    unfolding ClosesSo RollsBackSo
    gives_up (User code) over goes = roll_told base block (asked (Abandon (User code)) rest g) (ending (User code)) t.now.writes (ends_so (User code) (Failed code) over goes)
    gives_up Retry over goes = roll_told base block (asked (Abandon Retry) rest g) (ending Retry) t.now.writes (ends_so Retry Retried over goes)
    gives_up _ over goes = absurd over

    -- ---- all requests

    takes_ask : (ask : Ask) → Asking ask → Onward ask (asked_going t ask)
    unfolding asked_going
    takes_ask (Get cell) goes = buffered cell goes (lookup (nat_eq cell.0) t.now.writes) refl
    takes_ask (Set cell value) goes = put_or_acquired cell value goes (writes_to t.now.writes cell.0)
    takes_ask Enter goes = opened goes (nat_lt (length t.saved) deepest) refl
    takes_ask Keep goes = closed goes
    takes_ask Undo goes =
        let some : 0 < length t.saved = subst (λ n. 0 < n) (length-laters_of t.saved) goes.allowed.0 in
        level_undone (undone base block t t.now t.saved g rest some goes) t.saved some
    takes_ask (Hook phase token) goes = with_hook phase token goes
    takes_ask (Later token) goes = with_later token goes
    takes_ask Finish goes =
        goes_on (asked Finish rest g) goes.comes (record { as_many = goes.levels.as_many; nest = goes.levels.nest }) (goes.allowed.1 0 (omega arith))
    takes_ask (Abandon cause) goes = gives_up cause (goes.allowed.1 0 (omega arith)) goes

    pub takes : (ask : Ask) → GoesOnHere base block t (Asks ask rest) g → Onward ask (moved t (Takes ask))
    takes ask goes =
        subst (λ (next : Attempt). IsTold base block next (asked ask rest g)) (sym (takes_going t ask listens))
        (takes_ask ask (from_here base block t (Asks ask rest) g listens.waits.nothing_due goes))

  -- ---- a before-commit body ends

  pub ends_late : (rest : Talk) (g : Progress) → GoesOnHere base block t (Ends rest) g → IsTold base block (moved t EndsLate) (record g { rest = λ answer. rest })
  ends_late rest g here =
      let goes : GoesOn base block t (Ends rest) t.now t.saved g = from_here base block t (Ends rest) g listens.waits.nothing_due here in
      subst (λ (next : Attempt). IsTold base block next (record g { rest = λ answer. rest })) (sym (late_going t listens))
      (goes_on (record g { rest = λ answer. rest }) goes.comes (record { as_many = goes.levels.as_many; nest = goes.levels.nest }) goes.allowed.2)

  -- ---- what may come

  of_body : (cause : Cause) (rest : Talk) → GivesUp cause rest → IsOfBody cause
  of_body Retry rest gives = tt
  of_body (User code) rest gives = tt
  of_body _ rest gives = absurd gives

  may_ask : (ask : Ask) (rest : ℕ → Talk) → IsAllowed (length base.refs) (footing_of t.now t.saved t.turn) (Asks ask rest) → MayAsk (length base.refs) t ask
  unfolding MayAsk
  may_ask (Get cell) rest allowed = allowed.0
  may_ask (Set cell value) rest allowed = allowed.0
  may_ask Enter rest allowed = tt
  may_ask Keep rest allowed = subst (λ n. 0 < n) (length-laters_of t.saved) allowed.0
  may_ask Undo rest allowed = subst (λ n. 0 < n) (length-laters_of t.saved) allowed.0
  may_ask (Hook phase token) rest allowed = tt
  may_ask (Later token) rest allowed = tt
  may_ask Finish rest allowed = allowed.0.0
  may_ask (Abandon cause) rest allowed = inl (of_body cause (rest 0) (allowed.1 0 (omega arith)))

  pub may_take : (limit : ℕ) (ask : Ask) (rest : ℕ → Talk) (g : Progress) → GoesOnHere base block t (Asks ask rest) g → May (length base.refs) limit t (Takes ask)
  unfolding May
  may_take limit ask rest g goes = (listens.waits, may_ask ask rest goes.allowed)

  pub may_end_late : (limit : ℕ) (rest : Talk) (g : Progress) → GoesOnHere base block t (Ends rest) g → May (length base.refs) limit t EndsLate
  unfolding May
  may_end_late limit rest g goes = (listens.waits, goes.allowed.0)
