-- What an attempt that was made concludes with.
use Rattle.std.proofs.Common.{◌≡◌, ◌≢◌, ℕ, suc, ◌-◌, ◌<◌, ◌≤◌, ◌⊎◌, Bool, false, List, [], ◌++◌, length, Option, Some, refl, sym, ap, subst, ◌∙◌, arith}
use Rattle.meta_word.specs.declared.status.Phase.TheVariants.{Active}
use Rattle.ref_table.specs.Calls.{HasNoneOf}
use Rattle.ref_table.specs.Seats.{SeatState, StmState, terms_in}
use Rattle.stm_model.specs.After.{rolled}
use Rattle.stm_model.specs.Attempt.{Announce, Attempt, Ended, stamp_in}
use Rattle.stm_model.specs.CellsState.{Book}
use Rattle.stm_model.specs.HandlerRuns.{ended_runs, prepares_by}
use Rattle.stm_model.specs.Handlers.{Handlers, failing}
use Rattle.stm_model.specs.History.{state}
use Rattle.stm_model.specs.Moves.{AwaitsAsk, conclude}
use Rattle.stm_model.specs.Owes.{IsPossible}
use Rattle.stm_model.specs.Refusing.{IsOfBody, IsOfCells}
use Rattle.stm_model.specs.declared.cause.Cause.{Cause}
use Rattle.stm_model.specs.declared.ending.Ending.{Ending}
use Rattle.stm_model.specs.declared.ending.Ending.TheVariants.{Committed, Read, Rolled}
use Rattle.stm_model.specs.declared.note.Note.{Note}
use Rattle.txn_drive.specs.Begun.{IsBegun}
use Rattle.txn_drive.specs.Calls.{TellsMore}
use Rattle.txn_drive.specs.Going.{Continues, SeesMore}
use Rattle.txn_drive.specs.Moment.{moment}
use Rattle.txn_drive.specs.Paying.{IsLed}
use Rattle.txn_drive.specs.Standing.{IsOn, IsOver}
use Rattle.txn_drive.proofs.Onward.{sees_on}
use Rattle.txn_drive.proofs.Owing.{Closes, conclude_firm, rolled_firm}
use Rattle.txn_run.specs.Bodies.{HasBook}
use Rattle.txn_run.specs.Callers.{MayBegin, attempt_in, caller_of}
use Rattle.txn_run.specs.Flights.{cells_in_stm}
use Rattle.txn_run.specs.Outcomes.{CommittedAs, IsWord, Made, ReadAs, RolledAs}
use Rattle.txn_run.specs.Turns.{ComesToEnd, concluded, rolled_back as rolled_then}
use Rattle.txn_run.proofs.Ending.{IsOfCommit, answered_no_end, body_of_commit, conclude_ends, reader, rolled_ends, undone, word_of_commit, writer}
use Rattle.txn_run.proofs.Entries.{came_in, none_came, only_one}
use Rattle.txn_run.proofs.HandlersRun.{concluded_runs, rolled_runs, tells_all}
use Rattle.txn_run.proofs.Possible.{ended_opaque, over_kept, possible_at_prefix, possible_at_stamp}

-- An attempt began on a seat as `begin` leaves it, went on to its end, and came there as its body states.
module _ {S : Type 0} (lawful : List ℕ → Type 0) (may : List ℕ → List ℕ → Type 0) (stm : StmState S) (before begin after : SeatState) (t u : Attempt)
    (runs runs_then : Option Handlers) (rings rings_then : Option (List ℕ))
    (able : MayBegin lawful may stm before) (more : (attempt_in before).serial < stm.settings.attempts)
    (begun : IsBegun lawful may (terms_in stm) stm.settings before begin t)
    (continues : Continues (moment begin t runs rings) (moment after u runs_then rings_then))
    (on : IsOn lawful may (terms_in stm) after u) (over : IsOver u)
    (ends : List ℕ → Book → Type 0) (gives : Cause → List ℕ → Book → Type 0) (leaves : List ℕ → Type 0)
    (comes : ComesToEnd lawful (cells_in_stm stm) ends gives leaves u) where
  -- ---- the attempt is that which the seat knows

  abbrev known : Attempt
  known = attempt_in after

  -- the attempt as the seat knows it, but for what is due and what has run
  is_known : u ≡ record known { due = u.due; now = record known.now { runs = u.now.runs } }
  is_known = (on.over over.stage).is

  known_over : known.stage ≡ Ended
  known_over = sym (ap (λ (a : Attempt). a.stage) is_known) ∙ over.stage

  known_ending : (ending : Ending) → u.ending ≡ Some ending → known.ending ≡ Some ending
  known_ending ending is = sym (ap (λ (a : Attempt). a.ending) is_known) ∙ is

  next_serial : t.serial ≡ suc (attempt_in before).serial
  next_serial = ap (λ (a : Attempt). a.serial) begun.is

  known_serial : known.serial ≡ suc (attempt_in before).serial
  known_serial = sym (ap (λ (a : Attempt). a.serial) is_known) ∙ (continues.same.serial ∙ next_serial)

  sees : SeesMore (suc (attempt_in before).serial) before after
  sees = sees_on (suc (attempt_in before).serial) before begin after begun.seat (subst (λ (serial : ℕ). SeesMore serial begin after) next_serial continues.seat)

  -- ---- what was seen, and who was called

  started : t.stage ≢ Announce
  started is = cc (is, ap (λ (a : Attempt). a.stage) begun.is)

  seen_before : after.view.since ≡ length before.seen
  seen_before = (continues.since started).0 ∙ begun.since

  fresh : (ending : Ending) → u.ending ≡ Some ending → length before.seen ≤ known.prefix
  fresh ending is =
      let opaque_then = ended_opaque lawful may (terms_in stm) after on.safe ending known_over (known_ending ending is) in
      let since : after.view.since ≡ length before.seen = seen_before in
      let low : after.view.since ≤ known.prefix = opaque_then.fresh in
      omega arith

  tells_runs : TellsMore runs runs_then u.now.runs
  tells_runs = tells_all t.now.runs u.now.runs runs runs_then (ap (λ (a : Attempt). a.now.runs) begun.is) continues.runs

  tells_rings : TellsMore rings rings_then known.rings
  tells_rings = subst (λ (all : List ℕ). TellsMore rings rings_then all) (ap (λ (a : Attempt). a.rings) is_known)
      (tells_all t.rings u.rings rings rings_then (ap (λ (a : Attempt). a.rings) begun.is) continues.rings)

  has_ended : (ending : Ending) × (u.ending ≡ Some ending)
  has_ended = elim comes [
    | concluded x waits active leads holds ↦ elim (conclude_ends x u leads over.stage) [
      | reader none is ↦ (Read x.prefix, is)
      | writer stamp some is ↦ (Committed stamp, is)
      | undone cause prefix some of is ↦ (Rolled cause prefix, is)
    ]
    | rolled_then x cause waits active of leads left gave ↦ (Rolled cause x.prefix, rolled_ends x u cause leads over.stage)
  ]

  pub made : Made stm.settings.attempts (caller_of before runs rings) (caller_of after runs_then rings_then)
  made = record {
    grows = sees.grows;
    serial = known_serial;
    within = more;
    fresh = fresh has_ended.0 has_ended.1;
    waits = sees.waits;
    rings = tells_rings;
  }

  none_new : (ending : Ending) → u.ending ≡ Some ending → stamp_in (Some ending) ≡ 0 → HasNoneOf before.number before.seen after.seen
  none_new ending is none = none_came lawful may (terms_in stm) before after able.safe on.safe sees known_serial
      (over_kept known.stage known.ending ending known_over (known_ending ending is)) (ap stamp_in (known_ending ending is) ∙ none)

  -- ---- what it has kept since its body was over

  kept_book : (x : Attempt) → Closes x u → HasBook known x.now
  kept_book x closes = record {
    writes = sym (ap (λ (a : Attempt). a.now.writes) is_known) ∙ closes.writes;
    hooks = sym (ap (λ (a : Attempt). a.now.hooks) is_known) ∙ closes.hooks;
    laters = sym (ap (λ (a : Attempt). a.now.laters) is_known) ∙ closes.laters;
  }

  kept_notes : (x : Attempt) → Closes x u → known.notes ≡ x.notes
  kept_notes x closes = sym (ap (λ (a : Attempt). a.notes) is_known) ∙ closes.notes

  concluded_keeps : (x : Attempt) → IsLed (conclude x x.now.writes) u → Closes x u
  concluded_keeps x leads = subst (Closes x) leads.reach (conclude_firm x leads.steps)

  rolled_keeps : (x : Attempt) (cause : Cause) → IsLed (rolled x cause) u → Closes x u
  rolled_keeps x cause leads = subst (Closes x) leads.reach (rolled_firm x cause leads.steps)

  -- ---- the heaps that are possible by its notes

  abbrev heap_at : ℕ → List ℕ
  heap_at n = state stm.opening after.seen n

  prefix_possible : (x : Attempt) (ending : Ending) (prefix : ℕ) → Closes x u → u.ending ≡ Some ending → prefix ≡ known.prefix → IsPossible lawful (cells_in_stm stm) x.notes (heap_at prefix)
  prefix_possible x ending prefix closes is here =
      subst (λ (n : ℕ). IsPossible lawful (cells_in_stm stm) x.notes (heap_at n)) (sym here)
      (subst (λ (notes : List Note). IsPossible lawful (cells_in_stm stm) notes (heap_at known.prefix)) (kept_notes x closes)
      (possible_at_prefix lawful may (terms_in stm) after on.safe ending known_over (known_ending ending is)))

  stamp_possible : (x : Attempt) (stamp : ℕ) → Closes x u → u.ending ≡ Some (Committed stamp) → IsPossible lawful (cells_in_stm stm) x.notes (heap_at (stamp - 1))
  stamp_possible x stamp closes is =
      subst (λ (notes : List Note). IsPossible lawful (cells_in_stm stm) notes (heap_at (stamp - 1))) (kept_notes x closes)
      (possible_at_stamp lawful may (terms_in stm) after on.safe stamp (known_ending (Committed stamp) is))

  -- ---- the handlers that it has run

  concluded_tells : (x : Attempt) (ending : Ending) → AwaitsAsk x → x.phase ≡ Active → (leads : IsLed (conclude x x.now.writes) u) → u.ending ≡ Some ending
      → TellsMore runs runs_then (x.now.runs ++ ended_runs (prepares_by (conclude x x.now.writes) leads.steps) (Some ending) x.now.hooks)
  concluded_tells x ending waits active leads is =
      let begun_to : Bool = prepares_by (conclude x x.now.writes) leads.steps in
      subst (λ (all : Handlers). TellsMore runs runs_then all)
      (concluded_runs x u waits.nothing_due active leads over ∙ ap (λ (last : Option Ending). x.now.runs ++ ended_runs begun_to last x.now.hooks) is) tells_runs

  rolled_tells : (x : Attempt) (cause : Cause) → AwaitsAsk x → x.phase ≡ Active → IsLed (rolled x cause) u → TellsMore runs runs_then (x.now.runs ++ failing false x.now.hooks)
  rolled_tells x cause waits active leads =
      subst (λ (all : Handlers). TellsMore runs runs_then all) (rolled_runs x u cause waits.nothing_due active leads over) tells_runs

  -- ---- how it concludes

  module _ {T : Type 0} (whole : T → List ℕ → Book → Type 0) where
    commits : (out : T) (stamp : ℕ) → u.ending ≡ Some (Committed stamp) → ((heap : List ℕ) (book : Book) → ends heap book → whole out heap book)
        → (x : Attempt) → AwaitsAsk x → x.phase ≡ Active → IsLed (conclude x x.now.writes) u → 0 < length x.now.writes
        → ((heap : List ℕ) → IsPossible lawful (cells_in_stm stm) x.notes heap → ends heap x.now × leaves heap)
        → CommittedAs whole stm.opening (caller_of before runs rings) (caller_of after runs_then rings_then) out stamp
    commits out stamp is ran x waits active leads some holds =
        let is_so = known_ending (Committed stamp) is in
        let closes = concluded_keeps x leads in record {
          ending = is_so;
          low = came_in lawful may (terms_in stm) before after able.safe on.safe sees known_serial stamp is_so;
          high = (on.safe.attempt.committed stamp is_so).1;
          entry = (on.safe.attempt.committed stamp is_so).2;
          only = only_one lawful may (terms_in stm) before after able.safe on.safe sees known_serial stamp is_so;
          book = x.now;
          has = kept_book x closes;
          some = some;
          whole = ran (heap_at (stamp - 1)) x.now (holds (heap_at (stamp - 1)) (stamp_possible x stamp closes is)).0;
          runs = concluded_tells x (Committed stamp) waits active leads is;
        }

    pub committed : (out : T) (stamp : ℕ) → u.ending ≡ Some (Committed stamp) → ((heap : List ℕ) (book : Book) → ends heap book → whole out heap book)
        → CommittedAs whole stm.opening (caller_of before runs rings) (caller_of after runs_then rings_then) out stamp
    committed out stamp is ran = elim comes [
      | concluded x waits active leads holds ↦ elim (conclude_ends x u leads over.stage) [
        | reader none was ↦ absurd (cc (is, was))
        | writer other some was ↦ commits out stamp is ran x waits active leads some holds
        | undone cause last some of was ↦ absurd (cc (is, was))
      ]
      | rolled_then x cause waits active of leads left gave ↦ absurd (cc (is, rolled_ends x u cause leads over.stage))
    ]

    reads : (out : T) (prefix : ℕ) → u.ending ≡ Some (Read prefix) → ((heap : List ℕ) (book : Book) → ends heap book → whole out heap book)
        → (x : Attempt) → AwaitsAsk x → x.phase ≡ Active → IsLed (conclude x x.now.writes) u → x.now.writes ≡ []
        → ((heap : List ℕ) → IsPossible lawful (cells_in_stm stm) x.notes heap → ends heap x.now × leaves heap)
        → ReadAs whole stm.opening (caller_of before runs rings) (caller_of after runs_then rings_then) out prefix
    reads out prefix is ran x waits active leads none holds =
        let is_so = known_ending (Read prefix) is in
        let closes = concluded_keeps x leads in record {
          ending = is_so;
          none = none_new (Read prefix) is refl;
          book = x.now;
          has = kept_book x closes;
          nothing = none;
          whole = ran (heap_at prefix) x.now (holds (heap_at prefix) (prefix_possible x (Read prefix) prefix closes is (on.safe.attempt.read prefix is_so))).0;
          runs = concluded_tells x (Read prefix) waits active leads is;
        }

    pub read : (out : T) (prefix : ℕ) → u.ending ≡ Some (Read prefix) → ((heap : List ℕ) (book : Book) → ends heap book → whole out heap book)
        → ReadAs whole stm.opening (caller_of before runs rings) (caller_of after runs_then rings_then) out prefix
    read out prefix is ran = elim comes [
      | concluded x waits active leads holds ↦ elim (conclude_ends x u leads over.stage) [
        | reader none was ↦ reads out prefix is ran x waits active leads none holds
        | writer stamp some was ↦ absurd (cc (is, was))
        | undone cause last some of was ↦ absurd (cc (is, was))
      ]
      | rolled_then x cause waits active of leads left gave ↦ absurd (cc (is, rolled_ends x u cause leads over.stage))
    ]

    module _ (cause : Cause) (prefix : ℕ) (is : u.ending ≡ Some (Rolled cause prefix)) (ran : (heap : List ℕ) (book : Book) → ends heap book → (out : T) × whole out heap book) where
      is_rolled_so : known.ending ≡ Some (Rolled cause prefix)
      is_rolled_so = known_ending (Rolled cause prefix) is

      rolled_possible : (x : Attempt) → Closes x u → IsPossible lawful (cells_in_stm stm) x.notes (heap_at prefix)
      rolled_possible x closes = prefix_possible x (Rolled cause prefix) prefix closes is (on.safe.attempt.rolled cause prefix is_rolled_so).0

      undoes : (x : Attempt) → AwaitsAsk x → x.phase ≡ Active → IsLed (conclude x x.now.writes) u → 0 < length x.now.writes → IsOfCommit cause
          → ((heap : List ℕ) → IsPossible lawful (cells_in_stm stm) x.notes heap → ends heap x.now × leaves heap)
          → RolledAs whole gives leaves stm.opening (caller_of before runs rings) (caller_of after runs_then rings_then) cause prefix
      undoes x waits active leads some of holds =
          let closes = concluded_keeps x leads in
          let here = holds (heap_at prefix) (rolled_possible x closes) in record {
            ending = is_rolled_so;
            none = none_new (Rolled cause prefix) is refl;
            book = x.now;
            has = kept_book x closes;
            answered = λ word. absurd (word_of_commit cause of word);
            at_end = λ clock at. let out = ran (heap_at prefix) x.now here.0 in (out.0, out.1, some);
            left = here.1;
            prepared = prepares_by (conclude x x.now.writes) leads.steps;
            unprepared = λ body. absurd (body_of_commit cause of body);
            runs = concluded_tells x (Rolled cause prefix) waits active leads is;
          }

      abandons : (x : Attempt) → AwaitsAsk x → x.phase ≡ Active → IsOfCells cause ⊎ IsOfBody cause → IsLed (rolled x cause) u
          → ((heap : List ℕ) → IsPossible lawful (cells_in_stm stm) x.notes heap → leaves heap)
          → (IsWord cause → (heap : List ℕ) → IsPossible lawful (cells_in_stm stm) x.notes heap → gives cause heap x.now)
          → RolledAs whole gives leaves stm.opening (caller_of before runs rings) (caller_of after runs_then rings_then) cause prefix
      abandons x waits active of leads left gave =
          let closes = rolled_keeps x cause leads in record {
            ending = is_rolled_so;
            none = none_new (Rolled cause prefix) is refl;
            book = x.now;
            has = kept_book x closes;
            answered = λ word. gave word (heap_at prefix) (rolled_possible x closes);
            at_end = λ clock at. absurd (answered_no_end cause clock at of);
            left = left (heap_at prefix) (rolled_possible x closes);
            prepared = false;
            unprepared = λ body. refl;
            runs = rolled_tells x cause waits active leads;
          }

      pub rolled_back : RolledAs whole gives leaves stm.opening (caller_of before runs rings) (caller_of after runs_then rings_then) cause prefix
      rolled_back = elim comes [
        | concluded x waits active leads holds ↦ elim (conclude_ends x u leads over.stage) [
          | reader none was ↦ absurd (cc (is, was))
          | writer stamp some was ↦ absurd (cc (is, was))
          | undone last heap some of was ↦
              let same : last ≡ cause = cc (is, was) in
              undoes x waits active leads some (subst IsOfCommit same of) holds
        ]
        | rolled_then x last waits active of leads left gave ↦
            let was : u.ending ≡ Some (Rolled last x.prefix) = rolled_ends x u last leads over.stage in
            let same : last ≡ cause = cc (is, was) in
            abandons x waits active (subst (λ (c : Cause). IsOfCells c ⊎ IsOfBody c) same of) (subst (λ (c : Cause). IsLed (rolled x c) u) same leads) left
            (λ word heap possible. subst (λ (c : Cause). gives c heap x.now) same (gave (subst IsWord (sym same) word) heap possible))
      ]
