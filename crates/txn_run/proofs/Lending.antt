-- A seat with other lists, and the attempt that begins on it.
use Rattle.std.proofs.Common.{◌≡◌, ℕ, ◌<◌, List, Option, sym, ap, subst, ◌∙◌, inl, arith}
use Rattle.ref_table.specs.Calls.{AreEmpty}
use Rattle.ref_table.specs.Seats.{SeatState, StmState, terms_in}
use Rattle.ref_table.specs.Seen.{SafeSeat}
use Rattle.ref_table.specs.declared.lists.Lists.{Lists}
use Rattle.stm_model.specs.Attempt.{Attempt, Ended}
use Rattle.stm_model.specs.CellsState.{Book}
use Rattle.stm_model.specs.Handlers.{Handlers}
use Rattle.stm_model.specs.World.{Terms}
use Rattle.stm_model.specs.declared.cause.Cause.{Cause}
use Rattle.stm_model.specs.declared.settings.Settings.{Settings}
use Rattle.txn_drive.specs.Begun.{IsBegun}
use Rattle.txn_drive.specs.Going.{Continues}
use Rattle.txn_drive.specs.Moment.{moment}
use Rattle.txn_drive.specs.Standing.{IsOn, IsOver}
use Rattle.txn_run.specs.Callers.{CallerState, MayBegin, attempt_in, caller_of}
use Rattle.txn_run.specs.Flights.{IsFresh, cells_in_stm}
use Rattle.txn_run.specs.Outcomes.{Concludes, ConcludesAs, Made}
use Rattle.txn_run.specs.Turns.{ComesToEnd, EndsAs}
use Rattle.txn_run.specs.declared.callers.Outcome.{Outcome}
use Rattle.txn_run.specs.declared.callers.Outcome.TheVariants as with
use Rattle.txn_run.proofs.Concluding as concluding

module _ (lawful : List ℕ → Type 0) (may : List ℕ → List ℕ → Type 0) (terms : Terms) (seat : SeatState) (lists : Lists) where
  pub safe_lists : SafeSeat lawful may terms seat → SafeSeat lawful may terms (record seat { lists = lists })
  safe_lists safe = record {
    caller = safe.caller;
    own = safe.own;
    limit = safe.limit;
    serial = safe.serial;
    counted = safe.counted;
    since = safe.since;
    clock = safe.clock;
    known = safe.known;
    seen = safe.seen;
    entries = safe.entries;
    attempt = safe.attempt;
    within = safe.within;
    undisturbed = safe.undisturbed;
  }

-- The lists of a seat don't matter to who may begin, if they are empty.
pub begins_with : {S : Type 0} (lawful : List ℕ → Type 0) (may : List ℕ → List ℕ → Type 0) (stm : StmState S) (before after : SeatState) → after ≡ record before { lists = after.lists } → AreEmpty after.lists
    → MayBegin lawful may stm before → MayBegin lawful may stm after
begins_with lawful may stm before after same empty begins = subst (MayBegin lawful may stm) (sym same) (record {
  table = begins.table;
  safe = safe_lists lawful may (terms_in stm) before after.lists begins.safe;
  over = begins.over;
  attempts = begins.attempts;
  lists = empty;
})

-- Lists put in place of others, twice.
pub lists_twice : (before between after : SeatState) → between ≡ record before { lists = between.lists } → after ≡ record between { lists = after.lists } → after ≡ record before { lists = after.lists }
lists_twice before between after one two = two ∙ ap (λ (s : SeatState). record s { lists = after.lists }) one

pub fresh_begun : (lawful : List ℕ → Type 0) (may : List ℕ → List ℕ → Type 0) (terms : Terms) (settings : Settings) (before after : SeatState) (t : Attempt)
    → IsBegun lawful may terms settings before after t → IsFresh t
fresh_begun lawful may terms settings before after t begun = record {
  stage = ap (λ (a : Attempt). a.stage) begun.is;
  notes = ap (λ (a : Attempt). a.notes) begun.is;
  now = ap (λ (a : Attempt). a.now) begun.is;
  turn = ap (λ (a : Attempt). a.turn) begun.is;
}

-- An attempt began on the seat with other lists, and came to its end as its body states.
module _ {S T : Type 0} (lawful : List ℕ → Type 0) (may : List ℕ → List ℕ → Type 0) (stm : StmState S) (before lent begin after : SeatState) (t u : Attempt)
    (runs runs_then : Option Handlers) (rings rings_then : Option (List ℕ)) (same : lent ≡ record before { lists = lent.lists })
    (able : MayBegin lawful may stm lent) (more : (attempt_in before).serial < stm.settings.attempts)
    (begun : IsBegun lawful may (terms_in stm) stm.settings lent begin t)
    (continues : Continues (moment begin t runs rings) (moment after u runs_then rings_then))
    (on : IsOn lawful may (terms_in stm) after u) (over : IsOver u)
    (ends : T → List ℕ → Book → Type 0) (gives : Cause → List ℕ → Book → Type 0) (leaves : List ℕ → Type 0) where
  more_lent : (attempt_in lent).serial < stm.settings.attempts
  more_lent = subst (λ (s : SeatState). (attempt_in s).serial < stm.settings.attempts) (sym same) more

  same_caller : caller_of lent runs rings ≡ caller_of before runs rings
  same_caller = ap (λ (s : SeatState). caller_of s runs rings) same

  made_from : (E : List ℕ → Book → Type 0) → ComesToEnd lawful (cells_in_stm stm) E gives leaves u → Made stm.settings.attempts (caller_of before runs rings) (caller_of after runs_then rings_then)
  made_from E comes = subst (λ c. Made stm.settings.attempts c (caller_of after runs_then rings_then)) same_caller
      (concluding.made lawful may stm lent begin after t u runs runs_then rings rings_then able more_lent begun continues on over E gives leaves comes)

  pub made_so : (outcome : Outcome T) → EndsAs lawful (cells_in_stm stm) ends gives leaves u outcome → Made stm.settings.attempts (caller_of before runs rings) (caller_of after runs_then rings_then)
  made_so (with.Committed out stamp) so = made_from (ends out) so.1
  made_so (with.Read out prefix) so = made_from (ends out) so.1
  made_so (with.Rolled cause prefix) so = made_from (λ heap book. (out : T) × ends out heap book) so.1

  concludes_lent : (outcome : Outcome T) → EndsAs lawful (cells_in_stm stm) ends gives leaves u outcome
      → ConcludesAs ends gives leaves stm.opening (caller_of lent runs rings) (caller_of after runs_then rings_then) outcome
  concludes_lent (with.Committed out stamp) so =
      concluding.committed lawful may stm lent begin after t u runs runs_then rings rings_then able more_lent begun continues on over (ends out) gives leaves so.1 ends out stamp so.0 (λ heap book ran. ran)
  concludes_lent (with.Read out prefix) so =
      concluding.read lawful may stm lent begin after t u runs runs_then rings rings_then able more_lent begun continues on over (ends out) gives leaves so.1 ends out prefix so.0 (λ heap book ran. ran)
  concludes_lent (with.Rolled cause prefix) so =
      concluding.rolled_back lawful may stm lent begin after t u runs runs_then rings rings_then able more_lent begun continues on over (λ heap book. (out : T) × ends out heap book) gives leaves so.1 ends cause prefix so.0 (λ heap book ran. ran)

  pub concludes_so : (outcome : Outcome T) → EndsAs lawful (cells_in_stm stm) ends gives leaves u outcome
      → ConcludesAs ends gives leaves stm.opening (caller_of before runs rings) (caller_of after runs_then rings_then) outcome
  concludes_so outcome so = subst (λ c. ConcludesAs ends gives leaves stm.opening c (caller_of after runs_then rings_then) outcome) same_caller (concludes_lent outcome so)

  -- ---- its caller afterwards

  pub known_over : (attempt_in after).stage ≡ Ended
  known_over = sym (ap (λ (a : Attempt). a.stage) (on.over over.stage).is) ∙ over.stage

  pub begins_again : (outcome : Outcome T) → EndsAs lawful (cells_in_stm stm) ends gives leaves u outcome → MayBegin lawful may stm after
  begins_again outcome so =
      let made = made_so outcome so in
      let serial = made.serial in
      let within = made.within in record {
        table = continues.seat.same.table ∙ (begun.seat.same.table ∙ able.table);
        safe = on.safe;
        over = known_over;
        attempts = omega (arith, serial, within);
        lists = subst AreEmpty (sym (continues.seat.same.lists ∙ begun.seat.same.lists)) able.lists;
      }

-- What an attempt concludes with is so after its lists were given back.
pub concluded_with : {S T : Type 0} (ends : T → List ℕ → Book → Type 0) (gives : Cause → List ℕ → Book → Type 0) (leaves : List ℕ → Type 0) (untouched : Type 0) (stm : StmState S) (before : CallerState)
    (after given : SeatState) (runs : Option Handlers) (rings : Option (List ℕ)) (outcome : Outcome T) → given ≡ record after { lists = given.lists }
    → Made stm.settings.attempts before (caller_of after runs rings) → ConcludesAs ends gives leaves stm.opening before (caller_of after runs rings) outcome
    → Concludes ends gives leaves untouched stm before (caller_of given runs rings) outcome
concluded_with ends gives leaves untouched stm before after given runs rings outcome same made concludes =
    let caller : caller_of after runs rings ≡ caller_of given runs rings = ap (λ (s : SeatState). caller_of s runs rings) (sym same) in
    inl (subst (Made stm.settings.attempts before) caller made, subst (λ c. ConcludesAs ends gives leaves stm.opening before c outcome) caller concludes)
