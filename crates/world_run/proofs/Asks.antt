-- What an ask makes of a simulation.
use Rattle.std.proofs.Common.{◌≡◌, ℕ, ◌-◌, ◌<◌, ◌≤◌, ◌^◌, ◌⊎◌, inl, inr, List, [], get_or, length, Option, Some, None, ap, sym, ◌∙◌, refl, subst, arith}
use Rattle.stm_core.specs.Machine.{IsRefused, Machine, after_due, next_of, standing}
use Rattle.stm_core.specs.declared.next.Next.{Next}
use Rattle.stm_core.specs.declared.next.Next.TheVariants.{Reply}
use Rattle.stm_core.specs.declared.next.Reply.TheVariants as reply
use Rattle.stm_model.specs.Attempt.{Attempt, Due, Late, Ready, Stage, Stopped, cause_at}
use Rattle.stm_model.specs.Moves.{AwaitsAsk, AwaitsAskAt, EndsLate, OutOfMemory, May, MayAsk, Takes, moved}
use Rattle.stm_model.specs.World.{IsCaller, Moves, cells_in}
use Rattle.stm_model.specs.declared.access.Ask.{Ask}
use Rattle.stm_model.specs.declared.access.Ask.TheVariants.{Abandon, Finish, Get, Keep, Set, Undo}
use Rattle.stm_model.specs.declared.cause.Cause.{Cause}
use Rattle.stm_model.specs.declared.settings.Settings.{Settings}
use Rattle.world_run.specs.Simulation.{Simulation, Happens, HasSameTerms, InvariantOn, IsAskable, WaitsLate, attempt_in, latest, machine_at, terms_in}
use Rattle.world_run.specs.Places.{HasLate, IsAsked, IsPastLate, MayBeAsked, TakesAsk}
use Rattle.world_run.proofs.Seats.{Follows}
use Rattle.world_run.proofs.Turns.{Seat, moves, own_seat, reseats, stands, was_own}

-- ---- what may be asked, by what was replied

-- what an attempt that waits replies tells the cause that it was refused with
told_cause : (t : Attempt) (stage : Stage) (cause : Cause) → AwaitsAskAt stage → standing t stage ≡ Some (Reply (reply.Stopped cause)) → cause_at stage ≡ Some cause
unfolding standing AwaitsAskAt cause_at
told_cause t (Ready None) cause waits is = cc
told_cause t (Ready (Some value)) cause waits is = cc
told_cause t (Late token) cause waits is = cc
told_cause t (Stopped other) cause waits is = cc
told_cause t stage cause waits is = absurd waits

cause_told : (t : Attempt) (stage : Stage) (cause : Cause) → cause_at stage ≡ Some cause → standing t stage ≡ Some (Reply (reply.Stopped cause))
unfolding standing cause_at
cause_told t (Stopped other) cause is = let same : other ≡ cause = cc in rw same refl
cause_told t stage cause is = cc

waiting : (t : Attempt) (due : List Due) → due ≡ [] → after_due due (standing t t.stage) ≡ standing t t.stage
unfolding after_due
waiting t due none = rw none refl

module _ (size : ℕ) (t : Attempt) (told : Next) (is : Some told ≡ next_of t) where
  replied : AwaitsAsk t → Some told ≡ standing t t.stage
  replied waits = is ∙ waiting t t.due waits.nothing_due

  may_ask : (ask : Ask) → AwaitsAsk t → TakesAsk size t told ask → MayAsk size t ask
  unfolding TakesAsk MayAsk
  may_ask (Get cell) waits takes = takes
  may_ask (Set cell value) waits takes = takes
  may_ask Keep waits takes = takes
  may_ask Undo waits takes = takes
  may_ask Finish waits takes = takes
  may_ask (Abandon cause) waits (inl own) = inl own
  may_ask (Abandon cause) waits (inr same) = inr (told_cause t t.stage cause waits.stands (sym (replied waits) ∙ ap Some same))
  may_ask ask waits takes = tt

  pub is_askable : (ask : Ask) → AwaitsAsk t → TakesAsk size t told ask → IsAskable size t ask
  is_askable ask waits takes = record { waits = waits; able = may_ask ask waits takes }

  pub takes_ask : (ask : Ask) → IsAskable size t ask → TakesAsk size t told ask
  unfolding TakesAsk MayAsk
  takes_ask (Get cell) askable = askable.able
  takes_ask (Set cell value) askable = askable.able
  takes_ask Keep askable = askable.able
  takes_ask Undo askable = askable.able
  takes_ask Finish askable = askable.able
  takes_ask (Abandon cause) askable = elim askable.able [
    | inl own ↦ inl own
    | inr refused ↦ inr (let same : Some told ≡ Some (Reply (reply.Stopped cause)) = replied askable.waits ∙ cause_told t t.stage cause refused in cc)
  ]
  takes_ask ask askable = tt

-- More cells may be asked for where there are more.
may_more : (size limit : ℕ) (t : Attempt) (ask : Ask) → size ≤ limit → MayAsk size t ask → MayAsk limit t ask
unfolding MayAsk
may_more size limit t (Get cell) low may = omega (arith, low, may)
may_more size limit t (Set cell value) low may = (let within : cell.0 < size = may.0 in omega (arith, low, within), may.1)
may_more size limit t ask low may = may

-- ---- the ask

pub seat_waits : {L : Type 0} (c : Simulation L) (p : ℕ) → AwaitsAskAt (attempt_in c p).stage → Seat c p
unfolding AwaitsAskAt
seat_waits c p waits = go (machine_at c p) refl
  where
    go : (machine : Option Machine) → machine_at c p ≡ machine → Seat c p
    go None none = absurd (subst (λ (machine : Option Machine). AwaitsAskAt (latest c.settings p machine).stage) none waits)
    go (Some machine) some = record { machine = machine; there = some }

module _ {L : Type 0} {lawful : L → List ℕ → Type 0} {may : L → List ℕ → List ℕ → Type 0} {count clock : ℕ} {before : Simulation L}
    (old : InvariantOn lawful may count clock before) (p : ℕ) (caller : IsCaller (terms_in before) p)
    (ask : Ask) (askable : IsAskable (length before.opening) (attempt_in before p) ask) where
  pub may_be_asked : length before.opening < 2 ^ 32 → MayBeAsked before.machines (p - 1) ask
  may_be_asked short =
      let seat = seat_waits before p askable.waits.stands in
      let low : length before.opening ≤ 2 ^ 32 = omega (arith, short) in
      record {
        machine = seat.machine;
        stands = stands old p caller seat;
        askable = subst (λ (t : Attempt). IsAskable (2 ^ 32) t ask) (own_seat seat) (record {
          waits = askable.waits;
          able = may_more (length before.opening) (2 ^ 32) (attempt_in before p) ask low askable.able;
        });
      }

  module _ {after : Simulation L} (terms : HasSameTerms before after) (words : after.words ≡ before.words) (history : after.history ≡ before.history)
      (asked : IsAsked before.machines after.machines (p - 1) ask) where
    abbrev t : Attempt
    t = attempt_in before p

    may_take : May (cells_in (terms_in before)) (terms_in before).limit t (Takes ask)
    unfolding May
    may_take = (askable.waits, askable.able)

    may_refuse : IsRefused t ask asked.now.attempt → May (cells_in (terms_in before)) (terms_in before).limit t (OutOfMemory ask)
    unfolding May
    may_refuse refused = (askable.waits, refused.going, askable.able, refused.wants)

    takes_own : (asked.now.attempt ≡ moved t (Takes ask)) ⊎ IsRefused t ask asked.now.attempt
    takes_own = subst (λ (u : Attempt). (asked.now.attempt ≡ moved u (Takes ask)) ⊎ IsRefused u ask asked.now.attempt) (was_own old p caller asked.changes) asked.moves

    pub asks : Follows lawful may count clock before (Moves p (Takes ask)) after ⊎ Follows lawful may count clock before (Moves p (OutOfMemory ask)) after
    asks = elim takes_own [
      | inl is ↦ inl (moves old p caller (Takes ask) may_take (reseats old p caller terms asked.changes) words history is)
      | inr refused ↦ inr (moves old p caller (OutOfMemory ask) (may_refuse refused) (reseats old p caller terms asked.changes) words history refused.stops)
    ]

    pub asked_happens : Happens lawful may before (Moves p (Takes ask)) after ⊎ Happens lawful may before (Moves p (OutOfMemory ask)) after
    asked_happens = elim asks [
      | inl takes ↦ inl takes.happens
      | inr refuses ↦ inr refuses.happens
    ]

    pub asked_invariant : InvariantOn lawful may count clock after
    asked_invariant = elim asks [
      | inl takes ↦ takes.invariant
      | inr refuses ↦ refuses.invariant
    ]

-- ---- a before-commit body is over

-- Who has no attempt doesn't wait.
pub nobody_waits : {A : Type 0} (settings : Settings) (p : ℕ) (machines : List (Option Machine)) (found : Option Machine) → found ≡ get_or machines (p - 1) found → found ≡ None
    → AwaitsAsk (latest settings p (get_or machines (p - 1) None)) → A
unfolding AwaitsAskAt
nobody_waits settings p machines found same none waits =
    let named = rw none at same in
    let here : get_or machines (p - 1) None ≡ None = sym named in
    absurd (rw here at waits.stands)

module _ {L : Type 0} {lawful : L → List ℕ → Type 0} {may : L → List ℕ → List ℕ → Type 0} {count clock : ℕ} {before : Simulation L}
    (old : InvariantOn lawful may count clock before) (p : ℕ) (caller : IsCaller (terms_in before) p) (late : WaitsLate (attempt_in before p)) where
  pub has_late : HasLate before.machines (p - 1)
  has_late = let seat = seat_waits before p late.waits.stands in record {
    machine = seat.machine;
    stands = stands old p caller seat;
    waits = subst (λ (t : Attempt). WaitsLate t) (own_seat seat) late;
  }

  module _ {after : Simulation L} (terms : HasSameTerms before after) (words : after.words ≡ before.words) (history : after.history ≡ before.history)
      (past : IsPastLate before.machines after.machines (p - 1)) where
    may_end : May (cells_in (terms_in before)) (terms_in before).limit (attempt_in before p) EndsLate
    unfolding May
    may_end = (late.waits, late.late)

    pub ends_late : Follows lawful may count clock before (Moves p EndsLate) after
    ends_late = moves old p caller EndsLate may_end (reseats old p caller terms past.changes) words history (subst (λ (t : Attempt). past.now.attempt ≡ moved t EndsLate) (was_own old p caller past.changes) past.attempt)
