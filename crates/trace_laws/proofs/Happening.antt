-- What an event of a caller does to the world: it changes the caller's view alone, and adds to the history at most its attempt's entry.
use Rattle.std.proofs.Common.{◌≡◌, ◌≢◌, ◌⊎◌, ◌++◌, ◌+◌, ℕ, suc, ◌<◌, ◌≤◌, Bool, true, false, nat_eq, nat_lt, if◌then◌else◌, List, [], ◌∷◌, length, Option, Some, None, refl, sym, ap, ◌∙◌, subst, arith, inl, inr, append-nil, length-append}
use Rattle.stm_model.specs.Accesses.{Act, Answer, ExchangeClock, Number, OfMeta, OfStatus, next, next_at, unless_due}
use Rattle.stm_model.specs.After.{after, after_at, decided, release_on, ring_if, roll_on, run_all, store_on}
use Rattle.stm_model.specs.Attempt.{Announce, Attempt, Close, Decide, Due, Ended, Late, Ready, Release, Ring, RollBack, Run, Stage, Stopped, StoreValues, Write, stamp_in, stamp_of}
use Rattle.stm_model.specs.Handlers.{committing}
use Rattle.stm_model.specs.History.{Entry, entry_after}
use Rattle.stm_model.specs.Moves.{AwaitsAskAt, Begins, Does, EndsLate, Forgets, May, Move, OutOfMemory, Takes, did_first, moved}
use Rattle.stm_model.specs.Safe.{EndingAt, Safe, caller_at, serial_at}
use Rattle.stm_model.specs.Telling.{Extends}
use Rattle.stm_model.specs.World.{Event, IsCaller, Moves, Steps, Terms, View, World, attempt_of, entry_of, found, happened, since_at, step_by, view_after, words_after}
use Rattle.stm_model.specs.declared.cause.Cause.TheVariants.{ClockMoved}
use Rattle.stm_model.specs.declared.ending.Ending.{Ending}
use Rattle.stm_model.specs.declared.ending.Ending.TheVariants.{Committed, Rolled}
use Rattle.stm_model.proofs.HistoryLemmas.{entry_after_push}
use Rattle.opacity.specs.Effects.{caller_of}
use Rattle.opacity.proofs.Effects.{history_after, others_views}
use Rattle.opacity.proofs.Knowing.{seen_more}
use Rattle.opacity.proofs.Places.{attempt_here, replaced_here}
use Rattle.trace_laws.proofs.Stamping.{committed_by}

-- What becomes of what the caller had seen before its first access: it stays, and the attempt is about to make that access only if it was; or else it is what the caller has seen.
abbrev pub SinceStays : View → View → Type 0
SinceStays old new = ((new.since ≡ old.since) × (old.attempt.stage ≡ Announce → new.attempt.stage ≡ Announce)) ⊎ (new.since ≡ old.seen)

-- From one world to another by an event of this caller.
pub record Affects (w v : World) (p : ℕ) : Type 0 where
  pub others : (q : ℕ) → q ≢ p → v.view q ≡ w.view q
  pub grows : Extends w.history v.history
  -- a new entry is that of the caller's attempt
  pub own : (n : ℕ) → length w.history ≤ n → n < length v.history → (caller_at v n ≡ (attempt_of w p).own) × (serial_at v n ≡ (attempt_of w p).serial)
  pub seen : (w.view p).seen ≤ (v.view p).seen
  pub since : SinceStays (w.view p) (v.view p)

-- ---- the history

-- The history stays, or this entry comes last.
abbrev pub Adds : World → World → Entry → Type 0
Adds w v entry = (v.history ≡ w.history) ⊎ (v.history ≡ w.history ++ entry ∷ [])

adds : (w : World) (event : Event) → Adds w (happened w event) (entry_of (attempt_of w (caller_of event)))
adds w event = elim (history_after w event) [ inl same ↦ inl same | inr won ↦ inr won.1 ]

grows_by : (w v : World) (entry : Entry) → Adds w v entry → Extends w.history v.history
grows_by w v entry (inl same) = ([], same ∙ sym (append-nil w.history))
grows_by w v entry (inr more) = (entry ∷ [], more)

new_entry : (w v : World) (entry : Entry) (n : ℕ) → Adds w v entry → length w.history ≤ n → n < length v.history → entry_after v.history n ≡ entry
new_entry w v entry n (inl same) low high = absurd (omega (arith, low, high, ap length same))
new_entry w v entry n (inr more) low high =
    let long : length v.history ≡ length w.history + length (entry ∷ []) = ap length more ∙ length-append w.history (entry ∷ []) in
    ap (λ (history : List Entry). entry_after history n) more ∙ entry_after_push w.history entry n (omega (arith, low, high, long))

module _ (w : World) (event : Event) where
  abbrev v : World
  v = happened w event

  abbrev p : ℕ
  p = caller_of event

  own_entry : (n : ℕ) → length w.history ≤ n → n < length v.history → (caller_at v n ≡ (attempt_of w p).own) × (serial_at v n ≡ (attempt_of w p).serial)
  own_entry n low high =
      let is = new_entry w v (entry_of (attempt_of w p)) n (adds w event) low high in
      (ap (λ (entry : Entry). entry.caller) is, ap (λ (entry : Entry). entry.serial) is)

  affects_by : (w.view p).seen ≤ (v.view p).seen → SinceStays (w.view p) (v.view p) → Affects w v p
  affects_by seen since = record { others = others_views w event; grows = grows_by w v (entry_of (attempt_of w p)) (adds w event); own = own_entry; seen = seen; since = since }

-- ---- accesses

since_stays : (view : View) (stage : Stage) → ((since_at view stage ≡ view.since) × (stage ≡ Announce → ⊥)) ⊎ (since_at view stage ≡ view.seen)
unfolding since_at
since_stays view Announce = inr refl
since_stays view stage = inl (refl, λ is. cc)

-- the caller's view after an access, if there is one
view_then : (w : World) (p : ℕ) (act : Act) → (step_by w p (Some act)).view p ≡ view_after w (w.view p) act
unfolding step_by
view_then w p act = replaced_here (words_after w (attempt_of w p) act).view p (view_after w (w.view p) act)

step_seen : (w : World) (p : ℕ) → (w.view p).seen ≤ w.clock → (this : Option Act) → (w.view p).seen ≤ ((step_by w p this).view p).seen
unfolding step_by
step_seen w p low None = omega arith
step_seen w p low (Some act) = rw (view_then w p act) (seen_more w (w.view p) act low)

step_since : (w : World) (p : ℕ) (this : Option Act) → SinceStays (w.view p) ((step_by w p this).view p)
unfolding step_by
step_since w p None = inl (refl, λ is. is)
step_since w p (Some act) = rw (view_then w p act) (elim (since_stays (w.view p) (attempt_of w p).stage) [
  | inl stays ↦ inl (stays.0, λ is. absurd (stays.1 is))
  | inr seen ↦ inr seen
])

-- It makes no access, or the one that it makes finds an answer, and then nothing was due.
abbrev pub StepsOn : Attempt → Attempt → Type 0
StepsOn t u = (u ≡ t) ⊎ ((answer : Answer) × (t.due ≡ []) × (u ≡ after t answer))

stepped_on : (w : World) (p : ℕ) (this : Option Act) → (attempt_of w p).due ≡ [] → StepsOn (attempt_of w p) (attempt_of (step_by w p this) p)
unfolding step_by
stepped_on w p None none = inl refl
stepped_on w p (Some act) none = inr (found w act, none, ap (λ (view : View). view.attempt) (view_then w p act))

module _ (lawful : List ℕ → Type 0) (may : List ℕ → List ℕ → Type 0) (terms : Terms) (w : World) (p : ℕ) (safe : Safe lawful may terms w) (caller : IsCaller terms p) where
  pub step_affects : Affects w (happened w (Steps p)) p
  unfolding happened
  step_affects =
      let low : (w.view p).seen ≤ w.clock = omega (arith, (safe.views p caller.1).seen, safe.clock) in
      affects_by w (Steps p) (step_seen w p low (next (attempt_of w p))) (step_since w p (next (attempt_of w p)))

  pub step_goes : StepsOn (attempt_of w p) (attempt_of (happened w (Steps p)) p)
  unfolding happened step_by
  step_goes = go (attempt_of w p).due refl
    where
      go : (due : List Due) → (attempt_of w p).due ≡ due → StepsOn (attempt_of w p) (attempt_of (step_by w p (unless_due due (next_at (attempt_of w p) (attempt_of w p).stage))) p)
      go [] none = stepped_on w p (next_at (attempt_of w p) (attempt_of w p).stage) none
      go (due ∷ dues) some = inl refl

-- ---- local moves

did_stage : (t : Attempt) (dues : List Due) → (did_first t dues).stage ≡ t.stage
did_stage t [] = refl
did_stage t (Run phase token ∷ dues) = refl
did_stage t (Ring cell ∷ dues) = refl

-- who waits to be asked has made its first access
asked_begun : (stage : Stage) → AwaitsAskAt stage → stage ≡ Announce → ⊥
unfolding AwaitsAskAt
asked_begun stage waits is = rw is at waits

stays_announced : (size limit : ℕ) (t : Attempt) (this : Move) → May size limit t this → t.stage ≡ Announce → (moved t this).stage ≡ Announce
unfolding May moved
stays_announced size limit t (Takes ask) able is = absurd (asked_begun t.stage able.0.stands is)
stays_announced size limit t (OutOfMemory ask) able is = absurd (asked_begun t.stage able.0.stands is)
stays_announced size limit t Does able is = did_stage t t.due ∙ is
stays_announced size limit t EndsLate able is = absurd (asked_begun t.stage able.0.stands is)
stays_announced size limit t (Begins settings) able is = refl
stays_announced size limit t Forgets able is = let never : Ended ≡ Announce = sym able.0 ∙ is in cc

pub move_attempt : (w : World) (p : ℕ) (this : Move) → attempt_of (happened w (Moves p this)) p ≡ moved (attempt_of w p) this
unfolding happened
move_attempt w p this = attempt_here w p (record (w.view p) { attempt = moved (attempt_of w p) this })

pub move_affects : (w : World) (p size limit : ℕ) (this : Move) → May size limit (attempt_of w p) this → Affects w (happened w (Moves p this)) p
unfolding happened
move_affects w p size limit this able =
    let here = replaced_here w.view p (record (w.view p) { attempt = moved (attempt_of w p) this }) in
    affects_by w (Moves p this) (rw here (omega arith)) (rw here (inl (refl, stays_announced size limit (attempt_of w p) this able)))

-- ---- what a decided attempt has read

if_prefix : (b : Bool) (t u : Attempt) (prefix : ℕ) → t.prefix ≡ prefix → u.prefix ≡ prefix → (if b then t else u).prefix ≡ prefix
if_prefix true t u prefix first second = first
if_prefix false t u prefix first second = second

release_prefix : (t : Attempt) (behind : List Write) → (release_on t behind).prefix ≡ t.prefix
release_prefix t [] = refl
release_prefix t (write ∷ behind) = refl

store_prefix : (t : Attempt) (behind : List Write) → (store_on t behind).prefix ≡ t.prefix
store_prefix t [] = release_prefix t t.now.writes
store_prefix t (write ∷ behind) = refl

roll_prefix : (t : Attempt) (behind : List Write) → (roll_on t behind).prefix ≡ t.prefix
roll_prefix t [] = refl
roll_prefix t (write ∷ behind) = refl

decided_prefix : (t : Attempt) (lost clock found : ℕ) → (decided t lost clock found).prefix ≡ t.prefix
unfolding decided
decided_prefix t lost clock found =
    if_prefix (nat_eq found clock) _ _ t.prefix (store_prefix (record t { ending = Some (Committed (suc clock)); due = run_all (committing t.now.hooks) }) t.now.writes)
    (if_prefix (nat_lt lost t.settings.tries) _ _ t.prefix refl (roll_prefix (record t { ending = Some (Rolled (ClockMoved clock found) t.prefix) }) t.now.writes))

-- Who tries for the clock reads no more, and neither does who has committed.
decide_prefix : (t : Attempt) (lost clock : ℕ) (answer : Answer) → (after_at t (Decide lost clock) answer).prefix ≡ t.prefix
unfolding after_at
decide_prefix t lost clock (Number found) = decided_prefix t lost clock found
decide_prefix t lost clock answer = refl

committed_prefix : (t : Attempt) (stage : Stage) (stamp : ℕ) (answer : Answer) → EndingAt stage (Some (Committed stamp)) → (after_at t stage answer).prefix ≡ t.prefix
unfolding after_at EndingAt
committed_prefix t (StoreValues write behind) stamp (Number found) at = store_prefix t behind
committed_prefix t (StoreValues write behind) stamp answer at = refl
committed_prefix t (Release write behind) stamp (OfMeta found) at = release_prefix (record t { due = ring_if found.pending write.0 }) behind
committed_prefix t (Release write behind) stamp answer at = refl
committed_prefix t (RollBack write behind) stamp answer at = absurd at
committed_prefix t Close stamp (OfStatus found) at = refl
committed_prefix t Close stamp answer at = refl
committed_prefix t Ended stamp answer at = refl
committed_prefix t stage stamp answer at = cc

-- Who makes the exchange of the clock is about to be decided.
deciding : (t : Attempt) (stage : Stage) (old : ℕ) → next_at t stage ≡ Some (ExchangeClock old) → (lost : ℕ) × (stage ≡ Decide lost old)
unfolding next_at
deciding t (Decide lost clock) old is = (lost, let same : clock ≡ old = cc in ap (λ (n : ℕ). Decide lost n) same)
deciding t stage old is = cc

deciding_due : (t : Attempt) (due : List Due) (old : ℕ) → unless_due due (next_at t t.stage) ≡ Some (ExchangeClock old) → (lost : ℕ) × (t.stage ≡ Decide lost old)
deciding_due t [] old is = deciding t t.stage old is
deciding_due t (due ∷ dues) old is = cc

-- An attempt that is asked has no stamp.
pub asked_unstamped : (stage : Stage) (ending : Option Ending) (n : ℕ) → AwaitsAskAt stage → EndingAt stage ending → stamp_in ending ≡ suc n → ⊥
unfolding AwaitsAskAt EndingAt
asked_unstamped (Ready told) ending n waits at is = let never : 0 ≡ suc n = rw at at is in absurd (omega (arith, never))
asked_unstamped (Late token) ending n waits at is = let never : 0 ≡ suc n = rw at at is in absurd (omega (arith, never))
asked_unstamped (Stopped cause) ending n waits at is = let never : 0 ≡ suc n = rw at at is in absurd (omega (arith, never))
asked_unstamped stage ending n waits at is = absurd waits

did_first_prefix : (t : Attempt) (dues : List Due) → (did_first t dues).prefix ≡ t.prefix
did_first_prefix t [] = refl
did_first_prefix t (Run phase token ∷ dues) = refl
did_first_prefix t (Ring cell ∷ dues) = refl

pub did_prefix : (t : Attempt) → (moved t Does).prefix ≡ t.prefix
unfolding moved
did_prefix t = did_first_prefix t t.due

module _ (lawful : List ℕ → Type 0) (may : List ℕ → List ℕ → Type 0) (terms : Terms) (w : World) (p : ℕ) (safe : Safe lawful may terms w) (caller : IsCaller terms p) where
  abbrev own : Attempt
  own = attempt_of w p

  abbrev later : World
  later = happened w (Steps p)

  -- by what the access finds
  step_prefix : ((answer : Answer) → (after own answer).prefix ≡ own.prefix) → (attempt_of later p).prefix ≡ own.prefix
  step_prefix same = elim (step_goes lawful may terms w p safe caller) [
    | inl stays ↦ ap (λ (u : Attempt). u.prefix) stays
    | inr on ↦ ap (λ (u : Attempt). u.prefix) on.2 ∙ same on.0
  ]

  -- who has committed reads no more
  pub committed_reads : (n : ℕ) → stamp_of own ≡ suc n → (attempt_of later p).prefix ≡ own.prefix
  committed_reads n is =
      let at = subst (λ (ending : Option Ending). EndingAt own.stage ending) (committed_by own.ending n is) (safe.attempts p caller).ending in
      step_prefix (λ answer. committed_prefix own own.stage (suc n) answer at)

  -- nor does who adds its entry
  pub winner_reads : length w.history < length later.history → (attempt_of later p).prefix ≡ own.prefix
  winner_reads more = elim (history_after w (Steps p)) [
    | inl same ↦ absurd (omega (arith, more, ap length same))
    | inr won ↦
        let decides = deciding_due own own.due w.clock won.0.access in
        step_prefix (λ answer. ap (λ (stage : Stage). (after_at own stage answer).prefix) decides.1 ∙ decide_prefix own decides.0 w.clock answer)
  ]
