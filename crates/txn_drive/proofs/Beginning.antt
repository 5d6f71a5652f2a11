-- The begin of an attempt. Here r is an attempt as it is kept, and t an attempt.
use Rattle.std.proofs.Common.{◌≡◌, ℕ, suc, ◌+◌, ◌<◌, List, [], ◌∷◌, length, Some, refl, sym, ap, subst, ◌∙◌, arith}
use Rattle.opacity.specs.Words.{IsOfTable}
use Rattle.ref_table.specs.Limits.{TableFits}
use Rattle.ref_table.specs.Performs.{ComesFrom, IsStepOfWorld, Performed, seen_then}
use Rattle.ref_table.specs.Seats.{IsSameSeat, SeatState}
use Rattle.ref_table.specs.Seen.{SafeSeat}
use Rattle.stm_core.specs.Running.{NumbersFit}
use Rattle.stm_model.specs.Accesses.{access_of, answer_of, next_at, word_of}
use Rattle.stm_model.specs.After.{after_at}
use Rattle.stm_model.specs.Attempt.{Announce, Attempt, Due, Ended, Ring, Run, no_attempt}
use Rattle.stm_model.specs.Moves.{Begins, Does, May, did_first, moved}
use Rattle.stm_model.specs.World.{Terms, since_at}
use Rattle.stm_model.specs.declared.access.Access.TheVariants.{Load}
use Rattle.stm_model.specs.declared.access.Word.TheVariants.{Clock}
use Rattle.stm_model.specs.declared.settings.Settings.{Settings}
use Rattle.txn_drive.specs.Begun.{IsBegun, begun, first_of, unbegun}
use Rattle.txn_drive.specs.Opening.{Opens, announced, announcement, opened}
use Rattle.txn_drive.specs.Stepping.{Accesses, MayAccess}
use Rattle.txn_drive.proofs.Here.{may_access}
use Rattle.txn_drive.proofs.Onward.{sees_on}
use Rattle.txn_drive.proofs.Stepped.{accessed}
use Rattle.txn_drive.proofs.Settling.{comes_on, comes_self}

-- ---- the next attempt comes by local moves from the one that is over

-- Nothing is due of it any more.
record IsDone (terms : Terms) (known : Attempt) : Type 0 where
  attempt : Attempt
  comes : ComesFrom terms known attempt
  over : attempt.stage ≡ Ended
  nothing_due : attempt.due ≡ []
  own : attempt.own ≡ known.own
  serial : attempt.serial ≡ known.serial

module _ (terms : Terms) (known : Attempt) where
  does_all : (t : Attempt) (dues : List Due) → t.due ≡ dues → ComesFrom terms known t → t.stage ≡ Ended → t.own ≡ known.own → t.serial ≡ known.serial → IsDone terms known
  unfolding moved May
  does_all t [] is comes over own serial = record { attempt = t; comes = comes; over = over; nothing_due = is; own = own; serial = serial }
  does_all t (Run phase token ∷ dues) is comes over own serial =
      let u : Attempt = did_first t (Run phase token ∷ dues) in
      let some : 0 < length t.due = (let many = ap length is in omega (arith, many)) in
      does_all u dues refl (comes_on terms known t u Does comes some (sym (ap (did_first t) is))) over own serial
  does_all t (Ring cell ∷ dues) is comes over own serial =
      let u : Attempt = did_first t (Ring cell ∷ dues) in
      let some : 0 < length t.due = (let many = ap length is in omega (arith, many)) in
      does_all u dues refl (comes_on terms known t u Does comes some (sym (ap (did_first t) is))) over own serial

  all_done : known.stage ≡ Ended → IsDone terms known
  all_done over = does_all known known.due refl (comes_self terms known) over refl refl

-- ---- the begin

-- The number after the latest one is its own.
pub unbegun_so : (number other serial latest : ℕ) (settings given : Settings) → other ≡ number → serial ≡ latest → given ≡ settings → unbegun other (serial + 1) given ≡ unbegun number (suc latest) settings
unbegun_so number other serial latest settings given own same is =
    let more : serial + 1 ≡ suc latest = omega (arith, same) in
    λ i. unbegun (own i) (more i) (is i)

module _ (lawful : List ℕ → Type 0) (may : List ℕ → List ℕ → Type 0) (terms : Terms) (settings : Settings) (limit : settings.clock ≡ terms.limit) (seat : SeatState) (safe : SafeSeat lawful may terms seat) where
  -- Its numbers have room in their words.
  pub numbers_fit : (count : ℕ) (given : Settings) → given ≡ settings → TableFits count given → settings.callers ≡ terms.callers → seat.view.attempt.serial < settings.attempts → NumbersFit seat.number (suc seat.view.attempt.serial) given
  numbers_fit count given same fits callers attempts =
      let own = safe.caller.1 in
      let owners = fits.callers in
      let most = fits.attempts in
      let looks = fits.looks in
      let same_callers = ap (λ (s : Settings). s.callers) same in
      let same_attempts = ap (λ (s : Settings). s.attempts) same in
      record {
        own = omega (arith, own, owners, callers, same_callers);
        serials = omega (arith, attempts, most, same_attempts);
        limits = record { looks = omega (arith, looks); clock = fits.clock };
      }

  comes_first : (count : ℕ) → TableFits count settings → seat.view.attempt.stage ≡ Ended → seat.view.attempt.serial < settings.attempts → ComesFrom terms seat.view.attempt (first_of seat settings)
  unfolding moved May
  comes_first count fits over attempts =
      let known : Attempt = seat.view.attempt in
      let done = all_done terms known over in
      comes_on terms known done.attempt (first_of seat settings) (Begins settings) done.comes
      (done.over, done.nothing_due, limit, subst (λ (n : ℕ). n < settings.attempts) (sym done.serial) attempts, fits.attempts)
      (ap (λ (own : ℕ). record (no_attempt own settings) { serial = suc known.serial; stage = Announce }) (sym (done.own ∙ safe.own))
      ∙ ap (λ (serial : ℕ). record (no_attempt done.attempt.own settings) { serial = suc serial; stage = Announce }) (sym done.serial))

  -- It may store its status.
  pub may_announce : (count : ℕ) (t : Attempt) → TableFits count settings → seat.view.attempt.stage ≡ Ended → seat.view.attempt.serial < settings.attempts → t ≡ first_of seat settings
      → MayAccess lawful may terms seat.view (announcement t.own t.serial) t
  unfolding next_at access_of word_of IsOfTable
  may_announce count t fits over attempts is =
      subst (λ (a : Attempt). MayAccess lawful may terms seat.view (announcement a.own a.serial) a) (sym is) (record {
        comes = comes_first count fits over attempts;
        is_next = refl;
        word = safe.caller;
        limit = limit;
        owes = λ old wins. cc wins;
      })

  -- Its two accesses are the begin.
  pub has_begun : (last : SeatState) (clock : ℕ) → Opens lawful may terms seat (first_of seat settings) last clock → IsBegun lawful may terms settings seat last (begun seat settings clock)
  unfolding next_at answer_of after_at since_at seen_then
  has_begun last clock opens =
      let one = opens.announces in
      let two = opens.loads in record {
        is = refl;
        prefix = ap (λ (a : Attempt). a.prefix) two.leads ∙ sym two.count;
        on = two.on;
        seat = sees_on (suc seat.view.attempt.serial) seat opens.between last one.seat two.seat;
        since = two.since ∙ (one.since ∙ sym safe.counted);
      }

-- The accesses are made.
module _ (lawful : List ℕ → Type 0) (may : List ℕ → List ℕ → Type 0) (terms : Terms) (number serial : ℕ) (settings : Settings) (before between : SeatState) (found : ℕ)
    (able : MayAccess lawful may terms before.view (announcement number serial) (unbegun number serial settings)) (same : IsSameSeat before between)
    (steps : IsStepOfWorld lawful may terms (announcement number serial) found before between (Some (unbegun number serial settings)))
    (performed : Performed (unbegun number serial settings) found before between) (safe : SafeSeat lawful may terms between) where
  abbrev t : Attempt
  t = unbegun number serial settings

  announces : Accesses lawful may terms before t between (announced t)
  unfolding next_at answer_of after_at
  announces = accessed lawful may terms before between t (announced t) (announcement number serial) found able same steps performed safe refl (record { own = refl; serial = refl; settings = refl })

  pub may_load : MayAccess lawful may terms between.view (Load Clock) (announced t)
  unfolding next_at access_of
  may_load = may_access lawful may terms between (announced t) announces.on (Load Clock) refl (λ old wins. cc wins)

  pub opens_so : (last : SeatState) (clock : ℕ) → IsSameSeat between last → IsStepOfWorld lawful may terms (Load Clock) clock between last (Some (announced t))
      → Performed (announced t) clock between last → SafeSeat lawful may terms last → Opens lawful may terms before t last clock
  unfolding next_at answer_of after_at
  opens_so last clock same_then steps_then performed_then safe_then = record {
    between = between;
    announces = announces;
    loads = accessed lawful may terms between last (announced t) (opened t clock) (Load Clock) clock may_load same_then steps_then performed_then safe_then refl (record { own = refl; serial = refl; settings = refl });
  }
