-- Each local move keeps the world safe.
use Rattle.std.proofs.Common.{IfSome, ◌≡◌, ℕ, suc, ◌<◌, ◌≤◌, ◌⊎◌, Option, List, [], ◌∷◌, ◌++◌, length, refl, sym, ap, ◌∙◌, arith, inl, inr, subst}
use Rattle.std.specs.List.{IsDistinct}
use Rattle.meta_word.specs.declared.status.Phase.{Phase}
use Rattle.meta_word.specs.declared.status.Phase.TheVariants.{Active, Doomed, Idle}
use Rattle.meta_word.specs.declared.status.TheConstants.{MAX_SERIAL}
use Rattle.stm_model.specs.declared.cause.Cause.TheVariants.{Memory}
use Rattle.stm_model.specs.declared.ending.Ending.{Ending}
use Rattle.stm_model.specs.declared.settings.Settings.{Settings}
use Rattle.stm_model.specs.After.{at}
use Rattle.stm_model.specs.Attempt.{cause_at, no_attempt, Attempt, Announce, Begin, Due, Ended, Late, Ready, Ring, Run, Stage, Stopped, held_at}
use Rattle.stm_model.specs.Evidence.{Evidence}
use Rattle.stm_model.specs.Moves.{Forgets, Begins, Does, OutOfMemory, May, Move, EndsLate, Takes, AwaitsAskAt, begun, did_first, moved, late_over_at}
use Rattle.stm_model.specs.Safe.{NamesNote, IsKept, EndingAt, HasBegun, PhaseAt, Safe, SafeAttempt, SafeStage, SerialAt, EndsSo, caller_at, serial_at, Sound}
use Rattle.stm_model.specs.World.{IsCaller, Terms, World, attempt_of, cells_in, move, with_view}
use Rattle.opacity.proofs.Shown.{Shows, if_shown, if_shows}
use Rattle.opacity.proofs.Asks.{asked_fits}
use Rattle.opacity.proofs.Cells.{AlikeAt, alike_refl, same_of}
use Rattle.opacity.proofs.Ends.{gone_on, rolled_open, stopped_open}
use Rattle.opacity.proofs.Fits.{Fits, IsOpen, phase_is, safe_local}
use Rattle.opacity.proofs.Places.{attempt_else, attempt_here}
use Rattle.opacity.proofs.Stands.{SameGround, blank_sound, stage_same, told_same}
use Rattle.opacity.proofs.Whole.{OwnSafe, safe_moved}

waits_open : (stage : Stage) → AwaitsAskAt stage → IsOpen stage
unfolding AwaitsAskAt
waits_open (Ready answer) waits = tt
waits_open (Late token) waits = tt
waits_open (Stopped cause) waits = tt
waits_open stage waits = absurd waits

-- Before it has begun nothing is due.
begun_unless_blank : (terms : Terms) (w : World) (t : Attempt) (stage : Stage) → SafeStage terms w t stage → 0 < length t.due → HasBegun stage
unfolding HasBegun SafeStage
begun_unless_blank terms w t Announce blank due = let none : length t.due ≡ 0 = ap length blank.due in omega arith
begun_unless_blank terms w t Begin blank due = let none : length t.due ≡ 0 = ap length blank.due in omega arith
begun_unless_blank terms w t stage safe due = tt

returned_fits : (terms : Terms) (w : World) (p : ℕ) (t : Attempt) (stage : Stage) → AwaitsAskAt stage → PhaseAt stage t.ending t.phase → EndingAt stage t.ending → Sound terms w p t → IfSome (cause_at stage) (Shows t) → Fits terms w p (at t stage) (late_over_at t stage)
unfolding late_over_at AwaitsAskAt cause_at
returned_fits terms w p t (Ready answer) waits phase ending sound shown = gone_on terms w p t (Ready answer) tt phase ending sound
returned_fits terms w p t (Late token) waits phase ending sound shown = gone_on terms w p t (Late token) tt phase ending sound
returned_fits terms w p t (Stopped cause) waits phase ending sound shown = rolled_open terms w p t (Stopped cause) tt phase ending sound cause shown
returned_fits terms w p t stage waits phase ending sound shown = absurd waits

module _ (terms : Terms) (w : World) (p : ℕ) (t : Attempt) (safe : SafeAttempt terms w p t) (some : 0 < length t.due) where
  begun_here : HasBegun t.stage
  begun_here = begun_unless_blank terms w t t.stage safe.stage some

  -- What is due is done, and that leaves what it has read and written.
  same_ground : (u : Attempt) → SameGround t u → u.stage ≡ t.stage → u.phase ≡ t.phase → u.ending ≡ t.ending → ((cell : ℕ) → AlikeAt cell u t) → Sound terms w p u → Fits terms w p t u
  same_ground u same stage phase ending alike sound = record {
    alike = alike;
    follows = record {
      serial = same.serial;
      phase = phase;
      prefix = rw same.prefix (omega arith);
      began = begun_here;
      begun = rw stage begun_here;
      kept = λ kept. rw (stage, ending) at kept;
      undecided = λ kept undecided. rw ending at undecided;
    };
    safe = record {
      sound = sound;
      phase = rw (stage, ending, phase) safe.phase;
      ending = rw (stage, ending) safe.ending;
      ends_so = subst (λ (e : Option Ending). EndsSo w u e) (sym ending) (told_same terms w p t u same t.ending safe.ends_so);
      refused = if_shown u (cause_at u.stage) (rw (stage, same.own, same.settings, same.notes) (if_shows t (cause_at t.stage) safe.refused));
      stage = subst (λ (s : Stage). SafeStage terms w u s) (sym stage) (stage_same terms w p t u same t.stage begun_here safe.stage);
    };
  }

  did_fits : (due : List Due) → Fits terms w p t (did_first t due)
  did_fits [] = same_ground t (record { own = refl; serial = refl; settings = refl; prefix = refl; notes = refl; writes = refl; saved = refl }) refl refl refl (λ cell. alike_refl cell t) safe.sound
  did_fits (Run phase token ∷ dues) =
      same_ground (record t { now = record t.now { runs = t.now.runs ++ (phase, token) ∷ [] }; due = dues })
      (record { own = refl; serial = refl; settings = refl; prefix = refl; notes = refl; writes = refl; saved = refl }) refl refl refl
      (λ cell. record { held = refl; marked = λ h. refl; unstored = λ h. refl; stamp = λ h. refl })
      safe.sound
  did_fits (Ring cell ∷ dues) =
      same_ground (record t { rings = t.rings ++ cell ∷ []; due = dues })
      (record { own = refl; serial = refl; settings = refl; prefix = refl; notes = refl; writes = refl; saved = refl }) refl refl refl
      (λ cell. record { held = refl; marked = λ h. refl; unstored = λ h. refl; stamp = λ h. refl })
      safe.sound

-- ---- the next attempt

module _ (terms : Terms) (w : World) (p : ℕ) (settings : Settings) where
  begun_safe : (t : Attempt) → t.own ≡ p → settings.clock ≡ terms.limit → t.serial < MAX_SERIAL → SafeAttempt terms w p (begun t settings)
  unfolding SafeStage PhaseAt EndingAt EndsSo IsDistinct cause_at
  begun_safe t own limit room = record {
    sound = rw own (blank_sound terms w p (suc t.serial) settings.clock (omega arith) limit);
    phase = refl;
    ending = refl;
    ends_so = tt;
    refused = tt;
    stage = record { notes = refl; now = refl; saved = refl; due = refl };
  }

  begun_alike : (t : Attempt) (cell : ℕ) → AlikeAt cell (begun t settings) (at t Ended)
  unfolding held_at
  begun_alike t cell = record { held = refl; marked = λ held. cc; unstored = λ held. cc; stamp = λ held. cc }

module _ (lawful : List ℕ → Type 0) (may : List ℕ → List ℕ → Type 0) (terms : Terms) (w : World) (p : ℕ) (safe : Safe lawful may terms w) (caller : IsCaller terms p) where
  begun_own : (settings : Settings) → (attempt_of w p).stage ≡ Ended → settings.clock ≡ terms.limit → (attempt_of w p).serial < MAX_SERIAL
      → OwnSafe terms w p (record (w.view p) { attempt = begun (attempt_of w p) settings }) (w.status p)
  unfolding HasBegun SerialAt PhaseAt
  begun_own settings is limit room =
      let t = attempt_of w p in
      let view = safe.views p caller.1 in
      let status = safe.statuses p caller in
      let serial : t.serial ≡ (w.status p).serial = subst (λ (stage : Stage). SerialAt stage t.serial (w.status p).serial) is status.serial in
      let idle : t.phase ≡ Idle = phase_is terms w p Ended (safe.attempts p caller) is in
      record {
        attempt = begun_safe terms w p settings t (safe.attempts p caller).sound.own limit room;
        view = record { seen = view.seen; since = view.since; clock = view.clock; fresh = λ begun flies. absurd begun };
        status = record { serial = ap suc serial; phase = rest idle status.phase };
        seen = omega arith;
        serial = omega arith;
        undecided = λ n within same flies none.
            let low : serial_at w n ≤ (w.status (caller_at w n)).serial = safe.callers.latest n within in
            let here : serial_at w n ≤ (w.status p).serial = rw same at low in
            omega (arith, here, serial);
      }
    where
      rest : (attempt_of w p).phase ≡ Idle → ((w.status p).phase ≡ (attempt_of w p).phase) ⊎ (((attempt_of w p).phase ≡ Active) × ((w.status p).phase ≡ Doomed)) → ((w.status p).phase ≡ Idle) ⊎ ((Idle ≡ Active) × ((w.status p).phase ≡ Doomed))
      rest idle (inl same) = inl (same ∙ idle)
      rest idle (inr is) = let never : Active ≡ Idle = sym is.0 ∙ idle in cc

  begins : (settings : Settings) → May (cells_in terms) terms.limit (attempt_of w p) (Begins settings) → Safe lawful may terms (move w p (Begins settings))
  unfolding May moved
  begins settings able =
      let x = record (w.view p) { attempt = begun (attempt_of w p) settings } in
      let alike = λ (cell : ℕ). subst (λ (stage : Stage). AlikeAt cell (begun (attempt_of w p) settings) (at (attempt_of w p) stage)) (sym able.0) (begun_alike terms w p settings (attempt_of w p) cell) in
      safe_moved lawful may terms w w.meta w.value w.status p x safe caller
      (λ cell within. inl (same_of terms w (with_view w p x) p cell (safe.cells cell within) caller.0 (attempt_else w p x) (rw (attempt_here w p x) (alike cell)) refl refl refl refl))
      (λ q other. inl refl)
      (begun_own settings able.0 able.2 (omega (arith, able.3, able.4)))

  -- ---- an attempt that is over is let go

  abbrev forgotten : Attempt
  forgotten = record (no_attempt (attempt_of w p).own (attempt_of w p).settings) { serial = (attempt_of w p).serial }

  forgotten_alike : (attempt_of w p).stage ≡ Ended → (cell : ℕ) → AlikeAt cell forgotten (attempt_of w p)
  unfolding held_at
  forgotten_alike is cell =
      subst (λ (stage : Stage). AlikeAt cell forgotten (at (attempt_of w p) stage)) (sym is)
      (record { held = refl; marked = λ held. cc; unstored = λ held. cc; stamp = λ held. cc })

  forgotten_safe : SafeAttempt terms w p forgotten
  unfolding SafeStage PhaseAt EndingAt EndsSo IsDistinct cause_at
  forgotten_safe =
      let sound = (safe.attempts p caller).sound in
      record {
        sound = rw sound.own (blank_sound terms w p (attempt_of w p).serial (attempt_of w p).settings.clock sound.serial sound.limit);
        phase = refl;
        ending = tt;
        ends_so = tt;
        refused = tt;
        stage = tt;
      }

  forgotten_own : (attempt_of w p).stage ≡ Ended → OwnSafe terms w p (record (w.view p) { attempt = forgotten }) (w.status p)
  unfolding SerialAt PhaseAt IsKept
  forgotten_own is =
      let t = attempt_of w p in
      let view = safe.views p caller.1 in
      let status = safe.statuses p caller in
      let idle : t.phase ≡ Idle = phase_is terms w p Ended (safe.attempts p caller) is in
      record {
        attempt = forgotten_safe;
        view = record { seen = view.seen; since = view.since; clock = view.clock; fresh = λ begun kept. absurd kept };
        status = record { serial = subst (λ (stage : Stage). SerialAt stage t.serial (w.status p).serial) is status.serial; phase = subst (λ (phase : Phase). ((w.status p).phase ≡ phase) ⊎ ((phase ≡ Active) × ((w.status p).phase ≡ Doomed))) idle status.phase };
        seen = omega arith;
        serial = omega arith;
        undecided = λ n within same kept none. absurd kept;
      }

  forgets : (attempt_of w p).stage ≡ Ended → Safe lawful may terms (move w p Forgets)
  unfolding moved
  forgets is =
      let x = record (w.view p) { attempt = forgotten } in
      safe_moved lawful may terms w w.meta w.value w.status p x safe caller
      (λ cell within. inl (same_of terms w (with_view w p x) p cell (safe.cells cell within) caller.0 (attempt_else w p x) (rw (attempt_here w p x) (forgotten_alike is cell)) refl refl refl refl))
      (λ q other. inl refl)
      (forgotten_own is)

  pub move_safe : (this : Move) → May (cells_in terms) terms.limit (attempt_of w p) this → Safe lawful may terms (move w p this)
  unfolding May moved Evidence NamesNote
  move_safe (Takes ask) able =
      let t = attempt_of w p in
      let own = safe.attempts p caller in
      safe_local lawful may terms w p safe caller t.stage refl _ (asked_fits terms w p t t.stage refl able.0.stands own.phase own.ending own.sound (if_shows t (cause_at t.stage) own.refused) ask able.1)
  move_safe (OutOfMemory ask) able =
      let t = attempt_of w p in
      let own = safe.attempts p caller in
      safe_local lawful may terms w p safe caller t.stage refl _ (stopped_open terms w p t t.stage (waits_open t.stage able.0.stands) own.phase own.ending own.sound Memory (tt, tt))
  move_safe Does able =
      let t = attempt_of w p in
      safe_local lawful may terms w p safe caller t.stage refl _ (did_fits terms w p t (safe.attempts p caller) able t.due)
  move_safe EndsLate able =
      let t = attempt_of w p in
      let own = safe.attempts p caller in
      safe_local lawful may terms w p safe caller t.stage refl _ (returned_fits terms w p t t.stage able.0.stands own.phase own.ending own.sound (if_shows t (cause_at t.stage) own.refused))
  move_safe Forgets able = forgets able.0
  move_safe (Begins settings) able = begins settings able
