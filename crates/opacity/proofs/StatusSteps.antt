-- The accesses to an attempt's own status word, and its first clock load, keep the world safe.
use Rattle.std.proofs.Common.{inr, inl, ◌∙◌, ◌&&◌, nat_eq, ◌≡◌, ◌≢◌, ℕ, suc, ◌<◌, ◌≤◌, true, false, Bool, None, Option, if◌then◌else◌, List, [], ◌∷◌, refl, sym, arith, inl, subst}
use Rattle.std.proofs.lemmas.List.Elements.{All-nil}
use Rattle.std.proofs.lemmas.Bool.Decides.{nat_tests}
use Rattle.meta_word.specs.declared.status.Phase.TheVariants.{Active, Doomed as DoomedPhase, Idle, Preparing}
use Rattle.meta_word.specs.declared.status.TxnStatus.{TxnStatus}
use Rattle.stm_model.specs.declared.cause.Cause.TheVariants.{Doomed}
use Rattle.stm_model.specs.declared.ending.Ending.{Ending}
use Rattle.stm_model.specs.Accesses.{active, next_at}
use Rattle.meta_word.specs.Status.{same_status}
use Rattle.stm_model.specs.After.{after_at, at, done, final_runs, mark_on, prepared, rolled, run_all}
use Rattle.stm_model.specs.Attempt.{cause_at, Announce, Attempt, Begin, Close, Ended, Prepare, Ready, Stage, Write, held_at, flies_at, unmarked_at, unstored_at}
use Rattle.stm_model.specs.Evidence.{Evidence}
use Rattle.stm_model.specs.Handlers.{preparing}
use Rattle.stm_model.specs.Heap.{writes_to}
use Rattle.stm_model.specs.History.{IsCurrent}
use Rattle.stm_model.specs.Safe.{NamesNote, IsKept, EndingAt, EndsSo, HasBegun, IsBlank, PhaseAt, Safe, SafeAttempt, SafeStage, SerialAt, serial_at, Sound}
use Rattle.stm_model.specs.World.{IsCaller, Terms, View, World, attempt_of, words_after, clock_after, found, replaced, seen_after, since_at, with_status, with_view}
use Rattle.opacity.proofs.Cells.{AlikeAt}
use Rattle.opacity.proofs.Ends.{rolled_open}
use Rattle.opacity.proofs.Fits.{ending_is, phase_is, safe_local, stage_is}
use Rattle.opacity.proofs.RollBacks.{mark_safe}
use Rattle.opacity.proofs.Places.{replaced_else, replaced_here}
use Rattle.opacity.proofs.Stands.{kept_flying, placed, serial_to, sound_at, told_same}
use Rattle.opacity.proofs.Stepping.{stepped}
use Rattle.opacity.proofs.Whole.{KeepsWord, OwnSafe}
use Rattle.opacity.proofs.OwnWords.{safe_words}

module _ (lawful : List ℕ → Type 0) (may : List ℕ → List ℕ → Type 0) (terms : Terms) (w : World) (p : ℕ) (safe : Safe lawful may terms w) (caller : IsCaller terms p) where
  abbrev t : Attempt
  t = attempt_of w p

  own : SafeAttempt terms w p t
  own = safe.attempts p caller

  sound : Sound terms w p t
  sound = own.sound

  -- ---- the own word is another

  -- the caller's own word, and all others, after a store of it
  word_here : (new : TxnStatus) → replaced w.status t.own new p ≡ new
  word_here new = rw own.sound.own (replaced_here w.status p new)

  words_else : (new : TxnStatus) (q : ℕ) → q ≢ p → KeepsWord (w.status q) (replaced w.status t.own new q)
  words_else new q other = inl (rw own.sound.own (replaced_else w.status p new q other))

  stored : (new : TxnStatus) (x : View) (stage : Stage) → t.stage ≡ stage → ((cell : ℕ) → AlikeAt cell x.attempt (at t stage)) → OwnSafe terms w p x new → Safe lawful may terms (with_view (with_status w t.own new) p x)
  stored new x stage is alike own_safe =
      safe_words lawful may terms w p safe caller (replaced w.status t.own new) x stage is alike (words_else new) (subst (λ (word : TxnStatus). OwnSafe terms w p x word) (sym (word_here new)) own_safe)

  serial_is : (stage : Stage) → t.stage ≡ stage → SerialAt stage t.serial (w.status p).serial
  serial_is stage is = subst (λ (s : Stage). SerialAt s t.serial (w.status p).serial) is (safe.statuses p caller).serial

  kept_is : (stage : Stage) → t.stage ≡ stage → flies_at stage ≡ true → IsKept t.stage t.ending
  kept_is stage is flies = subst (λ (s : Stage). IsKept s t.ending) (sym is) (kept_flying stage t.ending flies)

  -- ---- it begins

  announced_alike : (cell : ℕ) → AlikeAt cell (at (record t { phase = Active }) Begin) (at t Announce)
  unfolding held_at unstored_at
  announced_alike cell = record { held = refl; marked = λ held. refl; unstored = λ held. refl; stamp = λ held. refl }

  announced_attempt : t.stage ≡ Announce → SafeAttempt terms w p (at (record t { phase = Active }) Begin)
  unfolding SafeStage PhaseAt EndingAt EndsSo cause_at
  announced_attempt is =
      let blank : IsBlank t = stage_is terms w p Announce own is in
      let none : t.ending ≡ None = ending_is terms w p Announce own is in
      record {
        sound = sound;
        phase = refl;
        ending = none;
        ends_so = subst (λ (e : Option Ending). EndsSo w (at (record t { phase = Active }) Begin) e) (sym none) tt;
        refused = tt;
        stage = record { due = blank.due; notes = blank.notes; now = blank.now; saved = blank.saved };
      }

  announced : (is : t.stage ≡ Announce) → OwnSafe terms w p (record (w.view p) { attempt = at (record t { phase = Active }) Begin; since = (w.view p).seen }) (active t.serial)
  unfolding HasBegun SerialAt EndingAt flies_at
  announced is =
      let view = safe.views p caller.1 in
      let serial : t.serial ≡ suc (w.status p).serial = serial_is Announce is in
      let none : t.ending ≡ None = ending_is terms w p Announce own is in
      record {
        attempt = announced_attempt is;
        view = record { seen = view.seen; since = omega arith; clock = view.clock; fresh = λ begun flies. absurd begun };
        status = record { serial = refl; phase = inl refl };
        seen = omega arith;
        serial = omega (arith, serial);
        undecided = λ n within same flies stamp. safe.callers.undecided n p within same (kept_is Announce is refl) stamp;
      }

  pub keeps_announce : t.stage ≡ Announce → Safe lawful may terms (stepped w p Announce)
  unfolding next_at after_at words_after found seen_after since_at clock_after
  keeps_announce is = stored (active t.serial) _ Announce is announced_alike (announced is)

  begun_alike : t.stage ≡ Begin → (cell : ℕ) → AlikeAt cell (done (record t { prefix = w.clock })) (at t Begin)
  unfolding held_at SafeStage
  begun_alike is cell =
      let blank : IsBlank t = stage_is terms w p Begin own is in
      let free : writes_to t.now.writes cell ≡ false = rw blank.now refl in
      record { held = free; marked = λ held. cc; unstored = λ held. cc; stamp = λ held. cc }

  begun_sound : t.stage ≡ Begin → Sound terms w p (record t { prefix = w.clock })
  unfolding SafeStage
  begun_sound is = let blank : IsBlank t = stage_is terms w p Begin own is in sound_at terms w p t w.clock sound (omega (arith, safe.clock)) (rw blank.notes (All-nil (IsCurrent terms.opening w.history w.clock)))

  begun_own : t.stage ≡ Begin → OwnSafe terms w p (record (w.view p) { attempt = done (record t { prefix = w.clock }); seen = w.clock; clock = w.clock }) (w.status p)
  unfolding HasBegun SerialAt EndingAt EndsSo PhaseAt SafeStage flies_at
  begun_own is =
      let view = safe.views p caller.1 in
      let none : t.ending ≡ None = ending_is terms w p Begin own is in
      record {
        attempt = placed terms w p (record t { prefix = w.clock }) (begun_sound is) (rw none tt) (Ready None) tt (phase_is terms w p Begin own is) none tt;
        view = record { seen = omega (arith, safe.clock); since = omega (arith, view.since, view.seen, safe.clock); clock = omega (arith, safe.clock); fresh = λ begun flies. omega (arith, view.since, view.seen, safe.clock) };
        status = record { serial = serial_is Begin is; phase = (safe.statuses p caller).phase };
        seen = omega (arith, view.seen, safe.clock);
        serial = omega arith;
        undecided = λ n within same flies stamp. safe.callers.undecided n p within same (kept_is Begin is refl) stamp;
      }

  pub keeps_begin : t.stage ≡ Begin → Safe lawful may terms (stepped w p Begin)
  unfolding next_at after_at words_after found seen_after since_at clock_after
  keeps_begin is = safe_words lawful may terms w p safe caller w.status _ Begin is (begun_alike is) (λ q other. inl refl) (begun_own is)

  -- ---- it prepares

  abbrev prepares : Attempt
  prepares = record t { phase = Preparing; due = run_all (preparing t.now.hooks) }

  marking : (writes : List Write) → t.now.writes ≡ writes → (cell : ℕ) → AlikeAt cell (mark_on prepares writes) (at t Prepare)
  unfolding held_at unmarked_at unstored_at
  marking [] same cell = record { held = refl; marked = λ held. rw same refl; unstored = λ held. refl; stamp = λ held. refl }
  marking (write ∷ behind) same cell = record { held = refl; marked = λ held. rw same refl; unstored = λ held. refl; stamp = λ held. refl }

  -- what marking makes of the attempt's other parts
  marking_same : (writes : List Write) → ((mark_on prepares writes).serial ≡ t.serial) × ((mark_on prepares writes).phase ≡ Preparing) × ((mark_on prepares writes).prefix ≡ t.prefix) × HasBegun (mark_on prepares writes).stage
      × ((mark_on prepares writes).ending ≡ t.ending)
  unfolding HasBegun
  marking_same [] = (refl, refl, refl, tt, refl)
  marking_same (write ∷ behind) = (refl, refl, refl, tt, refl)

  prepared_own : t.stage ≡ Prepare → OwnSafe terms w p (record (w.view p) { attempt = mark_on prepares t.now.writes }) (record { serial = t.serial; phase = Preparing })
  unfolding HasBegun SerialAt EndingAt flies_at SafeStage
  prepared_own is =
      let view = safe.views p caller.1 in
      let none : t.ending ≡ None = ending_is terms w p Prepare own is in
      let serial : t.serial ≡ (w.status p).serial = serial_is Prepare is in
      let same = marking_same t.now.writes in
      let u = mark_on prepares t.now.writes in
      let begun : HasBegun t.stage = subst (λ (s : Stage). HasBegun s) (sym is) tt in
      let kept : IsKept t.stage t.ending = kept_is Prepare is refl in
      record {
        attempt = mark_safe terms w p prepares t.now.writes sound refl none (stage_is terms w p Prepare own is) ([], refl);
        view = record {
          seen = view.seen;
          since = view.since;
          clock = view.clock;
          fresh = λ now in_flight. let low : (w.view p).since ≤ t.prefix = view.fresh begun kept in omega (arith, low, same.2);
        };
        status = record { serial = serial_to u.stage u.serial t.serial same.3 same.0; phase = inl (sym same.1) };
        seen = omega arith;
        serial = omega (arith, serial);
        undecided = λ n within at_own in_flight stamp.
            let low : serial_at w n < t.serial = safe.callers.undecided n p within at_own kept (rw none refl) in
            omega (arith, low, same.0);
      }

  -- an active word with the attempt's serial would have been exchanged
  active_same : (word : TxnStatus) (serial : ℕ) → serial ≡ word.serial → word.phase ≡ Active → same_status word (active serial) ≡ true
  active_same word serial same is = rw (is, same) (one word.serial)
    where
      one : (n : ℕ) → (nat_eq n n && nat_eq 1 1) ≡ true
      one n = grind (arith, nat_tests)

  pub doomed_word : t.stage ≡ Prepare → same_status (w.status t.own) (active t.serial) ≡ false → (w.status t.own).phase ≡ DoomedPhase
  unfolding PhaseAt SerialAt
  doomed_word is lost =
      let serial : t.serial ≡ (w.status p).serial = serial_is Prepare is in
      let active_phase : t.phase ≡ Active = phase_is terms w p Prepare own is in
      rw own.sound.own (elim (safe.statuses p caller).phase [
        | inl same ↦
            let never : true ≡ false = sym (active_same (w.status p) t.serial serial (same ∙ active_phase)) ∙ rw own.sound.own at lost in
            cc
        | inr doomed ↦ doomed.1
      ])

  pub keeps_prepare : t.stage ≡ Prepare → Safe lawful may terms (stepped w p Prepare)
  unfolding next_at after_at words_after found seen_after since_at clock_after prepared Evidence NamesNote
  keeps_prepare is = go (same_status (w.status t.own) (active t.serial)) refl
    where
      go : (b : Bool) → same_status (w.status t.own) (active t.serial) ≡ b → Safe lawful may terms (with_view (if b then with_status w t.own (record { serial = t.serial; phase = Preparing }) else w) p (record (w.view p) {
        attempt =
            if b then mark_on (record t { phase = Preparing; due = run_all (preparing t.now.hooks) }) t.now.writes else rolled t (Doomed (w.status t.own));
      }))
      go true same = stored (record { serial = t.serial; phase = Preparing }) _ Prepare is (marking t.now.writes refl) (prepared_own is)
      go false lost = safe_local lawful may terms w p safe caller Prepare is _ (rolled_open terms w p t Prepare tt (phase_is terms w p Prepare own is) (ending_is terms w p Prepare own is) sound (Doomed (w.status t.own)) (doomed_word is lost, tt))

  -- ---- it is over

  abbrev over : Attempt
  over = record t { phase = Idle; due = run_all (final_runs t.ending t.now.hooks) }

  closed_alike : (cell : ℕ) → AlikeAt cell (at over Ended) (at t Close)
  unfolding held_at unstored_at
  closed_alike cell = record { held = refl; marked = λ held. refl; unstored = λ held. refl; stamp = λ held. refl }

  closed_own : t.stage ≡ Close → OwnSafe terms w p (record (w.view p) { attempt = at over Ended }) (record { serial = t.serial; phase = Idle })
  unfolding HasBegun SerialAt EndingAt SafeStage PhaseAt flies_at
  closed_own is =
      let view = safe.views p caller.1 in
      let serial : t.serial ≡ (w.status p).serial = serial_is Close is in
      let begun : HasBegun t.stage = subst (λ (s : Stage). HasBegun s) (sym is) tt in
      let kept : IsKept t.stage t.ending = kept_is Close is refl in
      record {
        attempt = placed terms w p over sound
            (told_same terms w p t over (record { own = refl; serial = refl; settings = refl; prefix = refl; notes = refl; writes = refl; saved = refl }) t.ending own.ends_so) Ended tt refl tt tt;
        view = record { seen = view.seen; since = view.since; clock = view.clock; fresh = λ now still. view.fresh begun kept };
        status = record { serial = refl; phase = inl refl };
        seen = omega arith;
        serial = omega (arith, serial);
        undecided = λ n within same still stamp. safe.callers.undecided n p within same kept stamp;
      }

  pub keeps_close : t.stage ≡ Close → Safe lawful may terms (stepped w p Close)
  unfolding next_at after_at words_after found seen_after since_at clock_after
  keeps_close is = stored (record { serial = t.serial; phase = Idle }) _ Close is closed_alike (closed_own is)
