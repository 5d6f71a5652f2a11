-- Each access of an attempt keeps it alone, where no other caller has one in flight.
use Rattle.std.proofs.Common.{◌≡◌, ◌≢◌, ℕ, suc, nat_eq, nat_lt, ◌<◌, ◌≤◌, ◌&&◌, ◌++◌, not, true, false, Bool, Some, None, Option, if◌then◌else◌, List, [], ◌∷◌, length, refl, sym, ap, ◌∙◌, arith, subst}
use Rattle.std.proofs.lemmas.Bool.{eq-eqb, le-ltb}
use Rattle.meta_word.specs.Meta.{changing_by_another, owned_by_another, still_has, same_but_pending, same_meta}
use Rattle.meta_word.specs.declared.meta.Meta.{Meta}
use Rattle.meta_word.specs.declared.status.Phase.TheVariants.{Doomed as DoomedPhase, Preparing}
use Rattle.stm_model.specs.declared.cause.Cause.TheVariants.{ClockMoved, Doomed}
use Rattle.stm_model.specs.declared.ending.Ending.TheVariants.{Committed}
use Rattle.stm_model.specs.declared.note.Note.{Note}
use Rattle.stm_model.specs.Accesses.{Act, active, next_at, owned}
use Rattle.meta_word.specs.Status.{same_status}
use Rattle.stm_model.specs.After.{meta_acquired, acquiring, after_at, at, note_validated, decided, done, meta_read, validated, mark_on, note_of, exchanged, prepared, ring_if, rolled, run_all, store_on, acquire_again}
use Rattle.stm_model.specs.Attempt.{Announce, Begin, ReadMeta, ExtendClock, ExtendNote, ReadValue, Validate, AcquireMeta, Acquire, OwnerStatus, OwnerMeta, DoomOwner, ReleaseLevel, Prepare, Mark, CommitClock, CommitNote, Decide, StoreValues, Release, RollBack, Close, Attempt, Stage, cause_at}
use Rattle.stm_model.specs.Handlers.{committing, preparing}
use Rattle.stm_model.specs.Heap.{put}
use Rattle.stm_model.specs.History.{IsCurrent}
use Rattle.stm_model.specs.Safe.{EndingAt, IsToRead, IsToWrite, Safe, SafeAttempt, SafeStage, WasSampled}
use Rattle.stm_model.specs.World.{IsCaller, Terms, World, attempt_of, cells_in, entry_of, found, with_meta, with_status, words_after}
use Rattle.opacity.specs.Alone.{AloneAt, EndsByItself, GoesAlone, IsLone}
use Rattle.opacity.proofs.Acquires.{nobodys, same_whole}
use Rattle.opacity.proofs.Fits.{ending_is, stage_is}
use Rattle.opacity.proofs.Lone.{chosen, not_another, not_changing, note_now, passed, still}
use Rattle.opacity.proofs.ReadSteps.{no_stamp, version_length}
use Rattle.opacity.proofs.Shown.{all_at, found_note}
use Rattle.opacity.proofs.LoneMoves.{goes_roll_back, goes_validate, goes_release_level, goes_mark, goes_plain, goes_release, goes_store}
use Rattle.opacity.proofs.StatusSteps.{doomed_word}

module _ (lawful : List ℕ → Type 0) (may : List ℕ → List ℕ → Type 0) (terms : Terms) (w : World) (p : ℕ) (safe : Safe lawful may terms w) (caller : IsCaller terms p) (lone : IsLone w p)
    (word : (w.status p).phase ≢ DoomedPhase) (goes : GoesAlone (length w.history) w.meta (attempt_of w p)) where
  abbrev t : Attempt
  t = attempt_of w p

  abbrev n : ℕ
  n = length w.history

  own : SafeAttempt terms w p t
  own = safe.attempts p caller

  calm : EndsByItself t.ending
  calm = goes.undisturbed.ending

  -- The attempt after this access goes on alone, over the history and the metadata after it.
  abbrev pub Then : Stage → Option Act → Type 0
  Then stage None = Unit {0}
  Then stage (Some this) = GoesAlone (length (words_after w t this).history) (words_after w t this).meta (after_at t stage (found w this))

  solo_is : (stage : Stage) → t.stage ≡ stage → AloneAt n w.meta t.prefix stage
  solo_is stage is = subst (λ (s : Stage). AloneAt n w.meta t.prefix s) is goes.stage

  abbrev Here : Attempt → Type 0
  Here u = GoesAlone n w.meta u

  meta_reads : (cell left : ℕ) → t.stage ≡ ReadMeta cell left → Here (meta_read t cell left (w.meta cell))
  unfolding meta_read SafeStage cause_at
  meta_reads cell left is =
      let read : IsToRead terms t cell = stage_is terms w p (ReadMeta cell left) own is in
      let here : t.prefix ≡ n = solo_is (ReadMeta cell left) is in
      let low : (w.meta cell).version ≤ t.prefix = omega (arith, here, version_length terms w cell (safe.cells cell read.in_range)) in
      passed Here (changing_by_another t.own (w.meta cell)) _ _ (not_changing lawful may terms w p safe caller lone cell read.in_range)
      (passed Here (nat_lt t.prefix (w.meta cell).version) _ _ (le-ltb t.prefix (w.meta cell).version low)
      (goes_plain n w.meta t calm (ReadValue cell left (w.meta cell)) tt (here, refl)))

  validates : (cell left : ℕ) (first : Meta) (value : ℕ) → t.stage ≡ Validate cell left first value → Here (validated t cell left first value (w.meta cell))
  unfolding validated SafeStage cause_at
  validates cell left first value is =
      let at_stage = stage_is terms w p (Validate cell left first value) own is in
      let solo : (t.prefix ≡ n) × (first.version ≡ (w.meta cell).version) = solo_is (Validate cell left first value) is in
      chosen Here (still_has t.own first.version (w.meta cell)) _ _ (still lawful may terms w p safe caller lone cell first.version at_stage.0.in_range (sym solo.1))
      (record { stage = solo.0; undisturbed = record { refused = tt; ending = calm } })

  acquires : (cell value left : ℕ) (tried : Bool) → t.stage ≡ AcquireMeta cell value left tried → Here (acquiring t cell value left tried (w.meta cell))
  unfolding acquiring SafeStage cause_at
  acquires cell value left tried is =
      let write : IsToWrite terms t cell value = stage_is terms w p (AcquireMeta cell value left tried) own is in
      let here : t.prefix ≡ n = solo_is (AcquireMeta cell value left tried) is in
      let none : owned_by_another t.own (w.meta cell) ≡ false = not_another lawful may terms w p safe caller lone cell write.in_range in
      let nobody : (w.meta cell).owner ≡ 0 = nobodys lawful may terms w p safe caller (AcquireMeta cell value left tried) tt is cell value write none in
      passed Here (owned_by_another t.own (w.meta cell)) _ _ none
      (chosen Here (nat_eq (w.meta cell).owner 0) _ _ (eq-eqb (w.meta cell).owner 0 nobody) (goes_plain n w.meta t calm (Acquire cell value left tried (w.meta cell) (w.meta cell) false) tt (here, refl)))

  by_note : (cell value left : ℕ) (tried : Bool) → t.stage ≡ AcquireMeta cell value left tried → (found : Option Note) → note_of t.notes cell ≡ found → Here (meta_acquired t cell value left tried found (w.meta cell))
  by_note cell value left tried is None noted = acquires cell value left tried is
  by_note cell value left tried is (Some note) noted =
      let here : t.prefix ≡ n = solo_is (AcquireMeta cell value left tried) is in
      let current = found_note (IsCurrent terms.opening w.history t.prefix) t.notes cell note own.sound.notes noted in
      let within = found_note (λ each. each.addr.0 < cells_in terms) t.notes cell note own.sound.noted_cells noted in
      let version = note_now lawful may terms w p safe caller lone note within.0 (no_stamp lawful may terms w p safe caller (AcquireMeta cell value left tried) tt is) here current.0 in
      let same : note.version ≡ (w.meta cell).version = sym version ∙ ap (λ (c : ℕ). (w.meta c).version) current.1 in
      chosen Here (nat_eq note.version (w.meta cell).version) _ _ (eq-eqb note.version (w.meta cell).version same) (acquires cell value left tried is)

  checks : (lost clock : ℕ) (note : Note) (behind : List Note) → t.stage ≡ CommitNote lost clock note behind → Here (note_validated t lost clock note behind (w.meta note.addr.0))
  unfolding note_validated SafeStage EndingAt
  checks lost clock note behind is =
      let at_stage = stage_is terms w p (CommitNote lost clock note behind) own is in
      let sampled : WasSampled w t clock (note ∷ behind) = at_stage.1 in
      let solo : (t.prefix ≡ n) × (clock ≡ n) = solo_is (CommitNote lost clock note behind) is in
      let none = ending_is terms w p (CommitNote lost clock note behind) own is in
      let within : note.addr.0 < cells_in terms = all_at (λ each. each.addr.0 < cells_in terms) sampled.checked behind t.notes note sampled.notes own.sound.noted_cells in
      let current : IsCurrent terms.opening w.history t.prefix note = all_at (IsCurrent terms.opening w.history t.prefix) sampled.checked behind t.notes note sampled.notes own.sound.notes in
      let version = note_now lawful may terms w p safe caller lone note within (rw none refl) solo.0 current in
      chosen Here (still_has t.own note.version (w.meta note.addr.0)) _ _ (still lawful may terms w p safe caller lone note.addr.0 note.version within version) (goes_validate n w.meta t calm solo.0 lost clock behind solo.1)

  prepares : t.stage ≡ Prepare → Then Prepare (next_at t Prepare)
  unfolding next_at words_after found after_at prepared
  prepares is = go (same_status (w.status t.own) (active t.serial)) refl
    where
      go : (b : Bool) → same_status (w.status t.own) (active t.serial) ≡ b
          → GoesAlone (length (if b then with_status w t.own (record { serial = t.serial; phase = Preparing }) else w).history) (if b then with_status w t.own (record { serial = t.serial; phase = Preparing }) else w).meta
          (if b then mark_on (record t { phase = Preparing; due = run_all (preparing t.now.hooks) }) t.now.writes else rolled t (Doomed (w.status t.own)))
      go true same = goes_mark n w.meta (record t { phase = Preparing; due = run_all (preparing t.now.hooks) }) calm (solo_is Prepare is) t.now.writes
      go false lost = absurd (word (rw own.sound.own at (doomed_word lawful may terms w p safe caller is lost)))

  decides : (lost clock : ℕ) → t.stage ≡ Decide lost clock → Then (Decide lost clock) (next_at t (Decide lost clock))
  unfolding next_at words_after found after_at decided EndsByItself
  decides lost clock is =
      let solo : (t.prefix ≡ n) × (clock ≡ n) = solo_is (Decide lost clock) is in
      go (nat_eq w.clock clock) (eq-eqb w.clock clock (safe.clock ∙ sym solo.1))
    where
      go : (b : Bool) → b ≡ true
          → GoesAlone (length (if b then record w { clock = suc clock; history = w.history ++ entry_of t ∷ [] } else w).history) (if b then record w { clock = suc clock; history = w.history ++ entry_of t ∷ [] } else w).meta
          (if b then store_on (record t { ending = Some (Committed (suc clock)); due = run_all (committing t.now.hooks) }) t.now.writes else if nat_lt lost t.settings.tries then at t (CommitClock (suc lost)) else rolled t (ClockMoved clock w.clock))
      go true won = goes_store (length (w.history ++ entry_of t ∷ [])) w.meta (record t { ending = Some (Committed (suc clock)); due = run_all (committing t.now.hooks) }) tt t.now.writes
      go false lost = cc

  takes : (cell value left : ℕ) (tried : Bool) (first expected : Meta) (again : Bool) → t.stage ≡ Acquire cell value left tried first expected again
      → Then (Acquire cell value left tried first expected again) (next_at t (Acquire cell value left tried first expected again))
  unfolding next_at words_after found after_at exchanged cause_at
  takes cell value left tried first expected again is =
      let solo : (t.prefix ≡ n) × (expected ≡ w.meta cell) = solo_is (Acquire cell value left tried first expected again) is in
      go (same_meta (w.meta cell) expected) (rw solo.1 (same_whole (w.meta cell))) solo.0
    where
      go : (b : Bool) → b ≡ true → t.prefix ≡ n
          → GoesAlone (length (if b then with_meta w cell (owned t.own expected) else w).history) (if b then with_meta w cell (owned t.own expected) else w).meta
          (if b then done (record t { now = record t.now { writes = put t.now.writes cell value } })
          else if not again && same_but_pending (w.meta cell) expected then at t (Acquire cell value left tried first (w.meta cell) true) else acquire_again t cell value left tried first (w.meta cell))
      go true won here = record { stage = here; undisturbed = record { refused = tt; ending = calm } }
      go false lost here = cc

  pub alone_step : (stage : Stage) → t.stage ≡ stage → Then stage (next_at t stage)
  unfolding next_at words_after found after_at cause_at SafeStage
  alone_step Announce is = record { stage = tt; undisturbed = record { refused = tt; ending = calm } }
  alone_step Begin is = record { stage = safe.clock; undisturbed = record { refused = tt; ending = calm } }
  alone_step (ReadMeta cell left) is = meta_reads cell left is
  alone_step (ExtendClock cell left first) is = absurd (solo_is (ExtendClock cell left first) is)
  alone_step (ExtendNote cell left first clock note behind) is = absurd (solo_is (ExtendNote cell left first clock note behind) is)
  alone_step (ReadValue cell left first) is = goes_plain n w.meta t calm (Validate cell left first (w.value cell)) tt (solo_is (ReadValue cell left first) is)
  alone_step (Validate cell left first value) is = validates cell left first value is
  alone_step (AcquireMeta cell value left tried) is = by_note cell value left tried is (note_of t.notes cell) refl
  alone_step (Acquire cell value left tried first expected again) is = takes cell value left tried first expected again is
  alone_step (OwnerStatus cell value left first) is = absurd (solo_is (OwnerStatus cell value left first) is)
  alone_step (OwnerMeta cell value left first status) is = absurd (solo_is (OwnerMeta cell value left first status) is)
  alone_step (DoomOwner cell value left first second status) is = absurd (solo_is (DoomOwner cell value left first second status) is)
  alone_step (ReleaseLevel kept write behind) is = goes_release_level n _ (record t { due = ring_if (w.meta write.0).pending write.0 }) calm (solo_is (ReleaseLevel kept write behind) is) kept behind
  alone_step Prepare is = prepares is
  alone_step (Mark write behind) is = goes_mark n _ t calm (solo_is (Mark write behind) is) behind
  alone_step (CommitClock lost) is = goes_validate n w.meta t calm (solo_is (CommitClock lost) is) lost w.clock t.notes safe.clock
  alone_step (CommitNote lost clock note behind) is = checks lost clock note behind is
  alone_step (Decide lost clock) is = decides lost clock is
  alone_step (StoreValues write behind) is = goes_store n w.meta t calm behind
  alone_step (Release write behind) is = goes_release n _ (record t { due = ring_if (w.meta write.0).pending write.0 }) calm behind
  alone_step (RollBack write behind) is = goes_roll_back n _ (record t { due = ring_if (w.meta write.0).pending write.0 }) calm behind
  alone_step Close is = record { stage = tt; undisturbed = record { refused = tt; ending = calm } }
  alone_step stage is = tt
