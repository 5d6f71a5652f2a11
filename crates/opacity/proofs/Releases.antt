-- The swap that releases a cell keeps the world safe.
use Rattle.std.proofs.Common.{◌≡◌, ◌≢◌, ℕ, ◌-◌, ◌<◌, true, false, Bool, if◌then◌else◌, List, [], ◌∷◌, length, refl, sym, ◌∙◌, arith, inr, subst}
use Rattle.std.specs.Map.{keys_of}
use Rattle.meta_word.specs.declared.status.Phase.TheVariants.{Preparing}
use Rattle.stm_model.specs.Accesses.{next_at, released}
use Rattle.stm_model.specs.After.{after_at, at, release_on, ring_if}
use Rattle.stm_model.specs.Attempt.{flies_at, Attempt, Close, Due, Release, Stage, Write, held_at, unmarked_at, unstored_at, holds, stamp_of}
use Rattle.stm_model.specs.Heap.{writes_to}
use Rattle.stm_model.specs.Safe.{EndingAt, EndsSo, EndsWith, HasBegun, IsBeingWritten, PhaseAt, Safe, SafeAttempt, SafeStage, stamp_on, value_then, Sound}
use Rattle.stm_model.specs.World.{IsCaller, Terms, World, attempt_of, cells_in, words_after, clock_after, found, seen_after, since_at}
use Rattle.stm_model.proofs.HistoryLemmas.{last_below, same_since_last}
use Rattle.opacity.proofs.Cells.{AlikeAt}
use Rattle.opacity.proofs.Ends.{clash}
use Rattle.opacity.proofs.Fits.{ending_is, phase_is, stage_is}
use Rattle.opacity.proofs.Stands.{Follows, SameGround, follows_at, placed, told_same}
use Rattle.opacity.proofs.Stepping.{IsStamped, release_close, release_phase, stamped_release, stepped}
use Rattle.opacity.proofs.Touch.{freed, owner_is, safe_touched}
use Rattle.opacity.proofs.Walks.{IsNext, all_among, ends_more, next_of, writes_to_else, writes_to_here}

release_alike : (t : Attempt) (due : List Due) (write : Write) (behind : List Write) (cell : ℕ) → cell ≢ write.0 → AlikeAt cell (release_on (record t { due = due }) behind) (at t (Release write behind))
unfolding held_at unmarked_at unstored_at
release_alike t due write [] cell other =
    let free : writes_to (write ∷ []) cell ≡ false = writes_to_else write [] cell other in
    record { held = sym free; marked = λ held. absurd (clash _ held free); unstored = λ held. refl; stamp = λ held. refl }
release_alike t due write (next ∷ behind) cell other =
    let same = writes_to_else write (next ∷ behind) cell other in
    record { held = sym same; marked = λ held. rw same refl; unstored = λ held. refl; stamp = λ held. refl }

release_follows : (t : Attempt) (due : List Due) (write : Write) (behind : List Write) → Follows (at t (Release write behind)) (release_on (record t { due = due }) behind)
unfolding flies_at HasBegun
release_follows t due write [] = follows_at t _ (Release write []) refl refl refl refl refl tt tt
release_follows t due write (next ∷ behind) = follows_at t _ (Release write (next ∷ behind)) refl refl refl refl refl tt tt

release_free : (t : Attempt) (cell : ℕ) (behind : List Write) → writes_to behind cell ≡ false → holds (release_on t behind) cell ≡ false
unfolding held_at
release_free t cell [] none = refl
release_free t cell (next ∷ behind) none = none

module _ (terms : Terms) (w : World) (p : ℕ) where
  pub due_same : (t : Attempt) (due : List Due) → SameGround t (record t { due = due })
  due_same t due = record { own = refl; serial = refl; settings = refl; prefix = refl; notes = refl; writes = refl; saved = refl }

  pub release_safe : (t : Attempt) (due : List Due) (write : Write) (behind : List Write) → Sound terms w p t → t.phase ≡ Preparing → EndingAt (Release write behind) t.ending → EndsSo w t t.ending
      → EndsWith t.now.writes behind → SafeAttempt terms w p (release_on (record t { due = due }) behind)
  unfolding SafeStage PhaseAt EndingAt HasBegun
  release_safe t due write [] sound phase ending so ends =
      placed terms w p (record t { due = due }) sound (told_same terms w p t (record t { due = due }) (due_same t due) t.ending so) Close tt (release_phase write [] t.ending t.phase ending phase) (release_close write [] t.ending ending) tt
  release_safe t due write (next ∷ behind) sound phase ending so ends =
      placed terms w p (record t { due = due }) sound (told_same terms w p t (record t { due = due }) (due_same t due) t.ending so) (Release next behind) tt phase
      ending ends

unwritten_stamp : (b : Bool) (stamp : ℕ) → b ≡ false → (if b then stamp - 1 else stamp) ≡ stamp
unwritten_stamp b stamp is = rw is refl

module _ (lawful : List ℕ → Type 0) (may : List ℕ → List ℕ → Type 0) (terms : Terms) (w : World) (p : ℕ) (safe : Safe lawful may terms w) (caller : IsCaller terms p) where
  -- what the caller's attempt holds at its stage
  pub held_here : (stage : Stage) → (attempt_of w p).stage ≡ stage → (cell : ℕ) → writes_to (held_at (attempt_of w p).now.writes stage) cell ≡ true → holds (attempt_of w p) cell ≡ true
  held_here stage is cell there = subst (λ (s : Stage). writes_to (held_at (attempt_of w p).now.writes s) cell ≡ true) (sym is) there

  pub written_cell : (cell : ℕ) → writes_to (attempt_of w p).now.writes cell ≡ true → cell < cells_in terms
  written_cell cell there = all_among (λ each. each < cells_in terms) (keys_of (attempt_of w p).now.writes) cell (safe.attempts p caller).sound.written_cells there

  pub keeps_release : (write : Write) (behind : List Write) → (attempt_of w p).stage ≡ Release write behind → Safe lawful may terms (stepped w p (Release write behind))
  unfolding next_at after_at words_after found seen_after since_at clock_after held_at unstored_at SafeStage PhaseAt
  keeps_release write behind is =
      let t = attempt_of w p in
      let own = safe.attempts p caller in
      let stage = Release write behind in
      let cell = write.0 in
      let ends : EndsWith t.now.writes (write ∷ behind) = stage_is terms w p stage own is in
      let next : IsNext t.now.writes write behind = next_of t.now.writes write behind own.sound.entry.writes_apart ends in
      let ending : EndingAt stage t.ending = ending_is terms w p stage own is in
      let stamped : IsStamped w t = stamped_release w t write behind ending own.ends_so in
      let within : cell < cells_in terms = written_cell cell next.there in
      let mine : (w.meta cell).owner ≡ p = owner_is lawful may terms w safe p cell caller.0 within (held_here stage is cell (writes_to_here write behind)) in
      let stamp : stamp_on w cell ≡ stamp_of t = rw mine refl in
      let written : IsBeingWritten terms w cell (stamp_on w cell) = (safe.cells cell within).written (omega (arith, stamp, stamped.above)) in
      let none_left : writes_to (unstored_at (attempt_of w (w.meta cell).owner).stage) cell ≡ false = rw mine (subst (λ (s : Stage). writes_to (unstored_at s) cell ≡ false) (sym is) refl) in
      let there : w.value cell ≡ value_then terms w (stamp_on w cell) cell = rw (unwritten_stamp _ (stamp_on w cell) none_left) at written.value in
      let since = same_since_last terms.opening w.history (length w.history) (stamp_on w cell) cell (omega (arith, stamp, stamped.high)) (omega (arith, written.newest)) in
      let low : (w.meta cell).version < stamp_of t = omega (arith, written.version, stamp, stamped.above, last_below w.history (stamp_on w cell - 1) cell) in
      let u = release_on (record t { due = ring_if (w.meta cell).pending cell }) behind in
      safe_touched lawful may terms w p safe caller cell within (released (stamp_of t)) u stage is
      (λ other apart. release_alike t _ write behind other apart)
      (release_follows t _ write behind)
      (release_safe terms w p t _ write behind own.sound (phase_is terms w p stage own is) ending own.ends_so (ends_more t.now.writes write behind ends))
      (omega arith) (λ same. absurd (omega (arith, low, same))) (inr low)
      (freed lawful may terms w p safe caller cell within (released (stamp_of t)) u refl refl (release_free (record t { due = ring_if (w.meta cell).pending cell }) cell behind next.done) mine (sym (written.newest ∙ stamp)) (there ∙ since.1))
