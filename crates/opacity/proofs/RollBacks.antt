-- The accesses that roll a cell back, release one of a level, and mark one, keep the world safe.
use Rattle.std.proofs.Common.{length-append, length, ◌≡◌, ◌≢◌, ℕ, nat_eq, ◌<◌, ◌||◌, true, false, Bool, None, if◌then◌else◌, List, [], ◌∷◌, ◌++◌, refl, sym, ap, ◌∙◌, arith, inl, append_assoc}
use Rattle.std.specs.List.{IsDistinct}
use Rattle.std.specs.Map.{keys_of}
use Rattle.std.proofs.lemmas.Bool.{or_parts}
use Rattle.meta_word.specs.declared.meta.Meta.{Meta}
use Rattle.meta_word.specs.declared.status.Phase.TheVariants.{Active, Preparing}
use Rattle.stm_model.specs.Accesses.{next_at}
use Rattle.stm_model.specs.After.{after_at, at, release_level_on, mark_on, ring_if, roll_on}
use Rattle.stm_model.specs.Attempt.{Attempt, Close, Due, ReleaseLevel, Mark, RollBack, CommitClock, Write, held_at, has_prepared, unmarked_at, unstored_at, flies_at, holds, marks, stamp_of}
use Rattle.stm_model.specs.Heap.{writes_to}
use Rattle.stm_model.specs.Safe.{EndingAt, EndsSo, EndsWith, ReleasesLevel, HasBegun, HoldsNewest, PhaseAt, Safe, SafeAttempt, SafeStage, stamp_on, Sound}
use Rattle.stm_model.specs.World.{IsCaller, Terms, World, attempt_of, cells_in, words_after, clock_after, found, seen_after, since_at}
use Rattle.opacity.proofs.Asks.{level_follows}
use Rattle.opacity.proofs.Cells.{AlikeAt}
use Rattle.opacity.proofs.Ends.{clash}
use Rattle.opacity.proofs.Fits.{ending_is, phase_is, stage_is}
use Rattle.opacity.proofs.Levels.{HoldsThese, and_not, level_holds, level_safe}
use Rattle.opacity.proofs.Releases.{due_same, held_here, written_cell}
use Rattle.opacity.proofs.Stands.{Follows, follows_at, placed, told_same}
use Rattle.opacity.proofs.Stepping.{roll_back_close, roll_back_stamp, stepped}
use Rattle.opacity.proofs.Touch.{freed, kept, owner_is, safe_touched}
use Rattle.opacity.proofs.Walks.{IsNext, among, among-append, ends_more, keys-append, next_of, none_before, none_behind, writes_to_else, writes_to_here}

-- ---- a rollback

unmarked_else : (marked : Bool) (write : Write) (behind : List Write) (cell : ℕ) → cell ≢ write.0
    → writes_to (if marked then [] else behind) cell ≡ writes_to (if marked then [] else write ∷ behind) cell
unmarked_else true write behind cell other = refl
unmarked_else false write behind cell other = sym (writes_to_else write behind cell other)

roll_back_alike : (t : Attempt) (due : List Due) (write : Write) (behind : List Write) (cell : ℕ) → cell ≢ write.0 → AlikeAt cell (roll_on (record t { due = due }) behind) (at t (RollBack write behind))
unfolding held_at unmarked_at unstored_at
roll_back_alike t due write [] cell other =
    let free : writes_to (write ∷ []) cell ≡ false = writes_to_else write [] cell other in
    record { held = sym free; marked = λ held. absurd (clash _ held free); unstored = λ held. refl; stamp = λ held. refl }
roll_back_alike t due write (next ∷ behind) cell other =
    let same = writes_to_else write (next ∷ behind) cell other in
    record { held = sym same; marked = λ held. rw (same, unmarked_else (has_prepared t.phase) write (next ∷ behind) cell other) refl; unstored = λ held. refl; stamp = λ held. refl }

roll_back_follows : (t : Attempt) (due : List Due) (write : Write) (behind : List Write) → Follows (at t (RollBack write behind)) (roll_on (record t { due = due }) behind)
unfolding flies_at HasBegun
roll_back_follows t due write [] = follows_at t _ (RollBack write []) refl refl refl refl refl tt tt
roll_back_follows t due write (next ∷ behind) = follows_at t _ (RollBack write (next ∷ behind)) refl refl refl refl refl tt tt

roll_back_free : (t : Attempt) (cell : ℕ) (behind : List Write) → writes_to behind cell ≡ false → holds (roll_on t behind) cell ≡ false
unfolding held_at
roll_back_free t cell [] none = refl
roll_back_free t cell (next ∷ behind) none = none

roll_back_safe : (terms : Terms) (w : World) (p : ℕ) (t : Attempt) (due : List Due) (write : Write) (behind : List Write) → Sound terms w p t → PhaseAt (RollBack write behind) t.ending t.phase → EndingAt (RollBack write behind) t.ending → EndsSo w t t.ending
    → EndsWith t.now.writes behind → SafeAttempt terms w p (roll_on (record t { due = due }) behind)
unfolding SafeStage PhaseAt EndingAt HasBegun
roll_back_safe terms w p t due write [] sound phase ending so ends =
    placed terms w p (record t { due = due }) sound (told_same terms w p t (record t { due = due }) (due_same terms w p t due) t.ending so) Close tt phase (roll_back_close write [] t.ending ending) tt
roll_back_safe terms w p t due write (next ∷ behind) sound phase ending so ends =
    placed terms w p (record t { due = due }) sound (told_same terms w p t (record t { due = due }) (due_same terms w p t due) t.ending so) (RollBack next behind) tt phase
    ending ends

-- ---- a level

-- a cell that is released out of the middle
out_else : (kept behind : List Write) (write : Write) (cell : ℕ) → cell ≢ write.0 → writes_to (kept ++ write ∷ behind) cell ≡ writes_to (kept ++ behind) cell
out_else [] behind write cell other = writes_to_else write behind cell other
out_else (first ∷ kept) behind write cell other = ap (λ rest. nat_eq cell first.0 || rest) (out_else kept behind write cell other)

out_here : (kept behind : List Write) (write : Write) → writes_to (kept ++ write ∷ behind) write.0 ≡ true
out_here [] behind write = writes_to_here write behind
out_here (first ∷ kept) behind write = rw (out_here kept behind write) (or_true (nat_eq write.0 first.0))
  where
    or_true : (b : Bool) → (b || true) ≡ true
    or_true b = grind arith

none_of : (front middle behind : List ℕ) (cell : ℕ) → IsDistinct nat_eq (front ++ middle ++ cell ∷ behind) → among (front ++ behind) cell ≡ false
none_of front middle behind cell apart =
    let before : among (front ++ middle) cell ≡ false = none_before (front ++ middle) behind cell apart in
    let parts = or_parts (among front cell) (among middle cell) (sym (among-append front middle cell) ∙ before) in
    among-append front behind cell ∙ rw (parts.0, none_behind (front ++ middle) behind cell apart) refl

out_gone : (t : Attempt) (kept : List Write) (write : Write) (behind : List Write) → IsDistinct nat_eq (keys_of t.now.writes) → ReleasesLevel t kept (write ∷ behind) → writes_to (kept ++ behind) write.0 ≡ false
out_gone t kept write behind apart gives =
    let cells : IsDistinct nat_eq (keys_of kept ++ gives.given ++ write.0 ∷ keys_of behind) = rw gives.whole at apart in
    ap (λ cells. among cells write.0) (keys-append kept behind) ∙ none_of (keys_of kept) gives.given (keys_of behind) write.0 cells

pub out_there : (t : Attempt) (kept : List Write) (write : Write) (behind : List Write) → ReleasesLevel t kept (write ∷ behind) → writes_to t.now.writes write.0 ≡ true
out_there t kept write behind gives =
    ap (λ cells. among cells write.0) gives.whole ∙ among-append (keys_of kept ++ gives.given) (write.0 ∷ keys_of behind) write.0 ∙ rw (writes_to_here write behind) (or_true (among (keys_of kept ++ gives.given) write.0))
  where
    or_true : (b : Bool) → (b || true) ≡ true
    or_true b = grind arith

gives_more : (t : Attempt) (due : List Due) (kept : List Write) (write : Write) (behind : List Write) → ReleasesLevel t kept (write ∷ behind) → ReleasesLevel (record t { due = due }) kept behind
gives_more t due kept write behind gives = record {
  former = gives.former;
  others = gives.others;
  level = gives.level;
  kept_writes = gives.kept_writes;
  given = gives.given ++ write.0 ∷ [];
  whole = gives.whole ∙ regroup (keys_of kept) gives.given write.0 (keys_of behind);
}
  where
    regroup : (front middle : List ℕ) (cell : ℕ) (behind : List ℕ) → front ++ middle ++ cell ∷ behind ≡ front ++ (middle ++ cell ∷ []) ++ behind
    regroup front middle cell behind = simp append_assoc

given_alike : (t : Attempt) (due : List Due) (kept : List Write) (write : Write) (behind : List Write) → ReleasesLevel (record t { due = due }) kept behind → t.ending ≡ None → (cell : ℕ) → cell ≢ write.0
    → AlikeAt cell (release_level_on (record t { due = due }) kept behind) (at t (ReleaseLevel kept write behind))
unfolding held_at unmarked_at unstored_at
given_alike t due kept write behind gives undecided cell other =
    let these : HoldsThese (release_level_on (record t { due = due }) kept behind) kept behind cell = level_holds (record t { due = due }) kept behind cell gives undecided in
    record {
      held = these.held ∙ sym (out_else kept behind write cell other);
      marked = λ held. these.unmarked ∙ sym (and_not (writes_to (kept ++ write ∷ behind) cell));
      unstored = λ held. rw these.unstored refl;
      stamp = λ held. these.stamp ∙ sym (rw undecided refl);
    }

-- ---- marks

mark_alike : (t : Attempt) (write : Write) (behind : List Write) (cell : ℕ) → cell ≢ write.0 → AlikeAt cell (mark_on t behind) (at t (Mark write behind))
unfolding held_at unmarked_at unstored_at
mark_alike t write [] cell other = record { held = refl; marked = λ held. rw (writes_to_else write [] cell other) refl; unstored = λ held. refl; stamp = λ held. refl }
mark_alike t write (next ∷ behind) cell other = record { held = refl; marked = λ held. rw (writes_to_else write (next ∷ behind) cell other) refl; unstored = λ held. refl; stamp = λ held. refl }

mark_follows : (t : Attempt) (write : Write) (behind : List Write) → Follows (at t (Mark write behind)) (mark_on t behind)
unfolding flies_at HasBegun
mark_follows t write [] = follows_at t _ (Mark write []) refl refl refl refl refl tt tt
mark_follows t write (next ∷ behind) = follows_at t _ (Mark write (next ∷ behind)) refl refl refl refl refl tt tt

pub mark_safe : (terms : Terms) (w : World) (p : ℕ) (t : Attempt) (behind : List Write) → Sound terms w p t → t.phase ≡ Preparing → t.ending ≡ None → 0 < length t.now.writes → EndsWith t.now.writes behind → SafeAttempt terms w p (mark_on t behind)
unfolding SafeStage PhaseAt HasBegun EndingAt EndsSo
mark_safe terms w p t [] sound phase ending some ends = placed terms w p t sound (rw ending tt) (CommitClock 0) tt phase ending some
mark_safe terms w p t (next ∷ behind) sound phase ending some ends = placed terms w p t sound (rw ending tt) (Mark next behind) tt phase ending ends

mark_holds : (t : Attempt) (cell : ℕ) (behind : List Write) → writes_to t.now.writes cell ≡ true → holds (mark_on t behind) cell ≡ true
unfolding held_at
mark_holds t cell [] there = there
mark_holds t cell (next ∷ behind) there = there

mark_marks : (t : Attempt) (cell : ℕ) (behind : List Write) → writes_to t.now.writes cell ≡ true → writes_to behind cell ≡ false → marks (mark_on t behind) cell ≡ true
unfolding held_at unmarked_at
mark_marks t cell [] there done = rw there refl
mark_marks t cell (next ∷ behind) there done = rw (there, done) refl

mark_stamp : (t : Attempt) (behind : List Write) → t.ending ≡ None → stamp_of (mark_on t behind) ≡ 0
mark_stamp t [] none = rw none refl
mark_stamp t (next ∷ behind) none = rw none refl

module _ (lawful : List ℕ → Type 0) (may : List ℕ → List ℕ → Type 0) (terms : Terms) (w : World) (p : ℕ) (safe : Safe lawful may terms w) (caller : IsCaller terms p) where
  pub keeps_roll_back : (write : Write) (behind : List Write) → (attempt_of w p).stage ≡ RollBack write behind → Safe lawful may terms (stepped w p (RollBack write behind))
  unfolding next_at after_at words_after found seen_after since_at clock_after held_at SafeStage
  keeps_roll_back write behind is =
      let t = attempt_of w p in
      let own = safe.attempts p caller in
      let stage = RollBack write behind in
      let cell = write.0 in
      let ends : EndsWith t.now.writes (write ∷ behind) = stage_is terms w p stage own is in
      let next : IsNext t.now.writes write behind = next_of t.now.writes write behind own.sound.entry.writes_apart ends in
      let ending : EndingAt stage t.ending = ending_is terms w p stage own is in
      let within : cell < cells_in terms = written_cell lawful may terms w p safe caller cell next.there in
      let mine : (w.meta cell).owner ≡ p = owner_is lawful may terms w safe p cell caller.0 within (held_here lawful may terms w p safe caller stage is cell (writes_to_here write behind)) in
      let stamp : stamp_on w cell ≡ 0 = rw mine (roll_back_stamp write behind t.ending ending) in
      let settled : HoldsNewest terms w cell = (safe.cells cell within).settled stamp in
      let due = ring_if (w.meta cell).pending cell in
      let meta : Meta = record (w.meta cell) { changing = false; owner = 0 } in
      let u = roll_on (record t { due = due }) behind in
      safe_touched lawful may terms w p safe caller cell within meta u stage is
      (λ other apart. roll_back_alike t due write behind other apart)
      (roll_back_follows t due write behind)
      (roll_back_safe terms w p t due write behind own.sound (phase_is terms w p stage own is) ending own.ends_so (ends_more t.now.writes write behind ends))
      (omega arith) (λ same set. set) (inl stamp)
      (freed lawful may terms w p safe caller cell within meta u refl refl (roll_back_free (record t { due = due }) cell behind next.done) mine settled.version settled.value)

  pub keeps_release_level : (kept : List Write) (write : Write) (behind : List Write) → (attempt_of w p).stage ≡ ReleaseLevel kept write behind → Safe lawful may terms (stepped w p (ReleaseLevel kept write behind))
  unfolding next_at after_at words_after found seen_after since_at clock_after held_at flies_at HasBegun EndingAt PhaseAt SafeStage
  keeps_release_level kept write behind is =
      let t = attempt_of w p in
      let own = safe.attempts p caller in
      let stage = ReleaseLevel kept write behind in
      let cell = write.0 in
      let gives : ReleasesLevel t kept (write ∷ behind) = stage_is terms w p stage own is in
      let undecided : t.ending ≡ None = ending_is terms w p stage own is in
      let active : t.phase ≡ Active = phase_is terms w p stage own is in
      let within : cell < cells_in terms = written_cell lawful may terms w p safe caller cell (out_there t kept write behind gives) in
      let mine : (w.meta cell).owner ≡ p = owner_is lawful may terms w safe p cell caller.0 within (held_here lawful may terms w p safe caller stage is cell (out_here kept behind write)) in
      let stamp : stamp_on w cell ≡ 0 = rw (mine, undecided) refl in
      let settled : HoldsNewest terms w cell = (safe.cells cell within).settled stamp in
      let due = ring_if (w.meta cell).pending cell in
      let more : ReleasesLevel (record t { due = due }) kept behind = gives_more t due kept write behind gives in
      let meta : Meta = record (w.meta cell) { changing = false; owner = 0 } in
      let u = release_level_on (record t { due = due }) kept behind in
      let these : HoldsThese u kept behind cell = level_holds (record t { due = due }) kept behind cell more undecided in
      safe_touched lawful may terms w p safe caller cell within meta u stage is
      (λ other apart. given_alike t due kept write behind more undecided other apart)
      (level_follows t due stage kept behind tt refl undecided)
      (level_safe terms w p (record t { due = due }) kept behind own.sound more active undecided)
      (omega arith) (λ same set. set) (inl stamp)
      (freed lawful may terms w p safe caller cell within meta u refl refl (these.held ∙ out_gone t kept write behind own.sound.entry.writes_apart gives) mine settled.version settled.value)

  pub keeps_mark : (write : Write) (behind : List Write) → (attempt_of w p).stage ≡ Mark write behind → Safe lawful may terms (stepped w p (Mark write behind))
  unfolding next_at after_at words_after found seen_after since_at clock_after held_at EndingAt PhaseAt SafeStage
  keeps_mark write behind is =
      let t = attempt_of w p in
      let own = safe.attempts p caller in
      let stage = Mark write behind in
      let cell = write.0 in
      let ends : EndsWith t.now.writes (write ∷ behind) = stage_is terms w p stage own is in
      let next : IsNext t.now.writes write behind = next_of t.now.writes write behind own.sound.entry.writes_apart ends in
      let undecided : t.ending ≡ None = ending_is terms w p stage own is in
      let within : cell < cells_in terms = written_cell lawful may terms w p safe caller cell next.there in
      let mine : (w.meta cell).owner ≡ p = owner_is lawful may terms w safe p cell caller.0 within (held_here lawful may terms w p safe caller stage is cell next.there) in
      let stamp : stamp_on w cell ≡ 0 = rw (mine, undecided) refl in
      let meta : Meta = record (w.meta cell) { changing = true } in
      safe_touched lawful may terms w p safe caller cell within meta (mark_on t behind) stage is
      (λ other apart. mark_alike t write behind other apart)
      (mark_follows t write behind)
      (mark_safe terms w p t behind own.sound (phase_is terms w p stage own is) undecided (omega (arith, ap length ends.1, length-append ends.0 (write ∷ behind))) (ends_more t.now.writes write behind ends))
      (omega arith) (λ same set. set) (inl stamp)
      (kept lawful may terms w p safe caller cell within meta (mark_on t behind) mine (mark_holds t cell behind next.there) (mark_marks t cell behind next.there next.done) (mark_stamp t behind undecided) stamp refl (inl mine))
