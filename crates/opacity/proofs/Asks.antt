-- What an attempt makes of an ask.
use Rattle.std.proofs.Common.{IfSome, ◌≡◌, ℕ, nat_eq, nat_lt, ◌<◌, ◌^◌, true, false, Bool, Some, None, Option, if◌then◌else◌, is_some, List, [], ◌∷◌, ◌++◌, length, drop, refl, sym, ap, ◌∙◌, arith, subst}
use Rattle.std.specs.Map.{keys_of, lookup}
use Rattle.std.proofs.lemmas.List.{append-nil}
use Rattle.meta_word.specs.Policy.{looks}
use Rattle.stm_model.specs.declared.access.Ask.{Ask}
use Rattle.stm_model.specs.declared.access.Ask.TheVariants.{Get, Set, Enter, Keep, Undo, Hook, Later, Finish, Abandon}
use Rattle.stm_model.specs.declared.cause.Cause.{Cause}
use Rattle.stm_model.specs.declared.cause.Cause.TheVariants.{TooDeep}
use Rattle.stm_model.specs.declared.note.Note.{Note}
use Rattle.stm_model.specs.After.{at, done, release_level_on, note_of, stopped}
use Rattle.stm_model.specs.Attempt.{cause_at, AcquireMeta, Attempt, Due, ReadMeta, Late, Ready, Stage, Stopped, Write, flies_at}
use Rattle.stm_model.specs.CellsState.{Book, outer}
use Rattle.stm_model.specs.Evidence.{Evidence}
use Rattle.stm_model.specs.Heap.{put, writes_to}
use Rattle.stm_model.specs.Moves.{MayAsk, AwaitsAskAt, asked_at, asked_going, asked_stopped, enter_level, read_buffered, read_noted, undo_level, write_cell}
use Rattle.stm_model.specs.Refusing.{deepest}
use Rattle.stm_model.specs.Safe.{NamesNote, EndingAt, ReleasesLevel, HasBegun, LevelsNest, PhaseAt, SafeStage, Sound}
use Rattle.stm_model.specs.World.{Terms, World, cells_in}
use Rattle.stm_model.proofs.HeapLemmas.{writes_to-lookup}
use Rattle.opacity.proofs.Cells.{AlikeAt}
use Rattle.opacity.proofs.Ends.{gone_on, rolled_open, stopped_open}
use Rattle.opacity.proofs.Fits.{Fits, IsOpen, goes_on, goes_on_same, open_facts, open_fits, open_fits_with}
use Rattle.opacity.proofs.Levels.{HoldsThese, and_not, level_holds, level_safe, gives_level, nest_outer, put_written}
use Rattle.opacity.proofs.Shown.{Shows, abandon_shown}
use Rattle.opacity.proofs.Stands.{IsPlain, Follows, follows_at, sound_levels}
use Rattle.opacity.proofs.Walks.{keys-append, keys-put_written, writes_to_keys}

-- An attempt that undoes a level goes on as the same one.
pub level_follows : (t : Attempt) (due : List Due) (here : Stage) (kept behind : List Write) → HasBegun here → flies_at here ≡ true → t.ending ≡ None → Follows (at t here) (release_level_on (record t { due = due }) kept behind)
unfolding HasBegun
level_follows t due here kept [] begun flies none = follows_at t _ here refl refl refl refl flies begun tt
level_follows t due here kept (write ∷ behind) begun flies none = follows_at t _ here refl refl refl refl flies begun tt

unwritten : (writes : List Write) (cell : ℕ) → lookup (nat_eq cell) writes ≡ None → writes_to writes cell ≡ false
unwritten writes cell none = writes_to-lookup writes cell ∙ ap (λ found. is_some found) none

module _ (terms : Terms) (w : World) (p : ℕ) (t : Attempt) (here : Stage) (is_open : IsOpen here) (phase : PhaseAt here t.ending t.phase) (ending : EndingAt here t.ending) (sound : Sound terms w p t) where
  to_open : (there : Stage) → IsOpen there → IsPlain there → SafeStage terms w t there → Fits terms w p (at t here) (at t there)
  to_open there then_open plain stage = open_fits terms w p t t here there is_open then_open plain phase ending (goes_on_same terms w p t sound) stage

  noted : (cell : ℕ) → cell < cells_in terms → writes_to t.now.writes cell ≡ false → (found : Option Note) → note_of t.notes cell ≡ found → Fits terms w p (at t here) (read_noted t cell found)
  unfolding SafeStage
  noted cell within none (Some note) is = to_open (Ready (Some note.value)) tt tt tt
  noted cell within none None is = to_open (ReadMeta cell (looks t.settings.policy)) tt tt (record { in_range = within; unwritten = none; unnoted = is })

  buffered : (cell : ℕ) → cell < cells_in terms → (found : Option ℕ) → lookup (nat_eq cell) t.now.writes ≡ found → Fits terms w p (at t here) (read_buffered t cell found)
  unfolding SafeStage
  buffered cell within (Some value) is = to_open (Ready (Some value)) tt tt tt
  buffered cell within None is = noted cell within (unwritten t.now.writes cell is) (note_of t.notes cell) refl

  set : (cell value : ℕ) → cell < cells_in terms → value < 2 ^ 64 → Fits terms w p (at t here) (write_cell t cell value)
  unfolding SafeStage
  set cell value within word = go (writes_to t.now.writes cell) refl
    where
      go : (b : Bool) → writes_to t.now.writes cell ≡ b
          → Fits terms w p (at t here) (if b then done (record t { now = record t.now { writes = put t.now.writes cell value } }) else at t (AcquireMeta cell value (looks t.settings.policy) false))
      go true is =
          open_fits terms w p t (record t { now = record t.now { writes = put t.now.writes cell value } }) here (Ready None) is_open tt tt phase ending
          (record {
            serial = refl;
            phase = refl;
            ending = refl;
            prefix = omega arith;
            writes = λ other. writes_to_keys (put t.now.writes cell value) t.now.writes other (keys-put_written t.now.writes cell value is);
            sound = put_written terms w p t sound cell value word is;
          })
          tt
      go false is = to_open (AcquireMeta cell value (looks t.settings.policy) false) tt tt (record { in_range = within; unwritten = is; word = word })

  with_saved : (saved : List Book) (there : Stage) → IsOpen there → IfSome (cause_at there) (Shows t) → LevelsNest (keys_of t.now.writes) saved → SafeStage terms w (record t { saved = saved }) there
      → Fits terms w p (at t here) (at (record t { saved = saved }) there)
  with_saved saved there then_open shown nest stage =
      open_fits_with terms w p t (record t { saved = saved }) here there is_open then_open shown phase ending
      (goes_on terms w p t _ refl refl refl refl refl (sound_levels terms w p t saved sound nest))
      stage

  entered : Fits terms w p (at t here) (enter_level t)
  unfolding SafeStage cause_at Evidence NamesNote
  entered = go (nat_lt (length t.saved) deepest)
    where
      go : (b : Bool) → Fits terms w p (at t here) (if b then done (record t { saved = t.now ∷ t.saved }) else stopped t (TooDeep deepest))
      go true = with_saved (t.now ∷ t.saved) (Ready None) tt tt (([], sym (append-nil (keys_of t.now.writes))), sound.entry.words, sound.levels) tt
      go false = stopped_open terms w p t here is_open phase ending sound (TooDeep deepest) (refl, tt)

  alike_level : (kept behind : List Write) (gives : ReleasesLevel t kept behind) → gives.given ≡ [] → t.ending ≡ None → (cell : ℕ) → AlikeAt cell (release_level_on t kept behind) (at t here)
  alike_level kept behind gives none undecided cell =
      let facts = open_facts here is_open in
      let these : HoldsThese (release_level_on t kept behind) kept behind cell = level_holds t kept behind cell gives undecided in
      let whole : keys_of (kept ++ behind) ≡ keys_of t.now.writes = keys-append kept behind ∙ sym (whole_of gives.given none gives.whole) in
      record {
        held = rw (these.held, facts.held t.now.writes) (writes_to_keys (kept ++ behind) t.now.writes cell whole);
        marked = λ held. rw (these.unmarked, facts.held t.now.writes, facts.unmarked t.phase t.now.writes) (sym (and_not (writes_to t.now.writes cell)));
        unstored = λ held. rw (these.unstored, facts.unstored) refl;
        stamp = λ held. these.stamp ∙ sym (rw undecided refl);
      }
    where
      whole_of : (given : List ℕ) → given ≡ [] → keys_of t.now.writes ≡ keys_of kept ++ given ++ keys_of behind → keys_of t.now.writes ≡ keys_of kept ++ keys_of behind
      whole_of given is whole = whole ∙ rw (is, append-nil) refl

  undone : (saved : List Book) → t.saved ≡ saved → 0 < length saved → Fits terms w p (at t here) (undo_level t saved)
  undone [] is some = absurd (omega arith)
  undone (former ∷ books) is some =
      let facts = open_facts here is_open in
      let level = gives_level t former books sound.levels is in
      let gives : ReleasesLevel t former.writes (drop (length former.writes) t.now.writes) = level.0 in
      let undecided = facts.ending_from t.ending ending in
      record {
        alike = alike_level former.writes (drop (length former.writes) t.now.writes) gives level.1 undecided;
        follows = level_follows t t.due here former.writes (drop (length former.writes) t.now.writes) facts.begun facts.flies undecided;
        safe = level_safe terms w p t former.writes (drop (length former.writes) t.now.writes) sound gives (facts.phase_from t.ending t.phase phase) undecided;
      }

  going : IfSome (cause_at t.stage) (Shows t) → (ask : Ask) → MayAsk (cells_in terms) t ask → Fits terms w p (at t here) (asked_going t ask)
  unfolding asked_going MayAsk SafeStage cause_at
  going shown (Get cell) may = buffered cell.0 may (lookup (nat_eq cell.0) t.now.writes) refl
  going shown (Set cell value) may = set cell.0 value may.0 may.1
  going shown Enter may = entered
  going shown Keep may = with_saved (outer t.saved) (Ready None) tt tt (nest_outer (keys_of t.now.writes) t.saved sound.levels) tt
  going shown Undo may = undone t.saved refl may
  going shown (Hook hook token) may =
      open_fits terms w p t (record t { now = record t.now { hooks = t.now.hooks ++ (hook, token) ∷ [] } }) here (Ready None) is_open tt tt phase ending
      (goes_on terms w p t _ refl refl refl refl refl sound) tt
  going shown (Later token) may =
      open_fits terms w p t (record t { now = record t.now { laters = t.now.laters ++ token ∷ [] } }) here (Ready None) is_open tt tt phase ending
      (goes_on terms w p t _ refl refl refl refl refl sound) tt
  going shown Finish may = gone_on terms w p t here is_open phase ending sound
  going shown (Abandon cause) may = rolled_open terms w p t here is_open phase ending sound cause (abandon_shown t shown cause may)

module _ (terms : Terms) (w : World) (p : ℕ) (t : Attempt) (cause : Cause) (is : t.stage ≡ Stopped cause) (phase : PhaseAt (Stopped cause) t.ending t.phase) (ending : EndingAt (Stopped cause) t.ending) (sound : Sound terms w p t)
    (shown : Shows t cause) where
  -- what stays stopped
  stays : (saved : List Book) → LevelsNest (keys_of t.now.writes) saved → Fits terms w p (at t (Stopped cause)) (record t { saved = saved })
  unfolding SafeStage cause_at
  stays saved nest =
      subst (λ (stage : Stage). Fits terms w p (at t (Stopped cause)) (at (record t { saved = saved }) stage)) (sym is)
      (with_saved terms w p t (Stopped cause) tt phase ending sound saved (Stopped cause) tt shown nest tt)

  refused : (ask : Ask) → Fits terms w p (at t (Stopped cause)) (asked_stopped t cause ask)
  unfolding asked_stopped
  refused Keep = stays (outer t.saved) (nest_outer (keys_of t.now.writes) t.saved sound.levels)
  refused Undo = stays (outer t.saved) (nest_outer (keys_of t.now.writes) t.saved sound.levels)
  refused Finish = rolled_open terms w p t (Stopped cause) tt phase ending sound cause shown
  refused (Abandon other) = rolled_open terms w p t (Stopped cause) tt phase ending sound cause shown
  refused ask = stays t.saved sound.levels

pub asked_fits : (terms : Terms) (w : World) (p : ℕ) (t : Attempt) (stage : Stage) → t.stage ≡ stage → AwaitsAskAt stage → PhaseAt stage t.ending t.phase → EndingAt stage t.ending → Sound terms w p t
    → IfSome (cause_at stage) (Shows t) → (ask : Ask) → MayAsk (cells_in terms) t ask → Fits terms w p (at t stage) (asked_at t stage ask)
unfolding asked_at AwaitsAskAt cause_at
asked_fits terms w p t (Ready answer) is waits phase ending sound shown ask may = going terms w p t (Ready answer) tt phase ending sound (subst (λ (s : Stage). IfSome (cause_at s) (Shows t)) (sym is) tt) ask may
asked_fits terms w p t (Late token) is waits phase ending sound shown ask may = going terms w p t (Late token) tt phase ending sound (subst (λ (s : Stage). IfSome (cause_at s) (Shows t)) (sym is) tt) ask may
asked_fits terms w p t (Stopped cause) is waits phase ending sound shown ask may = refused terms w p t cause is phase ending sound shown ask
asked_fits terms w p t stage is waits phase ending sound shown ask may = absurd waits
