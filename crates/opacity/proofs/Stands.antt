-- What stays of an attempt wherever it stands, and what it takes to stand elsewhere.
use Rattle.std.proofs.Common.{true, false, nat_eq, IfSome, ◌≡◌, ℕ, ◌<◌, ◌^◌, ◌≤◌, Option, Some, None, List, [], ◌∷◌, length, refl, sym, ◌∙◌, arith}
use Rattle.std.proofs.lemmas.List.Elements.{All-nil}
use Rattle.std.specs.List.{All, IsDistinct}
use Rattle.std.specs.Map.{keys_of, values_of}
use Rattle.meta_word.specs.declared.meta.Meta.{Meta}
use Rattle.meta_word.specs.declared.status.TheConstants.{MAX_SERIAL}
use Rattle.stm_model.specs.declared.cause.Cause.{Cause}
use Rattle.stm_model.specs.declared.ending.Ending.{Ending}
use Rattle.stm_model.specs.declared.ending.Ending.TheVariants.{Committed, Read, Rolled}
use Rattle.stm_model.specs.declared.note.Note.{Note}
use Rattle.stm_model.specs.After.{at}
use Rattle.stm_model.specs.Attempt.{Ended, Attempt, Stage, Write, Announce, Begin, Stopped, ReadMeta, ExtendClock, ExtendNote, ReadValue, Validate, AcquireMeta, Acquire, OwnerStatus, OwnerMeta, DoomOwner, ReleaseLevel, Prepare, Mark, CommitClock, CommitNote, Decide, StoreValues, Release, RollBack, cause_at, flies_at, stamp_of}
use Rattle.stm_model.specs.CellsState.{Book}
use Rattle.stm_model.specs.Heap.{AreWords}
use Rattle.stm_model.specs.History.{IsCurrent}
use Rattle.stm_model.specs.Safe.{EndingAt, HasBegun, IsKept, IsSound, IsToRead, IsToWrite, LevelsNest, PhaseAt, SafeAttempt, SafeStage, SafeStatus, SafeView, SerialAt, Sound, EndsSo, WasTaken, WasSampled, WasSeen, caller_at, serial_at}
use Rattle.stm_model.specs.World.{Terms, View, World, attempt_of, cells_in, entry_of}
use Rattle.opacity.proofs.Shown.{Shows, from_shown, if_shown, to_shown}
use Rattle.opacity.proofs.Whole.{OwnSafe}

-- Two attempts have in common all that their stages speak of.
pub record SameGround (t u : Attempt) : Type 0 where
  pub own : u.own ≡ t.own
  pub serial : u.serial ≡ t.serial
  pub settings : u.settings ≡ t.settings
  pub prefix : u.prefix ≡ t.prefix
  pub notes : u.notes ≡ t.notes
  pub writes : u.now.writes ≡ t.now.writes
  pub saved : u.saved ≡ t.saved

module _ (terms : Terms) (w : World) (p : ℕ) where
  -- what has read and written nothing
  pub blank_sound : (count clock : ℕ) → count ≤ MAX_SERIAL → clock ≡ terms.limit → IsSound terms w p (record { caller = p; serial = count; reads = []; writes = [] }) clock 0 []
  unfolding IsDistinct
  blank_sound count clock room limit = record {
    own = refl;
    serial = room;
    limit = limit;
    prefix = omega arith;
    notes = All-nil (IsCurrent terms.opening w.history 0);
    entry = record { reads_apart = tt; writes_apart = tt; words = All-nil (λ word. word < 2 ^ 64) };
    noted_cells = All-nil (λ note. note.addr.0 < cells_in terms);
    written_cells = All-nil (λ cell. cell < cells_in terms);
    levels = tt;
  }

  -- the same at another prefix
  pub sound_at : (t : Attempt) (clock : ℕ) → Sound terms w p t → clock ≤ length w.history → All (IsCurrent terms.opening w.history clock) t.notes → Sound terms w p (record t { prefix = clock })
  sound_at t clock sound low current = record {
    own = sound.own;
    serial = sound.serial;
    limit = sound.limit;
    prefix = low;
    notes = current;
    entry = sound.entry;
    noted_cells = sound.noted_cells;
    written_cells = sound.written_cells;
    levels = sound.levels;
  }

  -- the same with other writes and levels
  pub sound_with : (t : Attempt) (writes : List Write) (saved : List Book) → Sound terms w p t → IsDistinct nat_eq (keys_of writes) → AreWords (values_of writes) → All (λ cell. cell < cells_in terms) (keys_of writes)
      → LevelsNest (keys_of writes) saved → Sound terms w p (record t { now = record t.now { writes = writes }; saved = saved })
  sound_with t writes saved sound apart words cells levels = record {
    own = sound.own;
    serial = sound.serial;
    limit = sound.limit;
    prefix = sound.prefix;
    notes = sound.notes;
    entry = record { reads_apart = sound.entry.reads_apart; writes_apart = apart; words = words };
    noted_cells = sound.noted_cells;
    written_cells = cells;
    levels = levels;
  }

  pub sound_levels : (t : Attempt) (saved : List Book) → Sound terms w p t → LevelsNest (keys_of t.now.writes) saved → Sound terms w p (record t { saved = saved })
  sound_levels t saved sound levels = sound_with t t.now.writes saved sound sound.entry.writes_apart sound.entry.words sound.written_cells levels

  module _ (t u : Attempt) (same : SameGround t u) where
    to_read : (cell : ℕ) → IsToRead terms t cell → IsToRead terms u cell
    to_read cell h = record { in_range = h.in_range; unwritten = rw same.writes h.unwritten; unnoted = rw same.notes h.unnoted }

    to_write : (cell value : ℕ) → IsToWrite terms t cell value → IsToWrite terms u cell value
    to_write cell value h = record { in_range = h.in_range; unwritten = rw same.writes h.unwritten; word = h.word }

    was_seen : (cell : ℕ) (first : Meta) → WasSeen w t cell first → WasSeen w u cell first
    was_seen cell first h = record { quiet = rw same.own h.quiet; behind = h.behind }

    was_taken : (cell : ℕ) (meta : Meta) → WasTaken terms w t cell meta → WasTaken terms w u cell meta
    was_taken cell meta h = record { found = h.found; another = rw same.own h.another }

    was_sampled : (clock : ℕ) (behind : List Note) → WasSampled w t clock behind → WasSampled w u clock behind
    was_sampled clock behind h = record { low = rw same.prefix h.low; high = h.high; checked = h.checked; notes = same.notes ∙ h.notes; each = h.each }

    pub stage_same : (stage : Stage) → HasBegun stage → SafeStage terms w t stage → SafeStage terms w u stage
    unfolding SafeStage HasBegun
    stage_same Announce begun h = absurd begun
    stage_same Begin begun h = absurd begun
    stage_same (ReadMeta cell left) begun h = to_read cell h
    stage_same (ExtendClock cell left first) begun h = (to_read cell h.0, was_seen cell first h.1)
    stage_same (ExtendNote cell left first clock note behind) begun h = (to_read cell h.0, was_seen cell first h.1, h.2, was_sampled clock (note ∷ behind) h.3)
    stage_same (ReadValue cell left first) begun h = (to_read cell h.0, was_seen cell first h.1, rw same.prefix h.2)
    stage_same (Validate cell left first value) begun h = (to_read cell h.0, was_seen cell first h.1, rw same.prefix h.2, h.3)
    stage_same (AcquireMeta cell value left doomed) begun h = to_write cell value h
    stage_same (OwnerStatus cell value left first) begun h = (to_write cell value h.0, was_taken cell first h.1)
    stage_same (OwnerMeta cell value left first status) begun h = (to_write cell value h.0, was_taken cell first h.1, h.2)
    stage_same (DoomOwner cell value left first second status) begun h =
        (to_write cell value h.0, was_taken cell first h.1, was_taken cell second h.2, h.3, h.4)
    stage_same (Acquire cell value left doomed first expected again) begun h = (to_write cell value h.0, h.1, h.2)
    stage_same (ReleaseLevel kept write behind) begun h = record {
      former = h.former;
      others = h.others;
      level = same.saved ∙ h.level;
      kept_writes = h.kept_writes;
      given = h.given;
      whole = rw same.writes h.whole;
    }
    stage_same (Mark write behind) begun h = rw same.writes h
    stage_same Prepare begun h = rw same.writes h
    stage_same (CommitClock lost) begun h = rw same.writes h
    stage_same (CommitNote lost clock note behind) begun h = (rw same.writes h.0, was_sampled clock (note ∷ behind) h.1)
    stage_same (Decide lost clock) begun h = (rw same.writes h.0, was_sampled clock [] h.1, h.2)
    stage_same (StoreValues write behind) begun h = rw same.writes h
    stage_same (Release write behind) begun h = rw same.writes h
    stage_same (RollBack write behind) begun h = rw same.writes h
    stage_same stage begun h = tt

    entry_same : entry_of u ≡ entry_of t
    entry_same = rw (same.own, same.serial, same.notes, same.writes) refl

    evidence_same : (cause : Cause) → Shows t cause → Shows u cause
    evidence_same cause shown = rw (same.own, same.settings, same.notes) shown

    pub told_same : (ending : Option Ending) → EndsSo w t ending → EndsSo w u ending
    unfolding EndsSo
    told_same None told = tt
    told_same (Some (Committed stamp)) told = (told.0, told.1, told.2 ∙ sym entry_same)
    told_same (Some (Read prefix)) told = told ∙ sym same.prefix
    told_same (Some (Rolled cause prefix)) told = (told.0 ∙ sym same.prefix, to_shown u cause (evidence_same cause (from_shown t cause told.1)))

  at_same : (t : Attempt) (stage : Stage) → SameGround t (at t stage)
  at_same t stage = record { own = refl; serial = refl; settings = refl; prefix = refl; notes = refl; writes = refl; saved = refl }

  -- It may stand at a stage where its phase and its ending may, and what the stage says holds of it, and its cause is shown.
  pub placed_with : (t : Attempt) → Sound terms w p t → EndsSo w t t.ending → (stage : Stage) → HasBegun stage → IfSome (cause_at stage) (Shows t) → PhaseAt stage t.ending t.phase → EndingAt stage t.ending
      → SafeStage terms w t stage → SafeAttempt terms w p (at t stage)
  placed_with t sound told stage begun shown phase ending safe =
      record {
        sound = sound;
        phase = phase;
        ending = ending;
        ends_so = told_same t (at t stage) (at_same t stage) t.ending told;
        refused = if_shown (at t stage) (cause_at stage) shown;
        stage = stage_same t (at t stage) (at_same t stage) stage begun safe;
      }

-- A stage that has begun, and at which nothing was refused.
abbrev pub IsPlain : Stage → Type 0
IsPlain Announce = ⊥
IsPlain Begin = ⊥
IsPlain (Stopped cause) = ⊥
IsPlain stage = Unit {0}

plain_begun : (stage : Stage) → IsPlain stage → HasBegun stage
unfolding HasBegun
plain_begun Announce plain = absurd plain
plain_begun Begin plain = absurd plain
plain_begun stage plain = tt

pub plain_cause : (stage : Stage) (P : Cause → Type 0) → IsPlain stage → IfSome (cause_at stage) P
unfolding cause_at
plain_cause (Stopped cause) P plain = absurd plain
plain_cause stage P plain = tt

-- The same where nothing was refused.
pub placed : (terms : Terms) (w : World) (p : ℕ) (t : Attempt) → Sound terms w p t → EndsSo w t t.ending → (stage : Stage) → IsPlain stage → PhaseAt stage t.ending t.phase → EndingAt stage t.ending
    → SafeStage terms w t stage → SafeAttempt terms w p (at t stage)
placed terms w p t sound told stage plain phase ending safe =
    placed_with terms w p t sound told stage (plain_begun stage plain) (plain_cause stage (Shows t) plain) phase ending safe

-- ---- an attempt that goes on

pub serial_from : (stage : Stage) (serial word : ℕ) → HasBegun stage → SerialAt stage serial word → serial ≡ word
unfolding HasBegun SerialAt
serial_from Announce serial word begun h = absurd begun
serial_from stage serial word begun h = h

pub serial_to : (stage : Stage) (serial word : ℕ) → HasBegun stage → serial ≡ word → SerialAt stage serial word
unfolding HasBegun SerialAt
serial_to Announce serial word begun h = absurd begun
serial_to stage serial word begun h = h

-- Who is in flight wasn't let go.
pub kept_flying : (stage : Stage) (ending : Option Ending) → flies_at stage ≡ true → IsKept stage ending
unfolding flies_at IsKept
kept_flying Ended ending flies = absurd (never flies)
  where
    never : false ≡ true → ⊥
    never is = cc
kept_flying stage ending flies = tt

-- One attempt goes on as the other: with its serial and its phase, at no older prefix, and undecided or let go only where it was.
pub record Follows (t u : Attempt) : Type 0 where
  pub serial : u.serial ≡ t.serial
  pub phase : u.phase ≡ t.phase
  pub prefix : t.prefix ≤ u.prefix
  pub began : HasBegun t.stage
  pub begun : HasBegun u.stage
  pub kept : IsKept u.stage u.ending → IsKept t.stage t.ending
  pub undecided : IsKept u.stage u.ending → stamp_of u ≡ 0 → stamp_of t ≡ 0

-- From a stage in flight to another, with its numbers, phase, prefix and ending.
pub follows_at : (t u : Attempt) (here : Stage) → u.serial ≡ t.serial → u.phase ≡ t.phase → u.prefix ≡ t.prefix → u.ending ≡ t.ending → flies_at here ≡ true → HasBegun here → HasBegun u.stage → Follows (at t here) u
follows_at t u here serial phase prefix ending flies began begun = record {
  serial = serial;
  phase = phase;
  prefix = omega (arith, prefix);
  began = began;
  begun = begun;
  kept = λ kept. kept_flying here t.ending flies;
  undecided = λ kept undecided. rw ending at undecided;
}

-- The view knows no less than the other one, of the same attempt.
pub record Knows (w : World) (old new : View) : Type 0 where
  pub seen : old.seen ≤ new.seen
  pub high : new.seen ≤ length w.history
  pub since : new.since ≡ old.since
  pub clock : new.clock ≤ length w.history

module _ (terms : Terms) (w : World) (p : ℕ) where
  pub own_follows : (t : Attempt) (x : View) → attempt_of w p ≡ t → SafeView w (w.view p) → SafeStatus t (w.status p)
      → ((n : ℕ) → n < length w.history → caller_at w n ≡ p → IsKept t.stage t.ending → stamp_of t ≡ 0 → serial_at w n < t.serial)
      → Knows w (w.view p) x → Follows t x.attempt → SafeAttempt terms w p x.attempt → OwnSafe terms w p x (w.status p)
  own_follows t x is view status undecided knows follows safe = record {
    attempt = safe;
    view = record {
      seen = knows.high;
      since = omega (arith, knows.since, view.since, knows.seen);
      clock = knows.clock;
      fresh = λ begun kept.
          let before : (w.view p).since ≤ (attempt_of w p).prefix = view.fresh (rw is follows.began) (rw is (follows.kept kept)) in
          omega (arith, rw is at before, knows.since, follows.prefix);
    };
    status = record {
      serial = serial_to x.attempt.stage x.attempt.serial (w.status p).serial follows.begun (follows.serial ∙ serial_from t.stage t.serial (w.status p).serial follows.began status.serial);
      phase = rw follows.phase status.phase;
    };
    seen = knows.seen;
    serial = omega arith;
    undecided = λ n within same kept none. rw follows.serial (undecided n within same (follows.kept kept) (follows.undecided kept none));
  }
