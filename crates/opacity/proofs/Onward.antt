-- From one world to a later one: what attempts rest on stays, and so they stay safe.
use Rattle.std.proofs.Common.{◌≡◌, ℕ, ◌-◌, ◌<◌, ◌≤◌, ◌⊎◌, IsTrue, Option, Some, None, List, [], ◌∷◌, length, sym, ap, ◌∙◌, arith, inl, inr}
use Rattle.std.specs.List.{All}
use Rattle.std.proofs.lemmas.List.Elements.{All-weaker}
use Rattle.meta_word.specs.declared.meta.Meta.{Meta}
use Rattle.stm_model.specs.declared.ending.Ending.{Ending}
use Rattle.stm_model.specs.declared.ending.Ending.TheVariants.{Committed, Read, Rolled}
use Rattle.stm_model.specs.declared.note.Note.{Note}
use Rattle.stm_model.specs.Attempt.{Attempt, Stage, Announce, Begin, ReadMeta, ExtendClock, ExtendNote, ReadValue, Validate, AcquireMeta, Acquire, OwnerStatus, OwnerMeta, DoomOwner, ReleaseLevel, Prepare, Mark, CommitClock, CommitNote, Decide, StoreValues, Release, RollBack}
use Rattle.stm_model.specs.History.{IsCurrent, entry_after, last, state}
use Rattle.stm_model.specs.Safe.{SafeAttempt, SafeStage, Sound, EndsSo, WasFetched, WasFound, WasTaken, WasSampled, WasSeen, stamp_on}
use Rattle.stm_model.specs.World.{Terms, World, cells_in}

-- The history goes on.
pub record Continues (terms : Terms) (w v : World) : Type 0 where
  pub longer : length w.history ≤ length v.history
  pub state : (n : ℕ) → n ≤ length w.history → state terms.opening v.history n ≡ state terms.opening w.history n
  pub last : (n cell : ℕ) → n ≤ length w.history → last v.history n cell ≡ last w.history n cell
  pub entry : (n : ℕ) → n < length w.history → entry_after v.history n ≡ entry_after w.history n

-- And no cell of the heap falls to an earlier version, loses its pending bit at one version, or loses its decided writer at one version.
pub record Onward (terms : Terms) (w v : World) : Type 0 where
  pub goes : Continues terms w v
  pub version : (cell : ℕ) → cell < cells_in terms → (w.meta cell).version ≤ (v.meta cell).version
  pub pending : (cell : ℕ) → cell < cells_in terms → (w.meta cell).version ≡ (v.meta cell).version → IsTrue (w.meta cell).pending → IsTrue (v.meta cell).pending
  pub written : (cell : ℕ) → cell < cells_in terms → 0 < stamp_on w cell → (0 < stamp_on v cell) ⊎ ((w.meta cell).version < (v.meta cell).version)

pub continues_same : (terms : Terms) (w v : World) → v.history ≡ w.history → Continues terms w v
continues_same terms w v same = record {
  longer = omega (arith, ap length same);
  state = λ n low. rw same;
  last = λ n cell low. rw same;
  entry = λ n low. rw same;
}

module _ (terms : Terms) (w v : World) (on : Onward terms w v) where
  current_onward : (n : ℕ) (note : Note) → n ≤ length w.history → IsCurrent terms.opening w.history n note → IsCurrent terms.opening v.history n note
  current_onward n note low current = record {
    value = rw (on.goes.state n low) current.value;
    version = rw (on.goes.last n note.addr.0 low) current.version;
  }

  all_onward : (n : ℕ) (notes : List Note) → n ≤ length w.history → All (IsCurrent terms.opening w.history n) notes → All (IsCurrent terms.opening v.history n) notes
  all_onward n notes low = All-weaker (IsCurrent terms.opening w.history n) (IsCurrent terms.opening v.history n) (λ note. current_onward n note low) notes

  seen_onward : (t : Attempt) (cell : ℕ) (first : Meta) → cell < cells_in terms → WasSeen w t cell first → WasSeen v t cell first
  seen_onward t cell first within seen = record { quiet = seen.quiet; behind = omega (arith, seen.behind, on.version cell within) }

  fetched_onward : (cell version value : ℕ) → cell < cells_in terms → version ≤ length w.history → version ≤ (w.meta cell).version → WasFetched terms w cell version value → WasFetched terms v cell version value
  fetched_onward cell version value within low behind (inl is) = inl (rw (on.goes.state version low) is)
  fetched_onward cell version value within low behind (inr (inl less)) = inr (inl (omega (arith, less, on.version cell within)))
  fetched_onward cell version value within low behind (inr (inr some)) = elim (on.written cell within some) [
    | inl still ↦ inr (inr still)
    | inr less ↦ inr (inl (omega (arith, less, behind)))
  ]

  found_onward : (cell : ℕ) (meta : Meta) → cell < cells_in terms → WasFound terms w cell meta → WasFound terms v cell meta
  found_onward cell meta within found = record {
    owner = found.owner;
    behind = omega (arith, found.behind, on.version cell within);
    pending = λ same set. on.pending cell within (omega (arith, same, found.behind, on.version cell within)) (found.pending (omega (arith, same, found.behind, on.version cell within)) set);
  }

  taken_onward : (t : Attempt) (cell : ℕ) (meta : Meta) → cell < cells_in terms → WasTaken terms w t cell meta → WasTaken terms v t cell meta
  taken_onward t cell meta within owned = record { found = found_onward cell meta within owned.found; another = owned.another }

  sampled_onward : (t : Attempt) (clock : ℕ) (behind : List Note) → WasSampled w t clock behind → WasSampled v t clock behind
  sampled_onward t clock behind sampled = record {
    low = sampled.low;
    high = omega (arith, sampled.high, on.goes.longer);
    checked = sampled.checked;
    notes = sampled.notes;
    each = All-weaker (λ note. note.version ≡ last w.history clock note.addr.0) (λ note. note.version ≡ last v.history clock note.addr.0)
        (λ note is. is ∙ sym (on.goes.last clock note.addr.0 sampled.high)) sampled.checked sampled.each;
  }

  stage_onward : (t : Attempt) (stage : Stage) → t.prefix ≤ length w.history → SafeStage terms w t stage → SafeStage terms v t stage
  unfolding SafeStage
  stage_onward t Announce low h = h
  stage_onward t Begin low h = h
  stage_onward t (ReadMeta cell left) low h = h
  stage_onward t (ExtendClock cell left first) low h = (h.0, seen_onward t cell first h.0.in_range h.1)
  stage_onward t (ExtendNote cell left first clock note behind) low h = (h.0, seen_onward t cell first h.0.in_range h.1, h.2, sampled_onward t clock (note ∷ behind) h.3)
  stage_onward t (ReadValue cell left first) low h = (h.0, seen_onward t cell first h.0.in_range h.1, h.2)
  stage_onward t (Validate cell left first value) low h =
      (h.0, seen_onward t cell first h.0.in_range h.1, h.2, fetched_onward cell first.version value h.0.in_range (omega (arith, h.2, low)) h.1.behind h.3)
  stage_onward t (AcquireMeta cell value left doomed) low h = h
  stage_onward t (OwnerStatus cell value left first) low h = (h.0, taken_onward t cell first h.0.in_range h.1)
  stage_onward t (OwnerMeta cell value left first status) low h = (h.0, taken_onward t cell first h.0.in_range h.1, h.2)
  stage_onward t (DoomOwner cell value left first second status) low h =
      (h.0, taken_onward t cell first h.0.in_range h.1, taken_onward t cell second h.0.in_range h.2, h.3, h.4)
  stage_onward t (Acquire cell value left doomed first expected again) low h = (h.0, found_onward cell expected h.0.in_range h.1, h.2)
  stage_onward t (ReleaseLevel kept write behind) low h = h
  stage_onward t (Mark write behind) low h = h
  stage_onward t Prepare low h = h
  stage_onward t (CommitClock lost) low h = h
  stage_onward t (CommitNote lost clock note behind) low h = (h.0, sampled_onward t clock (note ∷ behind) h.1)
  stage_onward t (Decide lost clock) low h = (h.0, sampled_onward t clock [] h.1, h.2)
  stage_onward t (StoreValues write behind) low h = h
  stage_onward t (Release write behind) low h = h
  stage_onward t (RollBack write behind) low h = h
  stage_onward t stage low h = tt

  told_onward : (t : Attempt) (ending : Option Ending) → EndsSo w t ending → EndsSo v t ending
  unfolding EndsSo
  told_onward t None told = tt
  told_onward t (Some (Committed stamp)) told = (told.0, omega (arith, told.1, on.goes.longer), on.goes.entry (stamp - 1) (omega (arith, told.0, told.1)) ∙ told.2)
  told_onward t (Some (Read prefix)) told = told
  told_onward t (Some (Rolled cause prefix)) told = told

  sound_onward : (p : ℕ) (t : Attempt) → Sound terms w p t → Sound terms v p t
  sound_onward p t sound = record {
    own = sound.own;
    serial = sound.serial;
    limit = sound.limit;
    prefix = omega (arith, sound.prefix, on.goes.longer);
    notes = all_onward t.prefix t.notes sound.prefix sound.notes;
    entry = sound.entry;
    noted_cells = sound.noted_cells;
    written_cells = sound.written_cells;
    levels = sound.levels;
  }

  pub attempt_onward : (p : ℕ) (t : Attempt) → SafeAttempt terms w p t → SafeAttempt terms v p t
  attempt_onward p t safe = record {
    sound = sound_onward p t safe.sound;
    phase = safe.phase;
    ending = safe.ending;
    ends_so = told_onward t t.ending safe.ends_so;
    refused = safe.refused;
    stage = stage_onward t t.stage safe.sound.prefix safe.stage;
  }
