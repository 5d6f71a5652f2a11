-- The accesses of a read keep the world safe.
use Rattle.std.proofs.Common.{◌≡◌, ℕ, zero, suc, nat_eq, nat_lt, ◌-◌, ◌<◌, ◌≤◌, not, true, false, Bool, Some, None, if◌then◌else◌, IsFalse, List, [], ◌∷◌, ◌++◌, length, map, refl, sym, arith, inl, inr}
use Rattle.std.proofs.lemmas.Bool.{and_parts, cases_eq, eqb-true, ltb-false, ne_eqb, not-true}
use Rattle.std.proofs.lemmas.Bool.Decides.{eqb_tells}
use Rattle.std.proofs.lemmas.List.{map_push}
use Rattle.std.proofs.lemmas.List.Elements.{All-push}
use Rattle.meta_word.specs.Meta.{changing_by_another, still_has}
use Rattle.meta_word.specs.declared.meta.Meta.{Meta}
use Rattle.stm_model.specs.declared.cause.Cause.{Cause}
use Rattle.stm_model.specs.declared.cause.Cause.TheVariants.{Moved, ReadConflict, Stale}
use Rattle.stm_model.specs.declared.note.Note.{Note}
use Rattle.stm_model.specs.Accesses.{addr_of, next_at}
use Rattle.stm_model.specs.After.{after_at, at, extend_on, extended, read_again, meta_read, validated, note_of, stopped, answer_with}
use Rattle.stm_model.specs.Attempt.{Attempt, ExtendNote, ReadValue, ReadMeta, Ready, ExtendClock, Validate, Stage, stamp_of}
use Rattle.stm_model.specs.Evidence.{Evidence}
use Rattle.stm_model.specs.History.{IsCurrent}
use Rattle.stm_model.specs.Safe.{NamesNote, EndingAt, IsToRead, PhaseAt, Safe, SafeAttempt, SafeCell, SafeStage, WasFetched, WasSampled, WasSeen, stamp_on, Sound}
use Rattle.stm_model.specs.World.{IsCaller, Terms, View, World, attempt_of, cells_in, words_after, clock_after, found, seen_after, since_at}
use Rattle.stm_model.proofs.EvidenceLemmas.{has_moved, is_stale}
use Rattle.stm_model.proofs.HistoryLemmas.{last_below}
use Rattle.opacity.proofs.Ends.{stopped_open}
use Rattle.opacity.proofs.Fits.{Fits, IsOpen, ending_is, goes_on, goes_on_same, open_facts, open_fits, phase_is, safe_seen, stage_is}
use Rattle.opacity.proofs.Samples.{fetched_now, not_written, noted_now, sampled_all, sampled_more, sampled_start, still_current}
use Rattle.opacity.proofs.Shown.{all_at, Shows, names_checked}
use Rattle.opacity.proofs.Stands.{IsPlain, Knows, sound_at}
use Rattle.opacity.proofs.Stepping.{stepped}
use Rattle.opacity.proofs.Walks.{among, distinct_push}

-- no cell is ahead of the history
pub version_length : (terms : Terms) (w : World) (cell : ℕ) → SafeCell terms w cell → (w.meta cell).version ≤ length w.history
version_length terms w cell safe = elim (cases_eq (stamp_on w cell) 0) [
  | inl none ↦ omega (arith, safe.settled none, last_below w.history (length w.history) cell)
  | inr some ↦
      let written = safe.written (omega arith) in
      omega (arith, written.version, written.newest, last_below w.history (stamp_on w cell - 1) cell, last_below w.history (length w.history) cell)
]

unnoted : (notes : List Note) (cell : ℕ) → note_of notes cell ≡ None → among (map (λ note. note.addr.0) notes) cell ≡ false
unnoted [] cell none = refl
unnoted (note ∷ notes) cell none = elim (eqb_tells note.addr.0 cell) [
  | inl same ↦ absurd (some (rw same.0 at none))
  | inr other ↦ rw (ne_eqb cell note.addr.0 (λ same. other.1 (sym same))) (unnoted notes cell (rw other.0 at none))
]
  where
    some : Some note ≡ None → ⊥
    some is = cc

module _ (terms : Terms) (w : World) (p : ℕ) (t : Attempt) (here : Stage) (is_open : IsOpen here) (phase : PhaseAt here t.ending t.phase) (ending : EndingAt here t.ending) (sound : Sound terms w p t) where
  to : (there : Stage) → IsOpen there → IsPlain there → SafeStage terms w t there → Fits terms w p (at t here) (at t there)
  to there then_open plain stage = open_fits terms w p t t here there is_open then_open plain phase ending (goes_on_same terms w p t sound) stage

  again : (cell left : ℕ) (cause : Cause) → Shows t cause → IsToRead terms t cell → Fits terms w p (at t here) (read_again t cell left cause)
  unfolding SafeStage
  again cell zero cause shown read = stopped_open terms w p t here is_open phase ending sound cause shown
  again cell (suc left) cause shown read = to (ReadMeta cell left) tt tt read

  meta_reads : (cell left : ℕ) → IsToRead terms t cell → Fits terms w p (at t here) (meta_read t cell left (w.meta cell))
  unfolding meta_read SafeStage Evidence NamesNote
  meta_reads cell left read = go (changing_by_another t.own (w.meta cell)) refl
    where
      next : (b : Bool) → nat_lt t.prefix (w.meta cell).version ≡ b → IsFalse (changing_by_another t.own (w.meta cell))
          → Fits terms w p (at t here) (if b then at t (ExtendClock cell left (w.meta cell)) else at t (ReadValue cell left (w.meta cell)))
      next true less quiet = to (ExtendClock cell left (w.meta cell)) tt tt (read, record { quiet = quiet; behind = omega arith })
      next false more quiet = to (ReadValue cell left (w.meta cell)) tt tt (read, record { quiet = quiet; behind = omega arith }, ltb-false t.prefix (w.meta cell).version more)

      go : (b : Bool) → changing_by_another t.own (w.meta cell) ≡ b
          → Fits terms w p (at t here) (if b then read_again t cell left (ReadConflict (addr_of cell) (w.meta cell)) else
          if nat_lt t.prefix (w.meta cell).version then at t (ExtendClock cell left (w.meta cell)) else at t (ReadValue cell left (w.meta cell)))
      go true loud = again cell left (ReadConflict (addr_of cell) (w.meta cell)) (loud, tt) read
      go false quiet = next (nat_lt t.prefix (w.meta cell).version) refl quiet

  -- ---- an extension

  extends : (cell left : ℕ) (first : Meta) (clock : ℕ) (behind : List Note) → IsToRead terms t cell → WasSeen w t cell first → first.version ≤ clock → WasSampled w t clock behind
      → Fits terms w p (at t here) (extend_on t cell left first clock behind)
  unfolding SafeStage
  extends cell left first clock [] read seen low sampled =
      open_fits terms w p t (record t { prefix = clock }) here (ReadValue cell left first) is_open tt tt phase ending
      (record { serial = refl; phase = refl; ending = refl; prefix = sampled.low; writes = λ each. refl; sound = sound_at terms w p t clock sound sampled.high (sampled_all w t clock terms.opening sampled sound.notes) })
      (record { in_range = read.in_range; unwritten = read.unwritten; unnoted = read.unnoted }, record { quiet = seen.quiet; behind = seen.behind }, low)
  extends cell left first clock (note ∷ behind) read seen low sampled = to (ExtendNote cell left first clock note behind) tt tt (read, seen, low, sampled)

  -- ---- a note more

  noted_sound : (note : Note) → IsCurrent terms.opening w.history t.prefix note → note.addr.0 < cells_in terms → note_of t.notes note.addr.0 ≡ None → Sound terms w p (record t { notes = t.notes ++ note ∷ [] })
  noted_sound note current within none = record {
    own = sound.own;
    serial = sound.serial;
    limit = sound.limit;
    prefix = sound.prefix;
    notes = All-push (IsCurrent terms.opening w.history t.prefix) t.notes note sound.notes current;
    entry = record {
      reads_apart = rw (map_push (λ (each : Note). each.addr.0) t.notes note) (distinct_push (map (λ each. each.addr.0) t.notes) note.addr.0 sound.entry.reads_apart (unnoted t.notes note.addr.0 none));
      writes_apart = sound.entry.writes_apart;
      words = sound.entry.words;
    };
    noted_cells = All-push (λ each. each.addr.0 < cells_in terms) t.notes note sound.noted_cells within;
    written_cells = sound.written_cells;
    levels = sound.levels;
  }

module _ (lawful : List ℕ → Type 0) (may : List ℕ → List ℕ → Type 0) (terms : Terms) (w : World) (p : ℕ) (safe : Safe lawful may terms w) (caller : IsCaller terms p) where
  abbrev t : Attempt
  t = attempt_of w p

  own : SafeAttempt terms w p t
  own = safe.attempts p caller

  sound : Sound terms w p t
  sound = own.sound

  pub knows_clock : (x : View) → x.seen ≡ w.clock → x.since ≡ (w.view p).since → x.clock ≡ w.clock → Knows w (w.view p) x
  knows_clock x seen since clock =
      let view = safe.views p caller.1 in
      record { seen = omega (arith, view.seen, safe.clock, seen); high = omega (arith, safe.clock, seen); since = since; clock = omega (arith, safe.clock, clock) }

  pub knows_attempt : (x : View) → x.seen ≡ (w.view p).seen → x.since ≡ (w.view p).since → x.clock ≡ (w.view p).clock → Knows w (w.view p) x
  knows_attempt x seen since clock = let view = safe.views p caller.1 in record { seen = omega (arith, seen); high = omega (arith, view.seen, seen); since = since; clock = omega (arith, view.clock, clock) }

  -- where it is certain of no end it has no stamp
  pub no_stamp : (stage : Stage) → IsOpen stage → t.stage ≡ stage → stamp_of t ≡ 0
  no_stamp stage is_open is = let none = (open_facts stage is_open).ending_from t.ending (ending_is terms w p stage own is) in rw none refl

  pub keeps_read_meta : (cell left : ℕ) → t.stage ≡ ReadMeta cell left → Safe lawful may terms (stepped w p (ReadMeta cell left))
  unfolding next_at after_at words_after found seen_after since_at clock_after SafeStage
  keeps_read_meta cell left is =
      let stage = ReadMeta cell left in
      safe_seen lawful may terms w p safe caller stage is _
      (meta_reads terms w p t stage tt (phase_is terms w p stage own is) (ending_is terms w p stage own is) sound cell left (stage_is terms w p stage own is))
      (knows_attempt _ refl refl refl)

  pub keeps_extend_clock : (cell left : ℕ) (first : Meta) → t.stage ≡ ExtendClock cell left first → Safe lawful may terms (stepped w p (ExtendClock cell left first))
  unfolding next_at after_at words_after found seen_after since_at clock_after SafeStage
  keeps_extend_clock cell left first is =
      let stage = ExtendClock cell left first in
      let at_stage : IsToRead terms t cell × WasSeen w t cell first = stage_is terms w p stage own is in
      let low : first.version ≤ w.clock = omega (arith, at_stage.1.behind, version_length terms w cell (safe.cells cell at_stage.0.in_range), safe.clock) in
      safe_seen lawful may terms w p safe caller stage is _
      (extends terms w p t stage tt (phase_is terms w p stage own is) (ending_is terms w p stage own is) sound cell left first w.clock t.notes at_stage.0 at_stage.1 low
      (sampled_start w t w.clock (omega (arith, own.sound.prefix, safe.clock)) (omega (arith, safe.clock))))
      (knows_clock _ refl refl refl)

  pub keeps_extend_note : (cell left : ℕ) (first : Meta) (clock : ℕ) (note : Note) (behind : List Note) → t.stage ≡ ExtendNote cell left first clock note behind → Safe lawful may terms (stepped w p (ExtendNote cell left first clock note behind))
  unfolding next_at after_at words_after found seen_after since_at clock_after SafeStage extended Evidence NamesNote
  keeps_extend_note cell left first clock note behind is =
      safe_seen lawful may terms w p safe caller stage is _ (go (still_has t.own note.version (w.meta note.addr.0)) refl) (knows_attempt _ refl refl refl)
    where
      stage : Stage
      stage = ExtendNote cell left first clock note behind

      at_stage : IsToRead terms t cell × WasSeen w t cell first × (first.version ≤ clock) × WasSampled w t clock (note ∷ behind)
      at_stage = stage_is terms w p stage own is

      go : (b : Bool) → still_has t.own note.version (w.meta note.addr.0) ≡ b
          → Fits terms w p (at t stage) (if b then extend_on t cell left first clock behind else stopped t (Stale note.addr note.version (w.meta note.addr.0)))
      go true same =
          let tests = and_parts (nat_eq (w.meta note.addr.0).version note.version) (not (changing_by_another t.own (w.meta note.addr.0))) same in
          let within : note.addr.0 < cells_in terms = all_at (λ each. each.addr.0 < cells_in terms) at_stage.3.checked behind t.notes note at_stage.3.notes own.sound.noted_cells in
          let current : IsCurrent terms.opening w.history t.prefix note = all_at (IsCurrent terms.opening w.history t.prefix) at_stage.3.checked behind t.notes note at_stage.3.notes own.sound.notes in
          let quiet : changing_by_another p (w.meta note.addr.0) ≡ false = rw own.sound.own at (not-true (changing_by_another t.own (w.meta note.addr.0)) tests.1) in
          let none : stamp_on w note.addr.0 ≡ 0 = not_written lawful may terms w safe p note.addr.0 within (no_stamp stage tt is) quiet in
          let still = still_current lawful may terms w safe t.prefix clock note within none (eqb-true _ _ tests.0) current at_stage.3.low at_stage.3.high in
          extends terms w p t stage tt (phase_is terms w p stage own is) (ending_is terms w p stage own is) sound cell left first clock behind at_stage.0 at_stage.1 at_stage.2
          (sampled_more w t clock note behind at_stage.3 still)
      go false moved = stopped_open terms w p t stage tt (phase_is terms w p stage own is) (ending_is terms w p stage own is) sound (Stale note.addr note.version (w.meta note.addr.0)) (
        is_stale t.own note.version (w.meta note.addr.0) moved,
        names_checked at_stage.3.checked behind t.notes note (w.meta note.addr.0) at_stage.3.notes,
      )

  pub keeps_read_value : (cell left : ℕ) (first : Meta) → t.stage ≡ ReadValue cell left first → Safe lawful may terms (stepped w p (ReadValue cell left first))
  unfolding next_at after_at words_after found seen_after since_at clock_after SafeStage
  keeps_read_value cell left first is =
      let stage = ReadValue cell left first in
      let at_stage : IsToRead terms t cell × WasSeen w t cell first × (first.version ≤ t.prefix) = stage_is terms w p stage own is in
      safe_seen lawful may terms w p safe caller stage is _
      (to terms w p t stage tt (phase_is terms w p stage own is) (ending_is terms w p stage own is) sound (Validate cell left first (w.value cell)) tt tt
      (at_stage.0, at_stage.1, at_stage.2, fetched_now lawful may terms w safe cell first.version at_stage.0.in_range at_stage.1.behind))
      (knows_attempt _ refl refl refl)

  pub keeps_validate : (cell left : ℕ) (first : Meta) (value : ℕ) → t.stage ≡ Validate cell left first value → Safe lawful may terms (stepped w p (Validate cell left first value))
  unfolding next_at after_at words_after found seen_after since_at clock_after SafeStage validated Evidence NamesNote
  keeps_validate cell left first value is =
      safe_seen lawful may terms w p safe caller stage is _ (go (still_has t.own first.version (w.meta cell)) refl) (knows_attempt _ refl refl refl)
    where
      stage : Stage
      stage = Validate cell left first value

      note : Note
      note = record { addr = addr_of cell; version = first.version; value = value }

      at_stage : IsToRead terms t cell × WasSeen w t cell first × (first.version ≤ t.prefix) × WasFetched terms w cell first.version value
      at_stage = stage_is terms w p stage own is

      go : (b : Bool) → still_has t.own first.version (w.meta cell) ≡ b
          → Fits terms w p (at t stage) (if b then answer_with (record t { notes = t.notes ++ record { addr = addr_of cell; version = first.version; value = value } ∷ [] }) value else read_again t cell left (Moved (addr_of cell) first (w.meta cell)))
      go true same =
          let tests = and_parts (nat_eq (w.meta cell).version first.version) (not (changing_by_another t.own (w.meta cell))) same in
          let quiet : changing_by_another p (w.meta cell) ≡ false = rw own.sound.own at (not-true (changing_by_another t.own (w.meta cell)) tests.1) in
          let none : stamp_on w cell ≡ 0 = not_written lawful may terms w safe p cell at_stage.0.in_range (no_stamp stage tt is) quiet in
          let current : IsCurrent terms.opening w.history t.prefix note =
          noted_now lawful may terms w safe cell first.version value t.prefix note at_stage.0.in_range none (eqb-true _ _ tests.0) at_stage.2 own.sound.prefix at_stage.3 refl refl refl in
          open_fits terms w p t (record t { notes = t.notes ++ note ∷ [] }) stage (Ready (Some value)) tt tt tt (phase_is terms w p stage own is) (ending_is terms w p stage own is)
          (goes_on terms w p t _ refl refl refl refl refl
          (noted_sound terms w p t stage tt (phase_is terms w p stage own is) (ending_is terms w p stage own is) sound note current at_stage.0.in_range at_stage.0.unnoted))
          tt
      go false moved = again terms w p t stage tt (phase_is terms w p stage own is) (ending_is terms w p stage own is) sound cell left (Moved (addr_of cell) first (w.meta cell)) (has_moved t.own first (w.meta cell) at_stage.1.quiet moved, tt) at_stage.0
