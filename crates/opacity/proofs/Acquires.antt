-- The accesses that acquire a cell keep the world safe.
use Rattle.std.proofs.Common.{◌⊎◌, ◌≡◌, ◌≢◌, ℕ, zero, suc, nat_eq, ◌<◌, ◌&&◌, ◌||◌, not, true, false, Bool, Some, None, Option, if◌then◌else◌, List, [], ◌∷◌, refl, sym, ap, ◌∙◌, arith, inl, inr, subst}
use Rattle.std.proofs.lemmas.Bool.{eqb-false}
use Rattle.std.proofs.lemmas.Bool.Decides.{nat_tests}
use Rattle.meta_word.specs.Meta.{owned_by_another, same_bool, same_but_pending, same_meta}
use Rattle.meta_word.specs.Policy.{dooms}
use Rattle.meta_word.specs.declared.meta.Meta.{Meta}
use Rattle.meta_word.specs.declared.status.Phase.TheVariants.{Active}
use Rattle.stm_model.specs.declared.cause.Cause.TheVariants.{Stale}
use Rattle.stm_model.specs.declared.note.Note.{Note}
use Rattle.stm_model.specs.Accesses.{next_at, owned}
use Rattle.stm_model.specs.After.{meta_acquired, acquiring, after_at, at, done, note_of, exchanged, stopped, acquire_again, doom_or_again, write_refused}
use Rattle.stm_model.specs.Attempt.{AcquireMeta, Attempt, Acquire, Ready, OwnerStatus, Stage, Write, held_at, holds, unmarked_at, unstored_at}
use Rattle.stm_model.specs.Evidence.{Evidence, HasMoved}
use Rattle.stm_model.specs.Heap.{put, writes_to}
use Rattle.stm_model.specs.Safe.{NamesNote, IsKept, EndingAt, EndsSo, HasBegun, IsFree, IsToWrite, PhaseAt, Safe, SafeAttempt, SafeStage, WasFound, stamp_on, Sound}
use Rattle.stm_model.specs.World.{IsCaller, Terms, World, attempt_of, cells_in, words_after, clock_after, found, seen_after, since_at, with_meta, with_view}
use Rattle.opacity.proofs.Cells.{AlikeAt}
use Rattle.opacity.proofs.Ends.{stopped_open}
use Rattle.opacity.proofs.Fits.{Fits, IsOpen, ending_is, goes_on_same, open_facts, open_fits, phase_is, safe_local, safe_seen, stage_is}
use Rattle.opacity.proofs.Levels.{and_not, put_new}
use Rattle.opacity.proofs.ReadSteps.{knows_attempt}
use Rattle.opacity.proofs.Shown.{Shows, conflict_shown, names_found, write_shown}
use Rattle.opacity.proofs.Stands.{IsPlain, Follows, placed}
use Rattle.opacity.proofs.Stepping.{stepped}
use Rattle.opacity.proofs.Touch.{free_quiet, free_stamp, kept, owner_is_not, owner_low, safe_touched}
use Rattle.opacity.proofs.Walks.{among, among-append, keys-put_new}

-- ---- words

same_bool_refl : (b : Bool) → same_bool b b ≡ true
same_bool_refl true = refl
same_bool_refl false = refl

same_refl : (meta : Meta) → same_but_pending meta meta ≡ true
same_refl meta = rw same_bool_refl (numbers meta.owner meta.version)
  where
    numbers : (owner version : ℕ) → (nat_eq owner owner && nat_eq version version) ≡ true
    numbers owner version = grind (arith, nat_tests)

pub same_whole : (meta : Meta) → same_meta meta meta ≡ true
same_whole meta = rw (same_refl meta, same_bool_refl meta.pending) refl

-- the same but for the pending bit
pub record Alike (meta other : Meta) : Type 0 where
  pub changing : meta.changing ≡ other.changing
  pub owner : meta.owner ≡ other.owner
  pub version : meta.version ≡ other.version

alike_parts : (meta other : Meta) → same_but_pending meta other ≡ true → Alike meta other
alike_parts meta other same = record { changing = grind (arith, nat_tests); owner = grind (arith, nat_tests); version = grind (arith, nat_tests) }

alike_from : (meta other : Meta) → Alike meta other → same_but_pending meta other ≡ true
alike_from meta other alike = rw (alike.changing, alike.owner, alike.version) (same_refl other)

pub same_parts : (meta other : Meta) → same_meta meta other ≡ true → Alike meta other
same_parts meta other same = record { changing = grind (arith, nat_tests); owner = grind (arith, nat_tests); version = grind (arith, nat_tests) }

pub same_pending : (meta other : Meta) → same_meta meta other ≡ true → meta.pending ≡ other.pending
same_pending meta other same = grind (arith, nat_tests)

both_set : (meta other : Meta) → same_but_pending meta other ≡ true → meta.pending ≡ true → other.pending ≡ true → same_meta meta other ≡ false → ⊥
both_set meta other alike set still lost =
    let bits : same_bool meta.pending other.pending ≡ false = rw alike at lost in
    let same : same_bool meta.pending other.pending ≡ true = rw (set, still) refl in
    let never : true ≡ false = sym same ∙ bits in
    cc

-- where all but the pending bit is the same, and not the whole, and the bit stays set once it is, it came since
came_since : (meta other : Meta) → same_but_pending meta other ≡ true → same_meta meta other ≡ false → (other.pending ≡ true → meta.pending ≡ true) → meta.pending ≡ true
came_since meta other alike lost stays = by_bits meta.pending other.pending (rw alike at lost) stays
  where
    by_bits : (now before : Bool) → same_bool now before ≡ false → (before ≡ true → now ≡ true) → now ≡ true
    by_bits true before lost stays = refl
    by_bits false true lost stays = stays refl
    by_bits false false lost stays = cc

nobody_else : (own owner : ℕ) → owner ≢ own → (not (nat_eq owner 0) && not (nat_eq owner own)) ≡ false → owner ≡ 0
nobody_else own owner other test = grind (arith, nat_tests)

-- ---- a write of a new cell

put_else : (writes : List Write) (cell value other : ℕ) → writes_to writes cell ≡ false → other ≢ cell → writes_to (put writes cell value) other ≡ writes_to writes other
put_else writes cell value other none apart =
    ap (λ cells. among cells other) (keys-put_new writes cell value none) ∙ among-append _ (cell ∷ []) other ∙ last_out (writes_to writes other) other cell apart
  where
    last_out : (b : Bool) (other cell : ℕ) → other ≢ cell → (b || (nat_eq other cell || false)) ≡ b
    last_out b other cell apart = grind (arith, nat_tests)

put_here : (writes : List Write) (cell value : ℕ) → writes_to writes cell ≡ false → writes_to (put writes cell value) cell ≡ true
put_here writes cell value none =
    ap (λ cells. among cells cell) (keys-put_new writes cell value none) ∙ among-append _ (cell ∷ []) cell ∙ last_in (writes_to writes cell) cell
  where
    last_in : (b : Bool) (cell : ℕ) → (b || (nat_eq cell cell || false)) ≡ true
    last_in b cell = grind (arith, nat_tests)

module _ (terms : Terms) (w : World) (p : ℕ) (t : Attempt) (here : Stage) (is_open : IsOpen here) (phase : PhaseAt here t.ending t.phase) (ending : EndingAt here t.ending) (sound : Sound terms w p t) where
  pub to_acquire : (there : Stage) → IsOpen there → IsPlain there → SafeStage terms w t there → Fits terms w p (at t here) (at t there)
  to_acquire there then_open plain stage = open_fits terms w p t t here there is_open then_open plain phase ending (goes_on_same terms w p t sound) stage

  pub acquired_again : (cell value left : ℕ) (doomed : Bool) (first latest : Meta) → Shows t (write_refused t.own cell first latest) → IsToWrite terms t cell value → Fits terms w p (at t here) (acquire_again t cell value left doomed first latest)
  unfolding SafeStage
  acquired_again cell value zero doomed first latest shown write = stopped_open terms w p t here is_open phase ending sound (write_refused t.own cell first latest) shown
  acquired_again cell value (suc left) doomed first latest shown write = to_acquire (AcquireMeta cell value left doomed) tt tt write

module _ (lawful : List ℕ → Type 0) (may : List ℕ → List ℕ → Type 0) (terms : Terms) (w : World) (p : ℕ) (safe : Safe lawful may terms w) (caller : IsCaller terms p) where
  abbrev t : Attempt
  t = attempt_of w p

  own : SafeAttempt terms w p t
  own = safe.attempts p caller

  sound : Sound terms w p t
  sound = own.sound

  -- a word that is found now
  pub found_now : (cell : ℕ) → cell < cells_in terms → WasFound terms w cell (w.meta cell)
  found_now cell within = record { owner = owner_low lawful may terms w safe cell within; behind = omega arith; pending = λ same set. set }

  -- a cell that the caller doesn't write isn't its own
  pub not_own : (stage : Stage) → IsOpen stage → t.stage ≡ stage → (cell value : ℕ) → IsToWrite terms t cell value → (w.meta cell).owner ≢ t.own
  not_own stage is_open is cell value write =
      let free : holds t cell ≡ false = subst (λ (s : Stage). writes_to (held_at t.now.writes s) cell ≡ false) (sym is) (rw ((open_facts stage is_open).held t.now.writes) write.unwritten) in
      let other : (w.meta cell).owner ≢ p = owner_is_not lawful may terms w safe p cell caller.0 write.in_range free in
      λ same. other (same ∙ own.sound.own)

  -- so where no other caller owns it nobody does
  pub nobodys : (stage : Stage) → IsOpen stage → t.stage ≡ stage → (cell value : ℕ) → IsToWrite terms t cell value → owned_by_another t.own (w.meta cell) ≡ false → (w.meta cell).owner ≡ 0
  nobodys stage is_open is cell value write test = nobody_else t.own (w.meta cell).owner (not_own stage is_open is cell value write) test

  module _ (cell value left : ℕ) (doomed : Bool) (is : t.stage ≡ AcquireMeta cell value left doomed) where
    abbrev here : Stage
    here = AcquireMeta cell value left doomed

    write : IsToWrite terms t cell value
    unfolding SafeStage
    write = stage_is terms w p here own is

    tries : Fits terms w p (at t here) (acquiring t cell value left doomed (w.meta cell))
    unfolding acquiring SafeStage
    tries = go (owned_by_another t.own (w.meta cell)) refl
      where
        again : owned_by_another t.own (w.meta cell) ≡ true → Fits terms w p (at t here) (acquire_again t cell value left doomed (w.meta cell) (w.meta cell))
        again another =
            acquired_again terms w p t here tt (phase_is terms w p here own is) (ending_is terms w p here own is) sound cell value left doomed (w.meta cell) (w.meta cell)
            (conflict_shown t cell (w.meta cell) (w.meta cell) another) write

        dooming : (b : Bool) → owned_by_another t.own (w.meta cell) ≡ true
            → Fits terms w p (at t here) (if b then at t (OwnerStatus cell value left (w.meta cell)) else acquire_again t cell value left doomed (w.meta cell) (w.meta cell))
        dooming true another = to_acquire terms w p t here tt (phase_is terms w p here own is) (ending_is terms w p here own is) sound (OwnerStatus cell value left (w.meta cell)) tt tt
            (write, record { another = another; found = found_now cell write.in_range })
        dooming false another = again another

        free : owned_by_another t.own (w.meta cell) ≡ false → (b : Bool) → nat_eq (w.meta cell).owner 0 ≡ b
            → Fits terms w p (at t here) (if b then at t (Acquire cell value left doomed (w.meta cell) (w.meta cell) false) else acquire_again t cell value left doomed (w.meta cell) (w.meta cell))
        free none true test =
            let nobody : (w.meta cell).owner ≡ 0 = nobodys here tt is cell value write none in
            to_acquire terms w p t here tt (phase_is terms w p here own is) (ending_is terms w p here own is) sound (Acquire cell value left doomed (w.meta cell) (w.meta cell) false) tt tt
            (write, found_now cell write.in_range, record { nobody = nobody; quiet = free_quiet lawful may terms w safe cell write.in_range nobody; alike = same_refl (w.meta cell); pending = λ never. cc })
        free none false test =
            let nobody : (w.meta cell).owner ≡ 0 = nobodys here tt is cell value write none in
            absurd (eqb-false (w.meta cell).owner 0 test nobody)

        go : (b : Bool) → owned_by_another t.own (w.meta cell) ≡ b → Fits terms w p (at t here) (if b
            then doom_or_again t cell value left doomed (w.meta cell)
            else if nat_eq (w.meta cell).owner 0 then at t (Acquire cell value left doomed (w.meta cell) (w.meta cell) false) else acquire_again t cell value left doomed (w.meta cell) (w.meta cell))
        go true another = dooming (dooms t.settings.policy && not doomed) another
        go false none = free none (nat_eq (w.meta cell).owner 0) refl

    by_note : (noted : Option Note) → note_of t.notes cell ≡ noted → Fits terms w p (at t here) (meta_acquired t cell value left doomed noted (w.meta cell))
    unfolding Evidence NamesNote
    by_note None is_none = tries
    by_note (Some note) is_noted = go (nat_eq note.version (w.meta cell).version) refl
      where
        go : (b : Bool) → nat_eq note.version (w.meta cell).version ≡ b
            → Fits terms w p (at t here) (if b then acquiring t cell value left doomed (w.meta cell) else stopped t (Stale note.addr note.version (w.meta cell)))
        go true same = tries
        go false other = stopped_open terms w p t here tt (phase_is terms w p here own is) (ending_is terms w p here own is) sound (Stale note.addr note.version (w.meta cell)) (inl (λ same. eqb-false note.version (w.meta cell).version other (sym same)), names_found t.notes cell note (w.meta cell) is_noted)

    pub keeps_acquire_meta : Safe lawful may terms (stepped w p (AcquireMeta cell value left doomed))
    unfolding next_at after_at words_after found seen_after since_at clock_after
    keeps_acquire_meta = safe_seen lawful may terms w p safe caller here is _ (by_note (note_of t.notes cell) refl) (knows_attempt lawful may terms w p safe caller _ refl refl refl)

  -- ---- the exchange

  module _ (cell value left : ℕ) (doomed : Bool) (first expected : Meta) (again : Bool) (is : t.stage ≡ Acquire cell value left doomed first expected again) where
    abbrev owning_here : Stage
    owning_here = Acquire cell value left doomed first expected again

    at_stage : IsToWrite terms t cell value × WasFound terms w cell expected × IsFree first expected again
    unfolding SafeStage
    at_stage = stage_is terms w p owning_here own is

    abbrev won : Attempt
    won = done (record t { now = record t.now { writes = put t.now.writes cell value } })

    undecided : t.ending ≡ None
    unfolding EndingAt
    undecided = ending_is terms w p owning_here own is

    active : t.phase ≡ Active
    unfolding PhaseAt
    active = phase_is terms w p owning_here own is

    taken_alike : (other : ℕ) → other ≢ cell → AlikeAt other won (at t owning_here)
    unfolding held_at unmarked_at unstored_at
    taken_alike other apart =
        let same = put_else t.now.writes cell value other at_stage.0.unwritten apart in
        record { held = same; marked = λ held. rw same refl; unstored = λ held. refl; stamp = λ held. refl }

    taken_follows : Follows (at t owning_here) won
    unfolding HasBegun IsKept
    taken_follows = record { serial = refl; phase = refl; prefix = omega arith; began = tt; begun = tt; kept = λ kept. tt; undecided = λ kept none. none }

    taken_safe : SafeAttempt terms w p won
    unfolding HasBegun PhaseAt EndingAt EndsSo SafeStage
    taken_safe =
        placed terms w p (record t { now = record t.now { writes = put t.now.writes cell value } }) (put_new terms w p t sound cell value at_stage.0.word at_stage.0.in_range at_stage.0.unwritten) (rw undecided tt) (Ready None) tt active undecided tt

    won_safe : same_meta (w.meta cell) expected ≡ true → Safe lawful may terms (with_view (with_meta w cell (owned t.own expected)) p (record (w.view p) { attempt = won }))
    unfolding held_at unmarked_at
    won_safe test =
        let same : Alike (w.meta cell) expected = same_parts (w.meta cell) expected test in
        let nobody : (w.meta cell).owner ≡ 0 = same.owner ∙ at_stage.2.nobody in
        let stamp : stamp_on w cell ≡ 0 = free_stamp lawful may terms w safe cell nobody in
        safe_touched lawful may terms w p safe caller cell at_stage.0.in_range (owned t.own expected) won owning_here is taken_alike taken_follows taken_safe
        (omega (arith, same.version)) (λ at set. sym (same_pending (w.meta cell) expected test) ∙ set) (inl stamp)
        (kept lawful may terms w p safe caller cell at_stage.0.in_range (owned t.own expected) won own.sound.own (put_here t.now.writes cell value at_stage.0.unwritten)
        (and_not (writes_to (put t.now.writes cell value) cell) ∙ sym at_stage.2.quiet) (rw undecided refl) stamp (sym same.version) (inr nobody))

    -- Where it was lost for good, and no other owns the cell now, its version has risen.
    lost_moved : same_meta (w.meta cell) expected ≡ false → (again ≡ true) ⊎ (same_but_pending (w.meta cell) expected ≡ false) → owned_by_another t.own (w.meta cell) ≡ false → HasMoved t.own first (w.meta cell)
    lost_moved lost final none = inl (λ same. never same final)
      where
        nobody : (w.meta cell).owner ≡ 0
        nobody = nobodys owning_here tt is cell value at_stage.0 none

        before : Alike expected first
        before = alike_parts expected first at_stage.2.alike

        alike : first.version ≡ (w.meta cell).version → same_but_pending (w.meta cell) expected ≡ true
        alike same = alike_from (w.meta cell) expected (record {
          changing = free_quiet lawful may terms w safe cell at_stage.0.in_range nobody ∙ sym at_stage.2.quiet;
          owner = nobody ∙ sym at_stage.2.nobody;
          version = sym same ∙ sym before.version;
        })

        never : first.version ≡ (w.meta cell).version → (again ≡ true) ⊎ (same_but_pending (w.meta cell) expected ≡ false) → ⊥
        never same (inl second) =
            let set : expected.pending ≡ true = at_stage.2.pending second in
            let still : (w.meta cell).pending ≡ true = at_stage.1.pending (before.version ∙ same) set in
            both_set (w.meta cell) expected (alike same) still set lost
        never same (inr other) = let clash : true ≡ false = sym (alike same) ∙ other in cc

    refuses : same_meta (w.meta cell) expected ≡ false → (again ≡ true) ⊎ (same_but_pending (w.meta cell) expected ≡ false) → Fits terms w p (at t owning_here) (acquire_again t cell value left doomed first (w.meta cell))
    refuses lost final =
        acquired_again terms w p t owning_here tt (phase_is terms w p owning_here own is) (ending_is terms w p owning_here own is) sound cell value left doomed first (w.meta cell)
        (write_shown t cell first (w.meta cell) (lost_moved lost final)) at_stage.0

    lost_fits : same_meta (w.meta cell) expected ≡ false
        → Fits terms w p (at t owning_here) (if not again && same_but_pending (w.meta cell) expected then at t (Acquire cell value left doomed first (w.meta cell) true) else acquire_again t cell value left doomed first (w.meta cell))
    unfolding SafeStage
    lost_fits lost = go again (same_but_pending (w.meta cell) expected) refl refl
      where
        go : (second b : Bool) → again ≡ second → same_but_pending (w.meta cell) expected ≡ b
            → Fits terms w p (at t owning_here) (if not second && b then at t (Acquire cell value left doomed first (w.meta cell) true) else acquire_again t cell value left doomed first (w.meta cell))
        go true b last same = refuses lost (inl last)
        go false false last same = refuses lost (inr same)
        go false true last same =
            let alike : Alike (w.meta cell) expected = alike_parts (w.meta cell) expected same in
            let before : Alike expected first = alike_parts expected first at_stage.2.alike in
            to_acquire terms w p t owning_here tt (phase_is terms w p owning_here own is) (ending_is terms w p owning_here own is) sound (Acquire cell value left doomed first (w.meta cell) true) tt tt (
              at_stage.0,
              found_now cell at_stage.0.in_range,
              record {
                nobody = alike.owner ∙ at_stage.2.nobody;
                quiet = alike.changing ∙ at_stage.2.quiet;
                alike = alike_from (w.meta cell) first (record { changing = alike.changing ∙ before.changing; owner = alike.owner ∙ before.owner; version = alike.version ∙ before.version });
                pending = λ second. came_since (w.meta cell) expected same lost (at_stage.1.pending (sym alike.version));
              },
            )

    lost_safe : same_meta (w.meta cell) expected ≡ false
        → Safe lawful may terms (with_view w p (record (w.view p) {
          attempt =
              if not again && same_but_pending (w.meta cell) expected then at t (Acquire cell value left doomed first (w.meta cell) true) else acquire_again t cell value left doomed first (w.meta cell);
        }))
    lost_safe lost = safe_local lawful may terms w p safe caller owning_here is _ (lost_fits lost)

    pub keeps_acquire : Safe lawful may terms (stepped w p (Acquire cell value left doomed first expected again))
    unfolding next_at after_at words_after found seen_after since_at clock_after exchanged
    keeps_acquire = go (same_meta (w.meta cell) expected) refl
      where
        go : (b : Bool) → same_meta (w.meta cell) expected ≡ b
            → Safe lawful may terms (with_view (if b then with_meta w cell (owned t.own expected) else w) p (record (w.view p) {
              attempt =
                  if b then done (record t { now = record t.now { writes = put t.now.writes cell value } })
                  else if not again && same_but_pending (w.meta cell) expected then at t (Acquire cell value left doomed first (w.meta cell) true)
                  else acquire_again t cell value left doomed first (w.meta cell);
            }))
        go true test = won_safe test
        go false lost = lost_safe lost
