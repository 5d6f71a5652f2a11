-- The accesses that load an owner's status, validate its cell and doom it keep the world safe.
use Rattle.std.proofs.Common.{◌≡◌, ◌≢◌, ℕ, nat_eq, ◌&&◌, not, true, false, Bool, if◌then◌else◌, List, refl, sym, ap, ◌∙◌, arith, inl, inr}
use Rattle.std.proofs.lemmas.Bool.{and_parts, cases_eq, eqb-true}
use Rattle.std.proofs.lemmas.Bool.Decides.{nat_tests}
use Rattle.meta_word.specs.Meta.{owned_by_another}
use Rattle.meta_word.specs.Status.{phase_number, same_status}
use Rattle.meta_word.specs.declared.meta.Meta.{Meta}
use Rattle.meta_word.specs.declared.status.Phase.{Phase}
use Rattle.meta_word.specs.declared.status.Phase.TheVariants.{Active, Doomed, Idle, Preparing}
use Rattle.meta_word.specs.declared.status.TxnStatus.{TxnStatus}
use Rattle.stm_model.specs.Accesses.{doomed, next_at}
use Rattle.stm_model.specs.After.{after_at, at, is_active, owner_status_loaded, owner_validated, acquire_again}
use Rattle.stm_model.specs.Attempt.{Attempt, DoomOwner, OwnerMeta, OwnerStatus, Stage}
use Rattle.stm_model.specs.Safe.{IsToWrite, Safe, SafeAttempt, SafeStage, WasTaken, Sound}
use Rattle.stm_model.specs.World.{IsCaller, Terms, World, attempt_of, words_after, clock_after, found, replaced, seen_after, since_at, with_status, with_view}
use Rattle.opacity.proofs.Acquires.{nobodys, found_now, acquired_again, to_acquire}
use Rattle.opacity.proofs.Fits.{Fits, ending_is, phase_is, safe_seen, stage_is}
use Rattle.opacity.proofs.Places.{replaced_else, replaced_here}
use Rattle.opacity.proofs.ReadSteps.{knows_attempt}
use Rattle.opacity.proofs.Shown.{conflict_shown, write_shown}
use Rattle.opacity.proofs.Stepping.{stepped}
use Rattle.opacity.proofs.Whole.{KeepsWord}
use Rattle.opacity.proofs.OwnWords.{safe_others}

active_is : (phase : Phase) → is_active phase ≡ true → phase ≡ Active
active_is Idle test = cc
active_is Active test = refl
active_is Preparing test = cc
active_is Doomed test = cc

phase_by_number : (phase other : Phase) → phase_number phase ≡ phase_number other → phase ≡ other
phase_by_number phase other same = grind arith

-- words that are the same are equal
pub status_same : (old status : TxnStatus) → same_status old status ≡ true → old ≡ status
status_same old status same =
    let tests = and_parts (nat_eq old.serial status.serial) (nat_eq (phase_number old.phase) (phase_number status.phase)) same in
    let serial : old.serial ≡ status.serial = eqb-true old.serial status.serial tests.0 in
    let phase : old.phase ≡ status.phase = phase_by_number old.phase status.phase (eqb-true _ _ tests.1) in
    ap (λ (n : ℕ). record { serial = n; phase = old.phase }) serial ∙ ap (λ (f : Phase). record { serial = status.serial; phase = f }) phase

active_number : (phase : Phase) → phase_number phase ≡ 1 → phase ≡ Active
active_number Idle number = absurd (omega arith)
active_number Active number = refl
active_number Preparing number = absurd (omega arith)
active_number Doomed number = absurd (omega arith)

-- a word that is an active attempt's, and the same doomed
dooms_word : (old status : TxnStatus) → same_status old status ≡ true → status.phase ≡ Active → (old.phase ≡ Active) × (doomed status ≡ doomed old)
dooms_word old status same active =
    let tests = and_parts (nat_eq old.serial status.serial) (nat_eq (phase_number old.phase) (phase_number status.phase)) same in
    let serial : old.serial ≡ status.serial = eqb-true old.serial status.serial tests.0 in
    let number : phase_number old.phase ≡ phase_number status.phase = eqb-true _ _ tests.1 in
    let one : phase_number status.phase ≡ 1 = rw active refl in
    (active_number old.phase (number ∙ one), ap (λ (n : ℕ). record { serial = n; phase = Doomed }) (sym serial))

pub another_number : (own owner : ℕ) → (not (nat_eq owner 0) && not (nat_eq owner own)) ≡ true → owner ≢ own
another_number own owner test = grind (arith, nat_tests)

module _ (lawful : List ℕ → Type 0) (may : List ℕ → List ℕ → Type 0) (terms : Terms) (w : World) (p : ℕ) (safe : Safe lawful may terms w) (caller : IsCaller terms p) where
  abbrev t : Attempt
  t = attempt_of w p

  own : SafeAttempt terms w p t
  own = safe.attempts p caller

  sound : Sound terms w p t
  sound = own.sound

  pub keeps_owner_status : (cell value left : ℕ) (first : Meta) → t.stage ≡ OwnerStatus cell value left first → Safe lawful may terms (stepped w p (OwnerStatus cell value left first))
  unfolding next_at after_at words_after found seen_after since_at clock_after SafeStage owner_status_loaded
  keeps_owner_status cell value left first is =
      safe_seen lawful may terms w p safe caller stage is _ (go (is_active (w.status first.owner).phase) refl) (knows_attempt lawful may terms w p safe caller _ refl refl refl)
    where
      stage : Stage
      stage = OwnerStatus cell value left first

      at_stage : IsToWrite terms t cell value × WasTaken terms w t cell first
      at_stage = stage_is terms w p stage own is

      go : (b : Bool) → is_active (w.status first.owner).phase ≡ b → Fits terms w p (at t stage) (if b then at t (OwnerMeta cell value left first (w.status first.owner)) else acquire_again t cell value left true first first)
      go true active = to_acquire terms w p t stage tt (phase_is terms w p stage own is) (ending_is terms w p stage own is) sound (OwnerMeta cell value left first (w.status first.owner)) tt tt (at_stage.0, at_stage.1, active_is _ active)
      go false other = acquired_again terms w p t stage tt (phase_is terms w p stage own is) (ending_is terms w p stage own is) sound cell value left true first first (conflict_shown t cell first first at_stage.1.another) at_stage.0

  pub keeps_owner_meta : (cell value left : ℕ) (first : Meta) (status : TxnStatus) → t.stage ≡ OwnerMeta cell value left first status → Safe lawful may terms (stepped w p (OwnerMeta cell value left first status))
  unfolding next_at after_at words_after found seen_after since_at clock_after SafeStage owner_validated
  keeps_owner_meta cell value left first status is =
      safe_seen lawful may terms w p safe caller stage is _ (go (nat_eq (w.meta cell).owner first.owner && not (w.meta cell).changing) refl) (knows_attempt lawful may terms w p safe caller _ refl refl refl)
    where
      stage : Stage
      stage = OwnerMeta cell value left first status

      at_stage : IsToWrite terms t cell value × WasTaken terms w t cell first × (status.phase ≡ Active)
      at_stage = stage_is terms w p stage own is

      go : (b : Bool) → (nat_eq (w.meta cell).owner first.owner && not (w.meta cell).changing) ≡ b
          → Fits terms w p (at t stage) (if b then at t (DoomOwner cell value left first (w.meta cell) status) else acquire_again t cell value left true first (w.meta cell))
      go true same =
          let owner : (w.meta cell).owner ≡ first.owner = eqb-true _ _ (and_parts (nat_eq (w.meta cell).owner first.owner) (not (w.meta cell).changing) same).0 in
          let taken : WasTaken terms w t cell (w.meta cell) = record { another = rw owner at_stage.1.another; found = found_now lawful may terms w p safe caller cell at_stage.0.in_range } in
          to_acquire terms w p t stage tt (phase_is terms w p stage own is) (ending_is terms w p stage own is) sound (DoomOwner cell value left first (w.meta cell) status) tt tt (at_stage.0, at_stage.1, taken, owner, at_stage.2)
      go false other =
          let moved = λ (none : owned_by_another t.own (w.meta cell) ≡ false). inr (inr (at_stage.1.another, nobodys lawful may terms w p safe caller stage tt is cell value at_stage.0 none)) in
          acquired_again terms w p t stage tt (phase_is terms w p stage own is) (ending_is terms w p stage own is) sound cell value left true first (w.meta cell) (write_shown t cell first (w.meta cell) moved) at_stage.0

  -- ---- the exchange of the owner's word

  module _ (cell value left : ℕ) (first second : Meta) (status : TxnStatus) (is : t.stage ≡ DoomOwner cell value left first second status) where
    abbrev here : Stage
    here = DoomOwner cell value left first second status

    at_stage : IsToWrite terms t cell value × WasTaken terms w t cell first × WasTaken terms w t cell second × (second.owner ≡ first.owner) × (status.phase ≡ Active)
    unfolding SafeStage
    at_stage = stage_is terms w p here own is

    goes : Fits terms w p (at t here) (acquire_again t cell value left true first second)
    goes = acquired_again terms w p t here tt (phase_is terms w p here own is) (ending_is terms w p here own is) sound cell value left true first second (conflict_shown t cell first second at_stage.2.another) at_stage.0

    other : first.owner ≢ p
    other same = another_number t.own first.owner at_stage.1.another (same ∙ sym own.sound.own)

    dooms_one : same_status (w.status first.owner) status ≡ true → (q : ℕ) → KeepsWord (w.status q) (replaced w.status first.owner (doomed status) q)
    dooms_one same q = elim (cases_eq q first.owner) [
      | inl at ↦
          let word : (w.status first.owner).phase ≡ Active × (doomed status ≡ doomed (w.status first.owner)) = dooms_word (w.status first.owner) status same at_stage.4 in
          rw (at, replaced_here w.status first.owner (doomed status)) (inr (word.0, word.1))
      | inr apart ↦ inl (replaced_else w.status first.owner (doomed status) q apart)
    ]

    doomed_safe : same_status (w.status first.owner) status ≡ true
        → Safe lawful may terms (with_view (with_status w first.owner (doomed status)) p (record (w.view p) { attempt = acquire_again t cell value left true first second }))
    doomed_safe same =
        let apart : p ≢ first.owner = λ at. other (sym at) in
        safe_others lawful may terms w p safe caller (replaced w.status first.owner (doomed status)) (record (w.view p) { attempt = acquire_again t cell value left true first second }) here is goes
        (knows_attempt lawful may terms w p safe caller _ refl refl refl) (λ q not_own. dooms_one same q) (replaced_else w.status first.owner (doomed status) p apart)

    pub keeps_doom_owner : Safe lawful may terms (stepped w p (DoomOwner cell value left first second status))
    unfolding next_at after_at words_after found seen_after since_at clock_after
    keeps_doom_owner = go (same_status (w.status first.owner) status) refl
      where
        go : (b : Bool) → same_status (w.status first.owner) status ≡ b
            → Safe lawful may terms (with_view (if b then with_status w first.owner (doomed status) else w) p (record (w.view p) { attempt = acquire_again t cell value left true first second }))
        go true same = doomed_safe same
        go false lost = safe_seen lawful may terms w p safe caller here is _ goes (knows_attempt lawful may terms w p safe caller _ refl refl refl)
