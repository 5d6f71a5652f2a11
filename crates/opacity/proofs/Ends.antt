-- How an attempt comes to an end: it is rolled back, or its body is over.
use Rattle.std.proofs.Common.{length, ap, ◌≡◌, ℕ, suc, drop, ◌≤◌, ◌⊎◌, true, false, Bool, Some, None, if◌then◌else◌, List, [], ◌∷◌, ◌++◌, refl, sym, ◌∙◌, arith, inl}
use Rattle.meta_word.specs.declared.status.Phase.{Phase}
use Rattle.meta_word.specs.declared.status.Phase.TheVariants.{Active, Preparing}
use Rattle.stm_model.specs.declared.cause.Cause.{Cause}
use Rattle.stm_model.specs.declared.ending.Ending.TheVariants.{Read, Rolled}
use Rattle.stm_model.specs.After.{at, roll_on, rolled, run_all, stopped}
use Rattle.stm_model.specs.Attempt.{cause_at, Attempt, Stage, Write, Close, Late, Prepare, RollBack, Stopped, held_at, has_prepared, unmarked_at, unstored_at, flies_at, holds, stamp_of}
use Rattle.stm_model.specs.Handlers.{committing, preparing}
use Rattle.stm_model.specs.Moves.{conclude, go_on, turn_to}
use Rattle.stm_model.specs.Safe.{ClosingPhase, EndingAt, HasBegun, PhaseAt, SafeStage, EndsSo, Sound}
use Rattle.stm_model.specs.World.{Terms, World}
use Rattle.opacity.proofs.Shown.{Shows, to_shown}
use Rattle.opacity.proofs.Cells.{AlikeAt}
use Rattle.opacity.proofs.Fits.{Fits, IsOpen, goes_on, goes_on_same, open_facts, open_fits, open_fits_with}
use Rattle.opacity.proofs.Stands.{kept_flying, Follows, placed}

pub clash : (b : Bool) → b ≡ true → b ≡ false → ⊥
clash b holds fails = cc

-- From here an attempt may be rolled back: it holds all its cells, marked where it prepares, and its end isn't certain.
pub record MayRoll (t : Attempt) (here : Stage) : Type 0 where
  pub held : held_at t.now.writes here ≡ t.now.writes
  pub unmarked : unmarked_at t.phase t.now.writes here ≡ (if has_prepared t.phase then [] else t.now.writes)
  pub unstored : unstored_at here ≡ []
  pub flies : flies_at here ≡ true
  pub begun : HasBegun here
  pub phase : (t.phase ≡ Active) ⊎ (t.phase ≡ Preparing)
  pub ending : t.ending ≡ None

unmarked_active : (phase : Phase) (writes : List Write) → phase ≡ Active → writes ≡ (if has_prepared phase then [] else writes)
unmarked_active phase writes active = rw active refl

may_roll_open : (t : Attempt) (here : Stage) → IsOpen here → PhaseAt here t.ending t.phase → EndingAt here t.ending → MayRoll t here
may_roll_open t here is_open phase ending =
    let facts = open_facts here is_open in
    record {
      held = facts.held t.now.writes;
      unmarked = facts.unmarked t.phase t.now.writes ∙ unmarked_active t.phase t.now.writes (facts.phase_from t.ending t.phase phase);
      unstored = facts.unstored;
      flies = facts.flies;
      begun = facts.begun;
      phase = inl (facts.phase_from t.ending t.phase phase);
      ending = facts.ending_from t.ending ending;
    }

module _ (terms : Terms) (w : World) (p : ℕ) where
  module _ (t u : Attempt) (here : Stage) (from : MayRoll t here) (writes : u.now.writes ≡ t.now.writes) (phase : u.phase ≡ t.phase) (none : stamp_of u ≡ 0) where
    stamp_here : stamp_of t ≡ 0
    stamp_here = rw from.ending refl

    alike_roll_back : (cell : ℕ) (write : Write) (behind : List Write) → t.now.writes ≡ write ∷ behind → AlikeAt cell (at u (RollBack write behind)) (at t here)
    unfolding held_at unmarked_at unstored_at
    alike_roll_back cell write behind same = record {
      held = rw (from.held, same) refl;
      marked = λ held. rw (from.held, from.unmarked, phase, same) refl;
      unstored = λ held. rw from.unstored refl;
      stamp = λ held. none ∙ sym stamp_here;
    }

    alike_close : (cell : ℕ) → t.now.writes ≡ [] → AlikeAt cell (at u Close) (at t here)
    unfolding held_at unmarked_at unstored_at
    alike_close cell same =
        let free : holds (at t here) cell ≡ false = rw (from.held, same) refl in
        record {
          held = sym free;
          marked = λ held. absurd (clash _ held free);
          unstored = λ held. absurd (clash _ held free);
          stamp = λ held. none ∙ sym stamp_here;
        }

  follows_end : (t u : Attempt) (here there : Stage) → MayRoll t here → HasBegun there → u.serial ≡ t.serial → u.phase ≡ t.phase → t.prefix ≤ u.prefix → Follows (at t here) (at u there)
  follows_end t u here there from begun serial phase prefix = record {
    serial = serial;
    phase = phase;
    prefix = prefix;
    began = from.begun;
    begun = begun;
    kept = λ kept. kept_flying here t.ending from.flies;
    undecided = λ kept undecided. rw from.ending refl;
  }

  rolling : (t u : Attempt) (here : Stage) (cause : Cause) → Shows u cause → MayRoll t here → Sound terms w p u → u.serial ≡ t.serial → u.phase ≡ t.phase → t.prefix ≤ u.prefix → u.now.writes ≡ t.now.writes
      → (writes : List Write) → u.now.writes ≡ writes → Fits terms w p (at t here) (roll_on (record u { ending = Some (Rolled cause u.prefix) }) writes)
  unfolding EndsSo EndingAt PhaseAt ClosingPhase SafeStage HasBegun
  rolling t u here cause shown from sound serial phase prefix same [] is =
      let back = record u { ending = Some (Rolled cause u.prefix) } in
      record {
        alike = λ cell. alike_close t back here from same phase refl cell (sym same ∙ is);
        follows = follows_end t back here Close from tt serial phase prefix;
        safe = placed terms w p back sound (refl, to_shown back cause shown) Close tt (rw phase from.phase) tt tt;
      }
  rolling t u here cause shown from sound serial phase prefix same (write ∷ behind) is =
      let back = record u { ending = Some (Rolled cause u.prefix) } in
      record {
        alike = λ cell. alike_roll_back t back here from same phase refl cell write behind (sym same ∙ is);
        follows = follows_end t back here (RollBack write behind) from tt serial phase prefix;
        safe = placed terms w p back sound (refl, to_shown back cause shown) (RollBack write behind) tt (rw phase from.phase) tt ([], is);
      }

  -- It is rolled back, maybe at a later prefix.
  pub rolled_fits : (t u : Attempt) (here : Stage) (cause : Cause) → Shows u cause → MayRoll t here → Sound terms w p u → u.serial ≡ t.serial → u.phase ≡ t.phase → t.prefix ≤ u.prefix → u.now.writes ≡ t.now.writes
      → Fits terms w p (at t here) (rolled u cause)
  rolled_fits t u here cause shown from sound serial phase prefix same = rolling t u here cause shown from sound serial phase prefix same u.now.writes refl

  module _ (t : Attempt) (here : Stage) (is_open : IsOpen here) (phase : PhaseAt here t.ending t.phase) (ending : EndingAt here t.ending) (sound : Sound terms w p t) where
    pub rolled_open : (cause : Cause) → Shows t cause → Fits terms w p (at t here) (rolled t cause)
    rolled_open cause shown = rolled_fits t t here cause shown (may_roll_open t here is_open phase ending) sound refl refl (omega arith) refl

    pub stopped_open : (cause : Cause) → Shows t cause → Fits terms w p (at t here) (stopped t cause)
    unfolding SafeStage cause_at
    stopped_open cause shown = open_fits_with terms w p t t here (Stopped cause) is_open tt shown phase ending (goes_on_same terms w p t sound) tt

    concluded : (writes : List Write) → t.now.writes ≡ writes → Fits terms w p (at t here) (conclude t writes)
    unfolding EndsSo EndingAt PhaseAt ClosingPhase SafeStage HasBegun
    concluded [] is =
        let from = may_roll_open t here is_open phase ending in
        let over = record t { ending = Some (Read t.prefix); due = run_all (preparing t.now.hooks ++ committing t.now.hooks) } in
        record {
          alike = λ cell. alike_close t over here from refl refl refl cell is;
          follows = follows_end t over here Close from tt refl refl (omega arith);
          safe = placed terms w p over sound refl Close tt ((open_facts here is_open).phase_from t.ending t.phase phase) tt tt;
        }
    concluded (write ∷ writes) is = open_fits terms w p t t here Prepare is_open tt tt phase ending (goes_on_same terms w p t sound) (omega (arith, ap length is))

    turned_to : (tokens : List ℕ) → Fits terms w p (at t here) (turn_to t tokens)
    unfolding SafeStage
    turned_to [] = concluded t.now.writes refl
    turned_to (token ∷ tokens) =
        open_fits terms w p t (record t { turn = suc t.turn }) here (Late token) is_open tt tt phase ending
        (goes_on terms w p t _ refl refl refl refl refl sound) tt

    -- The next before-commit body has its turn, or the end has come.
    pub gone_on : Fits terms w p (at t here) (go_on t)
    gone_on = turned_to (drop t.turn t.now.laters)
