-- Handlers of a level that was undone are forgotten once they have run.
use Rattle.std.proofs.Common.{◌≡◌, ℕ, ◌≤◌, List, length, take, Option, Some, None, is_some, false, refl, sym, ap, ◌∙◌, subst, arith}
use Rattle.lifecycle.specs.Registered.{Registered}
use Rattle.lifecycle.specs.declared.walk.Walk.{Walk}
use Rattle.stm_core.proofs.Marked.{marked_with_fewer}
use Rattle.stm_core.specs.Machine.{HasSpare}
use Rattle.stm_core.specs.Running.{InvariantAt, IsSound, IsUndone, attempt_at, base, due_with, left_at, left_in, machine_of, reads_under_way, runs_due, shown, writes_under_way}
use Rattle.stm_core.specs.declared.running.Running.{Running}
use Rattle.stm_core.specs.declared.running.State.TheVariants.{Ready, Undone}
use Rattle.stm_model.specs.After.{at, run_all}
use Rattle.stm_model.specs.Attempt.{Attempt, Due}
use Rattle.stm_model.specs.Attempt as in_stage
use Rattle.stm_model.specs.Handlers.{Handlers}

-- ---- once all its handlers have run

-- the same with these handlers, ready, and nothing to run
abbrev pub forgetting : Running → (cut : Registered) → (runs : Option Walk) → Running
forgetting r cut runs = record r { handlers = cut; due = record { ring = r.due.ring; runs = runs }; state = Ready None }

undone_so : (r : Running) (hooks : ℕ) → IsSound r → r.state ≡ Undone hooks → IsUndone r hooks
unfolding InvariantAt
undone_so r hooks sound is = subst (InvariantAt r) is sound.holds

pub cuts_within : (r : Running) (hooks : ℕ) → IsSound r → r.state ≡ Undone hooks → hooks ≤ length r.handlers.hooks
cuts_within r hooks sound is = (undone_so r hooks sound is).within

module _ (r : Running) (hooks : ℕ) (cut : Registered) (runs : Option Walk) (sound : IsSound r) (is : r.state ≡ Undone hooks) (none : runs ≡ None) (kept : cut.hooks ≡ take hooks r.handlers.hooks) (laters : cut.laters ≡ r.handlers.laters) where
  pub forgets_soundly : IsSound (forgetting r cut runs)
  unfolding InvariantAt
  forgets_soundly = let undone = undone_so r hooks sound is in record {
    fits = record { numbers = sound.fits.numbers; marks = marked_with_fewer r.footprint.writes r.handlers cut hooks r.levels _ undone.within kept laters undone.outer sound.fits.marks };
    runs = rw none tt;
    holds = tt;
  }

  -- the attempt, with these handlers and bodies registered and this due, ready
  abbrev ready_with : Handlers → List ℕ → List Due → Attempt
  ready_with handlers bodies dues = at (record (base r) { now = record (base r).now { hooks = handlers; laters = bodies }; due = dues }) (in_stage.Ready None)

  nothing_left : r.due.ring ≡ None → (left : Handlers) → runs_due runs r.handlers.hooks ≡ left → due_with r.due.ring runs cut.hooks ≡ run_all left
  nothing_left ring left same =
      ap (λ ring. due_with ring runs cut.hooks) ring ∙ ap (λ runs. due_with None runs cut.hooks) none
      ∙ ap run_all (ap (λ runs. runs_due runs r.handlers.hooks) (sym none) ∙ same)

  pub forgets : r.due.ring ≡ None → (left : Handlers) → runs_due runs r.handlers.hooks ≡ left → shown (forgetting r cut runs) ≡ record (shown r) { due = run_all left }
  unfolding attempt_at
  forgets ring left same =
      ap (λ handlers. ready_with handlers cut.laters (due_with r.due.ring runs cut.hooks)) kept
      ∙ ap (λ bodies. ready_with (take hooks r.handlers.hooks) bodies (due_with r.due.ring runs cut.hooks)) laters
      ∙ ap (λ dues. ready_with (take hooks r.handlers.hooks) r.handlers.laters dues) (nothing_left ring left same)
      ∙ ap (λ state. record (attempt_at (base r) state) { due = run_all left }) (sym is)

pub left_none : (r : Running) (hooks : ℕ) (cut : Registered) (runs : Option Walk) → left_in (forgetting r cut runs) ≤ left_in r
unfolding left_at
left_none r hooks cut runs = omega arith

pub left_same : (r : Running) (hooks : ℕ) (cut : Registered) (runs : Option Walk) → r.state ≡ Undone hooks → left_in (forgetting r cut runs) ≡ left_in r
unfolding left_at
left_same r hooks cut runs is = sym (ap (λ state. left_at state (length r.footprint.reads.notes) (length r.footprint.writes.writes)) is)

pub room_same : (r : Running) (hooks : ℕ) (cut : Registered) (runs : Option Walk) → r.state ≡ Undone hooks → HasSpare (machine_of r).spare_reads (machine_of r).spare_writes (machine_of (forgetting r cut runs))
unfolding reads_under_way writes_under_way
room_same r hooks cut runs is = record { for_reads = omega arith; for_writes = omega arith }

pub is_none : {A : Type 0} (found : Option A) → is_some found ≡ false → found ≡ None
is_none None none = refl
is_none (Some thing) none = absurd (cc none)
