-- What an attempt may still do by itself falls with all that it does.
use Rattle.std.proofs.Common.{◌≡◌, ℕ, suc, ◌+◌, ◌*◌, ◌-◌, ◌<◌, ◌≤◌, List, length, get_or, Option, Some, None, ap, ◌∙◌, refl, arith}
use Rattle.std.proofs.lemmas.List.{get_or-set_same}
use Rattle.std.proofs.lemmas.Nat.{mul-le}
use Rattle.stm_core.specs.Machine.{Machine}
use Rattle.world_run.specs.Simulation.{Simulation, attempt_in, latest, left_of, moves_left}
use Rattle.world_run.specs.Places.{Changes, IsDone, IsGivenWord}
use Rattle.world_run.proofs.Bounds.{Brings, Clears, brings_word, clears_does, hooks_of}

there_now : (before after : List (Option Machine)) (place : ℕ) (was now : Machine) → Changes before after place was now → get_or after place None ≡ Some now
there_now before after place was now changes =
    ap (λ (list : List (Option Machine)). get_or list place None) changes.others ∙ get_or-set_same before place (Some now) None changes.within

-- An access fewer makes up for a ring and a run of each handler.
fewer_left : (hooks others left more dues due : ℕ) → others ≤ hooks → more < left → due ≤ dues + suc hooks → (others + 2) * more + due < (hooks + 2) * left + dues
fewer_left hooks others left more dues due fewer less few =
    let low : (others + 2) * more ≤ (hooks + 2) * more = mul-le (others + 2) more (hooks + 2) more (omega (arith, fewer)) (omega arith) in
    let high : (hooks + 2) * suc more ≤ (hooks + 2) * left = mul-le (hooks + 2) (suc more) (hooks + 2) left (omega arith) (omega (arith, less)) in
    let step : (hooks + 2) * suc more ≡ (hooks + 2) * more + (hooks + 2) = omega arith in
    omega (arith, low, high, step, few)

module _ {L : Type 0} (before : Simulation L) (p : ℕ) (after : List (Option Machine)) where
  pub took_falls : (found : ℕ) → IsGivenWord before.machines after (p - 1) found → moves_left (get_or after (p - 1) None) < left_of before p
  took_falls found given =
      let brings : Brings given.was.attempt given.now.attempt = rw given.attempt (brings_word given.was.attempt found) in
      let less = fewer_left (hooks_of given.was.attempt) (hooks_of given.now.attempt) given.was.left given.now.left (length given.was.attempt.due) (length given.now.attempt.due) brings.fewer given.falls brings.few in
      rw (there_now before.machines after (p - 1) given.was given.now given.changes, given.changes.there) less

  pub did_falls : 0 < length (attempt_in before p).due → IsDone before.machines after (p - 1) → moves_left (get_or after (p - 1) None) < left_of before p
  did_falls some done =
      let own : attempt_in before p ≡ done.was.attempt = ap (λ (machine : Option Machine). latest before.settings p machine) done.changes.there in
      let due : 0 < length done.was.attempt.due = rw own at some in
      let clears : Clears done.was.attempt done.now.attempt = rw done.attempt (clears_does done.was.attempt due) in
      let same : (hooks_of done.now.attempt + 2) * done.now.left ≡ (hooks_of done.was.attempt + 2) * done.was.left = rw (clears.hooks, done.left) refl in
      let less : (hooks_of done.now.attempt + 2) * done.now.left + length done.now.attempt.due < (hooks_of done.was.attempt + 2) * done.was.left + length done.was.attempt.due = omega (arith, clears.less, same) in
      rw (there_now before.machines after (p - 1) done.was done.now done.changes, done.changes.there) less
