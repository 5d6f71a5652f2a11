-- Which tasks there are.
use Rattle.std.specs.Prelude.{◌≡◌, ℕ, ◌≤◌}
use Rattle.bank_words.specs.declared.task.Load.{Load}
use Rattle.bank_words.specs.declared.task.Load.TheVariants.{One}
use Rattle.bank_words.specs.declared.task.TheConstants.{MOST_SCRIPTS, MOST_THREADS}

-- Neither number is too great, there is a worker, and the load of one worker has one.
pub record IsWithin (load : Load) (scripts threads : ℕ) : Type 0 where
  pub few : scripts ≤ MOST_SCRIPTS
  pub some : 1 ≤ threads
  pub most : threads ≤ MOST_THREADS
  pub alone : load ≡ One → threads ≡ 1
