-- A task as a tuple.
use Rattle.std.specs.Prelude.{ℕ}
use Rattle.bank_words.specs.declared.task.Load.{Load}
use Rattle.bank_words.specs.declared.task.Task.{Task}

-- the load, the scripts of each worker, and the threads
abbrev pub parts : Task → Load × ℕ × ℕ
parts task = (task.load, task.scripts, task.threads)
