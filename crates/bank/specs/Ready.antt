-- When a worker may run its scripts.
use Rattle.std.specs.Prelude.{◌≡◌, length}
use Rattle.stm_model.specs.declared.law.Free.{Free}
use Rattle.ref_table.specs.Seats.{StmState}
use Rattle.txn_run.specs.Callers.{MayBegin}
use Rattle.bank_loads.specs.Sizes.{cells_of}
use Rattle.bank.specs.declared.worker.Worker.{Worker}

-- Its caller may begin an attempt at the table, and its scripts are for as many cells as that has.
pub record IsReady (stm : StmState Free) (worker : Worker) : Type 0 where
  pub seat : MayBegin (λ heap. Unit {0}) (λ before after. Unit {0}) stm worker.seat
  pub cells : length stm.opening ≡ cells_of worker.scripts.task.load worker.scripts.task.threads
