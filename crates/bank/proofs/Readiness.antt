-- Who is ready, where seats are given.
use Rattle.std.proofs.Common.{◌≡◌, length, ap, sym, ◌∙◌, subst, arith}
use Rattle.ref_table.specs.Calls.{IsDealt}
use Rattle.ref_table.specs.Seats.{MakerState, SeatState, StmState, terms_in}
use Rattle.ref_table.specs.Seen.{SafeSeat}
use Rattle.stm_model.specs.declared.law.Free.{Free}
use Rattle.bank.specs.Ready.{IsReady}
use Rattle.bank.specs.declared.worker.Worker.{Worker}
use Rattle.txn_run.specs.Callers.{MayBegin}
use Rattle.bank_loads.specs.Sizes.{cells_of}

-- a worker with a new seat
pub ready_at_first : (stm : StmState Free) (before after : MakerState) (seat : SeatState) (worker : Worker)
    → before.table ≡ stm.table → IsDealt stm.settings before after seat
    → SafeSeat (λ heap. Unit {0}) (λ old new. Unit {0}) (terms_in stm) seat → worker.seat ≡ seat
    → length stm.opening ≡ cells_of worker.scripts.task.load worker.scripts.task.threads → IsReady stm worker
ready_at_first stm before after seat worker own dealt safe same cells =
    let first = ap (λ view. view.attempt.serial) dealt.view in
    let begins : MayBegin (λ heap. Unit {0}) (λ old new. Unit {0}) stm seat = record {
      table = dealt.table ∙ own;
      safe = safe;
      over = ap (λ view. view.attempt.stage) dealt.view;
      attempts = omega (arith, first);
      lists = dealt.lists;
    } in
    record { seat = subst (MayBegin (λ heap. Unit {0}) (λ old new. Unit {0}) stm) (sym same) begins; cells = cells }
