use Rattle.std.specs.Prelude.{◌≡◌, All, length, vec_len}
use Rattle.bank.specs.Ready.{IsReady}
use Rattle.bank.proofs.table.hire.Given as goal

abbrev pub invariant-loop-number : goal.invariant-loop-number
invariant-loop-number l = record {
  own : l.maker.table ≡ l.stm.table;
  given : l.maker.given ≡ l.number;
  gathered : length l.maker.gathered ≡ 0;
  workers : vec_len l.workers ≡ l.number;
  ready : All (IsReady l.stm) l.workers.items;
}
