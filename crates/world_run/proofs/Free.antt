-- What is owed under the law that allows every heap.
use Rattle.std.proofs.Common.{ℕ, List, [], ◌∷◌}
use Rattle.stm_model.specs.Attempt.{Write}
use Rattle.stm_model.specs.Heap.{put}
use Rattle.stm_model.specs.declared.access.Ask.{Ask}
use Rattle.stm_model.specs.declared.access.Ask.TheVariants.{Abandon, Enter, Finish, Keep, Set, Undo}
use Rattle.world_run.specs.Run.{AsksMeetOwed, around, innermost}

pub any_asks : (size : ℕ) (writes : List Write) (levels : List (List Write)) (asks : List Ask) → AsksMeetOwed (λ heap. Unit {0}) (λ heap next. Unit {0}) size writes levels asks
unfolding AsksMeetOwed
any_asks size writes levels [] = tt
any_asks size writes levels (Set cell value ∷ asks) = any_asks size (put writes cell.0 value) levels asks
any_asks size writes levels (Enter ∷ asks) = any_asks size writes (writes ∷ levels) asks
any_asks size writes levels (Keep ∷ asks) = any_asks size writes (around levels) asks
any_asks size writes levels (Undo ∷ asks) = any_asks size (innermost writes levels) (around levels) asks
any_asks size writes levels (Finish ∷ asks) = λ heap possible. (tt, tt)
any_asks size writes levels (Abandon cause ∷ asks) = tt
any_asks size writes levels (ask ∷ asks) = any_asks size writes levels asks
