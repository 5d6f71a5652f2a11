use Rattle.std.proofs.Common.{◌%◌, ◌<◌, length, arith}
use Rattle.cell_index.proofs.Chains.{IsChained_pop, last_has_head}
use Rattle.cell_index.proofs.index.unlink_last.Goals as goal

pub index_mut-requires : goal.index_mut-requires
index_mut-requires c =
    let within : c.in-Some.address % 256 < length c.args.heads.now.items = last_has_head _ _ _ c.in-Some.address c.in-Some.older c.in-Some.ensures.items c.requires in
    omega arith

pub returns-in-Some-clause-chained : goal.returns-in-Some-clause-chained
returns-in-Some-clause-chained c = IsChained_pop _ _ _ c.in-Some.address c.in-Some.older c.in-Some.ensures.items c.requires
