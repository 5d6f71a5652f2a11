use Rattle.std.proofs.Common.{◌≤◌, length, arith, sym, ap, ◌∙◌}
use Rattle.txn_level.proofs.Open.{length_open}
use Rattle.txn_level.proofs.levels.Levels.depth.Goals as goal

pub returns-clause-count : goal.returns-clause-count
returns-clause-count c =
    let within : c.self.inside.depth ≤ length c.self.inside.places = omega arith in
    sym (length_open c.self.inside.places c.self.inside.depth within) ∙ ap length c.self.view_is
