use Rattle.std.proofs.Common.{rules, ◌≡◌, nat_eq}
use Rattle.text_lines.specs.Lines.{ends_every_line}
use Rattle.text_lines.proofs.LineLemmas.{ends_where_same}
use Rattle.text_lines.proofs.read.ends_every_line.Goals as goal

pub returns-in-Some-clause-exact : goal.returns-in-Some-clause-exact
returns-in-Some-clause-exact c =
    let e : nat_eq c.in-Some.last.now 10 ≡ ends_every_line c.args.text.now = search rules in
    ends_where_same c.args.text.now (nat_eq c.in-Some.last.now 10) e
