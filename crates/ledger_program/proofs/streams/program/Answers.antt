use Rattle.ledger_program.proofs.Numbers.{refused_or_memory}
use Rattle.std.specs.Process.{exit_status}
use Rattle.ledger_program.specs.Ends.{IsTold}
use Rattle.ledger_program.proofs.streams.program.Goals as goal

pub returns-clause-refused : goal.returns-clause-refused
returns-clause-refused g c = λ line reason asks tells quiet.
    refused_or_memory (IsTold (g.E.Sink.held c.args.errors.now) (g.E.Sink.held c.tell.new.errors) (g.E.Sink.faults c.args.errors.now) (g.E.Sink.faults c.tell.new.errors))
    (exit_status c.exit_code.result) c.host_plain-status.result line reason c.exit_code.ensures c.tell.ensures (c.host_plain-status.ensures.refused line reason asks tells quiet)
