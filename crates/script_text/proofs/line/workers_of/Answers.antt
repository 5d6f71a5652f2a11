use Rattle.std.proofs.Common.{sym}
use Rattle.text_lines.specs.Lines.{words}
use Rattle.script_text.specs.Line.{workers_of}
use Rattle.script_text.proofs.WorkerNumbers.{misses}
use Rattle.script_text.proofs.line.workers_of.Goals as goal

pub loop-word-preserved : goal.loop-word-preserved
loop-word-preserved c = misses c.loop-word.in_range c.loop-word.numbers c.args.workers (words c.loop-word.rest.now) c.in-Some.word.now (words c.in-Some.after.now) c.in-Err.reason (workers_of c.args.workers (words c.args.args.now))
    c.loop-word.invariant c.in-Some.ensures.words (sym c.in-Err.ensures) c.in_default-reason.not-Number
