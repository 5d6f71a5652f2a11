use Rattle.std.proofs.Common.{sym}
use Rattle.text_lines.specs.Lines.{words}
use Rattle.script_text.proofs.GoingOn.{line_read, line_skipped, line_unclean}
use Rattle.script_text.proofs.reader.Reader.line.Goals as goal

pub returns-then-not-is_clean : goal.returns-then-not-is_clean
returns-then-not-is_clean c = line_unclean c.args.self.now c.args.line.now (sym c.if-not-is_clean.ensures)

pub returns-then-begins_with_hash : goal.returns-then-begins_with_hash
returns-then-begins_with_hash c = line_skipped c.args.self.now c.args.line.now c.in-Some.word.now (words c.in-Some.args.now) c.in-Some.ensures.words (sym c.if-not-is_clean.ensures) (sym c.if-begins_with_hash.ensures)

pub returns-else-begins_with_hash : goal.returns-else-begins_with_hash
returns-else-begins_with_hash c = line_read c.row.result c.args.self.now c.row.new.self c.args.line.now c.in-Some.word.now (words c.in-Some.args.now) c.in-Some.ensures.words (sym c.if-not-is_clean.ensures) (sym c.if-begins_with_hash.ensures) c.row.ensures
