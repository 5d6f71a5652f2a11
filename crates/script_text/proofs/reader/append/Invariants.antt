use Rattle.std.proofs.Common.{◌≡◌, ◌++◌, take}
use Rattle.script_text.proofs.reader.append.Given as goal

abbrev pub invariant-loop-number : goal.invariant-loop-number
invariant-loop-number l = l.steps ≡ l.initial.steps ++ take l.number-index l.numbers
