-- What the program ends with, and what it says on standard error, by how the top call ended.
use Rattle.std.specs.Prelude.{ℕ, List, [], ◌∷◌, ◌++◌, codes, decimal}
use Rattle.ledger_model.specs.declared.reason.Reason.{Reason}
use Rattle.ledger_model.specs.declared.reason.Reason.TheVariants as reason
use Rattle.ledger_host.specs.declared.host.HostStatus.{HostStatus}
use Rattle.ledger_host.specs.declared.host.HostStatus.TheVariants.{Done, Usage, Script, ReadFault, WriteFault, Memory}

-- the number that the program ends with
abbrev pub exit_number : HostStatus → ℕ
exit_number Done = 0
exit_number Usage = 2
exit_number (Script line why) = 3
exit_number ReadFault = 4
exit_number WriteFault = 5
exit_number Memory = 6

-- a reason as a word in lower case
abbrev pub reason_word : Reason → List ℕ
reason_word reason.Byte = codes "byte"
reason_word reason.Head = codes "head"
reason_word reason.Word = codes "word"
reason_word reason.Unbuilt = codes "unbuilt"
reason_word reason.Order = codes "order"
reason_word reason.Depth = codes "depth"
reason_word reason.Many = codes "many"
reason_word reason.Count = codes "count"
reason_word reason.Number = codes "number"
reason_word reason.Range = codes "range"
reason_word reason.Unclosed = codes "unclosed"
reason_word reason.Long = codes "long"

-- the text with its line feed
abbrev pub ended : List ℕ → List ℕ
ended text = text ++ 10 ∷ []

-- the line that says which line is refused, and why
abbrev pub refusal_line : ℕ → Reason → List ℕ
refusal_line line why = ended (codes "ledger: line " ++ decimal line ++ codes ": " ++ reason_word why)

-- the line on standard error; nothing where the report was written
abbrev pub error_line : HostStatus → List ℕ
error_line Done = []
error_line Usage = ended (codes "usage: ledger trace or run or gen N [--policy P] [--looks N] [--attempts N] [--clock N]")
error_line (Script line why) = refusal_line line why
error_line ReadFault = ended (codes "ledger: read fault")
error_line WriteFault = ended (codes "ledger: write fault")
error_line Memory = ended (codes "ledger: no memory")
