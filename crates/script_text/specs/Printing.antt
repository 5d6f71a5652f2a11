-- How a job is written: each thing in one way, nothing that says 0, and steps in lines of 32.
use Rattle.std.specs.Prelude.{ℕ, zero, suc, nat_eq, if◌then◌else◌, List, [], ◌∷◌, ◌++◌, codes, decimal, map, flat_map}
use Rattle.std.specs.List.{onto_first}
use Rattle.text_lines.specs.Lines.{Row, text_of}
use Rattle.ledger_model.specs.declared.job.Job.{Job}
use Rattle.ledger_model.specs.declared.script.Operand.{Operand}
use Rattle.ledger_model.specs.declared.script.Operand.TheVariants.{Reg, Number}
use Rattle.ledger_model.specs.declared.script.Script.{Script}
use Rattle.ledger_model.specs.declared.script.Statement.{Statement}
use Rattle.ledger_model.specs.declared.script.Statement.TheOpen.{Statement-F, Const, Read, Write, Add, Sub, Print, Check, Need, Move, Inner, Either, Late, Hook, Put, Del, Look, LookSlot, Snap, Share}
use Rattle.ledger_model.specs.declared.script.Statement.TheFolds.{fold-Statement}
use Rattle.ledger_model.specs.Report.{phase_word}

abbrev pub register_word : ℕ → List ℕ
register_word r = codes "r" ++ decimal r

abbrev pub operand_word : Operand → List ℕ
operand_word (Reg r) = register_word r
operand_word (Number n) = decimal n

abbrev pub end_line : Row
end_line = codes "end" ∷ []

-- the lines of all of these, one after another
abbrev pub joined : List (List Row) → List Row
joined blocks = flat_map (λ lines. lines) blocks

-- the lines of the parts of an `either`, apart by `or`
abbrev pub parts_lines : List (List (List Row)) → List Row
parts_lines [] = []
parts_lines (part ∷ []) = joined part
parts_lines (part ∷ next ∷ parts) = joined part ++ ((codes "or" ∷ []) ∷ parts_lines (next ∷ parts))

-- The lines of a statement, those of each statement inside it standing in its place.
abbrev pub statement_step : Statement-F (List Row) → List Row
statement_step (Const r n) = (codes "const" ∷ register_word r ∷ decimal n ∷ []) ∷ []
statement_step (Read r cell) = (codes "read" ∷ register_word r ∷ decimal cell ∷ []) ∷ []
statement_step (Write cell x) = (codes "write" ∷ decimal cell ∷ operand_word x ∷ []) ∷ []
statement_step (Add r x) = (codes "add" ∷ register_word r ∷ operand_word x ∷ []) ∷ []
statement_step (Sub r x) = (codes "sub" ∷ register_word r ∷ operand_word x ∷ []) ∷ []
statement_step (Print x) = (codes "print" ∷ operand_word x ∷ []) ∷ []
statement_step (Check x y code) = (codes "check" ∷ operand_word x ∷ operand_word y ∷ decimal code ∷ []) ∷ []
statement_step (Need x y) = (codes "need" ∷ operand_word x ∷ operand_word y ∷ []) ∷ []
statement_step (Move from into x) = (codes "move" ∷ decimal from ∷ decimal into ∷ operand_word x ∷ []) ∷ []
statement_step (Inner r block) = (codes "inner" ∷ register_word r ∷ []) ∷ (joined block ++ end_line ∷ [])
statement_step (Either parts) = (codes "either" ∷ []) ∷ (parts_lines parts ++ end_line ∷ [])
statement_step (Late block) = (codes "late" ∷ []) ∷ (joined block ++ end_line ∷ [])
statement_step (Hook phase token) = (codes "hook" ∷ phase_word phase ∷ decimal token ∷ []) ∷ []
statement_step (Put m x y) = (codes "put" ∷ decimal m ∷ operand_word x ∷ operand_word y ∷ []) ∷ []
statement_step (Del m x) = (codes "del" ∷ decimal m ∷ operand_word x ∷ []) ∷ []
statement_step (Look r m x y) = (codes "look" ∷ register_word r ∷ decimal m ∷ operand_word x ∷ operand_word y ∷ []) ∷ []
statement_step (LookSlot r k x y) = (codes "from" ∷ register_word r ∷ decimal k ∷ operand_word x ∷ operand_word y ∷ []) ∷ []
statement_step (Snap k m) = (codes "snap" ∷ decimal k ∷ decimal m ∷ []) ∷ []
statement_step (Share from into) = (codes "share" ∷ decimal from ∷ decimal into ∷ []) ∷ []

abbrev pub statement_lines : Statement → List Row
statement_lines = fold-Statement (List Row) statement_step

abbrev pub block_lines : List Statement → List Row
block_lines block = joined (map statement_lines block)

abbrev pub script_lines : Script → List Row
script_lines script = (codes "script" ∷ []) ∷ (block_lines script.block ++ end_line ∷ [])

abbrev pub worker_lines : List Script → List Row
worker_lines scripts = (codes "worker" ∷ []) ∷ flat_map script_lines scripts

abbrev pub opening_line : ℕ × ℕ → Row
opening_line opening = codes "ref" ∷ decimal opening.0 ∷ decimal opening.1 ∷ []

-- a header, where there is something of its kind
abbrev pub header_lines : List ℕ → ℕ → List Row
header_lines word n = if nat_eq n 0 then [] else (word ∷ decimal n ∷ []) ∷ []

-- The numbers in groups of 32. The first group has room for so many more.
abbrev pub in_groups : ℕ → List ℕ → List (List ℕ)
in_groups room [] = []
in_groups zero (n ∷ more) = [] ∷ onto_first n (in_groups 31 more)
in_groups (suc room) (n ∷ more) = onto_first n (in_groups room more)

abbrev pub steps_line : List ℕ → Row
steps_line steps = codes "steps" ∷ map decimal steps

abbrev pub steps_lines : List ℕ → List Row
steps_lines steps = map steps_line (in_groups 32 steps)

abbrev pub head_line : Row
head_line = codes "stm" ∷ codes "1" ∷ []

-- all lines but those of steps
abbrev pub job_lines : Job → List Row
job_lines job =
    head_line ∷
    header_lines (codes "refs") job.refs ++ (header_lines (codes "maps") job.maps ++
    (header_lines (codes "snaps") job.snaps ++ (header_lines (codes "blocks") job.blocks ++
    (map opening_line job.openings ++ flat_map worker_lines job.workers))))

abbrev pub canonical : Job → List ℕ
canonical job = text_of (job_lines job ++ steps_lines job.steps)
