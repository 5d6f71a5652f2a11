-- Which job a text is, or its first refused line with the reason. Each line says something where it stands, or is refused there; and what the lines say makes the job.
use Rattle.std.specs.Prelude.{ℕ, ◌+◌, Bool, true, false, not, nat_eq, nat_le, ◌&&◌, if◌then◌else◌, List, [], ◌∷◌, ◌++◌, map, Result, Ok, Err}
use Rattle.std.specs.List.{list_all}
use Rattle.text_lines.specs.Lines.{Row, lines, words}
use Rattle.ledger_model.specs.declared.job.Job.{Job}
use Rattle.ledger_model.specs.declared.reason.Reason.{Reason}
use Rattle.ledger_model.specs.declared.reason.Reason.TheVariants.{Byte, Head, Unclosed}
use Rattle.ledger_model.specs.declared.script.Script.{Script}
use Rattle.ledger_model.specs.declared.script.Statement.{Statement}
use Rattle.ledger_model.specs.declared.script.Statement.TheVariants as made
use Rattle.script_text.specs.declared.line.Line.{Line}
use Rattle.script_text.specs.declared.line.Line.TheVariants as says
use Rattle.script_text.specs.Words.{◌>>=◌}
use Rattle.script_text.specs.Standing.{Standing, start, after, in_script, read_row, rank}

-- ---- what each line says

-- a printing byte of ASCII or a space; line feeds stand between lines
abbrev pub may_occur : ℕ → Bool
may_occur b = nat_le 32 b && nat_le b 126

-- Each byte of each word may occur.
abbrev pub is_clean : Row → Bool
is_clean row = list_all (λ word. list_all may_occur word) row

abbrev pub begins_with_hash : List ℕ → Bool
begins_with_hash [] = false
begins_with_hash (b ∷ bytes) = nat_eq b 35

-- There are no words, or the first one begins with `#`.
abbrev pub is_skipped : Row → Bool
is_skipped [] = true
is_skipped (word ∷ args) = begins_with_hash word

-- a refusal with the number of its line
abbrev pub at_line : {A : Type 0} → ℕ → Result A Reason → Result A (ℕ × Reason)
at_line n (Ok x) = Ok x
at_line n (Err reason) = Err (n, reason)

-- Behind the last line, where a further one would have this number: there was a head, and no script is open.
abbrev pub at_end : Standing → Result (List Line) Reason
at_end p = if nat_eq (rank p.come_to) 0 then Err Head else (if in_script p then Err Unclosed else Ok [])

-- What the lines say from this place and this line number on, or the first of them that is refused. Skipped lines count.
abbrev pub lines_said : Standing → ℕ → List Row → Result (List Line) (ℕ × Reason)
lines_said p n [] = at_line n (at_end p)
lines_said p n (row ∷ rows) =
    if not (is_clean row) then Err (n, Byte)
    else (if is_skipped row then lines_said p (n + 1) rows
    else at_line n (read_row p row) >>= λ line. lines_said (after p line) (n + 1) rows >>= λ more. Ok (line ∷ more))

-- ---- what the lines say together

-- What stands from some line on to the end of a job. The lines before it may have opened blocks, and it has the rest of each: the statements up to the next `or` or `end`, and the parts behind that.
pub record Remainder : Type 0 where
  pub refs : ℕ
  pub openings : List (ℕ × ℕ)
  -- the rest of each open block, the innermost first
  pub blocks : List (List Statement × List (List Statement))
  -- the further scripts of the worker that stands before
  pub scripts : List Script
  pub workers : List (List Script)
  pub steps : List ℕ

abbrev pub nothing : Remainder
nothing = record { refs = 0; openings = []; blocks = []; scripts = []; workers = []; steps = [] }

-- the statement in front of the rest of the innermost block
abbrev pub begin_with : Statement → List (List Statement × List (List Statement)) → List (List Statement × List (List Statement))
begin_with m [] = []
begin_with m (block ∷ outer) = (m ∷ block.0, block.1) ∷ outer

-- the innermost block, which begins here, as a statement of the one around it
abbrev pub enclose : (List Statement → List (List Statement) → Statement) → List (List Statement × List (List Statement)) → List (List Statement × List (List Statement))
enclose make [] = []
enclose make (block ∷ outer) = begin_with (make block.0 block.1) outer

-- The innermost block goes on as a further part.
abbrev pub begin_part : List (List Statement × List (List Statement)) → List (List Statement × List (List Statement))
begin_part [] = []
begin_part (block ∷ outer) = ([], block.0 ∷ block.1) ∷ outer

-- the innermost block, which begins here, as a script
abbrev pub begin_script : List (List Statement × List (List Statement)) → Remainder → Remainder
begin_script [] rest = rest
begin_script (block ∷ outer) rest = record rest { blocks = outer; scripts = record { block = block.0 } ∷ rest.scripts }

-- a line and what stands behind it; an opening of 0 opens nothing
abbrev pub in_front : Line → Remainder → Remainder
in_front says.Head rest = rest
in_front (says.Refs n) rest = record rest { refs = n }
in_front (says.Opening cell n) rest = record rest { openings = if nat_eq n 0 then rest.openings else (cell, n) ∷ rest.openings }
in_front says.Worker rest = record rest { scripts = []; workers = rest.scripts ∷ rest.workers }
in_front says.Script rest = begin_script rest.blocks rest
in_front says.End rest = record rest { blocks = ([], []) ∷ rest.blocks }
in_front (says.Inner r) rest = record rest { blocks = enclose (λ block parts. made.Inner r block) rest.blocks }
in_front says.Either rest = record rest { blocks = enclose (λ block parts. made.Either (block ∷ parts)) rest.blocks }
in_front says.Or rest = record rest { blocks = begin_part rest.blocks }
in_front says.Late rest = record rest { blocks = enclose (λ block parts. made.Late block) rest.blocks }
in_front (says.Steps numbers) rest = record rest { steps = numbers ++ rest.steps }
in_front (says.Plain m) rest = record rest { blocks = begin_with m rest.blocks }

abbrev pub rest_of : List Line → Remainder
rest_of [] = nothing
rest_of (line ∷ more) = in_front line (rest_of more)

-- the job of what stands behind the start of a text
abbrev pub job_with : Remainder → Job
job_with rest = record { refs = rest.refs; maps = 0; snaps = 0; blocks = 0; openings = rest.openings; workers = rest.workers; steps = rest.steps }

-- ---- texts

-- The job that a text is, or its first refused line, from 1, with the reason.
abbrev pub job_of : List ℕ → Result Job (ℕ × Reason)
job_of text = lines_said start 1 (map words (lines text)) >>= λ said. Ok (job_with (rest_of said))
