-- Private: what the lines so far have said, as the reader keeps it, in the terms of the definition.
use Rattle.std.specs.Prelude.{ℕ, ◌≡◌, ⊤, ◌+◌, Bool, true, not, ◌&&◌, nat_eq, nat_le, nat_lt, if◌then◌else◌, List, [], ◌∷◌, ◌++◌, map, length, Option, Some, None, unwrap_or, Result, Ok, Err}
use Rattle.text_lines.specs.Lines.{Row}
use Rattle.ledger_model.specs.declared.job.Job.{Job}
use Rattle.ledger_model.specs.declared.reason.Reason.{Reason}
use Rattle.ledger_model.specs.declared.script.Script.{Script}
use Rattle.script_text.specs.declared.fault.Fault.{Fault}
use Rattle.script_text.specs.declared.fault.Fault.TheVariants as fault
use Rattle.ledger_model.specs.declared.script.Statement.{Statement}
use Rattle.ledger_model.specs.declared.script.Statement.TheVariants as made
use Rattle.script_text.specs.declared.fault.ParseFault.{ParseFault}
use Rattle.script_text.specs.declared.fault.ParseFault.TheVariants as parsing
use Rattle.script_text.specs.declared.frames.Begun.{Begun}
use Rattle.script_text.specs.declared.frames.Begun.TheVariants as begun
use Rattle.script_text.specs.declared.line.Line.{Line}
use Rattle.script_text.specs.declared.line.Line.TheVariants as says
use Rattle.script_text.specs.declared.section.Section.{Section}
use Rattle.script_text.specs.declared.section.Section.TheVariants as section
use Rattle.script_text.specs.declared.reader.Reader.{Reader}
use Rattle.script_text.specs.Words.{◌>>=◌}
use Rattle.script_text.specs.Standing.{Standing, after, in_script, in_part, rank}
use Rattle.script_text.specs.JobText.{Remainder, in_front, rest_of, lines_said}
use Rattle.script_text.specs.Frames.{opener_of, closed}
use Rattle.script_text.specs.Given.{IsRefused}

-- The section come to: behind the line of references no reader is before it.
abbrev pub come_to : Section → Option ℕ → Section
come_to section.Start (Some n) = section.Refs
come_to section.Start None = section.Start
come_to section.Head (Some n) = section.Refs
come_to section.Head None = section.Head
come_to other refs = other

-- where the next line stands
abbrev pub standing_of : Reader → Standing
standing_of reader = record {
  come_to = come_to reader.come_to reader.refs;
  refs = unwrap_or reader.refs 0;
  next = reader.next;
  workers = reader.worker_count;
  scripts = reader.script_count;
  steps = length reader.steps;
  openers = map opener_of reader.frames;
}

-- the scripts of the last worker
abbrev pub scripts_with : Reader → Remainder → List Script
scripts_with reader rest = reader.scripts ++ (closed reader.frames reader.block rest.blocks ++ rest.scripts)

-- what was said, with this behind it
abbrev pub job_so_far : Reader → Remainder → Job
job_so_far reader rest = record {
  refs = unwrap_or reader.refs rest.refs;
  maps = 0;
  snaps = 0;
  blocks = 0;
  openings = reader.openings ++ rest.openings;
  workers = reader.workers ++ (if nat_eq reader.worker_count 0 then rest.workers else scripts_with reader rest ∷ rest.workers);
  steps = reader.steps ++ rest.steps;
}

-- what the further lines make of it, from this line number on
abbrev pub job_from : Reader → ℕ → List Row → Result Job (ℕ × Reason)
job_from reader n rows = lines_said (standing_of reader) n rows >>= λ said. Ok (job_so_far reader (rest_of said))

-- A reader takes such a line in such a place.
abbrev pub may_come : Standing → Line → Bool
may_come p says.Head = nat_eq (rank p.come_to) 0
may_come p (says.Refs n) = nat_le (rank p.come_to) 1
may_come p says.Worker = not (in_script p) && nat_lt p.workers 16
may_come p says.Script = not (in_script p) && nat_lt p.scripts 4096
may_come p says.Or = in_part p.openers
may_come p _ = true

-- the workers before the last one, and the last one, if there is one
abbrev pub workers_so_far : Reader → List (List Script)
workers_so_far reader = if nat_eq reader.worker_count 0 then reader.workers else reader.workers ++ reader.scripts ∷ []

-- before the first line
abbrev pub fresh : Reader
fresh = record {
  come_to = section.Start;
  refs = None;
  next = 0;
  openings = [];
  worker_count = 0;
  workers = [];
  script_count = 0;
  scripts = [];
  block = [];
  frames = [];
  steps = [];
}

-- with a block begun
abbrev pub began : Reader → Begun → Reader
began reader begun = record reader { block = []; frames = record { begun = begun; outer = reader.block } ∷ reader.frames }

-- with the innermost block put behind these parts, and a further one begun
abbrev pub with_part : Reader → List (List Statement) → List Statement → Reader
with_part reader parts outer = record reader { block = []; frames = record { begun = begun.Either (parts ++ reader.block ∷ []); outer = outer } ∷ reader.frames }

-- with the block that is begun by this and ended put where it belongs
abbrev pub ended : Reader → Begun → List Statement → Reader
ended reader begun.Script block = record reader { scripts = reader.scripts ++ record { block = block } ∷ [] }
ended reader (begun.Inner r) block = record reader { block = reader.block ++ made.Inner r block ∷ [] }
ended reader (begun.Either parts) block = record reader { block = reader.block ++ made.Either (parts ++ block ∷ []) ∷ [] }
ended reader begun.Late block = record reader { block = reader.block ++ made.Late block ∷ [] }

-- It has taken the line.
pub record Took (old new : Reader) (line : Line) : Type 0 where
  pub place : standing_of new ≡ after (standing_of old) line
  pub job : (rest : Remainder) → job_so_far new rest ≡ job_so_far old (in_front line rest)

-- It has taken the line that was said.
abbrev pub TookSaid : Reader → Reader → Result Line Reason → Type 0
TookSaid old new (Ok line) = Took old new line
TookSaid old new (Err reason) = ⊥

-- It has taken the line that is given, or refuses it for the reason that is given.
abbrev pub Follows : Result ⊤ Fault → Reader → Reader → Result Line Reason → Type 0
Follows (Ok _) old new given = TookSaid old new given
Follows (Err e) old new given = IsRefused e given

abbrev pub RefusedAt : Fault → Reader → Row → Type 0
RefusedAt fault.Memory old row = Unit {0}
RefusedAt (fault.Refused reason) old row = (n : ℕ) (rows : List Row) → job_from old n (row ∷ rows) ≡ Err (n, reason)

-- The rows from this one on make what the further ones make of the new reader, or it is refused.
abbrev pub Reads : Result ⊤ Fault → Reader → Reader → Row → Type 0
Reads (Ok _) old new row = (n : ℕ) (rows : List Row) → job_from old n (row ∷ rows) ≡ job_from new (n + 1) rows
Reads (Err e) old new row = RefusedAt e old row

abbrev pub RefusedAtEnd : Fault → Reader → Type 0
RefusedAtEnd fault.Memory reader = Unit {0}
RefusedAtEnd (fault.Refused reason) reader = (n : ℕ) → job_from reader n [] ≡ Err (n, reason)

-- No line is left.
abbrev pub Finishes : Result Job Fault → Reader → Type 0
Finishes (Ok job) reader = (n : ℕ) → job_from reader n [] ≡ Ok job
Finishes (Err e) reader = RefusedAtEnd e reader

-- the fault of a line of this number
abbrev pub fault_at : ℕ → Fault → ParseFault
fault_at line fault.Memory = parsing.Memory
fault_at line (fault.Refused reason) = parsing.Script line reason
