-- Where a line of a job stands, and the reasons why it may not stand there.
use Rattle.std.specs.Prelude.{ℕ, ◌+◌, Bool, true, false, not, ◌&&◌, ◌||◌, nat_eq, nat_le, nat_lt, if◌then◌else◌, List, [], ◌∷◌, length, codes, bytes_eq, Option, Some, None, Result, Ok, Err}
use Rattle.text_lines.specs.Lines.{Row}
use Rattle.text_lines.specs.Numbers.{number_of}
use Rattle.ledger_model.specs.Limits.{most_workers, most_scripts, most_steps, most_depth}
use Rattle.ledger_model.specs.declared.reason.Reason.{Reason}
use Rattle.ledger_model.specs.declared.reason.Reason.TheVariants.{Head, Word, Unbuilt, Order, Depth, Many}
use Rattle.script_text.specs.declared.keyword.Keyword.{Keyword}
use Rattle.script_text.specs.declared.keyword.Keyword.TheVariants as key
use Rattle.script_text.specs.declared.line.Line.{Line}
use Rattle.script_text.specs.declared.line.Line.TheVariants as says
use Rattle.script_text.specs.declared.section.Section.{Section}
use Rattle.script_text.specs.declared.section.Section.TheVariants as section
use Rattle.script_text.specs.Words.{keyword_of, is_unbuilt}
use Rattle.script_text.specs.Line.{said}

-- The sections of a job stand in this order.
abbrev pub rank : Section → ℕ
rank section.Start = 0
rank section.Head = 1
rank section.Refs = 2
rank section.Openings = 3
rank section.Workers = 4
rank section.Steps = 5

-- what a line has opened and no `end` has ended: a script, a block in it, or the first or a later part of an `either`
pub data Opener : Type 0 where
  OfScript : Opener
  OfInner : Opener
  OfEither : Opener
  OfOr : Opener
  OfLate : Opener

-- what the lines so far say of where the next one stands
pub record Standing : Type 0 where
  pub come_to : Section
  pub refs : ℕ
  -- the least reference that may be opened next
  pub next : ℕ
  pub workers : ℕ
  -- how many scripts the last worker has
  pub scripts : ℕ
  -- how many numbers of `steps` there are
  pub steps : ℕ
  -- what is open, the innermost first
  pub openers : List Opener

abbrev pub start : Standing
start = record { come_to = section.Start; refs = 0; next = 0; workers = 0; scripts = 0; steps = 0; openers = [] }

-- ---- the place behind a line

abbrev pub behind_first : List Opener → List Opener
behind_first [] = []
behind_first (opener ∷ openers) = openers

abbrev pub after : Standing → Line → Standing
after p says.Head = record p { come_to = section.Head }
after p (says.Refs n) = record p { come_to = section.Refs; refs = n }
after p (says.Opening cell n) = record p { come_to = section.Openings; next = cell + 1 }
after p says.Worker = record p { come_to = section.Workers; workers = p.workers + 1; scripts = 0 }
after p says.Script = record p { scripts = p.scripts + 1; openers = OfScript ∷ [] }
after p says.End = record p { openers = behind_first p.openers }
after p (says.Inner r) = record p { openers = OfInner ∷ p.openers }
after p says.Either = record p { openers = OfEither ∷ p.openers }
after p says.Or = record p { openers = OfOr ∷ behind_first p.openers }
after p says.Late = record p { openers = OfLate ∷ p.openers }
after p (says.Steps numbers) = record p { come_to = section.Steps; steps = p.steps + length numbers }
after p (says.Plain m) = p

-- ---- whether a line may stand there

abbrev pub is_less : Option ℕ → ℕ → Bool
is_less None next = false
is_less (Some n) next = nat_lt n next

-- the number that the first word says, if it does, is below this one
abbrev pub falls_below : ℕ → Row → Bool
falls_below next [] = false
falls_below next (word ∷ args) = is_less (number_of word) next

abbrev pub in_script : Standing → Bool
in_script p = not (nat_eq (length p.openers) 0)

-- The innermost thing that is open is a part of an `either`.
abbrev pub in_part : List Opener → Bool
in_part (OfEither ∷ openers) = true
in_part (OfOr ∷ openers) = true
in_part _ = false

-- Something is open, but for an `either` of one part.
abbrev pub may_end : List Opener → Bool
may_end [] = false
may_end (OfEither ∷ openers) = false
may_end _ = true

-- The word may not stand here, or its reference doesn't ascend.
abbrev pub out_of_order : Standing → Keyword → Row → Bool
out_of_order p key.Stm args = true
out_of_order p key.Refs args = nat_lt 1 (rank p.come_to)
out_of_order p key.Ref args = nat_lt 3 (rank p.come_to) || falls_below p.next args
out_of_order p key.Worker args = in_script p || nat_lt 4 (rank p.come_to)
out_of_order p key.Script args = in_script p || not (nat_eq (rank p.come_to) 4)
out_of_order p key.Steps args = in_script p
out_of_order p key.Or args = not (in_part p.openers)
out_of_order p key.End args = not (may_end p.openers)
out_of_order p _ args = not (in_script p)

-- It opens a block where as many are open in the script as may be.
abbrev pub too_deep : Standing → Keyword → Bool
too_deep p key.Inner = nat_lt most_depth (length p.openers)
too_deep p key.Either = nat_lt most_depth (length p.openers)
too_deep p key.Late = nat_lt most_depth (length p.openers)
too_deep p _ = false

-- There are as many workers or scripts already as there may be, or it brings too many numbers.
abbrev pub too_many : Standing → Keyword → Row → Bool
too_many p key.Worker args = nat_le most_workers p.workers
too_many p key.Script args = nat_le most_scripts p.scripts
too_many p key.Steps args = nat_lt most_steps (p.steps + length args)
too_many p _ args = false

-- the first of these reasons whose test holds
abbrev pub first_of : List (Bool × Reason) → Option Reason
first_of [] = None
first_of (test ∷ tests) = if test.0 then Some test.1 else first_of tests

-- Why a line of this keyword may not stand here.
abbrev pub misplaced : Standing → Keyword → Row → Option Reason
misplaced p keyword args = first_of (
    (is_unbuilt keyword, Unbuilt) ∷ (out_of_order p keyword args, Order) ∷
    (too_deep p keyword, Depth) ∷ (too_many p keyword args, Many) ∷ [])

-- what the line says, unless there is a reason against it
abbrev pub unless : {A : Type 0} → Option Reason → Result A Reason → Result A Reason
unless None result = result
unless (Some reason) result = Err reason

abbrev pub is_head : Row → Bool
is_head (a ∷ b ∷ []) = bytes_eq a (codes "stm") && bytes_eq b (codes "1")
is_head _ = false

-- what a keyword and the words behind it say here
abbrev pub said_at : Standing → Option Keyword → Row → Result Line Reason
said_at p None args = Err Word
said_at p (Some keyword) args = unless (misplaced p keyword args) (said p.refs p.workers keyword args)

-- What a line says here by its words. The first one has to be the head of a job.
abbrev pub read_at : Section → Standing → Row → Result Line Reason
read_at section.Start p row = if is_head row then Ok says.Head else Err Head
read_at _ p [] = Err Word
read_at _ p (word ∷ args) = said_at p (keyword_of word) args

abbrev pub read_row : Standing → Row → Result Line Reason
read_row p row = read_at p.come_to p row
