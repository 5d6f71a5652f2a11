-- A listing tells what running a job's scripts alone gives, one after another in the listing's order.
use Rattle.std.specs.Prelude.{◌≡◌, ℕ, suc, ◌+◌, ◌-◌, ◌<◌, ◌≤◌, nat_eq, if◌then◌else◌, not, IsTrue, MatchBool, List, [], ◌∷◌, ◌++◌, length, map, filter, take, slice_index_or, AllPairs}
use Rattle.std.specs.List.{AllByRecursion, range_with_len}
use Rattle.stm_model.specs.Evidence.{Evidence}
use Rattle.stm_model.specs.Pairs.{KeysAscend}
use Rattle.stm_model.specs.Safe.{EndsWith}
use Rattle.stm_model.specs.Telling.{Extends}
use Rattle.stm_model.specs.declared.cause.Cause.TheVariants.{Retry}
use Rattle.stm_model.specs.declared.settings.Settings.{Settings}
use Rattle.ledger_model.specs.declared.job.Contents.{Contents}
use Rattle.ledger_model.specs.declared.job.Job.{Job}
use Rattle.ledger_model.specs.declared.listing.Listing.{Listing}
use Rattle.ledger_model.specs.declared.listing.Rolled.{Rolled}
use Rattle.ledger_model.specs.declared.listing.Row.{Row}
use Rattle.ledger_model.specs.declared.listing.RowResult.{RowResult}
use Rattle.ledger_model.specs.declared.listing.RowResult.TheVariants.{Done, Fail, Spent, Full}
use Rattle.ledger_model.specs.declared.script.Script.{Script}
use Rattle.ledger_model.specs.declared.script.Statement.{Statement}
use Rattle.ledger_model.specs.Contents.{opening_contents, blocks_of}
use Rattle.ledger_model.specs.Order.{stands_before}
use Rattle.ledger_model.specs.Report.{has_text}
use Rattle.ledger_model.specs.Run.{Outcome, Retried, run, allowance}
use Rattle.ledger_model.specs.Settle.{Settled, Commits, Fails, OnlyReads, Spends, settle, handler_runs}

-- ---- scripts by name: workers and their scripts count from 1

abbrev pub scripts_of : Job → ℕ → List Script
scripts_of job worker = slice_index_or job.workers (worker - 1) []

abbrev pub block_of : Job → ℕ → ℕ → List Statement
block_of job worker number = (slice_index_or (scripts_of job worker) (number - 1) (record { block = [] })).block

-- the job has a script of that name
pub record NamesScript (job : Job) (worker number : ℕ) : Type 0 where
  pub worker_from : 1 ≤ worker
  pub worker_to : worker ≤ length job.workers
  pub number_from : 1 ≤ number
  pub number_to : number ≤ length (scripts_of job worker)

-- ---- the contents after so many writers

abbrev pub writers_of : List Row → List Row
writers_of rows = filter (λ row. row.writer) rows

abbrev pub others_of : List Row → List Row
others_of rows = filter (λ row. not row.writer) rows

abbrev pub writer_count : List Row → ℕ
writer_count rows = length (writers_of rows)

-- what a script does, run alone on these contents
abbrev pub run_of : Job → ℕ → ℕ → Contents → Outcome
run_of job worker number contents = run (block_of job worker number) contents

-- what a writer leaves, with the blocks that it drew in use
abbrev pub left_by : Job → Row → Contents → Contents
left_by job row contents =
    let left = (run_of job row.worker row.number contents).after.contents in record left { used = left.used + row.drawn }

-- the writers run alone, one after another
abbrev pub after_writers : Job → List Row → Contents → Contents
after_writers job [] contents = contents
after_writers job (row ∷ rows) contents = after_writers job rows (left_by job row contents)

-- the contents after the first n writers of the rows
abbrev pub contents_after : Job → List Row → ℕ → Contents
contents_after job rows n = after_writers job (take n (writers_of rows)) (opening_contents job)

-- what a script does, run alone on these contents
abbrev pub run_after : Job → List Row → (n worker number : ℕ) → Outcome
run_after job rows n worker number = run_of job worker number (contents_after job rows n)

-- ---- what a row says

-- The script that gave this outcome after so many writers is settled like this, and the row has these prints and the runs of its handlers.
pub record Tells (settings : Settings) (row : Row) (outcome : Outcome) (writers : ℕ) (how : Settled) (prints : List ℕ) : Type 0 where
  pub settled : settle outcome writers settings.clock ≡ how
  pub printed : row.prints ≡ prints
  pub runs : row.runs ≡ handler_runs how outcome.after

-- a committed writer, whose script gave this outcome after the writers before it
pub record TellsWriter (settings : Settings) (row : Row) (outcome : Outcome) : Type 0 where
  pub done : row.result ≡ Done
  pub tells : Tells settings row outcome (row.position - 1) Commits outcome.after.prints
  pub drawn : row.drawn ≤ allowance outcome.after

-- What a script that committed no write was settled as: it only read, it failed, or the clock was at its limit. So far none finds the blocks used up.
abbrev pub TellsResult : RowResult → Settings → Row → Outcome → Type 0
TellsResult Done settings row outcome = Tells settings row outcome row.position OnlyReads outcome.after.prints
TellsResult (Fail code) settings row outcome = Tells settings row outcome row.position (Fails code) []
TellsResult Spent settings row outcome = Tells settings row outcome row.position Spends []
TellsResult (Full used allowance) settings row outcome = ⊥

-- any other script, which gave this outcome after the writers up to its position
pub record TellsReader (settings : Settings) (row : Row) (outcome : Outcome) : Type 0 where
  pub tells : TellsResult row.result settings row outcome
  pub drawn : row.drawn ≡ 0

-- ---- how the rows stand

-- each row stands before those behind it
abbrev pub InOrder : List Row → Type 0
InOrder rows = AllPairs (λ row later. IsTrue (stands_before row later)) rows

-- The writers' positions count up from 1, and no other position is past the last writer's.
pub record AreStamped (rows : List Row) : Type 0 where
  pub writers : map (λ row. row.position) (writers_of rows) ≡ range_with_len 1 (writer_count rows)
  pub others : AllByRecursion (λ row. row.position ≤ writer_count rows) (others_of rows)

abbrev pub rows_of : ℕ → List Row → List Row
rows_of worker rows = filter (λ row. nat_eq row.worker worker) rows

-- how many of its scripts are settled
abbrev pub settled_by : List Row → ℕ → ℕ
settled_by rows worker = length (rows_of worker rows)

-- ---- which scripts are listed

abbrev pub names_of : ℕ → List (ℕ × ℕ) → List (ℕ × ℕ)
names_of worker names = filter (λ name. nat_eq name.0 worker) names

-- the first script that isn't settled, where one is left
abbrev pub left_of : Job → List Row → ℕ → List (ℕ × ℕ)
left_of job rows worker =
    if nat_eq (settled_by rows worker) (length (scripts_of job worker)) then [] else (worker, suc (settled_by rows worker)) ∷ []

-- The worker's rows count up from its first script, one row each. Where a script is left, the first of them is blocked or worn, and none else.
pub record ListsScripts (job : Job) (listing : Listing) (worker : ℕ) : Type 0 where
  pub numbered : map (λ row. row.number) (rows_of worker listing.rows) ≡ range_with_len 1 (settled_by listing.rows worker)
  pub left : names_of worker (listing.blocked ++ listing.worn) ≡ left_of job listing.rows worker

-- All that is listed are scripts of the job, each worker's in order. Who is blocked or worn is listed once, in order of worker.
pub record ListsJob (job : Job) (listing : Listing) : Type 0 where
  pub rows : AllByRecursion (λ row. NamesScript job row.worker row.number) listing.rows
  pub rolled : AllByRecursion (λ rolled. NamesScript job rolled.worker rolled.number) listing.rolled
  pub blocked : AllByRecursion (λ name. NamesScript job name.0 name.1) listing.blocked
  pub worn : AllByRecursion (λ name. NamesScript job name.0 name.1) listing.worn
  pub workers : (worker : ℕ) → 1 ≤ worker → worker ≤ length job.workers → ListsScripts job listing worker
  pub blocked_ascend : KeysAscend listing.blocked
  pub worn_ascend : KeysAscend listing.worn

-- ---- attempts that were rolled back

abbrev pub rolled_of : ℕ → List Rolled → List Rolled
rolled_of worker rolled = filter (λ line. nat_eq line.worker worker) rolled

-- Of two attempts the first may stand before the second: its worker is no later, and of one worker neither scripts nor prefixes fall.
pub record MayPrecede (first second : Rolled) : Type 0 where
  pub worker : first.worker ≤ second.worker
  pub number : first.worker ≡ second.worker → first.number ≤ second.number
  pub prefix : first.worker ≡ second.worker → first.prefix ≤ second.prefix

-- an attempt at this prefix came before the row: it is no later, and before a writer it is earlier
abbrev pub ComesBefore : ℕ → Row → Type 0
ComesBefore prefix row = MatchBool row.writer (prefix < row.position) (prefix ≤ row.position)

-- Its script is settled or the next one, its prefix is one of the job's, and it lies between the row of the script before and that of its own.
pub record IsPlaced (rows : List Row) (rolled : Rolled) : Type 0 where
  pub number : rolled.number ≤ suc (settled_by rows rolled.worker)
  pub prefix : rolled.prefix ≤ writer_count rows
  pub behind : AllByRecursion (λ row. suc row.number ≡ rolled.number → row.position ≤ rolled.prefix) (rows_of rolled.worker rows)
  pub before : AllByRecursion (λ row. row.number ≡ rolled.number → ComesBefore rolled.prefix row) (rows_of rolled.worker rows)

-- The attempts stand by worker, each one's in order, and each at its place.
pub record ArePlaced (listing : Listing) : Type 0 where
  pub in_order : AllPairs MayPrecede listing.rolled
  pub placed : AllByRecursion (IsPlaced listing.rows) listing.rolled

-- Who asked for a retry ran up to its end, and retries there.
pub record HasRetried (rolled : Rolled) (outcome : Outcome) : Type 0 where
  pub retries : outcome.end ≡ Retried
  pub whole : rolled.trail ≡ outcome.after.trail

-- Its script gives this outcome after the writers up to its prefix. What it printed is how that begins, and its cause shows what it has to. Who works alone is rolled back by a retry alone.
pub record TellsRolled (job : Job) (settings : Settings) (rolled : Rolled) (outcome : Outcome) : Type 0 where
  pub trail : Extends rolled.trail outcome.after.trail
  pub cause : IsTrue (has_text rolled.cause)
  pub evidence : Evidence rolled.worker settings rolled.cause
  pub retry : rolled.cause ≡ Retry → HasRetried rolled outcome
  pub alone : length job.workers ≡ 1 → rolled.cause ≡ Retry

-- ---- what is left

-- The script retries on what all writers left, and its worker's last attempt asked for that retry there.
pub record IsBlocked (job : Job) (listing : Listing) (name : ℕ × ℕ) : Type 0 where
  pub retries : (run_after job listing.rows (writer_count listing.rows) name.0 name.1).end ≡ Retried
  pub rolled : Rolled
  pub last : EndsWith (rolled_of name.0 listing.rolled) (rolled ∷ [])
  pub number : rolled.number ≡ name.1
  pub cause : rolled.cause ≡ Retry
  pub prefix : rolled.prefix ≡ writer_count listing.rows

-- how many attempts of the worker are listed
abbrev pub attempts_of : Listing → ℕ → ℕ
attempts_of listing worker = settled_by listing.rows worker + length (rolled_of worker listing.rolled)

-- No worker has more attempts than it may make, and one that is worn has made them all.
pub record CountsAttempts (settings : Settings) (listing : Listing) : Type 0 where
  pub most : (worker : ℕ) → attempts_of listing worker ≤ settings.attempts
  pub worn : AllByRecursion (λ name. attempts_of listing name.0 ≡ settings.attempts) listing.worn

-- ---- the whole

-- Running the listed scripts alone, in the listed order, gives the listing.
pub record Replays (job : Job) (settings : Settings) (listing : Listing) : Type 0 where
  pub in_order : InOrder listing.rows
  pub stamped : AreStamped listing.rows
  pub listed : ListsJob job listing
  pub writers : AllByRecursion (λ row. TellsWriter settings row (run_after job listing.rows (row.position - 1) row.worker row.number)) (writers_of listing.rows)
  pub others : AllByRecursion (λ row. TellsReader settings row (run_after job listing.rows row.position row.worker row.number)) (others_of listing.rows)
  -- no more blocks are ever in use than there are
  pub used : (n : ℕ) → (contents_after job listing.rows n).used ≤ blocks_of job
  pub placed : ArePlaced listing
  pub rolled : AllByRecursion (λ rolled. TellsRolled job settings rolled (run_after job listing.rows rolled.prefix rolled.worker rolled.number)) listing.rolled
  pub blocked : AllByRecursion (IsBlocked job listing) listing.blocked
  pub attempts : CountsAttempts settings listing
  pub contents : listing.contents ≡ contents_after job listing.rows (writer_count listing.rows)
