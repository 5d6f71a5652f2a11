-- When each answer of the top call comes, and what it leaves.
use Rattle.std.specs.Prelude.{◌≡◌, ◌⊎◌, ◌+◌, ◌<◌, ◌≤◌, ℕ, List, Option, Some, Ok, Err, length}
use Rattle.std.specs.Io.KnownBytes.{Appends}
use Rattle.stm_io.specs.Faults.{Rose}
use Rattle.stm_io.specs.Whole.{AppendedProperFront, TookAll, TookAtMost, TookCount, most_bytes}
use Rattle.stm_model.specs.declared.settings.Settings.{Settings}
use Rattle.ledger_model.specs.declared.job.Job.{Job}
use Rattle.ledger_model.specs.declared.listing.Listing.{Listing}
use Rattle.ledger_model.specs.declared.reason.Reason.{Reason}
use Rattle.ledger_model.specs.declared.reason.Reason.TheVariants.{Long}
use Rattle.ledger_model.specs.Replays.{Replays}
use Rattle.ledger_model.specs.Report.{report}
use Rattle.ledger_model.specs.Traced.{IsTraced}
use Rattle.script_text.specs.JobText.{job_of}
use Rattle.host_report.specs.WithinTypes.{IsWithinTypes}
use Rattle.ledger_host.specs.Words.{AskFor, AskForSome, Command, Trace}
use Rattle.ledger_host.specs.declared.host.HostStatus.{HostStatus}
use Rattle.ledger_host.specs.declared.host.HostStatus.TheVariants.{Done, Usage, Script, ReadFault, WriteFault, Memory}

-- The command yields this listing for the job: `trace` yields the one to which the job's schedule leads.
abbrev pub Yields : Command → Job → Settings → Listing → Type 0
Yields Trace job settings listing = IsTraced job settings listing

-- The text is a job's, and these bytes are the report of a listing that the command yields for this job under its settings, and that replays it.
pub record IsReportOf (command : Command) (settings : Job → Settings) (text bytes : List ℕ) : Type 0 where
  pub job : Job
  pub listing : Listing
  pub text_of_job : job_of text ≡ Ok job
  pub yielded : Yields command job (settings job) listing
  pub replays : Replays job (settings job) listing
  pub within : IsWithinTypes listing
  pub report_is : bytes ≡ report listing

-- The source was read to its end, and these bytes are the report of the job that it had.
pub record HasReport (command : Command) (settings : Job → Settings) (before after : Option (List ℕ)) (bytes : List ℕ) : Type 0 where
  pub text : List ℕ
  pub all : TookAll before after text
  pub within : length text ≤ most_bytes
  pub report_of_text : IsReportOf command settings text bytes

-- ---- refusals: of a text, and of what was taken of a source, which is less than its text where that is too long

-- The source gave one byte more than a text may have.
pub record TookTooMany (before after : Option (List ℕ)) (line : ℕ) (reason : Reason) : Type 0 where
  pub taken : TookCount before after (most_bytes + 1)
  pub line_is : line ≡ 0
  pub reason_is : reason ≡ Long

-- The source was read to its end, and its text is refused.
pub record TookNoJob (before after : Option (List ℕ)) (line : ℕ) (reason : Reason) : Type 0 where
  pub text : List ℕ
  pub all : TookAll before after text
  pub within : length text ≤ most_bytes
  pub refused : job_of text ≡ Err (line, reason)

-- the text is too long, or has a refused line: this one, for this reason
abbrev pub IsRefusedText : List ℕ → ℕ → Reason → Type 0
IsRefusedText text line reason =
    ((most_bytes < length text) × (line ≡ 0) × (reason ≡ Long)) ⊎ ((length text ≤ most_bytes) × (job_of text ≡ Err (line, reason)))

-- The source tells its bytes, and they are a job's text.
pub record TellsJob (told : Option (List ℕ)) : Type 0 where
  pub text : List ℕ
  pub job : Job
  pub told_is : told ≡ Some text
  pub within : length text ≤ most_bytes
  pub text_of_job : job_of text ≡ Ok job

-- The source tells its bytes, and they are refused on this line for this reason.
pub record TellsNoJob (told : Option (List ℕ)) (line : ℕ) (reason : Reason) : Type 0 where
  pub text : List ℕ
  pub told_is : told ≡ Some text
  pub refused : IsRefusedText text line reason

abbrev pub IsRefused : Option (List ℕ) → Option (List ℕ) → ℕ → Reason → Type 0
IsRefused before after line reason = TookTooMany before after line reason ⊎ TookNoJob before after line reason

-- Each answer's cause, and what it leaves in the source and in the sink.
abbrev pub Answers : {S K : Type 0} → (S → Option (List ℕ)) → (S → ℕ) → (K → Option (List ℕ)) → (K → ℕ)
    → List (List ℕ) → (Job → Settings) → S → S → K → K → HostStatus → Type 0
Answers left read_faults held write_faults words settings source source_after sink sink_after Done =
    (command : Command) × AskFor words command
    × ((bytes : List ℕ) × HasReport command settings (left source) (left source_after) bytes × Appends (held sink) (held sink_after) bytes)
Answers left read_faults held write_faults words settings source source_after sink sink_after Usage =
    (AskForSome words → ⊥) × (source_after ≡ source) × (sink_after ≡ sink)
Answers left read_faults held write_faults words settings source source_after sink sink_after (Script line reason) =
    AskForSome words × IsRefused (left source) (left source_after) line reason × (sink_after ≡ sink)
Answers left read_faults held write_faults words settings source source_after sink sink_after ReadFault =
    AskForSome words × TookAtMost (left source) (left source_after) most_bytes × Rose (read_faults source) (read_faults source_after) × (sink_after ≡ sink)
Answers left read_faults held write_faults words settings source source_after sink sink_after WriteFault =
    (command : Command) × AskFor words command
    × ((bytes : List ℕ) × HasReport command settings (left source) (left source_after) bytes × AppendedProperFront (held sink) (held sink_after) bytes)
    × Rose (write_faults sink) (write_faults sink_after)
Answers left read_faults held write_faults words settings source source_after sink sink_after Memory =
    AskForSome words × TookAtMost (left source) (left source_after) most_bytes × (sink_after ≡ sink)
