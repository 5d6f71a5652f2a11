-- Private: why there is no report.
use Rattle.std.specs.Prelude.{◌≡◌, ℕ, List, Option, Err}
use Rattle.stm_io.specs.Faults.{Rose}
use Rattle.stm_io.specs.Whole.{TookAtMost, most_bytes}
use Rattle.script_text.specs.declared.fault.ParseFault.{ParseFault}
use Rattle.script_text.specs.declared.fault.ParseFault.TheVariants as parsing
use Rattle.script_text.specs.JobText.{job_of}
use Rattle.ledger_host.specs.Answers.{IsRefused}
use Rattle.ledger_host.specs.declared.host.Refusal.{Refusal}
use Rattle.ledger_host.specs.declared.host.Refusal.TheVariants.{Script, ReadFault, Memory}

-- the same refusal as the reader of job texts gave
abbrev pub refusal_of : ParseFault → Refusal
refusal_of (parsing.Script line reason) = Script line reason
refusal_of parsing.Memory = Memory

-- of a text that was read
abbrev pub IsRefusalOf : List ℕ → Refusal → Type 0
IsRefusalOf text (Script line reason) = job_of text ≡ Err (line, reason)
IsRefusalOf text ReadFault = ⊥
IsRefusalOf text Memory = Unit {0}

-- of what a source had, before and after, with its counts of faults
abbrev pub IsRefusalFrom : Option (List ℕ) → Option (List ℕ) → ℕ → ℕ → Refusal → Type 0
IsRefusalFrom before after faults_before faults_after (Script line reason) = IsRefused before after line reason
IsRefusalFrom before after faults_before faults_after ReadFault = TookAtMost before after most_bytes × Rose faults_before faults_after
IsRefusalFrom before after faults_before faults_after Memory = TookAtMost before after most_bytes
