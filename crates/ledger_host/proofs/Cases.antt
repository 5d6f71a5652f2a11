-- What follows from the answers of the top call, case by case.
use Rattle.std.proofs.Common.{◌≡◌, ◌⊎◌, ◌∙◌, ◌≤◌, ◌+◌, ◌++◌, inl, inr, ℕ, List, length, length-append, append-nil, Option, Some, None, Result, Ok, Err, refl, sym, ap, subst, arith}
use Rattle.stm_io.specs.Faults.{Rose}
use Rattle.stm_io.specs.Whole.{TookAll, TookCount, most_bytes}
use Rattle.ledger_model.specs.declared.reason.Reason.{Reason}
use Rattle.stm_model.specs.declared.settings.Settings.{Settings}
use Rattle.ledger_model.specs.declared.job.Job.{Job}
use Rattle.script_text.specs.declared.fault.ParseFault.{ParseFault}
use Rattle.script_text.specs.declared.fault.ParseFault.TheVariants as parsing
use Rattle.script_text.specs.JobText.{job_of}
use Rattle.ledger_host.specs.Refusals.{IsRefusalOf, refusal_of}
use Rattle.ledger_host.specs.Words.{AskForSome, Command}
use Rattle.ledger_host.specs.Answers.{Answers, HasReport, IsRefused, IsRefusedText, TookTooMany, TellsJob, TellsNoJob}
use Rattle.ledger_host.specs.declared.host.HostStatus.{HostStatus}
use Rattle.ledger_host.specs.declared.host.HostStatus.TheVariants.{Done, Usage, Script, ReadFault, WriteFault, Memory}

-- ---- what a source that told its bytes gave

-- read to its end, it gave them all
whole : (told bytes : List ℕ) (after : Option (List ℕ)) → TookAll (Some told) after bytes → told ≡ bytes
whole told bytes None took = absurd took.taken
whole told bytes (Some rest) took = took.taken ∙ ap (λ l. bytes ++ l) took.at_end ∙ append-nil bytes

all_told : (told bytes : List ℕ) (before after : Option (List ℕ)) → before ≡ Some told → TookAll before after bytes → told ≡ bytes
all_told told bytes before after is took = whole told bytes after (subst (λ b. TookAll b after bytes) is took)

-- it gave no more than them
no_more : (told : List ℕ) (after : Option (List ℕ)) (n : ℕ) → TookCount (Some told) after n → n ≤ length told
no_more told None n took = absurd took.taken
no_more told (Some rest) n took =
    let long : length told ≡ length took.bytes + length rest = ap length took.taken ∙ length-append took.bytes rest in
    omega (arith, took.count)

not_too_long : (told : List ℕ) (before after : Option (List ℕ)) (line : ℕ) (reason : Reason) → before ≡ Some told → length told ≤ most_bytes → TookTooMany before after line reason → ⊥
not_too_long told before after line reason is few long =
    let more = no_more told after (most_bytes + 1) (subst (λ b. TookCount b after (most_bytes + 1)) is long.taken) in
    absurd (omega arith)

-- ---- a text that is refused has no report, and only its own refusal

no_job : (text : List ℕ) (refused : ℕ × Reason) (job : Job) → job_of text ≡ Err refused → job_of text ≡ Ok job → ⊥
no_job text refused job e k = ok_or_not (sym k ∙ e) where
  ok_or_not : Ok job ≡ Err refused → ⊥
  ok_or_not h = cc

no_report : (command : Command) (settings : Job → Settings) (told : List ℕ) (before after : Option (List ℕ)) (line : ℕ) (reason : Reason) (bytes : List ℕ) → before ≡ Some told → IsRefusedText told line reason → HasReport command settings before after bytes → ⊥
no_report command settings told before after line reason bytes is (inl long) has =
    let same = ap length (all_told told has.text before after is has.all) in absurd (omega (arith, long.0, has.within))
no_report command settings told before after line reason bytes is (inr bad) has =
    let same = all_told told has.text before after is has.all in
    no_job told (line, reason) has.report_of_text.job bad.1 (ap job_of same ∙ has.report_of_text.text_of_job)

as_script : (line number : ℕ) (reason why : Reason) → line ≡ number → reason ≡ why → Script line reason ≡ Script number why
as_script line number reason why l r = ap (λ (n : ℕ). Script n reason) l ∙ ap (λ (w : Reason). Script number w) r

-- how a text that is refused is told
abbrev told_as : Result Job (ℕ × Reason) → HostStatus
told_as (Ok job) = Done
told_as (Err refused) = Script refused.0 refused.1

one_refusal : (text : List ℕ) (line number : ℕ) (reason why : Reason) → job_of text ≡ Err (line, reason) → job_of text ≡ Err (number, why) → Script line reason ≡ Script number why
one_refusal text line number reason why e k = ap told_as (sym e ∙ k)

only_refusal : (told : List ℕ) (before after : Option (List ℕ)) (line number : ℕ) (reason why : Reason) → before ≡ Some told → IsRefusedText told number why → IsRefused before after line reason
    → Script line reason ≡ Script number why
only_refusal told before after line number reason why is (inl long) (inl taken) =
    as_script line number reason why (taken.line_is ∙ sym long.1) (taken.reason_is ∙ sym long.2)
only_refusal told before after line number reason why is (inl long) (inr none) =
    let same = ap length (all_told told none.text before after is none.all) in absurd (omega (arith, long.0, none.within))
only_refusal told before after line number reason why is (inr bad) (inl taken) =
    absurd (not_too_long told before after line reason is bad.0 taken)
only_refusal told before after line number reason why is (inr bad) (inr none) =
    one_refusal told line number reason why (ap job_of (all_told told none.text before after is none.all) ∙ none.refused) bad.1

-- a job's text isn't refused
not_refused : (before after : Option (List ℕ)) (line : ℕ) (reason : Reason) → TellsJob before → IsRefused before after line reason → ⊥
not_refused before after line reason told (inl long) = not_too_long told.text before after line reason told.told_is told.within long
not_refused before after line reason told (inr none) =
    no_job told.text (line, reason) told.job (ap job_of (all_told told.text none.text before after told.told_is none.all) ∙ none.refused) told.text_of_job

-- what the reader of job texts refuses is explained
pub refusal_of-explained : (text : List ℕ) (fault : ParseFault) → ((line : ℕ) (reason : Reason) → fault ≡ parsing.Script line reason → job_of text ≡ Err (line, reason))
    → IsRefusalOf text (refusal_of fault)
refusal_of-explained text (parsing.Script line reason) why = why line reason refl
refusal_of-explained text parsing.Memory why = tt

-- ---- the clauses

module _ {S K : Type 0} (left : S → Option (List ℕ)) (read_faults : S → ℕ) (held : K → Option (List ℕ)) (write_faults : K → ℕ) (words : List (List ℕ)) (settings : Job → Settings) (s t : S) (k l : K) where
  pub refusal_only : (status : HostStatus) → Answers left read_faults held write_faults words settings s t k l status
      → (line : ℕ) (reason : Reason) → AskForSome words → TellsNoJob (left s) line reason → (Rose (read_faults s) (read_faults t) → ⊥)
      → (status ≡ Script line reason) ⊎ (status ≡ Memory)
  refusal_only Done a line reason asks tells quiet = absurd (no_report a.0 settings tells.text (left s) (left t) line reason a.2.0 tells.told_is tells.refused a.2.1)
  refusal_only Usage a line reason asks tells quiet = absurd (a.0 asks)
  refusal_only (Script number why) a line reason asks tells quiet = inl (only_refusal tells.text (left s) (left t) number line why reason tells.told_is tells.refused a.1)
  refusal_only ReadFault a line reason asks tells quiet = absurd (quiet a.2)
  refusal_only WriteFault a line reason asks tells quiet = absurd (no_report a.0 settings tells.text (left s) (left t) line reason a.2.0 tells.told_is tells.refused a.2.1)
  refusal_only Memory a line reason asks tells quiet = inr refl

  pub done_only : (status : HostStatus) → Answers left read_faults held write_faults words settings s t k l status → AskForSome words → TellsJob (left s)
      → (Rose (read_faults s) (read_faults t) → ⊥) → (Rose (write_faults k) (write_faults l) → ⊥) → (status ≡ Done) ⊎ (status ≡ Memory)
  done_only Done a asks told quiet calm = inl refl
  done_only Usage a asks told quiet calm = absurd (a.0 asks)
  done_only (Script line reason) a asks told quiet calm = absurd (not_refused (left s) (left t) line reason told a.1)
  done_only ReadFault a asks told quiet calm = absurd (quiet a.2)
  done_only WriteFault a asks told quiet calm = absurd (calm a.3)
  done_only Memory a asks told quiet calm = inr refl
