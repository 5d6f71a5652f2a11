-- From the status to the number and the line.
use Rattle.std.proofs.Common.{◌≡◌, ◌⊎◌, ◌∙◌, inl, inr, ℕ, List, ap, subst}
use Rattle.ledger_model.specs.declared.reason.Reason.{Reason}
use Rattle.ledger_host.specs.declared.host.HostStatus.{HostStatus}
use Rattle.ledger_host.specs.declared.host.HostStatus.TheVariants.{Script, Memory}
use Rattle.ledger_program.specs.Status.{error_line, exit_number, refusal_line}

pub refused_or_memory : (WasTold : List ℕ → Type 0) (number : ℕ) (status : HostStatus) (line : ℕ) (reason : Reason)
    → number ≡ exit_number status → WasTold (error_line status) → (status ≡ Script line reason) ⊎ (status ≡ Memory)
    → (number ≡ 3) × WasTold (refusal_line line reason) ⊎ (number ≡ 6)
refused_or_memory WasTold number status line reason is told (inl script) =
    inl (is ∙ ap exit_number script, subst (λ (s : HostStatus). WasTold (error_line s)) script told)
refused_or_memory WasTold number status line reason is told (inr memory) = inr (is ∙ ap exit_number memory)
