-- Private: what an attempt tells by what it does next, and what it has said.
use Rattle.std.specs.Prelude.{◌≡◌, ℕ, Bool, true, false, [], ◌∷◌, reverse, Option, Some, None}
use Rattle.stm_core.specs.declared.next.Next.{Next}
use Rattle.stm_core.specs.declared.next.Next.TheVariants.{Before, Reply, Ring, Run}
use Rattle.stm_core.specs.declared.next.Reply.TheVariants as reply
use Rattle.stm_model.specs.Handlers.{Handlers}
use Rattle.stm_model.specs.declared.cause.Cause.{Cause}
use Rattle.stm_model.specs.declared.cause.Cause.TheVariants.{Memory}
use Rattle.stm_model.specs.declared.ending.Ending.{Ending}
use Rattle.ledger_model.specs.Traced.{Progress}
use Rattle.host_trace.specs.declared.said.Said.{Said}

-- ---- what it does next

-- what it answers to its script
abbrev pub told_answer : Option Next → Option ℕ
told_answer (Some (Reply reply.Ready)) = Some 0
told_answer (Some (Reply (reply.Value value))) = Some value
told_answer (Some (Before token)) = Some 0
told_answer next = None

-- the cause with which it was refused something
abbrev pub told_refusal : Option Next → Option Cause
told_refusal (Some (Reply (reply.Stopped cause))) = Some cause
told_refusal next = None

-- how it ended
abbrev pub told_ending : Option Next → Option Ending
told_ending (Some (Reply (reply.Ended ending))) = Some ending
told_ending next = None

-- it was refused something, out of memory
abbrev pub tells_memory : Option Next → Bool
tells_memory (Some (Reply (reply.Stopped Memory))) = true
tells_memory next = false

-- something is due
abbrev pub tells_due : Option Next → Bool
tells_due (Some (Run phase token)) = true
tells_due (Some (Ring cell)) = true
tells_due next = false

-- the handler that is due
abbrev pub told_run : Option Next → Handlers
told_run (Some (Run phase token)) = (phase, token) ∷ []
told_run next = []

-- ---- what it has said

-- The script has come this far by what was said.
pub record IsTold (said : Said) (now : Progress) : Type 0 where
  pub prints : now.prints ≡ said.prints.items
  pub saved : now.saved ≡ reverse said.saved.items
  pub trail : now.trail ≡ said.trail.items
