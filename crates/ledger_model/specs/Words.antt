-- The numbers of contents and of runs are words of 64 bits.
use Rattle.std.specs.Prelude.{ℕ, ◌^◌, ◌<◌, List}
use Rattle.std.specs.List.{AllByRecursion}
use Rattle.stm_model.specs.declared.cause.HookPhase.{HookPhase}
use Rattle.ledger_model.specs.declared.job.Contents.{Contents}
use Rattle.ledger_model.specs.Run.{State}

abbrev pub IsWord : ℕ → Type 0
IsWord n = n < 2 ^ 64

abbrev pub ArePairsOfWords : List (ℕ × ℕ) → Type 0
ArePairsOfWords pairs = AllByRecursion (λ pair. IsWord pair.0 × IsWord pair.1) pairs

-- Each reference has a word, and each map and slot has words for keys and values.
pub record HoldsWords (contents : Contents) : Type 0 where
  pub refs : AllByRecursion IsWord contents.refs
  pub maps : AllByRecursion ArePairsOfWords contents.maps
  pub slots : AllByRecursion ArePairsOfWords contents.slots

-- the tokens of handlers
abbrev pub HaveWords : List (HookPhase × ℕ) → Type 0
HaveWords hooks = AllByRecursion (λ hook. IsWord hook.1) hooks

-- All that a run holds, prints and registers are words.
pub record RunsOnWords (s : State) : Type 0 where
  pub registers : AllByRecursion IsWord s.registers
  pub contents : HoldsWords s.contents
  pub prints : AllByRecursion IsWord s.prints
  pub trail : AllByRecursion IsWord s.trail
  pub hooks : HaveWords s.hooks
  pub runs : HaveWords s.runs
