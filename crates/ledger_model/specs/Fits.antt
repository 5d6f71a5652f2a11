-- Which jobs are within the limits.
use Rattle.std.specs.Prelude.{ℕ, zero, suc, ◌+◌, ◌^◌, ◌<◌, ◌≤◌, Bool, true, false, ◌&&◌, nat_lt, nat_le, IsTrue, List, [], ◌∷◌, length, map}
use Rattle.std.specs.List.{AllByRecursion}
use Rattle.ledger_model.specs.Limits.{most_refs, most_maps, most_slots, most_blocks, most_workers, most_scripts, most_steps, most_depth, registers, most_code}
use Rattle.ledger_model.specs.declared.job.Job.{Job}
use Rattle.ledger_model.specs.declared.script.Script.{Script}
use Rattle.ledger_model.specs.declared.script.Operand.{Operand}
use Rattle.ledger_model.specs.declared.script.Operand.TheVariants.{Reg, Number}
use Rattle.ledger_model.specs.declared.script.Statement.{Statement}
use Rattle.ledger_model.specs.declared.script.Statement.TheOpen.{Statement-F, Const, Read, Write, Add, Sub, Print, Check, Need, Move, Inner, Either, Late, Hook, Put, Del, Look, LookSlot, Snap, Share}
use Rattle.ledger_model.specs.declared.script.Statement.TheFolds.{fold-Statement}

abbrev pub is_register : ℕ → Bool
is_register r = nat_lt r registers

-- a number of 64 bits
abbrev pub fits_word : ℕ → Bool
fits_word n = nat_lt n (2 ^ 64)

abbrev pub is_code : ℕ → Bool
is_code code = nat_le 1 code && nat_le code most_code

abbrev pub operand_fits : Operand → Bool
operand_fits (Reg r) = is_register r
operand_fits (Number n) = fits_word n

-- what there is, for scripts to name
pub record Places : Type 0 where
  pub refs : ℕ
  pub maps : ℕ
  pub snaps : ℕ

-- whether each is true, with so many levels left
abbrev pub each_fits : ℕ → List (ℕ → Bool) → Bool
each_fits left [] = true
each_fits left (fits ∷ more) = fits left && each_fits left more

abbrev pub each_part_fits : ℕ → List (List (ℕ → Bool)) → Bool
each_part_fits left [] = true
each_part_fits left (part ∷ parts) = each_fits left part && each_part_fits left parts

-- one level deeper, where one is left
abbrev pub nests : ℕ → (ℕ → Bool) → Bool
nests zero inside = false
nests (suc left) inside = inside left

-- Registers and numbers are in range, what is named is there, and blocks nest at most so deep.
abbrev pub fits_step : Places → Statement-F (ℕ → Bool) → ℕ → Bool
fits_step p (Const r n) left = is_register r && fits_word n
fits_step p (Read r cell) left = is_register r && nat_lt cell p.refs
fits_step p (Write cell x) left = nat_lt cell p.refs && operand_fits x
fits_step p (Add r x) left = is_register r && operand_fits x
fits_step p (Sub r x) left = is_register r && operand_fits x
fits_step p (Print x) left = operand_fits x
fits_step p (Check x y code) left = operand_fits x && operand_fits y && is_code code
fits_step p (Need x y) left = operand_fits x && operand_fits y
fits_step p (Move from into x) left = nat_lt from p.refs && nat_lt into p.refs && operand_fits x
fits_step p (Inner r block) left = is_register r && nests left (λ inside. each_fits inside block)
fits_step p (Either parts) left = nat_le 2 (length parts) && nests left (λ inside. each_part_fits inside parts)
fits_step p (Late block) left = nests left (λ inside. each_fits inside block)
fits_step p (Hook phase token) left = fits_word token
fits_step p (Put m x y) left = nat_lt m p.maps && operand_fits x && operand_fits y
fits_step p (Del m x) left = nat_lt m p.maps && operand_fits x
fits_step p (Look r m x y) left = is_register r && nat_lt m p.maps && operand_fits x && operand_fits y
fits_step p (LookSlot r k x y) left = is_register r && nat_lt k p.snaps && operand_fits x && operand_fits y
fits_step p (Snap k m) left = nat_lt k p.snaps && nat_lt m p.maps
fits_step p (Share from into) left = nat_lt from p.maps && nat_lt into p.maps

abbrev pub fits : Places → Statement → ℕ → Bool
fits p = fold-Statement (ℕ → Bool) (fits_step p)

-- the statements of a block, with so many levels left
abbrev pub block_fits : Places → ℕ → List Statement → Bool
block_fits p left block = each_fits left (map (fits p) block)

-- Blocks nest no deeper than they may.
abbrev pub ScriptFits : Places → Script → Type 0
ScriptFits p script = IsTrue (block_fits p most_depth script.block)

-- references that are there, in ascending order from `next` on, with their values
abbrev pub OpeningsAscend : ℕ → ℕ → List (ℕ × ℕ) → Type 0
OpeningsAscend refs next [] = Unit {0}
OpeningsAscend refs next (opening ∷ openings) =
    (next ≤ opening.0) × (opening.0 < refs) × (opening.1 < 2 ^ 64) × OpeningsAscend refs (opening.0 + 1) openings

abbrev pub WorkerFits : Places → List Script → Type 0
WorkerFits p scripts = (length scripts ≤ most_scripts) × AllByRecursion (ScriptFits p) scripts

abbrev pub places : Job → Places
places job = record { refs = job.refs; maps = job.maps; snaps = job.snaps }

-- the job is within the limits
pub record JobFits (job : Job) : Type 0 where
  pub refs : job.refs ≤ most_refs
  pub maps : job.maps ≤ most_maps
  pub snaps : job.snaps ≤ most_slots
  pub blocks : job.blocks ≤ most_blocks
  pub openings : OpeningsAscend job.refs 0 job.openings
  pub opened : AllByRecursion (λ opening. 0 < opening.1) job.openings
  pub workers : length job.workers ≤ most_workers
  pub scripts : AllByRecursion (WorkerFits (places job)) job.workers
  pub steps : length job.steps ≤ most_steps
  pub named : AllByRecursion (λ worker. (1 ≤ worker) × (worker ≤ length job.workers)) job.steps
