-- What the text of a job looks like.
use Rattle.std.specs.Prelude.{◌≡◌, ℕ, Bool, false, not, ◌&&◌, ◌||◌, nat_eq, ◌≤◌, List, [], ◌∷◌, ◌++◌, length, map, flat_map, filter, codes, bytes_eq}
use Rattle.std.specs.List.{AllByRecursion}
use Rattle.text_lines.specs.Lines.{Row, lines, words}
use Rattle.text_lines.specs.Numbers.{plain_word}
use Rattle.ledger_model.specs.declared.job.Job.{Job}
use Rattle.ledger_model.specs.Fits.{JobFits}
use Rattle.ledger_model.specs.Limits.{most_steps_on_line}
use Rattle.script_text.specs.JobText.{is_skipped}
use Rattle.script_text.specs.Printing.{job_lines, steps_line}

-- no form that the reader refuses as unbuilt: there are no maps, no snapshot slots and no blocks
pub record IsBuilt (job : Job) : Type 0 where
  pub maps : job.maps ≡ 0
  pub snaps : job.snaps ≡ 0
  pub blocks : job.blocks ≡ 0

-- the word is the row's first one
abbrev pub begins_with : List ℕ → Row → Bool
begins_with word [] = false
begins_with word (first ∷ args) = bytes_eq first word

-- the row's last word is `0`
abbrev pub ends_with_zero : Row → Bool
ends_with_zero [] = false
ends_with_zero (last ∷ []) = bytes_eq last (codes "0")
ends_with_zero (word ∷ next ∷ more) = ends_with_zero (next ∷ more)

-- a header of 0, as `refs 0`, or an opening of 0, as `ref 5 0`: it says what its absence says
abbrev pub says_zero : Row → Bool
says_zero row = ((begins_with (codes "refs") row && nat_eq (length row) 2) || (begins_with (codes "ref") row && nat_eq (length row) 3)) && ends_with_zero row

-- the rows that count, with numbers in canonical decimal
abbrev pub spelled : List Row → List Row
spelled rows = filter (λ row. not (is_skipped row || says_zero row)) (map (map plain_word) rows)

-- as many numbers as may stand on a line of steps, and at least one
abbrev pub FitsOnLine : List ℕ → Type 0
FitsOnLine group = (1 ≤ length group) × (length group ≤ most_steps_on_line)

-- The text is that of a job within the limits. With numbers in canonical decimal, and without what says nothing, its lines are the job's canonical ones; only how many numbers stand on a line of steps is its own.
pub record IsTextOf (text : List ℕ) (job : Job) : Type 0 where
  pub fits : JobFits job
  pub built : IsBuilt job
  -- the numbers of each line of steps
  pub groups : List (List ℕ)
  pub sizes : AllByRecursion FitsOnLine groups
  pub steps_are : flat_map (λ group. group) groups ≡ job.steps
  pub lines_are : spelled (map words (lines text)) ≡ job_lines job ++ map steps_line groups
