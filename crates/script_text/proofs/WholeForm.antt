-- A text that is a job has the form of that job's text.
use Rattle.std.proofs.Common.{◌≡◌, ℕ, ◌+◌, ◌≤◌, List, [], ◌∷◌, ◌++◌, length, map, flat_map, Ok, refl, sym, ap, ◌∙◌, subst, append_assoc, arith, codes}
use Rattle.std.specs.List.{AllByRecursion}
use Rattle.text_lines.specs.Lines.{Row, lines, words}
use Rattle.ledger_model.specs.declared.job.Job.{Job}
use Rattle.ledger_model.specs.declared.script.Script.{Script}
use Rattle.ledger_model.specs.Fits.{JobFits}
use Rattle.script_text.specs.declared.line.Line.{Line}
use Rattle.script_text.specs.declared.line.Line.TheVariants as says
use Rattle.script_text.specs.declared.section.Section.{Section}
use Rattle.script_text.specs.declared.section.Section.TheVariants as section
use Rattle.script_text.specs.Standing.{Standing, rank, start, after}
use Rattle.script_text.specs.JobText.{Remainder, nothing, rest_of, job_with, job_of, lines_said}
use Rattle.script_text.specs.Printing.{opening_line, header_lines, steps_line, head_line, worker_lines, job_lines}
use Rattle.script_text.specs.Form.{FitsOnLine, IsTextOf}
use Rattle.script_text.proofs.SpelledWords.{bind_ok, ok_same}
use Rattle.script_text.proofs.SpelledLines.{line_rows, only, NamesWorker}
use Rattle.script_text.proofs.PlacedLines.{Stands, IsSound, Placed}
use Rattle.script_text.proofs.PlacedRows.{headed, rows_begun}
use Rattle.ledger_model.proofs.Lists.{each_weaker}
use Rattle.script_text.proofs.Follows.{blocks_lines, later_lines, Follows, no_blocks}
use Rattle.script_text.proofs.FollowingLines.{nothing_follows, line_follows, lines_follow}

-- ---- the job

-- a job of so many references, with what stands behind the header
abbrev job_at : ℕ → Remainder → Job
job_at n rest = record { refs = n; maps = 0; snaps = 0; blocks = 0; openings = rest.openings; workers = rest.workers; steps = rest.steps }

-- the place behind the header
abbrev behind : Section → ℕ → Standing
behind come_to n = record start { come_to = come_to; refs = n }

-- The job is within the limits, and these rows behind the head are its lines.
record Whole (job : Job) (rows : List Row) : Type 0 where
  fits : JobFits job
  groups : List (List ℕ)
  sizes : AllByRecursion FitsOnLine groups
  joined : flat_map (λ group. group) groups ≡ job.steps
  rows_are : head_line ∷ rows ≡ job_lines job ++ map steps_line groups

regroup : (h o w x : List Row) → h ++ (o ++ (w ++ x)) ≡ (h ++ (o ++ w)) ++ x
regroup h o w x = ap (λ (r : List Row). h ++ r) (sym (append_assoc o w x)) ∙ sym (append_assoc h (o ++ w) x)

whole : (come_to : Section) (n : ℕ) (rest : Remainder) (rows : List Row) → rank come_to ≤ 3 → n ≤ 65536 → Follows (behind come_to n) rest rows
    → Whole (job_at n rest) (header_lines (codes "refs") n ++ rows)
whole come_to n rest rows r l f = record {
  fits = record {
    refs = l;
    maps = omega arith;
    snaps = omega arith;
    blocks = omega arith;
    openings = f.openings;
    opened = f.opened;
    workers = omega (arith, f.few_workers);
    scripts = f.workers;
    steps = omega (arith, f.steps);
    named = each_weaker (NamesWorker (0 + length rest.workers)) (NamesWorker (length rest.workers)) (λ w k. (k.0, omega (arith, k.1))) rest.steps f.named;
  };
  groups = f.groups;
  sizes = f.sizes;
  joined = f.joined;
  rows_are = ap (λ (r : List Row). head_line ∷ (header_lines (codes "refs") n ++ r)) rows_are
      ∙ ap (λ (r : List Row). head_line ∷ r) (regroup (header_lines (codes "refs") n) (map opening_line rest.openings) (flat_map worker_lines rest.workers) (map steps_line f.groups));
} where
  blocks_are : rest.blocks ≡ []
  blocks_are = no_blocks (only n) [] rest.blocks refl f.blocks

  scripts_are : rest.scripts ≡ []
  scripts_are = f.no_scripts (λ e. omega (arith, r, e))

  rows_are : rows ≡ map opening_line rest.openings ++ (flat_map worker_lines rest.workers ++ map steps_line f.groups)
  rows_are = f.rows_are
      ∙ ap (λ bs. map opening_line rest.openings ++ (blocks_lines bs ++ later_lines rest.scripts rest.workers f.groups)) blocks_are
      ∙ ap (λ (ss : List Script). map opening_line rest.openings ++ later_lines ss rest.workers f.groups) scripts_are

no_header : (rest : Remainder) (rows : List Row) → Follows headed rest rows → Whole (job_with rest) rows
no_header rest rows f =
    subst (λ (job : Job). Whole job rows) (ap (λ (n : ℕ). job_at n rest) (sym f.refs)) (whole section.Head 0 rest rows (omega arith) (omega arith) f)

-- The lines behind the head make a job within the limits with these canonical lines.
lines_whole : (more : List Line) → Placed headed more → Whole (job_with (rest_of more)) (flat_map line_rows more)
lines_whole [] h = no_header nothing [] (nothing_follows headed h.0 h.1)
lines_whole (line ∷ more) h = first line h.1 h.2 h.0 where
  next : (line : Line) → IsSound headed → Stands headed line → Placed (after headed line) more → 2 ≤ rank (after headed line).come_to → Follows (after headed line) (rest_of more) (flat_map line_rows more)
  next line s h k l = lines_follow more (after headed line) l k

  first : (line : Line) → Stands headed line → Placed (after headed line) more → IsSound headed → Whole (job_with (rest_of (line ∷ more))) (flat_map line_rows (line ∷ more))
  first says.Head h k s = absurd h
  first (says.Refs n) h k s =
      whole section.Refs n (rest_of more) (flat_map line_rows more) (omega arith) h.1 (next (says.Refs n) s h k (omega arith))
  first (says.Opening cell n) h k s = absurd (omega (arith, h.2))
  first says.Worker h k s = no_header (rest_of (says.Worker ∷ more)) (flat_map line_rows (says.Worker ∷ more)) (line_follows headed says.Worker (rest_of more) (flat_map line_rows more) tt s h (next says.Worker s h k (omega arith)))
  first says.Script h k s = absurd (omega (arith, h.1))
  first says.End h k s = cc
  first (says.Inner r) h k s = absurd (omega (arith, h.0))
  first says.Either h k s = absurd (omega (arith, h.0))
  first says.Or h k s = cc
  first says.Late h k s = absurd (omega (arith, h.0))
  first (says.Steps numbers) h k s = no_header (rest_of (says.Steps numbers ∷ more)) (flat_map line_rows (says.Steps numbers ∷ more)) (line_follows headed (says.Steps numbers) (rest_of more) (flat_map line_rows more) tt s h (next (says.Steps numbers) s h k (omega arith)))
  first (says.Plain m) h k s = absurd (omega (arith, h.0))

-- ---- the text

pub text_of_job : (text : List ℕ) (job : Job) → job_of text ≡ Ok job → IsTextOf text job
text_of_job text job h =
    let b = bind_ok (lines_said start 1 (map words (lines text))) (λ said. Ok (job_with (rest_of said))) job h in
    let r = rows_begun (map words (lines text)) 1 b.0 b.1 in
    let w = lines_whole r.more r.placed in
    subst (IsTextOf text) (ap (λ (said : List Line). job_with (rest_of said)) r.are ∙ ok_same (job_with (rest_of b.0)) job b.2) (record {
      fits = w.fits;
      built = record { maps = refl; snaps = refl; blocks = refl };
      groups = w.groups;
      sizes = w.sizes;
      steps_are = w.joined;
      lines_are = r.kept_are ∙ w.rows_are;
    })
