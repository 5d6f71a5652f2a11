-- A text has a line for each statement of each script of its job.
use Rattle.std.proofs.Common.{◌≡◌, ◌≤◌, ◌+◌, ◌^◌, max, ℕ, Ok, Bool, true, false, not, ◌||◌, cond, List, [], ◌∷◌, ◌++◌, codes, length, length-append, map, flat_map, sym, ap, subst, arith}
use Rattle.std.specs.Prelude.{sum, sum_by}
use Rattle.std.specs.List.{AllByRecursion, onto_first}
use Rattle.std.proofs.lemmas.List.{length-map}
use Rattle.std.proofs.lemmas.List.Sums.{count_by-le-length, length-filter, sum_by-cons}
use Rattle.text_lines.specs.Lines.{Row, is_feed, lines, words}
use Rattle.text_lines.specs.Numbers.{plain_word}
use Rattle.stm_model.specs.declared.settings.Settings.{Settings}
use Rattle.ledger_model.specs.declared.job.Job.{Job}
use Rattle.ledger_model.specs.declared.script.Script.{Script}
use Rattle.ledger_model.specs.declared.script.Statement.{Statement}
use Rattle.ledger_model.specs.declared.script.Statement.TheOpen.{Statement-F}
use Rattle.ledger_model.specs.declared.script.Statement.TheOpen as layer
use Rattle.ledger_model.specs.declared.script.Statement.TheFolds.{map-Statement, fold-roll-Statement, ind-Statement}
use Rattle.ledger_model.specs.declared.script.Statement.TheViews.{roll-Statement}
use Rattle.ledger_model.specs.Run.{count_step, statement_count}
use Rattle.ledger_model.specs.Traced.{MayBeTraced}
use Rattle.ledger_model.proofs.Carried.{size}
use Rattle.script_text.specs.JobText.{is_skipped, job_of}
use Rattle.script_text.specs.Printing.{block_lines, end_line, header_lines, job_lines, joined, opening_line, parts_lines, register_word, script_lines, statement_lines, statement_step, steps_line, worker_lines}
use Rattle.script_text.specs.Form.{IsTextOf, says_zero, spelled}
use Rattle.ledger_model.proofs.Lists.{each_weaker}
use Rattle.script_text.proofs.WholeForm.{text_of_job}

-- ---- a statement has as many lines as it has statements, or more

-- a list that has one of these in it is as long
behind : {X : Type 0} (n : ℕ) (xs ys : List X) → n ≤ length ys → n ≤ length (xs ++ ys)
behind n xs ys h = let l = length-append xs ys in omega (arith, l, h)

before : {X : Type 0} (n : ℕ) (xs ys : List X) → n ≤ length xs → n ≤ length (xs ++ ys)
before n xs ys h = let l = length-append xs ys in omega (arith, l, h)

both : {X : Type 0} (m n : ℕ) (xs ys : List X) → m ≤ length xs → n ≤ length ys → m + n ≤ length (xs ++ ys)
both m n xs ys h k = let l = length-append xs ys in omega (arith, l, h, k)

abbrev HasLines : Statement → Type 0
HasLines m = size m ≤ length (statement_lines m)

abbrev One : Type 0
One = (m : Statement) × HasLines m

abbrev plain : One → Statement
plain it = it.0

inside : (ones : List One) → sum (map size (map plain ones)) ≤ length (joined (map statement_lines (map plain ones)))
inside [] = omega arith
inside (it ∷ ones) =
    let c = sum_by-cons (λ (n : ℕ). n) (size it.0) (map size (map plain ones)) in
    let l = both (size it.0) (sum (map size (map plain ones))) (statement_lines it.0) (joined (map statement_lines (map plain ones))) it.1 (inside ones) in
    omega (arith, c, l)

in_parts : (parts : List (List One)) → sum_by sum (map (map size) (map (map plain) parts)) ≤ length (parts_lines (map (map statement_lines) (map (map plain) parts)))
in_parts [] = omega arith
in_parts (part ∷ []) =
    let c = sum_by-cons sum (map size (map plain part)) [] in
    let l = inside part in omega (arith, c, l)
in_parts (part ∷ next ∷ parts) =
    let c = sum_by-cons sum (map size (map plain part)) (map (map size) (map (map plain) (next ∷ parts))) in
    let l = inside part in
    let k = in_parts (next ∷ parts) in
    let a = length-append (joined (map statement_lines (map plain part))) ((codes "or" ∷ []) ∷ parts_lines (map (map statement_lines) (map (map plain) (next ∷ parts)))) in
    omega (arith, c, l, k, a)

enclosed : (n : ℕ) (first : Row) (rows : List Row) → n ≤ length rows → 1 + n ≤ length (first ∷ (rows ++ end_line ∷ []))
enclosed n first rows h = let l = length-append rows (end_line ∷ []) in omega (arith, l, h)

layers : (y : Statement-F One)
    → count_step (map-Statement Statement ℕ size (map-Statement One Statement plain y)) ≤ length (statement_step (map-Statement Statement (List Row) statement_lines (map-Statement One Statement plain y)))
layers (layer.Inner r block) = enclosed (sum (map size (map plain block))) (codes "inner" ∷ register_word r ∷ []) (joined (map statement_lines (map plain block))) (inside block)
layers (layer.Either parts) = enclosed (sum_by sum (map (map size) (map (map plain) parts))) (codes "either" ∷ []) (parts_lines (map (map statement_lines) (map (map plain) parts))) (in_parts parts)
layers (layer.Late block) = enclosed (sum (map size (map plain block))) (codes "late" ∷ []) (joined (map statement_lines (map plain block))) (inside block)
layers _ = omega arith

statement_has_lines : (m : Statement) → HasLines m
statement_has_lines = ind-Statement HasLines (λ x y are.
    let h : count_step (map-Statement Statement ℕ size x) ≤ length (statement_step (map-Statement Statement (List Row) statement_lines x)) =
    subst (λ (z : Statement-F Statement). count_step (map-Statement Statement ℕ size z) ≤ length (statement_step (map-Statement Statement (List Row) statement_lines z))) are (layers y) in
    let counted : size (roll-Statement x) ≤ length (statement_step (map-Statement Statement (List Row) statement_lines x)) =
    subst (λ (n : ℕ). n ≤ length (statement_step (map-Statement Statement (List Row) statement_lines x))) (sym (fold-roll-Statement ℕ count_step x)) h in
    subst (λ (rows : List Row). size (roll-Statement x) ≤ length rows) (sym (fold-roll-Statement (List Row) statement_step x)) counted)

block_has_lines : (block : List Statement) → statement_count block ≤ length (block_lines block)
block_has_lines [] = omega arith
block_has_lines (m ∷ block) =
    let c = sum_by-cons size m block in
    let l = both (size m) (statement_count block) (statement_lines m) (block_lines block) (statement_has_lines m) (block_has_lines block) in
    omega (arith, c, l)

-- ---- so has each script of a job

abbrev HasAtMost : ℕ → Script → Type 0
HasAtMost n script = statement_count script.block ≤ n

script_within : (n : ℕ) (script : Script) → length (script_lines script) ≤ n → HasAtMost n script
script_within n script h =
    let b = block_has_lines script.block in
    let l = length-append (block_lines script.block) (end_line ∷ []) in omega (arith, b, l, h)

scripts_within : (n : ℕ) (scripts : List Script) → length (flat_map script_lines scripts) ≤ n → AllByRecursion (HasAtMost n) scripts
scripts_within n [] h = tt
scripts_within n (script ∷ scripts) h =
    let l = length-append (script_lines script) (flat_map script_lines scripts) in
    (script_within n script (omega (arith, l, h)), scripts_within n scripts (omega (arith, l, h)))

workers_within : (n : ℕ) (workers : List (List Script)) → length (flat_map worker_lines workers) ≤ n → AllByRecursion (λ scripts. AllByRecursion (HasAtMost n) scripts) workers
workers_within n [] h = tt
workers_within n (scripts ∷ workers) h =
    let l = length-append (worker_lines scripts) (flat_map worker_lines workers) in
    (scripts_within n scripts (omega (arith, l, h)), workers_within n workers (omega (arith, l, h)))

-- ---- a text has no more lines than bytes

onto_first_line : (b : ℕ) (rows : List (List ℕ)) → length (onto_first b rows) ≤ 1 + length rows
onto_first_line b [] = omega arith
onto_first_line b (row ∷ rows) = omega arith

few_lines : (text : List ℕ) → length (lines text) ≤ length text
few_lines [] = omega arith
few_lines (b ∷ text) = at (is_feed b) (few_lines text) where
  at : (feed : Bool) → length (lines text) ≤ length text → length (cond feed ([] ∷ lines text) (onto_first b (lines text))) ≤ length (b ∷ text)
  at true l = omega (arith, l)
  at false l = let k = onto_first_line b (lines text) in omega (arith, l, k)

few_spelled : (rows : List Row) → length (spelled rows) ≤ length rows
few_spelled rows =
    let p : Row → Bool = λ row. not (is_skipped row || says_zero row) in
    let c = count_by-le-length p (map (map plain_word) rows) in
    let f = length-filter p (map (map plain_word) rows) in
    let m = length-map rows (map plain_word) in omega (arith, c, f, m)

-- ---- the text of a job

worker_lines_last : (job : Job) → length (flat_map worker_lines job.workers) ≤ length (job_lines job)
worker_lines_last job =
    let ws : List Row = flat_map worker_lines job.workers in
    let l = behind (length ws) (header_lines (codes "refs") job.refs) _
    (behind (length ws) (header_lines (codes "maps") job.maps) _
    (behind (length ws) (header_lines (codes "snaps") job.snaps) _
    (behind (length ws) (header_lines (codes "blocks") job.blocks) _
    (behind (length ws) (map opening_line job.openings) ws (omega arith))))) in omega (arith, l)

pub few_statements : (text : List ℕ) (job : Job) → IsTextOf text job → AllByRecursion (λ scripts. AllByRecursion (λ script. statement_count script.block ≤ length text) scripts) job.workers
few_statements text job is =
    let w = worker_lines_last job in
    let a = before (length (job_lines job)) (job_lines job) (map steps_line is.groups) (omega arith) in
    let e = ap (λ (rows : List Row). length rows) is.lines_are in
    let s = few_spelled (map words (lines text)) in
    let m = length-map (lines text) words in
    let l = few_lines text in
    workers_within (length text) job.workers (omega (arith, w, a, e, s, m, l))

-- ---- such a job may be traced

-- a job that a text of at most 2 ^ 32 bytes is
pub may_be_traced : (text : List ℕ) (job : Job) (settings : Settings) → job_of text ≡ Ok job → length text ≤ 2 ^ 32 → settings.callers ≡ max (length job.workers) 1 → MayBeTraced job settings
may_be_traced text job settings is few callers =
    let whole = text_of_job text job is in
    record {
      fits = whole.fits;
      maps = whole.built.maps;
      snaps = whole.built.snaps;
      statements = each_weaker (AllByRecursion (HasAtMost (length text))) (AllByRecursion (HasAtMost (2 ^ 32)))
          (each_weaker (HasAtMost (length text)) (HasAtMost (2 ^ 32)) (λ script h. omega (arith, h, few))) job.workers (few_statements text job whole);
      callers = callers;
    }
