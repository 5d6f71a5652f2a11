-- The lines of a job, put part by part.
use Rattle.std.proofs.Common.{◌≡◌, ◌<◌, ℕ, zero, suc, Bool, true, false, List, [], ◌∷◌, ◌++◌, codes, decimal, drop, flat_map, length, map, min, take, refl, sym, ap, ◌∙◌, append_assoc, arith, inl, inr}
use Rattle.std.proofs.lemmas.Bool.{cases_lt}
use Rattle.std.proofs.lemmas.List.{append-nil, drop_all, take_all}
use Rattle.std.specs.List.{onto_first}
use Rattle.text_lines.specs.Lines.{Row, line_of, text_of, spaced}
use Rattle.text_lines.proofs.PutLemmas.{rows_put, text_of-one}
use Rattle.ledger_model.specs.declared.job.Job.{Job}
use Rattle.ledger_model.specs.declared.script.Script.{Script}
use Rattle.ledger_model.specs.declared.script.Statement.{Statement}
use Rattle.script_text.specs.Printing.{block_lines, canonical, end_line, head_line, header_lines, in_groups, job_lines, opening_line, parts_lines, statement_lines, steps_line, steps_lines, worker_lines}

-- ---- parts

-- the lines of further parts, an `or` in front of each
abbrev pub further_lines : List (List Statement) → List Row
further_lines [] = []
further_lines (part ∷ parts) = (codes "or" ∷ []) ∷ (block_lines part ++ further_lines parts)

-- the lines of the parts that are left, where the first of them is the first of all or a further one
abbrev pub parts_left : Bool → List (List Statement) → List Row
parts_left true [] = []
parts_left true (part ∷ parts) = block_lines part ++ further_lines parts
parts_left false parts = further_lines parts

pub all_parts : (parts : List (List Statement)) → parts_left true parts ≡ parts_lines (map (map statement_lines) parts)
all_parts [] = refl
all_parts (part ∷ []) = append-nil (block_lines part)
all_parts (part ∷ next ∷ parts) = ap (λ (rows : List Row). block_lines part ++ ((codes "or" ∷ []) ∷ rows)) (tail_same next parts) where
  tail_same : (next : List Statement) (parts : List (List Statement)) → block_lines next ++ further_lines parts ≡ parts_lines (map (map statement_lines) (next ∷ parts))
  tail_same next [] = append-nil (block_lines next)
  tail_same next (more ∷ parts) = ap (λ (rows : List Row). block_lines next ++ ((codes "or" ∷ []) ∷ rows)) (tail_same more parts)

none_left : (first : Bool) → text_of (parts_left first []) ≡ []
none_left true = refl
none_left false = refl

-- where all parts are put, the `end` stands behind them
pub parts_put : (old put new : List ℕ) (first : Bool) (left parts : List (List Statement)) → left ≡ [] → put ++ text_of (parts_left first left) ≡ old ++ text_of (parts_left true parts)
    → new ≡ put ++ line_of end_line → new ≡ old ++ text_of (parts_lines (map (map statement_lines) parts) ++ end_line ∷ [])
parts_put old put new first left parts none is last =
    let nothing : text_of (parts_left first left) ≡ [] = ap (λ (some : List (List Statement)). text_of (parts_left first some)) none ∙ none_left first in
    let all : put ≡ old ++ text_of (parts_lines (map (map statement_lines) parts)) =
    sym (append-nil put) ∙ ap (λ (t : List ℕ). put ++ t) (sym nothing) ∙ is ∙ ap (λ (rows : List Row). old ++ text_of rows) (all_parts parts) in
    rows_put old put new (parts_lines (map (map statement_lines) parts)) (end_line ∷ []) all (last ∙ ap (λ (t : List ℕ). put ++ t) (sym (text_of-one end_line)))

-- ---- steps

-- the first group has so many numbers, or all
groups_cut : (room n : ℕ) (more : List ℕ) → in_groups (suc room) (n ∷ more) ≡ take (suc room) (n ∷ more) ∷ in_groups 32 (drop (suc room) (n ∷ more))
groups_cut zero n [] = refl
groups_cut (suc room) n [] = refl
groups_cut zero n (next ∷ more) = refl
groups_cut (suc room) n (next ∷ more) = ap (λ (groups : List (List ℕ)). onto_first n groups) (groups_cut room next more)

-- a cut behind the last element is one at the end
cut_same : (xs : List ℕ) (k most : ℕ) → k ≡ min (length xs) most → (take k xs ≡ take most xs) × (drop k xs ≡ drop most xs)
cut_same xs k most is = elim (cases_lt most (length xs)) [
  | inl more ↦ let same : k ≡ most = omega (arith, is) in (ap (λ (n : ℕ). take n xs) same, ap (λ (n : ℕ). drop n xs) same)
  | inr fewer ↦ let same : k ≡ length xs = omega (arith, is) in
      (take_all k xs (omega arith) ∙ sym (take_all most xs fewer), drop_all k xs (omega arith) ∙ sym (drop_all most xs fewer))
]

-- where no number is left, all are put
pub numbers_put : (put all left : List ℕ) → left ≡ [] → put ++ spaced (map decimal left) ≡ all → put ≡ all
numbers_put put all left none is = sym (append-nil put) ∙ ap (λ (some : List ℕ). put ++ spaced (map decimal some)) (sym none) ∙ is

-- the first line of steps has 32 of them, or all
pub steps_cut : (steps : List ℕ) (k : ℕ) → 0 < length steps → k ≡ min (length steps) 32 → steps_lines steps ≡ steps_line (take k steps) ∷ steps_lines (drop k steps)
steps_cut [] k some is = absurd (omega arith)
steps_cut (n ∷ more) k some is =
    let cut = cut_same (n ∷ more) k 32 is in
    ap (λ (groups : List (List ℕ)). map steps_line groups) (groups_cut 31 n more)
    ∙ ap (λ (line : List ℕ). steps_line line ∷ steps_lines (drop 32 (n ∷ more))) (sym cut.0)
    ∙ ap (λ (rest : List ℕ). steps_line (take k (n ∷ more)) ∷ steps_lines rest) (sym cut.1)

-- where a line of steps is put, the others are left
pub steps_put : (old new all : List ℕ) (steps line rest : List ℕ) (k : ℕ) → 0 < length steps → k ≡ min (length steps) 32 → line ≡ take k steps → rest ≡ drop k steps
    → new ≡ old ++ line_of (steps_line line) → old ++ text_of (steps_lines steps) ≡ all → new ++ text_of (steps_lines rest) ≡ all
steps_put old new all steps line rest k some is front back put left =
    let cut : steps_lines steps ≡ steps_line line ∷ steps_lines rest =
    steps_cut steps k some is ∙ ap (λ (numbers : List ℕ). steps_line numbers ∷ steps_lines (drop k steps)) (sym front) ∙ ap (λ (numbers : List ℕ). steps_line line ∷ steps_lines numbers) (sym back) in
    ap (λ (t : List ℕ). t ++ text_of (steps_lines rest)) put
    ∙ append_assoc old (line_of (steps_line line)) (text_of (steps_lines rest))
    ∙ ap (λ (lines : List Row). old ++ text_of lines) (sym cut) ∙ left

-- ---- the whole

-- the texts before the first line and after each part
pub job_put : (nothing head refs maps snaps blocks openings workers steps : List ℕ) (job : Job) (opened : List (ℕ × ℕ)) (scripts : List (List Script)) (numbers : List ℕ)
    → nothing ≡ [] → head ≡ nothing ++ codes "stm 1\n" → refs ≡ head ++ text_of (header_lines (codes "refs") job.refs) → maps ≡ refs ++ text_of (header_lines (codes "maps") job.maps)
    → snaps ≡ maps ++ text_of (header_lines (codes "snaps") job.snaps) → blocks ≡ snaps ++ text_of (header_lines (codes "blocks") job.blocks)
    → openings ≡ blocks ++ text_of (map opening_line opened) → workers ≡ openings ++ text_of (flat_map worker_lines scripts) → steps ≡ workers ++ text_of (steps_lines numbers)
    → opened ≡ job.openings → scripts ≡ job.workers → numbers ≡ job.steps → steps ≡ canonical job
job_put nothing head refs maps snaps blocks openings workers steps job opened scripts numbers e0 e1 e2 e3 e4 e5 e6 e7 e8 is_opened are_scripts are_numbers =
    let from_openings = rows_put blocks openings workers (map opening_line opened) (flat_map worker_lines scripts) e6 e7 in
    let from_blocks = rows_put snaps blocks workers (header_lines (codes "blocks") job.blocks) _ e5 from_openings in
    let from_snaps = rows_put maps snaps workers (header_lines (codes "snaps") job.snaps) _ e4 from_blocks in
    let from_maps = rows_put refs maps workers (header_lines (codes "maps") job.maps) _ e3 from_snaps in
    let from_refs = rows_put head refs workers (header_lines (codes "refs") job.refs) _ e2 from_maps in
    let first : head ≡ [] ++ text_of (head_line ∷ []) = e1 ∙ ap (λ (t : List ℕ). t ++ codes "stm 1\n") e0 in
    let from_head = rows_put [] head workers (head_line ∷ []) _ first from_refs in
    rows_put [] workers steps (job_lines (record job { openings = opened; workers = scripts })) (steps_lines numbers) from_head e8
    ∙ ap (λ (some : List (ℕ × ℕ)). canonical (record job { openings = some; workers = scripts; steps = numbers })) is_opened
    ∙ ap (λ (some : List (List Script)). canonical (record job { workers = some; steps = numbers })) are_scripts
    ∙ ap (λ (some : List ℕ). canonical (record job { steps = some })) are_numbers
