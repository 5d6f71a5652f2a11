-- The lines of a job's canonical text say this job.
use Rattle.std.proofs.Common.{◌≡◌, ℕ, zero, suc, ◌<◌, ◌≤◌, ◌+◌, ◌^◌, Bool, false, cond, nat_eq, nat_lt, List, [], ◌∷◌, ◌++◌, map, flat_map, length, None, Result, Ok, Err, refl, sym, ap, subst, ◌∙◌, append_assoc, length-append, arith, codes, decimal}
use Rattle.std.proofs.lemmas.Bool.Decides.{nat_tests}
use Rattle.std.proofs.lemmas.List.{length-map}
use Rattle.std.specs.List.{AllByRecursion, onto_first}
use Rattle.text_lines.specs.Lines.{Row, AreWords, text_of}
use Rattle.text_lines.proofs.LineLemmas.{words_come_back}
use Rattle.text_lines.proofs.NumberLemmas.{number_of-decimal}
use Rattle.ledger_model.specs.declared.job.Job.{Job}
use Rattle.ledger_model.specs.declared.reason.Reason.{Reason}
use Rattle.ledger_model.specs.declared.reason.Reason.TheVariants.{Unbuilt, Order, Depth, Many}
use Rattle.ledger_model.specs.declared.script.Script.{Script}
use Rattle.ledger_model.specs.Fits.{Places, ScriptFits, WorkerFits, OpeningsAscend, places, JobFits}
use Rattle.script_text.specs.declared.keyword.Keyword.TheVariants as key
use Rattle.script_text.specs.declared.line.Line.{Line}
use Rattle.script_text.specs.declared.line.Line.TheVariants as says
use Rattle.script_text.specs.declared.section.Section.{Section}
use Rattle.script_text.specs.declared.section.Section.TheVariants as section
use Rattle.script_text.specs.Words.{◌>>=◌, number, below}
use Rattle.script_text.specs.Line.{said, workers_of}
use Rattle.script_text.specs.Standing.{Opener, OfScript, start, rank, misplaced, first_of}
use Rattle.script_text.specs.JobText.{Remainder, rest_of, lines_said, job_with, job_of}
use Rattle.script_text.specs.Printing.{end_line, block_lines, script_lines, worker_lines, opening_line, header_lines, in_groups, steps_line, head_line, job_lines, canonical}
use Rattle.script_text.specs.Form.{FitsOnLine, IsBuilt, IsTextOf}
use Rattle.script_text.proofs.SpelledWords.{ok_same}
use Rattle.script_text.proofs.ReadAgain.{Comes, comes_joined, comes_first, comes_by_keyword}
use Rattle.script_text.proofs.WordsAgain.{lt_true, lt_false, le_false, eq_false, says_number, says_below, says_from_one, one_says, two_say}
use Rattle.script_text.proofs.StatementsAgain.{Counts, at, without_maps, block_again, statements_again, end_again, deeper}

-- what stands from some line on that is outside of blocks
abbrev pub left_over : ℕ → List (ℕ × ℕ) → List Script → List (List Script) → List ℕ → Remainder
left_over refs openings scripts workers steps = record { refs = refs; openings = openings; blocks = []; scripts = scripts; workers = workers; steps = steps }

-- ---- scripts and workers

abbrev counts : ℕ → ℕ → ℕ → ℕ → ℕ → Counts
counts refs next workers scripts steps = record { refs = refs; next = next; workers = workers; scripts = scripts; steps = steps }

script_again : (refs next workers scripts : ℕ) (script : Script) → refs ≤ 65536 → scripts < 4096 → ScriptFits (without_maps refs) script
    → (more : List Row) (rest : Remainder) → Comes (at section.Workers (counts refs next workers (scripts + 1) 0) []) more rest
    → Comes (at section.Workers (counts refs next workers scripts 0) []) (script_lines script ++ more) (record rest { scripts = script ∷ rest.scripts })
script_again refs next workers scripts script l m f more rest h =
    let k = counts refs next workers (scripts + 1) 0 in
    let o : List Opener = OfScript ∷ [] in
    let inside = block_again refs script.block (statements_again refs l script.block) k o 32 (deeper refs k OfScript [] refl) refl f [] rest.blocks (end_line ∷ more) rest (end_again k OfScript [] more rest refl h) in
    comes_by_keyword (at section.Workers (counts refs next workers scripts 0) []) (codes "script") [] key.Script says.Script ((block_lines script.block ++ end_line ∷ []) ++ more)
    (record rest { blocks = (script.block, []) ∷ rest.blocks }) refl refl refl refl tt
    (ap (λ (b : Bool). first_of ((false, Unbuilt) ∷ (false, Order) ∷ (false, Depth) ∷ (b, Many) ∷ [])) (le_false 4096 scripts m)) refl
    (comes_joined (at section.Workers k o) (block_lines script.block) (end_line ∷ []) more (record rest { blocks = (script.block, []) ∷ rest.blocks }) inside)

scripts_again : (refs next workers scripts : ℕ) (xs : List Script) → refs ≤ 65536 → scripts + length xs ≤ 4096 → AllByRecursion (ScriptFits (without_maps refs)) xs
    → (more : List Row) (rest : Remainder) → ((n : ℕ) → Comes (at section.Workers (counts refs next workers n 0) []) more (record rest { scripts = [] }))
    → Comes (at section.Workers (counts refs next workers scripts 0) []) (flat_map script_lines xs ++ more) (record rest { scripts = xs })
scripts_again refs next workers scripts [] l m f more rest h = h scripts
scripts_again refs next workers scripts (x ∷ xs) l m f more rest h =
    comes_joined (at section.Workers (counts refs next workers scripts 0) []) (script_lines x) (flat_map script_lines xs) more (record rest { scripts = x ∷ xs })
    (script_again refs next workers scripts x l (omega arith) f.0 (flat_map script_lines xs ++ more) (record rest { scripts = xs })
    (scripts_again refs next workers (scripts + 1) xs l (omega arith) f.1 more rest h))

-- The part's rank is at most this, and it isn't the start.
record IsUpTo (most : ℕ) (c : Section) : Type 0 where
  begun : nat_eq (rank c) 0 ≡ false
  low : nat_lt most (rank c) ≡ false

-- what follows the workers, whichever part and number of scripts they ended with
abbrev Behind : ℕ → ℕ → ℕ → List Row → Remainder → Type 0
Behind refs next total more rest = (c : Section) (n : ℕ) → IsUpTo 4 c → Comes (at c (counts refs next total n 0) []) more rest

workers_again : (refs next workers total scripts : ℕ) (c : Section) (ws : List (List Script)) → refs ≤ 65536 → workers + length ws ≡ total → total ≤ 16 → IsUpTo 4 c → AllByRecursion (WorkerFits (without_maps refs)) ws
    → (more : List Row) (rest : Remainder) → Behind refs next total more (record rest { scripts = []; workers = [] })
    → Comes (at c (counts refs next workers scripts 0) []) (flat_map worker_lines ws ++ more) (record rest { scripts = []; workers = ws })
workers_again refs next workers total scripts c [] l s m i f more rest h =
    let e : total ≡ workers = omega arith in
    subst (λ (n : ℕ). Comes (at c (counts refs next n scripts 0) []) more (record rest { scripts = []; workers = [] })) e (h c scripts i)
workers_again refs next workers total scripts c (w ∷ ws) l s m i f more rest h =
    let k = counts refs next (workers + 1) 0 0 in
    comes_by_keyword (at c (counts refs next workers scripts 0) []) (codes "worker") [] key.Worker says.Worker (flat_map script_lines w ++ flat_map worker_lines ws ++ more) (record rest { scripts = w; workers = ws }) i.begun refl refl refl tt
    (rw (i.low, le_false 16 workers (omega arith)) refl) refl
    (comes_joined (at section.Workers k []) (flat_map script_lines w) (flat_map worker_lines ws) more (record rest { scripts = w; workers = ws })
    (scripts_again refs next (workers + 1) 0 w l (omega (arith, f.0.0)) f.0.1 (flat_map worker_lines ws ++ more) (record rest { workers = ws })
    (λ n. workers_again refs next (workers + 1) total n section.Workers ws l (omega arith) m (record { begun = refl; low = refl }) f.1 more rest h)))

-- ---- openings and the header

openings_again : (refs next : ℕ) (c : Section) (xs : List (ℕ × ℕ)) → refs ≤ 65536 → IsUpTo 3 c → OpeningsAscend refs next xs → AllByRecursion (λ opening. 0 < opening.1) xs
    → (more : List Row) (rest : Remainder) → ((d : Section) (n : ℕ) → IsUpTo 3 d → Comes (at d (counts refs n 0 0 0) []) more (record rest { openings = [] }))
    → Comes (at c (counts refs next 0 0 0) []) (map opening_line xs ++ more) (record rest { openings = xs })
openings_again refs next c [] l i f p more rest h = h c next i
openings_again refs next c (x ∷ xs) l i f p more rest h =
    let n : x.0 < 2 ^ 64 = omega (arith, f.1) in
    let cell = says_below refs x.0 f.1 n in
    let value = says_number x.1 (lt_true x.1 (2 ^ 64) f.2) in
    let args = decimal x.0 ∷ decimal x.1 ∷ [] in
    let place : misplaced (at c (counts refs next 0 0 0) []) key.Ref args ≡ None = rw (i.low, number_of-decimal x.0 n, lt_false x.0 next f.0) refl in
    subst (λ (b : Bool). Comes (at c (counts refs next 0 0 0) []) (opening_line x ∷ (map opening_line xs ++ more)) (record rest { openings = cond b xs (x ∷ xs) })) (eq_false x.1 p.0)
    (comes_by_keyword (at c (counts refs next 0 0 0) []) (codes "ref") args key.Ref (says.Opening x.0 x.1) (map opening_line xs ++ more) (record rest { openings = xs }) i.begun refl refl refl
    (cell.is_of_line, (value.is_of_line, tt)) place (two_say (below refs) number says.Opening (decimal x.0) (decimal x.1) x.0 x.1 cell value)
    (openings_again refs (x.0 + 1) section.Openings xs l (record { begun = refl; low = refl }) f.3 p.1 more rest h))

refs_again : (refs : ℕ) → refs ≤ 65536 → (more : List Row) (rest : Remainder) → ((c : Section) → IsUpTo 3 c → Comes (at c (counts refs 0 0 0 0) []) more (record rest { refs = 0 }))
    → Comes (at section.Head (counts 0 0 0 0 0) []) (header_lines (codes "refs") refs ++ more) (record rest { refs = refs })
refs_again zero l more rest h = h section.Head (record { begun = refl; low = refl })
refs_again (suc n) l more rest h =
    let s = says_below 65537 (suc n) (omega arith) (omega arith) in
    subst (λ (b : Bool). Comes (at section.Head (counts 0 0 0 0 0) []) (cond b [] ((codes "refs" ∷ decimal (suc n) ∷ []) ∷ []) ++ more) (record rest { refs = suc n })) (sym (eq_false (suc n) (omega arith)))
    (comes_by_keyword (at section.Head (counts 0 0 0 0 0) []) (codes "refs") (decimal (suc n) ∷ []) key.Refs (says.Refs (suc n)) more (record rest { refs = 0 }) refl refl refl refl
    (s.is_of_line, tt) refl (one_says (below 65537) says.Refs (decimal (suc n)) (suc n) s) (h section.Refs (record { begun = refl; low = refl })))

-- ---- steps

-- the numbers of groups one after another
abbrev all_of : List (List ℕ) → List ℕ
all_of groups = flat_map (λ group. group) groups

-- The first group has at most so many numbers, and each other one fits on a line.
abbrev Grouped : ℕ → List (List ℕ) → Type 0
Grouped room [] = Unit {0}
Grouped room (group ∷ groups) = (length group ≤ room) × AllByRecursion FitsOnLine groups

onto_all : (n : ℕ) (groups : List (List ℕ)) → all_of (onto_first n groups) ≡ n ∷ all_of groups
onto_all n [] = refl
onto_all n (group ∷ groups) = refl

groups_join : (room : ℕ) (xs : List ℕ) → all_of (in_groups room xs) ≡ xs
groups_join room [] = refl
groups_join zero (n ∷ more) = onto_all n (in_groups 31 more) ∙ ap (λ (ns : List ℕ). n ∷ ns) (groups_join 31 more)
groups_join (suc room) (n ∷ more) = onto_all n (in_groups room more) ∙ ap (λ (ns : List ℕ). n ∷ ns) (groups_join room more)

onto_groups : (room n : ℕ) (groups : List (List ℕ)) → room ≤ 31 → Grouped room groups → AllByRecursion FitsOnLine (onto_first n groups)
onto_groups room n [] l g = ((omega arith, omega arith), tt)
onto_groups room n (group ∷ groups) l g = let h = g.0 in ((omega arith, omega arith), g.1)

onto_more : (room n : ℕ) (groups : List (List ℕ)) → Grouped room groups → Grouped (suc room) (onto_first n groups)
onto_more room n [] g = (omega arith, tt)
onto_more room n (group ∷ groups) g = let h = g.0 in (omega arith, g.1)

groups_are : (room : ℕ) (xs : List ℕ) → Grouped room (in_groups room xs)
groups_are room [] = tt
groups_are zero (n ∷ more) = (omega arith, onto_groups 31 n (in_groups 31 more) (omega arith) (groups_are 31 more))
groups_are (suc room) (n ∷ more) = onto_more room n (in_groups room more) (groups_are room more)

of_groups : (xs : List ℕ) → AllByRecursion FitsOnLine (in_groups 32 xs)
of_groups [] = tt
of_groups (n ∷ more) = onto_groups 31 n (in_groups 31 more) (omega arith) (groups_are 31 more)

split_all : {X : Type 0} (P : X → Type 0) (xs ys : List X) → AllByRecursion P (xs ++ ys) → AllByRecursion P xs × AllByRecursion P ys
split_all P [] ys h = (tt, h)
split_all P (x ∷ xs) ys h = let r = split_all P xs ys h.1 in ((h.0, r.0), r.1)

abbrev IsNamed : ℕ → ℕ → Type 0
IsNamed workers worker = (1 ≤ worker) × (worker ≤ workers)

numbers_again : (workers : ℕ) (group : List ℕ) → workers ≤ 16 → AllByRecursion (IsNamed workers) group → AreWords (map decimal group) × (workers_of workers (map decimal group) ≡ Ok group)
numbers_again workers [] l h = (tt, refl)
numbers_again workers (n ∷ group) l h =
    let s = says_from_one workers n h.0.0 h.0.1 (omega (arith, h.0.1)) in
    let r = numbers_again workers group l h.1 in
    ((s.is_of_line, r.0), rw (s.is, r.1) refl)

groups_again : (refs next workers scripts steps : ℕ) (c : Section) (groups : List (List ℕ)) → nat_eq (rank c) 0 ≡ false → workers ≤ 16 → AllByRecursion FitsOnLine groups → AllByRecursion (IsNamed workers) (all_of groups)
    → steps + length (all_of groups) ≤ 262144 → Comes (at c (counts refs next workers scripts steps) []) (map steps_line groups) (left_over 0 [] [] [] (all_of groups))
groups_again refs next workers scripts steps c [] b l g h m = record { words = tt; is = λ n. rw b refl }
groups_again refs next workers scripts steps c (group ∷ groups) b l g h m =
    let s = split_all (IsNamed workers) group (all_of groups) h in
    let r = numbers_again workers group l s.0 in
    let e : length (map decimal group) ≡ length group = length-map group decimal in
    let some : 1 ≤ length group = g.0.0 in
    let few : length group ≤ 64 = g.0.1 in
    let sum : length (group ++ all_of groups) ≡ length group + length (all_of groups) = length-append group (all_of groups) in
    let place : misplaced (at c (counts refs next workers scripts steps) []) key.Steps (map decimal group) ≡ None =
    ap (λ (v : Bool). first_of ((false, Unbuilt) ∷ (false, Order) ∷ (false, Depth) ∷ (v, Many) ∷ [])) (lt_false 262144 (steps + length (map decimal group)) (omega arith)) in
    let line : said refs workers key.Steps (map decimal group) ≡ Ok (says.Steps group) =
    rw (eq_false (length (map decimal group)) (omega arith), lt_false 64 (length (map decimal group)) (omega arith), r.1) refl in
    comes_by_keyword (at c (counts refs next workers scripts steps) []) (codes "steps") (map decimal group) key.Steps (says.Steps group) (map steps_line groups) (left_over 0 [] [] [] (all_of groups)) b refl refl refl r.0 place line
    (groups_again refs next workers scripts (steps + length group) section.Steps groups refl l g.1 s.1 (omega arith))

-- ---- the whole

regroup : (h m s b o w x : List Row) → m ≡ [] → s ≡ [] → b ≡ [] → (h ++ (m ++ (s ++ (b ++ (o ++ w))))) ++ x ≡ h ++ (o ++ (w ++ x))
regroup h m s b o w x p q r = rw (p, q, r) (append_assoc h (o ++ w) x ∙ ap (λ (rows : List Row). h ++ rows) (append_assoc o w x))

job_places : (job : Job) → IsBuilt job → places job ≡ without_maps job.refs
job_places job b =
    let make : ℕ → ℕ → Places = λ m s. record { refs = job.refs; maps = m; snaps = s } in
    ap (λ (m : ℕ). make m job.snaps) b.maps ∙ ap (λ (s : ℕ). make 0 s) b.snaps

same_job : (job : Job) → IsBuilt job → job_with (left_over job.refs job.openings [] job.workers job.steps) ≡ job
same_job job b =
    let make : ℕ → ℕ → ℕ → Job = λ m s n. record { refs = job.refs; maps = m; snaps = s; blocks = n; openings = job.openings; workers = job.workers; steps = job.steps } in
    ap (λ (m : ℕ). make m 0 0) (sym b.maps) ∙ ap (λ (s : ℕ). make job.maps s 0) (sym b.snaps) ∙ ap (λ (n : ℕ). make job.maps job.snaps n) (sym b.blocks)

-- The lines of a job within the limits say what it has, with any number of its steps on each line of them.
pub job_again : (job : Job) (groups : List (List ℕ)) → JobFits job → IsBuilt job → AllByRecursion FitsOnLine groups → all_of groups ≡ job.steps
    → Comes start (job_lines job ++ map steps_line groups) (left_over job.refs job.openings [] job.workers job.steps)
job_again job groups f b g e =
    let fits = subst (λ (p : Places). AllByRecursion (WorkerFits p) job.workers) (job_places job b) f.scripts in
    let x = map steps_line groups in
    let w = flat_map worker_lines job.workers ++ x in
    let o = map opening_line job.openings ++ w in
    let h = header_lines (codes "refs") job.refs ++ o in
    let total = length job.workers in
    let behind_openings : (d : Section) (n : ℕ) → IsUpTo 3 d → Comes (at d (counts job.refs n 0 0 0) []) w (left_over 0 [] [] job.workers job.steps) =
    λ d n i. workers_again job.refs n 0 total 0 d job.workers f.refs (omega arith) f.workers (up d i) fits x (left_over 0 [] [] [] job.steps)
    (λ c s j. steps_behind n s c j.begun) in
    let behind_head : Comes (at section.Head (counts 0 0 0 0 0) []) h (left_over job.refs job.openings [] job.workers job.steps) =
    refs_again job.refs f.refs o (left_over 0 job.openings [] job.workers job.steps)
    (λ c i. openings_again job.refs 0 c job.openings f.refs i f.openings f.opened w (left_over 0 [] [] job.workers job.steps) behind_openings) in
    let all = comes_first start head_line says.Head h (left_over job.refs job.openings [] job.workers job.steps) (refl, (refl, tt)) refl refl behind_head in
    subst (λ (rows : List Row). Comes start (head_line ∷ rows) (left_over job.refs job.openings [] job.workers job.steps))
    (sym (regroup (header_lines (codes "refs") job.refs) (header_lines (codes "maps") job.maps) (header_lines (codes "snaps") job.snaps) (header_lines (codes "blocks") job.blocks)
    (map opening_line job.openings) (flat_map worker_lines job.workers) x
    (ap (header_lines (codes "maps")) b.maps) (ap (header_lines (codes "snaps")) b.snaps) (ap (header_lines (codes "blocks")) b.blocks))) all where
      steps_behind : (n s : ℕ) (c : Section) → nat_eq (rank c) 0 ≡ false → Comes (at c (counts job.refs n (length job.workers) s 0) []) (map steps_line groups) (left_over 0 [] [] [] job.steps)
      steps_behind n s c j =
          subst (λ (ns : List ℕ). Comes (at c (counts job.refs n (length job.workers) s 0) []) (map steps_line groups) (left_over 0 [] [] [] ns)) e
          (groups_again job.refs n (length job.workers) s 0 c groups j f.workers g (subst (AllByRecursion (IsNamed (length job.workers))) (sym e) f.named) (omega (arith, ap length e, f.steps)))

      up : (d : Section) → IsUpTo 3 d → IsUpTo 4 d
      up d i = record { begun = i.begun; low = let l = i.low in grind (arith, nat_tests) }

job_of_rest : (r : Result (List Line) (ℕ × Reason)) (rest : Remainder) → (r >>= λ said. Ok (rest_of said)) ≡ Ok rest → (r >>= λ said. Ok (job_with (rest_of said))) ≡ Ok (job_with rest)
job_of_rest (Ok said) rest h = let e : rest_of said ≡ rest = cc in ap (λ (z : Remainder). Ok (job_with z)) e
job_of_rest (Err e) rest h = cc

-- The text of a job within the limits is this job, with any number of its steps on each line of them.
pub grouped_again : (job : Job) (groups : List (List ℕ)) → JobFits job → IsBuilt job → AllByRecursion FitsOnLine groups → flat_map (λ group. group) groups ≡ job.steps
    → job_of (text_of (job_lines job ++ map steps_line groups)) ≡ Ok job
grouped_again job groups f b g e =
    let rows = job_lines job ++ map steps_line groups in
    let r = job_again job groups f b g e in
    ap (λ (rs : List Row). lines_said start 1 rs >>= λ said. Ok (job_with (rest_of said))) (words_come_back rows r.words)
    ∙ job_of_rest (lines_said start 1 rows) (left_over job.refs job.openings [] job.workers job.steps) (r.is 1)
    ∙ ap Ok (same_job job b)

-- Its canonical text has 32 of them on a line.
pub canonical_again : (job : Job) → JobFits job → IsBuilt job → job_of (canonical job) ≡ Ok job
canonical_again job f b = grouped_again job (in_groups 32 job.steps) f b (of_groups job.steps) (groups_join 32 job.steps)

-- No text is the text of two jobs.
pub one_job : (text : List ℕ) (a b : Job) → IsTextOf text a → IsTextOf text b → a ≡ b
one_job text a b x y =
    let e = grouped_again a x.groups x.fits x.built x.sizes x.steps_are in
    let f = grouped_again b y.groups y.fits y.built y.sizes y.steps_are in
    let rows = sym x.lines_are ∙ y.lines_are in
    ok_same a b (sym e ∙ ap (λ (rs : List Row). job_of (text_of rs)) rows ∙ f)
