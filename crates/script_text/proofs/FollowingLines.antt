-- A line in front of what stands behind it.
use Rattle.std.proofs.Common.{◌≡◌, ℕ, suc, ◌+◌, ◌-◌, ◌<◌, ◌≤◌, Bool, true, false, nat_eq, if◌then◌else◌, List, [], ◌∷◌, ◌++◌, length, map, flat_map, refl, sym, ap, ◌∙◌, subst, arith, codes, append-nil, append_assoc, length-append}
use Rattle.std.proofs.lemmas.Bool.Decides.{nat_tests}
use Rattle.std.specs.List.{AllByRecursion}
use Rattle.text_lines.specs.Lines.{Row}
use Rattle.text_lines.proofs.Lists.{and_true, AllByRecursion-append}
use Rattle.ledger_model.specs.Fits.{Places, is_register, fits, each_part_fits, block_fits}
use Rattle.ledger_model.specs.declared.script.Script.{Script}
use Rattle.ledger_model.specs.declared.script.Statement.{Statement}
use Rattle.ledger_model.specs.declared.script.Statement.TheVariants as made
use Rattle.script_text.specs.declared.line.Line.{Line}
use Rattle.script_text.specs.declared.line.Line.TheVariants as says
use Rattle.script_text.specs.Standing.{Standing, Opener, OfScript, OfInner, OfEither, OfOr, OfLate, rank, after, behind_first, in_part, may_end}
use Rattle.script_text.specs.JobText.{Remainder, nothing, begin_with, enclose, begin_part, begin_script, in_front, rest_of}
use Rattle.script_text.specs.Printing.{register_word, opening_line, steps_line, end_line, statement_lines, block_lines, script_lines, worker_lines}
use Rattle.script_text.proofs.SpelledLines.{line_rows, only, NamesWorker}
use Rattle.script_text.proofs.PlacedLines.{Stands, IsSound, Placed, ends_among, part_among}
use Rattle.ledger_model.proofs.Lists.{each_weaker}
use Rattle.script_text.proofs.Follows.{Block, further_lines, rest_lines, blocks_lines, later_lines, rows_of, PartsFit, BlocksFit, Follows, bare, unopened, no_blocks, no_openers, lower, begin_fits, begin_lines, inner_lines, late_lines, either_lines, inner_fits, late_fits, either_fits}

-- ---- openings, workers and steps

above_zero : (n : ℕ) → nat_eq n 0 ≡ false → 0 < n
above_zero n h = grind (arith, nat_tests)

opening_follows : (p : Standing) (cell n : ℕ) (rest : Remainder) (rows : List Row) → Stands p (says.Opening cell n) → Follows (after p (says.Opening cell n)) rest rows
    → Follows p (in_front (says.Opening cell n) rest) (line_rows (says.Opening cell n) ++ rows)
opening_follows p cell n rest rows h f = at (nat_eq n 0) refl where
  at : (b : Bool) → nat_eq n 0 ≡ b → Follows p (record rest { openings = if b then rest.openings else (cell, n) ∷ rest.openings }) ((if b then [] else opening_line (cell, n) ∷ []) ++ rows)
  at true e = record {
    refs = f.refs;
    openings = lower p.refs p.next (cell + 1) rest.openings (omega (arith, h.1)) f.openings;
    opened = f.opened;
    no_openings = λ l. absurd (omega (arith, h.0, l));
    blocks = f.blocks;
    scripts = f.scripts;
    few_scripts = f.few_scripts;
    no_scripts = λ _. f.no_scripts (λ e. omega (arith, e));
    workers = f.workers;
    few_workers = f.few_workers;
    no_workers = λ l. absurd (omega (arith, h.0, l));
    steps = f.steps;
    named = f.named;
    groups = f.groups;
    sizes = f.sizes;
    joined = f.joined;
    rows_are = f.rows_are;
  }
  at false e = record {
    refs = f.refs;
    openings = (h.1, h.2, h.3, f.openings);
    opened = (above_zero n e, f.opened);
    no_openings = λ l. absurd (omega (arith, h.0, l));
    blocks = f.blocks;
    scripts = f.scripts;
    few_scripts = f.few_scripts;
    no_scripts = λ _. f.no_scripts (λ e. omega (arith, e));
    workers = f.workers;
    few_workers = f.few_workers;
    no_workers = λ l. absurd (omega (arith, h.0, l));
    steps = f.steps;
    named = f.named;
    groups = f.groups;
    sizes = f.sizes;
    joined = f.joined;
    rows_are = ap (λ (r : List Row). opening_line (cell, n) ∷ r) f.rows_are;
  }

one_more : (n : ℕ) (ws : List (List Script)) (scripts : List Script) → (n + 1) + length ws ≡ n + length (scripts ∷ ws)
one_more n ws scripts = omega arith

worker_follows : (p : Standing) (rest : Remainder) (rows : List Row) → IsSound p → Stands p says.Worker → Follows (after p says.Worker) rest rows
    → Follows p (in_front says.Worker rest) (line_rows says.Worker ++ rows)
worker_follows p rest rows s h f =
    let os = f.no_openings (omega arith) in
    let bs = no_blocks (only p.refs) p.openers rest.blocks h.0 f.blocks in record {
      refs = f.refs;
      openings = f.openings;
      opened = f.opened;
      no_openings = λ _. os;
      blocks = f.blocks;
      scripts = tt;
      few_scripts = omega (arith, s.scripts);
      no_scripts = λ _. refl;
      workers = ((omega (arith, f.few_scripts), f.scripts), f.workers);
      few_workers = omega (arith, f.few_workers);
      no_workers = λ l. absurd (omega (arith, h.1, l));
      steps = f.steps;
      named = subst (λ (n : ℕ). AllByRecursion (NamesWorker n) rest.steps) (one_more p.workers rest.workers rest.scripts) f.named;
      groups = f.groups;
      sizes = f.sizes;
      joined = f.joined;
      rows_are = ap (λ (r : List Row). (codes "worker" ∷ []) ∷ r) (f.rows_are ∙ bare rest.openings rest.blocks (later_lines rest.scripts rest.workers f.groups) os bs
          ∙ sym (append_assoc (flat_map script_lines rest.scripts) (flat_map worker_lines rest.workers) (map steps_line f.groups)))
          ∙ sym (bare rest.openings rest.blocks (later_lines [] (rest.scripts ∷ rest.workers) f.groups) os bs);
    }

-- Where nothing else stands behind, there are lines of steps only.
steps_alone : (rest : Remainder) (groups : List (List ℕ)) → rest.openings ≡ [] → rest.blocks ≡ [] → rest.scripts ≡ [] → rest.workers ≡ [] → rows_of rest groups ≡ map steps_line groups
steps_alone rest groups os bs ss ws =
    bare rest.openings rest.blocks (later_lines rest.scripts rest.workers groups) os bs
    ∙ ap (λ (xs : List Script). later_lines xs rest.workers groups) ss ∙ ap (λ (xs : List (List Script)). later_lines [] xs groups) ws

steps_follow : (p : Standing) (numbers : List ℕ) (rest : Remainder) (rows : List Row) → Stands p (says.Steps numbers) → Follows (after p (says.Steps numbers)) rest rows
    → Follows p (in_front (says.Steps numbers) rest) (line_rows (says.Steps numbers) ++ rows)
steps_follow p numbers rest rows h f =
    let l = length-append numbers rest.steps in
    let os = f.no_openings (omega arith) in
    let bs = no_blocks (only p.refs) p.openers rest.blocks h.0 f.blocks in
    let ss = f.no_scripts (λ e. omega (arith, e)) in
    let ws = f.no_workers (omega arith) in record {
      refs = f.refs;
      openings = f.openings;
      opened = f.opened;
      no_openings = λ _. os;
      blocks = f.blocks;
      scripts = f.scripts;
      few_scripts = f.few_scripts;
      no_scripts = λ _. ss;
      workers = f.workers;
      few_workers = f.few_workers;
      no_workers = λ _. ws;
      steps = omega (arith, f.steps, l);
      named = AllByRecursion-append (NamesWorker (p.workers + length rest.workers)) numbers rest.steps
          (each_weaker (NamesWorker p.workers) (NamesWorker (p.workers + length rest.workers)) (λ w k. (k.0, omega (arith, k.1))) numbers h.2) f.named;
      groups = numbers ∷ f.groups;
      sizes = (h.3, f.sizes);
      joined = ap (λ (ns : List ℕ). numbers ++ ns) f.joined;
      rows_are = ap (λ (r : List Row). steps_line numbers ∷ r) (f.rows_are ∙ steps_alone rest f.groups os bs ss ws)
          ∙ sym (steps_alone rest (numbers ∷ f.groups) os bs ss ws);
    }

-- ---- scripts, and what stands in them

script_rows : (p : Standing) (rest : Remainder) (groups : List (List ℕ)) (rows : List Row) (b : Block) → b.1 ≡ [] → rest.openings ≡ [] → rest.blocks ≡ b ∷ [] → rows ≡ rows_of rest groups
    → (codes "script" ∷ []) ∷ rows ≡ map opening_line rest.openings ++ later_lines (record { block = b.0 } ∷ rest.scripts) rest.workers groups
script_rows p rest groups rows b e os bs r =
    ap (λ (r : List Row). (codes "script" ∷ []) ∷ r)
    (r ∙ unopened rest.openings (blocks_lines rest.blocks ++ later_lines rest.scripts rest.workers groups) os
    ∙ ap (λ (bs : List Block). blocks_lines bs ++ later_lines rest.scripts rest.workers groups) bs
    ∙ ap (λ (more : List (List Statement)). ((block_lines b.0 ++ (further_lines more ++ end_line ∷ [])) ++ []) ++ later_lines rest.scripts rest.workers groups) e
    ∙ at (block_lines b.0 ++ end_line ∷ []) (flat_map script_lines rest.scripts) (flat_map worker_lines rest.workers ++ map steps_line groups))
    ∙ sym (unopened rest.openings (later_lines (record { block = b.0 } ∷ rest.scripts) rest.workers groups) os) where
      at : (a c d : List Row) → (a ++ []) ++ (c ++ d) ≡ (a ++ c) ++ d
      at a c d = ap (λ (r : List Row). r ++ (c ++ d)) (append-nil a) ∙ sym (append_assoc a c d)

script_follows : (p : Standing) (rest : Remainder) (rows : List Row) → Stands p says.Script → Follows (after p says.Script) rest rows
    → Follows p (in_front says.Script rest) (line_rows says.Script ++ rows)
script_follows p rest rows h f = at rest.blocks refl f.blocks where
  os : rest.openings ≡ []
  os = f.no_openings (omega (arith, h.1))

  at : (blocks : List Block) → rest.blocks ≡ blocks → BlocksFit (only p.refs) (OfScript ∷ []) blocks → Follows p (begin_script blocks rest) ((codes "script" ∷ []) ∷ rows)
  at [] e k = absurd k
  at (b ∷ c ∷ blocks) e k = absurd k.2
  at (b ∷ []) e k = record {
    refs = f.refs;
    openings = f.openings;
    opened = f.opened;
    no_openings = λ _. os;
    blocks = no_openers (only p.refs) p.openers h.0;
    scripts = (k.0, f.scripts);
    few_scripts = omega (arith, f.few_scripts);
    no_scripts = λ g. absurd (g h.1);
    workers = f.workers;
    few_workers = f.few_workers;
    no_workers = f.no_workers;
    steps = f.steps;
    named = f.named;
    groups = f.groups;
    sizes = f.sizes;
    joined = f.joined;
    rows_are = script_rows p rest f.groups rows b k.1 os e f.rows_are;
  }

-- Behind a line in a script, where the open blocks alone change.
inside : (p : Standing) (openers : List Opener) (rest : Remainder) (blocks : List Block) (rows before : List Row) → rank p.come_to ≡ 4 → Follows (record p { openers = openers }) rest rows
    → BlocksFit (only p.refs) p.openers blocks → ((more : List Row) → before ++ (blocks_lines rest.blocks ++ more) ≡ blocks_lines blocks ++ more)
    → Follows p (record rest { blocks = blocks }) (before ++ rows)
inside p openers rest blocks rows before r f k e =
    let os = f.no_openings (omega (arith, r)) in record {
      refs = f.refs;
      openings = f.openings;
      opened = f.opened;
      no_openings = λ _. os;
      blocks = k;
      scripts = f.scripts;
      few_scripts = f.few_scripts;
      no_scripts = f.no_scripts;
      workers = f.workers;
      few_workers = f.few_workers;
      no_workers = f.no_workers;
      steps = f.steps;
      named = f.named;
      groups = f.groups;
      sizes = f.sizes;
      joined = f.joined;
      rows_are = ap (λ (r : List Row). before ++ r) (f.rows_are ∙ unopened rest.openings (blocks_lines rest.blocks ++ later_lines rest.scripts rest.workers f.groups) os)
          ∙ e (later_lines rest.scripts rest.workers f.groups)
          ∙ sym (unopened rest.openings (blocks_lines blocks ++ later_lines rest.scripts rest.workers f.groups) os);
    }

plain_follows : (p : Standing) (m : Statement) (rest : Remainder) (rows : List Row) → IsSound p → Stands p (says.Plain m) → Follows p rest rows
    → Follows p (in_front (says.Plain m) rest) (statement_lines m ++ rows)
plain_follows p m rest rows s h f =
    inside p p.openers rest (begin_with m rest.blocks) rows (statement_lines m) (s.among h.0) f
    (begin_fits (only p.refs) p.openers rest.blocks m h.0 (h.1 (33 - length p.openers)) f.blocks)
    (λ more. sym (begin_lines (only p.refs) p.openers rest.blocks m h.0 f.blocks more))

end_fits : (p : Places) (openers : List Opener) (blocks : List Block) → may_end openers ≡ true → BlocksFit p (behind_first openers) blocks → BlocksFit p openers (([], []) ∷ blocks)
end_fits p [] blocks h k = cc
end_fits p (OfScript ∷ openers) blocks h k = (refl, refl, k)
end_fits p (OfInner ∷ openers) blocks h k = (refl, refl, k)
end_fits p (OfEither ∷ openers) blocks h k = cc
end_fits p (OfOr ∷ openers) blocks h k = (refl, refl, k)
end_fits p (OfLate ∷ openers) blocks h k = (refl, refl, k)

end_follows : (p : Standing) (rest : Remainder) (rows : List Row) → IsSound p → Stands p says.End → Follows (after p says.End) rest rows
    → Follows p (in_front says.End rest) (line_rows says.End ++ rows)
end_follows p rest rows s h f =
    inside p (behind_first p.openers) rest (([], []) ∷ rest.blocks) rows (end_line ∷ []) (ends_among p s h) f
    (end_fits (only p.refs) p.openers rest.blocks h f.blocks) (λ more. refl)

part_fits : (p : Places) (openers : List Opener) (blocks : List Block) → in_part openers ≡ true → BlocksFit p (OfOr ∷ behind_first openers) blocks → BlocksFit p openers (begin_part blocks)
part_fits p [] blocks h k = cc
part_fits p (OfScript ∷ openers) blocks h k = cc
part_fits p (OfInner ∷ openers) blocks h k = cc
part_fits p (OfLate ∷ openers) blocks h k = cc
part_fits p (OfEither ∷ openers) [] h k = absurd k
part_fits p (OfOr ∷ openers) [] h k = absurd k
part_fits p (OfEither ∷ openers) (b ∷ blocks) h k =
    (refl, (omega arith, and_true (block_fits p (33 - length (OfOr ∷ openers)) b.0) (each_part_fits (33 - length (OfOr ∷ openers)) (map (λ part. map (fits p) part) b.1)) k.0 k.1), k.2)
part_fits p (OfOr ∷ openers) (b ∷ blocks) h k =
    (refl, and_true (block_fits p (33 - length (OfOr ∷ openers)) b.0) (each_part_fits (33 - length (OfOr ∷ openers)) (map (λ part. map (fits p) part) b.1)) k.0 k.1, k.2)

part_rows : (p : Places) (openers : List Opener) (blocks : List Block) → BlocksFit p (OfOr ∷ openers) blocks → (more : List Row)
    → (codes "or" ∷ []) ∷ (blocks_lines blocks ++ more) ≡ blocks_lines (begin_part blocks) ++ more
part_rows p openers [] k more = absurd k
part_rows p openers (b ∷ blocks) k more =
    ap (λ (r : List Row). (codes "or" ∷ []) ∷ ((r ++ blocks_lines blocks) ++ more)) (sym (append_assoc (block_lines b.0) (further_lines b.1) (end_line ∷ [])))

or_follows : (p : Standing) (rest : Remainder) (rows : List Row) → IsSound p → Stands p says.Or → Follows (after p says.Or) rest rows
    → Follows p (in_front says.Or rest) (line_rows says.Or ++ rows)
or_follows p rest rows s h f =
    inside p (OfOr ∷ behind_first p.openers) rest (begin_part rest.blocks) rows ((codes "or" ∷ []) ∷ []) (part_among p s h) f
    (part_fits (only p.refs) p.openers rest.blocks h f.blocks) (part_rows (only p.refs) (behind_first p.openers) rest.blocks f.blocks)

-- ---- blocks

-- What a block of this kind is as a statement, by its first line.
record Kind (p : Places) (opener : Opener) (make : List Statement → List (List Statement) → Statement) (row : Row) : Type 0 where
  lines_are : (left : ℕ) (block : Block) → PartsFit p left opener block.1 → row ∷ rest_lines block ≡ statement_lines (make block.0 block.1)
  fits_one_more : (left : ℕ) (block : Block) → block_fits p left block.0 ≡ true → PartsFit p left opener block.1 → fits p (make block.0 block.1) (suc left) ≡ true

one_level : (openers : List Opener) (opener : Opener) → length openers ≤ 32 → suc (33 - length (opener ∷ openers)) ≡ 33 - length openers
one_level openers opener l = omega (arith, l)

enclosed_fits : (p : Places) (opener : Opener) (make : List Statement → List (List Statement) → Statement) (row : Row) → Kind p opener make row
    → (openers : List Opener) (blocks : List Block) → 0 < length openers → length openers ≤ 32 → BlocksFit p (opener ∷ openers) blocks → BlocksFit p openers (enclose make blocks)
enclosed_fits p opener make row k openers [] l m h = absurd h
enclosed_fits p opener make row k openers (b ∷ blocks) l m h =
    begin_fits p openers blocks (make b.0 b.1) l
    (subst (λ (left : ℕ). fits p (make b.0 b.1) left ≡ true) (one_level openers opener m) (k.fits_one_more (33 - length (opener ∷ openers)) b h.0 h.1)) h.2

enclosed_rows : (p : Places) (opener : Opener) (make : List Statement → List (List Statement) → Statement) (row : Row) → Kind p opener make row
    → (openers : List Opener) (blocks : List Block) → 0 < length openers → BlocksFit p (opener ∷ openers) blocks
    → (more : List Row) → row ∷ (blocks_lines blocks ++ more) ≡ blocks_lines (enclose make blocks) ++ more
enclosed_rows p opener make row k openers [] l h more = absurd h
enclosed_rows p opener make row k openers (b ∷ blocks) l h more =
    ap (λ (r : List Row). row ∷ r) (append_assoc (rest_lines b) (blocks_lines blocks) more)
    ∙ ap (λ (r : List Row). r ++ (blocks_lines blocks ++ more)) (k.lines_are (33 - length (opener ∷ openers)) b h.1)
    ∙ sym (begin_lines p openers blocks (make b.0 b.1) l h.2 more)

block_follows : (p : Standing) (opener : Opener) (make : List Statement → List (List Statement) → Statement) (row : Row) → Kind (only p.refs) opener make row
    → (rest : Remainder) (rows : List Row) → IsSound p → 0 < length p.openers → length p.openers ≤ 32 → Follows (record p { openers = opener ∷ p.openers }) rest rows
    → Follows p (record rest { blocks = enclose make rest.blocks }) ((row ∷ []) ++ rows)
block_follows p opener make row k rest rows s l m f =
    inside p (opener ∷ p.openers) rest (enclose make rest.blocks) rows (row ∷ []) (s.among l) f
    (enclosed_fits (only p.refs) opener make row k p.openers rest.blocks l m f.blocks)
    (enclosed_rows (only p.refs) opener make row k p.openers rest.blocks l f.blocks)

no_further : (block : List Statement) (more : List (List Statement)) → more ≡ [] → rest_lines (block, more) ≡ block_lines block ++ end_line ∷ []
no_further block more e = ap (λ (more : List (List Statement)). block_lines block ++ (further_lines more ++ end_line ∷ [])) e

inner_kind : (p : Places) (r : ℕ) → is_register r ≡ true → Kind p OfInner (λ block parts. made.Inner r block) (codes "inner" ∷ register_word r ∷ [])
inner_kind p r f = record {
  lines_are = λ left b h. ap (λ (rows : List Row). (codes "inner" ∷ register_word r ∷ []) ∷ rows) (no_further b.0 b.1 h) ∙ sym (inner_lines r b.0);
  fits_one_more = λ left b g h. inner_fits p r b.0 left f g;
}

late_kind : (p : Places) → Kind p OfLate (λ block parts. made.Late block) (codes "late" ∷ [])
late_kind p = record {
  lines_are = λ left b h. ap (λ (rows : List Row). (codes "late" ∷ []) ∷ rows) (no_further b.0 b.1 h) ∙ sym (late_lines b.0);
  fits_one_more = λ left b g h. late_fits p b.0 left g;
}

either_kind : (p : Places) → Kind p OfEither (λ block parts. made.Either (block ∷ parts)) (codes "either" ∷ [])
either_kind p = record {
  lines_are = λ left b h. sym (either_lines b.0 b.1);
  fits_one_more = λ left b g h. either_fits p b.0 b.1 left g h.0 h.1;
}

-- ---- the lines behind the header

abbrev IsNoHeader : Line → Type 0
IsNoHeader (says.Refs n) = ⊥
IsNoHeader _ = Unit {0}

pub line_follows : (p : Standing) (line : Line) (rest : Remainder) (rows : List Row) → IsNoHeader line → IsSound p → Stands p line → Follows (after p line) rest rows
    → Follows p (in_front line rest) (line_rows line ++ rows)
line_follows p says.Head rest rows n s h f = absurd h
line_follows p (says.Refs k) rest rows n s h f = absurd n
line_follows p (says.Opening cell k) rest rows n s h f = opening_follows p cell k rest rows h f
line_follows p says.Worker rest rows n s h f = worker_follows p rest rows s h f
line_follows p says.Script rest rows n s h f = script_follows p rest rows h f
line_follows p says.End rest rows n s h f = end_follows p rest rows s h f
line_follows p (says.Inner r) rest rows n s h f = block_follows p OfInner (λ block parts. made.Inner r block) (codes "inner" ∷ register_word r ∷ []) (inner_kind (only p.refs) r h.2) rest rows s h.0 h.1 f
line_follows p says.Either rest rows n s h f = block_follows p OfEither (λ block parts. made.Either (block ∷ parts)) (codes "either" ∷ []) (either_kind (only p.refs)) rest rows s h.0 h.1 f
line_follows p says.Or rest rows n s h f = or_follows p rest rows s h f
line_follows p says.Late rest rows n s h f = block_follows p OfLate (λ block parts. made.Late block) (codes "late" ∷ []) (late_kind (only p.refs)) rest rows s h.0 h.1 f
line_follows p (says.Steps numbers) rest rows n s h f = steps_follow p numbers rest rows h f
line_follows p (says.Plain m) rest rows n s h f = plain_follows p m rest rows s h f

behind_header : (p : Standing) (line : Line) → 2 ≤ rank p.come_to → Stands p line → IsNoHeader line
behind_header p (says.Refs n) l h = absurd (omega (arith, h.0, l))
behind_header p says.Head l h = tt
behind_header p (says.Opening cell n) l h = tt
behind_header p says.Worker l h = tt
behind_header p says.Script l h = tt
behind_header p says.End l h = tt
behind_header p (says.Inner r) l h = tt
behind_header p says.Either l h = tt
behind_header p says.Or l h = tt
behind_header p says.Late l h = tt
behind_header p (says.Steps numbers) l h = tt
behind_header p (says.Plain m) l h = tt

still_behind : (p : Standing) (line : Line) → 2 ≤ rank p.come_to → Stands p line → 2 ≤ rank (after p line).come_to
still_behind p says.Head l h = absurd h
still_behind p (says.Refs n) l h = omega arith
still_behind p (says.Opening cell n) l h = omega arith
still_behind p says.Worker l h = omega arith
still_behind p says.Script l h = l
still_behind p says.End l h = l
still_behind p (says.Inner r) l h = l
still_behind p says.Either l h = l
still_behind p says.Or l h = l
still_behind p says.Late l h = l
still_behind p (says.Steps numbers) l h = omega arith
still_behind p (says.Plain m) l h = l

pub nothing_follows : (p : Standing) → IsSound p → p.openers ≡ [] → Follows p nothing []
nothing_follows p s e = record {
  refs = refl;
  openings = tt;
  opened = tt;
  no_openings = λ _. refl;
  blocks = no_openers (only p.refs) p.openers e;
  scripts = tt;
  few_scripts = omega (arith, s.scripts);
  no_scripts = λ _. refl;
  workers = tt;
  few_workers = omega (arith, s.workers);
  no_workers = λ _. refl;
  steps = omega (arith, s.steps);
  named = tt;
  groups = [];
  sizes = tt;
  joined = refl;
  rows_are = refl;
}

pub lines_follow : (lines : List Line) (p : Standing) → 2 ≤ rank p.come_to → Placed p lines → Follows p (rest_of lines) (flat_map line_rows lines)
lines_follow [] p l h = nothing_follows p h.0 h.1
lines_follow (line ∷ more) p l h =
    line_follows p line (rest_of more) (flat_map line_rows more) (behind_header p line l h.1) h.0 h.1 (lines_follow more (after p line) (still_behind p line l h.1) h.2)
