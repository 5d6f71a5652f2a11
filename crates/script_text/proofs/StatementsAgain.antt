-- The lines of statements say these statements.
use Rattle.std.proofs.Common.{◌≡◌, ℕ, zero, suc, ◌≤◌, ◌+◌, Bool, true, false, ◌&&◌, not, nat_eq, nat_lt, nat_le, IsTrue, List, [], ◌∷◌, ◌++◌, map, length, Option, Some, None, Result, Ok, refl, sym, ap, subst, ◌∙◌, arith, codes, decimal}
use Rattle.std.specs.List.{AllByRecursion}
use Rattle.text_lines.specs.Lines.{Row, is_word, AreWords}
use Rattle.text_lines.proofs.Lists.{both}
use Rattle.stm_model.specs.declared.cause.HookPhase.{HookPhase}
use Rattle.ledger_model.specs.declared.reason.Reason.{Reason}
use Rattle.ledger_model.specs.declared.reason.Reason.TheVariants.{Unbuilt, Order, Depth, Many}
use Rattle.ledger_model.specs.declared.script.Operand.{Operand}
use Rattle.ledger_model.specs.declared.script.Statement.{Statement}
use Rattle.ledger_model.specs.declared.script.Statement.TheOpen.{Statement-F}
use Rattle.ledger_model.specs.declared.script.Statement.TheOpen as layer
use Rattle.ledger_model.specs.declared.script.Statement.TheVariants as made
use Rattle.ledger_model.specs.declared.script.Statement.TheViews.{roll-Statement}
use Rattle.ledger_model.specs.declared.script.Statement.TheFolds.{fold-roll-Statement, map-Statement, ind-Statement}
use Rattle.ledger_model.specs.Fits.{Places, is_register, fits_word, is_code, operand_fits, each_part_fits, fits_step, fits, block_fits}
use Rattle.script_text.specs.declared.keyword.Keyword.{Keyword}
use Rattle.script_text.specs.declared.keyword.Keyword.TheVariants as key
use Rattle.script_text.specs.declared.line.Line.{Line}
use Rattle.script_text.specs.declared.line.Line.TheVariants as says
use Rattle.script_text.specs.declared.section.Section.{Section}
use Rattle.script_text.specs.declared.section.Section.TheVariants as section
use Rattle.script_text.specs.Words.{◌>>=◌, keyword_of, below, register, operand_of}
use Rattle.script_text.specs.Line.{said, two, three}
use Rattle.script_text.specs.Standing.{Standing, Opener, OfInner, OfEither, OfOr, OfLate, misplaced, first_of, in_part, may_end}
use Rattle.script_text.specs.JobText.{begins_with_hash, Remainder, begin_with}
use Rattle.script_text.specs.Printing.{register_word, operand_word, end_line, parts_lines, statement_step, statement_lines, block_lines}
use Rattle.script_text.proofs.ReadAgain.{Comes, comes_joined, comes_by_keyword}
use Rattle.script_text.proofs.WordsAgain.{true_lt, lt_false, eq_false, Says, says_number, says_below, says_code, says_register, says_operand, says_phase, one_says, two_say, three_say}

-- ---- places

-- the numbers of a place
pub record Counts : Type 0 where
  pub refs : ℕ
  pub next : ℕ
  pub workers : ℕ
  pub scripts : ℕ
  pub steps : ℕ

abbrev pub at : Section → Counts → List Opener → Standing
at c k openers = record { come_to = c; refs = k.refs; next = k.next; workers = k.workers; scripts = k.scripts; steps = k.steps; openers = openers }

-- the statements before what the innermost block has
abbrev pub with_block : List Statement → List (List Statement) → List (List Statement × List (List Statement)) → Remainder → Remainder
with_block block parts outer rest = record rest { blocks = (block, parts) ∷ outer }

abbrev pub without_maps : ℕ → Places
without_maps refs = record { refs = refs; maps = 0; snaps = 0 }

-- ---- statements of one line

-- the rows say this statement, in front of the rest of a block
abbrev pub Are : List Row → Statement → Counts → List Opener → Type 0
Are rows m k openers = (more : List Row) (rest : Remainder) → Comes (at section.Workers k openers) more rest
    → Comes (at section.Workers k openers) (rows ++ more) (record rest { blocks = begin_with m rest.blocks })

-- It is in a script, and there are so many references.
pub record IsIn (refs : ℕ) (k : Counts) (openers : List Opener) : Type 0 where
  pub refs' : k.refs ≡ refs
  pub is_open : nat_eq (length openers) 0 ≡ false

-- why a line that opens nothing and brings nothing may not stand in the part of workers
abbrev where_plain : Bool → Option Reason
where_plain outside = first_of ((false, Unbuilt) ∷ (not (not outside), Order) ∷ (false, Depth) ∷ (false, Many) ∷ [])

plain : (refs : ℕ) (k : Counts) (openers : List Opener) (word : List ℕ) (args : Row) (keyword : Keyword) (m : Statement) → IsIn refs k openers
    → IsTrue (is_word word) → begins_with_hash word ≡ false → keyword_of word ≡ Some keyword
    → misplaced (at section.Workers k openers) keyword args ≡ where_plain (nat_eq (length openers) 0)
    → AreWords args → said refs k.workers keyword args ≡ Ok (says.Plain m) → Are ((word ∷ args) ∷ []) m k openers
plain refs k openers word args keyword m i w g n p a s more rest h =
    comes_by_keyword (at section.Workers k openers) word args keyword (says.Plain m) more rest refl w g n a (p ∙ ap where_plain i.is_open)
    (ap (λ (r : ℕ). said r k.workers keyword args) i.refs' ∙ s) h

-- what comes of the words of a plain statement
abbrev plainly : Result Statement Reason → Result Line Reason
plainly result = result >>= λ m. Ok (says.Plain m)

-- a line of three words or of four
of_two : {A B : Type 0} {a : List ℕ → Result A Reason} {b : List ℕ → Result B Reason} {v w : List ℕ} {x : A} {y : B}
    (refs : ℕ) (k : Counts) (openers : List Opener) (word : List ℕ) (keyword : Keyword) (make : A → B → Statement) → IsIn refs k openers → Says a v x → Says b w y
    → IsTrue (is_word word) → begins_with_hash word ≡ false → keyword_of word ≡ Some keyword
    → misplaced (at section.Workers k openers) keyword (v ∷ w ∷ []) ≡ where_plain (nat_eq (length openers) 0)
    → said refs k.workers keyword (v ∷ w ∷ []) ≡ plainly (two a b make (v ∷ w ∷ [])) → Are ((word ∷ v ∷ w ∷ []) ∷ []) (make x y) k openers
of_two {a} {b} {v} {w} {x} {y} refs k openers word keyword make i h l d g n p s =
    plain refs k openers word (v ∷ w ∷ []) keyword (make x y) i d g n p (h.is_of_line, (l.is_of_line, tt)) (s ∙ ap plainly (two_say a b make v w x y h l))

of_three : {A B C : Type 0} {a : List ℕ → Result A Reason} {b : List ℕ → Result B Reason} {c : List ℕ → Result C Reason} {u v w : List ℕ} {x : A} {y : B} {z : C}
    (refs : ℕ) (k : Counts) (openers : List Opener) (word : List ℕ) (keyword : Keyword) (make : A → B → C → Statement) → IsIn refs k openers → Says a u x → Says b v y → Says c w z
    → IsTrue (is_word word) → begins_with_hash word ≡ false → keyword_of word ≡ Some keyword
    → misplaced (at section.Workers k openers) keyword (u ∷ v ∷ w ∷ []) ≡ where_plain (nat_eq (length openers) 0)
    → said refs k.workers keyword (u ∷ v ∷ w ∷ []) ≡ plainly (three a b c make (u ∷ v ∷ w ∷ [])) → Are ((word ∷ u ∷ v ∷ w ∷ []) ∷ []) (make x y z) k openers
of_three {a} {b} {c} {u} {v} {w} {x} {y} {z} refs k openers word keyword make i h l j d g n p s =
    plain refs k openers word (u ∷ v ∷ w ∷ []) keyword (make x y z) i d g n p (h.is_of_line, (l.is_of_line, (j.is_of_line, tt))) (s ∙ ap plainly (three_say a b c make u v w x y z h l j))

says_ref : (refs cell : ℕ) → refs ≤ 65536 → nat_lt cell refs ≡ true → Says (below refs) (decimal cell) cell
says_ref refs cell few f = let l = true_lt cell refs f in says_below refs cell l (omega arith)

const_again : (refs : ℕ) (r n : ℕ) (k : Counts) (openers : List Opener) → IsIn refs k openers → (is_register r && fits_word n) ≡ true → Are (statement_step (layer.Const r n)) (made.Const r n) k openers
const_again refs r n k openers i f =
    let e = both (is_register r) (fits_word n) f in
    of_two refs k openers (codes "const") key.Const made.Const i (says_register r e.0) (says_number n e.1) refl refl refl refl refl

read_again : (refs : ℕ) (r cell : ℕ) (k : Counts) (openers : List Opener) → refs ≤ 65536 → IsIn refs k openers → (is_register r && nat_lt cell refs) ≡ true → Are (statement_step (layer.Read r cell)) (made.Read r cell) k openers
read_again refs r cell k openers few i f =
    let e = both (is_register r) (nat_lt cell refs) f in
    of_two refs k openers (codes "read") key.Read made.Read i (says_register r e.0) (says_ref refs cell few e.1) refl refl refl refl refl

write_again : (refs : ℕ) (cell : ℕ) (x : Operand) (k : Counts) (openers : List Opener) → refs ≤ 65536 → IsIn refs k openers → (nat_lt cell refs && operand_fits x) ≡ true → Are (statement_step (layer.Write cell x)) (made.Write cell x) k openers
write_again refs cell x k openers few i f =
    let e = both (nat_lt cell refs) (operand_fits x) f in
    of_two refs k openers (codes "write") key.Write made.Write i (says_ref refs cell few e.0) (says_operand x e.1) refl refl refl refl refl

add_again : (refs : ℕ) (r : ℕ) (x : Operand) (k : Counts) (openers : List Opener) → IsIn refs k openers → (is_register r && operand_fits x) ≡ true → Are (statement_step (layer.Add r x)) (made.Add r x) k openers
add_again refs r x k openers i f =
    let e = both (is_register r) (operand_fits x) f in
    of_two refs k openers (codes "add") key.Add made.Add i (says_register r e.0) (says_operand x e.1) refl refl refl refl refl

sub_again : (refs : ℕ) (r : ℕ) (x : Operand) (k : Counts) (openers : List Opener) → IsIn refs k openers → (is_register r && operand_fits x) ≡ true → Are (statement_step (layer.Sub r x)) (made.Sub r x) k openers
sub_again refs r x k openers i f =
    let e = both (is_register r) (operand_fits x) f in
    of_two refs k openers (codes "sub") key.Sub made.Sub i (says_register r e.0) (says_operand x e.1) refl refl refl refl refl

print_again : (refs : ℕ) (x : Operand) (k : Counts) (openers : List Opener) → IsIn refs k openers → operand_fits x ≡ true → Are (statement_step (layer.Print x)) (made.Print x) k openers
print_again refs x k openers i f =
    let h = says_operand x f in
    plain refs k openers (codes "print") (operand_word x ∷ []) key.Print (made.Print x) i refl refl refl refl (h.is_of_line, tt) (ap plainly (one_says operand_of made.Print (operand_word x) x h))

check_again : (refs : ℕ) (x y : Operand) (code : ℕ) (k : Counts) (openers : List Opener) → IsIn refs k openers → (operand_fits x && operand_fits y && is_code code) ≡ true → Are (statement_step (layer.Check x y code)) (made.Check x y code) k openers
check_again refs x y code k openers i f =
    let e = both (operand_fits x && operand_fits y) (is_code code) f in let d = both (operand_fits x) (operand_fits y) e.0 in
    of_three refs k openers (codes "check") key.Check made.Check i (says_operand x d.0) (says_operand y d.1) (says_code code e.1) refl refl refl refl refl

need_again : (refs : ℕ) (x y : Operand) (k : Counts) (openers : List Opener) → IsIn refs k openers → (operand_fits x && operand_fits y) ≡ true → Are (statement_step (layer.Need x y)) (made.Need x y) k openers
need_again refs x y k openers i f =
    let e = both (operand_fits x) (operand_fits y) f in
    of_two refs k openers (codes "need") key.Need made.Need i (says_operand x e.0) (says_operand y e.1) refl refl refl refl refl

move_again : (refs : ℕ) (from into : ℕ) (x : Operand) (k : Counts) (openers : List Opener) → refs ≤ 65536 → IsIn refs k openers → (nat_lt from refs && nat_lt into refs && operand_fits x) ≡ true → Are (statement_step (layer.Move from into x)) (made.Move from into x) k openers
move_again refs from into x k openers few i f =
    let e = both (nat_lt from refs && nat_lt into refs) (operand_fits x) f in let d = both (nat_lt from refs) (nat_lt into refs) e.0 in
    of_three refs k openers (codes "move") key.Move made.Move i (says_ref refs from few d.0) (says_ref refs into few d.1) (says_operand x e.1) refl refl refl refl refl

hook_again : (refs : ℕ) (phase : HookPhase) (token : ℕ) (k : Counts) (openers : List Opener) → IsIn refs k openers → (fits_word token) ≡ true → Are (statement_step (layer.Hook phase token)) (made.Hook phase token) k openers
hook_again refs phase token k openers i f = of_two refs k openers (codes "hook") key.Hook made.Hook i (says_phase phase) (says_number token f) refl refl refl refl refl

-- ---- statements with blocks

-- the lines of the statement say it, wherever it fits
abbrev pub IsAgain : ℕ → Statement → Type 0
IsAgain refs m = (k : Counts) (openers : List Opener) (left : ℕ) → IsIn refs k openers → left + length openers ≡ 33 → fits (without_maps refs) m left ≡ true → Are (statement_lines m) m k openers

abbrev pub AreAgain : ℕ → List Statement → Type 0
AreAgain refs block = AllByRecursion (IsAgain refs) block

-- The lines of a block put it in front of what follows.
pub block_again : (refs : ℕ) (block : List Statement) → AreAgain refs block → (k : Counts) (openers : List Opener) (left : ℕ) → IsIn refs k openers → left + length openers ≡ 33 → block_fits (without_maps refs) left block ≡ true
    → (parts : List (List Statement)) (outer : List (List Statement × List (List Statement))) (more : List Row) (rest : Remainder)
    → Comes (at section.Workers k openers) more (with_block [] parts outer rest) → Comes (at section.Workers k openers) (block_lines block ++ more) (with_block block parts outer rest)
block_again refs [] all k openers left i d f parts outer more rest h = h
block_again refs (m ∷ block) all k openers left i d f parts outer more rest h =
    let e = both (fits (without_maps refs) m left) (block_fits (without_maps refs) left block) f in
    comes_joined (at section.Workers k openers) (statement_lines m) (block_lines block) more (with_block (m ∷ block) parts outer rest)
    (all.0 k openers left i d e.0 (block_lines block ++ more) (with_block block parts outer rest)
    (block_again refs block all.1 k openers left i d e.1 parts outer more rest h))

-- an `end`
pub end_again : (k : Counts) (opener : Opener) (openers : List Opener) (more : List Row) (rest : Remainder) → may_end (opener ∷ openers) ≡ true
    → Comes (at section.Workers k openers) more rest → Comes (at section.Workers k (opener ∷ openers)) (end_line ∷ more) (with_block [] [] rest.blocks rest)
end_again k opener openers more rest e h =
    comes_by_keyword (at section.Workers k (opener ∷ openers)) (codes "end") [] key.End says.End more rest refl refl refl refl tt
    (ap (λ (b : Bool). first_of ((false, Unbuilt) ∷ (not b, Order) ∷ (false, Depth) ∷ (false, Many) ∷ [])) e) refl h

pub deeper : (refs : ℕ) (k : Counts) (opener : Opener) (openers : List Opener) → k.refs ≡ refs → IsIn refs k (opener ∷ openers)
deeper refs k opener openers e = record { refs' = e; is_open = eq_false (suc (length openers)) (omega arith) }

-- a line that opens a block where another level is left
opens : (k : Counts) (openers : List Opener) → nat_eq (length openers) 0 ≡ false → length openers ≤ 32
    → first_of ((false, Unbuilt) ∷ (not (not (nat_eq (length openers) 0)), Order) ∷ (nat_lt 32 (length openers), Depth) ∷ (false, Many) ∷ []) ≡ None
opens k openers e l = rw (e, lt_false 32 (length openers) l) refl

inner_again : (refs r : ℕ) (block : List Statement) → AreAgain refs block → (k : Counts) (openers : List Opener) (left : ℕ) → IsIn refs k openers → left + length openers ≡ 33
    → fits_step (without_maps refs) (layer.Inner r (map (fits (without_maps refs)) block)) left ≡ true → Are (statement_step (layer.Inner r (map statement_lines block))) (made.Inner r block) k openers
inner_again refs r block all k openers zero i d f more rest h = let e = both (is_register r) false f in cc
inner_again refs r block all k openers (suc left) i d f more rest h =
    let e = both (is_register r) (block_fits (without_maps refs) left block) f in
    let s = says_register r e.0 in
    let inside = block_again refs block all k (OfInner ∷ openers) left (deeper refs k OfInner openers i.refs') (omega arith) e.1 [] rest.blocks (end_line ∷ more) rest (end_again k OfInner openers more rest refl h) in
    comes_by_keyword (at section.Workers k openers) (codes "inner") (register_word r ∷ []) key.Inner (says.Inner r) ((block_lines block ++ end_line ∷ []) ++ more) (with_block block [] rest.blocks rest) refl refl refl refl (s.is_of_line, tt)
    (opens k openers i.is_open (omega arith)) (one_says register says.Inner (register_word r) r s)
    (comes_joined (at section.Workers k (OfInner ∷ openers)) (block_lines block) (end_line ∷ []) more (with_block block [] rest.blocks rest) inside)

late_again : (refs : ℕ) (block : List Statement) → AreAgain refs block → (k : Counts) (openers : List Opener) (left : ℕ) → IsIn refs k openers → left + length openers ≡ 33
    → fits_step (without_maps refs) (layer.Late (map (fits (without_maps refs)) block)) left ≡ true → Are (statement_step (layer.Late (map statement_lines block))) (made.Late block) k openers
late_again refs block all k openers zero i d f more rest h = cc
late_again refs block all k openers (suc left) i d f more rest h =
    let inside = block_again refs block all k (OfLate ∷ openers) left (deeper refs k OfLate openers i.refs') (omega arith) f [] rest.blocks (end_line ∷ more) rest (end_again k OfLate openers more rest refl h) in
    comes_by_keyword (at section.Workers k openers) (codes "late") [] key.Late says.Late ((block_lines block ++ end_line ∷ []) ++ more) (with_block block [] rest.blocks rest) refl refl refl refl tt
    (opens k openers i.is_open (omega arith)) refl
    (comes_joined (at section.Workers k (OfLate ∷ openers)) (block_lines block) (end_line ∷ []) more (with_block block [] rest.blocks rest) inside)

-- ---- alternatives

or_again : (k : Counts) (opener : Opener) (openers : List Opener) (block : List Statement) (parts : List (List Statement)) (outer : List (List Statement × List (List Statement))) (more : List Row) (rest : Remainder)
    → in_part (opener ∷ openers) ≡ true → Comes (at section.Workers k (OfOr ∷ openers)) more (with_block block parts outer rest)
    → Comes (at section.Workers k (opener ∷ openers)) ((codes "or" ∷ []) ∷ more) (with_block [] (block ∷ parts) outer rest)
or_again k opener openers block parts outer more rest e h =
    comes_by_keyword (at section.Workers k (opener ∷ openers)) (codes "or") [] key.Or says.Or more (with_block block parts outer rest) refl refl refl refl tt
    (ap (λ (b : Bool). first_of ((false, Unbuilt) ∷ (not b, Order) ∷ (false, Depth) ∷ (false, Many) ∷ [])) e) refl h

abbrev part_fits : ℕ → ℕ → List (List Statement) → Bool
part_fits refs left parts = each_part_fits left (map (map (fits (without_maps refs))) parts)

abbrev lines_of_parts : List (List Statement) → List Row
lines_of_parts parts = parts_lines (map (map statement_lines) parts)

-- a part with further ones behind it
part_again : (refs : ℕ) (k : Counts) (opener : Opener) (openers : List Opener) (left : ℕ) (block next : List Statement) (parts : List (List Statement)) → in_part (opener ∷ openers) ≡ true
    → k.refs ≡ refs → left + suc (length openers) ≡ 33 → AreAgain refs block → block_fits (without_maps refs) left block ≡ true
    → (outer : List (List Statement × List (List Statement))) (more : List Row) (rest : Remainder)
    → Comes (at section.Workers k (OfOr ∷ openers)) (lines_of_parts (next ∷ parts) ++ more) (with_block next parts outer rest)
    → Comes (at section.Workers k (opener ∷ openers)) (lines_of_parts (block ∷ next ∷ parts) ++ more) (with_block block (next ∷ parts) outer rest)
part_again refs k opener openers left block next parts e i d all f outer more rest h =
    comes_joined (at section.Workers k (opener ∷ openers)) (block_lines block) ((codes "or" ∷ []) ∷ lines_of_parts (next ∷ parts)) more (with_block block (next ∷ parts) outer rest)
    (block_again refs block all k (opener ∷ openers) left (deeper refs k opener openers i) d f (next ∷ parts) outer ((codes "or" ∷ []) ∷ (lines_of_parts (next ∷ parts) ++ more)) rest
    (or_again k opener openers next parts outer (lines_of_parts (next ∷ parts) ++ more) rest e h))

later_again : (refs : ℕ) (k : Counts) (openers : List Opener) (left : ℕ) (block : List Statement) (parts : List (List Statement)) → k.refs ≡ refs → left + suc (length openers) ≡ 33
    → AreAgain refs block → AllByRecursion (AreAgain refs) parts → part_fits refs left (block ∷ parts) ≡ true
    → (outer : List (List Statement × List (List Statement))) (more : List Row) (rest : Remainder) → Comes (at section.Workers k (OfOr ∷ openers)) more (with_block [] [] outer rest)
    → Comes (at section.Workers k (OfOr ∷ openers)) (lines_of_parts (block ∷ parts) ++ more) (with_block block parts outer rest)
later_again refs k openers left block [] i d all alls f outer more rest h =
    block_again refs block all k (OfOr ∷ openers) left (deeper refs k OfOr openers i) d (both (block_fits (without_maps refs) left block) true f).0 [] outer more rest h
later_again refs k openers left block (next ∷ parts) i d all alls f outer more rest h =
    let e = both (block_fits (without_maps refs) left block) (part_fits refs left (next ∷ parts)) f in
    part_again refs k OfOr openers left block next parts refl i d all e.0 outer more rest (later_again refs k openers left next parts i d alls.0 alls.1 e.1 outer more rest h)

either_again : (refs : ℕ) (parts : List (List Statement)) → AllByRecursion (AreAgain refs) parts → (k : Counts) (openers : List Opener) (left : ℕ) → IsIn refs k openers → left + length openers ≡ 33
    → fits_step (without_maps refs) (layer.Either (map (map (fits (without_maps refs))) parts)) left ≡ true → Are (statement_step (layer.Either (map (map statement_lines) parts))) (made.Either parts) k openers
either_again refs [] all k openers left i d f more rest h = cc
either_again refs (a ∷ []) all k openers left i d f more rest h = cc
either_again refs (a ∷ b ∷ parts) all k openers zero i d f more rest h = let e = both (nat_le 2 (length (map (map (fits (without_maps refs))) (a ∷ b ∷ parts)))) false f in cc
either_again refs (a ∷ b ∷ parts) all k openers (suc left) i d f more rest h =
    let e = both (nat_le 2 (length (map (map (fits (without_maps refs))) (a ∷ b ∷ parts)))) (part_fits refs left (a ∷ b ∷ parts)) f in
    let g = both (block_fits (without_maps refs) left a) (part_fits refs left (b ∷ parts)) e.1 in
    let ended = end_again k OfOr openers more rest refl h in
    let later = later_again refs k openers left b parts i.refs' (omega arith) all.1.0 all.1.1 g.1 rest.blocks (end_line ∷ more) rest ended in
    let inside = part_again refs k OfEither openers left a b parts refl i.refs' (omega arith) all.0 g.0 rest.blocks (end_line ∷ more) rest later in
    comes_by_keyword (at section.Workers k openers) (codes "either") [] key.Either says.Either ((lines_of_parts (a ∷ b ∷ parts) ++ end_line ∷ []) ++ more) (with_block a (b ∷ parts) rest.blocks rest) refl refl refl refl tt
    (opens k openers i.is_open (omega arith)) refl
    (comes_joined (at section.Workers k (OfEither ∷ openers)) (lines_of_parts (a ∷ b ∷ parts)) (end_line ∷ []) more (with_block a (b ∷ parts) rest.blocks rest) inside)

-- ---- every statement

rolled : (rows : List Row) (m n : Statement) (k : Counts) (openers : List Opener) → n ≡ m → Are rows m k openers → Are rows n k openers
rolled rows m n k openers e h = subst (λ (z : Statement). Are rows z k openers) (sym e) h

abbrev Held : ℕ → Type 0
Held refs = (m : Statement) × IsAgain refs m

each_held : (refs : ℕ) (block : List (Held refs)) → AreAgain refs (map (λ e. e.0) block)
each_held refs [] = tt
each_held refs (m ∷ block) = (m.1, each_held refs block)

parts_held : (refs : ℕ) (parts : List (List (Held refs))) → AllByRecursion (AreAgain refs) (map (map (λ e. e.0)) parts)
parts_held refs [] = tt
parts_held refs (block ∷ parts) = (each_held refs block, parts_held refs parts)

none_below : (n : ℕ) → nat_lt n 0 ≡ true → ⊥
none_below n h = let l = true_lt n 0 h in omega arith

layer_again : (refs : ℕ) → refs ≤ 65536 → (y : Statement-F (Held refs)) (k : Counts) (openers : List Opener) (left : ℕ) → IsIn refs k openers → left + length openers ≡ 33
    → fits_step (without_maps refs) (map-Statement Statement (ℕ → Bool) (fits (without_maps refs)) (map-Statement (Held refs) Statement (λ e. e.0) y)) left ≡ true
    → Are (statement_step (map-Statement Statement (List Row) statement_lines (map-Statement (Held refs) Statement (λ e. e.0) y))) (roll-Statement (map-Statement (Held refs) Statement (λ e. e.0) y)) k openers
layer_again refs l (layer.Const r n) k openers left i d f = rolled (statement_step (layer.Const r n)) (made.Const r n) (roll-Statement (layer.Const r n)) k openers (made.rolls-Const r n) (const_again refs r n k openers i f)
layer_again refs l (layer.Read r c) k openers left i d f = rolled (statement_step (layer.Read r c)) (made.Read r c) (roll-Statement (layer.Read r c)) k openers (made.rolls-Read r c) (read_again refs r c k openers l i f)
layer_again refs l (layer.Write c x) k openers left i d f = rolled (statement_step (layer.Write c x)) (made.Write c x) (roll-Statement (layer.Write c x)) k openers (made.rolls-Write c x) (write_again refs c x k openers l i f)
layer_again refs l (layer.Add r x) k openers left i d f = rolled (statement_step (layer.Add r x)) (made.Add r x) (roll-Statement (layer.Add r x)) k openers (made.rolls-Add r x) (add_again refs r x k openers i f)
layer_again refs l (layer.Sub r x) k openers left i d f = rolled (statement_step (layer.Sub r x)) (made.Sub r x) (roll-Statement (layer.Sub r x)) k openers (made.rolls-Sub r x) (sub_again refs r x k openers i f)
layer_again refs l (layer.Print x) k openers left i d f = rolled (statement_step (layer.Print x)) (made.Print x) (roll-Statement (layer.Print x)) k openers (made.rolls-Print x) (print_again refs x k openers i f)
layer_again refs l (layer.Check x y c) k openers left i d f = rolled (statement_step (layer.Check x y c)) (made.Check x y c) (roll-Statement (layer.Check x y c)) k openers (made.rolls-Check x y c) (check_again refs x y c k openers i f)
layer_again refs l (layer.Need x y) k openers left i d f = rolled (statement_step (layer.Need x y)) (made.Need x y) (roll-Statement (layer.Need x y)) k openers (made.rolls-Need x y) (need_again refs x y k openers i f)
layer_again refs l (layer.Move a b x) k openers left i d f = rolled (statement_step (layer.Move a b x)) (made.Move a b x) (roll-Statement (layer.Move a b x)) k openers (made.rolls-Move a b x) (move_again refs a b x k openers l i f)
layer_again refs l (layer.Inner r block) k openers left i d f =
    let ms : List Statement = map (λ e. e.0) block in
    rolled (statement_step (layer.Inner r (map statement_lines ms))) (made.Inner r ms) (roll-Statement (layer.Inner r ms)) k openers (made.rolls-Inner r ms) (inner_again refs r ms (each_held refs block) k openers left i d f)
layer_again refs l (layer.Either parts) k openers left i d f =
    let ps : List (List Statement) = map (map (λ e. e.0)) parts in
    rolled (statement_step (layer.Either (map (map statement_lines) ps))) (made.Either ps) (roll-Statement (layer.Either ps)) k openers (made.rolls-Either ps) (either_again refs ps (parts_held refs parts) k openers left i d f)
layer_again refs l (layer.Late block) k openers left i d f =
    let ms : List Statement = map (λ e. e.0) block in
    rolled (statement_step (layer.Late (map statement_lines ms))) (made.Late ms) (roll-Statement (layer.Late ms)) k openers (made.rolls-Late ms) (late_again refs ms (each_held refs block) k openers left i d f)
layer_again refs l (layer.Hook p t) k openers left i d f = rolled (statement_step (layer.Hook p t)) (made.Hook p t) (roll-Statement (layer.Hook p t)) k openers (made.rolls-Hook p t) (hook_again refs p t k openers i f)
layer_again refs l (layer.Put m x y) k openers left i d f = let e = both (nat_lt m 0 && operand_fits x) (operand_fits y) f in absurd (none_below m (both (nat_lt m 0) (operand_fits x) e.0).0)
layer_again refs l (layer.Del m x) k openers left i d f = absurd (none_below m (both (nat_lt m 0) (operand_fits x) f).0)
layer_again refs l (layer.Look r m x y) k openers left i d f =
    let e = both (is_register r && nat_lt m 0 && operand_fits x) (operand_fits y) f in let g = both (is_register r && nat_lt m 0) (operand_fits x) e.0 in
    absurd (none_below m (both (is_register r) (nat_lt m 0) g.0).1)
layer_again refs l (layer.LookSlot r s x y) k openers left i d f =
    let e = both (is_register r && nat_lt s 0 && operand_fits x) (operand_fits y) f in let g = both (is_register r && nat_lt s 0) (operand_fits x) e.0 in
    absurd (none_below s (both (is_register r) (nat_lt s 0) g.0).1)
layer_again refs l (layer.Snap s m) k openers left i d f = absurd (none_below s (both (nat_lt s 0) (nat_lt m 0) f).0)
layer_again refs l (layer.Share a b) k openers left i d f = absurd (none_below a (both (nat_lt a 0) (nat_lt b 0) f).0)

-- The lines of each statement say it wherever it fits.
pub statement_again : (refs : ℕ) → refs ≤ 65536 → (m : Statement) → IsAgain refs m
statement_again refs l = ind-Statement (IsAgain refs) (λ x y is k openers left i d f.
    let g = subst (λ (z : Statement-F Statement). (fits_step (without_maps refs) (map-Statement Statement (ℕ → Bool) (fits (without_maps refs)) z) left ≡ true → Are (statement_step (map-Statement Statement (List Row) statement_lines z)) (roll-Statement z) k openers)) is (layer_again refs l y k openers left i d) in
    let f' : fits_step (without_maps refs) (map-Statement Statement (ℕ → Bool) (fits (without_maps refs)) x) left ≡ true = ap (λ (t : ℕ → Bool). t left) (sym (fold-roll-Statement (ℕ → Bool) (fits_step (without_maps refs)) x)) ∙ f in
    subst (λ (rows : List Row). Are rows (roll-Statement x) k openers) (sym (fold-roll-Statement (List Row) statement_step x)) (g f'))

pub statements_again : (refs : ℕ) → refs ≤ 65536 → (block : List Statement) → AreAgain refs block
statements_again refs l [] = tt
statements_again refs l (m ∷ block) = (statement_again refs l m, statements_again refs l block)
