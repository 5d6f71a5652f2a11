-- The line of a row is a row of words, and rows that differ have lines that differ.
use Rattle.std.proofs.Common.{◌≡◌, ℕ, zero, suc, ◌+◌, Bool, true, false, not, nat_eq, nat_le, IsTrue, List, [], ◌∷◌, ◌++◌, map, length, slice_index, refl, sym, ap, ◌∙◌, append_assoc, arith, codes, decimal}
use Rattle.std.proofs.lemmas.Fmt.{decimal_injective}
use Rattle.std.specs.List.{AllByRecursion, list_all}
use Rattle.stm_model.specs.declared.cause.HookPhase.{HookPhase}
use Rattle.stm_model.specs.declared.cause.HookPhase.TheVariants.{Preparing, Committing, Commit, Rollback, Completion}
use Rattle.text_lines.specs.Lines.{Row as Line, is_word, AreWords}
use Rattle.text_lines.proofs.Lists.{AllByRecursion-append, AllByRecursion-map, heads_same, stops, front_same, map_same}
use Rattle.text_lines.proofs.NumberLemmas.{all_digits, decimal_digits, decimal_word}
use Rattle.ledger_model.specs.declared.listing.Row.{Row}
use Rattle.ledger_model.specs.declared.listing.RowResult.{RowResult}
use Rattle.ledger_model.specs.declared.listing.RowResult.TheVariants.{Done, Fail, Spent, Full}
use Rattle.ledger_model.specs.Report.{kind_word, result_words, print_words, phase_word, run_word, drawn_words, row_line}
use Rattle.ledger_model.specs.Reported.{PrintsIfDone}
use Rattle.host_report.specs.WithinTypes.{IsWord, IsResultWithinTypes, IsRunWithinTypes, IsRowWithinTypes}
use Rattle.host_report.proofs.WordLemmas.{all_pass, first_byte, word_join, name_is_word, name_same}

-- ---- tests of words

-- A first byte from 'a' on. Handler runs begin so, and numbers and drawn blocks don't.
abbrev begins_low : List ℕ → Bool
begins_low word = nat_le 97 (first_byte word)

abbrev no_colon : ℕ → Bool
no_colon b = not (nat_eq b 58)

-- ---- they are words

kind_is_word : (writer : Bool) → IsTrue (is_word (kind_word writer))
kind_is_word true = refl
kind_is_word false = refl

results_are_words : (r : RowResult) → IsResultWithinTypes r → AreWords (result_words r)
results_are_words Done h = (refl, tt)
results_are_words (Fail code) h = (refl, (decimal_word code (omega arith), tt))
results_are_words Spent h = (refl, tt)
results_are_words (Full used allowance) h = (refl, (decimal_word used h.0, (decimal_word allowance h.1, tt)))

phase_is_word : (phase : HookPhase) → IsTrue (is_word (phase_word phase))
phase_is_word Preparing = refl
phase_is_word Committing = refl
phase_is_word Commit = refl
phase_is_word Rollback = refl
phase_is_word Completion = refl

run_is_word : (run : HookPhase × ℕ) → IsRunWithinTypes run → IsTrue (is_word (run_word run))
run_is_word run h = word_join (phase_word run.0 ++ codes ":") (decimal run.1) (word_join (phase_word run.0) (codes ":") (phase_is_word run.0) refl) (decimal_word run.1 h)

drawn_are_words : (n : ℕ) → IsWord n → AreWords (drawn_words n)
drawn_are_words zero h = tt
drawn_are_words (suc n) h = (word_join (codes "+") (decimal (suc n)) refl (decimal_word (suc n) h), tt)

prints_are_words : (r : RowResult) (prints : List ℕ) → (r ≡ Done → AllByRecursion IsWord prints) → AreWords (print_words r prints)
prints_are_words Done prints h = AllByRecursion-map IsWord (λ w. IsTrue (is_word w)) decimal decimal_word prints (h refl)
prints_are_words (Fail code) prints h = tt
prints_are_words Spent prints h = tt
prints_are_words (Full used allowance) prints h = tt

-- the line of a row is a row of words
pub row_line_of_words : (row : Row) → IsRowWithinTypes row → AreWords (row_line row)
row_line_of_words row h =
    let runs = AllByRecursion-append (λ w. IsTrue (is_word w)) (map run_word row.runs) (drawn_words row.drawn)
    (AllByRecursion-map IsRunWithinTypes (λ w. IsTrue (is_word w)) run_word run_is_word row.runs h.runs) (drawn_are_words row.drawn h.drawn) in
    let prints = AllByRecursion-append (λ w. IsTrue (is_word w)) (print_words row.result row.prints) (map run_word row.runs ++ drawn_words row.drawn)
    (prints_are_words row.result row.prints h.prints) runs in
    let rest = AllByRecursion-append (λ w. IsTrue (is_word w)) (result_words row.result) (print_words row.result row.prints ++ (map run_word row.runs ++ drawn_words row.drawn))
    (results_are_words row.result h.result) prints in
    (decimal_word row.position h.position, (kind_is_word row.writer, (name_is_word row.worker row.number h.name, rest)))

-- ---- they tell what they were made of

kind_same : (a b : Bool) → kind_word a ≡ kind_word b → a ≡ b
kind_same true true e = refl
kind_same false false e = refl
kind_same a b e = let t = ap first_byte e in absurd (omega arith)

-- the second letter of the first word, which tells results apart
abbrev second_letter : Line → ℕ
second_letter (word ∷ line) = slice_index word 1
second_letter [] = 0

result_same : (a b : RowResult) (r s : Line) → IsResultWithinTypes a → IsResultWithinTypes b → (result_words a ++ r) ≡ (result_words b ++ s) → (a ≡ b) × (r ≡ s)
result_same Done Done r s h k e = (refl, cc)
result_same (Fail c) (Fail d) r s h k e =
    let t : decimal c ≡ decimal d = cc in
    (ap Fail (decimal_injective c d (omega arith) (omega arith) t), cc)
result_same Spent Spent r s h k e = (refl, cc)
result_same (Full c m) (Full d n) r s h k e =
    let t : decimal c ≡ decimal d = cc in
    let u : decimal m ≡ decimal n = cc in
    let v = decimal_injective c d h.0 k.0 t in
    let w = decimal_injective m n h.1 k.1 u in
    (rw (v, w) refl, cc)
result_same a b r s h k e = let t = ap second_letter e in absurd (omega arith)

-- what was printed is fixed by its words, where what didn't take place printed nothing
prints_same : (r s : RowResult) (ps qs : List ℕ) → r ≡ s → (r ≡ Done → AllByRecursion IsWord ps) → (s ≡ Done → AllByRecursion IsWord qs)
    → PrintsIfDone r ps → PrintsIfDone s qs → print_words r ps ≡ print_words s qs → ps ≡ qs
prints_same Done Done ps qs f h k p q e = map_same IsWord decimal decimal_injective ps qs (h refl) (k refl) e
prints_same Done (Fail d) ps qs f h k p q e = cc
prints_same Done Spent ps qs f h k p q e = cc
prints_same Done (Full d n) ps qs f h k p q e = cc
prints_same (Fail c) Done ps qs f h k p q e = cc
prints_same Spent Done ps qs f h k p q e = cc
prints_same (Full c m) Done ps qs f h k p q e = cc
prints_same r s ps qs f h k p q e = p ∙ sym q

-- a number that differs at words of different phases
abbrev mark : List ℕ → ℕ
mark word = length word + slice_index word 3

phase_same : (p q : HookPhase) → phase_word p ≡ phase_word q → p ≡ q
phase_same Preparing Preparing e = refl
phase_same Committing Committing e = refl
phase_same Commit Commit e = refl
phase_same Rollback Rollback e = refl
phase_same Completion Completion e = refl
phase_same p q e = let t = ap mark e in absurd (omega arith)

no_colons : (phase : HookPhase) → list_all no_colon (phase_word phase) ≡ true
no_colons Preparing = refl
no_colons Committing = refl
no_colons Commit = refl
no_colons Rollback = refl
no_colons Completion = refl

run_same : (a b : HookPhase × ℕ) → IsRunWithinTypes a → IsRunWithinTypes b → run_word a ≡ run_word b → a ≡ b
run_same a b h k e =
    let t = front_same no_colon (phase_word a.0) (phase_word b.0) (58 ∷ decimal a.1) (58 ∷ decimal b.1) (no_colons a.0) (no_colons b.0) refl refl
    (sym (append_assoc (phase_word a.0) (codes ":") (decimal a.1)) ∙ e ∙ append_assoc (phase_word b.0) (codes ":") (decimal b.1)) in
    let p = phase_same a.0 b.0 t.0 in
    let n = decimal_injective a.1 b.1 h k (heads_same 58 58 (decimal a.1) (decimal b.1) t.1).1 in
    by_parts a b p n where
      by_parts : (a b : HookPhase × ℕ) → a.0 ≡ b.0 → a.1 ≡ b.1 → a ≡ b
      by_parts a b p n = rw (p, n) refl

drawn_same : (m n : ℕ) → IsWord m → IsWord n → drawn_words m ≡ drawn_words n → m ≡ n
drawn_same zero zero h k e = refl
drawn_same zero (suc n) h k e = cc
drawn_same (suc m) zero h k e = cc
drawn_same (suc m) (suc n) h k e = let t : decimal (suc m) ≡ decimal (suc n) = cc in decimal_injective (suc m) (suc n) h k t

-- ---- where one part ends and the next begins

run_begins_low : (run : HookPhase × ℕ) → IsRunWithinTypes run → begins_low (run_word run) ≡ true
run_begins_low (Preparing, n) h = refl
run_begins_low (Committing, n) h = refl
run_begins_low (Commit, n) h = refl
run_begins_low (Rollback, n) h = refl
run_begins_low (Completion, n) h = refl

run_is_no_number : (run : HookPhase × ℕ) → all_digits (run_word run) ≡ false
run_is_no_number (Preparing, n) = refl
run_is_no_number (Committing, n) = refl
run_is_no_number (Commit, n) = refl
run_is_no_number (Rollback, n) = refl
run_is_no_number (Completion, n) = refl

drawn_stop_runs : (n : ℕ) → stops begins_low (drawn_words n) ≡ true
drawn_stop_runs zero = refl
drawn_stop_runs (suc n) = refl

prints_are_numbers : (r : RowResult) (prints : List ℕ) → (r ≡ Done → AllByRecursion IsWord prints) → list_all all_digits (print_words r prints) ≡ true
prints_are_numbers Done prints h = all_pass IsWord all_digits decimal decimal_digits prints (h refl)
prints_are_numbers (Fail code) prints h = refl
prints_are_numbers Spent prints h = refl
prints_are_numbers (Full used allowance) prints h = refl

runs_stop_prints : (runs : List (HookPhase × ℕ)) (n : ℕ) → stops all_digits (map run_word runs ++ drawn_words n) ≡ true
runs_stop_prints [] zero = refl
runs_stop_prints [] (suc n) = refl
runs_stop_prints (run ∷ runs) n = ap not (run_is_no_number run)

-- ---- rows

by_fields : (a b : Row) → a.position ≡ b.position → a.writer ≡ b.writer → a.worker ≡ b.worker → a.number ≡ b.number → a.result ≡ b.result
    → a.prints ≡ b.prints → a.runs ≡ b.runs → a.drawn ≡ b.drawn → a ≡ b
by_fields a b p k w n r ps rs d = rw (p, k, w, n, r, ps, rs, d) refl

-- the row is within its types, and printed nothing where it didn't take place
abbrev pub IsRowShown : Row → Type 0
IsRowShown row = IsRowWithinTypes row × PrintsIfDone row.result row.prints

-- rows with one line are equal
pub row_same : (a b : Row) → IsRowShown a → IsRowShown b → row_line a ≡ row_line b → a ≡ b
row_same a b (h, p) (k, q) e =
    let position : decimal a.position ≡ decimal b.position = cc in
    let kind : kind_word a.writer ≡ kind_word b.writer = cc in
    let name = name_same a.worker a.number b.worker b.number h.name k.name (cc) in
    let result = result_same a.result b.result _ _ h.result k.result (cc) in
    let prints = front_same all_digits (print_words a.result a.prints) (print_words b.result b.prints) (map run_word a.runs ++ drawn_words a.drawn) (map run_word b.runs ++ drawn_words b.drawn)
    (prints_are_numbers a.result a.prints h.prints) (prints_are_numbers b.result b.prints k.prints)
    (runs_stop_prints a.runs a.drawn) (runs_stop_prints b.runs b.drawn) result.1 in
    let runs = front_same begins_low (map run_word a.runs) (map run_word b.runs) (drawn_words a.drawn) (drawn_words b.drawn)
    (all_pass IsRunWithinTypes begins_low run_word run_begins_low a.runs h.runs) (all_pass IsRunWithinTypes begins_low run_word run_begins_low b.runs k.runs)
    (drawn_stop_runs a.drawn) (drawn_stop_runs b.drawn) prints.1 in
    by_fields a b (decimal_injective a.position b.position h.position k.position position) (kind_same a.writer b.writer kind) name.0 name.1 result.0
    (prints_same a.result b.result a.prints b.prints result.0 h.prints k.prints p q prints.0) (map_same IsRunWithinTypes run_word run_same a.runs b.runs h.runs k.runs runs.0)
    (drawn_same a.drawn b.drawn h.drawn k.drawn runs.1)
