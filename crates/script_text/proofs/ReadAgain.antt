-- Lines that are read from their end: what comes of a row in front of rows whose meaning is known.
use Rattle.std.proofs.Common.{◌≡◌, ℕ, ◌+◌, true, false, nat_eq, IsTrue, List, [], ◌∷◌, Some, None, Result, Ok, Err, ◌++◌, refl, sym, ap, subst, ◌∙◌, append_assoc, arith}
use Rattle.std.proofs.lemmas.Bool.Decides.{nat_tests}
use Rattle.std.specs.List.{list_all, AllByRecursion}
use Rattle.text_lines.specs.Lines.{Row, is_nonempty, is_visible, is_word, AreWords}
use Rattle.text_lines.proofs.Lists.{both, and_true, list_all-weaker}
use Rattle.ledger_model.specs.declared.reason.Reason.{Reason}
use Rattle.script_text.specs.declared.keyword.Keyword.{Keyword}
use Rattle.script_text.specs.declared.line.Line.{Line}
use Rattle.script_text.specs.declared.section.Section.{Section}
use Rattle.script_text.specs.declared.section.Section.TheVariants as section
use Rattle.script_text.specs.Words.{◌>>=◌, keyword_of}
use Rattle.script_text.specs.Line.{said}
use Rattle.script_text.specs.Standing.{Standing, after, read_row, read_at, said_at, misplaced, rank}
use Rattle.script_text.specs.JobText.{may_occur, is_clean, is_skipped, begins_with_hash, lines_said, Remainder, in_front, rest_of}

-- ---- rows that have a meaning

-- what the lines from some place on say together
abbrev pub rest_from : Standing → ℕ → List Row → Result Remainder (ℕ × Reason)
rest_from p n rows = lines_said p n rows >>= λ said. Ok (rest_of said)

-- The rows are of words, and from this place on they say this, wherever they stand in a text.
pub record Comes (p : Standing) (rows : List Row) (rest : Remainder) : Type 0 where
  pub words : AllByRecursion AreWords rows
  pub is : (n : ℕ) → rest_from p n rows ≡ Ok rest

-- two lists of rows, one after another
pub comes_joined : (p : Standing) (xs ys more : List Row) (rest : Remainder) → Comes p (xs ++ (ys ++ more)) rest → Comes p ((xs ++ ys) ++ more) rest
comes_joined p xs ys more rest h = subst (λ (rows : List Row). Comes p rows rest) (sym (append_assoc xs ys more)) h

visible_may_occur : (b : ℕ) → is_visible b ≡ true → may_occur b ≡ true
visible_may_occur b h = grind (arith, nat_tests)

-- words have no byte that may not occur
pub words_are_clean : (row : Row) → AreWords row → is_clean row ≡ true
words_are_clean [] h = refl
words_are_clean (w ∷ row) h =
    and_true (list_all may_occur w) (is_clean row)
    (list_all-weaker is_visible may_occur visible_may_occur w (both (is_nonempty w) (list_all is_visible w) h.0).1)
    (words_are_clean row h.1)

in_front_of : (line : Line) (r : Result (List Line) (ℕ × Reason)) (rest : Remainder) → (r >>= λ said. Ok (rest_of said)) ≡ Ok rest
    → ((r >>= λ more. Ok (line ∷ more)) >>= λ said. Ok (rest_of said)) ≡ Ok (in_front line rest)
in_front_of line (Ok said) rest h = let e : rest_of said ≡ rest = cc in ap (λ (z : Remainder). Ok (in_front line z)) e
in_front_of line (Err e) rest h = cc

-- a row of words that says a line, in front of rows that have a meaning
pub comes_first : (p : Standing) (row : Row) (line : Line) (more : List Row) (rest : Remainder) → AreWords row → is_skipped row ≡ false → read_row p row ≡ Ok line
    → Comes (after p line) more rest → Comes p (row ∷ more) (in_front line rest)
comes_first p row line more rest w k e h = record {
  words = (w, h.words);
  is = λ n. rw (words_are_clean row w, k, e) (in_front_of line (lines_said (after p line) (n + 1) more) rest (h.is (n + 1)));
}

-- behind the head a row is read by its first word
pub read_behind : (c : Section) (p : Standing) (word : List ℕ) (args : Row) → nat_eq (rank c) 0 ≡ false → read_at c p (word ∷ args) ≡ said_at p (keyword_of word) args
read_behind section.Start p word args h = cc
read_behind section.Head p word args h = refl
read_behind section.Refs p word args h = refl
read_behind section.Openings p word args h = refl
read_behind section.Workers p word args h = refl
read_behind section.Steps p word args h = refl

-- a keyword that may stand there, with words that say a line
pub said_there : (p : Standing) (word : List ℕ) (args : Row) (keyword : Keyword) (line : Line) → nat_eq (rank p.come_to) 0 ≡ false → keyword_of word ≡ Some keyword
    → misplaced p keyword args ≡ None → said p.refs p.workers keyword args ≡ Ok line → read_row p (word ∷ args) ≡ Ok line
said_there p word args keyword line b k m s = read_behind p.come_to p word args b ∙ rw (k, m, s) refl

pub comes_by_keyword : (p : Standing) (word : List ℕ) (args : Row) (keyword : Keyword) (line : Line) (more : List Row) (rest : Remainder)
    → nat_eq (rank p.come_to) 0 ≡ false → IsTrue (is_word word) → begins_with_hash word ≡ false → keyword_of word ≡ Some keyword → AreWords args
    → misplaced p keyword args ≡ None → said p.refs p.workers keyword args ≡ Ok line
    → Comes (after p line) more rest → Comes p ((word ∷ args) ∷ more) (in_front line rest)
comes_by_keyword p word args keyword line more rest b w g k a m s h =
    comes_first p (word ∷ args) line more rest (w, a) g (said_there p word args keyword line b k m s) h
