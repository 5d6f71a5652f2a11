-- The rows of a text that is a job: its lines, each in its place.
use Rattle.std.proofs.Common.{◌≡◌, ℕ, ◌+◌, Bool, true, false, ◌||◌, not, cond, nat_eq, List, [], ◌∷◌, ◌++◌, map, flat_map, Result, Ok, Err, refl, sym, ap, ◌∙◌, subst, arith, codes}
use Rattle.std.proofs.lemmas.Fmt.{decimal_digit}
use Rattle.std.specs.Str.{bytes_eq}
use Rattle.text_lines.specs.Lines.{Row}
use Rattle.text_lines.specs.Numbers.{plain_word}
use Rattle.text_lines.proofs.Lists.{both as parts}
use Rattle.text_lines.proofs.NumberLemmas.{plain_other}
use Rattle.ledger_model.specs.declared.reason.Reason.{Reason}
use Rattle.ledger_model.specs.declared.reason.Reason.TheVariants.{Byte, Head, Unclosed}
use Rattle.script_text.specs.declared.line.Line.{Line}
use Rattle.script_text.specs.declared.line.Line.TheVariants as says
use Rattle.script_text.specs.declared.section.Section.TheVariants as section
use Rattle.script_text.specs.Words.{◌>>=◌}
use Rattle.script_text.specs.Standing.{Standing, rank, start, after, in_script, read_row, is_head}
use Rattle.script_text.specs.JobText.{at_line, at_end, lines_said, is_clean, is_skipped, begins_with_hash}
use Rattle.script_text.specs.Printing.{head_line}
use Rattle.script_text.specs.Form.{spelled, says_zero}
use Rattle.script_text.proofs.SpelledWords.{bind_ok, ok_same, number_of_other, bytes_same, eq_same}
use Rattle.script_text.proofs.SpelledLines.{kept, line_rows}
use Rattle.script_text.proofs.PlacedLines.{IsSound, Placed, sound_after, row_reads, closed}

-- ---- rows one after another

abbrev counts : Row → Bool
counts row = not (is_skipped row || says_zero row)

pub first_kept : (row : Row) (rows : List Row) → spelled (row ∷ rows) ≡ kept row ++ spelled rows
first_kept row rows = at (counts (map plain_word row)) where
  at : (c : Bool) → cond c (map plain_word row ∷ spelled rows) (spelled rows) ≡ cond c (map plain_word row ∷ []) [] ++ spelled rows
  at true = refl
  at false = refl

plain_hash : (w : List ℕ) → begins_with_hash w ≡ true → plain_word w ≡ w
plain_hash [] h = cc
plain_hash (c ∷ w) h = subst (λ (c : ℕ). plain_word (c ∷ w) ≡ c ∷ w) (sym (eq_same c 35 h)) (plain_other (35 ∷ w) (number_of_other 35 w refl))

skipped : (row : Row) → is_skipped row ≡ true → spelled (row ∷ []) ≡ []
skipped [] h = refl
skipped (w ∷ ws) h =
    ap (λ (b : Bool). cond (not (b || says_zero (map plain_word (w ∷ ws)))) (map plain_word (w ∷ ws) ∷ []) []) (ap begins_with_hash (plain_hash w h) ∙ h)

pub skip_kept : (row : Row) (rows : List Row) → is_skipped row ≡ true → spelled (row ∷ rows) ≡ spelled rows
skip_kept row rows h = first_kept row rows ∙ ap (λ (r : List Row). r ++ spelled rows) (skipped row h)

-- ---- the lines behind the head

pub record Spelt (p : Standing) (rows : List Row) (lines : List Line) : Type 0 where
  pub kept_are : spelled rows ≡ flat_map line_rows lines
  pub placed : Placed p lines

pub line_ok : {A : Type 0} (n : ℕ) (r : Result A Reason) (x : A) → at_line n r ≡ Ok x → r ≡ Ok x
line_ok n (Ok y) x h = ap Ok (ok_same y x h)
line_ok n (Err e) x h = cc

-- what a row that is read brings: it isn't skipped, and its line stands in front of what the further rows say
pub record Took (p : Standing) (n : ℕ) (row : Row) (rows : List Row) (lines : List Line) : Type 0 where
  pub line : Line
  pub more : List Line
  pub read : read_row p row ≡ Ok line
  pub rest : lines_said (after p line) (n + 1) rows ≡ Ok more
  pub are : line ∷ more ≡ lines

took : (p : Standing) (n : ℕ) (row : Row) (rows : List Row) (lines : List Line)
    → (at_line n (read_row p row) >>= λ line. lines_said (after p line) (n + 1) rows >>= λ more. Ok (line ∷ more)) ≡ Ok lines → Took p n row rows lines
took p n row rows lines h =
    let b = bind_ok (at_line n (read_row p row)) (λ line. lines_said (after p line) (n + 1) rows >>= λ more. Ok (line ∷ more)) lines h in
    let c = bind_ok (lines_said (after p b.0) (n + 1) rows) (λ more. Ok (b.0 ∷ more)) lines b.2 in
    record { line = b.0; more = c.0; read = line_ok n (read_row p row) b.0 b.1; rest = c.1; are = ok_same (b.0 ∷ c.0) lines c.2 }

-- a first row is skipped, or it is read
pub by_first : {G : Type 0} (p : Standing) (n : ℕ) (row : Row) (rows : List Row) (lines : List Line) → lines_said p n (row ∷ rows) ≡ Ok lines
    → (is_skipped row ≡ true → lines_said p (n + 1) rows ≡ Ok lines → G) → (Took p n row rows lines → G) → G
by_first {G} p n row rows lines h f g = at_clean (is_clean row) h where
  at_skip : (b : Bool) → is_skipped row ≡ b
      → cond b (lines_said p (n + 1) rows) (at_line n (read_row p row) >>= λ line. lines_said (after p line) (n + 1) rows >>= λ more. Ok (line ∷ more)) ≡ Ok lines → G
  at_skip true e h = f e h
  at_skip false e h = g (took p n row rows lines h)

  at_clean : (b : Bool) → cond (not b) (Err (n, Byte)) (cond (is_skipped row) (lines_said p (n + 1) rows) (at_line n (read_row p row) >>= λ line. lines_said (after p line) (n + 1) rows >>= λ more. Ok (line ∷ more))) ≡ Ok lines → G
  at_clean true h = at_skip (is_skipped row) refl h
  at_clean false h = cc

pub ended : (p : Standing) (n : ℕ) (lines : List Line) → at_line n (at_end p) ≡ Ok lines → (lines ≡ []) × (nat_eq (rank p.come_to) 0 ≡ false) × (p.openers ≡ [])
ended p n lines h = at_rank (nat_eq (rank p.come_to) 0) (in_script p) refl refl (line_ok n (at_end p) lines h) where
  at_rank : (b c : Bool) → nat_eq (rank p.come_to) 0 ≡ b → in_script p ≡ c → cond b (Err Head) (cond c (Err Unclosed) (Ok [])) ≡ Ok lines
      → (lines ≡ []) × (nat_eq (rank p.come_to) 0 ≡ false) × (p.openers ≡ [])
  at_rank true c e f h = cc
  at_rank false true e f h = cc
  at_rank false false e f h = (sym (ok_same [] lines h), e, closed p.openers f)

pub rows_placed : (rows : List Row) (p : Standing) (n : ℕ) (lines : List Line) → IsSound p → lines_said p n rows ≡ Ok lines → Spelt p rows lines
rows_placed [] p n lines s h =
    let e = ended p n lines h in
    subst (Spelt p []) (sym e.0) (record { kept_are = refl; placed = (s, e.2) })
rows_placed (row ∷ rows) p n lines s h = by_first p n row rows lines h
    (λ k e. let i = rows_placed rows p (n + 1) lines s e in record {
      kept_are = skip_kept row rows k ∙ i.kept_are;
      placed = i.placed;
    })
    (λ t. let r = row_reads p row t.line s.begun t.read in
    let i = rows_placed rows (after p t.line) (n + 1) t.more (sound_after p t.line s r.stands) t.rest in
    subst (Spelt p (row ∷ rows)) t.are (record {
      kept_are = first_kept row rows ∙ ap (λ (r : List Row). r ++ spelled rows) r.kept_is ∙ ap (λ (x : List Row). line_rows t.line ++ x) i.kept_are;
      placed = (s, r.stands, i.placed);
    }))

-- ---- the whole text

abbrev pub headed : Standing
headed = record start { come_to = section.Head }

headed_sound : IsSound headed
headed_sound = record { begun = omega arith; among = λ l. absurd (omega arith); workers = omega arith; scripts = omega arith; steps = omega arith }

pub record Begun (rows : List Row) (lines : List Line) : Type 0 where
  pub more : List Line
  pub are : says.Head ∷ more ≡ lines
  pub kept_are : spelled rows ≡ head_line ∷ flat_map line_rows more
  pub placed : Placed headed more

head_is : (row : Row) → is_head row ≡ true → row ≡ head_line
head_is [] h = cc
head_is (a ∷ []) h = cc
head_is (a ∷ b ∷ []) h =
    let e = parts (bytes_eq a (codes "stm")) (bytes_eq b (codes "1")) h in
    ap (λ (w : List ℕ). w ∷ b ∷ []) (bytes_same a (codes "stm") e.0) ∙ ap (λ (w : List ℕ). codes "stm" ∷ w ∷ []) (bytes_same b (codes "1") e.1)
head_is (a ∷ b ∷ c ∷ more) h = cc

head_kept : kept head_line ≡ head_line ∷ []
head_kept = ap (λ (w : List ℕ). (codes "stm" ∷ w ∷ []) ∷ []) (decimal_digit 1 (omega arith))

head_read : (row : Row) (line : Line) → read_row start row ≡ Ok line → (row ≡ head_line) × (says.Head ≡ line)
head_read row line h = at (is_head row) refl h where
  at : (b : Bool) → is_head row ≡ b → cond b (Ok says.Head) (Err Head) ≡ Ok line → (row ≡ head_line) × (says.Head ≡ line)
  at true e h = (head_is row e, ok_same says.Head line h)
  at false e h = cc

pub rows_begun : (rows : List Row) (n : ℕ) (lines : List Line) → lines_said start n rows ≡ Ok lines → Begun rows lines
rows_begun [] n lines h = let e = ended start n lines h in let f = e.1 in cc
rows_begun (row ∷ rows) n lines h = by_first start n row rows lines h
    (λ k e. let i = rows_begun rows (n + 1) lines e in record {
      more = i.more;
      are = i.are;
      kept_are = skip_kept row rows k ∙ i.kept_are;
      placed = i.placed;
    })
    (λ t. let e = head_read row t.line t.read in
    let i = rows_placed rows headed (n + 1) t.more headed_sound (subst (λ (l : Line). lines_said (after start l) (n + 1) rows ≡ Ok t.more) (sym e.1) t.rest) in record {
      more = t.more;
      are = ap (λ (l : Line). l ∷ t.more) e.1 ∙ t.are;
      kept_are = first_kept row rows ∙ ap (λ (r : Row). kept r ++ spelled rows) e.0 ∙ ap (λ (r : List Row). r ++ spelled rows) head_kept ∙ ap (λ (r : List Row). head_line ∷ r) i.kept_are;
      placed = i.placed;
    })
