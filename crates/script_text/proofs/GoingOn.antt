-- What the rows make from one on, where the reader takes it, skips it or refuses it.
use Rattle.std.proofs.Common.{◌≡◌, ℕ, ◌+◌, Bool, true, false, if◌then◌else◌, nat_eq, List, [], ◌∷◌, map, Option, Some, None, Result, Ok, Err, refl, sym, ap, subst, ◌∙◌, arith}
use Rattle.std.specs.Prelude.{⊤}
use Rattle.std.specs.List.{list_all}
use Rattle.text_lines.specs.Lines.{Row, lines, words}
use Rattle.ledger_model.specs.declared.job.Job.{Job}
use Rattle.ledger_model.specs.declared.reason.Reason.{Reason}
use Rattle.ledger_model.specs.declared.reason.Reason.TheVariants.{Byte, Head, Unclosed}
use Rattle.script_text.specs.declared.fault.Fault.{Fault}
use Rattle.script_text.specs.declared.fault.Fault.TheVariants as fault
use Rattle.script_text.specs.declared.keyword.Keyword.{Keyword}
use Rattle.script_text.specs.declared.line.Line.{Line}
use Rattle.script_text.specs.declared.line.Line.TheVariants as says
use Rattle.script_text.specs.declared.section.Section.{Section}
use Rattle.script_text.specs.declared.section.Section.TheVariants as section
use Rattle.script_text.specs.declared.reader.Reader.{Reader}
use Rattle.script_text.specs.Words.{◌>>=◌, keyword_of}
use Rattle.script_text.specs.Standing.{Standing, after, in_script, rank, is_head, misplaced, said_at, read_at, read_row}
use Rattle.script_text.specs.Line.{said}
use Rattle.script_text.specs.JobText.{may_occur, is_clean, is_skipped, begins_with_hash, at_line, lines_said, rest_of, nothing}
use Rattle.script_text.specs.Reading.{standing_of, job_so_far, job_from, come_to, Took, TookSaid, Follows, Reads}
use Rattle.script_text.proofs.CleanLine.{clean_line}

-- what the reader makes of what is said behind it
abbrev completed : Reader → Result (List Line) (ℕ × Reason) → Result Job (ℕ × Reason)
completed reader said = said >>= λ lines. Ok (job_so_far reader (rest_of lines))

said_first : (p : Standing) (n : ℕ) (word : List ℕ) (args : Row) (rows : List Row) → is_clean (word ∷ args) ≡ true → begins_with_hash word ≡ false
    → lines_said p n ((word ∷ args) ∷ rows) ≡ (at_line n (read_row p (word ∷ args)) >>= λ line. lines_said (after p line) (n + 1) rows >>= λ more. Ok (line ∷ more))
said_first p n word args rows c h = rw c (rw h refl)

with_line : (old new : Reader) (line : Line) → Took old new line → (said : Result (List Line) (ℕ × Reason))
    → completed old (said >>= λ more. Ok (line ∷ more)) ≡ completed new said
with_line old new line took (Ok more) = ap Ok (sym (took.job (rest_of more)))
with_line old new line took (Err e) = refl

pub goes_on : (old new : Reader) (word : List ℕ) (args : Row) → is_clean (word ∷ args) ≡ true → begins_with_hash word ≡ false
    → TookSaid old new (read_row (standing_of old) (word ∷ args))
    → (n : ℕ) (rows : List Row) → job_from old n ((word ∷ args) ∷ rows) ≡ job_from new (n + 1) rows
goes_on old new word args c h t n rows = ap (completed old) (said_first (standing_of old) n word args rows c h) ∙ by (read_row (standing_of old) (word ∷ args)) t where
  by : (r : Result Line Reason) → TookSaid old new r
      → completed old (at_line n r >>= λ line. lines_said (after (standing_of old) line) (n + 1) rows >>= λ more. Ok (line ∷ more)) ≡ job_from new (n + 1) rows
  by (Ok line) took = with_line old new line took (lines_said (after (standing_of old) line) (n + 1) rows)
      ∙ ap (λ (p : Standing). completed new (lines_said p (n + 1) rows)) (sym took.place)
  by (Err e) none = absurd none

pub refused_row : (old : Reader) (word : List ℕ) (args : Row) (reason : Reason) → is_clean (word ∷ args) ≡ true → begins_with_hash word ≡ false
    → read_row (standing_of old) (word ∷ args) ≡ Err reason
    → (n : ℕ) (rows : List Row) → job_from old n ((word ∷ args) ∷ rows) ≡ Err (n, reason)
refused_row old word args reason c h e n rows = ap (completed old) (said_first (standing_of old) n word args rows c h
    ∙ ap (λ (r : Result Line Reason). at_line n r >>= λ line. lines_said (after (standing_of old) line) (n + 1) rows >>= λ more. Ok (line ∷ more)) e)

pub unclean_row : (old : Reader) (row : Row) → is_clean row ≡ false → (n : ℕ) (rows : List Row) → job_from old n (row ∷ rows) ≡ Err (n, Byte)
unclean_row old row c n rows = rw c refl

pub skipped_row : (old : Reader) (row : Row) → is_clean row ≡ true → is_skipped row ≡ true → (n : ℕ) (rows : List Row) → job_from old n (row ∷ rows) ≡ job_from old (n + 1) rows
skipped_row old row c s n rows = rw c (rw s refl)

-- ---- the end

pub no_head : (reader : Reader) → nat_eq (rank (standing_of reader).come_to) 0 ≡ true → (n : ℕ) → job_from reader n [] ≡ Err (n, Head)
no_head reader h n = rw h refl

pub unclosed : (reader : Reader) → nat_eq (rank (standing_of reader).come_to) 0 ≡ false → in_script (standing_of reader) ≡ true → (n : ℕ) → job_from reader n [] ≡ Err (n, Unclosed)
unclosed reader h s n = rw h (rw s refl)

pub whole : (reader : Reader) → nat_eq (rank (standing_of reader).come_to) 0 ≡ false → in_script (standing_of reader) ≡ false → (n : ℕ) → job_from reader n [] ≡ Ok (job_so_far reader nothing)
whole reader h s n = rw h (rw s refl)

-- ---- what a row says, by the part come to

is_start : (p : Section) → rank p ≡ 0 → p ≡ section.Start
is_start section.Start e = refl
is_start section.Head e = absurd (omega (arith, e))
is_start section.Refs e = absurd (omega (arith, e))
is_start section.Openings e = absurd (omega (arith, e))
is_start section.Workers e = absurd (omega (arith, e))
is_start section.Steps e = absurd (omega (arith, e))

read_first : (q : Section) (p : Standing) (row : Row) → q ≡ section.Start → read_at q p row ≡ (if is_head row then Ok says.Head else Err Head)
read_first q p row e = rw e refl

read_other : (q : Section) (p : Standing) (word : List ℕ) (args : Row) → (rank q ≡ 0 → ⊥) → read_at q p (word ∷ args) ≡ said_at p (keyword_of word) args
read_other section.Start p word args h = absurd (h refl)
read_other section.Head p word args h = refl
read_other section.Refs p word args h = refl
read_other section.Openings p word args h = refl
read_other section.Workers p word args h = refl
read_other section.Steps p word args h = refl

took_said : (old new : Reader) (given : Result Line Reason) (line : Line) → given ≡ Ok line → Took old new line → TookSaid old new given
took_said old new given line e took = rw e took

pub head_row : (old new : Reader) (row : Row) → rank (come_to old.come_to old.refs) ≡ 0 → is_head row ≡ true → Took old new says.Head → TookSaid old new (read_row (standing_of old) row)
head_row old new row r h took = took_said old new (read_row (standing_of old) row) says.Head
    (read_first (come_to old.come_to old.refs) (standing_of old) row (is_start (come_to old.come_to old.refs) r) ∙ ap (λ (b : Bool). if b then Ok says.Head else Err Head) h) took

pub no_head_row : (old : Reader) (row : Row) → rank (come_to old.come_to old.refs) ≡ 0 → is_head row ≡ false → read_row (standing_of old) row ≡ Err Head
no_head_row old row r h = read_first (come_to old.come_to old.refs) (standing_of old) row (is_start (come_to old.come_to old.refs) r) ∙ ap (λ (b : Bool). if b then Ok says.Head else Err Head) h

pub other_row : (result : Result ⊤ Fault) (old new : Reader) (word : List ℕ) (args : Row) (keyword : Option Keyword) → (rank (come_to old.come_to old.refs) ≡ 0 → ⊥) → keyword_of word ≡ keyword
    → Follows result old new (said_at (standing_of old) keyword args) → Follows result old new (read_row (standing_of old) (word ∷ args))
other_row result old new word args keyword r k h = subst (Follows result old new) (sym (read_other (come_to old.come_to old.refs) (standing_of old) word args r ∙ ap (λ (o : Option Keyword). said_at (standing_of old) o args) k)) h

pub keyword_said : (old new : Reader) (keyword : Keyword) (args : Row) (line : Line) → misplaced (standing_of old) keyword args ≡ None
    → said (standing_of old).refs (standing_of old).workers keyword args ≡ Ok line → Took old new line → TookSaid old new (said_at (standing_of old) (Some keyword) args)
keyword_said old new keyword args line m s took = took_said old new (said_at (standing_of old) (Some keyword) args) line (rw m s) took

-- ---- lines

pub line_read : (result : Result ⊤ Fault) (old new : Reader) (line word : List ℕ) (args : Row) → words line ≡ word ∷ args → list_all may_occur line ≡ true → begins_with_hash word ≡ false
    → Follows result old new (read_row (standing_of old) (word ∷ args)) → Reads result old new (words line)
line_read result old new line word args w c h f = subst (Reads result old new) (sym w) (by result f) where
  clean : is_clean (word ∷ args) ≡ true
  clean = ap is_clean (sym w) ∙ clean_line line ∙ c

  by : (result : Result ⊤ Fault) → Follows result old new (read_row (standing_of old) (word ∷ args)) → Reads result old new (word ∷ args)
  by (Ok x) f = goes_on old new word args clean h f
  by (Err fault.Memory) f = tt
  by (Err (fault.Refused reason)) f = refused_row old word args reason clean h f

pub line_skipped : (old : Reader) (line word : List ℕ) (args : Row) → words line ≡ word ∷ args → list_all may_occur line ≡ true → begins_with_hash word ≡ true
    → (n : ℕ) (rows : List Row) → job_from old n (words line ∷ rows) ≡ job_from old (n + 1) rows
line_skipped old line word args w c h = skipped_row old (words line) (clean_line line ∙ c) (ap is_skipped w ∙ h)

pub line_empty : (old : Reader) (line : List ℕ) → words line ≡ [] → list_all may_occur line ≡ true
    → (n : ℕ) (rows : List Row) → job_from old n (words line ∷ rows) ≡ job_from old (n + 1) rows
line_empty old line w c = skipped_row old (words line) (clean_line line ∙ c) (ap is_skipped w)

pub line_unclean : (old : Reader) (line : List ℕ) → list_all may_occur line ≡ false → (n : ℕ) (rows : List Row) → job_from old n (words line ∷ rows) ≡ Err (n, Byte)
line_unclean old line c = unclean_row old (words line) (clean_line line ∙ c)

-- ---- texts

pub text_goes_on : (old new : Reader) (n : ℕ) (rest line after : List ℕ) (goal : Result Job (ℕ × Reason)) → job_from old n (map words (lines rest)) ≡ goal
    → lines rest ≡ line ∷ lines after → ((n : ℕ) (rows : List Row) → job_from old n (words line ∷ rows) ≡ job_from new (n + 1) rows)
    → job_from new (n + 1) (map words (lines after)) ≡ goal
text_goes_on old new n rest line after goal i c h = sym (h n (map words (lines after))) ∙ ap (λ (ls : List (List ℕ)). job_from old n (map words ls)) (sym c) ∙ i

pub text_refused : (old : Reader) (n : ℕ) (rest line after : List ℕ) (reason : Reason) (goal : Result Job (ℕ × Reason)) → job_from old n (map words (lines rest)) ≡ goal
    → lines rest ≡ line ∷ lines after → ((n : ℕ) (rows : List Row) → job_from old n (words line ∷ rows) ≡ Err (n, reason)) → goal ≡ Err (n, reason)
text_refused old n rest line after reason goal i c h = sym i ∙ ap (λ (ls : List (List ℕ)). job_from old n (map words ls)) c ∙ h n (map words (lines after))
