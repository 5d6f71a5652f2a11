-- Lines that are read: their rows are the canonical ones, and what they say is within the limits.
use Rattle.std.proofs.Common.{◌≡◌, ℕ, zero, suc, ◌<◌, ◌≤◌, ◌^◌, Bool, true, false, ◌&&◌, not, cond, nat_eq, nat_le, if◌then◌else◌, List, [], ◌∷◌, length, map, get_or, Ok, refl, sym, ap, ◌∙◌, subst, arith, codes, decimal}
use Rattle.std.proofs.lemmas.Bool.Decides.{nat_tests}
use Rattle.std.proofs.lemmas.Fmt.{decimal_digit, first_decimal}
use Rattle.std.specs.List.{AllByRecursion}
use Rattle.std.specs.Str.{bytes_eq}
use Rattle.text_lines.specs.Lines.{Row}
use Rattle.text_lines.specs.Numbers.{plain_word}
use Rattle.text_lines.proofs.Lists.{both as parts, and_true}
use Rattle.ledger_model.specs.Fits.{Places, fits}
use Rattle.ledger_model.specs.declared.script.Statement.{Statement}
use Rattle.ledger_model.specs.declared.script.Statement.TheVariants as made
use Rattle.script_text.specs.declared.keyword.Keyword.{Keyword}
use Rattle.script_text.specs.declared.keyword.Keyword.TheVariants as key
use Rattle.script_text.specs.declared.line.Line.{Line}
use Rattle.script_text.specs.declared.line.Line.TheVariants as says
use Rattle.script_text.specs.Words.{◌>>=◌, keyword_word, both, from_one_to, one_word, two_words, three_words}
use Rattle.script_text.specs.Line.{one, two, three, workers_of, statement_of}
use Rattle.script_text.specs.Printing.{register_word, opening_line, header_lines, steps_line, head_line, end_line, statement_lines}
use Rattle.script_text.specs.Form.{spelled}
use Rattle.script_text.proofs.SpelledWords.{Way, bind_ok, ok_same, both_ok, one_ok, two_ok, three_ok, number_way, below_way, register_way, operand_way, code_way, phase_way, from_one_way, true_le}
use Rattle.script_text.proofs.SimpleStatements.{Simple, made_of, layer_of, row_of, simple_lines, simple_fits, simple_fits_is}
use Rattle.script_text.proofs.SimpleStatements as stmt

-- ---- words, each read in its own way

pub record One {A C : Type 0} (k : Way A) (make : A → C) (args : Row) (z : C) : Type 0 where
  pub x : A
  pub is : make x ≡ z
  pub plain : map plain_word args ≡ k.word_of x ∷ []
  pub fits : k.fits x ≡ true

pub one_says : {A C : Type 0} (k : Way A) (make : A → C) (args : Row) (z : C) → one k.read make args ≡ Ok z → One k make args z
one_says k make args z h =
    let w = bind_ok (one_word args) (λ w. k.read w >>= λ x. Ok (make x)) z h in
    let b = bind_ok (k.read w.0) (λ x. Ok (make x)) z w.2 in
    record {
      x = b.0;
      is = ok_same (make b.0) z b.2;
      plain = ap (map plain_word) (one_ok args w.0 w.1) ∙ ap (λ (v : List ℕ). v ∷ []) (k.plain w.0 b.0 b.1);
      fits = k.within w.0 b.0 b.1;
    }

two_same : (a b c d : List ℕ) → a ≡ c → b ≡ d → ◌≡◌ {A = Row} (a ∷ b ∷ []) (c ∷ d ∷ [])
two_same a b c d e f = ap (λ (w : List ℕ). w ∷ b ∷ []) e ∙ ap (λ (w : List ℕ). c ∷ w ∷ []) f

pub record Two {A B C : Type 0} (k : Way A) (l : Way B) (make : A → B → C) (args : Row) (z : C) : Type 0 where
  pub x : A
  pub y : B
  pub is : make x y ≡ z
  pub plain : map plain_word args ≡ k.word_of x ∷ l.word_of y ∷ []
  pub fits : (k.fits x && l.fits y) ≡ true

pub two_says : {A B C : Type 0} (k : Way A) (l : Way B) (make : A → B → C) (args : Row) (z : C) → two k.read l.read make args ≡ Ok z
    → Two k l make args z
two_says k l make args z h =
    let w = bind_ok (two_words args) (λ w. both (k.read w.0) (l.read w.1) >>= λ x. Ok (make x.0 x.1)) z h in
    let b = bind_ok (both (k.read w.0.0) (l.read w.0.1)) (λ x. Ok (make x.0 x.1)) z w.2 in
    let d = both_ok (k.read w.0.0) (l.read w.0.1) b.0 b.1 in
    record {
      x = b.0.0;
      y = b.0.1;
      is = ok_same (make b.0.0 b.0.1) z b.2;
      plain = ap (map plain_word) (two_ok args w.0 w.1) ∙ two_same (plain_word w.0.0) (plain_word w.0.1) (k.word_of b.0.0) (l.word_of b.0.1) (k.plain w.0.0 b.0.0 d.0) (l.plain w.0.1 b.0.1 d.1);
      fits = and_true (k.fits b.0.0) (l.fits b.0.1) (k.within w.0.0 b.0.0 d.0) (l.within w.0.1 b.0.1 d.1);
    }

three_plain : (args : Row) (a b c d e f : List ℕ) → args ≡ a ∷ b ∷ c ∷ [] → plain_word a ≡ d → plain_word b ≡ e → plain_word c ≡ f → map plain_word args ≡ d ∷ e ∷ f ∷ []
three_plain args a b c d e f q x y z =
    ap (map plain_word) q ∙ ap (λ (w : List ℕ). w ∷ plain_word b ∷ plain_word c ∷ []) x ∙ ap (λ (ws : Row). d ∷ ws) (two_same (plain_word b) (plain_word c) e f y z)

pub record Three {A B C D : Type 0} (k : Way A) (l : Way B) (m : Way C) (make : A → B → C → D) (args : Row) (z : D) : Type 0 where
  pub x : A
  pub y : B
  pub v : C
  pub is : make x y v ≡ z
  pub plain : map plain_word args ≡ k.word_of x ∷ l.word_of y ∷ m.word_of v ∷ []
  pub fits : (k.fits x && l.fits y && m.fits v) ≡ true

pub three_says : {A B C D : Type 0} (k : Way A) (l : Way B) (m : Way C) (make : A → B → C → D) (args : Row) (z : D)
    → three k.read l.read m.read make args ≡ Ok z → Three k l m make args z
three_says k l m make args z h =
    let w = bind_ok (three_words args) (λ w. both (k.read w.0) (both (l.read w.1) (m.read w.2)) >>= λ x. Ok (make x.0 x.1.0 x.1.1)) z h in
    let b = bind_ok (both (k.read w.0.0) (both (l.read w.0.1) (m.read w.0.2))) (λ x. Ok (make x.0 x.1.0 x.1.1)) z w.2 in
    let d = both_ok (k.read w.0.0) (both (l.read w.0.1) (m.read w.0.2)) b.0 b.1 in
    let e = both_ok (l.read w.0.1) (m.read w.0.2) b.0.1 d.1 in
    record {
      x = b.0.0;
      y = b.0.1.0;
      v = b.0.1.1;
      is = ok_same (make b.0.0 b.0.1.0 b.0.1.1) z b.2;
      plain = three_plain args w.0.0 w.0.1 w.0.2 (k.word_of b.0.0) (l.word_of b.0.1.0) (m.word_of b.0.1.1) (three_ok args w.0 w.1) (k.plain w.0.0 b.0.0 d.0) (l.plain w.0.1 b.0.1.0 e.0) (m.plain w.0.2 b.0.1.1 e.1);
      fits = and_true (k.fits b.0.0 && l.fits b.0.1.0) (m.fits b.0.1.1) (and_true (k.fits b.0.0) (l.fits b.0.1.0) (k.within w.0.0 b.0.0 d.0) (l.within w.0.1 b.0.1.0 e.0)) (m.within w.0.2 b.0.1.1 e.1);
    }

-- ---- what a row brings to the lines that count

abbrev pub kept : Row → List Row
kept row = spelled (row ∷ [])

-- the canonical rows of a line
abbrev pub line_rows : Line → List Row
line_rows says.Head = head_line ∷ []
line_rows (says.Refs n) = header_lines (codes "refs") n
line_rows (says.Opening cell n) = if nat_eq n 0 then [] else opening_line (cell, n) ∷ []
line_rows says.Worker = (codes "worker" ∷ []) ∷ []
line_rows says.Script = (codes "script" ∷ []) ∷ []
line_rows says.End = end_line ∷ []
line_rows (says.Inner r) = (codes "inner" ∷ register_word r ∷ []) ∷ []
line_rows says.Either = (codes "either" ∷ []) ∷ []
line_rows says.Or = (codes "or" ∷ []) ∷ []
line_rows says.Late = (codes "late" ∷ []) ∷ []
line_rows (says.Steps numbers) = steps_line numbers ∷ []
line_rows (says.Plain m) = statement_lines m

-- ---- statements

abbrev pub only : ℕ → Places
only refs = record { refs = refs; maps = 0; snaps = 0 }

pub record Stated (refs : ℕ) (k : Keyword) (args : Row) (m : Statement) : Type 0 where
  pub row : (keyword_word k ∷ map plain_word args) ∷ [] ≡ statement_lines m
  pub fits : (left : ℕ) → fits (only refs) m left ≡ true

stated : (refs : ℕ) (s : Simple) (k : Keyword) (args : Row) (m : Statement) → made_of s ≡ m → keyword_word k ∷ map plain_word args ≡ row_of s
    → simple_fits (only refs) s ≡ true → Stated refs k args m
stated refs s k args m e p f =
    subst (Stated refs k args) e (record {
      row = ap (λ (row : Row). row ∷ []) p ∙ sym (simple_lines s);
      fits = λ left. simple_fits_is (only refs) s left ∙ f;
    })

pub statement_says : (refs : ℕ) (k : Keyword) (args : Row) (m : Statement) → statement_of refs k args ≡ Ok m → Stated refs k args m
statement_says refs key.Const args m h =
    let t = two_says register_way number_way made.Const args m h in
    stated refs (stmt.const t.x t.y) key.Const args m t.is (ap (λ (more : Row). codes "const" ∷ more) t.plain) t.fits
statement_says refs key.Read args m h =
    let t = two_says register_way (below_way refs) made.Read args m h in
    stated refs (stmt.read t.x t.y) key.Read args m t.is (ap (λ (more : Row). codes "read" ∷ more) t.plain) t.fits
statement_says refs key.Write args m h =
    let t = two_says (below_way refs) operand_way made.Write args m h in
    stated refs (stmt.write t.x t.y) key.Write args m t.is (ap (λ (more : Row). codes "write" ∷ more) t.plain) t.fits
statement_says refs key.Add args m h =
    let t = two_says register_way operand_way made.Add args m h in
    stated refs (stmt.add t.x t.y) key.Add args m t.is (ap (λ (more : Row). codes "add" ∷ more) t.plain) t.fits
statement_says refs key.Sub args m h =
    let t = two_says register_way operand_way made.Sub args m h in
    stated refs (stmt.sub t.x t.y) key.Sub args m t.is (ap (λ (more : Row). codes "sub" ∷ more) t.plain) t.fits
statement_says refs key.Print args m h =
    let t = one_says operand_way made.Print args m h in
    stated refs (stmt.print t.x) key.Print args m t.is (ap (λ (more : Row). codes "print" ∷ more) t.plain) t.fits
statement_says refs key.Check args m h =
    let t = three_says operand_way operand_way code_way made.Check args m h in
    stated refs (stmt.check t.x t.y t.v) key.Check args m t.is (ap (λ (more : Row). codes "check" ∷ more) t.plain) t.fits
statement_says refs key.Need args m h =
    let t = two_says operand_way operand_way made.Need args m h in
    stated refs (stmt.need t.x t.y) key.Need args m t.is (ap (λ (more : Row). codes "need" ∷ more) t.plain) t.fits
statement_says refs key.Move args m h =
    let t = three_says (below_way refs) (below_way refs) operand_way made.Move args m h in
    stated refs (stmt.move t.x t.y t.v) key.Move args m t.is (ap (λ (more : Row). codes "move" ∷ more) t.plain) t.fits
statement_says refs key.Hook args m h =
    let t = two_says phase_way number_way made.Hook args m h in
    stated refs (stmt.hook t.x t.y) key.Hook args m t.is (ap (λ (more : Row). codes "hook" ∷ more) t.plain) t.fits
statement_says refs _ args m h = cc

-- ---- a zero at the end of a row

not_zero : (w : List ℕ) → 48 < get_or w 0 0 → bytes_eq w (codes "0") ≡ false
not_zero [] h = absurd (omega arith)
not_zero (c ∷ w) h = let e : nat_eq c 48 ≡ false = grind (arith, nat_tests) in rw e refl

zero_word : (n : ℕ) → n < 2 ^ 64 → bytes_eq (decimal n) (codes "0") ≡ nat_eq n 0
zero_word zero h = rw (decimal_digit 0 (omega arith)) refl
zero_word (suc n) h = let e : nat_eq (suc n) 0 ≡ false = grind (arith, nat_tests) in not_zero (decimal (suc n)) (first_decimal (suc n) (omega arith) h) ∙ sym e

pub refs_kept : (w : List ℕ) (n : ℕ) → n < 2 ^ 64 → plain_word w ≡ decimal n → kept (codes "refs" ∷ w ∷ []) ≡ header_lines (codes "refs") n
refs_kept w n l p =
    ap (λ (x : List ℕ). cond (not (bytes_eq x (codes "0"))) ((codes "refs" ∷ x ∷ []) ∷ []) []) p
    ∙ ap (λ (b : Bool). cond (not b) ((codes "refs" ∷ decimal n ∷ []) ∷ []) []) (zero_word n l) ∙ at (nat_eq n 0) where
      at : (b : Bool) → cond (not b) ((codes "refs" ∷ decimal n ∷ []) ∷ []) [] ≡ (if b then [] else (codes "refs" ∷ decimal n ∷ []) ∷ [])
      at true = refl
      at false = refl

pub opening_kept : (v w : List ℕ) (cell n : ℕ) → n < 2 ^ 64 → plain_word v ≡ decimal cell → plain_word w ≡ decimal n
    → kept (codes "ref" ∷ v ∷ w ∷ []) ≡ (if nat_eq n 0 then [] else opening_line (cell, n) ∷ [])
opening_kept v w cell n l p q =
    ap (λ (x : List ℕ). cond (not (bytes_eq (plain_word w) (codes "0"))) ((codes "ref" ∷ x ∷ plain_word w ∷ []) ∷ []) []) p
    ∙ ap (λ (x : List ℕ). cond (not (bytes_eq x (codes "0"))) ((codes "ref" ∷ decimal cell ∷ x ∷ []) ∷ []) []) q
    ∙ ap (λ (b : Bool). cond (not b) (opening_line (cell, n) ∷ []) []) (zero_word n l) ∙ at (nat_eq n 0) where
      at : (b : Bool) → cond (not b) (opening_line (cell, n) ∷ []) [] ≡ (if b then [] else opening_line (cell, n) ∷ [])
      at true = refl
      at false = refl

-- ---- worker numbers

abbrev pub NamesWorker : ℕ → ℕ → Type 0
NamesWorker workers worker = (1 ≤ worker) × (worker ≤ workers)

pub workers_say : (workers : ℕ) (args : Row) (numbers : List ℕ) → workers_of workers args ≡ Ok numbers
    → (map plain_word args ≡ map decimal numbers) × AllByRecursion (NamesWorker workers) numbers × (length numbers ≡ length args)
workers_say workers [] numbers h = let e : [] ≡ numbers = ok_same [] numbers h in subst (λ (ns : List ℕ). (map plain_word [] ≡ map decimal ns) × AllByRecursion (NamesWorker workers) ns × (length ns ≡ 0)) e (refl, tt, refl)
workers_say workers (word ∷ more) numbers h =
    let b = bind_ok (both (from_one_to workers word) (workers_of workers more)) (λ x. Ok (x.0 ∷ x.1)) numbers h in
    let d = both_ok (from_one_to workers word) (workers_of workers more) b.0 b.1 in
    let e = ok_same (b.0.0 ∷ b.0.1) numbers b.2 in
    let i = workers_say workers more b.0.1 d.1 in
    let t = parts (nat_le 1 b.0.0) (nat_le b.0.0 workers) ((from_one_way workers).within word b.0.0 d.0) in
    subst (λ (ns : List ℕ). (map plain_word (word ∷ more) ≡ map decimal ns) × AllByRecursion (NamesWorker workers) ns × (length ns ≡ length (word ∷ more))) e (
      ap (λ (w : List ℕ). w ∷ map plain_word more) ((from_one_way workers).plain word b.0.0 d.0) ∙ ap (λ (ws : Row). decimal b.0.0 ∷ ws) i.0,
      ((true_le 1 b.0.0 t.0, true_le b.0.0 workers t.1), i.1),
      ap suc i.2,
    )
