-- Lines that are put word by word, and texts that are put part by part.
use Rattle.std.proofs.Common.{◌≡◌, ℕ, List, [], ◌∷◌, ◌++◌, sym, ap, ◌∙◌, append_assoc, codes, decimal}
use Rattle.std.proofs.lemmas.List.{append-nil}
use Rattle.text_lines.specs.Lines.{Row as Line, line_of, text_of, spaced}
use Rattle.text_lines.proofs.PutLemmas.{row_put, words_put, word_put, rows_put, text_of-one}
use Rattle.ledger_model.specs.Report.{count_line}

-- the texts after each part, and the line
pub row_written : (text position kind name : List ℕ) (result prints runs drawn : Line) (a b c d e f g h : List ℕ)
    → a ≡ text ++ position → b ≡ a ++ 32 ∷ kind → c ≡ b ++ 32 ∷ name → d ≡ c ++ spaced result → e ≡ d ++ spaced prints → f ≡ e ++ spaced runs → g ≡ f ++ spaced drawn → h ≡ g ++ 10 ∷ []
    → h ≡ text ++ line_of (position ∷ kind ∷ name ∷ (result ++ (prints ++ (runs ++ drawn))))
row_written text position kind name result prints runs drawn a b c d e f g h p q r s t u v w =
    let behind_prints = words_put e f g runs drawn u v in
    let behind_result = words_put d e g prints (runs ++ drawn) t behind_prints in
    let behind_name = words_put c d g result (prints ++ (runs ++ drawn)) s behind_result in
    let behind_kind = word_put b c g name (result ++ (prints ++ (runs ++ drawn))) r behind_name in
    let behind_position = word_put a b g kind (name ∷ (result ++ (prints ++ (runs ++ drawn)))) q behind_kind in
    row_put text a g h position (kind ∷ name ∷ (result ++ (prints ++ (runs ++ drawn)))) p behind_position w

-- the line of an attempt that was rolled back
pub rolled_written : (text first name behind prefix : List ℕ) (cause trail : Line) (a b c d e f g : List ℕ)
    → a ≡ text ++ first → b ≡ a ++ 32 ∷ name → c ≡ b ++ 32 ∷ behind → d ≡ c ++ 32 ∷ prefix → e ≡ d ++ spaced cause → f ≡ e ++ spaced trail → g ≡ f ++ 10 ∷ []
    → g ≡ text ++ line_of (first ∷ name ∷ behind ∷ prefix ∷ (cause ++ trail))
rolled_written text first name behind prefix cause trail a b c d e f g p q r s t u v =
    let behind_prefix = words_put d e f cause trail t u in
    let behind_word = word_put c d f prefix (cause ++ trail) s behind_prefix in
    let behind_name = word_put b c f behind (prefix ∷ (cause ++ trail)) r behind_word in
    let behind_first = word_put a b f name (behind ∷ prefix ∷ (cause ++ trail)) q behind_name in
    row_put text a f g first (name ∷ behind ∷ prefix ∷ (cause ++ trail)) p behind_first v

-- a word behind others, and three words
pub last_put : (text a b : List ℕ) (put : Line) (word : List ℕ) → a ≡ text ++ spaced put → b ≡ a ++ 32 ∷ word → b ≡ text ++ spaced (put ++ word ∷ [])
last_put text a b put word p q = words_put text a b put (word ∷ []) p (q ∙ ap (λ (t : List ℕ). a ++ 32 ∷ t) (sym (append-nil word)))

pub three_words_put : (text a b c u v w : List ℕ) → a ≡ text ++ 32 ∷ u → b ≡ a ++ 32 ∷ v → c ≡ b ++ 32 ∷ w → c ≡ text ++ spaced (u ∷ v ∷ w ∷ [])
three_words_put text a b c u v w p q r = word_put text a c u (v ∷ w ∷ []) p (word_put a b c v (w ∷ []) q (last_put b b c [] w (sym (append-nil b)) r))

-- bytes that are put behind those that were put
behind_put : (text put more a b : List ℕ) → a ≡ text ++ put → b ≡ a ++ more → b ≡ text ++ (put ++ more)
behind_put text put more a b p q = q ∙ ap (λ (t : List ℕ). t ++ more) p ∙ append_assoc text put more

-- a metadata word, put part by part
pub meta_written : (text version changing pending : List ℕ) (owner number : ℕ) (a b c d e f : List ℕ) → number ≡ owner
    → a ≡ text ++ 32 ∷ codes "v" → b ≡ a ++ version → c ≡ b ++ codes "o" → d ≡ c ++ decimal number → e ≡ d ++ changing → f ≡ e ++ pending
    → f ≡ text ++ 32 ∷ (codes "v" ++ version ++ codes "o" ++ decimal owner ++ changing ++ pending)
meta_written text version changing pending owner number a b c d e f n p q r s t u =
    let with_version = behind_put text (32 ∷ codes "v") version a b p q in
    let with_o = behind_put text (32 ∷ (codes "v" ++ version)) (codes "o") b c with_version r in
    let with_owner = behind_put text (32 ∷ (codes "v" ++ version ++ codes "o")) (decimal owner) c d with_o (s ∙ ap (λ (m : ℕ). c ++ decimal m) n) in
    let with_changing = behind_put text (32 ∷ (codes "v" ++ version ++ codes "o" ++ decimal owner)) changing d e with_owner t in
    behind_put text (32 ∷ (codes "v" ++ version ++ codes "o" ++ decimal owner ++ changing)) pending e f with_changing u

-- ---- lines

one_put : (a b : List ℕ) (row : Line) → b ≡ a ++ line_of row → b ≡ a ++ text_of (row ∷ [])
one_put a b row p = p ∙ ap (λ (t : List ℕ). a ++ t) (sym (text_of-one row))

-- lines in three parts
pub three_put : (text a b new : List ℕ) (xs ys zs : List Line) → a ≡ text ++ text_of xs → b ≡ a ++ text_of ys → new ≡ b ++ text_of zs → new ≡ text ++ text_of (xs ++ (ys ++ zs))
three_put text a b new xs ys zs p q r = rows_put text a new xs (ys ++ zs) p (rows_put a b new ys zs q r)

-- lines, and the lines of two counts behind them
pub counts_put : (text a b new : List ℕ) (xs : List Line) (used : ℕ) (word : List ℕ) (rows number : ℕ) → number ≡ rows → a ≡ text ++ text_of xs
    → b ≡ a ++ line_of (count_line (codes "used") used) → new ≡ b ++ line_of (count_line word number)
    → new ≡ text ++ text_of (xs ++ (count_line (codes "used") used ∷ count_line word rows ∷ []))
counts_put text a b new xs used word rows number n p q r =
    rows_put text a new xs (count_line (codes "used") used ∷ count_line word rows ∷ []) p
    (rows_put a b new (count_line (codes "used") used ∷ []) (count_line word rows ∷ []) (one_put a b (count_line (codes "used") used) q)
    (one_put b new (count_line word rows) (r ∙ ap (λ (m : ℕ). b ++ line_of (count_line word m)) n)))

-- a line, and lines in three parts behind it
pub report_written : (text a b c new : List ℕ) (head : Line) (xs ys zs : List Line) → a ≡ text ++ line_of head → b ≡ a ++ text_of xs → c ≡ b ++ text_of ys → new ≡ c ++ text_of zs
    → new ≡ text ++ text_of (head ∷ (xs ++ (ys ++ zs)))
report_written text a b c new head xs ys zs p q r s =
    rows_put text a new (head ∷ []) (xs ++ (ys ++ zs)) (one_put text a head p) (three_put a b c new xs ys zs q r s)
