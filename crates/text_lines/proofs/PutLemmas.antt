-- Rows that are put word by word, and texts that are put row by row.
use Rattle.std.proofs.Common.{◌≡◌, ℕ, List, [], ◌∷◌, ◌++◌, sym, ap, ◌∙◌, append_assoc}
use Rattle.std.proofs.lemmas.Grind.{flat_map-append}
use Rattle.std.proofs.lemmas.List.{append-nil}
use Rattle.std.specs.List.{join_with_byte}
use Rattle.text_lines.specs.Lines.{Row, line_of, text_of, spaced}

join_is : (word : List ℕ) (more : Row) → join_with_byte 32 (word ∷ more) ≡ word ++ spaced more
join_is word [] = sym (append-nil word)
join_is word (next ∷ more) = ap (λ (t : List ℕ). word ++ 32 ∷ t) (join_is next more)

-- a row's line word by word
pub line_by_words : (word : List ℕ) (more : Row) → line_of (word ∷ more) ≡ word ++ spaced more ++ 10 ∷ []
line_by_words word more = ap (λ (t : List ℕ). t ++ 10 ∷ []) (join_is word more)

-- a row that is put word by word is put
pub row_put : (old first whole new : List ℕ) (word : List ℕ) (more : Row) → first ≡ old ++ word → whole ≡ first ++ spaced more → new ≡ whole ++ 10 ∷ [] → new ≡ old ++ line_of (word ∷ more)
row_put old first whole new word more e f g =
    g ∙ ap (λ (t : List ℕ). t ++ 10 ∷ []) f ∙ ap (λ (t : List ℕ). (t ++ spaced more) ++ 10 ∷ []) e
    ∙ ap (λ (t : List ℕ). t ++ 10 ∷ []) (append_assoc old word (spaced more)) ∙ append_assoc old (word ++ spaced more) (10 ∷ [])
    ∙ sym (ap (λ (t : List ℕ). old ++ t) (line_by_words word more))

pub spaced-append : (xs ys : Row) → spaced (xs ++ ys) ≡ spaced xs ++ spaced ys
spaced-append xs ys = flat_map-append (λ word. 32 ∷ word) xs ys

-- further words that are put in two steps are put
pub words_put : (old middle new : List ℕ) (xs ys : Row) → middle ≡ old ++ spaced xs → new ≡ middle ++ spaced ys → new ≡ old ++ spaced (xs ++ ys)
words_put old middle new xs ys e f =
    f ∙ ap (λ (t : List ℕ). t ++ spaced ys) e ∙ append_assoc old (spaced xs) (spaced ys) ∙ ap (λ (t : List ℕ). old ++ t) (sym (spaced-append xs ys))

-- the first of them by itself
pub word_put : (old middle new word : List ℕ) (more : Row) → middle ≡ old ++ 32 ∷ word → new ≡ middle ++ spaced more → new ≡ old ++ spaced (word ∷ more)
word_put old middle new word more e f = words_put old middle new (word ∷ []) more (e ∙ ap (λ (t : List ℕ). old ++ 32 ∷ t) (sym (append-nil word))) f

-- rows that are put in two steps are put
pub rows_put : (old middle new : List ℕ) (xs ys : List Row) → middle ≡ old ++ text_of xs → new ≡ middle ++ text_of ys → new ≡ old ++ text_of (xs ++ ys)
rows_put old middle new xs ys e f =
    f ∙ ap (λ (t : List ℕ). t ++ text_of ys) e ∙ append_assoc old (text_of xs) (text_of ys) ∙ ap (λ (t : List ℕ). old ++ t) (sym (flat_map-append line_of xs ys))

pub text_of-append : (xs ys : List Row) → text_of (xs ++ ys) ≡ text_of xs ++ text_of ys
text_of-append xs ys = flat_map-append line_of xs ys

pub text_of-one : (row : Row) → text_of (row ∷ []) ≡ line_of row
text_of-one row = append-nil (line_of row)
