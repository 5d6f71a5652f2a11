-- Cutting off the first line, the first field and the first word.
use Rattle.std.proofs.Common.{◌≡◌, ℕ, ◌<◌, ◌≤◌, ◌+◌, ◌-◌, Bool, true, false, not, cond, nat_lt, List, [], ◌∷◌, ◌++◌, take, drop, length, get_or, Some, None, refl, sym, ap, subst, ◌∙◌, arith}
use Rattle.std.proofs.lemmas.Bool.{eqb-true}
use Rattle.std.proofs.lemmas.Bool.Decides.{nat_tests}
use Rattle.std.proofs.lemmas.Grind.{common_steps}
use Rattle.std.proofs.lemmas.List.{take_all, take-append-drop}
use Rattle.std.proofs.lemmas.List.Sums.{split_at_first, passes_at_first, fails_before_first, list_all-from_AllPass}
use Rattle.std.specs.List.{list_all, position_or_len, position, before_first, after_first}
use Rattle.text_lines.specs.Lines.{is_feed, is_space, lines, fields, words}
use Rattle.text_lines.proofs.Lists.{both, not_true, not_false, list_all-weaker}
use Rattle.text_lines.proofs.LineLemmas.{not_space, fields_first, fields_last, lines_first, lines_last}

-- ---- the place of the first byte that passes a test

cond_some : (b : Bool) (n i : ℕ) → cond b (Some n) None ≡ Some i → (b ≡ true) × (n ≡ i)
cond_some true n i e = (refl, cc)
cond_some false n i e = cc

cond_none : (b : Bool) (n : ℕ) → cond b (Some n) None ≡ None → b ≡ false
cond_none true n e = cc
cond_none false n e = refl

below : (m n : ℕ) → nat_lt m n ≡ true → m < n
below m n e = grind (arith, nat_tests)

not_below : (m n : ℕ) → nat_lt m n ≡ false → n ≤ m
not_below m n e = grind (arith, nat_tests)

found : (p : ℕ → Bool) (xs : List ℕ) (i : ℕ) → position p xs ≡ Some i → (position_or_len p xs ≡ i) × (position_or_len p xs < length xs)
found p xs i e = let h = cond_some (nat_lt (position_or_len p xs) (length xs)) (position_or_len p xs) i e in (h.1, below (position_or_len p xs) (length xs) h.0)

missed : (p : ℕ → Bool) (xs : List ℕ) → position p xs ≡ None → length xs ≤ position_or_len p xs
missed p xs e = not_below (position_or_len p xs) (length xs) (cond_none (nat_lt (position_or_len p xs) (length xs)) (position_or_len p xs) e)

front_at : (p : ℕ → Bool) (xs : List ℕ) (k d : ℕ) → k < length (take (position_or_len p xs) xs) → p (get_or (take (position_or_len p xs) xs) k d) ≡ false
front_at p xs k d l = let f = fails_before_first p xs k d (grind (arith, common_steps)) in grind (arith, common_steps)

-- none before the first that passes does
front_lacks : (p : ℕ → Bool) (xs : List ℕ) → list_all (λ b. not (p b)) (before_first p xs) ≡ true
front_lacks p xs = list_all-from_AllPass (λ b. not (p b)) (before_first p xs) (λ k d l. not_false (p (get_or (before_first p xs) k d)) (front_at p xs k d l))

all_lack : (p : ℕ → Bool) (xs : List ℕ) → length xs ≤ position_or_len p xs → list_all (λ b. not (p b)) xs ≡ true
all_lack p xs l = subst (λ (ys : List ℕ). list_all (λ b. not (p b)) ys ≡ true) (take_all (position_or_len p xs) xs l) (front_lacks p xs)

-- ---- lines

feed_at : (text : List ℕ) → position_or_len is_feed text < length text → text ≡ before_first is_feed text ++ (10 ∷ after_first is_feed text)
feed_at text l =
    split_at_first is_feed text 0 l
    ∙ ap (λ (b : ℕ). before_first is_feed text ++ (b ∷ after_first is_feed text)) (eqb-true (get_or text (position_or_len is_feed text) 0) 10 (passes_at_first is_feed text 0 l))

-- where a line feed is found at i, the first line ends there
pub line_found : (text : List ℕ) (i : ℕ) → position is_feed text ≡ Some i → lines text ≡ take i text ∷ lines (drop (i + 1) text)
line_found text i e =
    let h = found is_feed text i e in
    subst (λ (n : ℕ). lines text ≡ take n text ∷ lines (drop (n + 1) text)) h.0
    (ap lines (feed_at text h.1) ∙ lines_first (before_first is_feed text) (after_first is_feed text) (front_lacks is_feed text))

-- where none is, the text is one line
pub line_missed : (text : List ℕ) → 0 < length text → position is_feed text ≡ None → lines text ≡ text ∷ []
line_missed [] some e = absurd (omega arith)
line_missed (b ∷ text) some e = lines_last b text (all_lack is_feed (b ∷ text) (missed is_feed (b ∷ text) e))

-- ---- fields

space_at : (line : List ℕ) → position_or_len is_space line < length line → line ≡ before_first is_space line ++ (32 ∷ after_first is_space line)
space_at line l =
    split_at_first is_space line 0 l
    ∙ ap (λ (b : ℕ). before_first is_space line ++ (b ∷ after_first is_space line)) (eqb-true (get_or line (position_or_len is_space line) 0) 32 (passes_at_first is_space line 0 l))

-- where a space is found at i, it stands between the two parts
pub bytes_found : (line : List ℕ) (i : ℕ) → position is_space line ≡ Some i → line ≡ take i line ++ (32 ∷ drop (i + 1) line)
bytes_found line i e = let h = found is_space line i e in subst (λ (n : ℕ). line ≡ take n line ++ (32 ∷ drop (n + 1) line)) h.0 (space_at line h.1)

-- and the first field ends there
pub field_found : (line : List ℕ) (i : ℕ) → position is_space line ≡ Some i → fields line ≡ take i line ∷ fields (drop (i + 1) line)
field_found line i e =
    let h = found is_space line i e in
    subst (λ (n : ℕ). fields line ≡ take n line ∷ fields (drop (n + 1) line)) h.0
    (ap fields (space_at line h.1) ∙ fields_first (before_first is_space line) (after_first is_space line) (front_lacks is_space line))

-- where none is, the line is one field
pub field_missed : (line : List ℕ) → position is_space line ≡ None → fields line ≡ line ∷ []
field_missed line e = fields_last line (all_lack is_space line (missed is_space line e))

-- ---- words

-- spaces at the front change no words
pub spaces_skipped : (spaces rest : List ℕ) → list_all is_space spaces ≡ true → words (spaces ++ rest) ≡ words rest
spaces_skipped [] rest h = refl
spaces_skipped (b ∷ spaces) rest h = let e = both (is_space b) (list_all is_space spaces) h in rw e.0 (spaces_skipped spaces rest e.1)

twice : (b : Bool) → not (not b) ≡ true → b ≡ true
twice true h = refl
twice false h = cc

only_spaces : (xs : List ℕ) → list_all (λ b. not (not_space b)) xs ≡ true → list_all is_space xs ≡ true
only_spaces = list_all-weaker (λ b. not (not_space b)) is_space (λ b. twice (is_space b))

-- where another byte is found at i, the words are those from there on
pub word_begins : (line : List ℕ) (i : ℕ) → position not_space line ≡ Some i → words line ≡ words (drop i line)
word_begins line i e =
    let h = found not_space line i e in
    subst (λ (n : ℕ). words line ≡ words (drop n line)) h.0
    (ap words (sym (take-append-drop (position_or_len not_space line) line))
    ∙ spaces_skipped (before_first not_space line) (drop (position_or_len not_space line) line) (only_spaces (before_first not_space line) (front_lacks not_space line)))

-- and what begins there begins with a word
pub begins_with_word : (line : List ℕ) (i : ℕ) → position not_space line ≡ Some i → is_space (get_or (drop i line) 0 0) ≡ false
begins_with_word line i e =
    let h = found not_space line i e in
    let k = not_true (is_space (get_or line (position_or_len not_space line) 0)) (passes_at_first not_space line 0 h.1) in
    let s = subst (λ (n : ℕ). is_space (get_or line n 0) ≡ false) h.0 k in
    ap is_space (first_of_rest line i) ∙ s where
      first_of_rest : (xs : List ℕ) (n : ℕ) → get_or (drop n xs) 0 0 ≡ get_or xs n 0
      first_of_rest xs n = grind (arith, common_steps)

no_words : (spaces : List ℕ) → list_all is_space spaces ≡ true → words spaces ≡ []
no_words [] h = refl
no_words (b ∷ spaces) h = let e = both (is_space b) (list_all is_space spaces) h in rw e.0 (no_words spaces e.1)

-- where none is, there is no word
pub word_missed : (line : List ℕ) → position not_space line ≡ None → words line ≡ []
word_missed line e = no_words line (only_spaces line (all_lack not_space line (missed not_space line e)))

-- ---- what a range of a slice says

pub rest_whole : (xs : List ℕ) (n : ℕ) → take (length xs - n) (drop n xs) ≡ drop n xs
rest_whole xs n = grind (arith, common_steps)

pub none_left : (xs : List ℕ) → take (length xs - length xs) (drop (length xs) xs) ≡ []
none_left xs = grind (arith, common_steps)
