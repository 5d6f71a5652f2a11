-- The lines of references, maps and slots are rows of words, and tell what is held.
use Rattle.std.proofs.Common.{◌≡◌, ℕ, ◌+◌, ◌<◌, ◌^◌, Bool, true, false, not, nat_eq, List, [], ◌∷◌, ◌++◌, map, flat_map, length, refl, ap, arith, codes, decimal}
use Rattle.std.proofs.lemmas.Bool.Decides.{nat_tests}
use Rattle.std.proofs.lemmas.Fmt.{decimal_injective}
use Rattle.std.specs.List.{AllByRecursion, list_all, enumerate_from}
use Rattle.std.specs.Str.Parse.{digits_value}
use Rattle.text_lines.specs.Lines.{Row as Line, is_word, AreWords}
use Rattle.text_lines.proofs.Lists.{AllByRecursion-append, heads_same, stops, front_same, map_same}
use Rattle.text_lines.proofs.NumberLemmas.{decimal_value, decimal_word}
use Rattle.ledger_model.specs.declared.job.Contents.{Contents}
use Rattle.ledger_model.specs.Report.{ref_line, ref_lines, pair_line, pair_lines, contents_lines}
use Rattle.host_report.specs.WithinTypes.{IsWord, IsPairWithinTypes, IsMapWithinTypes, AreContentsWithinTypes}

-- ---- references

refs_of_words : (n : ℕ) (refs : List ℕ) → n + length refs < 2 ^ 64 → AllByRecursion IsWord refs → AllByRecursion AreWords (map ref_line (enumerate_from n refs))
refs_of_words n [] l h = tt
refs_of_words n (x ∷ refs) l h = ((refl, (decimal_word n (omega arith), (decimal_word x h.0, tt))), refs_of_words (n + 1) refs (omega arith) h.1)

refs_same_from : (n : ℕ) (xs ys : List ℕ) → AllByRecursion IsWord xs → AllByRecursion IsWord ys → map ref_line (enumerate_from n xs) ≡ map ref_line (enumerate_from n ys) → xs ≡ ys
refs_same_from n [] [] h k e = refl
refs_same_from n [] (y ∷ ys) h k e = cc
refs_same_from n (x ∷ xs) [] h k e = cc
refs_same_from n (x ∷ xs) (y ∷ ys) h k e =
    let t = heads_same (ref_line (n, x)) (ref_line (n, y)) (map ref_line (enumerate_from (n + 1) xs)) (map ref_line (enumerate_from (n + 1) ys)) e in
    let digits : decimal x ≡ decimal y = cc in
    let first = decimal_injective x y h.0 k.0 digits in
    let rest = refs_same_from (n + 1) xs ys h.1 k.1 t.1 in
    cc

pub refs_same : (xs ys : List ℕ) → AllByRecursion IsWord xs → AllByRecursion IsWord ys → ref_lines xs ≡ ref_lines ys → xs ≡ ys
refs_same xs ys h k e = refs_same_from 0 xs ys h k e

-- ---- maps and slots

-- the pairs of maps that are numbered from n on
abbrev pub lines_from : List ℕ → ℕ → List (List (ℕ × ℕ)) → List Line
lines_from word n maps = flat_map (λ m. map (pair_line word m.0) m.1) (enumerate_from n maps)

pairs_of_words : (word : List ℕ) (n : ℕ) (pairs : List (ℕ × ℕ)) → is_word word ≡ true → IsWord n → IsMapWithinTypes pairs → AllByRecursion AreWords (map (pair_line word n) pairs)
pairs_of_words word n [] w l h = tt
pairs_of_words word n (pair ∷ pairs) w l h = ((w, (decimal_word n l, (decimal_word pair.0 h.0.0, (decimal_word pair.1 h.0.1, tt)))), pairs_of_words word n pairs w l h.1)

maps_of_words : (word : List ℕ) (n : ℕ) (maps : List (List (ℕ × ℕ))) → is_word word ≡ true → n + length maps < 2 ^ 64 → AllByRecursion IsMapWithinTypes maps
    → AllByRecursion AreWords (lines_from word n maps)
maps_of_words word n [] w l h = tt
maps_of_words word n (pairs ∷ maps) w l h =
    AllByRecursion-append AreWords (map (pair_line word n) pairs) (lines_from word (n + 1) maps)
    (pairs_of_words word n pairs w (omega arith) h.0) (maps_of_words word (n + 1) maps w (omega arith) h.1)

-- the lines of the contents are rows of words
pub contents_of_words : (contents : Contents) → AreContentsWithinTypes contents → AllByRecursion AreWords (contents_lines contents)
contents_of_words contents h =
    AllByRecursion-append AreWords (ref_lines contents.refs) (pair_lines (codes "map") contents.maps ++ pair_lines (codes "snap") contents.slots)
    (refs_of_words 0 contents.refs (omega (arith, h.refs.count)) h.refs.each)
    (AllByRecursion-append AreWords (pair_lines (codes "map") contents.maps) (pair_lines (codes "snap") contents.slots)
    (maps_of_words (codes "map") 0 contents.maps refl (omega (arith, h.maps.count)) h.maps.each)
    (maps_of_words (codes "snap") 0 contents.slots refl (omega (arith, h.slots.count)) h.slots.each))

-- the number that the second word says
abbrev said : Line → ℕ
said [] = 0
said (word ∷ []) = 0
said (word ∷ number ∷ line) = digits_value 10 number

-- the line belongs to the map of this number
abbrev of_number : ℕ → Line → Bool
of_number n line = nat_eq (said line) n

same_number : (m n : ℕ) → m ≡ n → nat_eq m n ≡ true
same_number m n h = grind (arith, nat_tests)

other_number : (m n : ℕ) → n < m → nat_eq m n ≡ false
other_number m n h = grind (arith, nat_tests)

pairs_have : (word : List ℕ) (n : ℕ) (pairs : List (ℕ × ℕ)) → IsWord n → list_all (of_number n) (map (pair_line word n) pairs) ≡ true
pairs_have word n [] h = refl
pairs_have word n (pair ∷ pairs) h = rw (same_number (digits_value 10 (decimal n)) n (decimal_value n h)) (pairs_have word n pairs h)

-- the lines of later maps have other numbers
later_stop : (word : List ℕ) (n m : ℕ) (maps : List (List (ℕ × ℕ))) → n < m → m + length maps < 2 ^ 64 → stops (of_number n) (lines_from word m maps) ≡ true
later_stop word n m [] l h = refl
later_stop word n m ([] ∷ maps) l h = later_stop word n (m + 1) maps (omega arith) (omega arith)
later_stop word n m ((pair ∷ pairs) ∷ maps) l h =
    ap not (other_number (digits_value 10 (decimal m)) n (more (digits_value 10 (decimal m)) (decimal_value m (omega arith)))) where
      more : (v : ℕ) → v ≡ m → n < v
      more v e = omega arith

pair_by_parts : (p q : ℕ × ℕ) → p.0 ≡ q.0 → p.1 ≡ q.1 → p ≡ q
pair_by_parts p q k v = rw (k, v) refl

pair_same : (word : List ℕ) (n : ℕ) (p q : ℕ × ℕ) → IsPairWithinTypes p → IsPairWithinTypes q → pair_line word n p ≡ pair_line word n q → p ≡ q
pair_same word n p q h k e =
    let x : decimal p.0 ≡ decimal q.0 = cc in
    let y : decimal p.1 ≡ decimal q.1 = cc in
    pair_by_parts p q (decimal_injective p.0 q.0 h.0 k.0 x) (decimal_injective p.1 q.1 h.1 k.1 y)

maps_same_from : (word : List ℕ) (n : ℕ) (xs ys : List (List (ℕ × ℕ))) → length xs ≡ length ys → n + length xs < 2 ^ 64
    → AllByRecursion IsMapWithinTypes xs → AllByRecursion IsMapWithinTypes ys → lines_from word n xs ≡ lines_from word n ys → xs ≡ ys
maps_same_from word n [] [] c l h k e = refl
maps_same_from word n [] (y ∷ ys) c l h k e = absurd (omega arith)
maps_same_from word n (x ∷ xs) [] c l h k e = absurd (omega arith)
maps_same_from word n (x ∷ xs) (y ∷ ys) c l h k e =
    let t = front_same (of_number n) (map (pair_line word n) x) (map (pair_line word n) y) (lines_from word (n + 1) xs) (lines_from word (n + 1) ys)
    (pairs_have word n x (omega arith)) (pairs_have word n y (omega arith))
    (later_stop word n (n + 1) xs (omega arith) (omega arith)) (later_stop word n (n + 1) ys (omega arith) (omega arith)) e in
    let first = map_same IsPairWithinTypes (pair_line word n) (pair_same word n) x y h.0 k.0 t.0 in
    let rest = maps_same_from word (n + 1) xs ys (omega arith) (omega arith) h.1 k.1 t.1 in
    cc

-- as many maps with the same lines are the same maps
pub maps_same : (word : List ℕ) (xs ys : List (List (ℕ × ℕ))) → length xs ≡ length ys → IsWord (length xs)
    → AllByRecursion IsMapWithinTypes xs → AllByRecursion IsMapWithinTypes ys → pair_lines word xs ≡ pair_lines word ys → xs ≡ ys
maps_same word xs ys c l h k e = maps_same_from word 0 xs ys c (omega arith) h k e

pub by_contents : (a b : Contents) → a.refs ≡ b.refs → a.maps ≡ b.maps → a.slots ≡ b.slots → a.used ≡ b.used → a ≡ b
by_contents a b r m s u = rw (r, m, s, u) refl
