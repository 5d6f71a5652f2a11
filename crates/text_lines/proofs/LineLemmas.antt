-- Texts and the rows of their lines.
use Rattle.std.proofs.Common.{◌≡◌, ◌↔◌, ℕ, suc, ◌<◌, ◌-◌, Bool, true, false, not, ◌&&◌, ◌||◌, cond, nat_eq, if◌then◌else◌, IsTrue, List, [], ◌∷◌, ◌++◌, map, filter, length, slice_index, refl, sym, ap, subst, ◌∙◌, append_assoc, length-append, arith}
use Rattle.std.proofs.lemmas.Bool.Decides.{nat_tests}
use Rattle.std.proofs.lemmas.Bool.{eqb-true}
use Rattle.std.proofs.lemmas.List.Splits.{join_with_byte-slice_split}
use Rattle.std.specs.List.{onto_first, join_with_byte, flat_map, list_all, AllByRecursion}
use Rattle.text_lines.specs.Lines.{Row, is_feed, is_space, is_nonempty, lines, fields, words, line_of, text_of, ends_every_line, is_visible, is_word, AreWords, is_field, AreFields}
use Rattle.text_lines.proofs.Lists.{both, and_true, not_true, not_false, list_all-join, list_all-weaker, AllByRecursion-map}

-- ---- bytes

-- a byte that may stand in a line, one that may stand between spaces, and one that may do both
abbrev pub not_feed : ℕ → Bool
not_feed b = not (is_feed b)

abbrev pub not_space : ℕ → Bool
not_space b = not (is_space b)

abbrev pub in_field : ℕ → Bool
in_field b = not_space b && not_feed b

visible_in_field : (b : ℕ) → is_visible b ≡ true → in_field b ≡ true
visible_in_field b h = grind (arith, nat_tests)

-- a field has no line feed and no space
pub lacks_feeds : (field : List ℕ) → is_field field ≡ true → list_all not_feed field ≡ true
lacks_feeds = list_all-weaker in_field not_feed (λ b h. (both (not_space b) (not_feed b) h).1)

pub lacks_spaces : (field : List ℕ) → is_field field ≡ true → list_all not_space field ≡ true
lacks_spaces = list_all-weaker in_field not_space (λ b h. (both (not_space b) (not_feed b) h).0)

-- ---- a line and its fields

-- a part without spaces, and a space behind it, is the first field
pub fields_first : (field rest : List ℕ) → list_all not_space field ≡ true → fields (field ++ 32 ∷ rest) ≡ field ∷ fields rest
fields_first [] rest h = refl
fields_first (b ∷ field) rest h = let e = both (not_space b) (list_all not_space field) h in rw (not_true (is_space b) e.0) (ap (onto_first b) (fields_first field rest e.1))

-- a line without spaces is its one field
pub fields_last : (field : List ℕ) → list_all not_space field ≡ true → fields field ≡ field ∷ []
fields_last [] h = refl
fields_last (b ∷ field) h = let e = both (not_space b) (list_all not_space field) h in rw (not_true (is_space b) e.0) (ap (onto_first b) (fields_last field e.1))

-- fields come back from a row's line, and so do words
pub fields_again : (row : Row) → AreFields row → fields (join_with_byte 32 row) ≡ row
fields_again [] h = absurd (omega arith)
fields_again (w ∷ []) h = fields_last w (lacks_spaces w h.1.0)
fields_again (w ∷ v ∷ row) h =
    fields_first w (join_with_byte 32 (v ∷ row)) (lacks_spaces w h.1.0) ∙ ap (λ (r : Row). w ∷ r) (fields_again (v ∷ row) (omega arith, h.1.1))

-- a word is a field that isn't empty
pub word_is_field : (word : List ℕ) → IsTrue (is_word word) → IsTrue (is_field word)
word_is_field word h = list_all-weaker is_visible in_field visible_in_field word (both (is_nonempty word) (list_all is_visible word) h).1

pub words_are_fields : (row : Row) → AreWords row → AllByRecursion (λ field. IsTrue (is_field field)) row
words_are_fields [] h = tt
words_are_fields (w ∷ row) h = (word_is_field w h.0, words_are_fields row h.1)

all_kept : (row : Row) → AreWords row → filter is_nonempty row ≡ row
all_kept [] h = refl
all_kept (w ∷ row) h = rw (both (is_nonempty w) (list_all is_visible w) h.0).0 (ap (λ (r : Row). w ∷ r) (all_kept row h.1))

pub words_again : (row : Row) → AreWords row → words (join_with_byte 32 row) ≡ row
words_again [] h = refl
words_again (w ∷ row) h = ap (filter is_nonempty) (fields_again (w ∷ row) (omega arith, words_are_fields (w ∷ row) h)) ∙ all_kept (w ∷ row) h

-- ---- a text and its lines

-- a part without line feeds, and a line feed behind it, is the first line
pub lines_first : (line rest : List ℕ) → list_all not_feed line ≡ true → lines (line ++ 10 ∷ rest) ≡ line ∷ lines rest
lines_first [] rest h = refl
lines_first (b ∷ line) rest h = let e = both (not_feed b) (list_all not_feed line) h in rw (not_true (is_feed b) e.0) (ap (onto_first b) (lines_first line rest e.1))

-- a text without line feeds is its one line
pub lines_last : (b : ℕ) (line : List ℕ) → list_all not_feed (b ∷ line) ≡ true → lines (b ∷ line) ≡ (b ∷ line) ∷ []
lines_last b [] h = let e = both (not_feed b) true h in rw (not_true (is_feed b) e.0) refl
lines_last b (c ∷ line) h = let e = both (not_feed b) (list_all not_feed (c ∷ line)) h in rw (not_true (is_feed b) e.0) (ap (onto_first b) (lines_last c line e.1))

pub row_lacks_feeds : (row : Row) → AllByRecursion (λ field. IsTrue (is_field field)) row → list_all not_feed (join_with_byte 32 row) ≡ true
row_lacks_feeds [] h = refl
row_lacks_feeds (w ∷ []) h = lacks_feeds w h.0
row_lacks_feeds (w ∷ v ∷ row) h = list_all-join not_feed w (32 ∷ join_with_byte 32 (v ∷ row)) (lacks_feeds w h.0) (row_lacks_feeds (v ∷ row) h.1)

-- the lines of a text of rows are the rows' lines
pub lines_again : (rows : List Row) → AllByRecursion (λ row. AllByRecursion (λ field. IsTrue (is_field field)) row) rows → lines (text_of rows) ≡ map (join_with_byte 32) rows
lines_again [] h = refl
lines_again (row ∷ rows) h =
    ap lines (append_assoc (join_with_byte 32 row) (10 ∷ []) (text_of rows)) ∙ lines_first (join_with_byte 32 row) (text_of rows) (row_lacks_feeds row h.0)
    ∙ ap (λ (ls : List (List ℕ)). join_with_byte 32 row ∷ ls) (lines_again rows h.1)

-- ---- rows come back

words_of_lines : (rows : List Row) → AllByRecursion AreWords rows → map words (map (join_with_byte 32) rows) ≡ rows
words_of_lines [] h = refl
words_of_lines (row ∷ rows) h = ap (λ (r : Row). r ∷ map words (map (join_with_byte 32) rows)) (words_again row h.0) ∙ ap (λ (rs : List Row). row ∷ rs) (words_of_lines rows h.1)

all_words_are_fields : (rows : List Row) → AllByRecursion AreWords rows → AllByRecursion (λ row. AllByRecursion (λ field. IsTrue (is_field field)) row) rows
all_words_are_fields [] h = tt
all_words_are_fields (row ∷ rows) h = (words_are_fields row h.0, all_words_are_fields rows h.1)

-- rows come back from their text's lines, by words and by fields
pub words_come_back : (rows : List Row) → AllByRecursion AreWords rows → map words (lines (text_of rows)) ≡ rows
words_come_back rows h = ap (map words) (lines_again rows (all_words_are_fields rows h)) ∙ words_of_lines rows h

fields_of_lines : (rows : List Row) → AllByRecursion AreFields rows → map fields (map (join_with_byte 32) rows) ≡ rows
fields_of_lines [] h = refl
fields_of_lines (row ∷ rows) h = ap (λ (r : Row). r ∷ map fields (map (join_with_byte 32) rows)) (fields_again row h.0) ∙ ap (λ (rs : List Row). row ∷ rs) (fields_of_lines rows h.1)

all_are_fields : (rows : List Row) → AllByRecursion AreFields rows → AllByRecursion (λ row. AllByRecursion (λ field. IsTrue (is_field field)) row) rows
all_are_fields [] h = tt
all_are_fields (row ∷ rows) h = (h.0.1, all_are_fields rows h.1)

pub fields_come_back : (rows : List Row) → AllByRecursion AreFields rows → map fields (lines (text_of rows)) ≡ rows
fields_come_back rows h = ap (map fields) (lines_again rows (all_are_fields rows h)) ∙ fields_of_lines rows h

-- rows of words with one text are the same rows
pub words_same : (xs ys : List Row) → AllByRecursion AreWords xs → AllByRecursion AreWords ys → text_of xs ≡ text_of ys → xs ≡ ys
words_same xs ys p q e = sym (words_come_back xs p) ∙ ap (λ (text : List ℕ). map words (lines text)) e ∙ words_come_back ys q

pub fields_same : (xs ys : List Row) → AllByRecursion AreFields xs → AllByRecursion AreFields ys → text_of xs ≡ text_of ys → xs ≡ ys
fields_same xs ys p q e = sym (fields_come_back xs p) ∙ ap (λ (text : List ℕ). map fields (lines text)) e ∙ fields_come_back ys q

-- rows of words with one line are the same row
pub line_same : (x y : Row) → AreWords x → AreWords y → line_of x ≡ line_of y → x ≡ y
line_same x y p q e =
    let t = words_same (x ∷ []) (y ∷ []) (p, tt) (q, tt) (ap (λ (line : List ℕ). line ++ []) e) in cc

-- ---- what is read is rows of fields

onto_lines : (b : ℕ) (ls : List (List ℕ)) → not_feed b ≡ true → AllByRecursion (λ line. IsTrue (list_all not_feed line)) ls → AllByRecursion (λ line. IsTrue (list_all not_feed line)) (onto_first b ls)
onto_lines b [] e h = (and_true (not_feed b) true e refl, tt)
onto_lines b (line ∷ ls) e h = (and_true (not_feed b) (list_all not_feed line) e h.0, h.1)

-- no line has a line feed in it
pub lines_lack_feeds : (text : List ℕ) → AllByRecursion (λ line. IsTrue (list_all not_feed line)) (lines text)
lines_lack_feeds [] = tt
lines_lack_feeds (b ∷ text) = at (is_feed b) refl (lines_lack_feeds text) where
  at : (v : Bool) → is_feed b ≡ v → AllByRecursion (λ line. IsTrue (list_all not_feed line)) (lines text) → AllByRecursion (λ line. IsTrue (list_all not_feed line)) (lines (b ∷ text))
  at true e h = rw e (refl, h)
  at false e h = rw e (onto_lines b (lines text) (not_false (is_feed b) e) h)

onto_fields : (b : ℕ) (row : Row) → in_field b ≡ true → AreFields row → AreFields (onto_first b row)
onto_fields b [] e h = absurd (omega arith)
onto_fields b (field ∷ row) e h = (omega arith, (and_true (in_field b) (is_field field) e h.1.0, h.1.1))

-- the fields of a line are fields
pub fields_are_fields : (line : List ℕ) → list_all not_feed line ≡ true → AreFields (fields line)
fields_are_fields [] h = (omega arith, (refl, tt))
fields_are_fields (b ∷ line) h = let e = both (not_feed b) (list_all not_feed line) h in at (is_space b) refl e.0 (fields_are_fields line e.1) where
  at : (v : Bool) → is_space b ≡ v → not_feed b ≡ true → AreFields (fields line) → AreFields (fields (b ∷ line))
  at true e k h = rw e (omega arith, (refl, h.1))
  at false e k h = rw e (onto_fields b (fields line) (and_true (not (is_space b)) (not_feed b) (not_false (is_space b) e) k) h)

-- what is read of any text is rows of fields
pub read_are_fields : (text : List ℕ) → AllByRecursion AreFields (map fields (lines text))
read_are_fields text = AllByRecursion-map (λ line. IsTrue (list_all not_feed line)) AreFields fields fields_are_fields (lines text) (lines_lack_feeds text)

pub only_fields_come_back : (rows : List Row) → map fields (lines (text_of rows)) ≡ rows → AllByRecursion AreFields rows
only_fields_come_back rows e = subst (λ (rs : List Row). AllByRecursion AreFields rs) e (read_are_fields (text_of rows))

-- ---- a text comes back

-- each line with a line feed behind
abbrev fed : List (List ℕ) → List ℕ
fed ls = flat_map (λ line. line ++ 10 ∷ []) ls

-- the text with a line feed behind its last line
abbrev closed : List ℕ → List ℕ
closed [] = []
closed (b ∷ []) = if is_feed b then b ∷ [] else b ∷ 10 ∷ []
closed (b ∷ c ∷ text) = b ∷ closed (c ∷ text)

fed_fields : (ls : List (List ℕ)) → text_of (map fields ls) ≡ fed ls
fed_fields [] = refl
fed_fields (line ∷ ls) = ap (λ (l : List ℕ). (l ++ 10 ∷ []) ++ text_of (map fields ls)) (join_with_byte-slice_split 32 line) ∙ ap (λ (t : List ℕ). (line ++ 10 ∷ []) ++ t) (fed_fields ls)

fed_onto : (b : ℕ) (ls : List (List ℕ)) → 0 < length ls → fed (onto_first b ls) ≡ b ∷ fed ls
fed_onto b [] l = absurd (omega arith)
fed_onto b (line ∷ ls) l = refl

some_lines : (b : ℕ) (text : List ℕ) → 0 < length (lines (b ∷ text))
some_lines b text = at (is_feed b) (lines text) where
  some_onto : (ls : List (List ℕ)) → 0 < length (onto_first b ls)
  some_onto [] = omega arith
  some_onto (line ∷ ls) = omega arith

  at : (v : Bool) (ls : List (List ℕ)) → 0 < length (cond v ([] ∷ ls) (onto_first b ls))
  at true ls = omega arith
  at false ls = some_onto ls

fed_lines : (text : List ℕ) → fed (lines text) ≡ closed text
fed_lines [] = refl
fed_lines (b ∷ []) = at (is_feed b) refl where
  at : (v : Bool) → is_feed b ≡ v → fed (cond v ([] ∷ []) ((b ∷ []) ∷ [])) ≡ cond v (b ∷ []) (b ∷ 10 ∷ [])
  at true e = ap (λ (x : ℕ). x ∷ []) (sym (eqb-true b 10 e))
  at false e = refl
fed_lines (b ∷ c ∷ text) = at (is_feed b) refl (fed_lines (c ∷ text)) where
  at : (v : Bool) → is_feed b ≡ v → fed (lines (c ∷ text)) ≡ closed (c ∷ text) → fed (cond v ([] ∷ lines (c ∷ text)) (onto_first b (lines (c ∷ text)))) ≡ b ∷ closed (c ∷ text)
  at true e h = ap (λ (x : ℕ). x ∷ fed (lines (c ∷ text))) (sym (eqb-true b 10 e)) ∙ ap (λ (t : List ℕ). b ∷ t) h
  at false e h = fed_onto b (lines (c ∷ text)) (some_lines c text) ∙ ap (λ (t : List ℕ). b ∷ t) h

not_empty : (n : ℕ) (v : Bool) → (nat_eq (suc n) 0 || v) ≡ v
not_empty n v = let e : nat_eq (suc n) 0 ≡ false = grind (arith, nat_tests) in rw e refl

ends_one : (b : ℕ) → ends_every_line (b ∷ []) ≡ is_feed b
ends_one b = refl

ends_more : (b c : ℕ) (text : List ℕ) → ends_every_line (b ∷ c ∷ text) ≡ ends_every_line (c ∷ text)
ends_more b c text =
    let e : suc (suc (length text)) - 1 ≡ suc (length text) = omega arith in
    let f : suc (length text) - 1 ≡ length text = omega arith in
    not_empty (suc (length text)) (is_feed (slice_index (b ∷ c ∷ text) (suc (suc (length text)) - 1)))
    ∙ ap (λ (n : ℕ). is_feed (slice_index (b ∷ c ∷ text) n)) e ∙ sym (ap (λ (n : ℕ). is_feed (slice_index (c ∷ text) n)) f)
    ∙ sym (not_empty (length text) (is_feed (slice_index (c ∷ text) (suc (length text) - 1))))

cond-cons : (v : Bool) (b : ℕ) (xs ys : List ℕ) → b ∷ cond v xs ys ≡ cond v (b ∷ xs) (b ∷ ys)
cond-cons true b xs ys = refl
cond-cons false b xs ys = refl

closed_is : (text : List ℕ) → closed text ≡ (if ends_every_line text then text else text ++ 10 ∷ [])
closed_is [] = refl
closed_is (b ∷ []) = ap (λ (v : Bool). cond v (b ∷ []) (b ∷ 10 ∷ [])) (sym (ends_one b))
closed_is (b ∷ c ∷ text) =
    ap (λ (t : List ℕ). b ∷ t) (closed_is (c ∷ text)) ∙ cond-cons (ends_every_line (c ∷ text)) b (c ∷ text) ((c ∷ text) ++ 10 ∷ [])
    ∙ ap (λ (v : Bool). cond v (b ∷ c ∷ text) ((b ∷ c ∷ text) ++ 10 ∷ [])) (sym (ends_more b c text))

-- the text that a text's fields make, with the last line feed where it was lacking
pub text_comes_back : (text : List ℕ) → text_of (map fields (lines text)) ≡ (if ends_every_line text then text else text ++ 10 ∷ [])
text_comes_back text = fed_fields (lines text) ∙ fed_lines text ∙ closed_is text

longer : (text : List ℕ) → text ++ 10 ∷ [] ≡ text → ⊥
longer text e = let l = ap length e in omega (arith, l, length-append text (10 ∷ []))

-- it is the text itself where each line has its line feed, and only there
pub same_where_ended : (text : List ℕ) → ends_every_line text ≡ true → text_of (map fields (lines text)) ≡ text
same_where_ended text h = text_comes_back text ∙ ap (λ (v : Bool). cond v text (text ++ 10 ∷ [])) h

pub ended_where_same : (text : List ℕ) → text_of (map fields (lines text)) ≡ text → ends_every_line text ≡ true
ended_where_same text e = at (ends_every_line text) (sym (text_comes_back text) ∙ e) where
  at : (v : Bool) → cond v text (text ++ 10 ∷ []) ≡ text → v ≡ true
  at true h = refl
  at false h = absurd (longer text h)

pub ends_where_same : (text : List ℕ) (v : Bool) → v ≡ ends_every_line text → IsTrue v ↔ (text_of (map fields (lines text)) ≡ text)
ends_where_same text v e = (λ h. same_where_ended text (sym e ∙ h), λ h. e ∙ ended_where_same text h)
