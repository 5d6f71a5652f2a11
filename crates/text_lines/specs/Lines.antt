-- A text as lines, a line as fields or words, and the text that rows of words make.
use Rattle.std.specs.Prelude.{ℕ, ◌-◌, ◌<◌, Bool, true, false, not, ◌&&◌, ◌||◌, nat_eq, nat_le, if◌then◌else◌, IsTrue, List, [], ◌∷◌, ◌++◌, length, slice_index, filter}
use Rattle.std.specs.List.{slice_split, onto_first, join_with_byte, flat_map, list_all, AllByRecursion}

-- A row is a list of words, and a word a list of bytes.
abbrev pub Row : Type 0
Row = List (List ℕ)

abbrev pub is_feed : ℕ → Bool
is_feed b = nat_eq b 10

abbrev pub is_space : ℕ → Bool
is_space b = nat_eq b 32

abbrev pub is_nonempty : List ℕ → Bool
is_nonempty [] = false
is_nonempty (b ∷ bs) = true

-- A line ends at a line feed, and the last one may lack it.
abbrev pub lines : List ℕ → List (List ℕ)
lines [] = []
lines (b ∷ bs) = if is_feed b then [] ∷ lines bs else onto_first b (lines bs)

-- The fields of a line stand between single spaces: where two spaces meet there is an empty one.
abbrev pub fields : List ℕ → Row
fields line = slice_split is_space line

-- The words of a line stand apart by one space or more, and spaces may stand at both ends.
abbrev pub words : List ℕ → Row
words line = filter is_nonempty (fields line)

-- a row as a line: one space between words, and a line feed behind
abbrev pub line_of : Row → List ℕ
line_of row = join_with_byte 32 row ++ 10 ∷ []

-- the lines of rows one after another
abbrev pub text_of : List Row → List ℕ
text_of rows = flat_map line_of rows

-- each word behind a space of its own: what a line has behind its first word
abbrev pub spaced : Row → List ℕ
spaced row = flat_map (λ word. 32 ∷ word) row

-- the text is empty, or its last byte is a line feed
abbrev pub ends_every_line : List ℕ → Bool
ends_every_line text = nat_eq (length text) 0 || is_feed (slice_index text (length text - 1))

-- a printing byte of ASCII other than the space
abbrev pub is_visible : ℕ → Bool
is_visible b = nat_le 33 b && nat_le b 126

-- one visible byte or more, and no others
abbrev pub is_word : List ℕ → Bool
is_word bytes = is_nonempty bytes && list_all is_visible bytes

-- each entry of the row is a word
abbrev pub AreWords : Row → Type 0
AreWords row = AllByRecursion (λ word. IsTrue (is_word word)) row

-- neither a space nor a line feed is among the bytes
abbrev pub is_field : List ℕ → Bool
is_field bytes = list_all (λ b. not (is_space b) && not (is_feed b)) bytes

-- the row has an entry, and each of them is a field
abbrev pub AreFields : Row → Type 0
AreFields row = (0 < length row) × AllByRecursion (λ field. IsTrue (is_field field)) row
