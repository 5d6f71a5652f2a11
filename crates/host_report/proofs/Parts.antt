-- The parts of a report, one behind the other, told apart by the first words of their lines.
use Rattle.std.proofs.Common.{◌≡◌, ℕ, ◌+◌, Bool, true, false, not, List, [], ◌∷◌, ◌++◌, map, length, refl, ap, ◌∙◌, append_assoc, codes}
use Rattle.std.specs.List.{list_all, enumerate_from}
use Rattle.text_lines.specs.Lines.{Row as Line}
use Rattle.text_lines.proofs.Lists.{and_true, list_all-join, stops}
use Rattle.ledger_model.specs.declared.listing.Listing.{Listing}
use Rattle.ledger_model.specs.Report.{rolled_line, left_line, ref_line, ref_lines, pair_line, pair_lines, count_line, rolled_and_left_lines, closing_lines}
use Rattle.host_report.proofs.WordLemmas.{first_word}
use Rattle.host_report.proofs.ContentsLemmas.{lines_from}

-- ---- the parts

abbrev pub counts : Listing → List Line
counts listing = count_line (codes "used") listing.contents.used ∷ count_line (codes "done") (length listing.rows) ∷ []

abbrev pub from_slots : Listing → List Line
from_slots listing = pair_lines (codes "snap") listing.contents.slots ++ counts listing

abbrev pub from_maps : Listing → List Line
from_maps listing = pair_lines (codes "map") listing.contents.maps ++ from_slots listing

abbrev pub from_refs : Listing → List Line
from_refs listing = ref_lines listing.contents.refs ++ from_maps listing

abbrev pub from_worn : Listing → List Line
from_worn listing = map (left_line (codes "worn")) listing.worn ++ from_refs listing

abbrev pub from_blocked : Listing → List Line
from_blocked listing = map (left_line (codes "blocked")) listing.blocked ++ from_worn listing

abbrev pub from_rolled : Listing → List Line
from_rolled listing = map rolled_line listing.rolled ++ from_blocked listing

three : (x y z more : List Line) → (x ++ (y ++ z)) ++ more ≡ x ++ (y ++ (z ++ more))
three x y z more = append_assoc x (y ++ z) more ∙ ap (λ (t : List Line). x ++ t) (append_assoc y z more)

-- what stands behind the rows, in its parts
pub behind_rows : (listing : Listing) → rolled_and_left_lines listing ++ closing_lines listing ≡ from_rolled listing
behind_rows listing =
    three (map rolled_line listing.rolled) (map (left_line (codes "blocked")) listing.blocked) (map (left_line (codes "worn")) listing.worn) (closing_lines listing)
    ∙ ap (λ (t : List Line). map rolled_line listing.rolled ++ (map (left_line (codes "blocked")) listing.blocked ++ (map (left_line (codes "worn")) listing.worn ++ t)))
    (three (ref_lines listing.contents.refs) (pair_lines (codes "map") listing.contents.maps) (pair_lines (codes "snap") listing.contents.slots) (counts listing))

-- ---- where a part ends and the next begins

-- the line's first word passes the test
abbrev pub begins : (List ℕ → Bool) → Line → Bool
begins p line = p (first_word line)

part_stops : {X : Type 0} (p : List ℕ → Bool) (f : X → Line) (xs : List X) (more : List Line) → ((x : X) → p (first_word (f x)) ≡ false) → stops (begins p) more ≡ true
    → stops (begins p) (map f xs ++ more) ≡ true
part_stops p f [] more h k = k
part_stops p f (x ∷ xs) more h k = ap not (h x)

maps_stop : (p : List ℕ → Bool) (word : List ℕ) (n : ℕ) (maps : List (List (ℕ × ℕ))) (more : List Line) → p word ≡ false → stops (begins p) more ≡ true
    → stops (begins p) (lines_from word n maps ++ more) ≡ true
maps_stop p word n [] more h k = k
maps_stop p word n ([] ∷ maps) more h k = maps_stop p word (n + 1) maps more h k
maps_stop p word n ((pair ∷ pairs) ∷ maps) more h k = ap not h

pub counts_stop : (p : List ℕ → Bool) (l : Listing) → p (codes "used") ≡ false → stops (begins p) (counts l) ≡ true
counts_stop p l h = ap not h

pub slots_stop : (p : List ℕ → Bool) (l : Listing) → p (codes "snap") ≡ false → p (codes "used") ≡ false → stops (begins p) (from_slots l) ≡ true
slots_stop p l h k = maps_stop p (codes "snap") 0 l.contents.slots (counts l) h (counts_stop p l k)

pub maps_and_more_stop : (p : List ℕ → Bool) (l : Listing) → p (codes "map") ≡ false → p (codes "snap") ≡ false → p (codes "used") ≡ false → stops (begins p) (from_maps l) ≡ true
maps_and_more_stop p l m h k = maps_stop p (codes "map") 0 l.contents.maps (from_slots l) m (slots_stop p l h k)

-- the test fails at the first words of references and of all that stands behind them
abbrev pub IsNoContents : (List ℕ → Bool) → Type 0
IsNoContents p = (p (codes "ref") ≡ false) × (p (codes "map") ≡ false) × (p (codes "snap") ≡ false) × (p (codes "used") ≡ false)

pub refs_stop : (p : List ℕ → Bool) (l : Listing) → IsNoContents p → stops (begins p) (from_refs l) ≡ true
refs_stop p l h = part_stops p ref_line (enumerate_from 0 l.contents.refs) (from_maps l) (λ x. h.0) (maps_and_more_stop p l h.1 h.2 h.3)

pub worn_stop : (p : List ℕ → Bool) (l : Listing) → p (codes "worn") ≡ false → IsNoContents p → stops (begins p) (from_worn l) ≡ true
worn_stop p l w h = part_stops p (left_line (codes "worn")) l.worn (from_refs l) (λ x. w) (refs_stop p l h)

pub blocked_stop : (p : List ℕ → Bool) (l : Listing) → p (codes "blocked") ≡ false → p (codes "worn") ≡ false → IsNoContents p → stops (begins p) (from_blocked l) ≡ true
blocked_stop p l b w h = part_stops p (left_line (codes "blocked")) l.blocked (from_worn l) (λ x. b) (worn_stop p l w h)

pub rolled_stop : (p : List ℕ → Bool) (l : Listing) → p (codes "rolled") ≡ false → p (codes "blocked") ≡ false → p (codes "worn") ≡ false → IsNoContents p
    → stops (begins p) (from_rolled l) ≡ true
rolled_stop p l r b w h = part_stops p rolled_line l.rolled (from_blocked l) (λ x. r) (blocked_stop p l b w h)

-- ---- all lines of a part begin alike

pub part_begins : {X : Type 0} (p : List ℕ → Bool) (f : X → Line) (xs : List X) → ((x : X) → p (first_word (f x)) ≡ true) → list_all (begins p) (map f xs) ≡ true
part_begins p f [] h = refl
part_begins p f (x ∷ xs) h = and_true (begins p (f x)) (list_all (begins p) (map f xs)) (h x) (part_begins p f xs h)

pub maps_begin : (p : List ℕ → Bool) (word : List ℕ) (n : ℕ) (maps : List (List (ℕ × ℕ))) → p word ≡ true → list_all (begins p) (lines_from word n maps) ≡ true
maps_begin p word n [] h = refl
maps_begin p word n (pairs ∷ maps) h =
    list_all-join (begins p) (map (pair_line word n) pairs) (lines_from word (n + 1) maps) (part_begins p (pair_line word n) pairs (λ x. h)) (maps_begin p word (n + 1) maps h)
