-- The bytes of a line may all occur exactly where those of its words may.
use Rattle.std.proofs.Common.{◌≡◌, ℕ, Bool, true, false, ◌&&◌, cond, List, [], ◌∷◌, filter, refl, sym, ap, ◌∙◌, arith}
use Rattle.std.proofs.lemmas.Bool.Decides.{nat_tests}
use Rattle.std.specs.List.{list_all, slice_split, onto_first}
use Rattle.text_lines.specs.Lines.{words, is_space, is_nonempty}
use Rattle.script_text.specs.JobText.{may_occur, is_clean}

abbrev all : List (List ℕ) → Bool
all parts = list_all (λ word. list_all may_occur word) parts

and_assoc : (a b c : Bool) → ((a && b) && c) ≡ (a && (b && c))
and_assoc true b c = refl
and_assoc false b c = refl

of_filled : (parts : List (List ℕ)) → all (filter is_nonempty parts) ≡ all parts
of_filled [] = refl
of_filled ([] ∷ parts) = of_filled parts
of_filled ((b ∷ word) ∷ parts) = ap (λ (t : Bool). list_all may_occur (b ∷ word) && t) (of_filled parts)

onto : (b : ℕ) (parts : List (List ℕ)) → all (onto_first b parts) ≡ (may_occur b && all parts)
onto b [] = and_assoc (may_occur b) true true
onto b (part ∷ parts) = and_assoc (may_occur b) (list_all may_occur part) (all parts)

space_may : (b : ℕ) → is_space b ≡ true → may_occur b ≡ true
space_may b e = let k : b ≡ 32 = grind (arith, nat_tests) in rw k refl

of_split : (line : List ℕ) → all (slice_split is_space line) ≡ list_all may_occur line
of_split [] = refl
of_split (b ∷ line) = by (is_space b) refl (of_split line) where
  by : (s : Bool) → is_space b ≡ s → all (slice_split is_space line) ≡ list_all may_occur line
      → all (cond s ([] ∷ slice_split is_space line) (onto_first b (slice_split is_space line))) ≡ (may_occur b && list_all may_occur line)
  by true e h = h ∙ ap (λ (t : Bool). t && list_all may_occur line) (sym (space_may b e))
  by false e h = onto b (slice_split is_space line) ∙ ap (λ (t : Bool). may_occur b && t) h

pub clean_line : (line : List ℕ) → is_clean (words line) ≡ list_all may_occur line
clean_line line = of_filled (slice_split is_space line) ∙ of_split line
