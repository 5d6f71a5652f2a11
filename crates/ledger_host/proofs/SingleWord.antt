-- A list of one word.
use Rattle.std.proofs.Common.{◌≡◌, ◌<◌, ◌≤◌, ℕ, List, [], ◌∷◌, length, map, get_or, ap, sym, ◌∙◌, arith}

-- its text is that of the word
pub map-single : {X : Type 0} (f : X → List ℕ) (words : List X) (word : X) (text : List ℕ) → 1 ≤ length words → length words < 2 → word ≡ get_or words 0 word
    → (f word ≡ text → map f words ≡ text ∷ []) × (map f words ≡ text ∷ [] → f word ≡ text)
map-single f [] word text some few is = absurd (omega arith)
map-single {X} f (w ∷ []) word text some few is =
    (λ e. ap (λ (t : List ℕ). t ∷ []) (ap f (sym is) ∙ e), λ e. ap f is ∙ (cc))
map-single f (w ∷ v ∷ words) word text some few is = absurd (omega arith)
