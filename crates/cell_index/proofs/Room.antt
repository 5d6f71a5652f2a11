-- The room of an index, and its addresses.
use Rattle.std.proofs.Common.{◌≡◌, ◌≢◌, ℕ, zero, suc, ◌<◌, List, [], ◌∷◌, ◌++◌, length, get_or, take, Option, Some, None, refl, ap, sym, ◌∙◌, arith}
use Rattle.std.specs.Prelude.{MatchOption}
use Rattle.std.specs.List.{All}
use Rattle.std.specs.Map.{keys_of}
use Rattle.std.proofs.lemmas.List.{get_or_default}
use Rattle.std.proofs.lemmas.Map.Entries.{length-keys_of}
use Rattle.std.proofs.lemmas.Bool.Decides.{nat_tests}
use Rattle.cell_index.specs.Chains.{IsFound, room_of}

pub has_heads : (heads : List ℕ) (capacity count room : ℕ) → room_of heads capacity ≡ room → count < room → length heads ≡ 256
has_heads heads capacity count room is less = grind (arith, nat_tests)

pub room_with_heads : (heads : List ℕ) (capacity : ℕ) → length heads ≡ 256 → room_of heads capacity ≡ capacity
room_with_heads heads capacity is = rw is refl

pub room_same : (heads other : List ℕ) (capacity : ℕ) → length other ≡ length heads → room_of other capacity ≡ room_of heads capacity
room_same heads other capacity same = rw same refl

pub keys_push : (entries : List (ℕ × ℕ)) (address link : ℕ) → keys_of (entries ++ (address, link) ∷ []) ≡ keys_of entries ++ address ∷ []
keys_push [] address link = refl
keys_push (entry ∷ entries) address link = ap (λ (keys : List ℕ). entry.0 ∷ keys) (keys_push entries address link)

pub keys_take : (count : ℕ) (entries : List (ℕ × ℕ)) → keys_of (take count entries) ≡ take count (keys_of entries)
keys_take zero entries = refl
keys_take (suc count) [] = refl
keys_take (suc count) (entry ∷ entries) = ap (λ (keys : List ℕ). entry.0 ∷ keys) (keys_take count entries)

pub key_at : (entries : List (ℕ × ℕ)) (place : ℕ) → get_or (keys_of entries) place 0 ≡ (get_or entries place (0, 0)).0
key_at [] place = refl
key_at (entry ∷ entries) zero = refl
key_at (entry ∷ entries) (suc place) = key_at entries place

-- a search among the entries is one among their addresses
pub found_key : (seen entries : List (ℕ × ℕ)) (addresses : List ℕ) (address : ℕ) (found : Option ℕ) → seen ≡ entries → keys_of entries ≡ addresses → IsFound seen address found
    → MatchOption found (All (λ other. other ≢ address) addresses) (λ place. (place < length addresses) × (get_or addresses place 0 ≡ address))
found_key seen entries addresses address None same keys none = λ place d within is.
    let inside : place < length entries = rw (← keys, length-keys_of) at within in
    none place (0, 0) (rw same inside)
    (rw same (sym (key_at entries place) ∙ (rw keys (get_or_default addresses place 0 d within) ∙ is)))
found_key seen entries addresses address (Some place) same keys at = (
  rw (← keys, length-keys_of entries, ← same) at.0,
  rw (← keys) (key_at entries place ∙ rw same at at.1),
)
