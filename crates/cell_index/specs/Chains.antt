-- Private: the chains of an index. A link is one more than the place of an entry, or 0 for none.
use Rattle.std.specs.Prelude.{◌≡◌, ◌≢◌, ℕ, ◌+◌, ◌%◌, ◌<◌, ◌≤◌, nat_eq, cond, List, Option, length, slice_index, slice_index_or, MatchOption}
use Rattle.std.specs.List.{All}

-- the chain of the entry at a place
abbrev pub chain_at : List (ℕ × ℕ) → ℕ → ℕ
chain_at entries place = (slice_index_or entries place (0, 0)).0 % 256

-- The link leads to the newest entry of a chain among the first ones; it is 0 where these have none.
pub record IsNewest (entries : List (ℕ × ℕ)) (count chain link : ℕ) : Type 0 where
  pub within : link ≤ count
  pub here : (place : ℕ) → place + 1 ≡ link → chain_at entries place ≡ chain
  pub last : (place : ℕ) → link ≤ place → place < count → chain_at entries place ≢ chain

-- Each head leads to the newest entry of its chain, and each entry to the next older one.
pub record IsChained (heads : List ℕ) (entries : List (ℕ × ℕ)) : Type 0 where
  pub starts : (chain : ℕ) → chain < 256 → IsNewest entries (length entries) chain (slice_index heads chain)
  pub links : (place : ℕ) → place < length entries → IsNewest entries place (chain_at entries place) (slice_index_or entries place (0, 0)).1

-- The answer is a place of the address, or there is none.
abbrev pub IsFound : List (ℕ × ℕ) → ℕ → Option ℕ → Type 0
IsFound entries address found =
    MatchOption found (All (λ entry. entry.0 ≢ address) entries) (λ place. (place < length entries) × ((slice_index_or entries place (0, 0)).0 ≡ address))

-- the room of an index: there is none before it has its heads
abbrev pub room_of : List ℕ → ℕ → ℕ
room_of heads capacity = cond (nat_eq (length heads) 256) capacity 0
