-- What an index is to the list of cells that it stands beside.
use Rattle.std.specs.Prelude.{◌≡◌, ℕ, ◌<◌, ◌≤◌, List, length, max, min, take}

-- the addresses in the order in which they came, and how many it can have before it takes memory
pub record Cells : Type 0 where
  pub addresses : List ℕ
  pub room : ℕ

-- The index is one of these cells. It has all of them, but where they are few it may lack the last ones. It has room for what it has.
pub record IsIndexOf (index : Cells) (cells : List ℕ) : Type 0 where
  pub first : index.addresses ≡ take (length index.addresses) cells
  pub all : 32 < length cells → length index.addresses ≡ length cells
  pub fits : length index.addresses ≤ index.room

-- how many cells a list can have before it or its index takes memory: few need no index
abbrev pub room_beside : ℕ → Cells → ℕ
room_beside capacity index = min capacity (max 32 index.room)
