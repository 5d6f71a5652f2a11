-- A cell's metadata word as a number, and as its fields.
use Rattle.std.specs.Prelude.{ℕ, ◌+◌, ◌*◌, ◌/◌, ◌%◌, ◌^◌, ◌≤◌, ◌==◌, Bool, true, false, not, ◌&&◌, nat_eq}
use Rattle.std.specs.Int.{bit_at, from_bool}
use Rattle.meta_word.specs.declared.meta.Meta.{Meta}
use Rattle.meta_word.specs.declared.meta.TheConstants.{MAX_OWNER, MAX_VERSION}

-- each number has room in its bits
pub record MetaFits (meta : Meta) : Type 0 where
  pub owner : meta.owner ≤ MAX_OWNER
  pub version : meta.version ≤ MAX_VERSION

-- Changing is bit 63, pending is bit 62, the owner begins at bit 51, and the version at bit 0.
unfoldable pub meta_word : Meta → ℕ
meta_word meta = 2 ^ 63 * from_bool meta.changing + 2 ^ 62 * from_bool meta.pending + 2 ^ 51 * meta.owner + meta.version

-- the fields, each read from its bits: the owner has 11 of them, the version 51
unfoldable pub meta_of : ℕ → Meta
meta_of word = record {
  changing = bit_at word 63 == 1;
  pending = bit_at word 62 == 1;
  owner = word / 2 ^ 51 % 2 ^ 11;
  version = word % 2 ^ 51;
}

-- ---- what the word says to a caller

-- a caller other than this one
abbrev pub is_another : ℕ → ℕ → Bool
is_another own caller = not (nat_eq caller 0) && not (nat_eq caller own)

abbrev pub owned_by_another : ℕ → Meta → Bool
owned_by_another own meta = is_another own meta.owner

-- another caller is about to store a value
abbrev pub changing_by_another : ℕ → Meta → Bool
changing_by_another own meta = meta.changing && owned_by_another own meta

-- the cell still has the version, and no other caller is about to change it
abbrev pub still_has : ℕ → ℕ → Meta → Bool
still_has own version meta = nat_eq meta.version version && not (changing_by_another own meta)

-- ---- two words

abbrev pub same_bool : Bool → Bool → Bool
same_bool true other = other
same_bool false other = not other

-- the same but for the pending bit
abbrev pub same_but_pending : Meta → Meta → Bool
same_but_pending meta other =
    same_bool meta.changing other.changing && (nat_eq meta.owner other.owner && nat_eq meta.version other.version)

-- the same word
abbrev pub same_meta : Meta → Meta → Bool
same_meta meta other = same_but_pending meta other && same_bool meta.pending other.pending
