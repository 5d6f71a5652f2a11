-- What an access makes of its word, and of the words of a table.
use Rattle.std.specs.Prelude.{◌≡◌, ◌<◌, ◌^◌, ℕ, nat_eq, if◌then◌else◌, List, bit_and, bit_or, length, slice_index, slice_set}
use Rattle.std.specs.Int.{bit_not, w64}
use Rattle.meta_word.specs.Meta.{MetaFits}
use Rattle.meta_word.specs.Status.{StatusFits}
use Rattle.stm_model.specs.Accesses.{access_of, word_of, Act, StoreStatus, SwapMeta, ExchangeMeta, ExchangeStatus}
use Rattle.stm_model.specs.Heap.{AreWords}
use Rattle.stm_model.specs.World.{IsCaller, Terms, cells_in, place_of, words_in}
use Rattle.stm_model.specs.declared.access.Access.{Access}
use Rattle.stm_model.specs.declared.access.Access.TheVariants.{ClearBits, Exchange, Load, SetBits, Store, Swap}
use Rattle.stm_model.specs.declared.access.Word.{Word}
use Rattle.stm_model.specs.declared.access.Word.TheVariants.{Clock, Meta as MetaOf, Status, Value}

-- what the access makes of what it finds there
unfoldable pub effect : Access → ℕ → ℕ
effect (Load word) found = found
effect (Store word new) found = new
effect (Swap word new) found = new
effect (Exchange word old new) found = if nat_eq found old then new else found
effect (SetBits word mask) found = bit_or found mask
effect (ClearBits word mask) found = bit_and found (bit_not w64 mask)

-- what the access finds in the table
abbrev pub word_found : Terms → List ℕ → Access → ℕ
word_found terms words access = slice_index words (place_of terms.callers (word_of access))

-- the table after the access
abbrev pub table_after : Terms → List ℕ → Access → List ℕ
table_after terms words access =
    slice_set words (place_of terms.callers (word_of access)) (effect access (word_found terms words access))

-- These are the words of a table.
pub record IsTable (terms : Terms) (words : List ℕ) : Type 0 where
  pub size : length words ≡ words_in terms
  pub each : AreWords words

-- The table has this word.
unfoldable pub IsOfTable : Terms → Word → Type 0
IsOfTable terms Clock = Unit {0}
IsOfTable terms (Status p) = IsCaller terms p
IsOfTable terms (MetaOf addr) = addr.0 < cells_in terms
IsOfTable terms (Value addr) = addr.0 < cells_in terms

-- The fields that the access expects and puts fit their words.
unfoldable pub FieldsFit : Act → Type 0
FieldsFit (StoreStatus p new) = StatusFits new
FieldsFit (ExchangeStatus p old new) = StatusFits old × StatusFits new
FieldsFit (ExchangeMeta cell old new) = MetaFits old × MetaFits new
FieldsFit (SwapMeta cell new) = MetaFits new
FieldsFit act = Unit {0}

-- The numbers that the access brings are words.
unfoldable pub BringsWords : Access → Type 0
BringsWords (Load word) = Unit {0}
BringsWords (Store word new) = new < 2 ^ 64
BringsWords (Swap word new) = new < 2 ^ 64
BringsWords (Exchange word old new) = (old < 2 ^ 64) × (new < 2 ^ 64)
BringsWords (SetBits word mask) = mask < 2 ^ 64
BringsWords (ClearBits word mask) = mask < 2 ^ 64

-- The access goes to a word of the table, and its fields fit where the numbers that it brings are words.
pub record FitsTable (terms : Terms) (act : Act) : Type 0 where
  pub word : IsOfTable terms (word_of (access_of act))
  pub fields : BringsWords (access_of act) → FieldsFit act
