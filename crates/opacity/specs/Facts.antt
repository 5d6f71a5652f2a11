-- What a ghost field of the plain world rests on.
use Rattle.std.proofs.Common.{ℕ, List}
use denote.Struct.Props.{props}
use Rattle.stm_model.specs.Heap.{AreWords}

pub AreWords-prop : (words : List ℕ) → IsProp (AreWords words)
AreWords-prop words = hlevel props
