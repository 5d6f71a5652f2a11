-- Waits for a cell, with no attempt in flight.
use Rattle.std.proofs.Common.{◌≡◌, ℕ, ◌<◌, refl}
use Rattle.meta_word.specs.declared.meta.TheConstants.{PENDING_BIT}
use Rattle.opacity.specs.Words.{IsOfTable}
use Rattle.stm_model.specs.Accesses.{SetPending, access_of, word_of}
use Rattle.stm_model.specs.World.{Terms, cells_in}
use Rattle.stm_model.specs.declared.access.Access.TheVariants.{SetBits}
use Rattle.stm_model.specs.declared.access.Word.TheVariants.{Meta}
use Rattle.stm_model.specs.declared.cause.Addr.{Addr}

pub sets_cell : (addr : Addr) → SetBits (Meta addr) PENDING_BIT ≡ access_of (SetPending addr.0)
unfolding access_of
sets_cell addr = refl

pub of_cell : (terms : Terms) (addr : Addr) → addr.0 < cells_in terms → IsOfTable terms (word_of (SetBits (Meta addr) PENDING_BIT))
unfolding IsOfTable word_of
of_cell terms addr within = within
