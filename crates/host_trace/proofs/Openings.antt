-- The contents that a job begins with, opening by opening.
use Rattle.std.proofs.Common.{◌+◌, ◌<◌, ℕ, List, [], ◌∷◌}
use Rattle.std.specs.List.{AllByRecursion}
use Rattle.ledger_model.specs.Fits.{OpeningsAscend}

-- Each opening names a reference that is there.
pub openings_within : (refs next : ℕ) (openings : List (ℕ × ℕ)) → OpeningsAscend refs next openings → AllByRecursion (λ opening. opening.0 < refs) openings
openings_within refs next [] fit = tt
openings_within refs next (opening ∷ openings) fit = (fit.1, openings_within refs (opening.0 + 1) openings fit.3)
