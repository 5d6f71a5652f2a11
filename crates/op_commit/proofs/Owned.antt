-- The exchange that makes a caller the owner of a cell.
use Rattle.std.proofs.Common.{◌≡◌, ℕ, Bool, [], Some, refl}
use Rattle.meta_word.specs.Meta.{meta_word}
use Rattle.meta_word.specs.declared.meta.Meta.{Meta}
use Rattle.stm_model.specs.declared.access.Access.TheVariants.{Exchange}
use Rattle.stm_model.specs.Accesses.{access_of, meta_of_cell, next_access, next_at, owned}
use Rattle.stm_model.specs.After.{at}
use Rattle.stm_model.specs.Attempt.{Attempt, Acquire}

-- It is won where the word that was found is the one that was expected.
pub wins : (t : Attempt) (own cell value left : ℕ) (tried : Bool) (first expected found meta : Meta) (again : Bool) (word : ℕ) →
    t.due ≡ [] → t.own ≡ own → meta_word found ≡ word → found ≡ expected → meta ≡ found →
    next_access (at t (Acquire cell value left tried first expected again)) ≡ Some (Exchange (meta_of_cell cell) word (meta_word (owned own meta)))
unfolding next_at access_of
wins t own cell value left tried first expected found meta again word nothing for_own comes_back won carried =
    rw (nothing, for_own, carried, ← won, comes_back) refl
