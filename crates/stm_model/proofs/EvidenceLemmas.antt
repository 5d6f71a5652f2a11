-- What a look at a cell shows that doesn't hold good.
use Rattle.std.proofs.Common.{◌≡◌, ℕ, Bool, true, false, not, ◌&&◌, inl, inr, nat_eq, refl, sym, arith}
use Rattle.std.proofs.lemmas.Bool.{cases_eq}
use Rattle.std.proofs.lemmas.Bool.Decides.{nat_tests}
use Rattle.meta_word.specs.Meta.{changing_by_another, still_has}
use Rattle.meta_word.specs.declared.meta.Meta.{Meta}
use Rattle.stm_model.specs.Evidence.{HasMoved, IsStale}

-- with the version as it was, only another's changing is left
changing : (same other : Bool) → same ≡ true → (same && not other) ≡ false → other ≡ true
changing true true same h = refl
changing true false same h = cc h
changing false other same h = cc same

-- The cell no longer stands as it was read.
pub is_stale : (own version : ℕ) (meta : Meta) → still_has own version meta ≡ false → IsStale own version meta
is_stale own version meta h = elim (cases_eq meta.version version) [
  | inl same ↦ inr (changing (nat_eq meta.version version) (changing_by_another own meta) (grind (arith, nat_tests)) h)
  | inr other ↦ inl other
]

moved : (own : ℕ) (first second : Meta) → changing_by_another own first ≡ false → IsStale own first.version second → HasMoved own first second
moved own first second quiet (inl other) = inl (λ same. other (sym same))
moved own first second quiet (inr busy) = inr (inl (busy, quiet))

-- Nobody else was changing the cell when its metadata was loaded, and validation shows another.
pub has_moved : (own : ℕ) (first second : Meta) → changing_by_another own first ≡ false → still_has own first.version second ≡ false → HasMoved own first second
has_moved own first second quiet h = moved own first second quiet (is_stale own first.version second h)
