-- The sum of some cells, cell by cell.
use Rattle.std.proofs.Common.{◌≡◌, ℕ, ◌+◌, ◌%◌, ◌^◌, true, List, get_or, map, cond, refl, ap, sym, ◌∙◌, subst, arith}
use Rattle.std.proofs.Math.Nat.{mod-add-mod}
use Rattle.std.proofs.lemmas.List.FromFn.{sum_by-map-range_with_len_more}
use Rattle.std.specs.List.{range_with_len, sum}
use Rattle.stm_model.specs.declared.cause.Cause.{Cause}
use Rattle.stm_model.specs.Refusing.{RefusesRead}
use Rattle.stm_model.specs.Telling.{Got, Refused}
use Rattle.stm_model.proofs.TellingLemmas.{Led, Moments, Read, Stopped, Wrote, read_got, read_nothing, read_then, stop_refused, stop_then, wrote_nothing, wrote_then}
use Rattle.bank_loads.specs.declared.summing.Tally.{Tally}
use Rattle.bank_loads.specs.Counting.{cell_behind, counted, tally, tally_of}
use Rattle.bank_loads.specs.Heaps.{tallied}

tally_of-more : (steps base total value : ℕ) (heap : List ℕ) → total ≡ tally_of steps base heap → get_or heap (cell_behind base steps) 0 ≡ value
    → (total + value) % 2 ^ 64 ≡ tally_of (steps + 1) base heap
tally_of-more steps base total value heap is read =
    let cells : List ℕ = map (λ step. get_or heap (cell_behind base step) 0) (range_with_len 0 steps) in
    rw (is, ← read) (mod-add-mod (sum cells) (2 ^ 64) (get_or heap (cell_behind base steps) 0)
    ∙ ap (λ n. n % 2 ^ 64) (sym (sum_by-map-range_with_len_more (λ n. n) (λ step. get_or heap (cell_behind base step) 0) 0 steps steps (omega arith))))

module _ {S L : Type 0} (m : Moments S L) where
  -- no cell yet
  pub told_no_cell : (c : S) (base : ℕ) → Read m c c (λ heap. 0 ≡ tally_of 0 base heap)
  told_no_cell c base = read_nothing m c _ (λ heap. refl)

  -- one cell more
  pub told_cell : (c d e : S) (steps base cell total value : ℕ) → cell ≡ cell_behind base steps
      → Read m c d (λ heap. total ≡ tally_of steps base heap) → Led m d e (Got (m.lawful (m.law d)) cell value)
      → Read m c e (λ heap. (total + value) % 2 ^ 64 ≡ tally_of (steps + 1) base heap)
  told_cell c d e steps base cell total value place so_far got =
      read_then m c d e _ _ _ (λ heap is read. tally_of-more steps base total value heap is (subst (λ n. get_or heap n 0 ≡ value) place read))
      so_far (read_got m d e cell value got)

  -- a cell is refused
  pub told_no_more : (c d e : S) (steps base cell total : ℕ) (cause : Cause)
      → Read m c d (λ heap. total ≡ tally_of steps base heap) → Led m d e (Refused (RefusesRead (m.state d) cell) cause) → Stopped m c e cause
  told_no_more c d e steps base cell total cause so_far refused =
      stop_then m c d e _ cause so_far (stop_refused m d e (RefusesRead (m.state d) cell) cause refused)

  -- one is added to the base
  pub told_added : (c d e : S) (t : Tally) (total : ℕ) → t.adds ≡ true → Read m c d (λ heap. total ≡ tally t.base heap)
      → Wrote m d e (λ before after. after ≡ counted t.base before)
      → Wrote m c e (λ before after. (total ≡ tally t.base before) × (after ≡ tallied t before))
  told_added c d e t total adds read wrote = wrote_then m c d e _ _ _
      (λ first second third a b. (a.1, b ∙ ap (counted t.base) a.0 ∙ ap (λ x. cond x (counted t.base first) first) (sym adds)))
      (wrote_nothing m c d _ read) wrote
