-- What the bodies' calls tell together. Here m is what is known of the cells.
use Rattle.std.proofs.Common.{◌≡◌, ℕ, ◌+◌, ◌%◌, ◌^◌, List, Some, None, Option, get_or, set, ap, sym, ◌∙◌}
use Rattle.std.specs.Prelude.{Result, Err, Ok, MatchResult}
use Rattle.stm_model.specs.declared.cause.Cause.{Cause}
use Rattle.stm_model.specs.CellsState.{written}
use Rattle.stm_model.specs.Refusing.{RefusesWrite}
use Rattle.stm_model.specs.Telling.{Does, Got, Refused}
use Rattle.stm_model.proofs.TellingLemmas.{Led, Moments, Read, Stopped, Wrote, read_got, read_then, stop_refused, stop_then, stop_wrote, wrote_map, wrote_nothing, wrote_set, wrote_then}
use Rattle.bank_loads.specs.declared.moving.Transfer.{Transfer}
use Rattle.bank_loads.specs.Counting.{counted}
use Rattle.bank_loads.specs.Heaps.{after_transfer, transferred, with_cells}

-- ---- on a heap

-- the value that was read, and one more written
counted_by : (cell count : ℕ) (first second third : List ℕ) → (second ≡ first) × (get_or first cell 0 ≡ count)
    → third ≡ set second cell ((count + 1) % 2 ^ 64) → third ≡ counted cell first
counted_by cell count first second third read wrote =
    wrote ∙ ap (λ heap. set heap cell ((count + 1) % 2 ^ 64)) read.0 ∙ ap (λ value. set first cell ((value + 1) % 2 ^ 64)) (sym read.1)

-- what two cells hold
abbrev pub BothHold : Transfer → (there here : ℕ) → List ℕ → Type 0
BothHold t there here heap = (get_or heap t.from.0 0 ≡ there) × (get_or heap t.to.0 0 ≡ here)

transferred_by : (t : Transfer) (there here : ℕ) (cells : Option (ℕ × ℕ)) (heap : List ℕ) → BothHold t there here heap → after_transfer t there here ≡ cells
    → transferred t heap ≡ with_cells t heap cells
transferred_by t there here cells heap read is = ap (with_cells t heap) (rw (read.0, read.1) is)

-- ---- between moments of cells

module _ {S L : Type 0} (m : Moments S L) where
  -- a cell is read, and one more written
  pub told_counted : (c d e : S) (cell count : ℕ) (answer : Result (Unit {0}) Cause)
      → Led m c d (Got (m.lawful (m.law c)) cell count)
      → MatchResult answer (λ out. Led m d e (Does (written cell ((count + 1) % 2 ^ 64)))) (λ cause. Led m d e (Refused (RefusesWrite (m.state d) cell) cause))
      → MatchResult answer (λ out. Wrote m c e (λ before after. after ≡ counted cell before)) (λ cause. Stopped m c e cause)
  told_counted c d e cell count (Ok out) read wrote =
      wrote_then m c d e _ _ _ (counted_by cell count) (wrote_nothing m c d _ (read_got m c d cell count read)) (wrote_set m d e cell ((count + 1) % 2 ^ 64) wrote)
  told_counted c d e cell count (Err cause) read refused =
      stop_then m c d e _ cause (read_got m c d cell count read) (stop_refused m d e (RefusesWrite (m.state d) cell) cause refused)

  -- two cells are read
  pub told_both : (c d e : S) (t : Transfer) (there here : ℕ)
      → Led m c d (Got (m.lawful (m.law c)) t.from.0 there) → Led m d e (Got (m.lawful (m.law d)) t.to.0 here)
      → Read m c e (BothHold t there here)
  told_both c d e t there here one two =
      read_then m c d e _ _ _ (λ heap a b. (a, b)) (read_got m c d t.from.0 there one) (read_got m d e t.to.0 here two)

  -- the cells don't change
  pub told_still : (c d : S) (t : Transfer) (there here : ℕ) → Read m c d (BothHold t there here) → after_transfer t there here ≡ None
      → Wrote m c d (λ before after. after ≡ transferred t before)
  told_still c d t there here read none =
      wrote_map m c d _ _ (λ before after p. p.0 ∙ sym (transferred_by t there here None before p.1 none)) (wrote_nothing m c d _ read)

  -- the first of them changes
  pub told_less : (c d e : S) (t : Transfer) (there here less : ℕ) → Read m c d (BothHold t there here)
      → Led m d e (Does (written t.from.0 less)) → Wrote m c e (λ before after. (after ≡ set before t.from.0 less) × BothHold t there here before)
  told_less c d e t there here less read wrote =
      wrote_then m c d e _ _ _ (λ first second third a b. (b ∙ ap (λ heap. set heap t.from.0 less) a.0, a.1)) (wrote_nothing m c d _ read) (wrote_set m d e t.from.0 less wrote)

  -- and then the second
  pub told_transferred : (c d e : S) (t : Transfer) (there here less more : ℕ) (answer : Result (Unit {0}) Cause)
      → after_transfer t there here ≡ Some (less, more)
      → Wrote m c d (λ before after. (after ≡ set before t.from.0 less) × BothHold t there here before)
      → MatchResult answer (λ out. Led m d e (Does (written t.to.0 more))) (λ cause. Led m d e (Refused (RefusesWrite (m.state d) t.to.0) cause))
      → MatchResult answer (λ out. Wrote m c e (λ before after. after ≡ transferred t before)) (λ cause. Stopped m c e cause)
  told_transferred c d e t there here less more (Ok out) is one two =
      wrote_then m c d e _ _ _
      (λ first second third a b. b ∙ ap (λ heap. set heap t.to.0 more) a.0 ∙ sym (transferred_by t there here (Some (less, more)) first a.1 is))
      one (wrote_set m d e t.to.0 more two)
  told_transferred c d e t there here less more (Err cause) is one refused =
      stop_wrote m c d e _ cause one (stop_refused m d e (RefusesWrite (m.state d) t.to.0) cause refused)
