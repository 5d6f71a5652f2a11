-- What holds of each seat: as records, and where one seat or one view changes.
use Rattle.std.proofs.Common.{◌≡◌, ◌≢◌, ℕ, ◌<◌, List, set, sym, ap, subst, ◌∙◌, ⊎_elim, arith}
use Rattle.std.proofs.lemmas.List.Elements.{All-weaker}
use mathlib.Core.Option.{some}
use lib.ListN.{get_elem?}
use Rattle.atomic_table.proofs.Lists.{at_set}
use Rattle.stm_model.specs.History.{Entry}
use Rattle.stm_model.specs.World.{View}
use Rattle.stm_model.specs.declared.settings.Settings.{Settings}
use Rattle.ref_table.specs.Knowledge.{Caller, Knowledge, Maker, Mark, Whose}
use Rattle.ref_table.specs.Rule.{FitsWhose, IsCallerSeat, IsMakerSeat, WasGathered}

-- the seats other than id keep what holds of them, and id has the new one
pub all_fit : (K : ℕ → Knowledge → Type 0) (seats : List Knowledge) (id : ℕ) (new : Knowledge) → K id new → ((j : ℕ) (k : Knowledge) → j ≢ id → get_elem? seats j ≡ some k → K j k) → (j : ℕ) (k : Knowledge) → get_elem? (set seats id new) j ≡ some k → K j k
all_fit K seats id new mine others j k there = ⊎_elim (λ (c : (j ≡ id) × (new ≡ k)). subst (λ (y : ℕ × Knowledge). K y.0 y.1) (λ i. (sym c.0 i, c.1 i)) mine)
    (λ (c : (j ≢ id) × (get_elem? seats j ≡ some k)). others j k c.0 c.1) (at_set seats id j new k there)

module _ (settings : Settings) where
  pub of_caller : (who : ℕ → View) (place : ℕ → ℕ) (given i p : ℕ) (k : Knowledge) → k.whose ≡ Caller p → FitsWhose settings who place given i k k.whose → IsCallerSeat who place given i p k.view k.seen
  unfolding FitsWhose
  of_caller who place given i p k is fits = subst (FitsWhose settings who place given i k) is fits

  pub of_maker : (who : ℕ → View) (place : ℕ → ℕ) (given i g : ℕ) (gathered : List (ℕ × ℕ)) (k : Knowledge) → k.whose ≡ Maker g gathered → FitsWhose settings who place given i k k.whose → IsMakerSeat settings who place given i g gathered k.view k.seen
  unfolding FitsWhose
  of_maker who place given i g gathered k is fits = subst (FitsWhose settings who place given i k) is fits

  pub as_caller : (who : ℕ → View) (place : ℕ → ℕ) (given i p : ℕ) (k : Knowledge) → k.whose ≡ Caller p → IsCallerSeat who place given i p k.view k.seen → FitsWhose settings who place given i k k.whose
  unfolding FitsWhose
  as_caller who place given i p k is fits = subst (FitsWhose settings who place given i k) (sym is) fits

  pub as_maker : (who : ℕ → View) (place : ℕ → ℕ) (given i g : ℕ) (gathered : List (ℕ × ℕ)) (k : Knowledge) → k.whose ≡ Maker g gathered → IsMakerSeat settings who place given i g gathered k.view k.seen → FitsWhose settings who place given i k k.whose
  unfolding FitsWhose
  as_maker who place given i g gathered k is fits = subst (FitsWhose settings who place given i k) (sym is) fits

  pub as_mark : (who : ℕ → View) (place : ℕ → ℕ) (given i : ℕ) (k : Knowledge) → k.whose ≡ Mark → FitsWhose settings who place given i k k.whose
  unfolding FitsWhose
  as_mark who place given i k is = subst (FitsWhose settings who place given i k) (sym is) tt

  gathered_stays : (who after : ℕ → View) (place : ℕ → ℕ) (given p : ℕ) (seen : List Entry) → ((q : ℕ) → q ≢ p → after q ≡ who q) → 0 < place p → (one : ℕ × ℕ) → WasGathered who place given seen one → WasGathered after place given seen one
  gathered_stays who after place given p seen same out one was = record {
    low = was.low;
    high = was.high;
    back = was.back;
    counted = ap (λ (view : View). view.seen) (same one.0 (λ e. let at : place one.0 ≡ place p = ap place e in let back : place one.0 ≡ 0 = was.back in omega arith)) ∙ was.counted;
    within = was.within;
  }

  -- Where the view of a caller whose seat is out changes, what holds of another seat holds still.
  pub whose_stays : (who after : ℕ → View) (place : ℕ → ℕ) (given i p : ℕ) (k : Knowledge) (whose : Whose) → ((q : ℕ) → q ≢ p → after q ≡ who q) → 0 < place p → i ≢ place p
      → FitsWhose settings who place given i k whose → FitsWhose settings after place given i k whose
  unfolding FitsWhose
  whose_stays who after place given i p k (Maker g gathered) same out apart fits = record {
    first = fits.first;
    rests = fits.rests;
    counts = fits.counts;
    balance = fits.balance;
    back = fits.back;
    each = All-weaker (WasGathered who place given k.seen) (WasGathered after place given k.seen) (gathered_stays who after place given p k.seen same out) gathered fits.each;
  }
  whose_stays who after place given i p k (Caller q) same out apart fits = record {
    low = fits.low;
    high = fits.high;
    other = fits.other;
    placed = fits.placed;
    shows = same q (λ e. apart (sym fits.placed ∙ ap place e)) ∙ fits.shows;
    counted = fits.counted;
    clock = fits.clock;
    known = fits.known;
  }
  whose_stays who after place given i p k Mark same out apart fits = tt

  -- What is joined to a seat is no part of that.
  pub whose_joined : (who : ℕ → View) (place : ℕ → ℕ) (given i : ℕ) (k : Knowledge) (joined : List Entry) (whose : Whose) → FitsWhose settings who place given i k whose → FitsWhose settings who place given i (record k { joined = joined }) whose
  unfolding FitsWhose
  whose_joined who place given i k joined (Maker g gathered) fits = fits
  whose_joined who place given i k joined (Caller p) fits = fits
  whose_joined who place given i k joined Mark fits = tt
