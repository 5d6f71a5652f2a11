-- The listing of a job that has been run: its rolled lines by worker, and the whole. Here t is the job on its way and s a trace.
use Rattle.std.proofs.Common.{◌≡◌, ℕ, suc, ◌+◌, ◌-◌, ◌<◌, add-zero, true, false, List, [], ◌∷◌, ◌++◌, length, get_or, refl, ap, sym, ◌∙◌, arith}
use Rattle.std.specs.List.{flat_map, range_with_len}
use Rattle.std.specs.List.Sorted.{IsPermutation, IsSortedBy}
use Rattle.ledger_model.specs.declared.job.Contents.{Contents}
use Rattle.ledger_model.specs.declared.listing.Listing.{Listing}
use Rattle.ledger_model.specs.Contents.{opening_contents}
use Rattle.ledger_model.specs.Order.{stands_before}
use Rattle.ledger_model.specs.Replays.{rolled_of}
use Rattle.ledger_model.specs.Traced.{IsListed, Trace, left_where, refs_in, workers_of}
use Rattle.host_trace.specs.declared.trace.Tracing.{Tracing}
use Rattle.host_trace.specs.declared.worker.Worker.{Worker}
use Rattle.host_trace.specs.Tracings.{Traces, parked_so}
use Rattle.host_trace.proofs.Sorted.{apart_moved, numbered_apart, sorted_in_order}

-- one part for each element, or for each number from a on
parts_alike : {X A : Type 0} (f : X → List A) (g : ℕ → List A) (xs : List X) (a : ℕ) → ((k : ℕ) (d : X) → k < length xs → f (get_or xs k d) ≡ g (a + k))
    → flat_map f xs ≡ flat_map g (range_with_len a (length xs))
parts_alike f g [] a each = refl
parts_alike {A = A} f g (x ∷ xs) a each =
    let first : f x ≡ g a = each 0 x (omega arith) ∙ ap g (add-zero a) in
    let rest = parts_alike f g xs (a + 1) (λ k d less. each (suc k) d (omega arith) ∙ ap g (let same : a + suc k ≡ a + 1 + k = omega arith in same)) in
    ap (λ (list : List A). list ++ flat_map f xs) first ∙ ap (λ (list : List A). g a ++ list) rest

module _ {t : Tracing} {s : Trace} (traces : Traces t s) where
  lines_there : flat_map (λ worker. worker.rolled.items) t.workers.items ≡ flat_map (λ p. rolled_of p s.rolled) (workers_of t.job.now)
  lines_there =
      parts_alike (λ (worker : Worker). worker.rolled.items) (λ p. rolled_of p s.rolled) t.workers.items 1 (λ k d less.
      let place : 1 + k - 1 ≡ k = omega arith in
      ap (λ (k : ℕ). (get_or t.workers.items k d).rolled.items) (sym place) ∙ sym (traces.works (1 + k) d (omega arith, omega (arith, traces.workers, less))).lists.rolled)
      ∙ ap (λ (n : ℕ). flat_map (λ p. rolled_of p s.rolled) (range_with_len 1 n)) traces.workers

  pub listed : (listing : Listing) (opening : Contents) → IsPermutation t.rows listing.rows → IsSortedBy stands_before listing.rows
      → listing.rolled ≡ flat_map (λ worker. worker.rolled.items) t.workers.items
      → listing.blocked ≡ left_where t.job.now s (parked_so s true) → listing.worn ≡ left_where t.job.now s (parked_so s false)
      → opening ≡ opening_contents t.job.now → listing.contents ≡ record opening { refs = refs_in t.job.now s.world }
      → IsListed t.job.now s listing
  listed listing opening moved sorted lines blocked worn is contents =
      let all : IsPermutation s.rows listing.rows = rw traces.rows moved in
      record {
        rows = all;
        in_order = sorted_in_order listing.rows sorted (apart_moved s.rows listing.rows all (numbered_apart s.rows traces.numbered));
        rolled = lines ∙ lines_there;
        blocked = blocked;
        worn = worn;
        contents = contents ∙ ap (λ (contents : Contents). record contents { refs = refs_in t.job.now s.world }) is;
      }
