-- The names of the scripts that are left.
use Rattle.std.proofs.Common.{◌≡◌, ◌≢◌, ℕ, suc, ◌<◌, Bool, true, false, ◌&&◌, cond, nat_eq, List, [], ◌∷◌, length, refl, ap, ◌∙◌, arith}
use Rattle.std.specs.List.{AllByRecursion, filter}
use Rattle.std.proofs.lemmas.Bool.{and_parts}
use Rattle.std.proofs.lemmas.Bool.Decides.{nat_tests}
use Rattle.stm_model.specs.Pairs.{KeysAscend}
use Rattle.ledger_model.specs.declared.job.Job.{Job}
use Rattle.ledger_model.specs.Replays.{names_of, settled_by}
use Rattle.ledger_model.specs.Traced.{Trace, has_left, left_where, workers_of}
use Rattle.ledger_model.proofs.Lists.{each_weaker}
use Rattle.trace_laws.proofs.Lists.{Ordered, Ordered-filter, Ordered-map, each_map, each_passing, filter_all, filter_none}
use Rattle.trace_laws.proofs.Numbers.{IsBetween, Has-range, each_in_range, map_filter, one_part, range_ascends}

keys_ascend : (pairs : List (ℕ × ℕ)) → Ordered (λ a b. a.0 < b.0) pairs → KeysAscend pairs
keys_ascend [] order = tt
keys_ascend (a ∷ []) order = tt
keys_ascend (a ∷ b ∷ pairs) order = (order.0.0, keys_ascend (b ∷ pairs) order.1)

module _ (job : Job) (s : Trace) (test : ℕ → Bool) where
  abbrev passes : ℕ → Bool
  passes p = has_left job s p && test p

  -- the name of the first script that isn't settled
  abbrev name : ℕ → ℕ × ℕ
  name p = (p, suc (settled_by s.rows p))

  pub each_left : (P : ℕ × ℕ → Type 0) → ((p : ℕ) → IsBetween 1 (length job.workers) p → has_left job s p ≡ true → test p ≡ true → P (p, suc (settled_by s.rows p)))
      → AllByRecursion P (left_where job s test)
  each_left P f =
      each_map P name (filter passes (workers_of job))
      (each_passing passes (λ p. P (name p)) (workers_of job)
      (each_weaker (IsBetween 1 (length job.workers)) (λ p. passes p ≡ true → P (name p))
      (λ p within is. let both = and_parts (has_left job s p) (test p) is in f p within both.0 both.1) (workers_of job) (each_in_range 1 (length job.workers))))

  pub left_ascends : KeysAscend (left_where job s test)
  left_ascends =
      keys_ascend (left_where job s test)
      (Ordered-map (λ a b. a.0 < b.0) name (filter passes (workers_of job)) (Ordered-filter (λ i j. i < j) passes (workers_of job) (range_ascends 1 (length job.workers))))

  -- the part of a worker
  abbrev part : ℕ → List (ℕ × ℕ)
  part p = cond (passes p) (name p ∷ []) []

  other_part : (p q : ℕ) → q ≢ p → names_of p (part q) ≡ []
  other_part p q other = go (passes q) where
    go : (b : Bool) → names_of p (cond b (name q ∷ []) []) ≡ []
    go true = filter_none (λ name. nat_eq name.0 p) (name q ∷ []) (grind (arith, nat_tests), tt)
    go false = refl

  own_part : (p : ℕ) → names_of p (part p) ≡ part p
  own_part p = go (passes p) where
    go : (b : Bool) → names_of p (cond b (name p ∷ []) []) ≡ cond b (name p ∷ []) []
    go true = filter_all (λ name. nat_eq name.0 p) (name p ∷ []) (grind (arith, nat_tests), tt)
    go false = refl

  pub worker_left : (p : ℕ) → IsBetween 1 (length job.workers) p
      → names_of p (left_where job s test) ≡ cond (has_left job s p && test p) ((p, suc (settled_by s.rows p)) ∷ []) []
  worker_left p within =
      ap (λ (names : List (ℕ × ℕ)). names_of p names) (map_filter name passes (workers_of job))
      ∙ one_part (λ name. nat_eq name.0 p) part p (other_part p) (workers_of job) (range_ascends 1 (length job.workers)) (Has-range 1 (length job.workers) p within)
      ∙ own_part p
