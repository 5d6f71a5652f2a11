-- The names of the scripts that are left. Here s is a trace and a the next worker.
use Rattle.std.proofs.Common.{◌≡◌, ℕ, suc, ◌+◌, ◌-◌, ◌≤◌, Bool, true, false, ◌&&◌, cond, List, [], ◌∷◌, ◌++◌, length, map, refl, ap, sym, ◌∙◌, arith, append-nil, append_assoc}
use Rattle.std.specs.List.{filter, range_with_len}
use Rattle.ledger_model.specs.declared.job.Job.{Job}
use Rattle.ledger_model.specs.Replays.{settled_by}
use Rattle.ledger_model.specs.Traced.{Trace, has_left, left_where}
use Rattle.host_trace.proofs.Firsts.{from_more, from_none, from_on}

module _ (job : Job) (s : Trace) (test : ℕ → Bool) where
  abbrev pub passes : ℕ → Bool
  passes p = has_left job s p && test p

  abbrev pub name : ℕ → ℕ × ℕ
  name p = (p, suc (settled_by s.rows p))

  abbrev pub names_in : List ℕ → List (ℕ × ℕ)
  names_in ps = map name (filter passes ps)

  -- those of the workers from a on
  abbrev pub names_from : ℕ → List (ℕ × ℕ)
  names_from a = names_in (from_on a (length job.workers))

  one_more : (b : Bool) (p : ℕ) (ps : List ℕ) → map name (cond b (p ∷ filter passes ps) (filter passes ps)) ≡ cond b (name p ∷ []) [] ++ names_in ps
  one_more true p ps = refl
  one_more false p ps = refl

  names_more : (a : ℕ) → a ≤ length job.workers → (names : List (ℕ × ℕ)) → (names ++ cond (passes a) (name a ∷ []) []) ++ names_from (a + 1) ≡ names ++ names_from a
  names_more a within names =
      append_assoc names (cond (passes a) (name a ∷ []) []) (names_from (a + 1))
      ∙ ap (λ (list : List (ℕ × ℕ)). names ++ list) (sym (ap names_in (from_more a (length job.workers) within) ∙ one_more (passes a) a (from_on (a + 1) (length job.workers))))

  pub names_push : (a n : ℕ) → a ≤ length job.workers → passes a ≡ true → n ≡ suc (settled_by s.rows a) → (names : List (ℕ × ℕ))
      → (names ++ (a, n) ∷ []) ++ names_from (a + 1) ≡ names ++ names_from a
  names_push a n within passing is names =
      ap (λ (n : ℕ). (names ++ (a, n) ∷ []) ++ names_from (a + 1)) is
      ∙ ap (λ (b : Bool). (names ++ cond b (name a ∷ []) []) ++ names_from (a + 1)) (sym passing) ∙ names_more a within names

  pub names_pass : (a : ℕ) → a ≤ length job.workers → passes a ≡ false → (names : List (ℕ × ℕ)) → names ++ names_from (a + 1) ≡ names ++ names_from a
  names_pass a within failing names =
      ap (λ (list : List (ℕ × ℕ)). list ++ names_from (a + 1)) (sym (append-nil names))
      ∙ ap (λ (b : Bool). (names ++ cond b (name a ∷ []) []) ++ names_from (a + 1)) (sym failing) ∙ names_more a within names

  pub names_none : (a : ℕ) → length job.workers + 1 ≤ a → (names : List (ℕ × ℕ)) → names ++ names_from a ≡ names
  names_none a past names = ap (λ (ps : List ℕ). names ++ names_in ps) (from_none a (length job.workers) past) ∙ append-nil names

  -- All of them.
  pub names_all : names_from 1 ≡ left_where job s test
  names_all = let same : length job.workers + 1 - 1 ≡ length job.workers = omega arith in ap (λ (k : ℕ). names_in (range_with_len 1 k)) same
