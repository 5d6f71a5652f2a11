-- How many numbers are out.
use Rattle.std.proofs.Common.{◌≡◌, ℕ, zero, suc, ◌+◌, ◌<◌, ◌≤◌, Bool, cond, eqb, refl, sym, ap, ◌∙◌, inl, inr, arith}
use Rattle.std.proofs.lemmas.Bool.{cases_eq, eq-eqb, ne_eqb}
use Rattle.stm_model.specs.World.{replaced}
use Rattle.opacity.proofs.Places.{replaced_else, replaced_here}
use Rattle.ref_table.specs.Rule.{out_of}

-- one, or none, for a place
abbrev one_at : ℕ → ℕ
one_at place = cond (eqb place 0) 0 1

one_out : (place : ℕ) → 0 < place → one_at place ≡ 1
one_out place out = ap (λ (b : Bool). cond {A = ℕ} b 0 1) (ne_eqb place 0 (λ none. omega arith))

none_out : (place : ℕ) → place ≡ 0 → one_at place ≡ 0
none_out place none = ap (λ (b : Bool). cond {A = ℕ} b 0 1) (eq-eqb place 0 none)

-- the same at equal places
pub out_same : (f g : ℕ → ℕ) (n : ℕ) → ((p : ℕ) → 0 < p → p ≤ n → f p ≡ g p) → out_of f n ≡ out_of g n
out_same f g zero same = refl
out_same f g (suc n) same =
    let here : one_at (f (suc n)) ≡ one_at (g (suc n)) = ap one_at (same (suc n) (omega arith) (omega arith)) in
    let rest : out_of f n ≡ out_of g n = out_same f g n (λ p low high. same p low (omega arith)) in
    omega arith

-- Where none is out, each place is 0.
pub out_none : (f : ℕ → ℕ) (n : ℕ) → out_of f n ≡ 0 → (p : ℕ) → 0 < p → p ≤ n → f p ≡ 0
out_none f zero none p low high = absurd (omega arith)
out_none f (suc n) none p low high = elim (cases_eq (f (suc n)) 0) [
  | inl here ↦ elim (cases_eq p (suc n)) [
    | inl is ↦ ap f is ∙ here
    | inr other ↦ out_none f n (omega arith) p low (omega arith)
  ]
  | inr some ↦ let one : one_at (f (suc n)) ≡ 1 = one_out (f (suc n)) (omega arith) in absurd (omega arith)
]

-- One more is out where the next number has a place.
pub out_more : (f : ℕ → ℕ) (n place : ℕ) → 0 < place → out_of (replaced f (n + 1) place) (n + 1) ≡ out_of f n + 1
out_more f n place out = go (n + 1) (omega arith)
  where
    go : (m : ℕ) → m ≡ suc n → out_of (replaced f m place) m ≡ out_of f n + 1
    go zero is = absurd (omega arith)
    go (suc k) is =
        let same : k ≡ n = omega arith in
        let here : one_at (replaced f (suc k) place (suc k)) ≡ 1 = one_out (replaced f (suc k) place (suc k)) (let at = replaced_here f (suc k) place in omega arith) in
        let rest : out_of (replaced f (suc k) place) k ≡ out_of f k = out_same (replaced f (suc k) place) f k (λ p low high. replaced_else f (suc k) place p (λ e. omega arith)) in
        let was : out_of f k ≡ out_of f n = ap (out_of f) same in
        omega arith

-- One fewer is out where one of them has no place any more.
pub out_fewer : (f : ℕ → ℕ) (p n : ℕ) → 0 < p → p ≤ n → 0 < f p → out_of f n ≡ out_of (replaced f p 0) n + 1
out_fewer f p zero low high out = absurd (omega arith)
out_fewer f p (suc n) low high out = elim (cases_eq p (suc n)) [
  | inl is ↦
      let at : f p ≡ f (suc n) = ap f is in
      let was : one_at (f (suc n)) ≡ 1 = one_out (f (suc n)) (omega arith) in
      let here : replaced f p 0 (suc n) ≡ 0 = ap (replaced f p 0) (sym is) ∙ replaced_here f p 0 in
      let now : one_at (replaced f p 0 (suc n)) ≡ 0 = none_out (replaced f p 0 (suc n)) here in
      let rest : out_of (replaced f p 0) n ≡ out_of f n = out_same (replaced f p 0) f n (λ q above below. replaced_else f p 0 q (λ e. omega arith)) in
      omega arith
  | inr other ↦
      let rest : out_of f n ≡ out_of (replaced f p 0) n + 1 = out_fewer f p n low (omega arith) out in
      let same : one_at (replaced f p 0 (suc n)) ≡ one_at (f (suc n)) = ap one_at (replaced_else f p 0 (suc n) (λ e. other (sym e))) in
      omega arith
]
