-- Reading worker numbers one after another.
use Rattle.std.proofs.Common.{◌≡◌, ℕ, Bool, true, false, if◌then◌else◌, nat_le, ◌&&◌, List, [], ◌∷◌, ◌++◌, Option, Some, None, Result, Ok, Err, ◌⊎◌, inl, inr, refl, sym, ap, ◌∙◌, append_assoc, append-nil}
use Rattle.ledger_model.specs.declared.reason.Reason.{Reason}
use Rattle.ledger_model.specs.declared.reason.Reason.TheVariants.{Number, Range}
use Rattle.text_lines.specs.Lines.{Row}
use Rattle.text_lines.specs.Numbers.{number_of}
use Rattle.script_text.specs.Words.{◌>>=◌, both, is_number_reason, from_one_to, or_reason, provided}
use Rattle.script_text.specs.Line.{workers_of}

-- the numbers of one part of a row and of the rest
abbrev pub joined : Result (List ℕ) Reason → Result (List ℕ) Reason → Result (List ℕ) Reason
joined front back = both front back >>= λ x. Ok (x.0 ++ x.1)

-- the numbers so far, if all were in range
abbrev pub so_far : Bool → List ℕ → Result (List ℕ) Reason
so_far in_range numbers = if in_range then Ok numbers else Err Range

-- one number more in front
abbrev pub with_first : Result ℕ Reason → Result (List ℕ) Reason → Result (List ℕ) Reason
with_first first back = both first back >>= λ x. Ok (x.0 ∷ x.1)

abbrev pub workers_from : Bool → List ℕ → ℕ → Row → Result (List ℕ) Reason
workers_from in_range numbers workers rows = joined (so_far in_range numbers) (workers_of workers rows)

pub at_start : (r : Result (List ℕ) Reason) → joined (so_far true []) r ≡ r
at_start (Ok x) = refl
at_start (Err e) = refl

pub at_number : (b : Bool) (numbers : List ℕ) (n : ℕ) (r : Result (List ℕ) Reason)
    → joined (so_far b numbers) (with_first (Ok n) r) ≡ joined (so_far b (numbers ++ n ∷ [])) r
at_number true numbers n (Ok x) = ap Ok (sym (append_assoc numbers (n ∷ []) x))
at_number true numbers n (Err e) = refl
at_number false numbers n (Ok x) = refl
at_number false numbers n (Err e) = refl

pub at_range : (b : Bool) (numbers : List ℕ) (r : Result (List ℕ) Reason)
    → joined (so_far b numbers) (with_first (Err Range) r) ≡ joined (so_far false numbers) r
at_range true numbers (Ok x) = refl
at_range true numbers (Err e) = refl
at_range false numbers (Ok x) = refl
at_range false numbers (Err e) = by (is_number_reason e) where
  by : (b : Bool) → ◌≡◌ {A = Result (List ℕ) Reason} (Err (if is_number_reason (if b then Number else Range) then Number else Range)) (Err (if b then Number else Range))
  by true = refl
  by false = refl

pub at_none : (b : Bool) (numbers : List ℕ) (r : Result (List ℕ) Reason)
    → joined (so_far b numbers) (with_first (Err Number) r) ≡ Err Number
at_none true numbers (Ok x) = refl
at_none true numbers (Err e) = by (is_number_reason e) where
  by : (b : Bool) → ◌≡◌ {A = Result (List ℕ) Reason} (Err (if b then Number else Number)) (Err Number)
  by true = refl
  by false = refl
at_none false numbers (Ok x) = refl
at_none false numbers (Err e) = by (is_number_reason e) where
  by : (b : Bool) → ◌≡◌ {A = Result (List ℕ) Reason} (Err (if is_number_reason (if b then Number else Number) then Number else Range)) (Err Number)
  by true = refl
  by false = refl

pub at_end : (numbers : List ℕ) → joined (so_far true numbers) (Ok []) ≡ Ok numbers
at_end numbers = ap Ok (append-nil numbers)

-- a number that isn't from 1 to the last worker is none, or out of range
pub which : (workers : ℕ) (word : List ℕ) (e : Reason) → from_one_to workers word ≡ Err e → (e ≡ Number) ⊎ (e ≡ Range)
which workers word e h = by (number_of word) h where
  in_range : (b : Bool) (n : ℕ) → provided b Range n ≡ Err e → e ≡ Range
  in_range true n h = cc
  in_range false n h = cc

  by : (o : Option ℕ) → (or_reason Number o >>= λ n. provided (nat_le 1 n && nat_le n workers) Range n) ≡ Err e → (e ≡ Number) ⊎ (e ≡ Range)
  by None h = inl cc
  by (Some n) h = inr (in_range (nat_le 1 n && nat_le n workers) n h)

-- ---- as the loop meets them

pub misses : (b : Bool) (numbers : List ℕ) (workers : ℕ) (rest : Row) (word : List ℕ) (more : Row) (e : Reason) (goal : Result (List ℕ) Reason)
    → workers_from b numbers workers rest ≡ goal → rest ≡ word ∷ more → from_one_to workers word ≡ Err e → (e ≡ Number → ⊥)
    → workers_from false numbers workers more ≡ goal
misses b numbers workers rest word more e goal i r f n = by (which workers word e f) where
  by : (e ≡ Number) ⊎ (e ≡ Range) → workers_from false numbers workers more ≡ goal
  by (inl h) = absurd (n h)
  by (inr h) = sym (at_range b numbers (workers_of workers more))
      ∙ ap (λ (x : Result ℕ Reason). joined (so_far b numbers) (with_first x (workers_of workers more))) (sym (f ∙ ap Err h))
      ∙ ap (λ (row : Row). workers_from b numbers workers row) (sym r) ∙ i
