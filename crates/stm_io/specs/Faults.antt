-- Counts of faults, and when a failed call shows in one.
use Rattle.std.specs.Prelude.{◌≡◌, ◌+◌, ◌-◌, ◌^◌, ◌≤◌, ℕ, min, Result, MatchResult, OnErr}

-- the count, one higher, unless it stands at the end of its type
abbrev pub next_count : ℕ → ℕ
next_count count = min (count + 1) (2 ^ 64 - 1)

-- The count rose, or stands at the end of its type.
abbrev pub Rose : ℕ → ℕ → Type 0
Rose before now = next_count before ≤ now

-- The count didn't fall, and rose where the call failed.
pub record CountsFaults {T E : Type 0} (before now : ℕ) (result : Result T E) : Type 0 where
  pub never_falls : before ≤ now
  pub rose : OnErr result (Rose before now)

-- The count rose by one where the call failed, and is the same where it didn't.
abbrev pub CountsByOne : {T E : Type 0} → ℕ → ℕ → Result T E → Type 0
CountsByOne before now result =
    MatchResult result (λ _. now ≡ before) (λ _. now ≡ next_count before)
