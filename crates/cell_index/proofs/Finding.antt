-- A search along a chain.
use Rattle.std.proofs.Common.{◌≡◌, ◌≢◌, ℕ, ◌+◌, ◌%◌, ◌<◌, ◌≤◌, List, length, get_or, sym, ap, ◌∙◌, inl, inr, arith}
use Rattle.std.proofs.Math.Nat.{mod-lt}
use Rattle.std.proofs.lemmas.Bool.{cases_eq, cases_lt}
use Rattle.cell_index.specs.Chains.{IsChained, chain_at}

-- A search for the address has come to the link: no later entry has it, and the link leads along its chain.
pub record IsPast (entries : List (ℕ × ℕ)) (address link : ℕ) : Type 0 where
  pub within : link ≤ length entries
  pub here : (place : ℕ) → place + 1 ≡ link → chain_at entries place ≡ address % 256
  pub past : (place : ℕ) → link ≤ place → place < length entries → (get_or entries place (0, 0)).0 ≢ address

pub search_begins : (heads : List ℕ) (entries : List (ℕ × ℕ)) (address link : ℕ) → IsChained heads entries → link ≡ get_or heads (address % 256) 0 → IsPast entries address link
search_begins heads entries address link chained is =
    let start = chained.starts (address % 256) (mod-lt address (omega arith)) in
    rw is (record {
      within = start.within;
      here = start.here;
      past = λ place from to at. start.last place from to (ap (λ n. n % 256) at);
    })

pub search_goes_on : (heads : List ℕ) (entries : List (ℕ × ℕ)) (address link place : ℕ) → IsChained heads entries → place + 1 ≡ link → IsPast entries address link
    → (get_or entries place (0, 0)).0 ≢ address → IsPast entries address (get_or entries place (0, 0)).1
search_goes_on heads entries address link place chained is before other =
    let inside : place < length entries = (let within = before.within in omega arith) in
    let older = chained.links place inside in
    let chain : chain_at entries place ≡ address % 256 = before.here place is in
    record {
      within = let within = older.within in omega arith;
      here = λ p at. older.here p at ∙ chain;
      past = λ p from to at. elim (cases_lt p place) [
        | inl less ↦ older.last p from less (ap (λ n. n % 256) at ∙ sym chain)
        | inr more ↦ elim (cases_eq p place) [
          | inl same ↦ other (rw same at at)
          | inr beyond ↦ before.past p (omega arith) to at
        ]
      ];
    }
