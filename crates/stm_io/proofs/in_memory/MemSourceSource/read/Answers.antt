use Rattle.std.proofs.Common.{◌≡◌, ◌∙◌, ◌+◌, ◌≤◌, ◌++◌, ℕ, List, length, take, drop, sym, ap, arith, length-take-le, take_at, take-append-drop, drop-drop}
use Rattle.std.proofs.lemmas.List.{drop_all}
use Rattle.std.proofs.lemmas.Grind.{common_steps}
use Rattle.stm_io.proofs.in_memory.MemSourceSource.read.Goals as goal

-- what was moved to the front of a slice, and then what is left, are what there was
front_and_rest : (xs moved slice : List ℕ) (at n : ℕ) → moved ≡ take n (drop at xs) → n ≤ length (drop at xs) → drop at xs ≡ take n (moved ++ slice) ++ drop (at + n) xs
front_and_rest xs moved slice at n is fits =
    let long : length moved ≡ n = ap length is ∙ length-take-le n (drop at xs) fits in
    rw (take_at moved slice n long, is, ← drop-drop n at xs) (sym (take-append-drop n (drop at xs)))

pub returns-clause-bytes : goal.returns-clause-bytes
returns-clause-bytes c = (
  rw (← c.self.view_is) (front_and_rest c.self.inside.bytes.items c.copy_from_slice.new.self _ c.self.inside.at c.min-count.result (grind (arith, common_steps)) (grind (arith, common_steps))),
  λ none some. drop_all (c.self.inside.at + c.min-count.result) c.self.inside.bytes.items (grind (arith, common_steps)),
)
