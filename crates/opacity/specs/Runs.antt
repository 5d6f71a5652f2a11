-- Runs in which every writer meets what is owed.
use Rattle.std.specs.Prelude.{ℕ, List, [], ◌∷◌}
use Rattle.stm_model.specs.World.{Event, MeetsOwed, Terms, World, happened}

-- Each event meets what is owed in the world before it.
abbrev pub MeetAllOwed : (List ℕ → Type 0) → (List ℕ → List ℕ → Type 0) → Terms → World → List Event → Type 0
MeetAllOwed lawful may terms w [] = Unit {0}
MeetAllOwed lawful may terms w (event ∷ events) = MeetsOwed lawful may terms w event × MeetAllOwed lawful may terms (happened w event) events
