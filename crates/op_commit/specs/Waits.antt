-- What a wait makes of the word that its access found.
use Rattle.std.specs.Prelude.{ℕ, Option, Some, None}
use Rattle.stm_model.specs.Accesses.{Act, answer_of}
use Rattle.stm_model.specs.Waiting.{Waiting, after_wait, next_wait}

-- the wait after this access, if there is one
abbrev pub wait_found : ℕ → Waiting → Option Act → ℕ → Waiting
wait_found own waiting None word = waiting
wait_found own waiting (Some act) word = after_wait own waiting (answer_of act word)

-- The wait after its next access has found this word.
abbrev pub wait_word : ℕ → Waiting → ℕ → Waiting
wait_word own waiting word = wait_found own waiting (next_wait waiting) word
