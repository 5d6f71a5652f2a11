-- Private: where an attempt stands among what its script asks of it. Here t is an attempt.
use Rattle.std.specs.Prelude.{◌≡◌, ℕ, ◌<◌, ◌^◌, IsSome, List, [], map, length, None}
use Rattle.stm_model.specs.Accesses.{next}
use Rattle.stm_model.specs.Attempt.{Attempt, Stage, Stopped, ReleaseLevel, Prepare, Mark, CommitClock, CommitNote, Decide, StoreValues, Release, RollBack, Close, Ended}
use Rattle.stm_model.specs.CellsState.{Book, outer, returned}
use Rattle.ledger_model.specs.Allowed.{Footing, IsAllowed}
use Rattle.ledger_model.specs.Talk.{Talk}
use Rattle.ledger_model.specs.Traced.{answer_at}

-- how far it is from its end: 2 where it may still answer, 1 where it was refused something, 0 where it commits, is rolled back or is over
unfoldable pub rank : Stage → ℕ
rank (Stopped cause) = 1
rank Prepare = 0
rank (Mark write behind) = 0
rank (CommitClock lost) = 0
rank (CommitNote lost clock note behind) = 0
rank (Decide lost clock) = 0
rank (StoreValues write behind) = 0
rank (Release write behind) = 0
rank (RollBack write behind) = 0
rank Close = 0
rank Ended = 0
rank stage = 2

-- how many before-commit bodies each of these books has
abbrev pub laters_in : List Book → List ℕ
laters_in books = map (λ book. length book.laters) books

-- how many are registered in the book, how many were where each open level began, and how many have had their turn
abbrev pub footing_in : Book → List Book → ℕ → Footing
footing_in now saved turn = record { registered = length now.laters; saved = laters_in saved; turn = turn }

abbrev pub footing_of : Attempt → Footing
footing_of t = footing_in t.now t.saved t.turn

-- the same once the level is undone that it undoes
unfoldable pub footing_at : Attempt → Stage → Footing
footing_at t (ReleaseLevel kept write behind) = footing_in (returned t.saved t.now) (outer t.saved) t.turn
footing_at t stage = footing_of t

-- Whatever it answers, what follows may be asked of it then, over so many cells.
pub record Expects (size : ℕ) (t : Attempt) (rest : ℕ → Talk) : Type 0 where
  pub allowed : rank t.stage ≡ 2 → (answer : ℕ) → answer < 2 ^ 64 → IsAllowed size (footing_at t t.stage) (rest answer)

-- It waits for a request, and all that the talk asks may be asked of it.
pub record Hears (size : ℕ) (t : Attempt) (talk : Talk) : Type 0 where
  pub waits : IsSome (answer_at t.stage)
  pub nothing_due : t.due ≡ []
  pub allowed : IsAllowed size (footing_of t) talk

-- It answers nothing, and nothing is due.
pub record Rests (size : ℕ) (t : Attempt) (rest : ℕ → Talk) : Type 0 where
  pub quiet : answer_at t.stage ≡ None
  pub nothing_due : t.due ≡ []
  pub expects : Expects size t rest

-- Its stage, its levels and its before-commit bodies are the same.
pub record Stays (t after : Attempt) : Type 0 where
  pub stage : after.stage ≡ t.stage
  pub laters : after.now.laters ≡ t.now.laters
  pub saved : after.saved ≡ t.saved
  pub turn : after.turn ≡ t.turn

-- All that was due is done.
pub record IsDone (t after : Attempt) : Type 0 where
  pub stays : Stays t after
  pub nothing_due : after.due ≡ []

-- It was refused something and is rolled back for that.
pub record Rolls (t after : Attempt) : Type 0 where
  pub refused : rank t.stage ≡ 1
  pub ends : rank after.stage ≡ 0
  pub makes : IsSome (next after)
