-- Private: one access of an attempt, and one thing that is due. Here t is an attempt and u what became of it.
use Rattle.std.specs.Prelude.{◌≡◌, ℕ, List, Option, Some}
use Rattle.opacity.specs.Words.{IsOfTable}
use Rattle.ref_table.specs.Performs.{ComesFrom, seen_then}
use Rattle.ref_table.specs.Seats.{SeatState}
use Rattle.stm_core.specs.Machine.{IsSameAttempt}
use Rattle.stm_core.specs.declared.next.Next.{Next}
use Rattle.stm_core.specs.declared.next.Next.TheVariants as coming
use Rattle.stm_model.specs.Accesses.{ExchangeClock, next, next_access, word_of}
use Rattle.stm_model.specs.After.{after_word}
use Rattle.stm_model.specs.Attempt.{Attempt}
use Rattle.stm_model.specs.Calls.{TellsNext}
use Rattle.stm_model.specs.Handlers.{Handlers}
use Rattle.stm_model.specs.Owes.{Owes}
use Rattle.stm_model.specs.World.{Terms, View, cells_in, since_at}
use Rattle.stm_model.specs.declared.access.Access.{Access}
use Rattle.txn_drive.specs.Calls.{Calls}
use Rattle.txn_drive.specs.Going.{SeesMore}
use Rattle.txn_drive.specs.Paying.{IsLed}
use Rattle.txn_drive.specs.Standing.{AreRuns, IsOn}

-- The access is the attempt's next one, to a word of the table, and if it is the exchange of the clock, what is owed is met.
pub record MayAccess (lawful : List ℕ → Type 0) (may : List ℕ → List ℕ → Type 0) (terms : Terms) (view : View) (access : Access) (t : Attempt) : Type 0 where
  pub comes : ComesFrom terms view.attempt t
  pub is_next : next_access t ≡ Some access
  pub word : IsOfTable terms (word_of access)
  pub limit : t.settings.clock ≡ terms.limit
  pub owes : (old : ℕ) → next t ≡ Some (ExchangeClock old) → Owes lawful may (cells_in terms) t.notes t.now.writes

-- The attempt has made its access. Where that loaded the clock or won its exchange, the seat has seen the entries that the clock counts.
pub record Accesses (lawful : List ℕ → Type 0) (may : List ℕ → List ℕ → Type 0) (terms : Terms) (before : SeatState) (t : Attempt) (after : SeatState) (u : Attempt) : Type 0 where
  pub found : ℕ
  pub leads : u ≡ after_word t found
  pub on : IsOn lawful may terms after u
  pub same : IsSameAttempt t u
  pub seat : SeesMore t.serial before after
  pub since : after.view.since ≡ since_at before.view t.stage
  pub count : after.view.seen ≡ seen_then (next t) found before.view.seen

-- A handler was run, or a cell was rung for, as it was due.
unfoldable pub IsCalled : Next → (runs runs_then : Option Handlers) → (rings rings_then : Option (List ℕ)) → Type 0
IsCalled (coming.Run phase token) runs runs_then rings rings_then = TellsNext runs runs_then (phase, token) × (rings_then ≡ rings)
IsCalled (coming.Ring addr) runs runs_then rings rings_then = (runs_then ≡ runs) × TellsNext rings rings_then addr.0
IsCalled next runs runs_then rings rings_then = (runs_then ≡ runs) × (rings_then ≡ rings)

-- What was due was done, or some of it. Nothing else has changed.
pub record Settles (t u : Attempt) (runs runs_then : Option Handlers) (rings rings_then : Option (List ℕ)) : Type 0 where
  pub comes : (terms : Terms) (first : Attempt) → ComesFrom terms first t → ComesFrom terms first u
  pub led : IsLed t u
  pub is : u ≡ record t { due = u.due; rings = u.rings; now = record t.now { runs = u.now.runs } }
  pub ran : Calls t.now.runs u.now.runs runs runs_then
  pub rang : Calls t.rings u.rings rings rings_then
  pub handlers : AreRuns t.due → AreRuns u.due × (u.rings ≡ t.rings)
