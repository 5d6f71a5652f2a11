-- What a talk may ask, over so many cells. Here f is where it stands.
use Rattle.std.specs.Prelude.{◌≡◌, ℕ, suc, ◌^◌, ◌<◌, nat_lt, MatchBool, List, [], ◌∷◌, length, drop, slice_index}
use Rattle.stm_model.specs.Refusing.{deepest}
use Rattle.stm_model.specs.declared.access.Ask.{Ask}
use Rattle.stm_model.specs.declared.access.Ask.TheVariants.{Abandon, Enter, Finish, Get, Hook, Keep, Later, Set, Undo}
use Rattle.stm_model.specs.declared.cause.Cause.{Cause}
use Rattle.stm_model.specs.declared.cause.Cause.TheVariants.{Retry, User}
use Rattle.ledger_model.specs.Run.{Kept, Failed, Retried}
use Rattle.ledger_model.specs.Talk.{Talk, Over, Says, Asks, Ends}

-- how many before-commit bodies are registered, how many were where each open level began, the innermost first, and how many have had their turn
pub record Footing : Type 0 where
  pub registered : ℕ
  pub saved : List ℕ
  pub turn : ℕ

-- The request may come: it names a cell that is there, gives words, opens no level past the deepest, closes one that is open, names a body by how many were registered before, finishes the script itself with no level open, or gives up with a cause of its own.
abbrev pub IsAllowedAsk : ℕ → Footing → Ask → Type 0
IsAllowedAsk size f (Get cell) = cell.0 < size
IsAllowedAsk size f (Set cell value) = (cell.0 < size) × (value < 2 ^ 64)
IsAllowedAsk size f Enter = length f.saved < deepest
IsAllowedAsk size f Keep = 0 < length f.saved
IsAllowedAsk size f Undo = 0 < length f.saved
IsAllowedAsk size f (Hook phase token) = token < 2 ^ 64
IsAllowedAsk size f (Later token) = token ≡ f.registered
IsAllowedAsk size f Finish = (f.turn ≡ 0) × (f.saved ≡ [])
IsAllowedAsk size f (Abandon cause) = Unit {0}

-- where it stands then
abbrev pub footing_after : Ask → Footing → Footing
footing_after Enter f = record f { saved = f.registered ∷ f.saved }
footing_after Keep f = record f { saved = drop 1 f.saved }
footing_after Undo f = record f { registered = slice_index f.saved 0; saved = drop 1 f.saved }
footing_after (Later token) f = record f { registered = suc f.registered }
footing_after ask f = f

-- The next before-commit body has its turn, and where none is left the talk is over.
abbrev pub TurnsTo : Footing → (Footing → Type 0) → Talk → Type 0
TurnsTo f Allowed rest = MatchBool (nat_lt f.turn f.registered) (Allowed (record f { turn = suc f.turn })) (rest ≡ Over Kept)

-- Who gives up ends so.
abbrev pub GivesUp : Cause → Talk → Type 0
GivesUp (User code) rest = rest ≡ Over (Failed code)
GivesUp Retry rest = rest ≡ Over Retried
GivesUp cause rest = ⊥

-- what holds of the rest of a talk behind this request
abbrev pub AllowedAfter : Ask → Footing → (Footing → Type 0) → Talk → Type 0
AllowedAfter Finish f Allowed rest = TurnsTo f Allowed rest
AllowedAfter (Abandon cause) f Allowed rest = GivesUp cause rest
AllowedAfter ask f Allowed rest = Allowed (footing_after ask f)

-- It isn't over, and all that it ever asks may be asked, whatever words the answers are. It prints words.
abbrev pub IsAllowed : ℕ → Footing → Talk → Type 0
IsAllowed size f (Over end) = ⊥
IsAllowed size f (Says number rest) = (number < 2 ^ 64) × IsAllowed size f rest
IsAllowed size f (Asks ask rest) =
    IsAllowedAsk size f ask × ((answer : ℕ) → answer < 2 ^ 64 → AllowedAfter ask f (λ g. IsAllowed size g (rest answer)) (rest answer))
IsAllowed size f (Ends rest) = (0 < f.turn) × (f.saved ≡ []) × TurnsTo f (λ g. IsAllowed size g rest) rest

-- Nothing is registered and no level is open.
abbrev pub first_footing : Footing
first_footing = record { registered = 0; saved = []; turn = 0 }
