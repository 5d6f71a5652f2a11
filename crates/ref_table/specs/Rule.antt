-- The rule of the table: there is a history with which its words and its seats show a safe world. Here i is a seat's place among the table's seats, k what that seat knows, p a caller's number, and g how many numbers the maker has given.
use Rattle.std.specs.Prelude.{◌≡◌, ℕ, zero, suc, ◌+◌, ◌<◌, ◌≤◌, cond, nat_eq, List, length}
use mathlib.Core.Option.{some}
use mathlib.Core.List.{IsPrefix}
use lib.ListN.{get_elem?}
use Rattle.std.specs.List.{All, Contains}
use Rattle.std.specs.Map.{keys_of}
use Rattle.atomic_table.specs.Table.{State}
use Rattle.opacity.specs.Alone.{IsAlone}
use Rattle.opacity.specs.Known.{IsKnown}
use Rattle.opacity.specs.Words.{IsTable}
use Rattle.stm_model.specs.Attempt.{Ended}
use Rattle.stm_model.specs.History.{Entry}
use Rattle.stm_model.specs.Safe.{Safe}
use Rattle.stm_model.specs.World.{Terms, View, world_of}
use Rattle.stm_model.specs.declared.settings.Settings.{Settings}
use Rattle.ref_table.specs.Knowledge.{Caller, Knowledge, Maker, Mark, Whose, first_view}

-- Which seat each caller's number has, by its place among the table's seats: 0, the maker's, once it was gathered.
abbrev pub SeatPlaces : Type 0
SeatPlaces = ℕ → ℕ

-- how many of the numbers up to this one are out
abbrev pub out_of : SeatPlaces → ℕ → ℕ
out_of place zero = 0
out_of place (suc n) = cond (nat_eq (place (suc n)) 0) 0 1 + out_of place n

-- The maker has gathered this number, and has seen all that its caller had seen.
pub record WasGathered (who : ℕ → View) (place : SeatPlaces) (given : ℕ) (seen : List Entry) (one : ℕ × ℕ) : Type 0 where
  pub low : 0 < one.0
  pub high : one.0 ≤ given
  pub back : place one.0 ≡ 0
  pub counted : (who one.0).seen ≡ one.1
  pub within : one.1 ≤ length seen

-- The maker's seat is the first, and it makes no attempts. Those whom it has gathered aren't out, it has seen all that they had seen, and with those that are out they are all to whom a number was given.
pub record IsMakerSeat (settings : Settings) (who : ℕ → View) (place : SeatPlaces) (given i g : ℕ) (gathered : List (ℕ × ℕ)) (view : View) (seen : List Entry) : Type 0 where
  pub first : i ≡ 0
  pub rests : view ≡ first_view 0 settings 0
  pub counts : g ≡ given
  pub balance : length gathered + out_of place given ≡ given
  pub back : (p : ℕ) → 0 < p → p ≤ given → place p ≡ 0 → Contains (keys_of gathered) p
  pub each : All (WasGathered who place given seen) gathered

-- The seat at this place is the caller's, and it knows what the world says.
pub record IsCallerSeat (who : ℕ → View) (place : SeatPlaces) (given i p : ℕ) (view : View) (seen : List Entry) : Type 0 where
  pub low : 0 < p
  pub high : p ≤ given
  pub other : 0 < i
  pub placed : place p ≡ i
  pub shows : who p ≡ view
  pub counted : length seen ≡ view.seen
  pub clock : view.clock ≤ view.seen
  pub known : IsKnown view

-- what that means, by whose the seat is
unfoldable pub FitsWhose : Settings → (ℕ → View) → SeatPlaces → ℕ → ℕ → Knowledge → Whose → Type 0
FitsWhose settings who place given i k (Maker g gathered) = IsMakerSeat settings who place given i g gathered k.view k.seen
FitsWhose settings who place given i k (Caller p) = IsCallerSeat who place given i p k.view k.seen
FitsWhose settings who place given i k Mark = Unit {0}

-- What the seat at this place knows is true of the world.
pub record FitsWorld (settings : Settings) (history : List Entry) (who : ℕ → View) (place : SeatPlaces) (given i : ℕ) (k : Knowledge) : Type 0 where
  pub seen : IsPrefix k.seen history
  pub joined : IsPrefix k.joined history
  pub whose : FitsWhose settings who place given i k k.whose

-- The words and the seats show a safe world.
pub record IsSafeTable (lawful : List ℕ → Type 0) (may : List ℕ → List ℕ → Type 0) (terms : Terms) (settings : Settings) (words : List ℕ) (seats : List Knowledge) : Type 0 where
  pub history : List Entry
  pub who : ℕ → View
  pub place : SeatPlaces
  pub given : ℕ
  pub safe : Safe lawful may terms (world_of terms words history who)
  pub table : IsTable terms words
  pub few : given ≤ terms.callers
  pub fresh : (p : ℕ) → given < p → p ≤ terms.callers → who p ≡ first_view p settings 0
  pub at_rest : (p : ℕ) → 0 < p → p ≤ given → place p ≡ 0 → (who p).attempt.stage ≡ Ended
  pub alone : terms.callers ≡ 1 → IsAlone (world_of terms words history who) 1
  pub each : (i : ℕ) (k : Knowledge) → get_elem? seats i ≡ some k → FitsWorld settings history who place given i k

abbrev pub Keeps : (List ℕ → Type 0) → (List ℕ → List ℕ → Type 0) → Terms → Settings → State Unit Knowledge → Type 0
Keeps lawful may terms settings state = IsSafeTable lawful may terms settings state.words state.views
