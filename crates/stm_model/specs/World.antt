-- The shared words with their history and all callers, and a step of one of them. Here w is a world, p a caller's number and t an attempt.
use Rattle.std.specs.Prelude.{◌≡◌, ℕ, suc, ◌+◌, ◌*◌, ◌<◌, ◌≤◌, true, false, ◌||◌, nat_eq, nat_lt, if◌then◌else◌, List, [], ◌∷◌, ◌++◌, length, slice_index, Option, Some, None}
use Rattle.meta_word.specs.Meta.{meta_of, same_meta}
use Rattle.meta_word.specs.Status.{status_of, same_status}
use Rattle.meta_word.specs.declared.meta.Meta.{Meta}
use Rattle.meta_word.specs.declared.status.Phase.TheVariants.{Idle}
use Rattle.meta_word.specs.declared.status.TxnStatus.{TxnStatus}
use Rattle.stm_model.specs.declared.access.Word.{Word}
use Rattle.stm_model.specs.declared.access.Word.TheVariants.{Clock, Status, Meta as MetaOf, Value}
use Rattle.stm_model.specs.declared.settings.Settings.{Settings}
use Rattle.stm_model.specs.Accesses.{Act, Answer, ClearOwner, LoadClock, LoadMeta, LoadStatus, LoadValue, Number, OfMeta, OfStatus, SetChanging, SetPending, StoreStatus, StoreValue, SwapMeta, ExchangeClock, ExchangeMeta, ExchangeStatus, next, released}
use Rattle.stm_model.specs.After.{after}
use Rattle.stm_model.specs.Attempt.{Announce, Attempt, Ended, Stage, no_attempt}
use Rattle.stm_model.specs.History.{Entry}
use Rattle.stm_model.specs.Moves.{May, Move, moved}
use Rattle.stm_model.specs.Owes.{Owes}

-- what stays as it is while a world runs: the opening heap, how many callers there are, and the clock's limit
pub record Terms : Type 0 where
  pub opening : List ℕ
  pub callers : ℕ
  pub limit : ℕ

abbrev pub cells_in : Terms → ℕ
cells_in terms = length terms.opening

-- what a caller knows: its latest attempt, how many entries of the history it has seen, how many it had before that attempt's first access, the clock as its attempts loaded it last, and the cells whose pending bit it has set, each with the word found
pub record View : Type 0 where
  pub attempt : Attempt
  pub seen : ℕ
  pub since : ℕ
  pub clock : ℕ
  pub waits : List (ℕ × Meta)

-- the shared words by their fields, the history of what committed, and the callers' views by their numbers
pub record World : Type 0 where
  pub clock : ℕ
  pub status : ℕ → TxnStatus
  pub meta : ℕ → Meta
  pub value : ℕ → ℕ
  pub history : List Entry
  pub view : ℕ → View

-- the latest attempt of a caller
abbrev pub attempt_of : World → ℕ → Attempt
attempt_of w p = (w.view p).attempt

-- the same at all places but one
unfoldable pub replaced : {X : Type 0} → (ℕ → X) → ℕ → X → ℕ → X
replaced f place x other = if nat_eq other place then x else f other

abbrev pub with_status : World → ℕ → TxnStatus → World
with_status w p status = record w { status = replaced w.status p status }

abbrev pub with_meta : World → ℕ → Meta → World
with_meta w cell meta = record w { meta = replaced w.meta cell meta }

abbrev pub with_view : World → ℕ → View → World
with_view w p view = record w { view = replaced w.view p view }

-- what an attempt leaves in the history
abbrev pub entry_of : Attempt → Entry
entry_of t = record { caller = t.own; serial = t.serial; reads = t.notes; writes = t.now.writes }

-- ---- what an access finds, and what it changes

-- what an access finds
unfoldable pub found : World → Act → Answer
found w LoadClock = Number w.clock
found w (ExchangeClock old) = Number w.clock
found w (LoadStatus p) = OfStatus (w.status p)
found w (StoreStatus p new) = OfStatus (w.status p)
found w (ExchangeStatus p old new) = OfStatus (w.status p)
found w (LoadMeta cell) = OfMeta (w.meta cell)
found w (ExchangeMeta cell old new) = OfMeta (w.meta cell)
found w (SetChanging cell) = OfMeta (w.meta cell)
found w (SetPending cell) = OfMeta (w.meta cell)
found w (ClearOwner cell) = OfMeta (w.meta cell)
found w (SwapMeta cell new) = OfMeta (w.meta cell)
found w (LoadValue cell) = Number (w.value cell)
found w (StoreValue cell value) = Number (w.value cell)

-- The words after an access. Who exchanges the clock leaves its entry.
unfoldable pub words_after : World → Attempt → Act → World
words_after w t (ExchangeClock old) =
    if nat_eq w.clock old then record w { clock = suc old; history = w.history ++ entry_of t ∷ [] } else w
words_after w t (StoreStatus p new) = with_status w p new
words_after w t (ExchangeStatus p old new) = if same_status (w.status p) old then with_status w p new else w
words_after w t (ExchangeMeta cell old new) = if same_meta (w.meta cell) old then with_meta w cell new else w
words_after w t (SetChanging cell) = with_meta w cell (record (w.meta cell) { changing = true })
words_after w t (SetPending cell) = with_meta w cell (record (w.meta cell) { pending = true })
words_after w t (ClearOwner cell) = with_meta w cell (record (w.meta cell) { changing = false; owner = 0 })
words_after w t (SwapMeta cell new) = with_meta w cell new
words_after w t (StoreValue cell value) = record w { value = replaced w.value cell value }
words_after w t _ = w

-- ---- what the caller knows then

-- Who loads the clock, or exchanges it, has seen all entries that it counts.
unfoldable pub seen_after : World → View → Act → ℕ
seen_after w view LoadClock = w.clock
seen_after w view (ExchangeClock old) = if nat_eq w.clock old then suc old else view.seen
seen_after w view _ = view.seen

-- the clock as the caller's attempts loaded it last
unfoldable pub clock_after : World → View → Act → ℕ
clock_after w view LoadClock = w.clock
clock_after w view _ = view.clock

-- what the caller had seen before its attempt's first access
unfoldable pub since_at : View → Stage → ℕ
since_at view Announce = view.seen
since_at view _ = view.since

-- ---- steps

-- the view of a caller whose attempt has made this access
abbrev pub view_after : World → View → Act → View
view_after w view act = record view {
  attempt = after view.attempt (found w act);
  seen = seen_after w view act;
  since = since_at view view.attempt.stage;
  clock = clock_after w view act;
}

-- the world then
abbrev pub after_act : World → ℕ → Act → World
after_act w p this = with_view (words_after w (attempt_of w p) this) p (view_after w (w.view p) this)

unfoldable pub step_by : World → ℕ → Option Act → World
step_by w p None = w
step_by w p (Some this) = after_act w p this

-- the world after the next access of a caller's attempt
abbrev pub step : World → ℕ → World
step w p = step_by w p (next (attempt_of w p))

-- the world after a local move of a caller
abbrev pub move : World → ℕ → Move → World
move w p this = with_view w p (record (w.view p) { attempt = moved (attempt_of w p) this })

-- A caller without an attempt in flight may load the clock.
abbrev pub look : World → ℕ → World
look w p = with_view w p (record (w.view p) { seen = w.clock })

-- And it may wait for a cell.
abbrev pub wait : World → ℕ → ℕ → World
wait w p cell =
    with_view (words_after w (attempt_of w p) (SetPending cell)) p (record (w.view p) { waits = (w.view p).waits ++ (cell, w.meta cell) ∷ [] })

-- ---- whole runs

-- what happens: a caller's attempt makes its next access or a local move, or a caller without one in flight loads the clock or waits for a cell
pub data Event : Type 0 where
  Steps : (caller : ℕ) → Event
  Moves : (caller : ℕ) → (this : Move) → Event
  Looks : (caller : ℕ) → Event
  Waits : (caller cell : ℕ) → Event

-- the world after an event
unfoldable pub happened : World → Event → World
happened w (Steps p) = step w p
happened w (Moves p this) = move w p this
happened w (Looks p) = look w p
happened w (Waits p cell) = wait w p cell

-- a number that callers have
abbrev pub IsCaller : Terms → ℕ → Type 0
IsCaller terms p = (0 < p) × (p ≤ terms.callers)

-- When an event may happen. Number 0 makes no attempts and may load the clock alone.
unfoldable pub MayHappen : Terms → World → Event → Type 0
MayHappen terms w (Steps p) = IsCaller terms p
MayHappen terms w (Moves p this) = IsCaller terms p × May (cells_in terms) terms.limit (attempt_of w p) this
MayHappen terms w (Looks p) = (p ≤ terms.callers) × ((attempt_of w p).stage ≡ Ended)
MayHappen terms w (Waits p cell) = IsCaller terms p × ((attempt_of w p).stage ≡ Ended) × (cell < cells_in terms)

-- Who wins the exchange of the clock has to meet what is owed.
unfoldable pub MeetsOwed : (List ℕ → Type 0) → (List ℕ → List ℕ → Type 0) → Terms → World → Event → Type 0
MeetsOwed lawful may terms w (Steps p) =
    next (attempt_of w p) ≡ Some (ExchangeClock w.clock) → Owes lawful may (cells_in terms) (attempt_of w p).notes (attempt_of w p).now.writes
MeetsOwed lawful may terms w event = Unit {0}

-- the world after several events
abbrev pub run : World → List Event → World
run w [] = w
run w (event ∷ events) = run (happened w event) events

-- Each of them may happen in the world before it.
abbrev pub MayRun : Terms → World → List Event → Type 0
MayRun terms w [] = Unit {0}
MayRun terms w (event ∷ events) = MayHappen terms w event × MayRun terms (happened w event) events

-- ---- how a world opens

-- Nobody owns the cell, and nobody has written it yet.
abbrev pub unwritten : Meta
unwritten = released 0

-- No attempt has been made, and the values are those of the opening heap.
abbrev pub opened : Terms → Settings → World
opened terms settings = record {
  clock = 0;
  status = λ p. record { serial = 0; phase = Idle };
  meta = λ cell. unwritten;
  value = λ cell. slice_index terms.opening cell;
  history = [];
  view = λ p. record { attempt = no_attempt p settings; seen = 0; since = 0; clock = 0; waits = [] };
}

-- ---- the words of a table

-- Where a word stands in the table: the clock, the callers' status words, and for each cell its metadata and its value.
unfoldable pub place_of : ℕ → Word → ℕ
place_of callers Clock = 0
place_of callers (Status p) = p
place_of callers (MetaOf addr) = callers + 1 + 2 * addr.0
place_of callers (Value addr) = callers + 2 + 2 * addr.0

-- A table has so many words.
abbrev pub words_in : Terms → ℕ
words_in terms = terms.callers + 1 + 2 * cells_in terms

-- the world that the words of a table show, with this history and these views
unfoldable pub world_of : Terms → List ℕ → List Entry → (ℕ → View) → World
world_of terms words history view = record {
  clock = slice_index words 0;
  status = λ p. if nat_eq p 0 || nat_lt terms.callers p then record { serial = 0; phase = Idle } else status_of (slice_index words p);
  meta = λ cell. meta_of (slice_index words (terms.callers + 1 + 2 * cell));
  value = λ cell. slice_index words (terms.callers + 2 + 2 * cell);
  history = history;
  view = view;
}
