-- Schedules of two callers, event by event, and the worlds that they lead to.
use Rattle.std.specs.Prelude.{◌≡◌, ℕ, Bool, true, ◌&&◌, IsTrue, List, [], ◌∷◌, ◌++◌, is_some, replicate}
use Rattle.meta_word.specs.declared.meta.TheConstants.{MAX_VERSION}
use Rattle.meta_word.specs.declared.policy.Policy.{Policy}
use Rattle.meta_word.specs.declared.policy.Policy.TheVariants.{Doom, Look}
use Rattle.stm_model.specs.declared.access.Ask.{Ask}
use Rattle.stm_model.specs.declared.access.Ask.TheVariants.{Abandon, Finish, Get, Set}
use Rattle.stm_model.specs.declared.cause.Cause.{Cause}
use Rattle.stm_model.specs.declared.cause.Cause.TheVariants.{Doomed, Moved, ReadConflict, Stale, WriteConflict}
use Rattle.stm_model.specs.declared.note.Note.{Note}
use Rattle.stm_model.specs.declared.settings.Settings.{Settings}
use Rattle.stm_model.specs.Accesses.{active, addr_of, doomed, next, owned, released}
use Rattle.stm_model.specs.Attempt.{Ended, Write}
use Rattle.stm_model.specs.History.{Entry}
use Rattle.stm_model.specs.Moves.{Begins, Takes}
use Rattle.stm_model.specs.World.{Event, MayRun, Moves, Steps, Terms, World, attempt_of, happened, opened, run, unwritten}

-- two callers, and a clock that may go as far as versions do
abbrev pub settings_of : Policy → Settings
settings_of policy = record { callers = 2; policy = policy; tries = 3; clock = MAX_VERSION; attempts = 1000000 }

abbrev pub terms_of : List ℕ → Terms
terms_of opening = record { opening = opening; callers = 2; limit = MAX_VERSION }

-- the world that these events lead to from an opening heap
abbrev pub world_after : List ℕ → Policy → List Event → World
world_after opening policy events = run (opened (terms_of opening) (settings_of policy)) events

-- each step of a caller makes an access
abbrev pub all_access : World → List Event → Bool
all_access w [] = true
all_access w (Steps p ∷ events) = is_some (next (attempt_of w p)) && all_access (happened w (Steps p)) events
all_access w (event ∷ events) = all_access (happened w event) events

-- Each of these events may happen when its turn comes, and each step makes an access.
abbrev pub IsRun : List ℕ → Policy → List Event → Type 0
IsRun opening policy events =
    let w = opened (terms_of opening) (settings_of policy) in
    MayRun (terms_of opening) w events × IsTrue (all_access w events)

-- neither caller has an attempt in flight
abbrev pub AreOver : World → Type 0
AreOver w = ((attempt_of w 1).stage ≡ Ended) × ((attempt_of w 2).stage ≡ Ended)

abbrev pub noted : (cell version value : ℕ) → Note
noted cell version value = record { addr = addr_of cell; version = version; value = value }

abbrev pub entry : (caller serial : ℕ) → List Note → List Write → Entry
entry caller serial reads writes = record { caller = caller; serial = serial; reads = reads; writes = writes }

-- ---- parts of a schedule

-- so many accesses of a caller
abbrev pub steps : (p n : ℕ) → List Event
steps p n = replicate n (Steps p)

-- its next attempt, and the two accesses with which it begins
abbrev pub begins : Policy → ℕ → List Event
begins policy p = Moves p (Begins (settings_of policy)) ∷ steps p 2

-- an ask, and so many accesses that follow
abbrev pub asks : ℕ → Ask → ℕ → List Event
asks p ask n = Moves p (Takes ask) ∷ steps p n

abbrev pub gets : (p cell n : ℕ) → List Event
gets p cell n = asks p (Get (addr_of cell)) n

abbrev pub sets : (p cell value n : ℕ) → List Event
sets p cell value n = asks p (Set (addr_of cell) value) n

abbrev pub finishes : (p n : ℕ) → List Event
finishes p n = asks p Finish n

abbrev pub gives_up : ℕ → Cause → ℕ → List Event
gives_up p cause n = asks p (Abandon cause) n

-- cell 0 was read as nobody had written it, and is found with the first writer's version
abbrev pub stale : Cause
stale = Stale (addr_of 0) 0 (released 1)

-- ---- a lost update

-- a cell that holds 0, to which both callers are to add 1
abbrev pub counter : List Event → World
counter = world_after (0 ∷ []) (Look 0)

-- Both have read when the first acquires the cell and commits. Then the second comes to it.
abbrev pub lost_update : List Event
lost_update =
    begins (Look 0) 1 ++ gets 1 0 3 ++ sets 1 0 1 0 ++ begins (Look 0) 2 ++ gets 2 0 3 ++ sets 2 0 1 0 ++
    steps 1 2 ++ finishes 1 8 ++ steps 2 1

abbrev pub lost_update_rolled : List Event
lost_update_rolled = lost_update ++ gives_up 2 stale 1

abbrev pub lost_update_counted : List Event
lost_update_counted = lost_update_rolled ++ begins (Look 0) 2 ++ gets 2 0 3 ++ sets 2 0 2 2 ++ finishes 2 8

-- ---- write skew

-- two cells that hold 1
abbrev pub pair : List Event → World
pair = world_after (1 ∷ 1 ∷ []) (Look 0)

-- Both callers have read both cells, and each has acquired one to write the sum to it. The second is preparing.
abbrev pub skew : List Event
skew =
    begins (Look 0) 1 ++ gets 1 0 3 ++ gets 1 1 3 ++ sets 1 0 2 2 ++ finishes 1 0 ++
    begins (Look 0) 2 ++ gets 2 0 3 ++ gets 2 1 3 ++ sets 2 1 2 2 ++ finishes 2 1

-- The first commits, and then the second checks what it read.
abbrev pub skew_found : List Event
skew_found = skew ++ steps 1 9 ++ steps 2 3

abbrev pub skew_undone : List Event
skew_undone = skew_found ++ steps 2 2

abbrev pub skew_summed : List Event
skew_summed = skew_undone ++ begins (Look 0) 2 ++ gets 2 0 3 ++ gets 2 1 3 ++ sets 2 1 3 2 ++ finishes 2 9

-- ---- a reader that is overtaken

-- The first has read cell 0 and is to read cell 1, when the second writes 5 to both and commits.
abbrev pub overtaken : List Event
overtaken =
    begins (Look 0) 1 ++ gets 1 0 3 ++ gets 1 1 0 ++
    begins (Look 0) 2 ++ sets 2 0 5 2 ++ sets 2 1 5 2 ++ finishes 2 10

-- The first loads the meta word of cell 1, which is newer than its prefix, then the clock, and validates cell 0.
abbrev pub overtaken_found : List Event
overtaken_found = overtaken ++ steps 1 3

abbrev pub overtaken_rolled : List Event
overtaken_rolled = overtaken_found ++ gives_up 1 stale 1

abbrev pub overtaken_read : List Event
overtaken_read = overtaken_rolled ++ begins (Look 0) 1 ++ gets 1 0 3 ++ gets 1 1 3 ++ finishes 1 1

-- ---- an extension

-- The same, but the second writes 9 to cell 1 alone.
abbrev pub passed : List Event
passed =
    begins (Look 0) 1 ++ gets 1 0 3 ++ gets 1 1 0 ++
    begins (Look 0) 2 ++ sets 2 1 9 2 ++ finishes 2 7

abbrev pub passed_extended : List Event
passed_extended = passed ++ steps 1 5

abbrev pub passed_read : List Event
passed_read = passed_extended ++ finishes 1 1

-- ---- a writer between two values

-- The second is decided and has stored one of its two values. The first reads that cell.
abbrev pub between : List Event
between =
    begins (Look 0) 2 ++ sets 2 0 5 2 ++ sets 2 1 5 2 ++ finishes 2 6 ++
    begins (Look 0) 1 ++ gets 1 0 1

abbrev pub in_change : Cause
in_change = ReadConflict (addr_of 0) (record (owned 2 unwritten) { changing = true })

abbrev pub between_rolled : List Event
between_rolled = between ++ gives_up 1 in_change 1

abbrev pub between_read : List Event
between_read = between_rolled ++ steps 2 4 ++ begins (Look 0) 1 ++ gets 1 0 3 ++ gets 1 1 3 ++ finishes 1 1

-- ---- a doomed owner

-- cells that hold 0 and 3, under callers that doom
abbrev pub dooming : List Event → World
dooming = world_after (0 ∷ 3 ∷ []) (Doom 0)

-- The first has read cell 1 and owns cell 0, and is to commit. The second is to write cell 0, and dooms it.
abbrev pub doom : List Event
doom =
    begins (Doom 0) 1 ++ gets 1 1 3 ++ sets 1 0 1 2 ++ finishes 1 0 ++
    begins (Doom 0) 2 ++ sets 2 0 2 4

abbrev pub held : Cause
held = WriteConflict (addr_of 0) (owned 1 unwritten)

abbrev pub by_another : Cause
by_another = Doomed (doomed (active 1))

-- The second gives up, and then the first tries to prepare.
abbrev pub doom_found : List Event
doom_found = doom ++ gives_up 2 held 0 ++ steps 1 1

abbrev pub doom_rolled : List Event
doom_rolled = doom_found ++ steps 1 2 ++ steps 2 1

abbrev pub doom_written : List Event
doom_written =
    doom_rolled ++ begins (Doom 0) 1 ++ gets 1 1 3 ++ sets 1 0 1 2 ++ finishes 1 8 ++
    begins (Doom 0) 2 ++ sets 2 0 2 2 ++ finishes 2 7

-- ---- a value that is being stored

-- The first has loaded a cell's metadata. The second is decided and has stored its value there, which the first loads.
abbrev pub storing : List Event
storing =
    begins (Look 0) 1 ++ gets 1 0 1 ++
    begins (Look 0) 2 ++ sets 2 0 5 2 ++ finishes 2 5 ++ steps 1 1

-- The first loads the metadata again.
abbrev pub storing_found : List Event
storing_found = storing ++ steps 1 1

abbrev pub in_store : Cause
in_store = Moved (addr_of 0) unwritten (record (owned 2 unwritten) { changing = true })

abbrev pub storing_rolled : List Event
storing_rolled = storing_found ++ finishes 1 1

abbrev pub storing_read : List Event
storing_read = storing_rolled ++ steps 2 2 ++ begins (Look 0) 1 ++ gets 1 0 3 ++ finishes 1 1
