-- Private: a worker's attempt in flight beside a trace. Here p is the worker, c and d are simulations, before and after, and s is a trace.
use Rattle.std.specs.Prelude.{◌≡◌, ℕ, ◌+◌, ◌*◌, ◌^◌, ◌<◌, ◌≤◌, ◌⊎◌, Bool, false, true, if◌then◌else◌, IsSome, MatchBool, MatchOption, length, Option, Some, None}
use Rattle.stm_model.specs.Accesses.{next}
use Rattle.stm_model.specs.Attempt.{cause_at}
use Rattle.stm_model.specs.World.{Steps, World}
use Rattle.stm_model.specs.declared.ending.Ending.{Ending}
use Rattle.stm_model.specs.declared.law.Free.{Free}
use Rattle.script_cursor.specs.Cursors.{after, is_over, left, talk_of}
use Rattle.ledger_model.specs.Talk.{Talk}
use Rattle.ledger_model.specs.Traced.{Trace, due_done, gives_up, goes_on, happens, speaks}
use Rattle.world_run.specs.Simulation.{Simulation, HasSameTerms, IsOver, IsSameOf, Shows, attempt_in, left_of, machine_at}
use Rattle.host_trace.specs.declared.flight.Flight.{Flight}
use Rattle.host_trace.specs.declared.said.Said.{Said}
use Rattle.host_trace.specs.Footings.{Expects, Hears, Rests, Rolls, rank}
use Rattle.host_trace.specs.Tellings.{IsTold}

-- ---- what is kept of a trace

-- The simulation shows this world.
abbrev pub ShowsWorld : Simulation Free → World → Type 0
ShowsWorld c w = Shows (λ law heap. Unit {0}) (λ law heap next. Unit {0}) c w

abbrev pub IsShown : Simulation Free → Type 0
IsShown c = (w : World) × ShowsWorld c w

-- The trace's world is shown, and what its worker has said.
pub record Follows (p : ℕ) (c : Simulation Free) (said : Said) (s : Trace) : Type 0 where
  pub shows : ShowsWorld c s.world
  pub told : IsTold said (s.progress p)
  pub runs : (attempt_in c p).now.runs ≡ said.runs.items

-- And this follows the answer to the worker's latest request.
pub record Awaits (p : ℕ) (c : Simulation Free) (said : Said) (next : ℕ → Talk) (s : Trace) : Type 0 where
  pub follows : Follows p c said s
  pub rest : (answer : ℕ) → (s.progress p).rest answer ≡ next answer

-- what follows the answer that the script of an attempt in flight waits for
abbrev pub rest_of : Flight → ℕ → Talk
rest_of flight answer = if flight.answered then after (talk_of flight.cursor) answer else talk_of flight.cursor

abbrev pub AwaitsIn : ℕ → Simulation Free → Flight → Trace → Type 0
AwaitsIn p c flight s = Awaits p c flight.said (rest_of flight) s

-- ---- what functions make of it

-- Another trace leads to the same.
pub record LeadsTo (After : Trace → Type 0) (rest : Trace → Trace) (end : Trace) : Type 0 where
  pub trace : Trace
  pub after : After trace
  pub leads : rest trace ≡ end

-- Whatever trace was followed before, what this makes of it is what the rest makes of one that is followed after. The attempt is the same one.
pub record Leads (p : ℕ) (c d : Simulation Free) (Before After : Trace → Type 0) (this rest : Trace → Trace) : Type 0 where
  pub terms : HasSameTerms c d
  pub same : IsSameOf p c d
  pub follows : (s : Trace) → Before s → LeadsTo After rest (this s)

-- where no rest is left
abbrev pub done : Trace → Trace
done s = s

-- Who was refused something is rolled back.
abbrev pub GivesUp : ℕ → Simulation Free → Simulation Free → Type 0
GivesUp p c d = ((cause_at (attempt_in c p).stage ≡ None) × (d ≡ c)) ⊎ Rolls (attempt_in c p) (attempt_in d p)

-- ---- answers

-- at least as many answers as its script may still be given
abbrev pub ahead : Flight → ℕ
ahead flight = 2 * left flight.cursor + (if flight.answered then 0 else 1)

-- The script was given an answer.
pub record HasHeard (answer : ℕ) (before after : Flight) : Type 0 where
  pub talk : talk_of after.cursor ≡ rest_of before answer
  pub answered : after.answered ≡ true
  pub said : after.said ≡ before.said
  pub falls : is_over (talk_of before.cursor) ≡ false → ahead after < ahead before
  pub word : answer < 2 ^ 64

-- ---- what a script says

-- The worker's attempt may be asked for all that the talk asks.
pub record HearsIn (p : ℕ) (c : Simulation Free) (talk : Talk) : Type 0 where
  pub shown : IsShown c
  pub hears : Hears (length c.opening) (attempt_in c p) talk

-- The script was answered and says what comes next.
pub record Hearing (p : ℕ) (c : Simulation Free) (flight : Flight) : Type 0 where
  pub answered : flight.answered ≡ true
  pub there : HearsIn p c (talk_of flight.cursor)

-- The script goes on behind what it said.
pub record SpeaksOn (p : ℕ) (c d : Simulation Free) (before after : Flight) : Type 0 where
  pub leads : Leads p c d (Follows p c before.said) (Follows p d after.said) (speaks p (talk_of before.cursor)) (speaks p (talk_of after.cursor))
  pub hearing : Hearing p d after
  pub falls : ahead after < ahead before

-- The script made a request that isn't answered yet.
pub record SpeaksOut (p : ℕ) (c d : Simulation Free) (before after : Flight) : Type 0 where
  pub leads : Leads p c d (Follows p c before.said) (AwaitsIn p d after) (speaks p (talk_of before.cursor)) done
  pub rests : Rests (length d.opening) (attempt_in d p) (rest_of after)
  pub rises_none : ahead after ≤ ahead before

abbrev pub Speaks : ℕ → Simulation Free → Simulation Free → Flight → Flight → Bool → Type 0
Speaks p c d before after goes = MatchBool goes (SpeaksOn p c d before after) (SpeaksOut p c d before after)

-- Nothing was answered, or the script was.
abbrev pub GoesOn : Simulation Free → Simulation Free → Flight → Flight → Type 0
GoesOn c d before after = ((d ≡ c) × (after ≡ before)) ⊎ (ahead after < ahead before)

-- ---- an access

-- The attempt makes an access next. Whatever it answers, what follows may be asked.
pub record Flies (p : ℕ) (c : Simulation Free) (flight : Flight) : Type 0 where
  pub shown : IsShown c
  pub begun : IsSome (machine_at c p)
  pub makes : IsSome (next (attempt_in c p))
  pub expects : Expects (length c.opening) (attempt_in c p) (rest_of flight)

-- one access of a worker's attempt, and what follows it at once but for how it ends
abbrev pub flown : ℕ → Trace → Trace
flown p s = gives_up p (goes_on p (due_done p (happens (Steps p) s)))

-- how often it may be answered, refused or brought to its end, with any number of accesses in between
abbrev pub weight : ℕ → Simulation Free → Flight → ℕ
weight p c flight = 3 * ahead flight + rank (attempt_in c p).stage

-- It comes nearer to its end by that, or else by an access.
abbrev pub Nears : ℕ → Simulation Free → Simulation Free → Flight → Flight → Type 0
Nears p c d before after = (weight p d after < weight p c before) ⊎ ((weight p d after ≤ weight p c before) × (left_of d p < left_of c p))

-- It still flies, and has come nearer to its end.
pub record FliesOn (p : ℕ) (c d : Simulation Free) (before after : Flight) : Type 0 where
  pub flies : Flies p d after
  pub nears : Nears p c d before after

-- It is over, and ended so.
pub record HasLanded (p : ℕ) (d : Simulation Free) (ending : Ending) : Type 0 where
  pub over : IsOver (attempt_in d p)
  pub ends : (attempt_in d p).ending ≡ Some ending

abbrev pub HasFlown : ℕ → Simulation Free → Simulation Free → Flight → Flight → Option Ending → Type 0
HasFlown p c d before after ending = MatchOption ending (FliesOn p c d before after) (HasLanded p d)
