-- What comes of a talk whose requests plain contents answer. Here h is a moment of hearing it.
use Rattle.std.specs.Prelude.{ℕ, Bool, true, false, List, [], ◌∷◌, ◌++◌, length, drop, slice_index, slice_set}
use Rattle.stm_model.specs.declared.access.Ask.{Ask}
use Rattle.stm_model.specs.declared.access.Ask.TheVariants.{Get, Set, Enter, Keep, Undo, Hook}
use Rattle.stm_model.specs.declared.cause.HookPhase.{HookPhase}
use Rattle.stm_model.specs.Handlers.{undoing}
use Rattle.ledger_model.specs.declared.job.Contents.{Contents}
use Rattle.ledger_model.specs.Run.{End, State, Outcome}
use Rattle.ledger_model.specs.Talk.{Talk, Over, Says, Asks, Ends}

-- what is undone with the blocks around it
pub record Undoable : Type 0 where
  pub contents : Contents
  pub wrote : Bool
  pub prints : List ℕ
  pub hooks : List (HookPhase × ℕ)

-- a moment of hearing a talk
pub record Hearing : Type 0 where
  pub now : Undoable
  -- the same where each open block began, the innermost first
  pub saved : List Undoable
  -- all that was ever printed, and the handlers that ran at undone blocks
  pub trail : List ℕ
  pub runs : List (HookPhase × ℕ)

-- how a talk ends, and the moment then
pub record Heard : Type 0 where
  pub end : End
  pub after : Hearing

-- ---- requests

-- the reference's value, or 0 where nothing is asked for
abbrev pub answer_to : Ask → Hearing → ℕ
answer_to (Get addr) h = slice_index h.now.contents.refs addr.0
answer_to _ h = 0

abbrev pub with_ref : ℕ → ℕ → Undoable → Undoable
with_ref cell n now = record now { contents = record now.contents { refs = slice_set now.contents.refs cell n }; wrote = true }

abbrev pub with_hook : HookPhase → ℕ → Undoable → Undoable
with_hook phase token now = record now { hooks = now.hooks ++ (phase, token) ∷ [] }

-- what was there where the innermost block began
abbrev pub former : Hearing → Undoable
former h = elim h.saved [ [] ↦ h.now | before ∷ outer ↦ before ]

-- The innermost block is undone. The handlers registered in it run.
abbrev pub level_undone : Hearing → Hearing
level_undone h = record { now = former h; saved = drop 1 h.saved; trail = h.trail; runs = h.runs ++ undoing (drop (length (former h).hooks) h.now.hooks) }

-- the moment after a request
abbrev pub after_asking : Ask → Hearing → Hearing
after_asking (Set addr n) h = record h { now = with_ref addr.0 n h.now }
after_asking (Hook phase token) h = record h { now = with_hook phase token h.now }
after_asking Enter h = record h { saved = h.now ∷ h.saved }
after_asking Keep h = record h { saved = drop 1 h.saved }
after_asking Undo h = level_undone h
after_asking _ h = h

-- ---- talks

abbrev pub with_print : ℕ → Hearing → Hearing
with_print n h = record h { now = record h.now { prints = h.now.prints ++ n ∷ [] }; trail = h.trail ++ n ∷ [] }

-- the talk from this moment to its end
abbrev pub hear : Talk → Hearing → Heard
hear (Over end) h = record { end = end; after = h }
hear (Says n rest) h = hear rest (with_print n h)
hear (Asks ask rest) h = hear (rest (answer_to ask h)) (after_asking ask h)
hear (Ends rest) h = hear rest h

-- Nothing is written, printed or registered yet, and no block is open.
abbrev pub hearing_start : Contents → Hearing
hearing_start contents = record { now = record { contents = contents; wrote = false; prints = []; hooks = [] }; saved = []; trail = []; runs = [] }

-- ---- runs

-- a moment of a run as one of hearing, with what was there where each open block began
abbrev pub heard_at : List Undoable → State → Hearing
heard_at saved s = record { now = record { contents = s.contents; wrote = s.wrote; prints = s.prints; hooks = s.hooks }; saved = saved; trail = s.trail; runs = s.runs }

-- the end of a run, as it is heard
abbrev pub heard_run : List Undoable → Outcome → Heard
heard_run saved o = record { end = o.end; after = heard_at saved o.after }
