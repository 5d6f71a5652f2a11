-- How a caller without an attempt in flight waits: for a change of what it read, or for a cell to be released.
use Rattle.std.specs.Prelude.{ℕ, if◌then◌else◌, List, [], ◌∷◌, Option, Some, None}
use Rattle.meta_word.specs.Meta.{owned_by_another, still_has}
use Rattle.meta_word.specs.declared.meta.Meta.{Meta}
use Rattle.stm_model.specs.declared.note.Note.{Note}
use Rattle.stm_model.specs.Accesses.{Act, Answer, OfMeta, SetPending}

-- Where it stands. The pending bit is set on each cell that it waits for.
pub data Waiting : Type 0 where
  -- it goes along its notes
  Watch : (note : Note) → (behind : List Note) → Waiting
  -- it waits for a cell that another owned
  Await : (cell : ℕ) → Waiting
  -- nothing has changed, and it is to be rung for
  Watching : Waiting
  -- a cell that it read has changed, or is about to
  SawChange : (note : Note) → (found : Meta) → Waiting
  Held : (found : Meta) → Waiting
  Released : (found : Meta) → Waiting

-- it waits for a change of these
abbrev pub watch : List Note → Waiting
watch [] = Watching
watch (note ∷ behind) = Watch note behind

-- the access that it makes next
unfoldable pub next_wait : Waiting → Option Act
next_wait (Watch note behind) = Some (SetPending note.addr.0)
next_wait (Await cell) = Some (SetPending cell)
next_wait _ = None

-- where it stands after the answer
unfoldable pub after_wait : ℕ → Waiting → Answer → Waiting
after_wait own (Watch note behind) (OfMeta found) = if still_has own note.version found then watch behind else SawChange note found
after_wait own (Await cell) (OfMeta found) = if owned_by_another own found then Held found else Released found
after_wait own waiting _ = waiting
