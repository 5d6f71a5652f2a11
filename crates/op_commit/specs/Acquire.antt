-- The first write of a cell as a part of an attempt.
use Rattle.std.specs.Prelude.{◌≡◌, ℕ, ◌+◌, ◌-◌, ◌*◌, ◌^◌, ◌<◌, ◌≤◌, true, Bool, Option, Some, None}
use Rattle.meta_word.specs.Meta.{MetaFits}
use Rattle.meta_word.specs.Policy.{looks}
use Rattle.meta_word.specs.Status.{StatusFits}
use Rattle.meta_word.specs.declared.meta.TheConstants.{MAX_OWNER}
use Rattle.op_commit.specs.declared.acquire.AcquireEnd.{AcquireEnd}
use Rattle.op_commit.specs.declared.acquire.AcquireEnd.TheVariants.{Bad, Owned}
use Rattle.op_commit.specs.declared.acquire.AcquireOp.{AcquireOp}
use Rattle.op_commit.specs.declared.acquire.AcquirePlace.{AcquirePlace}
use Rattle.op_commit.specs.declared.acquire.AcquirePlace.TheVariants as at_acquire
use Rattle.stm_model.specs.declared.note.Note.{Note}
use Rattle.stm_model.specs.After.{at, done, note_of, stopped}
use Rattle.stm_model.specs.Attempt.{AcquireMeta, Attempt, DoomOwner, Acquire, OwnerMeta, OwnerStatus}
use Rattle.stm_model.specs.Heap.{put}

-- how many rounds may follow this one
abbrev pub rounds_left : AcquireOp → ℕ
rounds_left op = looks op.policy - op.rounds_done

-- an attempt that owns a cell and has written it
abbrev pub wrote : Attempt → (cell value : ℕ) → Attempt
wrote t cell value = done (record t { now = record t.now { writes = put t.now.writes cell value } })

abbrev pub acquiring_end : Attempt → (cell value : ℕ) → AcquireEnd → Attempt
acquiring_end t cell value (Owned meta) = wrote t cell value
acquiring_end t cell value (Bad cause) = stopped t cause

abbrev pub acquiring_at : AcquireOp → (value : ℕ) → Attempt → AcquirePlace → Attempt
acquiring_at op value t at_acquire.AcquireMeta = at t (AcquireMeta op.addr.0 value (rounds_left op) op.doom_tried)
acquiring_at op value t (at_acquire.Acquire first expected again) = at t (Acquire op.addr.0 value (rounds_left op) op.doom_tried first expected again)
acquiring_at op value t (at_acquire.OwnerStatus first) = at t (OwnerStatus op.addr.0 value (rounds_left op) first)
acquiring_at op value t (at_acquire.OwnerMeta first status) = at t (OwnerMeta op.addr.0 value (rounds_left op) first status)
acquiring_at op value t (at_acquire.DoomOwner first second status) = at t (DoomOwner op.addr.0 value (rounds_left op) first second status)
acquiring_at op value t (at_acquire.Ended end) = acquiring_end t op.addr.0 value end

-- the attempt that this one is while the first write of this value stands so
abbrev pub acquiring : AcquireOp → (value : ℕ) → Attempt → Attempt
acquiring op value t = acquiring_at op value t op.place

-- the version that was noted
abbrev pub version_in : Option Note → Option ℕ
version_in None = None
version_in (Some note) = Some note.version

-- The first write is made for this attempt.
pub record IsAcquiring (op : AcquireOp) (t : Attempt) : Type 0 where
  pub own : t.own ≡ op.own
  pub policy : t.settings.policy ≡ op.policy
  pub noted : version_in (note_of t.notes op.addr.0) ≡ op.noted

-- The words that it is to exchange have room for their fields.
abbrev pub WordFits : AcquirePlace → Type 0
WordFits (at_acquire.Acquire first expected again) = MetaFits expected
WordFits (at_acquire.OwnerMeta first status) = StatusFits status
WordFits (at_acquire.DoomOwner first second status) = StatusFits status
WordFits _ = Unit {0}

-- A doom counts as tried from the load of the owner's status on.
abbrev pub IsCounted : AcquirePlace → (tried : Bool) → Type 0
IsCounted (at_acquire.OwnerStatus first) tried = tried ≡ true
IsCounted (at_acquire.OwnerMeta first status) tried = tried ≡ true
IsCounted (at_acquire.DoomOwner first second status) tried = tried ≡ true
IsCounted place tried = Unit {0}

-- The caller's number, the rounds and the words that it keeps are within their bounds, and a doom is counted.
pub record IsWithin (op : AcquireOp) : Type 0 where
  pub own : op.own ≤ MAX_OWNER
  pub rounds : op.rounds_done ≤ looks op.policy
  pub looks : looks op.policy + 1 < 2 ^ 16
  pub word : WordFits op.place
  pub doom : IsCounted op.place op.doom_tried

abbrev pub end_at : AcquirePlace → Option AcquireEnd
end_at (at_acquire.Ended end) = Some end
end_at _ = None

abbrev pub end_of_acquire : AcquireOp → Option AcquireEnd
end_of_acquire op = end_at op.place

-- how many accesses may follow, with so many rounds behind this one
abbrev pub left_at : AcquirePlace → ℕ → ℕ
left_at at_acquire.AcquireMeta left = 4 * left + 4
left_at (at_acquire.OwnerStatus first) left = 4 * left + 3
left_at (at_acquire.OwnerMeta first status) left = 4 * left + 2
left_at (at_acquire.DoomOwner first second status) left = 4 * left + 1
left_at (at_acquire.Acquire first expected true) left = 4 * left + 1
left_at (at_acquire.Acquire first expected again) left = 4 * left + 2
left_at (at_acquire.Ended end) left = 0

abbrev pub accesses_left : AcquireOp → ℕ
accesses_left op = left_at op.place (rounds_left op)
