-- An ask that is answered by quick calls.
use Rattle.std.proofs.Common.{◌≡◌, ℕ, nat_eq, None, sym, ap, ◌∙◌, inl}
use Rattle.std.specs.Map.{lookup}
use Rattle.meta_word.specs.Policy.{looks}
use Rattle.stm_core.proofs.Asking.{going_taken, waits_at}
use Rattle.stm_core.specs.Running.{base, shown}
use Rattle.stm_core.specs.declared.running.Running.{Running}
use Rattle.stm_model.specs.After.{answer_with, at, note_of}
use Rattle.stm_model.specs.Attempt.{Attempt, ReadMeta}
use Rattle.stm_model.specs.Moves.{Takes, asked_going, moved, read_buffered, read_noted}
use Rattle.stm_model.specs.declared.access.Ask.TheVariants.{Get}
use Rattle.stm_model.specs.declared.cause.Addr.{Addr}
use Rattle.txn_quick.specs.Reads.{IsFirstRead, IsKnown, to_read}

asked_first : (t : Attempt) (addr : Addr) → lookup (nat_eq addr.0) t.now.writes ≡ None → note_of t.notes addr.0 ≡ None → asked_going t (Get addr) ≡ at t (ReadMeta addr.0 (looks t.settings.policy))
unfolding asked_going
asked_first t addr unwritten unnoted = ap (read_buffered t addr.0) unwritten ∙ ap (read_noted t addr.0) unnoted

-- A first read begins by the ask.
pub first_asked : (r : Running) (addr : Addr) → IsFirstRead r addr → to_read r addr ≡ moved (shown r) (Takes (Get addr))
first_asked r addr first =
    let waits = waits_at r (inl (first.told, first.ready)) in
    going_taken r waits (Get addr) (to_read r addr) (sym (asked_first _ addr first.unwritten first.room.unnoted))

-- Where its value is known, the ask is answered by it.
pub known_asked : (r : Running) (addr : Addr) (value : ℕ) → IsKnown r addr value → answer_with (base r) value ≡ moved (shown r) (Takes (Get addr))
known_asked r addr value known =
    let waits = waits_at r (inl (known.told, known.ready)) in
    going_taken r waits (Get addr) (answer_with (base r) value) (sym (known.answers waits.stage))
