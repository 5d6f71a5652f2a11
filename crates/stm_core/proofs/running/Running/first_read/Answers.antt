use Rattle.std.proofs.Common.{◌≡◌, ◌||◌, ℕ, List, None, if◌then◌else◌, inr, nat_eq, is_some, refl, rules, sym, ap, ◌∙◌, arith}
use Rattle.std.proofs.lemmas.Map.Made.{is_some-lookup}
use Rattle.std.specs.Map.{lookup}
use Rattle.stm_model.specs.After.{note_of}
use Rattle.stm_model.specs.Heap.{writes_to}
use Rattle.stm_model.specs.declared.note.Note.{Note}
use Rattle.stm_core.specs.Running.{InvariantAt, attempt_at, left_at, reads_under_way, writes_under_way}
use Rattle.stm_core.specs.Machine.{accesses_asked, reads_asked, writes_asked}
use Rattle.stm_model.specs.Moves.{MayRunOut, asked_going}
use Rattle.stm_core.proofs.running.Running.first_read.Goals as goal

-- a cell that is neither written nor noted is read for the first time
one_read : (writes : List (ℕ × ℕ)) (notes : List Note) (cell : ℕ) → lookup (nat_eq cell) writes ≡ None → note_of notes cell ≡ None → ◌≡◌ {A = ℕ} (if writes_to writes cell || is_some (note_of notes cell) then 0 else 1) 1
one_read writes notes cell unwritten unnoted = rw (sym (is_some-lookup (nat_eq cell) writes) ∙ ap is_some unwritten, unnoted) refl

pub returns-in-Ok : goal.returns-in-Ok
unfolding InvariantAt attempt_at left_at reads_under_way writes_under_way accesses_asked reads_asked writes_asked asked_going MayRunOut
returns-in-Ok c = record {
  moves = search rules;
  takes = search rules;
  asked = record {
    left = search rules;
    room = record { for_reads = omega (arith, c.reserve.ensures.spare, one_read c.args.self.now.footprint.writes.writes c.args.self.now.footprint.reads.notes c.args.addr.0 c.requires.unwritten c.requires.unnoted); for_writes = omega arith };
    numbers = record { own = refl; serial = refl; settings = refl };
    sound = record {
      fits = c.requires.free.fits;
      runs = rw c.requires.free.nothing_due tt;
      holds = (
        record {
          made_for = c.new.ensures.for_attempt _ refl refl;
          room = rw c.new.ensures.cell (record { unnoted = rw c.reserve.ensures.same c.requires.unnoted; room = omega (arith, c.in-Ok.ensures.ok) });
        },
        rw c.new.ensures.going refl,
      );
    };
  };
}

pub returns-in-Err : goal.returns-in-Err
unfolding InvariantAt attempt_at left_at reads_under_way writes_under_way accesses_asked reads_asked writes_asked asked_going MayRunOut
returns-in-Err c = record {
  moves = λ stage. inr ((sym (is_some-lookup (nat_eq c.args.addr.0) c.args.self.now.footprint.writes.writes) ∙ ap is_some c.requires.unwritten, c.requires.unnoted), rw c.reserve.ensures.same refl);
  takes = search rules;
  asked = search rules;
}
