use Rattle.std.proofs.Common.{refl, sym, ap, arith}
use Rattle.stm_core.proofs.Cuts.{cuts_within, forgets, forgets_soundly, is_none, left_none, left_same, room_same}
use Rattle.stm_core.proofs.Doing.{leaves, leaves_soundly}
use Rattle.stm_core.specs.declared.running.Dues.{Dues}
use Rattle.stm_core.proofs.running.Running.leave_runs.Goals as goal

pub returns-then-is_some-clause-becomes : goal.returns-then-is_some-clause-becomes
returns-then-is_some-clause-becomes c = record {
  shows = leaves c.args.self.now c.runs_of-self.result _ c.requires.sound (ap (λ (d : Dues). d.ring) c.requires.due.1) c.runs_of-self.ensures.runs;
  left = omega arith;
  numbers = record { own = refl; serial = refl; settings = refl };
  sound = leaves_soundly c.args.self.now c.runs_of-self.result c.requires.sound c.runs_of-self.ensures.some (λ hooks is. sym c.if-is_some.ensures);
}

pub undo_to-requires : goal.undo_to-requires
undo_to-requires c = cuts_within c.args.self.now c.in-Undone.hooks c.requires.sound c.in-Undone.is

pub returns-in-Undone-clause-becomes : goal.returns-in-Undone-clause-becomes
returns-in-Undone-clause-becomes c =
    let none = is_none c.runs_of-self.result (sym c.if-is_some.ensures) in
    record {
      shows = forgets c.args.self.now c.in-Undone.hooks c.undo_to.new.self c.runs_of-self.result c.requires.sound c.in-Undone.is none c.undo_to.ensures.hooks c.undo_to.ensures.laters.laters (ap (λ (d : Dues). d.ring) c.requires.due.1) _ c.runs_of-self.ensures.runs;
      left = left_none c.args.self.now c.in-Undone.hooks c.undo_to.new.self c.runs_of-self.result;
      numbers = record { own = refl; serial = refl; settings = refl };
      sound = forgets_soundly c.args.self.now c.in-Undone.hooks c.undo_to.new.self c.runs_of-self.result c.requires.sound c.in-Undone.is none c.undo_to.ensures.hooks c.undo_to.ensures.laters.laters;
    }

pub returns-in-Undone-clause-left : goal.returns-in-Undone-clause-left
returns-in-Undone-clause-left c = left_same c.args.self.now c.in-Undone.hooks c.undo_to.new.self c.runs_of-self.result c.in-Undone.is

pub returns-in-Undone-clause-room : goal.returns-in-Undone-clause-room
returns-in-Undone-clause-room c = room_same c.args.self.now c.in-Undone.hooks c.undo_to.new.self c.runs_of-self.result c.in-Undone.is

pub returns-in_default : goal.returns-in_default
returns-in_default c = record {
  becomes = record {
    shows = leaves c.args.self.now c.runs_of-self.result _ c.requires.sound (ap (λ (d : Dues). d.ring) c.requires.due.1) c.runs_of-self.ensures.runs;
    left = omega arith;
    numbers = record { own = refl; serial = refl; settings = refl };
    sound = leaves_soundly c.args.self.now c.runs_of-self.result c.requires.sound c.runs_of-self.ensures.some (λ hooks is. absurd (c.in_default.not-Undone hooks is));
  };
  left = refl;
  room = record { for_reads = omega arith; for_writes = omega arith };
}
