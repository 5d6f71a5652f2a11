use Rattle.std.proofs.Common.{◌≡◌, ◌≤◌, length, ap, ◌∙◌, arith}
use Rattle.stm_core.proofs.Marked.{innermost, length_at_mark, marked_undone, no_more_hooks, shows_undone}
use Rattle.stm_core.specs.Past.{books_in, runs_in}
use Rattle.stm_core.specs.Running.{base}
use Rattle.stm_core.proofs.running.Running.undo_level.Goals as goal

pub undo-requires : goal.undo-requires
undo-requires c = (innermost _ _ _ _ _ _ c.undo-level.ensures c.requires.fits.marks).marked.mark

pub undo_laters_to-requires : goal.undo_laters_to-requires
undo_laters_to-requires c = (innermost _ _ _ _ _ _ c.undo-level.ensures c.requires.fits.marks).marked.laters_then.within

pub undo_hooks-requires-clause-fits : goal.undo_hooks-requires-clause-fits
undo_hooks-requires-clause-fits c =
    let is = innermost _ _ _ _ _ _ c.undo-level.ensures c.requires.fits.marks in
    record {
      numbers = c.requires.fits.numbers;
      marks = rw c.leave.ensures.books (marked_undone _ _ _ _ _ _ _ c.undo.ensures.marks is.marked.laters_then.within c.undo_laters_to.ensures.laters c.undo_laters_to.ensures.hooks.hooks is.around is.others);
    }

pub undo_hooks-requires-clause-within : goal.undo_hooks-requires-clause-within
undo_hooks-requires-clause-within c = rw c.undo_laters_to.ensures.hooks.hooks (innermost _ _ _ _ _ _ c.undo-level.ensures c.requires.fits.marks).marked.hooks_then.within

pub undo_hooks-requires-clause-outer : goal.undo_hooks-requires-clause-outer
undo_hooks-requires-clause-outer c = no_more_hooks _ _ (innermost _ _ _ _ _ _ c.undo-level.ensures c.requires.fits.marks).around

pub returns-clause-becomes : goal.returns-clause-becomes
returns-clause-becomes c = λ kept.
    let r = c.args.self.now in
    let is = innermost _ _ _ _ _ _ c.undo-level.ensures c.requires.fits.marks in
    let becomes = c.undo_hooks.ensures.becomes in
    record {
      shows =
          becomes.shows
          ∙ rw (c.undo.ensures.writes, c.undo_laters_to.ensures.laters, c.undo_laters_to.ensures.hooks.hooks, c.leave.ensures.rings, c.leave.ensures.runs, c.leave.ensures.books)
          (shows_undone (base r) kept r.footprint.writes r.handlers (runs_in r.past) c.undo-level.result c.undo-level.new.self (books_in r.past) is);
      left = becomes.left;
      numbers = record { own = becomes.numbers.own; serial = becomes.numbers.serial; settings = becomes.numbers.settings };
      sound = becomes.sound;
    }

pub returns-clause-room : goal.returns-clause-room
returns-clause-room c =
    let r = c.args.self.now in
    let mark = c.undo-level.result.writes in
    let is = innermost _ _ _ _ _ _ c.undo-level.ensures c.requires.fits.marks in
    let count : length c.undo.new.self.writes ≡ mark.entries = ap length c.undo.ensures.writes ∙ length_at_mark r.footprint.writes mark is.marked.mark in
    let spare : r.footprint.writes.spare ≤ c.undo.new.self.spare = omega (arith, c.undo.ensures.spare, count, is.marked.mark.entries) in
    let room = c.undo_hooks.ensures.room in
    record { for_reads = room.for_reads; for_writes = omega (arith, spare, room.for_writes) }
