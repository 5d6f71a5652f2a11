use Rattle.std.proofs.Common.{refl}
use Rattle.script_cursor.specs.Cursors.{lates_from, next_in}
use Rattle.script_cursor.proofs.cursor.Cursor.new.Goals as goal

pub returns : goal.returns
unfolding lates_from next_in
returns c =
    rw (c.in_ok-settle.ensures.talk, c.in_ok-push.ensures.next, c.in_ok-push.ensures.own, c.new-2.ensures.items, c.new.ensures, c.as_slice.ensures) refl
