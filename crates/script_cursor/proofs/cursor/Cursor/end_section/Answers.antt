use Rattle.std.proofs.Common.{refl, arith}
use Rattle.script_cursor.specs.Cursors.{next_in}
use Rattle.script_cursor.proofs.ComesLemmas.{comes_too}
use Rattle.script_cursor.proofs.NextLemmas.{given_up}
use Rattle.script_cursor.proofs.cursor.Cursor.end_section.Goals as goal

pub returns-in-Kept-Block : goal.returns-in-Kept-Block
unfolding next_in
returns-in-Kept-Block c = record {
  comes = rw (c.stand.ensures.result, c.stand.ensures.point, c.requires, c.in-Kept-Block.is-0, c.in-Kept-Block.is-1) refl;
  less = rw (c.stand.ensures.result, c.stand.ensures.point, c.in-Kept-Block.is-1) (omega arith);
}

pub returns-in-Kept-Between : goal.returns-in-Kept-Between
unfolding next_in
returns-in-Kept-Between c =
    comes_too c.begin_late.result _ _ _ _ c.begin_late.new.self c.begin_late.ensures (rw (c.requires, c.in-Kept-Between.is-0, c.in-Kept-Between.is-1) refl) (omega arith)

pub returns-in-Kept-Body : goal.returns-in-Kept-Body
unfolding next_in
returns-in-Kept-Body c = record {
  comes = rw (c.stand-in-Kept-Body.ensures.result, c.stand-in-Kept-Body.ensures.point, c.requires, c.in-Kept-Body.is-0, c.in-Kept-Body.is-1) refl;
  less = rw (c.stand-in-Kept-Body.ensures.result, c.stand-in-Kept-Body.ensures.point, c.in-Kept-Body.is-1) (omega arith);
}

pub returns-in_default : goal.returns-in_default
unfolding next_in
returns-in_default c = record {
  comes =
      rw (c.stand-in_default.ensures.result, c.stand-in_default.ensures.point, c.requires)
      (given_up c.args.end c.args.self.now.section c.args.self.now.begun c.args.self.now.own c.in_default.not-Kept-0);
  less = rw (c.stand-in_default.ensures.result, c.stand-in_default.ensures.point) (omega arith);
}
