use Rattle.std.proofs.Common.{◌≡◌, ◌↔◌, ℕ, None}
use Rattle.or_atomic.specs.Blocks.{OnlyRuns}
use Rattle.or_atomic.proofs.AlternativeLemmas.{Begun, Retried}
use Rattle.or_atomic.proofs.alternatives.either.Given as goal

abbrev pub invariant-loop-index : goal.invariant-loop-index
invariant-loop-index g l = record {
  number : g.E.Choices.number l.choices ≡ g.E.Choices.number l.initial.choices;
  fits : (law : g.row.L.Denot) (size : ℕ) → g.E.Choices.fits l.initial.choices law size ↔ g.E.Choices.fits l.choices law size;
  retried : Retried g.L.Law.lawful g.L.Law.may g.C.Cells.law g.C.Cells.follows g.C.Cells.state g.met.C.Cells.follows_trans
      g.E.Choices.means g.E.Choices.leaves (g.E.Choices.number l.initial.choices) l.initial.choices l.index l.choices l.initial.cells l.cells;
  same : (g.C.Cells.state l.cells).cause ≡ None → OnlyRuns (g.C.Cells.state l.initial.cells).now (g.C.Cells.state l.cells).now;
  begun : Begun l.index (g.C.Cells.state l.initial.cells) (g.C.Cells.state l.cells);
}
