use Rattle.ref_views.proofs.LawfulCells.{holds_lawful}
use Rattle.ref_views.proofs.laws.lawful_cells_hold_words.Goals as goal

pub returns : goal.returns
returns g c = λ cells address cell stays.
    holds_lawful g.T.WordValue.value_of (g.L.Law.lawful (g.C.Cells.law cells)) address (g.C.Cells.state cells) cell (g.met.C.Cells.words cells) stays
