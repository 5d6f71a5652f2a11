use Rattle.std.proofs.Common.{◌≢◌, rules}
use Rattle.ref_views.proofs.tests.cells_hold_bools_and_characters.Goals as goal

-- a bool was put into another cell since
pub get-requires-2 : goal.get-requires-2
get-requires-2 g c =
    let apart : c.new-letter.result.addr.0 ≢ c.new-flag.result.addr.0 = search rules in
    c.transform.ensures.kept.others _ _ apart c.swap.ensures.typed

-- a character was read since
pub get-requires-3 : goal.get-requires-3
get-requires-3 g c = c.get-2.ensures.kept _ _ c.transform.ensures.typed
