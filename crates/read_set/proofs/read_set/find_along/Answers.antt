use Rattle.std.proofs.Common.{◌≡◌, nat_eq, rules, tests}
use Rattle.std.specs.List.{find}
use Rattle.std.specs.Option.{option_map}
use Rattle.std.proofs.lemmas.Iterator.{YieldsList-from_slice}
use Rattle.std.proofs.lemmas.Iterator.Search.{find_from_yields_List}
use Rattle.read_set.proofs.read_set.find_along.Goals as goal

pub returns : goal.returns
returns c =
    let found : option_map (λ note. note.now) c.find.result ≡ find (λ note. nat_eq note.addr.0 c.args.addr.0) c.args.notes.now =
    find_from_yields_List (λ note. nat_eq note.addr.0 c.args.addr.0) _ _ _ c.find.ensures.ran (YieldsList-from_slice c.args.notes.now cc) (λ x b q k. search (rules, tests)) in
    rw c.copied.ensures found
