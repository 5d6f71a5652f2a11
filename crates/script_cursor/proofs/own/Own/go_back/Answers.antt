use Rattle.std.proofs.Common.{refl}
use Rattle.std.proofs.lemmas.List.{take-map}
use Rattle.script_cursor.proofs.own.Own.go_back.Goals as goal

pub returns : goal.returns
returns c = rw (← c.self.view_is, c.truncate.ensures.items, take-map) refl
