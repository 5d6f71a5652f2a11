use Rattle.std.proofs.Common.{string_bytes, codes, sym, ◌∙◌}
use Rattle.std.proofs.lemmas.Slice.Eq.{slice_eq-Decides}
use Rattle.std.proofs.lemmas.Bool.Decides.{Decides-eqb}
use Rattle.ledger_host.proofs.SingleWord.{map-single}
use Rattle.ledger_host.proofs.words.asks_trace.Goals as goal

pub returns-in-len1-clause-trace : goal.returns-in-len1-clause-trace
returns-in-len1-clause-trace c =
    let single = map-single string_bytes c.args.words.now c.word-item.result (codes "trace") c.in-len1.len_at_least c.in-len1.len_below c.word-item.is in
    let equal = slice_eq-Decides Decides-eqb _ _ _ c.eq.ensures in
    (λ yes. single.0 (sym c.as_str.ensures.value ∙ equal.0 yes), λ asks. equal.1 (c.as_str.ensures.value ∙ single.1 asks))
