use Rattle.std.proofs.Common.{nat_eq, ap, sym, ◌∙◌}
use Rattle.std.specs.Map.{lookup}
use Rattle.write_buffer.specs.Buffer.{Buffer}
use Rattle.write_buffer.proofs.Places.{found_again, here_at, lookup_none}
use Rattle.write_buffer.proofs.buffer.WriteBuffer.find.Goals as goal

pub returns-in_err-place-clause-value : goal.returns-in_err-place-clause-value
returns-in_err-place-clause-value c = c.from_residual.ensures ∙ sym (lookup_none _ c.args.addr.0 c.in_err-place.ensures.place)

pub returns-clause-value : goal.returns-clause-value
returns-clause-value c =
    found_again _ c.in_ok-place.place _ _ c.self.invariant.apart
    (here_at _ _ _ _ _ (sym (ap (λ (b : Buffer). b.writes) c.self.view_is)) c.in_ok-place.ensures.place c.index.ensures)
    ∙ ap (λ (b : Buffer). lookup (nat_eq c.args.addr.0) b.writes) c.self.view_is
