use Rattle.std.proofs.Common.{◌≡◌, length, sym, ap, ◌∙◌, subst, arith}
use Rattle.stm_core.proofs.Shown.{notes_shown, shown_alike, writes_shown}
use Rattle.stm_core.specs.Machine.{Machine}
use Rattle.stm_core.specs.Running.{shown}
use Rattle.stm_model.specs.Attempt.{Announce, no_attempt}
use Rattle.stm_core.proofs.attempt.Attempt.again.Goals as goal

pub returns-clause-begins : goal.returns-clause-begins
returns-clause-begins c =
    let alike = shown_alike c.self.inside.running c.self.invariant in
    subst (λ (m : Machine). shown c.again.new.self ≡ record (no_attempt m.attempt.own m.attempt.settings) { serial = c.args.serial; stage = Announce }) c.self.view_is
    (c.again.ensures.shown
    ∙ ap (λ own. record (no_attempt own c.self.inside.running.settings) { serial = c.args.serial; stage = Announce }) (sym alike.own)
    ∙ ap (λ settings. record (no_attempt (shown c.self.inside.running).own settings) { serial = c.args.serial; stage = Announce }) (sym alike.settings))

pub returns-clause-room : goal.returns-clause-room
returns-clause-room c =
    let notes = ap length (notes_shown c.self.inside.running c.args.self.now c.self.invariant c.self.view_is) in
    let writes = ap length (writes_shown c.self.inside.running c.args.self.now c.self.invariant c.self.view_is) in
    record {
      for_reads = omega (arith, c.again.ensures.room.for_reads, notes, ap (λ (m : Machine). m.spare_reads) c.self.view_is);
      for_writes = omega (arith, c.again.ensures.room.for_writes, writes, ap (λ (m : Machine). m.spare_writes) c.self.view_is);
    }
