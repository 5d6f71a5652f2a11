use Rattle.std.proofs.Common.{◌<◌, ◌^◌, suc, arith, sym, ◌∙◌}
use Rattle.std.proofs.lemmas.List.{map-append}
use Rattle.opacity.specs.Plain.{entry_in, terms_of}
use Rattle.opacity.proofs.PlainDecides.{decides_lost, decides_won, entry_is}
use Rattle.stm_model.specs.World.{place_of}
use Rattle.opacity.proofs.world.World.decide.Goals as goal

pub returns-then-clock-old-clause-shows : goal.returns-then-clock-old-clause-shows
returns-then-clock-old-clause-shows g c = λ view attempts ready.
    let self = c.args.self.now in
    let below : suc c.args.old < 2 ^ 64 = omega (arith, c.requires.old) in
    decides_lost (g.L.Law.lawful self.law) (g.L.Law.may self.law) (terms_of self.opening.items self.callers self.limit) self.words.items _ view c.args.caller c.args.old
    ready.safe c.requires.caller ready.comes (record { size = self.size; each = self.each }) below ready.owes (λ same. c.if-clock-old.true (c.clock-clock.ensures ∙ same))

pub returns-clause-shows : goal.returns-clause-shows
unfolding place_of
returns-clause-shows g c = λ view attempts ready.
    let self = c.args.self.now in
    let below : suc c.args.old < 2 ^ 64 = omega (arith, c.requires.old) in
    let same = sym c.clock-clock.ensures ∙ c.if-clock-old.false in
    let entry = entry_is (g.L.Law.lawful self.law) (g.L.Law.may self.law) (terms_of self.opening.items self.callers self.limit) self.words.items _ view c.args.caller c.args.old
    ready.safe c.requires.caller ready.comes _ _ ready.noted ready.written in
    rw (c.place-place.ensures.place, c.in_ok-push.ensures.items, map-append entry_in self.history.items _, c.in_ok-entry.ensures.entry)
    (decides_won (g.L.Law.lawful self.law) (g.L.Law.may self.law) (terms_of self.opening.items self.callers self.limit) self.words.items _ view c.args.caller c.args.old
    ready.safe c.requires.caller ready.comes (record { size = self.size; each = self.each }) below ready.owes same _ entry)
