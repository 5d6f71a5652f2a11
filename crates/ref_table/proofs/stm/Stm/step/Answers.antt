use Rattle.std.proofs.Common.{◌≡◌, ◌∙◌, ap, refl, sym}
use Rattle.stm_model.specs.World.{place_of}
use Rattle.stm_model.specs.declared.settings.Settings.{Settings}
use Rattle.ref_table.specs.Keyed.{KeptBy, stm_of}
use Rattle.ref_table.specs.Seats.{terms_in}
use Rattle.ref_table.proofs.Allowing.{clears, exchanges, loads, sets, stores, swaps}
use Rattle.ref_table.proofs.stm.Stm.step.Goals as goal

pub load-requires : goal.load-requires
load-requires g c =
    let shared = c.self.inside.table.shared in
    let at : c.place_of-at.result ≡ place_of shared.key.settings.callers c.in-Load.word = c.place_of-at.ensures ∙ ap (λ (s : Settings). place_of s.callers c.in-Load.word) (sym c.self.invariant.same) in
    let both = loads (KeptBy g.L.Law.lawful g.L.Law.may shared.key) g.J.Told.told (terms_in (stm_of shared.table_id shared.key)) _ c.args.seat.now.me _ _ _ c.args.access c.self.invariant.slots c.self.invariant.words
    (rw (← c.self.view_is) at c.requires.word) (rw (← c.self.view_is) at c.requires.allows) c.in-Load.word c.in-Load.is at in
    (rw (← c.self.view_is) at c.requires.own, both.0, both.1)

pub store-requires : goal.store-requires
store-requires g c =
    let shared = c.self.inside.table.shared in
    let at : c.place_of-at-in-Store.result ≡ place_of shared.key.settings.callers c.in-Store.word = c.place_of-at-in-Store.ensures ∙ ap (λ (s : Settings). place_of s.callers c.in-Store.word) (sym c.self.invariant.same) in
    let both = stores (KeptBy g.L.Law.lawful g.L.Law.may shared.key) g.J.Told.told (terms_in (stm_of shared.table_id shared.key)) _ c.args.seat.now.me _ _ _ c.args.access c.self.invariant.slots c.self.invariant.words
    (rw (← c.self.view_is) at c.requires.word) (rw (← c.self.view_is) at c.requires.allows) c.in-Store.word c.in-Store.new c.in-Store.is at in
    (rw (← c.self.view_is) at c.requires.own, both.0, both.1)

pub swap-requires : goal.swap-requires
swap-requires g c =
    let shared = c.self.inside.table.shared in
    let at : c.place_of-at-in-Swap.result ≡ place_of shared.key.settings.callers c.in-Swap.word = c.place_of-at-in-Swap.ensures ∙ ap (λ (s : Settings). place_of s.callers c.in-Swap.word) (sym c.self.invariant.same) in
    let both = swaps (KeptBy g.L.Law.lawful g.L.Law.may shared.key) g.J.Told.told (terms_in (stm_of shared.table_id shared.key)) _ c.args.seat.now.me _ _ _ c.args.access c.self.invariant.slots c.self.invariant.words
    (rw (← c.self.view_is) at c.requires.word) (rw (← c.self.view_is) at c.requires.allows) c.in-Swap.word c.in-Swap.new c.in-Swap.is at in
    (rw (← c.self.view_is) at c.requires.own, both.0, both.1)

pub compare_exchange-requires : goal.compare_exchange-requires
compare_exchange-requires g c =
    let shared = c.self.inside.table.shared in
    let at : c.place_of-at-in-Exchange.result ≡ place_of shared.key.settings.callers c.in-Exchange.word = c.place_of-at-in-Exchange.ensures ∙ ap (λ (s : Settings). place_of s.callers c.in-Exchange.word) (sym c.self.invariant.same) in
    let both = exchanges (KeptBy g.L.Law.lawful g.L.Law.may shared.key) g.J.Told.told (terms_in (stm_of shared.table_id shared.key)) _ c.args.seat.now.me _ _ _ c.args.access c.self.invariant.slots c.self.invariant.words
    (rw (← c.self.view_is) at c.requires.word) (rw (← c.self.view_is) at c.requires.allows) c.in-Exchange.word c.in-Exchange.old c.in-Exchange.new c.in-Exchange.is at in
    (rw (← c.self.view_is) at c.requires.own, both.0, both.1)

pub fetch_or-requires : goal.fetch_or-requires
fetch_or-requires g c =
    let shared = c.self.inside.table.shared in
    let at : c.place_of-at-in-SetBits.result ≡ place_of shared.key.settings.callers c.in-SetBits.word = c.place_of-at-in-SetBits.ensures ∙ ap (λ (s : Settings). place_of s.callers c.in-SetBits.word) (sym c.self.invariant.same) in
    let both = sets (KeptBy g.L.Law.lawful g.L.Law.may shared.key) g.J.Told.told (terms_in (stm_of shared.table_id shared.key)) _ c.args.seat.now.me _ _ _ c.args.access c.self.invariant.slots c.self.invariant.words
    (rw (← c.self.view_is) at c.requires.word) (rw (← c.self.view_is) at c.requires.allows) c.in-SetBits.word c.in-SetBits.mask c.in-SetBits.is at in
    (rw (← c.self.view_is) at c.requires.own, both.0, both.1)

pub fetch_and-requires : goal.fetch_and-requires
fetch_and-requires g c =
    let shared = c.self.inside.table.shared in
    let at : c.place_of-at-in-ClearBits.result ≡ place_of shared.key.settings.callers c.in-ClearBits.word = c.place_of-at-in-ClearBits.ensures ∙ ap (λ (s : Settings). place_of s.callers c.in-ClearBits.word) (sym c.self.invariant.same) in
    let both = clears (KeptBy g.L.Law.lawful g.L.Law.may shared.key) g.J.Told.told (terms_in (stm_of shared.table_id shared.key)) _ c.args.seat.now.me _ _ _ c.args.access c.self.invariant.slots c.self.invariant.words
    (rw (← c.self.view_is) at c.requires.word) (rw (← c.self.view_is) at c.requires.allows) c.in-ClearBits.word c.in-ClearBits.mask _ c.in-ClearBits.is refl at in
    (rw (← c.self.view_is) at c.requires.own, both.0, both.1)
