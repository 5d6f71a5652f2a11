use Rattle.std.proofs.Common.{◌∙◌, ap}
use Rattle.stm_model.specs.Heap.{AreWords}
use Rattle.opacity.proofs.PlainOpening.{all_words}
use Rattle.ref_table.proofs.Opening.{starts_so}
use Rattle.ref_table.proofs.stm.Stm.under.Goals as goal

pub of_words-requires : goal.of_words-requires
of_words-requires g c =
    let words : AreWords c.args.opening.now = all_words c.args.opening.now (λ cell. (c.type_inv.opening cell).fits) in
    let fits = c.fits.ensures.0 c.if-not-fits.false in
    starts_so g.L.Law.lawful g.L.Law.may c.args.law c.of.result.value c.args.opening.now c.of-2.result.value.items c.args.settings c.in_ok-words.words.items c.as_slice.result.now
    c.of.ensures
    (ap (λ v. v.items) c.of-2.ensures ∙ c.in_ok-heap.ensures.items_if_clones_equal (λ x y e. e))
    c.as_slice.ensures.value
    c.in_ok-words.ensures
    (record { callers = fits.callers; limit = fits.clock; words = words })
    c.requires.lawful
