use Rattle.opacity.proofs.PlainOpening.{opens_empty, opens_more}
use Rattle.std.proofs.Common.{replicate, subst, sym, arith}
use Rattle.std.proofs.Common.{◌≡◌, ◌+◌, ◌*◌, ℕ, List, length}
use Rattle.opacity.specs.Plain.{OpensTo}
use Rattle.opacity.proofs.world.opening_words.Goals as goal

-- src/world.rt:77:5
pub loop-i-init : goal.loop-i-init
loop-i-init c =
    let zeros : c.in_ok-words.words.items ≡ replicate (c.args.callers + 1 + 2 * length c.args.opening.now) 0 = c.in_ok-words.ensures.items_if_clones_equal (λ y same. same) in
    subst (λ (items : List ℕ). OpensTo c.args.opening.now c.args.callers 0 items) (sym zeros) (opens_empty c.args.opening.now c.args.callers)

-- src/world.rt:77:5
pub loop-i-preserved : goal.loop-i-preserved
loop-i-preserved c = opens_more c.args.opening.now c.args.callers c.loop-i.i c.loop-i.words.items c.loop-i.invariant c.loop-i-test.true (c.type_inv.opening c.loop-i.i).fits

-- src/world.rt:71:1
pub returns : goal.returns
returns c =
    let all : c.loop-i.i ≡ length c.args.opening.now = omega (arith, c.loop-i-test.false, c.loop-i.auto.i-end) in
    subst (λ (count : ℕ). OpensTo c.args.opening.now c.args.callers count c.loop-i.words.items) all c.loop-i.invariant
