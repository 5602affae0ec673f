use Rattle.std.proofs.Common.{refl, sym, ◌∙◌, arith}
use Rattle.routing.proofs.Sizes.{blank, no_size}
use Rattle.routing.proofs.subtrees.subtree_size.Goals as goal

pub loop-at-init : goal.loop-at-init
loop-at-init g c =
    let s = g.W.Wiring.shape c.args.wiring.now in
    let L = g.met.W.Wiring.lawful c.args.wiring.now in
    let e = c.cards-at.ensures in
    (omega arith, refl, λ d l. blank 0 31 d ∙ sym (no_size s L d (omega arith)))
