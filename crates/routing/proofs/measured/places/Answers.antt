use Rattle.std.proofs.Common.{refl, sym, ◌∙◌, arith}
use Rattle.routing.proofs.Sizes.{blank, no_place}
use Rattle.routing.proofs.measured.places.Goals as goal

pub loop-card-init : goal.loop-card-init
loop-card-init g c =
    let s = g.W.Wiring.shape c.args.wiring.now in
    let L = g.met.W.Wiring.lawful c.args.wiring.now in
    let e = c.cards-card.ensures in
    (omega arith, refl, λ d l. blank _ 31 d ∙ sym (no_place s L d (omega arith)))
