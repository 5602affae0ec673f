use Rattle.std.proofs.Common.{[], ◌∷◌, sym, arith}
use Rattle.std.proofs.lemmas.List.{take_all}
use Rattle.routing.specs.Subtrees.{covers}
use Rattle.routing.proofs.Meeting.{and_true, lowest_by, lowest_more, lowest_none}
use Rattle.routing.proofs.orders.lowest.Goals as goal

pub loop-card-init : goal.loop-card-init
loop-card-init g c =
    let s = g.W.Wiring.shape c.args.wiring.now in
    lowest_by s (g.met.W.Wiring.lawful c.args.wiring.now) (c.args.first ∷ []) c.args.first (λ u. sym (and_true (covers s u c.args.first)))

pub returns-in_err-over : goal.returns-in_err-over
returns-in_err-over g c =
    lowest_none (g.W.Wiring.shape c.args.wiring.now) (g.met.W.Wiring.lawful c.args.wiring.now) c.args.first c.args.others.now c.loop-card.card-index c.loop-card.over
    c.loop-card-test.true c.loop-card.invariant c.from_residual.result c.from_residual.ensures c.in_err-over.ensures

pub loop-card-preserved : goal.loop-card-preserved
loop-card-preserved g c =
    lowest_more (g.W.Wiring.shape c.args.wiring.now) (g.met.W.Wiring.lawful c.args.wiring.now) c.args.first c.args.others.now c.loop-card.card-index c.loop-card.over
    c.loop-card-test.true c.loop-card.invariant c.in_ok-over.over c.in_ok-over.ensures

pub returns : goal.returns
returns g c = rw (take_all c.loop-card.card-index c.args.others.now (omega arith)) at c.loop-card.invariant
