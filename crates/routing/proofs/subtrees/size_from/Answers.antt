use Rattle.std.proofs.Common.{get_or, arith}
use Rattle.routing.proofs.Sizes.{size_few, size_kept}
use Rattle.routing.proofs.subtrees.size_from.Goals as goal

pub overflow_add-result : goal.overflow_add-result
overflow_add-result g c =
    let s = g.W.Wiring.shape c.args.wiring.now in
    let L = g.met.W.Wiring.lawful c.args.wiring.now in
    let e = size_kept s L c.args.card (λ d. get_or c.args.sizes.now d 0) c.requires.above _ _ c.requires.known c.size_below-left.ensures c.size_below-right.ensures in
    let f = size_few s L c.args.card in
    record { fits = omega arith }

pub overflow_add-result-2 : goal.overflow_add-result-2
overflow_add-result-2 g c =
    let s = g.W.Wiring.shape c.args.wiring.now in
    let L = g.met.W.Wiring.lawful c.args.wiring.now in
    let e = size_kept s L c.args.card (λ d. get_or c.args.sizes.now d 0) c.requires.above _ _ c.requires.known c.size_below-left.ensures c.size_below-right.ensures in
    let f = size_few s L c.args.card in
    record { fits = omega arith }

pub returns : goal.returns
returns g c =
    let s = g.W.Wiring.shape c.args.wiring.now in
    let L = g.met.W.Wiring.lawful c.args.wiring.now in
    let e = size_kept s L c.args.card (λ d. get_or c.args.sizes.now d 0) c.requires.above _ _ c.requires.known c.size_below-left.ensures c.size_below-right.ensures in
    cc
