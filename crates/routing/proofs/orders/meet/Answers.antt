use Rattle.std.proofs.Common.{ℕ, ◌<◌, ◌&&◌, sym, ap, ◌∙◌, arith}
use Rattle.routing.specs.Subtrees.{covers}
use Rattle.routing.proofs.Meeting.{meet_up, meet_up', no_meet, no_meet', meet_lowest, meet_none, and_same}
use Rattle.routing.proofs.orders.meet.Goals as goal

pub returns-in_err-x : goal.returns-in_err-x
returns-in_err-x g c =
    let s = g.W.Wiring.shape c.args.wiring.now in
    let L = g.met.W.Wiring.lawful c.args.wiring.now in
    meet_none s c.args.a c.args.b c.from_residual.result c.from_residual.ensures
    (λ u. sym (c.loop-x.invariant u) ∙ no_meet s L c.loop-x.x c.loop-x.y u c.if-x-y.true (sym c.in_err-x.ensures))

pub loop-x-smaller-then-x-y : goal.loop-x-smaller-then-x-y
loop-x-smaller-then-x-y g c =
    let b = ((g.met.W.Wiring.lawful c.args.wiring.now).below _ _ _ (sym c.in_ok-x.ensures)).0 in
    omega arith

pub loop-x-preserved-then-x-y : goal.loop-x-preserved-then-x-y
loop-x-preserved-then-x-y g c =
    let s = g.W.Wiring.shape c.args.wiring.now in
    let L = g.met.W.Wiring.lawful c.args.wiring.now in
    λ u. meet_up s L c.loop-x.x c.loop-x.y _ u _ c.if-x-y.true (sym c.in_ok-x.ensures) ∙ c.loop-x.invariant u

pub returns-in_err-y : goal.returns-in_err-y
returns-in_err-y g c =
    let s = g.W.Wiring.shape c.args.wiring.now in
    let L = g.met.W.Wiring.lawful c.args.wiring.now in
    let n = c.loop-x-test.true in
    let l : c.loop-x.x < c.loop-x.y = omega arith in
    meet_none s c.args.a c.args.b c.from_residual-in_err-y.result c.from_residual-in_err-y.ensures
    (λ u. sym (c.loop-x.invariant u) ∙ no_meet' s L c.loop-x.x c.loop-x.y u l (sym c.in_err-y.ensures))

pub loop-x-smaller : goal.loop-x-smaller
loop-x-smaller g c =
    let b = ((g.met.W.Wiring.lawful c.args.wiring.now).below _ _ _ (sym c.in_ok-y.ensures)).0 in
    omega arith

pub loop-x-preserved : goal.loop-x-preserved
loop-x-preserved g c =
    let s = g.W.Wiring.shape c.args.wiring.now in
    let L = g.met.W.Wiring.lawful c.args.wiring.now in
    let n = c.loop-x-test.true in
    let l : c.loop-x.x < c.loop-x.y = omega arith in
    λ u. meet_up' s L c.loop-x.x c.loop-x.y _ u _ l (sym c.in_ok-y.ensures) ∙ c.loop-x.invariant u

pub returns : goal.returns
returns g c =
    let s = g.W.Wiring.shape c.args.wiring.now in
    meet_lowest s c.args.a c.args.b (g.met.W.Wiring.lawful c.args.wiring.now) c.loop-x.x
    (λ u. sym (and_same (covers s u c.loop-x.x)) ∙ (ap (λ (y : ℕ). covers s u c.loop-x.x && covers s u y) c.loop-x-test.false ∙ c.loop-x.invariant u))
