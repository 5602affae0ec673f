use Rattle.std.proofs.Common.{List, Option, sym, ap, ◌∙◌, subst}
use Rattle.packet.specs.declared.sides.Side.{Side}
use Rattle.packet.specs.Courses.{sides_in, sides_told}
use Rattle.routing.specs.Walks.{descend}
use Rattle.routing.specs.Orders.{WayDown}
use Rattle.routing.proofs.Ways.{descend_none, descend_front, has_parent, still_under, long_way, front_none, front_some}
use Rattle.routing.proofs.orders.sides_down.Goals as goal

pub loop-at-init : goal.loop-at-init
loop-at-init g c =
    let s = g.W.Wiring.shape c.args.wiring.now in
    (ap (λ (ss : List Side). descend s ss c.args.card) c.none-sides.ensures ∙ descend_none s (g.met.W.Wiring.lawful c.args.wiring.now) c.args.card, c.requires)

pub returns-in_err-parent : goal.returns-in_err-parent
returns-in_err-parent g c =
    absurd (has_parent (g.W.Wiring.shape c.args.wiring.now) (g.met.W.Wiring.lawful c.args.wiring.now) c.args.top c.loop-at.at c.loop-at.invariant.1 c.loop-at-test.true c.in_err-parent.ensures)

pub returns-in_err-sides : goal.returns-in_err-sides
returns-in_err-sides g c =
    let s = g.W.Wiring.shape c.args.wiring.now in
    let L = g.met.W.Wiring.lawful c.args.wiring.now in
    let (i, j) = c.loop-at.invariant in
    let e = sym c.in_ok-parent.ensures in
    let u = still_under s L c.args.top c.loop-at.at _ _ j c.loop-at-test.true e in
    subst (λ (o : Option (List Side)). WayDown s c.args.top c.args.card o) (sym (ap sides_told c.from_residual-in_err-sides.ensures))
    (long_way s L c.args.top c.loop-at.at _ c.args.card _ (sides_in c.loop-at.sides) u e i (front_none c.in_ok-parent.side (sides_in c.loop-at.sides) c.in_err-sides.ensures))

pub loop-at-preserved : goal.loop-at-preserved
loop-at-preserved g c =
    let s = g.W.Wiring.shape c.args.wiring.now in
    let L = g.met.W.Wiring.lawful c.args.wiring.now in
    let (i, j) = c.loop-at.invariant in
    let e = sym c.in_ok-parent.ensures in
    let f = front_some c.in_ok-parent.side (sides_in c.loop-at.sides) (sides_in c.in_ok-sides.sides) c.in_ok-sides.ensures in (
      ap (λ (ss : List Side). descend s ss c.in_ok-parent.parent) f ∙ descend_front s L (sides_in c.loop-at.sides) _ c.loop-at.at _ c.args.card e i,
      still_under s L c.args.top c.loop-at.at _ _ j c.loop-at-test.true e,
    )
