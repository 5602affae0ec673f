use Rattle.std.proofs.Common.{Err, sym, ap, ◌∙◌}
use Rattle.std.specs.Result.{result_ok}
use Rattle.refusal.specs.declared.order.OrderFault.TheVariants.{NoneListed}
use Rattle.routing.specs.Orders.{Ordered, head_told}
use Rattle.routing.proofs.Ordering.{known, none_listed, some_lowest, lowest_there, answered}
use Rattle.routing.proofs.Unique.{one_answer}
use Rattle.routing.proofs.orders.order.Goals as goal

pub returns-in_default-clause-only : goal.returns-in_default-clause-only
returns-in_default-clause-only g c =
    let s = g.W.Wiring.shape c.args.wiring.now in
    λ q k. one_answer s (g.met.W.Wiring.lawful c.args.wiring.now) c.args.sender c.args.cards.now q (Err NoneListed) k
    (none_listed s c.args.sender c.args.cards.now (sym c.all_there.ensures ∙ c.if-not-all_there.false) c.in_default.len_below)

pub returns-in_err-terminus : goal.returns-in_err-terminus
returns-in_err-terminus g c =
    absurd
    (some_lowest (g.W.Wiring.shape c.args.wiring.now) (g.met.W.Wiring.lawful c.args.wiring.now) c.args.sender c.args.cards.now c.in-len1-up.len_at_least
    (sym c.all_there.ensures ∙ c.if-not-all_there.false) c.lowest.result c.lowest.ensures (c.ok_or.ensures.ok_part ∙ ap result_ok c.in_err-terminus.was))

pub head_to-requires : goal.head_to-requires
head_to-requires g c =
    let s = g.W.Wiring.shape c.args.wiring.now in
    let there = sym c.all_there.ensures ∙ c.if-not-all_there.false in
    record {
      sender = (known s c.args.sender c.args.cards.now there).0;
      terminus = lowest_there s (g.met.W.Wiring.lawful c.args.wiring.now) c.args.sender c.args.cards.now c.in-len1-up.len_at_least there c.lowest.result c.lowest.ensures
          c.in_ok-terminus.terminus (c.ok_or.ensures.ok_part ∙ ap result_ok c.in_ok-terminus.was);
    }

pub returns : goal.returns
returns g c =
    let s = g.W.Wiring.shape c.args.wiring.now in
    let L = g.met.W.Wiring.lawful c.args.wiring.now in
    let x = answered s L c.args.sender c.args.cards.now c.in-len1-up.len_at_least (sym c.all_there.ensures ∙ c.if-not-all_there.false) c.lowest.result c.lowest.ensures
    c.in_ok-terminus.terminus (c.ok_or.ensures.ok_part ∙ ap result_ok c.in_ok-terminus.was) c.mode_for.result c.head_to.result c.mode_for.ensures c.head_to.ensures in
    let y : Ordered s c.args.sender c.args.cards.now (head_told c.ok_or-2.result) = rw c.ok_or-2.ensures.value x in
    record { answer = y; only = λ q k. one_answer s L c.args.sender c.args.cards.now q (head_told c.ok_or-2.result) k y }
