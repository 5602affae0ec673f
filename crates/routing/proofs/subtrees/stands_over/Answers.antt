use borrow.Author.Tests.{tests}
use Rattle.std.proofs.Common.{eqb, leb, sym, ◌∙◌, rules}
use Rattle.std.proofs.lemmas.Iterator.Consumers.{YieldsList-from_first}
use Rattle.std.proofs.lemmas.Iterator.Search.{YieldsList-from_take_while, any_from_yields_List}
use Rattle.routing.specs.Ancestors.{upward, upward_from}
use Rattle.routing.proofs.Upward.{covers_upward}
use Rattle.routing.proofs.subtrees.stands_over.Goals as goal

pub returns : goal.returns
returns g c =
    let s = g.W.Wiring.shape c.args.wiring.now in
    any_from_yields_List (eqb c.args.top) _ _ c.any.result c.any.ensures.ran
    (YieldsList-from_take_while _ (leb c.args.top)
    (YieldsList-from_first (λ x. x) (λ w. upward_from (g.W.Wiring.shape w.wiring.now) w.at) (upward s c.args.card) (search rules))
    c.take_while.ensures.closure c.take_while.ensures.done (λ x b q k. search (rules, tests)))
    (λ x b q k. search (rules, tests)) ∙
    sym (covers_upward s (g.met.W.Wiring.lawful c.args.wiring.now) c.args.top c.args.card)
