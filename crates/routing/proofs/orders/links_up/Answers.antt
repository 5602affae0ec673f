use borrow.Author.Tests.{tests}
use Rattle.std.proofs.Common.{not, eqb, ◌∙◌, rules}
use Rattle.std.proofs.lemmas.Iterator.Consumers.{YieldsList-from_first, count_from_yields_List}
use Rattle.std.proofs.lemmas.Iterator.Search.{YieldsList-from_take_while}
use Rattle.std.proofs.lemmas.List.Folds.{length-prefix_len}
use Rattle.routing.specs.Ancestors.{upward, upward_from}
use Rattle.routing.proofs.Upward.{climb_to}
use Rattle.routing.proofs.orders.links_up.Goals as goal

pub returns : goal.returns
returns g c =
    let s = g.W.Wiring.shape c.args.wiring.now in
    let e = count_from_yields_List _ c.count.result c.count.ensures.ran
    (YieldsList-from_take_while _ (λ x. not (eqb c.args.top x))
    (YieldsList-from_first (λ x. x) (λ w. upward_from (g.W.Wiring.shape w.wiring.now) w.at) (upward s c.args.card) (search rules))
    c.take_while.ensures.closure c.take_while.ensures.done (λ x b q k. search (rules, tests))) in
    rw (e ∙ length-prefix_len (λ x. not (eqb c.args.top x)) (upward s c.args.card)) (climb_to s (g.met.W.Wiring.lawful c.args.wiring.now) c.args.top c.args.card c.requires)
