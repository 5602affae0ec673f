use borrow.Author.Tests.{tests}
use Rattle.std.proofs.Common.{eqb, sym, ◌∙◌, rules}
use Rattle.std.proofs.lemmas.Iterator.{YieldsList-from_slice}
use Rattle.std.proofs.lemmas.Iterator.Search.{all_from_yields_List}
use Rattle.routing.proofs.orders.mode_for.Goals as goal

pub returns-then-all : goal.returns-then-all
returns-then-all c =
    rw (sym (all_from_yields_List (eqb c.args.first) _ _ _ c.all.ensures.ran (YieldsList-from_slice c.args.others.now cc) (λ x b q k. search (rules, tests))) ∙ c.if-all.true)
