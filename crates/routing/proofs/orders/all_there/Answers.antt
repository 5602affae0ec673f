use borrow.Author.Tests.{tests}
use Rattle.std.proofs.Common.{ℕ, ltb, ap, ◌∙◌, arith, rules, lt-ltb}
use Rattle.std.specs.List.{list_all}
use Rattle.std.proofs.lemmas.Iterator.{YieldsList-from_slice}
use Rattle.std.proofs.lemmas.Iterator.Search.{all_from_yields_List}
use Rattle.routing.proofs.orders.all_there.Goals as goal

pub returns-then-sender-n : goal.returns-then-sender-n
returns-then-sender-n g c =
    let k = all_from_yields_List (λ x. ltb x c.cards-n.result) _ _ c.all.result c.all.ensures.ran (YieldsList-from_slice c.args.cards.now cc) (λ x b q k. search (rules, tests)) in
    rw (lt-ltb c.args.sender (g.W.Wiring.shape c.args.wiring.now).cards (omega arith)) (k ∙ ap (λ (n : ℕ). list_all (λ x. ltb x n) c.args.cards.now) c.cards-n.ensures)
