use Rattle.std.proofs.Common.{◌∷◌, take}
use Rattle.routing.specs.Orders.{Lowest}
use Rattle.routing.proofs.orders.lowest.Given as goal

-- the lowest over the cards that were looked at
abbrev pub invariant-loop-card : goal.invariant-loop-card
invariant-loop-card g l = Lowest (g.W.Wiring.shape l.wiring) (l.first ∷ take l.card-index l.others) l.over
