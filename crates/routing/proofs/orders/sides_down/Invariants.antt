use Rattle.std.proofs.Common.{◌≡◌, true, Ok}
use Rattle.packet.specs.Courses.{sides_in}
use Rattle.routing.specs.Walks.{descend}
use Rattle.routing.specs.Subtrees.{covers}
use Rattle.routing.proofs.orders.sides_down.Given as goal

-- these sides lead down from here to the card, and the top still stands over this one
abbrev pub invariant-loop-at : goal.invariant-loop-at
invariant-loop-at g l = (descend (g.W.Wiring.shape l.wiring) (sides_in l.sides) l.at ≡ Ok l.card) × (covers (g.W.Wiring.shape l.wiring) l.top l.at ≡ true)

abbrev pub decreases-loop-at : goal.decreases-loop-at
decreases-loop-at g l = l.at
