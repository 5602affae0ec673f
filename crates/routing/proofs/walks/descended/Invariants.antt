use Rattle.std.proofs.Common.{◌≡◌}
use Rattle.packet.specs.Courses.{sides_in}
use Rattle.routing.specs.Walks.{descend}
use Rattle.routing.proofs.walks.descended.Given as goal

-- these sides are left to descend from here
abbrev pub invariant-loop-side : goal.invariant-loop-side
invariant-loop-side g l = descend (g.W.Wiring.shape l.wiring) (sides_in l.fn.sides) l.card ≡ descend (g.W.Wiring.shape l.wiring) (sides_in l.side-iterator.0) l.at
