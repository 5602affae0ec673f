use Rattle.std.proofs.Common.{◌≡◌, ℕ, ◌+◌, ◌&&◌}
use Rattle.routing.specs.Subtrees.{covers}
use Rattle.routing.proofs.orders.meet.Given as goal

-- the same cards stand over both
abbrev pub invariant-loop-x : goal.invariant-loop-x
invariant-loop-x g l =
    (u : ℕ) →
    (covers (g.W.Wiring.shape l.wiring) u l.x && covers (g.W.Wiring.shape l.wiring) u l.y) ≡
    (covers (g.W.Wiring.shape l.wiring) u l.a && covers (g.W.Wiring.shape l.wiring) u l.b)

abbrev pub decreases-loop-x : goal.decreases-loop-x
decreases-loop-x g l = l.x + l.y
