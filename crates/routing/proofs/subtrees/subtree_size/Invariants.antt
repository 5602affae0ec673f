use Rattle.std.proofs.Common.{◌≡◌, ℕ, ◌≤◌, get_or, length}
use Rattle.routing.specs.Subtrees.{subtree_size}
use Rattle.routing.proofs.subtrees.subtree_size.Given as goal

-- the sizes of the cards from this one on are known
abbrev pub invariant-loop-at : goal.invariant-loop-at
invariant-loop-at g l =
    let s = g.W.Wiring.shape l.wiring in
    (l.at ≤ s.cards) × (length l.sizes ≡ 31) × ((c : ℕ) → l.at ≤ c → get_or l.sizes c 0 ≡ subtree_size s c)

abbrev pub decreases-loop-at : goal.decreases-loop-at
decreases-loop-at g l = l.at
