use Rattle.std.proofs.Common.{◌≡◌, ℕ, ◌≤◌, get_or, length}
use Rattle.routing.specs.Places.{nowhere, place_of}
use Rattle.routing.proofs.measured.places.Given as goal

-- the cards from this one on are in their places
abbrev pub invariant-loop-card : goal.invariant-loop-card
invariant-loop-card g l =
    let s = g.W.Wiring.shape l.wiring in
    (l.card ≤ s.cards) × (length l.places ≡ 31) × ((c : ℕ) → l.card ≤ c → get_or l.places c nowhere ≡ place_of s c)

abbrev pub decreases-loop-card : goal.decreases-loop-card
decreases-loop-card g l = l.card
