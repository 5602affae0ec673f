-- Where a route leads, and which cards its packet reaches.
use Rattle.std.proofs.Common.{ℕ, zero, suc, ◌+◌, ◌*◌, Bool, true, false, cond, List, [], ◌∷◌, ◌++◌, length, Some, None, Option}
use Rattle.packet.specs.Heads.{floods}
use Rattle.packet.specs.Routes.{advance, side_of, stops, top_bit}
use Rattle.packet.specs.declared.sides.Side.TheVariants.{Left, Right}
use Rattle.wiring.specs.Shapes.{Shape}
use Rattle.network.specs.Nodes.{Node, above, down, up}

-- the cards of a card's subtree, itself the first
unfoldable pub over : (ℕ → List ℕ) → Option ℕ → List ℕ
over f None = []
over f (Some d) = f d

unfoldable pub subtree : Shape → ℕ → ℕ → List ℕ
subtree W zero c = []
subtree W (suc k) c = c ∷ (over (subtree W k) (W.daughter Left c) ++ over (subtree W k) (W.daughter Right c))

-- the stations before the terminus's down station, and the terminus
abbrev pub Trip : Type 0
Trip = Option (ℕ × ℕ)

unfoldable pub further : Trip → Trip
further None = None
further (Some (n, t)) = Some (suc n, t)

unfoldable pub go_on : (ℕ → Trip) → Option ℕ → Trip
go_on f None = None
go_on f (Some d) = further (f d)

-- the way of a packet with head h from station s on; none if it needs an absent card
unfoldable pub trip : Shape → ℕ → Node → ℕ → Trip
trip W zero s h = None
trip W (suc k) (up c) h =
    cond (top_bit h) (go_on (λ p. trip W k (up p) (advance h)) (above W c)) (further (trip W k (down c) (advance h)))
trip W (suc k) (down c) h =
    cond (stops h) (Some (0, c)) (go_on (λ d. trip W k (down d) (advance h)) (W.daughter (side_of (top_bit h)) c))

-- the cards that a packet reaches
unfoldable pub reached : Shape → ℕ → ℕ → List ℕ
reached W h t = cond (floods h) (subtree W W.cards t) (t ∷ [])

-- the way of a whole packet from card c
unfoldable pub way : Shape → ℕ × List ℕ → Trip
way W (c, []) = None
way W (c, h ∷ ws) = trip W (2 * W.cards) (up c) h

unfoldable pub is_way : Trip → Bool
is_way None = false
is_way (Some m) = true

unfoldable pub trip_hops_by : Shape → List ℕ → Trip → ℕ
trip_hops_by W [] m = 0
trip_hops_by W (h ∷ ws) None = 0
trip_hops_by W (h ∷ ws) (Some (n, t)) = length (h ∷ ws) * (n + length (reached W h t))

-- the path hops of a packet sent from a card: its words times the stations up to the terminus and the cards reached
unfoldable pub trip_hops : Shape → ℕ × List ℕ → ℕ
trip_hops W m = trip_hops_by W m.1 (way W m)
