-- Worked routes over full trees.
use Rattle.std.specs.Prelude.{◌≡◌, ℕ, List, [], ◌∷◌, Ok, Err}
use Rattle.refusal.specs.declared.send.RouteFault.{RouteFault}
use Rattle.refusal.specs.declared.order.OrderFault.{OrderFault}
use Rattle.refusal.specs.Numbers.{numbered, placed}
use Rattle.refusal.specs.Refusals.{route_refusal, order_refusal}
use Rattle.packet.specs.Routes.{route_in}
use Rattle.packet.specs.Heads.{mode_of}
use Rattle.routing.specs.declared.walks.Walk.{Walk}
use Rattle.wiring.specs.Shapes.{Shape, full_shape, full_cards}
use Rattle.routing.specs.Walks.{walk_of}
use Rattle.routing.specs.Subtrees.{hops_a_word}
use Rattle.routing.specs.Orders.{Ordered}

-- over the full tree of so many levels:
pub data Worked : Type 0 where
  -- the order from a sender to these cards gives this head, and each word has so many hops
  made : ℕ → ℕ → List ℕ → ℕ → ℕ → Worked
  -- the order is refused by this number
  unmade : ℕ → ℕ → List ℕ → ℕ → Worked
  -- the route from a card is refused by this number at this place
  unwalked : ℕ → ℕ → ℕ → ℕ → ℕ → Worked

-- each word of a packet with head h from card c has n hops
pub record HopsAre (s : Shape) (c h n : ℕ) : Type 0 where
  pub walk : Walk
  pub leads : walk_of s c (route_in h) ≡ Ok walk
  pub hops : hops_a_word s (mode_of h) walk ≡ n

abbrev pub full : ℕ → Shape
full l = full_shape (full_cards l)

abbrev pub Holds : Worked → Type 0
Holds (made l c cs h n) = Ordered (full l) c cs (Ok h) × HopsAre (full l) c h n
Holds (unmade l c cs n) = (f : OrderFault) × Ordered (full l) c cs (Err f) × (order_refusal f ≡ numbered n)
Holds (unwalked l c r n p) = (f : RouteFault) × (walk_of (full l) c r ≡ Err f) × (route_refusal f ≡ placed n p)

abbrev pub AllHold : List Worked → Type 0
AllHold [] = Unit {0}
AllHold (w ∷ ws) = Holds w × AllHold ws

-- three levels, and five
abbrev pub worked : List Worked
worked =
    made 3 3 (5 ∷ 6 ∷ []) 0xA00001B0 7
    ∷ made 3 3 (3 ∷ []) 0x80000080 2
    ∷ made 3 3 (4 ∷ []) 0x80000160 4
    ∷ made 3 3 (1 ∷ 4 ∷ []) 0xA0000140 5
    ∷ unwalked 3 3 0x180 9 3
    ∷ unwalked 3 0 0x1A0 10 0
    ∷ unwalked 3 3 0x040 11 3
    ∷ made 5 15 (14 ∷ []) 0x800001EF 9
    ∷ unmade 5 15 (30 ∷ []) 20
    ∷ []
