-- What a route order asks for: the head of a packet from a sender to a list of cards.
use Rattle.std.specs.Prelude.{◌≡◌, ℕ, ◌+◌, ◌<◌, Bool, true, false, cond, List, [], ◌∷◌, length, Some, None, Ok, Err, Option, Result, nat_eq, nat_lt}
use Rattle.std.specs.List.{list_all}
use Rattle.refusal.specs.declared.order.OrderFault.{OrderFault}
use Rattle.refusal.specs.declared.order.OrderFault.TheVariants.{Unknown, NoneListed, TooLong}
use Rattle.packet.specs.declared.sides.Side.{Side}
use Rattle.packet.specs.declared.heads.Head.{Head}
use Rattle.packet.specs.declared.heads.Mode.{Mode}
use Rattle.packet.specs.declared.heads.Mode.TheVariants.{Target, Flood}
use Rattle.packet.specs.Routes.{Leads, route_in, route_room}
use Rattle.packet.specs.Heads.{head_word}
use Rattle.routing.specs.declared.walks.Walk.{Walk}
use Rattle.wiring.specs.Shapes.{Shape}
use Rattle.routing.specs.Walks.{climb, descend, walk_of}
use Rattle.routing.specs.Subtrees.{covers, covers_all}

-- these numbers are cards
abbrev pub all_there : Shape → List ℕ → Bool
all_there s cs = list_all (λ c. nat_lt c s.cards) cs

-- one distinct card makes a targeted packet, more make it flood
abbrev pub mode_for : List ℕ → Mode
mode_for [] = Target
mode_for (c ∷ cs) = cond (list_all (nat_eq c) cs) Target Flood

-- t is the card farthest from card 0 whose subtree has all these cards: it has them, and every card whose subtree has them is t or
-- stands above it
pub record Lowest (s : Shape) (cs : List ℕ) (t : ℕ) : Type 0 where
  pub has : covers_all s t cs ≡ true
  pub above : (u : ℕ) → covers_all s u cs ≡ true → covers s u t ≡ true

-- the lowest card over all of these, or none where no card's subtree has them all
abbrev pub LowestOf : Shape → List ℕ → Option ℕ → Type 0
LowestOf s cs (Some t) = Lowest s cs t
LowestOf s cs None = (u : ℕ) → covers_all s u cs ≡ false

-- a way from a sender to a terminus: up to the lowest card over both, and down
pub record Journey (s : Shape) (sender terminus ups : ℕ) (sides : List Side) : Type 0 where
  pub turn : ℕ
  pub turns : Lowest s (sender ∷ terminus ∷ []) turn
  pub climbs : climb s ups sender ≡ Some turn
  pub descends : descend s sides turn ≡ Ok terminus

-- the head h leads from the sender to the terminus in this mode: read from the sender, its route ends there, and turns at the lowest card
-- over both
pub record LeadsTo (s : Shape) (sender terminus : ℕ) (m : Mode) (h : ℕ) : Type 0 where
  pub walk : Walk
  pub leads : walk_of s sender (route_in h) ≡ Ok walk
  pub ends : walk.terminus ≡ terminus
  pub turns : Lowest s (sender ∷ terminus ∷ []) walk.turn
  pub head : h ≡ head_word m (route_in h)

-- the way to the terminus has more ups and descents than a route has room for
pub record TooFar (s : Shape) (sender terminus : ℕ) : Type 0 where
  pub ups : ℕ
  pub sides : List Side
  pub way : Journey s sender terminus ups sides
  pub far : route_room < ups + length sides

-- the head h serves the order: it leads to the lowest card over all cards listed
pub record Serves (s : Shape) (sender : ℕ) (cs : List ℕ) (h : ℕ) : Type 0 where
  pub terminus : ℕ
  pub lowest : Lowest s cs terminus
  pub leads : LeadsTo s sender terminus (mode_for cs) h

-- no head can serve the order: the lowest card over all cards listed is too far
pub record Unserved (s : Shape) (sender : ℕ) (cs : List ℕ) : Type 0 where
  pub terminus : ℕ
  pub lowest : Lowest s cs terminus
  pub far : TooFar s sender terminus

-- the answer to an order: a head that serves it, or the refusal whose condition holds
abbrev pub Ordered : Shape → ℕ → List ℕ → Result ℕ OrderFault → Type 0
Ordered s c cs (Ok h) = (all_there s (c ∷ cs) ≡ true) × Serves s c cs h
Ordered s c cs (Err Unknown) = all_there s (c ∷ cs) ≡ false
Ordered s c cs (Err NoneListed) = (all_there s (c ∷ cs) ≡ true) × (cs ≡ [])
Ordered s c cs (Err TooLong) = (all_there s (c ∷ cs) ≡ true) × Unserved s c cs

abbrev pub head_told : Result Head OrderFault → Result ℕ OrderFault
head_told (Ok h) = Ok (head_word h.mode h.route.bits)
head_told (Err f) = Err f

-- the steps of the maker: a way down, a course, a head, or that a route has no room for it
abbrev pub WayDown : Shape → ℕ → ℕ → Option (List Side) → Type 0
WayDown s u t (Some ss) = descend s ss u ≡ Ok t
WayDown s u t None = (ss : List Side) × (descend s ss u ≡ Ok t) × (route_room < length ss)

abbrev pub CourseTo : Shape → ℕ → ℕ → Option Leads → Type 0
CourseTo s c t (Some l) = Journey s c t l.ups l.descents
CourseTo s c t None = TooFar s c t

abbrev pub HeadTo : Shape → ℕ → ℕ → Mode → Option ℕ → Type 0
HeadTo s c t m (Some h) = LeadsTo s c t m h
HeadTo s c t m None = TooFar s c t

abbrev pub head_in : Option Head → Option ℕ
head_in None = None
head_in (Some h) = Some (head_word h.mode h.route.bits)
