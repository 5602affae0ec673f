-- Where a route leads from a card: up so many links, then down by its sides.
use Rattle.std.specs.Prelude.{ℕ, zero, suc, List, [], ◌∷◌, length, Some, None, Ok, Err, Option, Result}
use Rattle.refusal.specs.declared.send.RouteFault.{RouteFault}
use Rattle.refusal.specs.declared.send.RouteFault.TheVariants.{EndsGoingUp, AboveRoot, NoDaughter}
use Rattle.packet.specs.declared.sides.Side.{Side}
use Rattle.packet.specs.Routes.{Leads, read_route}
use Rattle.routing.specs.declared.walks.Walk.{Walk}
use Rattle.wiring.specs.Shapes.{Shape}

-- on from the parent, if there is one
abbrev pub from_parent : {A : Type 0} → (ℕ → Option A) → Option (ℕ × Side) → Option A
from_parent f None = None
from_parent f (Some (p, b)) = f p

-- the card so many links above c; none where that is above card 0
unfoldable pub climb : Shape → ℕ → ℕ → Option ℕ
climb s zero c = Some c
climb s (suc a) c = from_parent (climb s a) (s.parent c)

-- on from the daughter, or card c lacks her
abbrev pub from_daughter : ℕ → (ℕ → Result ℕ RouteFault) → Option ℕ → Result ℕ RouteFault
from_daughter c f None = Err (NoDaughter c)
from_daughter c f (Some d) = f d

-- the card that is reached from c down by these sides, or the first card on the way that lacks the daughter
unfoldable pub descend : Shape → List Side → ℕ → Result ℕ RouteFault
descend s [] c = Ok c
descend s (b ∷ bs) c = from_daughter c (descend s bs) (s.daughter b c)

-- a walked route: the card where it turns, its terminus, its ups and its descents
abbrev pub walk_to : ℕ → Leads → Result ℕ RouteFault → Result Walk RouteFault
walk_to u l (Err f) = Err f
walk_to u l (Ok t) = Ok (record { turn = u; terminus = t; ups = l.ups; descents = length l.descents })

abbrev pub walk_from : Shape → Leads → Option ℕ → Result Walk RouteFault
walk_from s l None = Err AboveRoot
walk_from s l (Some u) = walk_to u l (descend s l.descents u)

abbrev pub walk_by : Shape → ℕ → Option Leads → Result Walk RouteFault
walk_by s c None = Err (EndsGoingUp c)
walk_by s c (Some l) = walk_from s l (climb s l.ups c)

-- the walk of a route from card c
abbrev pub walk_of : Shape → ℕ → ℕ → Result Walk RouteFault
walk_of s c r = walk_by s c (read_route r)
