-- The network that a wiring makes: stations, and channels between them.
use Rattle.std.specs.Prelude.{ℕ, Bool, cond, ◌&&◌, List, [], ◌∷◌, ◌++◌, Some, None, Option, ◌==◌}
use Rattle.packet.specs.declared.sides.Side.TheVariants.{Left, Right}
use Rattle.packet.specs.Routes.{side_of, top_bit, stops}
use Rattle.packet.specs.Heads.{floods}
use Rattle.wiring.specs.Shapes.{Shape}
use Rattle.routing.specs.Walks.{from_parent}
use Rattle.station.specs.declared.hold.Station.{Station}
use Rattle.station.specs.declared.hold.Station.TheVariants.{Up, Down}
use Rattle.station.specs.declared.hold.Input.{Input}
use Rattle.station.specs.declared.hold.Input.TheVariants.{Left as FromLeft, Right as FromRight, Queue, Parent, Turn}
use Rattle.station.specs.declared.channel.Channel.{Channel}
use Rattle.station.specs.declared.channel.Channel.TheVariants.{Queued, UpLink, TurnLink, DownLink}

-- the up station and the down station of a card
pub data Node : Type 0 where
  up down : ℕ → Node
  deriving Discrete as node-discrete'

abbrev pub node_of : ℕ → Station → Node
node_of c Up = up c
node_of c Down = down c

unfoldable pub station_of : Node → Station
station_of (up c) = Up
station_of (down c) = Down

-- the card of a station
unfoldable pub card_of : Node → ℕ
card_of (up c) = c
card_of (down c) = c

-- the card of a channel
unfoldable pub number : Channel → ℕ
number (Queued c) = c
number (UpLink c) = c
number (TurnLink c) = c
number (DownLink c) = c

-- the four channels of a card, numbered
unfoldable pub tag : Channel → ℕ
tag (Queued c) = 0
tag (UpLink c) = 1
tag (TurnLink c) = 2
tag (DownLink c) = 3

-- the same kind of channel, of the same card
unfoldable pub same_channel : Channel → Channel → Bool
same_channel o p = tag o == tag p && number o == number p

-- the card above card c
unfoldable pub above : Shape → ℕ → Option ℕ
above s c = from_parent Some (s.parent c)

unfoldable pub card_or_zero : Option ℕ → ℕ
card_or_zero None = 0
card_or_zero (Some p) = p

-- the station that a channel leads to: the queue to the card's up station, the up link to the parent's, the turn link and the down link to
-- the card's down station
unfoldable pub target : Shape → Channel → Node
target s (Queued c) = up c
target s (UpLink c) = up (card_or_zero (above s c))
target s (TurnLink c) = down c
target s (DownLink c) = down c

unfoldable pub up_link_of : ℕ → Option ℕ → List Channel
up_link_of c None = []
up_link_of c (Some p) = UpLink c ∷ []

unfoldable pub down_link_to : Option ℕ → List Channel
down_link_to None = []
down_link_to (Some d) = DownLink d ∷ []

-- the channels into which a station sends a packet, by its head as it came there
unfoldable pub outs : Shape → Node → ℕ → List Channel
outs s (up c) h = cond (top_bit h) (up_link_of c (above s c)) (TurnLink c ∷ [])
outs s (down c) h =
    cond (stops h)
    (cond (floods h) (down_link_to (s.daughter Left c) ++ down_link_to (s.daughter Right c)) [])
    (down_link_to (s.daughter (side_of (top_bit h)) c))

unfoldable pub up_link_from : Option ℕ → Option Channel
up_link_from None = None
up_link_from (Some d) = Some (UpLink d)

unfoldable pub down_link_into : ℕ → Option ℕ → Option Channel
down_link_into c None = None
down_link_into c (Some p) = Some (DownLink c)

-- the channel at an input of a station; none if the station has no such input, or it comes from an absent card
unfoldable pub input_of : Shape → Node → Input → Option Channel
input_of s (up c) FromLeft = up_link_from (s.daughter Left c)
input_of s (up c) FromRight = up_link_from (s.daughter Right c)
input_of s (up c) Queue = Some (Queued c)
input_of s (up c) Parent = None
input_of s (up c) Turn = None
input_of s (down c) FromLeft = None
input_of s (down c) FromRight = None
input_of s (down c) Queue = None
input_of s (down c) Parent = down_link_into c (above s c)
input_of s (down c) Turn = Some (TurnLink c)
