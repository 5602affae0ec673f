-- The path of a sent packet: the stations that its words pass, and how its head comes to each.
use Rattle.std.specs.Prelude.{◌≡◌, ℕ, ◌<◌, true, false, ◌≢◌, ◌⊎◌, List, [], ◌∷◌, length, Some, Ok, slice_index}
use Rattle.packet.specs.declared.sides.Side.{Side}
use Rattle.packet.specs.Routes.{side_of, top_bit, stops, advance}
use Rattle.packet.specs.Heads.{floods}
use Rattle.wiring.specs.Shapes.{Shape, Lawful}
use Rattle.station.specs.declared.hold.Station.{Station}
use Rattle.station.specs.declared.hold.Input.{Input}
use Rattle.station.specs.declared.channel.Channel.{Channel}
use Rattle.station.specs.declared.channel.Channel.TheVariants.{UpLink, TurnLink, DownLink}
use Rattle.station.specs.Plans.{Verdicts}
use Rattle.network.specs.Cards.{State, younger}
use Rattle.network.specs.Nodes.{Node, up, down, node_of, above, target, input_of}
use Rattle.network.specs.Sends.{send_step}
use Rattle.network.specs.Fires.{fire_step, waiting_at}
use Rattle.network.specs.Owed.{reads}
use Rattle.network.specs.Arrivals.{Parcel, reaches}
use Rattle.network.specs.Runs.{Call, Run, run}

-- a packet that comes to a station with head g goes on into this channel: up to the card above, or over to the card's own down station; down to
-- the side that the head names; where the route ends and the packet floods, down to both sides
pub data Step (s : Shape) : Node → ℕ → Channel → Type 0 where
  climbs : (d p g : ℕ) → top_bit g ≡ true → above s d ≡ Some p → Step s (up d) g (UpLink d)
  turns : (d g : ℕ) → top_bit g ≡ false → Step s (up d) g (TurnLink d)
  descends : (d e g : ℕ) → stops g ≡ false → s.daughter (side_of (top_bit g)) d ≡ Some e → Step s (down d) g (DownLink e)
  spreads : (b : Side) (d e g : ℕ) → stops g ≡ true → floods g ≡ true → s.daughter b d ≡ Some e → Step s (down d) g (DownLink e)

-- a packet sent from card c with head h passes this station, and its head comes there as g
pub data Passes (s : Shape) (c h : ℕ) : Node → ℕ → Type 0 where
  begins : Passes s c h (up c) h
  goes : (n : Node) (g : ℕ) (o : Channel) → Passes s c h n g → Step s n g o → Passes s c h (target s o) (advance g)

-- word number j of a packet whose head comes as g and whose later words are ws
abbrev pub as_comes : ℕ → List ℕ → ℕ → ℕ
as_comes g ws j = slice_index (g ∷ ws) j

-- the parcel stands in the list
abbrev pub Among : Parcel → List Parcel → Type 0
Among m [] = ⊥
Among m (k ∷ ks) = (m ≡ k) ⊎ Among m ks

-- the fire at card c, station t, input i moves one word of a sent packet one station on along the packet's path
pub record OneOn (s : Shape) (v : Verdicts) (r : Run) (c : ℕ) (t : Station) (i : Input) : Type 0 where
  -- the packet: the card that sent it, its head there, its later words
  pub from : ℕ
  pub head : ℕ
  pub later : List ℕ
  pub sent : Among (from, head ∷ later) r.sends
  -- it passes this station, and its head comes here as this
  pub comes : ℕ
  pub passes : Passes s from head (node_of c t) comes
  -- the word: its place in the packet
  pub place : ℕ
  pub within : place < length (head ∷ later)
  -- it waits at the input
  pub channel : Channel
  pub input : input_of s (node_of c t) i ≡ Some channel
  pub before : waiting_at r.tree channel ≡ Some (as_comes comes later place)
  -- after the fire it has left that channel, and waits before every next station of the path; no other channel has changed
  pub gone : reads (fire_step s v r.tree c t i).next channel ≡ younger (reads r.tree channel)
  pub onward : (o : Channel) → Step s (node_of c t) comes o → waiting_at (fire_step s v r.tree c t i).next o ≡ Some (as_comes (advance comes) later place)
  pub others : (o : Channel) → o ≢ channel → (Step s (node_of c t) comes o → ⊥) → reads (fire_step s v r.tree c t i).next o ≡ reads r.tree o

-- for every lawful wiring, every policy and every list of calls: a granted fire moves one word one station on
abbrev pub FiresMoveOn : Type 0
FiresMoveOn =
    (s : Shape) → Lawful s → (v : Verdicts) (ks : List Call) (c : ℕ) (t : Station) (i : Input) (n : ℕ) →
    (fire_step s v (run s v ks).tree c t i).answer ≡ Ok n → OneOn s v (run s v ks) c t i

-- a packet sent from card c with head h passes the down station of card d, and there its route is at an end
abbrev pub EndsAt : Shape → ℕ → ℕ → ℕ → Type 0
EndsAt s c h d = (g : ℕ) × Passes s c h (down d) g × (stops g ≡ true)

-- the cards that a sent packet reaches are those where its path has the route at an end
abbrev pub PathReaches : Type 0
PathReaches =
    (s : Shape) → Lawful s → (x : State) (c h : ℕ) (ws : List ℕ) → (send_step s x c (h ∷ ws)).answer ≡ Ok tt → (d : ℕ) →
    (reaches s c h d ≡ true → EndsAt s c h d) × (EndsAt s c h d → reaches s c h d ≡ true)
