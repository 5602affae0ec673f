-- What holds of every tree besides the three laws: refusals change nothing, hops owed are counted call by call, waiting words fit,
-- and nothing grows beyond its bound.
use Rattle.std.specs.Prelude.{◌≡◌, ℕ, ◌+◌, ◌*◌, ◌^◌, ◌<◌, ◌≤◌, true, false, ◌≢◌, List, length, Some, None, Ok, Err, Option}
use Rattle.refusal.specs.declared.drive.FireFault.{FireFault}
use Rattle.refusal.specs.declared.drive.FireFault.TheVariants.{NothingWaits}
use Rattle.refusal.specs.declared.drive.TakeFault.{TakeFault}
use Rattle.refusal.specs.declared.send.PacketFault.{PacketFault}
use Rattle.packet.specs.Packets.{is_head_word}
use Rattle.wiring.specs.Shapes.{Shape, Lawful, most_cards}
use Rattle.station.specs.declared.hold.Station.{Station}
use Rattle.station.specs.declared.hold.Input.{Input}
use Rattle.station.specs.declared.hold.Hold.{Hold}
use Rattle.station.specs.declared.hold.Hold.TheVariants.{Free, Held, Dropping, Accepting}
use Rattle.station.specs.declared.channel.Channel.{Channel}
use Rattle.station.specs.Plans.{Verdicts}
use Rattle.network.specs.Cards.{State, queue_room, inbox_room, card_at}
use Rattle.network.specs.Nodes.{node_of, input_of}
use Rattle.network.specs.Sends.{send_step}
use Rattle.network.specs.Fires.{waiting_at, hold_at, fire_step}
use Rattle.network.specs.Takes.{take_step}
use Rattle.network.specs.Owed.{hops_owed}
use Rattle.network.specs.Arrivals.{hops_of}
use Rattle.network.specs.Runs.{Call, run}

-- a refused call leaves the tree as it was, whatever the tree
pub record RefusedSame : Type 0 where
  pub send : (s : Shape) (x : State) (c : ℕ) (p : List ℕ) (f : PacketFault) → (send_step s x c p).answer ≡ Err f → (send_step s x c p).next ≡ x
  pub fire : (s : Shape) (v : Verdicts) (x : State) (c : ℕ) (t : Station) (i : Input) (f : FireFault) → (fire_step s v x c t i).answer ≡ Err f → (fire_step s v x c t i).next ≡ x
  pub take : (s : Shape) (x : State) (c : ℕ) (f : TakeFault) → (take_step s x c).answer ≡ Err f → (take_step s x c).next ≡ x

-- how the next call on the tree x changes the hops owed: a granted fire lowers them by one, a granted send raises them by the packet's path
-- hops, a take leaves them, granted or not
pub record Counts (s : Shape) (v : Verdicts) (x : State) : Type 0 where
  pub fire : (c : ℕ) (t : Station) (i : Input) (n : ℕ) → (fire_step s v x c t i).answer ≡ Ok n → hops_owed s (fire_step s v x c t i).next + 1 ≡ hops_owed s x
  pub send : (c : ℕ) (p : List ℕ) → (send_step s x c p).answer ≡ Ok tt → hops_owed s (send_step s x c p).next ≡ hops_owed s x + hops_of s (c, p)
  pub take : (c : ℕ) → hops_owed s (take_step s x c).next ≡ hops_owed s x

-- for every lawful wiring, every policy and every list of calls
abbrev pub CountsLaw : Type 0
CountsLaw = (s : Shape) → Lawful s → (v : Verdicts) (ks : List Call) → Counts s v (run s v ks).tree

-- the input for which a station is held; none if it is free
abbrev pub held_for : Hold Input → Option Input
held_for Free = None
held_for (Held i h) = Some i
held_for (Dropping i h) = Some i
held_for (Accepting i h) = Some i

-- the word w waits at the input i of the station t of card c
pub record Before (s : Shape) (x : State) (c : ℕ) (t : Station) (i : Input) (w : ℕ) : Type 0 where
  pub there : c < s.cards
  pub channel : Channel
  pub from : input_of s (node_of c t) i ≡ Some channel
  pub oldest : waiting_at x channel ≡ Some w

-- no body or tail waits before a free station, no head waits at the input for which a station is held, and where a word waits no fire is
-- refused for want of one
pub record Orderly (s : Shape) (v : Verdicts) (x : State) : Type 0 where
  pub free : (c : ℕ) (t : Station) (i : Input) (w : ℕ) → Before s x c t i w → hold_at x c t ≡ Free → is_head_word w ≡ true
  pub held : (c : ℕ) (t : Station) (i : Input) (w : ℕ) → Before s x c t i w → held_for (hold_at x c t) ≡ Some i → is_head_word w ≡ false
  pub waits : (c : ℕ) (t : Station) (i : Input) (w : ℕ) → Before s x c t i w → (fire_step s v x c t i).answer ≢ Err NothingWaits

-- for every lawful wiring, every policy and every list of calls
abbrev pub OrderlyLaw : Type 0
OrderlyLaw = (s : Shape) → Lawful s → (v : Verdicts) (ks : List Call) → Orderly s v (run s v ks).tree

-- the most hops that can be owed: for each card the words of a full queue and of three links, for each word two stations of each card
abbrev pub most_owed : ℕ
most_owed = most_cards * (queue_room + 3) * (2 * most_cards)

-- hops owed, queues and inboxes keep to their bounds
pub record Bounded (s : Shape) (x : State) : Type 0 where
  pub owed : hops_owed s x ≤ most_owed
  pub queues : (c : ℕ) → length (card_at x c).queue ≤ queue_room
  pub inboxes : (c : ℕ) → length (card_at x c).inbox ≤ inbox_room

-- the bound fits in 32 bits, and it holds for every lawful wiring, every policy and every list of calls
pub record Bounds : Type 0 where
  pub fits : most_owed < 2 ^ 32
  pub holds : (s : Shape) → Lawful s → (v : Verdicts) (ks : List Call) → Bounded s (run s v ks).tree
