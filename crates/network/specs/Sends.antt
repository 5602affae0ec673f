-- A send: what it checks, from the lowest number up, and what it queues.
use Rattle.std.specs.Prelude.{ℕ, ◌+◌, cond, List, ◌++◌, length, Ok, Err, Result, nat_le, nat_lt}
use Rattle.refusal.specs.declared.send.RouteFault.{RouteFault}
use Rattle.refusal.specs.declared.send.PacketFault.{PacketFault}
use Rattle.refusal.specs.declared.send.PacketFault.TheVariants.{NoSender, Route, QueueFull}
use Rattle.packet.specs.declared.heads.Mode.{Mode}
use Rattle.packet.specs.Packets.{Header, check_packet}
use Rattle.wiring.specs.Shapes.{Shape}
use Rattle.routing.specs.declared.walks.Walk.{Walk}
use Rattle.routing.specs.Walks.{walk_of}
use Rattle.network.specs.Cards.{State, queue_room, card_at, on_card, with_queue}

-- the way of a packet: its mode, and where its route leads
pub record Way : Type 0 where
  pub mode : Mode
  pub walk : Walk

abbrev pub way_by : Mode → Result Walk RouteFault → Result Way PacketFault
way_by m (Err f) = Err (Route f)
way_by m (Ok w) = Ok (record { mode = m; walk = w })

-- the packet's own faults come first, then its route's
abbrev pub way_for : Shape → ℕ → Result Header PacketFault → Result Way PacketFault
way_for s c (Err f) = Err f
way_for s c (Ok h) = way_by h.mode (walk_of s c h.route)

-- the queue would have n words
abbrev pub room_by : ℕ → Result Way PacketFault → Result Way PacketFault
room_by n (Err f) = Err f
room_by n (Ok w) = cond (nat_le n queue_room) (Ok w) (Err QueueFull)

-- the way of a packet sent from card c, where so many words wait in the queue; or why it is refused
abbrev pub send_way : Shape → ℕ → ℕ → List ℕ → Result Way PacketFault
send_way s waiting c p = cond (nat_lt c s.cards) (room_by (waiting + length p) (way_for s c (check_packet p))) (Err NoSender)

abbrev pub sent_answer : Result Way PacketFault → Result (Unit {0}) PacketFault
sent_answer (Ok w) = Ok tt
sent_answer (Err f) = Err f

-- all words of the packet behind those that wait, or nothing
abbrev pub sent_state : State → ℕ → List ℕ → Result Way PacketFault → State
sent_state x c p (Ok w) = on_card x c (with_queue ((card_at x c).queue ++ p))
sent_state x c p (Err f) = x

pub record Sent : Type 0 where
  pub answer : Result (Unit {0}) PacketFault
  pub next : State

abbrev pub sent_by : State → ℕ → List ℕ → Result Way PacketFault → Sent
sent_by x c p r = record { answer = sent_answer r; next = sent_state x c p r }

-- send: the packet p from card c
abbrev pub send_step : Shape → State → ℕ → List ℕ → Sent
send_step s x c p = sent_by x c p (send_way s (length (card_at x c).queue) c p)
