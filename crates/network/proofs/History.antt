-- What can happen to the network, the history that a list of events leads to, and what is to be shown of it.
use Rattle.std.proofs.Common.{◌≡◌, ℕ, ◌+◌, ◌*◌, ◌<◌, Bool, true, false, cond, not, ◌&&◌, eqb, ltb, ◌⊎◌, List, [], ◌∷◌, ◌++◌, length, Some, None, Ok, Err, Option, Result}
use mathlib.Core.Logic.{ite}
use native.Mathlib.Decide.{ℕ_discrete}
use Rattle.refusal.specs.declared.drive.FireFault.{FireFault}
use Rattle.refusal.specs.declared.drive.FireFault.TheVariants.{InboxFull}
use Rattle.refusal.specs.declared.send.PacketFault.{PacketFault}
use Rattle.packet.specs.Packets.{is_head_word, is_tail_word}
use Rattle.wiring.specs.Shapes.{Shape}
use Rattle.licence.specs.declared.verdict.Verdict.{Verdict}
use Rattle.licence.specs.declared.verdict.Verdict.TheVariants.{Class, Refuse}
use Rattle.station.specs.Plans.{Verdicts, accepted}
use Rattle.station.specs.declared.channel.Channel.{Channel}
use Rattle.station.specs.declared.channel.Channel.TheVariants.{Queued}
use Rattle.network.specs.Nodes.{Node, down, number, up}
use Rattle.network.specs.Sends.{Way, send_way}
use Rattle.network.specs.Sums.{same_words, sum_over}
use Rattle.network.proofs.Channels.{Rooted, channel_discrete, node_discrete}
use Rattle.network.proofs.Flow.{Flow, fired, load, refusal}
use Rattle.network.proofs.UnderWay.{along, delivers, mark, put, rest, waiting}
use Rattle.network.proofs.Trip.{Trip, reached, trip_hops, way}

pub data Event : Type 0 where
  queueing : ℕ → List ℕ → Event
  moving : Channel → Event
  taking : ℕ → Event
  resting : Event

-- bodies and then a tail
unfoldable pub ends : List ℕ → Bool
ends [] = false
ends (w ∷ []) = is_tail_word w && not (is_head_word w)
ends (w ∷ v ∷ ws) = not (is_tail_word w) && not (is_head_word w) && ends (v ∷ ws)

unfoldable pub is_packet : List ℕ → Bool
is_packet [] = false
is_packet (h ∷ ws) = is_head_word h && not (is_tail_word h) && ends ws

unfoldable pub is_granted : Result Way PacketFault → Bool
is_granted (Ok w) = true
is_granted (Err f) = false

unfoldable pub sendable : Shape → Flow → ℕ → List ℕ → Bool
sendable W x c p = is_granted (send_way W (length (x.chan (Queued c))) c p)

pub record History : Type 0 where
  pub flow : Flow
  pub sent : List (ℕ × List ℕ)
  pub fires : ℕ

abbrev pub none_yet : History
none_yet =
    record {
      flow = record { chan = λ o. []; passed = λ o. []; source = λ s. None; inbox = λ c. []; taken = λ c. [] };
      sent = [];
      fires = 0;
    }

unfoldable pub queued : Flow → ℕ → List ℕ → Flow
queued x c p =
    record {
      chan = put channel_discrete x.chan (Queued c) (x.chan (Queued c) ++ p);
      passed = x.passed;
      source = x.source;
      inbox = x.inbox;
      taken = x.taken;
    }

unfoldable pub took_by : Flow → ℕ → List ℕ → Flow
took_by x c [] = x
took_by x c (w ∷ ws) =
    record {
      chan = x.chan;
      passed = x.passed;
      source = x.source;
      inbox = put ℕ_discrete x.inbox c ws;
      taken = put ℕ_discrete x.taken c (x.taken c ++ (w ∷ []));
    }

unfoldable pub is_none : Option FireFault → Bool
is_none None = true
is_none (Some r) = false

unfoldable pub step_send : History → ℕ → List ℕ → Bool → History
step_send h c p true = record { flow = queued h.flow c p; sent = h.sent ++ ((c, p) ∷ []); fires = h.fires }
step_send h c p false = h

unfoldable pub step_fire : Shape → Verdicts → History → Channel → Bool → History
step_fire W P h i true = record { flow = fired W P h.flow i; sent = h.sent; fires = h.fires + 1 }
step_fire W P h i false = h

unfoldable pub happens : Shape → Verdicts → Event → History → History
happens W P (queueing c p) h = step_send h c p (sendable W h.flow c p)
happens W P (moving i) h = step_fire W P h i (ltb (number i) W.cards && is_none (refusal W P h.flow i))
happens W P (taking c) h = record { flow = took_by h.flow c (h.flow.inbox c); sent = h.sent; fires = h.fires }
happens W P resting h = h

-- the calls of the list, the last first
unfoldable pub past : Shape → Verdicts → List Event → History
past W P [] = none_yet
past W P (k ∷ ks) = happens W P k (past W P ks)

abbrev pub one : Node → List ℕ → ℕ
one s q = 1

-- the stations that the words of a packet pass from card c on
unfoldable pub hops : (Node → List ℕ → ℕ) → Shape → ℕ × List ℕ → ℕ
hops f W m = waiting f W (2 * W.cards) (up m.0) [] m.1

-- hops owed are the hops of all packets queued, less one for each granted fire
abbrev pub HistoryHops : Type 0
HistoryHops =
    (W : Shape) → Rooted W → (P : Verdicts) (ks : List Event) →
    load one W (past W P ks).flow + (past W P ks).fires ≡ sum_over (past W P ks).sent (hops one W)

abbrev pub HistoryPathHops : Type 0
HistoryPathHops =
    (W : Shape) → Rooted W → (P : Verdicts) (ks : List Event) →
    load one W (past W P ks).flow + (past W P ks).fires ≡ sum_over (past W P ks).sent (trip_hops W)

abbrev pub HistoryProgress : Type 0
HistoryProgress =
    (W : Shape) → Rooted W → (P : Verdicts) (ks : List Event) → 0 < load one W (past W P ks).flow →
    (i : Channel) × (number i < W.cards) × ((refusal W P (past W P ks).flow i ≡ None) ⊎ (refusal W P (past W P ks).flow i ≡ Some InboxFull))

-- the words that a card gets of a packet whose words ws pass station s after q
unfoldable pub arrival : Verdicts → Node → List ℕ → List ℕ → List ℕ
arrival P s q [] = []
arrival P s q (w ∷ ws) = delivers P s q w ++ arrival P s (q ++ (w ∷ [])) ws

unfoldable pub last_tail : List ℕ → Bool
last_tail [] = false
last_tail (w ∷ []) = is_tail_word w
last_tail (w ∷ v ∷ ws) = last_tail (v ∷ ws)

-- 1 for the whole arrival l, else 0
unfoldable pub whole_as : List ℕ → List ℕ → ℕ
whole_as l q = cond (last_tail q && same_words q l) 1 0

-- 1 where the word that ends q makes the arrival l at card d complete
unfoldable pub arrives : Verdicts → ℕ → List ℕ → Node → List ℕ → ℕ
arrives P d l s q = ite (node_discrete s (down d)) (whole_as l (arrival P s [] q)) 0

abbrev pub words : Flow → ℕ → List ℕ
words x d = x.taken d ++ x.inbox d

-- once nothing is owed, a card's words are whole arrivals, each as often as packets were sent that arrive there as it
abbrev pub HistoryDelivery : Type 0
HistoryDelivery =
    (W : Shape) → Rooted W → (P : Verdicts) (ks : List Event) → load one W (past W P ks).flow ≡ 0 → (d : ℕ) →
    (rest [] (words (past W P ks).flow d) ≡ []) ×
    ((l : List ℕ) → along (whole_as l) [] (words (past W P ks).flow d) ≡ sum_over (past W P ks).sent (hops (arrives P d l) W))

-- the words with which a packet of head h and later words ws arrives at card d; none if it is not accepted
unfoldable pub with_class : ℕ → List ℕ → Verdict → List ℕ
with_class k ws Refuse = []
with_class k ws (Class v) = mark k (Class v) ++ ws

unfoldable pub as_arrived : Verdicts → ℕ → ℕ → List ℕ → List ℕ
as_arrived P d h [] = []
as_arrived P d h (k ∷ ws) = with_class k ws (accepted P d h k)

unfoldable pub brought_by : Shape → Verdicts → ℕ → List ℕ → List ℕ → Trip → ℕ
brought_by W P d l [] m = 0
brought_by W P d l (h ∷ ws) None = 0
brought_by W P d l (h ∷ ws) (Some (n, t)) = sum_over (reached W h t) (λ e. cond (eqb e d) (whole_as l (as_arrived P d h ws)) 0)

-- how often a packet sent from a card reaches card d, is accepted there and arrives as l
unfoldable pub brought : Shape → Verdicts → ℕ → List ℕ → ℕ × List ℕ → ℕ
brought W P d l m = brought_by W P d l m.1 (way W m)

abbrev pub HistoryExact : Type 0
HistoryExact =
    (W : Shape) → Rooted W → (P : Verdicts) (ks : List Event) → load one W (past W P ks).flow ≡ 0 → (d : ℕ) →
    (rest [] (words (past W P ks).flow d) ≡ []) ×
    ((l : List ℕ) → along (whole_as l) [] (words (past W P ks).flow d) ≡ sum_over (past W P ks).sent (brought W P d l))
