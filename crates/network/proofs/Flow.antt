-- The network with its history: of each channel the words of the packet under way that have passed, of each card the words taken.
use Rattle.std.proofs.Common.{ℕ, ◌*◌, Bool, true, false, cond, not, ◌&&◌, leb, List, [], ◌∷◌, ◌++◌, length, Some, None, Option}
use mathlib.Core.Logic.{ite}
use native.Mathlib.Decide.{ℕ_discrete}
use Rattle.refusal.specs.declared.drive.FireFault.{FireFault}
use Rattle.refusal.specs.declared.drive.FireFault.TheVariants.{HeldByOther, InboxFull, LinkOccupied, NothingWaits}
use Rattle.packet.specs.Packets.{is_head_word, is_tail_word}
use Rattle.wiring.specs.Shapes.{Shape}
use Rattle.station.specs.Plans.{Verdicts}
use Rattle.station.specs.declared.channel.Channel.{Channel}
use Rattle.network.specs.Cards.{inbox_room}
use Rattle.network.specs.Nodes.{Node, card_of, target}
use Rattle.network.specs.Sums.{sum_channels}
use Rattle.network.proofs.Channels.{channel_discrete, node_discrete}
use Rattle.network.proofs.UnderWay.{delivers, leaves, next, outs_of, put, waiting}

pub record Flow : Type 0 where
  pub chan : Channel → List ℕ
  pub passed : Channel → List ℕ
  pub source : Node → Option Channel
  pub inbox : ℕ → List ℕ
  pub taken : ℕ → List ℕ

-- the station is free, or held by this channel
unfoldable pub admits : Option Channel → Channel → Bool
admits None i = true
admits (Some j) i = ite (channel_discrete i j) true false

unfoldable pub is_empty : {A : Type 0} → List A → Bool
is_empty [] = true
is_empty (x ∷ xs) = false

-- all these channels are empty
unfoldable pub all_clear : (Channel → List ℕ) → List Channel → Bool
all_clear f [] = true
all_clear f (o ∷ os) = is_empty (f o) && all_clear f os

unfoldable pub push_all : List Channel → ℕ → (Channel → List ℕ) → Channel → List ℕ
push_all [] w f = f
push_all (o ∷ os) w f = push_all os w (put channel_discrete f o (f o ++ (w ∷ [])))

unfoldable pub holder : Channel → ℕ → Option Channel
holder i w = cond (is_tail_word w) None (Some i)

-- a head begins a packet, and nothing else does
unfoldable pub fits : List ℕ → ℕ → Bool
fits [] w = is_head_word w
fits (h ∷ q) w = not (is_head_word w)

unfoldable pub shape : List ℕ → List ℕ → Bool
shape q [] = true
shape q (w ∷ ws) = fits q w && shape (next q w) ws

-- what refuses the word w at the station s, from the channel i, after the words q
unfoldable pub refusal_at : Shape → Verdicts → Flow → Channel → Node → List ℕ → ℕ → Option FireFault
refusal_at W P x i s q w =
    cond
    (not (fits q w))
    (Some NothingWaits)
    (cond
    (not (admits (x.source s) i))
    (Some HeldByOther)
    (cond
    (not (all_clear x.chan (outs_of W s (q ++ (w ∷ [])))))
    (Some LinkOccupied)
    (cond (not (is_empty (delivers P s q w)) && leb inbox_room (length (x.inbox (card_of s)))) (Some InboxFull) None)))

unfoldable pub refusal_by : Shape → Verdicts → Flow → Channel → List ℕ → Option FireFault
refusal_by W P x i [] = Some NothingWaits
refusal_by W P x i (w ∷ ws) = refusal_at W P x i (target W i) (x.passed i) w

unfoldable pub refusal : Shape → Verdicts → Flow → Channel → Option FireFault
refusal W P x i = refusal_by W P x i (x.chan i)

-- the network once the word w, the first of w ∷ ws in the channel i, has passed the station s after the words q
unfoldable pub pass : Shape → Verdicts → Flow → Channel → Node → List ℕ → ℕ → List ℕ → Flow
pass W P x i s q w ws =
    record {
      chan = push_all (outs_of W s (q ++ (w ∷ []))) (leaves q w) (put channel_discrete x.chan i ws);
      passed = put channel_discrete x.passed i (next q w);
      source = put node_discrete x.source s (holder i w);
      inbox = put ℕ_discrete x.inbox (card_of s) (x.inbox (card_of s) ++ delivers P s q w);
      taken = x.taken;
    }

unfoldable pub fired_by : Shape → Verdicts → Flow → Channel → List ℕ → Option FireFault → Flow
fired_by W P x i [] r = x
fired_by W P x i (w ∷ ws) None = pass W P x i (target W i) (x.passed i) w ws
fired_by W P x i (w ∷ ws) (Some r) = x

unfoldable pub fired : Shape → Verdicts → Flow → Channel → Flow
fired W P x i = fired_by W P x i (x.chan i) (refusal W P x i)

-- the sum of f over all stations that words in channels still have to pass
unfoldable pub load : (Node → List ℕ → ℕ) → Shape → Flow → ℕ
load f W x = sum_channels W.cards (λ o. waiting f W (2 * W.cards) (target W o) (x.passed o) (x.chan o))
