-- Hops owed: the stations that the words in queues and links still have to pass, each copy counted, also one not yet made.
use Rattle.std.specs.Prelude.{ℕ, zero, suc, ◌+◌, ◌*◌, Bool, false, cond, List, [], ◌∷◌, Some, None, Option}
use Rattle.packet.specs.Packets.{is_head_word}
use Rattle.packet.specs.Routes.{advance}
use Rattle.wiring.specs.Shapes.{Shape}
use Rattle.station.specs.declared.hold.Input.{Input}
use Rattle.station.specs.declared.hold.Hold.{Hold}
use Rattle.station.specs.declared.hold.Hold.TheVariants.{Free, Held, Dropping, Accepting}
use Rattle.station.specs.declared.channel.Channel.{Channel}
use Rattle.station.specs.declared.channel.Channel.TheVariants.{Queued, UpLink, TurnLink, DownLink}
use Rattle.network.specs.Cards.{Card, State, card_at}
use Rattle.network.specs.Nodes.{Node, up, down, card_of, number, same_channel, target, outs, input_of}
use Rattle.network.specs.Sums.{sum_over, sum_channels}

unfoldable pub on_link : Option ℕ → List ℕ
on_link None = []
on_link (Some w) = w ∷ []

unfoldable pub holds : Channel → Card → List ℕ
holds (Queued c) k = k.queue
holds (UpLink c) k = on_link k.up_link
holds (TurnLink c) k = on_link k.turn_link
holds (DownLink c) k = on_link k.down_link

-- the words in a channel, oldest first
unfoldable pub reads : State → Channel → List ℕ
reads x o = holds o (card_at x (number o))

-- the stations that a word still has to pass from station n on, where h is its packet's head there: this one, and those beyond each output.
-- At most k stations are looked at one after another; twice the number of cards is enough
unfoldable pub ahead : Shape → ℕ → Node → ℕ → ℕ
ahead s zero n h = 0
ahead s (suc k) n h = 1 + sum_over (outs s n h) (λ o. ahead s k (target s o) (advance h))

unfoldable pub by_head : Shape → ℕ → Node → Option ℕ → ℕ
by_head s k n None = 0
by_head s k n (Some h) = ahead s k n h

-- the hops owed for the words that wait before station n: a head goes by its own route, a later word by the last head before it, at first g
unfoldable pub owed_for : Shape → ℕ → Node → Option ℕ → List ℕ → ℕ
owed_for s k n g [] = 0
owed_for s k n g (w ∷ ws) = cond (is_head_word w) (ahead s k n w + owed_for s k n (Some w) ws) (by_head s k n g + owed_for s k n g ws)

unfoldable pub is_channel : Channel → Option Channel → Bool
is_channel o None = false
is_channel o (Some p) = same_channel p o

-- the head for which station n is held, if it is held for the channel o
unfoldable pub head_by : Shape → Node → Channel → Hold Input → Option ℕ
head_by s n o Free = None
head_by s n o (Held i h) = cond (is_channel o (input_of s n i)) (Some h) None
head_by s n o (Dropping i h) = cond (is_channel o (input_of s n i)) (Some h) None
head_by s n o (Accepting i h) = cond (is_channel o (input_of s n i)) (Some h) None

unfoldable pub hold_in : Node → Card → Hold Input
hold_in (up c) k = k.up
hold_in (down c) k = k.down

-- how a station stands
unfoldable pub hold_of : State → Node → Hold Input
hold_of x n = hold_in n (card_at x (card_of n))

-- the hops owed for the words in a channel
unfoldable pub owed_in : Shape → State → Channel → ℕ
owed_in s x o = owed_for s (2 * s.cards) (target s o) (head_by s (target s o) o (hold_of x (target s o))) (reads x o)

-- the hops owed by a tree
unfoldable pub hops_owed : Shape → State → ℕ
hops_owed s x = sum_channels s.cards (owed_in s x)
