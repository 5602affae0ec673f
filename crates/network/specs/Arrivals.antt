-- What a sent packet calls for, by the wiring, its route and the policy alone: its path hops, the cards that it reaches, its arrivals.
use Rattle.std.specs.Prelude.{ℕ, Bool, true, false, not, ◌&&◌, List, [], ◌∷◌, length, Ok, Err, Result, ◌==◌}
use Rattle.refusal.specs.declared.send.RouteFault.{RouteFault}
use Rattle.packet.specs.declared.heads.Mode.{Mode}
use Rattle.packet.specs.declared.heads.Mode.TheVariants.{Target, Flood}
use Rattle.packet.specs.Packets.{is_tail_word}
use Rattle.packet.specs.Routes.{route_in}
use Rattle.packet.specs.Heads.{mode_of, stamped}
use Rattle.wiring.specs.Shapes.{Shape}
use Rattle.licence.specs.declared.verdict.Verdict.{Verdict}
use Rattle.licence.specs.declared.verdict.Verdict.TheVariants.{Refuse, Class}
use Rattle.routing.specs.declared.walks.Walk.{Walk}
use Rattle.routing.specs.Walks.{walk_of}
use Rattle.routing.specs.Subtrees.{covers, path_hops}
use Rattle.station.specs.Plans.{Verdicts, accepted}
use Rattle.network.specs.Sums.{same_words}

-- a packet and the card that it is sent from
abbrev pub Parcel : Type 0
Parcel = ℕ × List ℕ

-- where its head's route leads from the card
abbrev pub walk_for : Shape → ℕ → ℕ → Result Walk RouteFault
walk_for s c h = walk_of s c (route_in h)

unfoldable pub hops_by : Shape → Mode → ℕ → Result Walk RouteFault → ℕ
hops_by s m n (Err f) = 0
hops_by s m n (Ok w) = path_hops s m w n

-- its path hops: its words times the stations that each passes
unfoldable pub hops_of : Shape → Parcel → ℕ
hops_of s (c, []) = 0
hops_of s (c, h ∷ ws) = hops_by s (mode_of h) (length (h ∷ ws)) (walk_for s c h)

-- a targeted packet reaches its terminus, a flooding one every card of the terminus's subtree
abbrev pub reaches_from : Shape → Mode → ℕ → ℕ → Bool
reaches_from s Target t d = t == d
reaches_from s Flood t d = covers s t d

unfoldable pub reaches_by : Shape → Mode → ℕ → Result Walk RouteFault → Bool
reaches_by s m d (Err f) = false
reaches_by s m d (Ok w) = reaches_from s m w.terminus d

-- does a packet with head h from card c reach card d
unfoldable pub reaches : Shape → ℕ → ℕ → ℕ → Bool
reaches s c h d = reaches_by s (mode_of h) d (walk_for s c h)

-- the words after the head, k the first of them, with the class written into k: are they l, where the packet is accepted
unfoldable pub is_arrival : List ℕ → ℕ → List ℕ → Verdict → Bool
is_arrival l k ws Refuse = false
is_arrival l k ws (Class v) = same_words (stamped k v ∷ ws) l

-- does the packet reach card d, is it accepted there, and does it arrive as l
unfoldable pub arrives_as : Shape → Verdicts → ℕ → List ℕ → Parcel → Bool
arrives_as s v d l (c, []) = false
arrives_as s v d l (c, h ∷ []) = false
arrives_as s v d l (c, h ∷ k ∷ ws) = reaches s c h d && is_arrival l k ws (accepted v d h k)

-- a tail at the end, and nowhere before
unfoldable pub is_whole : List ℕ → Bool
is_whole [] = false
is_whole (w ∷ []) = is_tail_word w
is_whole (w ∷ v ∷ ws) = not (is_tail_word w) && is_whole (v ∷ ws)

unfoldable pub all_whole : List (List ℕ) → Bool
all_whole [] = true
all_whole (l ∷ ls) = is_whole l && all_whole ls
