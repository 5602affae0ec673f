-- The network with history: words of a packet at a station, and sums over the stations ahead of a word.
use Rattle.std.proofs.Common.{ℕ, zero, suc, ◌+◌, cond, List, [], ◌∷◌, ◌++◌}
use mathlib.Core.Logic.{ite}
use Rattle.packet.specs.Heads.{stamped}
use Rattle.packet.specs.Routes.{advance, stops}
use Rattle.packet.specs.Packets.{is_tail_word}
use Rattle.wiring.specs.Shapes.{Shape}
use Rattle.licence.specs.declared.verdict.Verdict.{Verdict}
use Rattle.licence.specs.declared.verdict.Verdict.TheVariants.{Class, Refuse}
use Rattle.station.specs.Plans.{Verdicts, accepted}
use Rattle.station.specs.declared.channel.Channel.{Channel}
use Rattle.network.specs.Nodes.{Node, down, outs, target, up}
use Rattle.network.specs.Sums.{sum_over}

-- f with the value v at k
unfoldable pub put {ℓ} : {K : Type 0} {A : Type ℓ} → Discrete K → (K → A) → K → A → K → A
put d f k v j = ite (d j k) v (f j)

-- what is known of a packet at a station: its words so far, the head first
unfoldable pub outs_of : Shape → Node → List ℕ → List Channel
outs_of W s [] = []
outs_of W s (h ∷ q) = outs W s h

unfoldable pub moved : List ℕ → List ℕ
moved [] = []
moved (h ∷ q) = advance h ∷ q

-- the word that leaves a station, after the words q of its packet
unfoldable pub leaves : List ℕ → ℕ → ℕ
leaves [] w = advance w
leaves (h ∷ q) w = w

-- the words of the packet so far, once w has passed
unfoldable pub next : List ℕ → ℕ → List ℕ
next q w = cond (is_tail_word w) [] (q ++ (w ∷ []))

-- the packet under way when ws has passed after q
unfoldable pub rest : List ℕ → List ℕ → List ℕ
rest q [] = q
rest q (w ∷ ws) = rest (next q w) ws

-- the key word as it is kept, with the class written in, or not at all
unfoldable pub mark : ℕ → Verdict → List ℕ
mark w Refuse = []
mark w (Class v) = stamped w v ∷ []

-- a later word, as it is kept or not
unfoldable pub plain : ℕ → Verdict → List ℕ
plain w Refuse = []
plain w (Class v) = w ∷ []

-- what the word w leaves in the card's inbox, after the words q of its packet
unfoldable pub delivers : Verdicts → Node → List ℕ → ℕ → List ℕ
delivers P (up c) q w = []
delivers P (down c) [] w = []
delivers P (down c) (h ∷ []) w = cond (stops h) (mark w (accepted P c h w)) []
delivers P (down c) (h ∷ k ∷ q) w =
    cond (stops h) (plain w (accepted P c h k)) []

-- the sum of f over the stations that a word still has to pass, from station s on, q its packet up to it
unfoldable pub weight : (Node → List ℕ → ℕ) → Shape → ℕ → Node → List ℕ → ℕ
weight f W zero s q = 0
weight f W (suc k) s q = f s q + sum_over (outs_of W s q) (λ o. weight f W k (target W o) (moved q))

-- the sum of g over the words ws, each with the words of its packet before it, q those of the packet under way
unfoldable pub along : (List ℕ → ℕ) → List ℕ → List ℕ → ℕ
along g q [] = 0
along g q (w ∷ ws) = g (q ++ (w ∷ [])) + along g (next q w) ws

-- weights of all words ws waiting at a station's input
unfoldable pub waiting : (Node → List ℕ → ℕ) → Shape → ℕ → Node → List ℕ → List ℕ → ℕ
waiting f W k s q ws = along (weight f W k s) q ws
