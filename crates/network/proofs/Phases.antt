-- The state of a station is a function of the words that have passed it.
use Rattle.std.proofs.Common.{◌≡◌, ℕ, Bool, true, false, cond, List, [], ◌∷◌, ◌++◌, refl}
use Rattle.packet.specs.Routes.{stops}
use Rattle.packet.specs.Packets.{is_tail_word}
use Rattle.wiring.specs.Shapes.{Shape}
use Rattle.licence.specs.declared.verdict.Verdict.{Verdict}
use Rattle.licence.specs.declared.verdict.Verdict.TheVariants.{Class, Refuse}
use Rattle.station.specs.Plans.{Verdicts, accepted}
use Rattle.station.specs.declared.channel.Channel.{Channel}
use Rattle.station.specs.declared.hold.Hold.{Hold}
use Rattle.station.specs.declared.hold.Hold.TheVariants.{Free, Held}
use Rattle.network.specs.Nodes.{Node, down, outs, up}
use Rattle.network.proofs.UnderWay.{delivers, leaves, next, outs_of, plain}
use Rattle.network.proofs.StationParts.{delivers_by, hold_after, leaves_by, of_verdict, on_word, outs_by}

-- the state after the words q from channel i
unfoldable pub phase : Verdicts → Node → Channel → List ℕ → Hold Channel
phase P s i [] = Free
phase P (up c) i (h ∷ q) = Held i h
phase P (down c) i (h ∷ []) = Held i h
phase P (down c) i (h ∷ k ∷ q) = cond (stops h) (of_verdict i h (accepted P c h k)) (Held i h)

-- a property of every state that a verdict can lead to
pub outs-phase : (P : Verdicts) (W : Shape) (s : Node) (i : Channel) (q : List ℕ) (w : ℕ) → outs_by W s (phase P s i q) w ≡ outs_of W s (q ++ (w ∷ []))
unfolding phase outs_by outs_of of_verdict
outs-phase P W s i [] w = refl
outs-phase P W (up c) i (h ∷ q) w = refl
outs-phase P W (down c) i (h ∷ []) w = refl
outs-phase P W (down c) i (h ∷ k ∷ q) w = ways (stops h) (accepted P c h k)
  where
    ways : (b : Bool) (o : Verdict) → outs_by W (down c) (cond b (of_verdict i h o) (Held i h)) w ≡ outs W (down c) h
    ways true Refuse = refl
    ways true (Class v) = refl
    ways false o = refl

pub delivers-phase : (P : Verdicts) (s : Node) (i : Channel) (q : List ℕ) (w : ℕ) → delivers_by P s (phase P s i q) w ≡ delivers P s q w
unfolding phase delivers_by delivers of_verdict plain
delivers-phase P (up c) i [] w = refl
delivers-phase P (down c) i [] w = refl
delivers-phase P (up c) i (h ∷ q) w = refl
delivers-phase P (down c) i (h ∷ []) w = refl
delivers-phase P (down c) i (h ∷ k ∷ q) w = ways (stops h) refl (accepted P c h k)
  where
    ways : (b : Bool) → stops h ≡ b → (o : Verdict) → delivers_by P (down c) (cond b (of_verdict i h o) (Held i h)) w ≡ cond b (plain w o) []
    ways true e Refuse = refl
    ways true e (Class v) = refl
    ways false e o = rw e

word_phase : (P : Verdicts) (s : Node) (i : Channel) (q : List ℕ) (w : ℕ) → on_word P s i (phase P s i q) w ≡ phase P s i (q ++ (w ∷ []))
unfolding phase on_word of_verdict
word_phase P (up c) i [] w = refl
word_phase P (down c) i [] w = refl
word_phase P (up c) i (h ∷ q) w = refl
word_phase P (down c) i (h ∷ []) w = refl
word_phase P (down c) i (h ∷ k ∷ q) w = ways (stops h) refl (accepted P c h k)
  where
    ways : (b : Bool) → stops h ≡ b → (o : Verdict) →
        on_word P (down c) i (cond b (of_verdict i h o) (Held i h)) w ≡ cond b (of_verdict i h o) (Held i h)
    ways true e Refuse = refl
    ways true e (Class v) = refl
    ways false e o = rw e

pub leaves-phase : (P : Verdicts) (s : Node) (i : Channel) (q : List ℕ) (w : ℕ) → leaves_by (phase P s i q) w ≡ leaves q w
unfolding phase leaves_by leaves of_verdict
leaves-phase P s i [] w = refl
leaves-phase P (up c) i (h ∷ q) w = refl
leaves-phase P (down c) i (h ∷ []) w = refl
leaves-phase P (down c) i (h ∷ k ∷ q) w = ways (stops h) (accepted P c h k)
  where
    ways : (b : Bool) (o : Verdict) → leaves_by (cond b (of_verdict i h o) (Held i h)) w ≡ w
    ways true Refuse = refl
    ways true (Class v) = refl
    ways false o = refl

pub hold_phase : (P : Verdicts) (s : Node) (i : Channel) (q : List ℕ) (w : ℕ) → hold_after P s i (phase P s i q) w ≡ phase P s i (next q w)
unfolding hold_after next phase
hold_phase P s i q w = ways (is_tail_word w)
  where
    ways : (b : Bool) → cond b Free (on_word P s i (phase P s i q) w) ≡ phase P s i (cond b [] (q ++ (w ∷ [])))
    ways true = refl
    ways false = word_phase P s i q w
