-- A station by its own state: what it does with a word, part by part, for any naming of the inputs.
use Rattle.std.proofs.Common.{ℕ, cond, List, [], ◌∷◌}
use Rattle.packet.specs.Routes.{advance, stops}
use Rattle.packet.specs.Packets.{is_tail_word}
use Rattle.wiring.specs.Shapes.{Shape}
use Rattle.licence.specs.declared.verdict.Verdict.{Verdict}
use Rattle.licence.specs.declared.verdict.Verdict.TheVariants.{Class, Refuse}
use Rattle.station.specs.Plans.{Verdicts, accepted}
use Rattle.station.specs.declared.channel.Channel.{Channel}
use Rattle.station.specs.declared.hold.Hold.{Hold}
use Rattle.station.specs.declared.hold.Hold.TheVariants.{Accepting, Dropping, Free, Held}
use Rattle.network.specs.Nodes.{Node, down, outs, up}
use Rattle.network.proofs.UnderWay.{mark}

unfoldable pub of_verdict : {A : Type 0} → A → ℕ → Verdict → Hold A
of_verdict i h Refuse = Dropping i h
of_verdict i h (Class v) = Accepting i h

-- the hold after a word that is no tail, which came from the channel i
unfoldable pub on_word : {A : Type 0} → Verdicts → Node → A → Hold A → ℕ → Hold A
on_word P s i Free w = Held i w
on_word P (up c) i (Held j h) w = Held j h
on_word P (down c) i (Held j h) w = cond (stops h) (of_verdict j h (accepted P c h w)) (Held j h)
on_word P s i (Dropping j h) w = Dropping j h
on_word P s i (Accepting j h) w = Accepting j h

unfoldable pub hold_after : {A : Type 0} → Verdicts → Node → A → Hold A → ℕ → Hold A
hold_after P s i d w = cond (is_tail_word w) Free (on_word P s i d w)

unfoldable pub outs_by : {A : Type 0} → Shape → Node → Hold A → ℕ → List Channel
outs_by W s Free w = outs W s w
outs_by W s (Held j h) w = outs W s h
outs_by W s (Dropping j h) w = outs W s h
outs_by W s (Accepting j h) w = outs W s h

unfoldable pub leaves_by : {A : Type 0} → Hold A → ℕ → ℕ
leaves_by Free w = advance w
leaves_by (Held j h) w = w
leaves_by (Dropping j h) w = w
leaves_by (Accepting j h) w = w

unfoldable pub delivers_by : {A : Type 0} → Verdicts → Node → Hold A → ℕ → List ℕ
delivers_by P s Free w = []
delivers_by P (up c) (Held j h) w = []
delivers_by P (down c) (Held j h) w = cond (stops h) (mark w (accepted P c h w)) []
delivers_by P s (Dropping j h) w = []
delivers_by P (up c) (Accepting j h) w = []
delivers_by P (down c) (Accepting j h) w = w ∷ []
