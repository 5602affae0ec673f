-- What a station does goes by its head alone, and not by the name of its input.
use Rattle.std.proofs.Common.{◌≡◌, ℕ, Bool, true, false, cond, List, [], ◌∷◌, Some, None, Option, refl, arith}
use Rattle.std.specs.Option.{option_map}
use Rattle.packet.specs.Routes.{stops}
use Rattle.packet.specs.Packets.{is_tail_word}
use Rattle.wiring.specs.Shapes.{Shape}
use Rattle.licence.specs.declared.verdict.Verdict.{Verdict}
use Rattle.licence.specs.declared.verdict.Verdict.TheVariants.{Class, Refuse}
use Rattle.station.specs.Plans.{Verdicts, accepted}
use Rattle.station.specs.declared.channel.Channel.{Channel}
use Rattle.station.specs.declared.hold.Hold.{Hold}
use Rattle.station.specs.declared.hold.Hold.TheVariants.{Accepting, Dropping, Free, Held}
use Rattle.network.specs.Nodes.{Node, down, up}
use Rattle.network.proofs.Flow.{Flow, is_empty}
use Rattle.network.proofs.StationParts.{delivers_by, hold_after, leaves_by, of_verdict, on_word, outs_by}
use Rattle.network.proofs.Phases.{phase}

unfoldable pub map_hold : {A B : Type 0} → (A → B) → Hold A → Hold B
map_hold f Free = Free
map_hold f (Held i h) = Held (f i) h
map_hold f (Dropping i h) = Dropping (f i) h
map_hold f (Accepting i h) = Accepting (f i) h

-- the input for which a station is held
unfoldable pub held_for : {A : Type 0} → Hold A → Option A
held_for Free = None
held_for (Held i h) = Some i
held_for (Dropping i h) = Some i
held_for (Accepting i h) = Some i

-- a station by the words that have passed it
unfoldable pub stands_by : Verdicts → Node → (Channel → List ℕ) → Option Channel → Hold Channel
stands_by P s p None = Free
stands_by P s p (Some i) = phase P s i (p i)

unfoldable pub stands : Verdicts → Flow → Node → Hold Channel
stands P y s = stands_by P s y.passed (y.source s)

pub outs-map : {A B : Type 0} (f : A → B) (W : Shape) (s : Node) (d : Hold A) (w : ℕ) → outs_by W s (map_hold f d) w ≡ outs_by W s d w
unfolding outs_by map_hold
outs-map f W s Free w = refl
outs-map f W s (Held i h) w = refl
outs-map f W s (Dropping i h) w = refl
outs-map f W s (Accepting i h) w = refl

pub leaves_map : {A B : Type 0} (f : A → B) (d : Hold A) (w : ℕ) → leaves_by (map_hold f d) w ≡ leaves_by d w
unfolding leaves_by map_hold
leaves_map f Free w = refl
leaves_map f (Held i h) w = refl
leaves_map f (Dropping i h) w = refl
leaves_map f (Accepting i h) w = refl

pub delivers-map : {A B : Type 0} (f : A → B) (P : Verdicts) (s : Node) (d : Hold A) (w : ℕ) → delivers_by P s (map_hold f d) w ≡ delivers_by P s d w
unfolding delivers_by map_hold
delivers-map f P (up c) Free w = refl
delivers-map f P (up c) (Held i h) w = refl
delivers-map f P (up c) (Dropping i h) w = refl
delivers-map f P (up c) (Accepting i h) w = refl
delivers-map f P (down c) Free w = refl
delivers-map f P (down c) (Held i h) w = refl
delivers-map f P (down c) (Dropping i h) w = refl
delivers-map f P (down c) (Accepting i h) w = refl

pub held_for-map : {A B : Type 0} (f : A → B) (d : Hold A) → held_for (map_hold f d) ≡ option_map f (held_for d)
unfolding held_for map_hold
held_for-map f Free = refl
held_for-map f (Held i h) = refl
held_for-map f (Dropping i h) = refl
held_for-map f (Accepting i h) = refl

pub after_map : {A B : Type 0} (f : A → B) (P : Verdicts) (s : Node) (i : A) (d : Hold A) (w : ℕ) → map_hold f (hold_after P s i d w) ≡ hold_after P s (f i) (map_hold f d) w
unfolding hold_after on_word map_hold of_verdict
after_map f P s i d w = ways (is_tail_word w) s d
  where
    by : (b : Bool) (j h : _) (o : Verdict) → map_hold f (cond b (of_verdict j h o) (Held j h)) ≡ cond b (of_verdict (f j) h o) (Held (f j) h)
    by true j h Refuse = refl
    by true j h (Class v) = refl
    by false j h o = refl

    ways : (b : Bool) (s : Node) (d : _) → map_hold f (cond b Free (on_word P s i d w)) ≡ cond b Free (on_word P s (f i) (map_hold f d) w)
    ways true s d = refl
    ways false (up c) Free = refl
    ways false (up c) (Held j h) = refl
    ways false (up c) (Dropping j h) = refl
    ways false (up c) (Accepting j h) = refl
    ways false (down c) Free = refl
    ways false (down c) (Held j h) = by (stops h) j h (accepted P c h w)
    ways false (down c) (Dropping j h) = refl
    ways false (down c) (Accepting j h) = refl

pub phase_for : (P : Verdicts) (s : Node) (i : Channel) (q : List ℕ) → is_empty q ≡ false → held_for (phase P s i q) ≡ Some i
unfolding phase held_for of_verdict is_empty
phase_for P s i [] e = absurd (grind arith)
phase_for P (up c) i (h ∷ q) e = refl
phase_for P (down c) i (h ∷ []) e = refl
phase_for P (down c) i (h ∷ k ∷ q) e = ways (stops h) (accepted P c h k)
  where
    ways : (b : Bool) (o : Verdict) → held_for (cond b (of_verdict i h o) (Held i h)) ≡ Some i
    ways true Refuse = refl
    ways true (Class v) = refl
    ways false o = refl
