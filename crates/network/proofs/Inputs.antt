-- The inputs of a station, and the channels at them.
use Rattle.std.proofs.Common.{◌≡◌, ℕ, zero, suc, ◌<◌, Bool, true, false, cond, eqb, ◌≢◌, Some, None, Option, sym, refl, ap, ◌∙◌, arith, eq-eqb, eqb-true}
use Rattle.std.proofs.lemmas.Bool.{false_from_ne_true}
use Rattle.packet.specs.declared.sides.Side.{Side}
use Rattle.packet.specs.declared.sides.Side.TheVariants.{Left, Right}
use Rattle.wiring.specs.Shapes.{Shape}
use Rattle.station.specs.Holds.{input_number, same_input}
use Rattle.station.specs.declared.channel.Channel.{Channel}
use Rattle.station.specs.declared.channel.Channel.TheVariants.{DownLink, Queued, TurnLink, UpLink}
use Rattle.station.specs.declared.hold.Input.{Input}
use Rattle.station.specs.declared.hold.Input.TheVariants.{Left as FromLeft, Parent, Queue, Right as FromRight, Turn}
use Rattle.network.specs.Nodes.{Node, above, card_of, card_or_zero, down, down_link_into, input_of, number, target, up, up_link_from}
use Rattle.network.proofs.Channels.{Rooted}

module _ (W : Shape) (L : Rooted W) where
  -- a channel at an input leads to that station, and is one of the tree
  pub input_known : (s : Node) (i : Input) (o : Channel) → card_of s < W.cards → input_of W s i ≡ Some o → (target W o ≡ s) × (number o < W.cards)
  unfolding input_of card_of up_link_from down_link_into target card_or_zero number
  input_known (up c) FromLeft o h e = side Left (W.daughter Left c) refl e
    where
      side : (b : Side) (d : Option ℕ) → W.daughter b c ≡ d → up_link_from d ≡ Some o → (target W o ≡ up c) × (number o < W.cards)
      side b None q e = absurd (grind arith)
      side b (Some d) q e = let z : o ≡ UpLink d = cc in let p = L.up b c d q in rw z (rw p refl, (L.below d c p).1)
  input_known (up c) FromRight o h e = side Right (W.daughter Right c) refl e
    where
      side : (b : Side) (d : Option ℕ) → W.daughter b c ≡ d → up_link_from d ≡ Some o → (target W o ≡ up c) × (number o < W.cards)
      side b None q e = absurd (grind arith)
      side b (Some d) q e = let z : o ≡ UpLink d = cc in let p = L.up b c d q in rw z (rw p refl, (L.below d c p).1)
  input_known (up c) Queue o h e = let z : o ≡ Queued c = cc in rw z (refl, h)
  input_known (up c) Parent o h e = absurd (grind arith)
  input_known (up c) Turn o h e = absurd (grind arith)
  input_known (down c) FromLeft o h e = absurd (grind arith)
  input_known (down c) FromRight o h e = absurd (grind arith)
  input_known (down c) Queue o h e = absurd (grind arith)
  input_known (down c) Parent o h e = side (above W c) e
    where
      side : (p : Option ℕ) → down_link_into c p ≡ Some o → (target W o ≡ down c) × (number o < W.cards)
      side None e = absurd (grind arith)
      side (Some p) e = let z : o ≡ DownLink c = cc in rw z (refl, h)
  input_known (down c) Turn o h e = let z : o ≡ TurnLink c = cc in rw z (refl, h)

  -- the input of a station that a channel is at
  unfoldable is_left : Option ℕ → ℕ → Bool
  is_left None d = false
  is_left (Some e) d = eqb e d

  unfoldable named : Node → Channel → Input
  named (up c) (Queued d) = Queue
  named (up c) (UpLink d) = cond (is_left (W.daughter Left c) d) FromLeft FromRight
  named (up c) (TurnLink d) = Queue
  named (up c) (DownLink d) = Queue
  named (down c) (Queued d) = Turn
  named (down c) (UpLink d) = Turn
  named (down c) (TurnLink d) = Turn
  named (down c) (DownLink d) = Parent

  input_named : (s : Node) (i : Input) (o : Channel) → input_of W s i ≡ Some o → i ≡ named s o
  unfolding input_of named up_link_from down_link_into is_left
  input_named (up c) FromLeft o e = side (W.daughter Left c) refl e
    where
      side : (d : Option ℕ) → W.daughter Left c ≡ d → up_link_from d ≡ Some o → FromLeft ≡ named (up c) o
      side None q e = absurd (grind arith)
      side (Some d) q e = let z : o ≡ UpLink d = cc in rw (z, q, eq-eqb d d refl)
  input_named (up c) FromRight o e = side (W.daughter Right c) refl e
    where
      other : (d : ℕ) → W.daughter Right c ≡ Some d → (f : Option ℕ) → W.daughter Left c ≡ f → (b : Bool) → is_left f d ≡ b → FromRight ≡ cond b FromLeft FromRight
      other d q None r true e = absurd (grind arith)
      other d q None r false e = refl
      other d q (Some g) r true e = absurd (L.sides c d (r ∙ ap Some (eqb-true g d e)) q)
      other d q (Some g) r false e = refl

      side : (d : Option ℕ) → W.daughter Right c ≡ d → up_link_from d ≡ Some o → FromRight ≡ named (up c) o
      side None q e = absurd (grind arith)
      side (Some d) q e = let z : o ≡ UpLink d = cc in rw z (other d q (W.daughter Left c) refl _ refl)
  input_named (up c) Queue o e = let z : o ≡ Queued c = cc in rw z
  input_named (up c) Parent o e = absurd (grind arith)
  input_named (up c) Turn o e = absurd (grind arith)
  input_named (down c) FromLeft o e = absurd (grind arith)
  input_named (down c) FromRight o e = absurd (grind arith)
  input_named (down c) Queue o e = absurd (grind arith)
  input_named (down c) Parent o e = side (above W c) e
    where
      side : (p : Option ℕ) → down_link_into c p ≡ Some o → Parent ≡ named (down c) o
      side None e = absurd (grind arith)
      side (Some p) e = let z : o ≡ DownLink c = cc in rw z
  input_named (down c) Turn o e = let z : o ≡ TurnLink c = cc in rw z

  pub input_same : (s : Node) (i j : Input) (o : Channel) → input_of W s i ≡ Some o → input_of W s j ≡ Some o → j ≡ i
  input_same s i j o e f = input_named s j o f ∙ sym (input_named s i o e)

-- inputs are told apart by their numbers
unfoldable numbered : ℕ → Input
numbered zero = FromLeft
numbered (suc zero) = FromRight
numbered (suc (suc zero)) = Queue
numbered (suc (suc (suc zero))) = Parent
numbered (suc (suc (suc (suc n)))) = Turn

number_back : (i : Input) → numbered (input_number i) ≡ i
unfolding numbered
number_back FromLeft = refl
number_back FromRight = refl
number_back Queue = refl
number_back Parent = refl
number_back Turn = refl

pub same_input_is : (i j : Input) → same_input i j ≡ true → i ≡ j
same_input_is i j e = sym (number_back i) ∙ ap numbered (eqb-true (input_number i) (input_number j) e) ∙ number_back j

pub same_input_self : (i : Input) → same_input i i ≡ true
same_input_self i = eq-eqb (input_number i) (input_number i) refl

pub same_input_not : (i j : Input) → i ≢ j → same_input i j ≡ false
same_input_not i j n = false_from_ne_true _ (λ e. n (same_input_is i j e))
