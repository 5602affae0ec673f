-- Channels and stations can be told apart, and what a lawful wiring says of a card and the card above it.
use Rattle.std.proofs.Common.{◌≡◌, ℕ, ◌<◌, ◌≤◌, true, eqb, Some, None, Option, sym, refl, ap, ◌∙◌, arith, eq-eqb, eqb-true, zero, suc, ap₂}
use Rattle.std.proofs.lemmas.Bool.{and_parts}
use native.Mathlib.Decide.{ℕ_discrete}
use Rattle.packet.specs.declared.sides.Side.{Side}
use Rattle.packet.specs.declared.sides.Side.TheVariants.{Left, Right}
use Rattle.wiring.specs.Shapes.{Lawful, Shape, most_cards}
use Rattle.routing.proofs.Subtree.{parent_of}
use Rattle.routing.specs.Walks.{from_parent}
use Rattle.station.specs.declared.channel.Channel.{Channel}
use Rattle.station.specs.declared.channel.Channel.TheVariants.{DownLink, Queued, TurnLink, UpLink}
use Rattle.network.specs.Nodes.{Node, above, node-discrete', number, same_channel, tag}

-- a channel is told by its tag and its number
unfoldable channel_of : ℕ → ℕ → Channel
channel_of zero c = Queued c
channel_of (suc zero) c = UpLink c
channel_of (suc (suc zero)) c = TurnLink c
channel_of (suc (suc (suc n))) c = DownLink c

channel_back : (o : Channel) → channel_of (tag o) (number o) ≡ o
unfolding channel_of tag number
channel_back (Queued c) = refl
channel_back (UpLink c) = refl
channel_back (TurnLink c) = refl
channel_back (DownLink c) = refl

pub same : (o p : Channel) → tag o ≡ tag p → number o ≡ number p → o ≡ p
same o p t e = sym (channel_back o) ∙ ap₂ channel_of t e ∙ channel_back p

unfoldable pub channel_discrete : Discrete Channel
channel_discrete o p =
    elim (ℕ_discrete (tag o) (tag p)) [
      | yes t ↦ elim (ℕ_discrete (number o) (number p)) [ yes e ↦ yes (same o p t e) | no n ↦ no (λ q. n (ap number q)) ]
      | no n ↦ no (λ q. n (ap tag q))
    ]

unfoldable pub node_discrete : Discrete Node
node_discrete = node-discrete' ℕ_discrete

pub same_channel_is : (o p : Channel) → same_channel o p ≡ true → o ≡ p
unfolding same_channel
same_channel_is o p e =
    let (t, n) = and_parts (eqb (tag o) (tag p)) _ e in
    same o p (eqb-true (tag o) (tag p) t) (eqb-true (number o) (number p) n)

pub same_channel_self : (o : Channel) → same_channel o o ≡ true
unfolding same_channel
same_channel_self o = rw (eq-eqb (tag o) (tag o) refl, eq-eqb (number o) (number o) refl)

-- the tree that a lawful wiring is
pub record Rooted (W : Shape) : Type 0 where
  pub some : 1 ≤ W.cards
  pub few : W.cards ≤ most_cards
  pub root : above W 0 ≡ None
  pub below : (c p : ℕ) → above W c ≡ Some p → (p < c) × (c < W.cards)
  pub others : (c : ℕ) → 0 < c → c < W.cards → (p : ℕ) × (above W c ≡ Some p)
  pub up : (b : Side) (p c : ℕ) → W.daughter b p ≡ Some c → above W c ≡ Some p
  pub sides : (p c : ℕ) → W.daughter Left p ≡ Some c → W.daughter Right p ≡ Some c → ⊥
  pub down : (c p : ℕ) → above W c ≡ Some p → (b : Side) × (W.daughter b p ≡ Some c)
  pub whose : (c p : ℕ) → above W c ≡ Some p → (b : Side) × (W.parent c ≡ Some (p, b))
  pub alone : (c : ℕ) → above W c ≡ None → W.parent c ≡ None
  pub lawful : Lawful W

pub rooted : (W : Shape) → Lawful W → Rooted W
unfolding above
rooted W L =
    record {
      some = L.some;
      few = L.few;
      root = ap (from_parent Some) L.root;
      below = λ c p e. let (b, q) = whose c p e in L.below c p b q;
      others = λ c z l. let (p, b, q) = parent_of W L c z l in (p, ap (from_parent Some) q);
      up = λ b p c e. ap (from_parent Some) (L.told b p c e);
      sides = λ p c e f. apart (sym (L.told Left p c e) ∙ L.told Right p c f);
      down = λ c p e. let (b, q) = whose c p e in (b, L.tells b p c q);
      whose = whose;
      alone = λ c e. single (W.parent c) e;
      lawful = L;
    }
  where
    by : (c p : ℕ) (o : Option (ℕ × Side)) → from_parent Some o ≡ Some p → (b : Side) × (o ≡ Some (p, b))
    by c p None e = absurd (grind arith)
    by c p (Some (q, b)) e = let z : q ≡ p = cc in (b, ap (λ (r : ℕ). Some (r, b)) z)

    whose : (c p : ℕ) → from_parent Some (W.parent c) ≡ Some p → (b : Side) × (W.parent c ≡ Some (p, b))
    whose c p e = by c p (W.parent c) e

    single : (o : Option (ℕ × Side)) → from_parent Some o ≡ None → o ≡ None
    single None e = refl
    single (Some (q, b)) e = absurd (grind arith)

    is_left : Option (ℕ × Side) → ℕ
    is_left None = 0
    is_left (Some (p, Left)) = 1
    is_left (Some (p, Right)) = 2

    apart : {p : ℕ} → ◌≡◌ {A = Option (ℕ × Side)} (Some (p, Left)) (Some (p, Right)) → ⊥
    apart e = let z : ◌≡◌ {A = ℕ} 1 2 = ap is_left e in omega arith
