-- Each channel leads to a station of lower rank, so weights do not depend on the fuel.
use Rattle.std.proofs.Common.{◌≡◌, ℕ, zero, suc, ◌+◌, ◌-◌, ◌<◌, ◌≤◌, List, Some, None, Option, refl, ap, arith}
use Rattle.std.specs.List.{AllByRecursion}
use Rattle.packet.specs.Routes.{side_of, top_bit}
use Rattle.packet.specs.declared.sides.Side.{Side}
use Rattle.wiring.specs.Shapes.{Shape}
use Rattle.station.specs.declared.channel.Channel.{Channel}
use Rattle.station.specs.declared.channel.Channel.TheVariants.{DownLink, Queued, TurnLink, UpLink}
use Rattle.network.specs.Nodes.{Node, above, card_of, card_or_zero, down, number, target, up}
use Rattle.network.specs.Paths.{Step, climbs, descends, spreads, turns}
use Rattle.network.proofs.Channels.{Rooted}
use Rattle.network.proofs.Outputs.{all_map, outs_of_each, sum_over_same}
use Rattle.network.proofs.UnderWay.{moved, outs_of, weight}

-- how many stations can follow, this one counted
unfoldable pub rank : Shape → Node → ℕ
rank W (up c) = W.cards + 1 + c
rank W (down c) = W.cards - c

-- what a channel out of s is like
pub record Out (W : Shape) (s : Node) (o : Channel) : Type 0 where
  pub lower : rank W (target W o) < rank W s
  pub known : number o < W.cards

module _ (W : Shape) (L : Rooted W) where
  falls : (c d : ℕ) (b : Side) → W.daughter b c ≡ Some d → Out W (down c) (DownLink d)
  unfolding rank target number
  falls c d b e = let t = L.below d c (L.up b c d e) in record { lower = omega arith; known = t.1 }

  step_lower : (s : Node) (h : ℕ) (o : Channel) → card_of s < W.cards → Step W s h o → Out W s o
  unfolding card_of rank target number card_or_zero
  step_lower _ _ _ l (climbs c p g t e) = record { lower = rw e (let t = L.below c p e in omega arith); known = l }
  step_lower _ _ _ l (turns c g t) = record { lower = omega arith; known = l }
  step_lower _ _ _ l (descends c d g t e) = falls c d (side_of (top_bit g)) e
  step_lower _ _ _ l (spreads b c d g t f e) = falls c d b e

  pub outs_of_lower : (s : Node) (q : List ℕ) → card_of s < W.cards → AllByRecursion (Out W s) (outs_of W s q)
  outs_of_lower s q l = outs_of_each W (Out W s) s q (λ g o t. step_lower s g o l t)

  pub target-known : (o : Channel) → number o < W.cards → card_of (target W o) < W.cards
  unfolding target number card_of card_or_zero
  target-known (Queued c) h = h
  target-known (UpLink c) h = parents (above W c) refl
    where
      parents : (p : Option ℕ) → above W c ≡ p → card_or_zero p < W.cards
      parents None e = omega arith
      parents (Some p) e = let t = L.below c p e in omega arith
  target-known (TurnLink c) h = h
  target-known (DownLink c) h = h

  pub rank_pos : (s : Node) → card_of s < W.cards → 0 < rank W s
  unfolding rank card_of
  rank_pos (up c) h = omega arith
  rank_pos (down c) h = omega arith

  pub stable : (f : Node → List ℕ → ℕ) (k l : ℕ) (s : Node) (q : List ℕ) → card_of s < W.cards → rank W s ≤ k → rank W s ≤ l →
      weight f W k s q ≡ weight f W l s q
  unfolding weight
  stable f zero l s q h a b = absurd (omega (arith, rank_pos s h))
  stable f (suc k) zero s q h a b = absurd (omega (arith, rank_pos s h))
  stable f (suc k) (suc l) s q h a b =
      ap (λ (n : ℕ). f s q + n)
      (sum_over_same _ _ (outs_of W s q)
      (all_map (Out W s) _
      (λ o p. let t = p.lower in stable f k l (target W o) (moved q) (target-known o p.known) (omega arith) (omega arith))
      (outs_of W s q) (outs_of_lower s q h)))
