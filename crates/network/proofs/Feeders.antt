-- Each channel has one station that feeds it, and the outputs of a station differ.
use Rattle.std.proofs.Common.{◌≡◌, ℕ, ◌+◌, ◌-◌, ◌<◌, Bool, true, false, cond, List, [], ◌∷◌, ◌++◌, Some, None, Option, sym, refl, ap, ◌∙◌, arith}
use Rattle.std.specs.List.{AllByRecursion}
use Rattle.packet.proofs.Moving.{head-kept, tail_kept}
use Rattle.packet.specs.Heads.{floods}
use Rattle.packet.specs.Routes.{side_of, stops, top_bit}
use Rattle.packet.specs.Packets.{is_tail_word}
use Rattle.packet.specs.declared.sides.Side.{Side}
use Rattle.packet.specs.declared.sides.Side.TheVariants.{Left, Right}
use Rattle.wiring.specs.Shapes.{Shape}
use Rattle.station.specs.declared.channel.Channel.{Channel}
use Rattle.station.specs.declared.channel.Channel.TheVariants.{DownLink, Queued, TurnLink, UpLink}
use Rattle.network.specs.Nodes.{Node, above, card_or_zero, down, down_link_to, number, outs, target, up, up_link_of}
use Rattle.network.specs.Paths.{Step, climbs, descends, spreads, turns}
use Rattle.network.proofs.Channels.{Rooted}
use Rattle.network.proofs.Conserve.{Distinct, moved_push}
use Rattle.network.proofs.Flow.{fits, is_empty}
use Rattle.network.proofs.Invariant.{fall_from, feeder, feeder_by}
use Rattle.network.proofs.Outputs.{outs_of_each}
use Rattle.network.proofs.Ranks.{rank}
use Rattle.network.proofs.UnderWay.{leaves, moved, outs_of, next}

pub leaves_tail : (q : List ℕ) (w : ℕ) → is_tail_word (leaves q w) ≡ is_tail_word w
unfolding leaves
leaves_tail [] w = tail_kept w
leaves_tail (h ∷ q) w = refl

pub moved-fits : (q : List ℕ) (w : ℕ) → fits (moved q) (leaves q w) ≡ fits q w
unfolding fits leaves moved
moved-fits [] w = head-kept w
moved-fits (h ∷ q) w = refl

pub moved-next : (q : List ℕ) (w : ℕ) → next (moved q) (leaves q w) ≡ moved (next q w)
unfolding next moved
moved-next q w = rw leaves_tail (tails (is_tail_word w))
  where
    tails : (b : Bool) → cond b [] (moved q ++ (leaves q w ∷ [])) ≡ moved (cond b [] (q ++ (w ∷ [])))
    tails true = refl
    tails false = sym (moved_push q w)

pub outs_of_more : (W : Shape) (s : Node) (q : List ℕ) (w : ℕ) → is_empty q ≡ false → outs_of W s (q ++ (w ∷ [])) ≡ outs_of W s q
unfolding is_empty outs_of
outs_of_more W s [] w e = absurd (grind arith)
outs_of_more W s (h ∷ q) w e = refl

module _ (W : Shape) (L : Rooted W) where
  falls : (c d : ℕ) (b : Side) → W.daughter b c ≡ Some d → feeder W (DownLink d) ≡ Some (down c)
  unfolding feeder fall_from
  falls c d b e = rw (L.up b c d e)

  step_fed : (s : Node) (h : ℕ) (o : Channel) → Step W s h o → feeder W o ≡ Some s
  unfolding feeder feeder_by
  step_fed _ _ _ (climbs c p g t e) = rw e
  step_fed _ _ _ (turns c g t) = refl
  step_fed _ _ _ (descends c d g t e) = falls c d (side_of (top_bit g)) e
  step_fed _ _ _ (spreads b c d g t f e) = falls c d b e

  pub outs_of_fed : (s : Node) (q : List ℕ) → AllByRecursion (λ o. feeder W o ≡ Some s) (outs_of W s q)
  outs_of_fed s q = outs_of_each W _ s q (step_fed s)

  one : (d : Option ℕ) → Distinct (down_link_to d)
  unfolding down_link_to
  one None = tt
  one (Some d) = (tt, tt)

  both : (c : ℕ) (a b : Option ℕ) → W.daughter Left c ≡ a → W.daughter Right c ≡ b → Distinct (down_link_to a ++ down_link_to b)
  unfolding down_link_to
  both c None None e e' = tt
  both c None (Some b) e e' = (tt, tt)
  both c (Some a) None e e' = (tt, tt)
  both c (Some a) (Some b) e e' = (((λ p. L.sides c a e (e' ∙ ap Some (cc))), tt), (tt, tt))

  pub outs_distinct : (s : Node) (h : ℕ) → Distinct (outs W s h)
  unfolding outs up_link_of
  outs_distinct (up c) h = ups (top_bit h) (above W c)
    where
      ups : (b : Bool) (p : Option ℕ) → Distinct (cond b (up_link_of c p) (TurnLink c ∷ []))
      ups true None = tt
      ups true (Some p) = (tt, tt)
      ups false p = (tt, tt)
  outs_distinct (down c) h = downs (stops h) (floods h)
    where
      downs : (a b : Bool) → Distinct (cond a (cond b (down_link_to (W.daughter Left c) ++ down_link_to (W.daughter Right c)) []) (down_link_to (W.daughter (side_of (top_bit h)) c)))
      downs true true = both c (W.daughter Left c) (W.daughter Right c) refl refl
      downs true false = tt
      downs false b = one (W.daughter (side_of (top_bit h)) c)

  -- a channel's target is of lower rank than its feeder
  pub feeder-above : (o : Channel) (s : Node) → number o < W.cards → feeder W o ≡ Some s → rank W (target W o) < rank W s
  unfolding feeder feeder_by fall_from rank target number card_or_zero
  feeder-above (Queued c) s h e = absurd (grind arith)
  feeder-above (UpLink c) s h e = ranks (above W c) refl e
    where
      ranks : (p : Option ℕ) → above W c ≡ p → feeder_by (up c) p ≡ Some s → W.cards + 1 + card_or_zero p < rank W s
      ranks None q e' = absurd (grind arith)
      ranks (Some p) q e' = let t = L.below c p q in let z : s ≡ up c = cc in rw z (omega arith)
  feeder-above (TurnLink c) s h e = let z : s ≡ up c = cc in rw z (omega arith)
  feeder-above (DownLink c) s h e = ranks (above W c) refl e
    where
      ranks : (p : Option ℕ) → above W c ≡ p → fall_from p ≡ Some s → W.cards - c < rank W s
      ranks None q e' = absurd (grind arith)
      ranks (Some p) q e' = let t = L.below c p q in let z : s ≡ down p = cc in rw z (omega arith)
