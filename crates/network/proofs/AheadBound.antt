-- How many stations a word can have ahead of it.
use Rattle.std.proofs.Common.{◌≡◌, ℕ, zero, suc, ◌+◌, ◌*◌, ◌<◌, ◌≤◌, Bool, true, false, cond, List, [], ◌∷◌, ◌++◌, length, Some, None, Option, refl, arith}
use Rattle.packet.specs.Heads.{floods}
use Rattle.packet.specs.Routes.{advance, side_of, stops, top_bit}
use Rattle.packet.specs.Packets.{is_head_word}
use Rattle.packet.specs.declared.sides.Side.{Side}
use Rattle.packet.specs.declared.sides.Side.TheVariants.{Left, Right}
use Rattle.wiring.specs.Shapes.{Shape}
use Rattle.routing.specs.Subtrees.{covers}
use Rattle.station.specs.declared.channel.Channel.TheVariants.{TurnLink}
use Rattle.network.specs.Nodes.{Node, above, card_of, card_or_zero, down, down_link_to, outs, target, up, up_link_of}
use Rattle.network.specs.Owed.{ahead, by_head, owed_for}
use Rattle.network.specs.Sums.{sum_over, sum_to}
use Rattle.network.proofs.Channels.{Rooted}
use Rattle.network.proofs.SubtreeSums.{subtree-sum}
use Rattle.network.proofs.Trip.{over, subtree}
use Rattle.network.proofs.TripWeights.{sum_over-append}

-- a sum of n shares, each at most m
pub sum_to_most : (n m : ℕ) (f : ℕ → ℕ) → ((j : ℕ) → j < n → f j ≤ m) → sum_to n f ≤ n * m
unfolding sum_to
sum_to_most zero m f e = omega arith
sum_to_most (suc n) m f e = let t = sum_to_most n m f (λ j l. e j (omega arith)) in let u = e n (omega arith) in omega arith

-- the number of cards below
abbrev size : List ℕ → ℕ
size l = sum_over l (λ d. 1)

-- beyond a down station there is at most the card's subtree
module _ (W : Shape) where
  beyond : (k h : ℕ) → ((d : ℕ) → ahead W k (down d) h ≤ size (subtree W k d)) → (o : Option ℕ) →
      sum_over (down_link_to o) (λ o. ahead W k (target W o) h) ≤ size (over (subtree W k) o)
  unfolding down_link_to over sum_over target
  beyond k h ih None = omega arith
  beyond k h ih (Some d) = omega (arith, ih d)

  down_subtree : (k c h : ℕ) → ahead W k (down c) h ≤ size (subtree W k c)
  unfolding ahead subtree sum_over outs
  down_subtree zero c h = omega arith
  down_subtree (suc k) c h =
      let each = beyond k (advance h) (λ d. down_subtree k d (advance h)) in
      let t = sum_over-append (λ d. 1) (over (subtree W k) (W.daughter Left c)) (over (subtree W k) (W.daughter Right c)) in
      let u = ways (stops h) (floods h) (side_of (top_bit h)) each in
      omega arith
    where
      ways : (a b : Bool) (e : Side) → ((o : Option ℕ) → sum_over (down_link_to o) (λ o. ahead W k (target W o) (advance h)) ≤ size (over (subtree W k) o)) →
          sum_over (cond a (cond b (down_link_to (W.daughter Left c) ++ down_link_to (W.daughter Right c)) []) (down_link_to (W.daughter e c))) (λ o. ahead W k (target W o) (advance h))
          ≤ size (over (subtree W k) (W.daughter Left c)) + size (over (subtree W k) (W.daughter Right c))
      ways true true e each =
          let t = sum_over-append (λ o. ahead W k (target W o) (advance h)) (down_link_to (W.daughter Left c)) (down_link_to (W.daughter Right c)) in
          omega (arith, each (W.daughter Left c), each (W.daughter Right c))
      ways true false e each = omega arith
      ways false b Left each = omega (arith, each (W.daughter Left c))
      ways false b Right each = omega (arith, each (W.daughter Right c))

module _ (W : Shape) (L : Rooted W) where
  down_most : (k c h : ℕ) → c < W.cards → W.cards ≤ c + k → ahead W k (down c) h ≤ W.cards
  down_most k c h l m =
      let a = down_subtree W k c h in
      let b = subtree-sum W L (λ d. 1) k c l m in
      let t = sum_to_most W.cards 1 (λ d. cond (covers W c d) 1 0) (λ d q. one_most (covers W c d)) in
      omega arith
    where
      one_most : (b : Bool) → cond {A = ℕ} b 1 0 ≤ 1
      one_most true = omega arith
      one_most false = omega arith

  -- beyond an up station, those above it and one subtree
  up_most : (k c h : ℕ) → c < W.cards → W.cards + c < k → ahead W k (up c) h ≤ c + 1 + W.cards
  unfolding ahead sum_over outs up_link_of target card_or_zero
  up_most zero c h l m = absurd (omega arith)
  up_most (suc k) c h l m = ways (top_bit h) (above W c) refl (λ p a b. up_most k p (advance h) a b)
    where
      ways : (b : Bool) (p : Option ℕ) → above W c ≡ p → ((p : ℕ) → p < W.cards → W.cards + p < k → ahead W k (up p) (advance h) ≤ p + 1 + W.cards) →
          1 + sum_over (cond b (up_link_of c p) (TurnLink c ∷ [])) (λ o. ahead W k (target W o) (advance h)) ≤ c + 1 + W.cards
      ways true None e rec = omega arith
      ways true (Some p) e rec = let t = L.below c p e in let u = rec p (omega arith) (omega arith) in rw e (omega arith)
      ways false p e rec = let t = down_most k c (advance h) l (omega arith) in omega arith

  -- at most two for each card
  pub ahead_most : (n : Node) (h : ℕ) → card_of n < W.cards → ahead W (2 * W.cards) n h ≤ 2 * W.cards
  unfolding card_of
  ahead_most (up c) h l = let t = up_most (2 * W.cards) c h l (omega arith) in omega arith
  ahead_most (down c) h l = let t = down_most (2 * W.cards) c h l (omega arith) in omega arith

-- the words in a channel owe at most so much each
pub owed_most : (W : Shape) (k m : ℕ) (n : Node) → ((h : ℕ) → ahead W k n h ≤ m) → (g : Option ℕ) (ws : List ℕ) → owed_for W k n g ws ≤ length ws * m
unfolding owed_for by_head
owed_most W k m n a g [] = omega arith
owed_most W k m n a g (w ∷ ws) = ways (is_head_word w) g (owed_most W k m n a (Some w) ws) (owed_most W k m n a g ws)
  where
    ways : (b : Bool) (g : Option ℕ) → owed_for W k n (Some w) ws ≤ length ws * m → owed_for W k n g ws ≤ length ws * m →
        cond b (ahead W k n w + owed_for W k n (Some w) ws) (by_head W k n g + owed_for W k n g ws) ≤ length (w ∷ ws) * m
    ways true g s t = omega (arith, a w)
    ways false None s t = omega arith
    ways false (Some h) s t = omega (arith, a h)
