-- The stations that a packet passes, by its route.
use Rattle.std.proofs.Common.{◌≡◌, ℕ, zero, suc, ◌+◌, ◌-◌, ◌*◌, ◌<◌, ◌≤◌, Bool, true, false, cond, List, [], ◌∷◌, ◌++◌, Some, None, Option, sym, refl, ap, ◌∙◌, ap₂, arith}
use mathlib.Core.Path.{fun_ext}
use Rattle.std.proofs.lemmas.Option.{some_pair_parts}
use Rattle.packet.proofs.Moving.{floods-kept, stops-kept}
use Rattle.packet.specs.Heads.{floods}
use Rattle.packet.specs.Routes.{advance, side_of, stops, top_bit}
use Rattle.packet.specs.declared.sides.Side.{Side}
use Rattle.packet.specs.declared.sides.Side.TheVariants.{Left, Right}
use Rattle.wiring.specs.Shapes.{Shape}
use Rattle.station.specs.declared.channel.Channel.TheVariants.{TurnLink}
use Rattle.network.specs.Nodes.{Node, above, card_of, card_or_zero, down, down_link_to, outs, target, up, up_link_of}
use Rattle.network.specs.Sums.{sum_over}
use Rattle.network.proofs.Channels.{Rooted}
use Rattle.network.proofs.UnderWay.{moved, outs_of, weight}
use Rattle.network.proofs.Trip.{Trip, further, go_on, over, reached, subtree, trip}
use Rattle.network.proofs.Ranks.{rank}

pub sum_over-append : {A : Type 0} (f : A → ℕ) (xs ys : List A) → sum_over (xs ++ ys) f ≡ sum_over xs f + sum_over ys f
unfolding sum_over
sum_over-append f [] ys = omega arith
sum_over-append f (x ∷ xs) ys = let t = sum_over-append f xs ys in omega arith

pub further_is : (t : Trip) (n c : ℕ) → further t ≡ Some (n, c) → (m : ℕ) × (n ≡ suc m) × (t ≡ Some (m, c))
unfolding further
further_is None n c e = absurd (grind arith)
further_is (Some (m, d)) n c e = let (x, y) = some_pair_parts _ _ _ _ e in (m, sym x, ap (λ (z : ℕ). Some (m, z)) y)

-- f looks at a head only as far as it stops and floods
abbrev pub Alike : (Node → List ℕ → ℕ) → List ℕ → Type 0
Alike f ws = (d g h : ℕ) → stops g ≡ true → stops h ≡ true → floods g ≡ floods h → f (down d) (g ∷ ws) ≡ f (down d) (h ∷ ws)

module _ (W : Shape) (f : Node → List ℕ → ℕ) (ws : List ℕ) (a : Alike f ws) where
  one : (k h : ℕ) → stops h ≡ true →
      ((d : ℕ) → weight f W k (down d) (advance h ∷ ws) ≡ sum_over (subtree W k d) (λ e. f (down e) (advance h ∷ ws))) → (o : Option ℕ) →
      sum_over (down_link_to o) (λ o. weight f W k (target W o) (advance h ∷ ws)) ≡ sum_over (over (subtree W k) o) (λ d. f (down d) (h ∷ ws))
  unfolding down_link_to over sum_over target
  one k h s ih None = refl
  one k h s ih (Some d) =
      let e = ih d in
      let g = ap (sum_over (subtree W k d)) (fun_ext (λ e. a e (advance h) h (stops-kept h s) s (floods-kept h))) in
      omega arith

  pub flood_weight : (k c h : ℕ) → stops h ≡ true → floods h ≡ true → weight f W k (down c) (h ∷ ws) ≡ sum_over (subtree W k c) (λ d. f (down d) (h ∷ ws))
  unfolding weight subtree sum_over outs_of outs moved
  flood_weight zero c h s l = refl
  flood_weight (suc k) c h s l =
      let each = one k h s (λ d. flood_weight k d (advance h) (stops-kept h s) (floods-kept h ∙ l)) in
      let p = each (W.daughter Left c) in
      let q = each (W.daughter Right c) in
      let u = sum_over-append (λ o. weight f W k (target W o) (advance h ∷ ws)) (down_link_to (W.daughter Left c)) (down_link_to (W.daughter Right c)) in
      let v = sum_over-append (λ d. f (down d) (h ∷ ws)) (over (subtree W k) (W.daughter Left c)) (over (subtree W k) (W.daughter Right c)) in
      rw (s, l) (omega arith)

  -- the value of f at each station before the terminus
  abbrev pub Passing : ℕ → Type 0
  Passing v = ((c h : ℕ) → f (up c) (h ∷ ws) ≡ v) × ((c h : ℕ) → stops h ≡ false → f (down c) (h ∷ ws) ≡ v)

  module _ (L : Rooted W) where
    subtree_stable : (k l c : ℕ) → c < W.cards → W.cards ≤ c + k → W.cards ≤ c + l → subtree W k c ≡ subtree W l c
    unfolding subtree over
    subtree_stable zero l c h x y = absurd (omega arith)
    subtree_stable (suc k) zero c h x y = absurd (omega arith)
    subtree_stable (suc k) (suc l) c h x y = pair (λ d lt kn. subtree_stable k l d kn (omega arith) (omega arith))
      where
        pair : ((d : ℕ) → c < d → d < W.cards → subtree W k d ≡ subtree W l d) → subtree W (suc k) c ≡ subtree W (suc l) c
        pair ih = ap₂ (λ (x y : List ℕ). c ∷ (x ++ y)) (side Left (W.daughter Left c) refl) (side Right (W.daughter Right c) refl)
          where
            side : (b : Side) (o : Option ℕ) → W.daughter b c ≡ o → over (subtree W k) o ≡ over (subtree W l) o
            side b None e = refl
            side b (Some d) e = let t = L.below d c (L.up b c d e) in ih d t.0 t.1

    module _ (v : ℕ) (p : Passing v) (g : ℕ) (gs : stops g ≡ true) (k h t : ℕ) where
      abbrev R : ℕ → ℕ
      R n = n * v + sum_over (reached W g t) (λ d. f (down d) (g ∷ ws))

      abbrev Rec : Type 0
      Rec = (s : Node) (n : ℕ) → card_of s < W.cards → rank W s ≤ k → trip W k s (advance h) ≡ Some (n, t) → weight f W k s (advance h ∷ ws) ≡ R n

      join : (s : Node) (n x y : ℕ) → x ≡ v → card_of s < W.cards → rank W s ≤ k → further (trip W k s (advance h)) ≡ Some (n, t) → Rec →
          y ≡ weight f W k s (advance h ∷ ws) → x + (y + 0) ≡ R n
      join s n x y xv cs r e rec ye =
          let (m, nm, u) = further_is (trip W k s (advance h)) n t e in
          let w = rec s m cs r u in
          rw nm (omega arith)

      up_way : (c n : ℕ) → c < W.cards → W.cards + 1 + c ≤ suc k → Rec → (b : Bool) (o : Option ℕ) → above W c ≡ o →
          cond b (go_on (λ p. trip W k (up p) (advance h)) o) (further (trip W k (down c) (advance h))) ≡ Some (n, t) →
          f (up c) (h ∷ ws) + sum_over (cond b (up_link_of c o) (TurnLink c ∷ [])) (λ o. weight f W k (target W o) (advance h ∷ ws)) ≡ R n
      unfolding go_on up_link_of sum_over target card_or_zero card_of rank
      up_way c n hc r rec true None q e = absurd (grind arith)
      up_way c n hc r rec true (Some a) q e = let l = L.below c a q in join (up a) n _ _ (p.0 c h) (omega arith) (omega arith) e rec (rw q)
      up_way c n hc r rec false o q e = join (down c) n _ _ (p.0 c h) hc (omega arith) e rec refl

      down_way : (c n : ℕ) → c < W.cards → W.cards - c ≤ suc k → Rec → stops h ≡ false → (b : Side) (o : Option ℕ) → W.daughter b c ≡ o →
          go_on (λ d. trip W k (down d) (advance h)) o ≡ Some (n, t) →
          f (down c) (h ∷ ws) + sum_over (down_link_to o) (λ o. weight f W k (target W o) (advance h ∷ ws)) ≡ R n
      unfolding go_on down_link_to sum_over target card_of rank
      down_way c n hc r rec s b None q e = absurd (grind arith)
      down_way c n hc r rec s b (Some d) q e = let l = L.below d c (L.up b c d q) in join (down d) n _ _ (p.1 c h s) l.1 (omega arith) e rec refl

      stop_way : (c : ℕ) → c ≡ t → c < W.cards → W.cards - c ≤ suc k → stops h ≡ true → floods g ≡ floods h → weight f W (suc k) (down c) (h ∷ ws) ≡ R 0
      unfolding reached weight outs_of outs sum_over
      stop_way c ct hc r s fl = ways (floods h) refl
        where
          ways : (b : Bool) → floods h ≡ b → weight f W (suc k) (down c) (h ∷ ws) ≡ R 0
          ways true e =
              let u = flood_weight (suc k) c h s e in
              let x = ap (sum_over (subtree W (suc k) c)) (fun_ext (λ d. a d h g s gs (sym fl))) in
              let y : sum_over (subtree W (suc k) c) (λ d. f (down d) (g ∷ ws)) ≡ sum_over (subtree W W.cards t) (λ d. f (down d) (g ∷ ws)) = rw (subtree_stable (suc k) W.cards c hc (omega arith) (omega arith), ct) in
              rw (fl ∙ e) (omega arith)
          ways false e = rw (fl ∙ e, s, e) (let x = a c h g s gs (sym fl) in rw (← ct) (omega arith))

    -- the stations on the way, and the cards reached
    pub trip-weight : (v : ℕ) → Passing v → (g : ℕ) → stops g ≡ true → (k : ℕ) (s : Node) (h n t : ℕ) → floods g ≡ floods h → card_of s < W.cards → rank W s ≤ k → trip W k s h ≡ Some (n, t) →
        weight f W k s (h ∷ ws) ≡ n * v + sum_over (reached W g t) (λ d. f (down d) (g ∷ ws))
    unfolding trip weight outs_of outs moved card_of rank
    trip-weight v p g gs zero s h n t fl c r e = absurd (grind arith)
    trip-weight v p g gs (suc k) (up c) h n t fl cs r e =
        up_way v p g gs k h t c n cs r (λ s m x y z. trip-weight v p g gs k s (advance h) m t (fl ∙ sym (floods-kept h)) x y z) (top_bit h) (above W c) refl e
    trip-weight v p g gs (suc k) (down c) h n t fl cs r e = ways (stops h) refl e (λ s m x y z. trip-weight v p g gs k s (advance h) m t (fl ∙ sym (floods-kept h)) x y z)
      where
        ways : (b : Bool) → stops h ≡ b → cond b (Some (0, c)) (go_on (λ d. trip W k (down d) (advance h)) (W.daughter (side_of (top_bit h)) c)) ≡ Some (n, t) → Rec v p g gs k h t →
            weight f W (suc k) (down c) (h ∷ ws) ≡ R v p g gs k h t n
        ways true s e rec = let (x, y) = some_pair_parts _ _ _ _ e in rw (← x) (stop_way v p g gs k h t c y cs r s fl)
        ways false s e rec = rw s (down_way v p g gs k h t c n cs r rec s (side_of (top_bit h)) (W.daughter (side_of (top_bit h)) c) refl e)
