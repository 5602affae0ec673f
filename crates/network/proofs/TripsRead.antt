-- The stations that a route passes, one by one, are those of its climbs, its turn and its descents.
use Rattle.std.proofs.Common.{◌≡◌, ℕ, zero, suc, ◌+◌, ◌<◌, ◌≤◌, Bool, true, false, cond, List, [], ◌∷◌, map, length, Some, None, Ok, Option, sym, refl, ap, ◌∙◌, ap₂, arith}
use Rattle.packet.proofs.Moving.{low_stops, moved_bits, route_top, turn_one_pad, turn_stop_pad, ups_pad}
use Rattle.packet.proofs.Reading.{one_zero, before_zero}
use Rattle.packet.specs.Routes.{advance, after_turn, before_stop, has_one, low_bits, route_bits, side_of, stops, top_bit, ups_of}
use Rattle.packet.specs.declared.sides.Side.{Side}
use Rattle.wiring.specs.Shapes.{Shape}
use Rattle.routing.specs.Walks.{climb, descend, from_daughter, from_parent}
use Rattle.network.specs.Nodes.{above, down, up}
use Rattle.network.proofs.Channels.{Rooted}
use Rattle.network.proofs.Trip.{further, go_on, trip}

module _ (W : Shape) (L : Rooted W) where
  -- the sides of a way down
  unfoldable pub sides_of : List Bool → List Side
  sides_of bs = map side_of (before_stop bs)

  -- down from card c by the bits of h
  abbrev Down : ℕ → ℕ → ℕ → ℕ → Type 0
  Down k t c h =
      has_one (route_bits h) ≡ true → descend W (sides_of (route_bits h)) c ≡ Ok t →
      trip W k (down c) h ≡ Some (length (sides_of (route_bits h)), t)

  moved_sides : (h : ℕ) → sides_of (route_bits (advance h)) ≡ sides_of (low_bits h)
  unfolding sides_of
  moved_sides h = ap (map side_of) (ap before_stop (moved_bits h) ∙ before_zero (low_bits h))

  down_way : (k c h t : ℕ) → ((d : ℕ) → c < d → d < W.cards → Down k t d (advance h)) → (o : Option ℕ) → W.daughter (side_of (top_bit h)) c ≡ o →
      has_one (low_bits h) ≡ true → from_daughter c (descend W (sides_of (low_bits h))) o ≡ Ok t →
      go_on (λ d. trip W k (down d) (advance h)) o ≡ Some (suc (length (sides_of (low_bits h))), t)
  unfolding go_on further
  down_way k c h t rec None q o e = absurd (grind arith)
  down_way k c h t rec (Some d) q o e =
      let l = L.below d c (L.up (side_of (top_bit h)) c d q) in
      let s = moved_sides h in
      let r = rec d l.0 l.1 (ap has_one (moved_bits h) ∙ one_zero (low_bits h) ∙ o) (ap (λ (bs : List Side). descend W bs d) s ∙ e) in
      rw r (ap (λ (bs : List Side). Some (suc (length bs), t)) s)

  -- the sides, by the top bit and the bits below it
  sides_step : (h : ℕ) (b : Bool) → has_one (low_bits h) ≡ b → sides_of (top_bit h ∷ low_bits h) ≡ cond b (side_of (top_bit h) ∷ sides_of (low_bits h)) []
  unfolding sides_of before_stop
  sides_step h true e = rw e
  sides_step h false e = rw e

  down_trip : (k c h t : ℕ) → c < W.cards → W.cards ≤ c + k → Down k t c h
  unfolding trip descend
  down_trip zero c h t hc r o e = absurd (omega arith)
  down_trip (suc k) c h t hc r o e =
      ways (stops h) refl (λ d lt kn. down_trip k d (advance h) t kn (omega arith)) (sym (ap (λ (bs : List Bool). descend W (sides_of bs) c) (route_top h)) ∙ e)
      ∙ sym (ap (λ (bs : List Bool). Some (length (sides_of bs), t)) (route_top h))
    where
      ways : (b : Bool) → stops h ≡ b → ((d : ℕ) → c < d → d < W.cards → Down k t d (advance h)) →
          descend W (sides_of (top_bit h ∷ low_bits h)) c ≡ Ok t →
          cond b (Some (0, c)) (go_on (λ d. trip W k (down d) (advance h)) (W.daughter (side_of (top_bit h)) c)) ≡ Some (length (sides_of (top_bit h ∷ low_bits h)), t)
      ways true s rec f =
          let z = sides_step h false (low_stops h true s) in
          let g : Ok c ≡ Ok t = sym (ap (λ (bs : List Side). descend W bs c) z) ∙ f in
          let q : c ≡ t = cc in
          rw z (ap (λ (t : ℕ). Some (0, t)) q)
      ways false s rec f =
          let o = low_stops h false s in
          let z = sides_step h true o in
          let g : from_daughter c (descend W (sides_of (low_bits h))) (W.daughter (side_of (top_bit h)) c) ≡ Ok t = sym (ap (λ (bs : List Side). descend W bs c) z) ∙ f in
          rw z (down_way k c h t rec (W.daughter (side_of (top_bit h)) c) refl o g)

  -- the sides after the turn
  unfoldable pub downward_way : List Bool → List Side
  downward_way bs = sides_of (after_turn bs)

  -- up from card c: the climbs, the turn, the descents
  abbrev Up : ℕ → ℕ → ℕ → ℕ → ℕ → Type 0
  Up k u t c h =
      has_one (after_turn (route_bits h)) ≡ true → climb W (ups_of (route_bits h)) c ≡ Some u → descend W (downward_way (route_bits h)) u ≡ Ok t →
      trip W k (up c) h ≡ Some (ups_of (route_bits h) + 1 + length (downward_way (route_bits h)), t)

  climb-way : (k c h u t a n : ℕ) → ((p : ℕ) → p < c → p < W.cards → climb W a p ≡ Some u → trip W k (up p) (advance h) ≡ Some (n, t)) → (o : Option (ℕ × Side)) → W.parent c ≡ o →
      from_parent (climb W a) o ≡ Some u → go_on (λ p. trip W k (up p) (advance h)) (from_parent Some o) ≡ Some (suc n, t)
  unfolding go_on further
  climb-way k c h u t a n rec None q e = absurd (grind arith)
  climb-way k c h u t a n rec (Some (p, b)) q e = let l = L.lawful.below c p b q in rw (rec p l.0 (omega arith) e)

  moved-way : (h : ℕ) → downward_way (route_bits (advance h)) ≡ downward_way (low_bits h)
  unfolding downward_way sides_of
  moved-way h = ap (map side_of) (ap (λ (bs : List Bool). before_stop (after_turn bs)) (moved_bits h) ∙ turn_stop_pad (low_bits h))

  rising : (k h u t c : ℕ) → ((p : ℕ) → p < c → p < W.cards → Up k u t p (advance h)) →
      has_one (after_turn (low_bits h)) ≡ true → climb W (suc (ups_of (low_bits h))) c ≡ Some u → descend W (downward_way (low_bits h)) u ≡ Ok t →
      go_on (λ p. trip W k (up p) (advance h)) (above W c) ≡ Some (suc (ups_of (low_bits h)) + 1 + length (downward_way (low_bits h)), t)
  unfolding climb above
  rising k h u t c rec o e f =
      let b = moved_bits h in
      let a : ups_of (route_bits (advance h)) ≡ ups_of (low_bits h) = ap ups_of b ∙ ups_pad (low_bits h) in
      let s = moved-way h in
      let n : ℕ = ups_of (low_bits h) + 1 + length (downward_way (low_bits h)) in
      climb-way k c h u t (ups_of (low_bits h)) n
      (λ p lt kn g.
      rec p lt kn (ap (λ (bs : List Bool). has_one (after_turn bs)) b ∙ turn_one_pad (low_bits h) ∙ o) (ap (λ (a : ℕ). climb W a p) a ∙ g) (ap (λ (bs : List Side). descend W bs u) s ∙ f)
      ∙ ap₂ (λ (a : ℕ) (bs : List Side). Some (a + 1 + length bs, t)) a s)
      (W.parent c) refl e
      ∙ ap (λ (n : ℕ). Some (n, t)) (omega arith)

  turning : (k h u t c : ℕ) → c < W.cards → W.cards ≤ c + k → has_one (low_bits h) ≡ true → Some c ≡ Some u → descend W (sides_of (low_bits h)) u ≡ Ok t →
      further (trip W k (down c) (advance h)) ≡ Some (0 + 1 + length (sides_of (low_bits h)), t)
  unfolding further
  turning k h u t c hc r o e f =
      let cu : c ≡ u = cc in
      let s = moved_sides h in
      let d = down_trip k c (advance h) t hc r (ap has_one (moved_bits h) ∙ one_zero (low_bits h) ∙ o) (ap₂ (λ (bs : List Side) (c : ℕ). descend W bs c) s cu ∙ f) in
      rw d (ap (λ (n : ℕ). Some (n, t)) (ap (λ (bs : List Side). suc (length bs)) s ∙ omega arith))

  pub up_trip : (k c h u t : ℕ) → c < W.cards → W.cards + 1 + c ≤ k → Up k u t c h
  unfolding trip ups_of after_turn downward_way climb
  up_trip zero c h u t hc r o e f = absurd (omega arith)
  up_trip (suc k) c h u t hc r o e f =
      let z = route_top h in
      ways (top_bit h) (sym (ap (λ (bs : List Bool). has_one (after_turn bs)) z) ∙ o) (sym (ap (λ (bs : List Bool). climb W (ups_of bs) c) z) ∙ e) (sym (ap (λ (bs : List Bool). descend W (downward_way bs) u) z) ∙ f)
      (λ p lt kn. up_trip k p (advance h) u t kn (omega arith))
      ∙ sym (ap (λ (bs : List Bool). Some (ups_of bs + 1 + length (downward_way bs), t)) z)
    where
      ways : (b : Bool) → has_one (after_turn (b ∷ low_bits h)) ≡ true → climb W (ups_of (b ∷ low_bits h)) c ≡ Some u → descend W (downward_way (b ∷ low_bits h)) u ≡ Ok t →
          ((p : ℕ) → p < c → p < W.cards → Up k u t p (advance h)) →
          cond b (go_on (λ p. trip W k (up p) (advance h)) (above W c)) (further (trip W k (down c) (advance h))) ≡ Some (ups_of (b ∷ low_bits h) + 1 + length (downward_way (b ∷ low_bits h)), t)
      ways true o e f rec = rising k h u t c (λ p lt kn. rec p lt kn) o e f
      ways false o e f rec = turning k h u t c hc (omega arith) o e f
