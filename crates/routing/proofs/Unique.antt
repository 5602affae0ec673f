-- Between two cards of a tree there is one way, so an order has one answer.
use Rattle.std.proofs.Common.{◌≡◌, ℕ, zero, suc, ◌+◌, ◌<◌, ◌≤◌, List, [], ◌∷◌, length, Some, None, Ok, Err, Option, Result, sym, refl, ap, ◌∙◌, subst, ap₂, add-one, arith}
use Rattle.std.proofs.lemmas.Bool.{both_ways}
use Rattle.refusal.specs.declared.send.RouteFault.{RouteFault}
use Rattle.refusal.specs.declared.order.OrderFault.{OrderFault}
use Rattle.refusal.specs.declared.order.OrderFault.TheVariants.{Unknown, NoneListed, TooLong}
use Rattle.packet.specs.declared.sides.Side.{Side}
use Rattle.packet.specs.declared.heads.Mode.{Mode}
use Rattle.packet.specs.Routes.{Leads, route_in, read_route, route_bits, route_for}
use Rattle.packet.specs.Heads.{head_word}
use Rattle.packet.proofs.Rewritten.{route_written}
use Rattle.wiring.specs.Shapes.{Shape, Lawful}
use Rattle.routing.specs.declared.walks.Walk.{Walk}
use Rattle.routing.specs.Walks.{from_parent, climb, from_daughter, descend, walk_to, walk_from, walk_by, walk_of}
use Rattle.routing.specs.Subtrees.{covers_all}
use Rattle.routing.specs.Orders.{mode_for, Lowest, LeadsTo, TooFar, Serves, Unserved, Ordered}
use Rattle.routing.proofs.Subtree.{covers_le}
use Rattle.routing.proofs.Ways.{climb_more}

module _ (s : Shape) (L : Lawful s) where
  -- the lowest card is one
  pub one_lowest : (cs : List ℕ) (t u : ℕ) → Lowest s cs t → Lowest s cs u → t ≡ u
  one_lowest cs t u a b =
      let p = covers_le s L t u (b.above t a.has) in
      let q = covers_le s L u t (a.above u b.has) in
      omega arith

  climb_le : (a c u : ℕ) → climb s a c ≡ Some u → u ≤ c
  unfolding climb
  climb_le zero c u e = let f : c ≡ u = cc in omega arith
  climb_le (suc a) c u e = by (s.parent c) refl e (λ p. climb_le a p u)
    where
      by : (o : Option (ℕ × Side)) → s.parent c ≡ o → from_parent (climb s a) o ≡ Some u → ((p : ℕ) → climb s a p ≡ Some u → u ≤ p) → u ≤ c
      by None q f ih = absurd (let z : ◌≡◌ {A = ℕ} 0 1 = cc in omega arith)
      by (Some (p, b)) q f ih = let l = (L.below c p b q).0 in let m = ih p f in omega arith

  climb_lt : (a c u : ℕ) → climb s (suc a) c ≡ Some u → u < c
  unfolding climb
  climb_lt a c u e = by (s.parent c) refl e
    where
      by : (o : Option (ℕ × Side)) → s.parent c ≡ o → from_parent (climb s a) o ≡ Some u → u < c
      by None q f = absurd (let z : ◌≡◌ {A = ℕ} 0 1 = cc in omega arith)
      by (Some (p, b)) q f = let l = (L.below c p b q).0 in let m = climb_le a p u f in omega arith

  -- so many links up, and no other number
  pub one-climb : (a b c u : ℕ) → climb s a c ≡ Some u → climb s b c ≡ Some u → a ≡ b
  unfolding climb
  one-climb zero zero c u e f = refl
  one-climb zero (suc b) c u e f = absurd (let l = climb_lt b c u f in let z : c ≡ u = cc in omega arith)
  one-climb (suc a) zero c u e f = absurd (let l = climb_lt a c u e in let z : c ≡ u = cc in omega arith)
  one-climb (suc a) (suc b) c u e f = by (s.parent c) e f (λ p. one-climb a b p u)
    where
      by : (o : Option (ℕ × Side)) → from_parent (climb s a) o ≡ Some u → from_parent (climb s b) o ≡ Some u → ((p : ℕ) → climb s a p ≡ Some u → climb s b p ≡ Some u → a ≡ b) → suc a ≡ suc b
      by None x y ih = absurd (let z : ◌≡◌ {A = ℕ} 0 1 = cc in omega arith)
      by (Some (p, i)) x y ih = ap suc (ih p x y)

  -- the sides of the last k links on the way down to t, before others
  abbrev sides_by : (ℕ → List Side → List Side) → List Side → Option (ℕ × Side) → List Side
  sides_by f acc None = acc
  sides_by f acc (Some p) = f p.0 (p.1 ∷ acc)

  unfoldable sides_up : ℕ → ℕ → List Side → List Side
  sides_up zero t acc = acc
  sides_up (suc k) t acc = sides_by (sides_up k) acc (s.parent t)

  -- one link more at the top
  sides_more : (k t d u : ℕ) (b : Side) (acc : List Side) → climb s k t ≡ Some d → s.parent d ≡ Some (u, b) → sides_up (suc k) t acc ≡ b ∷ sides_up k t acc
  unfolding sides_up climb
  sides_more zero t d u b acc e q = let f : t ≡ d = cc in ap (sides_by (λ x y. y) acc) (ap s.parent f ∙ q)
  sides_more (suc k) t d u b acc e q = by (s.parent t) e (λ p i. sides_more k p d u b (i ∷ acc))
    where
      by : (o : Option (ℕ × Side)) → from_parent (climb s k) o ≡ Some d →
          ((p : ℕ) (i : Side) → climb s k p ≡ Some d → s.parent d ≡ Some (u, b) → sides_up (suc k) p (i ∷ acc) ≡ b ∷ sides_up k p (i ∷ acc)) →
          sides_by (sides_up (suc k)) acc o ≡ b ∷ sides_by (sides_up k) acc o
      by None f ih = absurd (let z : ◌≡◌ {A = ℕ} 0 1 = cc in omega arith)
      by (Some (p, i)) f ih = ih p i f q

  abbrev Down : List Side → ℕ → ℕ → Type 0
  Down ss u t = (climb s (length ss) t ≡ Some u) × (sides_up (length ss) t [] ≡ ss)

  -- a way down is the way up again
  up_again : (ss : List Side) (u t : ℕ) → descend s ss u ≡ Ok t → Down ss u t
  unfolding descend climb sides_up
  up_again [] u t e = let f : u ≡ t = cc in (ap Some (sym f), refl)
  up_again (b ∷ bs) u t e = by (s.daughter b u) refl e (λ d. up_again bs d t)
    where
      by : (o : Option ℕ) → s.daughter b u ≡ o → from_daughter u (descend s bs) o ≡ Ok t → ((d : ℕ) → descend s bs d ≡ Ok t → Down bs d t) → Down (b ∷ bs) u t
      by None q f ih = absurd (let z : ◌≡◌ {A = ℕ} 0 1 = cc in omega arith)
      by (Some d) q f ih =
          let (x, y) = ih d f in
          let p = L.told b u d q in (
            ap (λ (n : ℕ). climb s n t) (sym (add-one (length bs))) ∙ climb_more s (length bs) t d u b x p,
            sides_more (length bs) t d u b [] x p ∙ ap (λ (xs : List Side). b ∷ xs) y,
          )

  pub one_descent : (xs ys : List Side) (u t : ℕ) → descend s xs u ≡ Ok t → descend s ys u ≡ Ok t → xs ≡ ys
  one_descent xs ys u t e f =
      let (a, b) = up_again xs u t e in
      let (c, d) = up_again ys u t f in
      sym b ∙ (ap (λ (n : ℕ). sides_up n t []) (one-climb (length xs) (length ys) t u a c) ∙ d)

  abbrev Parts : ℕ → ℕ → Walk → Type 0
  Parts c r w = (l : Leads) × (read_route r ≡ Some l) × (climb s l.ups c ≡ Some w.turn) × (descend s l.descents w.turn ≡ Ok w.terminus)

  -- what a walk was made of
  walk_parts : (c r : ℕ) (w : Walk) → walk_of s c r ≡ Ok w → Parts c r w
  walk_parts c r w e = routes (read_route r) refl e
    where
      ends : (l : Leads) (u : ℕ) → read_route r ≡ Some l → climb s l.ups c ≡ Some u → (o : Result ℕ RouteFault) → descend s l.descents u ≡ o → walk_to u l o ≡ Ok w → Parts c r w
      ends l u p q (Err f) d z = absurd (let y : ◌≡◌ {A = ℕ} 0 1 = cc in omega arith)
      ends l u p q (Ok t) d z =
          let y : ◌≡◌ {A = Walk} (record { turn = u; terminus = t; ups = l.ups; descents = length l.descents }) w = cc in
          let a : u ≡ w.turn = ap (λ (x : Walk). x.turn) y in
          let b : t ≡ w.terminus = ap (λ (x : Walk). x.terminus) y in
          (l, p, q ∙ ap Some a, ap (descend s l.descents) (sym a) ∙ (d ∙ ap Ok b))

      turns : (l : Leads) → read_route r ≡ Some l → (o : Option ℕ) → climb s l.ups c ≡ o → walk_from s l o ≡ Ok w → Parts c r w
      turns l p None q z = absurd (let y : ◌≡◌ {A = ℕ} 0 1 = cc in omega arith)
      turns l p (Some u) q z = ends l u p q (descend s l.descents u) refl z

      routes : (o : Option Leads) → read_route r ≡ o → walk_by s c o ≡ Ok w → Parts c r w
      routes None p z = absurd (let y : ◌≡◌ {A = ℕ} 0 1 = cc in omega arith)
      routes (Some l) p z = turns l p (climb s l.ups c) refl z

  -- the way that a head leads, with its route's bits
  abbrev Way : ℕ → ℕ → ℕ → Type 0
  Way c t h =
      (l : Leads) × (u : ℕ) × Lowest s (c ∷ t ∷ []) u × (climb s l.ups c ≡ Some u) × (descend s l.descents u ≡ Ok t) ×
      (route_for 9 l.ups l.descents ≡ route_in h) × (l.ups + length l.descents + 2 ≤ 9)

  way_of : (c t h : ℕ) (m : Mode) → LeadsTo s c t m h → Way c t h
  unfolding read_route route_bits
  way_of c t h m k =
      let (l, p, q, d) = walk_parts c (route_in h) k.walk k.leads in
      let (r, n) = route_written 9 (route_in h) l (omega arith) p in
      (l, k.walk.turn, k.turns, q, d ∙ ap Ok k.ends, r, n)

  one_way : (c t u v a b : ℕ) (xs ys : List Side) → Lowest s (c ∷ t ∷ []) u → Lowest s (c ∷ t ∷ []) v → climb s a c ≡ Some u → climb s b c ≡ Some v → descend s xs u ≡ Ok t → descend s ys v ≡ Ok t →
      (a ≡ b) × (xs ≡ ys)
  one_way c t u v a b xs ys lu lv cu cv du dv =
      let e = one_lowest (c ∷ t ∷ []) u v lu lv in
      (one-climb a b c u cu (cv ∙ ap Some (sym e)), one_descent xs ys u t du (ap (descend s ys) e ∙ dv))

  one-head : (c t h k : ℕ) (m : Mode) → LeadsTo s c t m h → LeadsTo s c t m k → h ≡ k
  one-head c t h k m a b =
      let (l, u, lu, cu, du, r, n) = way_of c t h m a in
      let (j, v, lv, cv, dv, q, o) = way_of c t k m b in
      let (x, y) = one_way c t u v l.ups j.ups l.descents j.descents lu lv cu cv du dv in
      let z : route_in h ≡ route_in k = sym r ∙ (ap₂ (λ (i : ℕ) (ss : List Side). route_for 9 i ss) x y ∙ q) in
      a.head ∙ (ap (head_word m) z ∙ sym b.head)

  not_both : (c t h : ℕ) (m : Mode) → LeadsTo s c t m h → TooFar s c t → ⊥
  not_both c t h m a f =
      let (l, u, lu, cu, du, r, n) = way_of c t h m a in
      let w = f.way in
      let (x, y) = one_way c t u w.turn l.ups f.ups l.descents f.sides lu w.turns cu w.climbs du w.descends in
      let z = ap length y in
      let far = f.far in
      omega arith

  listed : (cs : List ℕ) (t : ℕ) → cs ≡ [] → Lowest s cs t → ⊥
  listed cs t e k = let l = covers_le s L (suc t) t (k.above (suc t) (ap (covers_all s (suc t)) e)) in omega arith

  serves_one : (c : ℕ) (cs : List ℕ) (h k : ℕ) → Serves s c cs h → Serves s c cs k → h ≡ k
  serves_one c cs h k a b =
      let e = one_lowest cs b.terminus a.terminus b.lowest a.lowest in
      one-head c a.terminus h k (mode_for cs) a.leads (subst (λ (t : ℕ). LeadsTo s c t (mode_for cs) k) e b.leads)

  serves_not : (c : ℕ) (cs : List ℕ) (h : ℕ) → Serves s c cs h → Unserved s c cs → ⊥
  serves_not c cs h a b =
      let e = one_lowest cs b.terminus a.terminus b.lowest a.lowest in
      not_both c a.terminus h (mode_for cs) a.leads (subst (λ (t : ℕ). TooFar s c t) e b.far)

  -- an order has one answer
  pub one_answer : (c : ℕ) (cs : List ℕ) (r q : Result ℕ OrderFault) → Ordered s c cs r → Ordered s c cs q → r ≡ q
  one_answer c cs (Ok h) (Ok k) (p, a) (o, b) = ap Ok (serves_one c cs h k a b)
  one_answer c cs (Ok h) (Err Unknown) (p, a) b = absurd (both_ways _ b p)
  one_answer c cs (Ok h) (Err NoneListed) (p, a) (o, b) = absurd (listed cs a.terminus b a.lowest)
  one_answer c cs (Ok h) (Err TooLong) (p, a) (o, b) = absurd (serves_not c cs h a b)
  one_answer c cs (Err Unknown) (Ok k) a (o, b) = absurd (both_ways _ a o)
  one_answer c cs (Err Unknown) (Err Unknown) a b = refl
  one_answer c cs (Err Unknown) (Err NoneListed) a (o, b) = absurd (both_ways _ a o)
  one_answer c cs (Err Unknown) (Err TooLong) a (o, b) = absurd (both_ways _ a o)
  one_answer c cs (Err NoneListed) (Ok k) (p, a) (o, b) = absurd (listed cs b.terminus a b.lowest)
  one_answer c cs (Err NoneListed) (Err Unknown) (p, a) b = absurd (both_ways _ b p)
  one_answer c cs (Err NoneListed) (Err NoneListed) a b = refl
  one_answer c cs (Err NoneListed) (Err TooLong) (p, a) (o, b) = absurd (listed cs b.terminus a b.lowest)
  one_answer c cs (Err TooLong) (Ok k) (p, a) (o, b) = absurd (serves_not c cs k b a)
  one_answer c cs (Err TooLong) (Err Unknown) (p, a) b = absurd (both_ways _ b p)
  one_answer c cs (Err TooLong) (Err NoneListed) (p, a) (o, b) = absurd (listed cs a.terminus b a.lowest)
  one_answer c cs (Err TooLong) (Err TooLong) a b = refl
