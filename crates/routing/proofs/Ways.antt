-- Ways up and down between a card and one that stands over it.
use Rattle.std.proofs.Common.{◌≡◌, ℕ, zero, suc, ◌+◌, ◌<◌, ◌≤◌, Bool, true, false, cond, eqb, ltb, List, [], ◌∷◌, ◌++◌, length, Some, None, Ok, Option, sym, refl, ap, ◌∙◌, arith, length-append, ltb-false, eqb-true}
use Rattle.std.proofs.lemmas.Bool.{both_ways}
use Rattle.packet.specs.declared.sides.Side.{Side}
use Rattle.packet.specs.Courses.{sides_before}
use Rattle.wiring.specs.Shapes.{Shape, Lawful}
use Rattle.routing.specs.Walks.{from_parent, climb, from_daughter, descend}
use Rattle.routing.specs.Subtrees.{of_parent, covers_in, covers}
use Rattle.routing.proofs.Subtree.{or_cases, covers_le, covers_none, covers_other}

module _ (s : Shape) where
  -- one link more
  pub climb_more : (a c d p : ℕ) (b : Side) → climb s a c ≡ Some d → s.parent d ≡ Some (p, b) → climb s (a + 1) c ≡ Some p
  unfolding climb
  climb_more zero c d p b e q =
      let f : c ≡ d = cc in
      ap (from_parent (climb s 0)) (ap s.parent f ∙ q)
  climb_more (suc a) c d p b e q = rw n (by (s.parent c) e (λ x. climb_more a x d p b))
    where
      n : suc a + 1 ≡ suc (a + 1)
      n = omega arith

      by : (o : Option (ℕ × Side)) → from_parent (climb s a) o ≡ Some d → ((x : ℕ) → climb s a x ≡ Some d → s.parent d ≡ Some (p, b) → climb s (a + 1) x ≡ Some p) →
          from_parent (climb s (a + 1)) o ≡ Some p
      by None f ih = absurd (let z : ◌≡◌ {A = ℕ} 0 1 = cc in omega arith)
      by (Some (x, y)) f ih = ih x f q

  -- one way after another
  pub descend-append : (xs ys : List Side) (c d : ℕ) → descend s xs c ≡ Ok d → descend s (xs ++ ys) c ≡ descend s ys d
  unfolding descend
  descend-append [] ys c d e = let f : c ≡ d = cc in ap (descend s ys) f
  descend-append (x ∷ xs) ys c d e = by (s.daughter x c) e (λ k. descend-append xs ys k d)
    where
      by : (o : Option ℕ) → from_daughter c (descend s xs) o ≡ Ok d → ((k : ℕ) → descend s xs k ≡ Ok d → descend s (xs ++ ys) k ≡ descend s ys d) →
          from_daughter c (descend s (xs ++ ys)) o ≡ descend s ys d
      by None f ih = absurd (let z : ◌≡◌ {A = ℕ} 0 1 = cc in omega arith)
      by (Some k) f ih = ih k f

  module _ (L : Lawful s) where
    pub descend_none : (c : ℕ) → descend s [] c ≡ Ok c
    unfolding descend
    descend_none c = refl

    -- one side more in front
    pub descend_front : (ss : List Side) (b : Side) (d p t : ℕ) → s.parent d ≡ Some (p, b) → descend s ss d ≡ Ok t → descend s (b ∷ ss) p ≡ Ok t
    unfolding descend
    descend_front ss b d p t q e = ap (from_daughter p (descend s ss)) (L.tells b p d q) ∙ e

    abbrev Down : ℕ → ℕ → Type 0
    Down u d = (ss : List Side) × (descend s ss u ≡ Ok d)

    down_more : (u d p : ℕ) (b : Side) → s.parent d ≡ Some (p, b) → Down u p → Down u d
    down_more u d p b q (ss, e) = (ss ++ (b ∷ []), descend-append ss (b ∷ []) u p e ∙ descend_front [] b d p d q (descend_none d))

    way_in : (k u d : ℕ) → covers_in s k u d ≡ true → Down u d
    unfolding covers_in
    way_in zero u d e = absurd (grind arith)
    way_in (suc k) u d e =
        or_cases (eqb u d) (of_parent (covers_in s k u) (s.parent d)) e
        (λ q. ([], descend_none u ∙ ap Ok (eqb-true u d q)))
        (λ q. parents (s.parent d) refl q (way_in k u))
      where
        parents : (o : Option (ℕ × Side)) → s.parent d ≡ o → of_parent (covers_in s k u) o ≡ true → ((p : ℕ) → covers_in s k u p ≡ true → Down u p) → Down u d
        parents None q x ih = absurd (grind arith)
        parents (Some (p, b)) q x ih = down_more u d p b q (ih p x)

    -- there is a way down to each card of the subtree
    pub way_down : (u d : ℕ) → covers s u d ≡ true → (ss : List Side) × (descend s ss u ≡ Ok d)
    unfolding covers
    way_down u d e = way_in s.cards u d e

    -- a way whose last sides are too many is too long
    pub long_way : (u d p t : ℕ) (b : Side) (ss : List Side) → covers s u p ≡ true → s.parent d ≡ Some (p, b) → descend s ss d ≡ Ok t → 7 ≤ length ss →
        (w : List Side) × (descend s w u ≡ Ok t) × (7 < length w)
    long_way u d p t b ss c q e l =
        let (w, f) = way_down u p c in
        (w ++ (b ∷ ss), descend-append w (b ∷ ss) u p f ∙ descend_front ss b d p t q e, rw length-append (omega arith))

    -- below the top there is a parent, still under the top
    pub has_parent : (t d : ℕ) → covers s t d ≡ true → (d ≡ t → ⊥) → None ≡ s.parent d → ⊥
    has_parent t d e n q = both_ways _ (sym (covers_none s L t d (let l = covers_le s L t d e in omega arith) q)) e

    pub still_under : (t d p : ℕ) (b : Side) → covers s t d ≡ true → (d ≡ t → ⊥) → s.parent d ≡ Some (p, b) → covers s t p ≡ true
    still_under t d p b e n q = sym (covers_other s L t d p b q (λ z. n (sym z))) ∙ e

-- a side in front of others, where there is room
pub front_none : (b : Side) (ss : List Side) → None ≡ sides_before b ss → 7 ≤ length ss
front_none b ss e = by (ltb (length ss) 7) refl e
  where
    by : (x : Bool) → ltb (length ss) 7 ≡ x → None ≡ cond x (Some (b ∷ ss)) None → 7 ≤ length ss
    by true q f = absurd (let z : ◌≡◌ {A = ℕ} 0 1 = cc in omega arith)
    by false q f = ltb-false (length ss) 7 q

pub front_some : (b : Side) (ss w : List Side) → Some w ≡ sides_before b ss → w ≡ b ∷ ss
front_some b ss w e = by (ltb (length ss) 7) e
  where
    by : (x : Bool) → Some w ≡ cond x (Some (b ∷ ss)) None → w ≡ b ∷ ss
    by true f = cc
    by false f = absurd (let z : ◌≡◌ {A = ℕ} 0 1 = cc in omega arith)
