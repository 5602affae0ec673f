-- Which cards stand above which.
use Rattle.std.proofs.Common.{◌≡◌, ℕ, zero, suc, ◌<◌, ◌≤◌, Bool, true, false, ◌||◌, eqb, is_some, Some, None, Option, sym, refl, ap, ◌∙◌, arith, eq-eqb, ne_eqb, eqb-true}
use Rattle.std.proofs.lemmas.Bool.{or_right, eqb-false}
use Rattle.packet.specs.declared.sides.Side.{Side}
use Rattle.wiring.specs.Shapes.{Shape, Lawful}
use Rattle.routing.specs.Subtrees.{of_parent, covers_in, covers}

pub or_cases : {A : Type 0} (a b : Bool) → (a || b) ≡ true → (a ≡ true → A) → (b ≡ true → A) → A
or_cases true b e f g = f refl
or_cases false b e f g = g e

module _ (s : Shape) (L : Lawful s) where
  -- any number of cards looked at above d will do
  stable : (k l t d : ℕ) → d < k → d < l → covers_in s k t d ≡ covers_in s l t d
  unfolding covers_in
  stable zero l t d h m = absurd (omega arith)
  stable (suc k) zero t d h m = absurd (omega arith)
  stable (suc k) (suc l) t d h m = ap (λ (x : Bool). eqb t d || x) (parents (s.parent d) refl (λ p. stable k l t p))
    where
      parents : (o : Option (ℕ × Side)) → s.parent d ≡ o → ((p : ℕ) → p < k → p < l → covers_in s k t p ≡ covers_in s l t p) →
          of_parent (covers_in s k t) o ≡ of_parent (covers_in s l t) o
      parents None e ih = refl
      parents (Some (p, b)) e ih = let u = (L.below d p b e).0 in ih p (omega arith) (omega arith)

  enough : (n t d : ℕ) → s.cards ≡ n → covers_in s n t d ≡ (eqb t d || of_parent (covers_in s n t) (s.parent d))
  unfolding covers_in
  enough zero t d e = absurd (let m = L.some in omega arith)
  enough (suc n) t d e = ap (λ (x : Bool). eqb t d || x) (parents (s.parent d) refl)
    where
      parents : (o : Option (ℕ × Side)) → s.parent d ≡ o → of_parent (covers_in s n t) o ≡ of_parent (covers_in s (suc n) t) o
      parents None q = refl
      parents (Some (p, b)) q = let u = L.below d p b q in stable n (suc n) t p (omega arith) (omega arith)

  -- a card covers itself and what its daughters cover
  pub covers_step : (t d : ℕ) → covers s t d ≡ (eqb t d || of_parent (covers s t) (s.parent d))
  unfolding covers
  covers_step t d = enough s.cards t d refl

  pub covers_self : (t : ℕ) → covers s t t ≡ true
  covers_self t = covers_step t t ∙ ap (λ (x : Bool). x || of_parent (covers s t) (s.parent t)) (eq-eqb t t refl)

  -- one link up
  pub covers_up : (t d p : ℕ) (b : Side) → s.parent d ≡ Some (p, b) → covers s t d ≡ (eqb t d || covers s t p)
  covers_up t d p b e = covers_step t d ∙ ap (λ (o : Option (ℕ × Side)). eqb t d || of_parent (covers s t) o) e

  pub covers_other : (t d p : ℕ) (b : Side) → s.parent d ≡ Some (p, b) → (t ≡ d → ⊥) → covers s t d ≡ covers s t p
  covers_other t d p b e z = covers_up t d p b e ∙ ap (λ (x : Bool). x || covers s t p) (ne_eqb t d z)

  -- a card above another has a lower number
  pub in_le : (k t d : ℕ) → covers_in s k t d ≡ true → t ≤ d
  unfolding covers_in
  in_le zero t d e = absurd (grind arith)
  in_le (suc k) t d e = or_cases (eqb t d) (of_parent (covers_in s k t) (s.parent d)) e (λ q. let u = eqb-true t d q in omega arith) (λ q. parents (s.parent d) refl q (in_le k t))
    where
      parents : (o : Option (ℕ × Side)) → s.parent d ≡ o → of_parent (covers_in s k t) o ≡ true → ((p : ℕ) → covers_in s k t p ≡ true → t ≤ p) → t ≤ d
      parents None q x ih = absurd (grind arith)
      parents (Some (p, b)) q x ih = let u = (L.below d p b q).0 in let v = ih p x in omega arith

  pub covers_le : (t d : ℕ) → covers s t d ≡ true → t ≤ d
  unfolding covers
  covers_le t d e = in_le s.cards t d e

  -- every card but the root has a parent
  pub parent_of : (d : ℕ) → 0 < d → d < s.cards → (p : ℕ) × (b : Side) × (s.parent d ≡ Some (p, b))
  parent_of d z l = by (s.parent d) refl (L.others d z l)
    where
      by : (o : Option (ℕ × Side)) → s.parent d ≡ o → is_some (s.parent d) ≡ true → (p : ℕ) × (b : Side) × (s.parent d ≡ Some (p, b))
      by None q x = absurd (let y : false ≡ true = ap is_some (sym q) ∙ x in grind arith)
      by (Some (p, b)) q x = (p, b, q)

  -- card 0 stands over every card
  root_in : (k d : ℕ) → d < k → d < s.cards → covers_in s k 0 d ≡ true
  unfolding covers_in
  root_in zero d h l = absurd (omega arith)
  root_in (suc k) d h l = by (eqb 0 d) refl (λ p. root_in k p)
    where
      by : (x : Bool) → eqb 0 d ≡ x → ((p : ℕ) → p < k → p < s.cards → covers_in s k 0 p ≡ true) → (x || of_parent (covers_in s k 0) (s.parent d)) ≡ true
      by true q ih = refl
      by false q ih =
          let z : 0 < d = let n = eqb-false 0 d q in omega arith in
          let (p, b, e) = parent_of d z l in
          let u = (L.below d p b e).0 in
          ap (of_parent (covers_in s k 0)) e ∙ ih p (omega arith) (omega arith)

  pub root_covers : (d : ℕ) → d < s.cards → covers s 0 d ≡ true
  unfolding covers
  root_covers d l = root_in s.cards d l l

  -- a card without a parent is covered by itself alone
  pub covers_none : (t d : ℕ) → t < d → None ≡ s.parent d → false ≡ covers s t d
  covers_none t d l e =
      sym (covers_step t d ∙ (ap (λ (o : Option (ℕ × Side)). eqb t d || of_parent (covers s t) o) (sym e) ∙ ap (λ (x : Bool). x || false) (ne_eqb t d (λ q. omega arith))))

  -- what stands over a card stands over all below it
  in_over : (k u t d : ℕ) → covers s u t ≡ true → covers_in s k t d ≡ true → covers s u d ≡ true
  unfolding covers_in
  in_over zero u t d a e = absurd (grind arith)
  in_over (suc k) u t d a e = or_cases (eqb t d) (of_parent (covers_in s k t) (s.parent d)) e (λ q. ap (covers s u) (sym (eqb-true t d q)) ∙ a) (λ q. parents (s.parent d) refl q (λ p. in_over k u t p a))
    where
      parents : (o : Option (ℕ × Side)) → s.parent d ≡ o → of_parent (covers_in s k t) o ≡ true → ((p : ℕ) → covers_in s k t p ≡ true → covers s u p ≡ true) → covers s u d ≡ true
      parents None q x ih = absurd (grind arith)
      parents (Some (p, b)) q x ih = covers_up u d p b q ∙ or_right (eqb u d) (covers s u p) (ih p x)

  pub covers_over : (u t d : ℕ) → covers s u t ≡ true → covers s t d ≡ true → covers s u d ≡ true
  unfolding covers
  covers_over u t d a e = in_over s.cards u t d a e
