-- The sizes of subtrees, from those of the daughters' subtrees.
use Rattle.std.proofs.Common.{◌≡◌, ℕ, zero, suc, get_or, replicate, ◌+◌, ◌<◌, ◌≤◌, Bool, true, false, cond, eqb, Some, None, Option, refl, ◌∙◌, arith, eq-eqb, ne_eqb}
use Rattle.std.proofs.lemmas.Bool.{false_from_ne_true}
use native.Mathlib.Decide.{ℕ_discrete}
use Rattle.packet.specs.declared.sides.Side.{Side}
use Rattle.packet.specs.declared.sides.Side.TheVariants.{Left, Right}
use Rattle.wiring.specs.Shapes.{Shape, Lawful}
use Rattle.routing.specs.Subtrees.{of_daughter, covers, count_below, subtree_size}
use Rattle.routing.specs.Places.{nowhere, place_of}
use Rattle.routing.proofs.Subtree.{covers_le}
use Rattle.routing.proofs.Splitting.{daughter_card, split}

count_few : (n : ℕ) (f : ℕ → Bool) → count_below n f ≤ n
unfolding count_below
count_few zero f = omega arith
count_few (suc n) f = by (f n) (count_few n f)
  where
    by : (b : Bool) → count_below n f ≤ n → count_below n f + cond b 1 0 ≤ suc n
    by true l = omega arith
    by false l = omega arith

count_none : (n : ℕ) (f : ℕ → Bool) → ((d : ℕ) → d < n → f d ≡ false) → count_below n f ≡ 0
unfolding count_below
count_none zero f e = refl
count_none (suc n) f e =
    let i = count_none n f (λ d l. e d (omega arith)) in
    let x : cond {A = ℕ} (f n) 1 0 ≡ 0 = rw (e n (omega arith)) in
    omega arith

-- c is one of the numbers below n
one_below : (n c : ℕ) → c < n → count_below n (eqb c) ≡ 1
unfolding count_below
one_below zero c l = absurd (omega arith)
one_below (suc n) c l =
    elim (ℕ_discrete c n) [
      | yes e ↦
          let x : cond {A = ℕ} (eqb c n) 1 0 ≡ 1 = rw (eq-eqb c n e) in
          let i = count_none n (eqb c) (λ d m. ne_eqb c d (λ z. omega arith)) in
          omega arith
      | no d ↦
          let x : cond {A = ℕ} (eqb c n) 1 0 ≡ 0 = rw (ne_eqb c n d) in
          let i = one_below n c (omega arith) in
          omega arith
    ]

of_daughter_add : (f g : ℕ → ℕ) (o : Option ℕ) → of_daughter (λ d. f d + g d) o ≡ of_daughter f o + of_daughter g o
of_daughter_add f g None = refl
of_daughter_add f g (Some d) = refl

none_of_daughter : (o : Option ℕ) → of_daughter (λ d. 0) o ≡ 0
none_of_daughter None = refl
none_of_daughter (Some d) = refl

-- nothing is kept yet
pub blank : {A : Type 0} (x : A) (n c : ℕ) → get_or (replicate n x) c x ≡ x
blank x zero c = refl
blank x (suc n) zero = refl
blank x (suc n) (suc c) = blank x n c

module _ (s : Shape) (L : Lawful s) where
  abbrev part : ℕ → ℕ → ℕ
  part n t = count_below n (covers s t)

  -- of the cards below n, those in c's subtree
  parts : (c n : ℕ) → part n c ≡ count_below n (eqb c) + of_daughter (part n) (s.daughter Left c) + of_daughter (part n) (s.daughter Right c)
  unfolding count_below
  parts c zero = let l = none_of_daughter (s.daughter Left c) in let r = none_of_daughter (s.daughter Right c) in omega arith
  parts c (suc n) =
      let i = parts c n in
      let h = split s L 1 c n in
      let l = of_daughter_add (part n) (λ t. cond (covers s t n) 1 0) (s.daughter Left c) in
      let r = of_daughter_add (part n) (λ t. cond (covers s t n) 1 0) (s.daughter Right c) in
      omega arith

  pub size_step : (c : ℕ) → c < s.cards → subtree_size s c ≡ 1 + of_daughter (subtree_size s) (s.daughter Left c) + of_daughter (subtree_size s) (s.daughter Right c)
  unfolding subtree_size
  size_step c l = let p = parts c s.cards in let o = one_below s.cards c l in omega arith

  pub size_few : (c : ℕ) → subtree_size s c ≤ 31
  unfolding subtree_size
  size_few c = let l = count_few s.cards (covers s c) in let m = L.few in omega arith

  pub no_size : (c : ℕ) → s.cards ≤ c → subtree_size s c ≡ 0
  unfolding subtree_size
  no_size c l = count_none s.cards (covers s c) (λ d m. false_from_ne_true _ (λ e. let k = covers_le s L c d e in omega arith))

  pub card_inside : (c : ℕ) → c < s.cards → c < 31
  card_inside c l = let m = L.few in omega arith

  pub daughter_inside : (b : Side) (c d : ℕ) → s.daughter b c ≡ Some d → d < 31
  daughter_inside b c d e = let k = daughter_card s L b c d e in card_inside d (omega arith)

  -- the size of a daughter's subtree, from where it is kept
  module _ (c : ℕ) (kept : ℕ → ℕ) (above : (d : ℕ) → c < d → kept d ≡ subtree_size s d) where
    kept_size : (b : Side) → of_daughter kept (s.daughter b c) ≡ of_daughter (subtree_size s) (s.daughter b c)
    kept_size b = by (s.daughter b c) refl
      where
        by : (o : Option ℕ) → s.daughter b c ≡ o → of_daughter kept o ≡ of_daughter (subtree_size s) o
        by None e = refl
        by (Some d) e = above d (daughter_card s L b c d e).0

    pub size_kept : (m n : ℕ) → c < s.cards → m ≡ of_daughter kept (s.daughter Left c) → n ≡ of_daughter kept (s.daughter Right c) → 1 + m + n ≡ subtree_size s c
    size_kept m n k x y =
        let x' = x ∙ kept_size Left in
        let y' = y ∙ kept_size Right in
        let z = size_step c k in
        omega arith

  pub no_daughter : (b : Side) (c : ℕ) → s.cards ≤ c → s.daughter b c ≡ None
  no_daughter b c l = by (s.daughter b c) refl
    where
      by : (o : Option ℕ) → s.daughter b c ≡ o → s.daughter b c ≡ None
      by None e = e
      by (Some d) e = let k = daughter_card s L b c d e in absurd (omega arith)

  pub no_parent : (c : ℕ) → s.cards ≤ c → s.parent c ≡ None
  no_parent c l = by (s.parent c) refl
    where
      by : (o : Option (ℕ × Side)) → s.parent c ≡ o → s.parent c ≡ None
      by None e = e
      by (Some (p, b)) e = let k = L.below c p b e in absurd (omega arith)

  -- the places are blank before the last card
  pub no_place : (c : ℕ) → s.cards ≤ c → place_of s c ≡ nowhere
  no_place c l = rw (no_daughter Left c l, no_daughter Right c l, no_parent c l, no_size c l)
