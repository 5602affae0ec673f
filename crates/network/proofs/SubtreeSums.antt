-- A sum over a card's subtree is a sum over all cards that it stands above.
use Rattle.std.proofs.Common.{◌≡◌, ℕ, zero, suc, ◌+◌, ◌<◌, ◌≤◌, Bool, cond, eqb, Some, None, Option, sym, refl, ap, ◌∙◌, arith, eq-eqb, ne_eqb}
use native.Mathlib.Decide.{ℕ_discrete}
use Rattle.packet.specs.declared.sides.Side.{Side}
use Rattle.packet.specs.declared.sides.Side.TheVariants.{Left, Right}
use Rattle.wiring.specs.Shapes.{Shape}
use Rattle.routing.specs.Subtrees.{count_below, covers, of_daughter}
use Rattle.routing.proofs.Splitting.{split}
use Rattle.network.specs.Sums.{sum_over, sum_to}
use Rattle.network.proofs.Basics.{sum_to_same, sum_to_none}
use Rattle.network.proofs.Channels.{Rooted}
use Rattle.network.proofs.Trip.{over, subtree}
use Rattle.network.proofs.TripWeights.{sum_over-append}

sum_to_add : (n : ℕ) (f g : ℕ → ℕ) → sum_to n (λ d. f d + g d) ≡ sum_to n f + sum_to n g
unfolding sum_to
sum_to_add zero f g = refl
sum_to_add (suc n) f g = let t = sum_to_add n f g in omega arith

-- the sum of a function that is 0 but at c
pub sum_to_point : (n c : ℕ) (f : ℕ → ℕ) → c < n → sum_to n (λ d. cond (eqb c d) (f d) 0) ≡ f c
unfolding sum_to
sum_to_point zero c f h = absurd (omega arith)
sum_to_point (suc n) c f h =
    elim (ℕ_discrete c n) [
      | yes p ↦
          let z : sum_to n (λ d. cond (eqb c d) (f d) 0) ≡ 0 = sum_to_same n _ (λ d. 0) (λ d l. rw (ne_eqb c d (λ e. below d l (sym e ∙ p)))) ∙ sum_to_none n _ (λ d. refl) in
          let u : cond (eqb c n) (f n) 0 ≡ f c = rw (eq-eqb c n p) (ap f (sym p)) in
          omega arith
      | no np ↦
          let t = sum_to_point n c f (omega arith) in
          let u : cond (eqb c n) (f n) 0 ≡ 0 = rw (ne_eqb c n np) in
          omega arith
    ]
  where
    below : (d : ℕ) → d < n → d ≡ n → ⊥
    below d l e = omega arith

-- a count is a sum of ones
pub count-sum : (n : ℕ) (f : ℕ → Bool) → count_below n f ≡ sum_to n (λ d. cond (f d) 1 0)
unfolding count_below sum_to
count-sum zero f = refl
count-sum (suc n) f = ap (λ (m : ℕ). m + cond (f n) 1 0) (count-sum n f)

module _ (W : Shape) (L : Rooted W) where
  -- the sum over a subtree
  module _ (f : ℕ → ℕ) where
    abbrev under : ℕ → ℕ → ℕ
    under t d = cond (covers W t d) (f d) 0

    pub subtree-sum : (k c : ℕ) → c < W.cards → W.cards ≤ c + k → sum_over (subtree W k c) f ≡ sum_to W.cards (under c)
    unfolding subtree sum_over over
    subtree-sum zero c h l = absurd (omega arith)
    subtree-sum (suc k) c h l =
        let a = sum_over-append f (over (subtree W k) (W.daughter Left c)) (over (subtree W k) (W.daughter Right c)) in
        let p = side Left (W.daughter Left c) refl (λ e g m. subtree-sum k e g m) in
        let q = side Right (W.daughter Right c) refl (λ e g m. subtree-sum k e g m) in
        let s = sum_to_same W.cards (under c) (λ d. cond (eqb c d) (f d) 0 + of_daughter (λ t. under t d) (W.daughter Left c) + of_daughter (λ t. under t d) (W.daughter Right c)) (λ d m. split W L.lawful (f d) c d) in
        let t = sum_to_add W.cards (λ d. cond (eqb c d) (f d) 0 + of_daughter (λ t. under t d) (W.daughter Left c)) (λ d. of_daughter (λ t. under t d) (W.daughter Right c)) in
        let u = sum_to_add W.cards (λ d. cond (eqb c d) (f d) 0) (λ d. of_daughter (λ t. under t d) (W.daughter Left c)) in
        let v = sum_to_point W.cards c f h in
        omega arith
      where
        side : (b : Side) (o : Option ℕ) → W.daughter b c ≡ o → ((e : ℕ) → e < W.cards → W.cards ≤ e + k → sum_over (subtree W k e) f ≡ sum_to W.cards (under e)) →
            sum_over (over (subtree W k) o) f ≡ sum_to W.cards (λ d. of_daughter (λ t. under t d) o)
        side b None q rec = sym (sum_to_none W.cards _ (λ d. refl))
        side b (Some e) q rec = let t = L.below e c (L.up b c e q) in rec e t.1 (omega arith)
