-- The lowest card over others, found by a test of every card.
use Rattle.std.proofs.Common.{◌≡◌, ℕ, zero, suc, ◌<◌, Bool, true, false, not, ◌&&◌, ◌||◌, eqb, ltb, List, ◌∷◌, sym, refl, ap, ◌∙◌, arith, ltb-true, eqb-true}
use borrow.Author.Tests.{eqb-false}
use Rattle.wiring.specs.Shapes.{Shape, Lawful}
use Rattle.routing.specs.Subtrees.{covers, covers_all}
use Rattle.routing.specs.Orders.{Lowest}
use Rattle.routing.proofs.Subtree.{covers_le, or_cases}
use Rattle.std.proofs.lemmas.Bool.{and_parts}

-- does every number below n pass the test
unfoldable pub every_below : ℕ → (ℕ → Bool) → Bool
every_below zero f = true
every_below (suc n) f = f n && every_below n f

every_at : (n : ℕ) (f : ℕ → Bool) → every_below n f ≡ true → (k : ℕ) → k < n → f k ≡ true
unfolding every_below
every_at zero f e k l = absurd (omega arith)
every_at (suc n) f e k l =
    let (a, b) = and_parts (f n) (every_below n f) e in
    by (eqb k n) refl a b (every_at n f)
  where
    by : (x : Bool) → eqb k n ≡ x → f n ≡ true → every_below n f ≡ true → (every_below n f ≡ true → (j : ℕ) → j < n → f j ≡ true) → f k ≡ true
    by true q a b ih = ap f (eqb-true k n q) ∙ a
    by false q a b ih = ih b k (let z = eqb-false k n q in omega arith)

-- t has the first card c and all others, and every card that has them is t or above it
unfoldable pub lowest_test : Shape → ℕ → List ℕ → ℕ → Bool
lowest_test s c cs t = ltb c s.cards && covers_all s t (c ∷ cs) && every_below s.cards (λ u. not (covers_all s u (c ∷ cs)) || covers s u t)

pub tested : (s : Shape) → Lawful s → (c : ℕ) (cs : List ℕ) (t : ℕ) → lowest_test s c cs t ≡ true → Lowest s (c ∷ cs) t
unfolding lowest_test
tested s L c cs t e =
    let (p, every) = and_parts _ _ e in
    let (card, has) = and_parts _ _ p in
    record {
      has = has;
      above = λ u h.
          let le = covers_le s L u c (and_parts _ _ h).0 in
          let lt = ltb-true c s.cards card in
          let x = every_at s.cards _ every u (omega arith) in
          or_cases (not (covers_all s u (c ∷ cs))) (covers s u t) x (λ n. absurd (let z : not (covers_all s u (c ∷ cs)) ≡ false = ap not h in let y : true ≡ false = sym n ∙ z in grind arith)) (λ y. y);
    }
