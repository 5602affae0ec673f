-- The cards from one upward, against `climb` and `covers`.
use Rattle.std.proofs.Common.{◌≡◌, ℕ, zero, suc, ◌<◌, Bool, true, false, cond, ◌≤◌, ◌||◌, eqb, leb, List, ◌∷◌, length, Some, None, Option, option_map, sym, refl, ap, ◌∙◌, arith, leb-false, eqb-true}
use Rattle.std.specs.List.{list_any, slice_get, take_while, find, position_or_len}
use Rattle.std.proofs.lemmas.List.Folds.{find_at}
use Rattle.std.proofs.lemmas.List.Sums.{take_while-cons}
use Rattle.packet.specs.declared.sides.Side.{Side}
use Rattle.wiring.specs.Shapes.{Shape, Lawful}
use Rattle.routing.specs.Ancestors.{above, upward_in, upward, upward_from}
use Rattle.routing.specs.Walks.{from_parent, climb}
use Rattle.routing.specs.Subtrees.{of_parent, covers_in, covers}
use Rattle.routing.proofs.Subtree.{in_le}

module _ (s : Shape) (L : Lawful s) where
  -- any number of cards looked at above c will do
  stable : (k l c : ℕ) → c < k → c < l → upward_in s k c ≡ upward_in s l c
  unfolding upward_in
  stable zero l c h m = absurd (omega arith)
  stable (suc k) zero c h m = absurd (omega arith)
  stable (suc k) (suc l) c h m = ap (λ (xs : List ℕ). c ∷ xs) (parents (s.parent c) refl (λ p. stable k l p))
    where
      parents : (o : Option (ℕ × Side)) → s.parent c ≡ o → ((p : ℕ) → p < k → p < l → upward_in s k p ≡ upward_in s l p) → above (upward_in s k) o ≡ above (upward_in s l) o
      parents None e ih = refl
      parents (Some (p, b)) e ih = let u = (L.below c p b e).0 in ih p (omega arith) (omega arith)

  enough : (n c : ℕ) → s.cards ≡ n → upward_in s n c ≡ c ∷ above (upward_in s n) (s.parent c)
  unfolding upward_in
  enough zero c e = absurd (let m = L.some in omega arith)
  enough (suc n) c e = ap (λ (xs : List ℕ). c ∷ xs) (parents (s.parent c) refl)
    where
      parents : (o : Option (ℕ × Side)) → s.parent c ≡ o → above (upward_in s n) o ≡ above (upward_in s (suc n)) o
      parents None q = refl
      parents (Some (p, b)) q = let u = L.below c p b q in stable n (suc n) p (omega arith) (omega arith)

  few_in : (k c : ℕ) → length (upward_in s k c) ≤ k
  unfolding upward_in
  few_in zero c = omega arith
  few_in (suc k) c = by (few_in k) (s.parent c)
    where
      by : ((p : ℕ) → length (upward_in s k p) ≤ k) → (o : Option (ℕ × Side)) → length (c ∷ above (upward_in s k) o) ≤ suc k
      by ih None = omega arith
      by ih (Some p) = let l = ih p.0 in omega arith

  pub upward_few : (c : ℕ) → length (upward s c) ≤ 31
  unfolding upward
  upward_few c = let l = few_in s.cards c in let m = L.few in omega arith

  -- first the card, then those from its parent upward
  pub upward_step : (c : ℕ) → upward s c ≡ c ∷ upward_from s (option_map (λ (p : ℕ × Side). p.0) (s.parent c))
  unfolding upward
  upward_step c = rw (enough s.cards c refl) (ap (λ (xs : List ℕ). c ∷ xs) (parents (s.parent c)))
    where
      parents : (o : Option (ℕ × Side)) → above (upward_in s s.cards) o ≡ upward_from s (option_map (λ (p : ℕ × Side). p.0) o)
      parents None = refl
      parents (Some p) = refl

module _ (s : Shape) (L : Lawful s) where
  covers_upward_in : (k t d : ℕ) → covers_in s k t d ≡ list_any (eqb t) (take_while (λ c. leb t c) (upward_in s k d))
  unfolding covers_in upward_in
  covers_upward_in zero t d = refl
  covers_upward_in (suc k) t d = by (leb t d) refl (parents (covers_upward_in k t) (s.parent d))
    where
      parents : ((p : ℕ) → covers_in s k t p ≡ list_any (eqb t) (take_while (λ c. leb t c) (upward_in s k p))) → (o : Option (ℕ × Side)) →
          of_parent (covers_in s k t) o ≡ list_any (eqb t) (take_while (λ c. leb t c) (above (upward_in s k) o))
      parents ih None = refl
      parents ih (Some p) = ih p.0

      none : leb t d ≡ false → (x : Bool) → covers_in s (suc k) t d ≡ x → covers_in s (suc k) t d ≡ false
      none q true e = absurd (let l = in_le s L (suc k) t d e in let m = leb-false t d q in omega arith)
      none q false e = e

      by : (x : Bool) → leb t d ≡ x → of_parent (covers_in s k t) (s.parent d) ≡ list_any (eqb t) (take_while (λ c. leb t c) (above (upward_in s k) (s.parent d))) →
          covers_in s (suc k) t d ≡ list_any (eqb t) (take_while (λ c. leb t c) (upward_in s (suc k) d))
      by true q e = rw (take_while-cons (leb t) d (above (upward_in s k) (s.parent d)), q) (ap (λ (x : Bool). eqb t d || x) e)
      by false q e = rw q (none q (covers_in s (suc k) t d) refl)

  -- a card stands over another where it is found on the way up from it, among those that are not lower
  pub covers_upward : (t d : ℕ) → covers s t d ≡ list_any (eqb t) (take_while (λ c. leb t c) (upward s d))
  unfolding covers upward
  covers_upward t d = covers_upward_in s.cards t d

  -- a climb of so many links
  pub climb_upward : (a c : ℕ) → climb s a c ≡ slice_get (upward s c) a
  unfolding climb
  climb_upward zero c = rw (upward_step s L c)
  climb_upward (suc a) c = rw (upward_step s L c) (by (climb_upward a) (s.parent c))
    where
      by : ((p : ℕ) → climb s a p ≡ slice_get (upward s p) a) → (o : Option (ℕ × Side)) → from_parent (climb s a) o ≡ slice_get (upward_from s (option_map (λ (p : ℕ × Side). p.0) o)) a
      by ih None = refl
      by ih (Some (p, b)) = ih p

  found_in : (k t d : ℕ) → covers_in s k t d ≡ true → find (eqb t) (upward_in s k d) ≡ Some t
  unfolding covers_in upward_in
  found_in zero t d e = absurd (grind arith)
  found_in (suc k) t d e = by (eqb t d) refl e (found_in k t)
    where
      parents : (o : Option (ℕ × Side)) → of_parent (covers_in s k t) o ≡ true → ((p : ℕ) → covers_in s k t p ≡ true → find (eqb t) (upward_in s k p) ≡ Some t) →
          find (eqb t) (above (upward_in s k) o) ≡ Some t
      parents None e ih = absurd (grind arith)
      parents (Some p) e ih = ih p.0 e

      by : (x : Bool) → eqb t d ≡ x → (x || of_parent (covers_in s k t) (s.parent d)) ≡ true → ((p : ℕ) → covers_in s k t p ≡ true → find (eqb t) (upward_in s k p) ≡ Some t) →
          cond x (Some d) (find (eqb t) (above (upward_in s k) (s.parent d))) ≡ Some t
      by true q e ih = ap Some (sym (eqb-true t d q))
      by false q e ih = parents (s.parent d) e ih

  -- the climb to a card that stands over this one
  pub climb_to : (t d : ℕ) → covers s t d ≡ true → climb s (position_or_len (eqb t) (upward s d)) d ≡ Some t
  unfolding covers upward
  climb_to t d e = climb_upward (position_or_len (eqb t) (upward s d)) d ∙ (sym (find_at (eqb t) (upward s d)) ∙ found_in s.cards t d e)
