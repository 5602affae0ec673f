-- A card's subtree is the card and the subtrees of its daughters.
use Rattle.std.proofs.Common.{◌≡◌, ℕ, zero, suc, ◌+◌, ◌<◌, ◌≤◌, false, cond, eqb, ◌≢◌, Some, None, Option, sym, refl, ap, ◌∙◌, arith, eq-eqb, ne_eqb}
use Rattle.std.proofs.lemmas.Bool.{false_from_ne_true}
use Rattle.std.proofs.lemmas.Option.{same_Some}
use native.Mathlib.Decide.{ℕ_discrete}
use Rattle.packet.specs.declared.sides.Side.{Side}
use Rattle.packet.specs.declared.sides.Side.TheVariants.{Left, Right}
use Rattle.wiring.specs.Shapes.{Shape, Lawful}
use Rattle.routing.specs.Subtrees.{of_daughter, covers}
use Rattle.routing.proofs.Subtree.{covers_le, covers_other, covers_self, covers_step}

side_number : Side → ℕ
side_number Left = 0
side_number Right = 1

module _ (s : Shape) (L : Lawful s) where
  covers_no : (t d : ℕ) → d < t → covers s t d ≡ false
  covers_no t d h = false_from_ne_true _ (λ e. let l = covers_le s L t d e in omega arith)

  covers_top : (t d : ℕ) → t ≢ d → s.parent d ≡ None → covers s t d ≡ false
  covers_top t d n p = covers_step s L t d ∙ rw (p, ne_eqb t d n)

  -- a daughter is a card with a higher number
  pub daughter_card : (b : Side) (c d : ℕ) → s.daughter b c ≡ Some d → (c < d) × (d < s.cards)
  daughter_card b c d e = L.below d c b (L.told b c d e)

  -- a card is the daughter of one card
  one_parent : (c a e d : ℕ) (b b' : Side) → s.daughter b c ≡ Some e → s.parent d ≡ Some (a, b') → e ≡ d → c ≡ a
  one_parent c a e d b b' q p z =
      let y : Some (c, b) ≡ Some (a, b') = sym (L.told b c e q) ∙ ap s.parent z ∙ p in ap (λ (x : ℕ × Side). x.0) (same_Some _ _ y)

  -- on one side
  one_side : (c d : ℕ) → s.daughter Left c ≡ Some d → s.daughter Right c ≡ Some d → ⊥
  unfolding side_number
  one_side c d p q =
      let y : ◌≡◌ {A = Option (ℕ × Side)} (Some (c, Left)) (Some (c, Right)) = sym (L.told Left c d p) ∙ L.told Right c d q in
      let z : ◌≡◌ {A = ℕ} 0 1 = ap (λ (x : ℕ × Side). side_number x.1) (same_Some _ _ y) in
      omega arith

  module _ (v c : ℕ) where
    abbrev hit : ℕ → ℕ → ℕ
    hit d t = cond (covers s t d) v 0

    -- a daughter of c that stands above d stands above its parent, if it is not d
    side_same : (d a : ℕ) (b b' : Side) (o : Option ℕ) → s.daughter b c ≡ o → s.parent d ≡ Some (a, b') → c ≢ a → of_daughter (hit d) o ≡ of_daughter (hit a) o
    side_same d a b b' None q p n = refl
    side_same d a b b' (Some e) q p n = rw (covers_other s L e d a b' p (λ z. n (one_parent c a e d b b' q p z)))

    -- a daughter of c stands above no card up to c
    side_none : (d : ℕ) (b : Side) (o : Option ℕ) → s.daughter b c ≡ o → d ≤ c → of_daughter (hit d) o ≡ 0
    side_none d b None q l = refl
    side_none d b (Some e) q l = let t = daughter_card b c e q in rw (covers_no e d (omega arith))

    -- the daughter itself
    side_own : (d : ℕ) (b : Side) → s.daughter b c ≡ Some d → of_daughter (hit d) (s.daughter b c) ≡ v
    side_own d b q = rw (q, covers_self s L d)

    -- its sister
    side_other : (d : ℕ) (b b' : Side) (o : Option ℕ) → s.daughter b c ≡ o → s.parent d ≡ Some (c, b') → o ≢ Some d → of_daughter (hit d) o ≡ 0
    side_other d b b' None q p n = refl
    side_other d b b' (Some e) q p n =
        let t = daughter_card b c e q in
        rw (covers_other s L e d c b' p (λ z. n (ap Some z)), covers_no e c t.0)

    side_root : (d : ℕ) (b : Side) (o : Option ℕ) → s.daughter b c ≡ o → s.parent d ≡ None → of_daughter (hit d) o ≡ 0
    side_root d b None q p = refl
    side_root d b (Some e) q p = rw (covers_top e d (λ z. let y : Some (c, b) ≡ None = sym (L.told b c e q) ∙ ap s.parent z ∙ p in grind arith) p)

    abbrev Split : ℕ → Type 0
    Split d = hit d c ≡ cond (eqb c d) v 0 + of_daughter (hit d) (s.daughter Left c) + of_daughter (hit d) (s.daughter Right c)

    own_sides : (d : ℕ) (b : Side) → s.parent d ≡ Some (c, b) → s.daughter b c ≡ Some d →
        of_daughter (hit d) (s.daughter Left c) + of_daughter (hit d) (s.daughter Right c) ≡ v
    own_sides d Left p q = let x = side_own d Left q in let y = side_other d Right Left (s.daughter Right c) refl p (λ z. one_side c d q z) in omega arith
    own_sides d Right p q = let x = side_own d Right q in let y = side_other d Left Right (s.daughter Left c) refl p (λ z. one_side c d z q) in omega arith

    split_in : (k d : ℕ) → d < k → Split d
    split_in zero d h = absurd (omega arith)
    split_in (suc k) d h =
        elim (ℕ_discrete c d) [
          | yes e ↦
              let x : hit d c ≡ v = rw (e, covers_self s L d) in
              let y : cond (eqb c d) v 0 ≡ v = rw (eq-eqb c d e) in
              let l = side_none d Left (s.daughter Left c) refl (omega arith) in
              let r = side_none d Right (s.daughter Right c) refl (omega arith) in
              omega arith
          | no n ↦ ways n (s.parent d) refl (λ a l. split_in k a l)
        ]
      where
        ways : c ≢ d → (o : Option (ℕ × Side)) → s.parent d ≡ o → ((a : ℕ) → a < k → Split a) → Split d
        ways n None p rec =
            let x : hit d c ≡ 0 = rw (covers_top c d n p) in
            let y : cond (eqb c d) v 0 ≡ 0 = rw (ne_eqb c d n) in
            let l = side_root d Left (s.daughter Left c) refl p in
            let r = side_root d Right (s.daughter Right c) refl p in
            omega arith
        ways n (Some (a, b)) p rec =
            let x : hit d c ≡ hit a c = rw (covers_other s L c d a b p n) in
            let y : cond (eqb c d) v 0 ≡ 0 = rw (ne_eqb c d n) in
            let t = L.below d a b p in
            let i = rec a (omega arith) in
            elim (ℕ_discrete c a) [
              | yes e ↦
                  let p' : s.parent d ≡ Some (c, b) = p ∙ ap (λ (x : ℕ). Some (x, b)) (sym e) in
                  let z : cond (eqb c a) v 0 ≡ v = rw (eq-eqb c a e) in
                  let l = side_none a Left (s.daughter Left c) refl (omega arith) in
                  let r = side_none a Right (s.daughter Right c) refl (omega arith) in
                  let u = own_sides d b p' (L.tells b c d p') in
                  omega arith
              | no m ↦
                  let z : cond (eqb c a) v 0 ≡ 0 = rw (ne_eqb c a m) in
                  let l = side_same d a Left b (s.daughter Left c) refl p m in
                  let r = side_same d a Right b (s.daughter Right c) refl p m in
                  omega arith
            ]

    -- c stands above d if it is d or one of its daughters does
    pub split : (d : ℕ) → Split d
    split d = split_in (suc d) d (omega arith)
