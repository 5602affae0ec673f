-- The lowest card over others.
use Rattle.std.proofs.Common.{◌≡◌, ℕ, ◌+◌, ◌<◌, Bool, true, false, ◌&&◌, List, [], ◌∷◌, length, get_or, take, drop, Some, None, Option, sym, refl, ap, ◌∙◌, arith}
use Rattle.std.proofs.lemmas.Bool.{and_parts, and_from, and_left}
use Rattle.std.proofs.lemmas.List.{take-append-drop}
use Rattle.std.proofs.lemmas.List.Folds.{list_all_more, list_all-append}
use Rattle.packet.specs.declared.sides.Side.{Side}
use Rattle.wiring.specs.Shapes.{Shape, Lawful}
use Rattle.routing.specs.Subtrees.{covers, covers_all}
use Rattle.routing.specs.Orders.{Lowest, LowestOf}
use Rattle.routing.proofs.Subtree.{covers_none, covers_other, covers_le, covers_self, covers_over}

pub and_false : (x : Bool) → (x && false) ≡ false
and_false true = refl
and_false false = refl

pub and_true : (x : Bool) → (x && true) ≡ x
and_true true = refl
and_true false = refl

pub and_comm : (x y : Bool) → (x && y) ≡ (y && x)
and_comm true y = sym (and_true y)
and_comm false y = sym (and_false y)

pub and_assoc : (x y z : Bool) → (x && y && z) ≡ (x && (y && z))
and_assoc true y z = refl
and_assoc false y z = refl

module _ (s : Shape) (L : Lawful s) where
  -- the card with the higher number goes up
  pub meet_up : (a b p u : ℕ) (i : Side) → b < a → s.parent a ≡ Some (p, i) → (covers s u p && covers s u b) ≡ (covers s u a && covers s u b)
  meet_up a b p u i l e = by (covers s u b) refl
    where
      by : (x : Bool) → covers s u b ≡ x → (covers s u p && x) ≡ (covers s u a && x)
      by true q = ap (λ (y : Bool). y && true) (sym (covers_other s L u a p i e (λ z. let m = covers_le s L u b q in omega arith)))
      by false q = and_false (covers s u p) ∙ sym (and_false (covers s u a))

  pub meet_up' : (a b p u : ℕ) (i : Side) → a < b → s.parent b ≡ Some (p, i) → (covers s u a && covers s u p) ≡ (covers s u a && covers s u b)
  meet_up' a b p u i l e = and_comm (covers s u a) (covers s u p) ∙ (meet_up b a p u i l e ∙ and_comm (covers s u b) (covers s u a))

  -- a card without a parent is under itself alone, and no card is above a lower one
  pub no_meet : (a b u : ℕ) → b < a → s.parent a ≡ None → (covers s u a && covers s u b) ≡ false
  no_meet a b u l e = by (covers s u b) refl
    where
      by : (x : Bool) → covers s u b ≡ x → (covers s u a && x) ≡ false
      by true q = ap (λ (y : Bool). y && true) (sym (covers_none s L u a (let m = covers_le s L u b q in omega arith) (sym e)))
      by false q = and_false (covers s u a)

  pub no_meet' : (a b u : ℕ) → a < b → s.parent b ≡ None → (covers s u a && covers s u b) ≡ false
  no_meet' a b u l e = and_comm (covers s u a) (covers s u b) ∙ no_meet b a u l e

pub and_same : (x : Bool) → (x && x) ≡ x
and_same true = refl
and_same false = refl

-- what all cards over a list stand over is the lowest of them
pub lowest_by : (s : Shape) → Lawful s → (cs : List ℕ) (t : ℕ) → ((u : ℕ) → covers s u t ≡ covers_all s u cs) → Lowest s cs t
lowest_by s L cs t e = record { has = sym (e t) ∙ covers_self s L t; above = λ u h. e u ∙ h }

module _ (s : Shape) (a b : ℕ) where
  both : (u : ℕ) → covers_all s u (a ∷ b ∷ []) ≡ (covers s u a && covers s u b)
  both u = ap (λ (x : Bool). covers s u a && x) (and_true (covers s u b))

  pub meet_lowest : Lawful s → (t : ℕ) → ((u : ℕ) → covers s u t ≡ (covers s u a && covers s u b)) → Lowest s (a ∷ b ∷ []) t
  meet_lowest L t e = lowest_by s L (a ∷ b ∷ []) t (λ u. e u ∙ sym (both u))

  pub meet_none : (o : Option ℕ) → o ≡ None → ((u : ℕ) → (covers s u a && covers s u b) ≡ false) → LowestOf s (a ∷ b ∷ []) o
  meet_none o e f = rw e (λ u. both u ∙ f u)

module _ (s : Shape) (L : Lawful s) where
  over_all : (u t : ℕ) (cs : List ℕ) → covers s u t ≡ true → covers_all s t cs ≡ true → covers_all s u cs ≡ true
  over_all u t [] a e = refl
  over_all u t (c ∷ cs) a e =
      let (x, y) = and_parts _ _ e in
      and_from _ _ (covers_over s L u t c a x) (over_all u t cs a y)

  -- just the cards over the lowest stand over them all
  pub lowest_covers : (cs : List ℕ) (t : ℕ) → Lowest s cs t → (u : ℕ) → covers s u t ≡ covers_all s u cs
  lowest_covers cs t k u = by (covers s u t) (covers_all s u cs) refl refl
    where
      by : (x y : Bool) → covers s u t ≡ x → covers_all s u cs ≡ y → x ≡ y
      by true y e f = sym (over_all u t cs e k.has) ∙ f
      by false true e f = sym e ∙ k.above u f
      by false false e f = refl

  -- one card more
  module _ (first : ℕ) (cs : List ℕ) (i t : ℕ) (l : i < length cs) (low : Lowest s (first ∷ take i cs) t) where
    next : (u : ℕ) → covers_all s u (t ∷ get_or cs i 0 ∷ []) ≡ covers_all s u (first ∷ take (i + 1) cs)
    next u =
        ap (λ (x : Bool). x && (covers s u (get_or cs i 0) && true)) (lowest_covers (first ∷ take i cs) t low u) ∙
        (and_assoc (covers s u first) (covers_all s u (take i cs)) (covers s u (get_or cs i 0) && true) ∙
        ap (λ (x : Bool). covers s u first && x)
        (ap (λ (x : Bool). covers_all s u (take i cs) && x) (and_true (covers s u (get_or cs i 0))) ∙ sym (list_all_more (covers s u) cs i 0 l)))

    pub lowest_more : (v : ℕ) → Lowest s (t ∷ get_or cs i 0 ∷ []) v → Lowest s (first ∷ take (i + 1) cs) v
    lowest_more v k = lowest_by s L (first ∷ take (i + 1) cs) v (λ u. lowest_covers (t ∷ get_or cs i 0 ∷ []) v k u ∙ next u)

    front : (u : ℕ) → covers_all s u (first ∷ cs) ≡ (covers_all s u (first ∷ take (i + 1) cs) && covers_all s u (drop (i + 1) cs))
    front u =
        ap (λ (xs : List ℕ). covers_all s u (first ∷ xs)) (sym (take-append-drop (i + 1) cs)) ∙ list_all-append (covers s u) (first ∷ take (i + 1) cs) (drop (i + 1) cs)

    pub lowest_none : (o : Option ℕ) → o ≡ None → ((u : ℕ) → covers_all s u (t ∷ get_or cs i 0 ∷ []) ≡ false) → LowestOf s (first ∷ cs) o
    lowest_none o e f = rw e (λ u. front u ∙ and_left _ _ (sym (next u) ∙ f u))
