-- A table is sound exactly if the tree that it lists keeps the laws.
use Rattle.std.proofs.Common.{◌≡◌, ℕ, ◌/◌, ◌%◌, ◌<◌, true, eqb, ◌⊎◌, List, length, is_some, Some, None, Option, sym, refl, ap, ◌∙◌, subst, inl, inr, arith}
use Rattle.std.proofs.lemmas.Bool.{false≢true}
use Rattle.std.specs.List.{position, position_or_len}
use Rattle.std.proofs.lemmas.Grind.{common_steps}
use Rattle.std.proofs.lemmas.List.Sums.{fails_before_first}
use Rattle.std.proofs.lemmas.List.Quantifiers.{position-Some}
use Rattle.std.proofs.lemmas.Option.{same_Some}
use Rattle.packet.specs.declared.sides.Side.{Side}
use Rattle.packet.specs.declared.sides.Side.TheVariants.{Left, Right}
use Rattle.packet.specs.Routes.{side_of}
use Rattle.wiring.specs.Shapes.{Shape, Lawful}
use Rattle.wiring.specs.Tables.{Sized, no_entry, listed_cards, entry_of, entry_at, listed_by, IsTreeOf, Sound}
use Rattle.wiring.specs.Wireds.{listed_shape}

-- the side of a place
abbrev pub side_at : ℕ → Side
side_at p = side_of (eqb (p % 2) 1)

pub entry_back : (p : ℕ) → entry_of (p / 2) (side_at p) ≡ p
entry_back p = grind (arith, common_steps)

pub none_or_some : {A : Type 0} (o : Option A) → (o ≡ None) ⊎ ((x : A) × (o ≡ Some x))
none_or_some None = inl refl
none_or_some (Some x) = inr (x, refl)

pub listed_some : (e c : ℕ) → listed_by e ≡ Some c → (e ≡ c) × (e ≡ no_entry → ⊥)
listed_some e c h = grind (arith, common_steps)

pub listed_is : (e : ℕ) → (e ≡ no_entry → ⊥) → listed_by e ≡ Some e
listed_is e n = grind (arith, common_steps)

-- the first place of a card that stands somewhere
first_place : (c : ℕ) (t : List ℕ) (i : ℕ) → i < length t → entry_at t i ≡ c → (p : ℕ) × (position (λ e. eqb e c) t ≡ Some p)
first_place c t i l e =
    let first = fails_before_first (λ e. eqb e c) t i 255 in
    (position_or_len (λ e. eqb e c) t, grind (arith, common_steps))

-- the card of an entry
pub entry_half : (p : ℕ) (b : Side) → entry_of p b / 2 ≡ p
entry_half p Left = omega arith
entry_half p Right = omega arith

pub entry_within : (t : List ℕ) (p : ℕ) (b : Side) → p < listed_cards t → entry_of p b < length t
entry_within t p Left l = omega arith
entry_within t p Right l = omega arith

-- a lawful tree with the daughters that the table lists
module _ (t : List ℕ) (s : Shape) (sized : Sized t) (tree : IsTreeOf t s) where
  -- the card that an entry names has the entry's card and side as its parent
  named_parent : (i c : ℕ) → i < length t → entry_at t i ≡ c → (c ≡ no_entry → ⊥) → s.parent c ≡ Some (i / 2, side_at i)
  named_parent i c l e n =
      let back = entry_back i in
      let told = tree.lawful.told (side_at i) (i / 2) c in
      let listed = tree.lists.daughters (side_at i) (i / 2) in
      grind (arith, common_steps)

  -- a card's parent names it in the entry on its side
  parent_names : (c p : ℕ) (b : Side) → s.parent c ≡ Some (p, b) → (entry_of p b < length t) × (entry_at t (entry_of p b) ≡ c)
  parent_names c p b e =
      let tells = tree.lawful.tells b p c e in
      let listed = tree.lists.daughters b p in
      let within = entry_within t p b in
      grind (arith, common_steps, listed_some)

  pub tree_sound : Sound t
  tree_sound =
      let none : (i c : ℕ) → i < length t → entry_at t i ≡ c → (c ≡ no_entry → ⊥) → c < listed_cards t = λ i c l e n. omega (arith, tree.lists.cards, tree.lawful.below c (i / 2) (side_at i) (named_parent i c l e n)) in
      record {
        ranges = λ i l n. none i (entry_at t i) l refl n;
        rootless = λ i l e. let p = named_parent i 0 l e (λ z. omega (arith, z)) in let r = tree.lawful.root in cc;
        once = λ c z m.
            elim (none_or_some (s.parent c)) [
              | inl e ↦ let n : is_some (s.parent c) ≡ true = tree.lawful.others c z (omega (arith, tree.lists.cards)) in absurd (false≢true (sym (ap is_some e) ∙ n))
              | inr (x, e) ↦
                  let k = parent_names c x.0 x.1 e in
                  record {
                    place = entry_of x.0 x.1;
                    within = k.0;
                    here = k.1;
                    lower = let w = (tree.lawful.below c x.0 x.1 e).0 in omega (arith, entry_half x.0 x.1);
                    only = λ j l f.
                        let same = same_Some x (j / 2, side_at j) (sym e ∙ named_parent j c l f (omega (arith, sized.2))) in
                        sym (entry_back j) ∙ ap (λ (y : ℕ × Side). entry_of y.0 y.1) (sym same);
                  }
            ];
      }

  -- so the tree that is listed is this tree
  same_parent : (c : ℕ) → s.parent c ≡ (listed_shape t).parent c
  same_parent c =
      elim (none_or_some (s.parent c)) [
        | inl e ↦ let p = position-Some (λ e. eqb e c) t in let w = named_parent in grind (arith, common_steps)
        | inr (x, e) ↦ let p = position-Some (λ e. eqb e c) t in let w = named_parent in let k = parent_names c x.0 x.1 e in let f = first_place c t (entry_of x.0 x.1) k.0 k.1 in let m = tree.lawful.below c x.0 x.1 e in grind (arith, common_steps)
      ]

  pub tree_lawful : Lawful (listed_shape t)
  tree_lawful =
      let same : s ≡ listed_shape t = λ i. record { cards = tree.lists.cards i; daughter = λ b c. tree.lists.daughters b c i; parent = λ c. same_parent c i } in
      subst Lawful same tree.lawful
