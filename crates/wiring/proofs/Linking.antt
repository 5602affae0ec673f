-- The cards linked, entry by entry.
use Rattle.std.proofs.Common.{add-zero, ◌≡◌, ℕ, ◌+◌, ◌*◌, ◌/◌, ◌<◌, ◌≤◌, cond, eqb, ltb, ◌⊎◌, List, length, get_or, drop, replicate, ◌++◌, is_some, Some, None, Option, sym, refl, ap, ◌∙◌, subst, inl, inr, arith}
use Rattle.std.proofs.lemmas.Grind.{common_steps}
use Rattle.std.proofs.lemmas.Bool.{le-ltb, eq-eqb, cases_eq, cases_lt, cond-true}
use Rattle.std.proofs.lemmas.Option.{MatchOption-at_some}
use Rattle.std.proofs.lemmas.List.{places, drop-drop, drop_at, length-drop, length-append, get_or_past, length-replicate, get_or_append_left}
use Rattle.packet.specs.declared.sides.Side.{Side}
use Rattle.packet.specs.declared.sides.Side.TheVariants.{Left, Right}
use Rattle.wiring.specs.declared.wired.Links.{Links}
use Rattle.wiring.specs.Tables.{Sized, no_entry, listed_cards, entry_of, entry_at, listed_by, IsTreeOf, Sound}
use Rattle.wiring.specs.Linked.{unlinked, daughter_by, daughter_in, parent_in, linked_shape, MayStand, IsLinked, AllHaveParents}
use Rattle.wiring.proofs.Judging.{side_at, entry_back, entry_half, entry_within, none_or_some, listed_some, listed_is}

-- after i entries: the cards' links agree, and their daughters are those that these entries name
pub record LinkedUpTo (t : List ℕ) (ls : List Links) (i : ℕ) : Type 0 where
  pub size : length ls ≡ listed_cards t
  pub below : (c p : ℕ) (b : Side) → parent_in ls c ≡ Some (p, b) → (p < c) × (c < length ls)
  pub told : (b : Side) (p c : ℕ) → daughter_in ls b p ≡ Some c → parent_in ls c ≡ Some (p, b)
  pub tells : (b : Side) (p c : ℕ) → parent_in ls c ≡ Some (p, b) → daughter_in ls b p ≡ Some c
  pub listed : (b : Side) (p : ℕ) → entry_of p b < i → daughter_in ls b p ≡ listed_by (entry_at t (entry_of p b))
  pub past : (b : Side) (p : ℕ) → i ≤ entry_of p b → daughter_in ls b p ≡ None

entry_same : (p q : ℕ) (b s : Side) → entry_of p b ≡ entry_of q s → (p ≡ q) × (b ≡ s)
entry_same p q Left Left e = (omega arith, refl)
entry_same p q Right Right e = (omega arith, refl)
entry_same p q Left Right e = absurd (omega arith)
entry_same p q Right Left e = absurd (omega arith)

is_or_not : (o : Option ℕ) (c : ℕ) → (o ≡ Some c) ⊎ (o ≡ Some c → ⊥)
is_or_not None c = grind (arith, common_steps)
is_or_not (Some d) c = grind (arith, common_steps)

none_linked : (n c : ℕ) → get_or (replicate n unlinked) c unlinked ≡ unlinked
none_linked n c = grind (arith, common_steps)

no_daughter : (b : Side) → daughter_by b unlinked ≡ None
no_daughter Left = refl
no_daughter Right = refl

-- nothing is linked before the first entry
pub linked_none : (t : List ℕ) → LinkedUpTo t (replicate (listed_cards t) unlinked) 0
linked_none t =
    let n = listed_cards t in
    let bare = none_linked n in
    record {
      size = length-replicate n unlinked;
      below = λ c p b e. let z = bare c in grind (arith, common_steps);
      told = λ b p c e. let z = bare p in let y = no_daughter b in grind (arith, common_steps);
      tells = λ b p c e. let z = bare c in grind (arith, common_steps);
      listed = λ b p e. absurd (omega arith);
      past = λ b p e. let z = bare p in let y = no_daughter b in grind (arith, common_steps);
    }

-- fewer than two entries are left, so none
pub table_end : (t rest : List ℕ) (c : ℕ) → Sized t → rest ≡ drop (2 * c) t → 2 * c ≤ length t → length rest < 2 → 2 * c ≡ length t
table_end t rest c sized e l few = grind (arith, common_steps)

-- the next entry, which is p's on side b
module _ (t : List ℕ) (ls : List Links) (p : ℕ) (b : Side) (named : Option ℕ) (is : named ≡ listed_by (entry_at t (entry_of p b))) (h : LinkedUpTo t ls (entry_of p b)) where
  pub linked_more : (new : List Links) → IsLinked ls new p b named → (i : ℕ) → i ≡ entry_of p b + 1 → LinkedUpTo t new i
  linked_more new k i next =
      let here : (s : Side) (q : ℕ) → entry_of q s ≡ entry_of p b → daughter_in new s q ≡ named = λ s q e. let (x, y) = entry_same q p s b e in rw (x, y) k.daughter in
      let may : (c : ℕ) → named ≡ Some c → (p < c) × (c < length ls) × (parent_in ls c ≡ None) = λ c e.
      MatchOption-at_some (Unit {0}) (λ d. (p < d) × (d < length ls) × (parent_in ls d ≡ None)) c e k.may in
      let up : (c : ℕ) → named ≡ Some c → parent_in new c ≡ Some (p, b) = λ c e. MatchOption-at_some (Unit {0}) (λ d. parent_in new d ≡ Some (p, b)) c e k.parent in
      record {
        size = k.size ∙ h.size;
        below = λ c q s e. elim (is_or_not named c) [ inl n ↦ let u = up c n in let m = may c n in grind (arith, common_steps) | inr n ↦ let m = k.other_parents c n in let w = h.below c q s in grind (arith, common_steps) ];
        told = λ s q c e. elim (cases_eq (entry_of q s) (entry_of p b)) [ inl i ↦ let x = entry_same q p s b i in let y = here s q i in let u = up c in grind (arith, common_steps) | inr n ↦ let f = h.told s q c in let o = k.other_daughters s q n in let m = may c in let r = k.other_parents c in grind (arith, common_steps) ];
        tells = λ s q c e. elim (is_or_not named c) [ inl n ↦ let u = up c n in let d = k.daughter in grind (arith, common_steps) | inr n ↦ let f = h.tells s q c in let m = k.other_parents c n in let w = h.past s q in let o = k.other_daughters s q in grind (arith, common_steps) ];
        listed = λ s q e. let x = here s q in let o = k.other_daughters s q in let l = h.listed s q in grind (arith, common_steps);
        past = λ s q e. k.other_daughters s q (λ j. omega (arith, j, next)) ∙ h.past s q (omega arith);
      }

  -- a card that may not stand there breaks the rules of a table
  pub not_linked : p < listed_cards t → (MayStand ls p named → ⊥) → Sound t → ⊥
  not_linked l barred sound =
      let i = entry_of p b in
      let e = entry_at t i in
      let within = entry_within t p b l in
      elim (cases_eq e no_entry) [
        | inl z ↦ barred (subst (MayStand ls p) (sym (is ∙ cond-true (eqb e no_entry) None (Some e) (eq-eqb e no_entry z))) tt)
        | inr n ↦
            elim (cases_lt 0 e) [
              | inl z ↦
                  let m = sound.ranges i within n in
                  let once = sound.once e z m in
                  let here = once.only i within refl in
                  let free : parent_in ls e ≡ None = elim (none_or_some (parent_in ls e)) [
                    | inl f ↦ f
                    | inr (x, f) ↦
                        let d = h.tells x.1 x.0 e f in
                        let l = h.listed x.1 x.0 in
                        let w = h.past x.1 x.0 in
                        let o = once.only (entry_of x.0 x.1) in
                        grind (arith, common_steps, listed_some)
                  ] in
                  barred (subst (MayStand ls p) (sym (is ∙ listed_is e n)) (omega (arith, entry_half p b, ap (λ (j : ℕ). j / 2) here, once.lower), omega (arith, h.size, m), free))
              | inr z ↦ sound.rootless i within (omega (arith, z))
            ]
      ]

-- the next two entries, which are p's
module _ (t : List ℕ) (ls : List Links) (p : ℕ) (xs rest : List ℕ) (e : drop (2 * p) t ≡ xs ++ rest) (two : length xs ≡ 2) (h : LinkedUpTo t ls (2 * p)) where
  at : (k : ℕ) → k < 2 → get_or xs k 0 ≡ entry_at t (2 * p + k)
  at k l = grind (arith, common_steps, places)

  first : get_or xs 0 0 ≡ entry_at t (2 * p)
  first = rw (← add-zero (2 * p)) (at 0 (omega arith))

  pub pair_within : 2 * p + 2 ≤ length t
  pair_within = omega (arith, ap length e, length-drop (2 * p) t, length-append xs rest)

  pub pair_rest : rest ≡ drop (2 * (p + 1)) t
  pair_rest = sym (ap (drop 2) e ∙ drop_at xs rest 2 two) ∙ drop-drop 2 (2 * p) t ∙ ap (λ (k : ℕ). drop k t) (omega arith)

  pub left_barred : (MayStand ls p (listed_by (get_or xs 0 0)) → ⊥) → Sound t → ⊥
  left_barred = let w = pair_within in not_linked t ls p Left (listed_by (get_or xs 0 0)) (ap listed_by first) h (omega arith)

  module _ (mid : List Links) (k : IsLinked ls mid p Left (listed_by (get_or xs 0 0))) where
    left_linked : LinkedUpTo t mid (2 * p + 1)
    left_linked = linked_more t ls p Left (listed_by (get_or xs 0 0)) (ap listed_by first) h mid k (2 * p + 1) refl

    pub right_barred : (MayStand mid p (listed_by (get_or xs 1 0)) → ⊥) → Sound t → ⊥
    right_barred = let w = pair_within in not_linked t mid p Right (listed_by (get_or xs 1 0)) (ap listed_by (at 1 (omega arith))) left_linked (omega arith)

    pub pair_linked : (new : List Links) → IsLinked mid new p Right (listed_by (get_or xs 1 0)) → LinkedUpTo t new (2 * (p + 1))
    pair_linked new j = linked_more t mid p Right (listed_by (get_or xs 1 0)) (ap listed_by (at 1 (omega arith))) left_linked new j (2 * (p + 1)) (omega arith)

-- all entries are linked: where the table is sound each card but the first is named, and where each has a parent it is the table's tree
module _ (t : List ℕ) (ls : List Links) (sized : Sized t) (h : LinkedUpTo t ls (length t)) where
  pub all_named : Sound t → AllHaveParents ls
  all_named sound c z m =
      let once = sound.once c z (omega (arith, h.size)) in
      let here : entry_at t (entry_of (once.place / 2) (side_at once.place)) ≡ c = ap (entry_at t) (entry_back once.place) ∙ once.here in
      let d : daughter_in ls (side_at once.place) (once.place / 2) ≡ Some c =
      h.listed (side_at once.place) (once.place / 2) (rw (entry_back once.place) once.within) ∙ ap listed_by here ∙ listed_is c (omega (arith, sized.2, h.size)) in
      ap is_some (h.told (side_at once.place) (once.place / 2) c d)

  pub all_linked : AllHaveParents ls → IsTreeOf t (linked_shape (listed_cards t) ls)
  all_linked others =
      let n = listed_cards t in
      let past = λ (c : ℕ). get_or_past ls c unlinked in
      let parent : (c : ℕ) → (linked_shape n ls).parent c ≡ parent_in ls c = λ c. let p = past c in grind (arith, common_steps) in
      let daughter : (b : Side) (c : ℕ) → (linked_shape n ls).daughter b c ≡ daughter_in ls b c = λ b c. let p = past c in let d = no_daughter b in grind (arith, common_steps) in
      record {
        lists = record {
          cards = refl;
          daughters = λ b c. let l = h.listed b c in let w = entry_within t c b in grind (arith, common_steps);
        };
        lawful = record {
          some = sized.1;
          few = sized.2;
          root = parent 0 ∙ elim (none_or_some (parent_in ls 0)) [ inl e ↦ e | inr (x, e) ↦ absurd (omega (arith, h.below 0 x.0 x.1 e)) ];
          others = λ c z l. ap is_some (parent c) ∙ others c z (omega (arith, h.size));
          below = λ c p b e. let k = h.below c p b (sym (parent c) ∙ e) in (k.0, omega (arith, k.1, h.size));
          told = λ b p c e. parent c ∙ h.told b p c (sym (daughter b p) ∙ e);
          tells = λ b p c e. daughter b p ∙ h.tells b p c (sym (parent c) ∙ e);
        };
      }

-- what stands past the cards says nothing
pub padded : (t : List ℕ) (ls rest : List Links) → listed_cards t ≤ length ls → IsTreeOf t (linked_shape (listed_cards t) ls) → IsTreeOf t (linked_shape (listed_cards t) (ls ++ rest))
padded t ls rest few tree =
    let n = listed_cards t in
    let same : (A : Type 0) (f : Links → Option A) (c : ℕ) → cond (ltb c n) (f (get_or ls c unlinked)) None ≡ cond (ltb c n) (f (get_or (ls ++ rest) c unlinked)) None = λ A f c.
    elim (cases_lt c n) [ inl l ↦ rw (get_or_append_left ls rest unlinked c (omega arith)) refl | inr l ↦ rw (le-ltb c n l) refl ] in
    let shapes : linked_shape n ls ≡ linked_shape n (ls ++ rest) = λ i. record { cards = n; daughter = λ b c. same ℕ (daughter_by b) c i; parent = λ c. same (ℕ × Side) (λ (x : Links). x.parent) c i } in
    subst (IsTreeOf t) shapes tree
