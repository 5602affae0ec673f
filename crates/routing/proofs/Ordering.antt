-- A made route, read again; and the answer to an order.
use Rattle.std.proofs.Common.{◌≡◌, ℕ, ◌-◌, ◌<◌, true, ltb, List, [], ◌∷◌, length, get_or, take, drop, Some, None, Ok, Err, Option, ok_or, sym, refl, ap, ◌∙◌, subst, arith, ltb-true}
use Rattle.std.proofs.lemmas.Slice.{first_rest}
use Rattle.refusal.specs.declared.order.OrderFault.TheVariants.{NoneListed, TooLong}
use Rattle.packet.specs.declared.heads.Head.{Head}
use Rattle.packet.specs.declared.heads.Mode.{Mode}
use Rattle.packet.specs.declared.heads.Mode.TheVariants.{Target, Flood}
use Rattle.packet.specs.Routes.{Leads, route_in, read_route}
use Rattle.packet.specs.Heads.{head_word}
use Rattle.wiring.specs.Shapes.{Shape, Lawful}
use Rattle.routing.specs.Walks.{walk_of, walk_by, walk_from, walk_to}
use Rattle.routing.specs.Subtrees.{covers_all}
use Rattle.routing.specs.Orders.{all_there, mode_for, Lowest, LowestOf, Journey, LeadsTo, HeadTo, Serves, Ordered, head_in, head_told}
use Rattle.std.proofs.lemmas.Bool.{and_parts, and_from, both_ways}
use Rattle.routing.proofs.Subtree.{covers_le, root_covers}

route_back : (m : Mode) (b : ℕ) → b < 512 → route_in (head_word m b) ≡ b
route_back Target b l = omega arith
route_back Flood b l = omega arith

module _ (s : Shape) (c t : ℕ) where
  walk_back : (l : Leads) (j : Journey s c t l.ups l.descents) (r : ℕ) → read_route r ≡ Some l →
      walk_of s c r ≡ Ok (record { turn = j.turn; terminus = t; ups = l.ups; descents = length l.descents })
  walk_back l j r e =
      ap (walk_by s c) e ∙ (ap (walk_from s l) j.climbs ∙ ap (walk_to j.turn l) j.descends)

  -- a route that is written for the way leads there
  pub written-leads : (l : Leads) (m : Mode) (b : ℕ) → Journey s c t l.ups l.descents → b < 512 → read_route b ≡ Some l → LeadsTo s c t m (head_word m b)
  written-leads l m b j k e =
      let q = route_back m b k in
      record {
        walk = record { turn = j.turn; terminus = t; ups = l.ups; descents = length l.descents };
        leads = ap (walk_of s c) q ∙ walk_back l j b e;
        ends = refl;
        turns = j.turns;
        head = ap (head_word m) (sym q);
      }

-- what follows the first of the cards
abbrev pub rest : List ℕ → List ℕ
rest cs = take (length cs - 1) (drop 1 cs)

module _ (s : Shape) where
  pub known : (c : ℕ) (cs : List ℕ) → all_there s (c ∷ cs) ≡ true → (c < s.cards) × (all_there s cs ≡ true)
  known c cs e =
      let (a, b) = and_parts (ltb c s.cards) (all_there s cs) e in
      (ltb-true c s.cards a, b)

  -- no card listed
  pub none_listed : (c : ℕ) (cs : List ℕ) → all_there s (c ∷ cs) ≡ true → length cs < 1 → Ordered s c cs (Err NoneListed)
  none_listed c [] e l = (e, refl)
  none_listed c (x ∷ xs) e l = absurd (omega arith)

module _ (s : Shape) (L : Lawful s) (c : ℕ) (cs : List ℕ) (l : 0 < length cs) (there : all_there s (c ∷ cs) ≡ true) (o : Option ℕ)
    (low : LowestOf s (get_or cs 0 0 ∷ rest cs) o) where
  listed : (get_or cs 0 0 < s.cards) × (all_there s (rest cs) ≡ true)
  listed = known s (get_or cs 0 0) (rest cs) (ap (all_there s) (sym (first_rest cs 0 l)) ∙ (known s c cs there).1)

  root_all : (xs : List ℕ) → all_there s xs ≡ true → covers_all s 0 xs ≡ true
  root_all [] e = refl
  root_all (x ∷ xs) e =
      let (a, b) = known s x xs e in
      and_from _ _ (root_covers s L x a) (root_all xs b)

  -- card 0 stands over them all
  pub some_lowest : o ≡ None → ⊥
  some_lowest e =
      let f : LowestOf s (get_or cs 0 0 ∷ rest cs) None = rw e at low in
      both_ways _ (f 0) (and_from _ _ (root_covers s L (get_or cs 0 0) listed.0) (root_all (rest cs) listed.1))

  module _ (t : ℕ) (e : o ≡ Some t) where
    lowest_split : Lowest s (get_or cs 0 0 ∷ rest cs) t
    lowest_split = rw e at low

    pub lowest_there : t < s.cards
    lowest_there =
        let k = covers_le s L t (get_or cs 0 0) (and_parts _ _ lowest_split.has).0 in
        let (a, b) = listed in
        omega arith

    lowest_listed : Lowest s cs t
    lowest_listed = subst (λ (xs : List ℕ). Lowest s xs t) (sym (first_rest cs 0 l)) lowest_split

    served : (h : ℕ) (m : Mode) → m ≡ mode_for (get_or cs 0 0 ∷ rest cs) → LeadsTo s c t m h → Serves s c cs h
    served h m q k =
        record { terminus = t; lowest = lowest_listed; leads = subst (λ (x : Mode). LeadsTo s c t x h) (q ∙ ap mode_for (sym (first_rest cs 0 l))) k }

    -- the answer where all are cards and one is listed: the head, or that there is none
    pub answered : (m : Mode) (a : Option Head) → m ≡ mode_for (get_or cs 0 0 ∷ rest cs) → HeadTo s c t m (head_in a) → Ordered s c cs (head_told (ok_or a TooLong))
    answered m (Some h) q w = (there, served (head_word h.mode h.route.bits) m q w)
    answered m None q w = (there, record { terminus = t; lowest = lowest_listed; far = w })
