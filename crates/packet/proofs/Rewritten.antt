-- A route that reads as a way is the route that is written for it.
use Rattle.std.proofs.Common.{◌≡◌, ℕ, zero, suc, ◌+◌, ◌*◌, ◌/◌, ◌%◌, ◌^◌, ◌<◌, ◌≤◌, Bool, true, false, cond, not, ◌||◌, eqb, ◌⊎◌, List, [], ◌∷◌, map, length, Some, None, Option, sym, refl, ap, ◌∙◌, inl, inr, mod-lt, mod-eq_of_lt, arith, eqb-true}
use borrow.Author.Tests.{eqb-false}
use Rattle.std.proofs.lemmas.Nat.{pow_pos}
use Rattle.packet.specs.declared.sides.Side.{Side}
use Rattle.packet.specs.Words.{bit}
use Rattle.packet.specs.Routes.{Leads, leads, leads_by, bits_from, has_one, ups_of, after_turn, before_stop, stopped, side_of, read_bits, down_for, route_for}
use Rattle.packet.proofs.Bits.{split_top, bits_low, has_one_lem}

-- a number of suc k bits is its highest bit and the rest
high_one : (k r : ℕ) → r < 2 ^ suc k → bit k r ≡ true → r ≡ 2 ^ k + r % 2 ^ k
high_one k r l e =
    let o = eqb-true (r / 2 ^ k % 2) 1 e in
    let s = split_top r k in
    let m : r % 2 ^ suc k ≡ r = mod-eq_of_lt l in
    let t : r % 2 ^ suc k ≡ 1 * 2 ^ k + r % 2 ^ k = s ∙ ap (λ (x : ℕ). x * 2 ^ k + r % 2 ^ k) o in
    omega arith

high_zero : (k r : ℕ) → r < 2 ^ suc k → bit k r ≡ false → r ≡ r % 2 ^ k
high_zero k r l e =
    let g = eqb-false (r / 2 ^ k % 2) 1 e in
    let o : r / 2 ^ k % 2 ≡ 0 = omega arith in
    let m : r % 2 ^ suc k ≡ r = mod-eq_of_lt l in
    let t : r % 2 ^ suc k ≡ r % 2 ^ k = split_top r k ∙ (ap (λ (x : ℕ). x * 2 ^ k + r % 2 ^ k) o ∙ omega arith) in
    omega arith

low_below : (k r : ℕ) → r % 2 ^ k < 2 ^ k
low_below k r = mod-lt r (pow_pos k)

abbrev Written : ℕ → List Side → ℕ → Type 0
Written k ss r = (down_for k ss ≡ r) × (length ss < k)

stop_here : (k r : ℕ) → r < 2 ^ suc k → has_one (bits_from k r) ≡ false → has_one (bit k r ∷ bits_from k r) ≡ true → Written (suc k) [] r
unfolding has_one down_for
stop_here k r l n h =
    let z : eqb (r % 2 ^ k) 0 ≡ true = not_false (eqb (r % 2 ^ k) 0) (sym (has_one_lem k r) ∙ n) in
    let low = eqb-true (r % 2 ^ k) 0 z in
    let b : bit k r ≡ true = or_left (bit k r) (has_one (bits_from k r)) h n in
    let e = high_one k r l b in
    (omega arith, omega arith)
  where
    not_false : (x : Bool) → not x ≡ false → x ≡ true
    not_false true e = refl
    not_false false e = absurd (grind arith)

    or_left : (x y : Bool) → (x || y) ≡ true → y ≡ false → x ≡ true
    or_left true y e f = refl
    or_left false y e f = absurd (let z : true ≡ false = sym e ∙ f in grind arith)

further : (k r : ℕ) (b : Bool) (ss : List Side) → r < 2 ^ suc k → bit k r ≡ b → Written k ss (r % 2 ^ k) → Written (suc k) (side_of b ∷ ss) r
unfolding down_for
further k r true ss l e (w, n) = let h = high_one k r l e in (omega arith, omega arith)
further k r false ss l e (w, n) = let h = high_zero k r l e in (omega arith, omega arith)

-- a stop at this bit, or further down
stop_cases : (b : Bool) (bs : List Bool) (ss : List Side) → stopped (b ∷ bs) ≡ Some ss →
    ((has_one bs ≡ false) × (has_one (b ∷ bs) ≡ true) × (ss ≡ [])) ⊎ ((xs : List Side) × (stopped bs ≡ Some xs) × (ss ≡ side_of b ∷ xs))
unfolding has_one before_stop
stop_cases b bs ss e = go (b || has_one bs) (has_one bs) refl refl e
  where
    go : (x y : Bool) → (b || has_one bs) ≡ x → has_one bs ≡ y → cond x (Some (map side_of (cond y (b ∷ before_stop bs) []))) None ≡ Some ss →
        ((has_one bs ≡ false) × ((b || has_one bs) ≡ true) × (ss ≡ [])) ⊎ ((xs : List Side) × (stopped bs ≡ Some xs) × (ss ≡ side_of b ∷ xs))
    go false y p q f = absurd (let z : ◌≡◌ {A = ℕ} 0 1 = cc in omega arith)
    go true false p q f = let z : [] ≡ ss = cc in inl (q, p, sym z)
    go true true p q f =
        let z : side_of b ∷ map side_of (before_stop bs) ≡ ss = cc in
        inr (map side_of (before_stop bs), ap (λ (v : Bool). cond v (Some (map side_of (before_stop bs))) None) q, sym z)

no_bits : (ss : List Side) → stopped [] ≡ Some ss → ⊥
unfolding has_one
no_bits ss e = grind arith

-- the way down, from the bits
pub down_written : (k r : ℕ) (ss : List Side) → r < 2 ^ k → stopped (bits_from k r) ≡ Some ss → Written k ss r
unfolding bits_from
down_written zero r ss l e = absurd (no_bits ss e)
down_written (suc k) r ss l e =
    by (stop_cases (bit k r) (bits_from k r) ss e) (λ xs q. down_written k (r % 2 ^ k) xs (low_below k r) (ap stopped (bits_low k r) ∙ q))
  where
    by : ((has_one (bits_from k r) ≡ false) × (has_one (bit k r ∷ bits_from k r) ≡ true) × (ss ≡ [])) ⊎ ((xs : List Side) × (stopped (bits_from k r) ≡ Some xs) × (ss ≡ side_of (bit k r) ∷ xs)) →
        ((xs : List Side) → stopped (bits_from k r) ≡ Some xs → Written k xs (r % 2 ^ k)) → Written (suc k) ss r
    by (inl (n, h, z)) ih = rw z (stop_here k r l n h)
    by (inr (xs, q, z)) ih = rw z (further k r (bit k r) xs l refl (ih xs q))

abbrev Read : ℕ → ℕ → Leads → Type 0
Read k r m = (route_for k m.ups m.descents ≡ r) × (m.ups + length m.descents + 2 ≤ k)

-- an up, or the turn
up_cases : (b : Bool) (bs : List Bool) (m : Leads) → read_bits (b ∷ bs) ≡ Some m →
    ((b ≡ true) × ((n : Leads) × (read_bits bs ≡ Some n) × (m ≡ leads (suc n.ups) n.descents))) ⊎ ((b ≡ false) × ((ss : List Side) × (stopped bs ≡ Some ss) × (m ≡ leads 0 ss)))
unfolding read_bits ups_of after_turn
up_cases true bs m e = inl (refl, go (stopped (after_turn bs)) refl e)
  where
    go : (o : Option (List Side)) → stopped (after_turn bs) ≡ o → leads_by (suc (ups_of bs)) o ≡ Some m →
        (n : Leads) × (leads_by (ups_of bs) (stopped (after_turn bs)) ≡ Some n) × (m ≡ leads (suc n.ups) n.descents)
    go None q f = absurd (let z : ◌≡◌ {A = ℕ} 0 1 = cc in omega arith)
    go (Some ss) q f = let z : leads (suc (ups_of bs)) ss ≡ m = cc in (leads (ups_of bs) ss, ap (leads_by (ups_of bs)) q, sym z)
up_cases false bs m e = inr (refl, go (stopped bs) refl e)
  where
    go : (o : Option (List Side)) → stopped bs ≡ o → leads_by 0 o ≡ Some m → (ss : List Side) × (stopped bs ≡ Some ss) × (m ≡ leads 0 ss)
    go None q f = absurd (let z : ◌≡◌ {A = ℕ} 0 1 = cc in omega arith)
    go (Some ss) q f = let z : leads 0 ss ≡ m = cc in (ss, q, sym z)

no_route : (m : Leads) → read_bits [] ≡ Some m → ⊥
unfolding read_bits after_turn has_one
no_route m e = grind arith

-- a route, from its bits
pub route_written : (k r : ℕ) (m : Leads) → r < 2 ^ k → read_bits (bits_from k r) ≡ Some m → Read k r m
unfolding bits_from route_for
route_written zero r m l e = absurd (no_route m e)
route_written (suc k) r m l e =
    by (up_cases (bit k r) (bits_from k r) m e) (λ n q. route_written k (r % 2 ^ k) n (low_below k r) (ap read_bits (bits_low k r) ∙ q))
  where
    by : ((bit k r ≡ true) × ((n : Leads) × (read_bits (bits_from k r) ≡ Some n) × (m ≡ leads (suc n.ups) n.descents))) ⊎
        ((bit k r ≡ false) × ((ss : List Side) × (stopped (bits_from k r) ≡ Some ss) × (m ≡ leads 0 ss))) →
        ((n : Leads) → read_bits (bits_from k r) ≡ Some n → Read k (r % 2 ^ k) n) → Read (suc k) r m
    by (inl (b, (n, q, z))) ih = let (w, x) = ih n q in let h = high_one k r l b in rw z (omega arith, omega arith)
    by (inr (b, (ss, q, z))) ih =
        let h = high_zero k r l b in
        let (w, x) = down_written k (r % 2 ^ k) ss (low_below k r) (ap stopped (bits_low k r) ∙ q) in
        rw z (omega arith, omega arith)
