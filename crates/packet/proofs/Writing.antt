-- A written route: its value, and that it reads back.
use Rattle.std.proofs.Common.{◌≡◌, ℕ, zero, suc, ◌+◌, ◌-◌, ◌*◌, ◌/◌, ◌%◌, ◌^◌, ◌<◌, ◌≤◌, Bool, true, false, not, eqb, List, [], ◌∷◌, map, length, Some, None, sym, refl, ap, ◌∙◌, ap₂, mod-eq_of_lt, add-mul, arith, pow-add, shl_exact, le-ltb, lt-ltb, eqb-true, le-leb}
use native.Mathlib.Nat.{two-pow-succ, zero-mod, pow-le-pow_right}
use borrow.Author.Tests.{eqb-false, lt-leb}
use lib.Pow.{high, low, shl-shr}
use Rattle.std.proofs.lemmas.Nat.{pow_pos, one_shl}
use Rattle.packet.specs.declared.sides.Side.{Side}
use Rattle.packet.specs.declared.sides.Side.TheVariants.{Left, Right}
use Rattle.packet.specs.Words.{bit}
use Rattle.packet.specs.Routes.{leads, bits_from, has_one, ups_of, after_turn, before_stop, stopped, side_of, read_bits, read_route, route_bits, down_for, route_for, write_route}
use Rattle.packet.specs.Courses.{sides_before, split_sides}
use Rattle.packet.proofs.Bits.{split_top, bits_same, bits_low, has_one_lem}
use Rattle.packet.proofs.Reading.{masked}

-- the number of sides
pub sides_length : (k n : ℕ) → length (map side_of (bits_from k n)) ≡ k
unfolding bits_from
sides_length zero n = refl
sides_length (suc k) n = ap suc (sides_length k n)

pub down_below : (k : ℕ) (ss : List Side) → down_for k ss < 2 ^ k
unfolding down_for
down_below zero ss = omega arith
down_below (suc k) [] = let e = two-pow-succ k in let p = pow_pos k in omega arith
down_below (suc k) (Left ∷ ss) = let e = two-pow-succ k in let l = down_below k ss in omega arith
down_below (suc k) (Right ∷ ss) = let e = two-pow-succ k in let l = down_below k ss in omega arith

pub route_below : (k a : ℕ) (ss : List Side) → route_for k a ss < 2 ^ k
unfolding route_for
route_below zero a ss = omega arith
route_below (suc k) zero ss = let e = two-pow-succ k in let l = down_below k ss in omega arith
route_below (suc k) (suc a) ss = let e = two-pow-succ k in let l = route_below k a ss in omega arith

-- the highest bit of a number that is written bit by bit
top_one : (k m : ℕ) → m < 2 ^ k → bits_from (suc k) (2 ^ k + m) ≡ true ∷ bits_from k m
unfolding bits_from
top_one k m l =
    let s : 2 ^ k + m ≡ 1 * 2 ^ k + m = omega arith in
    let h : (2 ^ k + m) / 2 ^ k ≡ 1 = ap (λ (x : ℕ). x / 2 ^ k) s ∙ high 1 k l in
    let r : (2 ^ k + m) % 2 ^ k ≡ m % 2 ^ k = ap (λ (x : ℕ). x % 2 ^ k) s ∙ (low 1 k l ∙ sym (mod-eq_of_lt l)) in
    ap₂ (λ (b : ℕ) (bs : List Bool). eqb (b % 2) 1 ∷ bs) h (bits_same k (2 ^ k + m) m r)

top_zero : (k m : ℕ) → m < 2 ^ k → bits_from (suc k) m ≡ false ∷ bits_from k m
unfolding bits_from
top_zero k m l =
    let s : m ≡ 0 * 2 ^ k + m = omega arith in
    let h : m / 2 ^ k ≡ 0 = ap (λ (x : ℕ). x / 2 ^ k) s ∙ high 0 k l in
    ap (λ (b : ℕ). eqb (b % 2) 1 ∷ bits_from k m) h

abbrev Down : List Bool → List Side → Type 0
Down bs ss = (has_one bs ≡ true) × (map side_of (before_stop bs) ≡ ss)

no_ones : (k : ℕ) → has_one (bits_from k 0) ≡ false
no_ones k = has_one_lem k 0 ∙ ap (λ (m : ℕ). not (eqb m 0)) (zero-mod (2 ^ k))

below_side : (b : Bool) (bs : List Bool) (ss : List Side) → Down bs ss → Down (b ∷ bs) (side_of b ∷ ss)
unfolding has_one before_stop
below_side true bs ss (h, m) = (refl, rw (h, m))
below_side false bs ss (h, m) = (h, rw (h, m))

at_stop : (bs : List Bool) → has_one bs ≡ false → Down (true ∷ bs) []
unfolding has_one before_stop
at_stop bs e = (refl, rw e)

down_back : (k : ℕ) (ss : List Side) → length ss < k → Down (bits_from k (down_for k ss)) ss
unfolding down_for
down_back zero ss l = absurd (omega arith)
down_back (suc k) [] l =
    let e : bits_from (suc k) (2 ^ k) ≡ true ∷ bits_from k 0 = ap (bits_from (suc k)) (omega arith) ∙ top_one k 0 (pow_pos k) in
    rw e (at_stop (bits_from k 0) (no_ones k))
down_back (suc k) (Left ∷ ss) l =
    rw (top_zero k (down_for k ss) (down_below k ss)) (below_side false (bits_from k (down_for k ss)) ss (down_back k ss (omega arith)))
down_back (suc k) (Right ∷ ss) l =
    rw (top_one k (down_for k ss) (down_below k ss)) (below_side true (bits_from k (down_for k ss)) ss (down_back k ss (omega arith)))

stopped_is : (bs : List Bool) (ss : List Side) → Down bs ss → stopped bs ≡ Some ss
stopped_is bs ss (h, m) = rw (h, m)

abbrev Up : List Bool → ℕ → List Side → Type 0
Up bs a ss = (ups_of bs ≡ a) × (stopped (after_turn bs) ≡ Some ss)

above : (bs : List Bool) (a : ℕ) (ss : List Side) → Up bs a ss → Up (true ∷ bs) (suc a) ss
unfolding ups_of after_turn
above bs a ss (u, t) = (ap suc u, t)

turned : (bs : List Bool) (ss : List Side) → stopped bs ≡ Some ss → Up (false ∷ bs) 0 ss
unfolding ups_of after_turn
turned bs ss e = (refl, e)

up_back : (k a : ℕ) (ss : List Side) → a + length ss + 2 ≤ k → Up (bits_from k (route_for k a ss)) a ss
unfolding route_for
up_back zero a ss l = absurd (omega arith)
up_back (suc k) zero ss l =
    rw (top_zero k (down_for k ss) (down_below k ss)) (turned (bits_from k (down_for k ss)) ss (stopped_is _ ss (down_back k ss (omega arith))))
up_back (suc k) (suc a) ss l =
    rw (top_one k (route_for k a ss) (route_below k a ss)) (above (bits_from k (route_for k a ss)) a ss (up_back k a ss (omega arith)))

-- a written route reads back
pub reads_back : (k a : ℕ) (ss : List Side) → a + length ss + 2 ≤ k → read_bits (bits_from k (route_for k a ss)) ≡ Some (leads a ss)
unfolding read_bits
reads_back k a ss l = let (u, t) = up_back k a ss l in rw (u, t)

-- the ones of the way up, and the rest
route_value : (w a : ℕ) (ss : List Side) → a < w → route_for w a ss + 2 ^ (w - a) ≡ 2 ^ w + down_for (w - 1 - a) ss
unfolding route_for
route_value zero a ss l = absurd (omega arith)
route_value (suc k) zero ss l =
    let e : suc k - 0 ≡ suc k = omega arith in
    let f : suc k - 1 - 0 ≡ k = omega arith in
    rw (e, f) (omega arith)
route_value (suc k) (suc a) ss l =
    let e : suc k - suc a ≡ k - a = omega arith in
    let f : suc k - 1 - suc a ≡ k - 1 - a = omega arith in
    let r = route_value k a ss (omega arith) in
    let p = two-pow-succ k in
    rw (e, f) (omega arith)

shifted : (c e k : ℕ) → suc c + e ≡ k → 2 * 2 ^ c * 2 ^ e ≡ 2 ^ k
shifted c e k h =
    let p = two-pow-succ c in
    let q : 2 * 2 ^ c ≡ 2 ^ suc c = omega arith in
    ap (λ (x : ℕ). x * 2 ^ e) q ∙ (sym (pow-add 2 (suc c) e) ∙ ap (λ (x : ℕ). 2 ^ x) h)

-- the way down as a product
down_value : (k c b : ℕ) → c < k → down_for k (map side_of (bits_from c b)) ≡ (2 * (b % 2 ^ c) + 1) * 2 ^ (k - 1 - c)
unfolding bits_from down_for
down_value zero c b l = absurd (omega arith)
down_value (suc k) zero b l =
    let e : suc k - 1 - 0 ≡ k = omega arith in
    let f : b % 1 ≡ 0 = omega arith in
    rw (e, f) (omega arith)
down_value (suc k) (suc c) b l = ways (bit c b) refl (down_value k c b (omega arith))
  where
    ways : (d : Bool) → bit c b ≡ d → down_for k (map side_of (bits_from c b)) ≡ (2 * (b % 2 ^ c) + 1) * 2 ^ (k - 1 - c) →
        down_for (suc k) (side_of (bit c b) ∷ map side_of (bits_from c b)) ≡ (2 * (b % 2 ^ suc c) + 1) * 2 ^ (suc k - 1 - suc c)
    ways true e ih =
        let o = eqb-true (b / 2 ^ c % 2) 1 e in
        let s : b % 2 ^ suc c ≡ 1 * 2 ^ c + b % 2 ^ c = split_top b c ∙ ap (λ (x : ℕ). x * 2 ^ c + b % 2 ^ c) o in
        let t : 2 * (b % 2 ^ suc c) + 1 ≡ 2 * 2 ^ c + (2 * (b % 2 ^ c) + 1) = omega arith in
        let f : suc k - 1 - suc c ≡ k - 1 - c = omega arith in
        let m = add-mul (2 * 2 ^ c) (2 * (b % 2 ^ c) + 1) (2 ^ (k - 1 - c)) in
        let p = shifted c (k - 1 - c) k (omega arith) in
        rw (e, f, t) (omega arith)
    ways false e ih =
        let g = eqb-false (b / 2 ^ c % 2) 1 e in
        let o : b / 2 ^ c % 2 ≡ 0 = omega arith in
        let s : b % 2 ^ suc c ≡ b % 2 ^ c = split_top b c ∙ (ap (λ (x : ℕ). x * 2 ^ c + b % 2 ^ c) o ∙ omega arith) in
        let f : suc k - 1 - suc c ≡ k - 1 - c = omega arith in
        rw (e, f, s) ih

-- the route of nine bits as the code sums it up
pub written : (a c b : ℕ) → a + c ≤ 7 → b < 2 ^ c →
    512 - 512 / 2 ^ a + ((2 * b + 1) * 2 ^ (7 - a - c)) % 65536 ≡ route_for 9 a (map side_of (bits_from c b))
written a c b l m =
    let ss : List Side = map side_of (bits_from c b) in
    let n : 9 - a + a ≡ 9 = omega arith in
    let f : 2 ^ (9 - a) * 2 ^ a ≡ 512 = sym (pow-add 2 (9 - a) a) ∙ ap (λ (x : ℕ). 2 ^ x) n in
    let q : 512 / 2 ^ a ≡ 2 ^ (9 - a) = ap (λ (x : ℕ). x / 2 ^ a) (sym f) ∙ shl-shr (2 ^ (9 - a)) a in
    let t = two-pow-succ c in
    let s : ((2 * b + 1) * 2 ^ (7 - a - c)) % 65536 ≡ (2 * b + 1) * 2 ^ (7 - a - c) = shl_exact (suc c) (7 - a - c) 16 (omega arith) (omega arith) in
    let e : 8 - a - 1 - c ≡ 7 - a - c = omega arith in
    let d : down_for (8 - a) ss ≡ (2 * b + 1) * 2 ^ (7 - a - c) =
    down_value (8 - a) c b (omega arith) ∙ ap₂ (λ (x y : ℕ). (2 * x + 1) * 2 ^ y) (mod-eq_of_lt m) e in
    let r = route_value 9 a ss (omega arith) in
    let p : 2 ^ (9 - a) ≤ 2 ^ 9 = pow-le-pow_right {n = 2} (omega arith) {i = 9 - a} {j = 9} (omega arith) in
    rw (q, s) (omega arith)

pub writes : (a c b : ℕ) → a + c ≤ 7 → b < 2 ^ c →
    Some (512 - 512 / 2 ^ a + ((2 * b + 1) * 2 ^ (7 - a - c)) % 65536) ≡ write_route (leads a (map side_of (bits_from c b)))
writes a c b l m =
    let n = sides_length c b in
    rw (written a c b l m, le-leb (a + length (map side_of (bits_from c b))) 7 (omega arith))

pub writes_none : (a c b : ℕ) → 7 < a + c → None ≡ write_route (leads a (map side_of (bits_from c b)))
writes_none a c b l =
    let n = sides_length c b in
    rw (lt-leb (a + length (map side_of (bits_from c b))) 7 (omega arith))

pub reads : (a c b : ℕ) → a + c ≤ 7 → b < 2 ^ c →
    read_route (512 - 512 / 2 ^ a + ((2 * b + 1) * 2 ^ (7 - a - c)) % 65536) ≡ Some (leads a (map side_of (bits_from c b)))
unfolding read_route route_bits
reads a c b l m =
    let n = sides_length c b in
    ap (λ (r : ℕ). read_bits (bits_from 9 r)) (written a c b l m) ∙ reads_back 9 a (map side_of (bits_from c b)) (omega arith)

pub ruleset route_summed = (writes, writes_none, reads, written, route_below)

-- one more side in front
pub left_front : (k b : ℕ) → b < 2 ^ k → (b < 2 ^ (k + 1)) × (map side_of (bits_from (k + 1) b) ≡ Left ∷ map side_of (bits_from k b))
left_front k b l =
    let e : k + 1 ≡ suc k = omega arith in
    let t = two-pow-succ k in
    rw e (omega arith, ap (map side_of) (top_zero k b l))

pub right_front : (k b : ℕ) → k ≤ 7 → b < 2 ^ k →
    (b + (1 * 2 ^ k) % 65536 < 2 ^ (k + 1)) × (map side_of (bits_from (k + 1) (b + (1 * 2 ^ k) % 65536)) ≡ Right ∷ map side_of (bits_from k b))
right_front k b m l =
    let e : k + 1 ≡ suc k = omega arith in
    let t = two-pow-succ k in
    let s : b + (1 * 2 ^ k) % 65536 ≡ 2 ^ k + b = ap (λ (x : ℕ). b + x) (one_shl k 16 (omega arith)) ∙ omega arith in
    rw (e, s) (omega arith, ap (map side_of) (top_one k b l))

pub has_room : (s : Side) (k b : ℕ) → k < 7 → sides_before s (map side_of (bits_from k b)) ≡ Some (s ∷ map side_of (bits_from k b))
has_room s k b l = let n = sides_length k b in rw (lt-ltb (length (map side_of (bits_from k b))) 7 (omega arith))

pub no_room : (s : Side) (k b : ℕ) → 7 ≤ k → sides_before s (map side_of (bits_from k b)) ≡ None
no_room s k b l = let n = sides_length k b in rw (le-ltb (length (map side_of (bits_from k b))) 7 (omega arith))

pub ruleset side_in_front = (left_front, right_front, has_room, no_room)

-- the first side and the others
pub split_none : (k b : ℕ) → k ≡ 0 → None ≡ split_sides (map side_of (bits_from k b))
unfolding bits_from
split_none k b e = rw e

pub split_some : (k b : ℕ) (s : Side) → (k ≡ 0 → ⊥) → k ≤ 7 → s ≡ side_of (bit (k - 1) b) →
    Some (s, map side_of (bits_from (k - 1) (b % ((1 * 2 ^ (k - 1)) % 65536)))) ≡ split_sides (map side_of (bits_from k b))
unfolding bits_from
split_some zero b s z l e = absurd (z refl)
split_some (suc k) b s z l e =
    let m : suc k - 1 ≡ k = omega arith in
    let low : bits_from k (b % ((1 * 2 ^ k) % 65536)) ≡ bits_from k b = ap (bits_from k) (masked k b (omega arith)) ∙ bits_low k b in
    rw (e, m) (ap (λ (bs : List Bool). Some (side_of (bit k b), map side_of bs)) low)
