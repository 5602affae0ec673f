-- A route read bit by bit: the way up from the highest bit, the stop from the lowest.
use Rattle.std.proofs.Common.{◌≡◌, ℕ, zero, suc, ◌+◌, ◌-◌, ◌*◌, ◌/◌, ◌%◌, ◌^◌, ◌<◌, ◌≤◌, Bool, true, false, cond, not, ◌||◌, eqb, List, [], ◌∷◌, ◌++◌, map, Some, None, sym, refl, ap, ◌∙◌, ap₂, arith, ne_eqb, shr-shr, subst, mod-lt, w16}
use native.Mathlib.Nat.{two-pow-succ, pow-le-pow_right}
use Rattle.std.specs.Int.{bit_at, bit_not, leading_ones, trailing_zeros}
use Rattle.std.proofs.lemmas.Nat.{one_shl, pow_pos, leading_length}
use Rattle.std.proofs.lemmas.Nat.Bits.{bit_at-lt, bit_at_lowest, bit_at-suc, bit_at_above, bit_at_not, bit_at_cat_low, bit_at_cat_high, bit_at-trailing_zeros}
use Rattle.std.proofs.Math.Nat.{lt_of_not-le, div-eq_of_lt-le}
use Rattle.std.proofs.Math.Pow.{shr_lt}
use Rattle.packet.specs.Routes.{bits_from, ups_of, after_turn, has_one, before_stop, side_of, stopped}
use Rattle.packet.proofs.Bits.{bits_last, bits_low, has_one_lem}

-- of w bits the first a are 1s, and the next is a 0 or none
turn_read : (w a n : ℕ) → a ≤ w → ((i : ℕ) → w ≤ a + i → i < w → bit_at n i ≡ 1) → ((j : ℕ) → j + a + 1 ≡ w → bit_at n j ≡ 0) →
    (a ≡ ups_of (bits_from w n)) × (after_turn (bits_from w n) ≡ bits_from (w - 1 - a) n)
unfolding bits_from ups_of after_turn
turn_read zero a n l o z = let f : 0 - 1 - a ≡ 0 = omega arith in rw f (omega arith, refl)
turn_read (suc k) zero n l o z =
    let f : suc k - 1 - 0 ≡ k = omega arith in
    rw (f, z k (omega arith)) (refl, refl)
turn_read (suc k) (suc b) n l o z =
    let (u, t) = turn_read k b n (omega arith) (λ i p q. o i (omega arith) (omega arith)) (λ j e. z j (omega arith)) in
    let f : suc k - 1 - suc b ≡ k - 1 - b = omega arith in
    rw (f, o k (omega arith) (omega arith)) (ap suc u, t)

top_bit_one : (x j : ℕ) → x < 2 ^ suc j → 2 ^ suc j ≤ 2 * x + 1 → bit_at x j ≡ 1
top_bit_one x j l m =
    let t = two-pow-succ j in
    let h : x / 2 ^ j ≡ 1 = div-eq_of_lt-le (2 ^ j) (omega arith) (omega arith) in
    omega arith

-- the leading 1s of 16 bits, and the 0 after them
ones_lead : (n : ℕ) → n < 2 ^ 16 →
    ((i : ℕ) → 16 ≤ leading_ones w16 n + i → i < 16 → bit_at n i ≡ 1) × ((j : ℕ) → j + leading_ones w16 n + 1 ≡ 16 → bit_at n j ≡ 0)
ones_lead n l =
    let (m, e, below, above) = leading_length 16 (bit_not w16 n) (omega arith) in (
      (λ i p q. let z = bit_at_above (bit_not w16 n) m i below (omega arith) in turned n i z (bit_at_not w16 n i l q) (bit_at-lt n i)),
      (λ j p.
          let z : m ≡ suc j = omega arith in
          let o = top_bit_one (bit_not w16 n) j (subst (λ (k : ℕ). bit_not w16 n < 2 ^ k) z below) (subst (λ (k : ℕ). 2 ^ k ≤ 2 * bit_not w16 n + 1) z above) in
          cleared n j o (bit_at_not w16 n j l (omega arith)) (bit_at-lt n j)),
    )
  where
    turned : (n i : ℕ) → bit_at (bit_not w16 n) i ≡ 0 → bit_at (bit_not w16 n) i ≡ 1 - bit_at n i → bit_at n i < 2 → bit_at n i ≡ 1
    turned n i z e l = omega arith

    cleared : (n i : ℕ) → bit_at (bit_not w16 n) i ≡ 1 → bit_at (bit_not w16 n) i ≡ 1 - bit_at n i → bit_at n i < 2 → bit_at n i ≡ 0
    cleared n i o e l = omega arith

-- the nine bits of a route stand at the top of 16
pub route_read : (n : ℕ) → n < 512 →
    (leading_ones w16 (n * 128 % 65536) ≡ ups_of (bits_from 9 n)) × (after_turn (bits_from 9 n) ≡ bits_from (8 - leading_ones w16 (n * 128 % 65536)) n)
route_read n l =
    let q : n * 128 % 65536 ≡ n * 2 ^ 7 + 0 = omega arith in
    let moved : (i : ℕ) → bit_at (n * 128 % 65536) (i + 7) ≡ bit_at n i =
    λ i. let e : i + 7 - 7 ≡ i = omega arith in ap (λ (x : ℕ). bit_at x (i + 7)) q ∙ (bit_at_cat_high n 7 0 (i + 7) (omega arith) (omega arith) ∙ ap (bit_at n) e) in
    let (ones, next) = ones_lead (n * 128 % 65536) (omega arith) in
    let below : leading_ones w16 (n * 128 % 65536) < 10 =
    lt_of_not-le (λ p. let o = ones 6 (omega arith) (omega arith) in let z = bit_at_cat_low n 7 0 6 (omega arith) in omega arith) in
    turn_read 9 (leading_ones w16 (n * 128 % 65536)) n (omega arith) (λ i p e. sym (moved i) ∙ ones (i + 7) (omega arith) (omega arith)) (λ j e. sym (moved j) ∙ next (j + 7) (omega arith))

-- the stop is the last 1
pub one_zero : (bs : List Bool) → has_one (bs ++ (false ∷ [])) ≡ has_one bs
unfolding has_one
one_zero [] = refl
one_zero (b ∷ bs) = ap (λ (x : Bool). b || x) (one_zero bs)

pub before_zero : (bs : List Bool) → before_stop (bs ++ (false ∷ [])) ≡ before_stop bs
unfolding before_stop has_one
before_zero [] = refl
before_zero (b ∷ bs) = ap₂ (λ (x : Bool) (r : List Bool). cond x (b ∷ r) []) (one_zero bs) (before_zero bs)

one-one : (bs : List Bool) → has_one (bs ++ (true ∷ [])) ≡ true
unfolding has_one
one-one [] = refl
one-one (true ∷ bs) = refl
one-one (false ∷ bs) = one-one bs

before-one : (bs : List Bool) → before_stop (bs ++ (true ∷ [])) ≡ bs
unfolding before_stop has_one
before-one [] = refl
before-one (b ∷ bs) = ap₂ (λ (x : Bool) (r : List Bool). cond x (b ∷ r) []) (one-one bs) (before-one bs)

pub stop_zero : (k n : ℕ) → n % 2 ≡ 0 → before_stop (bits_from (suc k) n) ≡ before_stop (bits_from k (n / 2))
stop_zero k n e =
    let z : n / 1 % 2 ≡ 0 = omega arith in
    ap before_stop (bits_last k n) ∙ rw z (before_zero (bits_from k (n / 2)))

pub stop_one : (k n : ℕ) → n % 2 ≡ 1 → before_stop (bits_from (suc k) n) ≡ bits_from k (n / 2)
stop_one k n e =
    let z : n / 1 % 2 ≡ 1 = omega arith in
    ap before_stop (bits_last k n) ∙ rw z (before-one (bits_from k (n / 2)))

-- of k bits, bit t is the last 1
stop_read : (k t n : ℕ) → t < k → bit_at n t ≡ 1 → ((i : ℕ) → i < t → bit_at n i ≡ 0) → before_stop (bits_from k n) ≡ bits_from (k - 1 - t) (n / 2 ^ (t + 1))
stop_read zero t n l o z = absurd (omega arith)
stop_read (suc k) zero n l o z =
    let e : suc k - 1 - 0 ≡ k = omega arith in
    rw e (stop_one k n (sym (bit_at_lowest n) ∙ o))
stop_read (suc k) (suc t) n l o z =
    let e : suc k - 1 - suc t ≡ k - 1 - t = omega arith in
    let d : n / 2 / 2 ^ (t + 1) ≡ n / 2 ^ (suc t + 1) = shr-shr n 1 (t + 1) ∙ ap (λ (x : ℕ). n / 2 ^ x) (omega arith) in
    let r = stop_read k t (n / 2) (omega arith) (sym (bit_at-suc n t) ∙ o) (λ i p. sym (bit_at-suc n i) ∙ z (suc i) (omega arith)) in
    rw e (stop_zero k n (sym (bit_at_lowest n) ∙ z 0 (omega arith)) ∙ (r ∙ ap (bits_from (k - 1 - t)) d))

-- 1 << k, as 16 bits have it
pub masked : (k n : ℕ) → k ≤ 8 → n % ((1 * 2 ^ k) % 65536) ≡ n % 2 ^ k
masked k n l = ap (λ (m : ℕ). n % m) (one_shl k 16 (omega arith))

pub no_stop : (k n : ℕ) → n % 2 ^ k ≡ 0 → stopped (bits_from k n) ≡ None
no_stop k n e = let h : has_one (bits_from k n) ≡ false = has_one_lem k n ∙ ap (λ (m : ℕ). not (eqb m 0)) e in rw h

pub one_stop : (k n : ℕ) → (n % 2 ^ k ≡ 0 → ⊥) → stopped (bits_from k n) ≡ Some (map side_of (before_stop (bits_from k n)))
one_stop k n z = let h : has_one (bits_from k n) ≡ true = has_one_lem k n ∙ ap not (ne_eqb (n % 2 ^ k) 0 z) in rw h

-- the low k bits of n, which `1 << k` masks, have no 1
pub stop_none : (k n : ℕ) → k ≤ 8 → n % (1 * 2 ^ k % 65536) ≡ 0 → None ≡ stopped (bits_from k n)
stop_none k n e z = sym (no_stop k n (sym (masked k n e) ∙ z))

-- or a last 1, the stop
pub stop_found : (k n : ℕ) → k ≤ 8 → (n % (1 * 2 ^ k % 65536) ≡ 0 → ⊥) →
    let low : ℕ = n % (1 * 2 ^ k % 65536) in
    let t : ℕ = trailing_zeros w16 low in
    (t < k) × (low / 2 ^ (t + 1) < 2 ^ (k - 1 - t)) × (Some (map side_of (bits_from (k - 1 - t) (low / 2 ^ (t + 1)))) ≡ stopped (bits_from k n))
stop_found k n e z =
    let low : ℕ = n % (1 * 2 ^ k % 65536) in
    let t : ℕ = trailing_zeros w16 low in
    let m = masked k n e in
    let b : low < 2 ^ k = rw m (mod-lt n (pow_pos k)) in
    let c : 2 ^ k ≤ 2 ^ 8 = pow-le-pow_right {n = 2} (omega arith) {i = k} {j = 8} e in
    let (w, o, f) = bit_at-trailing_zeros w16 low (omega arith) (omega arith) in
    let in_k : t < k = lt_of_not-le (λ p. let x = bit_at_above low k t b p in omega arith) in
    let d : k - 1 - t + (t + 1) ≡ k = omega arith in (
      in_k,
      shr_lt (k - 1 - t) (t + 1) (rw d b),
      ap (λ (bs : List Bool). Some (map side_of bs)) (sym (stop_read k t low in_k o f) ∙ ap before_stop (ap (bits_from k) m ∙ bits_low k n)) ∙
          sym (one_stop k n (λ q. z (m ∙ q))),
    )
