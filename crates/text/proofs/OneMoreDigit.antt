-- Digits read from the left: how large one more makes the number.
use Rattle.std.proofs.Common.{◌≡◌, ℕ, ◌+◌, ◌*◌, ◌^◌, ◌<◌, ◌≤◌, true, leb, List, length, IfSome, Some, None, Option, pow-suc, add-one, arith, rules}
use native.Mathlib.Nat.{pow-le-pow_left, pow-le-pow_right}
use lib.Arith.{digits_lt}
use Rattle.text.specs.Number.{number_from, number_of}

-- a number of i digits and one digit more: eight digits of a base up to 16 fit 32 bits
pub more_fits : (base n d i : ℕ) → n < base ^ i → d < base → base ≤ 16 → i < 8 → n * base + d < 2 ^ 32
more_fits base n d i h k b l =
    let more : n * base + d < base ^ (i + 1) = rw (add-one, pow-suc) (digits_lt h k) in
    let wide : base ^ (i + 1) ≤ 16 ^ (i + 1) = pow-le-pow_left b (i + 1) in
    let long : 16 ^ (i + 1) ≤ 16 ^ 8 = pow-le-pow_right (omega arith) {j = 8} (omega arith) in
    omega arith

-- as many digits as there may be
pub enough : (base least most : ℕ) (bs : List ℕ) (o : Option ℕ) → least ≤ length bs → length bs ≤ most → o ≡ number_from base 0 bs → o ≡ number_of base least most bs
enough base least most bs o h k e =
    let low : leb least (length bs) ≡ true = search rules in
    let high : leb (length bs) most ≡ true = search rules in
    rw (low, high) e

-- a number of i digits, if o is one, is one of j digits too, where j is no less
pub fewer_below : (base i j : ℕ) (o : Option ℕ) → 2 ≤ base → i ≤ j → IfSome o (λ n. n < base ^ i) → IfSome o (λ n. n < base ^ j)
fewer_below base i j None b l h = tt
fewer_below base i j (Some n) b l h = omega (arith, pow-le-pow_right {n = base} (omega arith) l)
