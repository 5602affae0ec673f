-- What route letters make is the route whose bits they write.
use Rattle.std.proofs.Common.{◌≡◌, ℕ, zero, suc, ◌+◌, ◌*◌, ◌/◌, ◌%◌, ◌^◌, ◌<◌, ◌≤◌, Bool, true, false, cond, leb, eqb, List, [], ◌∷◌, length, Some, None, Option, refl, sym, ap, ◌∙◌, add-one, div-add-mod', mod-lt, arith, rules, shr-shr}
use native.Mathlib.Nat.{add-mul, mul-add, two-pow-succ, mul-mod_left, mul-div_left}
use Rattle.std.specs.Option.{option_and_then}
use Rattle.std.proofs.lemmas.Bool.Decides.{nat_tests}
use Rattle.std.proofs.lemmas.Nat.{pow_pos}
use Rattle.text.specs.Number.{within}
use Rattle.packet.specs.Words.{bit}
use Rattle.packet.proofs.Bits.{split_top}
use Rattle.packet.specs.Routes.{bits_from, route_bits}
use Rattle.command.specs.Letters.{letter_bit, letters_from, route_of, bit_number, SaysBits, SaysRoute}
use Rattle.command.proofs.SentWords.{never}

-- a letter's bit is 0 or 1
letter_small : (b d : ℕ) → letter_bit b ≡ Some d → d < 2
letter_small b d e = grind (arith, nat_tests)

bit_back : (d : ℕ) → d < 2 → bit_number (eqb d 1) ≡ d
bit_back zero h = refl
bit_back (suc zero) h = refl
bit_back (suc (suc d)) h = absurd (omega arith)

-- powers of two
pub half : (k : ℕ) → 2 ^ suc k / 2 ≡ 2 ^ k
half k = omega (arith, two-pow-succ k)

spread : (n d k : ℕ) → n * 2 ^ suc k + d * 2 ^ k ≡ (n + n + d) * 2 ^ k
spread n d k = rw (two-pow-succ k, mul-add n (2 ^ k) (2 ^ k), add-mul (n + n) d (2 ^ k), add-mul n n (2 ^ k)) refl

lower : (r k : ℕ) → r / 2 ^ suc k ≡ r / 2 ^ k / 2
lower r k = rw (← add-one k) (sym (shr-shr r k 1))

no_factor : (x p : ℕ) → x < 2 → 0 < p → x * p ≡ 0 → x ≡ 0
no_factor zero p h k e = refl
no_factor (suc zero) p h k e = omega arith
no_factor (suc (suc x)) p h k e = omega arith

-- only zeros below 2 ^ k
zeros : (k r : ℕ) → r % 2 ^ k ≡ 0 → SaysBits [] (bits_from k r)
unfolding bits_from
zeros zero r e = tt
zeros (suc k) r e =
    let parts = split_top r k in
    let none : r / 2 ^ k % 2 ≡ 0 = no_factor (r / 2 ^ k % 2) (2 ^ k) (omega arith) (pow_pos k) (omega arith) in
    let rest : r % 2 ^ k ≡ 0 = omega arith in
    (rw none refl, zeros k r rest)

even : (x : ℕ) → x < 2 → eqb x 1 ≡ false → x ≡ 0
even x h e = grind (arith, nat_tests)

nothing_below : (k r : ℕ) → SaysBits [] (bits_from k r) → r % 2 ^ k ≡ 0
unfolding bits_from
nothing_below zero r w = omega arith
nothing_below (suc k) r w =
    let none = even (r / 2 ^ k % 2) (mod-lt (r / 2 ^ k) (omega arith)) w.0 in
    split_top r k ∙ rw (none, nothing_below k r w.1) (omega arith)

-- letters after others that make n whole 2 ^ w
written : (w n r : ℕ) (f : List ℕ) → length f ≤ w → letters_from (2 ^ w / 2) (n * 2 ^ w) f ≡ Some r → (r / 2 ^ w ≡ n) × SaysBits f (bits_from w r)
unfolding bits_from
written w n r [] few e =
    let same : n * 2 ^ w ≡ r = cc in
    rw (← same) (mul-div_left n (pow_pos w), zeros w (n * 2 ^ w) (mul-mod_left n (2 ^ w)))
written zero n r (b ∷ bs) few e = absurd (omega arith)
written (suc k) n r (b ∷ bs) few e = by (λ d. written k (n + n + d) r bs (omega arith)) (letter_bit b) refl e
  where
    by : ((d : ℕ) → letters_from (2 ^ k / 2) ((n + n + d) * 2 ^ k) bs ≡ Some r → (r / 2 ^ k ≡ n + n + d) × SaysBits bs (bits_from k r)) →
        (o : Option ℕ) → letter_bit b ≡ o → option_and_then (λ d. letters_from (2 ^ suc k / 2 / 2) (n * 2 ^ suc k + d * (2 ^ suc k / 2)) bs) o ≡ Some r →
        (r / 2 ^ suc k ≡ n) × ((letter_bit b ≡ Some (bit_number (bit k r))) × SaysBits bs (bits_from k r))
    by later None is e = never r e
    by later (Some d) is e =
        let small = letter_small b d is in
        let (top, rest) = later d (rw (half k, spread n d k) at e) in
        let odd : r / 2 ^ k % 2 ≡ d = omega arith in
        (omega (arith, lower r k), (rw (odd, bit_back d small) is, rest))

route_by : (f : List ℕ) (r : ℕ) (few : Bool) → within 1 9 (length f) ≡ few → cond few (letters_from 256 0 f) None ≡ Some r → SaysRoute f r
unfolding route_bits
route_by f r true t e =
    let long : (1 ≤ length f) × (length f ≤ 9) = grind (arith, nat_tests) in
    let (top, bits) = written 9 0 r f long.1 e in
    record { some = omega arith; narrow = omega arith; bits = bits }
route_by f r false t e = never r e

pub read_says_route : (f : List ℕ) (r : ℕ) → route_of f ≡ Some r → SaysRoute f r
read_says_route f r e = route_by f r (within 1 9 (length f)) refl e

read : (w n r : ℕ) (f : List ℕ) → r / 2 ^ w ≡ n → SaysBits f (bits_from w r) → letters_from (2 ^ w / 2) (n * 2 ^ w) f ≡ Some r
unfolding bits_from
read w n r [] top s = rw (← top) (ap Some (omega (arith, div-add-mod' r (2 ^ w), nothing_below w r s)))
read zero n r (b ∷ bs) top s = absurd s
read (suc k) n r (b ∷ bs) top s =
    let d : ℕ = r / 2 ^ k % 2 in
    let is : letter_bit b ≡ Some d = s.0 ∙ ap Some (bit_back d (mod-lt (r / 2 ^ k) (omega arith))) in
    let more = read k (n + n + d) r bs (omega (arith, lower r k)) s.1 in
    rw (is, half k, spread n d k) more

few_letters : (f : List ℕ) (ds : List Bool) → SaysBits f ds → length f ≤ length ds
few_letters [] ds w = omega arith
few_letters (b ∷ bs) [] w = absurd w
few_letters (b ∷ bs) (d ∷ ds) w = omega (arith, few_letters bs ds w.1)

pub says_route_read : (f : List ℕ) (r : ℕ) → SaysRoute f r → route_of f ≡ Some r
unfolding route_bits bits_from
says_route_read f r w =
    let few = few_letters f (route_bits r) w.bits in
    let low : leb 1 (length f) ≡ true = search (rules, w.some) in
    let high : leb (length f) 9 ≡ true = search (rules, few) in
    rw (low, high) (read 9 0 r f (omega (arith, w.narrow)) w.bits)
