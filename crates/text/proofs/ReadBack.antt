-- A number that is written in digits and read again is the same.
use Rattle.std.proofs.Common.{◌≡◌, ℕ, zero, suc, ◌+◌, ◌*◌, ◌/◌, ◌%◌, ◌^◌, ◌<◌, ◌≤◌, Bool, true, false, cond, eqb, ltb, List, [], ◌∷◌, length, Some, None, Option, sym, refl, ap, ◌∙◌, ⊎_elim, mod-lt, div-lt_iff_lt-mul, pow-suc, div-add-mod', arith, rules}
use native.Mathlib.Nat.{pow-zero, div-eq_of_lt, pow-le-pow_right}
use Rattle.std.proofs.lemmas.Bool.Decides.{nat_tests, eqb_tells}
use Rattle.std.specs.Fmt.{digits, digit_glyph, digits_onto}
use Rattle.std.specs.Option.{option_and_then}
use Rattle.text.specs.Number.{digit_of, digit_in, number_from, number_of, decimal_of, hex_byte_of, hex_word_of}
use Rattle.text.specs.Parted.{NoSpace}
use Rattle.text.specs.Spelled.{plain_text, decimal_text, hex_text, byte_text, ReadsBack}
use Rattle.text.proofs.OneMoreDigit.{enough}
use Rattle.text.proofs.Parting.{NotSpace}
use Rattle.std.proofs.lemmas.List.Elements.{All-nil, All-cons}

-- what is read as a number has no space in it
digit_no_space : (base b v : ℕ) (bs : List ℕ) (k : ℕ → Option ℕ) (o : Option ℕ) → digit_in base b ≡ o → option_and_then k o ≡ Some v → ((d : ℕ) → k d ≡ Some v → NoSpace bs) → NoSpace (b ∷ bs)
digit_no_space base b v bs k None is e more = let z : ◌≡◌ {A = ℕ} 0 1 = cc in absurd (omega arith)
digit_no_space base b v bs k (Some d) is e more =
    All-cons NotSpace b bs (λ space. let z : ◌≡◌ {A = ℕ} 0 1 = cc in omega arith) (more d e)

no_space : (base n : ℕ) (bs : List ℕ) (v : ℕ) → number_from base n bs ≡ Some v → NoSpace bs
no_space base n [] v e = All-nil NotSpace
no_space base n (b ∷ bs) v e = digit_no_space base b v bs (λ d. number_from base (n * base + d) bs) (digit_in base b) refl e (λ d. no_space base (n * base + d) bs v)

glyph_back : (c : Bool) (d : ℕ) → d < 16 → digit_of (digit_glyph c d) ≡ Some d
glyph_back true d h = grind (arith, nat_tests)
glyph_back false d h = grind (arith, nat_tests)

module _ (base : ℕ) (c : Bool) (low : 2 ≤ base) (high : base ≤ 16) where
  digit_back : (d : ℕ) → d < base → digit_in base (digit_glyph c d) ≡ Some d
  digit_back d h = let is = glyph_back c d (omega arith) in let less : ltb d base ≡ true = search rules in rw (is, less)

  -- the last digit is read last
  last_back : (n : ℕ) (acc : List ℕ) → number_from base (n / base) (digit_glyph c (n % base) ∷ acc) ≡ number_from base n acc
  last_back n acc =
      let is = digit_back (n % base) (mod-lt n (omega arith)) in
      rw (is, div-add-mod')

  less_front : (k n : ℕ) → n < base ^ suc k → n / base < base ^ k
  less_front k n h = (div-lt_iff_lt-mul (omega arith)).1 (rw pow-suc at h)

  spelled_back : (k n : ℕ) (acc : List ℕ) → n < base ^ k → number_from base 0 (digits_onto k base c n acc) ≡ number_from base n acc
  spelled_back zero n acc h = ap (λ m. number_from base m acc) (omega (arith, rw pow-zero at h))
  spelled_back (suc k) n acc h =
      let front = spelled_back k (n / base) (digit_glyph c (n % base) ∷ acc) (less_front k n h) in
      ⊎_elim
      (λ e. rw e.0 (rw (sym e.1) (last_back n acc)))
      (λ e. rw e.0 (front ∙ last_back n acc))
      (eqb_tells (n / base) 0)

  -- no more digits than the number asks for, and one at least
  length_spelled : (k m n : ℕ) (acc : List ℕ) → n < base ^ suc m → length (digits_onto k base c n acc) ≤ suc m + length acc
  length_spelled zero m n acc h = omega arith
  length_spelled (suc k) zero n acc h =
      let small : n < base = omega (arith, rw (pow-suc, pow-zero) at h) in
      let one : eqb (n / base) 0 ≡ true = rw (div-eq_of_lt small) in
      rw one (omega arith)
  length_spelled (suc k) (suc m) n acc h =
      let front = length_spelled k m (n / base) (digit_glyph c (n % base) ∷ acc) (less_front (suc m) n h) in
      elim (eqb (n / base) 0) as (λ t. length (cond t (digit_glyph c (n % base) ∷ acc) (digits_onto k base c (n / base) (digit_glyph c (n % base) ∷ acc))) ≤ suc (suc m) + length acc) [ true ↦ omega arith | false ↦ omega arith ]

  spelled_some : (k n : ℕ) (acc : List ℕ) → length acc < length (digits_onto (suc k) base c n acc)
  spelled_some zero n acc =
      elim (eqb (n / base) 0) as (λ t. length acc < length (cond t (digit_glyph c (n % base) ∷ acc) (digit_glyph c (n % base) ∷ acc))) [ true ↦ omega arith | false ↦ omega arith ]
  spelled_some (suc k) n acc =
      let front = spelled_some k (n / base) (digit_glyph c (n % base) ∷ acc) in
      elim (eqb (n / base) 0) as (λ t. length acc < length (cond t (digit_glyph c (n % base) ∷ acc) (digits_onto (suc k) base c (n / base) (digit_glyph c (n % base) ∷ acc)))) [ true ↦ omega arith | false ↦ omega arith ]

pub plain_back : (base most : ℕ) → 2 ≤ base → base ≤ 16 → most ≤ 64 → 1 ≤ most → (c : Bool) → ReadsBack (number_of base 1 most) (plain_text base c) (base ^ most)
unfolding digits
plain_back base zero low high l some c n h = absurd (omega arith)
plain_back base (suc m) low high l some c n h =
    let room : base ^ suc m ≤ base ^ 64 = pow-le-pow_right (omega arith) l in
    let text : List ℕ = digits_onto 64 base c n [] in
    let back : number_from base 0 text ≡ Some n = spelled_back base c low high 64 n [] (omega arith) in
    let short : length text ≤ suc m = omega (arith, length_spelled base c low high 64 m n [] h) in
    (no_space base 0 text n back, sym (enough base 1 (suc m) text (Some n) (spelled_some base c low high 63 n []) short (sym back)))

pub hex_byte_back : (c : Bool) → ReadsBack hex_byte_of (byte_text c) (2 ^ 8)
hex_byte_back c n h =
    let high = digit_back 16 c (omega arith) (omega arith) (n / 16) (omega arith) in
    let low = digit_back 16 c (omega arith) (omega arith) (n % 16) (omega arith) in
    let back : number_from 16 0 (byte_text c n) ≡ Some n = rw (high, low) (ap Some (omega arith)) in
    (no_space 16 0 (byte_text c n) n back, back)

pub decimal_back : ReadsBack decimal_of decimal_text 1000
decimal_back = plain_back 10 3 (omega arith) (omega arith) (omega arith) (omega arith) false

pub hex_word_back : (c : Bool) → ReadsBack hex_word_of (hex_text c) (2 ^ 32)
hex_word_back = plain_back 16 8 (omega arith) (omega arith) (omega arith) (omega arith)
