-- Numbers that a field spells in decimal or hexadecimal digits. A field is a list of bytes.
use Rattle.std.specs.Prelude.{ℕ, ◌+◌, ◌-◌, ◌*◌, Bool, cond, ◌&&◌, List, [], ◌∷◌, length, Some, None, Option, nat_le, nat_lt}
use Rattle.std.specs.Option.{option_and_then}

-- n is low, high or between
abbrev pub within : ℕ → ℕ → ℕ → Bool
within low high n = nat_le low n && nat_le n high

-- what a digit is worth: 0 to 9 themselves, a to f and A to F from 10 to 15
abbrev pub digit_of : ℕ → Option ℕ
digit_of b =
    cond (within 48 57 b) (Some (b - 48))
    (cond (within 97 102 b) (Some (b - 97 + 10))
    (cond (within 65 70 b) (Some (b - 65 + 10))
    None))

-- the same of the digits of a base alone, which are worth less than it
abbrev pub digit_in : ℕ → ℕ → Option ℕ
digit_in base b = option_and_then (λ d. cond (nat_lt d base) (Some d) None) (digit_of b)

-- digits of a base, read from the left after digits worth n
abbrev pub number_from : ℕ → ℕ → List ℕ → Option ℕ
number_from base n [] = Some n
number_from base n (b ∷ bs) = option_and_then (λ d. number_from base (n * base + d) bs) (digit_in base b)

-- a number of `least` to `most` digits of a base, and nothing else
abbrev pub number_of : ℕ → ℕ → ℕ → List ℕ → Option ℕ
number_of base least most field = cond (within least most (length field)) (number_from base 0 field) None

-- one to three decimal digits; zeros in front count
abbrev pub decimal_of : List ℕ → Option ℕ
decimal_of = number_of 10 1 3

-- two hexadecimal digits
abbrev pub hex_byte_of : List ℕ → Option ℕ
hex_byte_of = number_of 16 2 2

-- one to eight hexadecimal digits
abbrev pub hex_word_of : List ℕ → Option ℕ
hex_word_of = number_of 16 1 8
