-- Route letters. A field is a list of bytes.
use Rattle.std.specs.Prelude.{◌≡◌, ℕ, ◌+◌, ◌-◌, ◌*◌, ◌/◌, ◌^◌, ◌<◌, Bool, true, false, cond, ◌==◌, List, [], ◌∷◌, length, Some, None, Option}
use Rattle.std.specs.Option.{option_and_then}
use Rattle.packet.specs.Routes.{route_width, route_bits}
use Rattle.text.specs.Number.{within}

-- U, R and S write a 1, D and L a 0
abbrev pub letter_bit : ℕ → Option ℕ
letter_bit b =
    cond (b == 85) (Some 1)
    (cond (b == 82) (Some 1)
    (cond (b == 83) (Some 1)
    (cond (b == 68) (Some 0)
    (cond (b == 76) (Some 0)
    None))))

-- Letters after others that make the number n: the bit of the first of them is worth `weight`, the one after it half of that, and so on.
abbrev pub letters_from : ℕ → ℕ → List ℕ → Option ℕ
letters_from weight n [] = Some n
letters_from weight n (b ∷ bs) = option_and_then (λ d. letters_from (weight / 2) (n + d * weight) bs) (letter_bit b)

-- one to nine letters, from the highest bit of a route down; zeros follow them
abbrev pub route_of : List ℕ → Option ℕ
route_of field = cond (within 1 route_width (length field)) (letters_from (2 ^ (route_width - 1)) 0 field) None

-- a bit as a number
abbrev pub bit_number : Bool → ℕ
bit_number false = 0
bit_number true = 1

-- letters that write these bits in turn, and after the last letter come zeros
abbrev pub SaysBits : List ℕ → List Bool → Type 0
SaysBits [] [] = Unit {0}
SaysBits [] (d ∷ ds) = (d ≡ false) × SaysBits [] ds
SaysBits (b ∷ bs) [] = ⊥
SaysBits (b ∷ bs) (d ∷ ds) = (letter_bit b ≡ Some (bit_number d)) × SaysBits bs ds

-- letters, one or more, that write the bits of this route, the highest first
pub record SaysRoute (field : List ℕ) (route : ℕ) : Type 0 where
  pub some : 0 < length field
  pub narrow : route < 2 ^ route_width
  pub bits : SaysBits field (route_bits route)
