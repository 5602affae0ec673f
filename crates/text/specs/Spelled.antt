-- How numbers are usually written, as lists of bytes.
use Rattle.std.specs.Prelude.{◌≡◌, ℕ, ◌/◌, ◌%◌, ◌<◌, Bool, false, List, [], ◌∷◌, Some, Option}
use Rattle.std.specs.Fmt.{digits, digit_glyph}
use Rattle.text.specs.Parted.{NoSpace}

-- in a base with no zero in front, in small letters or in capitals
abbrev pub plain_text : ℕ → Bool → ℕ → List ℕ
plain_text base capitals n = digits base capitals n

-- in decimal, as `{n}` prints it
abbrev pub decimal_text : ℕ → List ℕ
decimal_text = plain_text 10 false

-- in hexadecimal
abbrev pub hex_text : Bool → ℕ → List ℕ
hex_text = plain_text 16

-- a byte in two hexadecimal digits, in small letters or in capitals
abbrev pub byte_text : Bool → ℕ → List ℕ
byte_text capitals n = digit_glyph capitals (n / 16) ∷ digit_glyph capitals (n % 16) ∷ []

-- every number below the limit is written without a space, and read back from its text
abbrev pub ReadsBack : (List ℕ → Option ℕ) → (ℕ → List ℕ) → ℕ → Type 0
ReadsBack read text limit = (n : ℕ) → n < limit → NoSpace (text n) × (read (text n) ≡ Some n)
