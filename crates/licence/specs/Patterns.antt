-- Sets of cards, bit c for card c, and patterns of keys.
use Rattle.std.specs.Prelude.{ℕ, ◌/◌, ◌%◌, ◌^◌, Bool, not, ◌&&◌, Result, ◌==◌, bit_and, nat_lt}
use Rattle.refusal.specs.declared.build.LicenceFault.{LicenceFault}
use Rattle.licence.specs.declared.verdict.Verdict.{Verdict}
use Rattle.licence.specs.Rules.{Meaning, covers_by, rule_of}
use Rattle.licence.specs.declared.sets.KeyPattern.{KeyPattern}

-- bit n of a number is 1
abbrev pub bit_of : ℕ → ℕ → Bool
bit_of bits n = bits / 2 ^ n % 2 == 1

-- the bit that a set of cards must not have; the set says nothing of this card and those above
abbrev pub top_bit : ℕ
top_bit = 31

-- the card is in the set
abbrev pub in_set : ℕ → ℕ → Bool
in_set cards card = nat_lt card top_bit && bit_of cards card

-- the set has not that bit
abbrev pub below_top : ℕ → Bool
below_top cards = not (bit_of cards top_bit)

-- the cared-for bits of the key equal the value
abbrev pub matches : KeyPattern → ℕ → Bool
matches keys key = bit_and key keys.care == keys.value

-- the value has no bit outside its care byte
abbrev pub cared_for : KeyPattern → Bool
cared_for keys = bit_and keys.value keys.care == keys.value

-- a pattern rule: a set of cards, bit c for card c, a pattern of keys, and a verdict
abbrev pub PatternMeaning : Type 0
PatternMeaning = Meaning ℕ KeyPattern

-- the pattern rule covers this card and key
abbrev pub in_pattern : PatternMeaning → ℕ → ℕ → Bool
in_pattern = covers_by in_set matches

-- the pattern rule for these cards and keys, or why there is none
abbrev pub pattern_of : ℕ → KeyPattern → Verdict → Result PatternMeaning LicenceFault
pattern_of = rule_of below_top cared_for
