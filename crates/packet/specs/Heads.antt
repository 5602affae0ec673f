-- Heads and key words, bit by bit.
use Rattle.std.specs.Prelude.{ℕ, ◌+◌, ◌-◌, ◌*◌, ◌/◌, ◌%◌, ◌^◌, Bool, cond, ◌==◌, List, codes}
use Rattle.packet.specs.declared.heads.Mode.{Mode}
use Rattle.packet.specs.declared.heads.Mode.TheVariants.{Target, Flood}
use Rattle.packet.specs.declared.heads.KeyWord.{KeyWord}
use Rattle.packet.specs.Words.{bit}
use Rattle.packet.specs.Routes.{route_width}

-- the head's mode is flood
unfoldable pub floods : ℕ → Bool
floods h = bit 29 h

-- bit 29 of a head: 1 floods, 0 targets
abbrev pub mode_of : ℕ → Mode
mode_of h = cond (bit 29 h) Flood Target

-- how a mode is printed
abbrev pub mode_name : Mode → List ℕ
mode_name Target = codes "target"
mode_name Flood = codes "flood"

abbrev pub mode_bit : Mode → ℕ
mode_bit Target = 0
mode_bit Flood = 1

-- the head of this mode and route: its kind is 2
abbrev pub head_word : Mode → ℕ → ℕ
head_word m r = 2 * 2 ^ 30 + mode_bit m * 2 ^ 29 + r

-- the bits of a head between its mode and its route, 28 to 9, are reserved
abbrev pub head_reserved : ℕ → Bool
head_reserved h = h / 2 ^ route_width % 2 ^ (29 - route_width) == 0

-- bits 29 to 8 of a key word as sent are reserved
abbrev pub key_reserved : ℕ → Bool
key_reserved w = w / 2 ^ 8 % 2 ^ 22 == 0

-- the key stands in bits 7 to 0
abbrev pub key_of : ℕ → ℕ
key_of w = w % 256

-- the number of classes, 0 to 3
abbrev pub class_count : ℕ
class_count = 4

-- in a key word as delivered the class stands in bits 29 and 28
abbrev pub class_of : ℕ → ℕ
class_of w = w / 2 ^ 28 % class_count

-- a key word with a class written in
abbrev pub stamped : ℕ → ℕ → ℕ
stamped w c = w / 2 ^ 30 * 2 ^ 30 + c % class_count * 2 ^ 28 + w % 2 ^ 28

-- bits 27 to 8 of a key word as delivered are reserved
abbrev pub delivered_reserved : ℕ → Bool
delivered_reserved w = w / 2 ^ 8 % 2 ^ 20 == 0

-- a key word, read
abbrev pub key_word_of : ℕ → KeyWord
key_word_of w = record { class = class_of w; key = key_of w }
