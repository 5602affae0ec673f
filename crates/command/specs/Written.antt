-- One plain writing of each command, to be read back: decimal numbers with no zero in front, hexadecimal in small letters, and each of the nine
-- bits of a route as a letter, S for a 1 and D for a 0. A person writes a route in fewer letters; this writing is one that every route has.
use Rattle.std.specs.Prelude.{◌≡◌, ℕ, ◌^◌, ◌<◌, ◌≤◌, Bool, true, false, List, [], ◌∷◌, length, map, IfSome, Some, None, codes, Option}
use Rattle.std.specs.List.{AllByRecursion, join_with_byte}
use Rattle.packet.specs.declared.heads.Mode.{Mode}
use Rattle.packet.specs.Routes.{route_width, route_bits}
use Rattle.station.specs.declared.hold.Station.{Station}
use Rattle.station.specs.declared.hold.Input.{Input}
use Rattle.text.specs.Spelled.{decimal_text, hex_text, byte_text}
use Rattle.command.specs.Commands.{Command}
use Rattle.command.specs.Commands.Command.{Tree, Rule, Go, Send, Fire, Take, Owed}
use Rattle.command.specs.Packets.{packet_of}
use Rattle.command.specs.Sizes.{longest_line, most_free}
use Rattle.command.specs.Lines.{command_of}
use Rattle.command.specs.Says.{mode_letter, station_letter, input_letter}

-- S for a 1, D for a 0
abbrev pub bit_letter : Bool → ℕ
bit_letter true = 83
bit_letter false = 68

-- nine letters, from bit 8 down
abbrev pub route_text : ℕ → List ℕ
route_text r = map bit_letter (route_bits r)

abbrev pub class_text : Option ℕ → List ℕ
class_text None = codes "n"
class_text (Some v) = decimal_text v

-- these fields are the command in its plain writing
pub data Plain : List (List ℕ) → Command → Type 0 where
  plain_tree : (levels : ℕ) → levels < 1000 → Plain (codes "tree" ∷ decimal_text levels ∷ []) (Tree levels)
  plain_rule : (low high low_key high_key : ℕ) (class : Option ℕ) → low < 1000 → high < 1000 → low_key < 2 ^ 8 → high_key < 2 ^ 8 → IfSome class (λ v. v < 1000) →
      Plain (codes "rule" ∷ decimal_text low ∷ decimal_text high ∷ byte_text false low_key ∷ byte_text false high_key ∷ class_text class ∷ [])
      (Rule (record { low = low; high = high }) (record { low = low_key; high = high_key }) class)
  plain_go : Plain (codes "go" ∷ []) Go
  plain_send : (card : ℕ) (mode : Mode) (route key : ℕ) (words : List ℕ) → card < 1000 → route < 2 ^ route_width → key < 2 ^ 8 → AllByRecursion (λ w. w ≤ most_free) words →
      Plain (codes "send" ∷ decimal_text card ∷ mode_letter mode ∷ route_text route ∷ byte_text false key ∷ map (hex_text false) words)
      (Send card (packet_of mode route key words))
  plain_fire : (card : ℕ) (station : Station) (input : Input) → card < 1000 →
      Plain (codes "fire" ∷ decimal_text card ∷ station_letter station ∷ input_letter input ∷ []) (Fire card station input)
  plain_take : (card : ℕ) → card < 1000 → Plain (codes "take" ∷ decimal_text card ∷ []) (Take card)
  plain_owed : Plain (codes "owed" ∷ []) Owed

-- Each command in its plain writing is read back, if its line is not too long.
abbrev pub PlainReadBack : Type 0
PlainReadBack = (fs : List (List ℕ)) (c : Command) → Plain fs c → length (join_with_byte 32 fs) ≤ longest_line → command_of (join_with_byte 32 fs) ≡ Some c
