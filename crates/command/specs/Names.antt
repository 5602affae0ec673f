-- Names and words that a field may be. A field is a list of bytes.
use Rattle.std.specs.Prelude.{ℕ, cond, List, Some, None, codes, Option, nat_le}
use Rattle.std.specs.Option.{option_and_then, option_map}
use Rattle.std.specs.Str.{bytes_eq}
use Rattle.packet.specs.declared.heads.Mode.{Mode}
use Rattle.packet.specs.declared.heads.Mode.TheVariants.{Target, Flood}
use Rattle.station.specs.declared.hold.Station.{Station}
use Rattle.station.specs.declared.hold.Station.TheVariants.{Up, Down}
use Rattle.station.specs.declared.hold.Input.{Input}
use Rattle.station.specs.declared.hold.Input.TheVariants.{Left, Right, Queue, Parent, Turn}
use Rattle.text.specs.Number.{decimal_of, hex_word_of}
use Rattle.command.specs.Sizes.{most_free}

-- T targets, F floods
abbrev pub mode_named : List ℕ → Option Mode
mode_named f = cond (bytes_eq f (codes "T")) (Some Target) (cond (bytes_eq f (codes "F")) (Some Flood) None)

-- u and d
abbrev pub station_named : List ℕ → Option Station
station_named f = cond (bytes_eq f (codes "u")) (Some Up) (cond (bytes_eq f (codes "d")) (Some Down) None)

-- l, r, q, p and t
abbrev pub input_named : List ℕ → Option Input
input_named f =
    cond (bytes_eq f (codes "l")) (Some Left)
    (cond (bytes_eq f (codes "r")) (Some Right)
    (cond (bytes_eq f (codes "q")) (Some Queue)
    (cond (bytes_eq f (codes "p")) (Some Parent)
    (cond (bytes_eq f (codes "t")) (Some Turn)
    None))))

-- n for none, or a class in decimal
abbrev pub class_of : List ℕ → Option (Option ℕ)
class_of f = cond (bytes_eq f (codes "n")) (Some None) (option_map Some (decimal_of f))

-- a number of 30 bits, the free bits of a word
abbrev pub free_bits : ℕ → Option ℕ
free_bits n = cond (nat_le n most_free) (Some n) None

-- one to eight hexadecimal digits, at most 3fffffff
abbrev pub free_word_of : List ℕ → Option ℕ
free_word_of f = option_and_then free_bits (hex_word_of f)
