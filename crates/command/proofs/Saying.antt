-- What a line spells is what is read.
use Rattle.std.proofs.Common.{◌≡◌, ℕ, Bool, true, false, cond, leb, List, [], ◌∷◌, length, Some, None, Option, codes, refl, rules}
use Rattle.std.specs.Option.{option_map}
use Rattle.std.specs.List.{AllZip}
use Rattle.std.specs.Str.{bytes_eq}
use Rattle.std.proofs.lemmas.Slice.Eq.{bytes_eq-Decides}
use Rattle.packet.specs.declared.heads.Mode.{Mode}
use Rattle.packet.specs.declared.heads.Mode.TheVariants.{Target, Flood}
use Rattle.station.specs.declared.hold.Station.{Station}
use Rattle.station.specs.declared.hold.Station.TheVariants.{Up, Down}
use Rattle.station.specs.declared.hold.Input.{Input}
use Rattle.station.specs.declared.hold.Input.TheVariants.{Left, Right, Queue, Parent, Turn}
use Rattle.text.specs.Number.{decimal_of}
use Rattle.text.proofs.Parting.{only_fields}
use Rattle.command.specs.Commands.{Command}
use Rattle.command.specs.Names.{mode_named, station_named, input_named, class_of, free_word_of}
use Rattle.command.specs.Lines.{words_of, fields_command, command_of}
use Rattle.command.specs.Says.{SaysClass, SaysWord, mode_letter, station_letter, input_letter, Says, Spells}
use Rattle.command.specs.Says.Says.{says_tree, says_rule, says_go, says_send, says_fire, says_take, says_owed}
use Rattle.command.proofs.SentWords.{never}
use Rattle.command.proofs.RouteBits.{says_route_read}

-- each letter is read as the name that it is
mode_read : (m : Mode) → mode_named (mode_letter m) ≡ Some m
mode_read Target = refl
mode_read Flood = refl

station_read : (s : Station) → station_named (station_letter s) ≡ Some s
station_read Up = refl
station_read Down = refl

input_read : (i : Input) → input_named (input_letter i) ≡ Some i
input_read Left = refl
input_read Right = refl
input_read Queue = refl
input_read Parent = refl
input_read Turn = refl

-- n is no number
number_read : (f : List ℕ) (v : ℕ) (n : Bool) → bytes_eq f (codes "n") ≡ n → decimal_of f ≡ Some v → cond n (Some None) (option_map Some (decimal_of f)) ≡ Some (Some v)
number_read f v true n e = let same = (bytes_eq-Decides f (codes "n")).0 n in never v (rw same at e)
number_read f v false n e = rw e refl

class_read : (f : List ℕ) (v : Option ℕ) → SaysClass f v → class_of f ≡ Some v
class_read f None s = rw s refl
class_read f (Some v) s = number_read f v (bytes_eq f (codes "n")) refl s

word_read : (f : List ℕ) (w : ℕ) → SaysWord f w → free_word_of f ≡ Some w
word_read f w s =
    let few : leb w 0x3fffffff ≡ true = search (rules, s.1) in
    rw (s.0, few) refl

words_read : (fs : List (List ℕ)) (ws : List ℕ) → AllZip SaysWord fs ws → words_of fs ≡ Some ws
words_read [] [] s = refl
words_read [] (w ∷ ws) s = absurd s
words_read (f ∷ fs) [] s = absurd s
words_read (f ∷ fs) (w ∷ ws) s = rw (word_read f w s.0, words_read fs ws s.1) refl

says_read : (fs : List (List ℕ)) (c : Command) → Says fs c → fields_command fs ≡ Some c
says_read _ _ (says_tree l levels a) = rw a refl
says_read _ _ (says_rule a b j k v low high low_key high_key class ra rb rj rk rv) = rw (ra, rb, rj, rk, class_read v class rv) refl
says_read _ _ says_go = refl
says_read _ _ (says_send c r k ws card mode route key words rc rr rk sw) = rw (rc, mode_read mode, says_route_read r route rr, rk, words_read ws words sw) refl
says_read _ _ (says_fire c card station input rc) = rw (rc, station_read station, input_read input) refl
says_read _ _ (says_take c card rc) = rw rc refl
says_read _ _ says_owed = refl

pub spelled_read : (line : List ℕ) (c : Command) → Spells line c → command_of line ≡ Some c
spelled_read line c s =
    let short : leb (length line) 200 ≡ true = search (rules, s.short) in
    let only = only_fields line s.fields s.parted in
    rw (short, ← only) (says_read s.fields c s.says)
