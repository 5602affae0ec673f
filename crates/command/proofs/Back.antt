-- A command in its plain writing is read back.
use Rattle.std.proofs.Common.{◌≡◌, ℕ, ◌^◌, ◌<◌, ◌≤◌, Bool, true, false, List, [], ◌∷◌, All, length, map, IfSome, Some, None, Option, codes, refl, subst, arith}
use Rattle.std.specs.List.{AllByRecursion, AllZip, join_with_byte}
use Rattle.std.proofs.lemmas.List.Elements.{All-head, All-from_recursion}
use Rattle.packet.specs.declared.heads.Mode.{Mode}
use Rattle.packet.specs.declared.heads.Mode.TheVariants.{Target, Flood}
use Rattle.station.specs.declared.hold.Station.{Station}
use Rattle.station.specs.declared.hold.Station.TheVariants.{Up, Down}
use Rattle.station.specs.declared.hold.Input.{Input}
use Rattle.station.specs.declared.hold.Input.TheVariants.{Left, Right, Queue, Parent, Turn}
use Rattle.packet.specs.Routes.{bits_from, route_bits}
use Rattle.text.specs.Fields.{fields_of}
use Rattle.text.specs.Parted.{NoSpace}
use Rattle.text.specs.Spelled.{hex_text}
use Rattle.text.proofs.Parting.{NotSpace, parted_fields}
use Rattle.text.proofs.ReadBack.{decimal_back, hex_byte_back, hex_word_back}
use Rattle.command.specs.Commands.{Command}
use Rattle.command.specs.Letters.{SaysBits, SaysRoute}
use Rattle.command.specs.Says.{SaysClass, SaysWord, mode_letter, station_letter, input_letter, Says}
use Rattle.command.specs.Says.Says.{says_tree, says_rule, says_go, says_send, says_fire, says_take, says_owed}
use Rattle.command.specs.Written.{bit_letter, route_text, class_text, Plain, PlainReadBack}
use Rattle.command.specs.Written.Plain.{plain_tree, plain_rule, plain_go, plain_send, plain_fire, plain_take, plain_owed}
use Rattle.command.proofs.Saying.{spelled_read}

-- a text that is one field has no space
one_field : (f : List ℕ) → fields_of f ≡ f ∷ [] → NoSpace f
one_field f e = All-head NoSpace f [] (subst (All NoSpace) e (parted_fields f).whole)

mode_whole : (m : Mode) → NoSpace (mode_letter m)
mode_whole Target = one_field (codes "T") refl
mode_whole Flood = one_field (codes "F") refl

station_whole : (s : Station) → NoSpace (station_letter s)
station_whole Up = one_field (codes "u") refl
station_whole Down = one_field (codes "d") refl

input_whole : (i : Input) → NoSpace (input_letter i)
input_whole Left = one_field (codes "l") refl
input_whole Right = one_field (codes "r") refl
input_whole Queue = one_field (codes "q") refl
input_whole Parent = one_field (codes "p") refl
input_whole Turn = one_field (codes "t") refl

-- the letters of bits say these bits, and are no spaces
letters_say : (ds : List Bool) → SaysBits (map bit_letter ds) ds
letters_say [] = tt
letters_say (true ∷ ds) = (refl, letters_say ds)
letters_say (false ∷ ds) = (refl, letters_say ds)

letters_whole : (ds : List Bool) → AllByRecursion NotSpace (map bit_letter ds)
letters_whole [] = tt
letters_whole (true ∷ ds) = (omega arith, letters_whole ds)
letters_whole (false ∷ ds) = (omega arith, letters_whole ds)

route_says : (r : ℕ) → r < 2 ^ 9 → SaysRoute (route_text r) r
unfolding route_bits bits_from
route_says r h = record { some = omega arith; narrow = h; bits = letters_say (route_bits r) }

route_whole : (r : ℕ) → NoSpace (route_text r)
route_whole r = All-from_recursion NotSpace (route_text r) (letters_whole (route_bits r))

class_says : (v : Option ℕ) → IfSome v (λ n. n < 1000) → SaysClass (class_text v) v
class_says None h = refl
class_says (Some n) h = (decimal_back n h).1

class_whole : (v : Option ℕ) → IfSome v (λ n. n < 1000) → NoSpace (class_text v)
class_whole None h = one_field (codes "n") refl
class_whole (Some n) h = (decimal_back n h).0

words_say : (ws : List ℕ) → AllByRecursion (λ w. w ≤ 0x3fffffff) ws → AllZip SaysWord (map (hex_text false) ws) ws
words_say [] h = tt
words_say (w ∷ ws) h = (((hex_word_back false w (omega (arith, h.0))).1, h.0), words_say ws h.1)

words_whole : (ws : List ℕ) → AllByRecursion (λ w. w ≤ 0x3fffffff) ws → AllByRecursion NoSpace (map (hex_text false) ws)
words_whole [] h = tt
words_whole (w ∷ ws) h = ((hex_word_back false w (omega (arith, h.0))).0, words_whole ws h.1)

says : (fs : List (List ℕ)) (c : Command) → Plain fs c → Says fs c
says _ _ (plain_tree l h) = says_tree _ l (decimal_back l h).1
says _ _ (plain_rule a b j k v ha hb hj hk hv) = says_rule _ _ _ _ _ a b j k v (decimal_back a ha).1 (decimal_back b hb).1 (hex_byte_back false j hj).1 (hex_byte_back false k hk).1 (class_says v hv)
says _ _ plain_go = says_go
says _ _ (plain_send c m r k ws hc hr hk hw) = says_send _ _ _ _ c m r k ws (decimal_back c hc).1 (route_says r hr) (hex_byte_back false k hk).1 (words_say ws hw)
says _ _ (plain_fire c s i h) = says_fire _ c s i (decimal_back c h).1
says _ _ (plain_take c h) = says_take _ c (decimal_back c h).1
says _ _ plain_owed = says_owed

whole : (fs : List (List ℕ)) (c : Command) → Plain fs c → (0 < length fs) × AllByRecursion NoSpace fs
whole _ _ (plain_tree l h) = (omega arith, (one_field (codes "tree") refl, ((decimal_back l h).0, tt)))
whole _ _ (plain_rule a b j k v ha hb hj hk hv) =
    (omega arith, (one_field (codes "rule") refl, ((decimal_back a ha).0, ((decimal_back b hb).0, ((hex_byte_back false j hj).0, ((hex_byte_back false k hk).0, (class_whole v hv, tt)))))))
whole _ _ plain_go = (omega arith, (one_field (codes "go") refl, tt))
whole _ _ (plain_send c m r k ws hc hr hk hw) =
    (omega arith, (one_field (codes "send") refl, ((decimal_back c hc).0, (mode_whole m, (route_whole r, ((hex_byte_back false k hk).0, words_whole ws hw))))))
whole _ _ (plain_fire c s i h) = (omega arith, (one_field (codes "fire") refl, ((decimal_back c h).0, (station_whole s, (input_whole i, tt)))))
whole _ _ (plain_take c h) = (omega arith, (one_field (codes "take") refl, ((decimal_back c h).0, tt)))
whole _ _ plain_owed = (omega arith, (one_field (codes "owed") refl, tt))

pub plain_read : PlainReadBack
plain_read fs c u short =
    let w = whole fs c u in
    spelled_read (join_with_byte 32 fs) c (record {
      short = short;
      fields = fs;
      parted = record { some = w.0; whole = All-from_recursion NoSpace fs w.1; back = refl };
      says = says fs c u;
    })
