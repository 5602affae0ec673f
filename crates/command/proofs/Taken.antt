-- How many bytes the fields of a line take.
use Rattle.std.proofs.Common.{◌≡◌, ℕ, ◌+◌, ◌<◌, ◌≤◌, List, [], ◌∷◌, ap, length, Some, arith, length-append}
use Rattle.std.specs.List.{join_with_byte}
use Rattle.packet.specs.declared.heads.Mode.{Mode}
use Rattle.text.specs.Fields.{read_first, rest_of}
use Rattle.text.specs.Number.{decimal_of, hex_byte_of}
use Rattle.text.specs.Parted.{Parted}
use Rattle.command.specs.Names.{mode_named}
use Rattle.command.specs.Letters.{route_of}
use Rattle.command.specs.Sizes.{bytes_taken}
use Rattle.command.proofs.SentWords.{never}
use Rattle.command.proofs.RouteBits.{read_says_route}
use Rattle.command.proofs.Naming.{verb_is}
use Rattle.command.specs.declared.verbs.Verb.TheVariants.{Send}
use Rattle.command.specs.Verbs.{verb_named}

pub line_takes : (line : List ℕ) (fs : List (List ℕ)) → Parted line fs → bytes_taken fs ≡ length line + 1
line_takes line fs h = rw (← h.back) (joined fs h.some)
  where
    joined : (fs : List (List ℕ)) → 0 < length fs → bytes_taken fs ≡ length (join_with_byte 32 fs) + 1
    joined [] h = absurd (omega arith)
    joined (f ∷ []) h = omega arith
    joined (f ∷ g ∷ fs) h =
        let more = joined (g ∷ fs) (omega arith) in
        simp length-append (omega arith)

-- a field that is read has a byte, and the byte after it
pub decimal_takes : (fs : List (List ℕ)) (n : ℕ) → read_first decimal_of fs ≡ Some n → bytes_taken (rest_of fs) + 2 ≤ bytes_taken fs
decimal_takes [] n e = never n e
decimal_takes ([] ∷ fs) n e = never n e
decimal_takes ((b ∷ f) ∷ fs) n e = omega arith

pub mode_takes : (fs : List (List ℕ)) (m : Mode) → read_first mode_named fs ≡ Some m → bytes_taken (rest_of fs) + 2 ≤ bytes_taken fs
mode_takes [] m e = never m e
mode_takes ([] ∷ fs) m e = never m e
mode_takes ((b ∷ f) ∷ fs) m e = omega arith

pub route_takes : (fs : List (List ℕ)) (r : ℕ) → read_first route_of fs ≡ Some r → bytes_taken (rest_of fs) + 2 ≤ bytes_taken fs
route_takes [] r e = never r e
route_takes ([] ∷ fs) r e = never r e
route_takes ((b ∷ f) ∷ fs) r e = omega arith

-- a route that is read has nine bits
pub route_below : (fs : List (List ℕ)) (r : ℕ) → read_first route_of fs ≡ Some r → r < 512
route_below [] r e = never r e
route_below (f ∷ fs) r e = (read_says_route f r e).narrow

-- a key has two
pub key_takes : (fs : List (List ℕ)) (k : ℕ) → read_first hex_byte_of fs ≡ Some k → bytes_taken (rest_of fs) + 3 ≤ bytes_taken fs
key_takes [] k e = never k e
key_takes ([] ∷ fs) k e = never k e
key_takes ((a ∷ []) ∷ fs) k e = never k e
key_takes ((a ∷ b ∷ f) ∷ fs) k e = omega arith

-- the first word of a send line has four
pub send_takes : (fs : List (List ℕ)) → read_first verb_named fs ≡ Some Send → bytes_taken (rest_of fs) + 5 ≤ bytes_taken fs
send_takes [] e = never Send e
send_takes (f ∷ fs) e = omega (arith, ap length (verb_is f Send e))
