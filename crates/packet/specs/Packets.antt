-- What a packet must be: 2 to 64 words, a head, then bodies, a tail as its last word, reserved bits zero.
use Rattle.std.specs.Prelude.{ℕ, ◌+◌, Bool, true, false, cond, not, List, [], ◌∷◌, length, Some, None, Ok, Err, Option, Result, ◌==◌, nat_lt}
use Rattle.packet.specs.declared.words.Kind.{Kind}
use Rattle.packet.specs.declared.words.Kind.TheVariants.{Body, Tail, Head, Unused}
use Rattle.packet.specs.declared.heads.Mode.{Mode}
use Rattle.packet.specs.declared.heads.Head.{Head as HeadRead}
use Rattle.refusal.specs.declared.send.PacketFault.{PacketFault}
use Rattle.refusal.specs.declared.send.PacketFault.TheVariants.{Length, Kinds, Reserved}
use Rattle.packet.specs.Words.{kind_of}
use Rattle.packet.specs.Routes.{route_in}
use Rattle.packet.specs.Heads.{mode_of, head_reserved, key_reserved}

abbrev pub is_head : Kind → Bool
is_head Body = false
is_head Tail = false
is_head Head = true
is_head Unused = false

abbrev pub is_tail : Kind → Bool
is_tail Body = false
is_tail Tail = true
is_tail Head = false
is_tail Unused = false

-- the word is a head
unfoldable pub is_head_word : ℕ → Bool
is_head_word w = is_head (kind_of w)

-- the word is a tail
unfoldable pub is_tail_word : ℕ → Bool
is_tail_word w = is_tail (kind_of w)

-- after the head, a word with no other after it is a tail, and any other word a body
abbrev pub right_kind : Bool → Kind → Bool
right_kind last Body = not last
right_kind last Tail = last
right_kind last Head = false
right_kind last Unused = false

-- the place of the first word of the wrong kind among those after the head, counted from n
unfoldable pub later_fault : ℕ → List ℕ → Option ℕ
later_fault n [] = None
later_fault n (w ∷ ws) = cond (right_kind (length ws == 0) (kind_of w)) (later_fault (n + 1) ws) (Some n)

-- the place of the first word of the wrong kind
unfoldable pub kind_fault : ℕ → List ℕ → Option ℕ
kind_fault h ws = cond (is_head (kind_of h)) (later_fault 1 ws) (Some 0)

-- the place of the first of head and key word with a reserved bit set
unfoldable pub reserved_fault : ℕ → ℕ → Option ℕ
reserved_fault h k = cond (head_reserved h) (cond (key_reserved k) None (Some 1)) (Some 0)

-- the fault at a place, if there is one, and otherwise what the next check says
abbrev pub unless_at : {A : Type 0} → (ℕ → PacketFault) → Option ℕ → Result A PacketFault → Result A PacketFault
unless_at f None r = r
unless_at f (Some p) r = Err (f p)

-- what a head says
pub record Header : Type 0 where
  pub mode : Mode
  pub route : ℕ

abbrev pub header_of : ℕ → Header
header_of h = record { mode = mode_of h; route = route_in h }

abbrev pub header_read : HeadRead → Header
header_read h = record { mode = h.mode; route = h.route.bits }

abbrev pub header_told : Result HeadRead PacketFault → Result Header PacketFault
header_told (Ok h) = Ok (header_read h)
header_told (Err f) = Err f

-- the packet's checks from the lowest number up, by head, key word and the words after: length, kinds, reserved bits
abbrev pub check_parts : ℕ → ℕ → List ℕ → Result Header PacketFault
check_parts h k ws =
    cond (nat_lt 62 (length ws)) (Err Length)
    (unless_at Kinds (kind_fault h (k ∷ ws))
    (unless_at Reserved (reserved_fault h k)
    (Ok (header_of h))))

abbrev pub check_packet : List ℕ → Result Header PacketFault
check_packet [] = Err Length
check_packet (h ∷ []) = Err Length
check_packet (h ∷ k ∷ ws) = check_parts h k ws
