-- How a route is read: leading 1s climb, the first 0 turns, each bit after it descends, the last 1 stops.
use Rattle.std.specs.Prelude.{ℕ, zero, suc, ◌+◌, ◌-◌, ◌*◌, ◌/◌, ◌%◌, ◌^◌, Bool, true, false, cond, ◌||◌, List, [], ◌∷◌, ◌++◌, map, length, is_some, Some, None, Option, ◌==◌, nat_le, codes}
use Rattle.packet.specs.declared.sides.Side.{Side}
use Rattle.packet.specs.declared.sides.Side.TheVariants.{Left, Right}
use Rattle.packet.specs.Words.{bit}

-- the number of bits of a route
abbrev pub route_width : ℕ
route_width = 9

-- the low k bits of a number, the highest first
unfoldable pub bits_from : ℕ → ℕ → List Bool
bits_from zero n = []
bits_from (suc k) n = bit k n ∷ bits_from k n

-- the bits of a route, as they are read; of a head or of its route alike
unfoldable pub route_bits : ℕ → List Bool
route_bits r = bits_from route_width r

-- the bits of a route below its top bit
unfoldable pub low_bits : ℕ → List Bool
low_bits r = bits_from (route_width - 1) r

-- the bit of a head's route that is read next
unfoldable pub top_bit : ℕ → Bool
top_bit h = bit (route_width - 1) h

-- the low k bits moved up by one with 0 entering below, the bits above them as they were
unfoldable pub shifted : ℕ → ℕ → ℕ
shifted k n = n / 2 ^ k * 2 ^ k + (2 * n) % 2 ^ k

-- a head with its route moved up one bit
unfoldable pub advance : ℕ → ℕ
advance h = shifted route_width h

-- no 1 is left in the moved route
unfoldable pub stops : ℕ → Bool
stops h = (2 * h) % 2 ^ route_width == 0

-- the route in the low bits of a head
abbrev pub route_in : ℕ → ℕ
route_in w = w % 2 ^ route_width

-- 0 is the left daughter's side, 1 the right daughter's
abbrev pub side_of : Bool → Side
side_of false = Left
side_of true = Right

-- how a side is printed
abbrev pub side_letter : Side → List ℕ
side_letter Left = codes "L"
side_letter Right = codes "R"

-- is there a 1 among the bits
unfoldable pub has_one : List Bool → Bool
has_one [] = false
has_one (b ∷ bs) = b || has_one bs

-- the links to climb: the leading 1s
unfoldable pub ups_of : List Bool → ℕ
ups_of [] = 0
ups_of (true ∷ bs) = suc (ups_of bs)
ups_of (false ∷ bs) = 0

-- what follows the turn, which is the first 0
unfoldable pub after_turn : List Bool → List Bool
after_turn [] = []
after_turn (true ∷ bs) = after_turn bs
after_turn (false ∷ bs) = bs

-- the bits before the stop, which is the last 1
unfoldable pub before_stop : List Bool → List Bool
before_stop [] = []
before_stop (b ∷ bs) = cond (has_one bs) (b ∷ before_stop bs) []

-- what a route asks for: so many links up, and then down by these sides
pub record Leads : Type 0 where
  pub ups : ℕ
  pub descents : List Side

abbrev pub leads : ℕ → List Side → Leads
leads a ss = record { ups = a; descents = ss }

abbrev pub leads_by : ℕ → Option (List Side) → Option Leads
leads_by a None = None
leads_by a (Some ss) = Some (leads a ss)

-- the descents before the stop, if there is one
abbrev pub stopped : List Bool → Option (List Side)
stopped bs = cond (has_one bs) (Some (map side_of (before_stop bs))) None

-- a route with no stop after its turn ends on the way up
unfoldable pub read_bits : List Bool → Option Leads
read_bits bs = leads_by (ups_of bs) (stopped (after_turn bs))

-- where a route leads, or none where it ends on the way up
unfoldable pub read_route : ℕ → Option Leads
read_route r = read_bits (route_bits r)

-- the routes below n that end on the way up, from the lowest on
unfoldable pub ending_going_up : ℕ → List ℕ
ending_going_up zero = []
ending_going_up (suc n) = ending_going_up n ++ cond (is_some (read_route n)) [] (n ∷ [])

-- a way down, written from bit k - 1 on: a bit for each side, then the stop
unfoldable pub down_for : ℕ → List Side → ℕ
down_for zero ss = 0
down_for (suc k) [] = 2 ^ k
down_for (suc k) (Left ∷ ss) = down_for k ss
down_for (suc k) (Right ∷ ss) = 2 ^ k + down_for k ss

-- a route, written from bit k - 1 on: a 1 for each link up, a 0 for the turn, then the way down
unfoldable pub route_for : ℕ → ℕ → List Side → ℕ
route_for zero a ss = 0
route_for (suc k) zero ss = down_for k ss
route_for (suc k) (suc a) ss = 2 ^ k + route_for k a ss

-- a route has room for so many ups and descents together: the turn and the stop take two bits
abbrev pub route_room : ℕ
route_room = route_width - 2

abbrev pub fits_route : Leads → Bool
fits_route l = nat_le (l.ups + length l.descents) route_room

-- the route that leads there, if its bits suffice
abbrev pub write_route : Leads → Option ℕ
write_route l = cond (fits_route l) (Some (route_for route_width l.ups l.descents)) None
