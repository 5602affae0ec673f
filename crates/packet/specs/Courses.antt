-- What the structs of a route mean.
use Rattle.std.specs.Prelude.{ℕ, cond, List, [], ◌∷◌, map, length, Some, None, Option, nat_lt}
use Rattle.packet.specs.declared.sides.Side.{Side}
use Rattle.packet.specs.declared.routes.Sides.{Sides}
use Rattle.packet.specs.declared.routes.Route.{Route}
use Rattle.packet.specs.declared.routes.Course.{Course}
use Rattle.packet.specs.Routes.{Leads, leads, bits_from, side_of, route_room}

-- the sides, in the order of the way down
abbrev pub sides_in : Sides → List Side
sides_in s = map side_of (bits_from s.count s.bits)

abbrev pub course_of : Course → Leads
course_of c = leads c.ups (sides_in c.sides)

abbrev pub course_told : Option Course → Option Leads
course_told None = None
course_told (Some c) = Some (course_of c)

abbrev pub sides_told : Option Sides → Option (List Side)
sides_told None = None
sides_told (Some s) = Some (sides_in s)

-- the bits of a route
abbrev pub route_told : Option Route → Option ℕ
route_told None = None
route_told (Some r) = Some r.bits

-- one more side in front, where there is room for it
abbrev pub sides_before : Side → List Side → Option (List Side)
sides_before s ss = cond (nat_lt (length ss) route_room) (Some (s ∷ ss)) None

-- the first side and the others
abbrev pub split_sides : List Side → Option (Side × List Side)
split_sides [] = None
split_sides (s ∷ ss) = Some (s, ss)

abbrev pub split_told : Option (Side × Sides) → Option (Side × List Side)
split_told None = None
split_told (Some p) = Some (p.0, sides_in p.1)
