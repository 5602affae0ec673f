-- The letters of what a route asks for.
use Rattle.std.specs.Prelude.{◌≡◌, ℕ, List, [], ◌∷◌, ◌++◌, map, replicate}
use Rattle.packet.specs.declared.sides.Side.{Side}
use Rattle.packet.specs.declared.sides.Side.TheVariants.{Left, Right}
use Rattle.packet.specs.Routes.{Leads, write_route}
use Rattle.command.specs.Letters.{route_of}

-- L and R
abbrev pub side_byte : Side → ℕ
side_byte Left = 76
side_byte Right = 82

-- U for each link up, D for the turn, L or R for each side on the way down, and S for the stop
abbrev pub course_text : Leads → List ℕ
course_text l = replicate l.ups 85 ++ 68 ∷ (map side_byte l.descents ++ 83 ∷ [])

-- These letters are the route that asks for just that, and are no route where nine bits do not suffice.
abbrev pub CoursesReadBack : Type 0
CoursesReadBack = (l : Leads) → route_of (course_text l) ≡ write_route l
