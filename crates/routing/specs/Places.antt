-- What is kept of each card of a wiring.
use Rattle.std.specs.Prelude.{ℕ, cond, Some, None, Option, nat_lt}
use Rattle.packet.specs.declared.sides.Side.TheVariants.{Left, Right}
use Rattle.wiring.specs.Shapes.{Shape}
use Rattle.routing.specs.declared.measured.Place.{Place}
use Rattle.routing.specs.Subtrees.{subtree_size}

-- the card of this number, if there is one
abbrev pub card_in : Shape → ℕ → Option ℕ
card_in s c = cond (nat_lt c s.cards) (Some c) None

-- a number that is no card
abbrev pub nowhere : Place
nowhere = record { left = None; right = None; parent = None; size = 0 }

-- card c's daughters, its parent, and the size of its subtree
abbrev pub place_of : Shape → ℕ → Place
place_of s c = record { left = s.daughter Left c; right = s.daughter Right c; parent = s.parent c; size = subtree_size s c }
