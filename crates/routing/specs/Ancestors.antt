-- A card and the cards above it, from the card up to card 0.
use Rattle.std.specs.Prelude.{ℕ, zero, suc, List, [], ◌∷◌, Some, None, Option}
use Rattle.packet.specs.declared.sides.Side.{Side}
use Rattle.wiring.specs.Shapes.{Shape}

-- the same list of the parent, if there is one
abbrev pub above : (ℕ → List ℕ) → Option (ℕ × Side) → List ℕ
above f None = []
above f (Some p) = f p.0

-- card c and the cards above it, where at most k cards are looked at
unfoldable pub upward_in : Shape → ℕ → ℕ → List ℕ
upward_in s zero c = []
upward_in s (suc k) c = c ∷ above (upward_in s k) (s.parent c)

-- card c and the cards above it
unfoldable pub upward : Shape → ℕ → List ℕ
upward s c = upward_in s s.cards c

-- those that are still to come, where c is the next of them
abbrev pub upward_from : Shape → Option ℕ → List ℕ
upward_from s None = []
upward_from s (Some c) = upward s c
