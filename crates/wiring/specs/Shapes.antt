-- What a wiring means: a number of cards and a binary tree on them.
use Rattle.std.specs.Prelude.{◌≡◌, ℕ, ◌+◌, ◌-◌, ◌*◌, ◌/◌, ◌%◌, ◌^◌, ◌<◌, ◌≤◌, true, cond, is_some, Some, None, Option, ◌==◌, nat_lt}
use Rattle.packet.specs.declared.sides.Side.{Side}
use Rattle.packet.specs.declared.sides.Side.TheVariants.{Left, Right}
use Rattle.packet.specs.Routes.{side_of}

-- how many cards there are, the daughter of a card on a side, and the parent of a card with the side
pub record Shape : Type 0 where
  pub cards : ℕ
  pub daughter : Side → ℕ → Option ℕ
  pub parent : ℕ → Option (ℕ × Side)

-- the most cards that a wiring has
abbrev pub most_cards : ℕ
most_cards = 31

-- the laws of a wiring
pub record Lawful (s : Shape) : Type 0 where
  -- it has 1 to 31 cards
  pub some : 1 ≤ s.cards
  pub few : s.cards ≤ most_cards
  -- card 0 has no parent
  pub root : s.parent 0 ≡ None
  -- every other card has one parent, on one side
  pub others : (c : ℕ) → 0 < c → c < s.cards → is_some (s.parent c) ≡ true
  -- a parent's number is below its daughter's; numbers that are no card have no relatives
  pub below : (c p : ℕ) (b : Side) → s.parent c ≡ Some (p, b) → (p < c) × (c < s.cards)
  -- the daughter and parent answers agree
  pub told : (b : Side) (p c : ℕ) → s.daughter b p ≡ Some c → s.parent c ≡ Some (p, b)
  pub tells : (b : Side) (p c : ℕ) → s.parent c ≡ Some (p, b) → s.daughter b p ≡ Some c

-- the full tree of n cards: 2i + 1 and 2i + 2 are the daughters of card i
abbrev pub full_daughter : ℕ → Side → ℕ → Option ℕ
full_daughter n Left c = cond (nat_lt (2 * c + 1) n) (Some (2 * c + 1)) None
full_daughter n Right c = cond (nat_lt (2 * c + 2) n) (Some (2 * c + 2)) None

abbrev pub full_parent : ℕ → ℕ → Option (ℕ × Side)
full_parent n c = cond (nat_lt c n) (cond (c == 0) None (Some ((c - 1) / 2, side_of (c % 2 == 0)))) None

abbrev pub full_shape : ℕ → Shape
full_shape n = record { cards = n; daughter = full_daughter n; parent = full_parent n }

-- the full tree of so many levels
abbrev pub full_cards : ℕ → ℕ
full_cards l = 2 ^ l - 1
