-- A wiring from a table: two bytes for each card in turn, its left and its right daughter, 255 for none.
use Rattle.std.specs.Prelude.{◌≡◌, ℕ, ◌+◌, ◌*◌, ◌/◌, ◌%◌, ◌<◌, ◌≤◌, cond, List, length, Some, None, Ok, Err, Option, Result, ◌==◌, ◌≢◌, nat_lt, slice_index_or}
use Rattle.refusal.specs.declared.build.WiringFault.{WiringFault}
use Rattle.refusal.specs.declared.build.WiringFault.TheVariants.{Size, Broken}
use Rattle.packet.specs.declared.sides.Side.{Side}
use Rattle.packet.specs.declared.sides.Side.TheVariants.{Left, Right}
use Rattle.wiring.specs.Shapes.{Shape, Lawful, most_cards}

-- the entry that stands for no daughter
abbrev pub no_entry : ℕ
no_entry = 255

-- the number of cards that a table lists
abbrev pub listed_cards : List ℕ → ℕ
listed_cards t = length t / 2

-- two entries for each of 1 to 31 cards
abbrev pub Sized : List ℕ → Type 0
Sized t = (length t % 2 ≡ 0) × (1 ≤ listed_cards t) × (listed_cards t ≤ most_cards)

-- the place of a card's entry
abbrev pub entry_of : ℕ → Side → ℕ
entry_of c Left = 2 * c
entry_of c Right = 2 * c + 1

-- the entry at a place of the table
abbrev pub entry_at : List ℕ → ℕ → ℕ
entry_at t i = slice_index_or t i 255

-- every entry is 255 or below n
abbrev pub InRange : List ℕ → Type 0
InRange t = (i : ℕ) → i < length t → (entry_at t i ≢ no_entry) → entry_at t i < listed_cards t

-- card 0 stands in no entry
abbrev pub Rootless : List ℕ → Type 0
Rootless t = (i : ℕ) → i < length t → entry_at t i ≢ 0

-- the card stands in exactly one entry, and that is an entry of a lower card
pub record StandsOnce (t : List ℕ) (c : ℕ) : Type 0 where
  pub place : ℕ
  pub within : place < length t
  pub here : entry_at t place ≡ c
  pub lower : place / 2 < c
  pub only : (j : ℕ) → j < length t → entry_at t j ≡ c → j ≡ place

-- what a table must be: entries in range, card 0 in none, each other card in exactly one, a lower card's
pub record Sound (t : List ℕ) : Type 0 where
  pub ranges : InRange t
  pub rootless : Rootless t
  pub once : (c : ℕ) → 0 < c → c < listed_cards t → StandsOnce t c

-- the daughter that a table lists for a card on a side
abbrev pub listed_by : ℕ → Option ℕ
listed_by e = cond (e == no_entry) None (Some e)

abbrev pub listed_daughter : List ℕ → Side → ℕ → Option ℕ
listed_daughter t b c = cond (nat_lt c (listed_cards t)) (listed_by (entry_at t (entry_of c b))) None

-- the wiring means exactly the tree that the table lists; its parents follow by the laws
pub record Lists (t : List ℕ) (s : Shape) : Type 0 where
  pub cards : s.cards ≡ listed_cards t
  pub daughters : (b : Side) (c : ℕ) → s.daughter b c ≡ listed_daughter t b c

-- a lawful tree, and the one that the table lists
pub record IsTreeOf (t : List ℕ) (s : Shape) : Type 0 where
  pub lists : Lists t s
  pub lawful : Lawful s

-- what is said of a table: the tree that it lists, or why it is refused
abbrev pub Wired : List ℕ → Result Shape WiringFault → Type 0
Wired t (Ok s) = Sized t × Sound t × Lists t s
Wired t (Err Size) = Sized t → ⊥
Wired t (Err Broken) = Sized t × (Sound t → ⊥)
