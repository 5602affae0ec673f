-- The wired tree: what it means, and what the check of a table finds.
use Rattle.std.specs.Prelude.{ℕ, ◌/◌, ◌%◌, cond, List, None, Ok, Err, Result, ◌==◌, nat_lt, position}
use Rattle.std.specs.Option.{option_map}
use Rattle.refusal.specs.declared.build.WiringFault.{WiringFault}
use Rattle.refusal.specs.declared.build.WiringFault.TheVariants.{Size, Broken}
use Rattle.packet.specs.declared.sides.Side.{Side}
use Rattle.packet.specs.Routes.{side_of}
use Rattle.wiring.specs.declared.wired.WiredTree.{WiredTree}
use Rattle.wiring.specs.Shapes.{Shape, Lawful}
use Rattle.wiring.specs.Linked.{linked_shape}
use Rattle.wiring.specs.Tables.{listed_cards, InRange, listed_daughter}

-- the card that an entry is of, and the side
abbrev pub parent_at : ℕ → ℕ × Side
parent_at i = (i / 2, side_of (i % 2 == 1))

-- the tree as a table lists it, sound or not: a card's parent is by the first entry that names her
abbrev pub listed_shape : List ℕ → Shape
listed_shape t = record {
  cards = listed_cards t;
  daughter = listed_daughter t;
  parent = λ c. cond (nat_lt c (listed_cards t)) (option_map parent_at (position (λ e. e == c) t)) None;
}

-- a table of the right size is refused exactly if an entry is out of range or the tree that it lists breaks a law
abbrev pub Judged : List ℕ → Result Shape WiringFault → Type 0
Judged t (Ok s) = InRange t × Lawful (listed_shape t)
Judged t (Err Size) = Unit {0}
Judged t (Err Broken) = InRange t → Lawful (listed_shape t) → ⊥

-- what the wired tree means
abbrev pub wired_shape : WiredTree → Shape
wired_shape t = linked_shape t.cards t.links

abbrev pub wired_told : Result WiredTree WiringFault → Result Shape WiringFault
wired_told (Ok t) = Ok (wired_shape t)
wired_told (Err f) = Err f
