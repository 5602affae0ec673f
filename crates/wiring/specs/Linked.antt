-- The links of cards: a card's daughters and its parent.
use Rattle.std.specs.Prelude.{◌≡◌, ℕ, cond, List, length, Some, None, Option, IsSome, IfSome, ◌≢◌, ◌<◌, nat_lt, slice_index_or}
use Rattle.packet.specs.declared.sides.Side.{Side}
use Rattle.packet.specs.declared.sides.Side.TheVariants.{Left, Right}
use Rattle.wiring.specs.declared.wired.Links.{Links}
use Rattle.wiring.specs.Shapes.{Shape}
use Rattle.wiring.specs.Tables.{entry_of}

-- no daughter and no parent
abbrev pub unlinked : Links
unlinked = record { left = None; right = None; parent = None }

abbrev pub daughter_by : Side → Links → Option ℕ
daughter_by Left l = l.left
daughter_by Right l = l.right

-- what the cards' links say of a card; past the last card nothing
abbrev pub daughter_in : List Links → Side → ℕ → Option ℕ
daughter_in ls b c = daughter_by b (slice_index_or ls c unlinked)

abbrev pub parent_in : List Links → ℕ → Option (ℕ × Side)
parent_in ls c = (slice_index_or ls c unlinked).parent

-- the tree of n cards with these links
abbrev pub linked_shape : ℕ → List Links → Shape
linked_shape n ls = record {
  cards = n;
  daughter = λ b c. cond (nat_lt c n) (daughter_in ls b c) None;
  parent = λ c. cond (nat_lt c n) (parent_in ls c) None;
}

-- what is to be p's daughter is a card with a higher number and no parent
abbrev pub MayStand : List Links → ℕ → Option ℕ → Type 0
MayStand ls p o = IfSome o (λ d. (p < d) × (d < length ls) × (parent_in ls d ≡ None))

-- p was given its daughter on side b, if there is one, and nothing else changed
pub record IsLinked (old new : List Links) (p : ℕ) (b : Side) (o : Option ℕ) : Type 0 where
  pub size : length new ≡ length old
  pub may : MayStand old p o
  pub daughter : daughter_in new b p ≡ o
  pub parent : IfSome o (λ d. parent_in new d ≡ Some (p, b))
  pub other_daughters : (s : Side) (c : ℕ) → entry_of c s ≢ entry_of p b → daughter_in new s c ≡ daughter_in old s c
  pub other_parents : (c : ℕ) → (o ≡ Some c → ⊥) → parent_in new c ≡ parent_in old c

-- every card but the first has a parent
abbrev pub AllHaveParents : List Links → Type 0
AllHaveParents ls = (c : ℕ) → 0 < c → c < length ls → IsSome (parent_in ls c)
