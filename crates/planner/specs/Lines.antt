-- What a line of a planning deck says.
use Rattle.std.specs.Prelude.{ℕ, cond, List, [], ◌∷◌, Some, None, codes, Option, nat_le}
use Rattle.std.specs.Option.{option_and_then, option_map}
use Rattle.std.specs.Str.{bytes_eq}
use Rattle.text.specs.Fields.{fields_of}
use Rattle.text.specs.Number.{decimal_of}

-- every field, read alike; none if one of them is not understood
abbrev pub read_all : {X : Type 0} → (List ℕ → Option X) → List (List ℕ) → Option (List X)
read_all f [] = Some []
read_all f (x ∷ xs) = option_and_then (λ v. option_map (λ vs. v ∷ vs) (read_all f xs)) (f x)

-- a decimal number that is a byte
abbrev pub byte_of : ℕ → Option ℕ
byte_of n = cond (nat_le n 255) (Some n) None

-- an entry of a table: a decimal number up to 255, or - for none, which is 255
abbrev pub entry_of : List ℕ → Option ℕ
entry_of f = cond (bytes_eq f (codes "-")) (Some 255) (option_and_then byte_of (decimal_of f))

-- an order: its sender and the cards listed
pub record Ask : Type 0 where
  pub sender : ℕ
  pub cards : List ℕ

abbrev pub ask_of : List (List ℕ) → Option Ask
ask_of [] = None
ask_of (f ∷ fs) = option_and_then (λ c. option_map (λ cs. record { sender = c; cards = cs }) (read_all decimal_of fs)) (decimal_of f)

-- the order that a line states: numbers, the sender's first
abbrev pub order_line : List ℕ → Option Ask
order_line line = ask_of (fields_of line)

-- a wiring as a line states it
pub data Frame : Type 0 where
  levels : ℕ → Frame
  table : List ℕ → Frame

-- `tree` and the number of levels
abbrev pub tree_of : List (List ℕ) → Option Frame
tree_of [] = None
tree_of (f ∷ []) = option_map levels (decimal_of f)
tree_of (f ∷ g ∷ fs) = None

-- `wires` and the entries of the table
abbrev pub tabled : Option (List ℕ) → Option Frame
tabled = option_map table

abbrev pub frame_of : List (List ℕ) → Option Frame
frame_of [] = None
frame_of (f ∷ fs) = cond (bytes_eq f (codes "tree")) (tree_of fs) (cond (bytes_eq f (codes "wires")) (tabled (read_all entry_of fs)) None)

abbrev pub frame_line : List ℕ → Option Frame
frame_line line = frame_of (fields_of line)
