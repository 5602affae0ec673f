-- The fields of a line. A line and a field are lists of bytes, and a space is the byte 32.
use Rattle.std.specs.Prelude.{ℕ, Bool, true, false, List, [], ◌∷◌, Some, None, Option, ◌==◌}
use Rattle.std.specs.Borrow.{Bor}
use Rattle.std.specs.List.{slice_split}
use Rattle.text.specs.declared.fields.Fields.{Fields}

-- Each space ends a field and begins the next. So a line has one field more than spaces, and an
-- empty field wherever it begins or ends with a space or has two in a row.
abbrev pub fields_of : List ℕ → List (List ℕ)
fields_of = slice_split (λ b. b == 32)

-- the fields of a text, if there is one
abbrev pub fields_in : Option (Bor (List ℕ)) → List (List ℕ)
fields_in None = []
fields_in (Some text) = fields_of text.now

-- the fields that are not cut off yet
abbrev pub fields_left : Fields → List (List ℕ)
fields_left f = fields_in f.rest

-- what follows the first
abbrev pub rest_of : {X : Type 0} → List X → List X
rest_of [] = []
rest_of (x ∷ xs) = xs

-- whether there is no field
abbrev pub none_left : List (List ℕ) → Bool
none_left [] = true
none_left (f ∷ fs) = false

-- what `read` makes of the first field, or none where there is no field
abbrev pub read_first : {X : Type 0} → (List ℕ → Option X) → List (List ℕ) → Option X
read_first read [] = None
read_first read (f ∷ fs) = read f
