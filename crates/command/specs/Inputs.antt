-- The lines of an input, and how they are read byte by byte. An input is a list of bytes, and a newline is the byte 10.
use Rattle.std.specs.Prelude.{ℕ, ◌+◌, Bool, cond, List, [], ◌∷◌, ◌++◌, take, Some, None, Option, ◌==◌}
use Rattle.std.specs.List.{slice_split}
use Rattle.command.specs.Commands.{Command}
use Rattle.command.specs.Sizes.{longest_line}
use Rattle.command.specs.Lines.{command_of}

abbrev pub is_newline : ℕ → Bool
is_newline b = b == 10

-- all but an empty one at the end
abbrev pub unless_last_empty : List (List ℕ) → List (List ℕ)
unless_last_empty [] = []
unless_last_empty ([] ∷ []) = []
unless_last_empty ((b ∷ bs) ∷ []) = (b ∷ bs) ∷ []
unless_last_empty (l ∷ m ∷ ls) = l ∷ unless_last_empty (m ∷ ls)

-- Each newline ends a line. What follows the last newline is one more line, unless it is empty.
abbrev pub lines_of : List ℕ → List (List ℕ)
lines_of input = unless_last_empty (slice_split is_newline input)

-- What is kept of a line with one more byte: its first bytes, enough to tell that it is too long.
abbrev pub kept_with : List ℕ → ℕ → List ℕ
kept_with kept b = take (longest_line + 1) (kept ++ b ∷ [])

-- the same with each of these bytes, one after another
abbrev pub kept_with_all : List ℕ → List ℕ → List ℕ
kept_with_all kept [] = kept
kept_with_all kept (b ∷ bs) = kept_with_all (kept_with kept b) bs

-- what is kept after one more byte of the input
abbrev pub kept_after : List ℕ → ℕ → List ℕ
kept_after kept b = cond (is_newline b) [] (kept_with kept b)

-- a newline makes known what the line says
abbrev pub said_at : List ℕ → ℕ → Option (Option Command)
said_at kept b = cond (is_newline b) (Some (command_of kept)) None

-- at the end of the input, so does a line that is not empty
abbrev pub said_last : List ℕ → Option (Option Command)
said_last [] = None
said_last (b ∷ bs) = Some (command_of (b ∷ bs))

-- What comes of bytes of the input that are read up to their first newline: what is said, what is kept then, and which bytes are left.
pub record Fed : Type 0 where
  pub said : Option (Option Command)
  pub kept : List ℕ
  pub left : List ℕ

-- byte by byte
abbrev pub fed : List ℕ → List ℕ → Fed
fed kept [] = record { said = None; kept = kept; left = [] }
fed kept (b ∷ bs) = cond (is_newline b) (record { said = Some (command_of kept); kept = []; left = bs }) (fed (kept_with kept b) bs)

-- what is said, if anything, and then the rest
abbrev pub followed : {X : Type 0} → Option X → List X → List X
followed None xs = xs
followed (Some x) xs = x ∷ xs

-- all that is said of an input that follows what is kept
abbrev pub all_said : List ℕ → List ℕ → List (Option Command)
all_said kept [] = followed (said_last kept) []
all_said kept (b ∷ bs) = followed (said_at kept b) (all_said (kept_after kept b) bs)
