-- How many bytes a line has, and how many bits a word leaves free.
use Rattle.std.specs.Prelude.{ℕ, ◌+◌, List, [], ◌∷◌, length}

-- the longest line
abbrev pub longest_line : ℕ
longest_line = 200

-- the most that the 30 free bits of a word hold
abbrev pub most_free : ℕ
most_free = 0x3fffffff

-- how many bytes fields take, with the byte that parts each field from the next, or ends the line
abbrev pub bytes_taken : List (List ℕ) → ℕ
bytes_taken [] = 0
bytes_taken (f ∷ fs) = length f + 1 + bytes_taken fs
