-- The words of a ring.
use Rattle.std.specs.Prelude.{ℕ, zero, suc, ◌+◌, ◌-◌, ◌%◌, ◌^◌, List, [], ◌∷◌, slice_index}

-- n words round the ring, from the place f on
abbrev pub around : List ℕ → ℕ → ℕ → List ℕ
around ws f zero = []
around ws f (suc n) = slice_index ws (f % 64) ∷ around ws (f + 1) n

-- how many words a ring has, by the counters of those that were taken and those that were added
abbrev pub waiting : ℕ → ℕ → ℕ
waiting t a = (a + (2 ^ 32 - t)) % 2 ^ 32
