-- Room for replies.
use Rattle.std.specs.Prelude.{ℕ, ◌+◌, ◌≤◌}
use Rattle.arrayvec.specs.ArrayVec.{ArrayVec, array_vec_len}

-- the most bytes of a reply with its newline: the number 255 and a place below 2 ^ 64 have 23 digits
abbrev pub longest_reply : ℕ
longest_reply = 28

-- the most bytes of replies that are kept
abbrev pub most_bytes : ℕ
most_bytes = 8192

-- there is room for one reply more
abbrev pub HasRoom : ArrayVec ℕ → Type 0
HasRoom replies = array_vec_len replies + longest_reply ≤ most_bytes
