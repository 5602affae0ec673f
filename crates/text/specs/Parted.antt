-- What it means that a line is parted into fields by single spaces. A line and a field are lists
-- of bytes, and a space is the byte 32.
use Rattle.std.specs.Prelude.{◌≡◌, ℕ, ◌<◌, List, length, All, ◌≢◌}
use Rattle.std.specs.List.{join_with_byte}

-- no byte of the field is a space
abbrev pub NoSpace : List ℕ → Type 0
NoSpace f = All (λ b. b ≢ 32) f

-- These are one or more fields, none has a space in it, and with one space between each two they
-- are the line.
pub record Parted (line : List ℕ) (fs : List (List ℕ)) : Type 0 where
  pub some : 0 < length fs
  pub whole : All NoSpace fs
  pub back : join_with_byte 32 fs ≡ line
