-- Keys.
use Rattle.std.specs.Prelude.{ℕ}

-- how many keys there are: a key is a number below this
abbrev pub all_keys : ℕ
all_keys = 256
