-- Words of 32 bits, and their kinds.
use Rattle.std.specs.Prelude.{ℕ, ◌/◌, ◌%◌, ◌^◌, Bool, cond, ◌==◌}
use Rattle.packet.specs.declared.words.Kind.{Kind}
use Rattle.packet.specs.declared.words.Kind.TheVariants.{Body, Tail, Head, Unused}

-- 0 body, 1 tail, 2 head, 3 unused
abbrev pub kind_numbered : ℕ → Kind
kind_numbered n = cond (n == 0) Body (cond (n == 1) Tail (cond (n == 2) Head Unused))

-- the kind of a word stands in bits 31 and 30
abbrev pub kind_of : ℕ → Kind
kind_of w = kind_numbered (w / 2 ^ 30 % 4)

-- bit k of a number is 1
abbrev pub bit : ℕ → ℕ → Bool
bit k n = n / 2 ^ k % 2 == 1
