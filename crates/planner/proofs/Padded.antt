-- What eight hexadecimal digits are, as a format writes them.
use Rattle.std.proofs.Common.{◌≡◌, ℕ, ◌-◌, ◌^◌, false, List, [], ◌++◌, length, replicate, arith, rules}
use Rattle.std.specs.Fmt.{padded_integral, format_spec, char_count}

pub eight_digits : (d : List ℕ) → padded_integral (format_spec 32 0 4 8 (2 ^ 64 - 1)) false [] d ≡ replicate (8 - length d) 48 ++ d
unfolding padded_integral char_count
eight_digits d = let e : 8 - length d - 0 - 0 ≡ 8 - length d = omega arith in rw e (search rules)
