-- The first line of an input, and the lines after it.
use Rattle.std.proofs.Common.{◌≡◌, ℕ, suc, ◌-◌, Bool, true, false, cond, nat_lt, List, [], ◌∷◌, length, take, ◌==◌, slice_index, refl, ap, arith, tests}
use Rattle.std.specs.Io.BufRead.{first_piece, take_through, drop_through, strip_last}
use Rattle.plan.specs.Inputs.{in_front, lines_of}

-- a longer text ends as the shorter one does
strip_longer : (b c : ℕ) (xs : List ℕ) → strip_last 10 (b ∷ c ∷ xs) ≡ b ∷ strip_last 10 (c ∷ xs)
strip_longer b c xs =
    let e : suc (suc (length xs)) - 1 ≡ suc (length xs) = omega arith in
    let d : suc (length xs) - 1 ≡ length xs = omega arith in
    let long : nat_lt 0 (length (b ∷ c ∷ xs)) ≡ true = search (arith, tests) in
    let some : nat_lt 0 (length (c ∷ xs)) ≡ true = search (arith, tests) in
    rw (e, d, long, some) (elim (slice_index (c ∷ xs) (length xs) == 10) as
    (λ t. cond t (take (suc (length xs)) (b ∷ c ∷ xs)) (b ∷ c ∷ xs) ≡ b ∷ cond t (take (length xs) (c ∷ xs)) (c ∷ xs)) [ true ↦ refl | false ↦ refl ])

strip_through : (b c : ℕ) (cs : List ℕ) → strip_last 10 (b ∷ take_through 10 (c ∷ cs)) ≡ b ∷ first_piece 10 (c ∷ cs)
strip_through b c cs =
    elim (c == 10) as (λ t. strip_last 10 (b ∷ cond t (c ∷ []) (c ∷ take_through 10 cs)) ≡ b ∷ strip_last 10 (cond t (c ∷ []) (c ∷ take_through 10 cs)))
    [ true ↦ strip_longer b c [] | false ↦ strip_longer b c (take_through 10 cs) ]

by_first : (b : ℕ) (rest : List ℕ) (t : Bool) → b == 10 ≡ t →
    (b == 10 ≡ false → in_front b (lines_of rest) ≡ strip_last 10 (b ∷ take_through 10 rest) ∷ lines_of (drop_through 10 rest)) →
    cond t ([] ∷ lines_of rest) (in_front b (lines_of rest)) ≡ strip_last 10 (cond t (b ∷ []) (b ∷ take_through 10 rest)) ∷ lines_of (cond t rest (drop_through 10 rest))
by_first b rest true e longer = rw e refl
by_first b rest false e longer = longer e

pub first_line : (b : ℕ) (bs : List ℕ) → lines_of (b ∷ bs) ≡ first_piece 10 (b ∷ bs) ∷ lines_of (drop_through 10 (b ∷ bs))
first_line b [] = by_first b [] (b == 10) refl (λ e. rw e refl)
first_line b (c ∷ cs) = by_first b (c ∷ cs) (b == 10) refl (λ e. rw (strip_through b c cs) (ap (in_front b) (first_line c cs)))
