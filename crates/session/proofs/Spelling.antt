-- How numbers are spelled: how long they are, and what stands behind what was there before.
use Rattle.std.proofs.Common.{◌≡◌, ℕ, ◌+◌, ◌/◌, ◌%◌, ◌^◌, ◌<◌, ◌≤◌, List, [], ◌∷◌, ◌++◌, length, decimal, codes, ap, ◌∙◌, arith, length-append, append_assoc, sym}
use Rattle.std.proofs.lemmas.Fmt.{decimal_digit, decimal_step, length-decimal-le}

pub only_digit : (xs : List ℕ) (n : ℕ) → n < 10 → xs ++ ((48 + n) ∷ []) ≡ xs ++ decimal n
only_digit xs n h = ap (λ ds. xs ++ ds) (sym (decimal_digit n h))

pub one_digit : (n : ℕ) → n < 10 → length (decimal n) ≡ 1
one_digit n h = ap length (decimal_digit n h)

pub more_digits : (n : ℕ) → 10 ≤ n → n < 2 ^ 64 → length (decimal n) ≡ length (decimal (n / 10)) + 1
more_digits n h fits = ap length (decimal_step n h fits) ∙ length-append (decimal (n / 10)) ((48 + n % 10) ∷ [])

-- the last digit is put behind the others
pub last_digit : (xs : List ℕ) (n : ℕ) → 10 ≤ n → n < 2 ^ 64 → (xs ++ decimal (n / 10)) ++ ((48 + n % 10) ∷ []) ≡ xs ++ decimal n
last_digit xs n h fits = append_assoc xs (decimal (n / 10)) ((48 + n % 10) ∷ []) ∙ ap (λ ds. xs ++ ds) (sym (decimal_step n h fits))

pub byte_digits : (n : ℕ) → n < 2 ^ 8 → length (decimal n) ≤ 3
byte_digits n h = length-decimal-le 3 n (omega arith) (omega arith) (omega arith)

pub word_digits : (n : ℕ) → n < 2 ^ 32 → length (decimal n) ≤ 10
word_digits n h = length-decimal-le 10 n (omega arith) (omega arith) (omega arith)

pub place_digits : (n : ℕ) → n < 2 ^ 64 → length (decimal n) ≤ 20
place_digits n h = length-decimal-le 20 n (omega arith) (omega arith) (omega arith)

-- `ok`, a space and the digits that follow
pub ok_behind : (xs ds : List ℕ) → (((xs ++ 111 ∷ []) ++ 107 ∷ []) ++ 32 ∷ []) ++ ds ≡ xs ++ (codes "ok " ++ ds)
ok_behind xs ds =
    append_assoc ((xs ++ 111 ∷ []) ++ 107 ∷ []) (32 ∷ []) ds ∙
    (append_assoc (xs ++ 111 ∷ []) (107 ∷ []) (32 ∷ ds) ∙ append_assoc xs (111 ∷ []) (107 ∷ 32 ∷ ds))
