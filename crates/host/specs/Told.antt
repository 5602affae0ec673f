-- An answer as one number of 64 bits: bits 0 to 31 hold what is granted, or the place of a refusal; bits 32 to 39 hold the number of the
-- refusal, and 0 where the call is granted; bit 40 is 1 where the refusal has a place.
use Rattle.std.specs.Prelude.{ℕ, ◌+◌, ◌*◌, min, Some, None, Ok, Err, Option, Result}
use Rattle.refusal.specs.declared.answer.Refusal.{Refusal}

-- a refusal with no place
abbrev pub numbered : ℕ → ℕ
numbered number = 4294967296 * number

-- and with one; a place past 32 bits, which no refusal has, is told as the greatest number of 32 bits
abbrev pub placed : ℕ → ℕ → ℕ
placed number place = 1099511627776 + (4294967296 * number + min place 4294967295)

abbrev pub refused_at : ℕ → Option ℕ → ℕ
refused_at number None = numbered number
refused_at number (Some place) = placed number place

abbrev pub refused : Refusal → ℕ
refused r = refused_at r.number r.place

-- an answer: what is granted, or the refusal
abbrev pub told_by : {F : Type 0} → (F → Refusal) → Result ℕ F → ℕ
told_by refusal (Ok value) = value
told_by refusal (Err fault) = refused (refusal fault)

-- the answer of a call that grants nothing but that it is made
abbrev pub done_by : {F : Type 0} → (F → Refusal) → Result (Unit {0}) F → ℕ
done_by refusal (Ok value) = 0
done_by refusal (Err fault) = refused (refusal fault)
