-- A refusal is a number, and a place where it has one.
use Rattle.std.specs.Prelude.{ℕ, List, [], ◌++◌, Some, None, codes, decimal, Option}
use Rattle.refusal.specs.declared.answer.Refusal.{Refusal}

abbrev pub numbered : ℕ → Refusal
numbered n = record { number = n; place = None }

abbrev pub placed : ℕ → ℕ → Refusal
placed n p = record { number = n; place = Some p }

-- what is printed of a place, if there is one
abbrev pub place_text : Option ℕ → List ℕ
place_text None = []
place_text (Some p) = codes " at " ++ decimal p

-- what is printed of a refusal: its number, and its place
abbrev pub refusal_text : Refusal → List ℕ
refusal_text r = decimal r.number ++ place_text r.place
