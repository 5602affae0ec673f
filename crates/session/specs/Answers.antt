-- What is printed for a line.
use Rattle.std.specs.Prelude.{ℕ, zero, suc, ◌/◌, ◌%◌, false, List, [], ◌∷◌, ◌++◌, codes, decimal, Some, None, Option, Ok, Err, Result}
use Rattle.std.specs.Fmt.{digit_glyph}
use Rattle.refusal.specs.declared.answer.Refusal.{Refusal}
use Rattle.session.specs.declared.answer.Answer.{Answer}
use Rattle.session.specs.declared.answer.Answer.TheVariants.{Done, Number, Word}
use Rattle.session.specs.declared.fault.LineFault.{LineFault}
use Rattle.session.specs.Faults.{line_refusal}

-- the last k hexadecimal digits of a number, in small letters
abbrev pub low_digits : ℕ → ℕ → List ℕ
low_digits zero n = []
low_digits (suc k) n = low_digits k (n / 16) ++ digit_glyph false (n % 16) ∷ []

-- a word in eight digits
abbrev pub word_text : ℕ → List ℕ
word_text w = low_digits 8 w

-- what a granted command prints
abbrev pub answer_text : Answer → List ℕ
answer_text Done = codes "ok"
answer_text (Number n) = codes "ok " ++ decimal n
answer_text (Word w) = codes "ok " ++ word_text w

-- the place of a refusal, if it has one
abbrev pub place_part : Option ℕ → List ℕ
place_part None = []
place_part (Some p) = codes " " ++ decimal p

-- what a refused line prints
abbrev pub refusal_line : Refusal → List ℕ
refusal_line r = codes "no " ++ (decimal r.number ++ place_part r.place)

-- what a line prints, granted or refused
abbrev pub reply_text : Result Answer LineFault → List ℕ
reply_text (Ok a) = answer_text a
reply_text (Err f) = refusal_line (line_refusal f)
