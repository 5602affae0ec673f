-- The book: a list of rules of one kind.
use Rattle.std.specs.Prelude.{◌≡◌, ℕ, ◌<◌, Bool, true, false, cond, List, length, Some, Ok, Err, Result, nat_le}
use Rattle.std.specs.List.{slice_get, find}
use Rattle.std.specs.Option.{option_map_or}
use Rattle.licence.specs.declared.books.Book.{Book}
use Rattle.refusal.specs.declared.build.LicenceFault.{LicenceFault}
use Rattle.refusal.specs.declared.build.LicenceFault.TheVariants.{TooManyRules}
use Rattle.licence.specs.declared.verdict.Verdict.{Verdict}
use Rattle.licence.specs.declared.verdict.Verdict.TheVariants.{Refuse}

-- the most rules that a book may have
abbrev pub most_rules : ℕ
most_rules = 64

-- the first rule that covers this card and key decides; where none does, the verdict is 'refuse'
abbrev pub first_of : {R : Type 0} → (R → ℕ → ℕ → Bool) → (R → Verdict) → List R → ℕ → ℕ → Verdict
first_of covers carried rules card key = option_map_or carried (find (λ rule. covers rule card key) rules) Refuse

-- the book of these rules, or why there is none
abbrev pub book_of : {R : Type 0} → List R → Result (List R) LicenceFault
book_of rules = cond (nat_le (length rules) most_rules) (Ok rules) (Err TooManyRules)

-- the rules of a book in hand
abbrev pub rules_in : {R : Type 0} → Book R → List R
rules_in book = book.rules.now

-- rule number i is the first that covers: it does, and none before it
pub record FirstAt {R : Type 0} (covers : R → ℕ → ℕ → Bool) (rules : List R) (card key i : ℕ) (rule : R) : Type 0 where
  pub there : slice_get rules i ≡ Some rule
  pub here : covers rule card key ≡ true
  pub before : (j : ℕ) (earlier : R) → j < i → slice_get rules j ≡ Some earlier → covers earlier card key ≡ false

-- the first covering rule decides, and where none covers the verdict is 'refuse'
pub record Decided {R : Type 0} (covers : R → ℕ → ℕ → Bool) (carried : R → Verdict) (rules : List R) (card key : ℕ) (verdict : Verdict) : Type 0 where
  pub first : (i : ℕ) (rule : R) → FirstAt covers rules card key i rule → verdict ≡ carried rule
  pub none : ((i : ℕ) (rule : R) → slice_get rules i ≡ Some rule → covers rule card key ≡ false) → verdict ≡ Refuse
