-- Adding the rules of lines one by one makes the book of them all, where each line states a rule.
use Rattle.std.proofs.Common.{◌≡◌, Bool, true, false, cond, List, [], ◌∷◌, ◌++◌, length, Ok, Err, Result, nat_le, refl, ap, ◌∙◌, rules, tests, arith, append-nil, append_assoc, length-append}
use Rattle.refusal.specs.declared.build.LicenceFault.{LicenceFault}
use Rattle.refusal.specs.declared.build.LicenceFault.TheVariants.{TooManyRules}
use Rattle.licence.specs.Ranges.{RangeMeaning}
use Rattle.licence.specs.Books.{book_of, most_rules}
use Rattle.rulebook.specs.Steps.{told}
use Rattle.rulebook.specs.Rulebooks.{with_rule, one_more}
use Rattle.host.specs.declared.lines.RuleLine.{RuleLine}
use Rattle.host.specs.Lines.{rule_of_line, with_first, rules_stated, book_stated, book_of_lines}

-- the rules with those of further lines added one by one
abbrev pub with_lines : Result (List RangeMeaning) LicenceFault → List RuleLine → Result (List RangeMeaning) LicenceFault
with_lines (Ok rules) [] = Ok rules
with_lines (Ok rules) (l ∷ ls) = with_lines (with_rule rules (rule_of_line l)) ls
with_lines (Err fault) ls = Err fault

-- the book of these rules with those stated behind them
abbrev behind : List RangeMeaning → Result (List RangeMeaning) LicenceFault → Result (List RangeMeaning) LicenceFault
behind rules (Ok more) = book_of (rules ++ more)
behind rules (Err fault) = Err fault

-- for any rules so far that a book may have
abbrev Adds : List RuleLine → Type 0
Adds ls = (so_far : List RangeMeaning) → nat_le (length so_far) most_rules ≡ true → told (rules_stated ls) ≡ Ok tt → with_lines (Ok so_far) ls ≡ behind so_far (rules_stated ls)

-- where one rule is one too many, so is a longer list
over : (so_far : List RangeMeaning) (rule : RangeMeaning) (more : List RangeMeaning) → nat_le (length (so_far ++ rule ∷ [])) most_rules ≡ false → nat_le (length (so_far ++ rule ∷ more)) most_rules ≡ false
over so_far rule more full = grind (arith, tests, length-append)

-- one rule, and then those of the further lines
one : (ls : List RuleLine) (so_far : List RangeMeaning) (rule : RangeMeaning) (more : List RangeMeaning) → rules_stated ls ≡ Ok more → Adds ls → with_lines (one_more so_far rule) ls ≡ book_of (so_far ++ rule ∷ more)
one ls so_far rule more same adds = at (nat_le (length (so_far ++ rule ∷ [])) most_rules) refl where
  at : (b : Bool) → nat_le (length (so_far ++ rule ∷ [])) most_rules ≡ b → with_lines (cond b (Ok (so_far ++ rule ∷ [])) (Err TooManyRules)) ls ≡ book_of (so_far ++ rule ∷ more)
  at true e = adds (so_far ++ rule ∷ []) e (ap told same) ∙ ap (behind (so_far ++ rule ∷ [])) same ∙ ap book_of (append_assoc so_far (rule ∷ []) more)
  at false e = rw (over so_far rule more e) refl

-- the same, by what the first line states
further : (ls : List RuleLine) → Adds ls → (first : Result RangeMeaning LicenceFault) (stated : Result (List RangeMeaning) LicenceFault) → rules_stated ls ≡ stated →
    (so_far : List RangeMeaning) → told (with_first first stated) ≡ Ok tt → with_lines (with_rule so_far first) ls ≡ behind so_far (with_first first stated)
further ls adds (Ok rule) (Ok more) same so_far is = one ls so_far rule more same adds
further ls adds (Ok rule) (Err fault) same so_far is = grind rules
further ls adds (Err fault) stated same so_far is = refl

adds : (ls : List RuleLine) → Adds ls
adds [] = λ so_far fits is. rw (append-nil so_far, fits) refl
adds (l ∷ ls) = λ so_far fits is. further ls (adds ls) (rule_of_line l) (rules_stated ls) refl so_far is

at_first : (stated : Result (List RangeMeaning) LicenceFault) → behind [] stated ≡ book_stated stated
at_first (Ok all) = refl
at_first (Err fault) = refl

pub all_added : (ls : List RuleLine) → told (rules_stated ls) ≡ Ok tt → with_lines (Ok []) ls ≡ book_of_lines ls
all_added ls is = adds ls [] refl is ∙ at_first (rules_stated ls)
