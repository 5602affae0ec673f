-- A list of rules, and the policy that they make.
use Rattle.std.specs.Prelude.{ℕ, List, [], ◌∷◌, ◌++◌, map, Ok, Err, Result}
use Rattle.refusal.specs.declared.build.LicenceFault.{LicenceFault}
use Rattle.licence.specs.declared.sets.Span.{Span}
use Rattle.licence.specs.declared.set_rule.SetRule.{SetRule}
use Rattle.licence.specs.declared.verdict.Verdict.{Verdict}
use Rattle.licence.specs.Rules.{rule_in}
use Rattle.licence.specs.Ranges.{RangeMeaning, in_range}
use Rattle.licence.specs.Books.{first_of, book_of}

-- a range rule in hand
abbrev pub RangeRule : Type 0
RangeRule = SetRule (Span ℕ) (Span ℕ)

-- the book of these rules and one more behind them, or why there is none
abbrev pub one_more : {R : Type 0} → List R → R → Result (List R) LicenceFault
one_more rules rule = book_of (rules ++ rule ∷ [])

-- the rules with the new one behind them, or why they stay
abbrev pub with_rule : List RangeMeaning → Result RangeMeaning LicenceFault → Result (List RangeMeaning) LicenceFault
with_rule rules (Ok rule) = one_more rules rule
with_rule rules (Err fault) = Err fault

-- the verdicts of the book of these rules
abbrev pub verdicts_of : List RangeMeaning → ℕ → ℕ → Verdict
verdicts_of = first_of in_range (λ rule. rule.carried)

-- what rules in hand mean
abbrev pub rules_meant : List RangeRule → List RangeMeaning
rules_meant = map rule_in

-- the verdicts of the book of rules in hand
abbrev pub ruled : List RangeRule → ℕ → ℕ → Verdict
ruled rules = verdicts_of (rules_meant rules)
