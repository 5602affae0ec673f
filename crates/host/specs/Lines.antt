-- Range rules as a host writes them.
use Rattle.std.specs.Prelude.{ℕ, cond, List, [], ◌∷◌, Ok, Err, Result, ◌==◌}
use Rattle.refusal.specs.declared.build.LicenceFault.{LicenceFault}
use Rattle.licence.specs.declared.verdict.Verdict.{Verdict}
use Rattle.licence.specs.declared.verdict.Verdict.TheVariants.{Refuse, Class}
use Rattle.licence.specs.Books.{book_of}
use Rattle.licence.specs.Ranges.{RangeMeaning, range_of}
use Rattle.host.specs.declared.lines.RuleLine.{RuleLine}

-- a verdict by its number: a class, or 255 for 'refuse'
abbrev pub verdict_of : ℕ → Verdict
verdict_of number = cond (number == 255) Refuse (Class number)

-- the rule that a line states, or why there is none
abbrev pub rule_of_line : RuleLine → Result RangeMeaning LicenceFault
rule_of_line l = range_of (record { low = l.low_card; high = l.high_card }) (record { low = l.low_key; high = l.high_key }) (verdict_of l.verdict)

-- a line's rule before the rules of the lines behind it: the first line that states none decides
abbrev pub with_first : Result RangeMeaning LicenceFault → Result (List RangeMeaning) LicenceFault → Result (List RangeMeaning) LicenceFault
with_first (Ok rule) (Ok rules) = Ok (rule ∷ rules)
with_first (Ok rule) (Err fault) = Err fault
with_first (Err fault) rules = Err fault

-- the rules that the lines state, in their order, or why one of them states none
abbrev pub rules_stated : List RuleLine → Result (List RangeMeaning) LicenceFault
rules_stated [] = Ok []
rules_stated (l ∷ ls) = with_first (rule_of_line l) (rules_stated ls)

-- the book of these rules: their number is judged when each of them is stated
abbrev pub book_stated : Result (List RangeMeaning) LicenceFault → Result (List RangeMeaning) LicenceFault
book_stated (Ok rules) = book_of rules
book_stated (Err fault) = Err fault

-- the book of the rules that the lines state
abbrev pub book_of_lines : List RuleLine → Result (List RangeMeaning) LicenceFault
book_of_lines ls = book_stated (rules_stated ls)
