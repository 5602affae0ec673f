use Rattle.std.proofs.Common.{◌≡◌, Ok, drop}
use Rattle.host.specs.Lines.{book_of_lines}
use Rattle.rulebook.specs.Rulebooks.{rules_meant}
use Rattle.host.proofs.Adding.{with_lines}
use Rattle.host.proofs.lines.read_rules.Given as goal

abbrev pub invariant-loop-line : goal.invariant-loop-line
invariant-loop-line l = with_lines (Ok (rules_meant l.book)) (drop l.line-index l.lines) ≡ book_of_lines l.lines
