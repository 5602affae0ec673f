use Rattle.std.proofs.Common.{◌≡◌, drop}
use Rattle.host.specs.Lines.{rules_stated}
use Rattle.rulebook.specs.Steps.{told}
use Rattle.host.proofs.lines.check_lines.Given as goal

abbrev pub invariant-loop-line : goal.invariant-loop-line
invariant-loop-line l = told (rules_stated (drop l.line-index l.lines)) ≡ told (rules_stated l.lines)
