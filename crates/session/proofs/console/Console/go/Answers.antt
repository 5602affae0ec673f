use Rattle.std.proofs.Common.{List, ap, ◌∙◌}
use Rattle.router.specs.Calls.{new_tree}
use Rattle.rulebook.specs.Rulebooks.{RangeRule, ruled}
use Rattle.session.specs.Consoles.{shape_of}
use Rattle.session.specs.Desks.{running}
use Rattle.session.specs.declared.console.Console.TheVariants.{Running}
use Rattle.session.proofs.Standing.{silent}
use Rattle.session.proofs.console.Console.go.Goals as goal

pub returns-in-Ruling-clause-laws : goal.returns-in-Ruling-clause-laws
returns-in-Ruling-clause-laws c = rw c.in-Ruling.is (λ calls e. rw e c.new-in-Ruling.ensures.laws)

pub returns-in-Running-clause-laws : goal.returns-in-Running-clause-laws
returns-in-Running-clause-laws c = rw c.in-Running.is (silent (Running c.in-Running.field-0))

pub returns-in-Ruling-clause-next : goal.returns-in-Ruling-clause-next
returns-in-Ruling-clause-next c =
    rw c.in-Ruling.is (ap running (c.new-in-Ruling.ensures.tree ∙ ap (λ (rs : List RangeRule). new_tree (shape_of c.in-Ruling.wiring) (ruled rs)) c.replace-rules.ensures.value))
