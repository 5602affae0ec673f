use Rattle.std.proofs.Common.{◌∙◌}
use Rattle.rulebook.proofs.Meant.{meant}
use Rattle.rulebook.proofs.rulebook.rules.RulebookPolicy.ask.Goals as goal

pub returns : goal.returns
returns c = c.ask.ensures.meaning ∙ rw c.book.ensures (meant c.args.self.now c.args.card c.args.key)
