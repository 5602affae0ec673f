use Rattle.std.proofs.Common.{rules}
use Rattle.command.proofs.Sound.{sound, complete}
use Rattle.command.proofs.reading.read.Goals as goal

pub returns-then-line-gt-LONGEST_LINE-clause-sound : goal.returns-then-line-gt-LONGEST_LINE-clause-sound
returns-then-line-gt-LONGEST_LINE-clause-sound c = tt

pub returns-then-line-gt-LONGEST_LINE-clause-complete : goal.returns-then-line-gt-LONGEST_LINE-clause-complete
returns-then-line-gt-LONGEST_LINE-clause-complete c = complete c.args.line.now _ (search rules)

pub returns-else-line-gt-LONGEST_LINE-clause-sound : goal.returns-else-line-gt-LONGEST_LINE-clause-sound
returns-else-line-gt-LONGEST_LINE-clause-sound c = sound c.args.line.now _ (search rules)

pub returns-else-line-gt-LONGEST_LINE-clause-complete : goal.returns-else-line-gt-LONGEST_LINE-clause-complete
returns-else-line-gt-LONGEST_LINE-clause-complete c = complete c.args.line.now _ (search rules)
