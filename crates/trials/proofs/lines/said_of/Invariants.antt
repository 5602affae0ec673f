use Rattle.std.proofs.Common.{length}
use Rattle.trials.proofs.lines.said_of.Given as goal

-- each line takes a newline
abbrev pub decreases-loop-line : goal.decreases-loop-line
decreases-loop-line l = length l.left
