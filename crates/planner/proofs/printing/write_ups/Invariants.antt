use Rattle.std.proofs.Common.{replicate}
use Rattle.std.specs.Fmt.{HasWritten, IsPlainFormatter}
use Rattle.planner.proofs.printing.write_ups.Given as goal

abbrev pub invariant-loop-up : goal.invariant-loop-up
invariant-loop-up g l = IsPlainFormatter l.fn.f → HasWritten g.W.Write.write_str_gives l.fn.f (replicate l._up 85) l.f
