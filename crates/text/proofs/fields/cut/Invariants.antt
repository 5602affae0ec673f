use Rattle.text.proofs.Cutting.{NoneYet}
use Rattle.text.proofs.fields.cut.Given as goal

abbrev pub invariant-loop-i : goal.invariant-loop-i
invariant-loop-i l = NoneYet l.text l.i
