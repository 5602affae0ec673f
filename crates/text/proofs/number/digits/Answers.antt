use Rattle.std.proofs.Common.{◌<◌, arith, rules}
use Rattle.text.proofs.OneMoreDigit.{more_fits}
use Rattle.text.proofs.number.digits.Goals as goal

pub overflow_mul-n : goal.overflow_mul-n
overflow_mul-n c = omega (arith, more_fits c.args.base c.loop-b.n 0 c.loop-b.b-index c.loop-b.invariant.1 (omega arith) (omega arith) (omega arith))

pub overflow_add-n : goal.overflow_add-n
overflow_add-n c =
    let less : c.in_ok-n.field-0 < c.args.base = search rules in
    omega (arith, more_fits _ _ _ _ c.loop-b.invariant.1 less (omega arith) (omega arith))
