use Rattle.std.proofs.Common.{length, arith, rules}
use Rattle.text.proofs.OneMoreDigit.{fewer_below}
use Rattle.text.proofs.number.number.Goals as goal

pub returns-then-contains-clause-small : goal.returns-then-contains-clause-small
returns-then-contains-clause-small c = fewer_below c.args.base (length c.args.field.now) c.args.most _ (omega arith) (search rules) c.digits.ensures.small
