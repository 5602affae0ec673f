use Rattle.text.proofs.ReadBack.{decimal_back}
use Rattle.text.proofs.number.decimal.Goals as goal

pub returns-in_err-number-clause-back : goal.returns-in_err-number-clause-back
returns-in_err-number-clause-back c = decimal_back

pub returns-clause-back : goal.returns-clause-back
returns-clause-back c = decimal_back
