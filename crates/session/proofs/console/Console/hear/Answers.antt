use Rattle.session.proofs.Standing.{silent}
use Rattle.session.proofs.console.Console.hear.Goals as goal

pub returns-in-Some-clause-laws : goal.returns-in-Some-clause-laws
returns-in-Some-clause-laws c = rw c.in-Some.is c.obey.ensures.laws

pub returns-in-None-clause-laws : goal.returns-in-None-clause-laws
returns-in-None-clause-laws c = rw c.in-None.is (silent c.args.self.now)
