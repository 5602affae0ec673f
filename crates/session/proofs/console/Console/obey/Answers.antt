use Rattle.session.proofs.console.Console.obey.Goals as goal

pub returns-in-Go-clause-laws : goal.returns-in-Go-clause-laws
returns-in-Go-clause-laws c = rw c.in-Ruling.is c.go.ensures.laws

pub returns-in-Running-clause-laws : goal.returns-in-Running-clause-laws
returns-in-Running-clause-laws c = rw c.in-Running.is c.call.ensures.laws
