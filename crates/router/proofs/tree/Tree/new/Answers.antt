use Rattle.std.proofs.Common.{rules}
use Rattle.router.proofs.Leading.{begins}
use Rattle.router.proofs.tree.Tree.new.Goals as goal

pub returns-clause-laws : goal.returns-clause-laws
returns-clause-laws g c = begins _ (g.met.W.Wiring.lawful c.args.wiring) (g.P.Policy.verdict c.args.policy) _ (search rules)
