use Rattle.std.proofs.Common.{rules}
use Rattle.router.proofs.Leading.{take_leads}
use Rattle.router.proofs.tree.Tree.take.Goals as goal

pub returns-clause-laws : goal.returns-clause-laws
returns-clause-laws g c = take_leads _ (g.met.W.Wiring.lawful c.args.self.now.wiring) _ _ (search rules)
