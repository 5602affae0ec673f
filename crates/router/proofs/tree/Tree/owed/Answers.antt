use Rattle.router.proofs.Leading.{owed_leads}
use Rattle.router.proofs.tree.Tree.owed.Goals as goal

pub returns-clause-laws : goal.returns-clause-laws
returns-clause-laws g c = owed_leads _ (g.met.W.Wiring.lawful c.args.self.now.wiring)
