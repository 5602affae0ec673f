use Rattle.std.proofs.Common.{rules}
use Rattle.router.proofs.Leading.{fire_leads}
use Rattle.router.proofs.tree.Tree.fire.Goals as goal

pub returns-in-Up-default-clause-laws : goal.returns-in-Up-default-clause-laws
returns-in-Up-default-clause-laws g c = fire_leads _ (g.met.W.Wiring.lawful c.args.self.now.wiring) _ _ _ _ (search rules)

pub returns-in-Down-Parent-clause-laws : goal.returns-in-Down-Parent-clause-laws
returns-in-Down-Parent-clause-laws g c = fire_leads _ (g.met.W.Wiring.lawful c.args.self.now.wiring) _ _ _ _ (search rules)

pub returns-in-Down-default-clause-laws : goal.returns-in-Down-default-clause-laws
returns-in-Down-default-clause-laws g c = fire_leads _ (g.met.W.Wiring.lawful c.args.self.now.wiring) _ _ _ _ (search rules)
