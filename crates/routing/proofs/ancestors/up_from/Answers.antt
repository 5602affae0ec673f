use Rattle.routing.proofs.Upward.{upward_few}
use Rattle.routing.proofs.ancestors.up_from.Goals as goal

pub returns-clause-few : goal.returns-clause-few
returns-clause-few g c = upward_few (g.W.Wiring.shape c.args.wiring.now) (g.met.W.Wiring.lawful c.args.wiring.now) c.args.card
