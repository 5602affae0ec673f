use Rattle.std.proofs.Common.{rules}
use Rattle.routing.proofs.Upward.{upward_step}
use Rattle.routing.proofs.ancestors.AncestorsIterator.next.Goals as goal

pub returns : goal.returns
returns g c =
    let e = upward_step (g.W.Wiring.shape c.args.self.now.wiring.now) (g.met.W.Wiring.lawful c.args.self.now.wiring.now) c.in_ok-card.card in
    search rules
