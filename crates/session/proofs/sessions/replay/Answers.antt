use Rattle.session.proofs.SoFar.{goes_on}
use Rattle.session.proofs.sessions.replay.Goals as goal

pub loop-said-preserved : goal.loop-said-preserved
loop-said-preserved c = goes_on _ _ _ _ _ _ c.loop-said-test.true c.loop-said.invariant c.hear.ensures.next c.hear.ensures.laws
