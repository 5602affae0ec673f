use Rattle.std.proofs.Common.{rules, arith, ap, ◌∙◌}
use Rattle.network.specs.Cards.{younger}
use Rattle.store.proofs.Around.{younger_next, younger_none}
use Rattle.store.proofs.ring.Ring.drop_oldest.Goals as goal
use Rattle.store.proofs.ring.Ring.drop_oldest.Goals.{then-self, else-self}

pub returns : goal.returns
returns c =
    let r = c.self.inside in
    elim c.if-self.branch [
      | then-self w ↦ rw w.self-is (younger_none r.words r.taken r.added (omega arith) (search rules) ∙ ap younger c.self.view_is)
      | else-self w ↦ rw w.self-is (younger_next r.words r.taken r.added (omega arith) (omega arith) (search rules) ∙ ap younger c.self.view_is)
    ]
