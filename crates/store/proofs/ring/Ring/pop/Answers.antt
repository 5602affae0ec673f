use Rattle.std.proofs.Common.{sym, ap, ◌∙◌, arith}
use Rattle.network.specs.Cards.{oldest, younger}
use Rattle.store.proofs.Around.{some_oldest, younger_next}
use Rattle.store.proofs.ring.Ring.pop.Goals as goal

pub returns-clause-rest : goal.returns-clause-rest
returns-clause-rest c =
    let r = c.self.inside in
    let some = ap oldest c.self.view_is ∙ (sym c.oldest.ensures ∙ c.in_ok-word.was) in
    let ne = some_oldest r.words r.taken r.added c.in_ok-word.word (omega arith) (omega arith) some in
    younger_next r.words r.taken r.added (omega arith) (omega arith) ne ∙ ap younger c.self.view_is
