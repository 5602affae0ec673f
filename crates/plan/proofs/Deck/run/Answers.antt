use Rattle.plan.proofs.Answering.{whole_of}
use Rattle.plan.proofs.Deck.run.Goals as goal

pub returns : goal.returns
returns g c = whole_of g.O.Write.contents _ _ c.answer_all.new.self _ c.end.result c.in_ok-answer_all.ensures c.end.ensures
