use Rattle.std.specs.Prelude.{vec_items}
use Rattle.plan.proofs.Answering.{next_line}
use Rattle.plan.proofs.Deck.answer_all.Goals as goal

pub loop-line-preserved : goal.loop-line-preserved
loop-line-preserved g c =
    let piece = rw c.in_ok-line.was at c.in-Some.ensures.steps.2 in
    next_line g.O.Write.contents _ _ _ _ _ (vec_items c.in_ok-line.field-0) _ _ _ c.loop-line.invariant c.in-Some.ensures.steps.1 piece
    (rw c.as_slice.ensures.value at c.in_ok-answer.ensures)
