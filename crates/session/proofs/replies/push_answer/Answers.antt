use Rattle.session.proofs.Spelling.{ok_behind}
use Rattle.session.proofs.replies.push_answer.Goals as goal

pub returns-in-Word-clause-text : goal.returns-in-Word-clause-text
returns-in-Word-clause-text c =
    rw (c.in-Word.is, c.push_digits.ensures.items, c.push-in-Word.ensures.items, c.push-2.ensures.items, c.push.ensures.items) (ok_behind _ _)
