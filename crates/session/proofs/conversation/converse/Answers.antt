use Rattle.std.proofs.Common.{rules}
use Rattle.session.specs.Conversations.{desk_in, said_in}
use Rattle.session.proofs.SoFar.{SoFar}
use Rattle.session.proofs.Halfway.{next_bytes, last_line, answered_shorter, unanswered_taken}
use Rattle.session.proofs.conversation.converse.Goals as goal

pub loop-left-preserved : goal.loop-left-preserved
loop-left-preserved c = next_bytes _ c.loop-left.conversation.line c.loop-left.left.now _ _ _ _ c.loop-left.invariant c.feed.ensures.line c.feed.ensures.left c.feed.ensures.next c.feed.ensures.laws

pub loop-left-smaller : goal.loop-left-smaller
loop-left-smaller c = answered_shorter (desk_in c.loop-left.conversation) c.loop-left.conversation.line c.loop-left.left.now _ c.feed.result (search rules) c.feed.ensures.answer c.feed.ensures.left

-- the last part has no newline, and all of it is taken
ends : (c : goal.After-end) → SoFar (said_in c.args.input.now) (desk_in c.end.new.self)
ends c =
    last_line _ _ _ _ _
    (unanswered_taken (desk_in c.loop-left.conversation) c.loop-left.conversation.line c.loop-left.left.now _ c.feed.result (search rules) c.feed.ensures.answer c.feed.ensures.left)
    (next_bytes _ c.loop-left.conversation.line c.loop-left.left.now _ _ _ _ c.loop-left.invariant c.feed.ensures.line c.feed.ensures.left c.feed.ensures.next c.feed.ensures.laws)
    c.end.ensures.next c.end.ensures.laws

pub returns-clause-next : goal.returns-clause-next
returns-clause-next c = (ends c).next

pub returns-clause-laws : goal.returns-clause-laws
returns-clause-laws c = (ends c).laws
