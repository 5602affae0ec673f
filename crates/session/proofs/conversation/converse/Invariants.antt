use Rattle.std.proofs.Common.{length}
use Rattle.session.specs.Conversations.{desk_in, said_in}
use Rattle.session.proofs.Halfway.{Halfway}
use Rattle.session.proofs.conversation.converse.Given as goal

abbrev pub invariant-loop-left : goal.invariant-loop-left
invariant-loop-left l = Halfway (said_in l.input) l.conversation.line l.left (desk_in l.conversation)

abbrev pub decreases-loop-left : goal.decreases-loop-left
decreases-loop-left l = length l.left
