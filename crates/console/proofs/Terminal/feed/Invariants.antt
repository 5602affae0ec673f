use Rattle.std.proofs.Common.{◌++◌, length}
use Rattle.session.specs.Conversations.{desk_in}
use Rattle.session.specs.Replies.{HasRoom}
use Rattle.console.specs.Printed.{printed, answered_by}
use Rattle.console.proofs.Printing.{SoFar}
use Rattle.console.proofs.Terminal.feed.Given as goal

-- what is written, what is held back and the replies to the bytes that are left are the replies to all bytes
abbrev pub invariant-loop-answer : goal.invariant-loop-answer
invariant-loop-answer g l = record {
  room : HasRoom l.self.replies;
  far : SoFar (g.O.Write.contents l.fn.self.out) (g.O.Write.contents l.self.out)
      (l.fn.self.replies.items ++ printed (answered_by (desk_in l.fn.self.conversation) l.fn.self.conversation.line l.fn.bytes))
      l.self.replies.items (printed (answered_by (desk_in l.self.conversation) l.self.conversation.line l.left));
}

-- each answer takes a newline
abbrev pub decreases-loop-answer : goal.decreases-loop-answer
decreases-loop-answer g l = length l.left
