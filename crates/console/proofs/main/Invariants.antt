use Rattle.session.specs.Replies.{HasRoom}
use Rattle.console.proofs.main.Given as goal

abbrev pub invariant-loop : goal.invariant-loop
invariant-loop l = HasRoom l.terminal.replies
