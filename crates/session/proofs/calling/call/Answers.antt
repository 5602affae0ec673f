use Rattle.std.proofs.Common.{refl, arith}
use Rattle.command.specs.Commands.{meant}
use Rattle.session.specs.Sessions.{call_of}
use Rattle.session.proofs.Standing.{stays}
use Rattle.session.proofs.calling.call.Goals as goal

pub returns-in-Fire-clause-answer : goal.returns-in-Fire-clause-answer
returns-in-Fire-clause-answer c = rw c.in-Fire.is c.fire.ensures.answer

pub returns-in-Fire-clause-next : goal.returns-in-Fire-clause-next
returns-in-Fire-clause-next c = rw c.in-Fire.is c.fire.ensures.next

pub returns-in-Fire-clause-laws : goal.returns-in-Fire-clause-laws
returns-in-Fire-clause-laws c = rw c.in-Fire.is c.fire.ensures.laws

pub returns-in_err-send-in-Send-clause-laws : goal.returns-in_err-send-in-Send-clause-laws
returns-in_err-send-in-Send-clause-laws c = rw c.in-Send.is c.send.ensures.laws

pub returns-in_ok-send-in-Send-clause-laws : goal.returns-in_ok-send-in-Send-clause-laws
returns-in_ok-send-in-Send-clause-laws c = rw c.in-Send.is c.send.ensures.laws

pub returns-in_err-take-in-Take-clause-laws : goal.returns-in_err-take-in-Take-clause-laws
returns-in_err-take-in-Take-clause-laws c = rw c.in-Take.is c.take.ensures.laws

pub returns-in_ok-take-in-Take-clause-laws : goal.returns-in_ok-take-in-Take-clause-laws
returns-in_ok-take-in-Take-clause-laws c = rw c.in-Take.is c.take.ensures.laws

pub returns-in-Owed-clause-laws : goal.returns-in-Owed-clause-laws
returns-in-Owed-clause-laws c = rw c.in-Owed.is c.owed.ensures.laws

pub returns-in-Tree-clause-laws : goal.returns-in-Tree-clause-laws
returns-in-Tree-clause-laws c = let i = c.in-Tree.is in stays _ c.args.tree.now.wiring refl (call_of (meant c.args.command)) (grind arith)
