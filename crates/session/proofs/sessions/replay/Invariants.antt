use Rattle.std.proofs.Common.{take, map}
use Rattle.std.specs.Option.{option_map}
use Rattle.command.specs.Commands.{meant}
use Rattle.session.specs.Consoles.{desk_of}
use Rattle.session.proofs.SoFar.{SoFar}
use Rattle.session.proofs.sessions.replay.Given as goal

abbrev pub invariant-loop-said : goal.invariant-loop-said
invariant-loop-said l = SoFar (map (option_map meant) (take l.said-index l.session)) (desk_of l.console)
