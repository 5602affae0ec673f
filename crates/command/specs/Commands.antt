-- What a line asks for, as clauses speak of it: the packet of a `send` is a list of words, wherever they are kept.
use Rattle.std.specs.Prelude.{ℕ, List, Option}
use Rattle.licence.specs.declared.sets.Span.{Span}
use Rattle.station.specs.declared.hold.Station.{Station}
use Rattle.station.specs.declared.hold.Input.{Input}
use Rattle.command.specs.declared.command.Command.{Command as Held}
use Rattle.command.specs.declared.command.Command.TheVariants as held

-- Numbers are as they are written; the class None is 'refuse'.
pub data Command : Type 0 where
  Tree : ℕ → Command
  Rule : Span ℕ → Span ℕ → Option ℕ → Command
  Go : Command
  Send : ℕ → List ℕ → Command
  Fire : ℕ → Station → Input → Command
  Take : ℕ → Command
  Owed : Command

-- what a command in hand asks for
abbrev pub meant : Held → Command
meant (held.Tree levels) = Tree levels
meant (held.Rule cards keys class) = Rule cards keys class
meant held.Go = Go
meant (held.Send card packet) = Send card packet.now
meant (held.Fire card station input) = Fire card station input
meant (held.Take card) = Take card
meant held.Owed = Owed
