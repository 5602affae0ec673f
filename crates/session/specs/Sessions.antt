-- The calls that a session makes on its tree, and where they lead.
use Rattle.std.specs.Prelude.{◌≡◌, List, [], ◌∷◌, ◌++◌, Some, Option, Err, Result}
use Rattle.network.specs.Runs.{Call, send, fire, take, owed}
use Rattle.router.specs.Kept.{Led, Stands}
use Rattle.command.specs.Commands.{Command}
use Rattle.command.specs.Commands.Command.{Send, Fire, Take, Owed}
use Rattle.session.specs.declared.answer.Answer.{Answer}
use Rattle.session.specs.declared.fault.LineFault.{LineFault}
use Rattle.session.specs.Desks.{Desk, running, heard}

-- the call that a command makes on a tree, if it makes one
abbrev pub call_of : Command → List Call
call_of (Send card packet) = send card packet ∷ []
call_of (Fire card station input) = fire card station input ∷ []
call_of (Take card) = take card ∷ []
call_of Owed = owed ∷ []
call_of other = []

-- the call that a line makes, by what the console is and the command that the line says: no tree runs before `go`
abbrev pub call_made : Desk → Option Command → List Call
call_made (running m) (Some command) = call_of command
call_made d other = []

-- these calls, made since `go`, have led to what the console is; before it none are made
abbrev pub CameBy : List Call → Desk → Type 0
CameBy calls (running m) = Led calls m
CameBy calls before = calls ≡ []

-- these calls have led there, and where a tree runs the three laws hold
abbrev pub StandsBy : List Call → Desk → Type 0
StandsBy calls (running m) = Stands calls m
StandsBy calls before = calls ≡ []

-- a line that says this takes the console d to d': whatever calls have led to d, with that of the line they have led to d', and there the
-- laws hold
abbrev pub KeepsOn : Option Command → Desk → Desk → Type 0
KeepsOn said d d' = (calls : List Call) → CameBy calls d → StandsBy (calls ++ call_made d said) d'

-- what the console is after lines that say these commands, or none
abbrev pub after : Desk → List (Option Command) → Desk
after d [] = d
after d (said ∷ more) = after (heard d said).next more

-- what these lines are answered, one answer for each line, in order
abbrev pub answers : Desk → List (Option Command) → List (Result Answer LineFault)
answers d [] = []
answers d (said ∷ more) = (heard d said).answer ∷ answers (heard d said).next more

-- the calls that these lines make on the tree, in order
abbrev pub calls_made : Desk → List (Option Command) → List Call
calls_made d [] = []
calls_made d (said ∷ more) = call_made d said ++ calls_made (heard d said).next more

-- a refused line changes nothing, whatever the console is
abbrev pub RefusedChangeNothing : Type 0
RefusedChangeNothing = (d : Desk) (said : Option Command) (fault : LineFault) → (heard d said).answer ≡ Err fault → (heard d said).next ≡ d
