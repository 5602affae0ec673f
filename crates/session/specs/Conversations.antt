-- What an input comes to, byte by byte and as a whole.
use Rattle.std.specs.Prelude.{ℕ, List, [], ◌∷◌, map, Some, None, Option, Result}
use Rattle.command.specs.Commands.{Command}
use Rattle.command.specs.Lines.{command_of}
use Rattle.command.specs.Inputs.{lines_of, said_at, said_last, kept_after, followed}
use Rattle.session.specs.declared.answer.Answer.{Answer}
use Rattle.session.specs.declared.fault.LineFault.{LineFault}
use Rattle.session.specs.declared.conversation.Conversation.{Conversation}
use Rattle.session.specs.Desks.{Desk, heard}
use Rattle.session.specs.Consoles.{desk_of}
use Rattle.session.specs.Sessions.{KeepsOn}

-- what the console of a conversation is
abbrev pub desk_in : Conversation → Desk
desk_in c = desk_of c.console

-- the answer to a line that ends here, if one does
abbrev pub replied : Desk → Option (Option Command) → Option (Result Answer LineFault)
replied d None = None
replied d (Some said) = Some (heard d said).answer

-- what the console is after it
abbrev pub desk_after : Desk → Option (Option Command) → Desk
desk_after d None = d
desk_after d (Some said) = (heard d said).next

-- all the answers to an input that follows what is kept of a line: it is fed byte by byte, and then ended
abbrev pub all_answered : Desk → List ℕ → List ℕ → List (Result Answer LineFault)
all_answered d kept [] = followed (replied d (said_last kept)) []
all_answered d kept (b ∷ bs) = followed (replied d (said_at kept b)) (all_answered (desk_after d (said_at kept b)) (kept_after kept b) bs)

-- a line that ends here keeps the laws
abbrev pub KeepsOnIf : Option (Option Command) → Desk → Desk → Type 0
KeepsOnIf None d d' = Unit {0}
KeepsOnIf (Some said) d d' = KeepsOn said d d'

-- what the lines of an input say: a command each, or nothing
abbrev pub said_in : List ℕ → List (Option Command)
said_in input = map command_of (lines_of input)
