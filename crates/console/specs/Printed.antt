-- What is printed for the bytes of an input.
use Rattle.std.specs.Prelude.{ℕ, List, [], ◌∷◌, ◌++◌, Result}
use Rattle.command.specs.Inputs.{said_at, kept_after, followed}
use Rattle.session.specs.declared.answer.Answer.{Answer}
use Rattle.session.specs.declared.fault.LineFault.{LineFault}
use Rattle.session.specs.Answers.{reply_text}
use Rattle.session.specs.Desks.{Desk}
use Rattle.session.specs.Conversations.{replied, desk_after}

-- replies one behind the other, each with its newline
abbrev pub printed : List (Result Answer LineFault) → List ℕ
printed [] = []
printed (a ∷ rest) = (reply_text a ++ 10 ∷ []) ++ printed rest

-- the answers to the lines that these bytes end, read byte by byte after what is kept of a line
abbrev pub answered_by : Desk → List ℕ → List ℕ → List (Result Answer LineFault)
answered_by d kept [] = []
answered_by d kept (b ∷ bs) = followed (replied d (said_at kept b)) (answered_by (desk_after d (said_at kept b)) (kept_after kept b) bs)
