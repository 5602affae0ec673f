-- An input that is fed byte by byte is answered as its lines are.
use Rattle.std.proofs.Common.{◌≡◌, ℕ, true, false, cond, List, [], ◌∷◌, ◌++◌, Some, None, Option, Result, refl, ap, ◌∙◌}
use Rattle.command.specs.Commands.{Command}
use Rattle.command.specs.Lines.{command_of}
use Rattle.command.specs.Inputs.{is_newline, said_at, said_last, kept_with, kept_after, Fed, fed, followed, all_said}
use Rattle.session.specs.declared.answer.Answer.{Answer}
use Rattle.session.specs.declared.fault.LineFault.{LineFault}
use Rattle.session.specs.Desks.{Desk, waiting}
use Rattle.session.specs.Sessions.{answers}
use Rattle.session.specs.Conversations.{replied, desk_after, all_answered, said_in}

-- an answer, if a line ends here, and then those to the lines after it
one_line : (d : Desk) (now : Option (Option Command)) (xs : List (Option Command)) →
    followed (replied d now) (answers (desk_after d now) xs) ≡ answers d (followed now xs)
one_line d None xs = refl
one_line d (Some said) xs = refl

all_lines : (d : Desk) (kept input : List ℕ) → all_answered d kept input ≡ answers d (all_said kept input)
all_lines d kept [] = one_line d (said_last kept) []
all_lines d kept (b ∷ bs) =
    ap (followed (replied d (said_at kept b))) (all_lines (desk_after d (said_at kept b)) (kept_after kept b) bs)
    ∙ one_line d (said_at kept b) (all_said (kept_after kept b) bs)

pub line_by_line : (d : Desk) (kept input : List ℕ) → d ≡ waiting → all_said kept input ≡ said_in input →
    all_answered d kept input ≡ answers waiting (said_in input)
line_by_line d kept input e l = all_lines d kept input ∙ (ap (λ x. answers x (all_said kept input)) e ∙ ap (answers waiting) l)

abbrev on : Desk → List ℕ → Fed → List (Result Answer LineFault)
on d more f = followed (replied d f.said) (all_answered (desk_after d f.said) f.kept (f.left ++ more))

on_fed : (d : Desk) (kept bs more : List ℕ) → all_answered d kept (bs ++ more) ≡ on d more (fed kept bs)
on_fed d kept [] more = refl
on_fed d kept (b ∷ bs) more =
    elim (is_newline b) as (λ newline.
    (let now = cond newline (Some (command_of kept)) None in
    followed (replied d now) (all_answered (desk_after d now) (cond newline [] (kept_with kept b)) (bs ++ more))) ≡
    on d more (cond newline (record { said = Some (command_of kept); kept = []; left = bs }) (fed (kept_with kept b) bs))) [
      | true ↦ refl
      | false ↦ on_fed d (kept_with kept b) bs more
    ]

-- what is answered from here on is the answer now, and then the answers to the bytes that are left and those after them
pub answered_on : (d d' : Desk) (kept bs more : List ℕ) (r : Option (Result Answer LineFault)) (kept' left : List ℕ) →
    r ≡ replied d (fed kept bs).said → d' ≡ desk_after d (fed kept bs).said → kept' ≡ (fed kept bs).kept → left ≡ (fed kept bs).left →
    all_answered d kept (bs ++ more) ≡ followed r (all_answered d' kept' (left ++ more))
answered_on d d' kept bs more r kept' left a n k l = rw (a, n, k, l) (on_fed d kept bs more)
