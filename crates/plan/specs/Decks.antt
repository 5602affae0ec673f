-- What the lines of a deck are answered, and what stands afterwards.
use Rattle.std.specs.Prelude.{◌≡◌, ℕ, List, [], ◌∷◌, ◌++◌, codes, decimal, Some, None, Ok, Err, Option, Result}
use Rattle.std.specs.Io.KnownBytes.{Appends}
use Rattle.std.specs.List.{FoldsTo}
use Rattle.wiring.specs.Shapes.{Shape}
use Rattle.wiring.specs.declared.cabinets.Cabinet.{Cabinet}
use Rattle.wiring.specs.Cabinets.{cabinet_shape}
use Rattle.planner.specs.declared.plans.Plan.{Plan}
use Rattle.planner.specs.declared.faults.PlanFault.{PlanFault}
use Rattle.planner.specs.Lines.{frame_line}
use Rattle.planner.specs.Cabinets.{FrameAnswered, cabinet_told}
use Rattle.planner.specs.Answers.{OrderAnswered}
use Rattle.planner.specs.Texts.{plan_text, fault_text}
use Rattle.plan.specs.declared.Tally.{Tally}
use Rattle.plan.specs.Tallies.{tally_text, one_planned, one_refused}
use Rattle.plan.specs.declared.Deck.{Deck}
use Rattle.plan.specs.Inputs.{lines_of}

-- the text as a line
abbrev pub line_text : List ℕ → List ℕ
line_text text = text ++ 10 ∷ []

-- a refused line
abbrev pub refused_text : PlanFault → List ℕ
refused_text f = codes "refused by " ++ fault_text f

-- a line before the wiring is known, and an order
abbrev pub wiring_text : Result Cabinet PlanFault → List ℕ
wiring_text (Ok c) = codes "a tree of " ++ (decimal (cabinet_shape c).cards ++ codes " cards")
wiring_text (Err f) = refused_text f

abbrev pub order_text : Result Plan PlanFault → List ℕ
order_text (Ok p) = plan_text p
order_text (Err f) = refused_text f

-- the tally after such a line: the wiring itself is no order
abbrev pub wiring_counted : Tally → Result Cabinet PlanFault → Tally
wiring_counted t (Ok c) = t
wiring_counted t (Err f) = one_refused t

abbrev pub order_counted : Tally → Result Plan PlanFault → Tally
order_counted t (Ok p) = one_planned t
order_counted t (Err f) = one_refused t

-- the wiring that stands after such a line
abbrev pub wiring_after : Option Cabinet → Result Cabinet PlanFault → Option Cabinet
wiring_after old (Ok c) = Some c
wiring_after old (Err f) = old

module _ {O : Type 0} (contents : O → Option (List ℕ)) where
  -- this text was printed, and the wiring and the tally are these
  pub record Printed (text : List ℕ) (wiring : Option Cabinet) (tally : Tally) (before after : Deck O) : Type 0 where
    pub printed : Appends (contents before.out) (contents after.out) (line_text text)
    pub stands : after.cabinet ≡ wiring
    pub counts : after.tally ≡ tally

  -- a line before the wiring is known is answered by its wiring, or by why there is none
  pub record WiringTold (line : List ℕ) (before after : Deck O) : Type 0 where
    pub answer : Result Cabinet PlanFault
    pub answered : FrameAnswered (frame_line line) (cabinet_told answer)
    pub told : Printed (wiring_text answer) (wiring_after before.cabinet answer) (wiring_counted before.tally answer) before after

  -- a line after it is answered by the plan of its order over this wiring, or by why there is none
  pub record OrderTold (shape : Shape) (line : List ℕ) (before after : Deck O) : Type 0 where
    pub answer : Result Plan PlanFault
    pub answered : OrderAnswered shape line answer
    pub told : Printed (order_text answer) before.cabinet (order_counted before.tally answer) before after

  abbrev pub ToldBy : Option Cabinet → List ℕ → Deck O → Deck O → Type 0
  ToldBy None line before after = WiringTold line before after
  ToldBy (Some c) line before after = OrderTold (cabinet_shape c) line before after

  -- a line is answered by the wiring that stands
  abbrev pub LineTold : Deck O → List ℕ → Deck O → Type 0
  LineTold before line after = ToldBy before.cabinet line before after

  -- so are the lines of an input, each once and in order
  abbrev pub AllTold : Deck O → List ℕ → Deck O → Type 0
  AllTold before input after = FoldsTo LineTold before (lines_of input) after

  -- a whole input: its lines, and the summary of what was counted
  pub record WholeTold (before : Deck O) (input : List ℕ) (after : Deck O) : Type 0 where
    pub ended : Deck O
    pub lines : AllTold before input ended
    pub summary : Appends (contents ended.out) (contents after.out) (line_text (tally_text ended.tally))
