-- What a line of a planning deck is answered.
use Rattle.std.specs.Prelude.{ℕ, List, Some, None, Ok, Err, Option, Result}
use Rattle.refusal.specs.declared.answer.Refusal.{Refusal}
use Rattle.refusal.specs.Numbers.{numbered}
use Rattle.refusal.specs.Refusals.{wiring_refusal, order_refusal}
use Rattle.wiring.specs.Shapes.{Shape}
use Rattle.routing.specs.Orders.{Ordered}
use Rattle.planner.specs.declared.plans.Plan.{Plan}
use Rattle.planner.specs.declared.faults.PlanFault.{PlanFault}
use Rattle.planner.specs.declared.faults.PlanFault.TheVariants.{NotUnderstood, Wiring, Order, Memory}
use Rattle.planner.specs.Plans.{Plans}
use Rattle.planner.specs.Lines.{Ask, order_line}

-- the number of a refusal; want of memory has none
abbrev pub plan_refusal : PlanFault → Option Refusal
plan_refusal NotUnderstood = Some (numbered 21)
plan_refusal (Wiring f) = Some (wiring_refusal f)
plan_refusal (Order f) = Some (order_refusal f)
plan_refusal Memory = None

-- the answer to a line that asks, or does not: the plan of its order, the refusal of its route, or 21 where it is no order; want of
-- memory may stand in place of any
abbrev pub AskAnswered : Shape → Option Ask → Result Plan PlanFault → Type 0
AskAnswered s None (Ok p) = ⊥
AskAnswered s None (Err NotUnderstood) = Unit {0}
AskAnswered s None (Err (Wiring f)) = ⊥
AskAnswered s None (Err (Order f)) = ⊥
AskAnswered s None (Err Memory) = Unit {0}
AskAnswered s (Some a) (Ok p) = Plans s a.sender a.cards p
AskAnswered s (Some a) (Err NotUnderstood) = ⊥
AskAnswered s (Some a) (Err (Wiring f)) = ⊥
AskAnswered s (Some a) (Err (Order f)) = Ordered s a.sender a.cards (Err f)
AskAnswered s (Some a) (Err Memory) = Unit {0}

abbrev pub OrderAnswered : Shape → List ℕ → Result Plan PlanFault → Type 0
OrderAnswered s line r = AskAnswered s (order_line line) r
