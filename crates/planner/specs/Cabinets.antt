-- The wiring that a line states, and what the line is answered.
use Rattle.std.specs.Prelude.{◌≡◌, Some, None, Ok, Err, Option, Result}
use Rattle.wiring.specs.Shapes.{Shape}
use Rattle.wiring.specs.Fulls.{full_tree}
use Rattle.wiring.specs.Tables.{Wired}
use Rattle.wiring.specs.Cabinets.{cabinet_shape}
use Rattle.wiring.specs.declared.cabinets.Cabinet.{Cabinet}
use Rattle.planner.specs.declared.faults.PlanFault.{PlanFault}
use Rattle.planner.specs.declared.faults.PlanFault.TheVariants.{NotUnderstood, Wiring, Order, Memory}
use Rattle.planner.specs.Lines.{Frame, levels, table}

abbrev pub cabinet_told : Result Cabinet PlanFault → Result Shape PlanFault
cabinet_told (Ok c) = Ok (cabinet_shape c)
cabinet_told (Err f) = Err f

-- the answer to a line that states a wiring: its tree, or why there is none; want of memory may stand in place of any
abbrev pub FrameAnswered : Option Frame → Result Shape PlanFault → Type 0
FrameAnswered None (Ok s) = ⊥
FrameAnswered None (Err NotUnderstood) = Unit {0}
FrameAnswered None (Err (Wiring f)) = ⊥
FrameAnswered None (Err (Order f)) = ⊥
FrameAnswered None (Err Memory) = Unit {0}
FrameAnswered (Some (levels l)) (Ok s) = full_tree l ≡ Ok s
FrameAnswered (Some (levels l)) (Err NotUnderstood) = ⊥
FrameAnswered (Some (levels l)) (Err (Wiring f)) = full_tree l ≡ Err f
FrameAnswered (Some (levels l)) (Err (Order f)) = ⊥
FrameAnswered (Some (levels l)) (Err Memory) = Unit {0}
FrameAnswered (Some (table t)) (Ok s) = Wired t (Ok s)
FrameAnswered (Some (table t)) (Err NotUnderstood) = ⊥
FrameAnswered (Some (table t)) (Err (Wiring f)) = Wired t (Err f)
FrameAnswered (Some (table t)) (Err (Order f)) = ⊥
FrameAnswered (Some (table t)) (Err Memory) = Unit {0}
