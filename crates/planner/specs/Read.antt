-- What is read of a line's fields.
use Rattle.std.specs.Prelude.{◌≡◌, List, Some, None, ◌⊎◌, MatchResult, vec_items, Option, Result, Vec}
use Rattle.std.specs.declared.alloc.Global.{Global}
use Rattle.planner.specs.declared.faults.PlanFault.{PlanFault}
use Rattle.planner.specs.declared.faults.PlanFault.TheVariants.{NotUnderstood, Memory}

-- the answer to a list of fields: what they say, or 21 where they say nothing; want of memory may stand in place of either
abbrev pub AllRead : {X : Type 0} → Option (List X) → Result (Vec X Global) PlanFault → Type 0
AllRead o r = MatchResult r (λ v. o ≡ Some (vec_items v)) (λ e. (e ≡ Memory) ⊎ ((e ≡ NotUnderstood) × (o ≡ None)))
