-- What is counted of the lines that were answered.
use Rattle.std.specs.Prelude.{ℕ, ◌+◌, ◌-◌, ◌^◌, min, List, ◌++◌, codes, decimal}
use Rattle.plan.specs.declared.Tally.{Tally}

-- the summary
abbrev pub tally_text : Tally → List ℕ
tally_text t = codes "orders planned " ++ (decimal t.planned ++ (codes ", lines refused " ++ decimal t.refused))

abbrev pub nothing_counted : Tally
nothing_counted = record { planned = 0; refused = 0 }

-- one more, as far as 64 bits count
abbrev pub counted : ℕ → ℕ
counted n = min (n + 1) (2 ^ 64 - 1)

abbrev pub one_refused : Tally → Tally
one_refused t = record { planned = t.planned; refused = counted t.refused }

abbrev pub one_planned : Tally → Tally
one_planned t = record { planned = counted t.planned; refused = t.refused }
