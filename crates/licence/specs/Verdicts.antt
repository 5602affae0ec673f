-- Verdicts, and the classes that there are.
use Rattle.std.specs.Prelude.{ℕ, Bool, true, nat_lt}
use Rattle.packet.specs.Heads.{class_count}
use Rattle.licence.specs.declared.verdict.Verdict.{Verdict}
use Rattle.licence.specs.declared.verdict.Verdict.TheVariants.{Refuse, Class}

-- how many classes there are: a class is a number below this
abbrev pub classes : ℕ
classes = class_count

-- a verdict that a rule may carry: 'refuse', or one of the classes
abbrev pub known : Verdict → Bool
known Refuse = true
known (Class class) = nat_lt class classes
