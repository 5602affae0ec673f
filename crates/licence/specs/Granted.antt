-- An answer by the meaning of what is granted.
use Rattle.std.specs.Prelude.{Ok, Err, Result}
use Rattle.refusal.specs.declared.build.LicenceFault.{LicenceFault}

-- an answer, with what is granted seen by its meaning
abbrev pub granted : {T U : Type 0} → (T → U) → Result T LicenceFault → Result U LicenceFault
granted meaning (Ok x) = Ok (meaning x)
granted meaning (Err fault) = Err fault
