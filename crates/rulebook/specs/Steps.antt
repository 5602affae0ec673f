-- A step that is taken or refused.
use Rattle.std.specs.Prelude.{Ok, Err, Result}

-- whether it is taken, or why not
abbrev pub told : {A F : Type 0} → Result A F → Result (Unit {0}) F
told (Ok new) = Ok tt
told (Err fault) = Err fault

-- what stands afterwards: the new where it is taken, else the old
abbrev pub kept : {A F : Type 0} → A → Result A F → A
kept old (Ok new) = new
kept old (Err fault) = old
