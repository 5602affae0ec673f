use Rattle.std.proofs.Common.{◌≡◌, ◌++◌, vec_items}
use Rattle.std.specs.Option.{option_map}
use Rattle.text.specs.Fields.{fields_left}
use Rattle.planner.specs.Lines.{read_all}
use Rattle.planner.proofs.reading.read_all.Given as goal

-- the values so far stand before those that are still to be read
abbrev pub invariant-loop-field : goal.invariant-loop-field
invariant-loop-field g l =
    let read = read_all g.S.Spelling.spells in
    read (fields_left l.fn.fields) ≡ option_map (λ vs. vec_items l.values ++ vs) (read (fields_left l.field-iterator))
