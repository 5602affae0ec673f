use Rattle.std.proofs.Common.{◌≡◌, List, ℕ, ◌++◌}
use Rattle.std.specs.Fmt.{HasWritten, IsPlainFormatter}
use Rattle.std.specs.List.{flat_map}
use Rattle.packet.specs.Courses.{sides_in}
use Rattle.packet.specs.Routes.{side_letter}
use Rattle.planner.proofs.printing.write_sides.Given as goal

-- with the letters of the sides that are left it is the whole
abbrev pub invariant-loop-side : goal.invariant-loop-side
invariant-loop-side g l =
    IsPlainFormatter l.fn.f → (done : List ℕ) × HasWritten g.W.Write.write_str_gives l.fn.f done l.f ×
    (done ++ flat_map side_letter (sides_in l.side-iterator.0) ≡ flat_map side_letter (sides_in l.fn.sides))
