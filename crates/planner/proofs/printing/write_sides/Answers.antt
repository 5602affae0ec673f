use Rattle.std.proofs.Common.{[], ◌++◌, refl, sym, ◌∙◌, rules, append_assoc, append-nil}
use Rattle.std.proofs.Output.{has_written_append, has_written_of_eq}
use Rattle.std.specs.List.{flat_map}
use Rattle.packet.specs.Routes.{side_letter}
use Rattle.packet.specs.Courses.{sides_in}
use Rattle.planner.proofs.printing.write_sides.Goals as goal

pub loop-side-init : goal.loop-side-init
loop-side-init g c = λ plain. ([], search rules, rw c.into_iter-side-iterator.ensures.into_iter_gives refl)

pub loop-side-preserved : goal.loop-side-preserved
loop-side-preserved g c = λ plain.
    let so_far = c.loop-side.invariant plain in
    let letter = side_letter c.in-Some.side in (
      so_far.0 ++ letter,
      has_written_append _ _ _ _ _ _ so_far.1 (search rules),
      append_assoc so_far.0 letter (flat_map side_letter (sides_in c.next.new.self.0)) ∙ rw c.in-Some.ensures.steps at so_far.2,
    )

pub returns : goal.returns
returns g c = λ plain ok.
    let so_far = c.loop-side.invariant plain in
    has_written_of_eq _ _ _ _ _ (sym (append-nil so_far.0) ∙ rw c.in-None.ensures.steps.0 at so_far.2) so_far.1
