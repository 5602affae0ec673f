use Rattle.std.proofs.Common.{◌≡◌, Ok, Err, Result, sym, ap, ◌∙◌}
use Rattle.refusal.specs.declared.build.WiringFault.{WiringFault}
use Rattle.wiring.specs.Shapes.{Shape, full_shape}
use Rattle.wiring.specs.Fulls.{full_told}
use Rattle.router.specs.Calls.{new_tree}
use Rattle.rulebook.specs.Rulebooks.{ruled}
use Rattle.host.proofs.tree.HostTree.single.Goals as goal

abbrev shape_in : Result Shape WiringFault → Shape
shape_in (Ok s) = s
shape_in (Err f) = full_shape 1

pub returns : goal.returns
returns c =
    let shape : full_shape c.unwrap.result.cards ≡ full_shape 1 = ap shape_in (ap full_told (sym c.unwrap.ensures) ∙ c.new.ensures) in
    record {
      new = c.new-3.ensures.tree ∙ ap (λ s. new_tree s (ruled c.new-2.result)) shape ∙ ap (λ b. new_tree (full_shape 1) (ruled b)) c.new-2.ensures;
      wiring = shape;
      laws = c.new-3.ensures.laws;
    }
