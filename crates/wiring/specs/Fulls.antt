-- The full tree by its levels.
use Rattle.std.specs.Prelude.{ℕ, cond, ◌&&◌, Ok, Err, Result, nat_le}
use Rattle.refusal.specs.declared.build.WiringFault.{WiringFault}
use Rattle.refusal.specs.declared.build.WiringFault.TheVariants.{Size}
use Rattle.wiring.specs.declared.full.FullTree.{FullTree}
use Rattle.wiring.specs.Shapes.{Shape, full_shape, full_cards}

-- 1 to 5 levels
abbrev pub full_tree : ℕ → Result Shape WiringFault
full_tree l = cond (nat_le 1 l && nat_le l 5) (Ok (full_shape (full_cards l))) (Err Size)

abbrev pub full_told : Result FullTree WiringFault → Result Shape WiringFault
full_told (Ok t) = Ok (full_shape t.cards)
full_told (Err f) = Err f
