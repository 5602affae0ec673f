-- A wiring of either kind.
use Rattle.wiring.specs.Shapes.{Shape, full_shape}
use Rattle.wiring.specs.Wireds.{wired_shape}
use Rattle.wiring.specs.declared.cabinets.Cabinet.{Cabinet}
use Rattle.wiring.specs.declared.cabinets.Cabinet.TheVariants.{Full, Wired}

-- a cabinet means what its tree means
abbrev pub cabinet_shape : Cabinet → Shape
cabinet_shape (Full t) = full_shape t.cards
cabinet_shape (Wired t) = wired_shape t
