-- What a host's tree means.
use Rattle.wiring.specs.Shapes.{Shape}
use Rattle.wiring.specs.Cabinets.{cabinet_shape}
use Rattle.router.specs.Kept.{Meaning, tree_of}
use Rattle.host.specs.declared.tree.HostTree.{HostTree}
use Rattle.rulebook.specs.Rulebooks.{ruled}

-- the router's meaning of the tree: the shape of its wiring, the verdicts of its rules, its cards, and its kept number of hops
abbrev pub means : HostTree → Meaning
means t = tree_of cabinet_shape ruled t.tree

-- the tree's wiring, by which routes are ordered
abbrev pub shape_of : HostTree → Shape
shape_of t = cabinet_shape t.wiring
