-- What a console in hand is.
use Rattle.std.specs.Prelude.{List}
use Rattle.wiring.specs.Shapes.{Shape, full_shape}
use Rattle.wiring.specs.declared.full.FullTree.{FullTree}
use Rattle.router.specs.declared.tree.Tree.{Tree}
use Rattle.router.specs.Kept.{Meaning, tree_of}
use Rattle.session.specs.declared.console.Console.{Console}
use Rattle.session.specs.declared.console.Console.TheVariants.{Waiting, Ruling, Running}
use Rattle.rulebook.specs.Rulebooks.{RangeRule, rules_meant, ruled}
use Rattle.session.specs.Desks.{Desk, waiting, ruling, running}

-- the shape of a full tree in hand
abbrev pub shape_of : FullTree → Shape
shape_of t = full_shape t.cards

-- the meaning of a tree in hand
abbrev pub tree_in : Tree FullTree (List RangeRule) → Meaning
tree_in = tree_of shape_of ruled

abbrev pub desk_of : Console → Desk
desk_of Waiting = waiting
desk_of (Ruling wiring rules) = ruling (shape_of wiring) (rules_meant rules)
desk_of (Running tree) = running (tree_in tree)
