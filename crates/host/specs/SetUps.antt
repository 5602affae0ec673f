-- What a set-up answers and leaves.
use Rattle.std.specs.Prelude.{◌≡◌, ℕ, List, [], Ok, Err, Result}
use Rattle.refusal.specs.declared.answer.Refusal.{Refusal}
use Rattle.refusal.specs.Refusals.{wiring_refusal, licence_refusal}
use Rattle.refusal.specs.declared.build.WiringFault.{WiringFault}
use Rattle.refusal.specs.declared.build.LicenceFault.{LicenceFault}
use Rattle.wiring.specs.Shapes.{Shape, full_shape}
use Rattle.wiring.specs.Fulls.{full_tree}
use Rattle.wiring.specs.Tables.{Wired}
use Rattle.wiring.specs.Cabinets.{cabinet_shape}
use Rattle.wiring.specs.declared.cabinets.Cabinet.{Cabinet}
use Rattle.licence.specs.Ranges.{RangeMeaning}
use Rattle.router.specs.Kept.{Stands}
use Rattle.router.specs.Calls.{new_tree}
use Rattle.host.specs.declared.lines.RuleLine.{RuleLine}
use Rattle.host.specs.declared.tree.HostTree.{HostTree}
use Rattle.host.specs.Told.{refused}
use Rattle.rulebook.specs.Rulebooks.{verdicts_of}
use Rattle.host.specs.Lines.{book_of_lines}
use Rattle.host.specs.Trees.{means, shape_of}

-- the router's new tree of this shape and the verdicts of these rules, where its laws hold
pub record Made (shape : Shape) (rules : List RangeMeaning) (tree : HostTree) : Type 0 where
  pub new : means tree ≡ new_tree shape (verdicts_of rules)
  pub wiring : shape_of tree ≡ shape
  pub laws : Stands [] (means tree)

-- the tree of a wiring and rules, or the refusal of one of them
abbrev pub MadeOf : Result Shape WiringFault → Result (List RangeMeaning) LicenceFault → Result HostTree Refusal → Type 0
MadeOf (Ok shape) (Ok rules) (Ok tree) = Made shape rules tree
MadeOf (Ok shape) (Ok rules) (Err refusal) = ⊥
MadeOf (Ok shape) (Err fault) answer = answer ≡ Err (licence_refusal fault)
MadeOf (Err fault) rules answer = answer ≡ Err (wiring_refusal fault)

-- a wiring and rules: the tree is new, or one of them is refused and the tree is as it was
abbrev pub SetUp : Result Shape WiringFault → Result (List RangeMeaning) LicenceFault → HostTree → ℕ → HostTree → Type 0
SetUp (Ok shape) (Ok rules) before answer after = (answer ≡ 0) × Made shape rules after
SetUp (Ok shape) (Err fault) before answer after = (answer ≡ refused (licence_refusal fault)) × (after ≡ before)
SetUp (Err fault) rules before answer after = (answer ≡ refused (wiring_refusal fault)) × (after ≡ before)

-- the full tree of so many levels, with the rules of these lines
abbrev pub FullSetUp : ℕ → List RuleLine → HostTree → ℕ → HostTree → Type 0
FullSetUp levels lines before answer after = SetUp (full_tree levels) (book_of_lines lines) before answer after

-- the tree that the table lists, with the rules of these lines
pub record WiredSetUp (table : List ℕ) (lines : List RuleLine) (before : HostTree) (answer : ℕ) (after : HostTree) : Type 0 where
  pub wiring : Result Shape WiringFault
  pub wired : Wired table wiring
  pub set : SetUp wiring (book_of_lines lines) before answer after

-- the tree of one card and no rules
abbrev pub Single : HostTree → Type 0
Single tree = Made (full_shape 1) [] tree

-- a wiring in hand by its shape
abbrev pub shape_told : Result Cabinet WiringFault → Result Shape WiringFault
shape_told (Ok c) = Ok (cabinet_shape c)
shape_told (Err f) = Err f
