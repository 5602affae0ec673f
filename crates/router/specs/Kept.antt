-- What every call promises to whoever knows the calls that led to the tree.
use Rattle.std.specs.Prelude.{◌≡◌, ℕ, List, [], ◌∷◌, ◌++◌}
use Rattle.wiring.specs.Shapes.{Shape}
use Rattle.station.specs.Plans.{Verdicts}
use Rattle.network.specs.Cards.{State}
use Rattle.network.specs.Owed.{hops_owed}
use Rattle.network.specs.Runs.{Call, run, Reached}
use Rattle.network.specs.Laws.{Laws}
use Rattle.router.specs.declared.tree.Tree.{Tree}

-- what a tree means: its wiring, its policy, its cards, and its kept number of hops
pub record Meaning : Type 0 where
  pub shape : Shape
  pub verdicts : Verdicts
  pub cards : State
  pub owed : ℕ

abbrev pub meaning : Shape → Verdicts → State → ℕ → Meaning
meaning s v x n = record { shape = s; verdicts = v; cards = x; owed = n }

-- what a tree in hand means, by what its wiring and its policy mean
abbrev pub tree_of : {W P : Type 0} → (W → Shape) → (P → Verdicts) → Tree W P → Meaning
tree_of shape verdict t = meaning (shape t.wiring) (verdict t.policy) t.table t.owed

-- the wiring and the policy are the same
abbrev pub SameParts : {W P : Type 0} → Tree W P → Tree W P → Type 0
SameParts t t' = (t'.wiring ≡ t.wiring) × (t'.policy ≡ t.policy)

-- these calls, made since setting up, have led to the tree: to its cards, and its kept number is the hops owed there
pub record Led (ks : List Call) (m : Meaning) : Type 0 where
  pub reached : Reached m.shape m.verdicts ks m.cards
  pub counted : m.owed ≡ hops_owed m.shape m.cards

-- the calls have led to the tree, and the three laws hold there
pub record Stands (ks : List Call) (m : Meaning) : Type 0 where
  pub led : Led ks m
  pub laws : Laws m.shape m.verdicts (run m.shape m.verdicts ks)

-- the call k takes the tree m to m': whatever calls have led to m, with k they have led to m', and the three laws hold there
abbrev pub Keeps : Call → Meaning → Meaning → Type 0
Keeps k m m' = (ks : List Call) → Led ks m → Stands (ks ++ (k ∷ [])) m'
