-- What stands where nothing is called, and before `go`.
use Rattle.std.proofs.Common.{◌≡◌, ℕ, ◌≤◌, List, [], ◌++◌, None, refl, rules}
use Rattle.wiring.specs.Shapes.{Lawful, full_shape}
use Rattle.wiring.specs.declared.full.FullTree.{FullTree}
use Rattle.network.specs.Runs.{Call}
use Rattle.network.proofs.AllLaws.{three_laws}
use Rattle.router.specs.Kept.{Meaning, Led, Stands}
use Rattle.session.specs.declared.console.Console.{Console}
use Rattle.session.specs.declared.console.Console.TheVariants.{Waiting, Ruling, Running}
use Rattle.session.specs.Consoles.{shape_of, tree_in, desk_of}
use Rattle.session.specs.Sessions.{KeepsOn}

full_lawful : (n : ℕ) → 1 ≤ n → n ≤ 31 → Lawful (full_shape n)
full_lawful n a b = search rules

nil : (calls : List Call) → calls ++ [] ≡ calls
nil calls = search rules

-- a tree stands as it is where no call is made
pub stays : (m : Meaning) (t : FullTree) → m.shape ≡ shape_of t → (made : List Call) → made ≡ [] →
    (calls : List Call) → Led calls m → Stands (calls ++ made) m
stays m t s made e calls led =
    let L : Lawful m.shape = rw s (full_lawful t.cards t.some t.few) in
    rw (e, nil calls) (record { led = led; laws = three_laws m.shape L m.verdicts calls })

-- a line that says nothing leaves the console standing as it does
pub silent : (c : Console) → KeepsOn None (desk_of c) (desk_of c)
silent Waiting calls e = rw e refl
silent (Ruling wiring rules) calls e = rw e refl
silent (Running tree) calls led = stays (tree_in tree) tree.wiring refl [] refl calls led
