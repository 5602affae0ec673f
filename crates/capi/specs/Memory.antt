-- A tree in the memory of a host.
use Rattle.std.specs.Prelude.{◌≡◌, ℕ, cond, nat_lt}
use Rattle.std.specs.Mem.{type_size}
use Rattle.std.specs.Ptr.{Ptr, block_ptr, null_ptr, lies_at, room_at, if_non_null}
use Rattle.std.specs.Borrow.{full_share}
use base.Fml.{Fml, ftrue, feq, fex}
use Rattle.host.specs.declared.tree.HostTree.{HostTree}
use Rattle.host.specs.contracts.tree.HostTree.{the_row}
use Rattle.host.specs.Told.{numbered}
use Rattle.host.specs.SetUps.{Single}

-- the tree lies at the pointer, and nothing else holds that memory
abbrev pub tree_at : Ptr → HostTree → Fml
tree_at p tree = lies_at the_row full_share p tree

-- a tree lies there of which this holds
abbrev pub tree_after : Ptr → (HostTree → Type 0) → Fml
tree_after p holds = fex ((tree : HostTree) × holds tree) (λ found. tree_at p found.0)

-- what a call is given: a tree at the pointer, or the pointer is null
abbrev pub given_tree : Ptr → HostTree → Fml
given_tree p tree = if_non_null p (tree_at p tree)

-- the pointer is null
abbrev pub no_tree : ℕ
no_tree = numbered 104

-- what a call answers and leaves: at null nothing but that the pointer is null, and else a tree of which this holds
abbrev pub answered : Ptr → ℕ → (HostTree → Type 0) → Fml
answered (block_ptr b o) answer holds = tree_after (block_ptr b o) holds
answered null_ptr answer holds = feq ℕ answer no_tree

-- the same of a call that leaves the tree as it was
abbrev pub told_at : Ptr → ℕ → Type 0 → Type 0
told_at (block_ptr b o) answer holds = holds
told_at null_ptr answer holds = answer ≡ no_tree

-- how many bytes a tree takes
abbrev pub tree_bytes : ℕ
tree_bytes = type_size the_row

-- what making a tree asks for: nothing where the bytes are too few or the pointer is null, else room for a tree, whatever lies there
abbrev pub room_for_tree : ℕ → Ptr → Fml
room_for_tree bytes p = cond (nat_lt bytes tree_bytes) ftrue (if_non_null p (room_at the_row p))

-- the room is too small
abbrev pub no_room : ℕ
no_room = numbered 103

-- what it answers and leaves: nothing but that the room is too small or not there, or the tree of one card and no rules
abbrev pub begun : ℕ → Ptr → ℕ → Fml
begun bytes p answer = cond (nat_lt bytes tree_bytes) (feq ℕ answer no_room) (answered p answer (λ tree. (answer ≡ 0) × Single tree))
