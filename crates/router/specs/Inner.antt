-- What the inner steps hand on.
use Rattle.std.specs.Prelude.{ℕ, ◌+◌, ◌-◌, min, Ok, Err, Result}
use Rattle.refusal.specs.declared.drive.FireFault.{FireFault}
use Rattle.refusal.specs.declared.send.PacketFault.{PacketFault}
use Rattle.wiring.specs.Shapes.{Shape}
use Rattle.routing.specs.Subtrees.{path_hops}
use Rattle.network.specs.Sends.{Way}

-- the greatest number that the kept number of hops can be
abbrev pub greatest : ℕ
greatest = 4294967295

-- the kept number of hops after a fire: one less where it was granted
abbrev pub lowered : ℕ → Result ℕ FireFault → ℕ
lowered n (Ok a) = n - 1
lowered n (Err f) = n

-- and after a send: more by the packet's path hops where it was granted
abbrev pub raised : Shape → ℕ → ℕ → Result Way PacketFault → ℕ
raised s n l (Ok w) = min (n + path_hops s w.mode w.walk l) greatest
raised s n l (Err f) = n
