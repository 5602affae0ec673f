-- The plan of an order: its head, its walk, and what it costs.
use Rattle.std.specs.Prelude.{◌≡◌, ℕ, List, Ok, Err, Result}
use Rattle.refusal.specs.declared.order.OrderFault.{OrderFault}
use Rattle.packet.specs.Heads.{head_word}
use Rattle.wiring.specs.Shapes.{Shape}
use Rattle.routing.specs.Walks.{walk_of}
use Rattle.routing.specs.Subtrees.{reach, hops_a_word}
use Rattle.routing.specs.Orders.{Ordered}
use Rattle.planner.specs.declared.plans.Plan.{Plan}

-- a plan tells the head that serves the order, where its route leads, how many cards it reaches and the hops of each word
pub record Plans (s : Shape) (sender : ℕ) (cs : List ℕ) (p : Plan) : Type 0 where
  pub head : Ordered s sender cs (Ok (head_word p.head.mode p.head.route.bits))
  pub walk : walk_of s sender p.head.route.bits ≡ Ok p.walk
  pub reached : p.reached ≡ reach s p.head.mode p.walk.terminus
  pub hops : p.hops ≡ hops_a_word s p.head.mode p.walk

-- the answer to an order: its plan, or the refusal of its route
abbrev pub Planned : Shape → ℕ → List ℕ → Result Plan OrderFault → Type 0
Planned s c cs (Ok p) = Plans s c cs p
Planned s c cs (Err f) = Ordered s c cs (Err f)
