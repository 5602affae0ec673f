-- What a call answers and leaves: the answer and the next tree of the router, and the laws that the router keeps.
use Rattle.std.specs.Prelude.{◌≡◌, ℕ, cond, List, Some, None, Option, Result, ◌==◌}
use Rattle.refusal.specs.declared.order.OrderFault.{OrderFault}
use Rattle.refusal.specs.Refusals.{packet_refusal, fire_refusal, take_refusal, order_refusal}
use Rattle.station.specs.declared.hold.Station.{Station}
use Rattle.station.specs.declared.hold.Station.TheVariants.{Up, Down}
use Rattle.station.specs.declared.hold.Input.{Input}
use Rattle.station.specs.declared.hold.Input.TheVariants.{Left, Right, Queue, Parent, Turn}
use Rattle.network.specs.Owed.{hops_owed}
use Rattle.network.specs.Runs.{Call, send, fire, take, owed}
use Rattle.routing.specs.Orders.{Ordered}
use Rattle.router.specs.Kept.{Led, Keeps}
use Rattle.router.specs.Calls.{send_answer, sent_tree, fire_answer, fired_tree, take_answer, took_tree}
use Rattle.host.specs.declared.tree.HostTree.{HostTree}
use Rattle.host.specs.Told.{numbered, told_by, done_by}
use Rattle.host.specs.Trees.{means, shape_of}

-- the router's call k came to this tree, and its laws hold; the wiring stays
pub record Came (k : Call) (before after : HostTree) : Type 0 where
  pub laws : Keeps k (means before) (means after)
  pub same : after.wiring ≡ before.wiring

-- a send
pub record Sent (card : ℕ) (packet : List ℕ) (before : HostTree) (answer : ℕ) (after : HostTree) : Type 0 where
  pub answered : answer ≡ done_by packet_refusal (send_answer card packet (means before))
  pub next : means after ≡ sent_tree card packet (means before)
  pub came : Came (send card packet) before after

-- a fire of a station that there is, at an input that there is
pub record Passed (card : ℕ) (station : Station) (input : Input) (before : HostTree) (answer : ℕ) (after : HostTree) : Type 0 where
  pub answered : answer ≡ told_by fire_refusal (fire_answer card station input (means before))
  pub next : means after ≡ fired_tree card station input (means before)
  pub came : Came (fire card station input) before after

-- the numbers of the stations and of the inputs
abbrev pub station_at : ℕ → Option Station
station_at n = cond (n == 0) (Some Up) (cond (n == 1) (Some Down) None)

abbrev pub input_at : ℕ → Option Input
input_at n = cond (n == 0) (Some Left) (cond (n == 1) (Some Right) (cond (n == 2) (Some Queue) (cond (n == 3) (Some Parent) (cond (n == 4) (Some Turn) None))))

-- there is no station, or no input, of that number
abbrev pub no_station : ℕ
no_station = numbered 101

abbrev pub no_input : ℕ
no_input = numbered 102

abbrev pub Driven : ℕ → Option Station → Option Input → HostTree → ℕ → HostTree → Type 0
Driven card None input before answer after = (answer ≡ no_station) × (after ≡ before)
Driven card (Some station) None before answer after = (answer ≡ no_input) × (after ≡ before)
Driven card (Some station) (Some input) before answer after = Passed card station input before answer after

-- a fire by the numbers of its station and its input
abbrev pub Fired : ℕ → ℕ → ℕ → HostTree → ℕ → HostTree → Type 0
Fired card station input before answer after = Driven card (station_at station) (input_at input) before answer after

-- a take
pub record Taken (card : ℕ) (before : HostTree) (answer : ℕ) (after : HostTree) : Type 0 where
  pub answered : answer ≡ told_by take_refusal (take_answer card (means before))
  pub next : means after ≡ took_tree card (means before)
  pub came : Came (take card) before after

-- the hops owed: the kept number, which is the number of stations that words still have to pass where calls have led to the tree
pub record Owes (tree : HostTree) (answer : ℕ) : Type 0 where
  pub answered : answer ≡ (means tree).owed
  pub walked : (ks : List Call) → Led ks (means tree) → answer ≡ hops_owed (means tree).shape (means tree).cards
  pub laws : Keeps owed (means tree) (means tree)

-- a route order over the tree's wiring: the head's word, or why there is none
pub record Planned (sender : ℕ) (cards : List ℕ) (tree : HostTree) (answer : ℕ) : Type 0 where
  pub head : Result ℕ OrderFault
  pub ordered : Ordered (shape_of tree) sender cards head
  pub answered : answer ≡ told_by order_refusal head
