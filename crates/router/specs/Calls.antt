-- Each call's answer and next tree.
use Rattle.std.specs.Prelude.{ℕ, List, length, Result}
use Rattle.refusal.specs.declared.send.PacketFault.{PacketFault}
use Rattle.refusal.specs.declared.drive.FireFault.{FireFault}
use Rattle.refusal.specs.declared.drive.TakeFault.{TakeFault}
use Rattle.wiring.specs.Shapes.{Shape}
use Rattle.station.specs.declared.hold.Station.{Station}
use Rattle.station.specs.declared.hold.Input.{Input}
use Rattle.station.specs.Plans.{Verdicts}
use Rattle.network.specs.Cards.{empty, card_at}
use Rattle.network.specs.Sends.{send_way, send_step}
use Rattle.network.specs.Fires.{fire_step}
use Rattle.network.specs.Takes.{take_step}
use Rattle.router.specs.Inner.{lowered, raised}
use Rattle.router.specs.Kept.{Meaning, meaning}

-- the tree that is set up: empty, and no hops owed
abbrev pub new_tree : Shape → Verdicts → Meaning
new_tree s v = meaning s v empty 0

abbrev pub send_answer : ℕ → List ℕ → Meaning → Result (Unit {0}) PacketFault
send_answer c p m = (send_step m.shape m.cards c p).answer

-- a granted send queues the packet and raises the kept number by its path hops
abbrev pub sent_tree : ℕ → List ℕ → Meaning → Meaning
sent_tree c p m =
    meaning m.shape m.verdicts (send_step m.shape m.cards c p).next
    (raised m.shape m.owed (length p) (send_way m.shape (length (card_at m.cards c).queue) c p))

abbrev pub fire_answer : ℕ → Station → Input → Meaning → Result ℕ FireFault
fire_answer c t i m = (fire_step m.shape m.verdicts m.cards c t i).answer

-- a granted fire moves one word and lowers the kept number by one
abbrev pub fired_tree : ℕ → Station → Input → Meaning → Meaning
fired_tree c t i m = meaning m.shape m.verdicts (fire_step m.shape m.verdicts m.cards c t i).next (lowered m.owed (fire_answer c t i m))

abbrev pub take_answer : ℕ → Meaning → Result ℕ TakeFault
take_answer c m = (take_step m.shape m.cards c).answer

-- a granted take removes a word and leaves the kept number
abbrev pub took_tree : ℕ → Meaning → Meaning
took_tree c m = meaning m.shape m.verdicts (take_step m.shape m.cards c).next m.owed
