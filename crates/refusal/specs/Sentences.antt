-- The sentence of every refusal.
use Rattle.std.specs.Prelude.{ℕ, List, ◌++◌, codes}
use Rattle.refusal.specs.declared.answer.Refusal.{Refusal}
use Rattle.refusal.specs.declared.build.WiringFault.{WiringFault}
use Rattle.refusal.specs.declared.build.WiringFault.TheVariants.{Size, Broken}
use Rattle.refusal.specs.declared.build.LicenceFault.{LicenceFault}
use Rattle.refusal.specs.declared.build.LicenceFault.TheVariants.{BadRule, TooManyRules}
use Rattle.refusal.specs.declared.send.RouteFault.{RouteFault}
use Rattle.refusal.specs.declared.send.RouteFault.TheVariants.{EndsGoingUp, AboveRoot, NoDaughter}
use Rattle.refusal.specs.declared.send.PacketFault.{PacketFault}
use Rattle.refusal.specs.declared.send.PacketFault.TheVariants.{NoSender, Length, Kinds, Reserved, Route, QueueFull}
use Rattle.refusal.specs.declared.drive.FireFault.{FireFault}
use Rattle.refusal.specs.declared.drive.FireFault.TheVariants.{NoCard, NoInput, NothingWaits, HeldByOther, LinkOccupied, InboxFull}
use Rattle.refusal.specs.declared.drive.TakeFault.{TakeFault}
use Rattle.refusal.specs.declared.drive.TakeFault.TheVariants.{NoReader, InboxEmpty}
use Rattle.refusal.specs.declared.drive.DeliveryFault.{DeliveryFault}
use Rattle.refusal.specs.declared.drive.DeliveryFault.TheVariants.{WrongKind, WrongBits}
use Rattle.refusal.specs.declared.order.OrderFault.{OrderFault}
use Rattle.refusal.specs.declared.order.OrderFault.TheVariants.{Unknown, NoneListed, TooLong}
use Rattle.refusal.specs.Numbers.{refusal_text}

-- what is printed of a refusal: its number and place, and what is wrong
abbrev pub sentence : Refusal → List ℕ → List ℕ
sentence r reason = refusal_text r ++ (codes ": " ++ reason)

abbrev pub wiring_reason : WiringFault → List ℕ
wiring_reason Size = codes "a tree has 1 to 5 levels, and a table two entries for each of 1 to 31 cards"
wiring_reason Broken = codes "the table is no tree in which each card but 0 has one parent of a lower number"

abbrev pub licence_reason : LicenceFault → List ℕ
licence_reason BadRule = codes "a bound, the class, the key value or the card set of the rule is out of range"
licence_reason TooManyRules = codes "a book has at most 64 rules"

abbrev pub route_reason : RouteFault → List ℕ
route_reason (EndsGoingUp c) = codes "the route ends on the way up"
route_reason AboveRoot = codes "the route climbs above card 0"
route_reason (NoDaughter c) = codes "the card lacks the daughter that the route needs"

abbrev pub packet_reason : PacketFault → List ℕ
packet_reason NoSender = codes "there is no such card"
packet_reason Length = codes "a packet has 2 to 64 words"
packet_reason (Kinds p) = codes "the word is of the wrong kind"
packet_reason (Reserved p) = codes "the word has reserved bits set"
packet_reason (Route f) = route_reason f
packet_reason QueueFull = codes "the queue has no room for the packet"

abbrev pub fire_reason : FireFault → List ℕ
fire_reason NoCard = codes "there is no such card"
fire_reason NoInput = codes "the station has no such input"
fire_reason NothingWaits = codes "nothing waits at that input"
fire_reason HeldByOther = codes "the station is held by another input"
fire_reason LinkOccupied = codes "a link that is needed is occupied"
fire_reason InboxFull = codes "the inbox is full"

abbrev pub take_reason : TakeFault → List ℕ
take_reason NoReader = codes "there is no such card"
take_reason InboxEmpty = codes "the inbox is empty"

abbrev pub delivery_reason : DeliveryFault → List ℕ
delivery_reason (WrongKind p) = codes "the word is of the wrong kind"
delivery_reason (WrongBits p) = codes "the key word has reserved bits set"

abbrev pub order_reason : OrderFault → List ℕ
order_reason Unknown = codes "there is no such card"
order_reason NoneListed = codes "no card is listed"
order_reason TooLong = codes "the way has more than 7 ups and descents together"
