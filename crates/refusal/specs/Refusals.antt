-- Every refusal's number, and its place where it has one.
use Rattle.refusal.specs.declared.answer.Refusal.{Refusal}
use Rattle.refusal.specs.Numbers.{numbered, placed}
use Rattle.refusal.specs.declared.build.WiringFault.{WiringFault}
use Rattle.refusal.specs.declared.build.WiringFault.TheVariants.{Size, Broken}
use Rattle.refusal.specs.declared.build.LicenceFault.{LicenceFault}
use Rattle.refusal.specs.declared.build.LicenceFault.TheVariants.{BadRule, TooManyRules}
use Rattle.refusal.specs.declared.send.RouteFault.{RouteFault}
use Rattle.refusal.specs.declared.send.RouteFault.TheVariants.{EndsGoingUp, AboveRoot, NoDaughter}
use Rattle.refusal.specs.declared.send.PacketFault.{PacketFault}
use Rattle.refusal.specs.declared.send.PacketFault.TheVariants.{NoSender, Length, Kinds, Reserved, Route, QueueFull}
use Rattle.refusal.specs.declared.drive.FireFault.{FireFault}
use Rattle.refusal.specs.declared.drive.FireFault.TheVariants.{NoCard, NoInput, NothingWaits, HeldByOther, LinkOccupied, InboxFull}
use Rattle.refusal.specs.declared.drive.TakeFault.{TakeFault}
use Rattle.refusal.specs.declared.drive.TakeFault.TheVariants.{NoReader, InboxEmpty}
use Rattle.refusal.specs.declared.drive.DeliveryFault.{DeliveryFault}
use Rattle.refusal.specs.declared.drive.DeliveryFault.TheVariants.{WrongKind, WrongBits}
use Rattle.refusal.specs.declared.order.OrderFault.{OrderFault}
use Rattle.refusal.specs.declared.order.OrderFault.TheVariants.{Unknown, NoneListed, TooLong}

-- a wiring
abbrev pub wiring_refusal : WiringFault → Refusal
wiring_refusal Size = numbered 1
wiring_refusal Broken = numbered 2

-- a rule or a book
abbrev pub licence_refusal : LicenceFault → Refusal
licence_refusal BadRule = numbered 3
licence_refusal TooManyRules = numbered 4

-- a route: the place is the sending card, card 0, or the card without the daughter
abbrev pub route_refusal : RouteFault → Refusal
route_refusal (EndsGoingUp c) = placed 9 c
route_refusal AboveRoot = placed 10 0
route_refusal (NoDaughter c) = placed 11 c

-- a packet: the place of a word counts from 0, the head's
abbrev pub packet_refusal : PacketFault → Refusal
packet_refusal NoSender = numbered 5
packet_refusal Length = numbered 6
packet_refusal (Kinds p) = placed 7 p
packet_refusal (Reserved p) = placed 8 p
packet_refusal (Route f) = route_refusal f
packet_refusal QueueFull = numbered 12

-- a fire
abbrev pub fire_refusal : FireFault → Refusal
fire_refusal NoCard = numbered 5
fire_refusal NoInput = numbered 13
fire_refusal NothingWaits = numbered 14
fire_refusal HeldByOther = numbered 15
fire_refusal LinkOccupied = numbered 16
fire_refusal InboxFull = numbered 17

-- a take
abbrev pub take_refusal : TakeFault → Refusal
take_refusal NoReader = numbered 5
take_refusal InboxEmpty = numbered 18

-- delivered words: the place counts from the first word given to the reader
abbrev pub delivery_refusal : DeliveryFault → Refusal
delivery_refusal (WrongKind p) = placed 7 p
delivery_refusal (WrongBits p) = placed 8 p

-- a route order
abbrev pub order_refusal : OrderFault → Refusal
order_refusal Unknown = numbered 5
order_refusal NoneListed = numbered 19
order_refusal TooLong = numbered 20
