-- Delivered words, cut into packets again.
use Rattle.std.specs.Prelude.{ℕ, ◌+◌, Bool, true, false, cond, List, length, take, drop, position, Some, None, Ok, Err, Option, Result, slice_index}
use Rattle.packet.specs.declared.words.Kind.{Kind}
use Rattle.packet.specs.declared.words.Kind.TheVariants.{Body, Tail, Head, Unused}
use Rattle.refusal.specs.declared.drive.DeliveryFault.{DeliveryFault}
use Rattle.refusal.specs.declared.drive.DeliveryFault.TheVariants.{WrongKind, WrongBits}
use Rattle.packet.specs.declared.arrivals.Arrival.{Arrival}
use Rattle.packet.specs.Words.{kind_of}
use Rattle.packet.specs.Packets.{is_tail}
use Rattle.packet.specs.Heads.{delivered_reserved, class_of, key_of}

-- a tail ends a packet
abbrev pub ends : ℕ → Bool
ends w = is_tail (kind_of w)

-- a head is never delivered, and kind 3 is unused
abbrev pub never_delivered : Kind → Bool
never_delivered Body = false
never_delivered Tail = false
never_delivered Head = true
never_delivered Unused = true

abbrev pub unfit : ℕ → Bool
unfit w = never_delivered (kind_of w)

-- a packet as the reader hands it back: its words from key word through tail, its key, its class, its place
pub record Arrived : Type 0 where
  pub words : List ℕ
  pub key : ℕ
  pub class : ℕ
  pub place : ℕ

abbrev pub arrived : List ℕ → ℕ → Arrived
arrived ws p = record { words = ws; key = key_of (slice_index ws 0); class = class_of (slice_index ws 0); place = p }

-- the refusal of the first unfit word among words from place p on, if there is one, and otherwise what is said of the key word
abbrev pub unless_unfit : {A : Type 0} → ℕ → Option ℕ → Result A DeliveryFault → Result A DeliveryFault
unless_unfit p None r = r
unless_unfit p (Some i) r = Err (WrongKind (p + i))

-- the words of a packet, the first of them at place p
abbrev pub packet_in : List ℕ → ℕ → Result (Option Arrived) DeliveryFault
packet_in ws p =
    unless_unfit p (position unfit ws) (cond (delivered_reserved (slice_index ws 0)) (Ok (Some (arrived ws p))) (Err (WrongBits p)))

-- what is left, by its first tail: with no tail there is no packet, else it ends with that tail
abbrev pub up_to : List ℕ → ℕ → Option ℕ → Result (Option Arrived) DeliveryFault
up_to ws p None = Ok None
up_to ws p (Some i) = packet_in (take (i + 1) ws) p

-- the next packet of the words ws from place p on
abbrev pub next_packet : List ℕ → ℕ → Result (Option Arrived) DeliveryFault
next_packet ws p = up_to (drop p ws) p (position ends (drop p ws))

-- where the reader stands then: after the packet that it handed back, else where it stood
abbrev pub place_after : ℕ → Result (Option Arrived) DeliveryFault → ℕ
place_after p (Ok (Some a)) = p + length a.words
place_after p (Ok None) = p
place_after p (Err f) = p

abbrev pub arrival_read : Arrival → Arrived
arrival_read a = record { words = a.words.now; key = a.key; class = a.class; place = a.place }

abbrev pub arrival_told : Result (Option Arrival) DeliveryFault → Result (Option Arrived) DeliveryFault
arrival_told (Ok (Some a)) = Ok (Some (arrival_read a))
arrival_told (Ok None) = Ok None
arrival_told (Err f) = Err f
