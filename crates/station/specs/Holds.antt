-- How a station stands, and which word may pass.
use Rattle.std.specs.Prelude.{ℕ, Bool, cond, Ok, Err, Result, ◌==◌}
use Rattle.refusal.specs.declared.drive.FireFault.{FireFault}
use Rattle.refusal.specs.declared.drive.FireFault.TheVariants.{NothingWaits, HeldByOther}
use Rattle.packet.specs.declared.words.Kind.{Kind}
use Rattle.packet.specs.declared.words.Kind.TheVariants.{Body, Tail, Head, Unused}
use Rattle.packet.specs.Words.{kind_of}
use Rattle.station.specs.declared.hold.Input.{Input}
use Rattle.station.specs.declared.hold.Input.TheVariants.{Left, Right, Queue, Parent, Turn}
use Rattle.station.specs.declared.hold.Here.{Here}
use Rattle.station.specs.declared.hold.Here.TheVariants.{Onward, Dropped, Kept}
use Rattle.station.specs.declared.hold.Hold.{Hold}
use Rattle.station.specs.declared.hold.Hold.TheVariants.{Free, Held, Dropping, Accepting}

abbrev pub input_number : Input → ℕ
input_number Left = 0
input_number Right = 1
input_number Queue = 2
input_number Parent = 3
input_number Turn = 4

abbrev pub same_input : Input → Input → Bool
same_input i j = input_number i == input_number j

-- a free station takes only a head; any other word there is nothing that it can take
abbrev pub merge_free : Kind → Result (Unit {0}) FireFault
merge_free Head = Ok tt
merge_free Body = Err NothingWaits
merge_free Tail = Err NothingWaits
merge_free Unused = Err NothingWaits

-- a held station takes the later words of its packet; a head there is nothing that it can take
abbrev pub merge_later : Kind → Result (Unit {0}) FireFault
merge_later Head = Err NothingWaits
merge_later Body = Ok tt
merge_later Tail = Ok tt
merge_later Unused = Ok tt

-- only from the input for which it is held
abbrev pub merge_held : Input → Input → Kind → Result (Unit {0}) FireFault
merge_held j i k = cond (same_input j i) (merge_later k) (Err HeldByOther)

-- Merge: may the word w pass that waits at the input i?
abbrev pub merge : Hold Input → Input → ℕ → Result (Unit {0}) FireFault
merge Free i w = merge_free (kind_of w)
merge (Held j h) i w = merge_held j i (kind_of w)
merge (Dropping j h) i w = merge_held j i (kind_of w)
merge (Accepting j h) i w = merge_held j i (kind_of w)

-- after a tail the station is free
abbrev pub unless_tail : Kind → Hold Input → Hold Input
unless_tail Tail d = Free
unless_tail Body d = d
unless_tail Head d = d
unless_tail Unused d = d

-- held by this head: how it stands once a word has passed of which this became at the card
abbrev pub after_held : Input → ℕ → Here → Hold Input
after_held j h Onward = Held j h
after_held j h Dropped = Dropping j h
after_held j h (Kept w) = Accepting j h

-- how the station stands once the word w from the input i has passed: the head holds it until the tail has passed
abbrev pub after : Hold Input → Input → ℕ → Here → Hold Input
after Free i w e = unless_tail (kind_of w) (Held i w)
after (Held j h) i w e = unless_tail (kind_of w) (after_held j h e)
after (Dropping j h) i w e = unless_tail (kind_of w) (Dropping j h)
after (Accepting j h) i w e = unless_tail (kind_of w) (Accepting j h)
