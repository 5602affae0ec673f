-- Worked packets and a worked list of calls, over full trees.
use Rattle.std.specs.Prelude.{◌≡◌, ℕ, List, [], ◌∷◌}
use Rattle.refusal.specs.Numbers.{numbered, placed}
use Rattle.wiring.specs.Shapes.{Shape}
use Rattle.routing.specs.Worked.{full}
use Rattle.licence.specs.declared.verdict.Verdict.TheVariants.{Class}
use Rattle.licence.specs.Ranges.{RangeMeaning, in_range}
use Rattle.licence.specs.Books.{first_of}
use Rattle.station.specs.declared.hold.Station.TheVariants.{Up, Down}
use Rattle.station.specs.declared.hold.Input.TheVariants.{Queue, Turn}
use Rattle.station.specs.Plans.{Verdicts}
use Rattle.network.specs.Cards.{State, empty}
use Rattle.network.specs.Arrivals.{hops_of}
use Rattle.network.specs.Runs.{Call, send, fire, take, owed, next}
use Rattle.network.specs.Replies.{Reply, done, gives, refuses, reply}

-- a book of one rule: cards 1 and 2, key 0x11, class 2
abbrev pub one_rule : RangeMeaning
one_rule = record { cards = record { low = 1; high = 2 }; keys = record { low = 0x11; high = 0x11 }; carried = Class 2 }

abbrev pub book : Verdicts
book = first_of in_range (λ r. r.carried) (one_rule ∷ [])

-- over the full tree of so many levels:
pub data Worked : Type 0 where
  -- the packet sent from a card has so many path hops
  hops : ℕ → ℕ → List ℕ → ℕ → Worked
  -- from the empty tree, under the book, these calls are answered so
  calls : ℕ → List (Call × Reply) → Worked

abbrev pub Answered : Shape → State → List (Call × Reply) → Type 0
Answered s x [] = Unit {0}
Answered s x ((k, a) ∷ l) = (reply s book x k ≡ a) × Answered s (next s book x k) l

abbrev pub Holds : Worked → Type 0
Holds (hops l c p n) = hops_of (full l) (c, p) ≡ n
Holds (calls l ks) = Answered (full l) empty ks

abbrev pub AllHold : List Worked → Type 0
AllHold [] = Unit {0}
AllHold (w ∷ ws) = Holds w × AllHold ws

-- packets of two words, refused routes, and a targeted packet of three words from card 1 to itself
abbrev pub worked : List Worked
worked =
    hops 3 3 (0xA00001B0 ∷ 0x40000000 ∷ []) 14
    ∷ hops 3 3 (0x80000080 ∷ 0x40000000 ∷ []) 4
    ∷ hops 3 3 (0x80000160 ∷ 0x40000000 ∷ []) 8
    ∷ hops 3 3 (0xA0000140 ∷ 0x40000000 ∷ []) 10
    ∷ calls 3 (
    (send 3 (0x80000180 ∷ 0x40000000 ∷ []), refuses (placed 9 3))
    ∷ (send 0 (0x800001A0 ∷ 0x40000000 ∷ []), refuses (placed 10 0))
    ∷ (send 3 (0x80000040 ∷ 0x40000000 ∷ []), refuses (placed 11 3))
    ∷ [])
    ∷ calls 2 (
    (send 1 (0x80000080 ∷ 0x11 ∷ 0x40000005 ∷ []), done)
    ∷ (owed, gives 6)
    ∷ (fire 1 Up Queue, gives 2)
    ∷ (fire 1 Down Turn, gives 0)
    ∷ (fire 1 Up Queue, gives 2)
    ∷ (fire 1 Down Turn, gives 16)
    ∷ (take 1, gives 0x11)
    ∷ (fire 1 Down Turn, refuses (numbered 14))
    ∷ (owed, gives 2)
    ∷ [])
    ∷ []
