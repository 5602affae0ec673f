-- The subtree of a card, its size, and the hops of a packet.
use Rattle.std.specs.Prelude.{ℕ, zero, suc, ◌+◌, ◌*◌, Bool, false, cond, ◌||◌, List, Some, None, Option, ◌==◌}
use Rattle.std.specs.List.{list_all}
use Rattle.packet.specs.declared.sides.Side.{Side}
use Rattle.packet.specs.declared.heads.Mode.{Mode}
use Rattle.packet.specs.declared.heads.Mode.TheVariants.{Target, Flood}
use Rattle.routing.specs.declared.walks.Walk.{Walk}
use Rattle.wiring.specs.Shapes.{Shape}

-- the same of the parent; not so where there is none
abbrev pub of_parent : (ℕ → Bool) → Option (ℕ × Side) → Bool
of_parent f None = false
of_parent f (Some p) = f p.0

-- card t is the card d or stands above it, where at most k cards are looked at
unfoldable pub covers_in : Shape → ℕ → ℕ → ℕ → Bool
covers_in s zero t d = false
covers_in s (suc k) t d = t == d || of_parent (covers_in s k t) (s.parent d)

-- the subtree of card t has the card d: t is d or stands above it
unfoldable pub covers : Shape → ℕ → ℕ → Bool
covers s t d = covers_in s s.cards t d

-- the subtree of card t has all these cards
abbrev pub covers_all : Shape → ℕ → List ℕ → Bool
covers_all s t cs = list_all (covers s t) cs

-- the number that goes with the daughter; 0 where there is none
abbrev pub of_daughter : (ℕ → ℕ) → Option ℕ → ℕ
of_daughter f None = 0
of_daughter f (Some d) = f d

-- how many numbers below n pass the test
unfoldable pub count_below : ℕ → (ℕ → Bool) → ℕ
count_below zero f = 0
count_below (suc n) f = count_below n f + cond (f n) 1 0

-- the number of cards in the subtree of t, itself counted
unfoldable pub subtree_size : Shape → ℕ → ℕ
subtree_size s t = count_below s.cards (covers s t)

-- how many cards a packet reaches: its terminus, or all of the terminus's subtree when it floods
abbrev pub reach : Shape → Mode → ℕ → ℕ
reach s Target t = 1
reach s Flood t = subtree_size s t

-- the stations that each word of a packet passes: an up station for each link up and at the turn, a down station for each link
-- down, and one on each card that it reaches
abbrev pub hops_a_word : Shape → Mode → Walk → ℕ
hops_a_word s m w = w.ups + 1 + w.descents + reach s m w.terminus

-- the path hops of a packet of n words
abbrev pub path_hops : Shape → Mode → Walk → ℕ → ℕ
path_hops s m w n = n * hops_a_word s m w
