-- The tree as it stands: for each card its queue, its inbox, its links and its two stations.
use Rattle.std.specs.Prelude.{ℕ, List, [], ◌∷◌, replicate, Some, None, Option, slice_index_or, slice_set}
use Rattle.wiring.specs.Shapes.{most_cards}
use Rattle.station.specs.declared.hold.Input.{Input}
use Rattle.station.specs.declared.hold.Hold.{Hold}
use Rattle.station.specs.declared.hold.Hold.TheVariants.{Free}

pub record Card : Type 0 where
  -- words, oldest first
  pub queue : List ℕ
  pub inbox : List ℕ
  -- the up link to the parent, the turn link to the card's own down station, the down link from the parent: a word or nothing
  pub up_link : Option ℕ
  pub turn_link : Option ℕ
  pub down_link : Option ℕ
  pub up : Hold Input
  pub down : Hold Input

-- the most words in a queue, and in an inbox
abbrev pub queue_room : ℕ
queue_room = 64

abbrev pub inbox_room : ℕ
inbox_room = 64

-- the cards; there is a place for as many as a wiring may have, and those that it has not stay blank
abbrev pub State : Type 0
State = List Card

abbrev pub blank : Card
blank = record { queue = []; inbox = []; up_link = None; turn_link = None; down_link = None; up = Free; down = Free }

-- the tree that setting up gives
abbrev pub empty : State
empty = replicate most_cards blank

abbrev pub card_at : State → ℕ → Card
card_at x c = slice_index_or x c blank

-- the tree with card c changed
abbrev pub on_card : State → ℕ → (Card → Card) → State
on_card x c f = slice_set x c (f (card_at x c))

abbrev pub with_queue : List ℕ → Card → Card
with_queue l k = record { queue = l; inbox = k.inbox; up_link = k.up_link; turn_link = k.turn_link; down_link = k.down_link; up = k.up; down = k.down }

abbrev pub with_inbox : List ℕ → Card → Card
with_inbox l k = record { queue = k.queue; inbox = l; up_link = k.up_link; turn_link = k.turn_link; down_link = k.down_link; up = k.up; down = k.down }

abbrev pub with_up_link : Option ℕ → Card → Card
with_up_link l k = record { queue = k.queue; inbox = k.inbox; up_link = l; turn_link = k.turn_link; down_link = k.down_link; up = k.up; down = k.down }

abbrev pub with_turn_link : Option ℕ → Card → Card
with_turn_link l k = record { queue = k.queue; inbox = k.inbox; up_link = k.up_link; turn_link = l; down_link = k.down_link; up = k.up; down = k.down }

abbrev pub with_down_link : Option ℕ → Card → Card
with_down_link l k = record { queue = k.queue; inbox = k.inbox; up_link = k.up_link; turn_link = k.turn_link; down_link = l; up = k.up; down = k.down }

abbrev pub with_up : Hold Input → Card → Card
with_up d k = record { queue = k.queue; inbox = k.inbox; up_link = k.up_link; turn_link = k.turn_link; down_link = k.down_link; up = d; down = k.down }

abbrev pub with_down : Hold Input → Card → Card
with_down d k = record { queue = k.queue; inbox = k.inbox; up_link = k.up_link; turn_link = k.turn_link; down_link = k.down_link; up = k.up; down = d }

-- the oldest word of a list, and those after it
abbrev pub oldest : List ℕ → Option ℕ
oldest [] = None
oldest (w ∷ ws) = Some w

abbrev pub younger : List ℕ → List ℕ
younger [] = []
younger (w ∷ ws) = ws
