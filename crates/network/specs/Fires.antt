-- A fire: merge, then up or down, then all outputs together, or a refusal and the same tree.
use Rattle.std.specs.Prelude.{ℕ, Bool, false, cond, ◌||◌, [], ◌∷◌, ◌++◌, length, is_some, Some, None, Ok, Err, Option, Result, nat_le, nat_lt}
use Rattle.refusal.specs.declared.drive.FireFault.{FireFault}
use Rattle.refusal.specs.declared.drive.FireFault.TheVariants.{NoCard, NoInput, NothingWaits, LinkOccupied, InboxFull}
use Rattle.wiring.specs.Shapes.{Shape}
use Rattle.station.specs.declared.hold.Station.{Station}
use Rattle.station.specs.declared.hold.Station.TheVariants.{Up, Down}
use Rattle.station.specs.declared.hold.Input.{Input}
use Rattle.station.specs.declared.hold.Here.{Here}
use Rattle.station.specs.declared.hold.Here.TheVariants.{Onward, Dropped, Kept}
use Rattle.station.specs.declared.hold.Hold.{Hold}
use Rattle.station.specs.declared.plan.Plan.{Plan}
use Rattle.station.specs.declared.channel.Channel.{Channel}
use Rattle.station.specs.declared.channel.Channel.TheVariants.{Queued, UpLink, TurnLink, DownLink}
use Rattle.station.specs.Holds.{merge, after}
use Rattle.station.specs.Plans.{Verdicts, planned, sum_of}
use Rattle.network.specs.Cards.{State, inbox_room, card_at, on_card, with_queue, with_inbox, with_up_link, with_turn_link, with_down_link, with_up, with_down, oldest, younger}
use Rattle.network.specs.Nodes.{node_of, input_of}

pub record Fired : Type 0 where
  pub answer : Result ℕ FireFault
  pub next : State

-- a refusal changes nothing; what is granted goes on
abbrev pub and_then : {A : Type 0} → State → Result A FireFault → (A → Fired) → Fired
and_then x (Err f) k = record { answer = Err f; next = x }
and_then x (Ok a) k = k a

abbrev pub present : Shape → ℕ → Result (Unit {0}) FireFault
present s c = cond (nat_lt c s.cards) (Ok tt) (Err NoCard)

abbrev pub located_by : Option Channel → Result Channel FireFault
located_by None = Err NoInput
located_by (Some o) = Ok o

-- the channel at the input that is named
abbrev pub located : Shape → ℕ → Station → Input → Result Channel FireFault
located s c t i = located_by (input_of s (node_of c t) i)

-- the oldest word of a channel
abbrev pub waiting_at : State → Channel → Option ℕ
waiting_at x (Queued c) = oldest (card_at x c).queue
waiting_at x (UpLink c) = (card_at x c).up_link
waiting_at x (TurnLink c) = (card_at x c).turn_link
waiting_at x (DownLink c) = (card_at x c).down_link

abbrev pub waits_by : Option ℕ → Result ℕ FireFault
waits_by None = Err NothingWaits
waits_by (Some w) = Ok w

abbrev pub waits : State → Channel → Result ℕ FireFault
waits x o = waits_by (waiting_at x o)

-- how a station stands
abbrev pub hold_at : State → ℕ → Station → Hold Input
hold_at x c Up = (card_at x c).up
hold_at x c Down = (card_at x c).down

-- is there a word on the down link to this card
abbrev pub down_taken : State → Option ℕ → Bool
down_taken x None = false
down_taken x (Some d) = is_some (card_at x d).down_link

-- a link needed is occupied
abbrev pub link_taken : State → ℕ → Plan ℕ → Bool
link_taken x c p =
    cond p.up (is_some (card_at x c).up_link) false || (cond p.turn (is_some (card_at x c).turn_link) false || (down_taken x p.left || down_taken x p.right))

-- the inbox is needed and full
abbrev pub inbox_taken : State → ℕ → Here → Bool
inbox_taken x c Onward = false
inbox_taken x c Dropped = false
inbox_taken x c (Kept w) = nat_le inbox_room (length (card_at x c).inbox)

-- all outputs together, or a refusal
abbrev pub clear : State → ℕ → Plan ℕ → Result (Unit {0}) FireFault
clear x c p = cond (link_taken x c p) (Err LinkOccupied) (cond (inbox_taken x c p.here) (Err InboxFull) (Ok tt))

-- the word that is kept enters the inbox
abbrev pub kept : ℕ → Here → State → State
kept c Onward x = x
kept c Dropped x = x
kept c (Kept w) x = on_card x c (with_inbox ((card_at x c).inbox ++ (w ∷ [])))

-- the oldest word leaves a channel
abbrev pub consumed : Channel → State → State
consumed (Queued c) x = on_card x c (with_queue (younger (card_at x c).queue))
consumed (UpLink c) x = on_card x c (with_up_link None)
consumed (TurnLink c) x = on_card x c (with_turn_link None)
consumed (DownLink c) x = on_card x c (with_down_link None)

abbrev pub to_up_link : ℕ → Bool → ℕ → State → State
to_up_link c b w x = cond b (on_card x c (with_up_link (Some w))) x

abbrev pub to_turn_link : ℕ → Bool → ℕ → State → State
to_turn_link c b w x = cond b (on_card x c (with_turn_link (Some w))) x

abbrev pub to_down_link : Option ℕ → ℕ → State → State
to_down_link None w x = x
to_down_link (Some d) w x = on_card x d (with_down_link (Some w))

-- the word is written to every link of the plan
abbrev pub written : ℕ → Plan ℕ → State → State
written c p x = to_down_link p.right p.word (to_down_link p.left p.word (to_turn_link c p.turn p.word (to_up_link c p.up p.word x)))

-- the station once the word has passed
abbrev pub passed : ℕ → Station → Input → ℕ → Here → State → State
passed c Up i w e x = on_card x c (with_up (after (card_at x c).up i w e))
passed c Down i w e x = on_card x c (with_down (after (card_at x c).down i w e))

-- the word w from the channel o has gone through a station
abbrev pub carried : ℕ → Station → Input → Channel → ℕ → Plan ℕ → State → State
carried c t i o w p x = passed c t i w p.here (written c p (consumed o (kept c p.here x)))

abbrev pub carry : State → ℕ → Station → Input → Channel → ℕ → Plan ℕ → Fired
carry x c t i o w p = and_then x (clear x c p) (λ _. record { answer = Ok (sum_of p); next = carried c t i o w p x })

-- merge, then up or down
abbrev pub passing : Shape → Verdicts → State → ℕ → Station → Input → Channel → ℕ → Fired
passing s v x c t i o w = and_then x (merge (hold_at x c t) i w) (λ _. carry x c t i o w (planned s v c t (hold_at x c t) w))

-- fire: the station t of card c, at the input i
abbrev pub fire_step : Shape → Verdicts → State → ℕ → Station → Input → Fired
fire_step s v x c t i =
    and_then x (present s c) (λ _.
    and_then x (located s c t i) (λ o.
    and_then x (waits x o) (λ w.
    passing s v x c t i o w)))
