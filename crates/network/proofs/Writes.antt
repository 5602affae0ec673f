-- The machine's reads and writes, channel by channel.
use Rattle.std.proofs.Common.{◌≡◌, ℕ, Bool, true, false, cond, not, ◌&&◌, ◌||◌, leb, List, [], ◌∷◌, ◌++◌, length, is_some, Some, None, Option, sym, refl, ap, ◌∙◌, arith}
use mathlib.Core.Bool.{and-true, and_assoc}
use Rattle.station.specs.Holds.{after}
use Rattle.station.specs.declared.channel.Channel.{Channel}
use Rattle.station.specs.declared.channel.Channel.TheVariants.{DownLink, Queued, TurnLink, UpLink}
use Rattle.station.specs.declared.hold.Here.{Here}
use Rattle.station.specs.declared.hold.Here.TheVariants.{Dropped, Kept, Onward}
use Rattle.station.specs.declared.hold.Input.{Input}
use Rattle.station.specs.declared.plan.Plan.{Plan}
use Rattle.network.specs.Cards.{State, card_at, inbox_room, oldest, on_card, with_down_link, with_inbox, with_queue, with_turn_link, with_up_link, younger}
use Rattle.network.specs.Fires.{consumed, down_taken, hold_at, inbox_taken, kept, link_taken, passed, to_down_link, to_turn_link, to_up_link, waiting_at, written}
use Rattle.network.specs.Nodes.{Node, card_of, down, down_link_to, number, station_of, up}
use Rattle.network.specs.Owed.{hold_in, hold_of, holds, on_link, reads}
use Rattle.network.proofs.Flow.{all_clear, is_empty}
use Rattle.network.proofs.Planned.{kept_words, links_of}
use Rattle.network.proofs.Table.{boxed, change, filled, pour, stand, standing, write_all}

on_link_lem : (l : Option ℕ) → l ≡ oldest (on_link l)
unfolding on_link
on_link_lem None = refl
on_link_lem (Some w) = refl

pub waiting_is : (x : State) (o : Channel) → waiting_at x o ≡ oldest (reads x o)
unfolding reads holds number
waiting_is x (Queued c) = refl
waiting_is x (UpLink c) = on_link_lem (card_at x c).up_link
waiting_is x (TurnLink c) = on_link_lem (card_at x c).turn_link
waiting_is x (DownLink c) = on_link_lem (card_at x c).down_link

link_last : (l : Option ℕ) (w : ℕ) (ws : List ℕ) → on_link l ≡ w ∷ ws → None ≡ oldest ws
unfolding on_link
link_last None w ws e = absurd (grind arith)
link_last (Some v) w ws e = let z : [] ≡ ws = cc in rw (← z)

-- the oldest word leaves a channel
pub consumed_is : (x : State) (o : Channel) (w : ℕ) (ws : List ℕ) → reads x o ≡ w ∷ ws → consumed o x ≡ pour x o ws
unfolding reads holds number pour change filled
consumed_is x (Queued c) w ws e = ap (λ (l : List ℕ). on_card x c (with_queue (younger l))) e
consumed_is x (UpLink c) w ws e = ap (λ (l : Option ℕ). on_card x c (with_up_link l)) (link_last (card_at x c).up_link w ws e)
consumed_is x (TurnLink c) w ws e = ap (λ (l : Option ℕ). on_card x c (with_turn_link l)) (link_last (card_at x c).turn_link w ws e)
consumed_is x (DownLink c) w ws e = ap (λ (l : Option ℕ). on_card x c (with_down_link l)) (link_last (card_at x c).down_link w ws e)

-- the word that is kept enters the inbox
pub kept_is : (x : State) (c : ℕ) (e : Here) → (kept_words e ≡ [] → kept c e x ≡ x) × ((v : ℕ) → kept_words e ≡ v ∷ [] → kept c e x ≡ boxed x c ((card_at x c).inbox ++ (v ∷ [])))
unfolding kept_words boxed change
kept_is x c Onward = (λ z. refl, λ v z. absurd (grind arith))
kept_is x c Dropped = (λ z. refl, λ v z. absurd (grind arith))
kept_is x c (Kept w) = (λ z. absurd (grind arith), λ v z. let q : w ≡ v = cc in ap (λ (u : ℕ). on_card x c (with_inbox ((card_at x c).inbox ++ (u ∷ [])))) q)

write_append : (os ps : List Channel) (x : State) (w : ℕ) → write_all x (os ++ ps) w ≡ write_all (write_all x os w) ps w
unfolding write_all
write_append [] ps x w = refl
write_append (o ∷ os) ps x w = write_append os ps (pour x o (w ∷ [])) w

up_write : (x : State) (c : ℕ) (b : Bool) (w : ℕ) → to_up_link c b w x ≡ write_all x (cond b (UpLink c ∷ []) []) w
unfolding write_all pour change filled number
up_write x c true w = refl
up_write x c false w = refl

turn_write : (x : State) (c : ℕ) (b : Bool) (w : ℕ) → to_turn_link c b w x ≡ write_all x (cond b (TurnLink c ∷ []) []) w
unfolding write_all pour change filled number
turn_write x c true w = refl
turn_write x c false w = refl

down_write : (x : State) (d : Option ℕ) (w : ℕ) → to_down_link d w x ≡ write_all x (down_link_to d) w
unfolding write_all pour change filled number down_link_to
down_write x None w = refl
down_write x (Some d) w = refl

pub written_is : (x : State) (c : ℕ) (p : Plan ℕ) → written c p x ≡ write_all x (links_of c p) p.word
unfolding links_of
written_is x c p = simp (up_write, turn_write, down_write, write_append)

-- the station moves
pub passed_is : (x : State) (s : Node) (i : Input) (w : ℕ) (e : Here) → passed (card_of s) (station_of s) i w e x ≡ stand x s (after (hold_of x s) i w e)
unfolding card_of station_of stand standing hold_of hold_in change
passed_is x (up c) i w e = refl
passed_is x (down c) i w e = refl

pub hold_is : (x : State) (s : Node) → hold_at x (card_of s) (station_of s) ≡ hold_of x s
unfolding card_of station_of hold_of hold_in
hold_is x (up c) = refl
hold_is x (down c) = refl

-- a link is free where no word waits on it
empty_is : (l : Option ℕ) → is_some l ≡ not (is_empty (on_link l))
unfolding on_link is_empty
empty_is None = refl
empty_is (Some w) = refl

clear-append : (f : Channel → List ℕ) (os ps : List Channel) → all_clear f (os ++ ps) ≡ all_clear f os && all_clear f ps
unfolding all_clear
clear-append f [] ps = refl
clear-append f (o ∷ os) ps = rw (clear-append f os ps) (sym (and_assoc (is_empty (f o)) (all_clear f os) (all_clear f ps)))

up_taken : (x : State) (c : ℕ) (b : Bool) → cond b (is_some (card_at x c).up_link) false ≡ not (all_clear (reads x) (cond b (UpLink c ∷ []) []))
unfolding all_clear reads holds number
up_taken x c true = empty_is (card_at x c).up_link ∙ sym (ap not (and-true _))
up_taken x c false = refl

turn_taken : (x : State) (c : ℕ) (b : Bool) → cond b (is_some (card_at x c).turn_link) false ≡ not (all_clear (reads x) (cond b (TurnLink c ∷ []) []))
unfolding all_clear reads holds number
turn_taken x c true = empty_is (card_at x c).turn_link ∙ sym (ap not (and-true _))
turn_taken x c false = refl

down_taken_lem : (x : State) (d : Option ℕ) → down_taken x d ≡ not (all_clear (reads x) (down_link_to d))
unfolding all_clear reads holds number down_link_to
down_taken_lem x None = refl
down_taken_lem x (Some d) = empty_is (card_at x d).down_link ∙ sym (ap not (and-true _))

not-and : (a b : Bool) → not (a && b) ≡ (not a || not b)
not-and true b = refl
not-and false b = refl

pub link_taken_lem : (x : State) (c : ℕ) (p : Plan ℕ) → link_taken x c p ≡ not (all_clear (reads x) (links_of c p))
unfolding links_of
link_taken_lem x c p = simp (up_taken, turn_taken, down_taken_lem, clear-append, not-and)

pub inbox_taken_lem : (x : State) (c : ℕ) (e : Here) → inbox_taken x c e ≡ (not (is_empty (kept_words e)) && leb inbox_room (length (card_at x c).inbox))
unfolding kept_words is_empty
inbox_taken_lem x c Onward = refl
inbox_taken_lem x c Dropped = refl
inbox_taken_lem x c (Kept w) = refl
