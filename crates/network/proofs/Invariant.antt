-- What holds of every channel: the packet under way in it is the one that its feeder is sending.
use Rattle.std.proofs.Common.{◌≡◌, ℕ, Bool, true, false, cond, ◌≢◌, List, [], ◌∷◌, ◌++◌, Some, None, Option, sym, refl, ap, ◌∙◌, arith}
use Rattle.std.specs.List.{AllByRecursion}
use mathlib.Core.Logic.{if_neg, if_pos, ite}
use Rattle.wiring.specs.Shapes.{Shape}
use Rattle.station.specs.declared.channel.Channel.{Channel}
use Rattle.station.specs.declared.channel.Channel.TheVariants.{DownLink, Queued, TurnLink, UpLink}
use Rattle.network.specs.Nodes.{Node, above, down, target, up}
use Rattle.network.proofs.Basics.{put_other, put_same}
use Rattle.network.proofs.Channels.{channel_discrete}
use Rattle.network.proofs.Conserve.{Distinct}
use Rattle.network.proofs.Flow.{Flow, is_empty, push_all}
use Rattle.network.proofs.UnderWay.{moved, outs_of, rest}

unfoldable pub elem : Channel → List Channel → Bool
elem o [] = false
elem o (p ∷ os) = ite (channel_discrete o p) true (elem o os)

pub all_elem : (P : Channel → Type 0) (o : Channel) (os : List Channel) → AllByRecursion P os → elem o os ≡ true → P o
unfolding elem
all_elem P o [] a e = absurd (grind arith)
all_elem P o (p ∷ os) a e =
    elim (channel_discrete o p) [
      | yes t ↦ rw t a.0
      | no n ↦ all_elem P o os a.1 (sym (if_neg (channel_discrete o p) n true (elem o os)) ∙ e)
    ]

pub elem_more : (o p : Channel) (os : List Channel) → elem o os ≡ true → elem o (p ∷ os) ≡ true
unfolding elem
elem_more o p os e =
    elim (channel_discrete o p) [
      | yes t ↦ if_pos (channel_discrete o p) t true (elem o os)
      | no n ↦ if_neg (channel_discrete o p) n true (elem o os) ∙ e
    ]

pub all_by : (P : Channel → Type 0) (os : List Channel) → ((o : Channel) → elem o os ≡ true → P o) → AllByRecursion P os
unfolding elem
all_by P [] f = tt
all_by P (p ∷ os) f = (f p (if_pos (channel_discrete p p) refl true (elem p os)), all_by P os (λ o e. f o (elem_more o p os e)))

pub elem_other : (o : Channel) (os : List Channel) → AllByRecursion (λ p. p ≢ o) os → elem o os ≡ false
unfolding elem
elem_other o [] a = refl
elem_other o (p ∷ os) a = if_neg (channel_discrete o p) (λ e. a.0 (sym e)) true (elem o os) ∙ elem_other o os a.1

pub push_all_out : (os : List Channel) (w : ℕ) (c : Channel → List ℕ) (o : Channel) → elem o os ≡ false → push_all os w c o ≡ c o
unfolding elem push_all
push_all_out [] w c o e = refl
push_all_out (p ∷ os) w c o e =
    elim (channel_discrete o p) [
      | yes t ↦ absurd (let u = if_pos (channel_discrete o p) t true (elem o os) in grind arith)
      | no n ↦ push_all_out os w _ o (sym (if_neg (channel_discrete o p) n true (elem o os)) ∙ e) ∙ put_other channel_discrete c p (c p ++ (w ∷ [])) o n
    ]

pub push_all_in : (os : List Channel) (w : ℕ) (c : Channel → List ℕ) (o : Channel) → Distinct os → elem o os ≡ true → push_all os w c o ≡ c o ++ (w ∷ [])
unfolding elem push_all
push_all_in [] w c o d e = absurd (grind arith)
push_all_in (p ∷ os) w c o d e =
    elim (channel_discrete o p) [
      | yes t ↦ rw t (push_all_out os w _ p (elem_other p os d.0) ∙ put_same channel_discrete c p (c p ++ (w ∷ [])))
      | no n ↦ push_all_in os w _ o d.1 (sym (if_neg (channel_discrete o p) n true (elem o os)) ∙ e) ∙ ap (λ (l : List ℕ). l ++ (w ∷ [])) (put_other channel_discrete c p (c p ++ (w ∷ [])) o n)
    ]

-- the station that sends into a channel
unfoldable pub feeder_by : Node → Option ℕ → Option Node
feeder_by s None = None
feeder_by s (Some p) = Some s

unfoldable pub fall_from : Option ℕ → Option Node
fall_from None = None
fall_from (Some p) = Some (down p)

unfoldable pub feeder : Shape → Channel → Option Node
feeder W (Queued c) = None
feeder W (UpLink c) = feeder_by (up c) (above W c)
feeder W (TurnLink c) = Some (up c)
feeder W (DownLink c) = fall_from (above W c)

unfoldable pub sending_from : Shape → Flow → Channel → Node → Option Channel → List ℕ
sending_from W x o s None = []
sending_from W x o s (Some i) = cond (elem o (outs_of W s (x.passed i))) (moved (x.passed i)) []

unfoldable pub sending : Shape → Flow → Channel → Option Node → List ℕ
sending W x o None = []
sending W x o (Some s) = sending_from W x o s (x.source s)

pub record Inv (W : Shape) (x : Flow) : Type 0 where
  pub quiet : (i : Channel) → x.source (target W i) ≢ Some i → x.passed i ≡ []
  pub home : (s : Node) (j : Channel) → x.source s ≡ Some j → target W j ≡ s
  pub begun : (s : Node) (j : Channel) → x.source s ≡ Some j → is_empty (x.passed j) ≡ false
  pub links : (o : Channel) → rest (x.passed o) (x.chan o) ≡ sending W x o (feeder W o)
