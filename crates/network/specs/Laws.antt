-- The three laws of the tree, for every run.
use Rattle.std.specs.Prelude.{◌≡◌, ℕ, ◌+◌, ◌<◌, true, ◌⊎◌, List, [], ◌∷◌, ◌++◌, Some, Ok, Err, Result}
use Rattle.refusal.specs.declared.drive.FireFault.{FireFault}
use Rattle.refusal.specs.declared.drive.FireFault.TheVariants.{InboxFull}
use Rattle.wiring.specs.Shapes.{Shape, Lawful}
use Rattle.station.specs.declared.hold.Station.{Station}
use Rattle.station.specs.declared.hold.Input.{Input}
use Rattle.station.specs.declared.channel.Channel.{Channel}
use Rattle.station.specs.Plans.{Verdicts}
use Rattle.network.specs.Cards.{State, card_at}
use Rattle.network.specs.Nodes.{node_of, input_of}
use Rattle.network.specs.Fires.{fire_step}
use Rattle.network.specs.Sums.{sum_over, count, same_words, joined}
use Rattle.network.specs.Owed.{hops_owed}
use Rattle.network.specs.Arrivals.{hops_of, arrives_as, all_whole}
use Rattle.network.specs.Runs.{Call, Run, run, next, Reached}

-- a fire is granted, or refused only for a full inbox
abbrev pub Goes : Result ℕ FireFault → Type 0
Goes a = ((n : ℕ) × (a ≡ Ok n)) ⊎ (a ≡ Err InboxFull)

-- a fire that goes: of a card that there is, at an input that its station has
pub record Ready (s : Shape) (v : Verdicts) (x : State) : Type 0 where
  pub card : ℕ
  pub station : Station
  pub input : Input
  pub channel : Channel
  pub there : card < s.cards
  pub from : input_of s (node_of card station) input ≡ Some channel
  pub goes : Goes (fire_step s v x card station input).answer

-- the words of card d: those that its granted takes have returned, in order, and then those in its inbox
unfoldable pub words_at : Run → ℕ → List ℕ
words_at r d = r.taken d ++ (card_at r.tree d).inbox

-- the words of card d are whole arrivals, and each list of words stands among them exactly as often as granted sends call for
pub record Delivered (s : Shape) (v : Verdicts) (r : Run) (d : ℕ) : Type 0 where
  pub arrivals : List (List ℕ)
  pub words : joined arrivals ≡ words_at r d
  pub whole : all_whole arrivals ≡ true
  pub exact : (l : List ℕ) → count (λ a. same_words a l) arrivals ≡ count (arrives_as s v d l) r.sends

-- hops owed are the path hops of all packets ever queued, less one for each granted fire
abbrev pub Hops : Shape → Run → Type 0
Hops s r = hops_owed s r.tree + r.fires ≡ sum_over r.sends (hops_of s)

-- while hops are owed, some fire would be granted next, or refused only for a full inbox
abbrev pub Progress : Shape → Verdicts → Run → Type 0
Progress s v r = 0 < hops_owed s r.tree → Ready s v r.tree

-- once no hops are owed, every card has exactly its arrivals
abbrev pub Delivery : Shape → Verdicts → Run → Type 0
Delivery s v r = hops_owed s r.tree ≡ 0 → (d : ℕ) → d < s.cards → Delivered s v r d

pub record Laws (s : Shape) (v : Verdicts) (r : Run) : Type 0 where
  pub hops : Hops s r
  pub progress : Progress s v r
  pub delivery : Delivery s v r

-- for every lawful wiring, every policy and every list of calls: each law by itself, and all three
abbrev pub HopsLaw : Type 0
HopsLaw = (s : Shape) → Lawful s → (v : Verdicts) (ks : List Call) → Hops s (run s v ks)

abbrev pub ProgressLaw : Type 0
ProgressLaw = (s : Shape) → Lawful s → (v : Verdicts) (ks : List Call) → Progress s v (run s v ks)

abbrev pub DeliveryLaw : Type 0
DeliveryLaw = (s : Shape) → Lawful s → (v : Verdicts) (ks : List Call) → Delivery s v (run s v ks)

abbrev pub ThreeLaws : Type 0
ThreeLaws = (s : Shape) → Lawful s → (v : Verdicts) (ks : List Call) → Laws s v (run s v ks)

-- what the call k, which takes the tree x to x', promises to whoever knows calls that lead to x: with k they lead to x', and there the laws hold
abbrev pub Keeps : Shape → Verdicts → Call → State → State → Type 0
Keeps s v k x x' = (ks : List Call) → Reached s v ks x → Reached s v (ks ++ (k ∷ [])) x' × Laws s v (run s v (ks ++ (k ∷ [])))

-- every call keeps the laws
abbrev pub EveryCall : Type 0
EveryCall = (s : Shape) → Lawful s → (v : Verdicts) (x : State) (k : Call) → Keeps s v k x (next s v x k)
