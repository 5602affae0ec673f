-- A word that passes a station takes that station's share from the load, and nothing else.
use Rattle.std.proofs.Common.{◌≡◌, ℕ, suc, ◌+◌, ◌*◌, ◌<◌, ◌≤◌, ◌≢◌, List, [], ◌∷◌, ◌++◌, refl, arith}
use Rattle.std.specs.List.{AllByRecursion}
use Rattle.wiring.specs.Shapes.{Shape}
use Rattle.station.specs.Plans.{Verdicts}
use Rattle.station.specs.declared.channel.Channel.{Channel}
use Rattle.network.specs.Nodes.{Node, card_of, number, target}
use Rattle.network.specs.Sums.{sum_channels, sum_over}
use Rattle.network.proofs.Basics.{put_other, put_same, sum_channels-at, waiting_push}
use Rattle.network.proofs.Channels.{Rooted, channel_discrete}
use Rattle.network.proofs.Flow.{Flow, load, pass, push_all}
use Rattle.network.proofs.UnderWay.{along, leaves, moved, next, outs_of, put, rest, waiting, weight}
use Rattle.network.proofs.Outputs.{all_map₂}
use Rattle.network.proofs.Ranks.{outs_of_lower, rank, stable, target-known}

pub moved_push : (q : List ℕ) (w : ℕ) → moved (q ++ (w ∷ [])) ≡ moved q ++ (leaves q w ∷ [])
unfolding moved leaves
moved_push [] w = refl
moved_push (h ∷ q) w = refl

abbrev pub Distinct : List Channel → Type 0
Distinct [] = Unit {0}
Distinct (o ∷ os) = AllByRecursion (λ p. p ≢ o) os × Distinct os

module _ (f : Node → List ℕ → ℕ) (W : Shape) (k : ℕ) where
  unfoldable pub at : (Channel → List ℕ) → (Channel → List ℕ) → Channel → ℕ
  at c p o = waiting f W k (target W o) (p o) (c o)

  unfoldable pub sum_at : (Channel → List ℕ) → (Channel → List ℕ) → ℕ
  sum_at c p = sum_channels W.cards (at c p)

  pub sum_pop : (c p : Channel → List ℕ) (i : Channel) (w : ℕ) (ws : List ℕ) → number i < W.cards → c i ≡ w ∷ ws →
      sum_at (put channel_discrete c i ws) (put channel_discrete p i (next (p i) w)) + weight f W k (target W i) (p i ++ (w ∷ [])) ≡ sum_at c p
  unfolding sum_at at waiting along
  sum_pop c p i w ws h e =
      let c' : Channel → List ℕ = put channel_discrete c i ws in
      let p' : Channel → List ℕ = put channel_discrete p i (next (p i) w) in
      let s = sum_channels-at W.cards i (at c' p') (at c p) h (λ j n. simp (put_other, n)) in
      let before : at c p i ≡ weight f W k (target W i) (p i ++ (w ∷ [])) + waiting f W k (target W i) (next (p i) w) ws = rw e in
      let after : at c' p' i ≡ waiting f W k (target W i) (next (p i) w) ws = simp put_same in
      omega arith

  pub sum_push : (c p : Channel → List ℕ) (o : Channel) (w : ℕ) → number o < W.cards →
      sum_at (put channel_discrete c o (c o ++ (w ∷ []))) p ≡ sum_at c p + weight f W k (target W o) (rest (p o) (c o) ++ (w ∷ []))
  unfolding sum_at at waiting along
  sum_push c p o w h =
      let c' : Channel → List ℕ = put channel_discrete c o (c o ++ (w ∷ [])) in
      let s = sum_channels-at W.cards o (at c' p) (at c p) h (λ j n. simp (put_other, n)) in
      let after : at c' p o ≡ at c p o + weight f W k (target W o) (rest (p o) (c o) ++ (w ∷ [])) = simp (put_same, waiting_push) in
      omega arith

  pub sum_push_all : (os : List Channel) (c p : Channel → List ℕ) (r : List ℕ) (w : ℕ) → Distinct os →
      AllByRecursion (λ o. (number o < W.cards) × (rest (p o) (c o) ≡ r)) os →
      sum_at (push_all os w c) p ≡ sum_at c p + sum_over os (λ o. weight f W k (target W o) (r ++ (w ∷ [])))
  unfolding push_all sum_over
  sum_push_all [] c p r w d a = omega arith
  sum_push_all (o ∷ os) c p r w d a =
      let c' : Channel → List ℕ = put channel_discrete c o (c o ++ (w ∷ [])) in
      let s = sum_push c p o w a.0.0 in
      let later : AllByRecursion (λ o. (number o < W.cards) × (rest (p o) (c' o) ≡ r)) os =
      all_map₂ _ _ _ (λ o' n m. (m.0, simp (put_other, n) m.1)) os d.0 a.1 in
      let t = sum_push_all os c' p r w d.1 later in
      let e : weight f W k (target W o) (rest (p o) (c o) ++ (w ∷ [])) ≡ weight f W k (target W o) (r ++ (w ∷ [])) = rw a.0.1 in
      omega arith

-- the words of the packet under way in a channel that a station is sending into
pub record SendsInto (W : Shape) (x : Flow) (i : Channel) (q : List ℕ) (o : Channel) : Type 0 where
  pub other : o ≢ i
  pub follows : rest (x.passed o) (x.chan o) ≡ moved q

rank-fits : (W : Shape) (s : Node) → card_of s < W.cards → rank W s ≤ 2 * W.cards
unfolding rank card_of
rank-fits W (Node.up c) h = omega arith
rank-fits W (Node.down c) h = omega arith

pub pass-load : (f : Node → List ℕ → ℕ) (W : Shape) (L : Rooted W) (P : Verdicts) (x : Flow) (i : Channel) (w : ℕ) (ws : List ℕ) →
    number i < W.cards → x.chan i ≡ w ∷ ws → Distinct (outs_of W (target W i) (x.passed i ++ (w ∷ []))) →
    AllByRecursion (SendsInto W x i (x.passed i)) (outs_of W (target W i) (x.passed i ++ (w ∷ []))) →
    load f W (pass W P x i (target W i) (x.passed i) w ws) + f (target W i) (x.passed i ++ (w ∷ [])) ≡ load f W x
unfolding pass load sum_at at weight
pass-load f W L P x i w ws h e d a =
    let n : ℕ = 2 * W.cards in
    let s : Node = target W i in
    let q : List ℕ = x.passed i in
    let os : List Channel = outs_of W s (q ++ (w ∷ [])) in
    let c₁ : Channel → List ℕ = put channel_discrete x.chan i ws in
    let p₁ : Channel → List ℕ = put channel_discrete x.passed i (next q w) in
    let popped = sum_pop f W n x.chan x.passed i w ws h e in
    let ready : AllByRecursion (λ o. (number o < W.cards) × (rest (p₁ o) (c₁ o) ≡ moved q)) os =
    all_map₂ _ _ _ (λ o l t. (l.known, let ne = t.other in simp (put_other, ne) t.follows)) os (outs_of_lower W L s (q ++ (w ∷ [])) (target-known W L i h)) a in
    let pushed = sum_push_all f W n os c₁ p₁ (moved q) (leaves q w) d ready in
    let once : weight f W n s (q ++ (w ∷ [])) ≡ weight f W (suc n) s (q ++ (w ∷ [])) =
    stable W L f n (suc n) s (q ++ (w ∷ [])) (target-known W L i h) (rank-fits W s (target-known W L i h)) (let g = rank-fits W s (target-known W L i h) in omega arith) in
    let same : sum_over os (λ o. weight f W n (target W o) (moved q ++ (leaves q w ∷ []))) ≡ sum_over os (λ o. weight f W n (target W o) (moved (q ++ (w ∷ [])))) =
    rw moved_push in
    omega arith
