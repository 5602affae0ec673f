-- A function changed at one place, and sums.
use Rattle.std.proofs.Common.{◌≡◌, ℕ, zero, suc, ◌+◌, ◌<◌, ◌≤◌, true, ◌≢◌, List, [], ◌∷◌, ◌++◌, sym, refl, ap, ◌∙◌, not-suc-le-zero, arith, false}
use Rattle.packet.specs.Packets.{is_tail_word}
use Rattle.std.proofs.lemmas.Bool.{and_parts, and_from}
use mathlib.Core.Logic.{if_neg, if_pos}
use native.Mathlib.Decide.{dec_lt, ℕ_discrete}
use Rattle.wiring.specs.Shapes.{Shape}
use Rattle.station.specs.declared.channel.Channel.{Channel}
use Rattle.station.specs.declared.channel.Channel.TheVariants.{DownLink, Queued, TurnLink, UpLink}
use Rattle.network.specs.Nodes.{Node, number, tag}
use Rattle.network.specs.Sums.{sum_channels, sum_to}
use Rattle.network.proofs.Flow.{fits, shape}
use Rattle.network.proofs.UnderWay.{along, next, put, rest, waiting, weight}

pub put_same {ℓ} : {K : Type 0} {A : Type ℓ} (d : Discrete K) (f : K → A) (k : K) (v : A) → put d f k v k ≡ v
unfolding put
put_same d f k v = if_pos (d k k) refl v (f k)

pub put-eq {ℓ} : {K : Type 0} {A : Type ℓ} (d : Discrete K) (f : K → A) (k : K) (v : A) (j : K) → j ≡ k → put d f k v j ≡ v
unfolding put
put-eq d f k v j e = if_pos (d j k) e v (f j)

pub put_other {ℓ} : {K : Type 0} {A : Type ℓ} (d : Discrete K) (f : K → A) (k : K) (v : A) (j : K) → j ≢ k → put d f k v j ≡ f j
unfolding put
put_other d f k v j n = if_neg (d j k) n v (f j)

pub sum_to_same : (n : ℕ) (f g : ℕ → ℕ) → ((j : ℕ) → j < n → f j ≡ g j) → sum_to n f ≡ sum_to n g
unfolding sum_to
sum_to_same zero f g e = refl
sum_to_same (suc n) f g e = let t = sum_to_same n f g (λ j l. e j (omega arith)) in let u = e n (omega arith) in omega arith

-- two functions that differ at c alone
pub sum_to-at : (n c : ℕ) (f g : ℕ → ℕ) → c < n → ((j : ℕ) → j ≢ c → f j ≡ g j) → sum_to n f + g c ≡ sum_to n g + f c
unfolding sum_to
sum_to-at zero c f g h e = absurd (not-suc-le-zero h)
sum_to-at (suc n) c f g h e =
    elim (ℕ_discrete c n) [
      | yes p ↦ rw p (let t = sum_to_same n f g (λ j l. e j (omega arith)) in omega arith)
      | no np ↦ let t = sum_to-at n c f g (omega arith) e in let u = e n (λ p. np (sym p)) in omega arith
    ]

-- the words of the packet so far, by whether w is its tail
pub next_not : (q : List ℕ) (w : ℕ) → is_tail_word w ≡ false → next q w ≡ q ++ (w ∷ [])
unfolding next
next_not q w e = rw e

pub next_end : (q : List ℕ) (w : ℕ) → is_tail_word w ≡ true → next q w ≡ []
unfolding next
next_end q w e = rw e

pub rest_push : (q ws : List ℕ) (w : ℕ) → rest q (ws ++ (w ∷ [])) ≡ next (rest q ws) w
unfolding rest
rest_push q [] w = refl
rest_push q (v ∷ ws) w = rest_push (next q v) ws w

pub rest-append : (q ws vs : List ℕ) → rest q (ws ++ vs) ≡ rest (rest q ws) vs
unfolding rest
rest-append q [] vs = (refl)
rest-append q (v ∷ ws) vs = rest-append (next q v) ws vs

pub along-append : (g : List ℕ → ℕ) (q ws vs : List ℕ) → along g q (ws ++ vs) ≡ along g q ws + along g (rest q ws) vs
unfolding rest along
along-append g q [] vs = omega arith
along-append g q (v ∷ ws) vs = let e = along-append g (next q v) ws vs in omega arith

pub along_push : (g : List ℕ → ℕ) (q ws : List ℕ) (w : ℕ) → along g q (ws ++ (w ∷ [])) ≡ along g q ws + g (rest q ws ++ (w ∷ []))
unfolding along
along_push g q ws w = along-append g q ws (w ∷ []) ∙ omega arith

pub waiting_push : (f : Node → List ℕ → ℕ) (W : Shape) (k : ℕ) (s : Node) (q ws : List ℕ) (w : ℕ) →
    waiting f W k s q (ws ++ (w ∷ [])) ≡ waiting f W k s q ws + weight f W k s (rest q ws ++ (w ∷ []))
unfolding waiting
waiting_push f W k s q ws w = along_push (weight f W k s) q ws w

pub off : {j k : Channel} → number j ≢ number k → j ≢ k
off n p = n (ap number p)

pub apart : {j k : Channel} → tag j ≢ tag k → j ≢ k
apart n p = n (ap tag p)

unfoldable four : (Channel → ℕ) → ℕ → ℕ
four f c = f (Queued c) + f (UpLink c) + f (TurnLink c) + f (DownLink c)

sums_at : (n c : ℕ) (k : Channel) (f g : Channel → ℕ) → number k ≡ c → c < n → ((j : Channel) → j ≢ k → f j ≡ g j) →
    sum_to n (four f) + four g c ≡ sum_to n (four g) + four f c
unfolding four number
sums_at n c k f g p h e =
    sum_to-at n c (four f) (four g) h
    (λ j nj.
    let far : (i : Channel) → number i ≡ j → f i ≡ g i = λ i q. e i (off (λ r. nj (cc))) in
    omega (arith, far (Queued j) refl, far (UpLink j) refl, far (TurnLink j) refl, far (DownLink j) refl))

pub sum_channels-at : (n : ℕ) (k : Channel) (f g : Channel → ℕ) → number k < n → ((j : Channel) → j ≢ k → f j ≡ g j) →
    sum_channels n f + g k ≡ sum_channels n g + f k
unfolding sum_channels number tag four
sum_channels-at n (Queued c) f g h e =
    let s = sums_at n c (Queued c) f g refl h e in
    omega (arith, e (UpLink c) (apart (omega arith)), e (TurnLink c) (apart (omega arith)), e (DownLink c) (apart (omega arith)))
sum_channels-at n (UpLink c) f g h e =
    let s = sums_at n c (UpLink c) f g refl h e in
    omega (arith, e (Queued c) (apart (omega arith)), e (TurnLink c) (apart (omega arith)), e (DownLink c) (apart (omega arith)))
sum_channels-at n (TurnLink c) f g h e =
    let s = sums_at n c (TurnLink c) f g refl h e in
    omega (arith, e (UpLink c) (apart (omega arith)), e (Queued c) (apart (omega arith)), e (DownLink c) (apart (omega arith)))
sum_channels-at n (DownLink c) f g h e =
    let s = sums_at n c (DownLink c) f g refl h e in
    omega (arith, e (UpLink c) (apart (omega arith)), e (TurnLink c) (apart (omega arith)), e (Queued c) (apart (omega arith)))

-- the first word of a channel fits
pub first_fits : (q l : List ℕ) (w : ℕ) (ws : List ℕ) → l ≡ w ∷ ws → shape q l ≡ true → fits q w ≡ true
unfolding shape
first_fits q l w ws e s = (and_parts _ (shape (next q w) ws) (sym (ap (shape q) e) ∙ s)).0

pub shape-append : (q ws vs : List ℕ) → shape q ws ≡ true → shape (rest q ws) vs ≡ true → shape q (ws ++ vs) ≡ true
unfolding rest shape
shape-append q [] vs a b = b
shape-append q (w ∷ ws) vs a b = and_from _ _ (and_parts _ _ a).0 (shape-append (next q w) ws vs (and_parts (fits q w) _ a).1 b)

pub sum_to_none : (n : ℕ) (f : ℕ → ℕ) → ((j : ℕ) → f j ≡ 0) → sum_to n f ≡ 0
unfolding sum_to
sum_to_none zero f e = refl
sum_to_none (suc n) f e = let t = sum_to_none n f e in let u = e n in omega arith

pub sum_none : (n : ℕ) (f : Channel → ℕ) → ((o : Channel) → f o ≡ 0) → sum_channels n f ≡ 0
unfolding sum_channels
sum_none n f e = sum_to_none n _ (λ c. omega (arith, e (Queued c), e (UpLink c), e (TurnLink c), e (DownLink c)))

sum_to-part : (n c : ℕ) (f : ℕ → ℕ) → c < n → f c ≤ sum_to n f
unfolding sum_to
sum_to-part zero c f h = absurd (not-suc-le-zero h)
sum_to-part (suc n) c f h =
    elim (ℕ_discrete c n) [
      | yes p ↦ rw p (omega arith)
      | no np ↦ let t = sum_to-part n c f (omega arith) in omega arith
    ]

-- each channel's share is part of the sum
pub sum-part : (n : ℕ) (o : Channel) (f : Channel → ℕ) → number o < n → f o ≤ sum_channels n f
unfolding sum_channels number
sum-part n (Queued c) f h = let t = sum_to-part n c (λ c. f (Queued c) + f (UpLink c) + f (TurnLink c) + f (DownLink c)) h in omega arith
sum-part n (UpLink c) f h = let t = sum_to-part n c (λ c. f (Queued c) + f (UpLink c) + f (TurnLink c) + f (DownLink c)) h in omega arith
sum-part n (TurnLink c) f h = let t = sum_to-part n c (λ c. f (Queued c) + f (UpLink c) + f (TurnLink c) + f (DownLink c)) h in omega arith
sum-part n (DownLink c) f h = let t = sum_to-part n c (λ c. f (Queued c) + f (UpLink c) + f (TurnLink c) + f (DownLink c)) h in omega arith

-- a sum that is not 0 has a share that is not 0
sum_to_some : (n : ℕ) (f : ℕ → ℕ) → 0 < sum_to n f → (j : ℕ) × (0 < f j)
unfolding sum_to
sum_to_some zero f h = absurd (not-suc-le-zero h)
sum_to_some (suc n) f h =
    elim (dec_lt 0 (f n)) [
      | yes p ↦ (n, p)
      | no np ↦ sum_to_some n f (omega arith)
    ]

pub sum_some : (n : ℕ) (f : Channel → ℕ) → 0 < sum_channels n f → (o : Channel) × (0 < f o)
unfolding sum_channels
sum_some n f h = pick (sum_to_some n (λ c. f (Queued c) + f (UpLink c) + f (TurnLink c) + f (DownLink c)) h)
  where
    pick : (c : ℕ) × (0 < f (Queued c) + f (UpLink c) + f (TurnLink c) + f (DownLink c)) → (o : Channel) × (0 < f o)
    pick (c, p) =
        elim (dec_lt 0 (f (Queued c))) [
          | yes a ↦ (Queued c, a)
          | no na ↦
              elim (dec_lt 0 (f (UpLink c))) [
                | yes b ↦ (UpLink c, b)
                | no nb ↦ elim (dec_lt 0 (f (TurnLink c))) [ yes d ↦ (TurnLink c, d) | no nd ↦ (DownLink c, omega arith) ]
              ]
        ]
