-- A packet arrives once at each card that it reaches and that accepts it.
use Rattle.std.proofs.Common.{◌≡◌, ℕ, ◌*◌, ◌<◌, Bool, true, false, cond, List, [], ◌∷◌, ◌++◌, Some, refl, ap, ◌∙◌, ap₂, inl, inr, append_assoc, append-nil, arith}
use Rattle.network.proofs.Cutting.{last_tail_lem}
use Rattle.network.proofs.Basics.{next_not}
use mathlib.Core.Logic.{if_neg, if_pos, ite}
use Rattle.packet.specs.Heads.{floods}
use Rattle.packet.specs.Routes.{stops}
use Rattle.packet.specs.Packets.{is_tail_word}
use Rattle.wiring.specs.Shapes.{Shape}
use Rattle.station.specs.Plans.{Verdicts, accepted}
use Rattle.network.specs.Nodes.{Node, card_of, down, up}
use Rattle.network.specs.Sums.{sum_over}
use Rattle.network.proofs.Channels.{Rooted, node_discrete}
use Rattle.network.proofs.Delivery.{Brings, arrival-append, delivered, none_before, whole_as_nil}
use Rattle.network.proofs.History.{arrival, arrives, ends, hops, is_packet, whole_as}
use Rattle.network.proofs.UnderWay.{along, delivers, waiting, weight}
use Rattle.network.proofs.TripHops.{stop_flood, stop_stops, stop_head}
use Rattle.network.proofs.HistoryLaws.{ends_parts, packet_parts}
use Rattle.network.proofs.Trip.{reached, subtree, trip}
use Rattle.network.proofs.TripWeights.{trip-weight}
use Rattle.network.proofs.Ranks.{rank}

sum_zero : {A : Type 0} (f : A → ℕ) (xs : List A) → ((a : A) → f a ≡ 0) → sum_over xs f ≡ 0
unfolding sum_over
sum_zero f [] e = refl
sum_zero f (x ∷ xs) e = let a = e x in let t = sum_zero f xs e in omega arith

-- heads that stop and flood alike deliver alike
module _ (P : Verdicts) (d g h : ℕ) (sg : stops g ≡ true) (sh : stops h ≡ true) (fl : floods g ≡ floods h) where
  verdict_alike : (k : ℕ) → accepted P d g k ≡ accepted P d h k
  verdict_alike k = rw fl

  delivers_alike : (r : List ℕ) (w : ℕ) → delivers P (down d) (g ∷ r) w ≡ delivers P (down d) (h ∷ r) w
  unfolding delivers
  delivers_alike [] w = rw (sg, sh, verdict_alike w)
  delivers_alike (k ∷ r) w = rw (sg, sh, verdict_alike k)

  later_alike : (r q : List ℕ) → arrival P (down d) (g ∷ r) q ≡ arrival P (down d) (h ∷ r) q
  unfolding arrival
  later_alike r [] = refl
  later_alike r (w ∷ q) = ap₂ (λ (x y : List ℕ). x ++ y) (delivers_alike r w) (later_alike (r ++ (w ∷ [])) q)

  arrival_alike : (q : List ℕ) → arrival P (down d) [] (g ∷ q) ≡ arrival P (down d) [] (h ∷ q)
  unfolding arrival delivers
  arrival_alike q = later_alike [] q

-- before the stop nothing is delivered
later-passing : (P : Verdicts) (c h : ℕ) → stops h ≡ false → (r q : List ℕ) → arrival P (down c) (h ∷ r) q ≡ []
unfolding arrival delivers
later-passing P c h s r [] = refl
later-passing P c h s [] (w ∷ q) = rw s (later-passing P c h s (w ∷ []) q)
later-passing P c h s (k ∷ r) (w ∷ q) = rw s (later-passing P c h s (k ∷ (r ++ (w ∷ []))) q)

-- an arrival is whole only with its tail
not_whole : (P : Verdicts) (s : Node) (q : List ℕ) (w : ℕ) (l : List ℕ) → is_tail_word w ≡ false → whole_as l (arrival P s [] (q ++ (w ∷ []))) ≡ 0
unfolding whole_as
not_whole P s q w l t = rw (arrival-append P s [] q w) (ways (delivers P s q w) refl (delivered P s q w))
  where
    ways : (m : List ℕ) → delivers P s q w ≡ m → Brings w m → whole_as l (arrival P s [] q ++ m) ≡ 0
    ways m e (inl n) = rw (n, append-nil, none_before P s q w (e ∙ n)) (whole_as_nil l)
    ways m e (inr (v, n, k)) = rw (n, last_tail_lem, k, t)

along_last : (g : List ℕ → ℕ) (h : ℕ) → ((q : List ℕ) (w : ℕ) → is_tail_word w ≡ false → g (h ∷ (q ++ (w ∷ []))) ≡ 0) → (q ws : List ℕ) → ends ws ≡ true →
    along g (h ∷ q) ws ≡ g (h ∷ (q ++ ws))
unfolding along ends
along_last g h e q [] p = absurd (grind arith)
along_last g h e q (w ∷ []) p = omega arith
along_last g h e q (w ∷ x ∷ ws) p =
    let (t, n, f) = ends_parts w x ws p in
    let r = along_last g h e (q ++ (w ∷ [])) (x ∷ ws) f in
    let a = e q w t in
    let b : g (h ∷ (q ++ (w ∷ []) ++ (x ∷ ws))) ≡ g (h ∷ (q ++ (w ∷ x ∷ ws))) = simp append_assoc in
    rw (next_not (h ∷ q) w t) (omega arith)

module _ (W : Shape) (L : Rooted W) (P : Verdicts) (d : ℕ) (l : List ℕ) where
  at_card_of : (e : ℕ) (q : List ℕ) → whole_as l (arrival P (down e) [] q) ≡ 0 → arrives P d l (down e) q ≡ 0
  unfolding arrives
  at_card_of e q z =
      elim (node_discrete (down e) (down d)) [
        | yes p ↦ if_pos (node_discrete (down e) (down d)) p (whole_as l (arrival P (down e) [] q)) 0 ∙ z
        | no n ↦ if_neg (node_discrete (down e) (down d)) n (whole_as l (arrival P (down e) [] q)) 0
      ]

  alike : (q : List ℕ) (e g h : ℕ) → stops g ≡ true → stops h ≡ true → floods g ≡ floods h → arrives P d l (down e) (g ∷ q) ≡ arrives P d l (down e) (h ∷ q)
  unfolding arrives
  alike q e g h sg sh fl = ap (λ (a : List ℕ). ite (node_discrete (down e) (down d)) (whole_as l a) 0) (arrival_alike P e g h sg sh fl q)

  on_up : (q : List ℕ) (c h : ℕ) → arrives P d l (up c) (h ∷ q) ≡ 0
  unfolding arrives
  on_up q c h = if_neg (node_discrete (up c) (down d)) (λ p. grind arith) (whole_as l (arrival P (up c) [] (h ∷ q))) 0

  on_down : (q : List ℕ) (c h : ℕ) → stops h ≡ false → arrives P d l (down c) (h ∷ q) ≡ 0
  unfolding arrival delivers
  on_down q c h s = at_card_of c (h ∷ q) (ap (whole_as l) (later-passing P c h s [] q) ∙ whole_as_nil l)

  module _ (c h n t : ℕ) (hc : c < W.cards) (e : trip W (2 * W.cards) (up c) h ≡ Some (n, t)) where
    each : (q : List ℕ) → weight (arrives P d l) W (2 * W.cards) (up c) (h ∷ q) ≡ sum_over (reached W (stop_head h) t) (λ e. arrives P d l (down e) (stop_head h ∷ q))
    unfolding card_of rank
    each q =
        let a = trip-weight W (arrives P d l) q (alike q) L 0 (on_up q, on_down q) (stop_head h) (stop_stops h) (2 * W.cards) (up c) h n t (stop_flood h) hc (omega arith) e in
        omega arith

    zero_at : (q : List ℕ) (w : ℕ) → is_tail_word w ≡ false → weight (arrives P d l) W (2 * W.cards) (up c) (h ∷ (q ++ (w ∷ []))) ≡ 0
    zero_at q w tl = each (q ++ (w ∷ [])) ∙ sum_zero _ (reached W (stop_head h) t) (λ e. at_card_of e _ (not_whole P (down e) (stop_head h ∷ q) w l tl))

    zero_head : weight (arrives P d l) W (2 * W.cards) (up c) (h ∷ []) ≡ 0
    unfolding arrival delivers
    zero_head = each [] ∙ sum_zero _ (reached W (stop_head h) t) (λ e. at_card_of e (stop_head h ∷ []) (whole_as_nil l))

    -- what a packet brings to card d as l
    pub arrivals : (ws : List ℕ) → is_packet (h ∷ ws) ≡ true →
        hops (arrives P d l) W (c, h ∷ ws) ≡ sum_over (reached W h t) (λ e. arrives P d l (down e) (stop_head h ∷ ws))
    unfolding hops waiting along is_packet reached
    arrivals ws hp =
        let (i, nt, f) = packet_parts h ws hp in
        let r = along_last (weight (arrives P d l) W (2 * W.cards) (up c)) h zero_at [] ws f in
        let z = zero_head in
        let u : sum_over (reached W (stop_head h) t) (λ e. arrives P d l (down e) (stop_head h ∷ ws)) ≡ sum_over (reached W h t) (λ e. arrives P d l (down e) (stop_head h ∷ ws)) =
        ap (λ (b : Bool). sum_over (cond b (subtree W W.cards t) (t ∷ [])) (λ e. arrives P d l (down e) (stop_head h ∷ ws))) (stop_flood h) in
        let v = each ws in
        rw (next_not [] h nt) (omega arith)
