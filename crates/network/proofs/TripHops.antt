-- The hops of a packet, by its route.
use Rattle.std.proofs.Common.{◌≡◌, ℕ, ◌+◌, ◌*◌, ◌/◌, ◌%◌, ◌^◌, ◌<◌, true, eqb, List, [], ◌∷◌, ◌++◌, length, Some, refl, ap, arith}
use Rattle.network.proofs.Basics.{next_not}
use Rattle.packet.specs.Heads.{floods}
use Rattle.packet.specs.Routes.{route_width, stops}
use Rattle.wiring.specs.Shapes.{Shape}
use Rattle.network.specs.Nodes.{card_of, up}
use Rattle.network.specs.Sums.{sum_over}
use Rattle.network.proofs.Channels.{Rooted}
use Rattle.network.proofs.History.{ends, hops, is_packet, one}
use Rattle.network.proofs.UnderWay.{along, waiting, weight}
use Rattle.network.proofs.HistoryLaws.{ends_parts, packet_parts}
use Rattle.network.proofs.Trip.{reached, trip}
use Rattle.network.proofs.TripWeights.{trip-weight}
use Rattle.network.proofs.Ranks.{rank}

-- the head once its route is used up
unfoldable pub stop_head : ℕ → ℕ
stop_head h = h / 2 ^ route_width * 2 ^ route_width

pub stop_stops : (h : ℕ) → stops (stop_head h) ≡ true
unfolding stops stop_head
stop_stops h = let e : (2 * (h / 2 ^ route_width * 2 ^ route_width)) % 2 ^ route_width ≡ 0 = omega arith in rw e

pub stop_flood : (h : ℕ) → floods (stop_head h) ≡ floods h
unfolding floods stop_head
stop_flood h = let e : (h / 2 ^ route_width * 2 ^ route_width) / 2 ^ 29 ≡ h / 2 ^ 29 = omega arith in ap (λ (n : ℕ). eqb (n % 2) 1) e

pub ones : {A : Type 0} (xs : List A) → sum_over xs (λ d. 1) ≡ length xs
unfolding sum_over
ones [] = refl
ones (x ∷ xs) = let t = ones xs in omega arith

along_same : (g : List ℕ → ℕ) (v h : ℕ) → ((q : List ℕ) → g (h ∷ q) ≡ v) → (q ws : List ℕ) → ends ws ≡ true → along g (h ∷ q) ws ≡ length ws * v
unfolding along ends
along_same g v h e q [] p = absurd (grind arith)
along_same g v h e q (w ∷ []) p = let a = e (q ++ (w ∷ [])) in omega arith
along_same g v h e q (w ∷ x ∷ ws) p =
    let (t, n, f) = ends_parts w x ws p in
    let r = along_same g v h e (q ++ (w ∷ [])) (x ∷ ws) f in
    let a = e (q ++ (w ∷ [])) in
    rw (next_not (h ∷ q) w t) (omega arith)

-- a packet's hops: its words times the stations before the terminus and the cards reached
pub path_hops_lem : (W : Shape) → Rooted W → (c h n t : ℕ) (ws : List ℕ) → c < W.cards → is_packet (h ∷ ws) ≡ true → trip W (2 * W.cards) (up c) h ≡ Some (n, t) →
    hops one W (c, h ∷ ws) ≡ length (h ∷ ws) * (n + length (reached W h t))
unfolding hops waiting along is_packet reached card_of rank
path_hops_lem W L c h n t ws hc hp e =
    let (i, nt, f) = packet_parts h ws hp in
    let v : ℕ = n + length (reached W h t) in
    let each : (q : List ℕ) → weight one W (2 * W.cards) (up c) (h ∷ q) ≡ v = λ q.
    let a = trip-weight W one q (λ d g h a b c. refl) L 1 ((λ c h. refl), (λ c h s. refl)) (stop_head h) (stop_stops h) (2 * W.cards) (up c) h n t (stop_flood h) hc (omega arith) e in
    let b = ones (reached W (stop_head h) t) in
    let d : length (reached W (stop_head h) t) ≡ length (reached W h t) = rw stop_flood in
    omega arith in
    let r = along_same (weight one W (2 * W.cards) (up c)) v h each [] ws f in
    let z = each [] in
    rw (next_not [] h nt) (omega arith)
