-- The hops and the deliveries of a history, in the terms of routes.
use Rattle.std.proofs.Common.{◌≡◌, ℕ, ◌*◌, true, cond, eqb, List, [], ◌∷◌, ◌++◌, Some, None, refl, ap, ◌∙◌, arith, eq-eqb, ne_eqb}
use Rattle.std.specs.List.{AllByRecursion}
use Rattle.network.specs.Sums.{sum_over}
use mathlib.Core.Path.{fun_ext}
use mathlib.Core.Logic.{if_neg, if_pos}
use Rattle.packet.specs.Heads.{floods}
use Rattle.packet.specs.Routes.{stops}
use Rattle.wiring.specs.Shapes.{Shape}
use Rattle.licence.specs.declared.verdict.Verdict.{Verdict}
use Rattle.licence.specs.declared.verdict.Verdict.TheVariants.{Class, Refuse}
use Rattle.station.specs.Plans.{Verdicts, accepted}
use Rattle.network.specs.Nodes.{down, up}
use Rattle.network.proofs.Arrivals.{arrivals}
use Rattle.network.proofs.Channels.{Rooted, node_discrete}
use Rattle.network.proofs.Delivery.{delivery_law, later_none}
use Rattle.network.proofs.History.{Event, HistoryExact, HistoryPathHops, arrival, arrives, as_arrived, brought, brought_by, happens, hops, one, past, step_fire, step_send, whole_as, with_class}
use Rattle.network.proofs.UnderWay.{delivers, mark, plain}
use Rattle.network.proofs.TripHops.{path_hops_lem, stop_flood, stop_stops, stop_head}
use Rattle.network.proofs.HistoryLaws.{hops_law, sendable_is, kept}
use Rattle.network.proofs.Trip.{Trip, is_way, reached, trip, trip_hops, trip_hops_by, way}
use Rattle.network.proofs.Sendings.{IsSent, sent_way}
use Rattle.network.proofs.Outputs.{all_append, all_map, sum_over_same}

-- a granted send
abbrev pub SentFrom : (W : Shape) → Rooted W → ℕ × List ℕ → Type 0
SentFrom W L m = IsSent W L m.0 m.1

module _ (W : Shape) (L : Rooted W) (P : Verdicts) where
  pub run_sent : (ks : List Event) → AllByRecursion (SentFrom W L) (past W P ks).sent
  unfolding happens step_send step_fire
  run_sent =
      kept W L P (λ h. AllByRecursion (SentFrom W L) h.sent) tt
      (λ ks c p e a. all_append (SentFrom W L) (past W P ks).sent ((c, p) ∷ []) a (sendable_is W L P (past W P ks).flow c p e, tt))
      (λ ks i n r a. a)
      (λ ks c a. a)

  one-hops : (m : ℕ × List ℕ) → SentFrom W L m → hops one W m ≡ trip_hops W m
  unfolding trip_hops trip_hops_by way is_way
  one-hops (c, []) s = absurd (let p = sent_way W L c [] s in grind arith)
  one-hops (c, h ∷ ws) s = ways (trip W (2 * W.cards) (up c) h) refl (sent_way W L c (h ∷ ws) s)
    where
      ways : (t : Trip) → trip W (2 * W.cards) (up c) h ≡ t → is_way t ≡ true → hops one W (c, h ∷ ws) ≡ trip_hops_by W (h ∷ ws) t
      ways None e p = absurd (grind arith)
      ways (Some (n, t)) e p = path_hops_lem W L c h n t ws s.known s.packet e

pub path_law : HistoryPathHops
path_law W L P ks = hops_law W L P ks ∙ sum_over_same (hops one W) (trip_hops W) (past W P ks).sent (all_map (SentFrom W L) _ (one-hops W L P) (past W P ks).sent (run_sent W L P ks))

-- past an accepted key word all words are delivered as they are
later_all : (P : Verdicts) (d g k v : ℕ) → stops g ≡ true → accepted P d g k ≡ Class v → (p r : List ℕ) → arrival P (down d) (g ∷ k ∷ p) r ≡ r
unfolding arrival delivers plain
later_all P d g k v s e p [] = refl
later_all P d g k v s e p (w ∷ r) = rw (s, e) (ap (λ (l : List ℕ). w ∷ l) (later_all P d g k v s e (p ++ (w ∷ [])) r))

arrived : (P : Verdicts) (d g : ℕ) (ws : List ℕ) → stops g ≡ true → arrival P (down d) [] (g ∷ ws) ≡ as_arrived P d g ws
unfolding arrival delivers as_arrived with_class mark plain
arrived P d g [] s = refl
arrived P d g (k ∷ ws) s = rw s (ways (accepted P d g k) refl)
  where
    ways : (o : Verdict) → accepted P d g k ≡ o → mark k o ++ arrival P (down d) (g ∷ k ∷ []) ws ≡ with_class k ws o
    ways Refuse e = later_none P d g k (λ v. rw (s, e)) [] ws
    ways (Class v) e = ap (λ (l : List ℕ). mark k (Class v) ++ l) (later_all P d g k v s e [] ws)

as_alike : (P : Verdicts) (d g h : ℕ) (ws : List ℕ) → floods g ≡ floods h → as_arrived P d g ws ≡ as_arrived P d h ws
unfolding as_arrived
as_alike P d g h [] e = refl
as_alike P d g h (k ∷ ws) e = rw e

at_card : (P : Verdicts) (d e h : ℕ) (l ws : List ℕ) → arrives P d l (down e) (stop_head h ∷ ws) ≡ cond (eqb e d) (whole_as l (as_arrived P d h ws)) 0
unfolding arrives
at_card P d e h l ws =
    elim (node_discrete (down e) (down d)) [
      | yes p ↦
          let q : e ≡ d = cc in
          if_pos (node_discrete (down e) (down d)) p (whole_as l (arrival P (down e) [] (stop_head h ∷ ws))) 0
          ∙ rw (q, arrived P d (stop_head h) ws (stop_stops h), as_alike P d (stop_head h) h ws (stop_flood h), eq-eqb d d refl)
      | no n ↦
          if_neg (node_discrete (down e) (down d)) n (whole_as l (arrival P (down e) [] (stop_head h ∷ ws))) 0
          ∙ rw (ne_eqb e d (λ q. n (ap down q)))
    ]

brings : (W : Shape) (L : Rooted W) (P : Verdicts) (d : ℕ) (l : List ℕ) (m : ℕ × List ℕ) → SentFrom W L m → hops (arrives P d l) W m ≡ brought W P d l m
unfolding brought brought_by way is_way
brings W L P d l (c, []) s = absurd (let p = sent_way W L c [] s in grind arith)
brings W L P d l (c, h ∷ ws) s = ways (trip W (2 * W.cards) (up c) h) refl (sent_way W L c (h ∷ ws) s)
  where
    ways : (t : Trip) → trip W (2 * W.cards) (up c) h ≡ t → is_way t ≡ true → hops (arrives P d l) W (c, h ∷ ws) ≡ brought_by W P d l (h ∷ ws) t
    ways None e p = absurd (grind arith)
    ways (Some (n, t)) e p =
        arrivals W L P d l c h n t s.known e ws s.packet ∙ ap (sum_over (reached W h t)) (fun_ext (λ e. at_card P d e h l ws))

pub exact_law : HistoryExact
exact_law W L P ks z d =
    let t = delivery_law W L P ks z d in
    (t.0, λ l. t.1 l ∙ sum_over_same (hops (arrives P d l) W) (brought W P d l) (past W P ks).sent (all_map (SentFrom W L) _ (brings W L P d l) (past W P ks).sent (run_sent W L P ks)))
