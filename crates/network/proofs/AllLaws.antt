-- The three laws, for every run of the machine.
use Rattle.std.proofs.Common.{◌≡◌, ℕ, zero, suc, ◌+◌, ◌*◌, ◌<◌, Bool, true, false, cond, ◌&&◌, eqb, List, [], ◌∷◌, ◌++◌, length, Some, None, Ok, Option, Result, sym, refl, ap, ◌∙◌, ap₂, arith, eq-eqb, ne_eqb}
use Rattle.std.proofs.lemmas.Bool.{and_parts}
use native.Mathlib.Decide.{ℕ_discrete}
use Rattle.refusal.specs.declared.send.RouteFault.{RouteFault}
use Rattle.packet.proofs.Moving.{stamp_tail}
use Rattle.packet.specs.Heads.{floods, mode_of}
use Rattle.packet.specs.Routes.{route_bits, ups_of}
use Rattle.packet.specs.declared.heads.Mode.TheVariants.{Flood, Target}
use Rattle.packet.specs.declared.sides.Side.{Side}
use Rattle.wiring.specs.Shapes.{Shape}
use Rattle.licence.specs.declared.verdict.Verdict.{Verdict}
use Rattle.licence.specs.declared.verdict.Verdict.TheVariants.{Class, Refuse}
use Rattle.routing.specs.Subtrees.{covers, reach, subtree_size}
use Rattle.routing.specs.Walks.{climb, descend, from_daughter, from_parent}
use Rattle.routing.specs.declared.walks.Walk.{Walk}
use Rattle.station.specs.Plans.{Verdicts, accepted}
use Rattle.network.specs.Arrivals.{Parcel, arrives_as, hops_by, hops_of, is_arrival, reaches, reaches_by, reaches_from}
use Rattle.network.specs.Cards.{State}
use Rattle.network.specs.Laws.{Delivery, EveryCall, Hops, Laws, ThreeLaws, words_at}
use Rattle.network.specs.Owed.{hops_owed}
use Rattle.network.specs.Runs.{Call, Run, fire, next, onward, owed, run, run_from, send, start, take}
use Rattle.network.specs.Sums.{count, same_words, sum_over}
use Rattle.network.proofs.Basics.{sum_to_same}
use Rattle.network.proofs.Channels.{Rooted, rooted}
use Rattle.network.proofs.Exact.{SentFrom, exact_law, path_law, run_sent}
use Rattle.network.proofs.Flow.{load}
use Rattle.network.proofs.History.{Event, History, as_arrived, brought, brought_by, ends, is_packet, last_tail, one, past, whole_as, with_class, words}
use Rattle.network.proofs.UnderWay.{along, mark, rest}
use Rattle.network.proofs.OwedLoad.{owed_load}
use Rattle.network.proofs.Cutting.{count_all, joined_all, no_tail, parcels, whole_all}
use Rattle.network.proofs.TripHops.{ones}
use Rattle.network.proofs.HistoryLaws.{run_good, ends_parts, packet_parts}
use Rattle.network.proofs.Ready.{goes_on}
use Rattle.network.proofs.Trip.{reached, subtree, trip_hops, trip_hops_by, way}
use Rattle.network.proofs.Sendings.{Reads, reads-trip}
use Rattle.network.proofs.Simulate.{History-of, follows}
use Rattle.network.proofs.SubtreeSums.{count-sum, subtree-sum, sum_to_point}
use Rattle.network.proofs.TripsRead.{downward_way}
use Rattle.network.proofs.Outputs.{all_map, sum_over_same}

-- all cards of a way are of the tree
climb-known : (W : Shape) → Rooted W → (a c u : ℕ) → c < W.cards → climb W a c ≡ Some u → u < W.cards
unfolding climb
climb-known W L zero c u h e = let z : c ≡ u = cc in rw (← z) h
climb-known W L (suc a) c u h e = ways (W.parent c) refl e (λ p l f. climb-known W L a p u l f)
  where
    ways : (o : Option (ℕ × Side)) → W.parent c ≡ o → from_parent (climb W a) o ≡ Some u → ((p : ℕ) → p < W.cards → climb W a p ≡ Some u → u < W.cards) → u < W.cards
    ways None q e rec = absurd (grind arith)
    ways (Some (p, b)) q e rec = let l = L.lawful.below c p b q in rec p (omega arith) e

descend-known : (W : Shape) → Rooted W → (bs : List Side) (c t : ℕ) → c < W.cards → descend W bs c ≡ Ok t → t < W.cards
unfolding descend
descend-known W L [] c t h e = let z : c ≡ t = cc in rw (← z) h
descend-known W L (b ∷ bs) c t h e = ways (W.daughter b c) refl e (λ d l f. descend-known W L bs d t l f)
  where
    ways : (o : Option ℕ) → W.daughter b c ≡ o → from_daughter c (descend W bs) o ≡ Ok t → ((d : ℕ) → d < W.cards → descend W bs d ≡ Ok t → t < W.cards) → t < W.cards
    ways None q e rec = absurd (grind arith)
    ways (Some d) q e rec = rec d (L.below d c (L.up b c d q)).1 e

mode_is : (h : ℕ) → mode_of h ≡ cond (floods h) Flood Target
unfolding floods
mode_is h = refl

module _ (W : Shape) (L : Rooted W) where
  module _ (c h : ℕ) (hc : c < W.cards) (r : Reads W L c h) where
    end_known : r.terminus < W.cards
    end_known = descend-known W L (downward_way W L (route_bits h)) r.top r.terminus (climb-known W L (ups_of (route_bits h)) c r.top hc r.climbs) r.descends

    -- the cards that are reached are as many as the terminus's subtree has, or one
    reach-count : length (reached W h r.terminus) ≡ reach W (mode_of h) r.terminus
    unfolding reached subtree_size
    reach-count = rw (mode_is h) (ways (floods h))
      where
        ways : (b : Bool) → length (cond b (subtree W W.cards r.terminus) (r.terminus ∷ [])) ≡ reach W (cond b Flood Target) r.terminus
        ways true =
            let s = subtree-sum W L (λ d. 1) W.cards r.terminus end_known (omega arith) in
            let o = ones (subtree W W.cards r.terminus) in
            let k = count-sum W.cards (covers W r.terminus) in
            omega arith
        ways false = refl

    hops_is : (ws : List ℕ) → trip_hops W (c, h ∷ ws) ≡ hops_of W (c, h ∷ ws)
    unfolding trip_hops trip_hops_by way hops_of hops_by
    hops_is ws =
        ap (trip_hops_by W (h ∷ ws)) (reads-trip W L c h hc r)
        ∙ ap (λ (n : ℕ). length (h ∷ ws) * (ups_of (route_bits h) + 1 + length (downward_way W L (route_bits h)) + n)) reach-count
        ∙ sym (ap (hops_by W (mode_of h) (length (h ∷ ws))) r.walked)

    -- the sum over the cards reached, of a function that is 0 but at d
    reach_is : (d v : ℕ) → d < W.cards → sum_over (reached W h r.terminus) (λ e. cond (eqb e d) v 0) ≡ cond (reaches W c h d) v 0
    unfolding reached reaches reaches_by sum_over
    reach_is d v hd = ways (floods h) ∙ sym (rw (mode_is h) (ap (λ (m : Result Walk RouteFault). cond (reaches_by W (cond (floods h) Flood Target) d m) v 0) r.walked))
      where
        flip : (e : ℕ) → cond (covers W r.terminus e) (cond (eqb e d) v 0) 0 ≡ cond (eqb d e) (cond (covers W r.terminus e) v 0) 0
        flip e =
            elim (ℕ_discrete e d) [
              | yes p ↦ rw (eq-eqb e d p, eq-eqb d e (sym p))
              | no n ↦ rw (ne_eqb e d n, ne_eqb d e (λ p. n (sym p))) (zero_either (covers W r.terminus e))
            ]
          where
            zero_either : (b : Bool) → cond {A = ℕ} b 0 0 ≡ 0
            zero_either true = refl
            zero_either false = refl

        ways : (b : Bool) → sum_over (cond b (subtree W W.cards r.terminus) (r.terminus ∷ [])) (λ e. cond (eqb e d) v 0) ≡ cond (reaches_from W (cond b Flood Target) r.terminus d) v 0
        ways true =
            subtree-sum W L (λ e. cond (eqb e d) v 0) W.cards r.terminus end_known (omega arith)
            ∙ sum_to_same W.cards _ (λ e. cond (eqb d e) (cond (covers W r.terminus e) v 0) 0) (λ e l. flip e)
            ∙ sum_to_point W.cards d (λ e. cond (covers W r.terminus e) v 0) hd
        ways false = omega arith

-- the words after the head of a packet end in a tail, and so do the marked ones
ends_last : (w : ℕ) (ws : List ℕ) → ends (w ∷ ws) ≡ true → last_tail (w ∷ ws) ≡ true
unfolding ends last_tail
ends_last w [] e = (and_parts _ _ e).0
ends_last w (v ∷ ws) e = ends_last v ws (ends_parts w v ws e).2

marked_last : (k v : ℕ) (ws : List ℕ) → ends (k ∷ ws) ≡ true → last_tail (mark k (Class v) ++ ws) ≡ true
unfolding mark last_tail
marked_last k v [] e = stamp_tail k v ∙ ends_last k [] e
marked_last k v (w ∷ ws) e = ends_last k (w ∷ ws) e

whole_is : (P : Verdicts) (d h k : ℕ) (ws l : List ℕ) → ends (k ∷ ws) ≡ true → whole_as l (as_arrived P d h (k ∷ ws)) ≡ cond (is_arrival l k ws (accepted P d h k)) 1 0
unfolding whole_as as_arrived with_class is_arrival last_tail mark
whole_is P d h k ws l e = ways (accepted P d h k)
  where
    ways : (o : Verdict) → cond {A = ℕ} (last_tail (with_class k ws o) && same_words (with_class k ws o) l) 1 0 ≡ cond (is_arrival l k ws o) 1 0
    ways Refuse = refl
    ways (Class v) = rw (marked_last k v ws e)

cond_and : (a b : Bool) → cond {A = ℕ} a (cond b 1 0) 0 ≡ cond (a && b) 1 0
cond_and true b = refl
cond_and false b = refl

module _ (W : Shape) (L : Rooted W) (P : Verdicts) where
  path_is : (m : Parcel) → SentFrom W L m → trip_hops W m ≡ hops_of W m
  unfolding is_packet
  path_is (c, []) s = absurd (let z = s.packet in grind arith)
  path_is (c, h ∷ ws) s = hops_is W L c h s.known (s.route h ws refl) ws

  brought_is : (d : ℕ) → d < W.cards → (l : List ℕ) (m : Parcel) → SentFrom W L m → brought W P d l m ≡ cond (arrives_as W P d l m) 1 0
  unfolding is_packet ends brought brought_by way arrives_as
  brought_is d hd l (c, []) s = absurd (let z = s.packet in grind arith)
  brought_is d hd l (c, h ∷ []) s = absurd (let z = (packet_parts h [] s.packet).2 in grind arith)
  brought_is d hd l (c, h ∷ k ∷ ws) s =
      let r = s.route h (k ∷ ws) refl in
      let e = (packet_parts h (k ∷ ws) s.packet).2 in
      ap (brought_by W P d l (h ∷ k ∷ ws)) (reads-trip W L c h s.known r)
      ∙ reach_is W L c h s.known r d (whole_as l (as_arrived P d h (k ∷ ws))) hd
      ∙ ap (λ (n : ℕ). cond (reaches W c h d) n 0) (whole_is P d h k ws l e)
      ∙ cond_and (reaches W c h d) (is_arrival l k ws (accepted P d h k))

  module _ (r : Run) (H : History-of W L P r) where
    abbrev js : List Event
    js = H.events

    abbrev hist : History
    hist = past W P js

    owed_is : hops_owed W r.tree ≡ load one W hist.flow
    owed_is = owed_load W P r.tree hist.flow H.same.match (run_good W L P js)

    hops-holds : Hops W r
    hops-holds =
        ap₂ (λ (m n : ℕ). m + n) owed_is H.same.moves
        ∙ path_law W L P js
        ∙ sum_over_same (trip_hops W) (hops_of W) hist.sent (all_map (SentFrom W L) _ path_is hist.sent (run_sent W L P js))
        ∙ ap (λ (l : List Parcel). sum_over l (hops_of W)) (sym H.same.sends)

    words_are : (d : ℕ) → words hist.flow d ≡ words_at r d
    unfolding words_at
    words_are d = sym (ap₂ (λ (x y : List ℕ). x ++ y) (H.same.takes d) (H.same.match.inbox d))

    delivery_holds : Delivery W P r
    unfolding count no_tail
    delivery_holds z d hd =
        let e = exact_law W L P js (sym owed_is ∙ z) d in
        let u : List ℕ = words_at r d in
        record {
          arrivals = parcels [] u;
          words = joined_all u [] (ap (rest []) (sym (words_are d)) ∙ e.0);
          whole = whole_all u [] refl;
          exact = λ l.
              count_all l u []
              ∙ ap (along (whole_as l) []) (sym (words_are d))
              ∙ e.1 l
              ∙ sum_over_same (brought W P d l) (λ m. cond (arrives_as W P d l m) 1 0) hist.sent (all_map (SentFrom W L) _ (brought_is d hd l) hist.sent (run_sent W L P js))
              ∙ ap (λ (s : List Parcel). count (arrives_as W P d l) s) (sym H.same.sends);
        }

    pub laws : Laws W P r
    laws = record { hops = hops-holds; progress = goes_on W L P r H; delivery = delivery_holds }

pub three_laws : ThreeLaws
three_laws W L P ks = laws W (rooted W L) P (run W P ks) (follows W (rooted W L) P ks)

-- one call more
run_more : (W : Shape) (P : Verdicts) (r : Run) (ks : List Call) (k : Call) → run_from W P r (ks ++ (k ∷ [])) ≡ onward W P (run_from W P r ks) k
unfolding run_from
run_more W P r [] k = refl
run_more W P r (j ∷ ks) k = run_more W P (onward W P r j) ks k

onward_tree : (W : Shape) (P : Verdicts) (r : Run) (k : Call) → (onward W P r k).tree ≡ next W P r.tree k
unfolding onward
onward_tree W P r (send c p) = refl
onward_tree W P r (fire c t i) = refl
onward_tree W P r (take c) = refl
onward_tree W P r owed = refl

pub run-next : (W : Shape) (P : Verdicts) (ks : List Call) (k : Call) → run W P (ks ++ (k ∷ [])) ≡ onward W P (run W P ks) k
unfolding run
run-next W P ks k = run_more W P start ks k

pub every_call : EveryCall
every_call W L P x k ks e =
    (ap (λ (r : Run). r.tree) (run-next W P ks k) ∙ onward_tree W P (run W P ks) k ∙ ap (λ (z : State). next W P z k) e, three_laws W L P (ks ++ (k ∷ [])))
