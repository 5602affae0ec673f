-- What every history keeps: the invariant, the hops, progress.
use Rattle.std.proofs.Common.{◌≡◌, ℕ, ◌+◌, ◌*◌, ◌<◌, Bool, true, false, cond, not, ◌&&◌, ltb, ◌≢◌, ◌⊎◌, List, [], ◌∷◌, ◌++◌, length, Some, None, Option, sym, refl, ap, ◌∙◌, inl, inr, arith, ltb-true}
use Rattle.std.proofs.lemmas.Bool.{and_parts, and_from, not-true}
use mathlib.Core.Logic.{if_neg}
use Rattle.refusal.specs.declared.drive.FireFault.{FireFault}
use Rattle.refusal.specs.declared.drive.FireFault.TheVariants.{HeldByOther, NothingWaits, LinkOccupied}
use Rattle.packet.specs.Packets.{is_head_word, is_tail_word}
use Rattle.wiring.specs.Shapes.{Shape}
use Rattle.station.specs.Plans.{Verdicts}
use Rattle.station.specs.declared.channel.Channel.{Channel}
use Rattle.station.specs.declared.channel.Channel.TheVariants.{Queued}
use Rattle.network.specs.Nodes.{Node, number, target, up}
use Rattle.network.specs.Sums.{sum_over}
use Rattle.network.proofs.Basics.{along-append, put_other, put_same, rest-append, shape-append, sum_none, sum_some, sum_channels-at, next_end, next_not}
use Rattle.network.proofs.Channels.{Rooted, channel_discrete}
use Rattle.network.proofs.Conserve.{Distinct, pass-load}
use Rattle.network.proofs.Flow.{Flow, admits, fired, fired_by, fits, is_empty, load, pass, refusal, refusal_at, refusal_by, shape, all_clear}
use Rattle.network.proofs.History.{Event, History, HistoryHops, HistoryProgress, ends, happens, hops, is_none, is_packet, moving, none_yet, one, past, queued, queueing, resting, sendable, step_fire, step_send, taking, took_by}
use Rattle.network.proofs.Invariant.{Inv, feeder, sending, sending_from}
use Rattle.network.proofs.UnderWay.{along, outs_of, rest, waiting}
use Rattle.network.proofs.Preserve.{all_send, inv_kept, known', shaped'}
use Rattle.network.proofs.Progress.{full}
use Rattle.network.proofs.TripWeights.{sum_over-append}
use Rattle.network.proofs.Sendings.{IsSent, sent_is}
use Rattle.network.proofs.Feeders.{outs_distinct}

pub record Good (W : Shape) (x : Flow) : Type 0 where
  pub inv : Inv W x
  pub shaped : (o : Channel) → shape (x.passed o) (x.chan o) ≡ true
  pub known : (o : Channel) (w : ℕ) (ws : List ℕ) → x.chan o ≡ w ∷ ws → number o < W.cards

-- a body with the words after it, and a head with the words after it
pub ends_parts : (w v : ℕ) (ws : List ℕ) → ends (w ∷ v ∷ ws) ≡ true → (is_tail_word w ≡ false) × (not (is_head_word w) ≡ true) × (ends (v ∷ ws) ≡ true)
unfolding ends
ends_parts w v ws e =
    let (s, r) = and_parts (not (is_tail_word w) && not (is_head_word w)) _ e in
    let (t, h) = and_parts (not (is_tail_word w)) _ s in
    (not-true _ t, h, r)

pub packet_parts : (h : ℕ) (ws : List ℕ) → is_packet (h ∷ ws) ≡ true → (is_head_word h ≡ true) × (is_tail_word h ≡ false) × (ends ws ≡ true)
unfolding is_packet
packet_parts h ws e =
    let (s, r) = and_parts (is_head_word h && not (is_tail_word h)) _ e in
    let (i, t) = and_parts (is_head_word h) _ s in
    (i, not-true _ t, r)

-- the tests that a fire has passed that is not refused
pub unrefused : (f a b : Bool) (k : Option FireFault) →
    cond (not f) (Some NothingWaits) (cond (not a) (Some HeldByOther) (cond (not b) (Some LinkOccupied) k)) ≡ None → (a ≡ true) × (b ≡ true) × (k ≡ None)
unrefused true true true k e = (refl, refl, e)
unrefused true true false k e = absurd (grind arith)
unrefused true false b k e = absurd (grind arith)
unrefused false a b k e = absurd (grind arith)

pub none_is : (r : Option FireFault) → is_none r ≡ true → r ≡ None
unfolding is_none
none_is None e = refl
none_is (Some r) e = absurd (grind arith)

ends-rest : (h : ℕ) (q ws : List ℕ) → ends ws ≡ true → (rest (h ∷ q) ws ≡ []) × (shape (h ∷ q) ws ≡ true)
unfolding ends rest shape fits
ends-rest h q [] e = absurd (grind arith)
ends-rest h q (w ∷ []) e = (next_end (h ∷ q) w (and_parts _ _ e).0, and_from _ _ (and_parts (is_tail_word w) _ e).1 refl)
ends-rest h q (w ∷ v ∷ ws) e =
    let (t, n, f) = ends_parts w v ws e in
    let r = ends-rest h (q ++ (w ∷ [])) (v ∷ ws) f in
    rw (next_not (h ∷ q) w t) (r.0, and_from _ _ n r.1)

pub packet_rest : (p : List ℕ) → is_packet p ≡ true → (rest [] p ≡ []) × (shape [] p ≡ true)
unfolding is_packet rest shape fits
packet_rest [] e = absurd (grind arith)
packet_rest (h ∷ ws) e =
    let (i, t, f) = packet_parts h ws e in
    let r = ends-rest h [] ws f in
    rw (next_not [] h t) (r.0, and_from _ _ i r.1)

-- what a station sends goes by the words that have passed and by whom it is held for
sending_kept : (W : Shape) (x y : Flow) (o : Channel) → y.passed ≡ x.passed → y.source ≡ x.source → (t : Option Node) → sending W y o t ≡ sending W x o t
unfolding sending sending_from
sending_kept W x y o p s None = refl
sending_kept W x y o p s (Some n) = rw s (ways (x.source n))
  where
    ways : (k : Option Channel) → sending_from W y o n k ≡ sending_from W x o n k
    ways None = refl
    ways (Some k) = rw p

module _ (W : Shape) (L : Rooted W) (P : Verdicts) where
  -- send
  module _ (x : Flow) (G : Good W x) (c : ℕ) (p : List ℕ) (hc : c < W.cards) (hp : is_packet p ≡ true) where
    abbrev y : Flow
    y = queued x c p

    at : y.chan (Queued c) ≡ x.chan (Queued c) ++ p
    unfolding queued
    at = put_same channel_discrete x.chan (Queued c) (x.chan (Queued c) ++ p)

    out : (o : Channel) → o ≢ Queued c → y.chan o ≡ x.chan o
    unfolding queued
    out o n = put_other channel_discrete x.chan (Queued c) (x.chan (Queued c) ++ p) o n

    whole : rest (x.passed (Queued c)) (x.chan (Queued c)) ≡ []
    unfolding feeder sending
    whole = G.inv.links (Queued c)

    pub queued-load : (f : Node → List ℕ → ℕ) → load f W y ≡ load f W x + hops f W (c, p)
    unfolding load hops waiting queued number target
    queued-load f =
        let k : ℕ = 2 * W.cards in
        let s = sum_channels-at W.cards (Queued c) (λ o. waiting f W k (target W o) (y.passed o) (y.chan o)) (λ o. waiting f W k (target W o) (x.passed o) (x.chan o)) hc (λ j n. rw (out j n)) in
        let t : waiting f W k (up c) (y.passed (Queued c)) (y.chan (Queued c)) ≡ waiting f W k (up c) (x.passed (Queued c)) (x.chan (Queued c)) + waiting f W k (up c) [] p =
        rw at (rw along-append (rw whole)) in
        omega arith

    pub queued_good : Good W y
    unfolding queued number feeder sending
    queued_good =
        record {
          inv = record { quiet = G.inv.quiet; home = G.inv.home; begun = G.inv.begun; links = links };
          shaped = shaped;
          known = known;
        }
      where
        links : (o : Channel) → rest (y.passed o) (y.chan o) ≡ sending W y o (feeder W o)
        links o =
            elim (channel_discrete o (Queued c)) [
              | yes e ↦ rw (e, at, rest-append, whole) (packet_rest p hp).0
              | no n ↦ rw (out o n) (G.inv.links o ∙ sym (sending_kept W x y o refl refl (feeder W o)))
            ]

        shaped : (o : Channel) → shape (y.passed o) (y.chan o) ≡ true
        shaped o =
            elim (channel_discrete o (Queued c)) [
              | yes e ↦ rw (e, at) (shape-append (x.passed (Queued c)) (x.chan (Queued c)) p (G.shaped (Queued c)) (rw whole (packet_rest p hp).1))
              | no n ↦ rw (out o n) (G.shaped o)
            ]

        known : (o : Channel) (w : ℕ) (ws : List ℕ) → y.chan o ≡ w ∷ ws → number o < W.cards
        known o w ws e =
            elim (channel_discrete o (Queued c)) [
              | yes q ↦ rw q hc
              | no n ↦ G.known o w ws (sym (out o n) ∙ e)
            ]

  -- take
  took_good : (x : Flow) (c : ℕ) (l : List ℕ) → Good W x → Good W (took_by x c l)
  unfolding took_by
  took_good x c [] G = G
  took_good x c (w ∷ ws) G =
      record {
        inv = record { quiet = G.inv.quiet; home = G.inv.home; begun = G.inv.begun; links = λ o. G.inv.links o ∙ sym (sending_kept W x (took_by x c (w ∷ ws)) o refl refl (feeder W o)) };
        shaped = G.shaped;
        known = G.known;
      }

  pub took_load : (f : Node → List ℕ → ℕ) (x : Flow) (c : ℕ) (l : List ℕ) → load f W (took_by x c l) ≡ load f W x
  unfolding took_by load
  took_load f x c [] = refl
  took_load f x c (w ∷ ws) = refl

  -- a granted fire
  pub record Granted (x : Flow) (i : Channel) : Type 0 where
    pub w : ℕ
    pub ws : List ℕ
    pub front : x.chan i ≡ w ∷ ws
    pub takes : (x.source (target W i) ≡ None) ⊎ (x.source (target W i) ≡ Some i)
    pub result : fired W P x i ≡ pass W P x i (target W i) (x.passed i) w ws

  pub admitted : (k : Option Channel) (i : Channel) → admits k i ≡ true → (k ≡ None) ⊎ (k ≡ Some i)
  unfolding admits
  admitted None i e = inl refl
  admitted (Some j) i e =
      elim (channel_discrete i j) [
        | yes p ↦ inr (ap Some (sym p))
        | no n ↦ absurd (let z = if_neg (channel_discrete i j) n true false in grind arith)
      ]

  pub granted : (x : Flow) (i : Channel) → refusal W P x i ≡ None → Granted x i
  unfolding refusal refusal_by refusal_at fired fired_by
  granted x i e = ways (x.chan i) refl
    where
      ways : (l : List ℕ) → x.chan i ≡ l → Granted x i
      ways [] f = absurd (let z : refusal_by W P x i [] ≡ None = sym (ap (refusal_by W P x i) f) ∙ e in grind arith)
      ways (w ∷ ws) f =
          let z : refusal_by W P x i (w ∷ ws) ≡ None = sym (ap (refusal_by W P x i) f) ∙ e in
          let a = (unrefused (fits (x.passed i) w) (admits (x.source (target W i)) i) (all_clear x.chan (outs_of W (target W i) (x.passed i ++ (w ∷ [])))) _ z).0 in
          record { w = w; ws = ws; front = f; takes = admitted (x.source (target W i)) i a; result = rw (f, z) }

  pub outs_of_distinct : (s : Node) (q : List ℕ) → Distinct (outs_of W s q)
  unfolding outs_of
  outs_of_distinct s [] = tt
  outs_of_distinct s (h ∷ q) = outs_distinct W L s h

  pub fired_good : (x : Flow) (i : Channel) → Good W x → number i < W.cards → Granted x i → Good W (fired W P x i)
  fired_good x i G h g =
      let d = outs_of_distinct (target W i) (x.passed i ++ (g.w ∷ [])) in
      rw g.result
      (record {
        inv = inv_kept W L P x G.inv i g.w g.ws h g.front g.takes d;
        shaped = shaped' W L P x G.inv i g.w g.ws h g.front g.takes d G.shaped;
        known = known' W L P x G.inv i g.w g.ws h g.front g.takes G.known;
      })

  pub fired-load : (f : Node → List ℕ → ℕ) (x : Flow) (i : Channel) → Good W x → number i < W.cards → (g : Granted x i) →
      load f W (fired W P x i) + f (target W i) (x.passed i ++ (g.w ∷ [])) ≡ load f W x
  fired-load f x i G h g =
      rw g.result
      (pass-load f W L P x i g.w g.ws h g.front (outs_of_distinct (target W i) (x.passed i ++ (g.w ∷ [])))
      (all_send W L P x G.inv i g.w g.ws h g.front g.takes))

  empty_good : Good W none_yet.flow
  unfolding rest shape sending sending_from
  empty_good =
      record {
        inv = record { quiet = λ i n. refl; home = λ s j e. absurd (grind arith); begun = λ s j e. absurd (grind arith); links = λ o. nothing o (feeder W o) };
        shaped = λ o. refl;
        known = λ o w ws e. absurd (grind arith);
      }
    where
      nothing : (o : Channel) (t : Option Node) → [] ≡ sending W none_yet.flow o t
      nothing o None = refl
      nothing o (Some s) = refl

  -- what a granted send and a granted fire are
  pub sendable_is : (x : Flow) (c : ℕ) (p : List ℕ) → sendable W x c p ≡ true → IsSent W L c p
  unfolding sendable
  sendable_is x c p e = sent_is W L (length (x.chan (Queued c))) c p e

  -- what the first history has, and each granted send, each granted fire and each take keeps, every history has
  pub kept : (Q : History → Type 0) → Q none_yet →
      ((ks : List Event) (c : ℕ) (p : List ℕ) → sendable W (past W P ks).flow c p ≡ true → Q (past W P ks) → Q (step_send (past W P ks) c p true)) →
      ((ks : List Event) (i : Channel) → number i < W.cards → refusal W P (past W P ks).flow i ≡ None → Q (past W P ks) → Q (step_fire W P (past W P ks) i true)) →
      ((ks : List Event) (c : ℕ) → Q (past W P ks) → Q (happens W P (taking c) (past W P ks))) → (ks : List Event) → Q (past W P ks)
  unfolding past happens step_send step_fire
  kept Q start send fire take [] = start
  kept Q start send fire take (k ∷ ks) = step k (kept Q start send fire take ks)
    where
      step : (k : Event) → Q (past W P ks) → Q (happens W P k (past W P ks))
      step (queueing c p) q = ways (sendable W (past W P ks).flow c p) refl
        where
          ways : (b : Bool) → sendable W (past W P ks).flow c p ≡ b → Q (step_send (past W P ks) c p b)
          ways true e = send ks c p e q
          ways false e = q
      step (moving i) q = ways (ltb (number i) W.cards && is_none (refusal W P (past W P ks).flow i)) refl
        where
          ways : (b : Bool) → ltb (number i) W.cards && is_none (refusal W P (past W P ks).flow i) ≡ b → Q (step_fire W P (past W P ks) i b)
          ways true e =
              let (n, r) = and_parts (ltb (number i) W.cards) _ e in
              fire ks i (ltb-true (number i) W.cards n) (none_is (refusal W P (past W P ks).flow i) r) q
          ways false e = q
      step (taking c) q = take ks c q
      step resting q = q

  pub run_good : (ks : List Event) → Good W (past W P ks).flow
  unfolding happens step_send step_fire
  run_good =
      kept (λ h. Good W h.flow) empty_good
      (λ ks c p e G. let s = sendable_is (past W P ks).flow c p e in queued_good (past W P ks).flow G c p s.known s.packet)
      (λ ks i n r G. fired_good (past W P ks).flow i G n (granted (past W P ks).flow i r))
      (λ ks c G. took_good (past W P ks).flow c ((past W P ks).flow.inbox c) G)

  pub empty-load : (f : Node → List ℕ → ℕ) → load f W none_yet.flow ≡ 0
  unfolding load waiting along
  empty-load f = sum_none W.cards _ (λ o. refl)

pub hops_law : HistoryHops
unfolding happens step_send step_fire sum_over
hops_law W L P =
    kept W L P (λ h. load one W h.flow + h.fires ≡ sum_over h.sent (hops one W)) (omega (arith, empty-load W L P one))
    (λ ks c p e a.
    let s = sendable_is W L P (past W P ks).flow c p e in
    let t = queued-load W L P (past W P ks).flow (run_good W L P ks) c p s.known s.packet one in
    let u = sum_over-append (hops one W) (past W P ks).sent ((c, p) ∷ []) in
    omega arith)
    (λ ks i n r a. let t = fired-load W L P one (past W P ks).flow i (run_good W L P ks) n (granted W L P (past W P ks).flow i r) in omega arith)
    (λ ks c a. let t = took_load W L P one (past W P ks).flow c ((past W P ks).flow.inbox c) in omega arith)

waits : (f : Node → List ℕ → ℕ) (W : Shape) (k : ℕ) (s : Node) (q l : List ℕ) → 0 < waiting f W k s q l → is_empty l ≡ false
unfolding waiting along is_empty
waits f W k s q [] h = absurd (omega arith)
waits f W k s q (w ∷ ws) h = refl

pub progress_law : HistoryProgress
unfolding load
progress_law W L P ks h =
    let G = run_good W L P ks in
    let x : Flow = (past W P ks).flow in
    let (o, p) = sum_some W.cards (λ o. waiting one W (2 * W.cards) (target W o) (x.passed o) (x.chan o)) h in
    full W L P x G.inv G.shaped G.known o (waits one W (2 * W.cards) (target W o) (x.passed o) (x.chan o) p)
