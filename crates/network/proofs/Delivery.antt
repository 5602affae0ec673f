-- The words of a card are the arrivals of the packets that reach it.
use Rattle.std.proofs.Common.{◌≡◌, ℕ, zero, suc, ◌+◌, ◌*◌, ◌<◌, ◌≤◌, Bool, true, false, cond, ◌≢◌, ◌⊎◌, List, [], ◌∷◌, ◌++◌, Some, None, Option, sym, refl, ap, ◌∙◌, inl, inr, append_assoc, append-nil, arith}
use mathlib.Core.Logic.{if_neg, if_pos}
use native.Mathlib.Decide.{ℕ_discrete}
use Rattle.refusal.specs.declared.drive.FireFault.TheVariants.{InboxFull}
use Rattle.packet.proofs.Moving.{stamp_tail}
use Rattle.packet.specs.Routes.{stops}
use Rattle.packet.specs.Packets.{is_tail_word}
use Rattle.wiring.specs.Shapes.{Shape}
use Rattle.licence.specs.declared.verdict.Verdict.{Verdict}
use Rattle.licence.specs.declared.verdict.Verdict.TheVariants.{Class, Refuse}
use Rattle.station.specs.Plans.{Verdicts, accepted}
use Rattle.station.specs.declared.channel.Channel.{Channel}
use Rattle.network.specs.Nodes.{Node, card_of, down, number, target, up}
use Rattle.network.specs.Sums.{sum_over}
use Rattle.network.proofs.Basics.{along_push, put-eq, put_other, rest_push, sum_none, sum-part, next_not}
use Rattle.network.proofs.Channels.{Rooted, node_discrete}
use Rattle.network.proofs.Flow.{Flow, fired, holder, load, pass, refusal, refusal_by}
use Rattle.network.proofs.History.{HistoryDelivery, Event, History, arrival, arrives, happens, hops, is_packet, last_tail, one, past, queued, step_fire, step_send, taking, took_by, whole_as, words}
use Rattle.network.proofs.UnderWay.{along, delivers, mark, next, plain, put, rest, waiting, weight}
use Rattle.network.proofs.Preserve.{holder_tail, passed-at, passed_out, source_at, source_out}
use Rattle.network.proofs.Progress.{down_held, front}
use Rattle.network.proofs.HistoryLaws.{Good, Granted, empty-load, fired-load, queued-load, run_good, sendable_is, took_load, kept, granted}
use Rattle.network.proofs.TripWeights.{sum_over-append}

abbrev pub Brings : ℕ → List ℕ → Type 0
Brings w l = (l ≡ []) ⊎ ((v : ℕ) × (l ≡ v ∷ []) × (is_tail_word v ≡ is_tail_word w))

pub delivered : (P : Verdicts) (s : Node) (q : List ℕ) (w : ℕ) → Brings w (delivers P s q w)
unfolding delivers mark plain
delivered P (up c) q w = inl refl
delivered P (down c) [] w = inl refl
delivered P (down c) (h ∷ []) w = ways (stops h) (accepted P c h w)
  where
    ways : (b : Bool) (o : Verdict) → Brings w (cond b (mark w o) [])
    ways true Refuse = inl refl
    ways true (Class v) = inr (_, refl, stamp_tail w v)
    ways false o = inl refl
delivered P (down c) (h ∷ k ∷ q) w = ways (stops h) (accepted P c h k)
  where
    ways : (b : Bool) (o : Verdict) → Brings w (cond b (plain w o) [])
    ways true Refuse = inl refl
    ways true (Class v) = inr (w, refl, refl)
    ways false o = inl refl

pub arrival-append : (P : Verdicts) (s : Node) (p q : List ℕ) (w : ℕ) → arrival P s p (q ++ (w ∷ [])) ≡ arrival P s p q ++ delivers P s (p ++ q) w
unfolding arrival
arrival-append P s p [] w = simp append-nil
arrival-append P s p (v ∷ q) w = rw (arrival-append P s (p ++ (v ∷ [])) q w) (simp append_assoc)

up_none : (P : Verdicts) (c : ℕ) (p q : List ℕ) → arrival P (up c) p q ≡ []
unfolding arrival delivers
up_none P c p [] = refl
up_none P c p (v ∷ q) = up_none P c (p ++ (v ∷ [])) q

dropped : (b : Bool) (o : Verdict) (w : ℕ) → cond b (plain w o) [] ≡ [] →
    ((v : ℕ) → cond b (plain v o) [] ≡ []) × ((v : ℕ) → cond b (mark v o) [] ≡ [])
unfolding plain mark
dropped true Refuse w e = (λ v. refl, λ v. refl)
dropped true (Class u) w e = absurd (grind arith)
dropped false o w e = (λ v. refl, λ v. refl)

pub later_none : (P : Verdicts) (c h k : ℕ) → ((v : ℕ) → cond (stops h) (plain v (accepted P c h k)) [] ≡ []) → (p q : List ℕ) → arrival P (down c) (h ∷ k ∷ p) q ≡ []
unfolding arrival delivers
later_none P c h k d p [] = refl
later_none P c h k d p (v ∷ q) = rw (d v) (later_none P c h k d (p ++ (v ∷ [])) q)

-- where a word is not delivered, nothing of its packet was
pub none_before : (P : Verdicts) (s : Node) (q : List ℕ) (w : ℕ) → delivers P s q w ≡ [] → arrival P s [] q ≡ []
unfolding arrival delivers
none_before P (up c) q w e = up_none P c [] q
none_before P (down c) [] w e = refl
none_before P (down c) (h ∷ []) w e = refl
none_before P (down c) (h ∷ k ∷ q) w e =
    let d = dropped (stops h) (accepted P c h k) w e in
    rw (d.1 k) (later_none P c h k d.0 [] q)

-- what card d has got of the packet under way at its down station
unfoldable pub part_by : Verdicts → Flow → ℕ → Option Channel → List ℕ
part_by P x d None = []
part_by P x d (Some i) = arrival P (down d) [] (x.passed i)

pub whole_as_nil : (l : List ℕ) → whole_as l [] ≡ 0
unfolding whole_as last_tail
whole_as_nil l = refl

-- one word more at the down station of d, after q: its words then
module _ (P : Verdicts) (s : Node) (q : List ℕ) (w : ℕ) (us : List ℕ) (h : rest [] us ≡ arrival P s [] q) where
  more_rest : rest [] (us ++ delivers P s q w) ≡ cond (is_tail_word w) [] (arrival P s [] (q ++ (w ∷ [])))
  unfolding next
  more_rest = ways (delivers P s q w) refl (delivered P s q w)
    where
      ways : (l : List ℕ) → delivers P s q w ≡ l → Brings w l → rest [] (us ++ l) ≡ cond (is_tail_word w) [] (arrival P s [] (q ++ (w ∷ [])))
      ways l e (inl n) = rw (n, append-nil, h, arrival-append P s [] q w, e, n, append-nil) (nil (is_tail_word w) (arrival P s [] q) (none_before P s q w (e ∙ n)))
        where
          nil : (b : Bool) (a : List ℕ) → a ≡ [] → a ≡ cond b [] a
          nil true a z = z
          nil false a z = refl
      ways l e (inr (v, n, k)) = rw (n, rest_push, h, arrival-append P s [] q w, e, n, ← k) refl

  more_count : (l : List ℕ) → along (whole_as l) [] (us ++ delivers P s q w) ≡ along (whole_as l) [] us + whole_as l (arrival P s [] (q ++ (w ∷ [])))
  more_count l = ways (delivers P s q w) refl (delivered P s q w)
    where
      ways : (m : List ℕ) → delivers P s q w ≡ m → Brings w m → along (whole_as l) [] (us ++ m) ≡ along (whole_as l) [] us + whole_as l (arrival P s [] (q ++ (w ∷ [])))
      ways m e (inl n) =
          rw (n, append-nil, arrival-append P s [] q w, e, n, append-nil, none_before P s q w (e ∙ n)) (omega (arith, whole_as_nil l))
      ways m e (inr (v, n, k)) = rw (n, along_push, h, arrival-append P s [] q w, e, n)

module _ (W : Shape) (L : Rooted W) (P : Verdicts) where
  module _ (x : Flow) (G : Good W x) (i : Channel) (hn : number i < W.cards) (g : Granted W L P x i) where
    abbrev s : Node
    s = target W i

    abbrev q : List ℕ
    q = x.passed i

    abbrev w : ℕ
    w = g.w

    abbrev x' : Flow
    x' = pass W P x i s q w g.ws

    here : (d : ℕ) → s ≡ down d → words x' d ≡ words x d ++ delivers P s q w
    unfolding pass card_of
    here d p =
        let e : d ≡ card_of s = sym (ap card_of p) in
        rw (put-eq ℕ_discrete x.inbox (card_of s) (x.inbox (card_of s) ++ delivers P s q w) d e, ← e) (sym (append_assoc (x.taken d) (x.inbox d) (delivers P s q w)))

    elsewhere : (d : ℕ) → s ≢ down d → words x' d ≡ words x d
    unfolding pass delivers card_of
    elsewhere d n = ap (λ (l : List ℕ). x.taken d ++ l) (ways s refl)
      where
        ways : (t : Node) → s ≡ t → put ℕ_discrete x.inbox (card_of t) (x.inbox (card_of t) ++ delivers P t q w) d ≡ x.inbox d
        ways (up c) e =
            elim (ℕ_discrete d c) [
              | yes p ↦ put-eq ℕ_discrete x.inbox c (x.inbox c ++ []) d p ∙ append-nil (x.inbox c) ∙ ap x.inbox (sym p)
              | no m ↦ put_other ℕ_discrete x.inbox c (x.inbox c ++ []) d m
            ]
        ways (down c) e = put_other ℕ_discrete x.inbox c (x.inbox c ++ delivers P (down c) q w) d (λ p. n (e ∙ ap down (sym p)))

    started : (d : ℕ) → s ≡ down d → rest [] (words x d) ≡ part_by P x d (x.source (down d)) → rest [] (words x d) ≡ arrival P s [] q
    unfolding part_by arrival
    started d p h = ways g.takes
      where
        ways : (x.source s ≡ None) ⊎ (x.source s ≡ Some i) → rest [] (words x d) ≡ arrival P s [] q
        ways (inl e) = h ∙ ap (part_by P x d) (ap x.source (sym p) ∙ e) ∙ sym (ap (arrival P s []) (G.inv.quiet i (λ z. grind arith)))
        ways (inr e) = h ∙ ap (part_by P x d) (ap x.source (sym p) ∙ e) ∙ ap (λ (t : Node). arrival P t [] q) (sym p)

    after : (d : ℕ) → s ≡ down d → cond (is_tail_word w) [] (arrival P s [] (q ++ (w ∷ []))) ≡ part_by P x' d (x'.source (down d))
    unfolding part_by
    after d p = ways (is_tail_word w) refl ∙ sym (ap (part_by P x' d) src)
      where
        src : x'.source (down d) ≡ holder i w
        src = ap x'.source (sym p) ∙ source_at W L P x G.inv i w g.ws hn g.front g.takes

        ways : (b : Bool) → is_tail_word w ≡ b → cond (is_tail_word w) [] (arrival P s [] (q ++ (w ∷ []))) ≡ part_by P x' d (holder i w)
        ways true e = rw (holder_tail i w true e, e)
        ways false e =
            let m : x'.passed i ≡ q ++ (w ∷ []) = passed-at W L P x G.inv i w g.ws hn g.front g.takes ∙ next_not q w e in
            ap (λ (b : Bool). cond b [] (arrival P s [] (q ++ (w ∷ [])))) e ∙ ap (λ (t : Node). arrival P t [] (q ++ (w ∷ []))) p ∙ sym (ap (part_by P x' d) (holder_tail i w false e) ∙ ap (arrival P (down d) []) m)

    still : (d : ℕ) → s ≢ down d → part_by P x d (x.source (down d)) ≡ part_by P x' d (x'.source (down d))
    unfolding part_by
    still d n = ways (x.source (down d)) refl ∙ sym (ap (part_by P x' d) (source_out W L P x G.inv i w g.ws hn g.front g.takes (down d) (λ e. n (sym e))))
      where
        ways : (k : Option Channel) → x.source (down d) ≡ k → part_by P x d k ≡ part_by P x' d k
        ways None e = refl
        ways (Some j) e =
            ap (arrival P (down d) []) (sym (passed_out W L P x G.inv i w g.ws hn g.front g.takes j (λ p. n (sym (ap (target W) p) ∙ G.inv.home (down d) j e))))

    part' : (d : ℕ) → rest [] (words x d) ≡ part_by P x d (x.source (down d)) → rest [] (words x' d) ≡ part_by P x' d (x'.source (down d))
    part' d h =
        elim (node_discrete s (down d)) [
          | yes p ↦ ap (rest []) (here d p) ∙ more_rest P s q w (words x d) (started d p h) ∙ after d p
          | no n ↦ ap (rest []) (elsewhere d n) ∙ h ∙ still d n
        ]

    count' : (d : ℕ) (l : List ℕ) → rest [] (words x d) ≡ part_by P x d (x.source (down d)) →
        along (whole_as l) [] (words x' d) ≡ along (whole_as l) [] (words x d) + arrives P d l s (q ++ (w ∷ []))
    unfolding arrives
    count' d l h =
        elim (node_discrete s (down d)) [
          | yes p ↦
              ap (along (whole_as l) []) (here d p) ∙ more_count P s q w (words x d) (started d p h) l
              ∙ ap (λ (n : ℕ). along (whole_as l) [] (words x d) + n) (sym (if_pos (node_discrete s (down d)) p (whole_as l (arrival P s [] (q ++ (w ∷ [])))) 0))
          | no n ↦ ap (along (whole_as l) []) (elsewhere d n) ∙ omega (arith, if_neg (node_discrete s (down d)) n (whole_as l (arrival P s [] (q ++ (w ∷ [])))) 0)
        ]

  -- what is known of card d after some calls
  pub record Told (d : ℕ) (h : History) : Type 0 where
    pub part : rest [] (words h.flow d) ≡ part_by P h.flow d (h.flow.source (down d))
    pub count : (l : List ℕ) → load (arrives P d l) W h.flow + along (whole_as l) [] (words h.flow d) ≡ sum_over h.sent (hops (arrives P d l) W)

  fire_told : (d : ℕ) (h : History) (i : Channel) → Good W h.flow → number i < W.cards → Granted W L P h.flow i → Told d h → Told d (step_fire W P h i true)
  unfolding step_fire
  fire_told d h i G n g t =
      record {
        part = rw g.result (part' h.flow G i n g d t.part);
        count = λ l.
            let a = fired-load W L P (arrives P d l) h.flow i G n g in
            let b : along (whole_as l) [] (words (fired W P h.flow i) d) ≡ along (whole_as l) [] (words h.flow d) + arrives P d l (target W i) (h.flow.passed i ++ (g.w ∷ [])) =
            rw g.result (count' h.flow G i n g d l t.part) in
            let c = t.count l in
            omega arith;
      }

  part_kept : (d : ℕ) (x y : Flow) → y.passed ≡ x.passed → (k : Option Channel) → part_by P x d k ≡ part_by P y d k
  unfolding part_by
  part_kept d x y p None = refl
  part_kept d x y p (Some k) = rw p

  queue_told : (d : ℕ) (h : History) (c : ℕ) (p : List ℕ) → Good W h.flow → c < W.cards → is_packet p ≡ true → Told d h → Told d (step_send h c p true)
  unfolding step_send sum_over queued part_by
  queue_told d h c p G hc hp t =
      record {
        part = t.part ∙ part_kept d h.flow (queued h.flow c p) refl (h.flow.source (down d));
        count = λ l. let a = queued-load W L P h.flow G c p hc hp (arrives P d l) in let b = t.count l in let u = sum_over-append (hops (arrives P d l) W) h.sent ((c, p) ∷ []) in omega arith;
      }

  took_words : (x : Flow) (c d : ℕ) → words (took_by x c (x.inbox c)) d ≡ words x d
  unfolding took_by
  took_words x c d = ways (x.inbox c) refl
    where
      ways : (l : List ℕ) → x.inbox c ≡ l → words (took_by x c l) d ≡ words x d
      ways [] e = refl
      ways (w ∷ ws) e =
          elim (ℕ_discrete d c) [
            | yes p ↦
                rw (put-eq ℕ_discrete x.taken c (x.taken c ++ (w ∷ [])) d p, put-eq ℕ_discrete x.inbox c ws d p)
                (append_assoc (x.taken c) (w ∷ []) ws ∙ ap (λ (l : List ℕ). x.taken c ++ l) (sym e) ∙ ap (λ (c : ℕ). x.taken c ++ x.inbox c) (sym p))
            | no n ↦ rw (put_other ℕ_discrete x.taken c (x.taken c ++ (w ∷ [])) d n, put_other ℕ_discrete x.inbox c ws d n)
          ]

  took_part : (x : Flow) (c d : ℕ) (l : List ℕ) → part_by P x d (x.source (down d)) ≡ part_by P (took_by x c l) d ((took_by x c l).source (down d))
  unfolding took_by
  took_part x c d [] = refl
  took_part x c d (w ∷ ws) = part_kept d x (took_by x c (w ∷ ws)) refl (x.source (down d))

  take_told : (d c : ℕ) (h : History) → Told d h → Told d (happens W P (taking c) h)
  unfolding happens
  take_told d c h t =
      record {
        part = ap (rest []) (took_words h.flow c d) ∙ t.part ∙ took_part h.flow c d (h.flow.inbox c);
        count = λ l. let a = took_load W L P (arrives P d l) h.flow c (h.flow.inbox c) in let b = ap (along (whole_as l) []) (took_words h.flow c d) in let e = t.count l in omega arith;
      }

  run_told : (d : ℕ) (ks : List Event) → Told d (past W P ks)
  unfolding step_send step_fire rest along part_by sum_over
  run_told d =
      kept W L P (Told d) (record { part = refl; count = λ l. omega (arith, empty-load W L P (arrives P d l)) })
      (λ ks c p e t. let s = sendable_is W L P (past W P ks).flow c p e in queue_told d (past W P ks) c p (run_good W L P ks) s.known s.packet t)
      (λ ks i n r t. fire_told d (past W P ks) i (run_good W L P ks) n (granted W L P (past W P ks).flow i r) t)
      (λ ks c t. take_told d c (past W P ks) t)

  weight_pos : (k : ℕ) (s : Node) (q : List ℕ) → 0 < k → 1 ≤ weight one W k s q
  unfolding weight
  weight_pos zero s q h = absurd (omega arith)
  weight_pos (suc k) s q h = omega arith

  -- nothing owed: nothing waits
  nothing_waits : (x : Flow) → Good W x → load one W x ≡ 0 → (o : Channel) → x.chan o ≡ []
  unfolding load waiting along weight
  nothing_waits x G z o = ways (front (x.chan o))
    where
      ways : (x.chan o ≡ []) ⊎ ((w : ℕ) × (ws : List ℕ) × (x.chan o ≡ w ∷ ws)) → x.chan o ≡ []
      ways (inl e) = e
      ways (inr (w, ws, e)) =
          let hn = G.known o w ws e in
          let part = sum-part W.cards o (λ o. waiting one W (2 * W.cards) (target W o) (x.passed o) (x.chan o)) hn in
          let here : waiting one W (2 * W.cards) (target W o) (x.passed o) (x.chan o) ≡ weight one W (2 * W.cards) (target W o) (x.passed o ++ (w ∷ [])) + along (weight one W (2 * W.cards) (target W o)) (next (x.passed o) w) ws = rw e in
          let pos = weight_pos (2 * W.cards) (target W o) (x.passed o ++ (w ∷ [])) (omega arith) in
          absurd (omega arith)

  no_load : (x : Flow) → ((o : Channel) → x.chan o ≡ []) → (f : Node → List ℕ → ℕ) → load f W x ≡ 0
  unfolding load waiting along
  no_load x n f = sum_none W.cards _ (λ o. rw (n o))

  not_held : (x : Flow) → Good W x → ((o : Channel) → x.chan o ≡ []) → (d : ℕ) → x.source (down d) ≡ None
  unfolding refusal refusal_by
  not_held x G n d = ways (x.source (down d)) refl
    where
      stuck : (i : Channel) → (refusal W P x i ≡ None) ⊎ (refusal W P x i ≡ Some InboxFull) → ⊥
      stuck i (inl e) = let r : refusal_by W P x i [] ≡ None = sym (ap (refusal_by W P x i) (n i)) ∙ e in grind arith
      stuck i (inr e) = let r : refusal_by W P x i [] ≡ Some InboxFull = sym (ap (refusal_by W P x i) (n i)) ∙ e in let y : ◌≡◌ {A = ℕ} 14 17 = cc in omega arith

      ways : (k : Option Channel) → x.source (down d) ≡ k → k ≡ None
      ways None s = refl
      ways (Some k) s = let (i, hn, c) = down_held W L P x G.inv G.shaped G.known d d k (omega arith) s in absurd (stuck i c)

pub delivery_law : HistoryDelivery
unfolding part_by
delivery_law W L P ks z d =
    let x : Flow = (past W P ks).flow in
    let G = run_good W L P ks in
    let n = nothing_waits W L P x G z in
    let t = run_told W L P d ks in
    (t.part ∙ ap (part_by P x d) (not_held W L P x G n d), λ l. let c = t.count l in let e = no_load W L P x n (arrives P d l) in omega arith)
