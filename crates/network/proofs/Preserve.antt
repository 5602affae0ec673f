-- A granted fire keeps the invariant of the channels.
use Rattle.std.proofs.Common.{◌≡◌, ℕ, ◌<◌, Bool, true, false, cond, ◌≢◌, ◌⊎◌, List, [], ◌∷◌, ◌++◌, Some, None, Option, sym, refl, ap, ◌∙◌, subst, inl, inr, arith}
use Rattle.std.specs.List.{AllByRecursion}
use Rattle.std.proofs.lemmas.Bool.{and_parts, and_from, false_from_ne_true}
use Rattle.packet.specs.Packets.{is_tail_word}
use Rattle.wiring.specs.Shapes.{Shape}
use Rattle.station.specs.Plans.{Verdicts}
use Rattle.station.specs.declared.channel.Channel.{Channel}
use Rattle.network.specs.Nodes.{Node, number, target}
use Rattle.network.proofs.Basics.{put_other, put_same, rest_push, shape-append, next_end, next_not}
use Rattle.network.proofs.Channels.{Rooted, channel_discrete, node_discrete}
use Rattle.network.proofs.Conserve.{Distinct, SendsInto}
use Rattle.network.proofs.Flow.{Flow, fits, holder, is_empty, pass, shape}
use Rattle.network.proofs.Invariant.{Inv, all_by, all_elem, elem, elem_other, feeder, push_all_in, push_all_out, sending, sending_from}
use Rattle.network.proofs.UnderWay.{leaves, moved, next, outs_of, rest}
use Rattle.network.proofs.Feeders.{feeder-above, moved-fits, moved-next, outs_of_fed, outs_of_more}
use Rattle.network.proofs.Outputs.{all_map}
use Rattle.network.proofs.Ranks.{Out, outs_of_lower, rank, target-known}

nil_either : (b : Bool) (r : List ℕ) → r ≡ [] → [] ≡ cond b (moved r) []
unfolding moved
nil_either true r e = rw e
nil_either false r e = refl

pub holder_tail : (i : Channel) (w : ℕ) (b : Bool) → is_tail_word w ≡ b → holder i w ≡ cond b None (Some i)
unfolding holder
holder_tail i w b e = rw e

-- the station of i takes its next word
module _
    (W : Shape)
    (L : Rooted W)
    (P : Verdicts)
    (x : Flow)
    (I : Inv W x)
    (i : Channel)
    (w : ℕ)
    (ws : List ℕ)
    (known : number i < W.cards)
    (front : x.chan i ≡ w ∷ ws)
    (takes : (x.source (target W i) ≡ None) ⊎ (x.source (target W i) ≡ Some i)) where
  abbrev s : Node
  s = target W i

  abbrev q : List ℕ
  q = x.passed i

  abbrev os : List Channel
  os = outs_of W s (q ++ (w ∷ []))

  abbrev x' : Flow
  x' = pass W P x i s q w ws

  -- what s was sending before, by channel
  was : (o : Channel) → sending_from W x o s (x.source s) ≡ cond (elem o os) (moved q) []
  unfolding sending_from
  was o = ways takes
    where
      ways : (x.source s ≡ None) ⊎ (x.source s ≡ Some i) → sending_from W x o s (x.source s) ≡ cond (elem o os) (moved q) []
      ways (inl e) = rw e (nil_either (elem o os) q (I.quiet i (λ p. grind arith)))
      ways (inr e) = rw (e, outs_of_more W s q w (I.begun s i e))

  -- what it sends after
  now : (o : Channel) → sending_from W x' o s (x'.source s) ≡ cond (elem o os) (moved (next q w)) []
  unfolding sending_from pass
  now o = rw put_same (ways (is_tail_word w) refl)
    where
      ways : (b : Bool) → is_tail_word w ≡ b → sending_from W x' o s (holder i w) ≡ cond (elem o os) (moved (next q w)) []
      ways true e = rw (holder_tail i w true e, next_end q w e) (nil_either (elem o os) [] refl)
      ways false e =
          rw (holder_tail i w false e, next_not q w e) (simp put_same)

  -- another station sends as before
  same : (o : Channel) (t : Node) → t ≢ s → sending_from W x' o t (x'.source t) ≡ sending_from W x o t (x.source t)
  unfolding sending_from pass
  same o t n = rw (put_other node_discrete x.source s (holder i w) t n) (ways (x.source t) refl)
    where
      ways : (j : Option Channel) → x.source t ≡ j → sending_from W x' o t j ≡ sending_from W x o t j
      ways None e = refl
      ways (Some j) e = let m : j ≢ i = λ p. n (sym (I.home t j e) ∙ ap (target W) p) in simp (put_other, m)

  -- the outputs are no inputs of s
  ne : AllByRecursion (λ o. o ≢ i) os
  ne = all_map (Out W s) _ (λ o l p. let t : rank W (target W o) < rank W (target W i) = l.lower in let u : rank W (target W o) ≡ rank W (target W i) = ap (λ (o : Channel). rank W (target W o)) p in omega arith) os (outs_of_lower W L s (q ++ (w ∷ [])) (target-known W L i known))

  pub sends : (o : Channel) → feeder W o ≡ Some s → rest (x.passed o) (x.chan o) ≡ cond (elem o os) (moved q) []
  unfolding sending
  sends o f = I.links o ∙ rw f (was o)

  -- the channels of the outputs
  chan_in : (o : Channel) → elem o os ≡ true → Distinct os → x'.chan o ≡ x.chan o ++ (leaves q w ∷ [])
  unfolding pass
  chan_in o e d =
      push_all_in os (leaves q w) _ o d e
      ∙ ap (λ (l : List ℕ). l ++ (leaves q w ∷ [])) (put_other channel_discrete x.chan i ws o (all_elem (λ o. o ≢ i) o os ne e))

  pub chan_out : (o : Channel) → elem o os ≡ false → o ≢ i → x'.chan o ≡ x.chan o
  unfolding pass
  chan_out o e n = push_all_out os (leaves q w) _ o e ∙ put_other channel_discrete x.chan i ws o n

  chan_at : x'.chan i ≡ ws
  unfolding pass
  chan_at = push_all_out os (leaves q w) _ i (elem_other i os ne) ∙ put_same channel_discrete x.chan i ws

  pub passed-at : x'.passed i ≡ next q w
  unfolding pass
  passed-at = put_same channel_discrete x.passed i (next q w)

  pub passed_out : (o : Channel) → o ≢ i → x'.passed o ≡ x.passed o
  unfolding pass
  passed_out o n = put_other channel_discrete x.passed i (next q w) o n

  -- a channel that s feeds
  ours : (o : Channel) → feeder W o ≡ Some s → o ≢ i → Distinct os → rest (x'.passed o) (x'.chan o) ≡ cond (elem o os) (moved (next q w)) []
  ours o f n d = ways (elem o os) refl
    where
      ways : (b : Bool) → elem o os ≡ b → rest (x'.passed o) (x'.chan o) ≡ cond b (moved (next q w)) []
      ways true e = rw (passed_out o n, chan_in o e d, rest_push, sends o f, e) (moved-next q w)
      ways false e = rw (passed_out o n, chan_out o e n, sends o f, e)

  -- a channel that another station feeds
  theirs : (o : Channel) → elem o os ≡ false → rest (x'.passed o) (x'.chan o) ≡ rest (x.passed o) (x.chan o)
  unfolding rest
  theirs o e =
      elim (channel_discrete o i) [
        | yes p ↦ rw (p, chan_at, passed-at, front)
        | no n ↦ rw (passed_out o n, chan_out o e n)
      ]

  strange : (o : Channel) → feeder W o ≢ Some s → elem o os ≡ false
  strange o n = false_from_ne_true _ (λ e. n (all_elem (λ o. feeder W o ≡ Some s) o os (outs_of_fed W L s (q ++ (w ∷ []))) e))

  not_own : (o : Channel) → feeder W o ≡ Some s → o ≢ i
  not_own o f p = let t = feeder-above W L i s known (sym (ap (feeder W) p) ∙ f) in omega arith

  pub links' : Distinct os → (o : Channel) → rest (x'.passed o) (x'.chan o) ≡ sending W x' o (feeder W o)
  unfolding sending
  links' d o = ways (feeder W o) refl
    where
      ways : (t : Option Node) → feeder W o ≡ t → rest (x'.passed o) (x'.chan o) ≡ sending W x' o t
      ways None f = theirs o (strange o (λ p. grind arith)) ∙ I.links o ∙ rw f
      ways (Some t) f =
          elim (node_discrete t s) [
            | yes p ↦ let g : feeder W o ≡ Some s = f ∙ ap Some p in ours o g (not_own o g) d ∙ sym (subst (λ (t : Node). sending_from W x' o t (x'.source t) ≡ cond (elem o os) (moved (next q w)) []) (sym p) (now o))
            | no n ↦ theirs o (strange o (λ p. n (cc))) ∙ I.links o ∙ rw f (sym (same o t n))
          ]

  pub source_at : x'.source s ≡ holder i w
  unfolding pass
  source_at = put_same node_discrete x.source s (holder i w)

  pub source_out : (t : Node) → t ≢ s → x'.source t ≡ x.source t
  unfolding pass
  source_out t n = put_other node_discrete x.source s (holder i w) t n

  quiet' : (j : Channel) → x'.source (target W j) ≢ Some j → x'.passed j ≡ []
  quiet' j m =
      elim (channel_discrete j i) [
        | yes p ↦ rw (p, passed-at) (ended (is_tail_word w) refl (rw (p, source_at) at m))
        | no n ↦ passed_out j n ∙ I.quiet j (still n (node_discrete (target W j) s))
      ]
    where
      ended : (b : Bool) → is_tail_word w ≡ b → holder i w ≢ Some i → next q w ≡ []
      ended true e m = next_end q w e
      ended false e m = absurd (m (holder_tail i w false e))

      still : j ≢ i → Dec (target W j ≡ s) → x.source (target W j) ≢ Some j
      still n (yes p) e = ways takes
        where
          ways : (x.source s ≡ None) ⊎ (x.source s ≡ Some i) → ⊥
          ways (inl t) = grind arith
          ways (inr t) = n (cc)
      still n (no k) e = m (source_out (target W j) k ∙ e)

  pub holds : (j : Channel) → holder i w ≡ Some j → (j ≡ i) × (is_tail_word w ≡ false)
  holds j e = ways (is_tail_word w) refl
    where
      ways : (b : Bool) → is_tail_word w ≡ b → (j ≡ i) × (is_tail_word w ≡ false)
      ways true t = let u = holder_tail i w true t in absurd (grind arith)
      ways false t = let u = holder_tail i w false t in (cc, t)

  home' : (t : Node) (j : Channel) → x'.source t ≡ Some j → target W j ≡ t
  home' t j e =
      elim (node_discrete t s) [
        | yes p ↦ let u = holds j (sym source_at ∙ ap x'.source (sym p) ∙ e) in ap (target W) u.0 ∙ sym p
        | no n ↦ I.home t j (sym (source_out t n) ∙ e)
      ]

  nonempty : (q : List ℕ) → is_empty (q ++ (w ∷ [])) ≡ false
  unfolding is_empty
  nonempty [] = refl
  nonempty (v ∷ q) = refl

  begun' : (t : Node) (j : Channel) → x'.source t ≡ Some j → is_empty (x'.passed j) ≡ false
  begun' t j e =
      elim (node_discrete t s) [
        | yes p ↦ let u = holds j (sym source_at ∙ ap x'.source (sym p) ∙ e) in rw (u.0, passed-at, next_not q w u.1) (nonempty q)
        | no n ↦ let h = I.home t j (sym (source_out t n) ∙ e) in rw (passed_out j (λ p. n (sym h ∙ ap (target W) p))) (I.begun t j (sym (source_out t n) ∙ e))
      ]

  pub inv_kept : Distinct os → Inv W x'
  inv_kept d = record { quiet = quiet'; home = home'; begun = begun'; links = links' d }

  pub all_send : AllByRecursion (SendsInto W x i q) os
  all_send =
      all_by (SendsInto W x i q) os
      (λ o e.
      record {
        other = all_elem (λ o. o ≢ i) o os ne e;
        follows = sends o (all_elem (λ o. feeder W o ≡ Some s) o os (outs_of_fed W L s (q ++ (w ∷ []))) e) ∙ rw e;
      })

  pub shaped' : Distinct os → ((o : Channel) → shape (x.passed o) (x.chan o) ≡ true) → (o : Channel) → shape (x'.passed o) (x'.chan o) ≡ true
  unfolding shape
  shaped' d S o = ways (elem o os) refl
    where
      first : shape q (w ∷ ws) ≡ true
      first = sym (ap (shape q) front) ∙ S i

      one : fits (moved q) (leaves q w) ≡ true
      one = moved-fits q w ∙ (and_parts _ (shape (next q w) ws) first).0

      ways : (b : Bool) → elem o os ≡ b → shape (x'.passed o) (x'.chan o) ≡ true
      ways true e =
          let n : o ≢ i = all_elem (λ o. o ≢ i) o os ne e in
          let f : rest (x.passed o) (x.chan o) ≡ moved q = (all_elem (SendsInto W x i q) o os all_send e).follows in
          rw (passed_out o n, chan_in o e d) (shape-append (x.passed o) (x.chan o) (leaves q w ∷ []) (S o) (rw f (and_from _ _ one refl)))
      ways false e =
          elim (channel_discrete o i) [
            | yes p ↦ rw (p, passed-at, chan_at) (and_parts (fits q w) _ first).1
            | no n ↦ rw (passed_out o n, chan_out o e n) (S o)
          ]

  pub known' : ((o : Channel) (v : ℕ) (vs : List ℕ) → x.chan o ≡ v ∷ vs → number o < W.cards) →
      (o : Channel) (v : ℕ) (vs : List ℕ) → x'.chan o ≡ v ∷ vs → number o < W.cards
  known' K o v vs f = ways (elem o os) refl
    where
      ways : (b : Bool) → elem o os ≡ b → number o < W.cards
      ways true e = (all_elem (Out W s) o os (outs_of_lower W L s (q ++ (w ∷ [])) (target-known W L i known)) e).known
      ways false e =
          elim (channel_discrete o i) [
            | yes p ↦ rw p known
            | no n ↦ K o v vs (sym (chan_out o e n) ∙ f)
          ]
