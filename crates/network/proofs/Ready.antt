-- A channel with words in it is the input of some station.
use Rattle.std.proofs.Common.{◌≡◌, ℕ, ◌<◌, Bool, true, false, ◌⊎◌, List, [], ◌∷◌, ◌++◌, Some, None, Err, sym, refl, ap, ◌∙◌, subst, inl, inr, arith}
use Rattle.std.specs.List.{AllByRecursion}
use Rattle.refusal.specs.declared.drive.FireFault.{FireFault}
use Rattle.refusal.specs.declared.drive.FireFault.TheVariants.{InboxFull}
use Rattle.packet.specs.Routes.{side_of, top_bit}
use Rattle.packet.specs.declared.sides.Side.{Side}
use Rattle.packet.specs.declared.sides.Side.TheVariants.{Left, Right}
use Rattle.wiring.specs.Shapes.{Shape}
use Rattle.station.specs.Plans.{Verdicts}
use Rattle.station.specs.declared.channel.Channel.{Channel}
use Rattle.station.specs.declared.channel.Channel.TheVariants.{DownLink, Queued, UpLink}
use Rattle.station.specs.declared.hold.Input.{Input}
use Rattle.station.specs.declared.hold.Input.TheVariants.{Left as FromLeft, Parent, Queue, Right as FromRight, Turn}
use Rattle.network.specs.Cards.{State}
use Rattle.network.specs.Fires.{Fired}
use Rattle.network.specs.Laws.{Goes, Ready}
use Rattle.network.specs.Nodes.{above, Node, card_of, card_or_zero, down, down_link_into, input_of, node_of, number, station_of, target, up, up_link_from}
use Rattle.network.specs.Owed.{hops_owed}
use Rattle.network.specs.Paths.{Step, climbs, descends, spreads, turns}
use Rattle.network.specs.Runs.{Run}
use Rattle.network.proofs.Basics.{put_other}
use Rattle.network.proofs.Channels.{Rooted, channel_discrete}
use Rattle.network.proofs.Conserve.{at}
use Rattle.network.proofs.Flow.{Flow, fired, pass, refusal, refusal_by}
use Rattle.network.proofs.History.{Event, happens, past, queued, step_fire, step_send, took_by}
use Rattle.network.proofs.HistoryLaws.{Good, Granted, progress_law, run_good, kept, granted}
use Rattle.network.proofs.Invariant.{all_elem, elem}
use Rattle.network.proofs.Match.{Beside}
use Rattle.network.proofs.Outputs.{outs_of_each}
use Rattle.network.proofs.OwedLoad.{owed_load}
use Rattle.network.proofs.Preserve.{chan_out}
use Rattle.network.proofs.Ranks.{target-known}
use Rattle.network.proofs.Simulate.{History-of, fire_beside}
use Rattle.network.proofs.UnderWay.{outs_of}

abbrev pub Real : Shape → Channel → Type 0
Real W o = (i : Input) × (input_of W (target W o) i ≡ Some o)

module _ (W : Shape) (L : Rooted W) (P : Verdicts) where
  daughter_input : (b : Side) (p c : ℕ) → W.daughter b p ≡ Some c → (i : Input) × (input_of W (up p) i ≡ Some (UpLink c))
  unfolding input_of up_link_from
  daughter_input Left p c e = (FromLeft, rw e)
  daughter_input Right p c e = (FromRight, rw e)

  falls : (c d : ℕ) (b : Side) → W.daughter b c ≡ Some d → Real W (DownLink d)
  unfolding target input_of down_link_into
  falls c d b e = (Parent, rw (L.up b c d e))

  rises : (c p : ℕ) → above W c ≡ Some p → Real W (UpLink c)
  unfolding target card_or_zero
  rises c p e = rw e (let (b, d) = L.down c p e in daughter_input b p c d)

  step_real : (s : Node) (h : ℕ) (o : Channel) → Step W s h o → Real W o
  unfolding target input_of
  step_real _ _ _ (climbs c p g t e) = rises c p e
  step_real _ _ _ (turns c g t) = (Turn, refl)
  step_real _ _ _ (descends c d g t e) = falls c d (side_of (top_bit g)) e
  step_real _ _ _ (spreads b c d g t f e) = falls c d b e

  outs_real : (s : Node) (q : List ℕ) → AllByRecursion (Real W) (outs_of W s q)
  outs_real s q = outs_of_each W (Real W) s q (step_real s)

  abbrev All-real : Flow → Type 0
  All-real x = (o : Channel) (w : ℕ) (ws : List ℕ) → x.chan o ≡ w ∷ ws → Real W o

  fire_real : (x : Flow) (i : Channel) → Good W x → number i < W.cards → Granted W L P x i → All-real x → All-real (fired W P x i)
  fire_real x i G hn g R = rw g.result after-pass
    where
      after-pass : All-real (pass W P x i (target W i) (x.passed i) g.w g.ws)
      after-pass o v vs f = ways (elem o (outs_of W (target W i) (x.passed i ++ (g.w ∷ [])))) refl
        where
          ways : (b : Bool) → elem o (outs_of W (target W i) (x.passed i ++ (g.w ∷ []))) ≡ b → Real W o
          ways true e = all_elem (Real W) o _ (outs_real (target W i) (x.passed i ++ (g.w ∷ []))) e
          ways false e =
              elim (channel_discrete o i) [
                | yes p ↦ R o g.w g.ws (ap x.chan p ∙ g.front)
                | no n ↦ R o v vs (sym (chan_out W L P x G.inv i g.w g.ws hn g.front g.takes o e n) ∙ f)
              ]

  took_real : (x : Flow) (c : ℕ) (l : List ℕ) → All-real x → All-real (took_by x c l)
  unfolding took_by
  took_real x c [] R = R
  took_real x c (w ∷ ws) R = R

  queued_real : (x : Flow) (c : ℕ) (p : List ℕ) → All-real x → All-real (queued x c p)
  unfolding queued target input_of
  queued_real x c p R o w ws e =
      elim (channel_discrete o (Queued c)) [
        | yes q ↦ rw q (Queue, refl)
        | no n ↦ R o w ws (sym (put_other channel_discrete x.chan (Queued c) (x.chan (Queued c) ++ p) o n) ∙ e)
      ]

  run_real : (ks : List Event) → All-real (past W P ks).flow
  unfolding happens step_send step_fire
  run_real =
      kept W L P (λ h. All-real h.flow) (λ o w ws e. absurd (grind arith))
      (λ ks c p e R. queued_real (past W P ks).flow c p R)
      (λ ks i n r R. fire_real (past W P ks).flow i (run_good W L P ks) n (granted W L P (past W P ks).flow i r) R)
      (λ ks c R. took_real (past W P ks).flow c ((past W P ks).flow.inbox c) R)

  -- a channel that a station can take from is not empty
  not_empty : (y : Flow) (o : Channel) → (refusal W P y o ≡ None) ⊎ (refusal W P y o ≡ Some InboxFull) → (w : ℕ) × (ws : List ℕ) × (y.chan o ≡ w ∷ ws)
  unfolding refusal refusal_by
  not_empty y o can = ways (y.chan o) refl can
    where
      ways : (l : List ℕ) → y.chan o ≡ l → (refusal_by W P y o (y.chan o) ≡ None) ⊎ (refusal_by W P y o (y.chan o) ≡ Some InboxFull) → (w : ℕ) × (ws : List ℕ) × (y.chan o ≡ w ∷ ws)
      ways [] e (inl r) = absurd (let z : refusal_by W P y o [] ≡ None = sym (ap (refusal_by W P y o) e) ∙ r in grind arith)
      ways [] e (inr r) = absurd (let z : refusal_by W P y o [] ≡ Some InboxFull = sym (ap (refusal_by W P y o) e) ∙ r in grind arith)
      ways (w ∷ ws) e r = (w, ws, e)

  -- where hops are owed, some fire is granted, or refused by a full inbox
  pub goes_on : (r : Run) → History-of W L P r → 0 < hops_owed W r.tree → Ready W P r.tree
  unfolding card_of station_of
  goes_on r H h =
      let x : State = r.tree in
      let y : Flow = (past W P H.events).flow in
      let M = H.same.match in
      let G = run_good W L P H.events in
      let (o, hn, can) = progress_law W L P H.events (subst (λ (n : ℕ). 0 < n) (owed_load W P x y M G) h) in
      let (w, ws, e) = not_empty y o can in
      let (i, at) = run_real H.events o w ws e in
      let s : Node = target W o in
      let back = node_back s in
      let at' : input_of W (node_of (card_of s) (station_of s)) i ≡ Some o = ap (λ (n : Node). input_of W n i) back ∙ at in
      let b = (fire_beside W L P x y M G (card_of s) (station_of s) i o (target-known W L o hn) at').0 in
      record { card = card_of s; station = station_of s; input = i; channel = o; there = target-known W L o hn; from = at'; goes = ways y o b can }
    where
      node_back : (s : Node) → node_of (card_of s) (station_of s) ≡ s
      node_back (up c) = refl
      node_back (down c) = refl

      ways : {out : Fired} (y : Flow) (o : Channel) → Beside W P r.tree y o out → (refusal W P y o ≡ None) ⊎ (refusal W P y o ≡ Some InboxFull) → Goes out.answer
      ways y o (inl (n, x', e, r, m)) c = inl (n, ap (λ (out : Fired). out.answer) e)
      ways y o (inr (f, e, q)) (inl c) = absurd (grind arith)
      ways y o (inr (f, e, q)) (inr c) = let u : f ≡ InboxFull = cc in inr (ap (λ (out : Fired). out.answer) e ∙ ap (λ (g : FireFault). Err g) u)
