-- A granted fire moves one word of a sent packet one station on along the packet's path.
use Rattle.std.proofs.Common.{◌≡◌, ℕ, ◌<◌, Bool, true, false, ltb, List, [], ◌∷◌, ◌++◌, length, get_or, Some, None, Ok, Err, Option, sym, refl, ap, ◌∙◌, subst, ap₂, inl, inr, arith, length-append, ltb-true, append_assoc}
use Rattle.std.proofs.lemmas.List.{get_or_at}
use Rattle.std.proofs.lemmas.Bool.{false_from_ne_true}
use Rattle.refusal.specs.declared.drive.FireFault.{FireFault}
use Rattle.refusal.specs.declared.drive.FireFault.TheVariants.{NoCard, NoInput}
use Rattle.packet.specs.Routes.{advance}
use Rattle.wiring.specs.Shapes.{Shape}
use Rattle.station.specs.Plans.{Verdicts}
use Rattle.station.specs.declared.channel.Channel.{Channel}
use Rattle.station.specs.declared.channel.Channel.TheVariants.{Queued}
use Rattle.station.specs.declared.hold.Input.{Input}
use Rattle.station.specs.declared.hold.Station.{Station}
use Rattle.network.specs.Arrivals.{Parcel}
use Rattle.network.specs.Cards.{State, oldest, younger}
use Rattle.network.specs.Fires.{Fired, fire_step, waiting_at}
use Rattle.network.specs.Nodes.{Node, input_of, node_of, number, outs, target, up}
use Rattle.network.specs.Paths.{Among, FiresMoveOn, OneOn, Passes, Step, as_comes}
use Rattle.network.specs.Runs.{Run, run}
use Rattle.network.specs.Owed.{reads}
use Rattle.network.proofs.Basics.{put_other, put_same}
use Rattle.network.proofs.Channels.{Rooted, channel_discrete, rooted}
use Rattle.network.proofs.Conserve.{SendsInto, moved_push}
use Rattle.network.proofs.Flow.{Flow, admits, all_clear, fired, fits, pass, refusal, refusal_at, refusal_by}
use Rattle.network.proofs.History.{Event, happens, is_packet, past, queued, step_fire, step_send, took_by}
use Rattle.network.proofs.HistoryLaws.{Good, Granted, granted, outs_of_distinct, run_good, sendable_is, unrefused, kept}
use Rattle.network.proofs.Invariant.{all_elem, elem, elem_other, feeder, push_all_in, push_all_out, sending}
use Rattle.network.proofs.Inputs.{input_known}
use Rattle.network.proofs.Match.{Beside, clear_all}
use Rattle.network.proofs.Preserve.{all_send, chan_out, passed-at, passed_out}
use Rattle.network.proofs.Outputs.{outs_step, all_map}
use Rattle.network.proofs.Simulate.{History-of, fire_beside, follows, node_card}
use Rattle.network.proofs.Traced.{Part, Traced, among_last, packet_traced, part_on, step_elem, traced_append, traced_more}
use Rattle.network.proofs.UnderWay.{leaves, moved, outs_of, rest}
use Rattle.network.proofs.Writes.{waiting_is}

-- a word, by its place among the words of its packet
at_place : (q : List ℕ) (w : ℕ) (r : List ℕ) → get_or ((q ++ (w ∷ [])) ++ r) (length q) 0 ≡ w
at_place q w r = rw (append_assoc q (w ∷ []) r) (get_or_at q w r 0 (length q) refl)

moved_length : (q : List ℕ) → length (moved q) ≡ length q
unfolding moved
moved_length [] = refl
moved_length (h ∷ q) = refl

module _ (q : List ℕ) (w : ℕ) (others : List ℕ) (g : ℕ) (later : List ℕ) (whole : (q ++ (w ∷ [])) ++ others ≡ g ∷ later) where
  pub word_comes : as_comes g later (length q) ≡ w
  word_comes = sym (ap (λ (l : List ℕ). get_or l (length q) 0) whole) ∙ at_place q w others

  pub place_within : length q < length (g ∷ later)
  place_within =
      let a = ap (λ (l : List ℕ). length l) whole in
      let b = length-append (q ++ (w ∷ [])) others in
      let c = length-append q (w ∷ []) in
      omega arith

moved_whole : (q : List ℕ) (w : ℕ) (others : List ℕ) (g : ℕ) (later : List ℕ) → (q ++ (w ∷ [])) ++ others ≡ g ∷ later → (moved q ++ (leaves q w ∷ [])) ++ others ≡ advance g ∷ later
unfolding moved leaves
moved_whole [] w others g later e = let a : w ≡ g = cc in let b : others ≡ later = cc in ap₂ (λ (a : ℕ) (b : List ℕ). advance a ∷ b) a b
moved_whole (h ∷ q) w others g later e = let a : h ≡ g = cc in let b : (q ++ (w ∷ [])) ++ others ≡ later = cc in ap₂ (λ (a : ℕ) (b : List ℕ). advance a ∷ b) a b

pub word_leaves : (q : List ℕ) (w : ℕ) (others : List ℕ) (g : ℕ) (later : List ℕ) → (q ++ (w ∷ [])) ++ others ≡ g ∷ later → as_comes (advance g) later (length q) ≡ leaves q w
word_leaves q w others g later e =
    ap (as_comes (advance g) later) (sym (moved_length q)) ∙ word_comes (moved q) (leaves q w) others (advance g) later (moved_whole q w others g later e)

outs_comes : (W : Shape) (n : Node) (q : List ℕ) (w : ℕ) (others : List ℕ) (g : ℕ) (later : List ℕ) → (q ++ (w ∷ [])) ++ others ≡ g ∷ later → outs_of W n (q ++ (w ∷ [])) ≡ outs W n g
unfolding outs_of
outs_comes W n [] w others g later e = let a : w ≡ g = cc in ap (outs W n) a
outs_comes W n (h ∷ q) w others g later e = let a : h ≡ g = cc in ap (outs W n) a

-- the outputs of a granted fire were empty
clear_at : (f : Channel → List ℕ) (os : List Channel) (o : Channel) → all_clear f os ≡ true → elem o os ≡ true → f o ≡ []
clear_at f os o a e = all_elem (λ o. f o ≡ []) o os (clear_all f os a) e

granted-clear : (W : Shape) (P : Verdicts) (x : Flow) (i : Channel) (w : ℕ) (ws : List ℕ) → x.chan i ≡ w ∷ ws → refusal W P x i ≡ None → all_clear x.chan (outs_of W (target W i) (x.passed i ++ (w ∷ []))) ≡ true
unfolding refusal refusal_by refusal_at
granted-clear W P x i w ws f e =
    (unrefused (fits (x.passed i) w) (admits (x.source (target W i)) i) _ _ (sym (ap (refusal_by W P x i) f) ∙ e)).1

module _ (W : Shape) (L : Rooted W) (P : Verdicts) where
  -- every word in every channel is a word of a packet of S, on its path
  abbrev All-traced : List Parcel → Flow → Type 0
  All-traced S x = (o : Channel) → Traced W S (target W o) (x.passed o) (x.chan o)

  -- a packet is queued
  queued_traced : (S : List Parcel) (x : Flow) → Good W x → (c : ℕ) (p : List ℕ) → is_packet p ≡ true → All-traced S x → All-traced (S ++ ((c, p) ∷ [])) (queued x c p)
  unfolding queued target feeder sending
  queued_traced S x G c p hp T o =
      elim (channel_discrete o (Queued c)) [
        | yes e ↦
            let whole : rest (x.passed (Queued c)) (x.chan (Queued c)) ≡ [] = G.inv.links (Queued c) in
            rw (e, put_same channel_discrete x.chan (Queued c) (x.chan (Queued c) ++ p))
            (traced_append W _ (up c) (x.passed (Queued c)) (x.chan (Queued c)) p (traced_more W S _ (up c) _ _ (T (Queued c)))
            (rw whole (packet_traced W _ c p (among_last (c, p) S) hp)))
        | no n ↦
            rw (put_other channel_discrete x.chan (Queued c) (x.chan (Queued c) ++ p) o n)
            (traced_more W S _ (target W o) _ _ (T o))
      ]

  -- a word passes the station of i
  module _ (S : List Parcel) (x : Flow) (G : Good W x) (i : Channel) (hn : number i < W.cards) (g : Granted W L P x i) (T : All-traced S x) where
    abbrev s : Node
    s = target W i

    abbrev q : List ℕ
    q = x.passed i

    abbrev os : List Channel
    os = outs_of W s (q ++ (g.w ∷ []))

    abbrev x' : Flow
    x' = pass W P x i s q g.w g.ws

    goes_into : (o : Channel) → elem o os ≡ true → SendsInto W x i q o
    goes_into o e = all_elem (SendsInto W x i q) o os (all_send W L P x G.inv i g.w g.ws hn g.front g.takes) e

    pub here : Traced W S s q (g.w ∷ g.ws)
    here = subst (λ (l : List ℕ). Traced W S s q l) g.front (T i)

    pub into : (o : Channel) → elem o os ≡ true → x'.chan o ≡ x.chan o ++ (leaves q g.w ∷ [])
    unfolding pass
    into o e =
        push_all_in os (leaves q g.w) _ o (outs_of_distinct W L P s (q ++ (g.w ∷ []))) e
        ∙ ap (λ (l : List ℕ). l ++ (leaves q g.w ∷ [])) (put_other channel_discrete x.chan i g.ws o (goes_into o e).other)

    left : x'.chan i ≡ g.ws
    unfolding pass
    left =
        push_all_out os (leaves q g.w) _ i
        (elem_other i os (all_map (SendsInto W x i q) _ (λ o t. t.other) os (all_send W L P x G.inv i g.w g.ws hn g.front g.takes)))
        ∙ put_same channel_discrete x.chan i g.ws

    pass_traced : All-traced S x'
    pass_traced o = ways (elem o os) refl
      where
        ways : (b : Bool) → elem o os ≡ b → Traced W S (target W o) (x'.passed o) (x'.chan o)
        ways true e =
            let t = goes_into o e in
            let on : Part W S (target W o) (moved (q ++ (g.w ∷ []))) = part_on W S s (q ++ (g.w ∷ [])) o here.0 e in
            let on' : Part W S (target W o) (moved q ++ (leaves q g.w ∷ [])) = subst (Part W S (target W o)) (moved_push q g.w) on in
            rw (passed_out W L P x G.inv i g.w g.ws hn g.front g.takes o t.other, into o e)
            (traced_append W S (target W o) (x.passed o) (x.chan o) (leaves q g.w ∷ []) (T o)
            (rw t.follows (on', tt)))
        ways false e =
            elim (channel_discrete o i) [
              | yes p ↦ rw (p, passed-at W L P x G.inv i g.w g.ws hn g.front g.takes, left) here.1
              | no n ↦
                  rw (passed_out W L P x G.inv i g.w g.ws hn g.front g.takes o n, chan_out W L P x G.inv i g.w g.ws hn g.front g.takes o e n)
                  (T o)
            ]

    fired_traced : All-traced S (fired W P x i)
    fired_traced = rw g.result pass_traced

  took_traced : (S : List Parcel) (x : Flow) (c : ℕ) (l : List ℕ) → All-traced S x → All-traced S (took_by x c l)
  unfolding took_by
  took_traced S x c [] T = T
  took_traced S x c (w ∷ ws) T = T

  pub run_traced : (ks : List Event) → All-traced (past W P ks).sent (past W P ks).flow
  unfolding happens step_send step_fire
  run_traced =
      kept W L P (λ h. All-traced h.sent h.flow) (λ o. tt)
      (λ ks c p e T. queued_traced (past W P ks).sent (past W P ks).flow (run_good W L P ks) c p (sendable_is W L P (past W P ks).flow c p e).packet T)
      (λ ks i n r T. fired_traced (past W P ks).sent (past W P ks).flow (run_good W L P ks) i n (granted W L P (past W P ks).flow i r) T)
      (λ ks c T. took_traced (past W P ks).sent (past W P ks).flow c ((past W P ks).flow.inbox c) T)

  -- a granted fire is of a card that there is, at an input that its station has
  fire_there : (x : State) (c : ℕ) (t : Station) (i : Input) (n : ℕ) → (fire_step W P x c t i).answer ≡ Ok n → (c < W.cards) × (o : Channel) × (input_of W (node_of c t) i ≡ Some o)
  fire_there x c t i n a = ways (ltb c W.cards) refl
    where
      refused : (f : FireFault) → fire_step W P x c t i ≡ record { answer = Err f; next = x } → ⊥
      refused f u = let z : Err f ≡ Ok n = sym (ap (λ (out : Fired). out.answer) u) ∙ a in grind arith

      at : ltb c W.cards ≡ true → (o : Option Channel) → input_of W (node_of c t) i ≡ o → (o : Channel) × (input_of W (node_of c t) i ≡ Some o)
      at h None e = absurd (refused NoInput (rw (h, e)))
      at h (Some o) e = (o, e)

      ways : (b : Bool) → ltb c W.cards ≡ b → (c < W.cards) × (o : Channel) × (input_of W (node_of c t) i ≡ Some o)
      ways true e = let (o, f) = at e (input_of W (node_of c t) i) refl in (ltb-true c W.cards e, o, f)
      ways false e = absurd (refused NoCard (rw e))

  -- the fire beside the network's: the word at the front of the channel goes on
  one_on : (r : Run) → History-of W L P r → (c : ℕ) (t : Station) (i : Input) (n : ℕ) → (fire_step W P r.tree c t i).answer ≡ Ok n → OneOn W P r c t i
  one_on r H c t i n a =
      let (hc, o, e) = fire_there r.tree c t i n a in
      let (b, hn) = fire_beside W L P r.tree (past W P H.events).flow H.same.match (run_good W L P H.events) c t i o hc e in
      ways o e (input_known W L (node_of c t) i o (rw (node_card c t) hc) e).0 hn b
    where
      y : Flow
      y = (past W P H.events).flow

      G : Good W y
      G = run_good W L P H.events

      ways : (o : Channel) → input_of W (node_of c t) i ≡ Some o → target W o ≡ node_of c t → number o < W.cards → Beside W P r.tree y o (fire_step W P r.tree c t i) → OneOn W P r c t i
      ways o e to hn (inr (f, u, v)) = absurd (let z : Err f ≡ Ok n = sym (ap (λ (out : Fired). out.answer) u) ∙ a in grind arith)
      ways o e to hn (inl (m, x', u, v, M)) =
          let g = granted W L P y o v in
          let T = run_traced H.events in
          let p = (here (past W P H.events).sent y G o hn g T).0 in
          let k : List ℕ = y.passed o in
          record {
            from = p.from;
            head = p.head;
            later = p.later;
            sent = subst (Among (p.from, p.head ∷ p.later)) (sym H.same.sends) p.sent;
            comes = p.comes;
            passes = subst (λ (s : Node). Passes W p.from p.head s p.comes) to p.passes;
            place = length k;
            within = place_within k g.w p.others p.comes p.later p.whole;
            channel = o;
            input = e;
            before = waiting_is r.tree o ∙ ap oldest (H.same.match.chan o ∙ g.front) ∙ ap Some (sym (word_comes k g.w p.others p.comes p.later p.whole));
            gone =
                ap (λ (out : Fired). reads out.next o) u
                ∙ M.chan o
                ∙ ap (λ (z : Flow). z.chan o) g.result
                ∙ left (past W P H.events).sent y G o hn g T
                ∙ sym (ap younger (H.same.match.chan o ∙ g.front));
            others = λ j ne ns.
                ap (λ (out : Fired). reads out.next j) u
                ∙ M.chan j
                ∙ ap (λ (z : Flow). z.chan j) g.result
                ∙ chan_out W L P y G.inv o g.w g.ws hn g.front g.takes j
                (false_from_ne_true _ (λ el.
                ns
                (subst (λ (s : Node). Step W s p.comes j) to
                (all_elem (Step W (target W o) p.comes) j _ (outs_step W (target W o) p.comes) (sym (ap (elem j) (outs_comes W (target W o) k g.w p.others p.comes p.later p.whole)) ∙ el)))))
                ne
                ∙ sym (H.same.match.chan j);
            onward = λ j st.
                let st' : Step W (target W o) p.comes j = subst (λ (s : Node). Step W s p.comes j) (sym to) st in
                let el : elem j (outs_of W (target W o) (k ++ (g.w ∷ []))) ≡ true =
                ap (elem j) (outs_comes W (target W o) k g.w p.others p.comes p.later p.whole) ∙ step_elem W (target W o) p.comes j st' in
                let nil : y.chan j ≡ [] = clear_at y.chan _ j (granted-clear W P y o g.w g.ws g.front v) el in
                let now : (fired W P y o).chan j ≡ leaves k g.w ∷ [] =
                ap (λ (z : Flow). z.chan j) g.result ∙ into (past W P H.events).sent y G o hn g T j el ∙ ap (λ (l : List ℕ). l ++ (leaves k g.w ∷ [])) nil in
                ap (λ (out : Fired). waiting_at out.next j) u
                ∙ waiting_is x' j
                ∙ ap oldest (M.chan j ∙ now)
                ∙ ap Some (sym (word_leaves k g.w p.others p.comes p.later p.whole));
          }

pub fires_move_on : FiresMoveOn
fires_move_on W L P ks = one_on W (rooted W L) P (run W P ks) (follows W (rooted W L) P ks)
