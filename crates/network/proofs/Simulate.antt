-- Every run of the machine has a run of the network with history beside it.
use Rattle.std.proofs.Common.{◌≡◌, ℕ, zero, suc, ◌+◌, ◌<◌, Bool, true, false, cond, ◌&&◌, eqb, ltb, List, [], ◌∷◌, ◌++◌, length, get_or, replicate, Some, None, Ok, Err, Option, Result, sym, refl, ap, ◌∙◌, inl, inr, append-nil, arith, eq-eqb, ltb-true, lt-ltb, ne_eqb}
use Rattle.std.proofs.lemmas.List.{length-replicate}
use Rattle.std.proofs.lemmas.Bool.{and_from}
use mathlib.Core.Path.{fun_ext}
use native.Mathlib.Decide.{ℕ_discrete}
use Rattle.refusal.specs.declared.drive.FireFault.{FireFault}
use Rattle.refusal.specs.declared.drive.FireFault.TheVariants.{NoCard, NoInput}
use Rattle.refusal.specs.declared.drive.TakeFault.{TakeFault}
use Rattle.refusal.specs.declared.drive.TakeFault.TheVariants.{InboxEmpty, NoReader}
use Rattle.refusal.specs.declared.send.PacketFault.{PacketFault}
use Rattle.wiring.specs.Shapes.{Shape, most_cards}
use Rattle.station.specs.Plans.{Verdicts}
use Rattle.station.specs.declared.channel.Channel.{Channel}
use Rattle.station.specs.declared.channel.Channel.TheVariants.{DownLink, Queued, TurnLink, UpLink}
use Rattle.station.specs.declared.hold.Hold.TheVariants.{Free}
use Rattle.station.specs.declared.hold.Input.{Input}
use Rattle.station.specs.declared.hold.Station.{Station}
use Rattle.station.specs.declared.hold.Station.TheVariants.{Down, Up}
use Rattle.network.specs.Arrivals.{Parcel}
use Rattle.network.specs.Cards.{Card, State, blank, card_at, empty, oldest, on_card, with_inbox, with_queue, younger}
use Rattle.network.specs.Fires.{Fired, and_then, fire_step, passing, waits}
use Rattle.network.specs.Nodes.{Node, card_of, down, input_of, node_of, number, station_of, target, up}
use Rattle.network.specs.Owed.{hold_in, hold_of, holds, on_link, reads}
use Rattle.network.specs.Runs.{Call, Run, fire, if_granted, one_if, onward, owed, run, run_from, send, start, take, word_of}
use Rattle.network.specs.Sends.{Way, send_way, sent_answer, sent_state}
use Rattle.network.specs.Takes.{Taken, taken_by}
use Rattle.network.proofs.Basics.{put_other, put_same}
use Rattle.network.proofs.Channels.{Rooted, channel_discrete}
use Rattle.network.proofs.Flow.{Flow, fired, fired_by, pass, refusal}
use Rattle.network.proofs.History.{Event, History, happens, is_granted, is_none, moving, none_yet, past, queued, queueing, resting, sendable, step_fire, step_send, taking, took_by}
use Rattle.network.proofs.Inputs.{input_known}
use Rattle.network.proofs.Match.{Beside, Matches, beside}
use Rattle.network.proofs.UnderWay.{put}
use Rattle.network.proofs.HistoryLaws.{Good, run_good}
use Rattle.network.proofs.Sendings.{sends_is}
use Rattle.network.proofs.Stands.{map_hold, stands, stands_by}
use Rattle.network.proofs.Table.{boxed, boxed_hold, boxed_inbox, boxed-length, boxed-reads, change, filled, keeps, pour, pour_hold, pour_inbox, pour-length, pour_other, pour_same}

-- the event of the network that goes with a call of the machine
unfoldable pub move_or : Option Channel → Event
move_or None = resting
move_or (Some o) = moving o

unfoldable pub beneath : Shape → Call → Event
beneath W (send c p) = queueing c p
beneath W (fire c t i) = cond (ltb c W.cards) (move_or (input_of W (node_of c t) i)) resting
beneath W (take c) = cond (ltb c W.cards) (taking c) resting
beneath W owed = resting

-- a run of the machine beside a history of the network
pub record Follows (W : Shape) (P : Verdicts) (r : Run) (h : History) : Type 0 where
  pub match : Matches W P r.tree h.flow
  pub sends : r.sends ≡ h.sent
  pub moves : r.fires ≡ h.fires
  pub takes : (d : ℕ) → r.taken d ≡ h.flow.taken d

fired_taken : (W : Shape) (P : Verdicts) (y : Flow) (o : Channel) → (fired W P y o).taken ≡ y.taken
unfolding fired fired_by pass
fired_taken W P y o = ways (y.chan o) (refusal W P y o)
  where
    ways : (l : List ℕ) (r : Option FireFault) → (fired_by W P y o l r).taken ≡ y.taken
    ways [] r = refl
    ways (w ∷ ws) None = refl
    ways (w ∷ ws) (Some r) = refl

blank-at : (n c : ℕ) → get_or (replicate n blank) c blank ≡ blank
blank-at zero c = refl
blank-at (suc n) zero = refl
blank-at (suc n) (suc c) = blank-at n c

empty_match : (W : Shape) (P : Verdicts) → Matches W P empty none_yet.flow
unfolding reads hold_of stands stands_by map_hold holds on_link hold_in
empty_match W P =
    record {
      size = length-replicate most_cards blank;
      chan = λ o. ap (holds o) (blank-at most_cards (number o)) ∙ none_in o;
      hold = λ s. ap (λ (k : Card). map_hold (input_of W s) (hold_in s k)) (blank-at most_cards (card_of s)) ∙ none_at s;
      inbox = λ c. ap (λ (k : Card). k.inbox) (blank-at most_cards c);
    }
  where
    none_in : (o : Channel) → holds o blank ≡ []
    none_in (Queued c) = refl
    none_in (UpLink c) = refl
    none_in (TurnLink c) = refl
    none_in (DownLink c) = refl

    none_at : (s : Node) → map_hold (input_of W s) (hold_in s blank) ≡ Free
    none_at (up c) = refl
    none_at (down c) = refl

pub node_card : (c : ℕ) (t : Station) → card_of (node_of c t) ≡ c
unfolding card_of
node_card c Up = refl
node_card c Down = refl

node_station : (c : ℕ) (t : Station) → station_of (node_of c t) ≡ t
unfolding station_of
node_station c Up = refl
node_station c Down = refl

module _ (W : Shape) (L : Rooted W) (P : Verdicts) where
  -- a fire at an input that there is, beside the network's
  pub fire_beside : (x : State) (y : Flow) → Matches W P x y → Good W y → (c : ℕ) (t : Station) (i : Input) (o : Channel) → c < W.cards → input_of W (node_of c t) i ≡ Some o →
      Beside W P x y o (fire_step W P x c t i) × (number o < W.cards)
  fire_beside x y M G c t i o hc e =
      let k = input_known W L (node_of c t) i o (rw (node_card c t) hc) e in
      let at : input_of W (target W o) i ≡ Some o = ap (λ (s : Node). input_of W s i) k.0 ∙ e in
      let b = beside W L P x y M G o i at k.1 in
      let cs : card_of (target W o) ≡ c = ap card_of k.0 ∙ node_card c t in
      let ts : station_of (target W o) ≡ t = ap station_of k.0 ∙ node_station c t in
      let z : fire_step W P x c t i ≡ and_then x (waits x o) (λ w. passing W P x c t i o w) = rw (lt-ltb c W.cards hc, e) in
      (rw (z, ← cs, ← ts) b, k.1)

  module _ (r : Run) (h : History) (F : Follows W P r h) (G : Good W h.flow) where
    abbrev x : State
    x = r.tree

    abbrev y : Flow
    y = h.flow

    -- a send
    queued_match : (c : ℕ) (p : List ℕ) → c < W.cards → Matches W P (on_card x c (with_queue ((card_at x c).queue ++ p))) (queued y c p)
    unfolding queued number keeps stands pour change filled reads holds
    queued_match c p hc =
        let M = F.match in
        let l : List ℕ = reads x (Queued c) ++ p in
        let inside : c < length x = let f = L.few in rw M.size (omega arith) in
        record {
          size = pour-length x (Queued c) l ∙ M.size;
          chan = λ o.
              elim (channel_discrete o (Queued c)) [
                | yes e ↦ rw e (pour_same x (Queued c) l inside ∙ ap (λ (l : List ℕ). l ++ p) (M.chan (Queued c)) ∙ sym (put_same channel_discrete y.chan (Queued c) (y.chan (Queued c) ++ p)))
                | no n ↦ pour_other x (Queued c) o l inside n ∙ M.chan o ∙ sym (put_other channel_discrete y.chan (Queued c) (y.chan (Queued c) ++ p) o n)
              ];
          hold = λ s. ap (map_hold (input_of W s)) (pour_hold x (Queued c) l s inside) ∙ M.hold s;
          inbox = λ d. pour_inbox x (Queued c) l d inside ∙ M.inbox d;
        }

    send_goes : (c : ℕ) (p : List ℕ) → Follows W P (onward W P r (send c p)) (happens W P (queueing c p) h)
    unfolding onward happens sendable is_granted step_send queued reads holds number
    send_goes c p = rw (ap length (F.match.chan (Queued c))) (ways (send_way W (length (y.chan (Queued c))) c p) refl)
      where
        ways : (f : Result Way PacketFault) → send_way W (length (y.chan (Queued c))) c p ≡ f →
            Follows W P (record { tree = sent_state x c p f; sends = r.sends ++ if_granted (sent_answer f) (c, p); fires = r.fires; taken = r.taken }) (step_send h c p (is_granted f))
        ways (Ok w) e =
            let s = sends_is W L (length (y.chan (Queued c))) c p w e in
            record { match = queued_match c p s.known; sends = ap (λ (l : List Parcel). l ++ ((c, p) ∷ [])) F.sends; moves = F.moves; takes = F.takes }
        ways (Err f) e = record { match = F.match; sends = append-nil r.sends ∙ F.sends; moves = F.moves; takes = F.takes }

    -- a fire
    abbrev fired_run : Fired → Run
    fired_run a = record { tree = a.next; sends = r.sends; fires = r.fires + one_if a.answer; taken = r.taken }

    refused_fire : (f : FireFault) → Follows W P (fired_run (record { answer = Err f; next = x })) h
    refused_fire f = record { match = F.match; sends = F.sends; moves = let g = F.moves in omega arith; takes = F.takes }

    fire_some : (c : ℕ) (t : Station) (i : Input) (o : Channel) → c < W.cards → input_of W (node_of c t) i ≡ Some o → Follows W P (fired_run (fire_step W P x c t i)) (happens W P (moving o) h)
    unfolding happens step_fire is_none
    fire_some c t i o hc e =
        let (b, hn) = fire_beside x y F.match G c t i o hc e in
        ways (fire_step W P x c t i) b (lt-ltb (number o) W.cards hn)
      where
        ways : (out : Fired) → Beside W P x y o out → ltb (number o) W.cards ≡ true → Follows W P (fired_run out) (happens W P (moving o) h)
        ways out (inl (n, x', e₁, r₁, m)) l =
            let z : ltb (number o) W.cards && is_none (refusal W P y o) ≡ true = and_from _ _ l (ap is_none r₁) in
            rw (z, e₁) (record { match = m; sends = F.sends; moves = ap (λ (n : ℕ). n + 1) F.moves; takes = λ d. F.takes d ∙ sym (ap (λ (f : ℕ → List ℕ). f d) (fired_taken W P y o)) })
        ways out (inr (f, e₁, e₂)) l =
            let z : ltb (number o) W.cards && is_none (refusal W P y o) ≡ false = rw (l, e₂) in
            rw (z, e₁) (refused_fire f)

    fire_goes : (c : ℕ) (t : Station) (i : Input) → Follows W P (onward W P r (fire c t i)) (happens W P (beneath W (fire c t i)) h)
    unfolding beneath onward move_or happens
    fire_goes c t i = ways (ltb c W.cards) refl
      where
        at : (b : Bool) → ltb c W.cards ≡ b → b ≡ true → (o : Option Channel) → input_of W (node_of c t) i ≡ o → Follows W P (fired_run (fire_step W P x c t i)) (happens W P (move_or o) h)
        at b q z None e = let u : fire_step W P x c t i ≡ record { answer = Err NoInput; next = x } = rw (q ∙ z, e) in rw u (refused_fire NoInput)
        at b q z (Some o) e = fire_some c t i o (ltb-true c W.cards (q ∙ z)) e

        ways : (b : Bool) → ltb c W.cards ≡ b → Follows W P (fired_run (fire_step W P x c t i)) (happens W P (cond b (move_or (input_of W (node_of c t) i)) resting) h)
        ways true q = at true q refl (input_of W (node_of c t) i) refl
        ways false q = let u : fire_step W P x c t i ≡ record { answer = Err NoCard; next = x } = rw q in rw u (refused_fire NoCard)

    -- a take
    took_match : (c w : ℕ) (ws : List ℕ) → c < W.cards → y.inbox c ≡ w ∷ ws → Matches W P (on_card x c (with_inbox ws)) (took_by y c (w ∷ ws))
    unfolding took_by stands boxed change
    took_match c w ws hc e =
        let M = F.match in
        let inside : c < length x = let f = L.few in rw M.size (omega arith) in
        record {
          size = boxed-length x c ws inside ∙ M.size;
          chan = λ o. boxed-reads x c ws inside o ∙ M.chan o;
          hold = λ s. ap (map_hold (input_of W s)) (boxed_hold x c ws inside s) ∙ M.hold s;
          inbox = λ d. boxed_inbox x c ws inside d ∙ ap (λ (f : ℕ → List ℕ). put ℕ_discrete f c ws d) (fun_ext M.inbox);
        }

    took_taken : (c d w : ℕ) → r.taken d ++ cond (eqb d c) (w ∷ []) [] ≡ put ℕ_discrete y.taken c (y.taken c ++ (w ∷ [])) d
    took_taken c d w =
        elim (ℕ_discrete d c) [
          | yes e ↦ rw (e, eq-eqb c c refl, F.takes c) (sym (put_same ℕ_discrete y.taken c (y.taken c ++ (w ∷ []))))
          | no n ↦ rw (ne_eqb d c n) (append-nil (r.taken d) ∙ F.takes d ∙ sym (put_other ℕ_discrete y.taken c (y.taken c ++ (w ∷ [])) d n))
        ]

    none_taken : (c d : ℕ) → r.taken d ++ cond (eqb d c) [] [] ≡ r.taken d
    none_taken c d = ways (eqb d c)
      where
        ways : (b : Bool) → r.taken d ++ cond b [] [] ≡ r.taken d
        ways true = append-nil (r.taken d)
        ways false = append-nil (r.taken d)

    abbrev took_run : ℕ → Taken → Run
    took_run c a = record { tree = a.next; sends = r.sends; fires = r.fires; taken = λ d. r.taken d ++ cond (eqb d c) (word_of a.answer) [] }

    refused_take : (c : ℕ) (f : TakeFault) → Follows W P (took_run c (record { answer = Err f; next = x })) h
    refused_take c f = record { match = F.match; sends = F.sends; moves = F.moves; takes = λ d. none_taken c d ∙ F.takes d }

    take_goes : (c : ℕ) → Follows W P (onward W P r (take c)) (happens W P (beneath W (take c)) h)
    unfolding beneath onward happens took_by
    take_goes c = ways (ltb c W.cards) refl
      where
        at : c < W.cards → (l : List ℕ) → y.inbox c ≡ l → (card_at x c).inbox ≡ l → Follows W P (took_run c (taken_by x c (oldest l))) (record { flow = took_by y c l; sent = h.sent; fires = h.fires })
        at hc [] e f = refused_take c InboxEmpty
        at hc (w ∷ ws) e f =
            rw (ap younger f) (record { match = took_match c w ws hc e; sends = F.sends; moves = F.moves; takes = λ d. took_taken c d w })

        ways : (b : Bool) → ltb c W.cards ≡ b →
            Follows W P (took_run c (cond b (taken_by x c (oldest (card_at x c).inbox)) (record { answer = Err NoReader; next = x }))) (happens W P (cond b (taking c) resting) h)
        ways true e =
            let z = F.match.inbox c in
            rw (ap oldest z) (at (ltb-true c W.cards e) (y.inbox c) refl z)
        ways false e = refused_take c NoReader

    pub goes : (k : Call) → Follows W P (onward W P r k) (happens W P (beneath W k) h)
    unfolding beneath onward happens
    goes (send c p) = send_goes c p
    goes (fire c t i) = fire_goes c t i
    goes (take c) = take_goes c
    goes owed = F

  -- the history beside a run
  pub record History-of (r : Run) : Type 0 where
    pub events : List Event
    pub same : Follows W P r (past W P events)

  pub follows_from : (ks : List Call) (r : Run) → History-of r → History-of (run_from W P r ks)
  unfolding run_from past
  follows_from [] r H = H
  follows_from (k ∷ ks) r H =
      follows_from ks (onward W P r k)
      (record { events = beneath W k ∷ H.events; same = goes r (past W P H.events) H.same (run_good W L P H.events) k })

  pub follows : (ks : List Call) → History-of (run W P ks)
  unfolding run past
  follows ks = follows_from ks start (record { events = []; same = record { match = empty_match W P; sends = refl; moves = refl; takes = λ d. refl } })
