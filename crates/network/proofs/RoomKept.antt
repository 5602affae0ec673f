-- No queue and no inbox ever has more words than it has room for.
use Rattle.std.proofs.Common.{◌≡◌, ℕ, ◌+◌, ◌≤◌, Bool, true, false, cond, not, ◌&&◌, leb, List, [], ◌∷◌, ◌++◌, length, Some, None, Ok, Err, Result, sym, refl, ap, ◌∙◌, inl, inr, arith, length-append, leb-false}
use Rattle.std.proofs.lemmas.Bool.{false_from_ne_true}
use native.Mathlib.Decide.{ℕ_discrete}
use Rattle.refusal.specs.declared.drive.FireFault.TheVariants.{InboxFull}
use Rattle.refusal.specs.declared.send.PacketFault.{PacketFault}
use Rattle.wiring.specs.Shapes.{Shape}
use Rattle.station.specs.Plans.{Verdicts}
use Rattle.station.specs.declared.channel.Channel.{Channel}
use Rattle.station.specs.declared.channel.Channel.TheVariants.{Queued}
use Rattle.network.specs.Cards.{inbox_room, queue_room}
use Rattle.network.specs.Nodes.{Node, card_of, target}
use Rattle.network.specs.Sends.{Way, send_way}
use Rattle.network.proofs.Basics.{put-eq, put_other}
use Rattle.network.proofs.Channels.{Rooted, channel_discrete}
use Rattle.network.proofs.Delivery.{Brings, delivered}
use Rattle.network.proofs.Feeders.{outs_of_fed}
use Rattle.network.proofs.Flow.{Flow, admits, all_clear, fired, fits, is_empty, pass, refusal, refusal_at, refusal_by}
use Rattle.network.proofs.History.{Event, happens, is_granted, past, queued, sendable, step_fire, step_send, took_by}
use Rattle.network.proofs.HistoryLaws.{Granted, unrefused, kept, granted}
use Rattle.network.proofs.Invariant.{all_elem, elem, feeder, push_all_out}
use Rattle.network.proofs.Sendings.{sends_room}
use Rattle.network.proofs.UnderWay.{delivers, leaves, outs_of, put}

pub record Roomy (x : Flow) : Type 0 where
  pub queues : (c : ℕ) → length (x.chan (Queued c)) ≤ queue_room
  pub inboxes : (c : ℕ) → length (x.inbox c) ≤ inbox_room

-- a send
granted_room : (W : Shape) → Rooted W → (n c : ℕ) (p : List ℕ) → is_granted (send_way W n c p) ≡ true → n + length p ≤ queue_room
unfolding is_granted
granted_room W L n c p e = by (send_way W n c p) refl e
  where
    by : (r : Result Way PacketFault) → send_way W n c p ≡ r → is_granted r ≡ true → n + length p ≤ queue_room
    by (Ok w) q e = sends_room W L n c p w q
    by (Err f) q e = absurd (grind arith)

queued_room : (W : Shape) → Rooted W → (x : Flow) (c : ℕ) (p : List ℕ) → sendable W x c p ≡ true → Roomy x → Roomy (queued x c p)
unfolding sendable queued
queued_room W L x c p e R = record { queues = queues; inboxes = R.inboxes }
  where
    l : List ℕ
    l = x.chan (Queued c) ++ p

    queues : (d : ℕ) → length (put channel_discrete x.chan (Queued c) l (Queued d)) ≤ queue_room
    queues d =
        elim (channel_discrete (Queued d) (Queued c)) [
          | yes q ↦
              let t = granted_room W L (length (x.chan (Queued c))) c p e in
              let u = length-append (x.chan (Queued c)) p in
              rw (put-eq channel_discrete x.chan (Queued c) l (Queued d) q) (omega arith)
          | no n ↦ rw (put_other channel_discrete x.chan (Queued c) l (Queued d) n) (R.queues d)
        ]

-- a take
took_room : (x : Flow) (c : ℕ) (l : List ℕ) → x.inbox c ≡ l → Roomy x → Roomy (took_by x c l)
unfolding took_by
took_room x c [] e R = R
took_room x c (w ∷ ws) e R = record { queues = R.queues; inboxes = inboxes }
  where
    inboxes : (d : ℕ) → length (put ℕ_discrete x.inbox c ws d) ≤ inbox_room
    inboxes d =
        elim (ℕ_discrete d c) [
          | yes q ↦
              let t = R.inboxes c in
              let u : length (x.inbox c) ≡ length (w ∷ ws) = ap (λ (l : List ℕ). length l) e in
              rw (put-eq ℕ_discrete x.inbox c ws d q) (omega arith)
          | no n ↦ rw (put_other ℕ_discrete x.inbox c ws d n) (R.inboxes d)
        ]

-- a fire that is not refused has room for what it leaves
not_full : (c : Bool) → cond c (Some InboxFull) None ≡ None → c ≡ false
not_full true e = absurd (grind arith)
not_full false e = refl

brought_room : (w : ℕ) (b l : List ℕ) → Brings w l → length b ≤ inbox_room → not (is_empty l) && leb inbox_room (length b) ≡ false → length (b ++ l) ≤ inbox_room
unfolding is_empty
brought_room w b l (inl n) h f = let u = length-append b l in let z : length l ≡ 0 = ap (λ (l : List ℕ). length l) n in omega arith
brought_room w b l (inr (v, n, k)) h f =
    let u = length-append b l in
    let z : length l ≡ 1 = ap (λ (l : List ℕ). length l) n in
    let g : leb inbox_room (length b) ≡ false = sym (ap (λ (l : List ℕ). not (is_empty l) && leb inbox_room (length b)) n) ∙ f in
    let r = leb-false inbox_room (length b) g in
    omega arith

module _ (W : Shape) (L : Rooted W) (P : Verdicts) where
  module _ (x : Flow) (i : Channel) (free : refusal W P x i ≡ None) (g : Granted W L P x i) (R : Roomy x) where
    abbrev s : Node
    s = target W i

    abbrev q : List ℕ
    q = x.passed i

    abbrev os : List Channel
    os = outs_of W s (q ++ (g.w ∷ []))

    room_here : not (is_empty (delivers P s q g.w)) && leb inbox_room (length (x.inbox (card_of s))) ≡ false
    unfolding refusal refusal_by refusal_at
    room_here =
        let z : refusal_by W P x i (g.w ∷ g.ws) ≡ None = sym (ap (refusal_by W P x i) g.front) ∙ free in
        not_full _ (unrefused (fits q g.w) (admits (x.source s) i) (all_clear x.chan os) _ z).2

    -- no station sends into a queue
    not_into : (c : ℕ) → elem (Queued c) os ≡ false
    unfolding feeder
    not_into c = false_from_ne_true _ (λ e. let z : None ≡ Some s = all_elem (λ o. feeder W o ≡ Some s) (Queued c) os (outs_of_fed W L s (q ++ (g.w ∷ []))) e in grind arith)

    queue_is : (c : ℕ) → (pass W P x i s q g.w g.ws).chan (Queued c) ≡ put channel_discrete x.chan i g.ws (Queued c)
    unfolding pass
    queue_is c = push_all_out os (leaves q g.w) (put channel_discrete x.chan i g.ws) (Queued c) (not_into c)

    queues_kept : (c : ℕ) → length (put channel_discrete x.chan i g.ws (Queued c)) ≤ queue_room
    queues_kept c =
        elim (channel_discrete (Queued c) i) [
          | yes p ↦
              let t = R.queues c in
              let u : length (x.chan (Queued c)) ≡ length (g.w ∷ g.ws) = ap (λ (o : Channel). length (x.chan o)) p ∙ ap (λ (l : List ℕ). length l) g.front in
              rw (put-eq channel_discrete x.chan i g.ws (Queued c) p) (omega arith)
          | no n ↦ rw (put_other channel_discrete x.chan i g.ws (Queued c) n) (R.queues c)
        ]

    inboxes_kept : (c : ℕ) → length ((pass W P x i s q g.w g.ws).inbox c) ≤ inbox_room
    unfolding pass
    inboxes_kept c =
        elim (ℕ_discrete c (card_of s)) [
          | yes p ↦
              rw (put-eq ℕ_discrete x.inbox (card_of s) (x.inbox (card_of s) ++ delivers P s q g.w) c p)
              (brought_room g.w (x.inbox (card_of s)) (delivers P s q g.w) (delivered P s q g.w) (R.inboxes (card_of s)) room_here)
          | no n ↦ rw (put_other ℕ_discrete x.inbox (card_of s) (x.inbox (card_of s) ++ delivers P s q g.w) c n) (R.inboxes c)
        ]

    fired_room : Roomy (fired W P x i)
    fired_room = rw g.result (record { queues = λ c. rw (queue_is c) (queues_kept c); inboxes = inboxes_kept })

  pub run_room : (ks : List Event) → Roomy (past W P ks).flow
  unfolding happens step_send step_fire
  run_room =
      kept W L P (λ h. Roomy h.flow) (record { queues = λ c. omega arith; inboxes = λ c. omega arith })
      (λ ks c p e R. queued_room W L (past W P ks).flow c p e R)
      (λ ks i n r R. fired_room (past W P ks).flow i r (granted W L P (past W P ks).flow i r) R)
      (λ ks c R. took_room (past W P ks).flow c ((past W P ks).flow.inbox c) refl R)
