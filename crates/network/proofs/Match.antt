-- The state of the tree and the network with its history: when they match, and that a fire keeps them so.
use Rattle.std.proofs.Common.{◌≡◌, ℕ, ◌<◌, Bool, true, false, cond, not, ◌&&◌, leb, ◌≢◌, ◌⊎◌, List, [], ◌∷◌, ◌++◌, length, Some, None, Ok, Err, Option, Result, sym, refl, ap, ◌∙◌, ap₂, inl, inr, append-nil, arith}
use Rattle.std.specs.List.{AllByRecursion}
use Rattle.std.specs.Option.{option_map}
use Rattle.std.proofs.lemmas.Option.{same_Some}
use Rattle.std.proofs.lemmas.Bool.{and_parts, not-true}
use mathlib.Core.Logic.{if_neg, if_pos}
use mathlib.Core.Path.{fun_ext}
use native.Mathlib.Decide.{ℕ_discrete}
use Rattle.refusal.specs.declared.drive.FireFault.{FireFault}
use Rattle.refusal.specs.declared.drive.FireFault.TheVariants.{HeldByOther, InboxFull, LinkOccupied, NothingWaits}
use Rattle.packet.specs.Words.{kind_of}
use Rattle.packet.specs.Packets.{is_head_word, is_tail_word}
use Rattle.wiring.specs.Shapes.{Shape, most_cards}
use Rattle.station.specs.Holds.{after, merge}
use Rattle.station.specs.Plans.{Verdicts, planned, sum_of}
use Rattle.station.specs.declared.channel.Channel.{Channel}
use Rattle.station.specs.declared.hold.Hold.{Hold}
use Rattle.station.specs.declared.hold.Input.{Input}
use Rattle.station.specs.declared.plan.Plan.{Plan}
use Rattle.network.specs.Cards.{State, inbox_room, oldest}
use Rattle.network.specs.Fires.{Fired, and_then, carried, carry, clear, consumed, kept, passed, passing, waiting_at, waits_by, written}
use Rattle.network.specs.Nodes.{Node, card_of, input_of, number, station_of, target}
use Rattle.network.specs.Owed.{hold_of, reads}
use Rattle.network.proofs.Basics.{put_other, put_same, next_end, first_fits}
use Rattle.network.proofs.Channels.{Rooted, channel_discrete, node_discrete}
use Rattle.network.proofs.Delivery.{Brings, delivered}
use Rattle.network.proofs.Flow.{Flow, admits, all_clear, fired, fired_by, fits, holder, is_empty, pass, push_all, refusal, refusal_at, refusal_by}
use Rattle.network.proofs.Inputs.{input_same, same_input_not, same_input_self}
use Rattle.network.proofs.UnderWay.{delivers, leaves, next, outs_of, put}
use Rattle.network.proofs.StationParts.{delivers_by, hold_after, leaves_by, outs_by}
use Rattle.network.proofs.Phases.{delivers-phase, hold_phase, leaves-phase, outs-phase, phase}
use Rattle.network.proofs.Planned.{kept_words, links_of, merge_by_lem, merge-head, merge-later, merge_by, plan_after, plan-kept, plan_links, plan_word}
use Rattle.network.proofs.Preserve.{all_send, holder_tail, passed-at, passed_out, source_at, source_out}
use Rattle.network.proofs.HistoryLaws.{Good, admitted, outs_of_distinct}
use Rattle.network.proofs.Stands.{after_map, delivers-map, held_for, held_for-map, leaves_map, map_hold, outs-map, phase_for, stands, stands_by}
use Rattle.network.proofs.Table.{boxed_hold, boxed_inbox, boxed-length, boxed-reads, inbox_at, pour, pour_hold, pour_inbox, pour-length, pour_other, pour-rest, stand, stand_inbox, stand-length, stand_other, stand-reads, stand_same, write_all, writes, writes_keep}
use Rattle.network.proofs.Outputs.{all_map, all_map₂}
use Rattle.network.proofs.Ranks.{Out, outs_of_lower, target-known}
use Rattle.network.proofs.Writes.{consumed_is, hold_is, inbox_taken_lem, kept_is, link_taken_lem, passed_is, waiting_is, written_is}

pub record Matches (W : Shape) (P : Verdicts) (x : State) (y : Flow) : Type 0 where
  pub size : length x ≡ most_cards
  pub chan : (o : Channel) → reads x o ≡ y.chan o
  pub hold : (s : Node) → map_hold (input_of W s) (hold_of x s) ≡ map_hold Some (stands P y s)
  pub inbox : (c : ℕ) → inbox_at x c ≡ y.inbox c

fits_first : (q : List ℕ) (w : ℕ) → q ≡ [] → fits q w ≡ true → is_head_word w ≡ true
unfolding fits
fits_first [] w e f = f
fits_first (h ∷ q) w e f = absurd (grind arith)

fits-later : (q : List ℕ) (w : ℕ) → is_empty q ≡ false → fits q w ≡ true → is_head_word w ≡ false
unfolding fits is_empty
fits-later [] w e f = absurd (grind arith)
fits-later (h ∷ q) w e f = not-true (is_head_word w) f

pub clear_all : (f : Channel → List ℕ) (os : List Channel) → all_clear f os ≡ true → AllByRecursion (λ o. f o ≡ []) os
unfolding all_clear is_empty
clear_all f [] e = tt
clear_all f (o ∷ os) e = (nil (f o) (and_parts _ _ e).0, clear_all f os (and_parts (is_empty (f o)) _ e).1)
  where
    nil : (l : List ℕ) → is_empty l ≡ true → l ≡ []
    nil [] e = refl
    nil (w ∷ ws) e = absurd (grind arith)

-- a fire of the machine beside the one of the network
abbrev pub Beside : Shape → Verdicts → State → Flow → Channel → Fired → Type 0
Beside W P x y o out =
    ((n : ℕ) × (x' : State) × (out ≡ record { answer = Ok n; next = x' }) × (refusal W P y o ≡ None) × Matches W P x' (fired W P y o)) ⊎
    ((r : FireFault) × (out ≡ record { answer = Err r; next = x }) × (refusal W P y o ≡ Some r))

module _
    (W : Shape)
    (L : Rooted W)
    (P : Verdicts)
    (x : State)
    (y : Flow)
    (M : Matches W P x y)
    (G : Good W y)
    (o : Channel)
    (i : Input)
    (at : input_of W (target W o) i ≡ Some o)
    (hn : number o < W.cards) where
  abbrev s : Node
  s = target W o

  abbrev q : List ℕ
  q = y.passed o

  abbrev d : Hold Input
  d = hold_of x s

  chans : reads x ≡ y.chan
  chans = fun_ext M.chan

  pub card_of-known : card_of s < W.cards
  card_of-known = target-known W L o hn

  -- a station that takes from o stands as the words say that have passed from o
  takes_so : admits (y.source s) o ≡ true → stands P y s ≡ phase P s o q
  unfolding stands stands_by admits phase
  takes_so a = ways (y.source s) refl a
    where
      ways : (k : Option Channel) → y.source s ≡ k → admits k o ≡ true → stands_by P s y.passed k ≡ phase P s o q
      ways None e a = sym (ap (phase P s o) (G.inv.quiet o (λ p. grind arith)))
      ways (Some j) e a =
          elim (channel_discrete o j) [
            | yes p ↦ ap (λ (j : Channel). phase P s j (y.passed j)) (sym p)
            | no n ↦ absurd (let z = if_neg (channel_discrete o j) n true false in grind arith)
          ]

  source_for : held_for (stands P y s) ≡ y.source s
  unfolding stands stands_by held_for
  source_for = ways (y.source s) refl
    where
      ways : (k : Option Channel) → y.source s ≡ k → held_for (stands_by P s y.passed k) ≡ k
      ways None e = refl
      ways (Some j) e = phase_for P s j (y.passed j) (G.inv.begun s j e)

  for_same : option_map (input_of W s) (held_for d) ≡ option_map Some (y.source s)
  for_same = sym (held_for-map (input_of W s) d) ∙ ap held_for (M.hold s) ∙ held_for-map Some (stands P y s) ∙ ap (option_map Some) source_for

  merges : (w : ℕ) → fits q w ≡ true → merge d i w ≡ cond (admits (y.source s) o) (Ok tt) (Err HeldByOther)
  unfolding merge_by admits is_head_word
  merges w f = merge_by_lem d i w ∙ ways (held_for d) (y.source s) refl for_same
    where
      ways : (j : Option Input) (k : Option Channel) → y.source s ≡ k → option_map (input_of W s) j ≡ option_map Some k → merge_by j i (kind_of w) ≡ cond (admits k o) (Ok tt) (Err HeldByOther)
      ways None None e m = merge-head (kind_of w) (fits_first q w (G.inv.quiet o (λ p. grind arith)) f)
      ways None (Some k) e m = absurd (grind arith)
      ways (Some j) None e m = absurd (grind arith)
      ways (Some j) (Some k) e m =
          let jk : input_of W s j ≡ Some k = cc in
          elim (channel_discrete o k) [
            | yes p ↦
                let ji : j ≡ i = input_same W L s i j o at (jk ∙ ap Some (sym p)) in
                rw (ji, same_input_self i, merge-later (kind_of w) (fits-later q w (G.inv.begun s o (e ∙ ap Some (sym p))) f), if_pos (channel_discrete o k) p true false)
            | no n ↦
                rw (same_input_not j i (λ ji. n (same_Some _ _ (sym at ∙ ap (input_of W s) (sym ji) ∙ jk))), if_neg (channel_discrete o k) n true false)
          ]

  -- what the station does, by the words that have passed
  module _ (w : ℕ) (ws : List ℕ) (front : y.chan o ≡ w ∷ ws) (a : admits (y.source s) o ≡ true) where
    abbrev os : List Channel
    os = outs_of W s (q ++ (w ∷ []))

    abbrev ds : List ℕ
    ds = delivers P s q w

    abbrev p : Plan ℕ
    p = planned W P (card_of s) (station_of s) d w

    maps : map_hold (input_of W s) d ≡ map_hold Some (phase P s o q)
    maps = M.hold s ∙ ap (map_hold Some) (takes_so a)

    links : links_of (card_of s) p ≡ os
    links =
        plan_links W L P s d w card_of-known
        ∙ sym (outs-map (input_of W s) W s d w) ∙ ap (λ (d : Hold (Option Channel)). outs_by W s d w) maps ∙ outs-map Some W s (phase P s o q) w ∙ outs-phase P W s o q w

    word : p.word ≡ leaves q w
    word =
        plan_word W L P s d w
        ∙ sym (leaves_map (input_of W s) d w) ∙ ap (λ (d : Hold (Option Channel)). leaves_by d w) maps ∙ leaves_map Some (phase P s o q) w ∙ leaves-phase P s o q w

    keeps-words : kept_words p.here ≡ ds
    keeps-words =
        plan-kept W L P s d w
        ∙ sym (delivers-map (input_of W s) P s d w) ∙ ap (λ (d : Hold (Option Channel)). delivers_by P s d w) maps ∙ delivers-map Some P s (phase P s o q) w ∙ delivers-phase P s o q w

    takes : (y.source s ≡ None) ⊎ (y.source s ≡ Some o)
    takes = admitted W L P (y.source s) o a

    abbrev y' : Flow
    y' = pass W P y o s q w ws

    -- the inbox, the channel, the links and the station, one after the other
    abbrev x₁ : State
    x₁ = kept (card_of s) p.here x

    abbrev x₂ : State
    x₂ = pour x₁ o ws

    abbrev x₃ : State
    x₃ = write_all x₂ os (leaves q w)

    abbrev x' : State
    x' = stand x₃ s (hold_after P s i d w)

    card_inside : card_of s < length x
    card_inside = let h = card_of-known in let f = L.few in rw M.size (omega arith)

    boxes : (length x₁ ≡ length x) × ((p : Channel) → reads x₁ p ≡ reads x p) × ((t : Node) → hold_of x₁ t ≡ hold_of x t) × ((c : ℕ) → inbox_at x₁ c ≡ put ℕ_discrete (λ c. inbox_at x c) (card_of s) (inbox_at x (card_of s) ++ ds) c)
    unfolding is_empty
    boxes = ways ds keeps-words (delivered P s q w)
      where
        ways : (l : List ℕ) → kept_words p.here ≡ l → Brings w l →
            (length x₁ ≡ length x) × ((p : Channel) → reads x₁ p ≡ reads x p) × ((t : Node) → hold_of x₁ t ≡ hold_of x t) × ((c : ℕ) → inbox_at x₁ c ≡ put ℕ_discrete (λ c. inbox_at x c) (card_of s) (inbox_at x (card_of s) ++ l) c)
        ways l e (inl n) =
            let z = (kept_is x (card_of s) p.here).0 (e ∙ n) in
            rw (z, n) (
              refl,
              λ p. refl,
              λ t. refl,
              λ c. elim (ℕ_discrete c (card_of s)) [
                | yes r ↦ rw (r, put_same ℕ_discrete (λ c. inbox_at x c) (card_of s) (inbox_at x (card_of s) ++ [])) (sym (append-nil (inbox_at x (card_of s))))
                | no r ↦ sym (put_other ℕ_discrete (λ c. inbox_at x c) (card_of s) (inbox_at x (card_of s) ++ []) c r)
              ],
            )
        ways l e (inr (v, n, k)) =
            let z = (kept_is x (card_of s) p.here).1 v (e ∙ n) in
            let b : List ℕ = inbox_at x (card_of s) ++ (v ∷ []) in
            rw (z, n) (boxed-length x (card_of s) b card_inside, boxed-reads x (card_of s) b card_inside, boxed_hold x (card_of s) b card_inside, boxed_inbox x (card_of s) b card_inside)

    inside : number o < length x₁
    inside = let f = L.few in rw (boxes.0, M.size) (omega arith)

    known : AllByRecursion (λ p. number p < length x₁) os
    known = all_map (Out W s) _ (λ p l. let f = L.few in let k = l.known in rw (boxes.0, M.size) (omega arith)) os (outs_of_lower W L s (q ++ (w ∷ [])) (target-known W L o hn))

    chan₁ : (p : Channel) → reads x₁ p ≡ y.chan p
    chan₁ p = boxes.1 p ∙ M.chan p

    popped : (p : Channel) → reads x₂ p ≡ put channel_discrete y.chan o ws p
    popped p =
        elim (channel_discrete p o) [
          | yes e ↦ rw e (pour-rest x₁ o w ws inside (chan₁ o ∙ front) ∙ sym (put_same channel_discrete y.chan o ws))
          | no n ↦ pour_other x₁ o p ws inside n ∙ chan₁ p ∙ sym (put_other channel_discrete y.chan o ws p n)
        ]

    module _ (cl : all_clear y.chan os ≡ true) where
      ready : AllByRecursion (λ p. (number p < length x₂) × (reads x₂ p ≡ [])) os
      ready =
          all_map₂ _ _ _ (λ p l t. (rw (pour-length x₁ o ws) (l), t)) os known
          (all_map₂ _ _ _ (λ p u v. pour_other x₁ o p ws inside u.other ∙ chan₁ p ∙ v) os
          (all_send W L P y G.inv o w ws hn front takes)
          (clear_all y.chan os cl))

      kept₃ : (length x₃ ≡ length x₂) × ((t : Node) → hold_of x₃ t ≡ hold_of x₂ t) × ((c : ℕ) → inbox_at x₃ c ≡ inbox_at x₂ c)
      kept₃ = writes_keep os x₂ (leaves q w) (all_map _ _ (λ p l. l.0) os ready)

      room : card_of s < length x₃
      room = let h = card_inside in rw (kept₃.0, pour-length x₁ o ws, boxes.0) h

      hold₃ : (t : Node) → hold_of x₃ t ≡ hold_of x t
      hold₃ t = kept₃.1 t ∙ pour_hold x₁ o ws t inside ∙ boxes.2 t

      chan' : (p : Channel) → reads x' p ≡ y'.chan p
      unfolding pass
      chan' p =
          stand-reads x₃ s (hold_after P s i d w) room p
          ∙ writes os x₂ (leaves q w) (outs_of_distinct W L P s (q ++ (w ∷ []))) ready p
          ∙ ap (λ (f : Channel → List ℕ). push_all os (leaves q w) f p) (fun_ext popped)

      hold_here : map_hold (input_of W s) (hold_after P s i d w) ≡ map_hold Some (phase P s o (next q w))
      hold_here =
          after_map (input_of W s) P s i d w
          ∙ ap₂ (λ (k : Option Channel) (d : Hold (Option Channel)). hold_after P s k d w) at maps
          ∙ sym (after_map Some P s o (phase P s o q) w)
          ∙ ap (map_hold Some) (hold_phase P s o q w)

      stands_here : stands P y' s ≡ phase P s o (next q w)
      unfolding stands stands_by phase
      stands_here =
          ap (stands_by P s y'.passed) (source_at W L P y G.inv o w ws hn front takes) ∙ ways (is_tail_word w) refl
        where
          ways : (b : Bool) → is_tail_word w ≡ b → stands_by P s y'.passed (holder o w) ≡ phase P s o (next q w)
          ways true e = ap (stands_by P s y'.passed) (holder_tail o w true e) ∙ sym (ap (phase P s o) (next_end q w e))
          ways false e = ap (stands_by P s y'.passed) (holder_tail o w false e) ∙ ap (phase P s o) (passed-at W L P y G.inv o w ws hn front takes)

      stands_there : (t : Node) → t ≢ s → stands P y' t ≡ stands P y t
      unfolding stands stands_by
      stands_there t n = ap (stands_by P t y'.passed) (source_out W L P y G.inv o w ws hn front takes t n) ∙ ways (y.source t) refl
        where
          ways : (k : Option Channel) → y.source t ≡ k → stands_by P t y'.passed k ≡ stands_by P t y.passed k
          ways None e = refl
          ways (Some j) e = ap (phase P t j) (passed_out W L P y G.inv o w ws hn front takes j (λ p. n (sym (G.inv.home t j e) ∙ ap (target W) p)))

      hold' : (t : Node) → map_hold (input_of W t) (hold_of x' t) ≡ map_hold Some (stands P y' t)
      hold' t =
          elim (node_discrete t s) [
            | yes p ↦ rw p (ap (map_hold (input_of W s)) (stand_same x₃ s (hold_after P s i d w) room) ∙ hold_here ∙ sym (ap (map_hold Some) stands_here))
            | no n ↦
                ap (map_hold (input_of W t)) (stand_other x₃ s (hold_after P s i d w) room t n ∙ hold₃ t)
                ∙ M.hold t
                ∙ sym (ap (map_hold Some) (stands_there t n))
          ]

      inbox' : (c : ℕ) → inbox_at x' c ≡ y'.inbox c
      unfolding pass
      inbox' c =
          let same : (λ c. inbox_at x c) ≡ y.inbox = fun_ext M.inbox in
          stand_inbox x₃ s (hold_after P s i d w) room c
          ∙ kept₃.2 c ∙ pour_inbox x₁ o ws c inside ∙ boxes.3 c
          ∙ ap (λ (f : ℕ → List ℕ). put ℕ_discrete f (card_of s) (f (card_of s) ++ ds) c) same

      pub passes : Matches W P x' y'
      passes =
          record {
            size = stand-length x₃ s (hold_after P s i d w) room ∙ kept₃.0 ∙ pour-length x₁ o ws ∙ boxes.0 ∙ M.size;
            chan = chan';
            hold = hold';
            inbox = inbox';
          }

      -- that is the state the machine carries the word to
      pub carried_is : carried (card_of s) (station_of s) i o w p x ≡ x'
      carried_is =
          let a : consumed o x₁ ≡ x₂ = consumed_is x₁ o w ws (chan₁ o ∙ front) in
          let b : written (card_of s) p (consumed o x₁) ≡ x₃ = written_is (consumed o x₁) (card_of s) p ∙ ap₂ (λ (z : State) (l : List Channel). write_all z l p.word) a links ∙ ap (write_all x₂ os) word in
          ap (passed (card_of s) (station_of s) i w p.here) b
          ∙ passed_is x₃ s i w p.here
          ∙ ap (λ (d : Hold Input). stand x₃ s (after d i w p.here)) (hold₃ s)
          ∙ ap (stand x₃ s) (plan_after W L P s i d w)

  -- the fire, whatever waits at the input
  full : List ℕ → Bool
  full l = not (is_empty l) && leb inbox_room (length (y.inbox (card_of s)))

  refuses : (w : ℕ) (ws : List ℕ) → y.chan o ≡ w ∷ ws → fits q w ≡ true →
      refusal W P y o ≡ cond (not (admits (y.source s) o)) (Some HeldByOther) (cond (not (all_clear y.chan (outs_of W s (q ++ (w ∷ []))))) (Some LinkOccupied) (cond (full (delivers P s q w)) (Some InboxFull) None))
  unfolding refusal refusal_by refusal_at full
  refuses w ws e f = rw (e, f)

  clears : (w : ℕ) (ws : List ℕ) (e : y.chan o ≡ w ∷ ws) (a : admits (y.source s) o ≡ true) →
      clear x (card_of s) (p w ws e a) ≡ cond (not (all_clear y.chan (outs_of W s (q ++ (w ∷ []))))) (Err LinkOccupied) (cond (full (delivers P s q w)) (Err InboxFull) (Ok tt))
  unfolding full
  clears w ws e a =
      ap₂ (λ (b c : Bool). cond b (Err LinkOccupied) (cond c (Err InboxFull) (Ok tt)))
      (link_taken_lem x (card_of s) (p w ws e a) ∙ ap₂ (λ (f : Channel → List ℕ) (l : List Channel). not (all_clear f l)) chans (links w ws e a))
      (inbox_taken_lem x (card_of s) (p w ws e a).here ∙ ap₂ (λ (l k : List ℕ). not (is_empty l) && leb inbox_room (length k)) (keeps-words w ws e a) (M.inbox (card_of s)))

  abbrev fires : Option ℕ → Fired
  fires z = and_then x (waits_by z) (λ w. passing W P x (card_of s) (station_of s) i o w)

  pub beside : Beside W P x y o (fires (waiting_at x o))
  unfolding refusal refusal_by fired fired_by
  beside = rw (waiting_is x o ∙ ap oldest (M.chan o)) (ways (y.chan o) refl)
    where
      ways : (l : List ℕ) → y.chan o ≡ l → Beside W P x y o (fires (oldest l))
      ways [] e = inr (NothingWaits, refl, ap (refusal_by W P y o) e)
      ways (w ∷ ws) e = rw (hold_is x s) (by (admits (y.source s) o) refl)
        where
          f : fits q w ≡ true
          f = first_fits q (y.chan o) w ws e (G.shaped o)

          out : Result (Unit {0}) FireFault → Fired
          out m = and_then x m (λ _. carry x (card_of s) (station_of s) i o w (planned W P (card_of s) (station_of s) d w))

          pick : Bool → Result (Unit {0}) FireFault
          pick b = cond b (Ok tt) (Err HeldByOther)

          by : (b : Bool) → admits (y.source s) o ≡ b → Beside W P x y o (out (merge d i w))
          by false a = inr (HeldByOther, ap out (merges w f ∙ ap pick a), refuses w ws e f ∙ rw a)
          by true a = last (all_clear y.chan (outs_of W s (q ++ (w ∷ [])))) refl (full (delivers P s q w)) refl
            where
              plan : Plan ℕ
              plan = p w ws e a

              then : Result (Unit {0}) FireFault → Fired
              then m = and_then x m (λ _. record { answer = Ok (sum_of plan); next = carried (card_of s) (station_of s) i o w plan x })

              to : out (merge d i w) ≡ then (clear x (card_of s) plan)
              to = ap out (merges w f ∙ ap pick a)

              test : Bool → Bool → Result (Unit {0}) FireFault
              test c b = cond (not c) (Err LinkOccupied) (cond b (Err InboxFull) (Ok tt))

              last : (c : Bool) → all_clear y.chan (outs_of W s (q ++ (w ∷ []))) ≡ c → (b : Bool) → full (delivers P s q w) ≡ b → Beside W P x y o (out (merge d i w))
              last false c b u = inr (LinkOccupied, to ∙ ap then (clears w ws e a ∙ ap₂ test c u), refuses w ws e f ∙ rw (a, c))
              last true c true u = inr (InboxFull, to ∙ ap then (clears w ws e a ∙ ap₂ test c u), refuses w ws e f ∙ rw (a, c, u))
              last true c false u =
                  let r : refusal W P y o ≡ None = refuses w ws e f ∙ rw (a, c, u) in
                  let z : fired W P y o ≡ pass W P y o s q w ws = ap₂ (fired_by W P y o) e r in
                  inl (sum_of plan, carried (card_of s) (station_of s) i o w plan x, to ∙ ap then (clears w ws e a ∙ ap₂ test c u), r, rw (z, carried_is w ws e a c) (passes w ws e a c))
