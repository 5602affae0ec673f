-- Where a word waits, some fire is granted, or refused for a full inbox alone.
use Rattle.std.proofs.Common.{◌≡◌, ℕ, zero, suc, ◌+◌, ◌<◌, ◌≤◌, Bool, true, false, cond, ◌&&◌, ◌⊎◌, List, [], ◌∷◌, ◌++◌, Some, None, Option, sym, refl, ap, ◌∙◌, inl, inr, arith}
use Rattle.network.proofs.Basics.{first_fits}
use Rattle.std.specs.List.{AllByRecursion}
use mathlib.Core.Logic.{if_neg, if_pos}
use Rattle.refusal.specs.declared.drive.FireFault.{FireFault}
use Rattle.refusal.specs.declared.drive.FireFault.TheVariants.{InboxFull}
use Rattle.packet.specs.Routes.{side_of, top_bit}
use Rattle.packet.specs.declared.sides.Side.{Side}
use Rattle.wiring.specs.Shapes.{Shape}
use Rattle.station.specs.Plans.{Verdicts}
use Rattle.station.specs.declared.channel.Channel.{Channel}
use Rattle.station.specs.declared.channel.Channel.TheVariants.{DownLink, Queued, TurnLink, UpLink}
use Rattle.network.specs.Nodes.{Node, above, card_or_zero, down, number, outs, target, up, up_link_of}
use Rattle.network.specs.Paths.{Step, climbs, descends, spreads, turns}
use Rattle.network.proofs.Channels.{Rooted, channel_discrete}
use Rattle.network.proofs.Feeders.{outs_of_more}
use Rattle.network.proofs.Flow.{Flow, admits, all_clear, fits, is_empty, refusal, refusal_at, refusal_by, shape}
use Rattle.network.proofs.Invariant.{Inv, all_elem, elem, elem_more, fall_from, feeder, feeder_by, sending, sending_from}
use Rattle.network.proofs.Outputs.{outs_of_each}
use Rattle.network.proofs.UnderWay.{moved, outs_of, rest}

pub front : (l : List ℕ) → (l ≡ []) ⊎ ((w : ℕ) × (ws : List ℕ) × (l ≡ w ∷ ws))
front [] = inl refl
front (w ∷ ws) = inr (w, ws, refl)

pub clear_or : (c : Channel → List ℕ) (os : List Channel) → (all_clear c os ≡ true) ⊎ ((o : Channel) × (elem o os ≡ true) × (is_empty (c o) ≡ false))
unfolding all_clear elem
clear_or c [] = inl refl
clear_or c (o ∷ os) = ways (is_empty (c o)) refl (clear_or c os)
  where
    ways : (b : Bool) → is_empty (c o) ≡ b → (all_clear c os ≡ true) ⊎ ((p : Channel) × (elem p os ≡ true) × (is_empty (c p) ≡ false)) →
        (is_empty (c o) && all_clear c os ≡ true) ⊎ ((p : Channel) × (elem p (o ∷ os) ≡ true) × (is_empty (c p) ≡ false))
    ways true e (inl k) = inl (rw (e, k))
    ways true e (inr (p, m, n)) = inr (p, elem_more p o os m, n)
    ways false e k = inr (o, if_pos (channel_discrete o o) refl true (elem o os), e)

pub front_of : (l : List ℕ) → is_empty l ≡ false → (w : ℕ) × (ws : List ℕ) × (l ≡ w ∷ ws)
unfolding is_empty
front_of [] e = absurd (grind arith)
front_of (w ∷ ws) e = (w, ws, refl)

module _ (W : Shape) (L : Rooted W) (P : Verdicts) (x : Flow) (I : Inv W x) (S : (o : Channel) → shape (x.passed o) (x.chan o) ≡ true)
    (known : (o : Channel) (w : ℕ) (ws : List ℕ) → x.chan o ≡ w ∷ ws → number o < W.cards) where
  abbrev Can : Channel → Type 0
  Can i = (refusal W P x i ≡ None) ⊎ (refusal W P x i ≡ Some InboxFull)

  -- some fire would be granted, or is refused by a full inbox
  abbrev Moving : Type 0
  Moving = (i : Channel) × (number i < W.cards) × Can i

  last : (b : Bool) → (cond {A = Option FireFault} b (Some InboxFull) None ≡ None) ⊎ (cond {A = Option FireFault} b (Some InboxFull) None ≡ Some InboxFull)
  last true = inr refl
  last false = inl refl

  go : (i : Channel) (w : ℕ) (ws : List ℕ) → x.chan i ≡ w ∷ ws → admits (x.source (target W i)) i ≡ true →
      all_clear x.chan (outs_of W (target W i) (x.passed i ++ (w ∷ []))) ≡ true → Moving
  unfolding refusal refusal_by refusal_at
  go i w ws e a c =
      let f : fits (x.passed i) w ≡ true = first_fits (x.passed i) (x.chan i) w ws e (S i) in
      (i, known i w ws e, rw (e, f, a, c) (last _))

  -- a station that is held for an empty channel is being sent to
  fed : (k : Channel) → is_empty (x.passed k) ≡ false → x.chan k ≡ [] →
      (t : Node) × (j : Channel) × (feeder W k ≡ Some t) × (x.source t ≡ Some j) × (elem k (outs_of W t (x.passed j)) ≡ true)
  unfolding sending sending_from is_empty rest
  fed k n e = ways (feeder W k) refl (sym (I.links k) ∙ rw e)
    where
      held : (t : Node) (o : Option Channel) → x.source t ≡ o → feeder W k ≡ Some t → sending_from W x k t o ≡ x.passed k →
          (t : Node) × (j : Channel) × (feeder W k ≡ Some t) × (x.source t ≡ Some j) × (elem k (outs_of W t (x.passed j)) ≡ true)
      held t None s f q = absurd (let z : ◌≡◌ {A = Bool} true false = ap is_empty q ∙ n in grind arith)
      held t (Some j) s f q = in_or (elem k (outs_of W t (x.passed j))) refl q
        where
          in_or : (b : Bool) → elem k (outs_of W t (x.passed j)) ≡ b → cond b (moved (x.passed j)) [] ≡ x.passed k →
              (t : Node) × (j : Channel) × (feeder W k ≡ Some t) × (x.source t ≡ Some j) × (elem k (outs_of W t (x.passed j)) ≡ true)
          in_or true m q = (t, j, f, s, m)
          in_or false m q = absurd (let z : ◌≡◌ {A = Bool} true false = ap is_empty q ∙ n in grind arith)

      ways : (t : Option Node) → feeder W k ≡ t → sending W x k t ≡ x.passed k →
          (t : Node) × (j : Channel) × (feeder W k ≡ Some t) × (x.source t ≡ Some j) × (elem k (outs_of W t (x.passed j)) ≡ true)
      ways None f q = absurd (let z : ◌≡◌ {A = Bool} true false = ap is_empty q ∙ n in grind arith)
      ways (Some t) f q = held t (x.source t) refl f q

  held_go : (t : Node) (k : Channel) (w : ℕ) (ws : List ℕ) → x.source t ≡ Some k → x.chan k ≡ w ∷ ws →
      all_clear x.chan (outs_of W t (x.passed k)) ≡ true → Moving
  unfolding admits
  held_go t k w ws s e c =
      let h : target W k ≡ t = I.home t k s in
      go k w ws e (rw (h, s) (if_pos (channel_discrete k k) refl true false)) (rw (h, outs_of_more W t (x.passed k) w (I.begun t k s)) c)

  -- the one output of an up station
  single : (c : ℕ) (q : List ℕ) (o : Channel) → elem o (outs_of W (up c) q) ≡ true → x.chan o ≡ [] → all_clear x.chan (outs_of W (up c) q) ≡ true
  unfolding outs_of outs all_clear elem up_link_of is_empty
  single c [] o m e = refl
  single c (h ∷ q) o m e = ways (top_bit h) (above W c) m
    where
      one : (p : Channel) → elem o (p ∷ []) ≡ true → all_clear x.chan (p ∷ []) ≡ true
      one p m =
          elim (channel_discrete o p) [
            | yes t ↦ rw (← t, e)
            | no n ↦ absurd (let z : ◌≡◌ {A = Bool} true false = sym m ∙ if_neg (channel_discrete o p) n true false in grind arith)
          ]

      ways : (b : Bool) (p : Option ℕ) → elem o (cond b (up_link_of c p) (TurnLink c ∷ [])) ≡ true → all_clear x.chan (cond b (up_link_of c p) (TurnLink c ∷ [])) ≡ true
      ways true None m = refl
      ways true (Some p) m = one (UpLink c) m
      ways false p m = one (TurnLink c) m

  up_feeder : (k : Channel) (c : ℕ) (t : Node) → target W k ≡ up c → feeder W k ≡ Some t → (d : ℕ) × (t ≡ up d) × (c < d) × (d < W.cards)
  unfolding target feeder feeder_by card_or_zero
  up_feeder (Queued d) c t h f = absurd (grind arith)
  up_feeder (UpLink d) c t h f = ways (above W d) refl h f
    where
      ways : (p : Option ℕ) → above W d ≡ p → up (card_or_zero p) ≡ up c → feeder_by (up d) p ≡ Some t → (d : ℕ) × (t ≡ up d) × (c < d) × (d < W.cards)
      ways None e h f = absurd (grind arith)
      ways (Some p) e h f = let l = L.below d p e in let z : p ≡ c = cc in (d, cc, omega arith, l.1)
  up_feeder (TurnLink d) c t h f = absurd (grind arith)
  up_feeder (DownLink d) c t h f = absurd (grind arith)

  -- an up station that is held, with its output free, given the same for the cards below it
  up_step : (c : ℕ) (k : Channel) →
      ((d : ℕ) (j : Channel) → c < d → d < W.cards → x.source (up d) ≡ Some j → all_clear x.chan (outs_of W (up d) (x.passed j)) ≡ true → Moving) →
      x.source (up c) ≡ Some k → all_clear x.chan (outs_of W (up c) (x.passed k)) ≡ true → Moving
  up_step c k deeper s l = ways (front (x.chan k))
    where
      ways : (x.chan k ≡ []) ⊎ ((w : ℕ) × (ws : List ℕ) × (x.chan k ≡ w ∷ ws)) → Moving
      ways (inr (w, ws, e)) = held_go (up c) k w ws s e l
      ways (inl e) =
          let (t, j, f, r, m) = fed k (I.begun (up c) k s) e in
          let (d, td, lt, kn) = up_feeder k c t (I.home (up c) k s) f in
          deeper d j lt kn (rw td at r) (single d (x.passed j) k (rw td at m) e)

  pub up_held : (m c : ℕ) (k : Channel) → W.cards ≤ c + m → x.source (up c) ≡ Some k → all_clear x.chan (outs_of W (up c) (x.passed k)) ≡ true → Moving
  up_held zero c k b s l = up_step c k (λ d j lt kn r v. absurd (omega arith)) s l
  up_held (suc m) c k b s l = up_step c k (λ d j lt kn r v. up_held m d j (omega arith) r v) s l

  -- the outputs of a down station
  abbrev Below : ℕ → Channel → Type 0
  Below c o = (d : ℕ) × (o ≡ DownLink d) × (c < d) × (d < W.cards)

  falls : (c d : ℕ) (b : Side) → W.daughter b c ≡ Some d → Below c (DownLink d)
  falls c d b e = let t = L.below d c (L.up b c d e) in (d, refl, t.0, t.1)

  step_down : (s : Node) (h : ℕ) (o : Channel) (c : ℕ) → s ≡ down c → Step W s h o → Below c o
  step_down _ _ _ c z (climbs d p g t e) = absurd (grind arith)
  step_down _ _ _ c z (turns d g t) = absurd (grind arith)
  step_down _ _ _ c z (descends d e g t f) = let y : d ≡ c = cc in rw (← y) (falls d e (side_of (top_bit g)) f)
  step_down _ _ _ c z (spreads b d e g t u f) = let y : d ≡ c = cc in rw (← y) (falls d e b f)

  down_outs : (c : ℕ) (q : List ℕ) → AllByRecursion (Below c) (outs_of W (down c) q)
  down_outs c q = outs_of_each W (Below c) (down c) q (λ g o t. step_down (down c) g o c refl t)

  down_inputs : (k : Channel) (c : ℕ) → target W k ≡ down c → (k ≡ TurnLink c) ⊎ (k ≡ DownLink c)
  unfolding target
  down_inputs (Queued d) c e = absurd (grind arith)
  down_inputs (UpLink d) c e = absurd (grind arith)
  down_inputs (TurnLink d) c e = inl (cc)
  down_inputs (DownLink d) c e = inr (cc)

  -- a word that a down station admits, given the same for the links below it
  down_step : (c : ℕ) → ((d : ℕ) → c < d → d < W.cards → is_empty (x.chan (DownLink d)) ≡ false → Moving) →
      (i : Channel) (w : ℕ) (ws : List ℕ) → x.chan i ≡ w ∷ ws → target W i ≡ down c → admits (x.source (down c)) i ≡ true → Moving
  down_step c deeper i w ws e h a = ways (clear_or x.chan (outs_of W (down c) (x.passed i ++ (w ∷ []))))
    where
      ways : (all_clear x.chan (outs_of W (down c) (x.passed i ++ (w ∷ []))) ≡ true) ⊎
          ((o : Channel) × (elem o (outs_of W (down c) (x.passed i ++ (w ∷ []))) ≡ true) × (is_empty (x.chan o) ≡ false)) → Moving
      ways (inl l) = go i w ws e (rw h a) (rw h l)
      ways (inr (o, m, n)) =
          let (d, od, lt, kn) = all_elem (Below c) o (outs_of W (down c) (x.passed i ++ (w ∷ []))) (down_outs c (x.passed i ++ (w ∷ []))) m in
          deeper d lt kn (rw od at n)

  admits_own : (k : Channel) → admits (Some k) k ≡ true
  unfolding admits
  admits_own k = if_pos (channel_discrete k k) refl true false

  turn_empty : (c : ℕ) → x.source (down c) ≡ Some (TurnLink c) → x.chan (TurnLink c) ≡ [] → Moving
  unfolding feeder
  turn_empty c s e =
      let (t, j, f, r, m) = fed (TurnLink c) (I.begun (down c) (TurnLink c) s) e in
      let z : t ≡ up c = cc in
      up_held W.cards c j (omega arith) (rw z at r) (single c (x.passed j) (TurnLink c) (rw z at m) e)

  fall_step : (c : ℕ) → ((d : ℕ) → c < d → d < W.cards → is_empty (x.chan (DownLink d)) ≡ false → Moving) → is_empty (x.chan (DownLink c)) ≡ false → Moving
  unfolding target admits
  fall_step c deeper n = ways (x.source (down c)) refl
    where
      own : (k : Channel) → target W k ≡ down c → x.source (down c) ≡ Some k → is_empty (x.chan k) ≡ false → Moving
      own k h s n = let (w, ws, e) = front_of (x.chan k) n in down_step c deeper k w ws e h (rw s (admits_own k))

      turned : x.source (down c) ≡ Some (TurnLink c) → (x.chan (TurnLink c) ≡ []) ⊎ ((w : ℕ) × (ws : List ℕ) × (x.chan (TurnLink c) ≡ w ∷ ws)) → Moving
      turned s (inl e) = turn_empty c s e
      turned s (inr (w, ws, e)) = down_step c deeper (TurnLink c) w ws e refl (rw s (admits_own (TurnLink c)))

      which : (k : Channel) → x.source (down c) ≡ Some k → (k ≡ TurnLink c) ⊎ (k ≡ DownLink c) → Moving
      which k s (inl p) = turned (rw p at s) (front (x.chan (TurnLink c)))
      which k s (inr p) = own (DownLink c) refl (rw p at s) n

      ways : (k : Option Channel) → x.source (down c) ≡ k → Moving
      ways None s = let (w, ws, e) = front_of (x.chan (DownLink c)) n in down_step c deeper (DownLink c) w ws e refl (rw s)
      ways (Some k) s = which k s (down_inputs k c (I.home (down c) k s))

  pub fall_full : (m c : ℕ) → W.cards ≤ c + m → is_empty (x.chan (DownLink c)) ≡ false → Moving
  fall_full zero c b n = fall_step c (λ d lt kn n. absurd (omega arith)) n
  fall_full (suc m) c b n = fall_step c (λ d lt kn n. fall_full m d (omega arith) n) n

  deep : (c d : ℕ) → c < d → d < W.cards → is_empty (x.chan (DownLink d)) ≡ false → Moving
  deep c d lt kn n = fall_full W.cards d (omega arith) n

  fall_feeder : (c : ℕ) (t : Node) → feeder W (DownLink c) ≡ Some t → (p : ℕ) × (t ≡ down p) × (p < c)
  unfolding feeder fall_from
  fall_feeder c t f = ways (above W c) refl f
    where
      ways : (p : Option ℕ) → above W c ≡ p → fall_from p ≡ Some t → (p : ℕ) × (t ≡ down p) × (p < c)
      ways None e f = absurd (grind arith)
      ways (Some p) e f = (p, cc, (L.below c p e).0)

  -- a down station that is held
  hold_step : (c : ℕ) (k : Channel) → ((p : ℕ) (j : Channel) → p < c → x.source (down p) ≡ Some j → Moving) → x.source (down c) ≡ Some k → Moving
  hold_step c k above s = ways (front (x.chan k))
    where
      which : x.chan k ≡ [] → (k ≡ TurnLink c) ⊎ (k ≡ DownLink c) → Moving
      which e (inl p) = turn_empty c (rw p at s) (rw p at e)
      which e (inr p) =
          let (t, j, f, r, m) = fed k (I.begun (down c) k s) e in
          let (b, tb, lt) = fall_feeder c t (sym (ap (feeder W) p) ∙ f) in
          above b j lt (rw tb at r)

      ways : (x.chan k ≡ []) ⊎ ((w : ℕ) × (ws : List ℕ) × (x.chan k ≡ w ∷ ws)) → Moving
      ways (inl e) = which e (down_inputs k c (I.home (down c) k s))
      ways (inr (w, ws, e)) = down_step c (deep c) k w ws e (I.home (down c) k s) (rw s (admits_own k))

  pub down_held : (m c : ℕ) (k : Channel) → c ≤ m → x.source (down c) ≡ Some k → Moving
  down_held zero c k b s = hold_step c k (λ p j lt r. absurd (omega arith)) s
  down_held (suc m) c k b s = hold_step c k (λ p j lt r. down_held m p j (omega arith) r) s

  down_full : (c : ℕ) (i : Channel) → target W i ≡ down c → is_empty (x.chan i) ≡ false → Moving
  unfolding admits
  down_full c i h n = ways (x.source (down c)) refl
    where
      ways : (k : Option Channel) → x.source (down c) ≡ k → Moving
      ways None s = let (w, ws, e) = front_of (x.chan i) n in down_step c (deep c) i w ws e h (rw s)
      ways (Some k) s = down_held c c k (omega arith) s

  abbrev Above : ℕ → Channel → Type 0
  Above c o = (o ≡ TurnLink c) ⊎ ((p : ℕ) × (o ≡ UpLink c) × (above W c ≡ Some p))

  step_up : (s : Node) (h : ℕ) (o : Channel) (c : ℕ) → s ≡ up c → Step W s h o → Above c o
  step_up _ _ _ c z (climbs d p g t e) = let y : d ≡ c = cc in rw (← y) (inr (p, refl, e))
  step_up _ _ _ c z (turns d g t) = let y : d ≡ c = cc in rw (← y) (inl refl)
  step_up _ _ _ c z (descends d e g t f) = absurd (grind arith)
  step_up _ _ _ c z (spreads b d e g t u f) = absurd (grind arith)

  up_outs : (c : ℕ) (q : List ℕ) → AllByRecursion (Above c) (outs_of W (up c) q)
  up_outs c q = outs_of_each W (Above c) (up c) q (λ g o t. step_up (up c) g o c refl t)

  up_full_step : (c : ℕ) → ((p : ℕ) (i : Channel) → p < c → target W i ≡ up p → is_empty (x.chan i) ≡ false → Moving) →
      (i : Channel) → target W i ≡ up c → is_empty (x.chan i) ≡ false → Moving
  unfolding admits target card_or_zero
  up_full_step c above i h n = ways (x.source (up c)) refl
    where
      out : (o : Channel) → Above c o → is_empty (x.chan o) ≡ false → Moving
      out o (inl p) n = down_full c (TurnLink c) refl (rw p at n)
      out o (inr (p, q, e)) n = above p (UpLink c) (L.below c p e).0 (rw e) (rw q at n)

      free : x.source (up c) ≡ None → (w : ℕ) (ws : List ℕ) → x.chan i ≡ w ∷ ws →
          (all_clear x.chan (outs_of W (up c) (x.passed i ++ (w ∷ []))) ≡ true) ⊎
          ((o : Channel) × (elem o (outs_of W (up c) (x.passed i ++ (w ∷ []))) ≡ true) × (is_empty (x.chan o) ≡ false)) → Moving
      free s w ws e (inl l) = go i w ws e (rw (h, s)) (rw h l)
      free s w ws e (inr (o, m, n)) = out o (all_elem (Above c) o _ (up_outs c (x.passed i ++ (w ∷ []))) m) n

      held : (k : Channel) → x.source (up c) ≡ Some k →
          (all_clear x.chan (outs_of W (up c) (x.passed k)) ≡ true) ⊎
          ((o : Channel) × (elem o (outs_of W (up c) (x.passed k)) ≡ true) × (is_empty (x.chan o) ≡ false)) → Moving
      held k s (inl l) = up_held W.cards c k (omega arith) s l
      held k s (inr (o, m, n)) = out o (all_elem (Above c) o _ (up_outs c (x.passed k)) m) n

      ways : (k : Option Channel) → x.source (up c) ≡ k → Moving
      ways None s = let (w, ws, e) = front_of (x.chan i) n in free s w ws e (clear_or x.chan (outs_of W (up c) (x.passed i ++ (w ∷ []))))
      ways (Some k) s = held k s (clear_or x.chan (outs_of W (up c) (x.passed k)))

  up_full : (m c : ℕ) (i : Channel) → c ≤ m → target W i ≡ up c → is_empty (x.chan i) ≡ false → Moving
  up_full zero c i b h n = up_full_step c (λ p j lt h n. absurd (omega arith)) i h n
  up_full (suc m) c i b h n = up_full_step c (λ p j lt h n. up_full m p j (omega arith) h n) i h n

  pub full : (i : Channel) → is_empty (x.chan i) ≡ false → Moving
  full i n = ways (target W i) refl
    where
      ways : (s : Node) → target W i ≡ s → Moving
      ways (up c) h = up_full c c i (omega arith) h n
      ways (down c) h = down_full c i h n
