-- Each word in a channel is a word of a sent packet, on that packet's path.
use Rattle.std.proofs.Common.{◌≡◌, ℕ, true, T, List, [], ◌∷◌, ◌++◌, sym, refl, ◌∙◌, subst, ap₂, inl, inr, append-nil, arith, append_assoc}
use Rattle.network.proofs.Basics.{next_not}
use mathlib.Core.Logic.{if_neg, if_pos}
use Rattle.packet.specs.Routes.{advance}
use Rattle.packet.specs.declared.sides.Side.TheVariants.{Left, Right}
use Rattle.wiring.specs.Shapes.{Shape}
use Rattle.station.specs.declared.channel.Channel.{Channel}
use Rattle.station.specs.declared.channel.Channel.TheVariants.{DownLink, TurnLink, UpLink}
use Rattle.network.specs.Arrivals.{Parcel}
use Rattle.network.specs.Nodes.{Node, down_link_to, outs, target, up, up_link_of}
use Rattle.network.specs.Paths.{Among, Passes, Step, begins, climbs, descends, goes, spreads, turns}
use Rattle.network.proofs.Channels.{channel_discrete}
use Rattle.network.proofs.History.{ends, is_packet}
use Rattle.network.proofs.HistoryLaws.{ends_parts, packet_parts}
use Rattle.network.proofs.Invariant.{all_elem, elem, elem_more}
use Rattle.network.proofs.Outputs.{outs_step}
use Rattle.network.proofs.UnderWay.{moved, outs_of, rest, next}

-- a step from a station is one of its outputs
module _ (W : Shape) where
  first_elem : (o : Channel) (os : List Channel) → elem o (o ∷ os) ≡ true
  unfolding elem
  first_elem o os = if_pos (channel_discrete o o) refl true (elem o os)

  left-elem : (o : Channel) (os ps : List Channel) → elem o os ≡ true → elem o (os ++ ps) ≡ true
  unfolding elem
  left-elem o [] ps e = absurd (grind arith)
  left-elem o (p ∷ os) ps e =
      elim (channel_discrete o p) [
        | yes t ↦ if_pos (channel_discrete o p) t true (elem o (os ++ ps))
        | no n ↦ if_neg (channel_discrete o p) n true (elem o (os ++ ps)) ∙ left-elem o os ps (sym (if_neg (channel_discrete o p) n true (elem o os)) ∙ e)
      ]

  right_elem : (o : Channel) (os ps : List Channel) → elem o ps ≡ true → elem o (os ++ ps) ≡ true
  right_elem o [] ps e = e
  right_elem o (p ∷ os) ps e = elem_more o p (os ++ ps) (right_elem o os ps e)

  pub step_elem : (n : Node) (g : ℕ) (o : Channel) → Step W n g o → elem o (outs W n g) ≡ true
  unfolding outs up_link_of down_link_to
  step_elem _ _ _ (climbs d p g t e) = rw (t, e) (first_elem (UpLink d) [])
  step_elem _ _ _ (turns d g t) = rw t (first_elem (TurnLink d) [])
  step_elem _ _ _ (descends d e g t f) = rw (t, f) (first_elem (DownLink e) [])
  step_elem _ _ _ (spreads Left d e g t f z) = rw (t, f, z) (left-elem (DownLink e) (DownLink e ∷ []) _ (first_elem (DownLink e) []))
  step_elem _ _ _ (spreads Right d e g t f z) = rw (t, f, z) (right_elem (DownLink e) _ (DownLink e ∷ []) (first_elem (DownLink e) []))

-- the words l are the first of a sent packet as it comes to a station
pub record Part (W : Shape) (S : List Parcel) (n : Node) (l : List ℕ) : Type 0 where
  pub from : ℕ
  pub head : ℕ
  pub later : List ℕ
  pub sent : Among (from, head ∷ later) S
  pub comes : ℕ
  pub passes : Passes W from head n comes
  pub others : List ℕ
  pub whole : l ++ others ≡ comes ∷ later

-- of the words before a station, each is a word of a sent packet, after the words q of the packet under way
abbrev pub Traced : Shape → List Parcel → Node → List ℕ → List ℕ → Type 0
Traced W S n q [] = Unit {0}
Traced W S n q (w ∷ ws) = Part W S n (q ++ (w ∷ [])) × Traced W S n (next q w) ws

pub among_left : (m : Parcel) (S T : List Parcel) → Among m S → Among m (S ++ T)
among_left m [] T a = absurd a
among_left m (k ∷ S) T (inl e) = inl e
among_left m (k ∷ S) T (inr a) = inr (among_left m S T a)

pub among_last : (m : Parcel) (S : List Parcel) → Among m (S ++ (m ∷ []))
among_last m [] = inl refl
among_last m (k ∷ S) = inr (among_last m S)

module _ (W : Shape) where
  pub part_more : (S T : List Parcel) (n : Node) (l : List ℕ) → Part W S n l → Part W (S ++ T) n l
  part_more S T n l p =
      record {
        from = p.from;
        head = p.head;
        later = p.later;
        sent = among_left _ S T p.sent;
        comes = p.comes;
        passes = p.passes;
        others = p.others;
        whole = p.whole;
      }

  -- more packets sent
  pub traced_more : (S T : List Parcel) (n : Node) (q ws : List ℕ) → Traced W S n q ws → Traced W (S ++ T) n q ws
  traced_more S T n q [] t = tt
  traced_more S T n q (w ∷ ws) t = (part_more S T n (q ++ (w ∷ [])) t.0, traced_more S T n (next q w) ws t.1)

  -- more words behind
  pub traced_append : (S : List Parcel) (n : Node) (q ws vs : List ℕ) → Traced W S n q ws → Traced W S n (rest q ws) vs → Traced W S n q (ws ++ vs)
  unfolding rest
  traced_append S n q [] vs t u = u
  traced_append S n q (w ∷ ws) vs t u = (t.0, traced_append S n (next q w) ws vs t.1 u)

  -- a whole packet, at the card that sends it
  module _ (S : List Parcel) (c h : ℕ) (us : List ℕ) (a : Among (c, h ∷ us) S) where
    at_sender : (l vs : List ℕ) → l ++ vs ≡ h ∷ us → Part W S (up c) l
    at_sender l vs e = record { from = c; head = h; later = us; sent = a; comes = h; passes = begins; others = vs; whole = e }

    ends_traced : (q ws : List ℕ) → q ++ ws ≡ h ∷ us → ends ws ≡ true → Traced W S (up c) q ws
    unfolding ends
    ends_traced q [] e z = tt
    ends_traced q (w ∷ []) e z = (at_sender (q ++ (w ∷ [])) [] (append-nil (q ++ (w ∷ [])) ∙ e), tt)
    ends_traced q (w ∷ v ∷ ws) e z =
        let (t, n, y) = ends_parts w v ws z in
        let f : (q ++ (w ∷ [])) ++ (v ∷ ws) ≡ h ∷ us = append_assoc q (w ∷ []) (v ∷ ws) ∙ e in
        let r = ends_traced (q ++ (w ∷ [])) (v ∷ ws) f y in
        (at_sender (q ++ (w ∷ [])) (v ∷ ws) f, subst (λ (k : List ℕ). Traced W S (up c) k (v ∷ ws)) (sym (next_not q w t)) r)

  pub packet_traced : (S : List Parcel) (c : ℕ) (p : List ℕ) → Among (c, p) S → is_packet p ≡ true → Traced W S (up c) [] p
  unfolding is_packet
  packet_traced S c [] a e = absurd (grind arith)
  packet_traced S c (h ∷ us) a e =
      let (i, t, f) = packet_parts h us e in
      let r = ends_traced S c h us a (h ∷ []) us refl f in
      (at_sender S c h us a (h ∷ []) us refl, subst (λ (k : List ℕ). Traced W S (up c) k us) (sym (next_not [] h t)) r)

  -- a part of a packet goes on with the packet
  pub part_on : (S : List Parcel) (n : Node) (l : List ℕ) (o : Channel) → Part W S n l → elem o (outs_of W n l) ≡ true → Part W S (target W o) (moved l)
  unfolding outs_of moved elem
  part_on S n [] o p e = absurd (grind arith)
  part_on S n (k ∷ l) o p e =
      let f : (k ∷ l) ++ p.others ≡ p.comes ∷ p.later = p.whole in
      let z : k ≡ p.comes = cc in
      let y : l ++ p.others ≡ p.later = cc in
      let st : Step W n k o = all_elem (Step W n k) o (outs W n k) (outs_step W n k) e in
      record {
        from = p.from;
        head = p.head;
        later = p.later;
        sent = p.sent;
        comes = advance p.comes;
        passes = goes n p.comes o p.passes (subst (λ (g : ℕ). Step W n g o) z st);
        others = p.others;
        whole = ap₂ (λ (a : ℕ) (b : List ℕ). advance a ∷ b) z y;
      }
