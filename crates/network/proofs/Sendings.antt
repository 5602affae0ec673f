-- A granted send: a packet, from a card of the tree, on a way that exists.
use Rattle.std.proofs.Common.{◌≡◌, ℕ, ◌+◌, ◌*◌, ◌<◌, ◌≤◌, Bool, true, false, cond, eqb, ltb, leb, List, [], ◌∷◌, length, Some, None, Ok, Err, Option, Result, sym, refl, ap, ◌∙◌, arith, ne_eqb, ltb-true, leb-true}
use Rattle.refusal.specs.declared.send.PacketFault.{PacketFault}
use Rattle.refusal.specs.declared.send.PacketFault.TheVariants.{Kinds, Length, NoSender, QueueFull, Reserved, Route}
use Rattle.refusal.specs.declared.send.RouteFault.{RouteFault}
use Rattle.packet.proofs.Bits.{bits_low}
use Rattle.packet.proofs.Moving.{head_not_tail}
use Rattle.packet.specs.Heads.{mode_of}
use Rattle.packet.specs.Packets.{Header, check_packet, header_of, kind_fault, later_fault, reserved_fault, right_kind, unless_at, is_head, is_head_word, is_tail, is_tail_word}
use Rattle.packet.specs.Routes.{after_turn, has_one, leads, leads_by, read_bits, read_route, route_bits, route_in, route_width, ups_of}
use Rattle.packet.specs.Words.{kind_of}
use Rattle.packet.specs.declared.sides.Side.{Side}
use Rattle.packet.specs.declared.words.Kind.{Kind}
use Rattle.packet.specs.declared.words.Kind.TheVariants.{Body, Head, Tail, Unused}
use Rattle.wiring.specs.Shapes.{Shape}
use Rattle.routing.specs.Walks.{climb, descend, walk_by, walk_from, walk_to}
use Rattle.routing.specs.declared.walks.Walk.{Walk}
use Rattle.network.specs.Arrivals.{walk_for}
use Rattle.network.specs.Cards.{queue_room}
use Rattle.network.specs.Nodes.{up}
use Rattle.network.specs.Sends.{Way, room_by, send_way, way_by, way_for}
use Rattle.network.proofs.Channels.{Rooted}
use Rattle.network.proofs.History.{ends, is_granted, is_packet}
use Rattle.network.proofs.Trip.{is_way, trip, way}
use Rattle.network.proofs.TripsRead.{sides_of, up_trip, downward_way}

-- the way that a route reads
pub record Reads (W : Shape) (L : Rooted W) (c h : ℕ) : Type 0 where
  pub top : ℕ
  pub terminus : ℕ
  pub climbs : climb W (ups_of (route_bits h)) c ≡ Some top
  pub descends : descend W (downward_way W L (route_bits h)) top ≡ Ok terminus
  pub stopped : has_one (after_turn (route_bits h)) ≡ true
  pub walked : walk_for W c h ≡ Ok (record { turn = top; terminus = terminus; ups = ups_of (route_bits h); descents = length (downward_way W L (route_bits h)) })

module _ (W : Shape) (L : Rooted W) where
  read_low : (h : ℕ) → read_route (route_in h) ≡ read_bits (route_bits h)
  unfolding read_route route_bits
  read_low h = ap read_bits (bits_low route_width h)

  pub walk_reads : (c h : ℕ) (w : Walk) → walk_for W c h ≡ Ok w → Reads W L c h
  unfolding read_bits downward_way sides_of
  walk_reads c h w e = by (sym (ap (walk_by W c) (read_low h)) ∙ e) (ap (walk_by W c) (read_low h))
    where
      bs : List Bool
      bs = route_bits h

      ss : List Side
      ss = downward_way W L bs

      descends : (u : ℕ) (d : Result ℕ RouteFault) → descend W ss u ≡ d → climb W (ups_of bs) c ≡ Some u → has_one (after_turn bs) ≡ true → walk_to u (leads (ups_of bs) ss) d ≡ Ok w →
          walk_for W c h ≡ walk_to u (leads (ups_of bs) ss) d → Reads W L c h
      descends u (Err f) q cu s e z = absurd (grind arith)
      descends u (Ok t) q cu s e z = record { top = u; terminus = t; climbs = cu; descends = q; stopped = s; walked = z }

      climbs : (o : Option ℕ) → climb W (ups_of bs) c ≡ o → has_one (after_turn bs) ≡ true → walk_from W (leads (ups_of bs) ss) o ≡ Ok w →
          walk_for W c h ≡ walk_from W (leads (ups_of bs) ss) o → Reads W L c h
      climbs None q s e z = absurd (grind arith)
      climbs (Some u) q s e z = descends u (descend W ss u) refl q s e z

      ones : (b : Bool) → has_one (after_turn bs) ≡ b → walk_by W c (leads_by (ups_of bs) (cond b (Some ss) None)) ≡ Ok w →
          walk_for W c h ≡ walk_by W c (leads_by (ups_of bs) (cond b (Some ss) None)) → Reads W L c h
      ones true s e z = climbs (climb W (ups_of bs) c) refl s e z
      ones false s e z = absurd (grind arith)

      by : walk_by W c (read_bits bs) ≡ Ok w → walk_for W c h ≡ walk_by W c (read_bits bs) → Reads W L c h
      by e z = ones (has_one (after_turn bs)) refl e z

  pub reads-trip : (c h : ℕ) → c < W.cards → (r : Reads W L c h) →
      trip W (2 * W.cards) (up c) h ≡ Some (ups_of (route_bits h) + 1 + length (downward_way W L (route_bits h)), r.terminus)
  reads-trip c h hc r = up_trip W L (2 * W.cards) c h r.top r.terminus hc (omega arith) r.stopped r.climbs r.descends

-- kinds of a packet's words
cond_none : (b : Bool) (k : Option ℕ) (n : ℕ) → cond b k (Some n) ≡ None → (b ≡ true) × (k ≡ None)
cond_none true k n e = (refl, e)
cond_none false k n e = absurd (grind arith)

kind_last : (k : Kind) → right_kind true k ≡ true → (is_tail k ≡ true) × (is_head k ≡ false)
kind_last Body e = absurd (grind arith)
kind_last Tail e = (refl, refl)
kind_last Head e = absurd (grind arith)
kind_last Unused e = absurd (grind arith)

kind_body : (k : Kind) → right_kind false k ≡ true → (is_tail k ≡ false) × (is_head k ≡ false)
kind_body Body e = (refl, refl)
kind_body Tail e = absurd (grind arith)
kind_body Head e = absurd (grind arith)
kind_body Unused e = absurd (grind arith)

later-ends : (n : ℕ) (w : ℕ) (ws : List ℕ) → later_fault n (w ∷ ws) ≡ None → ends (w ∷ ws) ≡ true
unfolding later_fault ends is_tail_word is_head_word
later-ends n w [] e =
    let (t, h) = kind_last (kind_of w) (cond_none _ None n e).0 in
    rw (t, h)
later-ends n w (v ∷ ws) e =
    let z : eqb (length (v ∷ ws)) 0 ≡ false = ne_eqb (length (v ∷ ws)) 0 (λ q. omega arith) in
    let c = cond_none (right_kind false (kind_of w)) (later_fault (n + 1) (v ∷ ws)) n (sym (ap (λ (b : Bool). cond (right_kind b (kind_of w)) (later_fault (n + 1) (v ∷ ws)) (Some n)) z) ∙ e) in
    let (t, h) = kind_body (kind_of w) c.0 in
    let r = later-ends (n + 1) v ws c.1 in
    rw (t, h, r)

unless_ok : {A : Type 0} (f : ℕ → PacketFault) (o : Option ℕ) (r : Result A PacketFault) (a : A) → unless_at f o r ≡ Ok a → (o ≡ None) × (r ≡ Ok a)
unless_ok f None r a e = (refl, e)
unless_ok f (Some p) r a e = absurd (grind arith)

cond_ok : {A : Type 0} (b : Bool) (f : PacketFault) (r : Result A PacketFault) (a : A) → cond b (Err f) r ≡ Ok a → r ≡ Ok a
cond_ok true f r a e = absurd (grind arith)
cond_ok false f r a e = e

pub check_packet_lem : (p : List ℕ) (g : Header) → check_packet p ≡ Ok g → (is_packet p ≡ true) × ((h : ℕ) (ws : List ℕ) → p ≡ h ∷ ws → g ≡ header_of h)
unfolding kind_fault is_packet is_head_word
check_packet_lem [] g e = absurd (grind arith)
check_packet_lem (h ∷ []) g e = absurd (grind arith)
check_packet_lem (h ∷ k ∷ ws) g e =
    let a = cond_ok (ltb 62 (length ws)) Length _ g e in
    let (b, r) = unless_ok Kinds (kind_fault h (k ∷ ws)) _ g a in
    let (c, q) = unless_ok Reserved (reserved_fault h k) _ g r in
    let (d, f) = cond_none (is_head (kind_of h)) (later_fault 1 (k ∷ ws)) 0 b in
    let t = later-ends 1 k ws f in
    let n : is_tail_word h ≡ false = head_not_tail h d in
    (rw (d, n, t), λ h' ws' z. let y : h ≡ h' = cc in let x : header_of h ≡ g = cc in sym x ∙ ap header_of y)

-- what a granted send is
pub record IsSent (W : Shape) (L : Rooted W) (c : ℕ) (p : List ℕ) : Type 0 where
  pub known : c < W.cards
  pub packet : is_packet p ≡ true
  pub route : (h : ℕ) (ws : List ℕ) → p ≡ h ∷ ws → Reads W L c h

module _ (W : Shape) (L : Rooted W) where
  room_ok : (n : ℕ) (r : Result Way PacketFault) (w : Way) → room_by n r ≡ Ok w → (r ≡ Ok w) × (n ≤ queue_room)
  room_ok n (Err f) w e = absurd (grind arith)
  room_ok n (Ok v) w e = by (leb n queue_room) refl e
    where
      by : (b : Bool) → leb n queue_room ≡ b → cond b (Ok v) (Err QueueFull) ≡ Ok w → (◌≡◌ {A = Result Way PacketFault} (Ok v) (Ok w)) × (n ≤ queue_room)
      by true q e = (e, leb-true n queue_room q)
      by false q e = absurd (grind arith)

  way_ok : (c : ℕ) (p : List ℕ) (g : Result Header PacketFault) (w : Way) → check_packet p ≡ g → way_for W c g ≡ Ok w →
      (is_packet p ≡ true) × ((h : ℕ) (ws : List ℕ) → p ≡ h ∷ ws → Reads W L c h)
  way_ok c p (Err f) w q e = absurd (grind arith)
  way_ok c p (Ok g) w q e =
      let (k, r) = check_packet_lem p g q in
      (k, λ h ws z. let y = r h ws z in by h (walk_for W c h) refl (ap (λ (g : Header). way_for W c (Ok g)) (sym y) ∙ e))
    where
      by : (h : ℕ) (d : Result Walk RouteFault) → walk_for W c h ≡ d → way_by (mode_of h) (walk_for W c h) ≡ Ok w → Reads W L c h
      by h (Err f) z e = absurd (let y : Err (Route f) ≡ Ok w = sym (ap (way_by (mode_of h)) z) ∙ e in grind arith)
      by h (Ok d) z e = walk_reads W L c h d z

  pub sends_is : (n c : ℕ) (p : List ℕ) (w : Way) → send_way W n c p ≡ Ok w → IsSent W L c p
  sends_is n c p w e = by (ltb c W.cards) refl e
    where
      by : (b : Bool) → ltb c W.cards ≡ b → cond b (room_by (n + length p) (way_for W c (check_packet p))) (Err NoSender) ≡ Ok w → IsSent W L c p
      by true q e =
          let r = room_ok (n + length p) _ w e in
          let (k, z) = way_ok c p (check_packet p) w refl r.0 in
          record { known = ltb-true c W.cards q; packet = k; route = z }
      by false q e = absurd (grind arith)

  -- the queue has room for what is queued
  pub sends_room : (n c : ℕ) (p : List ℕ) (w : Way) → send_way W n c p ≡ Ok w → n + length p ≤ queue_room
  sends_room n c p w e = by (ltb c W.cards) e
    where
      by : (b : Bool) → cond b (room_by (n + length p) (way_for W c (check_packet p))) (Err NoSender) ≡ Ok w → n + length p ≤ queue_room
      by true e = (room_ok (n + length p) _ w e).1
      by false e = absurd (grind arith)

  pub sent_is : (n c : ℕ) (p : List ℕ) → is_granted (send_way W n c p) ≡ true → IsSent W L c p
  unfolding is_granted
  sent_is n c p e = by (send_way W n c p) refl e
    where
      by : (r : Result Way PacketFault) → send_way W n c p ≡ r → is_granted r ≡ true → IsSent W L c p
      by (Ok w) q e = sends_is n c p w q
      by (Err f) q e = absurd (grind arith)

  pub sent_way : (c : ℕ) (p : List ℕ) → IsSent W L c p → is_way (way W (c, p)) ≡ true
  unfolding way is_way is_packet
  sent_way c [] s = absurd (let k = s.packet in grind arith)
  sent_way c (h ∷ ws) s = rw (reads-trip W L c h s.known (s.route h ws refl))
