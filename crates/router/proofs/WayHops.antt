-- The hops of a packet's way are the path hops of the packet.
use Rattle.std.proofs.Common.{◌≡◌, ℕ, ◌+◌, Bool, true, false, cond, ltb, leb, List, [], ◌∷◌, length, Ok, Err, Result, sym, refl, ap, ◌∙◌, arith}
use Rattle.refusal.specs.declared.send.RouteFault.{RouteFault}
use Rattle.refusal.specs.declared.send.PacketFault.{PacketFault}
use Rattle.refusal.specs.declared.send.PacketFault.TheVariants.{NoSender, QueueFull}
use Rattle.packet.specs.Heads.{mode_of}
use Rattle.packet.specs.Packets.{Header, check_packet}
use Rattle.wiring.specs.Shapes.{Shape}
use Rattle.routing.specs.declared.walks.Walk.{Walk}
use Rattle.routing.specs.Subtrees.{path_hops}
use Rattle.network.specs.Cards.{queue_room}
use Rattle.network.specs.Sends.{Way, way_by, way_for, room_by, send_way}
use Rattle.network.specs.Arrivals.{walk_for, hops_by, hops_of}
use Rattle.network.proofs.History.{is_packet}
use Rattle.network.proofs.Sendings.{check_packet_lem}

module _ (s : Shape) (c : ℕ) (w : Way) where
  abbrev Told : List ℕ → Type 0
  Told p = hops_of s (c, p) ≡ path_hops s w.mode w.walk (length p)

  walked : (h : ℕ) (ws : List ℕ) (d : Result Walk RouteFault) → walk_for s c h ≡ d → way_by (mode_of h) d ≡ Ok w → Told (h ∷ ws)
  unfolding hops_of hops_by
  walked h ws (Err f) q e = absurd (grind arith)
  walked h ws (Ok d) q e =
      let z : w ≡ record { mode = mode_of h; walk = d } = cc in
      ap (hops_by s (mode_of h) (length (h ∷ ws))) q ∙ sym (ap (λ (y : Way). path_hops s y.mode y.walk (length (h ∷ ws))) z)

  checked : (p : List ℕ) (g : Result Header PacketFault) → check_packet p ≡ g → way_for s c g ≡ Ok w → Told p
  unfolding is_packet
  checked p (Err f) q e = absurd (grind arith)
  checked [] (Ok g) q e = absurd (let k = (check_packet_lem [] g q).0 in grind arith)
  checked (h ∷ ws) (Ok g) q e =
      let z = (check_packet_lem (h ∷ ws) g q).1 h ws refl in
      walked h ws (walk_for s c h) refl (ap (λ (g : Header). way_for s c (Ok g)) (sym z) ∙ e)

  roomed : (n : ℕ) (r : Result Way PacketFault) → room_by n r ≡ Ok w → r ≡ Ok w
  roomed n (Err f) e = absurd (grind arith)
  roomed n (Ok v) e = by (leb n queue_room) e
    where
      by : (b : Bool) → cond b (Ok v) (Err QueueFull) ≡ Ok w → ◌≡◌ {A = Result Way PacketFault} (Ok v) (Ok w)
      by true e = e
      by false e = absurd (grind arith)

  pub way-hops : (n : ℕ) (p : List ℕ) → send_way s n c p ≡ Ok w → Told p
  way-hops n p e = by (ltb c s.cards) e
    where
      by : (b : Bool) → cond b (room_by (n + length p) (way_for s c (check_packet p))) (Err NoSender) ≡ Ok w → Told p
      by true e = checked p (check_packet p) refl (roomed (n + length p) _ e)
      by false e = absurd (grind arith)
