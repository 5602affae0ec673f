-- How each call changes the hops owed, from the law of hops before it and after it.
use Rattle.std.proofs.Common.{◌≡◌, ℕ, ◌+◌, List, [], ◌∷◌, ◌++◌, Ok, Result, ap, subst, arith}
use Rattle.refusal.specs.declared.drive.FireFault.{FireFault}
use Rattle.refusal.specs.declared.send.PacketFault.{PacketFault}
use Rattle.wiring.specs.Shapes.{Lawful, Shape}
use Rattle.station.specs.Plans.{Verdicts}
use Rattle.station.specs.declared.hold.Input.{Input}
use Rattle.station.specs.declared.hold.Station.{Station}
use Rattle.network.specs.Arrivals.{hops_of}
use Rattle.network.specs.Cards.{State}
use Rattle.network.specs.Fires.{fire_step}
use Rattle.network.specs.Laws.{Hops}
use Rattle.network.specs.Owed.{hops_owed}
use Rattle.network.specs.Runs.{Call, Run, fire, if_granted, one_if, onward, run, send, take}
use Rattle.network.specs.Sends.{send_step}
use Rattle.network.specs.Sums.{sum_over}
use Rattle.network.specs.Takes.{take_step}
use Rattle.network.specs.Trees.{CountsLaw}
use Rattle.network.proofs.AllLaws.{run-next, three_laws}
use Rattle.network.proofs.TripWeights.{sum_over-append}

module _ (s : Shape) (L : Lawful s) (v : Verdicts) (ks : List Call) where
  abbrev r : Run
  r = run s v ks

  abbrev x : State
  x = r.tree

  before : hops_owed s x + r.fires ≡ sum_over r.sends (hops_of s)
  before = (three_laws s L v ks).hops

  after : (k : Call) → Hops s (onward s v r k)
  after k = subst (Hops s) (run-next s v ks k) (three_laws s L v (ks ++ (k ∷ []))).hops

  fire_counts : (c : ℕ) (t : Station) (i : Input) (n : ℕ) → (fire_step s v x c t i).answer ≡ Ok n → hops_owed s (fire_step s v x c t i).next + 1 ≡ hops_owed s x
  unfolding onward
  fire_counts c t i n e =
      let a : hops_owed s (fire_step s v x c t i).next + (r.fires + one_if (fire_step s v x c t i).answer) ≡ sum_over r.sends (hops_of s) = after (fire c t i) in
      let b = before in
      let g : one_if (fire_step s v x c t i).answer ≡ 1 = ap (λ (m : Result ℕ FireFault). one_if m) e in
      omega arith

  send_counts : (c : ℕ) (p : List ℕ) → (send_step s x c p).answer ≡ Ok tt → hops_owed s (send_step s x c p).next ≡ hops_owed s x + hops_of s (c, p)
  unfolding onward sum_over
  send_counts c p e =
      let a : hops_owed s (send_step s x c p).next + r.fires ≡ sum_over (r.sends ++ if_granted (send_step s x c p).answer (c, p)) (hops_of s) = after (send c p) in
      let b = before in
      let g : sum_over (r.sends ++ if_granted (send_step s x c p).answer (c, p)) (hops_of s) ≡ sum_over (r.sends ++ ((c, p) ∷ [])) (hops_of s) =
      ap (λ (m : Result (Unit {0}) PacketFault). sum_over (r.sends ++ if_granted m (c, p)) (hops_of s)) e in
      let h = sum_over-append (hops_of s) r.sends ((c, p) ∷ []) in
      omega arith

  take_counts : (c : ℕ) → hops_owed s (take_step s x c).next ≡ hops_owed s x
  unfolding onward
  take_counts c =
      let a : hops_owed s (take_step s x c).next + r.fires ≡ sum_over r.sends (hops_of s) = after (take c) in
      let b = before in
      omega arith

pub counts_law : CountsLaw
counts_law s L v ks = record { fire = fire_counts s L v ks; send = send_counts s L v ks; take = take_counts s L v ks }
