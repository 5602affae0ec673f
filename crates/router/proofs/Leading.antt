-- Each call leads on, and keeps the number of hops right.
use Rattle.std.proofs.Common.{◌≡◌, ℕ, ◌+◌, ◌≤◌, min, List, [], ◌∷◌, ◌++◌, length, Ok, Err, Result, sym, refl, ap, ◌∙◌, subst, arith}
use Rattle.refusal.specs.declared.drive.FireFault.{FireFault}
use Rattle.refusal.specs.declared.send.PacketFault.{PacketFault}
use Rattle.wiring.specs.Shapes.{Shape, Lawful}
use Rattle.station.specs.declared.hold.Station.{Station}
use Rattle.station.specs.declared.hold.Input.{Input}
use Rattle.station.specs.Plans.{Verdicts}
use Rattle.network.specs.Cards.{State, empty, card_at}
use Rattle.network.specs.Sends.{Way, send_way}
use Rattle.network.specs.Sums.{sum_over}
use Rattle.network.specs.Owed.{hops_owed}
use Rattle.network.specs.Runs.{Call, send, fire, take, owed, run, run_from, next}
use Rattle.network.specs.Trees.{Counts, most_owed}
use Rattle.network.proofs.AllLaws.{three_laws, every_call}
use Rattle.network.proofs.CallCounts.{counts_law}
use Rattle.network.proofs.OwedBound.{bounds}
use Rattle.network.proofs.RefusedCalls.{refused_same}
use Rattle.router.specs.Inner.{lowered, raised, greatest}
use Rattle.router.specs.Kept.{Meaning, meaning, Led, Stands, Keeps}
use Rattle.router.specs.Calls.{new_tree, sent_tree, fire_answer, fired_tree, took_tree}
use Rattle.router.proofs.WayHops.{way-hops}

-- the tree as it is set up
pub begins : (s : Shape) → Lawful s → (v : Verdicts) (m : Meaning) → m ≡ new_tree s v → Stands [] m
unfolding run run_from sum_over
begins s L v m e = subst (Stands []) (sym e) fresh
  where
    nothing : hops_owed s empty ≡ 0
    nothing = let h = (three_laws s L v []).hops in let z : hops_owed s empty + 0 ≡ 0 = h in omega arith

    fresh : Stands [] (new_tree s v)
    fresh = record { led = record { reached = refl; counted = sym nothing }; laws = three_laws s L v [] }

module _ (m : Meaning) (L : Lawful m.shape) where
  abbrev after : Call → State
  after k = next m.shape m.verdicts m.cards k

  counts : (ks : List Call) → Led ks m → Counts m.shape m.verdicts m.cards
  counts ks l = subst (λ (z : State). Counts m.shape m.verdicts z) l.reached (counts_law m.shape L m.verdicts ks)

  -- the call k takes m to m', where the kept number stays right
  leads : (k : Call) (m' : Meaning) (n : ℕ) → m' ≡ meaning m.shape m.verdicts (after k) n →
      ((ks : List Call) → Led ks m → n ≡ hops_owed m.shape (after k)) → Keeps k m m'
  leads k m' n e right ks l =
      let z = every_call m.shape L m.verdicts m.cards k ks l.reached in
      let led : Led (ks ++ (k ∷ [])) (meaning m.shape m.verdicts (after k) n) = record { reached = z.0; counted = right ks l } in
      subst (Stands (ks ++ (k ∷ []))) (sym e) (record { led = led; laws = z.1 })

  pub fire_leads : (c : ℕ) (t : Station) (i : Input) (m' : Meaning) → m' ≡ fired_tree c t i m → Keeps (fire c t i) m m'
  fire_leads c t i m' e = leads (fire c t i) m' _ e (λ ks l. by ks l (fire_answer c t i m) refl)
    where
      by : (ks : List Call) → Led ks m → (a : Result ℕ FireFault) → fire_answer c t i m ≡ a → lowered m.owed a ≡ hops_owed m.shape (after (fire c t i))
      by ks l (Ok a) q = let h = (counts ks l).fire c t i a q in let o = l.counted in omega arith
      by ks l (Err f) q = l.counted ∙ sym (ap (hops_owed m.shape) (refused_same.fire m.shape m.verdicts m.cards c t i f q))

  pub take_leads : (c : ℕ) (m' : Meaning) → m' ≡ took_tree c m → Keeps (take c) m m'
  take_leads c m' e = leads (take c) m' _ e (λ ks l. l.counted ∙ sym ((counts ks l).take c))

  pub owed_leads : Keeps owed m m
  owed_leads = leads owed m _ refl (λ ks l. l.counted)

  pub send_leads : (c : ℕ) (p : List ℕ) (m' : Meaning) → m' ≡ sent_tree c p m → Keeps (send c p) m m'
  send_leads c p m' e = leads (send c p) m' _ e (λ ks l. by ks l (send_way m.shape (length (card_at m.cards c).queue) c p) refl)
    where
      by : (ks : List Call) → Led ks m → (r : Result Way PacketFault) → send_way m.shape (length (card_at m.cards c).queue) c p ≡ r →
          raised m.shape m.owed (length p) r ≡ hops_owed m.shape (after (send c p))
      by ks l (Ok w) q =
          let h = (counts ks l).send c p (rw q refl) in
          let o = l.counted in
          let d = way-hops m.shape c w (length (card_at m.cards c).queue) p q in
          let k = (every_call m.shape L m.verdicts m.cards (send c p) ks l.reached).0 in
          let b : hops_owed m.shape (after (send c p)) ≤ most_owed =
          subst (λ (z : State). hops_owed m.shape z ≤ most_owed) k (bounds.holds m.shape L m.verdicts (ks ++ (send c p ∷ []))).owed in
          small _ _ (omega arith) b
        where
          small : (a b : ℕ) → a ≡ b → b ≤ most_owed → min a greatest ≡ b
          small a b z l = let q : b ≤ greatest = omega arith in rw z (omega arith)
      by ks l (Err f) q = l.counted ∙ sym (ap (hops_owed m.shape) (refused_same.send m.shape m.cards c p f (rw q refl)))
