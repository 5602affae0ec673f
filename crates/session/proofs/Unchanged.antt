-- A refused line changes nothing.
use Rattle.std.proofs.Common.{◌≡◌, ℕ, List, length, Some, None, Ok, Err, Result, refl, sym, ap, ◌∙◌, arith}
use Rattle.refusal.specs.declared.build.WiringFault.{WiringFault}
use Rattle.refusal.specs.declared.build.LicenceFault.{LicenceFault}
use Rattle.refusal.specs.declared.send.PacketFault.{PacketFault}
use Rattle.refusal.specs.declared.drive.FireFault.{FireFault}
use Rattle.refusal.specs.declared.drive.TakeFault.{TakeFault}
use Rattle.wiring.specs.Shapes.{Shape}
use Rattle.wiring.specs.Fulls.{full_tree}
use Rattle.station.specs.declared.hold.Station.{Station}
use Rattle.station.specs.declared.hold.Input.{Input}
use Rattle.licence.specs.Ranges.{RangeMeaning, range_of}
use Rattle.network.specs.Cards.{card_at}
use Rattle.network.specs.Sends.{Way, send_way, sent_answer, sent_state}
use Rattle.network.proofs.RefusedCalls.{refused_same}
use Rattle.router.specs.Inner.{lowered, raised}
use Rattle.router.specs.Kept.{Meaning, meaning}
use Rattle.router.specs.Calls.{fire_answer, take_answer}
use Rattle.command.specs.Commands.{Command}
use Rattle.command.specs.Commands.Command.{Tree, Rule, Go, Send, Fire, Take}
use Rattle.session.specs.declared.answer.Answer.TheVariants.{Done, Number, Word}
use Rattle.session.specs.declared.fault.LineFault.{LineFault}
use Rattle.session.specs.declared.fault.LineFault.TheVariants.{Packet as LinePacket, Fire as LineFire, Take as LineTake}
use Rattle.rulebook.specs.Rulebooks.{with_rule}
use Rattle.session.specs.Desks.{Desk, Outcome, waiting, ruling, running, obeyed, founded, laid_down, carried, answered, called}
use Rattle.session.specs.Sessions.{RefusedChangeNothing}

-- where the outcome is a refusal, the old stands
abbrev Unchanged : {S : Type 0} → S → Outcome S → Type 0
Unchanged old out = (f : LineFault) → out.answer ≡ Err f → out.next ≡ old

founded_same : (r : Result Shape WiringFault) → Unchanged waiting (founded r)
founded_same (Ok s) f e = absurd (grind arith)
founded_same (Err g) f e = refl

laid_same : (s : Shape) (rules : List RangeMeaning) (r : Result (List RangeMeaning) LicenceFault) → Unchanged (ruling s rules) (laid_down s rules r)
laid_same s rules (Ok more) f e = absurd (grind arith)
laid_same s rules (Err g) f e = refl

module _ (m : Meaning) where
  -- a send, by the packet's way
  abbrev send_by : ℕ → List ℕ → Result Way PacketFault → Outcome Meaning
  send_by c p r = record {
    next = meaning m.shape m.verdicts (sent_state m.cards c p r) (raised m.shape m.owed (length p) r);
    answer = answered (λ _. Done) LinePacket (sent_answer r);
  }

  send_same : (c : ℕ) (p : List ℕ) (r : Result Way PacketFault) → Unchanged m (send_by c p r)
  send_same c p (Ok w) f e = absurd (grind arith)
  send_same c p (Err g) f e = refl

  fire_same : (c : ℕ) (t : Station) (i : Input) (a : Result ℕ FireFault) → fire_answer c t i m ≡ a → Unchanged m (called m (Fire c t i))
  fire_same c t i (Ok n) q f e = let z : answered Number LineFire (Ok n) ≡ Err f = ap (answered Number LineFire) (sym q) ∙ e in absurd (grind arith)
  fire_same c t i (Err g) q f e =
      ap (λ x. meaning m.shape m.verdicts x (lowered m.owed (fire_answer c t i m))) (refused_same.fire m.shape m.verdicts m.cards c t i g q)
      ∙ ap (λ (a : Result ℕ FireFault). meaning m.shape m.verdicts m.cards (lowered m.owed a)) q

  take_same : (c : ℕ) (a : Result ℕ TakeFault) → take_answer c m ≡ a → Unchanged m (called m (Take c))
  take_same c (Ok w) q f e = let z : answered Word LineTake (Ok w) ≡ Err f = ap (answered Word LineTake) (sym q) ∙ e in absurd (grind arith)
  take_same c (Err g) q f e = ap (λ x. meaning m.shape m.verdicts x m.owed) (refused_same.take m.shape m.cards c g q)

  call_same : (k : Command) → Unchanged m (called m k)
  call_same (Send c p) f e = send_same c p (send_way m.shape (length (card_at m.cards c).queue) c p) f e
  call_same (Fire c t i) f e = fire_same c t i (fire_answer c t i m) refl f e
  call_same (Take c) f e = take_same c (take_answer c m) refl f e
  call_same k f e = refl

obeyed_same : (d : Desk) (k : Command) → Unchanged d (obeyed d k)
obeyed_same waiting (Tree l) f e = founded_same (full_tree l) f e
obeyed_same waiting k f e = refl
obeyed_same (ruling s rules) (Rule cards keys class) f e = laid_same s rules (with_rule rules (range_of cards keys (carried class))) f e
obeyed_same (ruling s rules) Go f e = absurd (grind arith)
obeyed_same (ruling s rules) k f e = refl
obeyed_same (running m) k f e = ap running (call_same m k f e)

pub refused_change_nothing : RefusedChangeNothing
refused_change_nothing d (Some k) f e = obeyed_same d k f e
refused_change_nothing d None f e = refl
