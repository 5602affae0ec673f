-- A refused call leaves the tree as it was.
use Rattle.std.proofs.Common.{◌≡◌, ℕ, Bool, true, false, cond, ltb, List, length, Some, None, Ok, Err, Option, Result, refl, arith}
use Rattle.refusal.specs.declared.drive.FireFault.{FireFault}
use Rattle.refusal.specs.declared.drive.TakeFault.{TakeFault}
use Rattle.refusal.specs.declared.drive.TakeFault.TheVariants.{NoReader}
use Rattle.refusal.specs.declared.send.PacketFault.{PacketFault}
use Rattle.wiring.specs.Shapes.{Shape}
use Rattle.station.specs.Holds.{merge}
use Rattle.station.specs.Plans.{Verdicts, planned, sum_of}
use Rattle.station.specs.declared.channel.Channel.{Channel}
use Rattle.station.specs.declared.hold.Input.{Input}
use Rattle.station.specs.declared.hold.Station.{Station}
use Rattle.station.specs.declared.plan.Plan.{Plan}
use Rattle.network.specs.Cards.{State, card_at, oldest}
use Rattle.network.specs.Fires.{Fired, and_then, carried, carry, clear, fire_step, hold_at, located, passing, present, waits}
use Rattle.network.specs.Sends.{Way, send_way, sent_by}
use Rattle.network.specs.Takes.{taken_by}
use Rattle.network.specs.Trees.{RefusedSame}

-- a step that leaves x where it refuses
abbrev Still : State → Fired → Type 0
Still x out = (f : FireFault) → out.answer ≡ Err f → out.next ≡ x

then_still : {A : Type 0} (x : State) (m : Result A FireFault) (k : A → Fired) → ((a : A) → Still x (k a)) → Still x (and_then x m k)
then_still x (Err g) k s f e = refl
then_still x (Ok a) k s f e = s a f e

carry_still : (x : State) (c : ℕ) (t : Station) (i : Input) (o : Channel) (w : ℕ) (p : Plan ℕ) → Still x (carry x c t i o w p)
carry_still x c t i o w p = then_still x (clear x c p) (λ _. record { answer = Ok (sum_of p); next = carried c t i o w p x }) (λ a f e. absurd (grind arith))

fire_still : (s : Shape) (v : Verdicts) (x : State) (c : ℕ) (t : Station) (i : Input) → Still x (fire_step s v x c t i)
fire_still s v x c t i =
    then_still x (present s c) (λ _. and_then x (located s c t i) (λ o. and_then x (waits x o) (λ w. passing s v x c t i o w))) (λ _.
    then_still x (located s c t i) (λ o. and_then x (waits x o) (λ w. passing s v x c t i o w)) (λ o.
    then_still x (waits x o) (λ w. passing s v x c t i o w) (λ w.
    then_still x (merge (hold_at x c t) i w) (λ _. carry x c t i o w (planned s v c t (hold_at x c t) w)) (λ _.
    carry_still x c t i o w (planned s v c t (hold_at x c t) w)))))

send_still : (x : State) (c : ℕ) (p : List ℕ) (r : Result Way PacketFault) (f : PacketFault) → (sent_by x c p r).answer ≡ Err f → (sent_by x c p r).next ≡ x
send_still x c p (Ok w) f e = absurd (grind arith)
send_still x c p (Err g) f e = refl

take_still : (x : State) (c : ℕ) (b : Bool) (o : Option ℕ) (f : TakeFault) →
    (cond b (taken_by x c o) (record { answer = Err NoReader; next = x })).answer ≡ Err f → (cond b (taken_by x c o) (record { answer = Err NoReader; next = x })).next ≡ x
take_still x c true None f e = refl
take_still x c true (Some w) f e = absurd (grind arith)
take_still x c false o f e = refl

pub refused_same : RefusedSame
refused_same =
    record {
      send = λ s x c p f e. send_still x c p (send_way s (length (card_at x c).queue) c p) f e;
      fire = fire_still;
      take = λ s x c f e. take_still x c (ltb c s.cards) (oldest (card_at x c).inbox) f e;
    }
