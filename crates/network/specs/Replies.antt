-- What a call is answered, as a number or a refusal.
use Rattle.std.specs.Prelude.{ℕ, Ok, Err, Result}
use Rattle.refusal.specs.declared.answer.Refusal.{Refusal}
use Rattle.refusal.specs.declared.send.PacketFault.{PacketFault}
use Rattle.refusal.specs.declared.drive.FireFault.{FireFault}
use Rattle.refusal.specs.declared.drive.TakeFault.{TakeFault}
use Rattle.refusal.specs.Refusals.{packet_refusal, fire_refusal, take_refusal}
use Rattle.wiring.specs.Shapes.{Shape}
use Rattle.station.specs.Plans.{Verdicts}
use Rattle.network.specs.Cards.{State}
use Rattle.network.specs.Sends.{send_step}
use Rattle.network.specs.Fires.{fire_step}
use Rattle.network.specs.Takes.{take_step}
use Rattle.network.specs.Owed.{hops_owed}
use Rattle.network.specs.Runs.{Call, send, fire, take, owed}

-- granted, granted with a number, or refused by a number and perhaps a place
pub data Reply : Type 0 where
  done : Reply
  gives : ℕ → Reply
  refuses : Refusal → Reply

abbrev pub send_reply : Result (Unit {0}) PacketFault → Reply
send_reply (Ok u) = done
send_reply (Err f) = refuses (packet_refusal f)

-- the outputs written, as a sum
abbrev pub fire_reply : Result ℕ FireFault → Reply
fire_reply (Ok n) = gives n
fire_reply (Err f) = refuses (fire_refusal f)

-- the word taken
abbrev pub take_reply : Result ℕ TakeFault → Reply
take_reply (Ok w) = gives w
take_reply (Err f) = refuses (take_refusal f)

-- the reply to a call on the tree x
abbrev pub reply : Shape → Verdicts → State → Call → Reply
reply s v x (send c p) = send_reply (send_step s x c p).answer
reply s v x (fire c t i) = fire_reply (fire_step s v x c t i).answer
reply s v x (take c) = take_reply (take_step s x c).answer
reply s v x owed = gives (hops_owed s x)
