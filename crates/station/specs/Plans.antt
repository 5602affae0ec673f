-- What a station does with a word that may pass: where it writes the word, and what becomes of it at the card itself.
use Rattle.std.specs.Prelude.{ℕ, ◌+◌, Bool, false, cond, not, ◌&&◌, Some, None, Option, ◌==◌}
use Rattle.packet.specs.declared.sides.Side.TheVariants.{Left, Right}
use Rattle.packet.specs.Routes.{top_bit, advance, stops}
use Rattle.packet.specs.Heads.{floods, key_of, stamped}
use Rattle.wiring.specs.Shapes.{Shape}
use Rattle.licence.specs.declared.verdict.Verdict.{Verdict}
use Rattle.licence.specs.declared.verdict.Verdict.TheVariants.{Refuse, Class}
use Rattle.station.specs.declared.hold.Station.{Station}
use Rattle.station.specs.declared.hold.Station.TheVariants.{Up, Down}
use Rattle.station.specs.declared.hold.Input.{Input}
use Rattle.station.specs.declared.hold.Here.{Here}
use Rattle.station.specs.declared.hold.Here.TheVariants.{Onward, Dropped, Kept}
use Rattle.station.specs.declared.hold.Hold.{Hold}
use Rattle.station.specs.declared.hold.Hold.TheVariants.{Free, Held, Dropping, Accepting}
use Rattle.station.specs.declared.plan.Plan.{Plan}

-- what a licence policy means: a verdict for each card and key
abbrev pub Verdicts : Type 0
Verdicts = ℕ → ℕ → Verdict

-- from the up station of card c: a 1 to the up link, which card 0 has not, and a 0 to the turn link
abbrev pub up_by : ℕ → Bool → ℕ → Plan ℕ
up_by c b w = record { up = b && not (c == 0); turn = not b; left = None; right = None; word = w; here = Onward }

-- Up: a head goes by its top route bit, and its route moves up one bit. Later words follow their head unchanged.
abbrev pub upward : ℕ → Hold Input → ℕ → Plan ℕ
upward c Free w = up_by c (top_bit w) (advance w)
upward c (Held i h) w = up_by c (top_bit h) w
upward c (Dropping i h) w = up_by c (top_bit h) w
upward c (Accepting i h) w = up_by c (top_bit h) w

-- to these daughters
abbrev pub fork_to : Option ℕ → Option ℕ → ℕ → Here → Plan ℕ
fork_to l r w e = record { up = false; turn = false; left = l; right = r; word = w; here = e }

-- from the down station of card c, by the head h: at its stop a flooding packet goes to every daughter present and a targeted one to none;
-- before its stop a packet goes to the daughter that the top route bit names
abbrev pub down_by : Shape → ℕ → ℕ → ℕ → Here → Plan ℕ
down_by s c h w e =
    cond (stops h)
    (cond (floods h) (fork_to (s.daughter Left c) (s.daughter Right c) w e) (fork_to None None w e))
    (cond (top_bit h) (fork_to None (s.daughter Right c) w e) (fork_to (s.daughter Left c) None w e))

-- a targeted packet is always accepted, with class 0; a flooding one as the policy says for this card and the packet's key
abbrev pub accepted : Verdicts → ℕ → ℕ → ℕ → Verdict
accepted v c h k = cond (floods h) (v c (key_of k)) (Class 0)

-- what becomes of a key word by the verdict: where it is accepted, the class is written into this card's copy alone
abbrev pub judged_by : Verdict → ℕ → Here
judged_by Refuse w = Dropped
judged_by (Class k) w = Kept (stamped w k)

-- the word after the head, at card c: at the stop of its packet the policy is asked
abbrev pub judged : Verdicts → ℕ → ℕ → ℕ → Here
judged v c h w = cond (stops h) (judged_by (accepted v c h w) w) Onward

-- Down: a head goes on or stops, and its route moves up one bit; the head itself is not delivered. Later words follow their head unchanged.
-- At the stop they enter the inbox if the packet is accepted.
abbrev pub downward : Shape → Verdicts → ℕ → Hold Input → ℕ → Plan ℕ
downward s v c Free w = down_by s c w (advance w) Onward
downward s v c (Held i h) w = down_by s c h w (judged v c h w)
downward s v c (Dropping i h) w = down_by s c h w Dropped
downward s v c (Accepting i h) w = down_by s c h w (Kept w)

-- up or down
abbrev pub planned : Shape → Verdicts → ℕ → Station → Hold Input → ℕ → Plan ℕ
planned s v c Up d w = upward c d w
planned s v c Down d w = downward s v c d w

abbrev pub if_some : {C : Type 0} → Option C → ℕ → ℕ
if_some None n = 0
if_some (Some d) n = n

abbrev pub if_kept : Here → ℕ → ℕ
if_kept Onward n = 0
if_kept Dropped n = 0
if_kept (Kept w) n = n

-- the outputs written, as a sum: 1 up link, 2 turn link, 4 left, 8 right, 16 inbox
abbrev pub sum_of : {C : Type 0} → Plan C → ℕ
sum_of p = cond p.up 1 0 + cond p.turn 2 0 + if_some p.left 4 + if_some p.right 8 + if_kept p.here 16
