-- Every refusal of a line: its number, its place and its reason.
use Rattle.std.specs.Prelude.{ℕ, List, codes}
use Rattle.refusal.specs.declared.answer.Refusal.{Refusal}
use Rattle.refusal.specs.Numbers.{numbered}
use Rattle.refusal.specs.Refusals.{wiring_refusal, licence_refusal, packet_refusal, fire_refusal, take_refusal}
use Rattle.refusal.specs.Sentences.{wiring_reason, licence_reason, packet_reason, fire_reason, take_reason}
use Rattle.session.specs.declared.fault.LineFault.{LineFault}
use Rattle.session.specs.declared.fault.LineFault.TheVariants.{NotUnderstood, Tree, Rule, Packet, Fire, Take}

-- number and place: 21 where the line is not understood, else those of the fault that is held
abbrev pub line_refusal : LineFault → Refusal
line_refusal NotUnderstood = numbered 21
line_refusal (Tree f) = wiring_refusal f
line_refusal (Rule f) = licence_refusal f
line_refusal (Packet f) = packet_refusal f
line_refusal (Fire f) = fire_refusal f
line_refusal (Take f) = take_refusal f

-- what is wrong, in words
abbrev pub line_reason : LineFault → List ℕ
line_reason NotUnderstood = codes "the line is not understood"
line_reason (Tree f) = wiring_reason f
line_reason (Rule f) = licence_reason f
line_reason (Packet f) = packet_reason f
line_reason (Fire f) = fire_reason f
line_reason (Take f) = take_reason f
