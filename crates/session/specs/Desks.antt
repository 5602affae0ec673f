-- What the console is, and what a command comes to.
use Rattle.std.specs.Prelude.{ℕ, List, [], Some, None, Option, Ok, Err, Result}
use Rattle.refusal.specs.declared.build.WiringFault.{WiringFault}
use Rattle.refusal.specs.declared.build.LicenceFault.{LicenceFault}
use Rattle.wiring.specs.Shapes.{Shape}
use Rattle.wiring.specs.Fulls.{full_tree}
use Rattle.licence.specs.declared.verdict.Verdict.{Verdict}
use Rattle.licence.specs.declared.verdict.Verdict.TheVariants.{Refuse, Class}
use Rattle.licence.specs.Ranges.{RangeMeaning, range_of}
use Rattle.router.specs.Kept.{Meaning}
use Rattle.router.specs.Calls.{new_tree, send_answer, sent_tree, fire_answer, fired_tree, take_answer, took_tree}
use Rattle.command.specs.Commands.{Command}
use Rattle.command.specs.Commands.Command.{Tree, Rule, Go, Send, Fire, Take, Owed}
use Rattle.session.specs.declared.answer.Answer.{Answer}
use Rattle.session.specs.declared.answer.Answer.TheVariants.{Done, Number, Word}
use Rattle.session.specs.declared.fault.LineFault.{LineFault}
use Rattle.session.specs.declared.fault.LineFault.TheVariants.{NotUnderstood, Tree as TreeFault, Rule as RuleFault, Packet as PacketFault, Fire as FireFault, Take as TakeFault}
use Rattle.rulebook.specs.Rulebooks.{with_rule, verdicts_of}

-- the console waits for a tree; or it has one and takes the rules; or the tree runs
pub data Desk : Type 0 where
  waiting : Desk
  ruling : Shape → List RangeMeaning → Desk
  running : Meaning → Desk

-- what a command comes to: what stands afterwards, and the answer
pub record Outcome (S : Type 0) : Type 0 where
  pub next : S
  pub answer : Result Answer LineFault

-- a command that is granted without a number
abbrev pub done : {S : Type 0} → S → Outcome S
done next = record { next = next; answer = Ok Done }

-- a command that is refused changes nothing
abbrev pub refused : {S : Type 0} → S → LineFault → Outcome S
refused old fault = record { next = old; answer = Err fault }

-- a command in the wrong part
abbrev pub misplaced : {S : Type 0} → S → Outcome S
misplaced old = refused old NotUnderstood

-- an answer by what a call gives, or by its fault
abbrev pub answered : {A F : Type 0} → (A → Answer) → (F → LineFault) → Result A F → Result Answer LineFault
answered gives why (Ok a) = Ok (gives a)
answered gives why (Err f) = Err (why f)

-- `tree`: the rules come next, and there are none yet; where the tree is refused, the console still waits for one
abbrev pub founded : Result Shape WiringFault → Outcome Desk
founded (Ok shape) = done (ruling shape [])
founded (Err fault) = refused waiting (TreeFault fault)

-- the verdict that a rule carries: 'refuse' without a class
abbrev pub carried : Option ℕ → Verdict
carried None = Refuse
carried (Some class) = Class class

-- `rule`
abbrev pub laid_down : Shape → List RangeMeaning → Result (List RangeMeaning) LicenceFault → Outcome Desk
laid_down shape rules (Ok more) = done (ruling shape more)
laid_down shape rules (Err fault) = refused (ruling shape rules) (RuleFault fault)

-- `send`, `fire`, `take` and `owed` on the tree
abbrev pub called : Meaning → Command → Outcome Meaning
called m (Send card packet) = record { next = sent_tree card packet m; answer = answered (λ _. Done) PacketFault (send_answer card packet m) }
called m (Fire card station input) = record { next = fired_tree card station input m; answer = answered Number FireFault (fire_answer card station input m) }
called m (Take card) = record { next = took_tree card m; answer = answered Word TakeFault (take_answer card m) }
called m Owed = record { next = m; answer = Ok (Number m.owed) }
called m other = misplaced m

-- what a command comes to
abbrev pub obeyed : Desk → Command → Outcome Desk
obeyed waiting (Tree levels) = founded (full_tree levels)
obeyed waiting other = misplaced waiting
obeyed (ruling shape rules) (Rule cards keys class) = laid_down shape rules (with_rule rules (range_of cards keys (carried class)))
obeyed (ruling shape rules) Go = done (running (new_tree shape (verdicts_of rules)))
obeyed (ruling shape rules) other = misplaced (ruling shape rules)
obeyed (running m) command = let o = called m command in record { next = running o.next; answer = o.answer }

-- what a line comes to, by the command that it says; a line that says none is not understood
abbrev pub heard : Desk → Option Command → Outcome Desk
heard d (Some command) = obeyed d command
heard d None = refused d NotUnderstood
