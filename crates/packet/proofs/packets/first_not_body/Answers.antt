use Rattle.std.proofs.Common.{rules, sym, ap, ◌∙◌}
use denote.Enum.Bare.{same_true}
use Rattle.packet.specs.contracts.words.Kind.{the_type}
use Rattle.packet.specs.Words.{kind_of}
use Rattle.packet.proofs.Checking.{all_bodies}
use Rattle.packet.proofs.packets.first_not_body.Goals as goal

pub returns-then-eq : goal.returns-then-eq
returns-then-eq c = all_bodies c.args.words.now (ap kind_of (sym c.gathered.ensures) ∙ (sym c.of.ensures ∙ same_true the_type (search rules) _ _ (sym c.if-eq.ensures)))
