use Rattle.text.proofs.Cutting.{none_at_first}
use Rattle.text.proofs.fields.cut.Goals as goal

pub loop-i-init : goal.loop-i-init
loop-i-init c = none_at_first c.args.text.now
