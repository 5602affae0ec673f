use Rattle.std.proofs.Common.{rules}
use Rattle.text.proofs.Cutting.{none_left_lem}
use Rattle.text.proofs.fields.Fields.is_done.Goals as goal

pub returns : goal.returns
returns c = search (rules, none_left_lem)
