use Rattle.std.proofs.Common.{rules}
use Rattle.text.proofs.Parting.{parted_fields, only_fields}
use Rattle.text.proofs.fields.Fields.new.Goals as goal

pub returns : goal.returns
returns c = search (rules, parted_fields, only_fields)
