use Rattle.std.proofs.Common.{arith}
use Rattle.std.proofs.lemmas.Grind.{common_steps}
use Rattle.std.proofs.lemmas.List.{set-set}
use Rattle.store.proofs.table.Table.write.Goals as goal

pub returns : goal.returns
returns c = grind (arith, common_steps, set-set)
