use Rattle.std.proofs.Common.{refl}
use Rattle.routing.proofs.Examples.{all_hold}
use Rattle.routing.proofs.worked.worked_routes.Goals as goal

pub returns : goal.returns
returns c = record { count = refl; hold = all_hold }
