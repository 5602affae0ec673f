use Rattle.std.proofs.Common.{refl}
use Rattle.std.proofs.lemmas.Bool.{both_ways, and_parts, and_from}
use Rattle.routing.proofs.Subtree.{root_covers}
use Rattle.routing.proofs.orders.course_to.Goals as goal

pub returns-in_err-turn : goal.returns-in_err-turn
returns-in_err-turn g c =
    let root = root_covers (g.W.Wiring.shape c.args.wiring.now) (g.met.W.Wiring.lawful c.args.wiring.now) in
    absurd (both_ways _ (c.in_err-turn.ensures 0) (and_from _ _ (root c.args.sender c.requires.sender) (and_from _ _ (root c.args.terminus c.requires.terminus) refl)))

pub links_up-ups-requires : goal.links_up-ups-requires
links_up-ups-requires g c = (and_parts _ _ c.in_ok-turn.ensures.has).0

pub sides_down-requires : goal.sides_down-requires
sides_down-requires g c = (and_parts _ _ (and_parts _ _ c.in_ok-turn.ensures.has).1).0
