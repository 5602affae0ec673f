use Rattle.std.proofs.Common.{sym, ap, ◌∙◌}
use Rattle.std.specs.List.{slice_get}
use Rattle.std.proofs.lemmas.Iterator.Adapters.{option_map_id}
use Rattle.std.proofs.lemmas.Iterator.Consumers.{YieldsList-from_first, nth_from_yields_List}
use Rattle.routing.specs.Ancestors.{upward, upward_from}
use Rattle.routing.proofs.Upward.{climb_upward}
use Rattle.routing.proofs.walks.climbed.Goals as goal

pub returns : goal.returns
returns g c =
    let s = g.W.Wiring.shape c.args.wiring.now in
    sym (option_map_id c.nth.result) ∙
    (nth_from_yields_List c.nth.result c.nth.new.self _ c.nth.ensures.ran (YieldsList-from_first (λ x. x) (λ w. upward_from (g.W.Wiring.shape w.wiring.now) w.at) (upward s c.args.card) c.up_from.ensures.cards) ∙
    (ap (slice_get (upward s c.args.card)) c.from.ensures ∙ sym (climb_upward s (g.met.W.Wiring.lawful c.args.wiring.now) c.args.ups c.args.card)))
