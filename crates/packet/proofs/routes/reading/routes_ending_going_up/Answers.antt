use Rattle.std.proofs.Common.{refl}
use Rattle.packet.specs.Routes.{ending_going_up, read_route, read_bits, route_bits, bits_from, ups_of, after_turn, before_stop, has_one}
use Rattle.packet.proofs.routes.reading.routes_ending_going_up.Goals as goal

pub returns : goal.returns
unfolding ending_going_up read_route read_bits route_bits bits_from ups_of after_turn before_stop has_one
returns c = refl
