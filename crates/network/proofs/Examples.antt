-- The worked packets and calls, by computing.
use Rattle.std.proofs.Common.{refl}
use Rattle.packet.specs.Packets.{is_head_word, is_tail_word, later_fault, kind_fault, reserved_fault}
use Rattle.packet.specs.Routes.{bits_from, route_bits, has_one, ups_of, after_turn, before_stop, read_bits, read_route, top_bit, shifted, advance, stops}
use Rattle.packet.specs.Heads.{floods}
use Rattle.routing.specs.Walks.{climb, descend}
use Rattle.routing.specs.Subtrees.{covers_in, covers, count_below, subtree_size}
use Rattle.network.specs.Nodes.{station_of, card_of, number, tag, same_channel, above, card_or_zero, target, up_link_of, down_link_to, outs, up_link_from, down_link_into, input_of}
use Rattle.network.specs.Sums.{sum_to, sum_channels, sum_over}
use Rattle.network.specs.Owed.{on_link, holds, reads, ahead, by_head, owed_for, is_channel, head_by, hold_in, hold_of, owed_in, hops_owed}
use Rattle.network.specs.Arrivals.{hops_by, hops_of}
use Rattle.network.specs.Worked.{AllHold, worked}

pub all_hold : AllHold worked
unfolding is_head_word is_tail_word bits_from route_bits has_one ups_of after_turn before_stop read_bits read_route top_bit shifted advance stops floods later_fault kind_fault reserved_fault climb descend covers_in covers count_below subtree_size station_of card_of number tag same_channel above card_or_zero target up_link_of down_link_to outs up_link_from down_link_into input_of sum_to sum_channels sum_over on_link holds reads ahead by_head owed_for is_channel head_by hold_in hold_of owed_in hops_owed hops_by hops_of
all_hold = (refl, (refl, (refl, (refl, ((refl, (refl, (refl, tt))), ((refl, (refl, (refl, (refl, (refl, (refl, (refl, (refl, (refl, tt))))))))), tt))))))
