use Rattle.std.proofs.Common.{◌≡◌, ◌+◌, ◌*◌, ◌≤◌, ◌∷◌, [], length}
use Rattle.arrayvec.specs.ArrayVec.{array_vec_len}
use Rattle.packet.specs.Heads.{head_word}
use Rattle.text.specs.Fields.{fields_left, none_left}
use Rattle.command.specs.Packets.{word_kinded}
use Rattle.command.specs.Sizes.{bytes_taken}
use Rattle.command.proofs.SentWords.{onward}
use Rattle.command.proofs.sending.packet.Given as goal

-- the words so far and those to come are those of the packet, and they have room
abbrev pub invariant-loop-field : goal.invariant-loop-field
invariant-loop-field l = record {
  rest : onward l.packet.items (fields_left l.fields) ≡ onward (head_word l.fn.head.mode l.fn.head.route.bits ∷ word_kinded (none_left (fields_left l.fn.fields)) l.fn.key ∷ []) (fields_left l.fn.fields);
  room : 2 * array_vec_len l.packet + bytes_taken (fields_left l.fields) ≤ 191;
}

abbrev pub decreases-loop-field : goal.decreases-loop-field
decreases-loop-field l = length (fields_left l.fields)
