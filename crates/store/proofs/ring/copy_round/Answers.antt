use Rattle.std.proofs.Common.{arith}
use Rattle.store.proofs.Around.{around_copied, around_copied_round}
use Rattle.store.proofs.ring.copy_round.Goals as goal

pub returns-then-words-room : goal.returns-then-words-room
returns-then-words-room c f n at few = rw c.copy_from_slice.ensures.after (around_copied c.args.memory.now c.args.words.now f n c.args.at _ (search arith) at few (omega arith) (omega arith))

pub returns : goal.returns
returns c f n at few =
    let s = c.split_at.ensures in
    rw (c.copy_from_slice-3.ensures.after, c.copy_from_slice-2.ensures.after)
    (around_copied_round c.args.memory.now c.args.words.now c.split_at.result.0.now c.split_at.result.1.now f n c.args.at (search arith) at few s.by_index.0 (omega (arith, s.front_len)))
