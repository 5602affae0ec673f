use Rattle.std.specs.Io.Iter.{split_byte, split_known_bytes}
use Rattle.plan.proofs.Answering.{Halfway}
use Rattle.plan.proofs.Deck.answer_all.Given as goal

abbrev pub invariant-loop-line : goal.invariant-loop-line
invariant-loop-line g l =
    Halfway g.O.Write.contents (g.R.Read.remaining l.fn.input) (split_known_bytes g.R.Read.remaining l.line-iterator) (split_byte l.line-iterator) l.fn.self l.self
