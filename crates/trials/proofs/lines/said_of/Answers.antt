use Rattle.std.proofs.Common.{is_some, sym, ap, ◌∙◌, rules}
use Rattle.std.specs.Option.{option_map}
use Rattle.command.specs.Commands.{meant}
use Rattle.command.proofs.Feeding.{fed_shorter}
use Rattle.trials.proofs.lines.said_of.Goals as goal

pub loop-line-smaller : goal.loop-line-smaller
loop-line-smaller c =
    rw c.feed.ensures.left (fed_shorter c.loop-line.buffer c.loop-line.left.now
    (ap is_some (sym c.feed.ensures.said) ∙ ap (λ r. is_some (option_map (option_map meant) r)) c.in-Some.is))
