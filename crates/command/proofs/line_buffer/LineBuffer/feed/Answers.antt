use Rattle.std.proofs.Common.{refl, rules}
use Rattle.std.proofs.lemmas.List.{take_rest}
use Rattle.command.proofs.Feeding.{fed_line, fed_part, fed_on}
use Rattle.command.proofs.line_buffer.LineBuffer.feed.Goals as goal

pub returns-in-Some-clause-said : goal.returns-in-Some-clause-said
returns-in-Some-clause-said c = rw (fed_line c.args.self.now c.args.input.now.now c.in-Some.end c.in-Some.ensures, c.end.ensures.said) refl

pub returns-in-Some-clause-kept : goal.returns-in-Some-clause-kept
returns-in-Some-clause-kept c = rw (fed_line c.args.self.now c.args.input.now.now c.in-Some.end c.in-Some.ensures) c.end.ensures.empty

pub returns-in-Some-clause-left : goal.returns-in-Some-clause-left
returns-in-Some-clause-left c = rw (fed_line c.args.self.now c.args.input.now.now c.in-Some.end c.in-Some.ensures, take_rest) refl

pub returns-in-None-clause-said : goal.returns-in-None-clause-said
returns-in-None-clause-said c = rw (fed_part c.args.self.now c.args.input.now.now c.in-None.ensures) refl

pub returns-in-None-clause-kept : goal.returns-in-None-clause-kept
returns-in-None-clause-kept c = rw (fed_part c.args.self.now c.args.input.now.now c.in-None.ensures) c.keep.ensures

pub returns-in-None-clause-left : goal.returns-in-None-clause-left
returns-in-None-clause-left c = rw (fed_part c.args.self.now c.args.input.now.now c.in-None.ensures) (search rules)

pub returns-in-Some-clause-onward : goal.returns-in-Some-clause-onward
returns-in-Some-clause-onward c = λ more. fed_on c.args.self.now c.args.input.now.now more _ _ _ (returns-in-Some-clause-said c) (returns-in-Some-clause-kept c) (returns-in-Some-clause-left c)

pub returns-in-None-clause-onward : goal.returns-in-None-clause-onward
returns-in-None-clause-onward c = λ more. fed_on c.args.self.now c.args.input.now.now more _ _ _ (returns-in-None-clause-said c) (returns-in-None-clause-kept c) (returns-in-None-clause-left c)
