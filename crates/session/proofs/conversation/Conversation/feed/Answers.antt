use Rattle.std.proofs.Common.{Some, rules}
use Rattle.session.proofs.Answering.{answered_on}
use Rattle.session.specs.Conversations.{desk_in}
use Rattle.session.proofs.conversation.Conversation.feed.Goals as goal

pub returns-in_err-said-clause-onward : goal.returns-in_err-said-clause-onward
returns-in_err-said-clause-onward c = λ more.
    answered_on (desk_in c.args.self.now) _ c.args.self.now.line c.args.input.now.now more _ _ _ (search rules) (search rules) c.feed.ensures.kept c.feed.ensures.left

pub returns-clause-onward : goal.returns-clause-onward
returns-clause-onward c = λ more.
    answered_on (desk_in c.args.self.now) _ c.args.self.now.line c.args.input.now.now more (Some c.hear.result) _ _ (search rules) (search rules) c.feed.ensures.kept c.feed.ensures.left
