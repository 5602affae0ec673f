use Rattle.session.proofs.Unchanged.{refused_change_nothing}
use Rattle.session.proofs.sessions.refused_lines_change_nothing.Goals as goal

pub returns : goal.returns
returns c = refused_change_nothing
