use Rattle.isis_hello.proofs.ChangeLaws.{changes_after}
use Rattle.isis_hello.proofs.laws.changes_are_reported.Goals as goal

pub returns : goal.returns
returns c = changes_after
