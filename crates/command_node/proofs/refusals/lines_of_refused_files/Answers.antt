use Rattle.std.proofs.Common.{refl}
use Rattle.std.specs.Fmt.{digits}
use Rattle.command_node.proofs.refusals.lines_of_refused_files.Goals as goal

pub returns-clause-duplicate : goal.returns-clause-duplicate
unfolding digits
returns-clause-duplicate c = refl

pub returns-clause-toml : goal.returns-clause-toml
unfolding digits
returns-clause-toml c = refl
