use Rattle.std.proofs.Common.{slice_get}
use Rattle.command_node.proofs.NodeRecords.{starts_so}
use Rattle.command_node.proofs.node_command.start.Goals as goal

pub returns : goal.returns
returns c = starts_so (slice_get c.args.domain.now.routers c.args.router) c.in_ok-conf_at.field-0 c.new.result c.in_ok-conf_at.ensures.at c.new.ensures
