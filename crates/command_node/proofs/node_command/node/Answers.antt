use Rattle.std.proofs.Common.{slice_get}
use Rattle.wire_base.specs.declared.status.Status.TheVariants.{CaptureRefused}
use Rattle.command_drive.proofs.Meanings.{drives_as}
use Rattle.command_drive.proofs.Untouched.{drives_none}
use Rattle.command_node.specs.Owed.{node_means}
use Rattle.command_node.proofs.NodeRecords.{any_conf, starts_as, means_so}
use Rattle.command_node.proofs.node_command.node.Goals as goal

pub returns-in_default : goal.returns-in_default
returns-in_default g c = any_conf (slice_get c.args.domain.now.routers c.args.router) _ (λ conf. drives_none g.S.Source g.C.Sink g.R.Sink CaptureRefused (node_means conf) c.args.input.now c.args.frames.now c.args.report.now)

pub returns-in_default-start : goal.returns-in_default-start
returns-in_default-start g c = any_conf (slice_get c.args.domain.now.routers c.args.router) _ (λ conf. drives_none g.S.Source g.C.Sink g.R.Sink CaptureRefused (node_means conf) c.args.input.now c.args.frames.now c.args.report.now)

pub returns : goal.returns
returns g c =
    let conf = c.in-Ok-start.node.control.conf in
    let means = means_so conf c.in-Ok-start.node c.trade.new.self c.trade.new.texts c.new-texts.result _ c.in-Ok.ensures.fresh c.in-Ok-start.ensures.fresh c.trade.ensures.node c.trade.ensures.frames c.trade.ensures.report c.new-texts.ensures.frames c.new-texts.ensures.report in
    starts_as (slice_get c.args.domain.now.routers c.args.router) conf _ c.in-Ok-start.ensures.at
    (drives_as g.S.Source g.C.Sink g.R.Sink CaptureRefused _ (node_means conf) c.drive.result c.args.input.now c.drive.new.input c.args.frames.now c.drive.new.frames c.args.report.now c.drive.new.report means.0 means.1 c.drive.ensures)
