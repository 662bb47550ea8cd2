use Rattle.std.proofs.Common.{ap, ◌∙◌, arith}
use Rattle.command_node.specs.NodeRun.{Node}
use Rattle.command_node.specs.Owed.{bare}
use Rattle.live_stream.specs.LiveRun.{live_done}
use Rattle.live_stream.proofs.LiveLaws.{done_counts}
use Rattle.live_stream.proofs.LiveRecords.{told_record}
use Rattle.live_stream.proofs.stream.LiveRouterCommandNgRecord.item.Goals as goal

pub returns-clause-did : goal.returns-clause-did
returns-clause-did c =
    told_record c.args.self.now.seat c.args.self.now.node c.trade-2.new.self c.args.item.now c.args.texts.now c.trade-2.new.texts c.take.new.node
    (c.in_ok-take.ensures ∙ ap (λ (n : Node). live_done c.args.self.now.seat n c.args.item.now) c.trade.ensures.node) c.trade-2.ensures.frames c.trade-2.ensures.report (ap bare c.trade-2.ensures.node)

pub returns-clause-room : goal.returns-clause-room
returns-clause-room c =
    let records = λ (n : Node). n.tally.records in
    omega (arith, ap records c.trade-2.ensures.node, ap records c.in_ok-take.ensures, done_counts c.args.self.now.seat c.trade.new.self c.args.item.now, ap records c.trade.ensures.node)
