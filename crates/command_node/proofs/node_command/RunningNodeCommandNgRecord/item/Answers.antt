use Rattle.std.proofs.Common.{refl, ap, sym, ◌∙◌, ◌++◌, arith}
use Rattle.command_node.specs.NodeRun.{Node, gap_refused, record_done}
use Rattle.command_node.specs.Owed.{bare}
use Rattle.command_node.proofs.NodeLaws.{record_counts}
use Rattle.command_node.proofs.NodeRecords.{told_record, ends_gap}
use Rattle.command_node.proofs.node_command.RunningNodeCommandNgRecord.item.Goals as goal

pub returns-in-Some-clause-did : goal.returns-in-Some-clause-did
returns-in-Some-clause-did c = (
  refl,
  λ more how. ends_gap c.args.self.now c.args.item.now c.in-Some.gap more how c.args.texts.now (record c.args.texts.now { report = c.push_gap.new.out }) (sym c.in-Some.ensures) (c.in_ok-push_gap.ensures ∙ ap (λ (n : Node). c.args.texts.now.report ++ (gap_refused n.tally.records c.in-Some.gap).1) c.self.view_is) refl,
)

pub returns-clause-did : goal.returns-clause-did
returns-clause-did c =
    told_record c.args.self.now c.trade-2.new.self c.args.item.now c.args.texts.now c.trade-2.new.texts (sym c.in_default.ensures) c.take.new.self
    (c.in_ok-take.ensures ∙ ap (λ (n : Node). record_done n c.args.item.now) c.trade.ensures.node) c.trade-2.ensures.frames c.trade-2.ensures.report (ap bare c.trade-2.ensures.node)

pub returns-clause-room : goal.returns-clause-room
returns-clause-room c =
    let records = λ (n : Node). n.tally.records in
    omega (arith, ap records c.trade-2.ensures.node, ap records c.in_ok-take.ensures, (record_counts c.trade.new.self c.args.item.now).0, ap records c.trade.ensures.node)
