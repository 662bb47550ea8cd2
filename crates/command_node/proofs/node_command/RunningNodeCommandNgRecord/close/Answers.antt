use Rattle.std.proofs.Common.{◌≡◌, ℕ, List, None, refl, subst}
use Rattle.std.specs.Prelude.{IfOk}
use Rattle.wire_base.specs.declared.status.Status.{Status}
use Rattle.command_drive.specs.Answer.{behind}
use Rattle.command_drive.specs.Reading.{Closed}
use Rattle.command_node.specs.NodeRun.{Node}
use Rattle.command_node.specs.Owed.{end_by}
use Rattle.command_node.proofs.NodeRecords.{concludes_ok}
use Rattle.command_node.proofs.node_command.RunningNodeCommandNgRecord.close.Goals as goal

pub returns-clause-concluded : goal.returns-clause-concluded
returns-clause-concluded c =
    concludes_ok c.conclude.result c.args.self.now (Closed c.args.close) (Closed c.args.close) c.args.texts.now (record c.args.texts.now { report = c.conclude.new.out }) refl
    (subst (λ (n : Node). IfOk c.conclude.result (λ ended. ◌≡◌ {A = Status × List ℕ} (ended, c.conclude.new.out) (behind c.args.texts.now.report (end_by (Closed c.args.close) n.tally None)))) c.self.view_is c.conclude.ensures) refl
