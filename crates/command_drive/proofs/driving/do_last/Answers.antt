use Rattle.std.proofs.Common.{◌∷◌, [], List}
use Rattle.std.specs.Prelude.{None}
use Rattle.command_drive.proofs.Written.{on_err}
use Rattle.command_drive.specs.declared.items.Close.TheVariants as closes
use Rattle.command_drive.specs.Reading.{Closed, Behind}
use Rattle.command_drive.specs.Driving.{total}
use Rattle.command_drive.proofs.Along.{fronts_past, fronts_none, went_as}
use Rattle.command_drive.proofs.driving.do_last.Goals as goal

pub returns-in_err-status-clause-front : goal.returns-in_err-status-clause-front
returns-in_err-status-clause-front g c = on_err c.from_residual.result _ (c.in_err-status.ensures.front [] (Closed closes.Ended))

pub returns-in_err-close-in-None-clause-front : goal.returns-in_err-close-in-None-clause-front
returns-in_err-close-in-None-clause-front g c =
    let start = λ (more : List g.row.T.Denot) (behind : Behind). total c.args.texts.now (g.K.Command.owes c.args.command.now) (c.args.item.now ∷ more) behind in
    let now = total c.do_item.new.texts (g.K.Command.owes c.do_item.new.command) in
    on_err c.from_residual-in_err-close-in-None.result _
    (fronts_past g.C.Sink g.R.Sink start now c.args.frames.now c.do_item.new.frames c.do_item.new.frames c.args.report.now c.do_item.new.report c.do_item.new.report
    (went_as g.C.Sink g.R.Sink c.in_ok-status.field-0 None g.K.Command.refusal start now c.do_item.new.texts c.args.frames.now c.do_item.new.frames c.args.report.now c.do_item.new.report c.in-None.is c.in_ok-status.ensures.went)
    (fronts_none g.C.Sink g.R.Sink now c.do_item.new.frames c.do_item.new.report) [] (Closed closes.Ended))
