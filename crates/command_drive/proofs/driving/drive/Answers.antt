use Rattle.command_drive.proofs.Looping.{drives_ended, drives_stopped, drives_unwritten}
use Rattle.command_drive.proofs.driving.drive.Goals as goal

pub returns-in-Err : goal.returns-in-Err
returns-in-Err g c = drives_stopped g.S.Source g.C.Sink g.R.Sink g.K.Command.refusal _ c.in-Err.why c.args.input.now c.do_items.new.input c.args.frames.now c.do_items.new.frames c.args.report.now c.do_items.new.report c.in-Err.ensures.stopped

pub returns-in-Ok-write_both : goal.returns-in-Ok-write_both
returns-in-Ok-write_both g c =
    drives_ended g.S.Source g.C.Sink g.R.Sink g.K.Command.refusal _ c.in-Ok.status c.do_items.new.texts c.args.input.now c.do_items.new.input c.args.frames.now c.do_items.new.frames c.write_both.new.frames c.args.report.now c.do_items.new.report c.write_both.new.report
    c.requires.refuses.decided c.in-Ok.ensures.ended c.in-Ok-write_both.ensures.report c.in-Ok-write_both.ensures.frames c.in-Ok-write_both.ensures.report_finished c.in-Ok-write_both.ensures.frames_finished c.in-Ok-write_both.ensures.quiet

pub returns-in-Err-write_both : goal.returns-in-Err-write_both
returns-in-Err-write_both g c =
    drives_unwritten g.S.Source g.C.Sink g.R.Sink g.K.Command.refusal _ c.in-Ok.status c.do_items.new.texts c.args.input.now c.do_items.new.input c.args.frames.now c.do_items.new.frames c.write_both.new.frames c.args.report.now c.do_items.new.report c.write_both.new.report
    c.in-Ok.ensures.ended c.in-Err-write_both.ensures.front c.in-Err-write_both.ensures.cause
