use Rattle.command_drive.proofs.Written.{front_appended}
use Rattle.command_drive.proofs.Along.{err_and}
use Rattle.command_drive.proofs.outputs.flush_both.Goals as goal

pub returns-clause-front : goal.returns-clause-front
returns-clause-front g c =
    let flushed = c.in_ok-flush.ensures.written in
    err_and c.flush-2.result _ _ c.flush-2.ensures.front (λ front. record {
      report_front = front;
      frames_front = front_appended (g.C.Sink.written c.args.frames.now) (g.C.Sink.written c.flush.new.report) flushed.0 c.flush.new.lines c.args.texts.now.frames flushed.1 flushed.2;
    })
