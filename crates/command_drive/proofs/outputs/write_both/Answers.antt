use Rattle.std.proofs.Common.{List, ℕ, subst}
use Rattle.command_drive.specs.Outside.{AppendsFront}
use Rattle.command_drive.proofs.Along.{err_and}
use Rattle.command_drive.proofs.Written.{whole_appended}
use Rattle.command_drive.proofs.outputs.write_both.Goals as goal

pub returns-clause-front : goal.returns-clause-front
returns-clause-front g c =
    let frames = whole_appended (g.C.Sink.written c.args.frames.now) (g.C.Sink.written c.write_whole.new.sink) c.as_slice.result.now c.in_ok-write_whole.ensures.written in
    err_and c.write_whole-2.result (AppendsFront (g.R.Sink.written c.args.report.now) (g.R.Sink.written c.write_whole-2.new.sink) c.as_slice-2.result.now) _ c.write_whole-2.ensures.front (λ front. record {
      report_front = subst (λ (l : List ℕ). AppendsFront (g.R.Sink.written c.args.report.now) (g.R.Sink.written c.write_whole-2.new.sink) l) c.as_slice-2.ensures front;
      frames_front = subst (λ (l : List ℕ). AppendsFront (g.C.Sink.written c.args.frames.now) (g.C.Sink.written c.write_whole.new.sink) l) c.as_slice.ensures frames;
    })
