use Rattle.std.proofs.Common.{List, ℕ, subst}
use Rattle.command_drive.specs.Outside.{AppendsFront}
use Rattle.command_drive.proofs.Written.{on_err, whole_appended}
use Rattle.command_drive.proofs.outputs.write_out.Goals as goal

pub returns-in_err-write_all-2-clause-front : goal.returns-in_err-write_all-2-clause-front
returns-in_err-write_all-2-clause-front g c =
    let frames = whole_appended (g.C.Sink.written c.args.frames.now) (g.C.Sink.written c.write_all.new.sink) c.as_slice.result.now c.in_ok-write_all.ensures.written in
    on_err c.from_residual-in_err-write_all-2.result _ (record {
      report_front = subst (λ (l : List ℕ). AppendsFront (g.R.Sink.written c.args.report.now) (g.R.Sink.written c.write_all-2.new.sink) l) c.as_slice-2.ensures c.in_err-write_all-2.ensures.front;
      frames_front = subst (λ (l : List ℕ). AppendsFront (g.C.Sink.written c.args.frames.now) (g.C.Sink.written c.write_all.new.sink) l) c.as_slice.ensures frames;
    })
