use Rattle.std.proofs.Common.{ℕ, List, Option, ap, subst}
use Rattle.wire_base.specs.declared.status.Status.TheVariants.{CaptureRefused}
use Rattle.command_drive.specs.Driving.{Drives}
use Rattle.live_stream.specs.HelloRun.{hello_means}
use Rattle.live_stream.specs.Verdict.{IsAnswered}
use Rattle.live_stream.proofs.Verdicts.{some_conf, seated_answer, unseated_answer}
use Rattle.live_stream.proofs.run.run_hello.Goals as goal

pub returns-in-Ok : goal.returns-in-Ok
returns-in-Ok g c decided =
    let found = some_conf c.in-Ok.domain c.in-Ok.place (λ r. Drives g.S.Source g.C.Sink g.R.Sink CaptureRefused (hello_means (record { domain = c.in-Ok.domain; place = c.in-Ok.place }) r) c.run_hellos.result c.args.input.now c.run_hellos.new.input c.args.frames.now c.run_hellos.new.frames c.seat_in.new.report c.run_hellos.new.report)
    c.in-Ok.ensures.within c.run_hellos.ensures in
    subst (λ (report : Option (List ℕ)). IsAnswered hello_means (g.D.Source.left c.args.conf.now) c.args.router.now (g.S.Source.left c.args.input.now) c.run_hellos.result report (g.R.Sink.written c.run_hellos.new.report) (g.C.Sink.written c.args.frames.now) (g.C.Sink.written c.run_hellos.new.frames))
    (ap (λ report. g.R.Sink.written report) c.in-Ok.ensures.untouched)
    (seated_answer hello_means (g.D.Source.left c.args.conf.now) (g.S.Source.left c.args.input.now) c.args.router.now c.in-Ok.domain c.in-Ok.place found.0 c.run_hellos.result
    (g.R.Sink.written c.seat_in.new.report) (g.R.Sink.written c.run_hellos.new.report) (g.C.Sink.written c.args.frames.now) (g.C.Sink.written c.run_hellos.new.frames) c.in-Ok.ensures.seats found.1 (found.2.answer decided))

pub returns-in-Err : goal.returns-in-Err
returns-in-Err g c decided =
    unseated_answer hello_means (g.D.Source.left c.args.conf.now) (g.S.Source.left c.args.input.now) c.args.router.now c.in-Err.ended (g.R.Sink.written c.args.report.now) (g.R.Sink.written c.seat_in.new.report) (g.C.Sink.written c.args.frames.now) c.in-Err.ensures.unseated decided
