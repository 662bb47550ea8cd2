use Rattle.std.proofs.Common.{ℕ, List, Option, ap, subst}
use Rattle.wire_base.specs.declared.status.Status.TheVariants.{CaptureRefused}
use Rattle.command_drive.specs.Driving.{Drives}
use Rattle.live_stream.specs.LiveRun.{live_means}
use Rattle.live_stream.specs.Verdict.{IsAnswered}
use Rattle.live_stream.proofs.Verdicts.{some_conf, seated_answer, unseated_answer}
use Rattle.live_stream.proofs.run.run_live.Goals as goal

pub returns-in-Ok : goal.returns-in-Ok
returns-in-Ok g c decided =
    let found = some_conf c.in-Ok.domain c.in-Ok.place (λ r. Drives g.S.Source g.C.Sink g.R.Sink CaptureRefused (live_means (record { domain = c.in-Ok.domain; place = c.in-Ok.place }) r) c.run_router.result c.args.input.now c.run_router.new.input c.args.frames.now c.run_router.new.frames c.seat_in.new.report c.run_router.new.report)
    c.in-Ok.ensures.within c.run_router.ensures in
    subst (λ (report : Option (List ℕ)). IsAnswered live_means (g.D.Source.left c.args.conf.now) c.args.router.now (g.S.Source.left c.args.input.now) c.run_router.result report (g.R.Sink.written c.run_router.new.report) (g.C.Sink.written c.args.frames.now) (g.C.Sink.written c.run_router.new.frames))
    (ap (λ report. g.R.Sink.written report) c.in-Ok.ensures.untouched)
    (seated_answer live_means (g.D.Source.left c.args.conf.now) (g.S.Source.left c.args.input.now) c.args.router.now c.in-Ok.domain c.in-Ok.place found.0 c.run_router.result
    (g.R.Sink.written c.seat_in.new.report) (g.R.Sink.written c.run_router.new.report) (g.C.Sink.written c.args.frames.now) (g.C.Sink.written c.run_router.new.frames) c.in-Ok.ensures.seats found.1 (found.2.answer decided))

pub returns-in-Err : goal.returns-in-Err
returns-in-Err g c decided =
    unseated_answer live_means (g.D.Source.left c.args.conf.now) (g.S.Source.left c.args.input.now) c.args.router.now c.in-Err.ended (g.R.Sink.written c.args.report.now) (g.R.Sink.written c.seat_in.new.report) (g.C.Sink.written c.args.frames.now) c.in-Err.ensures.unseated decided
