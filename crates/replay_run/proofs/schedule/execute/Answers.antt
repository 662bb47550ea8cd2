use Rattle.std.proofs.Common.{subst}
use Rattle.wire_base.specs.declared.status.Status.TheVariants as status
use Rattle.command_drive.specs.Driving.{Meaning, Drives}
use Rattle.replay_run.proofs.Schedules.{replay_means, replay_ng_means, handshake_means, check_means}
use Rattle.replay_run.proofs.schedule.execute.Goals as goal

pub returns-in-Replay : goal.returns-in-Replay
returns-in-Replay g c =
    subst (λ (means : Meaning). Drives g.S.Source g.C.Sink g.R.Sink status.InputRefused means c.play.result c.args.input.now c.play.new.input c.args.frames.now c.play.new.frames c.args.report.now c.play.new.report)
    (replay_means c.args.kind c.args.domain c.in-Replay.is) c.play.ensures

pub returns-in-ReplayNg : goal.returns-in-ReplayNg
returns-in-ReplayNg g c =
    let p = c.play-in-ReplayNg in
    subst (λ (means : Meaning). Drives g.S.Source g.C.Sink g.R.Sink status.InputRefused means p.result c.args.input.now p.new.input c.args.frames.now p.new.frames c.args.report.now p.new.report)
    (replay_ng_means c.args.kind c.args.domain c.in-ReplayNg.is) p.ensures

pub returns-in-Handshake : goal.returns-in-Handshake
returns-in-Handshake g c =
    subst (λ (means : Meaning). Drives g.S.Source g.C.Sink g.R.Sink status.InputRefused means c.shake.result c.args.input.now c.shake.new.input c.args.frames.now c.shake.new.frames c.args.report.now c.shake.new.report)
    (handshake_means c.args.kind c.args.domain c.in-Handshake.is) c.shake.ensures

pub returns-in-Check : goal.returns-in-Check
returns-in-Check g c =
    subst (λ (means : Meaning). Drives g.S.Source g.C.Sink g.R.Sink status.InputRefused means c.check.result c.args.input.now c.check.new.input c.args.frames.now c.check.new.frames c.args.report.now c.check.new.report)
    (check_means c.args.kind c.args.domain c.in-Check.is) c.check.ensures
