use Rattle.std.proofs.Common.{◌≡◌, ℕ, List, ◌++◌, ap₂, ◌∙◌}
use Rattle.wire_base.specs.declared.conf.RouterConf.{RouterConf}
use Rattle.wire_base.specs.declared.status.Status.TheVariants as status
use Rattle.replay_report.specs.Captures.{capture_front}
use Rattle.command_drive.specs.Reading.{Ends, Fails}
use Rattle.command_drive.proofs.Meanings.{drives_as}
use Rattle.command_drive.proofs.Untouched.{drives_none}
use Rattle.command_replay.specs.ScheduleText.{schedule_means}
use Rattle.command_replay.proofs.Answered.{answer_met, cut_met}
use Rattle.command_replay.proofs.replay_command.play.Goals as goal

pub returns-in_default : goal.returns-in_default
returns-in_default g c = drives_none g.S.Source g.C.Sink g.R.Sink status.InputRefused (schedule_means c.args.recording c.args.domain) c.args.input.now c.args.frames.now c.args.report.now

pub returns-in_default-with_room : goal.returns-in_default-with_room
returns-in_default-with_room g c = drives_none g.S.Source g.C.Sink g.R.Sink status.InputRefused (schedule_means c.args.recording c.args.domain) c.args.input.now c.args.frames.now c.args.report.now

pub returns-in_default-push_front : goal.returns-in_default-push_front
returns-in_default-push_front g c = drives_none g.S.Source g.C.Sink g.R.Sink status.InputRefused (schedule_means c.args.recording c.args.domain) c.args.input.now c.args.frames.now c.args.report.now

pub returns-in_default-new : goal.returns-in_default-new
returns-in_default-new g c = drives_none g.S.Source g.C.Sink g.R.Sink status.InputRefused (schedule_means c.args.recording c.args.domain) c.args.input.now c.args.frames.now c.args.report.now

pub returns : goal.returns
returns g c =
    let r = c.in-Ok-new.replaying in
    let e = c.in-Ok-new.ensures in
    let front = capture_front c.args.recording c.args.domain.routers in
    let header : c.push_front.new.out ≡ front = c.in-Ok-push_front.ensures.ok ∙ ap₂ (λ (l : List ℕ) (rs : List RouterConf). l ++ capture_front c.args.recording rs) c.in-Ok-with_room.ensures.frames c.confs_of.ensures.confs in
    drives_as g.S.Source g.C.Sink g.R.Sink status.InputRefused _ (schedule_means c.args.recording c.args.domain) c.drive-status.result _ _ _ _ _ _
    (λ octets. answer_met c.args.recording c.args.domain r.replay r.names r.line r.rounds c.in-Ok-with_room.texts.report c.push_front.new.out e.replay e.names e.line e.rounds c.in-Ok-with_room.ensures.report header _ octets (c.in-Ok.ensures.fresh Ends octets))
    (λ octets failed. cut_met c.args.recording c.args.domain r.replay r.names r.line r.rounds c.in-Ok-with_room.texts.report c.push_front.new.out e.replay e.names e.line e.rounds c.in-Ok-with_room.ensures.report header _ octets (c.in-Ok.ensures.fresh Fails octets) failed)
    c.drive-status.ensures
