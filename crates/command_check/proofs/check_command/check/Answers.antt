use Rattle.std.proofs.Common.{◌≡◌, ℕ, List, ◌++◌, ap₂, ◌∙◌}
use Rattle.wire_base.specs.declared.conf.RouterConf.{RouterConf}
use Rattle.wire_base.specs.declared.status.Status.TheVariants as status
use Rattle.replay_report.specs.declared.recording.Recording.TheVariants.{Pcap}
use Rattle.domain_replay.specs.Captures.{capture_front}
use Rattle.domain_replay.specs.Telling.{ReplayState, first_state}
use Rattle.command_drive.proofs.Untouched.{drives_none}
use Rattle.command_replay.specs.Course.{opens_with, plays_mean}
use Rattle.command_replay.proofs.Coursed.{drives_lines}
use Rattle.command_check.specs.Checked.{check_turns, checked}
use Rattle.command_check.proofs.CheckCourse.{check_counted, check_shows}
use Rattle.command_check.proofs.CheckMet.{check_met}
use Rattle.command_check.proofs.check_command.check.Goals as goal

pub returns-in_default : goal.returns-in_default
returns-in_default g c = drives_none g.S.Source g.C.Sink g.R.Sink status.InputRefused (plays_mean (checked c.args.domain)) c.args.input.now c.args.frames.now c.args.report.now

pub returns-in_default-push_front : goal.returns-in_default-push_front
returns-in_default-push_front g c = drives_none g.S.Source g.C.Sink g.R.Sink status.InputRefused (plays_mean (checked c.args.domain)) c.args.input.now c.args.frames.now c.args.report.now

pub returns-in_default-new : goal.returns-in_default-new
returns-in_default-new g c = drives_none g.S.Source g.C.Sink g.R.Sink status.InputRefused (plays_mean (checked c.args.domain)) c.args.input.now c.args.frames.now c.args.report.now

pub returns : goal.returns
returns g c =
    let d = c.args.domain in
    let r = c.in-Ok-new.checking.replaying in
    let e = c.in-Ok-new.ensures in
    let front = capture_front Pcap d.routers in
    let header : c.push_front.new.out ≡ front = c.in-Ok-push_front.ensures.ok ∙ ap₂ (λ (l : List ℕ) (rs : List RouterConf). l ++ capture_front Pcap rs) c.new-texts.ensures.frames c.confs_of.ensures.confs in
    drives_lines (λ (x : ReplayState). x) check_turns d (opens_with front) (first_state Pcap d) check_shows (check_counted d) g.S.Source g.C.Sink g.R.Sink status.InputRefused _ c.drive.result _ _ _ _ _ _
    (λ end octets. check_met d r.replay r.line r.rounds c.new-texts.result.report c.push_front.new.out e.replay e.line e.rounds c.new-texts.ensures.report header _ end octets (c.in-Ok.ensures.fresh end octets))
    c.drive.ensures
