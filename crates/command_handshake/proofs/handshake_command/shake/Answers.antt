use Rattle.std.proofs.Common.{◌≡◌, ℕ, List, ◌++◌, ap₂, ◌∙◌}
use Rattle.wire_base.specs.declared.conf.RouterConf.{RouterConf}
use Rattle.wire_base.specs.declared.status.Status.TheVariants as status
use Rattle.replay_report.specs.Captures.{capture_front}
use Rattle.replay_report.specs.declared.recording.Recording.TheVariants.{Pcap}
use Rattle.run_texts.specs.declared.texts.Texts.{Texts}
use Rattle.command_drive.proofs.Untouched.{drives_none}
use Rattle.command_replay.specs.Course.{plays_mean}
use Rattle.command_replay.proofs.Coursed.{drives_lines}
use Rattle.command_handshake.specs.Owed.{replay_of}
use Rattle.command_handshake.specs.Shaken.{hand_turns, start_turned, opening, shaken}
use Rattle.command_handshake.proofs.HandCourse.{hand_counted, hand_shows}
use Rattle.command_handshake.proofs.HandMet.{hand_met, start_reported, start_recorded}
use Rattle.command_handshake.proofs.handshake_command.shake.Goals as goal

pub returns-in_default : goal.returns-in_default
returns-in_default g c = drives_none g.S.Source g.C.Sink g.R.Sink status.InputRefused (plays_mean (shaken c.args.domain)) c.args.input.now c.args.frames.now c.args.report.now

pub returns-in_default-push_front : goal.returns-in_default-push_front
returns-in_default-push_front g c = drives_none g.S.Source g.C.Sink g.R.Sink status.InputRefused (plays_mean (shaken c.args.domain)) c.args.input.now c.args.frames.now c.args.report.now

pub returns-in_default-new : goal.returns-in_default-new
returns-in_default-new g c = drives_none g.S.Source g.C.Sink g.R.Sink status.InputRefused (plays_mean (shaken c.args.domain)) c.args.input.now c.args.frames.now c.args.report.now

pub returns : goal.returns
returns g c =
    let d = c.args.domain in
    let r = c.in-Ok-new.shaking in
    let e = c.in-Ok-new.ensures in
    let texts : Texts = record { frames = c.push_front.new.out; report = c.new-texts.result.report } in
    let front : c.push_front.new.out ≡ capture_front Pcap d.routers = c.in-Ok-push_front.ensures.ok ∙ ap₂ (λ (l : List ℕ) (rs : List RouterConf). l ++ capture_front Pcap rs) c.new-texts.ensures.frames c.confs_of.ensures.confs in
    drives_lines replay_of hand_turns d (opening d) (start_turned d).next hand_shows (hand_counted d) g.S.Source g.C.Sink g.R.Sink status.InputRefused _ c.drive.result _ _ _ _ _ _
    (λ end octets. hand_met d r.hands r.line r.rounds c.new-2.new.texts.report c.new-2.new.texts.frames e.started.next e.line e.rounds
    (start_reported d r.hands texts c.new-2.new.texts e.started c.new-texts.ensures.report) (start_recorded d r.hands texts c.new-2.new.texts e.started front) _ end octets (c.in-Ok.ensures.fresh end octets))
    c.drive.ensures
