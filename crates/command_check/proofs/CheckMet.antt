-- What a check owes from its start on is what its lines owe.
use Rattle.std.proofs.Common.{◌≡◌, ℕ, false, List, [], ap, ◌∙◌}
use Rattle.wire_base.specs.declared.limits.TheConstants.{TEXT_LIMIT}
use Rattle.wire_base.specs.model.Configuration.{DomainConf}
use Rattle.replay_report.specs.declared.recording.Recording.TheVariants.{Pcap}
use Rattle.domain_replay.specs.Captures.{capture_front}
use Rattle.domain_replay.specs.Telling.{ReplayState, first_state}
use Rattle.command_drive.specs.Doing.{told}
use Rattle.command_drive.specs.Lines.{lines_read}
use Rattle.command_drive.specs.Reading.{End, Reads}
use Rattle.command_replay.specs.Course.{opens_with, owed_on, lines_mean}
use Rattle.command_replay.specs.Owed.{rounds_owe}
use Rattle.command_check.specs.Checked.{check_turns}
use Rattle.command_check.specs.Turning.{lines_owe}

-- with the front of the capture before it
module _ (d : DomainConf) (s : ReplayState) (line rounds : ℕ) (report frames : List ℕ)
    (starts : s ≡ first_state Pcap d) (first : line ≡ 0) (none : rounds ≡ 0) (no_report : report ≡ []) (header : frames ≡ capture_front Pcap d.routers) where
  pub check_met : (read : Reads (List ℕ)) (end : End) (octets : List ℕ) → read ≡ lines_read [] TEXT_LIMIT false end octets
      → told report frames (rounds_owe line rounds s (lines_owe line read.items read.behind)) ≡ lines_mean (λ (x : ReplayState). x) check_turns (opens_with (capture_front Pcap d.routers)) (first_state Pcap d) end octets
  check_met read end octets is =
      (λ i. told (no_report i) (header i) (rounds_owe (first i) (none i) (starts i) (lines_owe (first i) read.items read.behind)))
      ∙ ap (owed_on (λ (x : ReplayState). x) check_turns (opens_with (capture_front Pcap d.routers)) (first_state Pcap d)) is
