-- What a schedule with hellos owes from its start on is what its lines owe.
use Rattle.std.proofs.Common.{◌≡◌, ℕ, false, List, [], ◌++◌, None, sym, ap, ◌∙◌}
use Rattle.run_texts.specs.declared.texts.Texts.{Texts}
use Rattle.wire_base.specs.declared.limits.TheConstants.{TEXT_LIMIT}
use Rattle.wire_base.specs.model.Configuration.{DomainConf}
use Rattle.replay_report.specs.Captures.{capture_front}
use Rattle.replay_report.specs.declared.recording.Recording.TheVariants.{Pcap}
use Rattle.domain_handshake.specs.Doing.{Did}
use Rattle.domain_handshake.specs.Handshakes.{HandState, start_does}
use Rattle.command_drive.specs.Doing.{told}
use Rattle.command_drive.specs.Lines.{lines_read}
use Rattle.command_drive.specs.Reading.{End, Reads}
use Rattle.command_replay.specs.Course.{owed_on, lines_mean}
use Rattle.command_handshake.specs.Owed.{replay_of, rounds_owe, lines_owe}
use Rattle.command_handshake.specs.Shaken.{hand_turns, start_turned, opening}

-- with what comes before the first line
module _ (d : DomainConf) (s : HandState) (line rounds : ℕ) (report frames : List ℕ)
    (starts : (start_turned d).next ≡ s) (first : line ≡ 0) (none : rounds ≡ 0) (reported : report ≡ (opening d).report) (recorded : frames ≡ (opening d).frames) where
  pub hand_met : (read : Reads (List ℕ)) (end : End) (octets : List ℕ) → read ≡ lines_read [] TEXT_LIMIT false end octets
      → told report frames (rounds_owe line rounds s (lines_owe line read.items read.behind)) ≡ lines_mean replay_of hand_turns (opening d) (start_turned d).next end octets
  hand_met read end octets is =
      (λ i. told (reported i) (recorded i) (rounds_owe (first i) (none i) (sym starts i) (lines_owe (first i) read.items read.behind)))
      ∙ ap (owed_on replay_of hand_turns (opening d) (start_turned d).next) is

-- what the start appended to empty texts
module _ (d : DomainConf) (s : HandState) (texts texts_now : Texts) (did : Did (start_does Pcap d) s None texts texts_now) where
  pub start_reported : texts.report ≡ [] → texts_now.report ≡ (opening d).report
  start_reported none = did.report ∙ ap (λ (l : List ℕ). l ++ (start_does Pcap d).report) none

  pub start_recorded : texts.frames ≡ capture_front Pcap d.routers → texts_now.frames ≡ (opening d).frames
  start_recorded front = did.frames ∙ ap (λ (l : List ℕ). l ++ (start_does Pcap d).frames) front
