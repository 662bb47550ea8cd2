-- What the commands that execute a schedule come to is what they are said to come to.
use Rattle.std.proofs.Common.{◌≡◌, ◌∙◌, ℕ, List, ◌++◌, [], ◌∷◌, Ok, refl, sym, ap}
use Rattle.wire_base.specs.declared.bsl.Bsl.{Bsl}
use Rattle.wire_base.specs.model.Configuration.{DomainConf, IsValid}
use Rattle.replay_report.specs.declared.recording.Recording.{Recording}
use Rattle.replay_report.specs.declared.recording.Recording.TheVariants as recordings
use Rattle.replay_text.specs.Check.{check_line}
use Rattle.replay_text.specs.Schedule.{schedule_line}
use Rattle.replay_text.specs.declared.event.Line.TheVariants.{Settle}
use Rattle.domain_replay.specs.Texts.{names_of, schedule_reaches}
use Rattle.command_drive.specs.Reading.{End, Ends, Fails}
use Rattle.command_replay.specs.Course.{plays_mean, reach_of}
use Rattle.command_replay.specs.ScheduleText.{schedule_means, schedule_answer, schedule_cut}
use Rattle.command_line.specs.declared.arguments.ScheduleKind.{ScheduleKind}
use Rattle.command_line.specs.declared.arguments.ScheduleKind.TheVariants as kinds
use Rattle.replay_text.specs.declared.check.CheckLine.TheVariants.{Base, Quiet, Cover}
use Rattle.domain_core.specs.Cover.{cover_of}
use Rattle.command_check.specs.Checked.{checked}
use Rattle.command_check.specs.Verdicts.{KeepsChecks, world_at, Follows, IsAnsweredQuiet, IsAnsweredCover}
use Rattle.command_handshake.specs.Followed.{KeepsHandshakes}
use Rattle.command_handshake.specs.Shaken.{shaken}
use Rattle.laws_replay.specs.Promises.{KeepsPromises}
use Rattle.laws_replay.specs.Settling.{HasMore, IsSettling, HasSettled}
use Rattle.laws_settle.specs.Idle.{IsIdle}
use Rattle.replay_run.specs.Kept.{AreAnswered, ReadsRounds, IsKept}
use Rattle.replay_run.specs.Verdict.{plays, replayed}

answers_so : (recording : Recording) (d : DomainConf) (end : End) (octets : List ℕ) → schedule_means recording d end octets ≡ plays_mean (replayed recording d) end octets
unfolding schedule_answer schedule_cut
answers_so recording d Ends octets = refl
answers_so recording d Fails octets = refl

-- what `replay` means, in a format
same_means : (recording : Recording) (d : DomainConf) → schedule_means recording d ≡ plays_mean (replayed recording d)
same_means recording d = λ i end octets. answers_so recording d end octets i

-- what each command means
pub replay_means : (kind : ScheduleKind) (d : DomainConf) → kind ≡ kinds.Replay → schedule_means recordings.Pcap d ≡ plays_mean (plays kind d)
unfolding plays
replay_means kind d is = same_means recordings.Pcap d ∙ ap (λ (k : ScheduleKind). plays_mean (plays k d)) (sym is)

pub replay_ng_means : (kind : ScheduleKind) (d : DomainConf) → kind ≡ kinds.ReplayNg → schedule_means recordings.Pcapng d ≡ plays_mean (plays kind d)
unfolding plays
replay_ng_means kind d is = same_means recordings.Pcapng d ∙ ap (λ (k : ScheduleKind). plays_mean (plays k d)) (sym is)

pub handshake_means : (kind : ScheduleKind) (d : DomainConf) → kind ≡ kinds.Handshake → plays_mean (shaken d) ≡ plays_mean (plays kind d)
unfolding plays
handshake_means kind d is = ap (λ (k : ScheduleKind). plays_mean (plays k d)) (sym is)

pub check_means : (kind : ScheduleKind) (d : DomainConf) → kind ≡ kinds.Check → plays_mean (checked d) ≡ plays_mean (plays kind d)
unfolding plays
check_means kind d is = ap (λ (k : ScheduleKind). plays_mean (plays k d)) (sym is)

-- ---- what is promised

module _ (read : (d : DomainConf) (lines : List (List ℕ)) → IsValid d → KeepsPromises d (schedule_reaches d lines).run)
    (checks : (d : DomainConf) (lines : List (List ℕ)) → IsValid d → KeepsChecks d lines)
    (shakes : (d : DomainConf) (lines : List (List ℕ)) → IsValid d → KeepsPromises d (shaken d lines).run)
    (follows : (d : DomainConf) (lines : List (List ℕ)) → IsValid d → KeepsHandshakes d lines)
    (quiets : (d : DomainConf) (before : List (List ℕ)) (text : List ℕ) → IsValid d → Follows d before text Quiet → IsAnsweredQuiet d before text)
    (covers : (d : DomainConf) (before : List (List ℕ)) (text : List ℕ) (router sd : ℕ) (bsl : Bsl) (ids : List ℕ) (ttl entropy : ℕ) (ks : List ℕ) → IsValid d →
    Follows d before text (Cover router sd bsl ids ttl entropy) → cover_of (world_at d before) router sd bsl ids ttl entropy ≡ Ok ks → IsAnsweredCover d before text router sd bsl ids ttl entropy ks)
    (settles : (d : DomainConf) (before : List (List ℕ)) (text : List ℕ) (rounds : ℕ) → IsValid d → schedule_line text (names_of d) ≡ Ok (Settle rounds) →
    IsSettling d (schedule_reaches d) before text rounds → HasSettled (schedule_reaches d (before ++ text ∷ [])).run.world)
    (rests : (d : DomainConf) (before : List (List ℕ)) (text : List ℕ) (rounds : ℕ) → IsValid d → schedule_line text (names_of d) ≡ Ok (Settle rounds) →
    IsSettling d (schedule_reaches d) before text rounds → HasMore d (schedule_reaches d before).run.world rounds → IsIdle (schedule_reaches d (before ++ text ∷ [])).run.world)
    (checks_settle : (d : DomainConf) (before : List (List ℕ)) (text : List ℕ) (rounds : ℕ) → IsValid d → check_line text (names_of d) ≡ Ok (Base (Settle rounds)) →
    IsSettling d (reach_of (checked d)) before text rounds → HasSettled (checked d (before ++ text ∷ [])).run.world)
    (checks_rest : (d : DomainConf) (before : List (List ℕ)) (text : List ℕ) (rounds : ℕ) → IsValid d → check_line text (names_of d) ≡ Ok (Base (Settle rounds)) →
    IsSettling d (reach_of (checked d)) before text rounds → HasMore d (checked d before).run.world rounds → IsIdle (checked d (before ++ text ∷ [])).run.world) where
  keeps : (kind : ScheduleKind) (d : DomainConf) (lines : List (List ℕ)) → IsValid d → KeepsPromises d (plays kind d lines).run
  unfolding plays
  keeps kinds.Replay d lines valid = read d lines valid
  keeps kinds.ReplayNg d lines valid = read d lines valid
  keeps kinds.Handshake d lines valid = shakes d lines valid
  keeps kinds.Check d lines valid = (checks d lines valid).run

  answered : (d : DomainConf) (lines : List (List ℕ)) → IsValid d → AreAnswered d lines
  answered d lines valid = record {
    woven = (checks d lines valid).woven;
    quiet = λ before text more is follows. quiets d before text valid follows;
    cover = λ before text more router sd bsl ids ttl entropy ks is follows reached. covers d before text router sd bsl ids ttl entropy ks valid follows reached;
  }

  settles_so : (kind : ScheduleKind) (d : DomainConf) (before : List (List ℕ)) (text : List ℕ) (rounds : ℕ) → IsValid d → ReadsRounds kind d text rounds → IsSettling d (reach_of (plays kind d)) before text rounds
      → HasSettled (plays kind d (before ++ text ∷ [])).run.world
  unfolding plays
  settles_so kinds.Replay d before text rounds valid reads settling = settles d before text rounds valid reads settling
  settles_so kinds.ReplayNg d before text rounds valid reads settling = settles d before text rounds valid reads settling
  settles_so kinds.Check d before text rounds valid reads settling = checks_settle d before text rounds valid reads settling
  settles_so kinds.Handshake d before text rounds valid reads settling = absurd reads

  rests_so : (kind : ScheduleKind) (d : DomainConf) (before : List (List ℕ)) (text : List ℕ) (rounds : ℕ) → IsValid d → ReadsRounds kind d text rounds → IsSettling d (reach_of (plays kind d)) before text rounds
      → HasMore d (plays kind d before).run.world rounds → IsIdle (plays kind d (before ++ text ∷ [])).run.world
  unfolding plays
  rests_so kinds.Replay d before text rounds valid reads settling more = rests d before text rounds valid reads settling more
  rests_so kinds.ReplayNg d before text rounds valid reads settling more = rests d before text rounds valid reads settling more
  rests_so kinds.Check d before text rounds valid reads settling more = checks_rest d before text rounds valid reads settling more
  rests_so kinds.Handshake d before text rounds valid reads settling more = absurd reads

  pub is_kept : (kind : ScheduleKind) (d : DomainConf) (lines : List (List ℕ)) → IsValid d → IsKept kind d lines
  is_kept kind d lines valid = record {
    run = keeps kind d lines valid;
    settles = λ before text more rounds is reads settling. settles_so kind d before text rounds valid reads settling;
    rests = λ before text more rounds is reads settling enough. rests_so kind d before text rounds valid reads settling enough;
    answers = λ is. answered d lines valid;
    handshakes = λ is. follows d lines valid;
  }
