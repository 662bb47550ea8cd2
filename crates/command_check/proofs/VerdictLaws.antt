-- The answers to the questions of a schedule are true of its run.
use Rattle.std.proofs.Common.{◌≡◌, ℕ, ◌+◌, true, List, [], ◌∷◌, ◌++◌, length, Result, Ok, ap, ◌∙◌, arith, append-nil}
use Rattle.wire_base.specs.declared.bsl.Bsl.{Bsl}
use Rattle.wire_base.specs.declared.conf.RouterConf.{RouterConf}
use Rattle.wire_base.specs.model.Configuration.{DomainConf, IsValid}
use Rattle.wire_base.specs.model.Hop.{has}
use Rattle.replay_text.specs.Check.{check_line}
use Rattle.replay_text.specs.declared.check.CheckLine.{CheckLine}
use Rattle.replay_text.specs.declared.check.CheckLine.TheVariants as check
use Rattle.replay_text.specs.declared.event.Event.{Event}
use Rattle.replay_text.specs.declared.event.Event.TheVariants.{Inject}
use Rattle.replay_text.specs.declared.fault.TextFault.{TextFault}
use Rattle.domain_model.specs.Truth.{IsTruthful}
use Rattle.domain_model.specs.World.{WorldState}
use Rattle.laws_quiet.specs.Quiet.{AreIssuers}
use Rattle.laws_settle.proofs.IssuerLaws.{run_agrees, run_issuing}
use Rattle.laws_replay.proofs.Ending.{true_after}
use Rattle.domain_core.specs.Cover.{cover_of}
use Rattle.domain_core.specs.Quiet.{quiet_of}
use Rattle.domain_core.proofs.CoverRuns.{none_dropped, are_delivered}
use Rattle.domain_core.proofs.QuietLaws.{yes_is_quiet, quiet_is_yes}
use Rattle.replay_report.specs.declared.recording.Recording.TheVariants.{Pcap}
use Rattle.domain_replay.specs.Captures.{capture_front}
use Rattle.domain_replay.specs.Lines.{quiet_text, cover_text}
use Rattle.domain_replay.specs.Parts.{Past, past_and}
use Rattle.domain_replay.specs.Telling.{ReplayState, first_state}
use Rattle.domain_replay.specs.Texts.{names_of}
use Rattle.command_replay.specs.Course.{Turned, Course, course_part, lines_course, course_by, opens_with}
use Rattle.command_replay.proofs.Coursed.{course_joined}
use Rattle.command_check.specs.Checked.{answer_turn, cover_turn, read_turn, check_turns, check_course}
use Rattle.command_check.specs.Verdicts.{world_at, Follows, Reports, IsAnsweredQuiet, IsReachedIn, IsAnsweredCover}
use Rattle.command_check.proofs.CheckCourse.{course_is, names_from}

-- one line
one_line : (n : ℕ) (s : ReplayState) (text reported : List ℕ) → check_turns (n + 1) text s ≡ answer_turn s reported → (lines_course check_turns n s (text ∷ [])).report ≡ reported
unfolding lines_course
one_line n s text reported is =
    ap (λ (t : Turned ReplayState). (course_by (n + 1) t (λ (next : ReplayState). lines_course check_turns (n + 1) next []) t.refused).report) is ∙ append-nil reported

module _ (d : DomainConf) (before : List (List ℕ)) where
  state : ReplayState
  state = (check_course d before).state

  abbrev past : Past
  past = past_and (opens_with (capture_front Pcap d.routers)) (course_part (check_course d before))

  -- a line that is answered
  answered : (text reported : List ℕ) (said : CheckLine) → Follows d before text said → read_turn (length before + 1) (Ok said) state ≡ answer_turn state reported → Reports d before text reported
  unfolding state
  answered text reported said follows is =
      let c = check_course d before in
      let count : 0 + length before ≡ length before = omega arith in
      let reads : check_line text (names_of c.state.world.domain) ≡ Ok said = ap (check_line text) (names_from d past c.state (course_is d before)) ∙ follows.reads in
      ap (λ (x : Course ReplayState). x.report) (course_joined check_turns before (text ∷ []) 0 (first_state Pcap d) follows.runs)
      ∙ ap (λ (m : ℕ). c.report ++ (lines_course check_turns m c.state (text ∷ [])).report) count
      ∙ ap (λ (l : List ℕ). c.report ++ l)
      (one_line (length before) c.state text reported (ap (λ (r : Result CheckLine TextFault). read_turn (length before + 1) r c.state) reads ∙ is))

  world_is : state.world ≡ world_at d before
  unfolding state
  world_is = (course_is d before).part.world

  routers_are : (world_at d before).domain.routers ≡ d.routers
  routers_are = ap (λ (x : DomainConf). x.routers) (course_is d before).part.run.domain

  module _ (valid : IsValid d) where
    truth : IsTruthful (world_at d before)
    truth = true_after d valid (check_course d before).events ((course_is d before).allowed valid)

    pub quiet_holds : (text : List ℕ) → Follows d before text check.Quiet → IsAnsweredQuiet d before text
    quiet_holds text follows = record {
      reported = answered text (quiet_text d.routers (length before + 1) (quiet_of (world_at d before))) check.Quiet follows
          (ap (λ (w : WorldState). answer_turn state (quiet_text w.domain.routers (length before + 1) (quiet_of w))) world_is
          ∙ ap (λ (rs : List RouterConf). answer_turn state (quiet_text rs (length before + 1) (quiet_of (world_at d before)))) routers_are);
      quiet = (yes_is_quiet (world_at d before) truth, quiet_is_yes (world_at d before) truth);
      agreed = λ yes a c at. run_agrees d (check_course d before).events valid ((course_is d before).allowed valid) a c (yes_is_quiet (world_at d before) truth yes) at;
    }

    issuers : AreIssuers (world_at d before).routers
    issuers = (run_issuing d (check_course d before).events valid ((course_is d before).allowed valid)).issuers

    module _ (router sd : ℕ) (bsl : Bsl) (ids : List ℕ) (ttl entropy : ℕ) (ks : List ℕ) (covers : cover_of (world_at d before) router sd bsl ids ttl entropy ≡ Ok ks) where
      abbrev event : List ℕ → Event
      event payload = Inject router sd bsl ids ttl entropy payload

      reached_in : (k : ℕ) (payload : List ℕ) → has ks k ≡ true → IsReachedIn (world_at d before) (event payload) ((world_at d before).injections + 1) k
      reached_in k payload there = record {
        kept = λ es received. none_dropped (world_at d before) truth (λ none. issuers) router sd bsl ids ttl entropy (Ok ks) covers k payload es there received;
        delivered = λ es received gone. are_delivered (world_at d before) truth (λ none. issuers) router sd bsl ids ttl entropy (Ok ks) covers k payload es there received gone;
      }

      pub cover_holds : (text : List ℕ) → Follows d before text (check.Cover router sd bsl ids ttl entropy) → IsAnsweredCover d before text router sd bsl ids ttl entropy ks
      cover_holds text follows = record {
        reported = answered text (cover_text (length before + 1) ks) (check.Cover router sd bsl ids ttl entropy) follows
            (ap (cover_turn (length before + 1) state) (ap (λ (w : WorldState). cover_of w router sd bsl ids ttl entropy) world_is ∙ covers));
        reached = reached_in;
      }
