-- What the calls of a replay do, in the words of the driver.
use Rattle.std.proofs.Common.{◌≡◌, ℕ, ◌+◌, ◌-◌, ◌<◌, suc, List, [], ◌∷◌, ◌++◌, Option, Some, None, Result, Ok, Err, refl, sym, ap, ap₂, subst, ◌∙◌, arith, append-nil, append_assoc}
use Rattle.std.specs.Prelude.{IfOk}
use Rattle.run_texts.specs.declared.texts.Texts.{Texts}
use Rattle.wire_base.specs.declared.status.Status.{Status}
use Rattle.wire_base.specs.declared.status.Status.TheVariants.{InputRefused}
use Rattle.replay_text.specs.declared.event.Line.{Line}
use Rattle.replay_text.specs.declared.event.Line.TheVariants.{Empty, One, Settle}
use Rattle.replay_text.specs.declared.fault.TextFault.{TextFault}
use Rattle.replay_text.specs.Schedule.{schedule_line}
use Rattle.wire_base.specs.model.Configuration.{DomainConf}
use Rattle.domain_model.specs.declared.fault.EventFault.{EventFault}
use Rattle.domain_model.specs.World.{first_world}
use Rattle.replay_report.specs.declared.recording.Recording.{Recording}
use Rattle.domain_replay.specs.Lines.{event_refused_text}
use Rattle.domain_replay.specs.Telling as telling
use Rattle.domain_replay.specs.Telling.{Telling, ReplayState, first_state, with_texts, tells_line}
use Rattle.domain_replay.specs.Texts.{names_of}
use Rattle.domain_replay.proofs.CourseLaws.{past_told, line_past}
use Rattle.command_drive.specs.Answer.{Verdict}
use Rattle.command_drive.specs.declared.command.Flow.{Flow}
use Rattle.command_drive.specs.declared.command.Flow.TheVariants as flow
use Rattle.command_drive.specs.Reading.{Behind}
use Rattle.command_drive.specs.Doing.{Owed, Did, Concludes, told}
use Rattle.domain_replay.specs.Parts.{unsaid, state_of}
use Rattle.command_replay.specs.Owed.{unless_refused, told_then, rounds_owe, said_owes, read_owes, lines_owe, Does, Rounds, Begins}

-- what is owed in other words
pub did_as : {T : Type 0} (how : Flow) (refusal : Status) (old other new newer : Owed T) (texts texts_now : Texts) → ((items : List T) (behind : Behind) → other items behind ≡ old items behind)
    → ((items : List T) (behind : Behind) → new items behind ≡ newer items behind) → Did how refusal old new texts texts_now → Did how refusal other newer texts texts_now
did_as flow.On refusal old other new newer texts texts_now first second d =
    record { report = d.report; frames = d.frames; report_is = d.report_is; frames_is = d.frames_is; owed = λ items behind. first items behind ∙ d.owed items behind ∙ ap (told d.report d.frames) (second items behind) }
did_as flow.More refusal old other new newer texts texts_now first second d =
    record { report = d.report; frames = d.frames; report_is = d.report_is; frames_is = d.frames_is; owed = λ items behind. first items behind ∙ d.owed items behind ∙ ap (told d.report d.frames) (second items behind) }
did_as (flow.Ends ended) refusal old other new newer texts texts_now first second d =
    (d.0, λ items behind. subst (λ (v : Verdict). Concludes ended v texts texts_now) (sym (first items behind)) (d.1 items behind))

-- ---- the events of a line

-- what stands in the outputs stands before what is reported
said_behind : (line : ℕ) (s : ReplayState) (texts : Texts) (said : Line) → tells_line line (with_texts s texts) said ≡ past_told texts.frames texts.report (tells_line line (unsaid s) said)
said_behind line s texts said =
    ap (λ (t : Telling). tells_line line t said) (ap₂ (λ (f r : List ℕ). record { world = s.world; counts = s.counts; frames = f; report = r; recording = s.recording }) (sym (append-nil texts.frames)) (sym (append-nil texts.report)))
    ∙ line_past line texts.frames texts.report (unsaid s) said

module _ (line : ℕ) (s now : ReplayState) (texts mid : Texts) (said : Line) (why : Option EventFault)
    (tells : tells_line line (with_texts s texts) said ≡ record { telling = with_texts now mid; refused = why }) where
  abbrev t : telling.Told
  t = tells_line line (unsaid s) said

  so : past_told texts.frames texts.report t ≡ record { telling = with_texts now mid; refused = why }
  so = sym (said_behind line s texts said) ∙ tells

  pub is_refused : t.refused ≡ why
  is_refused = ap (λ (u : telling.Told). u.refused) so

  pub is_state : state_of t.telling ≡ now
  is_state = ap (λ (u : telling.Told). state_of u.telling) so

  pub is_report : mid.report ≡ texts.report ++ t.telling.report
  is_report = sym (ap (λ (u : telling.Told). u.telling.report) so)

  pub is_frames : mid.frames ≡ texts.frames ++ t.telling.frames
  is_frames = sym (ap (λ (u : telling.Told). u.telling.frames) so)

-- all of them were done
pub does_all : (T : Type 0) (line : ℕ) (s now : ReplayState) (texts mid : Texts) (said : Line) → tells_line line (with_texts s texts) said ≡ telling.told (with_texts now mid)
    → Does T flow.On line (tells_line line (unsaid s) said) now texts mid
does_all T line s now texts mid said tells rest =
    let t = tells_line line (unsaid s) said in
    record {
      report = t.telling.report;
      frames = t.telling.frames;
      report_is = is_report line s now texts mid said None tells;
      frames_is = is_frames line s now texts mid said None tells;
      owed = λ items behind.
          ap (λ (o : Option EventFault). told t.telling.report t.telling.frames (unless_refused line o (rest items behind (state_of t.telling)))) (is_refused line s now texts mid said None tells)
          ∙ ap (λ (n : ReplayState). told t.telling.report t.telling.frames (rest items behind n)) (is_state line s now texts mid said None tells);
    }

-- one isn't allowed
pub does_refused : (T : Type 0) (line : ℕ) (s now : ReplayState) (texts mid texts_now : Texts) (said : Line) (why : EventFault)
    → tells_line line (with_texts s texts) said ≡ record { telling = with_texts now mid; refused = Some why } → texts_now.frames ≡ mid.frames → texts_now.report ≡ mid.report ++ event_refused_text line why
    → Does T (flow.Ends InputRefused) line (tells_line line (unsaid s) said) now texts texts_now
does_refused T line s now texts mid texts_now said why tells frames report rest =
    let t = tells_line line (unsaid s) said in (
      refl,
      λ items behind.
          subst (λ (o : Option EventFault). Concludes InputRefused (told t.telling.report t.telling.frames (unless_refused line o (rest items behind (state_of t.telling)))) texts texts_now)
          (sym (is_refused line s now texts mid said (Some why) tells))
          (record {
            status = refl;
            report = report ∙ ap (λ (l : List ℕ). l ++ event_refused_text line why) (is_report line s now texts mid said (Some why) tells) ∙ append_assoc texts.report t.telling.report (event_refused_text line why);
            frames = frames ∙ is_frames line s now texts mid said (Some why) tells ∙ ap (λ (l : List ℕ). texts.frames ++ l) (sym (append-nil t.telling.frames));
          }),
    )

-- ---- a line

pub begins_rounds : (T : Type 0) (line : ℕ) (said : Line) (rounds : ℕ) (s : ReplayState) (texts : Texts) → said ≡ Settle rounds → Begins T flow.More line said s s rounds texts texts
begins_rounds T line said rounds s texts is rest =
    record {
      report = [];
      frames = [];
      report_is = sym (append-nil texts.report);
      frames_is = sym (append-nil texts.frames);
      owed = λ items behind. ap (λ (l : Line). said_owes line l s (rest items behind)) is;
    }

pub begins_at_once : (T : Type 0) (how : Flow) (line : ℕ) (said : Line) (rounds : ℕ) (s now : ReplayState) (texts texts_now : Texts) → ((n : ℕ) → said ≡ Settle n → ⊥) → rounds ≡ 0
    → Does T how line (tells_line line (unsaid s) said) now texts texts_now → Begins T how line said s now rounds texts texts_now
begins_at_once T how line said rounds s now texts texts_now other none does rest = by said other does
  where
    none_left : (l : Line) → Does T how line (tells_line line (unsaid s) l) now texts texts_now
        → Did how InputRefused (λ items behind. told_then line (tells_line line (unsaid s) l) (rest items behind)) (λ items behind. rounds_owe line rounds now (rest items behind)) texts texts_now
    none_left l does =
        subst (λ (n : ℕ). Did how InputRefused (λ items behind. told_then line (tells_line line (unsaid s) l) (rest items behind)) (λ items behind. rounds_owe line n now (rest items behind)) texts texts_now) (sym none)
        (does rest)

    by : (l : Line) → ((n : ℕ) → l ≡ Settle n → ⊥) → Does T how line (tells_line line (unsaid s) l) now texts texts_now
        → Did how InputRefused (λ items behind. said_owes line l s (rest items behind)) (λ items behind. rounds_owe line rounds now (rest items behind)) texts texts_now
    by Empty other does = none_left Empty does
    by (One e) other does = none_left (One e) does
    by (Settle n) other does = absurd (other n refl)

-- the line that follows, in the words of the command
pub item_did : (how : Flow) (names names_now : List (List ℕ)) (line line_now rounds rounds_now : ℕ) (s now : ReplayState) (text : List ℕ) (said : Line) (texts texts_now : Texts) → rounds ≡ 0 → schedule_line text names ≡ Ok said
    → line_now ≡ line + 1 → names_now ≡ names → Begins (List ℕ) how (line + 1) said s now rounds_now texts texts_now
    → Did how InputRefused (λ more behind. rounds_owe line rounds s (lines_owe names line (text ∷ more) behind)) (λ items behind. rounds_owe line_now rounds_now now (lines_owe names_now line_now items behind)) texts texts_now
item_did how names names_now line line_now rounds rounds_now s now text said texts texts_now none reads next same begins =
    did_as how InputRefused _ _ _ _ texts texts_now
    (λ more behind.
    ap (λ (n : ℕ). rounds_owe line n s (lines_owe names line (text ∷ more) behind)) none
    ∙ ap (λ (r : Result Line TextFault). read_owes (line + 1) r s (lines_owe names (line + 1) more behind)) reads)
    (λ items behind.
    ap₂ (λ (n : ℕ) (l : List (List ℕ)). rounds_owe n rounds_now now (lines_owe l n items behind)) (sym next) (sym same))
    (begins (λ items behind. lines_owe names (line + 1) items behind))

-- a round of the line that was begun
pub round_goes : (T : Type 0) (how : Flow) (line rounds left : ℕ) (s now : ReplayState) (texts texts_now : Texts) → 0 < rounds → left ≡ rounds - 1 → Does T how line (tells_line line (unsaid s) (Settle 1)) now texts texts_now
    → Rounds T how line rounds s left now texts texts_now
round_goes T how line rounds left s now texts texts_now some less does rest =
    let more : rounds ≡ suc left = omega (arith, some, less) in
    did_as how InputRefused _ _ _ _ texts texts_now
    (λ items behind. ap (λ (n : ℕ). rounds_owe line n s (rest items behind)) more)
    (λ items behind. refl)
    (does (λ items behind next. rounds_owe line left next (rest items behind)))

-- in the words of the command
pub round_did : (how : Flow) (names names_now : List (List ℕ)) (line line_now rounds left : ℕ) (s now : ReplayState) (texts texts_now : Texts) → line_now ≡ line → names_now ≡ names → Rounds (List ℕ) how line rounds s left now texts texts_now
    → Did how InputRefused (λ items behind. rounds_owe line rounds s (lines_owe names line items behind)) (λ items behind. rounds_owe line_now left now (lines_owe names_now line_now items behind)) texts texts_now
round_did how names names_now line line_now rounds left s now texts texts_now same_line same goes =
    did_as how InputRefused _ _ _ _ texts texts_now
    (λ items behind. refl)
    (λ items behind. ap₂ (λ (n : ℕ) (l : List (List ℕ)). rounds_owe n left now (lines_owe l n items behind)) (sym same_line) (sym same))
    (goes (λ items behind. lines_owe names line items behind))

-- ---- answers

pub if_ok : {X E : Type 0} (P : X → Type 0) (result : Result X E) → ((x : X) → P x) → IfOk result P
if_ok P (Ok x) each = each x
if_ok P (Err e) each = tt

pub if_ok_then : {X E : Type 0} (P Q : X → Type 0) (result : Result X E) → ((x : X) → P x → Q x) → IfOk result P → IfOk result Q
if_ok_then P Q (Ok x) each is = each x is
if_ok_then P Q (Err e) each is = tt

-- the names of the domain at its start
pub start_named : (b : Recording) (d : DomainConf) (names : List (List ℕ)) (s : ReplayState) → names ≡ names_of d → s ≡ first_state b d → names ≡ names_of s.world.domain
unfolding first_world
start_named b d names s are is = are ∙ ap (λ (x : ReplayState). names_of x.world.domain) (sym is)
