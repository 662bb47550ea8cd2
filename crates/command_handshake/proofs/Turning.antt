-- What the calls of a schedule with hellos do, in the words of the driver.
use Rattle.std.proofs.Common.{◌≡◌, ◌≢◌, ℕ, ◌+◌, ◌-◌, ◌<◌, zero, suc, List, [], ◌∷◌, ◌++◌, Option, Some, None, Result, Ok, Err, refl, sym, ap, subst, ◌∙◌, arith, append-nil, append_assoc}
use Rattle.run_texts.specs.declared.texts.Texts.{Texts}
use Rattle.wire_base.specs.declared.status.Status.TheVariants.{InputRefused}
use Rattle.replay_text.specs.Fault.{fault_text}
use Rattle.replay_text.specs.Hand.{hand_line}
use Rattle.wire_base.specs.declared.hello_event.HelloEvent.{HelloEvent}
use Rattle.replay_text.specs.declared.event.Event.{Event}
use Rattle.replay_text.specs.declared.event.Line.{Line}
use Rattle.replay_text.specs.declared.event.Line.TheVariants.{Empty, One, Settle}
use Rattle.replay_text.specs.declared.fault.TextFault.{TextFault}
use Rattle.replay_text.specs.declared.fault.TextFault.TheVariants as rules
use Rattle.replay_text.specs.Reading.{Fails}
use Rattle.replay_text.specs.declared.hand.HandLine.{HandLine}
use Rattle.replay_text.specs.declared.hand.HandLine.TheVariants.{Hello}
use Rattle.domain_model.specs.declared.fault.EventFault.{EventFault}
use Rattle.domain_replay.specs.Lines.{text_refused_text}
use Rattle.domain_replay.specs.Texts.{names_of}
use Rattle.domain_handshake.specs.Doing as doing
use Rattle.domain_handshake.specs.Handshakes.{HandState, Outcome, nothing, goes_on, and_then, round_does, rounds_do, event_does, hello_does, base_does}
use Rattle.command_drive.specs.Answer.{Verdict}
use Rattle.command_drive.specs.declared.command.Flow.{Flow}
use Rattle.command_drive.specs.declared.command.Flow.TheVariants as flow
use Rattle.command_drive.specs.Reading.{Behind}
use Rattle.command_drive.specs.Doing.{Did, Concludes, told}
use Rattle.command_replay.proofs.Steps.{did_as}
use Rattle.command_replay.specs.Course.{turn_owes, unless_rejected}
use Rattle.command_handshake.specs.Owed.{Rest, outcome_owes, rounds_owe, lines_owe, Does, Begins}
use Rattle.command_handshake.specs.Shaken.{hand_turns, read_turns, said_does, refused_by}

-- ---- no rounds are left

pub no_rounds : (line rounds : ℕ) (s : HandState) (rest : Rest) → rounds ≡ 0 → rounds_owe line rounds s rest ≡ rest s
no_rounds line rounds s rest none = ap (λ (n : ℕ). rounds_owe line n s rest) none

owed_so : (line rounds : ℕ) (s : HandState) (rest : Rest) → outcome_owes line (rounds_do line s rounds) rest ≡ rounds_owe line rounds s rest
unfolding rounds_do
owed_so line zero s rest = refl
owed_so line (suc rounds) s rest = refl

-- ---- a part of a line

module _ (T : Type 0) (line : ℕ) (o : Outcome) (now : HandState) (texts mid : Texts) where
  pub did_all : doing.Did o now None texts mid → Does T flow.On line o now texts mid
  did_all did rest = record {
    report = o.report;
    frames = o.frames;
    report_is = did.report;
    frames_is = did.frames;
    owed = λ items behind.
        ap (λ (why : Option EventFault). told o.report o.frames (unless_rejected line (refused_by why) (rest items behind o.next))) did.refused
        ∙ ap (λ (s : HandState). told o.report o.frames (rest items behind s)) did.next;
  }

-- ---- a line

pub begins_at_once : (T : Type 0) (how : Flow) (line rounds : ℕ) (o : Outcome) (now : HandState) (texts texts_now : Texts) → rounds ≡ 0 → Does T how line o now texts texts_now → Begins T how line o now rounds texts texts_now
begins_at_once T how line rounds o now texts texts_now none does rest =
    did_as how InputRefused _ _ _ _ texts texts_now (λ items behind. refl) (λ items behind. sym (no_rounds line rounds now (rest items behind) none)) (does rest)

pub begins_empty : (T : Type 0) (line rounds : ℕ) (s : HandState) (texts : Texts) → rounds ≡ 0 → Begins T flow.On line (base_does line s Empty) s rounds texts texts
unfolding base_does
begins_empty T line rounds s texts none =
    begins_at_once T flow.On line rounds (nothing s) s texts texts none
    (did_all T line (nothing s) s texts texts (record { report = sym (append-nil texts.report); frames = sym (append-nil texts.frames); refused = refl; next = refl }))

pub begins_rounds : (T : Type 0) (line rounds : ℕ) (s : HandState) (texts : Texts) → Begins T flow.More line (base_does line s (Settle rounds)) s rounds texts texts
unfolding base_does
begins_rounds T line rounds s texts rest = record {
  report = [];
  frames = [];
  report_is = sym (append-nil texts.report);
  frames_is = sym (append-nil texts.frames);
  owed = λ items behind. owed_so line rounds s (rest items behind);
}

pub begins_said : (T : Type 0) (how : Flow) (line rounds : ℕ) (said other : Line) (s now : HandState) (texts texts_now : Texts) → said ≡ other → Begins T how line (base_does line s other) now rounds texts texts_now → Begins T how line (base_does line s said) now rounds texts texts_now
begins_said T how line rounds said other s now texts texts_now is begins = subst (λ (l : Line). Begins T how line (base_does line s l) now rounds texts texts_now) (sym is) begins

pub begins_one : (T : Type 0) (how : Flow) (line rounds : ℕ) (said : Line) (e : Event) (s now : HandState) (texts texts_now : Texts) → said ≡ One e → rounds ≡ 0 → Does T how line (event_does line s e) now texts texts_now
    → Begins T how line (base_does line s said) now rounds texts texts_now
unfolding base_does
begins_one T how line rounds said e s now texts texts_now is none does = begins_said T how line rounds said (One e) s now texts texts_now is (begins_at_once T how line rounds (event_does line s e) now texts texts_now none does)

pub begins_hello : (T : Type 0) (how : Flow) (line rounds : ℕ) (said : HandLine) (e : HelloEvent) (s now : HandState) (texts texts_now : Texts) → said ≡ Hello e → rounds ≡ 0 → Does T how line (hello_does line s e) now texts texts_now
    → Begins T how line (said_does line s said) now rounds texts texts_now
begins_hello T how line rounds said e s now texts texts_now is none does =
    subst (λ (l : HandLine). Begins T how line (said_does line s l) now rounds texts texts_now) (sym is) (begins_at_once T how line rounds (hello_does line s e) now texts texts_now none does)

-- a rule that a line breaks is the first
pub fails_as : {X : Type 0} (why : TextFault) (read : Result X TextFault) → Fails why read → why ≢ rules.Memory → read ≡ Err why
fails_as rules.Word read is known = is
fails_as rules.Number read is known = is
fails_as rules.Name read is known = is
fails_as rules.Hex read is known = is
fails_as rules.LineLong read is known = is
fails_as rules.Memory read is known = absurd (known refl)

-- a line that isn't in the grammar
pub unread_did : (names : List (List ℕ)) (line rounds : ℕ) (s : HandState) (text : List ℕ) (why : TextFault) (texts texts_now : Texts) → rounds ≡ 0 → names ≡ names_of s.replay.world.domain → hand_line text names ≡ Err why
    → texts_now.frames ≡ texts.frames → texts_now.report ≡ texts.report ++ text_refused_text (line + 1) (fault_text why)
    → (items : List (List ℕ)) (behind : Behind) → Concludes InputRefused (rounds_owe line rounds s (lines_owe line (text ∷ items) behind)) texts texts_now
unfolding hand_turns
unread_did names line rounds s text why texts texts_now none named reads frames report items behind =
    subst (λ (v : Verdict). Concludes InputRefused v texts texts_now)
    (sym (no_rounds line rounds s (lines_owe line (text ∷ items) behind) none
    ∙ ap (λ (r : Result HandLine TextFault). turn_owes (line + 1) (read_turns (line + 1) s r) (lines_owe (line + 1) items behind)) (sym (ap (hand_line text) named) ∙ reads)))
    (record { status = refl; report = report; frames = frames ∙ sym (append-nil texts.frames) })

pub item_did : (how : Flow) (names : List (List ℕ)) (line line_now rounds rounds_now : ℕ) (s now : HandState) (text : List ℕ) (said : HandLine) (texts texts_now : Texts) → rounds ≡ 0 → names ≡ names_of s.replay.world.domain
    → hand_line text names ≡ Ok said → line_now ≡ line + 1 → Begins (List ℕ) how (line + 1) (said_does (line + 1) s said) now rounds_now texts texts_now
    → Did how InputRefused (λ more behind. rounds_owe line rounds s (lines_owe line (text ∷ more) behind)) (λ items behind. rounds_owe line_now rounds_now now (lines_owe line_now items behind)) texts texts_now
unfolding hand_turns
item_did how names line line_now rounds rounds_now s now text said texts texts_now none named reads next begins =
    did_as how InputRefused _ _ _ _ texts texts_now
    (λ more behind.
    no_rounds line rounds s (lines_owe line (text ∷ more) behind) none
    ∙ ap (λ (r : Result HandLine TextFault). turn_owes (line + 1) (read_turns (line + 1) s r) (lines_owe (line + 1) more behind)) (sym (ap (hand_line text) named) ∙ reads))
    (λ items behind. ap (λ (n : ℕ). rounds_owe n rounds_now now (lines_owe n items behind)) (sym next))
    (begins (λ items behind. lines_owe (line + 1) items behind))

-- ---- a round of the line that was begun

told_told : (a f b g : List ℕ) (v : Verdict) → told (a ++ b) (f ++ g) v ≡ told a f (told b g v)
told_told a f b g v = let reports = append_assoc a b v.report in let frames = append_assoc f g v.frames in λ i. record { status = v.status; report = reports i; frames = frames i }

-- the rounds after one owe what follows it
round_owes : (line rounds : ℕ) (s : HandState) (rest : Rest) → rounds_owe line (suc rounds) s rest ≡ outcome_owes line (round_does line s) (λ next. rounds_owe line rounds next rest)
unfolding rounds_do and_then
round_owes line rounds s rest = by (round_does line s).refused refl
  where
    by : (q : Option EventFault) → (round_does line s).refused ≡ q
        → outcome_owes line (goes_on (round_does line s) (λ next. rounds_do line next rounds) q) rest ≡ told (round_does line s).report (round_does line s).frames (unless_rejected line (refused_by q) (rounds_owe line rounds (round_does line s).next rest))
    by None is =
        let p = rounds_do line (round_does line s).next rounds in
        told_told (round_does line s).report (round_does line s).frames p.report p.frames (unless_rejected line (refused_by p.refused) (rest p.next))
        ∙ ap (told (round_does line s).report (round_does line s).frames) (owed_so line rounds (round_does line s).next rest)
    by (Some why) is = ap (λ (q : Option EventFault). told (round_does line s).report (round_does line s).frames (unless_rejected line (refused_by q) (rest (round_does line s).next))) is

pub round_did : (how : Flow) (line line_now rounds left : ℕ) (s now : HandState) (texts texts_now : Texts) → 0 < rounds → left ≡ rounds - 1 → line_now ≡ line → Does (List ℕ) how line (round_does line s) now texts texts_now
    → Did how InputRefused (λ items behind. rounds_owe line rounds s (lines_owe line items behind)) (λ items behind. rounds_owe line_now left now (lines_owe line_now items behind)) texts texts_now
round_did how line line_now rounds left s now texts texts_now some less same does =
    let more : rounds ≡ suc left = omega (arith, some, less) in
    did_as how InputRefused _ _ _ _ texts texts_now
    (λ items behind. ap (λ (n : ℕ). rounds_owe line n s (lines_owe line items behind)) more ∙ round_owes line left s (lines_owe line items behind))
    (λ items behind. ap (λ (n : ℕ). rounds_owe n left now (lines_owe n items behind)) (sym same))
    (does (λ items behind next. rounds_owe line left next (lines_owe line items behind)))
