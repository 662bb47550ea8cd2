-- What a line of a schedule that is checked contains: what it executes is read as a line of a schedule.
use Rattle.std.proofs.Common.{◌≡◌, ℕ, ◌+◌, ◌<◌, ◌≤◌, Bool, true, false, cond, ltb, List, [], ◌∷◌, length, take, Result, Ok, Err, refl, ap, subst, arith, inl, inr}
use Rattle.std.specs.Prelude.{IfOk, codes}
use Rattle.std.specs.Str.{bytes_eq}
use Rattle.std.proofs.lemmas.Bool.{lt-ltb, cases_lt}
use Rattle.std.proofs.lemmas.List.{length-take, take_all}
use Rattle.wire_base.specs.declared.limits.TheConstants.{LINE_LIMIT}
use Rattle.wire_base.specs.model.Fields.{◌>>=◌}
use Rattle.replay_text.specs.declared.check.CheckLine.{CheckLine}
use Rattle.replay_text.specs.declared.check.CheckLine.TheVariants.{Base, Quiet}
use Rattle.replay_text.specs.declared.event.Line.{Line}
use Rattle.replay_text.specs.declared.fault.TextFault.{TextFault}
use Rattle.replay_text.specs.declared.fault.TextFault.TheVariants.{LineLong}
use Rattle.replay_text.specs.Arguments.{counted, name_at, number_at, length_at, ids_at, ttl_at}
use Rattle.replay_text.specs.Check.{cover_line, quiet_line, check_words, check_line}
use Rattle.replay_text.specs.Hop.{is_comment}
use Rattle.replay_text.specs.Pieces.{words_of}
use Rattle.replay_text.specs.Schedule.{line_of_words, schedule_line}
use Rattle.command_drive.specs.Lines.{shown}
use Rattle.command_replay.proofs.SaidLines.{line_doable}
use Rattle.command_check.specs.Turning.{CheckEnters, CheckNamesOnce}

-- what is executed is a line of a schedule
abbrev IsBase : (names : List (List ℕ)) → (text : List ℕ) → CheckLine → Type 0
IsBase names text (Base said) = schedule_line text names ≡ Ok said
IsBase names text other = Unit {0}

bind_good : {X Y E : Type 0} (P : Y → Type 0) (r : Result X E) (f : X → Result Y E) → ((x : X) → IfOk (f x) P) → IfOk (r >>= f) P
bind_good P (Ok x) f each = each x
bind_good P (Err e) f each = tt

module _ (names : List (List ℕ)) (text : List ℕ) where
  quiet_good : (args : List (List ℕ)) → IfOk (quiet_line args) (IsBase names text)
  quiet_good args = bind_good (IsBase names text) (counted 0 args) (λ none. Ok Quiet) (λ none. tt)

  cover_good : (args : List (List ℕ)) → IfOk (cover_line names args) (IsBase names text)
  unfolding cover_line
  cover_good args =
      bind_good (IsBase names text) (counted 6 args) _ (λ words.
      bind_good (IsBase names text) (name_at names words) _ (λ router.
      bind_good (IsBase names text) (number_at 255 router.1) _ (λ sd.
      bind_good (IsBase names text) (length_at sd.1) _ (λ bsl.
      bind_good (IsBase names text) (ids_at bsl.1) _ (λ ids.
      bind_good (IsBase names text) (ttl_at ids.1) _ (λ ttl.
      bind_good (IsBase names text) (number_at 1048575 ttl.1) _ (λ entropy. tt)))))))

  base_good : (read : Result Line TextFault) → schedule_line text names ≡ read → IfOk (read >>= (λ said. Ok (Base said))) (IsBase names text)
  base_good (Ok said) reads = reads
  base_good (Err why) reads = tt

  words_good : (words : List (List ℕ)) → schedule_line text names ≡ line_of_words names words → IfOk (check_words text names words) (IsBase names text)
  words_good [] reads = reads
  words_good (word ∷ args) reads = by (bytes_eq word (codes "quiet")) (bytes_eq word (codes "cover"))
    where
      by : (quiet cover : Bool) → IfOk (cond quiet (quiet_line args) (cond cover (cover_line names args) (schedule_line text names >>= (λ said. Ok (Base said))))) (IsBase names text)
      by true cover = quiet_good args
      by false true = cover_good args
      by false false = base_good (schedule_line text names) refl

  line_good : IfOk (check_line text names) (IsBase names text)
  unfolding check_line schedule_line
  line_good = by (ltb LINE_LIMIT (length text)) (is_comment text) refl refl
    where
      by : (long comment : Bool) → ltb LINE_LIMIT (length text) ≡ long → is_comment text ≡ comment
          → IfOk (cond long (Err LineLong) (check_words text names (cond comment [] (words_of text)))) (IsBase names text)
      by true comment l c = tt
      by false true l c = rw (l, c) refl
      by false false l c = words_good (words_of text) (rw (l, c) refl)

  pub check_base : (said : Line) → check_line text names ≡ Ok (Base said) → schedule_line text names ≡ Ok said
  check_base said reads = subst (λ (r : Result CheckLine TextFault). IfOk r (IsBase names text)) reads line_good

  pub check_doable : (said : CheckLine) → check_line text names ≡ Ok said → CheckEnters (length names) said × CheckNamesOnce said
  check_doable (Base said) reads = line_doable names text said (check_base said reads)
  check_doable other reads = (tt, tt)

-- a prefix of a line that is too long is read as the line is
pub shown_check : (names : List (List ℕ)) (text : List ℕ) → check_line (shown text) names ≡ check_line text names
unfolding check_line shown
shown_check names text = elim (cases_lt LINE_LIMIT (length text)) [
  | inl long ↦
      let front : LINE_LIMIT < length (take (LINE_LIMIT + 1) text) = omega (arith, long, length-take (LINE_LIMIT + 1) text) in
      rw (lt-ltb LINE_LIMIT (length (take (LINE_LIMIT + 1) text)) front, lt-ltb LINE_LIMIT (length text) long) refl
  | inr fits ↦
      let within : length text ≤ LINE_LIMIT + 1 = omega (arith, fits) in
      ap (λ (t : List ℕ). check_line t names) (take_all (LINE_LIMIT + 1) text within)
]
