-- What a line of a schedule with hellos contains: what is no event of hellos is read as a line of a schedule.
use Rattle.std.proofs.Common.{◌≡◌, ℕ, ◌+◌, ◌<◌, ◌≤◌, Bool, true, false, cond, ltb, List, [], ◌∷◌, length, take, get_or, Result, Ok, Err, refl, sym, ap, subst, ◌∙◌, arith, inl, inr}
use mathlib.Core.Bool.{true≢false}
use Rattle.std.specs.Prelude.{IfOk, codes}
use Rattle.std.specs.Str.{bytes_eq}
use Rattle.std.proofs.lemmas.Bool.{lt-ltb, cases_lt}
use Rattle.std.proofs.lemmas.List.{length-take, take_all}
use Rattle.std.proofs.lemmas.Slice.Eq.{bytes_eq-Decides}
use Rattle.wire_base.specs.declared.limits.TheConstants.{LINE_LIMIT}
use Rattle.wire_base.specs.model.Fields.{◌>>=◌}
use Rattle.wire_base.specs.declared.hello_event.HelloEvent.{HelloEvent}
use Rattle.wire_base.specs.declared.hello_event.HelloEvent.TheVariants as hello
use Rattle.replay_text.specs.declared.event.Line.{Line}
use Rattle.replay_text.specs.declared.event.Line.TheVariants.{One}
use Rattle.replay_text.specs.declared.event.Event.{Event}
use Rattle.replay_text.specs.declared.event.Event.TheVariants as event
use Rattle.replay_text.specs.declared.fault.TextFault.{TextFault}
use Rattle.replay_text.specs.declared.fault.TextFault.TheVariants.{Word, LineLong}
use Rattle.replay_text.specs.declared.hand.HandLine.{HandLine}
use Rattle.replay_text.specs.declared.hand.HandLine.TheVariants.{Base, Hello}
use Rattle.replay_text.specs.Hand.{is_move, moves, base_line, hand_words, hand_line}
use Rattle.replay_text.specs.Hop.{is_comment}
use Rattle.replay_text.specs.Pieces.{words_of}
use Rattle.replay_text.specs.Schedule.{link_named, frame_named, line_of_words, schedule_line}
use Rattle.replay_text.specs.ScheduleGrammar.{IsEvent, IsSaid, IsScheduleLine}
use Rattle.replay_text.proofs.ScheduleSpelled.{found}
use Rattle.domain_replay.specs.Telling.{LineEnters}
use Rattle.command_drive.specs.Lines.{shown}
use Rattle.command_replay.proofs.SaidLines.{line_doable}
use Rattle.command_handshake.specs.Owed.{HandNamesOnce}

-- what is no event of hellos is a line of a schedule, which moves no interface
abbrev IsBase : (names : List (List ℕ)) → (text : List ℕ) → HandLine → Type 0
IsBase names text (Base said) = (schedule_line text names ≡ Ok said) × (moves said ≡ false)
IsBase names text (Hello e) = Unit {0}

-- an injection is at a router that exists
abbrev pub HandEnters : ℕ → HandLine → Type 0
HandEnters count (Base said) = LineEnters count said
HandEnters count (Hello e) = Unit {0}

-- ---- a line whose keyword is neither `up` nor `down` moves no interface

-- another keyword than the one that those words begin with
differs : (words : List (List ℕ)) (word : List ℕ) (args : List (List ℕ)) (key : List ℕ) (more : List (List ℕ)) → words ≡ word ∷ args → bytes_eq word key ≡ false → words ≡ key ∷ more → ⊥
differs words word args key more are other is = true≢false (sym ((bytes_eq-Decides word key).1 (ap (λ (l : List (List ℕ)). get_or l 0 []) (sym are ∙ is))) ∙ other)

module _ (names words : List (List ℕ)) (word : List ℕ) (args : List (List ℕ)) (are : words ≡ word ∷ args) (no_up : bytes_eq word (codes "up") ≡ false) (no_down : bytes_eq word (codes "down") ≡ false) where
  steady_event : (e : Event) → IsEvent names words e → is_move e ≡ false
  steady_event (event.Down from to) is = absurd (differs words word args (codes "down") is.args are no_down is.words_are)
  steady_event (event.Up from to) is = absurd (differs words word args (codes "up") is.args are no_up is.words_are)
  steady_event other is = refl

  steady_said : (said : Line) → IsSaid names words said → moves said ≡ false
  steady_said (One e) is = steady_event e is
  steady_said other is = refl

steady_line : (names : List (List ℕ)) (text word : List ℕ) (args : List (List ℕ)) → words_of text ≡ word ∷ args → bytes_eq word (codes "up") ≡ false → bytes_eq word (codes "down") ≡ false
    → (said : Line) → schedule_line text names ≡ Ok said → moves said ≡ false
steady_line names text word args are no_up no_down said reads = let is : IsScheduleLine names text said = found (Ok said) text names reads in elim is.says [
  | inl comment ↦ ap moves comment.1
  | inr words ↦ steady_said names (words_of text) word args are no_up no_down said words.1
]

-- ---- a line by its keyword

module _ (names : List (List ℕ)) (text : List ℕ) where
  hello_good : {X : Type 0} (r : Result X TextFault) (f : X → HelloEvent) → IfOk (r >>= (λ x. Ok (Hello (f x)))) (IsBase names text)
  hello_good (Ok x) f = tt
  hello_good (Err why) f = tt

  base_good : (read : Result Line TextFault) → schedule_line text names ≡ read → ((said : Line) → schedule_line text names ≡ Ok said → moves said ≡ false) → IfOk (read >>= (λ said. Ok (Base said))) (IsBase names text)
  base_good (Ok said) reads steady = (reads, steady said reads)
  base_good (Err why) reads steady = tt

  other_good : (word : List ℕ) (args : List (List ℕ)) → words_of text ≡ word ∷ args → IfOk (base_line text names word >>= (λ said. Ok (Base said))) (IsBase names text)
  other_good word args are = by (bytes_eq word (codes "up")) refl (bytes_eq word (codes "down")) refl
    where
      by : (up : Bool) → bytes_eq word (codes "up") ≡ up → (down : Bool) → bytes_eq word (codes "down") ≡ down
          → IfOk (cond up (Err Word) (cond down (Err Word) (schedule_line text names)) >>= (λ said. Ok (Base said))) (IsBase names text)
      by true no_up down no_down = tt
      by false no_up true no_down = tt
      by false no_up false no_down = base_good (schedule_line text names) refl (steady_line names text word args are no_up no_down)

  words_good : (words : List (List ℕ)) → words_of text ≡ words → schedule_line text names ≡ line_of_words names words → IfOk (hand_words text names words) (IsBase names text)
  words_good [] are reads = (reads, refl)
  words_good (word ∷ args) are reads = by (bytes_eq word (codes "hello")) (bytes_eq word (codes "greet")) (bytes_eq word (codes "forget")) (bytes_eq word (codes "break")) (bytes_eq word (codes "mend"))
    where
      by : (hello_is greet_is forget_is break_is mend_is : Bool) → IfOk
          (cond hello_is (link_named names args >>= (λ l. Ok (Hello (hello.Hello l.0 l.1))))
          (cond greet_is (frame_named names args >>= (λ f. Ok (Hello (hello.Greet f.0 f.1 f.2))))
          (cond forget_is (frame_named names args >>= (λ f. Ok (Hello (hello.Forget f.0 f.1 f.2))))
          (cond break_is (link_named names args >>= (λ l. Ok (Hello (hello.Break l.0 l.1))))
          (cond mend_is (link_named names args >>= (λ l. Ok (Hello (hello.Mend l.0 l.1))))
          (base_line text names word >>= (λ said. Ok (Base said)))))))) (IsBase names text)
      by true g f b m = hello_good (link_named names args) (λ l. hello.Hello l.0 l.1)
      by false true f b m = hello_good (frame_named names args) (λ x. hello.Greet x.0 x.1 x.2)
      by false false true b m = hello_good (frame_named names args) (λ x. hello.Forget x.0 x.1 x.2)
      by false false false true m = hello_good (link_named names args) (λ l. hello.Break l.0 l.1)
      by false false false false true = hello_good (link_named names args) (λ l. hello.Mend l.0 l.1)
      by false false false false false = other_good word args are

  line_good : IfOk (hand_line text names) (IsBase names text)
  unfolding hand_line schedule_line
  line_good = by (ltb LINE_LIMIT (length text)) (is_comment text) refl refl
    where
      by : (long comment : Bool) → ltb LINE_LIMIT (length text) ≡ long → is_comment text ≡ comment
          → IfOk (cond long (Err LineLong) (hand_words text names (cond comment [] (words_of text)))) (IsBase names text)
      by true comment l c = tt
      by false true l c = (rw (l, c) refl, refl)
      by false false l c = words_good (words_of text) refl (rw (l, c) refl)

  pub hand_base : (said : Line) → hand_line text names ≡ Ok (Base said) → schedule_line text names ≡ Ok said
  hand_base said reads = (subst (λ (r : Result HandLine TextFault). IfOk r (IsBase names text)) reads line_good).0

  pub hand_steady : (said : Line) → hand_line text names ≡ Ok (Base said) → moves said ≡ false
  hand_steady said reads = (subst (λ (r : Result HandLine TextFault). IfOk r (IsBase names text)) reads line_good).1

  pub hand_doable : (said : HandLine) → hand_line text names ≡ Ok said → HandEnters (length names) said × HandNamesOnce said
  hand_doable (Base said) reads = line_doable names text said (hand_base said reads)
  hand_doable (Hello e) reads = (tt, tt)

-- a prefix of a line that is too long is read as the line is
pub shown_hand : (names : List (List ℕ)) (text : List ℕ) → hand_line (shown text) names ≡ hand_line text names
unfolding hand_line shown
shown_hand names text = elim (cases_lt LINE_LIMIT (length text)) [
  | inl long ↦
      let front : LINE_LIMIT < length (take (LINE_LIMIT + 1) text) = omega (arith, long, length-take (LINE_LIMIT + 1) text) in
      rw (lt-ltb LINE_LIMIT (length (take (LINE_LIMIT + 1) text)) front, lt-ltb LINE_LIMIT (length text) long) refl
  | inr fits ↦
      let within : length text ≤ LINE_LIMIT + 1 = omega (arith, fits) in
      ap (λ (t : List ℕ). hand_line t names) (take_all (LINE_LIMIT + 1) text within)
]
