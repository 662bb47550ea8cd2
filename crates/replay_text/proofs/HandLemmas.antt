-- A line of a schedule whose keyword is neither `up` nor `down` moves no interface.
use Rattle.std.proofs.Common.{◌≡◌, ℕ, false, List, [], ◌∷◌, get_or, Result, Ok, Err, refl, sym, ap, ◌∙◌, inl, inr}
use mathlib.Core.Bool.{true≢false}
use Rattle.std.specs.Prelude.{IfOk, codes}
use Rattle.std.specs.Str.{bytes_eq}
use Rattle.std.proofs.lemmas.Slice.Eq.{bytes_eq-Decides}
use Rattle.replay_text.specs.declared.fault.TextFault.{TextFault}
use Rattle.replay_text.specs.declared.event.Event.{Event}
use Rattle.replay_text.specs.declared.event.Event.TheVariants as event
use Rattle.replay_text.specs.declared.event.Line.{Line}
use Rattle.replay_text.specs.declared.event.Line.TheVariants as line
use Rattle.replay_text.specs.Events.{LineFits}
use Rattle.replay_text.specs.Hand.{BaseFits, is_move, moves}
use Rattle.replay_text.specs.Pieces.{words_of}
use Rattle.replay_text.specs.ScheduleGrammar.{IsEvent, IsSaid, IsScheduleLine}

-- another keyword than the one that those words begin with
differs : (words : List (List ℕ)) (word : List ℕ) (args : List (List ℕ)) (key : List ℕ) (more : List (List ℕ)) → words ≡ word ∷ args → bytes_eq word key ≡ false → words ≡ key ∷ more → ⊥
differs words word args key more are other is = true≢false (sym ((bytes_eq-Decides word key).1 (ap (λ (l : List (List ℕ)). get_or l 0 []) (sym are ∙ is))) ∙ other)

steady_event : (names words : List (List ℕ)) (word : List ℕ) (args : List (List ℕ)) (e : Event) → words ≡ word ∷ args → bytes_eq word (codes "up") ≡ false → bytes_eq word (codes "down") ≡ false → IsEvent names words e → is_move e ≡ false
steady_event names words word args (event.Inject router sd bsl ids ttl entropy payload) are no_up no_down is = refl
steady_event names words word args (event.Take from to i) are no_up no_down is = refl
steady_event names words word args (event.Lose from to i) are no_up no_down is = refl
steady_event names words word args (event.Again from to i) are no_up no_down is = refl
steady_event names words word args (event.Down from to) are no_up no_down is = absurd (differs words word args (codes "down") is.args are no_down is.words_are)
steady_event names words word args (event.Up from to) are no_up no_down is = absurd (differs words word args (codes "up") is.args are no_up is.words_are)
steady_event names words word args (event.Send from to) are no_up no_down is = refl
steady_event names words word args (event.Tick router) are no_up no_down is = refl
steady_event names words word args (event.Restart router) are no_up no_down is = refl
steady_event names words word args (event.Relabel router sd bsl label) are no_up no_down is = refl
steady_event names words word args (event.Leave router sd) are no_up no_down is = refl
steady_event names words word args (event.Join router sd) are no_up no_down is = refl

steady_said : (names words : List (List ℕ)) (word : List ℕ) (args : List (List ℕ)) (said : Line) → words ≡ word ∷ args → bytes_eq word (codes "up") ≡ false → bytes_eq word (codes "down") ≡ false → IsSaid names words said → moves said ≡ false
steady_said names words word args line.Empty are no_up no_down is = refl
steady_said names words word args (line.One e) are no_up no_down is = steady_event names words word args e are no_up no_down is
steady_said names words word args (line.Settle rounds) are no_up no_down is = refl

pub steady : (count : ℕ) (result : Result Line TextFault) (names : List (List ℕ)) (text word : List ℕ) (args : List (List ℕ))
    → words_of text ≡ word ∷ args → bytes_eq word (codes "up") ≡ false → bytes_eq word (codes "down") ≡ false
    → IfOk result (LineFits count) → IfOk result (IsScheduleLine names text) → IfOk result (BaseFits count)
steady count (Err e) names text word args are no_up no_down fits found = tt
steady count (Ok said) names text word args are no_up no_down fits found = record {
  fits = fits;
  steady = elim found.says [
    | inl comment ↦ ap moves comment.1
    | inr words ↦ steady_said names (words_of text) word args said are no_up no_down words.1
  ];
}
