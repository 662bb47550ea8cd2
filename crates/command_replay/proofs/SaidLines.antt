-- What a schedule's lines say: an injection is at a router that is there, and names no BFR-id twice.
use Rattle.std.proofs.Common.{◌≡◌, ℕ, ◌==◌, ◌<◌, ◌&&◌, not, Bool, true, false, cond, ltb, List, [], ◌∷◌, filter, length, Option, Some, None, Ok, refl, sym, ap, subst, ◌∙◌, arith, inl, inr}
use Rattle.std.specs.Prelude.{option_map}
use Rattle.std.specs.List.{position_or_len}
use Rattle.std.specs.Str.{bytes_eq}
use Rattle.std.proofs.Math.Bool.{and_comm}
use Rattle.std.proofs.lemmas.Bool.{cases_Bool, cases_eq, eq-eqb, ne_eqb, ltb-true}
use Rattle.wire_base.specs.model.Hop.{distinct}
use Rattle.bier_hop.proofs.CopyLaws.{filter-filter}
use Rattle.replay_text.specs.declared.event.Event.{Event}
use Rattle.replay_text.specs.declared.event.Event.TheVariants as event
use Rattle.replay_text.specs.declared.event.Line.{Line}
use Rattle.replay_text.specs.declared.event.Line.TheVariants as line
use Rattle.replay_text.specs.Pieces.{pieces, words_of}
use Rattle.replay_text.specs.Arguments.{place_of, listed_ids, numbers_to}
use Rattle.replay_text.specs.Schedule.{schedule_line}
use Rattle.replay_text.specs.ScheduleGrammar.{IsEvent, IsSaid, IsScheduleLine}
use Rattle.replay_text.proofs.ScheduleSpelled.{found}
use Rattle.domain_replay.specs.Counting.{NamesOnce}
use Rattle.domain_replay.specs.Telling.{LineNamesOnce, IsEntered, LineEnters}

-- ---- what is distinct is so again

filter_swap : (p q : ℕ → Bool) (xs : List ℕ) → filter p (filter q xs) ≡ filter q (filter p xs)
filter_swap p q xs = filter-filter p q xs ∙ (λ i. filter (λ y. and_comm (q y) (p y) i) xs) ∙ sym (filter-filter q p xs)

filter_twice : (p : ℕ → Bool) (xs : List ℕ) → filter p (filter p xs) ≡ filter p xs
filter_twice p xs = filter-filter p p xs ∙ (λ i. filter (λ y. both (p y) i) xs)
  where
    both : (b : Bool) → (b && b) ≡ b
    both true = refl
    both false = refl

-- without what a test refuses anyway
filter_past : (p : ℕ → Bool) (x : ℕ) (xs : List ℕ) → p x ≡ false → filter p (filter (λ y. not (y == x)) xs) ≡ filter p xs
filter_past p x xs refused = filter-filter p (λ y. not (y == x)) xs ∙ (λ i. filter (λ y. at y i) xs)
  where
    at : (y : ℕ) → (not (y == x) && p y) ≡ p y
    at y = elim (cases_eq y x) [
      | inl same ↦ rw (eq-eqb y x same) (sym refused ∙ ap p (sym same))
      | inr apart ↦ rw (ne_eqb y x apart) refl
    ]

distinct_filter : (p : ℕ → Bool) (xs : List ℕ) → distinct (filter p xs) ≡ filter p (distinct xs)
distinct_filter p [] = refl
distinct_filter p (x ∷ xs) = elim (cases_Bool (p x)) [
  | inl kept ↦ rw kept (ap (λ (l : List ℕ). x ∷ l) (ap (filter (λ y. not (y == x))) (distinct_filter p xs) ∙ filter_swap (λ y. not (y == x)) p (distinct xs)))
  | inr refused ↦ rw refused (distinct_filter p xs ∙ sym (filter_past p x (distinct xs) refused))
]

distinct_twice : (xs : List ℕ) → distinct (distinct xs) ≡ distinct xs
distinct_twice [] = refl
distinct_twice (x ∷ xs) =
    ap (λ (l : List ℕ). x ∷ l)
    (ap (filter (λ y. not (y == x))) (distinct_filter (λ y. not (y == x)) (distinct xs)) ∙ filter_twice (λ y. not (y == x)) (distinct (distinct xs)) ∙ ap (filter (λ y. not (y == x))) (distinct_twice xs))

-- ---- arguments

listed_once : (word ids : List ℕ) → listed_ids word ≡ Some ids → distinct ids ≡ ids
unfolding listed_ids
listed_once word ids is = by (bytes_eq word (45 ∷ [])) is
  where
    some : (o : Option (List ℕ)) → option_map distinct o ≡ Some ids → distinct ids ≡ ids
    some None e = absurd cc
    some (Some ns) e = let all : distinct ns ≡ ids = cc in subst (λ (l : List ℕ). distinct l ≡ l) all (distinct_twice ns)

    by : (b : Bool) → cond b (Some []) (option_map distinct (numbers_to 65535 (pieces 44 word))) ≡ Some ids → distinct ids ≡ ids
    by true e = let none : [] ≡ ids = cc in subst (λ (l : List ℕ). distinct l ≡ l) none refl
    by false e = some (numbers_to 65535 (pieces 44 word)) e

place_within : (names : List (List ℕ)) (word : List ℕ) (i : ℕ) → place_of names word ≡ Some i → i < length names
place_within names word i is = let at = position_or_len (λ (name : List ℕ). bytes_eq name word) names in within at (ltb at (length names)) refl is
  where
    within : (at : ℕ) (b : Bool) → ltb at (length names) ≡ b → cond b (Some at) None ≡ Some i → i < length names
    within at true less e = let same : at ≡ i = cc in omega (arith, same, ltb-true at (length names) less)
    within at false past e = absurd cc

-- ---- lines

-- what a replay asks of a line
abbrev IsDoable : ℕ → Line → Type 0
IsDoable count said = LineEnters count said × LineNamesOnce said

event_doable : (names words : List (List ℕ)) (e : Event) → IsEvent names words e → IsEntered (length names) e × NamesOnce e
event_doable names words (event.Inject router sd bsl ids ttl entropy payload) is = let a = is.are in (place_within names a.name router a.named, listed_once a.list ids a.listed)
event_doable names words other is = (tt, refl)

said_doable : (names words : List (List ℕ)) (said : Line) → IsSaid names words said → IsDoable (length names) said
said_doable names words line.Empty is = (tt, tt)
said_doable names words (line.One e) is = event_doable names words e is
said_doable names words (line.Settle rounds) is = (tt, tt)

pub line_doable : (names : List (List ℕ)) (text : List ℕ) (said : Line) → schedule_line text names ≡ Ok said → IsDoable (length names) said
line_doable names text said reads = let is : IsScheduleLine names text said = found (Ok said) text names reads in elim is.says [
  | inl comment ↦ subst (IsDoable (length names)) (sym comment.1) (tt, tt)
  | inr words ↦ said_doable names (words_of text) said words.1
]
