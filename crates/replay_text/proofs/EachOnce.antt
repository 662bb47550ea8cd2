-- A list of numbers, each once, piece by piece.
use Rattle.std.proofs.Common.{◌≡◌, ℕ, true, not, eqb, ◌||◌, List, [], ◌∷◌, ◌++◌, Option, Some, None, refl, sym, ap, ◌∙◌, append_assoc, inl, inr}
use Rattle.std.specs.Prelude.{option_map, filter}
use Rattle.std.proofs.lemmas.Bool.{cases_Bool, cases_eq, eq-eqb, ne_eqb}
use Rattle.wire_base.specs.model.Hop.{distinct, has}
use Rattle.replay_text.specs.Pieces.{pieces}
use Rattle.replay_text.specs.Arguments.{number_to, numbers_to, with_new}

-- those of the numbers that aren't among the ids
abbrev pub others : List ℕ → List ℕ → List ℕ
others ids ns = filter (λ n. not (has ids n)) ns

-- the ids and then what the numbers add
abbrev pub listed_after : List ℕ → List ℕ → List ℕ
listed_after ids ns = ids ++ others ids (distinct ns)

-- of the others, those that aren't this one either
abbrev pub but : ℕ → List ℕ → List ℕ
but n ns = filter (λ y. not (eqb y n)) ns

pub known : (ids : List ℕ) (n : ℕ) (ns : List ℕ) → has ids n ≡ true → others ids (but n ns) ≡ others ids ns
known ids n [] is = refl
known ids n (y ∷ ys) is = elim (cases_eq y n) [
  | inl same ↦ rw (eq-eqb y n same, ap (has ids) same ∙ is) (known ids n ys is)
  | inr other ↦ rw (ne_eqb y n other) (elim (cases_Bool (has ids y)) [
    | inl there ↦ rw there (known ids n ys is)
    | inr new ↦ rw new (ap (λ (l : List ℕ). y ∷ l) (known ids n ys is))
  ])
]

has_more : (ids : List ℕ) (n y : ℕ) → has (ids ++ n ∷ []) y ≡ (has ids y || eqb n y)
has_more [] n y = elim (cases_Bool (eqb n y)) [
  | inl same ↦ rw same refl
  | inr other ↦ rw other refl
]
has_more (x ∷ xs) n y = elim (cases_Bool (eqb x y)) [
  | inl same ↦ rw same refl
  | inr other ↦ rw other (has_more xs n y)
]

pub flip : (a b : ℕ) → eqb a b ≡ eqb b a
flip a b = elim (cases_eq a b) [
  | inl same ↦ eq-eqb a b same ∙ sym (eq-eqb b a (sym same))
  | inr other ↦ ne_eqb a b other ∙ sym (ne_eqb b a (λ e. other (sym e)))
]

pub new_one : (ids : List ℕ) (n : ℕ) (ns : List ℕ) → others ids (but n ns) ≡ others (ids ++ n ∷ []) ns
new_one ids n [] = refl
new_one ids n (y ∷ ys) = elim (cases_Bool (eqb y n)) [
  | inl same ↦ elim (cases_Bool (has ids y)) [
    | inl there ↦ rw (same, has_more ids n y, there) (new_one ids n ys)
    | inr new ↦ rw (same, has_more ids n y, new, flip n y ∙ same) (new_one ids n ys)
  ]
  | inr other ↦ elim (cases_Bool (has ids y)) [
    | inl there ↦ rw (other, has_more ids n y, there) (new_one ids n ys)
    | inr new ↦ rw (other, has_more ids n y, new, flip n y ∙ other) (ap (λ (l : List ℕ). y ∷ l) (new_one ids n ys))
  ]
]

-- one number more
listed_more : (ids : List ℕ) (n : ℕ) (ns : List ℕ) → listed_after ids (n ∷ ns) ≡ listed_after (with_new ids n) ns
listed_more ids n ns = elim (cases_Bool (has ids n)) [
  | inl there ↦ rw there (ap (λ (l : List ℕ). ids ++ l) (known ids n (distinct ns) there))
  | inr new ↦ rw new (ap (λ (l : List ℕ). ids ++ n ∷ l) (new_one ids n (distinct ns)) ∙ sym (append_assoc ids (n ∷ []) (others (ids ++ n ∷ []) (distinct ns))))
]

later : (ids : List ℕ) (n : ℕ) (o : Option (List ℕ)) → option_map (listed_after ids) (option_map (λ ns. n ∷ ns) o) ≡ option_map (listed_after (with_new ids n)) o
later ids n None = refl
later ids n (Some ns) = ap (λ (l : List ℕ). Some l) (listed_more ids n ns)

pub listed_step : (bound n : ℕ) (ids new text piece : List ℕ) (more : List (List ℕ)) (total : Option (List ℕ)) → new ≡ with_new ids n → pieces 44 text ≡ piece ∷ more → number_to bound piece ≡ Some n → option_map (listed_after ids) (numbers_to bound (pieces 44 text)) ≡ total → option_map (listed_after new) (numbers_to bound more) ≡ total
unfolding numbers_to
listed_step bound n ids new text piece more total changed is good so_far =
    let one : option_map (listed_after ids) (numbers_to bound (piece ∷ more)) ≡ option_map (listed_after (with_new ids n)) (numbers_to bound more) = rw good (later ids n (numbers_to bound more)) in
    ap (λ (l : List ℕ). option_map (listed_after l) (numbers_to bound more)) changed ∙ sym (ap (λ (ps : List (List ℕ)). option_map (listed_after ids) (numbers_to bound ps)) is ∙ one) ∙ so_far

pub none_after : (ns : List ℕ) → others [] ns ≡ ns
none_after [] = refl
none_after (y ∷ ys) = ap (λ (l : List ℕ). y ∷ l) (none_after ys)

pub listed_first : (o : Option (List ℕ)) → option_map (listed_after []) o ≡ option_map distinct o
listed_first None = refl
listed_first (Some ns) = ap (λ (l : List ℕ). Some l) (none_after (distinct ns))
