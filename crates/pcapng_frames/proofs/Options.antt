-- The resolution that options give: option by option.
use Rattle.std.proofs.Common.{◌≡◌, ℕ, zero, suc, ◌+◌, ◌<◌, ◌≤◌, ◌≢◌, ◌==◌, ◌||◌, ◌&&◌, ◌⊎◌, ltb, List, [], ◌∷◌, length, drop, refl, ap, sym, ◌∙◌, arith, inl, inr}
use Rattle.std.specs.Prelude.{slice_index}
use Rattle.std.proofs.lemmas.Bool.{cases_lt, cases_Bool, lt-ltb, le-ltb, eq-eqb, ne_eqb}
use Rattle.std.proofs.lemmas.List.{length-drop}
use Rattle.pcapng_frames.specs.declared.order.Order.{Order}
use Rattle.pcapng_frames.specs.Blocks.{number}
use Rattle.pcapng_frames.specs.Times.{padded, option_on, resolution_by, resolution_of}

on_same : (f g : List ℕ → ℕ) (code size : ℕ) (options : List ℕ) → f (drop (4 + padded size) options) ≡ g (drop (4 + padded size) options) → option_on f code size options ≡ option_on g code size options
on_same f g code size options same = elim (cases_Bool ((code == 0) || ltb (length options) (4 + padded size))) [
  | inl ends ↦ rw ends refl
  | inr not_so ↦ elim (cases_Bool ((code == 9) && (size == 1))) [
    | inl is ↦ rw (not_so, is) refl
    | inr other ↦ rw (not_so, other) same
  ]
]

-- enough steps are enough
by_steps : (order : Order) (n m : ℕ) (options : List ℕ) → length options ≤ n → length options ≤ m → resolution_by order n options ≡ resolution_by order m options
unfolding resolution_by
by_steps order zero zero options n-enough m-enough = refl
by_steps order zero (suc m) options n-enough m-enough = rw (lt-ltb (length options) 4 (omega (arith, n-enough))) refl
by_steps order (suc n) zero options n-enough m-enough = rw (lt-ltb (length options) 4 (omega (arith, m-enough))) refl
by_steps order (suc n) (suc m) options n-enough m-enough = elim (cases_lt (length options) 4) [
  | inl lt ↦ rw (lt-ltb (length options) 4 lt) refl
  | inr le ↦
      let size = number order 2 (drop 2 options) in
      rw (le-ltb (length options) 4 le)
      (on_same (resolution_by order n) (resolution_by order m) (number order 2 options) size options
      (by_steps order n m (drop (4 + padded size) options) (omega (arith, length-drop (4 + padded size) options)) (omega (arith, length-drop (4 + padded size) options))))
]

pub no_option : (order : Order) (options : List ℕ) → length options < 4 → resolution_of order options ≡ 6
unfolding resolution_of resolution_by
no_option order [] lt = refl
no_option order (x ∷ xs) lt = rw (lt-ltb (length (x ∷ xs)) 4 lt) refl

option_first : (order : Order) (options : List ℕ) → 4 ≤ length options → resolution_of order options ≡ option_on (resolution_of order) (number order 2 options) (number order 2 (drop 2 options)) options
unfolding resolution_of resolution_by
option_first order [] le = absurd (omega arith)
option_first order (x ∷ xs) le =
    let size = number order 2 (drop 2 (x ∷ xs)) in
    let rest = drop (4 + padded size) (x ∷ xs) in
    rw (le-ltb (length (x ∷ xs)) 4 le)
    (on_same (resolution_by order (length xs)) (resolution_of order) (number order 2 (x ∷ xs)) size (x ∷ xs)
    (by_steps order (length xs) (length rest) rest (omega (arith, length-drop (4 + padded size) (x ∷ xs))) (omega arith)))

module _ (order : Order) (options : List ℕ) (code size : ℕ) (there : 4 ≤ length options) (code-is : code ≡ number order 2 options) (size-is : size ≡ number order 2 (drop 2 options)) where
  first_is : resolution_of order options ≡ option_on (resolution_of order) code size options
  first_is = option_first order options there ∙ ap (λ (k : ℕ). option_on (resolution_of order) k (number order 2 (drop 2 options)) options) (sym code-is)
      ∙ ap (λ (k : ℕ). option_on (resolution_of order) code k options) (sym size-is)

  pub options_end : (code ≡ 0) ⊎ (length options < 4 + padded size) → resolution_of order options ≡ 6
  options_end (inl none) = first_is ∙ rw (eq-eqb code 0 none) refl
  options_end (inr short) = first_is ∙ elim (cases_Bool (code == 0)) [
    | inl is ↦ rw is refl
    | inr not_so ↦ rw (not_so, lt-ltb (length options) (4 + padded size) short) refl
  ]

  pub option_found : code ≢ 0 → 4 + padded size ≤ length options → code ≡ 9 → size ≡ 1 → resolution_of order options ≡ slice_index options 4
  option_found some fits is one = first_is ∙ rw (ne_eqb code 0 some, le-ltb (length options) (4 + padded size) fits, eq-eqb code 9 is, eq-eqb size 1 one) refl

  pub option_skipped : code ≢ 0 → 4 + padded size ≤ length options → (code ≢ 9) ⊎ (size ≢ 1) → resolution_of order options ≡ resolution_of order (drop (4 + padded size) options)
  option_skipped some fits (inl other) = first_is ∙ rw (ne_eqb code 0 some, le-ltb (length options) (4 + padded size) fits, ne_eqb code 9 other) refl
  option_skipped some fits (inr other) = first_is ∙ elim (cases_Bool (code == 9)) [
    | inl is ↦ rw (ne_eqb code 0 some, le-ltb (length options) (4 + padded size) fits, is, ne_eqb size 1 other) refl
    | inr not_so ↦ rw (ne_eqb code 0 some, le-ltb (length options) (4 + padded size) fits, not_so) refl
  ]
