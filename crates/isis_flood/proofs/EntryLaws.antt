-- A loop over the entries of an LSDB, at the entry with index i.
use Rattle.std.proofs.Common.{◌≡◌, ℕ, suc, zero, ◌+◌, ◌≤◌, ◌<◌, Bool, true, false, List, [], ◌∷◌, ◌++◌, length, get_or, slice_get, take, map, filter, fold, cond, Some, Result, Err, IsOk, if◌then◌else◌, sym, ap, subst, ◌∙◌, arith, append-nil}
use mathlib.Core.Bool.{◌||◌, false≢true}
use Rattle.std.specs.List.{list_any}
use Rattle.std.proofs.lemmas.Option.{slice_get_within, get_or_from_slice_get}
use Rattle.std.proofs.lemmas.List.{map-append}
use Rattle.std.proofs.lemmas.List.Sums.{fold_more}
use Rattle.std.proofs.lemmas.List.Folds.{list_any_more, list_any_at}
use Rattle.std.proofs.lemmas.List.Filters.{length-filter_more}
use Rattle.std.proofs.lemmas.List.Elements.{filter_more}

-- those that pass among the first are some of all
some_pass : {X : Type 0} (p : X → Bool) (xs : List X) (n : ℕ) → length (filter p (take n xs)) ≤ length (filter p xs)
some_pass p xs zero = omega arith
some_pass p [] (suc n) = omega arith
some_pass p (x ∷ xs) (suc n) = by (p x) (some_pass p xs n)
  where
    by : (b : Bool) → length (filter p (take n xs)) ≤ length (filter p xs) → length (cond b (x ∷ filter p (take n xs)) (filter p (take n xs))) ≤ length (cond b (x ∷ filter p xs) (filter p xs))
    by true more = omega (arith, more)
    by false more = more

module _ {X : Type 0} (xs : List X) (i : ℕ) (x : X) (is : slice_get xs i ≡ Some x) where
  at_i : get_or xs i x ≡ x
  at_i = get_or_from_slice_get xs i x x is

  folded : {Y : Type 0} (f : Y → X → Y) (a before after : Y) → before ≡ fold f a (take i xs) → after ≡ f before x → after ≡ fold f a (take (i + 1) xs)
  folded {Y} f a before after so_far now =
      now ∙ ap (λ (b : Y). f b x) so_far ∙ ap (f (fold f a (take i xs))) (sym at_i) ∙ sym (fold_more f a xs i x (slice_get_within xs i x is))

  -- it is processed after those before it, if it passes
  pub folded_in : {Y : Type 0} (p : X → Bool) (f : Y → X → Y) (a before after : Y) → p x ≡ true → before ≡ fold (λ y e. if p e then f y e else y) a (take i xs) → after ≡ f before x → after ≡ fold (λ y e. if p e then f y e else y) a (take (i + 1) xs)
  folded_in {Y} p f a before after passes so_far now =
      folded (λ y e. if p e then f y e else y) a before after so_far (now ∙ sym (ap (λ (b : Bool). if b then f before x else before) passes))

  pub folded_out : {Y : Type 0} (p : X → Bool) (f : Y → X → Y) (a before after : Y) → p x ≡ false → before ≡ fold (λ y e. if p e then f y e else y) a (take i xs) → after ≡ before → after ≡ fold (λ y e. if p e then f y e else y) a (take (i + 1) xs)
  folded_out {Y} p f a before after fails so_far now =
      folded (λ y e. if p e then f y e else y) a before after so_far (now ∙ sym (ap (λ (b : Bool). if b then f before x else before) fails))

  picked : (p : X → Bool) (b : Bool) → p x ≡ b → filter p (take (i + 1) xs) ≡ filter p (take i xs) ++ cond b (x ∷ []) []
  picked p b h =
      filter_more p xs i x (slice_get_within xs i x is)
      ∙ ap (λ (y : X). filter p (take i xs) ++ cond (p y) (y ∷ []) []) at_i
      ∙ ap (λ (c : Bool). filter p (take i xs) ++ cond c (x ∷ []) []) h

  counts : (p : X → Bool) (b : Bool) → p x ≡ b → length (filter p (take (i + 1) xs)) ≡ length (filter p (take i xs)) + cond b 1 0
  counts p b h =
      length-filter_more p xs i x (slice_get_within xs i x is)
      ∙ ap (λ (y : X). length (filter p (take i xs)) + cond (p y) 1 0) at_i
      ∙ ap (λ (c : Bool). length (filter p (take i xs)) + cond c 1 0) h

  -- it passes, or it doesn't
  pub one_more : (p : X → Bool) → p x ≡ true → length (filter p (take (i + 1) xs)) ≡ length (filter p (take i xs)) + 1
  one_more p passes = counts p true passes

  pub none_more : (p : X → Bool) → p x ≡ false → length (filter p (take (i + 1) xs)) ≡ length (filter p (take i xs))
  none_more p fails = let e = counts p false fails in omega (arith, e)

  -- where there was room for all that pass, there is room for it
  pub has_room : (p : X → Bool) (before spare : ℕ) → p x ≡ true → length (filter p xs) ≤ before → before ≤ spare + length (filter p (take i xs)) → 0 < spare
  has_room p before spare passes all so_far = let few = some_pass p xs (i + 1) in let e = one_more p passes in omega (arith, few, e, all, so_far)

  pub listed : {Y : Type 0} (f : X → Y) (p : X → Bool) (before after : List Y) → p x ≡ true → before ≡ map f (filter p (take i xs)) → after ≡ before ++ f x ∷ [] → after ≡ map f (filter p (take (i + 1) xs))
  listed {Y} f p before after passes so_far now =
      now ∙ ap (λ (l : List Y). l ++ f x ∷ []) so_far ∙ sym (ap (map f) (picked p true passes) ∙ map-append f (filter p (take i xs)) (x ∷ []))

  pub unlisted : {Y : Type 0} (f : X → Y) (p : X → Bool) (before after : List Y) → p x ≡ false → before ≡ map f (filter p (take i xs)) → after ≡ before → after ≡ map f (filter p (take (i + 1) xs))
  unlisted {Y} f p before after fails so_far now =
      now ∙ so_far ∙ sym (ap (map f) (picked p false fails ∙ append-nil (filter p (take i xs))))

  pub any_at : (p : X → Bool) → p x ≡ true → list_any p xs ≡ true
  any_at p passes = list_any_at p xs i x (slice_get_within xs i x is) (ap p at_i ∙ passes)

  pub none_yet : (p : X → Bool) → list_any p (take i xs) ≡ false → p x ≡ false → list_any p (take (i + 1) xs) ≡ false
  none_yet p before fails =
      list_any_more p xs i x (slice_get_within xs i x is) ∙ ap (λ (b : Bool). b || p (get_or xs i x)) before ∙ ap p at_i ∙ fails

-- what always succeeds returns no error
pub no_error : {T E : Type 0} (r : Result T E) (e : E) → IsOk r → r ≡ Err e → ⊥
no_error r e ok is = false≢true (subst IsOk is ok)
