-- Whether any entry passes a test, at the entry with index i.
use Rattle.std.proofs.Common.{◌≡◌, ℕ, ◌+◌, Bool, true, false, List, get_or, slice_get, take, Some, ap, ◌∙◌}
use mathlib.Core.Bool.{◌||◌}
use Rattle.std.specs.List.{list_any}
use Rattle.std.proofs.lemmas.Option.{slice_get_within, get_or_from_slice_get}
use Rattle.std.proofs.lemmas.List.Folds.{list_any_more, list_any_at}

module _ {X : Type 0} (xs : List X) (i : ℕ) (x : X) (is : slice_get xs i ≡ Some x) where
  pub any_at : (p : X → Bool) → p x ≡ true → list_any p xs ≡ true
  any_at p passes = list_any_at p xs i x (slice_get_within xs i x is) (ap p (get_or_from_slice_get xs i x x is) ∙ passes)

  pub none_yet : (p : X → Bool) → list_any p (take i xs) ≡ false → p x ≡ false → list_any p (take (i + 1) xs) ≡ false
  none_yet p before fails =
      list_any_more p xs i x (slice_get_within xs i x is) ∙ ap (λ (b : Bool). b || p (get_or xs i x)) before ∙ ap p (get_or_from_slice_get xs i x x is) ∙ fails
