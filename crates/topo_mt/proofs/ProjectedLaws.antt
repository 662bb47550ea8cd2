-- Entries that are put in order are appended, and there are no more of them than there were.
use mathlib.Core.Bool.{false≢true}
use Rattle.std.proofs.Common.{◌≡◌, ℕ, zero, suc, ◌+◌, ◌<◌, ◌≤◌, Bool, true, false, List, [], ◌∷◌, ◌++◌, length, get_or, take, map, filter, refl, sym, ap, subst, ◌∙◌, arith, append-nil}
use Rattle.std.specs.declared.cmp.Ordering.{Ordering}
use Rattle.std.specs.declared.cmp.Ordering.TheVariants.{Less, Equal, Greater}
use Rattle.std.specs.Ordering.{is_gt}
use Rattle.std.specs.List.{AllByRecursion}
use Rattle.std.proofs.Math.Seq.{take-suc}
use Rattle.std.proofs.lemmas.Bool.{lt-leb}
use Rattle.std.proofs.lemmas.List.{map-append}
use Rattle.std.proofs.lemmas.List.Elements.{filter-append}
use Rattle.wire_base.specs.declared.addresses.LspId.{LspId}
use Rattle.wire_base.specs.declared.entry.Entry.{Entry}
use Rattle.wire_base.specs.declared.limits.TheConstants.{MOST_ENTRIES}
use Rattle.wire_base.specs.model.Control.{AreAscending, ids_of, is_below, is_full, put_entry}
use Rattle.wire_base.proofs.OrderLaws.{above_from_below}

gt_is : (o : Ordering) → is_gt o ≡ true → o ≡ Greater
gt_is Less h = absurd (false≢true h)
gt_is Equal h = absurd (false≢true h)
gt_is Greater h = refl

-- an entry above all others is put behind them
put_last : (e : Entry) (es : List Entry) → AllByRecursion (λ y. is_below y e.id ≡ true) (ids_of es) → put_entry e es ≡ es ++ e ∷ []
put_last e [] all = refl
put_last e (x ∷ xs) all = rw (gt_is _ (above_from_below e.id x.id all.0)) (ap (λ (l : List Entry). x ∷ l) (put_last e xs all.1))

all_at : (a : LspId) (es : List Entry) (i : ℕ) (e : Entry) → AllByRecursion (λ y. is_below a y ≡ true) (ids_of es) → i < length es → e ≡ get_or es i e → is_below a e.id ≡ true
all_at a [] i e all lt at = absurd (omega (arith, lt))
all_at a (x ∷ xs) zero e all lt at = subst (λ (y : Entry). is_below a y.id ≡ true) (sym at) all.0
all_at a (x ∷ xs) (suc i) e all lt at = all_at a xs i e all.1 (omega (arith, lt)) at

module _ (q : Entry → Bool) (f : Entry → Entry) (ids : (x : Entry) → (f x).id ≡ x.id) where
  below : (es : List Entry) (i : ℕ) (e : Entry) → AreAscending (ids_of es) → i < length es → e ≡ get_or es i e → AllByRecursion (λ y. is_below y e.id ≡ true) (ids_of (map f (filter q (take i es))))
  below [] i e asc lt at = absurd (omega (arith, lt))
  below (x ∷ xs) zero e asc lt at = tt
  below (x ∷ xs) (suc i) e asc lt at = by (q x) refl (below xs i e asc.1 (omega (arith, lt)) at)
    where
      by : (b : Bool) → q x ≡ b → AllByRecursion (λ y. is_below y e.id ≡ true) (ids_of (map f (filter q (take i xs)))) → AllByRecursion (λ y. is_below y e.id ≡ true) (ids_of (map f (filter q (take (suc i) (x ∷ xs)))))
      by true h more = rw h (subst (λ (a : LspId). is_below a e.id ≡ true) (sym (ids x)) (all_at x.id xs i e asc.0 (omega (arith, lt)) at), more)
      by false h more = rw h more

  few : (es : List Entry) (i : ℕ) → length (map f (filter q (take i es))) ≤ i
  few es zero = omega arith
  few [] (suc i) = omega arith
  few (x ∷ xs) (suc i) = by (q x) refl (few xs i)
    where
      by : (b : Bool) → q x ≡ b → length (map f (filter q (take i xs))) ≤ i → length (map f (filter q (take (suc i) (x ∷ xs)))) ≤ suc i
      by true h more = rw h (omega (arith, more))
      by false h more = rw h (omega (arith, more))

  -- what was made of the entries before one leaves room
  pub room : (es made : List Entry) (i : ℕ) → length es ≤ MOST_ENTRIES → i < length es → made ≡ map f (filter q (take i es)) → is_full made ≡ false
  room es made i most lt is =
      let short : length made ≤ i = subst (λ (l : List Entry). length l ≤ i) (sym is) (few es i) in
      lt-leb MOST_ENTRIES (length made) (omega (arith, short, most, lt))

  step : (es : List Entry) (i : ℕ) (e : Entry) → i < length es → e ≡ get_or es i e → map f (filter q (take (i + 1) es)) ≡ map f (filter q (take i es)) ++ map f (filter q (e ∷ []))
  step es i e lt at =
      let one : i + 1 ≡ suc i = omega arith in
      ap (λ (k : ℕ). map f (filter q (take k es))) one
      ∙ ap (λ (l : List Entry). map f (filter q l)) (take-suc es i e lt ∙ ap (λ (x : Entry). take i es ++ x ∷ []) (sym at))
      ∙ ap (map f) (filter-append q (take i es) (e ∷ []))
      ∙ map-append f (filter q (take i es)) (filter q (e ∷ []))

  -- the entry counts
  pub more : (es made new : List Entry) (i : ℕ) (e p : Entry) → AreAscending (ids_of es) → i < length es → e ≡ get_or es i e → q e ≡ true → p ≡ f e → made ≡ map f (filter q (take i es)) → new ≡ put_entry p made → new ≡ map f (filter q (take (i + 1) es))
  more es made new i e p asc lt at counts is before put =
      let one : map f (filter q (e ∷ [])) ≡ f e ∷ [] = rw counts refl in
      let all : AllByRecursion (λ y. is_below y (f e).id ≡ true) (ids_of (map f (filter q (take i es)))) = subst (λ (a : LspId). AllByRecursion (λ y. is_below y a ≡ true) (ids_of (map f (filter q (take i es))))) (sym (ids e)) (below es i e asc lt at) in
      put ∙ ap (λ (x : Entry). put_entry x made) is ∙ ap (put_entry (f e)) before ∙ put_last (f e) (map f (filter q (take i es))) all
      ∙ sym (step es i e lt at ∙ ap (λ (l : List Entry). map f (filter q (take i es)) ++ l) one)

  -- the entry does not count
  pub same : (es made : List Entry) (i : ℕ) (e : Entry) → i < length es → e ≡ get_or es i e → q e ≡ false → made ≡ map f (filter q (take i es)) → made ≡ map f (filter q (take (i + 1) es))
  same es made i e lt at none before =
      let nothing : map f (filter q (e ∷ [])) ≡ [] = rw none refl in
      before ∙ sym (step es i e lt at ∙ ap (λ (l : List Entry). map f (filter q (take i es)) ++ l) nothing ∙ append-nil (map f (filter q (take i es))))
