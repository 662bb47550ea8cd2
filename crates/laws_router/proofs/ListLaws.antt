-- Lists of which two neighboring parts are exchanged, one element is added, or one is replaced.
use Rattle.std.proofs.Common.{◌≡◌, ℕ, zero, suc, ◌+◌, ◌<◌, Bool, false, List, [], ◌∷◌, ◌++◌, length, slice_index_or, Some, None, is_some, ap, sym, ◌∙◌, subst, arith, append_assoc}
use Rattle.std.specs.List.{AllByRecursion, Contains, flat_map, sum_by}
use Rattle.std.proofs.lemmas.Bool.{true≢false}
use Rattle.std.proofs.lemmas.List.{length-append}
use Rattle.std.proofs.lemmas.List.Concat.{flat_map-append}
use Rattle.std.proofs.lemmas.List.Elements.{All-contains_itself, recursion_from_All}
use Rattle.std.proofs.lemmas.List.Sums.{sum_by-append, sum_by-cons}
use Rattle.wire_base.specs.model.Lists.{AreApart}
use Rattle.wire_base.proofs.SoundLemmas.{all_left, all_right, all_both}

pub no_None : {X : Type 0} (x : X) → None ≡ Some x → ⊥
no_None x e = true≢false (sym (ap is_some e))

-- ---- elements

pub each_contained : {X : Type 0} (P : X → Type 0) (xs : List X) (x : X) (k : ℕ) → AllByRecursion P xs → k < length xs → slice_index_or xs k x ≡ x → P x
each_contained P [] x k all lt is = absurd (omega (arith, lt))
each_contained P (y ∷ ys) x zero all lt is = subst P is all.0
each_contained P (y ∷ ys) x (suc k) all lt is = each_contained P ys x k all.1 (omega (arith, lt)) is

pub each_itself : {X : Type 0} (xs : List X) → AllByRecursion (Contains xs) xs
each_itself xs = recursion_from_All (Contains xs) xs (All-contains_itself xs)

pub all_with : {X : Type 0} (P : X → Type 0) (xs : List X) (x : X) (ys : List X) → P x → AllByRecursion P (xs ++ ys) → AllByRecursion P (xs ++ x ∷ ys)
all_with P [] x ys h all = (h, all)
all_with P (z ∷ xs) x ys h all = (all.0, all_with P xs x ys h all.1)

pub all_without : {X : Type 0} (P : X → Type 0) (xs : List X) (x : X) (ys : List X) → AllByRecursion P (xs ++ x ∷ ys) → AllByRecursion P (xs ++ ys)
all_without P [] x ys all = all.1
all_without P (z ∷ xs) x ys all = (all.0, all_without P xs x ys all.1)

pub all_at : {X : Type 0} (P : X → Type 0) (xs : List X) (x : X) (ys : List X) → AllByRecursion P (xs ++ x ∷ ys) → P x
all_at P [] x ys all = all.0
all_at P (z ∷ xs) x ys all = all_at P xs x ys all.1

pub all_replaced : {X : Type 0} (P : X → Type 0) (xs : List X) (x y : X) (ys : List X) → P y → AllByRecursion P (xs ++ x ∷ ys) → AllByRecursion P (xs ++ y ∷ ys)
all_replaced P [] x y ys h all = (h, all.1)
all_replaced P (z ∷ xs) x y ys h all = (all.0, all_replaced P xs x y ys h all.1)

pub sum_replaced : {X : Type 0} (f : X → ℕ) (xs : List X) (x y : X) (ys : List X) → f y ≡ f x → sum_by f (xs ++ y ∷ ys) ≡ sum_by f (xs ++ x ∷ ys)
sum_replaced f xs x y ys e =
    sum_by-append f xs (y ∷ ys) ∙ ap (λ n. sum_by f xs + n) (sum_by-cons f y ys ∙ ap (λ n. n + sum_by f ys) e ∙ sym (sum_by-cons f x ys)) ∙ sym (sum_by-append f xs (x ∷ ys))

pub length_replaced : {X : Type 0} (xs : List X) (x y : X) (ys : List X) → length (xs ++ y ∷ ys) ≡ length (xs ++ x ∷ ys)
length_replaced xs x y ys = length-append xs (y ∷ ys) ∙ sym (length-append xs (x ∷ ys))

-- ---- apart

-- an element that differs from all others may be added anywhere
pub apart_with : {X : Type 0} (same : X → X → Bool) → ((x y : X) → same x y ≡ false → same y x ≡ false) → (xs : List X) (x : X) (ys : List X) → AllByRecursion (λ y. same x y ≡ false) (xs ++ ys) → AreApart same (xs ++ ys) → AreApart same (xs ++ x ∷ ys)
apart_with same turned [] x ys all a = (all, a)
apart_with same turned (z ∷ xs) x ys all a = (all_with (λ y. same z y ≡ false) xs x ys (turned x z all.0) a.0, apart_with same turned xs x ys all.1 a.1)

-- and one that is as different may replace an element
pub apart_replaced : {X : Type 0} (same : X → X → Bool) (xs : List X) (x y : X) (ys : List X) → ((z : X) → same x z ≡ false → same y z ≡ false) → ((z : X) → same z x ≡ false → same z y ≡ false) → AreApart same (xs ++ x ∷ ys) → AreApart same (xs ++ y ∷ ys)
apart_replaced same [] x y ys out back a = (others ys a.0, a.1)
  where
    others : (zs : List _) → AllByRecursion (λ z. same x z ≡ false) zs → AllByRecursion (λ z. same y z ≡ false) zs
    others [] all = tt
    others (z ∷ zs) all = (out z all.0, others zs all.1)
apart_replaced same (z ∷ xs) x y ys out back a =
    (all_replaced (λ w. same z w ≡ false) xs x y ys (back z (all_at (λ w. same z w ≡ false) xs x ys a.0)) a.0, apart_replaced same xs x y ys out back a.1)

-- ---- exchanged parts

pub record IsSwapped {X : Type 0} (xs ys : List X) : Type 0 where
  pub before : List X
  pub first : List X
  pub second : List X
  pub after : List X
  pub was : xs ≡ before ++ (first ++ (second ++ after))
  pub is : ys ≡ before ++ (second ++ (first ++ after))

all_exchanged : {X : Type 0} (P : X → Type 0) (before first second after : List X) → AllByRecursion P (before ++ (first ++ (second ++ after))) → AllByRecursion P (before ++ (second ++ (first ++ after)))
all_exchanged P before first second after all =
    let rest = all_right P before (first ++ (second ++ after)) all in
    let last = all_right P first (second ++ after) rest in
    all_both P before (second ++ (first ++ after)) (all_left P before (first ++ (second ++ after)) all)
    (all_both P second (first ++ after) (all_left P second after last)
    (all_both P first after (all_left P first (second ++ after) rest) (all_right P second after last)))

apart_turned : {X : Type 0} (same : X → X → Bool) → ((x y : X) → same x y ≡ false → same y x ≡ false) → (first second after : List X) → AreApart same (first ++ (second ++ after)) → AreApart same (second ++ (first ++ after))
apart_turned same turned [] second after a = a
apart_turned same turned (x ∷ first) second after a =
    apart_with same turned second x (first ++ after) (all_exchanged (λ y. same x y ≡ false) [] first second after a.0) (apart_turned same turned first second after a.1)

apart_exchanged : {X : Type 0} (same : X → X → Bool) → ((x y : X) → same x y ≡ false → same y x ≡ false) → (before first second after : List X) → AreApart same (before ++ (first ++ (second ++ after))) → AreApart same (before ++ (second ++ (first ++ after)))
apart_exchanged same turned [] first second after a = apart_turned same turned first second after a
apart_exchanged same turned (x ∷ before) first second after a =
    (all_exchanged (λ y. same x y ≡ false) before first second after a.0, apart_exchanged same turned before first second after a.1)

sum_exchanged : {X : Type 0} (f : X → ℕ) (before first second after : List X) → sum_by f (before ++ (second ++ (first ++ after))) ≡ sum_by f (before ++ (first ++ (second ++ after)))
sum_exchanged f before first second after =
    let a = sum_by-append f before (second ++ (first ++ after)) in
    let b = sum_by-append f second (first ++ after) in
    let c = sum_by-append f first after in
    let p = sum_by-append f before (first ++ (second ++ after)) in
    let q = sum_by-append f first (second ++ after) in
    let r = sum_by-append f second after in
    omega (arith, a, b, c, p, q, r)

length_exchanged : {X : Type 0} (before first second after : List X) → length (before ++ (second ++ (first ++ after))) ≡ length (before ++ (first ++ (second ++ after)))
length_exchanged before first second after =
    let a = length-append before (second ++ (first ++ after)) in
    let b = length-append second (first ++ after) in
    let c = length-append first after in
    let p = length-append before (first ++ (second ++ after)) in
    let q = length-append first (second ++ after) in
    let r = length-append second after in
    omega (arith, a, b, c, p, q, r)

pub turned_swap : {X : Type 0} (xs ys : List X) → IsSwapped xs ys → IsSwapped ys xs
turned_swap xs ys s = record { before = s.before; first = s.second; second = s.first; after = s.after; was = s.is; is = s.was }

pub all_swapped : {X : Type 0} (P : X → Type 0) (xs ys : List X) → IsSwapped xs ys → AllByRecursion P xs → AllByRecursion P ys
all_swapped P xs ys s all = subst (AllByRecursion P) (sym s.is) (all_exchanged P s.before s.first s.second s.after (subst (AllByRecursion P) s.was all))

pub apart_swapped : {X : Type 0} (same : X → X → Bool) → ((x y : X) → same x y ≡ false → same y x ≡ false) → (xs ys : List X) → IsSwapped xs ys → AreApart same xs → AreApart same ys
apart_swapped same turned xs ys s a = subst (AreApart same) (sym s.is) (apart_exchanged same turned s.before s.first s.second s.after (subst (AreApart same) s.was a))

pub sum_swapped : {X : Type 0} (f : X → ℕ) (xs ys : List X) → IsSwapped xs ys → sum_by f ys ≡ sum_by f xs
sum_swapped f xs ys s = ap (sum_by f) s.is ∙ sum_exchanged f s.before s.first s.second s.after ∙ ap (sum_by f) (sym s.was)

pub length_swapped : {X : Type 0} (xs ys : List X) → IsSwapped xs ys → length ys ≡ length xs
length_swapped xs ys s = ap length s.is ∙ length_exchanged s.before s.first s.second s.after ∙ ap length (sym s.was)

-- the same elements stand in both
pub contains_swapped : {X : Type 0} (xs ys : List X) → IsSwapped xs ys → AllByRecursion (Contains ys) xs
contains_swapped xs ys s = all_swapped (Contains ys) ys xs (turned_swap xs ys s) (each_itself ys)

flat_parts : {X Y : Type 0} (f : X → List Y) (a b c d : List X) (more : List Y) → flat_map f (a ++ (b ++ (c ++ d))) ++ more ≡ flat_map f a ++ (flat_map f b ++ (flat_map f c ++ (flat_map f d ++ more)))
flat_parts f a b c d more = simp (flat_map-append, append_assoc)

-- also where each element stands for a list
pub flat_swapped : {X Y : Type 0} (f : X → List Y) (xs ys : List X) (more : List Y) → IsSwapped xs ys → IsSwapped (flat_map f xs ++ more) (flat_map f ys ++ more)
flat_swapped f xs ys more s =
    record {
      before = flat_map f s.before;
      first = flat_map f s.first;
      second = flat_map f s.second;
      after = flat_map f s.after ++ more;
      was = ap (λ l. flat_map f l ++ more) s.was ∙ flat_parts f s.before s.first s.second s.after more;
      is = ap (λ l. flat_map f l ++ more) s.is ∙ flat_parts f s.before s.second s.first s.after more;
    }
