-- Elements of lists: those that a test keeps, those that stand at two places, and how many there can be.
use Rattle.std.proofs.Common.{◌≡◌, ℕ, zero, suc, ◌+◌, ◌≤◌, Bool, true, false, ◌⊎◌, inl, inr, cond, eqb, List, [], ◌∷◌, ◌++◌, length, map, Option, Some, None, refl, sym, ap, subst, ◌∙◌, arith}
use Rattle.std.proofs.lemmas.Bool.{eqb-true, eq-eqb, eqb-false}
use Rattle.std.proofs.lemmas.Option.{same_Some}
use Rattle.std.specs.List.{AllByRecursion, filter_map, flat_map, cons_option}
use Rattle.std.specs.Prelude.{filter, slice_get}
use Rattle.wire_base.specs.model.Lists.{AreApart}

-- x is one of the elements
abbrev pub IsIn : {X : Type 0} → X → List X → Type 0
IsIn x [] = ⊥
IsIn x (y ∷ ys) = (x ≡ y) ⊎ IsIn x ys

pub all_in : {X : Type 0} (P : X → Type 0) (xs : List X) (x : X) → AllByRecursion P xs → IsIn x xs → P x
all_in P [] x all i = absurd i
all_in P (y ∷ ys) x all (inl e) = subst P (sym e) all.0
all_in P (y ∷ ys) x all (inr i) = all_in P ys x all.1 i

pub all_from : {X : Type 0} (P : X → Type 0) (xs : List X) → ((x : X) → IsIn x xs → P x) → AllByRecursion P xs
all_from P [] f = tt
all_from P (y ∷ ys) f = (f y (inl refl), all_from P ys (λ x i. f x (inr i)))

pub get_in : {X : Type 0} (xs : List X) (i : ℕ) (x : X) → slice_get xs i ≡ Some x → IsIn x xs
get_in [] i x e = absurd cc
get_in (y ∷ ys) zero x e = inl (sym (same_Some y x e))
get_in (y ∷ ys) (suc i) x e = inr (get_in ys i x e)

-- ---- those that a test keeps

pub in_filter : {X : Type 0} (p : X → Bool) (xs : List X) (x : X) → IsIn x (filter p xs) → IsIn x xs × (p x ≡ true)
in_filter p [] x i = absurd i
in_filter p (y ∷ ys) x i = by (p y) refl i (λ j. in_filter p ys x j)
  where
    by : (b : Bool) → p y ≡ b → IsIn x (cond b (y ∷ filter p ys) (filter p ys)) → (IsIn x (filter p ys) → IsIn x ys × (p x ≡ true)) → IsIn x (y ∷ ys) × (p x ≡ true)
    by true is (inl e) more = (inl e, ap p e ∙ is)
    by true is (inr j) more = let m = more j in (inr m.0, m.1)
    by false is j more = let m = more j in (inr m.0, m.1)

pub all_filter : {X : Type 0} (P : X → Type 0) (p : X → Bool) (xs : List X) → AllByRecursion P xs → AllByRecursion P (filter p xs)
all_filter P p [] all = tt
all_filter P p (x ∷ xs) all = by (p x) (all_filter P p xs all.1)
  where
    by : (b : Bool) → AllByRecursion P (filter p xs) → AllByRecursion P (cond b (x ∷ filter p xs) (filter p xs))
    by true more = (all.0, more)
    by false more = more

pub apart_filter : {X : Type 0} (same : X → X → Bool) (p : X → Bool) (xs : List X) → AreApart same xs → AreApart same (filter p xs)
apart_filter same p [] apart = tt
apart_filter same p (x ∷ xs) apart = by (p x) (apart_filter same p xs apart.1)
  where
    by : (b : Bool) → AreApart same (filter p xs) → AreApart same (cond b (x ∷ filter p xs) (filter p xs))
    by true more = (all_filter (λ y. same x y ≡ false) p xs apart.0, more)
    by false more = more

-- ---- images

pub all_map : {X Y : Type 0} (P : Y → Type 0) (f : X → Y) (xs : List X) → ((x : X) → IsIn x xs → P (f x)) → AllByRecursion P (map f xs)
all_map P f [] h = tt
all_map P f (x ∷ xs) h = (h x (inl refl), all_map P f xs (λ y i. h y (inr i)))

apart_images : {X Y : Type 0} (same : X → X → Bool) (other : Y → Y → Bool) (f : X → Y) (x : X) (xs : List X) → ((y : X) → IsIn y xs → same x y ≡ false → other (f x) (f y) ≡ false) → AllByRecursion (λ y. same x y ≡ false) xs → AllByRecursion (λ v. other (f x) v ≡ false) (map f xs)
apart_images same other f x [] h all = tt
apart_images same other f x (y ∷ ys) h all = (h y (inl refl) all.0, apart_images same other f x ys (λ z i. h z (inr i)) all.1)

pub apart_map : {X Y : Type 0} (same : X → X → Bool) (other : Y → Y → Bool) (f : X → Y) (xs : List X) → ((x y : X) → IsIn x xs → IsIn y xs → same x y ≡ false → other (f x) (f y) ≡ false) → AreApart same xs → AreApart other (map f xs)
apart_map same other f [] h apart = tt
apart_map same other f (x ∷ xs) h apart =
    (apart_images same other f x xs (λ y i. h x y (inl refl) (inr i)) apart.0, apart_map same other f xs (λ a b i j. h a b (inr i) (inr j)) apart.1)

-- two that differ are apart
pub apart_in : {X : Type 0} (same : X → X → Bool) → ((a b : X) → same a b ≡ same b a) → (xs : List X) (x y : X) → AreApart same xs → IsIn x xs → IsIn y xs → (x ≡ y → ⊥) → same x y ≡ false
apart_in same turned [] x y apart i j differ = absurd i
apart_in same turned (z ∷ zs) x y apart (inl e) (inl f) differ = absurd (differ (e ∙ sym f))
apart_in same turned (z ∷ zs) x y apart (inl e) (inr j) differ = ap (λ a. same a y) e ∙ all_in (λ v. same z v ≡ false) zs y apart.0 j
apart_in same turned (z ∷ zs) x y apart (inr i) (inl f) differ = turned x y ∙ (ap (λ a. same a x) f ∙ all_in (λ v. same z v ≡ false) zs x apart.0 i)
apart_in same turned (z ∷ zs) x y apart (inr i) (inr j) differ = apart_in same turned zs x y apart.1 i j differ

pub in_map : {X Y : Type 0} (f : X → Y) (xs : List X) (v : Y) → IsIn v (map f xs) → (x : X) × IsIn x xs × (f x ≡ v)
in_map f [] v i = absurd i
in_map f (x ∷ xs) v (inl e) = (x, inl refl, sym e)
in_map f (x ∷ xs) v (inr i) = let m = in_map f xs v i in (m.0, inr m.1, m.2)

-- ---- images that some have

pub in_filter_map : {X Y : Type 0} (f : X → Option Y) (xs : List X) (v : Y) → IsIn v (filter_map f xs) → (x : X) × IsIn x xs × (f x ≡ Some v)
in_filter_map f [] v i = absurd i
in_filter_map f (x ∷ xs) v i = by (f x) refl i (λ j. in_filter_map f xs v j)
  where
    by : (o : Option _) → f x ≡ o → IsIn v (cons_option o (filter_map f xs)) → (IsIn v (filter_map f xs) → (y : _) × IsIn y xs × (f y ≡ Some v)) → (y : _) × IsIn y (x ∷ xs) × (f y ≡ Some v)
    by None is j more = let m = more j in (m.0, inr m.1, m.2)
    by (Some w) is (inl e) more = (x, inl refl, is ∙ ap Some (sym e))
    by (Some w) is (inr j) more = let m = more j in (m.0, inr m.1, m.2)

pub filter_map_in : {X Y : Type 0} (f : X → Option Y) (xs : List X) (x : X) (v : Y) → IsIn x xs → f x ≡ Some v → IsIn v (filter_map f xs)
filter_map_in f [] x v i e = absurd i
filter_map_in f (y ∷ ys) x v (inl same) e = by (f y) (ap f (sym same) ∙ e)
  where
    by : (o : Option _) → o ≡ Some v → IsIn v (cons_option o (filter_map f ys))
    by None e = absurd cc
    by (Some w) e = inl (sym (same_Some w v e))
filter_map_in f (y ∷ ys) x v (inr i) e = by (f y) (filter_map_in f ys x v i e)
  where
    by : (o : Option _) → IsIn v (filter_map f ys) → IsIn v (cons_option o (filter_map f ys))
    by None j = j
    by (Some w) j = inr j

some_images : {X Y : Type 0} (P : Y → Type 0) (f : X → Option Y) (xs : List X) → ((y : X) (v : Y) → IsIn y xs → f y ≡ Some v → P v) → AllByRecursion P (filter_map f xs)
some_images P f xs h = all_from P (filter_map f xs) (λ v i. let m = in_filter_map f xs v i in h m.0 v m.1 m.2)

pub apart_filter_map : {X Y : Type 0} (same : X → X → Bool) (other : Y → Y → Bool) (f : X → Option Y) (xs : List X)
    → ((x y : X) (u v : Y) → IsIn x xs → IsIn y xs → same x y ≡ false → f x ≡ Some u → f y ≡ Some v → other u v ≡ false) → AreApart same xs → AreApart other (filter_map f xs)
apart_filter_map same other f [] h apart = tt
apart_filter_map same other f (x ∷ xs) h apart = by (f x) refl (apart_filter_map same other f xs (λ a b u v i j. h a b u v (inr i) (inr j)) apart.1)
  where
    by : (o : Option _) → f x ≡ o → AreApart other (filter_map f xs) → AreApart other (cons_option o (filter_map f xs))
    by None is more = more
    by (Some u) is more = (some_images (λ v. other u v ≡ false) f xs (λ y v i e. h x y u v (inl refl) (inr i) (all_in (λ z. same x z ≡ false) xs y apart.0 i) is e), more)

-- ---- lists of lists

pub apart_append : {X : Type 0} (same : X → X → Bool) (xs ys : List X) → AreApart same xs → AreApart same ys → ((x y : X) → IsIn x xs → IsIn y ys → same x y ≡ false) → AreApart same (xs ++ ys)
apart_append same [] ys a b h = b
apart_append same (x ∷ xs) ys a b h = (both xs ys a.0 (all_from (λ y. same x y ≡ false) ys (λ y i. h x y (inl refl) i)), apart_append same xs ys a.1 b (λ u v i j. h u v (inr i) j))
  where
    both : (us vs : List _) → AllByRecursion (λ y. same x y ≡ false) us → AllByRecursion (λ y. same x y ≡ false) vs → AllByRecursion (λ y. same x y ≡ false) (us ++ vs)
    both [] vs p q = q
    both (u ∷ us) vs p q = (p.0, both us vs p.1 q)

pub in_flat_map : {X A : Type 0} (f : X → List A) (xs : List X) (v : A) → IsIn v (flat_map f xs) → (x : X) × IsIn x xs × IsIn v (f x)
in_flat_map f [] v i = absurd i
in_flat_map f (x ∷ xs) v i = by (f x) i (λ j. (x, inl refl, j)) (λ j. let m = in_flat_map f xs v j in (m.0, inr m.1, m.2))
  where
    by : (us : List _) → IsIn v (us ++ flat_map f xs) → (IsIn v us → (y : _) × IsIn y (x ∷ xs) × IsIn v (f y)) → (IsIn v (flat_map f xs) → (y : _) × IsIn y (x ∷ xs) × IsIn v (f y)) → (y : _) × IsIn y (x ∷ xs) × IsIn v (f y)
    by [] i here later = later i
    by (u ∷ us) (inl e) here later = here (inl e)
    by (u ∷ us) (inr i) here later = by us i (λ j. here (inr j)) later

pub apart_flat_map : {X A : Type 0} (same : A → A → Bool) (f : X → List A) (differ : X → X → Bool) (xs : List X) → ((x : X) → IsIn x xs → AreApart same (f x))
    → ((x y : X) (u v : A) → IsIn x xs → IsIn y xs → differ x y ≡ false → IsIn u (f x) → IsIn v (f y) → same u v ≡ false) → AreApart differ xs → AreApart same (flat_map f xs)
apart_flat_map same f differ [] each h apart = tt
apart_flat_map same f differ (x ∷ xs) each h apart =
    apart_append same (f x) (flat_map f xs) (each x (inl refl)) (apart_flat_map same f differ xs (λ y i. each y (inr i)) (λ a b u v i j. h a b u v (inr i) (inr j)) apart.1)
    (λ u v i j. let m = in_flat_map f xs v j in h x m.0 u v (inl refl) (inr m.1) (all_in (λ z. differ x z ≡ false) xs m.0 apart.0 m.1) i m.2)

-- ---- how many there can be

without : ℕ → List ℕ → List ℕ
without k [] = []
without k (x ∷ xs) = cond (eqb x k) xs (x ∷ without k xs)

length_without : (k : ℕ) (ks : List ℕ) → IsIn k ks → length ks ≡ length (without k ks) + 1
unfolding without
length_without k [] i = absurd i
length_without k (x ∷ xs) (inl e) = rw (eq-eqb x k (sym e)) (omega arith)
length_without k (x ∷ xs) (inr i) = by (eqb x k) (length_without k xs i)
  where
    by : (b : Bool) → length xs ≡ length (without k xs) + 1 → length (x ∷ xs) ≡ length (cond b xs (x ∷ without k xs)) + 1
    by true h = omega arith
    by false h = omega (arith, h)

stays : (k j : ℕ) (ks : List ℕ) → eqb k j ≡ false → IsIn j ks → IsIn j (without k ks)
unfolding without
stays k j [] differ i = absurd i
stays k j (x ∷ xs) differ i = by (eqb x k) refl i (λ m. stays k j xs differ m)
  where
    by : (b : Bool) → eqb x k ≡ b → IsIn j (x ∷ xs) → (IsIn j xs → IsIn j (without k xs)) → IsIn j (cond b xs (x ∷ without k xs))
    by true is (inl e) more = absurd (eqb-false k j differ (sym (eqb-true x k is) ∙ sym e))
    by true is (inr m) more = m
    by false is (inl e) more = inl e
    by false is (inr m) more = inr (more m)

-- Different numbers, all of them among some, are no more than those.
pub as_many : {X : Type 0} (number : X → ℕ) (xs : List X) (ks : List ℕ) → AreApart (λ x y. eqb (number x) (number y)) xs → ((x : X) → IsIn x xs → IsIn (number x) ks) → length xs ≤ length ks
as_many number [] ks apart h = omega arith
as_many number (x ∷ xs) ks apart h =
    let n = length_without (number x) ks (h x (inl refl)) in
    let m = as_many number xs (without (number x) ks) apart.1 (λ y i. stays (number x) (number y) ks (all_in (λ z. eqb (number x) (number z) ≡ false) xs y apart.0 i) (h y (inr i))) in
    omega (arith, n, m)
