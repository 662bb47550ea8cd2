-- Sums and counts over lists.
use Rattle.std.proofs.Common.{◌≡◌, ℕ, ◌+◌, ◌*◌, ◌≤◌, Bool, true, false, if◌then◌else◌, List, [], ◌∷◌, map, filter, length, sum_by, refl, ap, ◌∙◌, arith}
use Rattle.std.specs.List.{AllByRecursion, flat_map}
use Rattle.std.proofs.lemmas.List.Concat.{flat_map-cons}
use Rattle.std.proofs.lemmas.List.Sums.{sum_by-cons, sum_by-append}
use Rattle.wire_base.specs.model.Hop.{one_if, tally}

-- ---- sums

pub sum-map : {X Y : Type 0} (f : Y → ℕ) (h : X → Y) (xs : List X) → sum_by f (map h xs) ≡ sum_by (λ x. f (h x)) xs
sum-map f h [] = refl
sum-map f h (x ∷ xs) = omega (arith, sum_by-cons f (h x) (map h xs), sum_by-cons (λ x. f (h x)) x xs, sum-map f h xs)

pub sum-flat : {X Y : Type 0} (f : Y → ℕ) (h : X → List Y) (xs : List X) → sum_by f (flat_map h xs) ≡ sum_by (λ x. sum_by f (h x)) xs
sum-flat f h [] = refl
sum-flat f h (x ∷ xs) =
    ap (sum_by f) (flat_map-cons h x xs) ∙ omega (arith, sum_by-append f (h x) (flat_map h xs), sum_by-cons (λ x. sum_by f (h x)) x xs, sum-flat f h xs)

pub sum-same : {X : Type 0} (f g : X → ℕ) (xs : List X) → AllByRecursion (λ x. f x ≡ g x) xs → sum_by f xs ≡ sum_by g xs
sum-same f g [] all = refl
sum-same f g (x ∷ xs) all = omega (arith, sum_by-cons f x xs, sum_by-cons g x xs, all.0, sum-same f g xs all.1)

pub sum-most : {X : Type 0} (f g : X → ℕ) (xs : List X) → AllByRecursion (λ x. f x ≤ g x) xs → sum_by f xs ≤ sum_by g xs
sum-most f g [] all = omega arith
sum-most f g (x ∷ xs) all = omega (arith, sum_by-cons f x xs, sum_by-cons g x xs, all.0, sum-most f g xs all.1)

pub sum-none : {X : Type 0} (f : X → ℕ) (xs : List X) → ((x : X) → f x ≡ 0) → sum_by f xs ≡ 0
sum-none f [] h = refl
sum-none f (x ∷ xs) h = omega (arith, sum_by-cons f x xs, h x, sum-none f xs h)

pub sum-both : {X : Type 0} (f g : X → ℕ) (xs : List X) → sum_by (λ x. f x + g x) xs ≡ sum_by f xs + sum_by g xs
sum-both f g [] = omega arith
sum-both f g (x ∷ xs) = omega (arith, sum_by-cons (λ x. f x + g x) x xs, sum_by-cons f x xs, sum_by-cons g x xs, sum-both f g xs)

pub sum-times : {X : Type 0} (f : X → ℕ) (b : ℕ) (xs : List X) → sum_by (λ x. f x * b) xs ≡ sum_by f xs * b
sum-times f b [] = omega arith
sum-times f b (x ∷ xs) =
    let e : sum_by f (x ∷ xs) * b ≡ (f x + sum_by f xs) * b = ap (λ n. n * b) (sum_by-cons f x xs) in
    omega (arith, sum_by-cons (λ x. f x * b) x xs, sum-times f b xs, e)

-- what a test lets through in all or not at all
pub sum-where : {X : Type 0} (t : Bool) (f : X → ℕ) (xs : List X) → sum_by (λ x. if t then f x else 0) xs ≡ (if t then sum_by f xs else 0)
sum-where true f xs = refl
sum-where false f xs = sum-none (λ x. 0) xs (λ x. refl)

-- ---- counts

pub tally-sum : {X : Type 0} (p : X → Bool) (xs : List X) → tally p xs ≡ sum_by (λ x. one_if (p x)) xs
tally-sum p [] = refl
tally-sum p (x ∷ xs) = omega (arith, sum_by-cons (λ x. one_if (p x)) x xs, tally-sum p xs)

pub length-kept : (p : ℕ → Bool) (xs : List ℕ) → length (filter p xs) ≡ tally p xs
length-kept p [] = refl
length-kept p (x ∷ xs) = by (p x) (length-kept p xs)
  where
    by : (b : Bool) → length (filter p xs) ≡ tally p xs → length (if b then x ∷ filter p xs else filter p xs) ≡ one_if b + tally p xs
    by true e = omega (arith, e)
    by false e = omega (arith, e)
