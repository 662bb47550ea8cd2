-- What holds of each element of a list holds of each of what the list becomes.
use Rattle.std.proofs.Common.{◌≡◌, ℕ, zero, suc, Bool, true, false, List, [], ◌∷◌, ◌++◌, take, drop, map, replicate, filter, slice_get, slice_set, fold, Some, refl, sym, subst}
use Rattle.std.specs.List.{AllByRecursion, flat_map, remove}
use Rattle.std.proofs.lemmas.List.Concat.{flat_map-cons}
use Rattle.std.proofs.lemmas.Option.{same_Some}
use Rattle.laws_format.proofs.ContentLaws.{each_taken, each_dropped}

pub each_from : {X : Type 0} (P : X → Type 0) → ((x : X) → P x) → (xs : List X) → AllByRecursion P xs
each_from P h [] = tt
each_from P h (x ∷ xs) = (h x, each_from P h xs)

pub each_weaker : {X : Type 0} (P Q : X → Type 0) → ((x : X) → P x → Q x) → (xs : List X) → AllByRecursion P xs → AllByRecursion Q xs
each_weaker P Q h [] all = tt
each_weaker P Q h (x ∷ xs) all = (h x all.0, each_weaker P Q h xs all.1)

pub each_joined : {X : Type 0} (P : X → Type 0) (xs ys : List X) → AllByRecursion P xs → AllByRecursion P ys → AllByRecursion P (xs ++ ys)
each_joined P [] ys all more = more
each_joined P (x ∷ xs) ys all more = (all.0, each_joined P xs ys all.1 more)

pub each_mapped : {X Y : Type 0} (P : Y → Type 0) (f : X → Y) (xs : List X) → AllByRecursion (λ x. P (f x)) xs → AllByRecursion P (map f xs)
each_mapped P f [] all = tt
each_mapped P f (x ∷ xs) all = (all.0, each_mapped P f xs all.1)

pub each_kept : {X : Type 0} (P : X → Type 0) (p : X → Bool) (xs : List X) → AllByRecursion P xs → AllByRecursion P (filter p xs)
each_kept P p [] all = tt
each_kept P p (x ∷ xs) all = by (p x) refl (each_kept P p xs all.1)
  where
    by : (b : Bool) → p x ≡ b → AllByRecursion P (filter p xs) → AllByRecursion P (filter p (x ∷ xs))
    by true e more = rw e (all.0, more)
    by false e more = rw e more

-- and what is kept passes the test
pub each_passing : {X : Type 0} (p : X → Bool) (xs : List X) → AllByRecursion (λ x. p x ≡ true) (filter p xs)
each_passing p [] = tt
each_passing {X} p (x ∷ xs) = by (p x) refl (each_passing p xs)
  where
    by : (b : Bool) → p x ≡ b → AllByRecursion (λ y. p y ≡ true) (filter p xs) → AllByRecursion (λ y. p y ≡ true) (filter p (x ∷ xs))
    by true e more = rw e (e, more)
    by false e more = rw e more

pub each_both : {X : Type 0} (P Q : X → Type 0) (xs : List X) → AllByRecursion P xs → AllByRecursion Q xs → AllByRecursion (λ x. P x × Q x) xs
each_both P Q [] p q = tt
each_both P Q (x ∷ xs) p q = ((p.0, q.0), each_both P Q xs p.1 q.1)

pub each_left : {X : Type 0} (P : X → Type 0) (xs : List X) (i : ℕ) → AllByRecursion P xs → AllByRecursion P (remove xs i)
each_left P xs i all = each_joined P (take i xs) (drop (suc i) xs) (each_taken P i xs all) (each_dropped P (suc i) xs all)

pub each_flat : {X Y : Type 0} (P : Y → Type 0) (f : X → List Y) (xs : List X) → AllByRecursion (λ x. AllByRecursion P (f x)) xs → AllByRecursion P (flat_map f xs)
each_flat P f [] all = tt
each_flat P f (x ∷ xs) all = subst (AllByRecursion P) (sym (flat_map-cons f x xs)) (each_joined P (f x) (flat_map f xs) all.0 (each_flat P f xs all.1))

pub each_got : {X : Type 0} (P : X → Type 0) (xs : List X) (i : ℕ) (x : X) → AllByRecursion P xs → slice_get xs i ≡ Some x → P x
each_got P [] i x all e = absurd cc
each_got P (y ∷ ys) zero x all e = subst P (same_Some y x e) all.0
each_got P (y ∷ ys) (suc i) x all e = each_got P ys i x all.1 e

pub each_set : {X : Type 0} (P : X → Type 0) (xs : List X) (i : ℕ) (x : X) → AllByRecursion P xs → P x → AllByRecursion P (slice_set xs i x)
each_set P [] i x all h = tt
each_set P (y ∷ ys) zero x all h = (h, all.1)
each_set P (y ∷ ys) (suc i) x all h = (all.0, each_set P ys i x all.1 h)

pub each_repeated : {X : Type 0} (P : X → Type 0) (n : ℕ) (x : X) → P x → AllByRecursion P (replicate n x)
each_repeated P zero x h = tt
each_repeated P (suc n) x h = (h, each_repeated P n x h)

-- what a fold keeps at each step it keeps as a whole
pub fold_keeps : {A B : Type 0} (P : B → Type 0) (Q : A → Type 0) (f : B → A → B) → ((b : B) (a : A) → Q a → P b → P (f b a)) → (xs : List A) (b : B) → AllByRecursion Q xs → P b → P (fold f b xs)
fold_keeps P Q f step [] b all h = h
fold_keeps P Q f step (x ∷ xs) b all h = fold_keeps P Q f step xs (f b x) all.1 (step b x all.0 h)
