-- Each id of the set is in exactly one outcome.
use Rattle.std.proofs.Common.{◌≡◌, ℕ, zero, suc, ◌+◌, ◌==◌, ◌&&◌, ◌||◌, not, Bool, true, false, cond, List, [], ◌∷◌, ◌++◌, filter, map, Option, Some, None, is_some, if◌then◌else◌, refl, ap, arith, sym, ◌∙◌, inl, inr}
use Rattle.std.specs.List.{filter_map, cons_option}
use Rattle.std.proofs.Math.Bool.{and-true, and-false, or-true}
use Rattle.std.proofs.lemmas.Bool.{eqb-true, eq-eqb, ne_eqb}
use Rattle.std.proofs.lemmas.Bool.Decides.{eqb_tells}
use Rattle.wire_base.specs.model.Hop.{one_if, tally, about, local, Outcome, Local, Copy, Expired, NoRow, has, ids_of, distinct, is_this, copies, unless_empty, forward, hop}

pub tally-append : {X : Type 0} (p : X → Bool) (xs ys : List X) → tally p (xs ++ ys) ≡ tally p xs + tally p ys
tally-append p [] ys = omega arith
tally-append p (x ∷ xs) ys = omega (arith, tally-append p xs ys)

pub tally-map : {X Y : Type 0} (p : Y → Bool) (f : X → Y) (xs : List X) → tally p (map f xs) ≡ tally (λ x. p (f x)) xs
tally-map p f [] = refl
tally-map p f (x ∷ xs) = omega (arith, tally-map p f xs)

pub tally-same : {X : Type 0} (p q : X → Bool) (xs : List X) → ((x : X) → p x ≡ q x) → tally p xs ≡ tally q xs
tally-same p q [] h = refl
tally-same p q (x ∷ xs) h = omega (arith, ap one_if (h x), tally-same p q xs h)

pub tally-none : {X : Type 0} (p : X → Bool) (xs : List X) → ((x : X) → p x ≡ false) → tally p xs ≡ 0
tally-none p [] h = refl
tally-none p (x ∷ xs) h = rw h (omega (arith, tally-none p xs h))

pub tally-filter : {X : Type 0} (p q : X → Bool) (xs : List X) → tally p (filter q xs) ≡ tally (λ x. p x && q x) xs
tally-filter p q [] = refl
tally-filter {X} p q (x ∷ xs) = go (q x) (tally-filter p q xs)
  where
    go : (b : Bool) → tally p (filter q xs) ≡ tally (λ x. p x && q x) xs → tally p (cond b (x ∷ filter q xs) (filter q xs)) ≡ one_if (p x && b) + tally (λ x. p x && q x) xs
    go true i = omega (arith, ap one_if (and-true (p x)), i)
    go false i = omega (arith, ap one_if (and-false (p x)), i)

pub has-filter : (p : ℕ → Bool) (ids : List ℕ) (k : ℕ) → has (filter p ids) k ≡ (has ids k && p k)
has-filter p [] k = refl
has-filter p (j ∷ ids) k = go (j == k) (p j) refl refl (has-filter p ids k)
  where
    go : (t a : Bool) → (j == k) ≡ t → p j ≡ a → has (filter p ids) k ≡ (has ids k && p k) → has (cond a (j ∷ filter p ids) (filter p ids)) k ≡ ((t || has ids k) && p k)
    go true true q r i = let e : p k ≡ true = ap p (sym (eqb-true j k q)) ∙ r in rw (q, e) refl
    go true false q r i = let e : p k ≡ false = ap p (sym (eqb-true j k q)) ∙ r in i ∙ rw e (and-false (has ids k))
    go false true q r i = rw q i
    go false false q r i = i

-- each element is once in the list of the distinct ones
pub distinct-once : (xs : List ℕ) (x : ℕ) → tally (λ y. y == x) (distinct xs) ≡ one_if (has xs x)
distinct-once [] x = refl
distinct-once (z ∷ xs) x =
    elim (eqb_tells z x) [
      | inl t ↦
          let none : tally (λ y. y == x) (filter (λ y. not (y == z)) (distinct xs)) ≡ 0 =
          tally-filter (λ y. y == x) (λ y. not (y == z)) (distinct xs) ∙ tally-none (λ y. (y == x) && not (y == z)) (distinct xs) (λ y. never y t.1) in
          rw t.0 (omega (arith, none))
      | inr t ↦
          let all : tally (λ y. y == x) (filter (λ y. not (y == z)) (distinct xs)) ≡ tally (λ y. y == x) (distinct xs) =
          tally-filter (λ y. y == x) (λ y. not (y == z)) (distinct xs) ∙ tally-same (λ y. (y == x) && not (y == z)) (λ y. y == x) (distinct xs) (λ y. always y t.1) in
          rw t.0 (omega (arith, all, distinct-once xs x))
    ]
  where
    never : (y : ℕ) → z ≡ x → ((y == x) && not (y == z)) ≡ false
    never y e = rw e (contrary (y == x))
      where
        contrary : (b : Bool) → (b && not b) ≡ false
        contrary true = refl
        contrary false = refl

    always : (y : ℕ) → (z ≡ x → ⊥) → ((y == x) && not (y == z)) ≡ (y == x)
    always y ne =
        elim (eqb_tells y x) [
          | inl t ↦ (let other : y ≡ z → ⊥ = λ q. ne (sym q ∙ t.1) in rw (t.0, ne_eqb y z other) refl)
          | inr t ↦ rw t.0 refl
        ]

pub has-filter_map : (choose : ℕ → Option ℕ) (ids : List ℕ) (k x : ℕ) → choose k ≡ Some x → has ids k ≡ true → has (filter_map choose ids) x ≡ true
has-filter_map choose [] k x q h = cc
has-filter_map choose (j ∷ ids) k x q h =
    elim (eqb_tells j k) [
      | inl t ↦ (let e : choose j ≡ Some x = ap choose t.1 ∙ q in rw e (first x))
      | inr t ↦ (let r : has ids k ≡ true = rw t.0 at h in go (choose j) (has-filter_map choose ids k x q r))
    ]
  where
    first : (x : ℕ) → has (x ∷ filter_map choose ids) x ≡ true
    first x = rw (eq-eqb x x refl) refl

    go : (o : Option ℕ) → has (filter_map choose ids) x ≡ true → has (cons_option o (filter_map choose ids)) x ≡ true
    go None r = r
    go (Some y) r = rw r (or-true (y == x))

about-copies : (choose : ℕ → Option ℕ) (ids : List ℕ) (ttl k : ℕ) → about k (copies choose ids ttl) ≡ one_if (has ids k && is_some (choose k))
about-copies choose ids ttl k =
    tally-map (λ o. has (ids_of o) k) (λ x. Copy x (filter (λ j. is_this (choose j) x) ids) ttl) (distinct (filter_map choose ids))
    ∙ tally-same (λ x. has (filter (λ j. is_this (choose j) x) ids) k) (λ x. has ids k && is_this (choose k) x) (distinct (filter_map choose ids)) (λ x. has-filter (λ j. is_this (choose j) x) ids k)
    ∙ go (choose k) refl (has ids k) refl
  where
    go : (o : Option ℕ) → choose k ≡ o → (h : Bool) → has ids k ≡ h → tally (λ x. h && is_this o x) (distinct (filter_map choose ids)) ≡ one_if (h && is_some o)
    go None q true r = tally-none (λ x. false) (distinct (filter_map choose ids)) (λ x. refl)
    go None q false r = tally-none (λ x. false) (distinct (filter_map choose ids)) (λ x. refl)
    go (Some y) q false r = tally-none (λ x. false) (distinct (filter_map choose ids)) (λ x. refl)
    go (Some y) q true r = distinct-once (filter_map choose ids) y ∙ ap one_if (has-filter_map choose ids k y q r)

about-unless : (f : List ℕ → Outcome) → ((xs : List ℕ) → ids_of (f xs) ≡ xs) → (ids : List ℕ) (k : ℕ) → about k (unless_empty f ids) ≡ one_if (has ids k)
about-unless f h [] k = refl
about-unless f h (x ∷ xs) k = rw h (omega arith)

about-forward : (choose : ℕ → Option ℕ) (ids : List ℕ) (ttl k : ℕ) → about k (forward choose ids ttl) ≡ one_if (has ids k && is_some (choose k))
about-forward choose ids zero k = about-unless Expired (λ xs. refl) (filter (λ j. is_some (choose j)) ids) k ∙ ap one_if (has-filter (λ j. is_some (choose j)) ids k)
about-forward choose ids (suc ttl) k = about-copies choose ids (suc ttl) k

about-local : (own : Option ℕ) (ids : List ℕ) (k : ℕ) → about k (local own ids) ≡ one_if (has ids k && is_this own k)
about-local None ids k = ap one_if (sym (and-false (has ids k)))
about-local (Some o) ids k =
    elim (eqb_tells k o) [
      | inl t ↦ go (has ids o) true (eq-eqb o k (sym t.1)) ∙ ap (λ h. one_if (h && true)) (ap (λ z. has ids z) (sym t.1)) ∙ ap (λ b. one_if (has ids k && b)) (sym t.0)
      | inr t ↦ go (has ids o) false (ne_eqb o k (λ q. t.1 (sym q))) ∙ ap one_if (and-false (has ids o) ∙ sym (and-false (has ids k))) ∙ ap (λ b. one_if (has ids k && b)) (sym t.0)
    ]
  where
    go : (h t : Bool) → (o == k) ≡ t → about k (if h then (Local o ∷ []) else []) ≡ one_if (h && t)
    go true true q = rw q refl
    go true false q = rw q refl
    go false t q = refl

-- each id of the set is in one outcome, and no other id is in any
pub hop-partition : (own : Option ℕ) (choose : ℕ → Option ℕ) (ids : List ℕ) (ttl k : ℕ) → about k (hop own choose ids ttl) ≡ one_if (has ids k)
unfolding hop
hop-partition own choose ids zero k = about-unless Expired (λ xs. refl) ids k
hop-partition own choose ids (suc ttl) k =
    tally-append (λ o. has (ids_of o) k) (local own ids ++ forward choose (filter (λ j. not (is_this own j)) ids) ttl) (unless_empty NoRow (filter (λ j. not (is_some (choose j)) && not (is_this own j)) ids))
    ∙ omega (
      arith,
      tally-append (λ o. has (ids_of o) k) (local own ids) (forward choose (filter (λ j. not (is_this own j)) ids) ttl),
      about-local own ids k,
      about-forward choose (filter (λ j. not (is_this own j)) ids) ttl k ∙ ap (λ b. one_if (b && is_some (choose k))) (has-filter (λ j. not (is_this own j)) ids k),
      about-unless NoRow (λ xs. refl) (filter (λ j. not (is_some (choose j)) && not (is_this own j)) ids) k ∙ ap one_if (has-filter (λ j. not (is_some (choose j)) && not (is_this own j)) ids k),
      parts (has ids k) (is_this own k) (is_some (choose k)),
    )
  where
    parts : (h o c : Bool) → (one_if (h && o) + one_if ((h && not o) && c)) + one_if (h && (not c && not o)) ≡ one_if h
    parts true true true = refl
    parts true true false = refl
    parts true false true = refl
    parts true false false = refl
    parts false o c = refl
