-- The copies that a hop makes: each has ids of the packet, at least one, the TTL less one, which isn't 0, and goes to a node
-- that is chosen for one of them.
use Rattle.std.proofs.Common.{◌≡◌, ℕ, zero, suc, ◌+◌, ◌≤◌, ◌==◌, ◌&&◌, ◌||◌, not, Bool, true, false, List, [], ◌∷◌, ◌++◌, filter, is_some, Option, Some, None, refl, sym, ap, ◌∙◌, arith}
use mathlib.Core.Bool.{false≢true, true≢false}
use Rattle.std.specs.List.{AllByRecursion, filter_map, cons_option}
use Rattle.std.proofs.lemmas.Bool.{eqb-true, eq-eqb}
use Rattle.wire_base.specs.model.Hop.{Outcome, Local, Copy, Expired, NoRow, has, distinct, is_this, copies, unless_empty, forward, local, hop}
use Rattle.domain_model.proofs.EachLaws.{each_weaker, each_joined, each_mapped, each_kept}

-- ---- words on lists

-- a list with an element that passes isn't left empty
pub filter_some : (p : ℕ → Bool) (k : ℕ) (ks : List ℕ) → has ks k ≡ true → p k ≡ true → filter p ks ≡ [] → ⊥
filter_some p k [] h t e = false≢true h
filter_some p k (j ∷ ks) h t e = by (λ q r. filter_some p k ks q t r) (j == k) refl (p j) refl h e
  where
    by : (has ks k ≡ true → filter p ks ≡ [] → ⊥) → (b : Bool) → (j == k) ≡ b → (c : Bool) → p j ≡ c → ((j == k) || has ks k) ≡ true → filter p (j ∷ ks) ≡ [] → ⊥
    by more true u true v h e = let z : j ∷ filter p ks ≡ [] = rw v at e in cc
    by more true u false v h e = true≢false (sym t ∙ ap p (sym (eqb-true j k u)) ∙ v)
    by more false u true v h e = let z : j ∷ filter p ks ≡ [] = rw v at e in cc
    by more false u false v h e = more (rw u at h) (rw v at e)

-- ---- what is chosen

-- a node is chosen for one of the ids
pub record IsChosen (choose : ℕ → Option ℕ) (ks : List ℕ) (y : ℕ) : Type 0 where
  pub id : ℕ
  pub here : has ks id ≡ true
  pub is : choose id ≡ Some y

pub has_self : (k : ℕ) (ks : List ℕ) → has (k ∷ ks) k ≡ true
has_self k ks = ap (λ (b : Bool). b || has ks k) (eq-eqb k k refl)

pub has_more : (j k : ℕ) (ks : List ℕ) → has ks k ≡ true → has (j ∷ ks) k ≡ true
has_more j k ks h = by (j == k)
  where
    by : (b : Bool) → (b || has ks k) ≡ true
    by true = refl
    by false = h

pub chosen_each : (choose : ℕ → Option ℕ) (ks : List ℕ) → AllByRecursion (IsChosen choose ks) (filter_map choose ks)
chosen_each choose [] = tt
chosen_each choose (k ∷ ks) = by (choose k) refl (each_weaker (IsChosen choose ks) (IsChosen choose (k ∷ ks)) (λ y c. record { id = c.id; here = has_more k c.id ks c.here; is = c.is }) (filter_map choose ks) (chosen_each choose ks))
  where
    by : (o : Option ℕ) → choose k ≡ o → AllByRecursion (IsChosen choose (k ∷ ks)) (filter_map choose ks) → AllByRecursion (IsChosen choose (k ∷ ks)) (cons_option o (filter_map choose ks))
    by None e more = more
    by (Some y) e more = (record { id = k; here = has_self k ks; is = e }, more)

pub distinct_each : (P : ℕ → Type 0) (xs : List ℕ) → AllByRecursion P xs → AllByRecursion P (distinct xs)
distinct_each P [] all = tt
distinct_each P (x ∷ xs) all = (all.0, each_kept P (λ y. not (y == x)) (distinct xs) (distinct_each P xs all.1))

-- ---- outcomes

-- a fact of lists of ids that each part of a list has too
abbrev pub GoesDown : (List ℕ → Type 0) → Type 0
GoesDown P = (p : ℕ → Bool) (ks : List ℕ) → P ks → P (filter p ks)

pub record IsCopyOf (choose : ℕ → Option ℕ) (P : List ℕ → Type 0) (before y : ℕ) (ks : List ℕ) (ttl : ℕ) : Type 0 where
  pub id : ℕ
  pub is : choose id ≡ Some y
  pub some : ks ≡ [] → ⊥
  pub part : P ks
  pub lives : 1 ≤ ttl
  pub less : ttl + 1 ≡ before

abbrev pub IsOutcomeOf : (ℕ → Option ℕ) → (List ℕ → Type 0) → ℕ → Outcome → Type 0
IsOutcomeOf choose P before (Local id) = Unit {0}
IsOutcomeOf choose P before (Copy y ks ttl) = IsCopyOf choose P before y ks ttl
IsOutcomeOf choose P before (Expired ks) = Unit {0}
IsOutcomeOf choose P before (NoRow ks) = Unit {0}

module _ (choose : ℕ → Option ℕ) (P : List ℕ → Type 0) (down : GoesDown P) where
  this_is : (k y : ℕ) → choose k ≡ Some y → is_this (choose k) y ≡ true
  this_is k y e = rw e (eq-eqb y y refl)

  copies_true : (before ttl : ℕ) (ks : List ℕ) → P ks → 1 ≤ ttl → ttl + 1 ≡ before → AllByRecursion (IsOutcomeOf choose P before) (copies choose ks ttl)
  copies_true before ttl ks h lives less =
      each_mapped (IsOutcomeOf choose P before) (λ y. Copy y (filter (λ k. is_this (choose k) y) ks) ttl) (distinct (filter_map choose ks))
      (each_weaker (IsChosen choose ks) (λ y. IsCopyOf choose P before y (filter (λ k. is_this (choose k) y) ks) ttl)
      (λ y c. record { id = c.id; is = c.is; some = filter_some (λ k. is_this (choose k) y) c.id ks c.here (this_is c.id y c.is); part = down (λ k. is_this (choose k) y) ks h; lives = lives; less = less })
      (distinct (filter_map choose ks)) (distinct_each (IsChosen choose ks) (filter_map choose ks) (chosen_each choose ks)))

  expired_true : (before : ℕ) (ks : List ℕ) → AllByRecursion (IsOutcomeOf choose P before) (unless_empty Expired ks)
  expired_true before [] = tt
  expired_true before (k ∷ ks) = (tt, tt)

  no_row_true : (before : ℕ) (ks : List ℕ) → AllByRecursion (IsOutcomeOf choose P before) (unless_empty NoRow ks)
  no_row_true before [] = tt
  no_row_true before (k ∷ ks) = (tt, tt)

  forward_true : (before ttl : ℕ) (ks : List ℕ) → P ks → ttl + 1 ≡ before → AllByRecursion (IsOutcomeOf choose P before) (forward choose ks ttl)
  forward_true before zero ks h less = expired_true before (filter (λ k. is_some (choose k)) ks)
  forward_true before (suc ttl) ks h less = copies_true before (suc ttl) ks h (omega arith) less

  local_true : (before : ℕ) (own : Option ℕ) (ks : List ℕ) → AllByRecursion (IsOutcomeOf choose P before) (local own ks)
  local_true before None ks = tt
  local_true before (Some o) ks = by (has ks o) refl
    where
      by : (b : Bool) → has ks o ≡ b → AllByRecursion (IsOutcomeOf choose P before) (local (Some o) ks)
      by true e = rw e (tt, tt)
      by false e = rw e tt

  pub hop_true : (own : Option ℕ) (ks : List ℕ) (ttl : ℕ) → P ks → AllByRecursion (IsOutcomeOf choose P ttl) (hop own choose ks ttl)
  unfolding hop
  hop_true own ks zero h = expired_true zero ks
  hop_true own ks (suc ttl) h =
      let Q = IsOutcomeOf choose P (suc ttl) in
      each_joined Q (local own ks ++ forward choose (filter (λ k. not (is_this own k)) ks) ttl) (unless_empty NoRow (filter (λ k. not (is_some (choose k)) && not (is_this own k)) ks))
      (each_joined Q (local own ks) (forward choose (filter (λ k. not (is_this own k)) ks) ttl) (local_true (suc ttl) own ks) (forward_true (suc ttl) ttl (filter (λ k. not (is_this own k)) ks) (down (λ k. not (is_this own k)) ks h) (omega arith)))
      (no_row_true (suc ttl) (filter (λ k. not (is_some (choose k)) && not (is_this own k)) ks))
