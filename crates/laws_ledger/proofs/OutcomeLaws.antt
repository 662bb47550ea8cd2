-- What each outcome of a hop is.
use Rattle.std.proofs.Common.{◌≡◌, ◌⊎◌, inl, inr, ℕ, zero, suc, ◌+◌, ◌≤◌, ◌&&◌, not, Bool, true, false, List, [], ◌∷◌, ◌++◌, filter, is_some, Option, Some, None, refl, sym, ap, ◌∙◌, arith}
use Rattle.std.specs.List.{AllByRecursion, filter_map}
use Rattle.std.proofs.lemmas.Bool.{and_parts, eq-eqb, false≢true}
use Rattle.wire_base.specs.model.Hop.{Outcome, Local, Copy, Expired, NoRow, has, distinct, is_this, copies, unless_empty, forward, local, hop}
use Rattle.laws_route.proofs.HopLemmas.{has-filter}
use Rattle.domain_model.proofs.EachLaws.{each_weaker, each_joined, each_mapped}
use Rattle.domain_model.proofs.HopTruth.{filter_some, IsChosen, chosen_each, distinct_each}

-- the ids that aren't the router's own
abbrev pub others : Option ℕ → List ℕ → List ℕ
others own ids = filter (λ k. not (is_this own k)) ids

-- the ids of a copy to y are those for which y is chosen
pub record IsGroup (own : Option ℕ) (choose : ℕ → Option ℕ) (ids : List ℕ) (ttl y : ℕ) (ks : List ℕ) (left : ℕ) : Type 0 where
  pub those : ks ≡ filter (λ k. is_this (choose k) y) (others own ids)
  pub some : ks ≡ [] → ⊥
  pub lives : 1 ≤ left
  pub less : left + 1 ≡ ttl

-- why ids ended: none of the TTL was left, or it is used up here
abbrev pub IsEnded : Option ℕ → (ℕ → Option ℕ) → List ℕ → ℕ → List ℕ → Type 0
IsEnded own choose ids ttl ks = ((ttl ≡ 0) × (ks ≡ ids)) ⊎ ((ttl ≡ 1) × (ks ≡ filter (λ k. is_some (choose k)) (others own ids)))

abbrev pub IsOutcome : Option ℕ → (ℕ → Option ℕ) → List ℕ → ℕ → Outcome → Type 0
IsOutcome own choose ids ttl (Local id) = (own ≡ Some id) × (has ids id ≡ true)
IsOutcome own choose ids ttl (Copy y ks left) = IsGroup own choose ids ttl y ks left
IsOutcome own choose ids ttl (Expired ks) = IsEnded own choose ids ttl ks
IsOutcome own choose ids ttl (NoRow ks) = ks ≡ filter (λ k. not (is_some (choose k)) && not (is_this own k)) ids

module _ (own : Option ℕ) (choose : ℕ → Option ℕ) (ids : List ℕ) where
  this_is : (k y : ℕ) → choose k ≡ Some y → is_this (choose k) y ≡ true
  this_is k y e = rw e (eq-eqb y y refl)

  copies_are : (left ttl : ℕ) → 1 ≤ left → left + 1 ≡ ttl → AllByRecursion (IsOutcome own choose ids ttl) (copies choose (others own ids) left)
  copies_are left ttl lives less =
      let rest = others own ids in
      each_mapped (IsOutcome own choose ids ttl) (λ y. Copy y (filter (λ k. is_this (choose k) y) rest) left) (distinct (filter_map choose rest))
      (each_weaker (IsChosen choose rest) (λ y. IsGroup own choose ids ttl y (filter (λ k. is_this (choose k) y) rest) left)
      (λ y c. record { those = refl; some = filter_some (λ k. is_this (choose k) y) c.id rest c.here (this_is c.id y c.is); lives = lives; less = less })
      (distinct (filter_map choose rest)) (distinct_each (IsChosen choose rest) (filter_map choose rest) (chosen_each choose rest)))

  unless_are : (P : Outcome → Type 0) (f : List ℕ → Outcome) (ks : List ℕ) → P (f ks) → AllByRecursion P (unless_empty f ks)
  unless_are P f [] h = tt
  unless_are P f (k ∷ ks) h = (h, tt)

  forward_are : (ttl : ℕ) → AllByRecursion (IsOutcome own choose ids (suc ttl)) (forward choose (others own ids) ttl)
  forward_are zero = unless_are (IsOutcome own choose ids 1) Expired (filter (λ k. is_some (choose k)) (others own ids)) (inr (refl, refl))
  forward_are (suc ttl) = copies_are (suc ttl) (suc (suc ttl)) (omega arith) (omega arith)

  local_are : (ttl : ℕ) (o : Option ℕ) → own ≡ o → AllByRecursion (IsOutcome own choose ids ttl) (local o ids)
  local_are ttl None e = tt
  local_are ttl (Some k) e = by (has ids k) refl
    where
      by : (b : Bool) → has ids k ≡ b → AllByRecursion (IsOutcome own choose ids ttl) (local (Some k) ids)
      by true h = rw h ((e, h), tt)
      by false h = rw h tt

  pub hop_are : (ttl : ℕ) → AllByRecursion (IsOutcome own choose ids ttl) (hop own choose ids ttl)
  unfolding hop
  hop_are zero = unless_are (IsOutcome own choose ids 0) Expired ids (inl (refl, refl))
  hop_are (suc ttl) =
      let P = IsOutcome own choose ids (suc ttl) in
      let lost = filter (λ k. not (is_some (choose k)) && not (is_this own k)) ids in
      each_joined P (local own ids ++ forward choose (others own ids) ttl) (unless_empty NoRow lost)
      (each_joined P (local own ids) (forward choose (others own ids) ttl) (local_are (suc ttl) own refl) (forward_are ttl))
      (unless_are P NoRow lost refl)

-- the ids of a copy are ids of the packet, and none is the router's own
pub group_named : (own : Option ℕ) (choose : ℕ → Option ℕ) (ids : List ℕ) (ttl y : ℕ) (ks : List ℕ) (left k : ℕ) → IsGroup own choose ids ttl y ks left → has ks k ≡ true → (has ids k ≡ true) × (is_this own k ≡ false)
group_named own choose ids ttl y ks left k group h = apart own ids (λ j. is_this (choose j) y) k (ap (λ (l : List ℕ). has l k) (sym group.those) ∙ h)
  where
    apart : (own : Option ℕ) (ids : List ℕ) (test : ℕ → Bool) (k : ℕ) → has (filter test (others own ids)) k ≡ true → (has ids k ≡ true) × (is_this own k ≡ false)
    apart own ids test k h =
        let p = and_parts (has (others own ids) k) (test k) (sym (has-filter test (others own ids) k) ∙ h) in
        let z = and_parts (has ids k) (not (is_this own k)) (sym (has-filter (λ j. not (is_this own j)) ids k) ∙ p.0) in
        (z.0, turned (is_this own k) z.1)
      where
        turned : (b : Bool) → not b ≡ true → b ≡ false
        turned true h = absurd (false≢true h)
        turned false h = refl
