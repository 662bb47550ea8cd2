-- What leaves the queue until a node that waits comes.
use Rattle.std.proofs.Common.{◌≡◌, ℕ, zero, suc, ◌<◌, ◌≤◌, ◌⊎◌, inl, inr, Bool, true, false, List, [], ◌∷◌, length, get_or, if◌then◌else◌, Contains, All, refl, arith, sym, ◌∙◌, subst}
use Rattle.std.specs.List.Sorted.{IsPermutation}
use Rattle.std.proofs.lemmas.List.Elements.{All-contains, All-nil}
use Rattle.std.proofs.lemmas.List.Sorted.{Contains-permutation, IsPermutation-sym, length_permutation}
use Rattle.laws_route.proofs.WalkLemmas.{Contains-cases}
use Rattle.laws_route.proofs.TightLemmas.{Contains-cons}
use Rattle.path_tree.specs.Search.{Skipped, TakesNext, marks}

module _ (settled : List Bool) (q0 q : List (ℕ × ℕ)) (e : ℕ × ℕ) (q' : List (ℕ × ℕ)) (s : Skipped settled q0 q) (p : IsPermutation q (e ∷ q')) where
  pub popped-in : Contains q0 e
  popped-in = s.from e (Contains-permutation (e ∷ q') q e (IsPermutation-sym q (e ∷ q') p) (0, omega arith, refl))

  pub popped-shorter : length q' < length q
  popped-shorter = let h : length (e ∷ q') ≡ length q = length_permutation q (e ∷ q') p in omega (arith, h)

  left-from : (entry : ℕ × ℕ) → Contains q' entry → Contains q0 entry
  left-from entry c = s.from entry (Contains-permutation (e ∷ q') q entry (IsPermutation-sym q (e ∷ q') p) (Contains-cons e q' entry c))

  left-others : (entry : ℕ × ℕ) → Contains q0 entry → (marks settled entry.1 ≡ true) ⊎ ((e ≡ entry) ⊎ Contains q' entry)
  left-others entry c =
      elim (s.others entry c) [
        | inl h ↦ inl h
        | inr h ↦ inr (Contains-cases e q' entry (Contains-permutation q (e ∷ q') entry p h))
      ]

  pub skipped-more : marks settled e.1 ≡ true → Skipped settled q0 q'
  skipped-more h =
      record {
        from = left-from;
        others =
            λ entry c.
            elim (left-others entry c) [
              | inl m ↦ inl m
              | inr r ↦ elim r [ inl same ↦ inl (subst (λ (w : ℕ × ℕ). marks settled w.1 ≡ true) same h) | inr there ↦ inr there ]
            ];
      }

  pub takes-next : marks settled e.1 ≡ false → All (λ other. e.0 ≤ other.0) q' → TakesNext settled q0 e q'
  takes-next h least =
      record {
        there = popped-in;
        waits = h;
        from = left-from;
        others =
            λ entry c.
            elim (left-others entry c) [
              | inl m ↦ inl m
              | inr r ↦ inr (elim r [ inl same ↦ inl (sym same) | inr there ↦ inr there ])
            ];
        least =
            λ entry c waits.
            elim (left-others entry c) [
              | inl m ↦ (let z : true ≡ false = sym m ∙ waits in cc)
              | inr r ↦
                  elim r [
                    | inl same ↦ subst (λ (w : ℕ × ℕ). e.0 ≤ w.0) same (omega arith)
                    | inr there ↦ All-contains (λ (other : ℕ × ℕ). e.0 ≤ other.0) q' entry least there
                  ]
            ];
      }

-- within the list the default doesn't matter
pub within-same : {X : Type 0} (xs : List X) (i : ℕ) (a b : X) → i < length xs → get_or xs i a ≡ get_or xs i b
within-same [] i a b h = absurd (omega arith)
within-same (x ∷ xs) zero a b h = refl
within-same (x ∷ xs) (suc i) a b h = within-same xs i a b (omega arith)

-- the queue with one entry
pub first-in : (q0 q : List (ℕ × ℕ)) (e : ℕ × ℕ) → q0 ≡ [] → IsPermutation (e ∷ q0) q → Contains q e
first-in q0 q e none p = Contains-permutation (e ∷ q0) q e p (0, omega arith, refl)

pub first-only : (q0 q : List (ℕ × ℕ)) (e : ℕ × ℕ) → q0 ≡ [] → IsPermutation (e ∷ q0) q → (entry : ℕ × ℕ) → Contains q entry → e ≡ entry
first-only q0 q e none p entry c =
    elim (Contains-cases e q0 entry (Contains-permutation q (e ∷ q0) entry (IsPermutation-sym (e ∷ q0) q p) c)) [
      | inl same ↦ same
      | inr there ↦ absurd (empty (subst (λ xs. Contains xs entry) none there))
    ]
  where
    empty : Contains {X = ℕ × ℕ} [] entry → ⊥
    empty (k, l, s) = omega arith

-- a list that is chosen by a test
pub chosen-all : {X : Type 0} (b : Bool) (xs ys : List X) → xs ≡ (if b then ys else []) → b ≡ true → xs ≡ ys
chosen-all true xs ys q h = q
chosen-all false xs ys q h = cc

pub chosen-only : {X : Type 0} (b : Bool) (xs ys : List X) → xs ≡ (if b then ys else []) → (x : X) → Contains xs x → (b ≡ true) × Contains ys x
chosen-only true xs ys q x c = (refl, subst (λ zs. Contains zs x) q c)
chosen-only {X} false xs ys q x c = absurd (empty (subst (λ zs. Contains zs x) q c))
  where
    empty : Contains {X = X} [] x → ⊥
    empty (k, l, s) = omega arith

pub chosen-each : {X : Type 0} (P : X → Type 0) (b : Bool) (xs ys : List X) → xs ≡ (if b then ys else []) → All P ys → All P xs
chosen-each P true xs ys q h = subst (All P) (sym q) h
chosen-each P false xs ys q h = subst (All P) (sym q) (All-nil P)
