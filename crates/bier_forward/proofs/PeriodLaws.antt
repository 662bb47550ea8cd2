-- Classes that are the same modulo a period have the same table.
use Rattle.std.proofs.Common.{◌≡◌, ℕ, zero, suc, ◌<◌, ◌≤◌, ◌+◌, ◌%◌, ◌++◌, List, [], ◌∷◌, length, get_or, map, replicate, slice_get, Option, None, refl, sym, ap, subst, ◌∙◌, arith, inl, inr}
use Rattle.std.proofs.Math.Nat.{mod-le, mod-mod_of_dvd}
use Rattle.std.proofs.lemmas.Bool.{cases_lt}
use Rattle.std.proofs.lemmas.List.{map-append}
use Rattle.std.proofs.lemmas.Nat.Gcd.{dvd_of_mod-eq-zero}
use Rattle.wire_base.specs.declared.view.First.{First}
use Rattle.bift_table.specs.Bift.{member_at, table_of}
use Rattle.bier_forward.specs.declared.routes.Period.{Period}
use Rattle.bier_forward.specs.Kept.{FitsSize, IsPeriod, number_of}

below : (p : Period) (class : ℕ) → class < 16 → class % number_of p < 16
below p class lt = omega (arith, lt, mod-le class (number_of p))

-- what fits a size fits it in each multiple
fits-more : (p q : Period) (size : ℕ) → number_of q % number_of p ≡ 0 → FitsSize p size → FitsSize q size
fits-more p q size more fits class lt some =
    sym (fits (class % number_of q) (below q class lt) some)
    ∙ ap (λ n. n % size) (mod-mod_of_dvd (number_of p) class (dvd_of_mod-eq-zero (number_of p) more))
    ∙ fits class lt some

-- one list more, by a period that fits it and a period that fits those before it
pub fits-next : (p s q : Period) (rows : List (List First)) (i : ℕ) (row : List First) → i < length rows → row ≡ get_or rows i [] → number_of q % number_of p ≡ 0 → number_of q % number_of s ≡ 0 → FitsSize s (length row)
    → ((k : ℕ) → k < i → FitsSize p (length (get_or rows k []))) → (k : ℕ) → k < i + 1 → FitsSize q (length (get_or rows k []))
fits-next p s q rows i row lt is more most fits before k low = elim (cases_lt k i) [
  | inl less ↦ fits-more p q (length (get_or rows k [])) more (before k less)
  | inr last ↦ (let e : k ≡ i = omega (arith, low, last) in
      subst (λ (l : List First). FitsSize q (length l)) (is ∙ ap (λ n. get_or rows n []) (sym e)) (fits-more s q (length row) most fits))
]

-- the same router of a list whose size it fits
same-member : (p : Period) (row : List First) (class : ℕ) → class < 16 → FitsSize p (length row) → member_at (class % number_of p) row ≡ member_at class row
same-member p [] class lt fits = refl
same-member p (f ∷ fs) class lt fits = ap (λ n. slice_get (f ∷ fs) n) (fits class lt (omega arith))

-- the same table where it fits all lists
pub same-table : (p : Period) (rows : List (List First)) → ((i : ℕ) → i < length rows → FitsSize p (length (get_or rows i []))) → IsPeriod p rows
unfolding table_of
same-table p rows fits class lt = each rows fits
  where
    each : (rs : List (List First)) → ((i : ℕ) → i < length rs → FitsSize p (length (get_or rs i []))) → map (member_at (class % number_of p)) rs ≡ map (member_at class) rs
    each [] h = refl
    each (r ∷ rs) h =
        ap (λ (o : Option First). o ∷ map (member_at (class % number_of p)) rs) (same-member p r class lt (h 0 (omega arith)))
        ∙ ap (λ (os : List (Option First)). member_at class r ∷ os) (each rs (λ i low. h (suc i) (omega (arith, low))))

-- the same, where only the lists of the first positions are stored
pub same-table-stored : (p : Period) (rows stored : List (List First)) (k : ℕ) → rows ≡ stored ++ replicate k [] → IsPeriod p stored → IsPeriod p rows
unfolding table_of
same-table-stored p rows stored k is same class lt =
    parted (class % number_of p) ∙ ap (λ (os : List (Option First)). os ++ map (member_at (class % number_of p)) (replicate k [])) (same class lt) ∙ ap (λ (os : List (Option First)). map (member_at class) stored ++ os) (none k) ∙ sym (parted class)
  where
    parted : (c : ℕ) → map (member_at c) rows ≡ map (member_at c) stored ++ map (member_at c) (replicate k [])
    parted c = ap (λ (rs : List (List First)). map (member_at c) rs) is ∙ map-append (member_at c) stored (replicate k [])

    none : (n : ℕ) → map (member_at (class % number_of p)) (replicate n []) ≡ map (member_at class) (replicate n [])
    none zero = refl
    none (suc n) = ap (λ (os : List (Option First)). None ∷ os) (none n)

-- one list more, of one router at most, which every period fits
pub fits-short : (p : Period) (rows : List (List First)) (i : ℕ) (row : List First) → i < length rows → row ≡ get_or rows i [] → length row ≤ 1
    → ((k : ℕ) → k < i → FitsSize p (length (get_or rows k []))) → (k : ℕ) → k < i + 1 → FitsSize p (length (get_or rows k []))
fits-short p rows i row lt is short before k low = elim (cases_lt k i) [
  | inl less ↦ before k less
  | inr last ↦ (let e : k ≡ i = omega (arith, low, last) in
      subst (λ (l : List First). FitsSize p (length l)) (is ∙ ap (λ n. get_or rows n []) (sym e)) (λ class below some. all-same (class % number_of p) class (length row) some short))
]
  where
    all-same : (a b n : ℕ) → 0 < n → n ≤ 1 → a % n ≡ b % n
    all-same a b n low high =
        let one : n ≡ 1 = omega (arith, low, high) in
        ap (λ m. a % m) one ∙ zeros a b ∙ sym (ap (λ m. b % m) one)
      where
        zeros : (a b : ℕ) → a % 1 ≡ b % 1
        zeros a b = omega arith
