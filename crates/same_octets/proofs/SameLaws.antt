-- Lists of octets that are compared many at once.
use Rattle.std.proofs.Common.{◌≡◌, ℕ, ◌+◌, ◌%◌, ◌^◌, ◌≤◌, eqb, Bool, not, cond, List, [], ◌∷◌, ◌++◌, length, map, take, w8, refl, sym, ap, ap₂, ◌∙◌, arith, inl, inr}
use Rattle.std.proofs.Math.Seq.{take-add}
use Rattle.std.proofs.lemmas.Bool.Decides.{eqb_tells}
use Rattle.std.proofs.lemmas.List.{take-take, take_all}
use Rattle.std.proofs.lemmas.Simd.{length-chunk, length-zip2, tops_compared, mask_l-mod}
use lib.Lanes.{chunk, zip2, mask_l, top}

abbrev differs : ℕ → ℕ → Bool
differs x y = not (eqb x y)

-- lists of one length, none of whose elements differ, are equal
none_differ : (xs ys : List ℕ) → length xs ≡ length ys → mask_l (zip2 differs xs ys) ≡ 0 → xs ≡ ys
none_differ [] [] same none = refl
none_differ [] (y ∷ ys) same none = absurd (omega (arith, same))
none_differ (x ∷ xs) [] same none = absurd (omega (arith, same))
none_differ (x ∷ xs) (y ∷ ys) same none = elim (eqb_tells x y) [
  | inl e ↦
      let left = rw e.0 at none in
      ap₂ (λ (h : ℕ) (t : List ℕ). h ∷ t) e.1 (none_differ xs ys (omega (arith, same)) (omega (arith, left)))
  | inr e ↦
      let left = rw e.0 at none in
      absurd (omega (arith, left))
]

-- and none differs in equal lists
all_alike : (xs : List ℕ) → mask_l (zip2 differs xs xs) ≡ 0
all_alike [] = refl
all_alike (x ∷ xs) = elim (eqb_tells x x) [
  | inl e ↦ rw e.0 (let rest = all_alike xs in omega (arith, rest))
  | inr e ↦ absurd (e.1 refl)
]

-- the mask of the octets that differ
pub same_chunk : (a b : List ℕ) (at : ℕ) → at + 32 ≤ length a → at + 32 ≤ length b
    → mask_l (map (top 7) (zip2 (λ x y. cond (differs x y) 255 0) (chunk at 32 a) (chunk at 32 b))) % 2 ^ 64 ≡ 0 → chunk at 32 a ≡ chunk at 32 b
same_chunk a b at in_a in_b none =
    let xs = chunk at 32 a in
    let ys = chunk at 32 b in
    let long_a = length-chunk at 32 a in_a in
    let long_b = length-chunk at 32 b in_b in
    let even : length xs ≡ length ys = long_a ∙ sym long_b in
    let wide = length-zip2 differs xs ys even in
    let mask = ap (λ (m : List Bool). mask_l m % 2 ^ 64) (tops_compared w8 differs xs ys) ∙ mask_l-mod (zip2 differs xs ys) 64 (omega (arith, wide, long_a)) in
    none_differ xs ys even (sym mask ∙ none)

pub alike_chunk : (a b : List ℕ) (at : ℕ) → at + 32 ≤ length a → at + 32 ≤ length b → chunk at 32 a ≡ chunk at 32 b
    → mask_l (map (top 7) (zip2 (λ x y. cond (differs x y) 255 0) (chunk at 32 a) (chunk at 32 b))) % 2 ^ 64 ≡ 0
alike_chunk a b at in_a in_b same =
    let xs = chunk at 32 a in
    let ys = chunk at 32 b in
    let long_a = length-chunk at 32 a in_a in
    let even : length xs ≡ length ys = ap (λ (l : List ℕ). length l) same in
    let wide = length-zip2 differs xs ys even in
    ap (λ (m : List Bool). mask_l m % 2 ^ 64) (tops_compared w8 differs xs ys)
    ∙ mask_l-mod (zip2 differs xs ys) 64 (omega (arith, wide, long_a))
    ∙ ap (λ (l : List ℕ). mask_l (zip2 differs xs l)) (sym same)
    ∙ all_alike xs

-- more octets at the front
pub same_more : (a b : List ℕ) (at n : ℕ) → take at a ≡ take at b → chunk at n a ≡ chunk at n b → take (at + n) a ≡ take (at + n) b
same_more a b at n so_far more = take-add at n a ∙ ap₂ (λ (l m : List ℕ). l ++ m) so_far more ∙ sym (take-add at n b)

-- the octets before an index, and the last ones from there on or before
pub same_whole : (a b : List ℕ) (at last n : ℕ) → length a ≡ length b → last + n ≡ length a → last ≤ at → take at a ≡ take at b → chunk last n a ≡ chunk last n b → a ≡ b
same_whole a b at last n even ends before so_far more =
    let front = sym (take-take last at a before) ∙ ap (take last) so_far ∙ take-take last at b before in
    sym (take_all (last + n) a (omega (arith, ends))) ∙ same_more a b last n front more ∙ take_all (last + n) b (omega (arith, ends, even))
