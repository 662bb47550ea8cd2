-- The two sums of joined lists, and the one pair that makes both 0.
use Rattle.std.proofs.Common.{◌≡◌, ℕ, suc, ◌+◌, ◌-◌, ◌*◌, ◌/◌, ◌%◌, ◌<◌, ◌≤◌, Bool, true, false, ◌&&◌, eqb, eq-eqb, List, [], ◌∷◌, ◌++◌, length, sum, get_or, take, drop, refl, sym, ap, subst, ◌∙◌, arith, length-append}
use Rattle.std.proofs.Math.Nat.{mul-suc, mul-add, add-mul, mod-add-mod}
use Rattle.std.proofs.lemmas.List.{drop_more, take_more, take_all, take-append-drop, length-drop}
use Rattle.std.proofs.lemmas.List.Sums.{sum_by-append, sum_by-cons}
use Rattle.std.proofs.lemmas.Nat.{mul-mod_first}
use Rattle.std.proofs.lemmas.Bool.{eqb-true}
use Rattle.wire_base.specs.model.Checksum.{weighted, IsRight, is_right, IsCheck, with_pair, check_first, check_second, check_sum}

pub sum-joined : (xs ys : List ℕ) → sum (xs ++ ys) ≡ sum xs + sum ys
sum-joined xs ys = sum_by-append (λ x. x) xs ys

sum-first : (x : ℕ) (xs : List ℕ) → sum (x ∷ xs) ≡ x + sum xs
sum-first x xs = sum_by-cons (λ y. y) x xs

pub weighted-joined : (xs ys : List ℕ) → weighted (xs ++ ys) ≡ weighted xs + sum xs * length ys + weighted ys
weighted-joined [] ys = omega arith
weighted-joined (x ∷ xs) ys =
    let e = weighted-joined xs ys in
    let l : suc (length (xs ++ ys)) ≡ suc (length xs) + length ys = omega (arith, length-append xs ys) in
    let m : x * suc (length (xs ++ ys)) ≡ x * suc (length xs) + x * length ys = ap (λ (n : ℕ). x * n) l ∙ mul-add x (suc (length xs)) (length ys) in
    let f = sum-first x xs in
    let a : (x + sum xs) * length ys ≡ x * length ys + sum xs * length ys = add-mul x (sum xs) (length ys) in
    rw f (omega (arith, e, m, a))

-- one more octet at the end
pub weighted-more : (xs : List ℕ) (x : ℕ) → weighted (xs ++ x ∷ []) ≡ weighted xs + sum xs + x
weighted-more xs x = let e = weighted-joined xs (x ∷ []) in omega (arith, e)

-- the sums of octets with a pair at a place
pub record HasSums (octets : List ℕ) (at a b : ℕ) : Type 0 where
  pub plain : sum (with_pair octets at (a, b)) ≡ sum octets + a + b
  pub heavy : weighted (with_pair octets at (a, b)) ≡ weighted octets + a + (a + b) * (length octets - at - 1)

-- octets that have 0 and 0 at a place
split_zeros : (octets : List ℕ) (at : ℕ) → at + 2 ≤ length octets → get_or octets at 0 ≡ 0 → get_or octets (at + 1) 0 ≡ 0 → octets ≡ take at octets ++ (0 ∷ 0 ∷ drop (at + 2) octets)
split_zeros octets at within first second =
    let one : drop at octets ≡ get_or octets at 0 ∷ drop (at + 1) octets = drop_more octets at 0 (omega arith) in
    let two : drop (at + 1) octets ≡ get_or octets (at + 1) 0 ∷ drop (at + 1 + 1) octets = drop_more octets (at + 1) 0 (omega arith) in
    let same : at + 1 + 1 ≡ at + 2 = omega arith in
    sym (take-append-drop at octets) ∙ ap (λ (l : List ℕ). take at octets ++ l) (one ∙ ap (λ (n : ℕ). n ∷ drop (at + 1) octets) first ∙ ap (λ (l : List ℕ). 0 ∷ l) (two ∙ ap (λ (n : ℕ). n ∷ drop (at + 1 + 1) octets) second ∙ ap (λ (n : ℕ). 0 ∷ drop n octets) same))

pub pair_sums : (octets : List ℕ) (at a b : ℕ) → at + 2 ≤ length octets → get_or octets at 0 ≡ 0 → get_or octets (at + 1) 0 ≡ 0 → HasSums octets at a b
pair_sums octets at a b within first second =
    let front = take at octets in
    let rest = drop (at + 2) octets in
    let split = split_zeros octets at within first second in
    let len : length rest + 2 + at ≡ length octets = omega (arith, length-drop (at + 2) octets) in
    let k : length octets - at - 1 ≡ suc (length rest) = omega arith in
    let z : sum (0 ∷ 0 ∷ rest) ≡ sum rest = sum-first 0 (0 ∷ rest) ∙ ap (λ (n : ℕ). 0 + n) (sum-first 0 rest) ∙ omega arith in
    let z' : sum (a ∷ b ∷ rest) ≡ a + (b + sum rest) = sum-first a (b ∷ rest) ∙ ap (λ (n : ℕ). a + n) (sum-first b rest) in
    let s0 : sum octets ≡ sum front + sum rest = ap sum split ∙ sum-joined front (0 ∷ 0 ∷ rest) ∙ ap (λ (n : ℕ). sum front + n) z in
    let s1 = sum-joined front (a ∷ b ∷ rest) in
    let w0 : weighted octets ≡ weighted front + sum front * (suc (suc (length rest))) + weighted rest = ap weighted split ∙ weighted-joined front (0 ∷ 0 ∷ rest) ∙ omega arith in
    let w1 = weighted-joined front (a ∷ b ∷ rest) in
    let m : (a + b) * suc (length rest) ≡ a * suc (length rest) + b * suc (length rest) = add-mul a b (suc (length rest)) in
    let n : a * suc (suc (length rest)) ≡ a * suc (length rest) + a = mul-suc a (suc (length rest)) in
    record { plain = omega (arith, s0, s1, z'); heavy = rw k (omega (arith, w0, w1, m, n)) }

-- Sums s and w of the octets, and k octets after the first of the pair: the pair (a, b) makes both sums 0.
pub record Solves (s w k a b : ℕ) : Type 0 where
  pub plain : (s + a + b) % 255 ≡ 0
  pub heavy : (w + a + (a + b) * k) % 255 ≡ 0

-- the product of what both must add up to
turned : (s k a b : ℕ) → (s + a + b) % 255 ≡ 0 → ((a + b) * k) % 255 ≡ ((255 - s % 255) * k) % 255
turned s k a b e =
    let same : (a + b) % 255 ≡ (255 - s % 255) % 255 = omega arith in
    sym (mul-mod_first (a + b) k 255) ∙ ap (λ (n : ℕ). (n * k) % 255) same ∙ mul-mod_first (255 - s % 255) k 255

pub solves : (s w k a b : ℕ) → a ≡ 255 - (w % 255 + (255 - s % 255) * k) % 255 → b ≡ 255 - (s % 255 + a) % 255 → Solves s w k a b
solves s w k a b a-is b-is =
    let plain : (s + a + b) % 255 ≡ 0 = omega arith in
    let t = turned s k a b plain in
    record { plain = plain; heavy = omega (arith, t) }

pub only_one : (s w k a b : ℕ) → 1 ≤ a → a ≤ 255 → 1 ≤ b → b ≤ 255 → Solves s w k a b → (a ≡ 255 - (w % 255 + (255 - s % 255) * k) % 255) × (b ≡ 255 - (s % 255 + a) % 255)
only_one s w k a b a1 a2 b1 b2 h =
    let plain = h.plain in
    let heavy = h.heavy in
    let t = turned s k a b plain in
    (omega (arith, t, heavy), omega (arith, plain))

-- one step of a loop over octets
pub sum_step : (xs : List ℕ) (i : ℕ) → i < length xs → sum (take (i + 1) xs) ≡ sum (take i xs) + get_or xs i 0
sum_step xs i h = ap sum (take_more xs i 0 h) ∙ sum-joined (take i xs) (get_or xs i 0 ∷ []) ∙ ap (λ (n : ℕ). sum (take i xs) + n) (sum-first (get_or xs i 0) [] ∙ omega arith)

pub weighted_step : (xs : List ℕ) (i : ℕ) → i < length xs → weighted (take (i + 1) xs) ≡ weighted (take i xs) + sum (take i xs) + get_or xs i 0
weighted_step xs i h = ap weighted (take_more xs i 0 h) ∙ weighted-more (take i xs) (get_or xs i 0)

pub take_whole : (xs : List ℕ) (i : ℕ) → length xs ≤ i → take i xs ≡ xs
take_whole xs i h = take_all i xs h

-- ---- the one pair

first_of : ℕ → ℕ → ℕ → ℕ
first_of s w after = 255 - (w % 255 + (255 - s % 255) * after) % 255

first_is : (octets : List ℕ) (at : ℕ) → first_of (sum octets) (weighted octets) (length octets - at - 1) ≡ check_first octets at
unfolding first_of
first_is octets at =
    let e = mod-add-mod (weighted octets) 255 ((255 - sum octets % 255) * (length octets - at - 1)) in
    ap (λ (n : ℕ). 255 - n) e

second_is : (s a : ℕ) → 255 - (s % 255 + a) % 255 ≡ 255 - (s + a) % 255
second_is s a = ap (λ (n : ℕ). 255 - n) (mod-add-mod s 255 a)

pub check_found : (octets : List ℕ) (at : ℕ) → at + 2 ≤ length octets → get_or octets at 0 ≡ 0 → get_or octets (at + 1) 0 ≡ 0 → IsCheck octets at (check_first octets at, check_second octets at)
unfolding first_of
check_found octets at within z0 z1 =
    let k = length octets - at - 1 in
    let a = check_first octets at in
    let b = check_second octets at in
    let sums = pair_sums octets at a b within z0 z1 in
    let s = solves (sum octets) (weighted octets) k a b (sym (first_is octets at)) (sym (second_is (sum octets) a)) in
    record {
      first = record { above_zero = omega arith; in_octet = omega arith };
      second = record { above_zero = omega arith; in_octet = omega arith };
      right = record { plain = ap (λ (n : ℕ). n % 255) sums.plain ∙ s.plain; heavy = ap (λ (n : ℕ). n % 255) sums.heavy ∙ s.heavy };
    }

pub check_only : (octets : List ℕ) (at : ℕ) (pair : ℕ × ℕ) → at + 2 ≤ length octets → get_or octets at 0 ≡ 0 → get_or octets (at + 1) 0 ≡ 0 → IsCheck octets at pair
    → (pair.0 ≡ check_first octets at) × (pair.1 ≡ check_second octets at)
unfolding first_of
check_only octets at pair within z0 z1 is =
    let k = length octets - at - 1 in
    let sums = pair_sums octets at pair.0 pair.1 within z0 z1 in
    let s : Solves (sum octets) (weighted octets) k pair.0 pair.1 = record { plain = ap (λ (n : ℕ). n % 255) (sym sums.plain) ∙ is.right.plain; heavy = ap (λ (n : ℕ). n % 255) (sym sums.heavy) ∙ is.right.heavy } in
    let o = only_one (sum octets) (weighted octets) k pair.0 pair.1 is.first.above_zero is.first.in_octet is.second.above_zero is.second.in_octet s in
    let first : pair.0 ≡ check_first octets at = o.0 ∙ first_is octets at in
    (first, o.1 ∙ second_is (sum octets) pair.0 ∙ ap (λ (n : ℕ). 255 - (sum octets + n) % 255) first)

-- the number of both octets, and the octets of the number
pub check_sum_is : (octets : List ℕ) (at : ℕ) → check_sum octets at ≡ check_first octets at * 256 + check_second octets at
unfolding check_sum
check_sum_is octets at = refl

-- ---- the test

pub and_true : (a b : Bool) → (a && b) ≡ true → (a ≡ true) × (b ≡ true)
and_true true b e = (refl, e)
and_true false b e = absurd cc

pub right_from : (octets : List ℕ) → is_right octets ≡ true → IsRight octets
right_from octets e = let b = and_true _ _ e in record { plain = eqb-true _ _ b.0; heavy = eqb-true _ _ b.1 }

pub right_test : (octets : List ℕ) → IsRight octets → is_right octets ≡ true
right_test octets right = let a : eqb (sum octets % 255) 0 ≡ true = eq-eqb _ _ right.plain in let b : eqb (weighted octets % 255) 0 ≡ true = eq-eqb _ _ right.heavy in rw (a, b) refl

two_octets : (n a b : ℕ) → b < 256 → n ≡ a * 256 + b → (n / 256 ≡ a) × (n % 256 ≡ b)
two_octets n a b small e = (omega arith, omega arith)

-- the octets of that number are the pair
pub check_octets : (octets : List ℕ) (at n : ℕ) → n ≡ check_sum octets at → IsCheck octets at (check_first octets at, check_second octets at) → IsCheck octets at (n / 256, n % 256)
check_octets octets at n e is =
    let high = is.second.in_octet in
    let both = two_octets n (check_first octets at) (check_second octets at) (omega arith) (e ∙ check_sum_is octets at) in
    subst (λ (a : ℕ). IsCheck octets at (a, n % 256)) (sym both.0) (subst (λ (b : ℕ). IsCheck octets at (check_first octets at, b)) (sym both.1) is)

-- what `checksum_at` computes from the two sums modulo 255
pub check_from : (octets : List ℕ) (at plain heavy first : ℕ) → plain ≡ sum octets % 255 → heavy ≡ weighted octets % 255 → first ≡ 255 - (heavy + (255 - plain) * (length octets - at - 1)) % 255
    → first * 256 + (255 - (plain + first) % 255) ≡ check_sum octets at
unfolding first_of
check_from octets at plain heavy first p h f =
    let one : first ≡ check_first octets at = f ∙ ap (λ (n : ℕ). 255 - (n + (255 - plain) * (length octets - at - 1)) % 255) h ∙ ap (λ (n : ℕ). 255 - (weighted octets % 255 + (255 - n) * (length octets - at - 1)) % 255) p ∙ first_is octets at in
    let two : 255 - (plain + first) % 255 ≡ 255 - (sum octets + first) % 255 = ap (λ (n : ℕ). 255 - (n + first) % 255) p ∙ second_is (sum octets) first in
    ap (λ (n : ℕ). first * 256 + n) two ∙ ap (λ (n : ℕ). n * 256 + (255 - (sum octets + n) % 255)) one ∙ sym (check_sum_is octets at)

-- any pair that makes the octets right is that number
pub check_one : (octets : List ℕ) (at : ℕ) (pair : ℕ × ℕ) → at + 2 ≤ length octets → get_or octets at 0 ≡ 0 → get_or octets (at + 1) 0 ≡ 0 → IsCheck octets at pair → check_sum octets at ≡ pair.0 * 256 + pair.1
check_one octets at pair within z0 z1 is =
    let o = check_only octets at pair within z0 z1 is in
    check_sum_is octets at ∙ ap (λ (n : ℕ). n * 256 + check_second octets at) (sym o.0) ∙ ap (λ (n : ℕ). pair.0 * 256 + n) (sym o.1)
