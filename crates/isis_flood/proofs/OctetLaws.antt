-- Masks of an octet each, many of which are tested for a link at once.
use Rattle.std.proofs.Common.{◌≡◌, ℕ, eq-eqb, zero, suc, ◌+◌, ◌-◌, ◌*◌, ◌%◌, ◌^◌, ◌<◌, ◌≤◌, ◌==◌, eqb, Bool, true, false, not, cond, List, [], ◌∷◌, length, map, take, drop, get_or, replicate, bit_and, Fits, w8, refl, sym, ap, ◌∙◌, arith, inl, inr}
use Rattle.std.specs.Int.{bit_at}
use Rattle.std.specs.List.{position_or_len}
use Rattle.std.specs.Int.Bits.{and_zero_r}
use Rattle.std.proofs.Math.Pow.{pow-lt}
use Rattle.std.proofs.lemmas.Bool.{cases_lt, ne_eqb}
use Rattle.std.proofs.lemmas.List.{length-map, drop-drop}
use Rattle.std.proofs.lemmas.Nat.{pow_pos, pow-add}
use Rattle.std.proofs.lemmas.Nat.Bits.{and_pow, bit_at-lt, bit_at_above}
use Rattle.std.proofs.lemmas.Simd.{length-chunk, chunk-fits, zip2_splat, bitmask_splat}
use lib.Lanes.{chunk, zip2, mask_l, top, Each1}
use Rattle.isis_flood.specs.Masks.{at_bit}

abbrev differs : ℕ → ℕ → Bool
differs a b = not (eqb a b)

one_shared : (b n : ℕ) → b < 2 → 0 < n → differs (b * n) 0 ≡ (b == 1)
one_shared zero n low some = ap not (eq-eqb (0 * n) 0 (omega arith))
one_shared (suc zero) n low some = ap not (ne_eqb (1 * n) 0 (λ e. absurd (omega (arith, some, e))))
one_shared (suc (suc b)) n low some = absurd (omega (arith, low))

-- an octet has a link where it shares a bit with what an octet keeps of the link's bit
has_one : (x link bit : ℕ) → x < 256 → bit ≡ 1 * 2 ^ link % 2 ^ 64 % 256 → differs (bit_and x bit) 0 ≡ at_bit x link
has_one x link bit fits is = elim (cases_lt link 8) [
  | inl low ↦
      let small : 2 ^ link < 2 ^ 8 = pow-lt low in
      let e : bit ≡ 2 ^ link = omega (arith, is, small) in
      rw (e, and_pow x link) (one_shared (bit_at x link) (2 ^ link) (bit_at-lt x link) (pow_pos link))
  | inr high ↦
      let split : 2 ^ (8 + (link - 8)) ≡ 2 ^ 8 * 2 ^ (link - 8) = pow-add 2 8 (link - 8) in
      let whole : 2 ^ link ≡ 256 * 2 ^ (link - 8) = ap (λ k. 2 ^ k) (omega (arith, high)) ∙ split in
      let e : bit ≡ 0 = omega (arith, is, whole) in
      rw (e, and_zero_r x, bit_at_above x 8 link fits high) refl
]

each_has : (link bit : ℕ) (v : List ℕ) → Each1 (Fits w8) v → bit ≡ 1 * 2 ^ link % 2 ^ 64 % 256 → map (λ x. differs x 0) (map (λ x. bit_and x bit) v) ≡ map (λ mask. at_bit mask link) v
each_has link bit [] fit is = refl
each_has link bit (x ∷ xs) fit is =
    let first = has_one x link bit fit.0.fits is in
    let more = each_has link bit xs fit.1 is in
    λ i. first i ∷ more i

-- the bits of a chunk say which of its octets have the link
pub chunk_mask : (octets : List ℕ) (at n link bit : ℕ) → at + n ≤ length octets → n ≤ 64 → ((k : ℕ) → Fits w8 (get_or octets k 0)) → bit ≡ 1 * 2 ^ link % 2 ^ 64 % 256
    → mask_l (map (top 7) (zip2 (λ a b. cond (differs a b) 255 0) (zip2 bit_and (chunk at n octets) (replicate n bit)) (replicate n 0))) % 2 ^ 64 ≡ mask_l (map (λ mask. at_bit mask link) (chunk at n octets))
chunk_mask octets at n link bit within few fits is =
    let v = chunk at n octets in
    let long = length-chunk at n octets within in
    let shared = zip2_splat bit_and v n bit long in
    rw shared (bitmask_splat w8 differs (map (λ x. bit_and x bit) v) n 0 (length-map v (λ x. bit_and x bit) ∙ long) few ∙ ap mask_l (each_has link bit v (chunk-fits w8 at n octets fits) is))

stops_in : {X : Type 0} (p : X → Bool) (n : ℕ) (xs : List X) → position_or_len p (take n xs) < n → position_or_len p xs ≡ position_or_len p (take n xs)
stops_in p zero xs lt = absurd (omega (arith, lt))
stops_in p (suc n) [] lt = refl
stops_in p (suc n) (x ∷ xs) lt = by (p x) refl lt (stops_in p n xs)
  where
    by : (b : Bool) → p x ≡ b → position_or_len p (take (suc n) (x ∷ xs)) < suc n → (position_or_len p (take n xs) < n → position_or_len p xs ≡ position_or_len p (take n xs)) → position_or_len p (x ∷ xs) ≡ position_or_len p (take (suc n) (x ∷ xs))
    by true e lt rest = rw e refl
    by false e lt rest =
        let short : 1 + position_or_len p (take n xs) < suc n = rw e at lt in
        rw e (ap (λ k. 1 + k) (rest (omega (arith, short))))

passes_in : {X : Type 0} (p : X → Bool) (n : ℕ) (xs : List X) → n ≤ position_or_len p (take n xs) → n + position_or_len p (drop n xs) ≡ position_or_len p xs
passes_in p zero xs le = omega arith
passes_in p (suc n) [] le = absurd (omega (arith, le))
passes_in p (suc n) (x ∷ xs) le = by (p x) refl le (passes_in p n xs)
  where
    by : (b : Bool) → p x ≡ b → suc n ≤ position_or_len p (take (suc n) (x ∷ xs)) → (n ≤ position_or_len p (take n xs) → n + position_or_len p (drop n xs) ≡ position_or_len p xs) → suc n + position_or_len p (drop (suc n) (x ∷ xs)) ≡ position_or_len p (x ∷ xs)
    by true e le rest =
        let none : suc n ≤ 0 = rw e at le in
        absurd (omega (arith, none))
    by false e le rest =
        let long : suc n ≤ 1 + position_or_len p (take n xs) = rw e at le in
        rw e (let r = rest (omega (arith, long)) in omega (arith, r))

-- the first of a chunk that passes the test is the first of all
pub chunk_stops : {X : Type 0} (p : X → Bool) (xs : List X) (at n ahead : ℕ) → ahead ≡ position_or_len p (chunk at n xs) → ahead < n → at + ahead ≡ at + position_or_len p (drop at xs)
chunk_stops p xs at n ahead is lt = ap (λ k. at + k) (is ∙ sym (stops_in p n (drop at xs) (omega (arith, is, lt))))

-- a chunk of which none passes the test is passed over at once
pub chunk_passes : {X : Type 0} (p : X → Bool) (xs : List X) (at n next : ℕ) → next ≡ at + n → n ≤ position_or_len p (chunk at n xs) → next + position_or_len p (drop next xs) ≡ at + position_or_len p (drop at xs)
chunk_passes p xs at n next step le = rw step (
    let r = passes_in p n (drop at xs) le in
    let e = ap (position_or_len p) (drop-drop n at xs) in
    omega (arith, r, e))
