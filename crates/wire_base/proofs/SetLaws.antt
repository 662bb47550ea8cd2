-- Laws of sets of positions: each operation by membership, and sets with the same members are one list.
use Rattle.std.proofs.Common.{◌≡◌, ℕ, zero, suc, ◌*◌, ◌<◌, ◌≤◌, ◌==◌, Bool, true, false, not, ◌&&◌, ◌||◌, List, [], ◌∷◌, ◌++◌, refl, sym, ap, ◌∙◌, arith, inl, inr, filter, length}
use Rattle.std.proofs.lemmas.Bool.{cases_Bool, cases_lt, cases_order, eq-eqb, ne_eqb, lt-ltb, le-ltb, true≢false}
use Rattle.std.proofs.lemmas.Bool.Decides.{eqb_tells}
use Rattle.std.proofs.Math.Bool.{or_assoc}
use Rattle.wire_base.specs.model.BitSet.{has_member, with_member, IsWithin, intersection, difference, union, up_to, has_bit, set_of}

and_false : (b : Bool) → (b && false) ≡ false
and_false true = refl
and_false false = refl

or_same : (a b : Bool) → (a || b) ≡ (a || (a || b))
or_same true b = refl
or_same false b = refl

or_swap : (a b c : Bool) → (a || (b || c)) ≡ (b || (a || c))
or_swap true true c = refl
or_swap true false c = refl
or_swap false b c = refl

-- members lie within the bounds
pub has_head : (x : ℕ) (xs : List ℕ) → has_member x (x ∷ xs) ≡ true
has_head x xs = rw (eq-eqb x x refl) refl

pub has_tail : (p x : ℕ) (xs : List ℕ) → (p ≡ x → ⊥) → has_member p (x ∷ xs) ≡ has_member p xs
has_tail p x xs other = rw (ne_eqb p x other) refl

pub none_below : (p low high : ℕ) (xs : List ℕ) → IsWithin low high xs → p ≤ low → has_member p xs ≡ false
none_below p low high [] is le = refl
none_below p low high (x ∷ xs) is le = has_tail p x xs (λ e. omega (arith, is.0)) ∙ none_below p x high xs is.2 (omega (arith, is.0))

pub none_above : (p low high : ℕ) (xs : List ℕ) → IsWithin low high xs → high < p → has_member p xs ≡ false
none_above p low high [] is lt = refl
none_above p low high (x ∷ xs) is lt = has_tail p x xs (λ e. omega (arith, is.1)) ∙ none_above p x high xs is.2 lt

pub within_lower : (low a high : ℕ) (xs : List ℕ) → low ≤ a → IsWithin a high xs → IsWithin low high xs
within_lower low a high [] le is = tt
within_lower low a high (x ∷ xs) le is = (omega (arith, is.0), is.1, is.2)

-- ascending lists with the same members are equal
pub same_set : (low high a b : ℕ) (xs ys : List ℕ) → IsWithin low high xs → IsWithin a b ys → ((p : ℕ) → has_member p xs ≡ has_member p ys) → xs ≡ ys
same_set low high a b [] [] in_x in_y same = refl
same_set low high a b [] (y ∷ ys) in_x in_y same = absurd (true≢false (sym (same y ∙ has_head y ys)))
same_set low high a b (x ∷ xs) [] in_x in_y same = absurd (true≢false (sym (has_head x xs) ∙ same x))
same_set low high a b (x ∷ xs) (y ∷ ys) in_x in_y same = elim (cases_order x y) [
  | inl e ↦ ap (λ (k : ℕ). k ∷ xs) e ∙ ap (λ (l : List ℕ). y ∷ l) (same_set x high y b xs ys in_x.2 in_y.2 (λ p. elim (cases_lt x p) [
    | inl lt ↦ sym (has_tail p x xs (λ eq. omega arith)) ∙ same p ∙ has_tail p y ys (λ eq. omega arith)
    | inr le ↦ none_below p x high xs in_x.2 le ∙ sym (none_below p y b ys in_y.2 (omega arith))
  ]))
  | inr other ↦ elim other [
    | inl lt ↦ absurd (true≢false (sym (has_head x xs) ∙ same x ∙ has_tail x y ys (λ eq. omega arith) ∙ none_below x y b ys in_y.2 (omega arith)))
    | inr gt ↦ absurd (true≢false (sym (has_head y ys) ∙ sym (same y) ∙ has_tail y x xs (λ eq. omega arith) ∙ none_below y x high xs in_x.2 (omega arith)))
  ]
]

pub same_within : (n : ℕ) (xs ys : List ℕ) → IsWithin 0 n xs → IsWithin 0 n ys → ((p : ℕ) → 1 ≤ p → p ≤ n → has_member p xs ≡ has_member p ys) → xs ≡ ys
same_within n xs ys in_x in_y same = same_set 0 n 0 n xs ys in_x in_y (λ p. elim (cases_lt p 1) [
  | inl before ↦ none_below p 0 n xs in_x (omega arith) ∙ sym (none_below p 0 n ys in_y (omega arith))
  | inr low ↦ elim (cases_lt n p) [
    | inl above ↦ none_above p 0 n xs in_x above ∙ sym (none_above p 0 n ys in_y above)
    | inr high ↦ same p low high
  ]
])

-- the positions that pass a test
pub has-filter : (p : ℕ) (test : ℕ → Bool) (xs : List ℕ) → has_member p (filter test xs) ≡ (has_member p xs && test p)
has-filter p test [] = refl
has-filter p test (x ∷ xs) = elim (eqb_tells p x) [
  | inl same ↦ elim (cases_Bool (test x)) [
    | inl holds ↦ rw (holds, same.0, ap test same.1 ∙ holds) refl
    | inr fails ↦ rw (fails, same.0) (has-filter p test xs ∙ rw (ap test same.1 ∙ fails) (and_false (has_member p xs)))
  ]
  | inr other ↦ elim (cases_Bool (test x)) [
    | inl holds ↦ rw (holds, other.0) (has-filter p test xs)
    | inr fails ↦ rw (fails, other.0) (has-filter p test xs)
  ]
]

pub within-filter : (low high : ℕ) (test : ℕ → Bool) (xs : List ℕ) → IsWithin low high xs → IsWithin low high (filter test xs)
within-filter low high test [] is = tt
within-filter low high test (x ∷ xs) is = elim (cases_Bool (test x)) [
  | inl holds ↦ rw holds (is.0, is.1, within-filter x high test xs is.2)
  | inr fails ↦ rw fails (within_lower low x high (filter test xs) (omega (arith, is.0)) (within-filter x high test xs is.2))
]

-- a set with one position more
pub has-with : (p q : ℕ) (xs : List ℕ) → has_member p (with_member q xs) ≡ ((p == q) || has_member p xs)
has-with p q [] = refl
has-with p q (x ∷ xs) = elim (cases_order q x) [
  | inl e ↦ rw (le-ltb q x (omega arith), eq-eqb q x e, e) (or_same (p == x) (has_member p xs))
  | inr other ↦ elim other [
    | inl lt ↦ rw (lt-ltb q x lt) refl
    | inr gt ↦ rw (le-ltb q x (omega arith), ne_eqb q x (λ e. omega arith)) (ap (λ (b : Bool). (p == x) || b) (has-with p q xs) ∙ or_swap (p == x) (p == q) (has_member p xs))
  ]
]

pub within-with : (low high q : ℕ) (xs : List ℕ) → low < q → q ≤ high → IsWithin low high xs → IsWithin low high (with_member q xs)
within-with low high q [] lt le is = (lt, le, tt)
within-with low high q (x ∷ xs) lt le is = elim (cases_order q x) [
  | inl e ↦ rw (le-ltb q x (omega arith), eq-eqb q x e) is
  | inr other ↦ elim other [
    | inl before ↦ rw (lt-ltb q x before) (lt, le, (before, is.1, is.2))
    | inr after ↦ rw (le-ltb q x (omega arith), ne_eqb q x (λ e. omega arith)) (is.0, is.1, within-with x high q xs after le is.2)
  ]
]

-- union, intersection and difference
pub has-union : (p : ℕ) (xs ys : List ℕ) → has_member p (union xs ys) ≡ (has_member p xs || has_member p ys)
has-union p [] ys = refl
has-union p (x ∷ xs) ys = has-with p x (union xs ys) ∙ ap (λ (b : Bool). (p == x) || b) (has-union p xs ys) ∙ sym (or_assoc (p == x) (has_member p xs) (has_member p ys))

pub within-union : (low high : ℕ) (xs ys : List ℕ) → IsWithin low high xs → IsWithin low high ys → IsWithin low high (union xs ys)
within-union low high [] ys in_x in_y = in_y
within-union low high (x ∷ xs) ys in_x in_y = within-with low high x (union xs ys) in_x.0 in_x.1 (within-union low high xs ys (within_lower low x high xs (omega (arith, in_x.0)) in_x.2) in_y)

pub has-intersection : (p : ℕ) (xs ys : List ℕ) → has_member p (intersection xs ys) ≡ (has_member p xs && has_member p ys)
has-intersection p xs ys = has-filter p (λ q. has_member q ys) xs

pub within-intersection : (low high : ℕ) (xs ys : List ℕ) → IsWithin low high xs → IsWithin low high (intersection xs ys)
within-intersection low high xs ys is = within-filter low high (λ q. has_member q ys) xs is

pub has-difference : (p : ℕ) (xs ys : List ℕ) → has_member p (difference xs ys) ≡ (has_member p xs && not (has_member p ys))
has-difference p xs ys = has-filter p (λ q. not (has_member q ys)) xs

pub within-difference : (low high : ℕ) (xs ys : List ℕ) → IsWithin low high xs → IsWithin low high (difference xs ys)
within-difference low high xs ys is = within-filter low high (λ q. not (has_member q ys)) xs is

-- the numbers from 1 on
pub has-append : (p : ℕ) (xs ys : List ℕ) → has_member p (xs ++ ys) ≡ (has_member p xs || has_member p ys)
has-append p [] ys = refl
has-append p (x ∷ xs) ys = ap (λ (b : Bool). (p == x) || b) (has-append p xs ys) ∙ sym (or_assoc (p == x) (has_member p xs) (has_member p ys))

pub within-push : (low n : ℕ) (xs : List ℕ) → low ≤ n → IsWithin low n xs → IsWithin low (suc n) (xs ++ suc n ∷ [])
within-push low n [] le is = (omega arith, omega arith, tt)
within-push low n (x ∷ xs) le is = (is.0, omega (arith, is.1), within-push x n xs is.1 is.2)

pub within-up_to : (n : ℕ) → IsWithin 0 n (up_to n)
within-up_to zero = tt
within-up_to (suc n) = within-push 0 n (up_to n) (omega arith) (within-up_to n)

pub has-up_to : (p n : ℕ) → 1 ≤ p → p ≤ n → has_member p (up_to n) ≡ true
has-up_to p zero low high = absurd (omega arith)
has-up_to p (suc n) low high = has-append p (up_to n) (suc n ∷ []) ∙ elim (cases_lt n p) [
  | inl last ↦ rw (none_above p 0 n (up_to n) (within-up_to n) last, eq-eqb p (suc n) (omega arith)) refl
  | inr before ↦ rw (has-up_to p n low before) refl
]

-- a set is what passes its test, among all positions
pub filter-is : (n : ℕ) (test : ℕ → Bool) (xs : List ℕ) → IsWithin 0 n xs → ((p : ℕ) → 1 ≤ p → p ≤ n → has_member p xs ≡ test p) → filter test (up_to n) ≡ xs
filter-is n test xs is same = same_within n (filter test (up_to n)) xs (within-filter 0 n test (up_to n) (within-up_to n)) is
    (λ p low high. has-filter p test (up_to n) ∙ rw (has-up_to p n low high) (sym (same p low high)))

-- the set that octets stand for
pub within-set_of : (octets : List ℕ) → IsWithin 0 (8 * length octets) (set_of octets)
unfolding set_of
within-set_of octets = within-filter 0 (8 * length octets) (has_bit octets) (up_to (8 * length octets)) (within-up_to (8 * length octets))

pub has-set_of : (p : ℕ) (octets : List ℕ) → 1 ≤ p → p ≤ 8 * length octets → has_member p (set_of octets) ≡ has_bit octets p
unfolding set_of
has-set_of p octets low high = has-filter p (has_bit octets) (up_to (8 * length octets)) ∙ rw (has-up_to p (8 * length octets) low high) refl
