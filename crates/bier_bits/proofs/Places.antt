-- The first place whose bit is set, word by word.
use Rattle.std.proofs.Common.{◌≡◌, ℕ, ◌+◌, ◌-◌, ◌*◌, ◌/◌, ◌%◌, ◌^◌, ◌<◌, ◌≤◌, ◌==◌, ◌&&◌, nat_le, not, Bool, true, false, List, [], ◌∷◌, length, get_or, set, bit_and, min, max, w64, Option, Some, None, is_some, IfSome, refl, sym, ap, subst, ◌∙◌, arith, inl, inr}
use Rattle.std.specs.Int.{bit_at, trailing_zeros}
use Rattle.std.proofs.lemmas.Bool.{cases_lt, cases_order, eq-eqb, ne_eqb, le-leb, lt-leb, true≢false}
use Rattle.std.proofs.lemmas.Bool.Decides.{nat_tests}
use Rattle.std.proofs.lemmas.Nat.{pow-add}
use Rattle.std.proofs.lemmas.List.{get_or-set_same, get_or-set_other}
use Rattle.std.proofs.lemmas.Option.{same_Some}
use Rattle.std.proofs.lemmas.Nat.Bits.{bit_at-trailing_zeros, bit_at_and, bit_at-lt, bit_at-zero, bit_at_above}
use Rattle.std.proofs.Math.Nat.{div-div-eq-div-mul}
use Rattle.wire_base.specs.model.BitSet.{has_member, first_member, IsWithin, intersection}
use Rattle.wire_base.proofs.SetLaws.{has-filter, has-intersection, has_head, none_above, none_below, within-filter, within-intersection}
use Rattle.bier_bits.specs.Sets.{from_on, has_both, has_place, members_of, AreApartBelow, IsNextPlace, IsRest, IsWithoutFirst, NoPlace}
use Rattle.bier_bits.proofs.WordLaws.{has_members, members_is, place_at, within_members}

-- a test of places that one word answers for 64 of them
abbrev pub IsWord : (ℕ → Bool) → ℕ → ℕ → Type 0
IsWord test k word = (i : ℕ) → i < 64 → test (64 * k + i) ≡ (bit_at word i == 1)

pub both_word : (a b : List ℕ) (k : ℕ) → IsWord (has_both a b) k (bit_and (get_or a k 0) (get_or b k 0))
both_word a b k i low = rw (place_at a k i low, place_at b k i low, bit_at_and (get_or a k 0) (get_or b k 0) i) (sym (on (bit_at (get_or a k 0) i) (bit_at (get_or b k 0) i) (bit_at-lt (get_or a k 0) i) (bit_at-lt (get_or b k 0) i)))
  where
    on : (x y : ℕ) → x < 2 → y < 2 → (min x y == 1) ≡ ((x == 1) && (y == 1))
    on x y p q = grind (arith, nat_tests)

-- a word without a bit, and one with some
pub word_none : (test : ℕ → Bool) (low k next word : ℕ) → IsWord test k word → word ≡ 0 → next ≡ k + 1 → NoPlace test low (64 * k) → NoPlace test low (64 * next)
word_none test low k next word is none step so_far i above below = elim (cases_lt i (64 * k)) [
  | inl before ↦ so_far i above before
  | inr here ↦
      let split : i ≡ 64 * k + (i - 64 * k) = omega (arith, here) in
      ap test split ∙ is (i - 64 * k) (omega (arith, below, step, here)) ∙ ap (λ (n : ℕ). bit_at n (i - 64 * k) == 1) none ∙ ap (λ (b : ℕ). b == 1) (bit_at-zero (i - 64 * k))
]

-- no bit in the first words
pub words_none : (words : List ℕ) (next : ℕ) → ((j : ℕ) → j < next → get_or words j 0 ≡ 0) → NoPlace (has_place words) 0 (64 * next)
words_none words next none i start below = rw (none (i / 64) (omega (arith, below)), bit_at-zero (i % 64)) refl

-- no bit that both have, in several words
pub both_none : (a b : List ℕ) (low k next : ℕ) → NoPlace (has_both a b) low (64 * k) → ((j : ℕ) → k ≤ j → j < next → bit_and (get_or a j 0) (get_or b j 0) ≡ 0) → NoPlace (has_both a b) low (64 * next)
both_none a b low k next so_far none i above below = elim (cases_lt i (64 * k)) [
  | inl before ↦ so_far i above before
  | inr here ↦
      let split : i ≡ 64 * (i / 64) + i % 64 = omega arith in
      ap (has_both a b) split ∙ both_word a b (i / 64) (i % 64) (omega arith) ∙ ap (λ (n : ℕ). bit_at n (i % 64) == 1) (none (i / 64) (omega (arith, here)) (omega (arith, below))) ∙ ap (λ (d : ℕ). d == 1) (bit_at-zero (i % 64))
]

zero_bit : (b : ℕ) → b ≡ 0 → (b == 1) ≡ false
zero_bit b e = grind (arith, nat_tests, e)

pub word_some : (test : ℕ → Bool) (low k word high : ℕ) → IsWord test k word → 0 < word → word < 2 ^ 64 → low ≤ 64 * k → 64 * k + 64 ≤ high → NoPlace test low (64 * k) → IsNextPlace test low high (64 * k + trailing_zeros w64 word)
word_some test low k word high is some fits le ge so_far =
    let t = bit_at-trailing_zeros w64 word some fits in
    let n = trailing_zeros w64 word in
    record {
      low = omega (arith, le);
      high = omega (arith, t.0, ge);
      has = is n t.0 ∙ eq-eqb (bit_at word n) 1 t.1;
      none = λ i above below. elim (cases_lt i (64 * k)) [
        | inl before ↦ so_far i above before
        | inr here ↦
            let split : i ≡ 64 * k + (i - 64 * k) = omega (arith, here) in
            ap test split ∙ is (i - 64 * k) (omega (arith, below, here, t.0)) ∙ zero_bit (bit_at word (i - 64 * k)) (t.2 (i - 64 * k) (omega (arith, below, here)))
      ];
    }

-- the bits of a word that was shifted
pub shifted : (word r i : ℕ) → bit_at (word / 2 ^ r) i ≡ bit_at word (r + i)
shifted word r i = ap (λ (n : ℕ). n % 2) (div-div-eq-div-mul word (2 ^ r) (2 ^ i) ∙ ap (λ (n : ℕ). word / n) (sym (pow-add 2 r i)))

-- the first word, from a place within it on
pub first_none : (test : ℕ → Bool) (from k word above next : ℕ) → IsWord test k word → k ≡ from / 64 → above ≡ word / 2 ^ (from % 64) → above ≡ 0 → next ≡ k + 1 → NoPlace test from (64 * next)
first_none test from k word above next is at cut none step i low high =
    let r = from % 64 in
    let j = i - from in
    let split : i ≡ 64 * k + (r + j) = omega (arith, at, low) in
    ap test split ∙ is (r + j) (omega (arith, split, high, step)) ∙ zero_bit (bit_at word (r + j)) (sym (shifted word r j) ∙ ap (λ (n : ℕ). bit_at n j) (sym cut ∙ none) ∙ bit_at-zero j)

pub first_some : (test : ℕ → Bool) (from k word above high : ℕ) → IsWord test k word → k ≡ from / 64 → above ≡ word / 2 ^ (from % 64) → 0 < above → above < 2 ^ 64 → word < 2 ^ 64 → 64 * k + 64 ≤ high → IsNextPlace test from high (from + trailing_zeros w64 above)
first_some test from k word above high is at cut some small fits ge =
    let r = from % 64 in
    let t = bit_at-trailing_zeros w64 above some small in
    let n = trailing_zeros w64 above in
    let same : (j : ℕ) → bit_at above j ≡ bit_at word (r + j) = λ j. ap (λ (m : ℕ). bit_at m j) cut ∙ shifted word r j in
    let inside : r + n < 64 = elim (cases_lt (r + n) 64) [
      | inl lt ↦ lt
      | inr past ↦ absurd (omega (arith, bit_at_above word 64 (r + n) fits past, same n, t.1))
    ] in
    let here : from + n ≡ 64 * k + (r + n) = omega (arith, at) in
    record {
      low = omega arith;
      high = omega (arith, here, inside, ge);
      has = ap test here ∙ is (r + n) inside ∙ eq-eqb (bit_at word (r + n)) 1 (sym (same n) ∙ t.1);
      none = λ i low lt.
          let j = i - from in
          let split : i ≡ 64 * k + (r + j) = omega (arith, at, low) in
          ap test split ∙ is (r + j) (omega (arith, inside, lt, low)) ∙ zero_bit (bit_at word (r + j)) (sym (same j) ∙ t.2 j (omega (arith, lt, low)));
    }

-- the bits that are left when the first one is cleared
pub first_left : (words : List ℕ) (k n left : ℕ) → k < length words → n < 64 → NoPlace (has_place words) 0 (64 * k) → IsRest (get_or words k 0) left (n + 1) → IsWithoutFirst words (set words k left) (64 * k + n)
first_left words k n left within few none rest i = elim (cases_order (i / 64) k) [
  | inl here ↦ rw (here, get_or-set_same words k left 0 within) (elim (cases_lt (i % 64) (n + 1)) [
    | inl low ↦ rw (rest.below (i % 64) low, lt-leb (64 * k + n + 1) i (omega (arith, here, low))) refl
    | inr high ↦ rw (rest.above (i % 64) high (omega arith), le-leb (64 * k + n + 1) i (omega (arith, here, high))) refl
  ])
  | inr other ↦ elim other [
    | inl lt ↦
        let before : i < 64 * k = omega (arith, lt) in
        rw (get_or-set_other words k (i / 64) left 0 (λ e. omega (arith, e, lt)), lt-leb (64 * k + n + 1) i (omega (arith, before))) (none i (omega arith) before)
    | inr gt ↦ rw (get_or-set_other words k (i / 64) left 0 (λ e. omega (arith, e, gt)), le-leb (64 * k + n + 1) i (omega (arith, gt, few))) refl
  ]
]

-- ---- the first member

none-member : (xs : List ℕ) → ((p : ℕ) → has_member p xs ≡ false) → first_member xs ≡ None
none-member [] none = refl
none-member (x ∷ xs) none = absurd (true≢false (sym (has_head x xs) ∙ none x))

first-member : (xs : List ℕ) (low high p : ℕ) → IsWithin low high xs → has_member p xs ≡ true → ((q : ℕ) → q < p → has_member q xs ≡ false) → first_member xs ≡ Some p
first-member [] low high p within has none = absurd (true≢false (sym has))
first-member (x ∷ xs) low high p within has none = elim (cases_order x p) [
  | inl same ↦ ap (λ (k : ℕ). Some k) same
  | inr other ↦ elim other [
    | inl lt ↦ absurd (true≢false (sym (has_head x xs) ∙ none x lt))
    | inr gt ↦ absurd (true≢false (sym has ∙ none_below p (p + 0) high (x ∷ xs) (lower within gt) (omega arith)))
  ]
]
  where
    lower : IsWithin low high (x ∷ xs) → p < x → IsWithin (p + 0) high (x ∷ xs)
    lower within gt = (omega (arith, gt), within.1, within.2)

and_false : (b : Bool) → (b && false) ≡ false
and_false true = refl
and_false false = refl

and_swap : (a b : Bool) → (a && b) ≡ (b && a)
and_swap true b = sym (and_true b)
  where
    and_true : (b : Bool) → (b && true) ≡ b
    and_true true = refl
    and_true false = refl
and_swap false b = sym (and_false b)

-- a set of the places from one on that pass a test
abbrev pub IsFrom : ℕ → ℕ → (ℕ → Bool) → List ℕ → Type 0
IsFrom n from test xs = IsWithin 0 n xs × ((j : ℕ) → j < n → has_member (j + 1) xs ≡ (nat_le from j && test j))

pub next_found : (n from i p : ℕ) (test : ℕ → Bool) (xs : List ℕ) → IsFrom n from test xs → IsNextPlace test from n i → p ≡ i + 1 → Some p ≡ first_member xs
next_found n from i p test xs is next at =
    let here : has_member p xs ≡ true = ap (λ (k : ℕ). has_member k xs) at ∙ is.1 i next.high ∙ rw (le-leb from i next.low, next.has) refl in
    sym (first-member xs 0 n p is.0 here (λ q lt. elim (cases_lt 0 q) [
      | inl some ↦
          let back : q ≡ q - 1 + 1 = omega (arith, some) in
          ap (λ (k : ℕ). has_member k xs) back ∙ is.1 (q - 1) (omega (arith, lt, at, next.high, some)) ∙ elim (cases_lt (q - 1) from) [
            | inl below ↦ rw (lt-leb from (q - 1) below) refl
            | inr above ↦ rw (next.none (q - 1) above (omega (arith, lt, at, some))) (and_false (nat_le from (q - 1)))
          ]
      | inr none ↦ none_below q 0 n xs is.0 none
    ]))

pub next_none : (n from : ℕ) (test : ℕ → Bool) (xs : List ℕ) → IsFrom n from test xs → NoPlace test from n → None ≡ first_member xs
next_none n from test xs is none = sym (none-member xs (λ q. elim (cases_lt 0 q) [
  | inl some ↦ elim (cases_lt n q) [
    | inl past ↦ none_above q 0 n xs is.0 past
    | inr inside ↦
        let back : q ≡ q - 1 + 1 = omega (arith, some) in
        ap (λ (k : ℕ). has_member k xs) back ∙ is.1 (q - 1) (omega (arith, inside, some)) ∙ elim (cases_lt (q - 1) from) [
          | inl below ↦ rw (lt-leb from (q - 1) below) refl
          | inr above ↦ rw (none (q - 1) above (omega (arith, inside, some))) (and_false (nat_le from (q - 1)))
        ]
  ]
  | inr below ↦ none_below q 0 n xs is.0 below
]))

-- ---- the sets whose first member is asked for

pub from_start : (w : ℕ) (words s : List ℕ) → members_of w words ≡ s → IsFrom (64 * w) 0 (has_place words) s
from_start w words s is = (within_members w words s is, λ j lt. has_members w j words s is lt ∙ sym (rw (le-leb 0 j (omega arith)) refl))

pub from_low : (w low from : ℕ) (words s : List ℕ) → members_of w words ≡ s → from + 1 ≡ max low 1 → IsFrom (64 * w) from (has_place words) (from_on low s)
from_low w low from words s is at = (
  within-filter 0 (64 * w) (λ p. nat_le low p) s (within_members w words s is),
  λ j lt.
      has-filter (j + 1) (λ p. nat_le low p) s ∙ rw (has_members w j words s is lt) (and_swap (has_place words j) (nat_le low (j + 1)))
      ∙ ap (λ (b : Bool). b && has_place words j) (same j),
)
  where
    same : (j : ℕ) → nat_le low (j + 1) ≡ nat_le from j
    same j = elim (cases_lt j from) [
      | inl below ↦ lt-leb low (j + 1) (omega (arith, at, below)) ∙ sym (lt-leb from j below)
      | inr above ↦ le-leb low (j + 1) (omega (arith, at, above)) ∙ sym (le-leb from j above)
    ]

pub from_shared : (w : ℕ) (a b xs ys : List ℕ) → members_of w a ≡ xs → members_of w b ≡ ys → IsFrom (64 * w) 0 (has_both a b) (intersection xs ys)
from_shared w a b xs ys in_a in_b = (
  within-intersection 0 (64 * w) xs ys (within_members w a xs in_a),
  λ j lt.
      has-intersection (j + 1) xs ys ∙ rw (has_members w j a xs in_a lt, has_members w j b ys in_b lt, le-leb 0 j (omega arith)) refl,
)

-- sets that share nothing below a position have no place that both have below its word
pub none_apart : (w bp from : ℕ) (a b xs ys : List ℕ) → members_of w a ≡ xs → members_of w b ≡ ys → 1 ≤ bp → bp ≤ 64 * w + 1 → from ≡ (bp - 1) / 64 → AreApartBelow bp xs ys → NoPlace (has_both a b) 0 (64 * from)
none_apart w bp from a b xs ys in_a in_b low high at apart i start lt =
    let inside : i < 64 * w = omega (arith, high, at, lt) in
    sym (has-intersection (i + 1) xs ys ∙ rw (has_members w i a xs in_a inside, has_members w i b ys in_b inside) refl) ∙ apart (i + 1) (omega arith) (omega (arith, low, at, lt))

-- two sets share nothing below the first position that they share
pub first_apart : (w : ℕ) (words xs ys : List ℕ) (result : Option ℕ) → members_of w words ≡ xs → result ≡ first_member (intersection xs ys) → IfSome result (λ p. AreApartBelow p xs ys)
first_apart w words xs ys None is first = tt
first_apart w words xs ys (Some p) is first = before (intersection xs ys) 0 (64 * w) (within-intersection 0 (64 * w) xs ys (within_members w words xs is)) (sym first)
  where
    before : (zs : List ℕ) (low high : ℕ) → IsWithin low high zs → first_member zs ≡ Some p → (q : ℕ) → 1 ≤ q → q < p → has_member q zs ≡ false
    before [] low high within at = λ q some lt. refl
    before (z ∷ zs) low high within at = λ q some lt.
        let same : z ≡ p = same_Some z p at in
        none_below q (z - 1) high (z ∷ zs) (omega (arith, within.0), within.1, within.2) (omega (arith, same, lt))

-- a set without a first member is empty
pub none_first : (xs : List ℕ) (none : Bool) → is_some (first_member xs) ≡ not none → none ≡ (length xs == 0)
none_first [] true is = refl
none_first [] false is = absurd (true≢false (sym is))
none_first (x ∷ xs) true is = absurd (true≢false is)
none_first (x ∷ xs) false is = sym (ne_eqb (length (x ∷ xs)) 0 (λ e. absurd (omega (arith, e))))

-- the same where the end is that of the words
pub found_among : (w from i : ℕ) (words : List ℕ) (test : ℕ → Bool) (xs : List ℕ) → length words ≡ w → IsFrom (64 * w) from test xs → IsNextPlace test from (64 * length words) i → Some (i + 1) ≡ first_member xs
found_among w from i words test xs long is next = next_found (64 * w) from i (i + 1) test xs is (subst (λ (n : ℕ). IsNextPlace test from (64 * n) i) long next) refl

pub none_among : (w from : ℕ) (words : List ℕ) (test : ℕ → Bool) (xs : List ℕ) → length words ≡ w → IsFrom (64 * w) from test xs → NoPlace test from (64 * length words) → None ≡ first_member xs
none_among w from words test xs long is none = next_none (64 * w) from test xs is (subst (λ (n : ℕ). NoPlace test from (64 * n)) long none)

-- ---- what is left of a set from a position on

from-all : (low high bp : ℕ) (xs : List ℕ) → IsWithin low high xs → bp ≤ low + 1 → from_on bp xs ≡ xs
from-all low high bp [] within le = refl
from-all low high bp (x ∷ xs) within le = rw (le-leb bp x (omega (arith, within.0, le))) (ap (λ (l : List ℕ). x ∷ l) (from-all x high bp xs within.2 (omega (arith, within.0, le))))

-- it is the first position there and those behind it
pub from-next : (low high bp p : ℕ) (xs : List ℕ) → IsWithin low high xs → first_member (from_on bp xs) ≡ Some p → from_on bp xs ≡ p ∷ from_on (p + 1) xs
from-next low high bp p [] within first = cc
from-next low high bp p (x ∷ xs) within first = elim (cases_lt x bp) [
  | inl below ↦
      let later : first_member (from_on bp xs) ≡ Some p = rw (lt-leb bp x below) at first in
      let rest = from-next x high bp p xs within.2 later in
      let past : x < p + 1 = omega (arith, below, reaches bp p xs later) in
      rw (lt-leb bp x below, lt-leb (p + 1) x past) rest
  | inr above ↦
      let same : x ≡ p = same_Some x p (rw (le-leb bp x above) at first) in
      rw (le-leb bp x above, lt-leb (p + 1) x (omega (arith, same)))
      (ap (λ (l : List ℕ). x ∷ l) (from-all x high bp xs within.2 (omega (arith, above)) ∙ sym (from-all x high (p + 1) xs within.2 (omega (arith, same)))) ∙ ap (λ (k : ℕ). k ∷ from_on (p + 1) xs) same)
]
  where
    reaches : (bp p : ℕ) (ys : List ℕ) → first_member (from_on bp ys) ≡ Some p → bp ≤ p
    reaches bp p [] q = cc
    reaches bp p (y ∷ ys) q = elim (cases_lt y bp) [
      | inl below ↦ reaches bp p ys (rw (lt-leb bp y below) at q)
      | inr above ↦ omega (arith, above, same_Some y p (rw (le-leb bp y above) at q))
    ]

pub from-zero : (xs : List ℕ) → from_on 0 xs ≡ xs
from-zero [] = refl
from-zero (x ∷ xs) = rw (le-leb 0 x (omega arith)) (ap (λ (l : List ℕ). x ∷ l) (from-zero xs))

-- ---- the set without its first member

pub no_first : (xs : List ℕ) → None ≡ first_member xs → xs ≡ []
no_first [] none = refl
no_first (x ∷ xs) none = cc

pub taken_first_is : (w n : ℕ) (words left s t : List ℕ) → members_of w words ≡ s → members_of w left ≡ t → Some (n + 1) ≡ first_member s → IsWithoutFirst words left n → s ≡ (n + 1) ∷ t
taken_first_is w n words left s t is left_is first without =
    let first_on : first_member (from_on 0 s) ≡ Some (n + 1) = ap first_member (from-zero s) ∙ sym first in
    let later = from_on (n + 1 + 1) s in
    let same : members_of w left ≡ later = members_is w left later (within-filter 0 (64 * w) (λ p. nat_le (n + 1 + 1) p) s (within_members w words s is)) (λ i lt.
    has-filter (i + 1) (λ p. nat_le (n + 1 + 1) p) s ∙ rw (has_members w i words s is lt) (and_swap (has_place words i) (nat_le (n + 1 + 1) (i + 1))) ∙ ap (λ (b : Bool). b && has_place words i) (moved i) ∙ sym (without i)) in
    sym (from-zero s) ∙ from-next 0 (64 * w) 0 (n + 1) s (within_members w words s is) first_on ∙ ap (λ (l : List ℕ). (n + 1) ∷ l) (sym same ∙ left_is)
  where
    moved : (i : ℕ) → nat_le (n + 1 + 1) (i + 1) ≡ nat_le (n + 1) i
    moved i = elim (cases_lt i (n + 1)) [
      | inl below ↦ lt-leb (n + 1 + 1) (i + 1) (omega (arith, below)) ∙ sym (lt-leb (n + 1) i below)
      | inr above ↦ le-leb (n + 1 + 1) (i + 1) (omega (arith, above)) ∙ sym (le-leb (n + 1) i above)
    ]
