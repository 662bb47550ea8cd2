-- Words that are marked where they are not 0.
use Rattle.std.proofs.Common.{◌≡◌, ◌≢◌, ℕ, ◌+◌, ◌-◌, ◌*◌, ◌/◌, ◌%◌, ◌^◌, ◌<◌, ◌≤◌, zero, suc, List, length, get_or, set, bit_and, bit_or, w64, refl, sym, ap, ◌∙◌, arith, inl, inr}
use Rattle.std.specs.Int.{bit_at, bit_not, trailing_zeros}
use Rattle.std.specs.Int.Bits.{and_zero_l, and_zero_r}
use lib.Count.{count_trailing_zeros}
use Rattle.std.proofs.Math.Pow.{pow_mono}
use Rattle.std.proofs.lemmas.Nat.{pow_pos}
use Rattle.std.proofs.lemmas.Bool.{cases_lt, cases_eq}
use Rattle.std.proofs.lemmas.List.{get_or_past, get_or-set_same, get_or-set_other}
use Rattle.std.proofs.lemmas.Nat.Bits.{bit_at_and, bit_at_or, bit_at-zero, bit_at_lowest, bit_at-suc, bit_at-trailing_zeros, bit_at_set_same, bit_at_not, bit_at_ones, bit_at_ones_above, bit_at-lt}
use Rattle.bier_bits.specs.Sets.{AreMarked, AreSharedMarks, IsRest, IsTaken}
use Rattle.bier_bits.proofs.Places.{shifted}

-- a place past the end has 0
pub inside : (words : List ℕ) (k : ℕ) → (k < length words → get_or words k 0 ≡ 0) → get_or words k 0 ≡ 0
inside words k within = elim (cases_lt k (length words)) [
  | inl lt ↦ within lt
  | inr past ↦ get_or_past words k 0 past
]

-- ---- one mark more

pub mark_kept : (marks more j : ℕ) → bit_at (bit_or marks more) j ≡ 0 → bit_at marks j ≡ 0
mark_kept marks more j none = omega (arith, bit_at_or marks more j, none)

pub mark_kept_r : (marks more j : ℕ) → bit_at (bit_or marks more) j ≡ 0 → bit_at more j ≡ 0
mark_kept_r marks more j none = omega (arith, bit_at_or marks more j, none)

pub mark_set : (marks n word : ℕ) → n < 64 → bit_at (bit_or marks (1 * 2 ^ n % 2 ^ 64)) n ≡ 0 → word ≡ 0
mark_set marks n word low none = absurd (omega (arith, bit_at_set_same w64 marks n low, none))

-- ---- the next mark

pub none_above : (marks from k : ℕ) → marks / 2 ^ from ≡ 0 → from ≤ k → bit_at marks k ≡ 0
none_above marks from k none le =
    let split : k ≡ from + (k - from) = omega (arith, le) in
    ap (bit_at marks) split ∙ sym (shifted marks from (k - from)) ∙ ap (λ (n : ℕ). bit_at n (k - from)) none ∙ bit_at-zero (k - from)

pub none_before : (marks from k : ℕ) → 0 < marks / 2 ^ from → marks / 2 ^ from < 2 ^ 64 → from ≤ k → k < from + trailing_zeros w64 (marks / 2 ^ from) → bit_at marks k ≡ 0
none_before marks from k some fits le lt =
    let split : k ≡ from + (k - from) = omega (arith, le) in
    let t = bit_at-trailing_zeros w64 (marks / 2 ^ from) some fits in
    ap (bit_at marks) split ∙ sym (shifted marks from (k - from)) ∙ t.2 (k - from) (omega (arith, le, lt))

-- ---- the marks that are left

pub rest_all : (marks : ℕ) → IsRest marks marks 0
rest_all marks = record { below = λ k lt. absurd (omega (arith, lt)); above = λ k low high. refl }

pub rest_none : (marks at : ℕ) → 64 ≤ at → IsRest marks 0 at
rest_none marks at high = record { below = λ k lt. bit_at-zero k; above = λ k low lt. absurd (omega (arith, low, lt, high)) }

pub rest_from : (marks from : ℕ) → from < 64 → IsRest marks (bit_and marks (bit_not w64 (2 ^ from - 1))) from
rest_from marks from few = record {
  below = λ k lt. bit_at_and marks (bit_not w64 (2 ^ from - 1)) k ∙ omega (arith, bit_at_not w64 (2 ^ from - 1) k fits (omega (arith, lt, few)), bit_at_ones from k lt);
  above = λ k low lt. bit_at_and marks (bit_not w64 (2 ^ from - 1)) k ∙ omega (arith, bit_at_not w64 (2 ^ from - 1) k fits lt, bit_at_ones_above from k low, bit_at-lt marks k);
}
  where
    most : from ≤ 64
    most = omega (arith, few)

    high : 2 ^ from ≤ 2 ^ 64
    high = pow_mono most

    fits : 2 ^ from - 1 < 2 ^ 64
    fits = omega (arith, high)

low_power : (from : ℕ) → from < 64 → 2 ^ from ≤ 2 ^ 63
low_power from few = let most : from ≤ 63 = omega (arith, few) in pow_mono most

pub mask_is : (from : ℕ) → from < 64 → 1 * 2 ^ from % 2 ^ 64 - 1 ≡ 2 ^ from - 1
mask_is from few = omega (arith, low_power from few)

pub mask_some : (from : ℕ) → from < 64 → 1 ≤ 1 * 2 ^ from % 2 ^ 64
mask_some from few = omega (arith, low_power from few, pow_pos from)

-- no mark is left
pub taken_none : (marks at : ℕ) → IsRest marks 0 at → IsTaken marks 0 at 64
taken_none marks at is = record { low = λ few. few; none = λ k low lt. sym (is.above k low lt) ∙ bit_at-zero k; rest = rest_none marks 65 (omega arith) }

-- the first that is left
pub taken_first : (marks left now at n : ℕ) → n < 64 → bit_at left n ≡ 1 → ((k : ℕ) → k < n → bit_at left k ≡ 0) → bit_at now n ≡ 0 → ((k : ℕ) → k < 64 → k ≢ n → bit_at now k ≡ bit_at left k) → IsRest marks left at → IsTaken marks now at n
taken_first marks left now at n few one none here others is = record {
  low = λ fits. low;
  none = λ k from lt. sym (is.above k from (omega (arith, lt, few))) ∙ none k lt;
  rest = record {
    below = λ k lt. elim (cases_eq k n) [
      | inl e ↦ ap (bit_at now) e ∙ here
      | inr ne ↦ others k (omega (arith, lt, few)) ne ∙ none k (omega (arith, lt, ne))
    ];
    above = λ k from lt. others k lt (λ e. omega (arith, e, from)) ∙ is.above k (omega (arith, low, from)) lt;
  };
}
  where
    low : at ≤ n
    low = elim (cases_lt n at) [
      | inl below ↦ absurd (omega (arith, is.below n below, one))
      | inr above ↦ above
    ]

-- ---- the least mark is taken

-- one less has no 1 at the least place that has one, and the same digits above it
less_one_here : (m k : ℕ) → bit_at m k ≡ 1 → ((j : ℕ) → j < k → bit_at m j ≡ 0) → bit_at (m - 1) k ≡ 0
less_one_here m zero one low = omega (arith, bit_at_lowest m, bit_at_lowest (m - 1), one)
less_one_here m (suc k) one low =
    let half : (m - 1) / 2 ≡ m / 2 - 1 = omega (arith, low 0 (omega arith), bit_at_lowest m) in
    bit_at-suc (m - 1) k ∙ ap (λ x. bit_at x k) half ∙ less_one_here (m / 2) k (sym (bit_at-suc m k) ∙ one) (λ j lt. sym (bit_at-suc m j) ∙ low (suc j) (omega (arith, lt)))

less_one_above : (m k j : ℕ) → bit_at m k ≡ 1 → ((i : ℕ) → i < k → bit_at m i ≡ 0) → k < j → bit_at (m - 1) j ≡ bit_at m j
less_one_above m k zero one low lt = absurd (omega (arith, lt))
less_one_above m zero (suc j) one low lt =
    let half : (m - 1) / 2 ≡ m / 2 = omega (arith, bit_at_lowest m, one) in
    bit_at-suc (m - 1) j ∙ ap (λ x. bit_at x j) half ∙ sym (bit_at-suc m j)
less_one_above m (suc k) (suc j) one low lt =
    let half : (m - 1) / 2 ≡ m / 2 - 1 = omega (arith, low 0 (omega arith), bit_at_lowest m) in
    bit_at-suc (m - 1) j ∙ ap (λ x. bit_at x j) half ∙ less_one_above (m / 2) k j (sym (bit_at-suc m k) ∙ one) (λ i less. sym (bit_at-suc m i) ∙ low (suc i) (omega (arith, less))) (omega (arith, lt)) ∙ sym (bit_at-suc m j)

others_kept : (m k j : ℕ) → bit_at m k ≡ 1 → ((i : ℕ) → i < k → bit_at m i ≡ 0) → j ≢ k → bit_at (bit_and m (m - 1)) j ≡ bit_at m j
others_kept m k j one low apart = bit_at_and m (m - 1) j ∙ elim (cases_lt j k) [
  | inl below ↦ omega (arith, low j below)
  | inr above ↦ omega (arith, less_one_above m k j one low (omega (arith, above, apart)))
]

-- what `*marks &= marks.wrapping_sub(1)` leaves, and the place that it takes
pub taken_lowest : (all marks at : ℕ) → marks < 2 ^ 64 → IsRest all marks at → IsTaken all (bit_and marks ((marks + 18446744073709551615) % 18446744073709551616)) at (trailing_zeros w64 marks)
unfolding count_trailing_zeros
taken_lowest all zero at fits is = rw (and_zero_l ((0 + 18446744073709551615) % 18446744073709551616)) (taken_none all at is)
taken_lowest all (suc n) at fits is =
    let m = suc n in
    let less : (m + 18446744073709551615) % 18446744073709551616 ≡ m - 1 = omega (arith, fits) in
    let t = bit_at-trailing_zeros w64 m (omega arith) fits in
    let k = trailing_zeros w64 m in
    let here : bit_at (bit_and m (m - 1)) k ≡ 0 = omega (arith, bit_at_and m (m - 1) k, less_one_here m k t.1 t.2) in
    rw less (taken_first all m (bit_and m (m - 1)) at k t.0 t.1 t.2 here (λ j lt apart. others_kept m k j t.1 t.2 apart) is)

-- ---- words that are written

-- one word, which is marked from now on if it is not 0
pub marked_set : (words : List ℕ) (marks now n x : ℕ) → n < length words → ((j : ℕ) → bit_at now j ≡ 0 → bit_at marks j ≡ 0) → (bit_at now n ≡ 0 → x ≡ 0) → AreMarked marks words → AreMarked now (set words n x)
marked_set words marks now n x lt kept marked are k none = elim (cases_eq k n) [
  | inl e ↦ ap (λ (j : ℕ). get_or (set words n x) j 0) e ∙ get_or-set_same words n x 0 lt ∙ marked (sym (ap (bit_at now) e) ∙ none)
  | inr ne ↦ get_or-set_other words n k x 0 ne ∙ are k (kept k none)
]

pub marked_bit : (words : List ℕ) (marks n x : ℕ) → n < length words → n < 64 → AreMarked marks words → AreMarked (bit_or marks (1 * 2 ^ n % 2 ^ 64)) (set words n x)
marked_bit words marks n x lt low are = marked_set words marks (bit_or marks (1 * 2 ^ n % 2 ^ 64)) n x lt (λ j none. mark_kept marks (1 * 2 ^ n % 2 ^ 64) j none) (mark_set marks n x low) are

-- one word, which is still marked unless it is 0
pub kept_marked : (words : List ℕ) (marks now n x : ℕ) → n < length words → length words ≤ 64 → ((j : ℕ) → j < 64 → j ≢ n → bit_at now j ≡ 0 → bit_at marks j ≡ 0) → (bit_at now n ≡ 0 → 0 < x → bit_at marks n ≡ 0) → (get_or words n 0 ≡ 0 → x ≡ 0) → AreMarked marks words → AreMarked now (set words n x)
kept_marked words marks now n x lt few others here cut are k none = elim (cases_eq k n) [
  | inl e ↦ ap (λ (j : ℕ). get_or (set words n x) j 0) e ∙ get_or-set_same words n x 0 lt ∙ (elim (cases_lt 0 x) [
    | inl some ↦ cut (are n (here (sym (ap (bit_at now) e) ∙ none) some))
    | inr none ↦ omega (arith, none)
  ])
  | inr ne ↦ get_or-set_other words n k x 0 ne ∙ inside words k (λ low. are k (others k (omega (arith, low, few)) ne none))
]

-- ---- words that are joined

pub shared_marks : (m n : ℕ) (a b : List ℕ) → AreMarked m a → AreMarked n b → AreSharedMarks (bit_and m n) a b
shared_marks m n a b are_a are_b k none = elim (cases_lt 0 (bit_at m k)) [
  | inl some ↦ ap (λ (y : ℕ). bit_and (get_or a k 0) y) (are_b k (omega (arith, bit_at_and m n k, none, some))) ∙ and_zero_r (get_or a k 0)
  | inr none_a ↦ ap (λ (x : ℕ). bit_and x (get_or b k 0)) (are_a k (omega (arith, none_a))) ∙ and_zero_l (get_or b k 0)
]

pub marked_and : (m n : ℕ) (a b c : List ℕ) → AreMarked m a → AreMarked n b → ((k : ℕ) → k < length c → get_or c k 0 ≡ bit_and (get_or a k 0) (get_or b k 0)) → AreMarked (bit_and m n) c
marked_and m n a b c are_a are_b joined k none = inside c k (λ lt. joined k lt ∙ shared_marks m n a b are_a are_b k none)

pub marked_or : (m n : ℕ) (a b c : List ℕ) → AreMarked m a → AreMarked n b → ((k : ℕ) → k < length c → get_or c k 0 ≡ bit_or (get_or a k 0) (get_or b k 0)) → AreMarked (bit_or m n) c
marked_or m n a b c are_a are_b joined k none = inside c k (λ lt. joined k lt ∙ rw (are_a k (mark_kept m n k none), are_b k (mark_kept_r m n k none)) refl)

-- which words were cleared: those before a place, and those behind it that were 0
pub record IsCleared (words : List ℕ) (marks at : ℕ) : Type 0 where
  pub below : (k : ℕ) → k < at → get_or words k 0 ≡ 0
  pub marked : AreMarked marks words

pub cleared_start : (words : List ℕ) (marks at : ℕ) → AreMarked marks words → ((k : ℕ) → k < at → bit_at marks k ≡ 0) → IsCleared words marks at
cleared_start words marks at are none = record { below = λ k lt. are k (none k lt); marked = are }

-- one more word is cleared, and those up to the next mark are 0
pub cleared_more : (words : List ℕ) (marks at next : ℕ) → at < length words → ((k : ℕ) → at + 1 ≤ k → k < next → bit_at marks k ≡ 0) → IsCleared words marks at → IsCleared (set words at 0) marks next
cleared_more words marks at next lt none so_far = record {
  below = λ k low. elim (cases_eq k at) [
    | inl e ↦ ap (λ (j : ℕ). get_or (set words at 0) j 0) e ∙ get_or-set_same words at 0 0 lt
    | inr ne ↦ get_or-set_other words at k 0 0 ne ∙ elim (cases_lt k at) [
      | inl below ↦ so_far.below k below
      | inr above ↦ so_far.marked k (none k (omega (arith, above, ne)) low)
    ]
  ];
  marked = marked_set words marks marks at 0 lt (λ j none. none) (λ none. refl) so_far.marked;
}
