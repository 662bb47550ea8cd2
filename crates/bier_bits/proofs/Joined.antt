-- Words that are joined place by place, eight at once, and the sets that they stand for.
use Rattle.std.proofs.Common.{◌≡◌, ℕ, ◌+◌, ◌-◌, ◌*◌, ◌/◌, ◌%◌, ◌^◌, ◌<◌, ◌≤◌, ◌==◌, ◌&&◌, ◌||◌, not, min, max, Bool, false, List, [], ◌∷◌, map, length, get_or, set, bit_and, bit_or, w64, refl, sym, ap, ◌∙◌, arith, inl, inr}
use Rattle.std.specs.Int.{bit_at, bit_not}
use Rattle.std.specs.Simd.Lanes.{zip2, chunk, put_chunk}
use Rattle.std.proofs.lemmas.Bool.{cases_lt, cases_eq}
use Rattle.std.proofs.lemmas.Bool.Decides.{nat_tests}
use Rattle.std.proofs.lemmas.List.{get_or-set_same, get_or-set_other}
use Rattle.std.proofs.lemmas.Nat.{and_le_l}
use Rattle.std.proofs.lemmas.Nat.Bits.{bit_at_and, bit_at_or, bit_at_not, bit_at-lt, bit_at-zero, same_from_bits_below}
use Rattle.std.proofs.lemmas.Simd.{length-chunk, length-zip2, get_or-put_chunk_below, get_or-put_chunk_at, get_or-zip2, get_or-chunk}
use Rattle.wire_base.specs.model.BitSet.{has_member, IsWithin, intersection, difference, union}
use Rattle.wire_base.proofs.SetLaws.{has-intersection, has-difference, has-union, within-intersection, within-difference, within-union}
use Rattle.bier_bits.specs.Sets.{and_not, has_both, members_of, AreMarked, AreSharedMarks, NoPlace}
use Rattle.bier_bits.proofs.Marks.{marked_set}
use Rattle.bier_bits.proofs.Places.{both_word}
use Rattle.bier_bits.proofs.WordLaws.{has_members, members_is, within_members}

-- ---- eight more words

pub eight_more : (f : ℕ → ℕ → ℕ) (a b out : List ℕ) (at : ℕ) → at + 8 ≤ length a → length b ≡ length a → length out ≡ length a → ((k : ℕ) → k < at → get_or out k 0 ≡ f (get_or a k 0) (get_or b k 0)) → (k : ℕ) → k < at + 8 → get_or (put_chunk at out (zip2 f (chunk at 8 a) (chunk at 8 b))) k 0 ≡ f (get_or a k 0) (get_or b k 0)
eight_more f a b out at room same fits h k lt =
    let xs = chunk at 8 a in
    let ys = chunk at 8 b in
    let len_x : length xs ≡ 8 = length-chunk at 8 a room in
    let len_y : length ys ≡ 8 = length-chunk at 8 b (omega arith) in
    let len : length (zip2 f xs ys) ≡ 8 = length-zip2 f xs ys (len_x ∙ sym len_y) ∙ len_x in
    elim (cases_lt k at) [
      | inl below ↦ get_or-put_chunk_below at out (zip2 f xs ys) k 0 below ∙ h k below
      | inr from ↦
          let j = k - at in
          let e : k ≡ at + j = omega arith in
          let p = get_or-put_chunk_at at out (zip2 f xs ys) j 0 (omega (arith, len)) (omega (arith, len)) in
          let q = get_or-zip2 f xs ys j 0 0 0 (omega (arith, len_x)) (omega (arith, len_y)) in
          rw e (p ∙ q ∙ rw (get_or-chunk at 8 a j 0 (omega arith), get_or-chunk at 8 b j 0 (omega arith)) refl)
    ]

-- ---- words that are cut

-- how far words were cut: those before a place are what is left and what was taken, and those from it on are unchanged
pub record IsCut (first words mask taken : List ℕ) (marks at : ℕ) : Type 0 where
  pub cut : (k : ℕ) → k < at → get_or taken k 0 ≡ bit_and (get_or first k 0) (get_or mask k 0)
  pub left : (k : ℕ) → k < at → get_or words k 0 ≡ and_not (get_or first k 0) (get_or mask k 0)
  pub kept : (k : ℕ) → at ≤ k → get_or words k 0 ≡ get_or first k 0
  pub empty : (k : ℕ) → at ≤ k → get_or taken k 0 ≡ 0
  pub marked : AreMarked marks taken
  pub fits : (k : ℕ) → get_or first k 0 < 2 ^ 64

without_apart : (x y : ℕ) → x < 2 ^ 64 → y < 2 ^ 64 → bit_and x y ≡ 0 → x ≡ and_not x y
without_apart x y fits_x fits_y apart = same_from_bits_below 64 x (and_not x y) fits_x (omega (arith, and_le_l x (bit_not w64 y), fits_x)) (λ i low.
    sym (bit_at_and x (bit_not w64 y) i ∙ rw (bit_at_not w64 y i fits_y low) (stays (bit_at x i) (bit_at y i) (bit_at-lt x i) (bit_at-lt y i) (sym (bit_at_and x y i) ∙ ap (λ (n : ℕ). bit_at n i) apart ∙ bit_at-zero i))))
  where
    stays : (a b : ℕ) → a < 2 → b < 2 → min a b ≡ 0 → min a (1 - b) ≡ a
    stays a b p q none = grind (arith, nat_tests)

-- words that share no place share no bit
words_apart : (a b : List ℕ) (from k : ℕ) → get_or a k 0 < 2 ^ 64 → NoPlace (has_both a b) 0 (64 * from) → k < from → bit_and (get_or a k 0) (get_or b k 0) ≡ 0
words_apart a b from k fits none lt =
    let both = bit_and (get_or a k 0) (get_or b k 0) in
    same_from_bits_below 64 both 0 (omega (arith, and_le_l (get_or a k 0) (get_or b k 0), fits)) (omega arith) (λ i low.
    no-bit (bit_at both i) (bit_at-lt both i) (sym (both_word a b k i low) ∙ none (64 * k + i) (omega arith) (omega (arith, lt, low))) ∙ sym (bit_at-zero i))
  where
    no-bit : (b : ℕ) → b < 2 → (b == 1) ≡ false → b ≡ 0
    no-bit b small h = grind (arith, nat_tests)

-- words that have no bit of the mask are cut already
cut_over : (first words mask taken : List ℕ) (marks at next : ℕ) → at ≤ next → ((k : ℕ) → get_or mask k 0 < 2 ^ 64) → ((k : ℕ) → at ≤ k → k < next → bit_and (get_or first k 0) (get_or mask k 0) ≡ 0) → IsCut first words mask taken marks at → IsCut first words mask taken marks next
cut_over first words mask taken marks at next le fits none so_far = record {
  cut = λ k lt. elim (cases_lt k at) [
    | inl below ↦ so_far.cut k below
    | inr here ↦ so_far.empty k here ∙ sym (none k here lt)
  ];
  left = λ k lt. elim (cases_lt k at) [
    | inl below ↦ so_far.left k below
    | inr here ↦ so_far.kept k here ∙ without_apart (get_or first k 0) (get_or mask k 0) (so_far.fits k) (fits k) (none k here lt)
  ];
  kept = λ k from. so_far.kept k (omega (arith, le, from));
  empty = λ k from. so_far.empty k (omega (arith, le, from));
  marked = so_far.marked;
  fits = so_far.fits;
}

pub cut_start : (words mask taken : List ℕ) (shared from next : ℕ) → ((k : ℕ) → get_or words k 0 < 2 ^ 64) → ((k : ℕ) → get_or mask k 0 < 2 ^ 64) → NoPlace (has_both words mask) 0 (64 * from) → AreSharedMarks shared words mask → ((k : ℕ) → from ≤ k → k < next → bit_at shared k ≡ 0) → ((k : ℕ) → get_or taken k 0 ≡ 0) → IsCut words words mask taken 0 next
cut_start words mask taken shared from next fits_w fits_m none are unmarked empty =
    cut_over words words mask taken 0 0 next (omega arith) fits_m (λ k low lt. elim (cases_lt k from) [
      | inl below ↦ words_apart words mask from k (fits_w k) none below
      | inr above ↦ are k (unmarked k above lt)
    ]) (record {
      cut = λ k lt. absurd (omega (arith, lt));
      left = λ k lt. absurd (omega (arith, lt));
      kept = λ k from. refl;
      empty = λ k from. empty k;
      marked = λ k none. empty k;
      fits = fits_w;
    })

-- one word is cut
cut_one : (first words mask taken : List ℕ) (marks now at : ℕ) → at < length words → length taken ≡ length words → ((j : ℕ) → bit_at now j ≡ 0 → bit_at marks j ≡ 0) → (bit_at now at ≡ 0 → bit_and (get_or words at 0) (get_or mask at 0) ≡ 0) → IsCut first words mask taken marks at
    → IsCut first (set words at (and_not (get_or words at 0) (get_or mask at 0))) mask (set taken at (bit_and (get_or words at 0) (get_or mask at 0))) now (at + 1)
cut_one first words mask taken marks now at lt same kept marked so_far =
    let took = bit_and (get_or words at 0) (get_or mask at 0) in
    let left = and_not (get_or words at 0) (get_or mask at 0) in
    let here : get_or words at 0 ≡ get_or first at 0 = so_far.kept at (omega arith) in
    record {
      cut = λ k low. elim (cases_eq k at) [
        | inl e ↦ ap (λ (j : ℕ). get_or (set taken at took) j 0) e ∙ get_or-set_same taken at took 0 (omega (arith, lt, same)) ∙ ap (λ (x : ℕ). bit_and x (get_or mask at 0)) here ∙ sym (ap (λ (j : ℕ). bit_and (get_or first j 0) (get_or mask j 0)) e)
        | inr ne ↦ get_or-set_other taken at k took 0 ne ∙ so_far.cut k (omega (arith, low, ne))
      ];
      left = λ k low. elim (cases_eq k at) [
        | inl e ↦ ap (λ (j : ℕ). get_or (set words at left) j 0) e ∙ get_or-set_same words at left 0 lt ∙ ap (λ (x : ℕ). and_not x (get_or mask at 0)) here ∙ sym (ap (λ (j : ℕ). and_not (get_or first j 0) (get_or mask j 0)) e)
        | inr ne ↦ get_or-set_other words at k left 0 ne ∙ so_far.left k (omega (arith, low, ne))
      ];
      kept = λ k from. get_or-set_other words at k left 0 (λ e. omega (arith, e, from)) ∙ so_far.kept k (omega (arith, from));
      empty = λ k from. get_or-set_other taken at k took 0 (λ e. omega (arith, e, from)) ∙ so_far.empty k (omega (arith, from));
      marked = marked_set taken marks now at took (omega (arith, lt, same)) kept marked so_far.marked;
      fits = so_far.fits;
    }

-- one word is cut, and those up to the next that may share a bit with the mask
pub cut_more : (first words mask taken : List ℕ) (marks now shared at next : ℕ) → at < length words → length taken ≡ length words → at + 1 ≤ next → ((k : ℕ) → get_or mask k 0 < 2 ^ 64) → AreSharedMarks shared first mask → ((k : ℕ) → at + 1 ≤ k → k < next → bit_at shared k ≡ 0) → ((j : ℕ) → bit_at now j ≡ 0 → bit_at marks j ≡ 0) → (bit_at now at ≡ 0 → bit_and (get_or words at 0) (get_or mask at 0) ≡ 0) → IsCut first words mask taken marks at
    → IsCut first (set words at (and_not (get_or words at 0) (get_or mask at 0))) mask (set taken at (bit_and (get_or words at 0) (get_or mask at 0))) now next
cut_more first words mask taken marks now shared at next lt same le fits are unmarked kept marked so_far =
    cut_over first (set words at (and_not (get_or words at 0) (get_or mask at 0))) mask (set taken at (bit_and (get_or words at 0) (get_or mask at 0))) now (at + 1) next le fits (λ k low below. are k (unmarked k low below)) (cut_one first words mask taken marks now at lt same kept marked so_far)

pub without_eight : (xs ys : List ℕ) → zip2 bit_and xs (map (bit_not w64) ys) ≡ zip2 and_not xs ys
without_eight [] ys = refl
without_eight (x ∷ xs) [] = refl
without_eight (x ∷ xs) (y ∷ ys) = ap (λ (l : List ℕ). and_not x y ∷ l) (without_eight xs ys)

-- ---- the sets

-- a function of words that is a test of two bits
abbrev pub IsBitwise : (ℕ → ℕ → ℕ) → (Bool → Bool → Bool) → Type 0
IsBitwise f test = (x y i : ℕ) → y < 2 ^ 64 → i < 64 → (bit_at (f x y) i == 1) ≡ test (bit_at x i == 1) (bit_at y i == 1)

and_bits : IsBitwise bit_and (λ a b. a && b)
and_bits x y i fits low = rw (bit_at_and x y i) (on (bit_at x i) (bit_at y i) (bit_at-lt x i) (bit_at-lt y i))
  where
    on : (a b : ℕ) → a < 2 → b < 2 → (min a b == 1) ≡ ((a == 1) && (b == 1))
    on a b p q = grind (arith, nat_tests)

or_bits : IsBitwise bit_or (λ a b. a || b)
or_bits x y i fits low = rw (bit_at_or x y i) (on (bit_at x i) (bit_at y i) (bit_at-lt x i) (bit_at-lt y i))
  where
    on : (a b : ℕ) → a < 2 → b < 2 → (max a b == 1) ≡ ((a == 1) || (b == 1))
    on a b p q = grind (arith, nat_tests)

without_bits : IsBitwise and_not (λ a b. a && not b)
without_bits x y i fits low = rw (bit_at_and x (bit_not w64 y) i, bit_at_not w64 y i fits low) (on (bit_at x i) (bit_at y i) (bit_at-lt x i) (bit_at-lt y i))
  where
    on : (a b : ℕ) → a < 2 → b < 2 → (min a (1 - b) == 1) ≡ ((a == 1) && not (b == 1))
    on a b p q = grind (arith, nat_tests)

joined : (f : ℕ → ℕ → ℕ) (test : Bool → Bool → Bool) (w : ℕ) (a b c xs ys zs : List ℕ) → IsBitwise f test → ((k : ℕ) → get_or b k 0 < 2 ^ 64) → members_of w a ≡ xs → members_of w b ≡ ys → ((k : ℕ) → k < w → get_or c k 0 ≡ f (get_or a k 0) (get_or b k 0)) → IsWithin 0 (64 * w) zs → ((p : ℕ) → has_member p zs ≡ test (has_member p xs) (has_member p ys)) → members_of w c ≡ zs
joined f test w a b c xs ys zs bits fits in_a in_b words within has = members_is w c zs within (λ i lt.
    has (i + 1) ∙ rw (has_members w i a xs in_a lt, has_members w i b ys in_b lt)
    (sym (ap (λ (n : ℕ). bit_at n (i % 64) == 1) (words (i / 64) (omega arith)) ∙ bits (get_or a (i / 64) 0) (get_or b (i / 64) 0) (i % 64) (fits (i / 64)) (omega arith))))

pub and_is : (w : ℕ) (a b c xs ys : List ℕ) → ((k : ℕ) → get_or b k 0 < 2 ^ 64) → members_of w a ≡ xs → members_of w b ≡ ys → ((k : ℕ) → k < w → get_or c k 0 ≡ bit_and (get_or a k 0) (get_or b k 0)) → members_of w c ≡ intersection xs ys
and_is w a b c xs ys fits in_a in_b words = joined bit_and (λ s t. s && t) w a b c xs ys (intersection xs ys) and_bits fits in_a in_b words (within-intersection 0 (64 * w) xs ys (within_members w a xs in_a)) (λ p. has-intersection p xs ys)

pub without_is : (w : ℕ) (a b c xs ys : List ℕ) → ((k : ℕ) → get_or b k 0 < 2 ^ 64) → members_of w a ≡ xs → members_of w b ≡ ys → ((k : ℕ) → k < w → get_or c k 0 ≡ and_not (get_or a k 0) (get_or b k 0)) → members_of w c ≡ difference xs ys
without_is w a b c xs ys fits in_a in_b words = joined and_not (λ s t. s && not t) w a b c xs ys (difference xs ys) without_bits fits in_a in_b words (within-difference 0 (64 * w) xs ys (within_members w a xs in_a)) (λ p. has-difference p xs ys)

pub or_is : (w : ℕ) (a b c xs ys : List ℕ) → ((k : ℕ) → get_or b k 0 < 2 ^ 64) → members_of w a ≡ xs → members_of w b ≡ ys → ((k : ℕ) → k < w → get_or c k 0 ≡ bit_or (get_or a k 0) (get_or b k 0)) → members_of w c ≡ union xs ys
or_is w a b c xs ys fits in_a in_b words = joined bit_or (λ s t. s || t) w a b c xs ys (union xs ys) or_bits fits in_a in_b words (within-union 0 (64 * w) xs ys (within_members w a xs in_a) (within_members w b ys in_b)) (λ p. has-union p xs ys)
