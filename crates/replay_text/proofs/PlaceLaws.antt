-- The words that the octets of a BitString are, and the positions of their bits.
use Rattle.std.proofs.Common.{◌≡◌, ℕ, zero, suc, ◌+◌, ◌-◌, ◌*◌, ◌/◌, ◌%◌, ◌^◌, ◌<◌, ◌≤◌, List, [], ◌∷◌, length, get_or, drop, w64, None, refl, sym, ap, subst, ◌∙◌, arith, inl, inr}
use Rattle.std.specs.Int.{trailing_zeros}
use Rattle.std.proofs.lemmas.Bool.{cases_lt, le-leb}
use Rattle.std.proofs.lemmas.List.{get_or-drop}
use Rattle.std.proofs.lemmas.Nat.{pow-add}
use Rattle.std.proofs.Math.Nat.{div-div-eq-div-mul, div-le_self}
use Rattle.byteorder.specs.Endian.{big_number}
use Rattle.byteorder.specs.Numbers.{big_from-lt}
use Rattle.wire_base.specs.model.BitSet.{set_of, first_member, IsWithin}
use Rattle.wire_base.proofs.SetLaws.{within-set_of}
use Rattle.bier_bits.specs.Sets.{has_place, members_of, from_on, IsNextPlace, NoPlace, AreOctets}
use Rattle.bier_bits.proofs.OctetLaws.{read_set}
use Rattle.bier_bits.proofs.Places.{first_some, first_none, next_found, next_none, from_low, from-next, from-zero}
use Rattle.bier_bits.proofs.WordLaws.{place_at, within_members}
use Rattle.replay_text.specs.Places.{IsPlace, left}

-- so many words of octets, the last eight of which are the first word
pub words_of : ℕ → List ℕ → List ℕ
words_of zero octets = []
words_of (suc n) octets = big_number 8 (drop (8 * n) octets) ∷ words_of n octets

length_words : (n : ℕ) (octets : List ℕ) → length (words_of n octets) ≡ n
unfolding words_of
length_words zero octets = refl
length_words (suc n) octets = ap suc (length_words n octets)

word_is : (n k : ℕ) (octets : List ℕ) → k < n → get_or (words_of n octets) k 0 ≡ big_number 8 (drop (8 * (n - 1 - k)) octets)
unfolding words_of
word_is zero k octets lt = absurd (omega (arith, lt))
word_is (suc n) zero octets lt =
    let e : n ≡ suc n - 1 - 0 = omega arith in
    ap (λ (m : ℕ). big_number 8 (drop (8 * m) octets)) e
word_is (suc n) (suc k) octets lt =
    let e : n - 1 - k ≡ suc n - 1 - suc k = omega (arith, lt) in
    word_is n k octets (omega (arith, lt)) ∙ ap (λ (m : ℕ). big_number 8 (drop (8 * m) octets)) e

are_octets : (n : ℕ) (octets : List ℕ) → AreOctets (words_of n octets) octets (length (words_of n octets))
are_octets n octets k lt =
    let long = length_words n octets in
    word_is n k octets (omega (arith, lt, long)) ∙ ap (λ (m : ℕ). big_number 8 (drop (8 * (m - 1 - k)) octets)) (sym long)

abbrev pub AreSmall : List ℕ → Type 0
AreSmall octets = (k : ℕ) → get_or octets k 0 < 256

-- the words of all octets
abbrev pub all_words : List ℕ → List ℕ
all_words octets = words_of (length octets / 8) octets

-- whether a bit is set, and that none is from one up to another
abbrev pub Passed : List ℕ → ℕ → ℕ → Type 0
Passed octets start from = NoPlace (has_place (all_words octets)) start from

members : (octets : List ℕ) → length octets % 8 ≡ 0 → AreSmall octets → members_of (length octets / 8) (all_words octets) ≡ set_of octets
members octets whole small = read_set (length octets / 8) (all_words octets) octets (length_words (length octets / 8) octets) (omega (arith, whole)) small (are_octets (length octets / 8) octets)

-- the index of a place's word, and how many of its bits are passed
abbrev index : List ℕ → ℕ → ℕ
index octets at = length octets / 8 - 1 - at / 8

word_here : (octets : List ℕ) (at from above : ℕ) → IsPlace octets at from above → get_or (all_words octets) (index octets at) 0 ≡ big_number 8 (drop at octets)
word_here octets at from above is =
    let e : 8 * (length octets / 8 - 1 - index octets at) ≡ at = omega (arith, is.words, is.word, is.within) in
    word_is (length octets / 8) (index octets at) octets (omega (arith, is.words, is.word, is.within)) ∙ ap (λ (m : ℕ). big_number 8 (drop m octets)) e

-- the word without the bits that are passed
above_is : (octets : List ℕ) (at from above r : ℕ) → IsPlace octets at from above → from + 64 ≡ 8 * (length octets - at) + r → above ≡ get_or (all_words octets) (index octets at) 0 / 2 ^ r
above_is octets at from above r is e =
    let f : from + 64 - 8 * (length octets - at) ≡ r = omega (arith, e) in
    is.rest ∙ ap (λ (m : ℕ). big_number 8 (drop at octets) / 2 ^ m) f ∙ ap (λ (w : ℕ). w / 2 ^ r) (sym (word_here octets at from above is))

small_word : (octets : List ℕ) (at : ℕ) → AreSmall octets → big_number 8 (drop at octets) < 2 ^ 64
small_word octets at small = omega (arith, big_from-lt 0 8 (drop at octets) (λ m. rw (get_or-drop at octets m 0) (small (at + m))))

-- ---- a word without a bit

-- the rest of the word is passed
pub word_passed : (octets : List ℕ) (start at from above : ℕ) → IsPlace octets at from above → above ≡ 0 → Passed octets start from → Passed octets start (8 * (length octets - at))
word_passed octets start at from above is none so_far i low high = elim (cases_lt i from) [
  | inl before ↦ so_far i low before
  | inr here ↦
      let k = index octets at in
      let end : 8 * (length octets - at) ≡ 64 * (k + 1) = omega (arith, is.words, is.word, is.within) in
      let first = first_none (has_place (all_words octets)) from k (get_or (all_words octets) k 0) above (k + 1) (place_at (all_words octets) k) (omega (arith, is.low, end, here, high))
      (above_is octets at from above (from % 64) is (omega (arith, is.low, end, here, high))) none refl in
      first i here (omega (arith, high, end))
]

-- a word none of whose bits are passed
whole : (word n : ℕ) → n ≡ 0 → word ≡ word / 2 ^ n
whole word n none = rw none (omega arith)

-- the place at the next word
pub next_place : (octets : List ℕ) (at from above word : ℕ) → IsPlace octets at from above → 0 < at → word ≡ big_number 8 (drop (at - 8) octets) → IsPlace octets (at - 8) (8 * (length octets - (at - 8)) - 64) word
next_place octets at from above word is more read =
    let from' = 8 * (length octets - (at - 8)) - 64 in
    let none : from' + 64 - 8 * (length octets - (at - 8)) ≡ 0 = omega (arith, is.within, is.word, more) in
    record {
      words = is.words;
      few = is.few;
      word = omega (arith, is.word, more);
      within = omega (arith, is.within);
      low = omega (arith, is.within, is.word, more);
      high = omega (arith, is.within, is.word, more);
      rest = read ∙ whole (big_number 8 (drop (at - 8) octets)) (from' + 64 - 8 * (length octets - (at - 8))) none;
    }

-- the place before the first position
pub first_place : (octets : List ℕ) (at word : ℕ) → length octets % 8 ≡ 0 → length octets ≤ 512 → at + 8 ≡ length octets → word ≡ big_number 8 (drop at octets) → IsPlace octets at 0 word
first_place octets at word words few end read =
    let none : 0 + 64 - 8 * (length octets - at) ≡ 0 = omega (arith, end) in
    record {
      words = words;
      few = few;
      word = omega (arith, words, end);
      within = omega (arith, end);
      low = omega (arith, end);
      high = omega arith;
      rest = read ∙ whole (big_number 8 (drop at octets)) (0 + 64 - 8 * (length octets - at)) none;
    }

-- ---- what is left

no_member : (xs : List ℕ) → None ≡ first_member xs → xs ≡ []
no_member [] e = refl
no_member (x ∷ xs) e = absurd cc

-- nothing, once the last word is passed
pub none_left : (octets : List ℕ) (start at from above : ℕ) → AreSmall octets → IsPlace octets at from above → above ≡ 0 → at ≡ 0 → Passed octets start from → left octets start ≡ []
none_left octets start at from above small is none last so_far =
    let n = length octets / 8 in
    let end : 8 * (length octets - at) ≡ 64 * n = omega (arith, is.words, last) in
    no_member (left octets start) (next_none (64 * n) start (has_place (all_words octets)) (left octets start)
    (from_low n (start + 1) start (all_words octets) (set_of octets) (members octets is.words small) (omega arith))
    (subst (λ (m : ℕ). Passed octets start m) end (word_passed octets start at from above is none so_far)))

-- the position of the lowest bit of a place's word
found_next : (octets : List ℕ) (at from above : ℕ) → AreSmall octets → IsPlace octets at from above → 0 < above → IsNextPlace (has_place (all_words octets)) from (8 * (length octets - at)) (from + trailing_zeros w64 above)
found_next octets at from above small is some =
    let k = index octets at in
    let word = get_or (all_words octets) k 0 in
    let end : 8 * (length octets - at) ≡ 64 * k + 64 = omega (arith, is.words, is.word, is.within) in
    let fits : word < 2 ^ 64 = rw (word_here octets at from above is) (small_word octets at small) in
    let r = from + 64 - 8 * (length octets - at) in
    let cut : above ≡ word / 2 ^ r = above_is octets at from above r is (omega (arith, is.low)) in
    let inside : r < 64 = elim (cases_lt r 64) [
      | inl lt ↦ lt
      | inr ge ↦
          let full : r ≡ 64 = omega (arith, is.high, ge) in
          let none : above ≡ word / 2 ^ 64 = cut ∙ ap (λ (m : ℕ). word / 2 ^ m) full in
          absurd (omega (arith, none, some, fits))
    ] in
    let rest : r ≡ from % 64 = omega (arith, end, is.low, inside) in
    first_some (has_place (all_words octets)) from k word above (8 * (length octets - at)) (place_at (all_words octets) k) (omega (arith, end, is.low, inside)) (cut ∙ ap (λ (m : ℕ). word / 2 ^ m) rest) some
    (omega (arith, cut, fits, div-le_self word (2 ^ r))) fits (omega (arith, end))

-- it is the first of those that are left
pub one_left : (octets : List ℕ) (start at from above p : ℕ) → AreSmall octets → IsPlace octets at from above → 0 < above → Passed octets start from → start ≤ from → p ≡ from + trailing_zeros w64 above + 1 → left octets start ≡ p ∷ left octets p
one_left octets start at from above p small is some so_far later e =
    let n = length octets / 8 in
    let next = found_next octets at from above small is some in
    let set = set_of octets in
    let known = members octets is.words small in
    let test = has_place (all_words octets) in
    let i = from + trailing_zeros w64 above in
    let found : IsNextPlace test start (64 * n) i =
    record {
      low = omega (arith, next.low, later);
      high = omega (arith, next.high, is.words, is.within);
      has = next.has;
      none = λ j low high. elim (cases_lt j from) [ inl before ↦ so_far j low before | inr here ↦ next.none j here high ];
    } in
    from-next 0 (64 * n) (start + 1) p set (within_members n (all_words octets) set known)
    (sym (next_found (64 * n) start i p test (left octets start) (from_low n (start + 1) start (all_words octets) set known (omega arith)) found e))

shift_more : (word above r t : ℕ) → above ≡ word / 2 ^ r → above / 2 ^ t / 2 ^ 1 ≡ word / 2 ^ (r + t + 1)
shift_more word above r t cut =
    ap (λ (n : ℕ). n / 2 ^ t / 2 ^ 1) cut
    ∙ ap (λ (n : ℕ). n / 2 ^ 1) (div-div-eq-div-mul word (2 ^ r) (2 ^ t) ∙ ap (λ (n : ℕ). word / n) (sym (pow-add 2 r t)))
    ∙ div-div-eq-div-mul word (2 ^ (r + t)) (2 ^ 1) ∙ ap (λ (n : ℕ). word / n) (sym (pow-add 2 (r + t) 1))

-- the place behind it
pub place_behind : (octets : List ℕ) (at from above p : ℕ) → AreSmall octets → IsPlace octets at from above → 0 < above → p ≡ from + trailing_zeros w64 above + 1 → IsPlace octets at p (above / 2 ^ trailing_zeros w64 above / 2 ^ 1)
place_behind octets at from above p small is some e =
    let next = found_next octets at from above small is some in
    let r = from + 64 - 8 * (length octets - at) in
    let t = trailing_zeros w64 above in
    let more : r + t + 1 ≡ p + 64 - 8 * (length octets - at) = omega (arith, e, is.low) in
    record {
      words = is.words;
      few = is.few;
      word = is.word;
      within = is.within;
      low = omega (arith, e, is.low);
      high = omega (arith, e, next.high);
      rest = shift_more (big_number 8 (drop at octets)) above r t is.rest ∙ ap (λ (m : ℕ). big_number 8 (drop at octets) / 2 ^ m) more;
    }

-- a position is one of the octets'
pub position_low : (octets : List ℕ) (at from above p : ℕ) → AreSmall octets → IsPlace octets at from above → 0 < above → p ≡ from + trailing_zeros w64 above + 1 → p ≤ 4096
position_low octets at from above p small is some e =
    let next = found_next octets at from above small is some in
    omega (arith, e, next.high, is.few)

-- before the first position, all are left
all_above : (low high : ℕ) (xs : List ℕ) → IsWithin low high xs → from_on 1 xs ≡ xs
all_above low high [] within = refl
all_above low high (x ∷ xs) within = rw (le-leb 1 x (omega (arith, within.0))) (ap (λ (l : List ℕ). x ∷ l) (all_above x high xs within.2))

pub all_left : (octets : List ℕ) (from : ℕ) (rest : List ℕ) → from ≡ 0 → left octets from ≡ rest → from_on 0 (set_of octets) ≡ rest
all_left octets from rest start is =
    let one : from + 1 ≡ 1 = omega (arith, start) in
    from-zero (set_of octets) ∙ sym (all_above 0 (8 * length octets) (set_of octets) (within-set_of octets)) ∙ ap (λ (k : ℕ). from_on k (set_of octets)) (sym one) ∙ is
