-- Words and the octets that stand for them.
use Rattle.std.proofs.Common.{◌≡◌, ℕ, zero, suc, ◌+◌, ◌-◌, ◌*◌, ◌/◌, ◌%◌, ◌^◌, ◌<◌, ◌==◌, List, ◌++◌, length, get_or, drop, take, sym, ap, ◌∙◌, arith, inl, inr}
use Rattle.std.specs.Int.{bit_at}
use Rattle.std.proofs.lemmas.Bool.{cases_lt}
use Rattle.std.proofs.lemmas.List.{drop-drop, get_or-drop, length-take-le}
use Rattle.std.proofs.lemmas.Slice.{drop-append-drop}
use Rattle.std.proofs.Math.Seq.{drop-append-add}
use Rattle.std.proofs.lemmas.Nat.Bits.{bit_at_cat_low, bit_at_cat_high}
use Rattle.byteorder.specs.Endian.{big_from, big_number, big_bytes}
use Rattle.byteorder.specs.Numbers.{big_from-lt, big_number-reads_back, length-bytes_high_first}
use Rattle.byteorder.proofs.Bytes.{pow256}
use Rattle.wire_base.specs.model.BitSet.{has_member, has_bit, set_of, octets_of}
use Rattle.wire_base.proofs.SetLaws.{has-set_of, within-set_of}
use Rattle.wire_base.proofs.SetOctets.{octets_of-is, octets_of-set_of, set_of-octets_of}
use Rattle.bier_bits.specs.Sets.{AreOctets, has_place, members_of}
use Rattle.bier_bits.proofs.WordLaws.{has_members, members_is, within_members}

-- a bit of a number of octets is one of the octet's
big-bit : (octets : List ℕ) (n i j : ℕ) → ((k : ℕ) → get_or octets k 0 < 256) → j < 8 * n → bit_at (big_from i n octets) j ≡ bit_at (get_or octets (i + (n - 1 - j / 8)) 0) (j % 8)
big-bit octets zero i j small lt = absurd (omega (arith, lt))
big-bit octets (suc n) i j small lt =
    let x = get_or octets i 0 in
    let rest = big_from (suc i) n octets in
    elim (cases_lt j (8 * n)) [
      | inl below ↦
          let place : suc i + (n - 1 - j / 8) ≡ i + (suc n - 1 - j / 8) = omega (arith, below) in
          ap (λ (p : ℕ). bit_at (x * p + rest) j) (pow256 n) ∙ bit_at_cat_low x (8 * n) rest j below ∙ big-bit octets n (suc i) j small below ∙ ap (λ (k : ℕ). bit_at (get_or octets k 0) (j % 8)) place
      | inr above ↦
          let place : i ≡ i + (suc n - 1 - j / 8) = omega (arith, above, lt) in
          let bit : j - 8 * n ≡ j % 8 = omega (arith, above, lt) in
          ap (λ (p : ℕ). bit_at (x * p + rest) j) (pow256 n) ∙ bit_at_cat_high x (8 * n) rest j (omega (arith, big_from-lt (suc i) n octets small, pow256 n)) above
          ∙ ap (λ (k : ℕ). bit_at x k) bit ∙ ap (λ (k : ℕ). bit_at (get_or octets k 0) (j % 8)) place
    ]

-- words and octets that stand for each other have the same bits
pub octet-bit : (w i : ℕ) (words octets : List ℕ) → length words ≡ w → length octets ≡ 8 * w → ((k : ℕ) → get_or octets k 0 < 256) → AreOctets words octets (length words) → i < 64 * w → has_bit octets (i + 1) ≡ has_place words i
octet-bit w i words octets wide long small are lt =
    let k = i / 64 in
    let j = i % 64 in
    let at = 8 * (length words - 1 - k) in
    let place : at + (0 + (8 - 1 - j / 8)) ≡ length octets - 1 - (i + 1 - 1) / 8 = omega (arith, wide, long, lt) in
    let bit : j % 8 ≡ (i + 1 - 1) % 8 = omega arith in
    sym (ap (λ (n : ℕ). bit_at n j == 1) (are k (omega (arith, wide, lt)))
    ∙ ap (λ (b : ℕ). b == 1) (big-bit (drop at octets) 8 0 j (λ m. rw (get_or-drop at octets m 0) (small (at + m))) (omega arith)
    ∙ ap (λ (x : ℕ). bit_at x (j % 8)) (get_or-drop at octets (0 + (8 - 1 - j / 8)) 0)
    ∙ ap (λ (m : ℕ). bit_at (get_or octets m 0) (j % 8)) place
    ∙ ap (λ (m : ℕ). bit_at (get_or octets (length octets - 1 - (i + 1 - 1) / 8) 0) m) bit))

-- ---- the set of octets, and the octets of a set

pub read_set : (w : ℕ) (words octets : List ℕ) → length words ≡ w → length octets ≡ 8 * w → ((k : ℕ) → get_or octets k 0 < 256) → AreOctets words octets (length words) → members_of w words ≡ set_of octets
read_set w words octets wide long small are =
    let end : 8 * length octets ≡ 64 * w = omega (arith, long) in
    members_is w words (set_of octets) (rw (sym end) (within-set_of octets)) (λ i lt.
    has-set_of (i + 1) octets (omega arith) (omega (arith, end, lt)) ∙ octet-bit w i words octets wide long small are lt)

pub read_again : (w : ℕ) (octets s : List ℕ) → length octets ≡ 8 * w → ((k : ℕ) → get_or octets k 0 < 256) → s ≡ set_of octets → octets_of (8 * w) s ≡ octets
read_again w octets s long small is = ap (octets_of (8 * w)) is ∙ rw (sym long) (octets_of-set_of octets small)

pub written : (w : ℕ) (words octets s : List ℕ) → length words ≡ w → length octets ≡ 8 * w → ((k : ℕ) → get_or octets k 0 < 256) → members_of w words ≡ s → AreOctets words octets (length words) → octets ≡ octets_of (8 * w) s
written w words octets s wide long small is are =
    sym (rw (sym long) (octets_of-is octets s small (λ p low high.
    let back : p ≡ p - 1 + 1 = omega (arith, low) in
    ap (λ (q : ℕ). has_member q s) back ∙ has_members w (p - 1) words s is (omega (arith, low, high, long))
    ∙ sym (octet-bit w (p - 1) words octets wide long small are (omega (arith, low, high, long))) ∙ ap (has_bit octets) (sym back))))

pub written_again : (w : ℕ) (words octets s : List ℕ) → members_of w words ≡ s → octets ≡ octets_of (8 * w) s → set_of octets ≡ s
written_again w words octets s is e =
    let end : 64 * w ≡ 8 * (8 * w) = omega arith in
    ap set_of e ∙ set_of-octets_of (8 * w) s (rw (sym end) (within_members w words s is))

-- ---- one word more

pub write_one : (words out : List ℕ) (n k at x : ℕ) → length words ≡ n → length out ≡ 8 * n → k < n → at ≡ 8 * (n - 1 - k) → x ≡ get_or words k 0 → x < 2 ^ 64 → AreOctets words out k → AreOctets words (take at out ++ (big_bytes 8 x ++ drop 8 (drop at out))) (k + 1)
write_one words out n k at x wide long lt place value fits so_far j below =
    let front : length (take at out) ≡ at = length-take-le at out (omega (arith, long, place, lt)) in
    let tail = big_bytes 8 x ++ drop 8 (drop at out) in
    let past : (m : ℕ) → drop (at + m) (take at out ++ tail) ≡ drop m tail = λ m. ap (λ (f : ℕ). drop (f + m) (take at out ++ tail)) (sym front) ∙ drop-append-add (take at out) tail m in
    elim (cases_lt j k) [
      | inl before ↦
          let m = 8 * (k - j) in
          let there : 8 * (length words - 1 - j) ≡ at + m = omega (arith, wide, place, before, lt) in
          let same : drop (at + m) (take at out ++ tail) ≡ drop (at + m) out = past m ∙ drop-append-drop 8 (drop at out) (big_bytes 8 x) m (omega (arith, before)) (length-bytes_high_first 8 x) ∙ drop-drop m at out in
          so_far j before ∙ ap (λ (f : ℕ). big_number 8 (drop f out)) there ∙ ap (big_number 8) (sym same) ∙ ap (λ (f : ℕ). big_number 8 (drop f (take at out ++ tail))) (sym there)
      | inr here ↦
          let same : k ≡ j = omega (arith, here, below) in
          let there : 8 * (length words - 1 - j) ≡ at + 0 = omega (arith, wide, place, same) in
          ap (λ (i : ℕ). get_or words i 0) (sym same) ∙ sym value ∙ sym (big_number-reads_back 8 x (drop 8 (drop at out)) (omega (arith, fits)))
          ∙ ap (big_number 8) (sym (past 0)) ∙ ap (λ (f : ℕ). big_number 8 (drop f (take at out ++ tail))) (sym there)
    ]
