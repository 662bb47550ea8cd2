-- The set of positions that 64-bit words represent.
use Rattle.std.specs.Prelude.{◌+◌, ℕ, ◌≤◌, ◌<◌, ◌≡◌, ◌*◌, ◌-◌, ◌/◌, ◌%◌, ◌^◌, ◌&&◌, Bool, true, false, ◌||◌, List, ◌==◌, nat_le, filter, length, drop, slice_index, bit_and}
use Rattle.std.specs.Int.{bit_at, bit_not, w64}
use Rattle.byteorder.specs.Endian.{big_number}
use Rattle.wire_base.specs.model.BitSet.{up_to, has_member, intersection}

-- the widths that a BitString can have, in units of 64 bits (RFC 8296, 2.1.2)
abbrev pub is_width : ℕ → Bool
is_width w = (w == 1) || (w == 2) || (w == 4) || (w == 8) || (w == 16) || (w == 32) || (w == 64)

-- the members from a number on
abbrev pub from_on : ℕ → List ℕ → List ℕ
from_on low set = filter (λ p. nat_le low p) set

-- two sets share no position below the given one
abbrev pub AreApartBelow : ℕ → List ℕ → List ℕ → Type 0
AreApartBelow bp xs ys = (p : ℕ) → 1 ≤ p → p < bp → has_member p (intersection xs ys) ≡ false

-- whether the bit at an index is set, counted from 0 through all words, the least significant bit of each word first
abbrev pub has_place : List ℕ → ℕ → Bool
has_place words i = bit_at (slice_index words (i / 64)) (i % 64) == 1

abbrev pub has_both : List ℕ → List ℕ → ℕ → Bool
has_both a b i = has_place a i && has_place b i

-- the positions in w words: position p is the bit at index p - 1
unfoldable pub members_of : ℕ → List ℕ → List ℕ
members_of w words = filter (λ p. has_place words (p - 1)) (up_to (64 * w))

abbrev pub places_in : List ℕ → List ℕ
places_in words = members_of (length words) words

-- each is a 64-bit word
abbrev pub AreWords : List ℕ → Type 0
AreWords words = (k : ℕ) → slice_index words k < 2 ^ 64

-- a word whose bit k is not set only where word k is 0, and one whose bit k is not set only where two words k share no bit
abbrev pub AreMarked : ℕ → List ℕ → Type 0
AreMarked marks words = (k : ℕ) → bit_at marks k ≡ 0 → slice_index words k ≡ 0

abbrev pub AreSharedMarks : ℕ → List ℕ → List ℕ → Type 0
AreSharedMarks marks a b = (k : ℕ) → bit_at marks k ≡ 0 → bit_and (slice_index a k) (slice_index b k) ≡ 0

-- `left` has those marks that are at an index or above it
pub record IsRest (marks left at : ℕ) : Type 0 where
  pub below : (k : ℕ) → k < at → bit_at left k ≡ 0
  pub above : (k : ℕ) → at ≤ k → k < 64 → bit_at left k ≡ bit_at marks k

-- there is no mark from index `at` up to `n`, and `left` has the marks after `n`
pub record IsTaken (marks left at n : ℕ) : Type 0 where
  pub low : at ≤ 64 → at ≤ n
  pub none : (k : ℕ) → at ≤ k → k < n → bit_at marks k ≡ 0
  pub rest : IsRest marks left (n + 1)

-- no index from one number up to another passes a test, and the first that does
abbrev pub NoPlace : (ℕ → Bool) → ℕ → ℕ → Type 0
NoPlace test low high = (i : ℕ) → low ≤ i → i < high → test i ≡ false

pub record IsNextPlace (test : ℕ → Bool) (start end i : ℕ) : Type 0 where
  pub low : start ≤ i
  pub high : i < end
  pub has : test i ≡ true
  pub none : NoPlace test start i

-- only the bits behind an index are left
abbrev pub IsWithoutFirst : List ℕ → List ℕ → ℕ → Type 0
IsWithoutFirst words left n = (i : ℕ) → has_place left i ≡ (nat_le (n + 1) i && has_place words i)

-- the bits of the first word that are not in the second
abbrev pub and_not : ℕ → ℕ → ℕ
and_not a b = bit_and a (bit_not w64 b)

-- the first k words are the numbers in eight octets each, from the end on
abbrev pub AreOctets : List ℕ → List ℕ → ℕ → Type 0
AreOctets words octets count = (k : ℕ) → k < count → slice_index words k ≡ big_number 8 (drop (8 * (length words - 1 - k)) octets)
