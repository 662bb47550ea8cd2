-- A set of bit positions as the ascending list of its members, and the octets that encode it (RFC 8296, 2.1.2).
-- The highest position is sent first: of n octets the last has the positions 1 to 8, position 1 as its least significant bit.
use Rattle.std.specs.Prelude.{◌+◌, ◌*◌, ℕ, suc, zero, ◌<◌, ◌≤◌, Bool, false, not, ◌||◌, List, [], ◌∷◌, ◌++◌, ◌==◌, nat_lt, length, if◌then◌else◌, Option, Some, None, ◌-◌, ◌/◌, ◌%◌, ◌^◌, filter, slice_index}

-- whether a position is in the set
abbrev pub has_member : ℕ → List ℕ → Bool
has_member p [] = false
has_member p (x ∷ xs) = (p == x) || has_member p xs

-- the set with that position added
abbrev pub with_member : ℕ → List ℕ → List ℕ
with_member p [] = p ∷ []
with_member p (x ∷ xs) = if nat_lt p x then p ∷ x ∷ xs else if p == x then x ∷ xs else x ∷ with_member p xs

-- the least position
abbrev pub first_member : List ℕ → Option ℕ
first_member [] = None
first_member (x ∷ xs) = Some x

-- in ascending order, above low and up to high
abbrev pub IsWithin : ℕ → ℕ → List ℕ → Type 0
IsWithin low high [] = Unit {0}
IsWithin low high (x ∷ xs) = (low < x) × (x ≤ high) × IsWithin x high xs

-- the positions that two sets share
abbrev pub intersection : List ℕ → List ℕ → List ℕ
intersection xs ys = filter (λ p. has_member p ys) xs

-- the positions of the first set that are not in the second
abbrev pub difference : List ℕ → List ℕ → List ℕ
difference xs ys = filter (λ p. not (has_member p ys)) xs

-- the positions that are in either set
abbrev pub union : List ℕ → List ℕ → List ℕ
union [] ys = ys
union (x ∷ xs) ys = with_member x (union xs ys)

-- the numbers from 1 on
abbrev pub up_to : ℕ → List ℕ
up_to zero = []
up_to (suc n) = up_to n ++ suc n ∷ []

-- whether the bit of a position is set in the octets
abbrev pub has_bit : List ℕ → ℕ → Bool
has_bit octets p = (slice_index octets (length octets - 1 - (p - 1) / 8) / 2 ^ ((p - 1) % 8)) % 2 == 1

-- the set that octets encode
unfoldable pub set_of : List ℕ → List ℕ
set_of octets = filter (has_bit octets) (up_to (8 * length octets))

-- the number whose bits, from the least significant on, are that many positions of a set from p on
abbrev pub number_from : ℕ → ℕ → List ℕ → ℕ
number_from zero p xs = 0
number_from (suc n) p xs = (if has_member p xs then 1 else 0) + 2 * number_from n (p + 1) xs

-- the encoding of a set in that many octets
unfoldable pub octets_of : ℕ → List ℕ → List ℕ
octets_of zero xs = []
octets_of (suc n) xs = number_from 8 (8 * n + 1) xs ∷ octets_of n xs
