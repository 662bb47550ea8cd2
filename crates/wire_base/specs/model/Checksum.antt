-- The checksum of an LSP (ISO/IEC 10589, 7.3.11): two sums of the octets are 0 modulo 255.
use Rattle.std.specs.Prelude.{◌≡◌, ℕ, ◌+◌, ◌-◌, ◌*◌, ◌%◌, ◌≤◌, Bool, ◌&&◌, ◌==◌, List, [], ◌∷◌, ◌++◌, length, sum, take, drop}

-- each octet times the number of octets from it to the end
abbrev pub weighted : List ℕ → ℕ
weighted [] = 0
weighted (x ∷ xs) = x * length (x ∷ xs) + weighted xs

pub record IsRight (octets : List ℕ) : Type 0 where
  pub plain : sum octets % 255 ≡ 0
  pub heavy : weighted octets % 255 ≡ 0

-- the test that the checksum is right
abbrev pub is_right : List ℕ → Bool
is_right octets = (sum octets % 255 == 0) && (weighted octets % 255 == 0)

-- the octets with those at an index replaced by a pair
abbrev pub with_pair : List ℕ → ℕ → ℕ × ℕ → List ℕ
with_pair octets at pair = take at octets ++ (pair.0 ∷ pair.1 ∷ drop (at + 2) octets)

-- from 1 to 255: 0 means no checksum
pub record IsCheckOctet (n : ℕ) : Type 0 where
  pub above_zero : 1 ≤ n
  pub in_octet : n ≤ 255

-- written at that index, the pair makes the checksum right
pub record IsCheck (octets : List ℕ) (at : ℕ) (pair : ℕ × ℕ) : Type 0 where
  pub first : IsCheckOctet pair.0
  pub second : IsCheckOctet pair.1
  pub right : IsRight (with_pair octets at pair)

-- The pair for octets that have 0 and 0 at that index. Both together make the plain sum 0, and the first
-- alone makes the weighted sum 0.
abbrev pub check_first : List ℕ → ℕ → ℕ
check_first octets at = 255 - (weighted octets + (255 - sum octets % 255) * (length octets - at - 1)) % 255

abbrev pub check_second : List ℕ → ℕ → ℕ
check_second octets at = 255 - (sum octets + check_first octets at) % 255

-- both as a 16-bit number
unfoldable pub check_sum : List ℕ → ℕ → ℕ
check_sum octets at = check_first octets at * 256 + check_second octets at
