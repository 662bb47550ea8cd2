-- The bit positions in the octets of a BitString, from a place on.
use Rattle.std.specs.Prelude.{ℕ, ◌≡◌, ◌≤◌, ◌+◌, ◌-◌, ◌*◌, ◌/◌, ◌%◌, ◌^◌, List, length, drop}
use Rattle.byteorder.specs.Endian.{big_number}
use Rattle.wire_base.specs.model.BitSet.{set_of}
use Rattle.bier_bits.specs.Sets.{from_on}

-- the positions above those that were passed
abbrev pub left : List ℕ → ℕ → List ℕ
left octets from = from_on (from + 1) (set_of octets)

-- A place: eight octets from an index on are a word, and so many of all positions up to its highest are passed. What is left of the
-- word is its number without the bits of those.
pub record IsPlace (octets : List ℕ) (at from above : ℕ) : Type 0 where
  pub words : length octets % 8 ≡ 0
  pub few : length octets ≤ 512
  pub word : at % 8 ≡ 0
  pub within : at + 8 ≤ length octets
  pub low : 8 * (length octets - at) ≤ from + 64
  pub high : from ≤ 8 * (length octets - at)
  pub rest : above ≡ big_number 8 (drop at octets) / 2 ^ (from + 64 - 8 * (length octets - at))
