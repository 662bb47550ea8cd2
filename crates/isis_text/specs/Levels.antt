-- The level of a PDU, by its type (ISO/IEC 10589, 9.8 to 9.13).
use Rattle.std.specs.Prelude.{ℕ, ◌%◌, ◌==◌, ◌||◌, List, ◌∷◌, if◌then◌else◌}
use Rattle.wire_base.specs.declared.conf.Level.{Level}
use Rattle.wire_base.specs.declared.conf.Level.TheVariants.{One, Two}

-- the low five bits of the fifth octet
abbrev pub type_in : List ℕ → ℕ
type_in (a ∷ b ∷ c ∷ d ∷ number ∷ rest) = number % 32
type_in octets = 0

-- LSPs, CSNPs and PSNPs of level 1 have the types 18, 24 and 26
abbrev pub level_in : List ℕ → Level
level_in pdu = if (type_in pdu == 18) || (type_in pdu == 24) || (type_in pdu == 26) then One else Two
