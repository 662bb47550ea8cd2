-- The text of a payload.
use Rattle.std.specs.Prelude.{ℕ, ◌≡◌, ◌<◌, ◌≤◌, ◌/◌, ◌%◌, List, [], ◌∷◌, length, slice_index, Some, codes}
use Rattle.std.specs.List.{flat_map}
use Rattle.replay_text.specs.Arguments.{payload_of}
use Rattle.wire_base.specs.declared.limits.TheConstants.{MOST_PAYLOAD}

-- an octet as two lower-case hexadecimal digits
abbrev pub digits_of : ℕ → List ℕ
digits_of octet = slice_index (codes "0123456789abcdef") (octet / 16) ∷ slice_index (codes "0123456789abcdef") (octet % 16) ∷ []

-- the digits of each octet, or `-` for none
abbrev pub payload_text : List ℕ → List ℕ
payload_text [] = 45 ∷ []
payload_text (octet ∷ octets) = flat_map digits_of (octet ∷ octets)

-- Parsing the text of at most 2,000 octets returns them.
abbrev pub IsPayloadReadAgain : List ℕ → Type 0
IsPayloadReadAgain octets = ((i : ℕ) → slice_index octets i < 256) → length octets ≤ MOST_PAYLOAD → payload_of (payload_text octets) ≡ Some octets
