-- How reports write system IDs, LSP IDs and addresses.
use Rattle.std.specs.Prelude.{ℕ, ◌+◌, ◌/◌, ◌%◌, nat_lt, List, [], ◌∷◌, ◌++◌, slice_index, if◌then◌else◌}
use Rattle.std.specs.Fmt.{decimal}
use Rattle.wire_base.specs.declared.addresses.Ipv4.{Ipv4}
use Rattle.wire_base.specs.declared.addresses.LspId.{LspId}
use Rattle.wire_base.specs.declared.addresses.SystemId.{SystemId}

-- `0` to `9` and `a` to `f`
abbrev pub hex_digit : ℕ → ℕ
hex_digit n = if nat_lt n 10 then 48 + n else 87 + n

abbrev pub hex_octet : ℕ → List ℕ
hex_octet n = hex_digit (n / 16) ∷ hex_digit (n % 16) ∷ []

-- the digits of two octets
unfoldable pub hex_pair : (high low : ℕ) → List ℕ
hex_pair high low = hex_octet high ++ hex_octet low

-- such as `0000.0000.0001`
unfoldable pub system_text : SystemId → List ℕ
system_text s =
    hex_pair (slice_index s.0 0) (slice_index s.0 1) ++ 46 ∷ []
    ++ hex_pair (slice_index s.0 2) (slice_index s.0 3) ++ 46 ∷ []
    ++ hex_pair (slice_index s.0 4) (slice_index s.0 5)

-- such as `0000.0000.0001.00-00`: the system ID, the pseudonode number and the fragment number
unfoldable pub lsp_id_text : LspId → List ℕ
lsp_id_text id = system_text id.system ++ 46 ∷ [] ++ hex_octet id.pseudonode ++ 45 ∷ [] ++ hex_octet id.fragment

-- such as `10.0.0.1`
unfoldable pub prefix_text : Ipv4 → List ℕ
prefix_text p = decimal (slice_index p.0 0) ++ 46 ∷ decimal (slice_index p.0 1) ++ 46 ∷ decimal (slice_index p.0 2) ++ 46 ∷ decimal (slice_index p.0 3)
