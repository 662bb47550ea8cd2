-- LSPs that need not be verified again.
use Rattle.std.specs.Prelude.{◌≡◌, ℕ, true, false, List, drop}
use Rattle.wire_base.specs.model.Checksum.{is_right}
use Rattle.wire_base.specs.model.Pdu.{tlvs_pass}

-- an LSP from its LSP ID on: after 15 octets of LSP ID, sequence number, checksum and flags come its TLVs
pub record IsVerified (octets : List ℕ) : Type 0 where
  pub right : is_right octets ≡ true
  pub whole : tlvs_pass false (drop 15 octets) ≡ true
