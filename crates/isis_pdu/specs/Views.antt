-- The models of this crate's types, and the part of an LSP that its checksum covers.
use Rattle.std.specs.Prelude.{ℕ, false, not, ◌&&◌, List, Result, Ok, Err, nat_lt, if◌then◌else◌}
use Rattle.wire_base.specs.declared.faults.PduFault.{PduFault}
use Rattle.wire_base.specs.declared.faults.PduFault.TheVariants as faults
use Rattle.wire_base.specs.model.Fields.{◌>>=◌, octet_at, number_at}
use Rattle.wire_base.specs.model.Checksum.{is_right}
use Rattle.wire_base.specs.model.Tlv.{lsp_id_at}
use Rattle.wire_base.specs.model.Pdu.{tlvs_pass}
use Rattle.wire_base.specs.model.Pdu.{Head, LspPdu, CsnpPdu, PsnpPdu, HelloPdu, OtherPdu}
use Rattle.wire_base.specs.model.Pdu.{Pdu as PduItem}
use Rattle.isis_pdu.specs.declared.kinds.LspHead.{LspHead}
use Rattle.isis_pdu.specs.declared.kinds.Pdu.{Pdu}
use Rattle.isis_pdu.specs.declared.kinds.Pdu.TheVariants.{Lsp, Csnp, Psnp, Hello, Other}

abbrev pub head_of : LspHead → Head
head_of h = record { life = h.life; id = h.id; seq = h.seq; sum = h.sum; flags = h.flags }

abbrev pub pdu_of : Pdu → PduItem
pdu_of (Lsp tlvs head) = LspPdu (head_of head) tlvs.now
pdu_of (Csnp tlvs start last source) = CsnpPdu source start last tlvs.now
pdu_of (Psnp tlvs source) = PsnpPdu source tlvs.now
pdu_of Hello = HelloPdu
pdu_of (Other number) = OtherPdu number

-- a value, if an LSP, from its LSP ID on, with that Remaining Lifetime passes its tests: its checksum, and then its TLVs
abbrev pub if_verified : {A : Type 0} → ℕ → List ℕ → List ℕ → A → Result A PduFault
if_verified life octets tlvs x =
    if nat_lt 0 life && not (is_right octets) then Err faults.Checksum
    else if tlvs_pass false tlvs then Ok x
    else Err faults.Tlv

-- what is tested of an LSP
abbrev pub verified_at : ℕ → List ℕ → List ℕ → Result (Unit {0}) PduFault
verified_at life octets tlvs = if_verified life octets tlvs tt

-- an LSP from its LSP ID on, with that Remaining Lifetime: what lsp_at parses after the lifetime
abbrev pub covered_at : ℕ → List ℕ → Result PduItem PduFault
covered_at life octets = do
  id ← lsp_id_at faults.PduLength octets
  seq ← number_at faults.PduLength 4 id.1
  check ← number_at faults.PduLength 2 seq.1
  flags ← octet_at faults.PduLength check.1
  if_verified life octets flags.1 (LspPdu (record { life = life; id = id.0; seq = seq.0; sum = check.0; flags = flags.0 }) flags.1)
