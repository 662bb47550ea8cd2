-- Frames of PDUs are read again.
use Rattle.std.proofs.Common.{◌≡◌, ℕ, ◌+◌, ◌≤◌, true, false, List, [], ◌∷◌, ◌++◌, length, get_or, Ok, refl, sym, ap, ◌∙◌, arith}
use Rattle.std.proofs.lemmas.List.{take_all, length-append, append-nil}
use Rattle.byteorder.specs.Endian.{big_bytes}
use Rattle.wire_base.specs.declared.addresses.Mac.{Mac}
use Rattle.wire_base.specs.declared.conf.End.{End}
use Rattle.wire_base.specs.declared.conf.Level.{Level}
use Rattle.wire_base.specs.model.Control.{Control}
use Rattle.wire_base.specs.model.Ethernet.{IsisPdu, frame_at}
use Rattle.wire_base.specs.model.Flooding.{on_pdu}
use Rattle.wire_base.specs.model.Item.{ControlItem, all_routers, isis_frame, frame_of}
use Rattle.wire_base.specs.model.OnFrame.{framed, pdu_taken, on_frame}
use Rattle.wire_base.specs.model.Pdu.{Pdu, LspPdu, CsnpPdu, PsnpPdu, HelloPdu, OtherPdu, pdu, pdu_at}
use Rattle.wire_base.specs.model.Tlv.{lsp_id}
use Rattle.laws_format.proofs.PduLaws.{lsp_read, csnp_read, psnp_read}
use Rattle.laws_format.proofs.TlvLaws.{length_lsp_id}
use Rattle.link_frame.proofs.Frames.{frame_again}
use Rattle.laws_item.specs.Fits.{IsSendable}

-- the frame of a PDU carries it
pub isis_carries : (own : Mac) (octets : List ℕ) → length own.0 ≡ 6 → length octets ≤ 1497 → frame_at (isis_frame own octets) ≡ Ok (IsisPdu octets)
isis_carries own octets six short =
    frame_again all_routers own.0 (254 ∷ 254 ∷ 3 ∷ octets) (3 + length octets) (IsisPdu octets) refl six (omega arith)
    (omega arith, omega arith, take_all (3 + length octets) (254 ∷ 254 ∷ 3 ∷ octets) (omega arith))

-- a PDU that is sent is read again
pub sendable_reads : (level : Level) (p : Pdu) → IsSendable p → pdu_at level (pdu level p) ≡ Ok p
sendable_reads level (LspPdu head tlvs) is = ap (pdu_at level) (sym (append-nil (pdu level (LspPdu head tlvs)))) ∙ lsp_read level head tlvs [] is.0
sendable_reads level (CsnpPdu source start last tlvs) is = ap (pdu_at level) (sym (append-nil (pdu level (CsnpPdu source start last tlvs)))) ∙ csnp_read level source start last tlvs [] is.0
sendable_reads level (PsnpPdu source tlvs) is = ap (pdu_at level) (sym (append-nil (pdu level (PsnpPdu source tlvs)))) ∙ psnp_read level source tlvs [] is.0
sendable_reads level HelloPdu is = absurd is
sendable_reads level (OtherPdu number) is = absurd is

-- and is short enough
pub sendable_short : (level : Level) (p : Pdu) → IsSendable p → length (pdu level p) ≤ 1497
sendable_short level (LspPdu head tlvs) is =
    omega (arith, is.1, length_lsp_id head.id is.0.head_fits.id, length-append (lsp_id head.id) (big_bytes 4 head.seq ++ (big_bytes 2 head.sum ++ (head.flags ∷ tlvs))))
sendable_short level (CsnpPdu source start last tlvs) is =
    omega (
      arith,
      is.1,
      is.0.source_long,
      length_lsp_id start is.0.start_fits,
      length_lsp_id last is.0.last_fits,
      length-append source.0 (0 ∷ (lsp_id start ++ (lsp_id last ++ tlvs))),
      length-append (lsp_id start) (lsp_id last ++ tlvs),
      length-append (lsp_id last) tlvs,
    )
sendable_short level (PsnpPdu source tlvs) is = omega (arith, is.1, is.0.source_long, length-append source.0 (0 ∷ tlvs))
sendable_short level HelloPdu is = absurd is
sendable_short level (OtherPdu number) is = absurd is

taken : (c : Control) (link : ℕ) (p : Pdu) → IsSendable p → pdu_taken c link p ≡ framed link (on_pdu c link p)
taken c link (LspPdu head tlvs) is = refl
taken c link (CsnpPdu source start last tlvs) is = refl
taken c link (PsnpPdu source tlvs) is = refl
taken c link HelloPdu is = absurd is
taken c link (OtherPdu number) is = absurd is

-- what a router does on the frame of a PDU is what flooding does with the PDU
pub control_taken : (c : Control) (link : ℕ) (e : End) (p : Pdu) → IsSendable p → length e.own_mac.0 ≡ 6 → get_or c.flood.up link false ≡ true
    → on_frame c link (frame_of c.conf.level e (ControlItem p)) ≡ framed link (on_pdu c link p)
unfolding on_frame frame_of
control_taken c link e p is six up =
    rw (up, isis_carries e.own_mac (pdu c.conf.level p) six (sendable_short c.conf.level p is), sendable_reads c.conf.level p is) (taken c link p is)
