-- What a router sends on a link, as frames.
use Rattle.std.specs.Prelude.{ℕ, Bool, List, [], ◌∷◌, map, false, Option, Some, None, slice_index_or, if◌then◌else◌}
use Rattle.std.specs.List.{flat_map}
use Rattle.wire_base.specs.declared.addresses.LspId.{LspId}
use Rattle.wire_base.specs.declared.addresses.SystemId.{SystemId}
use Rattle.wire_base.specs.declared.codepoints.TheConstants.{TLV_LSP_ENTRIES}
use Rattle.wire_base.specs.declared.conf.End.{End}
use Rattle.wire_base.specs.declared.conf.RouterConf.{RouterConf}
use Rattle.wire_base.specs.declared.effects.Sent.{Sent}
use Rattle.wire_base.specs.declared.entry.Entry.{Entry}
use Rattle.wire_base.specs.model.Control.{Control, FlagRow, entry_in, srm_in, summary_of}
use Rattle.wire_base.specs.model.Flooding.{lsp_of, new_flood}
use Rattle.wire_base.specs.model.Lists.{blocks}
use Rattle.wire_base.specs.model.OnFrame.{frames_of}
use Rattle.wire_base.specs.model.Item.{isis_frame}
use Rattle.wire_base.specs.model.Pdu.{Pdu, PsnpPdu}
use Rattle.wire_base.specs.model.Tlv.{Tlv, row, tlv}
use Rattle.laws_router.specs.State.{control_of}

-- a control state with that configuration, where nothing else of it matters
abbrev pub conf_alone : RouterConf → Control
conf_alone r = control_of r (new_flood r.system []) [] false

-- what is sent for an entry, if there is one
abbrev pub found : {X : Type 0} → (Entry → List X) → Option Entry → List X
found f None = []
found f (Some e) = f e

-- what is sent for the entry of a row's LSP ID, if the row has the flag
abbrev pub found_at : {X : Type 0} → (Entry → List X) → List Entry → LspId → Bool → List X
found_at f es id flag = if flag then found f (entry_in es id) else []

abbrev pub row_ids : List FlagRow → List LspId
row_ids rows = map (λ row. row.id) rows

abbrev pub entry_frames : RouterConf → ℕ → Entry → List Sent
entry_frames r link e = frames_of r link (lsp_of e ∷ [])

-- the octets with which a sequence numbers PDU lists an entry
abbrev pub entry_row : Entry → List (List ℕ)
entry_row e = row (summary_of e) ∷ []

-- what a row of flags sends on a link, and what it requests there
abbrev pub row_frames : RouterConf → List Entry → ℕ → FlagRow → List Sent
row_frames r es link row = found_at (entry_frames r link) es row.id (slice_index_or row.srm link false)

abbrev pub row_asked : List Entry → ℕ → FlagRow → List (List ℕ)
row_asked es link row = found_at entry_row es row.id (slice_index_or row.ssn link false)

-- the frame of an entry, if it is to be sent on a link
abbrev pub lsp_frames : RouterConf → List FlagRow → ℕ → Entry → List Sent
lsp_frames r rows link e = if srm_in rows e.id link then frames_of r link (lsp_of e ∷ []) else []

-- the frame of a PDU's octets on an interface
abbrev pub octets_on : Option End → List ℕ → List ℕ
octets_on None octets = []
octets_on (Some e) octets = isis_frame e.own_mac octets

-- ---- entries that are given by their octets

-- the TLV with those octets of entries
abbrev pub rows_tlv : List ℕ → Tlv
rows_tlv octets = record { code = TLV_LSP_ENTRIES; value = octets }

-- the TLVs that list entries, 15 each
abbrev pub listing : List (List ℕ) → List ℕ
listing rows = flat_map (λ block. tlv (rows_tlv (flat_map (λ octets. octets) block))) (blocks 15 rows)

-- the PSNP that lists entries
abbrev pub psnp_listing : SystemId → List (List ℕ) → Pdu
psnp_listing source rows = PsnpPdu source (listing rows)
