-- IS-IS PDUs: their values, the encoding of each, their grammar, and how they are parsed
-- (ISO/IEC 10589, 9.8 to 9.13).
use Rattle.std.specs.Prelude.{◌≡◌, ℕ, zero, suc, ◌+◌, ◌-◌, ◌*◌, ◌%◌, ◌<◌, ◌^◌, ◌⊎◌, Bool, true, false, not, ◌&&◌, ◌||◌, List, [], ◌∷◌, ◌++◌, length, take, drop, slice_index, Result, Ok, Err, nat_lt, nat_le, ◌==◌, if◌then◌else◌}
use Rattle.std.specs.List.{list_all, flat_map}
use Rattle.byteorder.specs.Endian.{big_bytes}
use Rattle.wire_base.specs.declared.codepoints.TheConstants.{TLV_LSP_ENTRIES}
use Rattle.wire_base.specs.declared.addresses.SystemId.{SystemId}
use Rattle.wire_base.specs.declared.addresses.LspId.{LspId}
use Rattle.wire_base.specs.declared.triple.Summary.{Summary}
use Rattle.wire_base.specs.declared.conf.Level.{Level}
use Rattle.wire_base.specs.declared.conf.Level.TheVariants.{One, Two}
use Rattle.wire_base.specs.declared.faults.TlvFault.{TlvFault}
use Rattle.wire_base.specs.declared.faults.PduFault.{PduFault}
use Rattle.wire_base.specs.declared.faults.PduFault.TheVariants as faults
use Rattle.wire_base.specs.model.Fields.{◌>>=◌, octet_at, octets_at, number_at}
use Rattle.wire_base.specs.model.Checksum.{IsRight, is_right, check_sum}
use Rattle.wire_base.specs.model.Tlv.{Tlv, tlv, tlvs_of, LspIdFits, lsp_id, lsp_id_at, row}

-- ---- the values; TLVs are kept as the octets that encode them

pub record Head : Type 0 where
  pub life : ℕ
  pub id : LspId
  pub seq : ℕ
  pub sum : ℕ
  pub flags : ℕ

-- its summary in a CSNP or PSNP
abbrev pub head_summary : Head → Summary
head_summary head = record { life = head.life; id = head.id; seq = head.seq; sum = head.sum }

pub data Pdu : Type 0 where
  LspPdu : (head : Head) (tlvs : List ℕ) → Pdu
  CsnpPdu : (source : SystemId) (start last : LspId) (tlvs : List ℕ) → Pdu
  PsnpPdu : (source : SystemId) (tlvs : List ℕ) → Pdu
  HelloPdu : Pdu
  OtherPdu : (number : ℕ) → Pdu

-- ---- the TLVs of a PDU

-- Where LSP entries are listed, a TLV 9 consists of entries of 16 octets.
abbrev pub passes : Bool → Tlv → Bool
passes rows t = if rows && (t.code == TLV_LSP_ENTRIES) then length t.value % 16 == 0 else true

-- the octets are TLVs one after the other, each of which passes
pub record AreTlvs (rows : Bool) (octets : List ℕ) : Type 0 where
  pub tlvs : List Tlv
  pub spelled : octets ≡ flat_map tlv tlvs
  pub pass : list_all (passes rows) tlvs ≡ true

-- the test for such a list
abbrev pub all_pass : Bool → Result (List Tlv) TlvFault → Bool
all_pass rows (Ok ts) = list_all (passes rows) ts
all_pass rows (Err f) = false

unfoldable pub tlvs_pass : Bool → List ℕ → Bool
tlvs_pass rows octets = all_pass rows (tlvs_of octets)

-- ---- encodings

abbrev pub lsp_type : Level → ℕ
lsp_type One = 18
lsp_type Two = 20

abbrev pub csnp_type : Level → ℕ
csnp_type One = 24
csnp_type Two = 25

abbrev pub psnp_type : Level → ℕ
psnp_type One = 26
psnp_type Two = 27

-- the first eight octets of each PDU, with that header length and that type
abbrev pub common : ℕ → ℕ → List ℕ
common size number = 131 ∷ size ∷ 1 ∷ 0 ∷ number ∷ 1 ∷ 0 ∷ 0 ∷ []

-- what the checksum of an LSP covers
abbrev pub lsp_covered : Head → List ℕ → List ℕ
lsp_covered head tlvs = lsp_id head.id ++ (big_bytes 4 head.seq ++ (big_bytes 2 head.sum ++ (head.flags ∷ tlvs)))

-- what follows the eight octets; the last octet of the source of a CSNP or PSNP comes first
abbrev pub lsp_body : Head → List ℕ → List ℕ
lsp_body head tlvs = big_bytes 2 (27 + length tlvs) ++ (big_bytes 2 head.life ++ lsp_covered head tlvs)

abbrev pub csnp_body : ℕ → SystemId → LspId → LspId → List ℕ → List ℕ
csnp_body circuit source start last tlvs = big_bytes 2 (33 + length tlvs) ++ (source.0 ++ (circuit ∷ (lsp_id start ++ (lsp_id last ++ tlvs))))

abbrev pub psnp_body : ℕ → SystemId → List ℕ → List ℕ
psnp_body circuit source tlvs = big_bytes 2 (17 + length tlvs) ++ (source.0 ++ (circuit ∷ tlvs))

abbrev pub lsp : Level → Head → List ℕ → List ℕ
lsp level head tlvs = common 27 (lsp_type level) ++ lsp_body head tlvs

abbrev pub csnp : Level → SystemId → LspId → LspId → List ℕ → List ℕ
csnp level source start last tlvs = common 33 (csnp_type level) ++ csnp_body 0 source start last tlvs

abbrev pub psnp : Level → SystemId → List ℕ → List ℕ
psnp level source tlvs = common 17 (psnp_type level) ++ psnp_body 0 source tlvs

-- the encoding of a PDU; hellos and other types are not written
abbrev pub pdu : Level → Pdu → List ℕ
pdu level (LspPdu head tlvs) = lsp level head tlvs
pdu level (CsnpPdu source start last tlvs) = csnp level source start last tlvs
pdu level (PsnpPdu source tlvs) = psnp level source tlvs
pdu level HelloPdu = []
pdu level (OtherPdu number) = []

-- the checksum of a live LSP
abbrev pub lsp_sum : Head → List ℕ → ℕ
lsp_sum head tlvs = check_sum (lsp_covered (record head { sum = 0 }) tlvs) 12

-- ---- LSP entries in TLVs 9 of at most 15, full ones first

unfoldable pub blocks_within : ℕ → List Summary → List (List Summary)
blocks_within zero rows = []
blocks_within (suc n) [] = []
blocks_within (suc n) (r ∷ rows) = take 15 (r ∷ rows) ∷ blocks_within n (drop 15 (r ∷ rows))

abbrev pub blocks : List Summary → List (List Summary)
blocks rows = blocks_within (length rows) rows

abbrev pub row_tlv : List Summary → Tlv
row_tlv block = record { code = TLV_LSP_ENTRIES; value = flat_map row block }

unfoldable pub row_tlvs : List Summary → List ℕ
row_tlvs rows = flat_map (λ block. tlv (row_tlv block)) (blocks rows)

-- ---- the grammar

pub record HeadFits (head : Head) : Type 0 where
  pub life : head.life < 256 ^ 2
  pub id : LspIdFits head.id
  pub seq : head.seq < 256 ^ 4
  pub sum : head.sum < 256 ^ 2
  pub flags : head.flags < 256

-- a live one has a right checksum
pub record LspFits (head : Head) (tlvs : List ℕ) : Type 0 where
  pub head_fits : HeadFits head
  pub size : 27 + length tlvs < 256 ^ 2
  pub live : 0 < head.life → IsRight (lsp_covered head tlvs)
  pub tlvs_are : AreTlvs false tlvs

pub record CsnpFits (source : SystemId) (start last : LspId) (tlvs : List ℕ) : Type 0 where
  pub source_long : length source.0 ≡ 6
  pub start_fits : LspIdFits start
  pub last_fits : LspIdFits last
  pub size : 33 + length tlvs < 256 ^ 2
  pub tlvs_are : AreTlvs true tlvs

pub record PsnpFits (source : SystemId) (tlvs : List ℕ) : Type 0 where
  pub source_long : length source.0 ≡ 6
  pub size : 17 + length tlvs < 256 ^ 2
  pub tlvs_are : AreTlvs true tlvs

abbrev pub is_hello : ℕ → Bool
is_hello number = nat_le 15 number && nat_le number 17

-- no LSP, CSNP or PSNP of the level, and no hello
pub record IsOther (level : Level) (number : ℕ) : Type 0 where
  pub low : number < 32
  pub no_lsp : number ≡ lsp_type level → ⊥
  pub no_csnp : number ≡ csnp_type level → ⊥
  pub no_psnp : number ≡ psnp_type level → ⊥
  pub no_hello : is_hello number ≡ false

-- the fields that a reader does not fix: an ID length of 0 or 6, the high bits of the type, the octets 6 and 7, the last
-- octet of a source; and for a hello or another type the header length and the type
pub record Free : Type 0 where
  pub id_length : ℕ
  pub high : ℕ
  pub sixth : ℕ
  pub seventh : ℕ
  pub circuit : ℕ
  pub size : ℕ
  pub hello : ℕ

abbrev pub shaped : Free → ℕ → ℕ → List ℕ
shaped f size number = 131 ∷ size ∷ 1 ∷ f.id_length ∷ (f.high * 32 + number) ∷ 1 ∷ f.sixth ∷ f.seventh ∷ []

abbrev pub shape : Level → Free → Pdu → List ℕ
shape level f (LspPdu head tlvs) = shaped f 27 (lsp_type level) ++ lsp_body head tlvs
shape level f (CsnpPdu source start last tlvs) = shaped f 33 (csnp_type level) ++ csnp_body f.circuit source start last tlvs
shape level f (PsnpPdu source tlvs) = shaped f 17 (psnp_type level) ++ psnp_body f.circuit source tlvs
shape level f HelloPdu = shaped f f.size f.hello
shape level f (OtherPdu number) = shaped f f.size number

abbrev pub PduFits : Level → Free → Pdu → Type 0
PduFits level f (LspPdu head tlvs) = LspFits head tlvs
PduFits level f (CsnpPdu source start last tlvs) = CsnpFits source start last tlvs
PduFits level f (PsnpPdu source tlvs) = PsnpFits source tlvs
PduFits level f HelloPdu = is_hello f.hello ≡ true
PduFits level f (OtherPdu number) = IsOther level number

-- the PDU is at the front of the octets
pub record IsPdu (level : Level) (octets : List ℕ) (p : Pdu) : Type 0 where
  pub free : Free
  pub rest : List ℕ
  pub id_length : (free.id_length ≡ 0) ⊎ (free.id_length ≡ 6)
  pub parts : octets ≡ shape level free p ++ rest
  pub fits : PduFits level free p

-- ---- parsing

-- the octets of a PDU after its length, where that is at least the header length
unfoldable pub sized_at : ℕ → List ℕ → Result (List ℕ × List ℕ) PduFault
sized_at size octets = do
  n ← number_at faults.PduLength 2 octets
  if nat_lt n.0 size then Err faults.PduLength else octets_at faults.PduLength (n.0 - 10) n.1

unfoldable pub lsp_at : List ℕ → Result Pdu PduFault
lsp_at octets = do
  body ← sized_at 27 octets
  life ← number_at faults.PduLength 2 body.0
  id ← lsp_id_at faults.PduLength life.1
  seq ← number_at faults.PduLength 4 id.1
  check ← number_at faults.PduLength 2 seq.1
  flags ← octet_at faults.PduLength check.1
  if nat_lt 0 life.0 && not (is_right life.1) then Err faults.Checksum
      else if tlvs_pass false flags.1 then Ok (LspPdu (record { life = life.0; id = id.0; seq = seq.0; sum = check.0; flags = flags.0 }) flags.1)
      else Err faults.Tlv

unfoldable pub csnp_at : List ℕ → Result Pdu PduFault
csnp_at octets = do
  body ← sized_at 33 octets
  source ← octets_at faults.PduLength 6 body.0
  circuit ← octet_at faults.PduLength source.1
  start ← lsp_id_at faults.PduLength circuit.1
  last ← lsp_id_at faults.PduLength start.1
  if tlvs_pass true last.1 then Ok (CsnpPdu (record { 0 = source.0 }) start.0 last.0 last.1) else Err faults.Tlv

unfoldable pub psnp_at : List ℕ → Result Pdu PduFault
psnp_at octets = do
  body ← sized_at 17 octets
  source ← octets_at faults.PduLength 6 body.0
  circuit ← octet_at faults.PduLength source.1
  if tlvs_pass true circuit.1 then Ok (PsnpPdu (record { 0 = source.0 }) circuit.1) else Err faults.Tlv

-- by the header length and the type, from the ninth octet on
unfoldable pub body_at : Level → ℕ → ℕ → List ℕ → Result Pdu PduFault
body_at level size number octets =
    if number == lsp_type level then (if size == 27 then lsp_at octets else Err faults.HeaderLength)
    else if number == csnp_type level then (if size == 33 then csnp_at octets else Err faults.HeaderLength)
    else if number == psnp_type level then (if size == 17 then psnp_at octets else Err faults.HeaderLength)
    else if is_hello number then Ok HelloPdu else Ok (OtherPdu number)

-- the PDU at the front, or the first rule that the octets break
unfoldable pub pdu_at : Level → List ℕ → Result Pdu PduFault
pdu_at level octets =
    if nat_lt (length octets) 8 then Err faults.Short
    else if not (slice_index octets 0 == 131) then Err faults.Discriminator
    else if not ((slice_index octets 2 == 1) && (slice_index octets 5 == 1)) then Err faults.Version
    else if not ((slice_index octets 3 == 0) || (slice_index octets 3 == 6)) then Err faults.IdLength
    else body_at level (slice_index octets 1) (slice_index octets 4 % 32) (drop 8 octets)
