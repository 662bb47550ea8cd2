-- What is written is read again.
use Rattle.std.proofs.Common.{◌≡◌, ℕ, zero, suc, ◌+◌, ◌*◌, ◌/◌, ◌<◌, ◌≤◌, min, List, [], ◌∷◌, ◌++◌, length, take, drop, true, Result, Ok, Err, sym, subst, ap, ◌∙◌, append_assoc, length-append, length-take, length-drop, arith}
use Rattle.std.specs.List.{flat_map, AllByRecursion}
use Rattle.std.specs.Prelude.{IfOk, OnOk}
use Rattle.std.proofs.lemmas.List.{append-nil, take_all, take-append-drop, take-append-le, nil_from_length}
use Rattle.byteorder.specs.Endian.{big_bytes}
use Rattle.wire_base.specs.declared.limits.TheConstants.{MOST_LISTED}
use Rattle.wire_base.specs.declared.addresses.SystemId.{SystemId}
use Rattle.wire_base.specs.declared.addresses.LspId.{LspId}
use Rattle.wire_base.specs.declared.triple.Summary.{Summary}
use Rattle.wire_base.specs.declared.conf.Level.{Level}
use Rattle.wire_base.specs.model.Tlv.{tlv, lsp_id, SummaryFits, LspIdFits, row}
use Rattle.wire_base.specs.model.Pdu.{Head, LspPdu, CsnpPdu, PsnpPdu, LspFits, common, lsp_type, lsp, csnp, psnp, pdu_at, row_tlv, row_tlvs, blocks_within}
use Rattle.laws_format.proofs.TlvListLaws.{row_tlvs_pass, row_tlvs_length, row_tlvs_step, row_tlvs_end, length_rows, fits_take, fits_drop, fits_joined, passes_are}
use Rattle.laws_format.proofs.PduLaws.{lsp_read, csnp_read, psnp_read}

-- the octets before the TLVs, and the TLVs, are the whole
pub lsp_joined : (level : Level) (head : Head) (tlvs front : List ℕ) → front ≡ common 27 (lsp_type level) ++ (big_bytes 2 (27 + length tlvs) ++ (big_bytes 2 head.life ++ (lsp_id head.id ++ (big_bytes 4 head.seq ++ (big_bytes 2 head.sum ++ (head.flags ∷ [])))))) → front ++ tlvs ≡ lsp level head tlvs
lsp_joined level head tlvs front is =
    let after = big_bytes 4 head.seq ++ (big_bytes 2 head.sum ++ (head.flags ∷ [])) in
    ap (λ (l : List ℕ). l ++ tlvs) is
    ∙ ap (λ (l : List ℕ). common 27 (lsp_type level) ++ (big_bytes 2 (27 + length tlvs) ++ (big_bytes 2 head.life ++ l))) (append_assoc (lsp_id head.id) after tlvs)

pub lsp_whole : (level : Level) (head : Head) (tlvs front : List ℕ) (size : ℕ) → front ≡ common 27 (lsp_type level) ++ (big_bytes 2 size ++ (big_bytes 2 head.life ++ (lsp_id head.id ++ (big_bytes 4 head.seq ++ (big_bytes 2 head.sum ++ (head.flags ∷ [])))))) → 27 + length tlvs ≡ size → front ++ tlvs ≡ lsp level head tlvs
lsp_whole level head tlvs front size is long =
    lsp_joined level head tlvs front (is ∙ ap (λ (n : ℕ). common 27 (lsp_type level) ++ (big_bytes 2 n ++ (big_bytes 2 head.life ++ (lsp_id head.id ++ (big_bytes 4 head.seq ++ (big_bytes 2 head.sum ++ (head.flags ∷ []))))))) (sym long))

pub lsp_read_again : {E : Type 0} (level : Level) (head : Head) (tlvs : List ℕ) (r : Result (List ℕ) E) → IfOk r (λ o. o ≡ lsp level head tlvs) → LspFits head tlvs
    → IfOk r (λ o. (rest : List ℕ) → pdu_at level (o ++ rest) ≡ Ok (LspPdu head tlvs))
lsp_read_again level head tlvs (Ok o) spelled fits = λ rest. ap (λ (l : List ℕ). pdu_at level (l ++ rest)) spelled ∙ lsp_read level head tlvs rest fits
lsp_read_again level head tlvs (Err e) spelled fits = tt

pub csnp_read_again : {E : Type 0} (level : Level) (source : SystemId) (start last : LspId) (rows : List Summary) (r : Result (List ℕ) E) → length rows ≤ MOST_LISTED → IfOk r (λ o. o ≡ csnp level source start last (row_tlvs rows)) → OnOk r (length source.0 ≡ 6) → OnOk r (LspIdFits start × LspIdFits last) → OnOk r (AllByRecursion SummaryFits rows)
    → IfOk r (λ o. (rest : List ℕ) → pdu_at level (o ++ rest) ≡ Ok (CsnpPdu source start last (row_tlvs rows)))
csnp_read_again level source start last rows (Ok o) few spelled long ids all = λ rest. ap (λ (l : List ℕ). pdu_at level (l ++ rest)) spelled ∙ csnp_read level source start last (row_tlvs rows) rest (record { source_long = long; start_fits = ids.0; last_fits = ids.1; size = let n = row_tlvs_length rows all in omega (arith, n); tlvs_are = passes_are true (row_tlvs rows) (row_tlvs_pass rows all) })
csnp_read_again level source start last rows (Err e) few spelled long ids all = tt

pub psnp_read_again : {E : Type 0} (level : Level) (source : SystemId) (rows : List Summary) (r : Result (List ℕ) E) → length rows ≤ MOST_LISTED → IfOk r (λ o. o ≡ psnp level source (row_tlvs rows)) → OnOk r (length source.0 ≡ 6) → OnOk r (AllByRecursion SummaryFits rows)
    → IfOk r (λ o. (rest : List ℕ) → pdu_at level (o ++ rest) ≡ Ok (PsnpPdu source (row_tlvs rows)))
psnp_read_again level source rows (Ok o) few spelled long all = λ rest. ap (λ (l : List ℕ). pdu_at level (l ++ rest)) spelled ∙ psnp_read level source (row_tlvs rows) rest (record { source_long = long; size = let n = row_tlvs_length rows all in omega (arith, n); tlvs_are = passes_are true (row_tlvs rows) (row_tlvs_pass rows all) })
psnp_read_again level source rows (Err e) few spelled long all = tt

-- ---- what stood there stands in front

pub front_more : (old out more : List ℕ) → take (length old) out ≡ old → take (length old) (out ++ more) ≡ old
front_more old out more front =
    let within : length old ≤ length out = omega (arith, ap (λ (l : List ℕ). length l) front, length-take (length old) out) in
    take-append-le (length old) out more within ∙ front

-- ---- entries in TLVs 9

pub block_done : (out old : List ℕ) (entries : List Summary) (i : ℕ) → length entries ≤ i → out ≡ old ++ (9 ∷ 16 * length entries ∷ flat_map row (take i entries)) → AllByRecursion SummaryFits (take i entries)
    → out ≡ old ++ tlv (row_tlv entries)
block_done out old entries i past text fits =
    let t : take i entries ≡ entries = take_all i entries past in
    let all : AllByRecursion SummaryFits entries = subst (AllByRecursion SummaryFits) t fits in
    let len : length (flat_map row entries) ≡ 16 * length entries = length_rows entries all in
    text ∙ ap (λ (es : List Summary). old ++ (9 ∷ 16 * length entries ∷ flat_map row es)) t ∙ ap (λ (n : ℕ). old ++ (9 ∷ n ∷ flat_map row entries)) (sym len)

pub cut_text : (out new total : List ℕ) (rest : List Summary) (n : ℕ) → 0 < length rest → n ≡ min (length rest) 15 → out ++ row_tlvs rest ≡ total → new ≡ out ++ tlv (row_tlv (take n rest))
    → new ++ row_tlvs (drop n rest) ≡ total
cut_text out new total rest n some n-is text added =
    let step : row_tlvs rest ≡ tlv (row_tlv (take n rest)) ++ row_tlvs (drop n rest) = row_tlvs_step rest n some n-is in
    ap (λ (l : List ℕ). l ++ row_tlvs (drop n rest)) added ∙ append_assoc out (tlv (row_tlv (take n rest))) (row_tlvs (drop n rest)) ∙ ap (λ (l : List ℕ). out ++ l) (sym step) ∙ text

pub cut_fits : (rest : List Summary) (n : ℕ) → AllByRecursion SummaryFits (take n rest) → AllByRecursion SummaryFits (drop n rest) → AllByRecursion SummaryFits rest
cut_fits rest n front back = subst (AllByRecursion SummaryFits) (take-append-drop n rest) (fits_joined (take n rest) (drop n rest) front back)

pub cut_end : (out total : List ℕ) (rest : List Summary) → length rest ≡ 0 → out ++ row_tlvs rest ≡ total → out ≡ total
cut_end out total rest none text =
    let nil : rest ≡ [] = nil_from_length rest none in
    sym (append-nil out) ∙ ap (λ (l : List ℕ). out ++ l) (sym row_tlvs_end) ∙ ap (λ (es : List Summary). out ++ row_tlvs es) (sym nil) ∙ text

listed_length : (m : ℕ) (rows : List Summary) → length rows ≤ m → AllByRecursion SummaryFits rows → length (flat_map (λ block. tlv (row_tlv block)) (blocks_within m rows)) ≡ 16 * length rows + 2 * ((length rows + 14) / 15)
unfolding blocks_within
listed_length zero [] h all = omega arith
listed_length zero (s ∷ rows) h all = absurd (omega (arith, h))
listed_length (suc m) [] h all = omega arith
listed_length (suc m) (s ∷ rows) h all =
    let first = length-append (tlv (row_tlv (take 15 (s ∷ rows)))) (flat_map (λ block. tlv (row_tlv block)) (blocks_within m (drop 15 (s ∷ rows)))) in
    let more = listed_length m (drop 15 (s ∷ rows)) (omega (arith, h, length-drop 15 (s ∷ rows))) (fits_drop 15 (s ∷ rows) all) in
    let one = length_rows (take 15 (s ∷ rows)) (fits_take 15 (s ∷ rows) all) in
    let few = length-take 15 (s ∷ rows) in
    omega (arith, first, more, one, few, length-drop 15 (s ∷ rows))

pub rows_short : (tlvs : List ℕ) (rows : List Summary) → length rows ≤ MOST_LISTED → tlvs ≡ row_tlvs rows → AllByRecursion SummaryFits rows → length tlvs ≤ 1452
unfolding row_tlvs
rows_short tlvs rows few e all = omega (arith, ap length e, listed_length (length rows) rows (omega arith) all, few)
