-- What a router sends on an interface says no more than its LSDB: what holds of each entry holds of each LSP that is sent, and of each
-- row of a CSNP or PSNP.
use Rattle.std.proofs.Common.{ℕ, zero, suc, Bool, true, false, List, [], ◌∷◌, ◌++◌, length, map, filter, drop, slice_index_or, sym, subst}
use Rattle.std.specs.List.{AllByRecursion}
use Rattle.wire_base.specs.declared.addresses.LspId.{LspId}
use Rattle.wire_base.specs.declared.entry.Entry.{Entry}
use Rattle.wire_base.specs.declared.triple.Summary.{Summary}
use Rattle.wire_base.specs.model.Lists.{blocks, blocks_within}
use Rattle.wire_base.specs.model.Control.{summary_of, srm, ssn, Control}
use Rattle.wire_base.specs.model.Flooding.{zero_id, id_after, last_listed, csnps, most_listed, is_known, due_csnps, lsp_of, due_lsps, due_psnps, psnp_of, send_of}
use Rattle.wire_base.specs.model.Pdu.{Head, Pdu, LspPdu, CsnpPdu, PsnpPdu, row_tlvs}
use Rattle.wire_base.specs.model.Tlv.{SummaryFits, rows_of}
use Rattle.laws_format.proofs.TlvListLaws.{rows_of_tlvs}
use Rattle.domain_model.specs.Truth.{head_of}
use Rattle.laws_format.proofs.ContentLaws.{each_taken, each_dropped}
use Rattle.domain_model.proofs.EachLaws.{each_weaker, each_joined, each_mapped, each_kept}

-- L holds of an LSP, and R of each row
abbrev pub PduSays : (Head → List ℕ → Type 0) → (Summary → Type 0) → Pdu → Type 0
PduSays L R (LspPdu h tlvs) = L h tlvs
PduSays L R (CsnpPdu source start last tlvs) = AllByRecursion R (rows_of tlvs)
PduSays L R (PsnpPdu source tlvs) = AllByRecursion R (rows_of tlvs)
PduSays L R other = Unit {0}

module _ (L : Head → List ℕ → Type 0) (R : Summary → Type 0) where
  -- an entry of which both hold, and whose summary fits its fields
  pub record EntrySays (e : Entry) : Type 0 where
    pub lsp : L (head_of e) e.content
    pub row : R (summary_of e)
    pub fits : SummaryFits (summary_of e)

  record RowSays (s : Summary) : Type 0 where
    row : R s
    fits : SummaryFits s

  abbrev AreSaying : List Summary → Type 0
  AreSaying rows = AllByRecursion RowSays rows

  -- rows that are written are read again
  read_rows : (rows : List Summary) → AreSaying rows → AllByRecursion R (rows_of (row_tlvs rows))
  read_rows rows all =
      subst (AllByRecursion R) (sym (rows_of_tlvs rows (each_weaker RowSays SummaryFits (λ s h. h.fits) rows all))) (each_weaker RowSays R (λ s h. h.row) rows all)

  blocks_say : (m : ℕ) (rows : List Summary) → AreSaying rows → AllByRecursion AreSaying (blocks_within m most_listed rows)
  blocks_say zero rows all = tt
  blocks_say (suc m) [] all = tt
  blocks_say (suc m) (r ∷ rows) all = (each_taken RowSays 90 (r ∷ rows) all, blocks_say m (drop 90 (r ∷ rows)) (each_dropped RowSays 90 (r ∷ rows) all))

  -- of the entries that pass a test
  listed_say : (p : Entry → Bool) (es : List Entry) → AllByRecursion EntrySays es → AllByRecursion AreSaying (blocks most_listed (map summary_of (filter p es)))
  listed_say p es all =
      let rows = map summary_of (filter p es) in
      blocks_say (length rows) rows (each_mapped RowSays summary_of (filter p es) (each_weaker EntrySays (λ e. RowSays (summary_of e)) (λ e h. record { row = h.row; fits = h.fits }) (filter p es) (each_kept EntrySays p es all)))

  module _ (c : Control) (all : AllByRecursion EntrySays c.entries) where
    csnps_say : (parts : List (List Summary)) (start : LspId) → AllByRecursion AreSaying parts → AllByRecursion (PduSays L R) (csnps c start parts)
    csnps_say [] start each = (read_rows [] tt, tt)
    csnps_say (block ∷ []) start each = (read_rows block each.0, tt)
    csnps_say (block ∷ next ∷ more) start each = (read_rows block each.0, csnps_say (next ∷ more) (id_after (last_listed start block)) each.1)

    due_say : (due : Bool) → AllByRecursion (PduSays L R) (due_csnps c due)
    due_say false = tt
    due_say true = csnps_say (blocks most_listed (map summary_of (filter is_known c.entries))) zero_id (listed_say is_known c.entries all)

    pub lsps_say : (link : ℕ) → AllByRecursion (PduSays L R) (due_lsps c link)
    lsps_say link =
        let p : Entry → Bool = λ e. srm c.flood e.id link in
        each_mapped (PduSays L R) lsp_of (filter p c.entries) (each_weaker EntrySays (λ e. PduSays L R (lsp_of e)) (λ e h. h.lsp) (filter p c.entries) (each_kept EntrySays p c.entries all))

    pub psnps_say : (link : ℕ) → AllByRecursion (PduSays L R) (due_psnps c link)
    psnps_say link =
        let parts = blocks most_listed (map summary_of (filter (λ e. ssn c.flood e.id link) c.entries)) in
        each_mapped (PduSays L R) (psnp_of c) parts (each_weaker AreSaying (λ rows. PduSays L R (psnp_of c rows)) read_rows parts (listed_say (λ e. ssn c.flood e.id link) c.entries all))

    pub sends_say : (link : ℕ) → AllByRecursion (PduSays L R) (send_of c link)
    unfolding send_of
    sends_say link =
        each_joined (PduSays L R) (due_csnps c (slice_index_or c.flood.due link false)) (due_lsps c link ++ due_psnps c link) (due_say (slice_index_or c.flood.due link false))
        (each_joined (PduSays L R) (due_lsps c link) (due_psnps c link) (lsps_say link) (psnps_say link))
