-- What A's CSNP leaves at B, by computation.
use Rattle.std.specs.Prelude.{⊤}
use Rattle.std.proofs.Common.{◌≡◌, Bool, true, false, if◌then◌else◌, List, [], ◌∷◌, slice_index_or, refl, sym, ap, subst, ◌∙◌}
use Rattle.std.specs.List.{AllByRecursion}
use Rattle.std.proofs.lemmas.Option.{same_Some}
use Rattle.wire_base.specs.declared.addresses.LspId.{LspId}
use Rattle.wire_base.specs.declared.entry.Entry.{Entry}
use Rattle.wire_base.specs.model.Checksum.{check_sum}
use Rattle.wire_base.specs.model.Control.{FlagRow, same_id, srm, srm_in, ssn, ssn_in}
use Rattle.wire_base.specs.model.Flooding.{due_csnps, id_after, mark_all, on_csnp, on_list, on_listed, on_pdu}
use Rattle.wire_base.specs.model.OwnLsp.{own_content, own_lsp}
use Rattle.wire_base.specs.model.Pdu.{blocks_within, row_tlvs}
use Rattle.wire_base.specs.model.Tlv.{entries_of, entries_within, row_at}
use Rattle.examples_model.specs.Domains.{lsp}
use Rattle.examples_domain.specs.Branch.{at_rest, branch_a, branch_b, lsp_of, lsps, rest}
use Rattle.examples_domain.proofs.BranchLaws.{rest_true}
use Rattle.laws_settle.specs.Csnps.{AreToldBySums, IsAnswered, IsIdleOn, IsSoundEntry, NoneDropped}
use Rattle.laws_settle.proofs.Exchange.{entries_sound, router_is}
use Rattle.examples_settle.specs.Compared.{compared}

-- CSNPs of routers that are written out
unfoldable csnps_on_literals : ⊤
unfolding on_pdu on_csnp on_list on_listed mark_all id_after row_tlvs blocks_within entries_of entries_within row_at own_lsp own_content check_sum
csnps_on_literals = tt

pub requested : ssn (compared lsps (lsp_of branch_b ∷ [])).flood (lsp 1) 0 ≡ true
unfolding csnps_on_literals
requested = refl

pub sent : srm (compared (lsp_of branch_a ∷ []) lsps).flood (lsp 2) 0 ≡ true
unfolding csnps_on_literals
sent = refl

pub same : ssn (compared lsps lsps).flood (lsp 1) 0 ≡ false
unfolding csnps_on_literals
same = refl

-- ---- the same LSPs

entries_stay : (compared lsps lsps).entries ≡ lsps
unfolding csnps_on_literals
entries_stay = refl

-- no row has a flag on the interface
IsOff : FlagRow → Type 0
IsOff row = (slice_index_or row.srm 0 false ≡ false) × (slice_index_or row.ssn 0 false ≡ false)

rows_off : AllByRecursion IsOff (compared lsps lsps).flood.rows
unfolding IsOff csnps_on_literals
rows_off = ((refl, refl), ((refl, refl), ((refl, refl), ((refl, refl), tt))))

all_off : (rows : List FlagRow) (id : LspId) → AllByRecursion IsOff rows → (srm_in rows id 0 ≡ false) × (ssn_in rows id 0 ≡ false)
unfolding IsOff
all_off [] id all = (refl, refl)
all_off (row ∷ rows) id all = by (same_id row.id id) (all_off rows id all.1)
  where
    by : (b : Bool) → (srm_in rows id 0 ≡ false) × (ssn_in rows id 0 ≡ false)
        → ((if b then slice_index_or row.srm 0 false else srm_in rows id 0) ≡ false) × ((if b then slice_index_or row.ssn 0 false else ssn_in rows id 0) ≡ false)
    by true rest = all.0
    by false rest = rest

idle : IsIdleOn (compared lsps lsps).flood 0
idle = record {
  srm = λ id. (all_off (compared lsps lsps).flood.rows id rows_off).0;
  ssn = λ id. (all_off (compared lsps lsps).flood.rows id rows_off).1;
}

none : NoneDropped (rest branch_b) 0 (due_csnps (rest branch_a) true)
unfolding csnps_on_literals
none = (refl, tt)

told : (es : List Entry) → AreToldBySums es es
told es = λ id x y here there live lives seq sums.
    let is : x ≡ y = same_Some x y (sym here ∙ there) in
    record { flags = ap (λ (e : Entry). e.flags) is; content = ap (λ (e : Entry). e.content) is }

pub answered : IsAnswered (rest branch_a) (rest branch_b) 0 (compared lsps lsps)
answered = record {
  sender = router_is at_rest rest_true 0 (rest branch_a) refl;
  receiver = router_is at_rest rest_true 1 (rest branch_b) refl;
  up = refl;
  sent = entries_sound at_rest rest_true 0 (rest branch_a) refl;
  room = none;
  is = refl;
  stored = subst (AllByRecursion IsSoundEntry) (sym entries_stay) (entries_sound at_rest rest_true 0 (rest branch_a) refl);
  idle = idle;
  told = subst (AreToldBySums lsps) (sym entries_stay) (told lsps);
}
