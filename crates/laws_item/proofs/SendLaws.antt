-- What flooding sends is sendable, where the entries of the LSDB are.
use Rattle.std.proofs.Common.{◌≡◌, ℕ, ◌+◌, ◌==◌, ◌&&◌, Bool, true, false, cond, List, [], ◌∷◌, length, map, filter, get_or, refl, sym, subst, arith}
use Rattle.std.specs.List.{AllByRecursion}
use Rattle.byteorder.specs.Endian.{big_bytes, big_number}
use Rattle.wire_base.specs.declared.addresses.LspId.{LspId}
use Rattle.wire_base.specs.declared.entry.Age.{Age}
use Rattle.wire_base.specs.declared.entry.Age.TheVariants.{Unknown, Newer, Equal, Older, Confused}
use Rattle.wire_base.specs.declared.entry.Entry.{Entry}
use Rattle.wire_base.specs.declared.flood_out.FloodOut.{FloodOut}
use Rattle.wire_base.specs.declared.flood_out.FloodOut.TheVariants as out
use Rattle.wire_base.specs.declared.triple.Summary.{Summary}
use Rattle.wire_base.specs.model.Control.{Control, Flood, purge, summary_of, entry_in, age_of, is_full, srm, ssn, is_unknown}
use Rattle.wire_base.specs.model.Flooding.{LspAnswer, only_says, lsp_aged, lsp_in, on_lsp, is_own_ahead, is_unheld_own, kept, puts_marked, stores, on_pdu, answer_lsp, psnp_of, csnp_of, csnps, zero_id, last_id, id_from, id_after, last_listed, most_listed, is_known, due_csnps, lsp_of, send_of}
use Rattle.wire_base.specs.model.Lists.{blocks}
use Rattle.wire_base.specs.model.Pdu.{Head, Pdu, LspPdu, CsnpPdu, PsnpPdu, HelloPdu, OtherPdu, HeadFits, head_summary, row_tlvs}
use Rattle.wire_base.specs.model.Tlv.{LspIdFits, lsp_id, SummaryFits}
use Rattle.laws_format.proofs.TlvListLaws.{row_tlvs_pass, passes_are}
use Rattle.laws_item.specs.Fits.{IsSendable, EntryFits}
use Rattle.laws_item.proofs.RowLaws.{all_joined, all_mapped, all_filtered, IsBlock, are_blocks, rows_short}

-- ---- rows

pub summary_fits : (e : Entry) → EntryFits e → SummaryFits (summary_of e)
summary_fits e is = let h = is.lsp.head_fits in record { life = h.life; id = h.id; seq = h.seq; sum = h.sum }

pub head_summary_fits : (h : Head) → HeadFits h → SummaryFits (head_summary h)
head_summary_fits h is = record { life = is.life; id = is.id; seq = is.seq; sum = is.sum }

-- ---- identifiers

zero_fits : LspIdFits zero_id
zero_fits = record { system = refl; pseudonode = omega arith; fragment = omega arith }

last_fits : LspIdFits last_id
last_fits = record { system = refl; pseudonode = omega arith; fragment = omega arith }

after_fits : (id : LspId) → LspIdFits (id_after id)
unfolding id_after
after_fits id = from (big_number 8 (lsp_id id) + 1)
  where
    from : (n : ℕ) → LspIdFits (id_from (big_bytes 8 n))
    from n = record { system = refl; pseudonode = omega arith; fragment = omega arith }

listed_fits : (id : LspId) (rows : List Summary) → LspIdFits id → AllByRecursion SummaryFits rows → LspIdFits (last_listed id rows)
listed_fits id [] is fits = is
listed_fits id (s ∷ ss) is fits = listed_fits s.id ss fits.0.id fits.1

-- ---- sequence number PDUs

csnp_sendable : (c : Control) (start last : LspId) (rows : List Summary) → length c.conf.system.0 ≡ 6 → LspIdFits start → LspIdFits last → IsBlock SummaryFits 90 rows → IsSendable (csnp_of c start last rows)
csnp_sendable c start last rows six s l is =
    let short = rows_short rows is.each is.few in
    (record { source_long = six; start_fits = s; last_fits = l; size = omega (arith, short); tlvs_are = passes_are true (row_tlvs rows) (row_tlvs_pass rows is.each) }, omega (arith, short))

pub psnp_sendable : (c : Control) (rows : List Summary) → length c.conf.system.0 ≡ 6 → IsBlock SummaryFits 90 rows → IsSendable (psnp_of c rows)
psnp_sendable c rows six is =
    let short = rows_short rows is.each is.few in
    (record { source_long = six; size = omega (arith, short); tlvs_are = passes_are true (row_tlvs rows) (row_tlvs_pass rows is.each) }, omega (arith, short))

csnps_sendable : (c : Control) (start : LspId) (parts : List (List Summary)) → length c.conf.system.0 ≡ 6 → LspIdFits start → AllByRecursion (IsBlock SummaryFits 90) parts → AllByRecursion IsSendable (csnps c start parts)
csnps_sendable c start [] six s are = (csnp_sendable c start last_id [] six s last_fits (record { few = omega arith; each = tt }), tt)
csnps_sendable c start (block ∷ []) six s are = (csnp_sendable c start last_id block six s last_fits are.0, tt)
csnps_sendable c start (block ∷ next ∷ more) six s are =
    let end = last_listed start block in
    (csnp_sendable c start end block six s (listed_fits start block s are.0.each) are.0, csnps_sendable c (id_after end) (next ∷ more) six (after_fits end) are.1)

due_sendable : (c : Control) (due : Bool) → length c.conf.system.0 ≡ 6 → AllByRecursion EntryFits c.entries → AllByRecursion IsSendable (due_csnps c due)
due_sendable c false six fits = tt
due_sendable c true six fits =
    csnps_sendable c zero_id (blocks most_listed (map summary_of (filter is_known c.entries))) six zero_fits
    (are_blocks SummaryFits most_listed (map summary_of (filter is_known c.entries)) (all_mapped EntryFits SummaryFits summary_of (filter is_known c.entries) summary_fits (all_filtered EntryFits is_known c.entries fits)))

-- ---- what is sent on a link

lsp_sendable : (e : Entry) → EntryFits e → IsSendable (lsp_of e)
lsp_sendable e is = (is.lsp, is.short)

pub send_sendable : (c : Control) (link : ℕ) → length c.conf.system.0 ≡ 6 → AllByRecursion EntryFits c.entries → AllByRecursion IsSendable (send_of c link)
unfolding send_of
send_sendable c link six fits =
    all_joined IsSendable _ _ (due_sendable c (get_or c.flood.due link false) six fits)
    (all_joined IsSendable _ _
    (all_mapped EntryFits IsSendable lsp_of (filter (λ e. srm c.flood e.id link) c.entries) lsp_sendable (all_filtered EntryFits (λ e. srm c.flood e.id link) c.entries fits))
    (all_mapped (IsBlock SummaryFits 90) IsSendable (psnp_of c) (blocks most_listed (map summary_of (filter (λ e. ssn c.flood e.id link) c.entries))) (λ rows is. psnp_sendable c rows six is)
    (are_blocks SummaryFits most_listed (map summary_of (filter (λ e. ssn c.flood e.id link) c.entries))
    (all_mapped EntryFits SummaryFits summary_of (filter (λ e. ssn c.flood e.id link) c.entries) summary_fits (all_filtered EntryFits (λ e. ssn c.flood e.id link) c.entries fits)))))

-- ---- what is answered to a PDU

-- what is acknowledged at once is what came
abbrev pub AcksOnly : Summary → FloodOut → Type 0
AcksOnly s out.Kept = Unit {0}
AcksOnly s (out.Reissue n) = Unit {0}
AcksOnly s (out.Ack t) = t ≡ s
AcksOnly s out.Full = Unit {0}
AcksOnly s out.Zero = Unit {0}

either : (s : Summary) (b : Bool) (x y : LspAnswer) → AcksOnly s x.answer → AcksOnly s y.answer → AcksOnly s (cond b x y).answer
either s true x y px py = px
either s false x y px py = py

aged_acks : (f : Flood) (entries : List Entry) (link : ℕ) (h : Head) (tlvs : List ℕ) (age : Age) → AcksOnly (head_summary h) (lsp_aged f entries link h tlvs age).answer
aged_acks f entries link h tlvs Unknown =
    either (head_summary h) (h.life == 0) (only_says f entries (out.Ack (head_summary h))) _ refl (either (head_summary h) (is_full entries) (only_says f entries out.Full) (stores f entries link (kept h tlvs)) tt tt)
aged_acks f entries link h tlvs Newer = tt
aged_acks f entries link h tlvs Confused = tt
aged_acks f entries link h tlvs Equal = tt
aged_acks f entries link h tlvs Older = tt

in_acks : (f : Flood) (entries : List Entry) (link : ℕ) (h : Head) (tlvs : List ℕ) (spent : Bool) (age : Age) → AcksOnly (head_summary h) (lsp_in f entries link h tlvs spent age).answer
in_acks f entries link h tlvs spent age =
    let s = head_summary h in
    either s (h.seq == 0) (only_says f entries out.Zero) _ tt
    (either s (is_own_ahead f h.id spent age) (only_says f entries (out.Reissue h.seq)) _ tt
    (either s (is_unheld_own f h age) _ (lsp_aged f entries link h tlvs age)
    (either s (is_unknown age && is_full entries) (only_says f entries out.Full) (puts_marked f entries (purge h.id h.seq)) tt tt)
    (aged_acks f entries link h tlvs age)))

lsp_acks : (f : Flood) (entries : List Entry) (link : ℕ) (h : Head) (tlvs : List ℕ) (spent : Bool) → AcksOnly (head_summary h) (on_lsp f entries link h tlvs spent).answer
unfolding on_lsp
lsp_acks f entries link h tlvs spent = in_acks f entries link h tlvs spent (age_of (entry_in entries h.id) (head_summary h))

answer_sendable : (c : Control) (s : Summary) (answer : FloodOut) → length c.conf.system.0 ≡ 6 → SummaryFits s → AcksOnly s answer → AllByRecursion IsSendable (answer_lsp c answer).sent
answer_sendable c s out.Kept six fits is = tt
answer_sendable c s (out.Reissue n) six fits is = tt
answer_sendable c s (out.Ack t) six fits is = (psnp_sendable c (t ∷ []) six (record { few = omega arith; each = (subst SummaryFits (sym is) fits, tt) }), tt)
answer_sendable c s out.Full six fits is = tt
answer_sendable c s out.Zero six fits is = tt

pub reply_sendable : (c : Control) (link : ℕ) (p : Pdu) → length c.conf.system.0 ≡ 6 → IsSendable p → AllByRecursion IsSendable (on_pdu c link p).sent
unfolding on_pdu
reply_sendable c link (LspPdu h tlvs) six is =
    let a = on_lsp c.flood c.entries link h tlvs c.spent in
    answer_sendable (record c { flood = a.flood; entries = a.entries }) (head_summary h) a.answer six (head_summary_fits h is.0.head_fits) (lsp_acks c.flood c.entries link h tlvs c.spent)
reply_sendable c link (CsnpPdu source start last tlvs) six is = tt
reply_sendable c link (PsnpPdu source tlvs) six is = tt
reply_sendable c link HelloPdu six is = tt
reply_sendable c link (OtherPdu number) six is = tt
