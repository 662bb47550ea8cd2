-- A router's own LSP is what the router originates in its present state: each event at the router preserves this.
use Rattle.std.proofs.Common.{◌≡◌, ◌⊎◌, inl, inr, ℕ, ◌≤◌, Bool, true, false, List, length, replicate, Option, Some, None, refl, sym, ap, subst, ◌∙◌, arith}
use Rattle.std.specs.List.{filter_map}
use Rattle.std.proofs.lemmas.Bool.{cond_both, eqb-true, false≢true, true≢false}
use Rattle.wire_base.specs.declared.bsl.Bsl.{Bsl}
use Rattle.wire_base.specs.declared.conf.RouterConf.{RouterConf}
use Rattle.wire_base.specs.declared.entry.Entry.{Entry}
use Rattle.wire_base.specs.declared.flood_out.FloodOut.{FloodOut}
use Rattle.wire_base.specs.declared.flood_out.FloodOut.TheVariants as out
use Rattle.wire_base.specs.declared.limits.TheConstants.{MOST_CONTENT}
use Rattle.wire_base.specs.declared.addresses.LspId.{LspId}
use Rattle.wire_base.specs.model.Control.{Control, Flood, after_second, entry_in, fragment_0, own_entry_in, put_entry, same_system, seq_of}
use Rattle.wire_base.specs.model.Flooding.{aged_all, answer_lsp, end_down, end_up, first_control, is_stale, join, leave, link_down, link_up, lsp_done, mark_all, on_csnp, on_lsp, on_pdu, on_psnp, refreshed, reissue, reissue_if, reissue_unless_spent, relabel, restart, send, sent_on, snp_done, started, tick}
use Rattle.wire_base.specs.model.Membership.{left, rejoined, relabelled}
use Rattle.wire_base.specs.model.Pdu.{Head, Pdu, LspPdu, CsnpPdu, PsnpPdu}
use Rattle.wire_base.specs.model.Tlv.{rows_of}
use Rattle.laws_router.specs.State.{AreIssued, IsRouter, IssuesAlone}
use Rattle.laws_router.proofs.EntryLaws.{bytes_self}
use Rattle.laws_router.proofs.KeptLaws.{csnp_kept, lsp_kept, psnp_kept}
use Rattle.laws_router.proofs.StateLaws.{all_aged}
use Rattle.router_core.specs.Own.{own_past, spent_past}
use Rattle.router_core.proofs.IssuedLaws.{IsFragmentAlone, issued_over, list_issued, lsp_issued, marked_up, second_issued, sent_issued, started_issued}
use Rattle.router_core.proofs.OwnLaws.{kept_of, reissue_is}
use Rattle.router_core.proofs.ReconfigurationLaws.{left_is_one, rejoined_is_one, relabelled_is_one}
use Rattle.laws_format.proofs.ContentLaws.{content_short}
use Rattle.domain_model.specs.Truth.{IsDeadLsp, IsOwnLsp, IsTruePdu}
use Rattle.domain_model.specs.World.{is_up}

-- ---- LSPs that are received

-- one that a router advertises fits a frame, and so does a purge
short_content : (confs : List RouterConf) (h : Head) (tlvs : List ℕ) → IsOwnLsp confs h tlvs ⊎ IsDeadLsp h tlvs → length tlvs ≤ MOST_CONTENT
short_content confs h tlvs (inl own) = let short = content_short own.router own.up tlvs own.earlier.sound own.content in omega (arith, short)
short_content confs h tlvs (inr dead) = let none = ap length dead.empty in omega (arith, none)

-- ---- the own LSP

alone_of : (c : Control) → IssuesAlone c → IsFragmentAlone c.conf.system c.entries
alone_of c all = λ id x there live own. (all.each id x there live own).fragment

-- it is originated again, in place of the one that was there
reissue_issued : (c : Control) (s : ℕ) → c.spent ≡ false → IsFragmentAlone c.conf.system c.entries → IssuesAlone (reissue c s)
reissue_issued c s unspent alone =
    let own = own_past c.conf c.flood.up s in
    subst IssuesAlone (sym (reissue_is c s))
    (issued_over c.conf c.flood.up (mark_all c.flood own.id).up c.spent (spent_past c.spent s) s own c.entries (put_entry own c.entries) refl refl refl unspent (sym (marked_up c.flood own.id)) alone)

if_issued : (c : Control) (o : Option ℕ) → IssuesAlone c → ((s : ℕ) → o ≡ Some s → c.spent ≡ false) → IssuesAlone (reissue_if c o)
if_issued c None all asked = all
if_issued c (Some s) all asked = reissue_issued c s (asked s refl) (alone_of c all)

unless_issued : (c : Control) → IsFragmentAlone c.conf.system c.entries → (c.spent ≡ true → IssuesAlone c) → IssuesAlone (reissue_unless_spent c)
unfolding reissue_unless_spent
unless_issued c alone spent = cond_both c.spent c (reissue c (seq_of (own_entry_in c))) IssuesAlone spent (λ unspent. reissue_issued c (seq_of (own_entry_in c)) unspent alone)

-- whatever of the router's configuration and of its interfaces changed before
turned_issued : (c : Control) (next : RouterConf) (f : Flood) → next.system ≡ c.conf.system → IssuesAlone c → IssuesAlone (reissue_unless_spent (record c { conf = next; flood = f }))
turned_issued c next f same all =
    unless_issued (record c { conf = next; flood = f })
    (λ id x there live own. (all.each id x there live (mine id own)).fragment ∙ ap fragment_0 (sym same))
    (λ spent. record { each = λ id x there live own. absurd (true≢false (sym spent ∙ (all.each id x there live (mine id own)).unspent)) })
  where
    mine : (id : LspId) → same_system id.system next.system ≡ true → same_system id.system c.conf.system ≡ true
    mine id own = ap (same_system id.system) (sym same) ∙ own

-- ---- what a router does by itself

module _ (c : Control) (all : IssuesAlone c) where
  pub up_issued : (link : ℕ) → IssuesAlone (end_up c link).control
  unfolding end_up
  up_issued link = turned_issued c c.conf (link_up c.flood c.entries link) refl all

  pub down_issued : (link : ℕ) → IssuesAlone (end_down c link).control
  unfolding end_down
  down_issued link = turned_issued c c.conf (link_down c.flood link) refl all

  pub relabel_issued : (sd : ℕ) (bsl : Bsl) (label : ℕ) → IssuesAlone (relabel c sd bsl label).control
  unfolding relabel
  relabel_issued sd bsl label = turned_issued c (relabelled c.conf sd bsl label) c.flood (ap (λ (r : RouterConf). r.system) (relabelled_is_one c.conf sd bsl label)) all

  pub leave_issued : (sd : ℕ) → IssuesAlone (leave c sd).control
  unfolding leave
  leave_issued sd = turned_issued c (left c.conf sd) c.flood (ap (λ (r : RouterConf). r.system) (left_is_one c.conf sd)) all

  pub join_issued : (sd : ℕ) → IssuesAlone (join c sd).control
  unfolding join
  join_issued sd = turned_issued c (rejoined c.conf sd) c.flood (ap (λ (r : RouterConf). r.system) (rejoined_is_one c.conf sd)) all

start_issued : (r : RouterConf) (up : List Bool) → IssuesAlone (started r up)
unfolding started
start_issued r up = started_issued r up (started r up).flood (started r up).entries refl refl

pub first_issued : (r : RouterConf) → IssuesAlone (first_control r)
unfolding first_control
first_issued r = start_issued r (replicate (length r.ends) true)

pub restart_issued : (c : Control) → IssuesAlone (restart c).control
unfolding restart
restart_issued c = start_issued c.conf c.flood.up

-- one whose own LSP is due for a refresh is not spent
stale_unspent : (c : Control) → IssuesAlone c → is_stale (own_entry_in c) ≡ true → c.spent ≡ false
stale_unspent c all stale = by (own_entry_in c) refl stale
  where
    by : (o : Option Entry) → entry_in c.entries (fragment_0 c.conf.system) ≡ o → is_stale o ≡ true → c.spent ≡ false
    by None at h = absurd (false≢true h)
    by (Some e) at h = (all.each (fragment_0 c.conf.system) e at (let n : e.life ≡ 300 = eqb-true e.life 300 h in omega (arith, n)) (bytes_self c.conf.system.0)).unspent

refreshed_issued : (c : Control) → IssuesAlone c → IssuesAlone (refreshed c)
refreshed_issued c all =
    cond_both (is_stale (own_entry_in c)) (reissue c (seq_of (own_entry_in c))) c IssuesAlone (λ stale. reissue_issued c (seq_of (own_entry_in c)) (stale_unspent c all stale) (alone_of c all)) (λ fresh. all)

module _ (c : Control) (k : IsRouter c) (all : IssuesAlone c) where
  aged_issued : IssuesAlone (aged_all c)
  unfolding aged_all
  aged_issued =
      subst (λ (u : List Bool). AreIssued c.conf u c.spent (filter_map after_second c.entries)) (sym (all_aged c.conf.system c.flood.up c.spent c.flood c.entries (kept_of c k)).up_is)
      (second_issued c.conf c.flood.up c.spent c.entries k.control.entries.in_order all)

  pub tick_issued : IssuesAlone (tick c).control
  unfolding tick
  tick_issued = refreshed_issued (aged_all c) aged_issued

  pub send_issued : (link : ℕ) → IssuesAlone (send c link).control
  unfolding send
  send_issued link = sent_issued c.conf c.flood c.entries c.spent k all link (sent_on c.flood link) refl

  -- ---- PDUs

  -- what flooding leaves has the interfaces of before
  left_issued : (f : Flood) (es : List Entry) → f.up ≡ c.flood.up → AreIssued c.conf c.flood.up c.spent es → IssuesAlone (record c { flood = f; entries = es })
  left_issued f es same h = subst (λ (u : List Bool). AreIssued c.conf u c.spent es) (sym same) h

  answered_issued : (d : Control) (o : FloodOut) → IssuesAlone d → ((s : ℕ) → o ≡ out.Reissue s → d.spent ≡ false) → IssuesAlone (answer_lsp d o).control
  answered_issued d out.Kept h asked = h
  answered_issued d (out.Reissue s) h asked = reissue_issued d s (asked s refl) (alone_of d h)
  answered_issued d (out.Ack s) h asked = h
  answered_issued d out.Full h asked = h
  answered_issued d out.Zero h asked = h

  module _ (link : ℕ) (up : is_up c link ≡ true) where
    lsp_pdu_issued : (h : Head) (tlvs : List ℕ) → length tlvs ≤ MOST_CONTENT → IssuesAlone (lsp_done c (on_lsp c.flood c.entries link h tlvs c.spent)).control
    lsp_pdu_issued h tlvs short =
        let a = on_lsp c.flood c.entries link h tlvs c.spent in
        let m = lsp_kept c.conf.system c.flood.up c.spent c.flood c.entries (kept_of c k) link up h tlvs short in
        answered_issued (record c { flood = a.flood; entries = a.entries }) a.answer
        (left_issued a.flood a.entries m.kept.up_is (lsp_issued c.conf c.flood.up c.spent c.flood c.entries k.control.own all link h tlvs)) m.asked

    csnp_entries : (start last : LspId) (tlvs : List ℕ) → AreIssued c.conf c.flood.up c.spent (on_csnp c.flood c.entries link start last tlvs c.spent).entries
    unfolding on_csnp
    csnp_entries start last tlvs = list_issued c.conf c.flood.up c.spent link c.flood c.entries (Some (start, last)) (rows_of tlvs) all

    csnp_issued : (start last : LspId) (tlvs : List ℕ) → IssuesAlone (snp_done c (on_csnp c.flood c.entries link start last tlvs c.spent)).control
    csnp_issued start last tlvs =
        let a = on_csnp c.flood c.entries link start last tlvs c.spent in
        let m = csnp_kept c.conf.system c.flood.up c.spent link up c.flood c.entries start last tlvs (kept_of c k) in
        if_issued (record c { flood = a.flood; entries = a.entries }) a.answer.reissue (left_issued a.flood a.entries m.kept.up_is (csnp_entries start last tlvs)) m.asked

    psnp_entries : (tlvs : List ℕ) → AreIssued c.conf c.flood.up c.spent (on_psnp c.flood c.entries link tlvs c.spent).entries
    unfolding on_psnp
    psnp_entries tlvs = list_issued c.conf c.flood.up c.spent link c.flood c.entries None (rows_of tlvs) all

    psnp_issued : (tlvs : List ℕ) → IssuesAlone (snp_done c (on_psnp c.flood c.entries link tlvs c.spent)).control
    psnp_issued tlvs =
        let a = on_psnp c.flood c.entries link tlvs c.spent in
        let m = psnp_kept c.conf.system c.flood.up c.spent link up c.flood c.entries tlvs (kept_of c k) in
        if_issued (record c { flood = a.flood; entries = a.entries }) a.answer.reissue (left_issued a.flood a.entries m.kept.up_is (psnp_entries tlvs)) m.asked

    -- a PDU of some router's
    pub pdu_issued : (confs : List RouterConf) (p : Pdu) → IsTruePdu confs p → IssuesAlone (on_pdu c link p).control
    unfolding on_pdu
    pdu_issued confs (LspPdu h tlvs) says = lsp_pdu_issued h tlvs (short_content confs h tlvs says.says.says)
    pdu_issued confs (CsnpPdu source start last tlvs) says = csnp_issued start last tlvs
    pdu_issued confs (PsnpPdu source tlvs) says = psnp_issued tlvs
    pdu_issued confs other says = all
