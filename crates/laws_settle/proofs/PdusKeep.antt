-- What holds of a router's flooding whatever its flags are, as that an interface is up or that a CSNP is due, holds after each PDU
-- that it receives, and after each event at the router that leaves its interfaces as they are.
use Rattle.std.proofs.Common.{ℕ, ◌+◌, ◌==◌, ◌&&◌, nat_lt, not, Bool, true, if◌then◌else◌, List, [], ◌∷◌, fold, Option, Some, None}
use Rattle.std.proofs.lemmas.Bool.{cond_both}
use Rattle.wire_base.specs.declared.addresses.LspId.{LspId}
use Rattle.wire_base.specs.declared.entry.Age.{Age}
use Rattle.wire_base.specs.declared.entry.Age.TheVariants.{Unknown, Newer, Equal, Older, Confused}
use Rattle.wire_base.specs.declared.entry.Aged.{Aged}
use Rattle.wire_base.specs.declared.entry.Aged.TheVariants.{Expired, Removed}
use Rattle.wire_base.specs.declared.entry.Entry.{Entry}
use Rattle.wire_base.specs.declared.flood_out.FloodOut.{FloodOut}
use Rattle.wire_base.specs.declared.flood_out.FloodOut.TheVariants as out
use Rattle.wire_base.specs.declared.triple.Summary.{Summary}
use Rattle.wire_base.specs.model.Control.{Control, Flood, FlagRow, age_of, aged, entry_in, fragment_0, is_full, is_unknown, own_entry_in, purge, put_entry, same_id, seq_of}
use Rattle.wire_base.specs.model.Flooding.{LspAnswer, SnpAnswer, aged_all, answer_lsp, ask_on, asks, flags_aged, flood_aged, forget, is_live_summary, is_own_ahead, is_stale, is_unheld_own, issue, kept, lacks, last_sequence, listed_aged, lsp_aged, lsp_in, mark_all, nothing_asked, on_csnp, on_list, on_listed, on_lsp, on_pdu, on_psnp, only_says, puts_marked, reissue, reissue_if, reissue_unless_spent, send_known, send_lacking, send_on, set_srm, snp_done, stores, tick, wanted, with_flags, with_row}
use Rattle.wire_base.specs.model.OwnLsp.{own_lsp}
use Rattle.wire_base.specs.model.Pdu.{Head, Pdu, LspPdu, CsnpPdu, PsnpPdu, head_summary}
use Rattle.wire_base.specs.model.Tlv.{rows_of}

folded : {A X : Type 0} (Q : A → Type 0) (f : A → X → A) → ((a : A) (x : X) → Q a → Q (f a x)) → (xs : List X) (a : A) → Q a → Q (fold f a xs)
folded Q f each [] a h = h
folded Q f each (x ∷ xs) a h = folded Q f each xs (f a x) (each a x h)

module _ (P : Flood → Type 0) (rowless : (f : Flood) (rows : List FlagRow) → P f → P (record f { rows = rows })) where
  marked : (f : Flood) (id : LspId) → P f → P (mark_all f id)
  unfolding mark_all
  marked f id h = rowless f _ h

  -- ---- the own LSP

  reissued : (c : Control) (s : ℕ) → P c.flood → P (reissue c s).flood
  unfolding reissue
  reissued c s h =
      cond_both (s == last_sequence) (issue (record c { spent = true }) (purge (fragment_0 c.conf.system) s)) (issue c (own_lsp c.conf c.flood.up (s + 1))) (λ (d : Control). P d.flood)
      (λ last. marked c.flood (fragment_0 c.conf.system) h)
      (λ more. marked c.flood (own_lsp c.conf c.flood.up (s + 1)).id h)

  pub unless_spent : (c : Control) → P c.flood → P (reissue_unless_spent c).flood
  unfolding reissue_unless_spent
  unless_spent c h = cond_both c.spent c (reissue c (seq_of (own_entry_in c))) (λ (d : Control). P d.flood) (λ e. h) (λ e. reissued c (seq_of (own_entry_in c)) h)

  -- ---- a list of LSPs

  summary : (link : ℕ) (spent : Bool) (a : SnpAnswer) (s : Summary) (age : Age) → P a.flood → P (listed_aged a link s spent age).flood
  summary link spent a s Unknown h =
      cond_both (is_live_summary s) (asks a link s) a (λ (b : SnpAnswer). P b.flood)
      (λ e. cond_both (is_full a.entries) (record a { answer = record a.answer { full = a.answer.full + 1 } }) (record a { flood = with_row a.flood s.id (ask_on link); entries = put_entry (wanted s) a.entries }) (λ (b : SnpAnswer). P b.flood) (λ f. h) (λ f. rowless a.flood _ h))
      (λ e. h)
  summary link spent a s Newer h = rowless a.flood _ h
  summary link spent a s Equal h = rowless a.flood _ h
  summary link spent a s Older h = rowless a.flood _ h
  summary link spent a s Confused h =
      cond_both (same_id s.id (fragment_0 a.flood.own) && not spent) (record a { answer = record a.answer { reissue = Some s.seq } }) (record a { flood = mark_all a.flood s.id; entries = put_entry (purge s.id s.seq) a.entries }) (λ (b : SnpAnswer). P b.flood)
      (λ e. h)
      (λ e. marked a.flood s.id h)

  listed : (link : ℕ) (spent : Bool) (a : SnpAnswer) (s : Summary) → P a.flood → P (on_listed link spent a s).flood
  unfolding on_listed
  listed link spent a s h =
      cond_both (s.seq == 0) (if nat_lt 0 (seq_of (entry_in a.entries s.id)) then with_flags a s.id (send_on link) else a) (listed_aged a link s spent (age_of (entry_in a.entries s.id) s)) (λ (b : SnpAnswer). P b.flood)
      (λ e. cond_both (nat_lt 0 (seq_of (entry_in a.entries s.id))) (with_flags a s.id (send_on link)) a (λ (b : SnpAnswer). P b.flood) (λ f. rowless a.flood _ h) (λ f. h))
      (λ e. summary link spent a s (age_of (entry_in a.entries s.id) s) h)

  each_listed : (link : ℕ) (spent : Bool) (f : Flood) (es : List Entry) (rows : List Summary) → P f → P (on_list f es link rows spent).flood
  unfolding on_list
  each_listed link spent f es rows h = folded (λ (a : SnpAnswer). P a.flood) (on_listed link spent) (listed link spent) rows (record { flood = f; entries = es; answer = nothing_asked }) h

  csnp : (link : ℕ) (spent : Bool) (f : Flood) (es : List Entry) (start last : LspId) (tlvs : List ℕ) → P f → P (on_csnp f es link start last tlvs spent).flood
  unfolding on_csnp
  csnp link spent f es start last tlvs h =
      let a = on_list f es link (rows_of tlvs) spent in
      folded P (send_lacking link start last (rows_of tlvs)) (λ g e k. cond_both (lacks start last (rows_of tlvs) e) (with_row g e.id (set_srm link true)) g P (λ l. rowless g _ k) (λ l. k)) a.entries a.flood (each_listed link spent f es (rows_of tlvs) h)

  -- ---- an LSP

  lsp_by_age : (f : Flood) (es : List Entry) (link : ℕ) (h : Head) (tlvs : List ℕ) (age : Age) → P f → P (lsp_aged f es link h tlvs age).flood
  lsp_by_age f es link h tlvs Unknown k =
      cond_both (h.life == 0) (only_says f es (out.Ack (head_summary h))) (if is_full es then only_says f es out.Full else stores f es link (kept h tlvs)) (λ (a : LspAnswer). P a.flood)
      (λ e. k)
      (λ e. cond_both (is_full es) (only_says f es out.Full) (stores f es link (kept h tlvs)) (λ (a : LspAnswer). P a.flood) (λ g. k) (λ g. rowless f _ k))
  lsp_by_age f es link h tlvs Newer k = rowless f _ k
  lsp_by_age f es link h tlvs Equal k = rowless f _ k
  lsp_by_age f es link h tlvs Older k = rowless f _ k
  lsp_by_age f es link h tlvs Confused k = marked f h.id k

  lsp : (f : Flood) (es : List Entry) (link : ℕ) (h : Head) (tlvs : List ℕ) (spent : Bool) → P f → P (on_lsp f es link h tlvs spent).flood
  unfolding on_lsp
  lsp f es link h tlvs spent k = by (age_of (entry_in es h.id) (head_summary h))
    where
      by : (age : Age) → P (lsp_in f es link h tlvs spent age).flood
      by age =
          let strays : LspAnswer = if is_unknown age && is_full es then only_says f es out.Full else puts_marked f es (purge h.id h.seq) in
          let rest : LspAnswer = if is_unheld_own f h age then strays else lsp_aged f es link h tlvs age in
          cond_both (h.seq == 0) (only_says f es out.Zero) (if is_own_ahead f h.id spent age then only_says f es (out.Reissue h.seq) else rest) (λ (a : LspAnswer). P a.flood) (λ e. k)
          (λ e. cond_both (is_own_ahead f h.id spent age) (only_says f es (out.Reissue h.seq)) rest (λ (a : LspAnswer). P a.flood) (λ g. k)
          (λ g. cond_both (is_unheld_own f h age) strays (lsp_aged f es link h tlvs age) (λ (a : LspAnswer). P a.flood)
          (λ l. cond_both (is_unknown age && is_full es) (only_says f es out.Full) (puts_marked f es (purge h.id h.seq)) (λ (a : LspAnswer). P a.flood) (λ m. k) (λ m. marked f h.id k))
          (λ l. lsp_by_age f es link h tlvs age k)))

  -- ---- a PDU

  snp_answered : (c : Control) (a : SnpAnswer) → P a.flood → P (snp_done c a).control.flood
  snp_answered c a h = by a.answer.reissue
    where
      by : (o : Option ℕ) → P (reissue_if (record c { flood = a.flood; entries = a.entries }) o).flood
      by None = h
      by (Some s) = reissued (record c { flood = a.flood; entries = a.entries }) s h

  pub pdu_keeps : (c : Control) (link : ℕ) (p : Pdu) → P c.flood → P (on_pdu c link p).control.flood
  unfolding on_pdu on_psnp
  pdu_keeps c link (LspPdu h tlvs) k = by (on_lsp c.flood c.entries link h tlvs c.spent).answer
    where
      d : Control
      d = record c { flood = (on_lsp c.flood c.entries link h tlvs c.spent).flood; entries = (on_lsp c.flood c.entries link h tlvs c.spent).entries }

      same : P d.flood
      same = lsp c.flood c.entries link h tlvs c.spent k

      by : (x : FloodOut) → P (answer_lsp d x).control.flood
      by out.Kept = same
      by (out.Reissue s) = reissued d s same
      by (out.Ack s) = same
      by out.Full = same
      by out.Zero = same
  pdu_keeps c link (CsnpPdu source start last tlvs) k = snp_answered c (on_csnp c.flood c.entries link start last tlvs c.spent) (csnp link c.spent c.flood c.entries start last tlvs k)
  pdu_keeps c link (PsnpPdu source tlvs) k = snp_answered c (on_list c.flood c.entries link (rows_of tlvs) c.spent) (each_listed link c.spent c.flood c.entries (rows_of tlvs) k)
  pdu_keeps c link other k = k

  -- ---- a second, and an interface that comes up

  flags_by_age : (f : Flood) (id : LspId) (a : Aged) → P f → P (flags_aged f id a)
  unfolding forget
  flags_by_age f id Expired h = marked f id h
  flags_by_age f id Removed h = rowless f _ h
  flags_by_age f id other h = h

  pub tick_keeps : (c : Control) → P c.flood → P (tick c).control.flood
  unfolding tick aged_all
  tick_keeps c h =
      let d = aged_all c in
      let k = folded P flood_aged (λ g e. flags_by_age g e.id (aged e)) c.entries c.flood h in
      cond_both (is_stale (own_entry_in d)) (reissue d (seq_of (own_entry_in d))) d (λ (x : Control). P x.flood) (λ e. reissued d (seq_of (own_entry_in d)) k) (λ e. k)

  pub known_keep : (link : ℕ) (es : List Entry) (f : Flood) → P f → P (fold (send_known link) f es)
  known_keep link es f h = folded P (send_known link) (λ g e k. cond_both (nat_lt 0 e.seq) (with_row g e.id (set_srm link true)) g P (λ l. rowless g _ k) (λ l. k)) es f h
