-- What an LSP or a PSNP leaves of flags where both routers have the same sequence numbers.
use Rattle.std.proofs.Common.{◌≡◌, ◌⊎◌, inl, inr, ℕ, zero, suc, ◌<◌, ◌==◌, ◌&&◌, not, nat_lt, Bool, true, false, if◌then◌else◌, List, [], ◌∷◌, Option, None, refl, sym, ap, subst, ◌∙◌, arith}
use Rattle.std.specs.List.{AllByRecursion, fold}
use Rattle.std.proofs.lemmas.Bool.{eq-eqb, eqb-false, eqb-true, false≢true, ltb-true, ne_eqb}
use Rattle.wire_base.specs.declared.addresses.LspId.{LspId}
use Rattle.wire_base.specs.declared.addresses.SystemId.{SystemId}
use Rattle.wire_base.specs.declared.entry.Age.{Age}
use Rattle.wire_base.specs.declared.entry.Age.TheVariants.{Newer, Equal, Older}
use Rattle.wire_base.specs.declared.entry.Entry.{Entry}
use Rattle.wire_base.specs.declared.flood_out.FloodOut.TheVariants as out
use Rattle.wire_base.specs.declared.triple.Summary.{Summary}
use Rattle.wire_base.specs.model.Control.{Control, Flood, age_of, entry_in, fragment_0, is_full, is_unknown, purge, same_id, same_system, seq_of, srm, ssn}
use Rattle.wire_base.specs.model.Flooding.{LspAnswer, SnpAnswer, ask_on, flags_alone, is_own_ahead, is_unheld_own, listed_aged, lsp_aged, lsp_done, lsp_in, nothing_asked, on_list, on_listed, on_lsp, on_pdu, on_psnp, only_says, puts_marked, reissue_if, send_on, set_srm, with_flags, with_row}
use Rattle.wire_base.specs.model.Pdu.{Head, Pdu, LspPdu, PsnpPdu, head_summary}
use Rattle.wire_base.specs.model.Tlv.{rows_of}
use Rattle.laws_router.specs.State.{IsRouter}
use Rattle.wire_base.proofs.OrderLaws.{same_is}
use Rattle.laws_router.proofs.FlagLaws.{keeps_acknowledged}
use Rattle.domain_model.specs.World.{is_up}
use Rattle.laws_settle.specs.Fresh.{AreOfJournal, IsOfJournal, IsPduOfJournal, IsRowOfJournal, number_in}
use Rattle.laws_settle.proofs.JournalAge.{found_age}
use Rattle.laws_settle.proofs.JournalPdu.{IfLsp}
use Rattle.laws_settle.proofs.RoundQueues.{HasOne}
use Rattle.laws_settle.proofs.RoundReach.{entry_there}
use Rattle.laws_settle.proofs.RowSrm.{IsTidy, set_off, srm_cleared, srm_left, srm_other, ssn_left, ssn_other, ssn_set, set_elsewhere, set_here, tidy_row}

and_none : (a b : Bool) → (a && (b && false)) ≡ false
and_none true true = refl
and_none true false = refl
and_none false b = refl

-- what has the entry's sequence number is equal
even_age : (journal : LspId → ℕ → Entry) (es : List Entry) (s : Summary) → AreOfJournal journal es → IsRowOfJournal journal s → 0 < s.seq → s.seq ≡ number_in es s.id → age_of (entry_in es s.id) s ≡ Equal
even_age journal es s told row some even =
    let f = entry_there (entry_in es s.id) (omega (arith, some, even)) in
    let e = f.0 in
    let seq : e.seq ≡ s.seq = sym (ap seq_of f.1) ∙ sym even in
    ap (λ (o : Option Entry). age_of o s) f.1 ∙ found_age journal es s e told row f.1 ∙ ap (λ (b : Bool). if b then Equal else (if nat_lt e.seq s.seq then Newer else Older)) (eq-eqb e.seq s.seq seq)

lsp_equal : (f : Flood) (es : List Entry) (link : ℕ) (h : Head) (tlvs : List ℕ) (spent : Bool) → 0 < h.seq → lsp_in f es link h tlvs spent Equal ≡ flags_alone (with_row f h.id (ask_on link)) es
lsp_equal f es link h tlvs spent some =
    let strays : LspAnswer = if is_unknown Equal && is_full es then only_says f es out.Full else puts_marked f es (purge h.id h.seq) in
    let rest : LspAnswer = if is_unheld_own f h Equal then strays else lsp_aged f es link h tlvs Equal in
    ap (λ (b : Bool). if b then only_says f es out.Zero else if is_own_ahead f h.id spent Equal then only_says f es (out.Reissue h.seq) else rest) (ne_eqb h.seq 0 (λ z. omega (arith, z, some)))
    ∙ ap (λ (b : Bool). if b then only_says f es (out.Reissue h.seq) else rest) (and_none (same_id h.id (fragment_0 f.own)) (not spent))
    ∙ ap (λ (b : Bool). if b then strays else lsp_aged f es link h tlvs Equal) (and_none (same_system h.id.system f.own) (nat_lt 0 h.life))

-- an LSP is acknowledged, and no longer to be sent there
pub lsp_even : (journal : LspId → ℕ → Entry) (c : Control) (link : ℕ) (h : Head) (tlvs : List ℕ) → AreOfJournal journal c.entries → IsOfJournal journal h tlvs → 0 < h.seq → h.seq ≡ number_in c.entries h.id → (on_pdu c link (LspPdu h tlvs)).control ≡ record c { flood = with_row c.flood h.id (ask_on link) }
unfolding on_pdu on_lsp
lsp_even journal c link h tlvs told of some even =
    ap (λ (age : Age). (lsp_done c (lsp_in c.flood c.entries link h tlvs c.spent age)).control) (even_age journal c.entries (head_summary h) told (record { live = of.live; sum = of.sum }) some even)
    ∙ ap (λ (a : LspAnswer). (lsp_done c a).control) (lsp_equal c.flood c.entries link h tlvs c.spent some)

-- ---- a PSNP

-- rows leave all but SRM, which only falls
pub record FallsTo (up : List Bool) (f : Flood) (es : List Entry) (a : SnpAnswer) : Type 0 where
  pub entries : a.entries ≡ es
  pub tidy : IsTidy up a.flood
  pub due : a.flood.due ≡ f.due
  pub ssn_same : (id : LspId) (k : ℕ) → ssn a.flood id k ≡ ssn f id k
  pub srm_falls : (id : LspId) (k : ℕ) → srm a.flood id k ≡ true → srm f id k ≡ true
  pub reissue : a.answer.reissue ≡ None

module _ (journal : LspId → ℕ → Entry) (up : List Bool) (f : Flood) (es : List Entry) (told : AreOfJournal journal es) (link : ℕ) (spent : Bool) where
  record IsEven (s : Summary) : Type 0 where
    row : IsRowOfJournal journal s
    even : s.seq ≡ number_in es s.id

  cleared : (a : SnpAnswer) (x : LspId) → FallsTo up f es a → FallsTo up f es (with_flags a x (set_srm link false))
  cleared a x t = record {
    entries = t.entries;
    tidy = tidy_row up a.flood x (set_srm link false) t.tidy (keeps_acknowledged a.flood.up link);
    due = t.due;
    ssn_same = λ id k. by id k (same_id x id) refl ∙ t.ssn_same id k;
    srm_falls = λ id k h. t.srm_falls id k (fell id k (same_id x id) refl (link == k) refl h);
    reissue = t.reissue;
  }
    where
      by : (id : LspId) (k : ℕ) (b : Bool) → same_id x id ≡ b → ssn (with_row a.flood x (set_srm link false)) id k ≡ ssn a.flood id k
      by id k false e = ssn_other a.flood x id (set_srm link false) k (λ row. refl) e
      by id k true e = subst (λ (i : LspId). ssn (with_row a.flood x (set_srm link false)) i k ≡ ssn a.flood i k) (same_is x id e) (ssn_left up a.flood x t.tidy (set_srm link false) k (λ row. refl) (λ row. refl))

      fell : (id : LspId) (k : ℕ) (b : Bool) → same_id x id ≡ b → (l : Bool) → (link == k) ≡ l → srm (with_row a.flood x (set_srm link false)) id k ≡ true → srm a.flood id k ≡ true
      fell id k false e l m h = sym (srm_other a.flood x id (set_srm link false) k (λ row. refl) e) ∙ h
      fell id k true e false m h =
          let same : srm (with_row a.flood x (set_srm link false)) id k ≡ srm a.flood id k = subst (λ (i : LspId). srm (with_row a.flood x (set_srm link false)) i k ≡ srm a.flood i k) (same_is x id e) (srm_left up a.flood x t.tidy (set_srm link false) k (λ row. refl) (λ row. set_elsewhere row.srm link k false (eqb-false link k m))) in
          sym same ∙ h
      fell id k true e true m h =
          let off : srm (with_row a.flood x (set_srm link false)) x link ≡ false = srm_cleared up a.flood x t.tidy (set_srm link false) link (λ row. refl) (λ row. set_off row.srm link) in
          let here : srm (with_row a.flood x (set_srm link false)) id k ≡ false = subst (λ (i : LspId). srm (with_row a.flood x (set_srm link false)) i k ≡ false) (same_is x id e) (subst (λ (n : ℕ). srm (with_row a.flood x (set_srm link false)) x n ≡ false) (eqb-true link k m) off) in
          absurd (false≢true (sym here ∙ h))

  none_above : (n : ℕ) → n ≡ 0 → nat_lt 0 n ≡ false
  none_above n zero_ = by (nat_lt 0 n) refl
    where
      by : (b : Bool) → nat_lt 0 n ≡ b → b ≡ false
      by true e = absurd (let more = ltb-true 0 n e in omega (arith, zero_, more))
      by false e = refl

  number_same : (a : SnpAnswer) (i : LspId) → FallsTo up f es a → number_in a.entries i ≡ number_in es i
  number_same a i t = ap (λ (xs : List Entry). number_in xs i) t.entries

  row_zero : (a : SnpAnswer) (s : Summary) → FallsTo up f es a → IsEven s → s.seq ≡ 0 → on_listed link spent a s ≡ a
  unfolding on_listed
  row_zero a s t even none =
      ap (λ (b : Bool). if b then (if nat_lt 0 (seq_of (entry_in a.entries s.id)) then with_flags a s.id (send_on link) else a) else listed_aged a link s spent (age_of (entry_in a.entries s.id) s)) (eq-eqb s.seq 0 none)
      ∙ ap (λ (b : Bool). if b then with_flags a s.id (send_on link) else a) (none_above (number_in a.entries s.id) (number_same a s.id t ∙ sym even.even ∙ none))

  row_some : (a : SnpAnswer) (s : Summary) → FallsTo up f es a → IsEven s → 0 < s.seq → on_listed link spent a s ≡ with_flags a s.id (set_srm link false)
  unfolding on_listed
  row_some a s t even some =
      ap (λ (b : Bool). if b then (if nat_lt 0 (seq_of (entry_in a.entries s.id)) then with_flags a s.id (send_on link) else a) else listed_aged a link s spent (age_of (entry_in a.entries s.id) s)) (ne_eqb s.seq 0 (λ z. omega (arith, z, some)))
      ∙ ap (listed_aged a link s spent) (ap (λ (xs : List Entry). age_of (entry_in xs s.id) s) t.entries ∙ even_age journal es s told even.row some even.even)

  row_falls : (a : SnpAnswer) (s : Summary) → IsEven s → FallsTo up f es a → FallsTo up f es (on_listed link spent a s)
  row_falls a s even t = by s.seq refl
    where
      by : (n : ℕ) → s.seq ≡ n → FallsTo up f es (on_listed link spent a s)
      by zero e = subst (FallsTo up f es) (sym (row_zero a s t even e)) t
      by (suc n) e = subst (FallsTo up f es) (sym (row_some a s t even (omega (arith, e)))) (cleared a s.id t)

  rows_fall : (rows : List Summary) (a : SnpAnswer) → AllByRecursion IsEven rows → FallsTo up f es a → FallsTo up f es (fold (on_listed link spent) a rows)
  rows_fall [] a all t = t
  rows_fall (s ∷ rows) a all t = rows_fall rows (on_listed link spent a s) all.1 (row_falls a s all.0 t)

  rows_clear : (id : LspId) (rows : List Summary) (a : SnpAnswer) → AllByRecursion IsEven rows → FallsTo up f es a → srm a.flood id link ≡ false → srm (fold (on_listed link spent) a rows).flood id link ≡ false
  rows_clear id [] a all t off = off
  rows_clear id (s ∷ rows) a all t off = rows_clear id rows (on_listed link spent a s) all.1 (row_falls a s all.0 t) (by s.seq refl)
    where
      by : (n : ℕ) → s.seq ≡ n → srm (on_listed link spent a s).flood id link ≡ false
      by zero e = ap (λ (b : SnpAnswer). srm b.flood id link) (row_zero a s t all.0 e) ∙ off
      by (suc n) e = ap (λ (b : SnpAnswer). srm b.flood id link) (row_some a s t all.0 (omega (arith, e))) ∙ each (same_id s.id id) refl
        where
          each : (b : Bool) → same_id s.id id ≡ b → srm (with_row a.flood s.id (set_srm link false)) id link ≡ false
          each false q = srm_other a.flood s.id id (set_srm link false) link (λ row. refl) q ∙ off
          each true q = subst (λ (i : LspId). srm (with_row a.flood s.id (set_srm link false)) i link ≡ false) (same_is s.id id q) (srm_cleared up a.flood s.id t.tidy (set_srm link false) link (λ row. refl) (λ row. set_off row.srm link))

  -- a row that lists an LSP acknowledges it
  rows_acknowledge : (id : LspId) (rows : List Summary) (a : SnpAnswer) → AllByRecursion IsEven rows → HasOne (λ s. (s.id ≡ id) × (0 < s.seq)) rows → FallsTo up f es a → srm (fold (on_listed link spent) a rows).flood id link ≡ false
  rows_acknowledge id [] a all h t = absurd h
  rows_acknowledge id (s ∷ rows) a all (inl here) t =
      rows_clear id rows (on_listed link spent a s) all.1 (row_falls a s all.0 t)
      (ap (λ (b : SnpAnswer). srm b.flood id link) (row_some a s t all.0 here.1)
      ∙ subst (λ (i : LspId). srm (with_row a.flood s.id (set_srm link false)) i link ≡ false) here.0 (srm_cleared up a.flood s.id t.tidy (set_srm link false) link (λ row. refl) (λ row. set_off row.srm link)))
  rows_acknowledge id (s ∷ rows) a all (inr h) t = rows_acknowledge id rows (on_listed link spent a s) all.1 h (row_falls a s all.0 t)

-- ---- what both leave

abbrev pub IsLspFor : LspId → Pdu → Type 0
IsLspFor id (LspPdu h tlvs) = h.id ≡ id
IsLspFor id other = ⊥

abbrev pub IsAckFor : LspId → Pdu → Type 0
IsAckFor id (PsnpPdu source tlvs) = HasOne (λ s. (s.id ≡ id) × (0 < s.seq)) (rows_of tlvs)
IsAckFor id other = ⊥

-- an LSP or a PSNP with the given sequence numbers
abbrev pub IsEvenPdu : (LspId → ℕ) → Pdu → Type 0
IsEvenPdu most (LspPdu h tlvs) = h.seq ≡ most h.id
IsEvenPdu most (PsnpPdu source tlvs) = AllByRecursion (λ s. s.seq ≡ most s.id) (rows_of tlvs)
IsEvenPdu most other = ⊥

pub record IdleLeaves (c d : Control) (link : ℕ) (p : Pdu) : Type 0 where
  pub entries : d.entries ≡ c.entries
  pub due : d.flood.due ≡ c.flood.due
  pub srm_falls : (id : LspId) (k : ℕ) → srm d.flood id k ≡ true → srm c.flood id k ≡ true
  pub ssn_stays : (id : LspId) (k : ℕ) → ssn c.flood id k ≡ true → ssn d.flood id k ≡ true
  pub ssn_from : (id : LspId) (k : ℕ) → ssn d.flood id k ≡ true → (ssn c.flood id k ≡ true) ⊎ ((link ≡ k) × IsLspFor id p)
  pub asks : (id : LspId) → IsLspFor id p → ssn d.flood id link ≡ true
  pub clears : (id : LspId) → IsAckFor id p → srm d.flood id link ≡ false

module _ (journal : LspId → ℕ → Entry) (c : Control) (r : IsRouter c) (told : AreOfJournal journal c.entries) (link : ℕ) (open_ : is_up c link ≡ true) where
  tidy_here : IsTidy c.flood.up c.flood
  tidy_here = record { up_is = refl; rows = r.control.flood.rows; in_order = r.control.flood.in_order }

  lsp_leaves : (h : Head) (tlvs : List ℕ) → IsOfJournal journal h tlvs → 0 < h.seq → h.seq ≡ number_in c.entries h.id → IdleLeaves c (on_pdu c link (LspPdu h tlvs)).control link (LspPdu h tlvs)
  lsp_leaves h tlvs of some even = subst (λ (d : Control). IdleLeaves c d link (LspPdu h tlvs)) (sym (lsp_even journal c link h tlvs told of some even)) (record {
    entries = refl;
    due = refl;
    srm_falls = λ id k set. falls id k (same_id h.id id) refl (link == k) refl set;
    ssn_stays = λ id k set. stays id k (same_id h.id id) refl (link == k) refl set;
    ssn_from = λ id k set. from id k (same_id h.id id) refl (link == k) refl set;
    asks = λ id is. subst (λ (i : LspId). ssn (with_row c.flood h.id (ask_on link)) i link ≡ true) is asked;
    clears = λ id is. absurd is;
  })
    where
      g : Flood
      g = with_row c.flood h.id (ask_on link)

      asked : ssn (with_row c.flood h.id (ask_on link)) h.id link ≡ true
      asked = ssn_set c.flood.up c.flood h.id tidy_here (ask_on link) link (λ row. refl) (λ row w. set_here row.ssn c.flood.up link open_ w.ssn_up)

      falls : (id : LspId) (k : ℕ) (b : Bool) → same_id h.id id ≡ b → (l : Bool) → (link == k) ≡ l → srm (with_row c.flood h.id (ask_on link)) id k ≡ true → srm c.flood id k ≡ true
      falls id k false e l m set = sym (srm_other c.flood h.id id (ask_on link) k (λ row. refl) e) ∙ set
      falls id k true e false m set =
          let same : srm (with_row c.flood h.id (ask_on link)) id k ≡ srm c.flood id k = subst (λ (i : LspId). srm (with_row c.flood h.id (ask_on link)) i k ≡ srm c.flood i k) (same_is h.id id e) (srm_left c.flood.up c.flood h.id tidy_here (ask_on link) k (λ row. refl) (λ row. set_elsewhere row.srm link k false (eqb-false link k m))) in
          sym same ∙ set
      falls id k true e true m set =
          let off : srm (with_row c.flood h.id (ask_on link)) h.id link ≡ false = srm_cleared c.flood.up c.flood h.id tidy_here (ask_on link) link (λ row. refl) (λ row. set_off row.srm link) in
          let here : srm (with_row c.flood h.id (ask_on link)) id k ≡ false = subst (λ (i : LspId). srm (with_row c.flood h.id (ask_on link)) i k ≡ false) (same_is h.id id e) (subst (λ (n : ℕ). srm (with_row c.flood h.id (ask_on link)) h.id n ≡ false) (eqb-true link k m) off) in
          absurd (false≢true (sym here ∙ set))

      elsewhere : (id : LspId) (k : ℕ) → same_id h.id id ≡ true → (link == k) ≡ false → ssn (with_row c.flood h.id (ask_on link)) id k ≡ ssn c.flood id k
      elsewhere id k e m = subst (λ (i : LspId). ssn (with_row c.flood h.id (ask_on link)) i k ≡ ssn c.flood i k) (same_is h.id id e) (ssn_left c.flood.up c.flood h.id tidy_here (ask_on link) k (λ row. refl) (λ row. set_elsewhere row.ssn link k true (eqb-false link k m)))

      stays : (id : LspId) (k : ℕ) (b : Bool) → same_id h.id id ≡ b → (l : Bool) → (link == k) ≡ l → ssn c.flood id k ≡ true → ssn (with_row c.flood h.id (ask_on link)) id k ≡ true
      stays id k false e l m set = ssn_other c.flood h.id id (ask_on link) k (λ row. refl) e ∙ set
      stays id k true e false m set = elsewhere id k e m ∙ set
      stays id k true e true m set = subst (λ (i : LspId). ssn (with_row c.flood h.id (ask_on link)) i k ≡ true) (same_is h.id id e) (subst (λ (n : ℕ). ssn (with_row c.flood h.id (ask_on link)) h.id n ≡ true) (eqb-true link k m) asked)

      from : (id : LspId) (k : ℕ) (b : Bool) → same_id h.id id ≡ b → (l : Bool) → (link == k) ≡ l → ssn (with_row c.flood h.id (ask_on link)) id k ≡ true → (ssn c.flood id k ≡ true) ⊎ ((link ≡ k) × (h.id ≡ id))
      from id k false e l m set = inl (sym (ssn_other c.flood h.id id (ask_on link) k (λ row. refl) e) ∙ set)
      from id k true e false m set = inl (sym (elsewhere id k e m) ∙ set)
      from id k true e true m set = inr (eqb-true link k m, same_is h.id id e)

  psnp_leaves : (source : SystemId) (tlvs : List ℕ) → AllByRecursion (IsRowOfJournal journal) (rows_of tlvs) → AllByRecursion (λ s. s.seq ≡ number_in c.entries s.id) (rows_of tlvs) → IdleLeaves c (on_pdu c link (PsnpPdu source tlvs)).control link (PsnpPdu source tlvs)
  unfolding on_pdu on_psnp on_list
  psnp_leaves source tlvs of even =
      let start : SnpAnswer = record { flood = c.flood; entries = c.entries; answer = nothing_asked } in
      let rows = rows_of tlvs in
      let all = evens rows of even in
      let first : FallsTo c.flood.up c.flood c.entries start = record { entries = refl; tidy = tidy_here; due = refl; ssn_same = λ id k. refl; srm_falls = λ id k h. h; reissue = refl } in
      let t = rows_fall journal c.flood.up c.flood c.entries told link c.spent rows start all first in
      let a = fold (on_listed link c.spent) start rows in
      subst (λ (o : Option ℕ). IdleLeaves c (reissue_if (record c { flood = a.flood; entries = a.entries }) o) link (PsnpPdu source tlvs)) (sym t.reissue) (record {
        entries = t.entries;
        due = t.due;
        srm_falls = t.srm_falls;
        ssn_stays = λ id k set. t.ssn_same id k ∙ set;
        ssn_from = λ id k set. inl (sym (t.ssn_same id k) ∙ set);
        asks = λ id is. absurd is;
        clears = λ id is. rows_acknowledge journal c.flood.up c.flood c.entries told link c.spent id rows start all is first;
      })
    where
      evens : (rows : List Summary) → AllByRecursion (IsRowOfJournal journal) rows → AllByRecursion (λ s. s.seq ≡ number_in c.entries s.id) rows → AllByRecursion (IsEven journal c.flood.up c.flood c.entries told link c.spent) rows
      evens [] of even = tt
      evens (s ∷ rows) of even = (record { row = of.0; even = even.0 }, evens rows of.1 even.1)

  pub pdu_leaves : (p : Pdu) → IsPduOfJournal journal p → IfLsp (λ h. 0 < h.seq) p → IsEvenPdu (number_in c.entries) p → IdleLeaves c (on_pdu c link p).control link p
  pdu_leaves (LspPdu h tlvs) of some even = lsp_leaves h tlvs of some even
  pdu_leaves (PsnpPdu source tlvs) of some even = psnp_leaves source tlvs of even
  pdu_leaves other of some even = absurd even
