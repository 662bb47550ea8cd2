-- What a router does with a PDU, a second, its ends and a restart keeps what its LSDB says true.
use Rattle.std.proofs.Common.{◌≡◌, ℕ, ◌+◌, ◌<◌, ◌≤◌, ◌==◌, ◌&&◌, nat_lt, not, Bool, true, false, if◌then◌else◌, List, [], ◌∷◌, length, map, replicate, slice_set, length-set, Option, Some, None, refl, sym, ap, subst, ◌∙◌, arith}
use Rattle.std.specs.List.{AllByRecursion}
use Rattle.std.proofs.lemmas.List.{length-replicate}
use Rattle.std.proofs.lemmas.Bool.{cond_both, eqb-true, eqb-false, ltb-true}
use Rattle.wire_base.specs.declared.limits.TheConstants.{MOST_ROUTERS}
use Rattle.wire_base.specs.declared.addresses.LspId.{LspId}
use Rattle.wire_base.specs.declared.cause.Cause.TheVariants as cause
use Rattle.wire_base.specs.declared.conf.RouterConf.{RouterConf}
use Rattle.wire_base.specs.declared.entry.Age.{Age}
use Rattle.wire_base.specs.declared.entry.Age.TheVariants.{Unknown, Newer, Equal, Older, Confused}
use Rattle.wire_base.specs.declared.entry.Aged.{Aged}
use Rattle.wire_base.specs.declared.entry.Aged.TheVariants.{Live, Expired, Held, Removed}
use Rattle.wire_base.specs.declared.entry.Entry.{Entry}
use Rattle.wire_base.specs.declared.flood_out.FloodOut.{FloodOut}
use Rattle.wire_base.specs.declared.flood_out.FloodOut.TheVariants as out
use Rattle.wire_base.specs.declared.triple.Summary.{Summary}
use Rattle.wire_base.specs.model.Configuration.{IsSound}
use Rattle.wire_base.specs.model.Control.{same_id, AreAscending, entry_in, put_entry, is_full, seq_of, purge, age_of, is_unknown, aged, Flood, Control, fragment_0, own_entry_in}
use Rattle.wire_base.specs.model.Flooding.{with_row, send_on, ask_on, set_srm, clear_both, mark_all, forget, with_flags, SnpAnswer, wanted, asks, is_live_summary, listed_aged, on_listed, nothing_asked, on_list, lacks, send_lacking, on_lsp, on_csnp, on_psnp, new_flood, send_known, link_up, link_down, Reply, quiet, issue, last_sequence, reissue, reissue_if, reissue_unless_spent, psnp_of, answer_lsp, LspAnswer, only_says, puts_marked, kept, stores, lsp_aged, is_unheld_own, is_own_ahead, lsp_in, snp_done, on_pdu, flags_aged, flood_aged, aged_all, is_stale, refreshed, tick, end_up, end_down, started, first_control, restart}
use Rattle.wire_base.specs.model.OwnLsp.{own_lsp}
use Rattle.wire_base.specs.model.Pdu.{Head, head_summary, Pdu, LspPdu, CsnpPdu, PsnpPdu, HelloPdu, OtherPdu}
use Rattle.wire_base.specs.model.Tlv.{LspIdFits, SummaryFits, rows_of}
use Rattle.laws_format.proofs.TlvListLaws.{rows_of_tlvs}
use Rattle.laws_router.specs.Becoming.{IsEarlier}
use Rattle.domain_model.specs.Truth.{IsAmong, IsNamed, IsTrueEntry, IsTrueControl, IsTrueRow, IsTrueList, IsTruePdu}
use Rattle.domain_model.proofs.EachLaws.{each_weaker, each_got, fold_keeps}
use Rattle.domain_model.proofs.FlagLaws.{found_each, each_is_found, mapped_off}
use Rattle.domain_model.proofs.FloodTruth.{IsTrueState, purge_true, own_true, own_seq, marked_true, flags_on, both_off, IsTrueOut, on_lsp_true, IsLow, IsTrueSnp, on_csnp_true, on_psnp_true}
use Rattle.domain_model.proofs.AgedTruth.{aged_true}

-- the next state of a router
pub record IsTrueNext (confs : List RouterConf) (c d : Control) : Type 0 where
  pub conf : d.conf ≡ c.conf
  pub state : IsTrueState confs d.flood d.entries

-- what it answers: nothing is dropped
pub record IsTrueReply (confs : List RouterConf) (c : Control) (r : Reply) : Type 0 where
  pub next : IsTrueNext confs c r.control
  pub says : AllByRecursion (IsTruePdu confs) r.sent
  pub none : r.drops ≡ []

quiet_true : (confs : List RouterConf) (c d : Control) → IsTrueNext confs c d → IsTrueReply confs c (quiet d)
quiet_true confs c d n = record { next = n; says = tt; none = refl }

pub state_of : (confs : List RouterConf) (c : Control) → IsTrueControl confs c → IsTrueState confs c.flood c.entries
state_of confs c t = record { entries_true = t.entries; in_order = t.kept.control.entries.in_order; unsent = t.unsent }

-- ---- the own LSP

issue_true : (confs : List RouterConf) (c : Control) (e : Entry) → IsTrueEntry confs e → 0 < e.seq → IsTrueState confs c.flood c.entries → IsTrueNext confs c (issue c e)
issue_true confs c e t some s = record { conf = refl; state = marked_true confs c.flood c.entries e t some s }

pub reissue_true : (confs : List RouterConf) (c : Control) (s : ℕ) → IsAmong confs c.conf → IsEarlier c.conf c.conf → length c.flood.up ≡ length c.conf.ends → s ≤ last_sequence → IsTrueState confs c.flood c.entries → IsTrueNext confs c (reissue c s)
unfolding reissue
reissue_true confs c s among own ends low t =
    cond_both (s == last_sequence) (issue (record c { spent = true }) (purge (fragment_0 c.conf.system) s)) (issue c (own_lsp c.conf c.flood.up (s + 1))) (IsTrueNext confs c)
    (λ e.
    let last = eqb-true s 4294967295 e in
    let n = issue_true confs (record c { spent = true }) (purge (fragment_0 c.conf.system) s) (purge_true confs (fragment_0 c.conf.system) s (record { router = c.conf; among = among; is = refl }) low) (omega (arith, last)) t in
    record { conf = refl; state = n.state })
    (λ e.
    let less : s ≡ 4294967295 → ⊥ = eqb-false s 4294967295 e in
    let q = own_seq c.conf c.flood.up (s + 1) in
    issue_true confs c (own_lsp c.conf c.flood.up (s + 1)) (own_true confs c.conf c.flood.up (s + 1) among own ends (omega arith) (omega (arith, low, less))) (omega (arith, q)) t)

pub seq_low : (confs : List RouterConf) (es : List Entry) (id : LspId) → AllByRecursion (IsTrueEntry confs) es → seq_of (entry_in es id) ≤ last_sequence
seq_low confs es id all = by (entry_in es id) refl
  where
    by : (o : Option Entry) → entry_in es id ≡ o → seq_of o ≤ last_sequence
    by None q = omega arith
    by (Some e) q = (found_each (IsTrueEntry confs) es id e all q).seq

unless_true : (confs : List RouterConf) (c d : Control) → d.conf ≡ c.conf → IsAmong confs c.conf → IsEarlier c.conf c.conf → length d.flood.up ≡ length c.conf.ends → IsTrueState confs d.flood d.entries → IsTrueNext confs c (reissue_unless_spent d)
unfolding reissue_unless_spent
unless_true confs c d same among own ends s =
    cond_both d.spent d (reissue d (seq_of (own_entry_in d))) (IsTrueNext confs c)
    (λ e. record { conf = same; state = s })
    (λ e.
    let n = reissue_true confs d (seq_of (own_entry_in d)) (subst (IsAmong confs) (sym same) among) (subst (λ (r : RouterConf). IsEarlier r r) (sym same) own) (ends ∙ ap (λ (r : RouterConf). length r.ends) (sym same)) (seq_low confs d.entries (fragment_0 d.conf.system) s.entries_true) s in
    record { conf = n.conf ∙ same; state = n.state })

-- ---- links stay as they are

module _ (link : ℕ) (spent : Bool) where
  listed_links : (a : SnpAnswer) (s : Summary) (age : Age) → (listed_aged a link s spent age).flood.up ≡ a.flood.up
  unfolding mark_all
  listed_links a s Unknown =
      cond_both (is_live_summary s) (asks a link s) a (λ (b : SnpAnswer). b.flood.up ≡ a.flood.up)
      (λ e. cond_both (is_full a.entries) (record a { answer = record a.answer { full = a.answer.full + 1 } }) (record a { flood = with_row a.flood s.id (ask_on link); entries = put_entry (wanted s) a.entries }) (λ (b : SnpAnswer). b.flood.up ≡ a.flood.up) (λ f. refl) (λ f. refl)) (λ e. refl)
  listed_links a s Newer = refl
  listed_links a s Equal = refl
  listed_links a s Older = refl
  listed_links a s Confused =
      cond_both (same_id s.id (fragment_0 a.flood.own) && not spent) (record a { answer = record a.answer { reissue = Some s.seq } }) (record a { flood = mark_all a.flood s.id; entries = put_entry (purge s.id s.seq) a.entries }) (λ (b : SnpAnswer). b.flood.up ≡ a.flood.up) (λ f. refl) (λ f. refl)

  on_listed_links : (a : SnpAnswer) (s : Summary) → (on_listed link spent a s).flood.up ≡ a.flood.up
  unfolding on_listed
  on_listed_links a s =
      cond_both (s.seq == 0) (if nat_lt 0 (seq_of (entry_in a.entries s.id)) then with_flags a s.id (send_on link) else a) (listed_aged a link s spent (age_of (entry_in a.entries s.id) s)) (λ (b : SnpAnswer). b.flood.up ≡ a.flood.up)
      (λ e. cond_both (nat_lt 0 (seq_of (entry_in a.entries s.id))) (with_flags a s.id (send_on link)) a (λ (b : SnpAnswer). b.flood.up ≡ a.flood.up) (λ f. refl) (λ f. refl))
      (λ e. listed_links a s (age_of (entry_in a.entries s.id) s))

  each_summary : (rows : List Summary) → AllByRecursion (λ (s : Summary). Unit {0}) rows
  each_summary [] = tt
  each_summary (s ∷ rows) = (tt, each_summary rows)

  on_list_links : (f : Flood) (es : List Entry) (rows : List Summary) → (on_list f es link rows spent).flood.up ≡ f.up
  unfolding on_list
  on_list_links f es rows =
      fold_keeps (λ (a : SnpAnswer). a.flood.up ≡ f.up) (λ (s : Summary). Unit {0}) (on_listed link spent) (λ a s u same. on_listed_links a s ∙ same) rows (record { flood = f; entries = es; answer = nothing_asked }) (each_summary rows) refl

  each_entry : (es : List Entry) → AllByRecursion (λ (e : Entry). Unit {0}) es
  each_entry [] = tt
  each_entry (e ∷ es) = (tt, each_entry es)

  lacking_links : (start last : LspId) (rows : List Summary) (f : Flood) (e : Entry) → (send_lacking link start last rows f e).up ≡ f.up
  lacking_links start last rows f e = cond_both (lacks start last rows e) (with_row f e.id (set_srm link true)) f (λ (g : Flood). g.up ≡ f.up) (λ l. refl) (λ l. refl)

  on_csnp_links : (f : Flood) (es : List Entry) (start last : LspId) (tlvs : List ℕ) → (on_csnp f es link start last tlvs spent).flood.up ≡ f.up
  unfolding on_csnp
  on_csnp_links f es start last tlvs =
      let a = on_list f es link (rows_of tlvs) spent in
      fold_keeps (λ (g : Flood). g.up ≡ f.up) (λ (e : Entry). Unit {0}) (send_lacking link start last (rows_of tlvs)) (λ g e u same. lacking_links start last (rows_of tlvs) g e ∙ same) a.entries a.flood (each_entry a.entries) (on_list_links f es (rows_of tlvs))

  on_psnp_links : (f : Flood) (es : List Entry) (tlvs : List ℕ) → (on_psnp f es link tlvs spent).flood.up ≡ f.up
  unfolding on_psnp
  on_psnp_links f es tlvs = on_list_links f es (rows_of tlvs)

module _ (f : Flood) (es : List Entry) (link : ℕ) (h : Head) (tlvs : List ℕ) where
  abbrev HasLinks : LspAnswer → Type 0
  HasLinks a = a.flood.up ≡ f.up

  aged_links : (age : Age) → HasLinks (lsp_aged f es link h tlvs age)
  unfolding mark_all
  aged_links Unknown =
      cond_both (h.life == 0) (only_says f es (out.Ack (head_summary h))) (if is_full es then only_says f es out.Full else stores f es link (kept h tlvs)) HasLinks (λ e. refl)
      (λ e. cond_both (is_full es) (only_says f es out.Full) (stores f es link (kept h tlvs)) HasLinks (λ g. refl) (λ g. refl))
  aged_links Newer = refl
  aged_links Equal = refl
  aged_links Older = refl
  aged_links Confused = refl

  stray_links : HasLinks (puts_marked f es (purge h.id h.seq))
  unfolding mark_all
  stray_links = refl

  lsp_links : (spent : Bool) (age : Age) → HasLinks (lsp_in f es link h tlvs spent age)
  lsp_links spent age =
      cond_both (h.seq == 0) (only_says f es out.Zero) (if is_own_ahead f h.id spent age then only_says f es (out.Reissue h.seq) else rest) HasLinks (λ e. refl)
      (λ e. cond_both (is_own_ahead f h.id spent age) (only_says f es (out.Reissue h.seq)) rest HasLinks (λ g. refl)
      (λ g. cond_both (is_unheld_own f h age) strays (lsp_aged f es link h tlvs age) HasLinks
      (λ k. cond_both (is_unknown age && is_full es) (only_says f es out.Full) (puts_marked f es (purge h.id h.seq)) HasLinks (λ l. refl) (λ l. stray_links))
      (λ k. aged_links age)))
    where
      strays : LspAnswer
      strays = if is_unknown age && is_full es then only_says f es out.Full else puts_marked f es (purge h.id h.seq)

      rest : LspAnswer
      rest = if is_unheld_own f h age then strays else lsp_aged f es link h tlvs age

  on_lsp_links : (spent : Bool) → HasLinks (on_lsp f es link h tlvs spent)
  unfolding on_lsp
  on_lsp_links spent = lsp_links spent (age_of (entry_in es h.id) (head_summary h))

-- ---- PDUs

pub named_fits : (confs : List RouterConf) (id : LspId) → AllByRecursion IsSound confs → IsNamed confs id → LspIdFits id
named_fits confs id sound n =
    let fits : LspIdFits (fragment_0 n.router.system) = record { system = (each_got IsSound confs n.among.place n.router sound n.among.there).system.long; pseudonode = omega arith; fragment = omega arith } in
    subst LspIdFits (sym n.is) fits

pub row_fits : (confs : List RouterConf) → AllByRecursion IsSound confs → (s : Summary) → IsTrueRow confs s → SummaryFits s
row_fits confs sound s t = record { life = omega (arith, t.life); id = named_fits confs s.id sound t.named; seq = omega (arith, t.seq); sum = omega (arith, t.sum) }

pub rows_true : (confs : List RouterConf) (tlvs : List ℕ) → AllByRecursion IsSound confs → IsTrueList confs tlvs → AllByRecursion (IsTrueRow confs) (rows_of tlvs)
rows_true confs tlvs sound t =
    let fits : AllByRecursion SummaryFits t.rows = each_weaker (IsTrueRow confs) SummaryFits (row_fits confs sound) t.rows t.each in
    subst (AllByRecursion (IsTrueRow confs)) (sym (ap rows_of t.spelled ∙ rows_of_tlvs t.rows fits)) t.each

-- a router of a domain, and the state that it has
module _ (confs : List RouterConf) (small : length confs ≤ MOST_ROUTERS) (sound : AllByRecursion IsSound confs) (c : Control) (among : IsAmong confs c.conf) (own : IsEarlier c.conf c.conf) (ends : length c.flood.up ≡ length c.conf.ends) (s : IsTrueState confs c.flood c.entries) where
  ack_true : (d : Control) (row : Summary) → d.conf ≡ c.conf → IsTrueState confs d.flood d.entries → IsTrueRow confs row → IsTrueReply confs c (record { control = d; sent = psnp_of d (row ∷ []) ∷ []; drops = [] })
  ack_true d row same state t =
      record {
        next = record { conf = same; state = state };
        says = (
          record {
            source = record { router = d.conf; among = subst (IsAmong confs) (sym same) among; is = refl };
            lists = record { rows = row ∷ []; spelled = refl; few = omega arith; each = (t, tt) };
          },
          tt,
        );
        none = refl;
      }

  -- where the own LSP is asked for, the flood state is as before
  answered : (a : LspAnswer) (o : FloodOut) → IsTrueState confs a.flood a.entries → ((n : ℕ) → o ≡ out.Reissue n → length a.flood.up ≡ length c.conf.ends) → IsTrueOut confs o → IsTrueReply confs c (answer_lsp (record c { flood = a.flood; entries = a.entries }) o)
  answered a out.Kept state same t = quiet_true confs c (record c { flood = a.flood; entries = a.entries }) (record { conf = refl; state = state })
  answered a (out.Reissue n) state same t =
      let next = reissue_true confs (record c { flood = a.flood; entries = a.entries }) n among own (same n refl) t state in
      quiet_true confs c (reissue (record c { flood = a.flood; entries = a.entries }) n) (record { conf = next.conf; state = next.state })
  answered a (out.Ack row) state same t = ack_true (record c { flood = a.flood; entries = a.entries }) row refl state t
  answered a out.Full state same t = absurd t
  answered a out.Zero state same t = absurd t

  low_true : (d : Control) (o : Option ℕ) → d.conf ≡ c.conf → length d.flood.up ≡ length c.conf.ends → IsLow o → IsTrueState confs d.flood d.entries → IsTrueNext confs c (reissue_if d o)
  low_true d None same up low state = record { conf = same; state = state }
  low_true d (Some n) same up low state =
      let next = reissue_true confs d n (subst (IsAmong confs) (sym same) among) (subst (λ (r : RouterConf). IsEarlier r r) (sym same) own) (up ∙ ap (λ (r : RouterConf). length r.ends) (sym same)) low state in
      record { conf = next.conf ∙ same; state = next.state }

  listed : (a : SnpAnswer) → a.flood.up ≡ c.flood.up → IsTrueSnp confs a → IsTrueReply confs c (snp_done c a)
  listed a up t =
      record {
        next = low_true (record c { flood = a.flood; entries = a.entries }) a.answer.reissue refl (ap length up ∙ ends) t.low t.state;
        says = tt;
        none = ap (λ n. replicate n cause.Full) t.roomy;
      }

  pub on_pdu_true : (link : ℕ) (p : Pdu) → IsTruePdu confs p → IsTrueReply confs c (on_pdu c link p)
  unfolding on_pdu
  on_pdu_true link (LspPdu h tlvs) t =
      let a = on_lsp c.flood c.entries link h tlvs c.spent in
      let answer = on_lsp_true confs small c.flood c.entries s link h tlvs t.says t.some c.spent in
      answered a a.answer answer.state (λ n q. ap length (on_lsp_links c.flood c.entries link h tlvs c.spent) ∙ ends) answer.says
  on_pdu_true link (CsnpPdu source start last tlvs) t =
      listed (on_csnp c.flood c.entries link start last tlvs c.spent) (on_csnp_links link c.spent c.flood c.entries start last tlvs)
      (on_csnp_true confs small link c.spent c.flood c.entries start last tlvs (rows_true confs tlvs sound t.lists) s)
  on_pdu_true link (PsnpPdu source tlvs) t =
      listed (on_psnp c.flood c.entries link tlvs c.spent) (on_psnp_links link c.spent c.flood c.entries tlvs)
      (on_psnp_true confs small link c.spent c.flood c.entries tlvs (rows_true confs tlvs sound t.lists) s)
  on_pdu_true link HelloPdu t = absurd t
  on_pdu_true link (OtherPdu number) t = absurd t

  -- ---- a second, ends and a restart

  each_entry_again : (es : List Entry) → AllByRecursion (λ (e : Entry). Unit {0}) es
  each_entry_again [] = tt
  each_entry_again (e ∷ es) = (tt, each_entry_again es)

  second_links : (f : Flood) (id : LspId) (a : Aged) → (flags_aged f id a).up ≡ f.up
  unfolding mark_all forget
  second_links f id Live = refl
  second_links f id Expired = refl
  second_links f id Held = refl
  second_links f id Removed = refl

  aged_up : (aged_all c).flood.up ≡ c.flood.up
  unfolding aged_all
  aged_up = fold_keeps (λ (f : Flood). f.up ≡ c.flood.up) (λ (e : Entry). Unit {0}) flood_aged (λ f e u same. second_links f e.id (aged e) ∙ same) c.entries c.flood (each_entry_again c.entries) refl

  aged_next : AreAscending (map (λ row. row.id) c.flood.rows) → IsTrueNext confs c (aged_all c)
  unfolding aged_all
  aged_next asc = record { conf = refl; state = aged_true confs c.flood c.entries asc s }

  pub tick_true : AreAscending (map (λ row. row.id) c.flood.rows) → IsTrueReply confs c (tick c)
  unfolding tick
  tick_true asc =
      let d = aged_all c in
      let n = aged_next asc in
      quiet_true confs c (refreshed d)
      (cond_both (is_stale (own_entry_in d)) (reissue d (seq_of (own_entry_in d))) d (IsTrueNext confs c)
      (λ e.
      let next = reissue_true confs d (seq_of (own_entry_in d)) (subst (IsAmong confs) (sym n.conf) among) (subst (λ (r : RouterConf). IsEarlier r r) (sym n.conf) own) (ap length aged_up ∙ ends ∙ ap (λ (r : RouterConf). length r.ends) (sym n.conf)) (seq_low confs d.entries (fragment_0 d.conf.system) n.state.entries_true) n.state in
      record { conf = next.conf ∙ n.conf; state = next.state })
      (λ e. n))

  known_true : (link : ℕ) (es : List Entry) (f : Flood) (e : Entry) → entry_in es e.id ≡ Some e → IsTrueState confs f es → IsTrueState confs (send_known link f e) es
  known_true link es f e found t =
      cond_both (nat_lt 0 e.seq) (with_row f e.id (set_srm link true)) f (λ (g : Flood). IsTrueState confs g es)
      (λ some. flags_on confs f es e.id (set_srm link true) (λ r. refl) (rw found (ltb-true 0 e.seq some)) t) (λ no. t)

  known_links : (link : ℕ) (f : Flood) (e : Entry) → (send_known link f e).up ≡ f.up
  known_links link f e = cond_both (nat_lt 0 e.seq) (with_row f e.id (set_srm link true)) f (λ (g : Flood). g.up ≡ f.up) (λ l. refl) (λ l. refl)

  opened : ℕ → Flood
  opened link = record c.flood { up = slice_set c.flood.up link true; due = slice_set c.flood.due link true }

  up_true : (link : ℕ) → IsTrueState confs (link_up c.flood c.entries link) c.entries
  unfolding link_up
  up_true link =
      fold_keeps (λ (f : Flood). IsTrueState confs f c.entries) (λ (e : Entry). entry_in c.entries e.id ≡ Some e) (send_known link) (λ f e found t. known_true link c.entries f e found t) c.entries
      (record c.flood { up = slice_set c.flood.up link true; due = slice_set c.flood.due link true }) (each_is_found c.entries s.in_order)
      (record { entries_true = s.entries_true; in_order = s.in_order; unsent = s.unsent })

  up_links : (link : ℕ) → (link_up c.flood c.entries link).up ≡ slice_set c.flood.up link true
  unfolding link_up
  up_links link =
      fold_keeps (λ (f : Flood). f.up ≡ slice_set c.flood.up link true) (λ (e : Entry). Unit {0}) (send_known link) (λ f e u same. known_links link f e ∙ same) c.entries
      (record c.flood { up = slice_set c.flood.up link true; due = slice_set c.flood.due link true }) (each_entry_again c.entries) refl

  pub end_up_true : (link : ℕ) → IsTrueReply confs c (end_up c link)
  unfolding end_up
  end_up_true link =
      quiet_true confs c (reissue_unless_spent (record c { flood = link_up c.flood c.entries link }))
      (unless_true confs c (record c { flood = link_up c.flood c.entries link }) refl among own (ap length (up_links link) ∙ length-set c.flood.up link true ∙ ends) (up_true link))

  down_true : (link : ℕ) → IsTrueState confs (link_down c.flood link) c.entries
  unfolding link_down
  down_true link = record { entries_true = s.entries_true; in_order = s.in_order; unsent = λ id at z. mapped_off (clear_both link) (λ row. refl) (both_off link) c.flood.rows id at (s.unsent id at z) }

  down_links : (link : ℕ) → (link_down c.flood link).up ≡ slice_set c.flood.up link false
  unfolding link_down
  down_links link = refl

  pub end_down_true : (link : ℕ) → IsTrueReply confs c (end_down c link)
  unfolding end_down
  end_down_true link =
      quiet_true confs c (reissue_unless_spent (record c { flood = link_down c.flood link }))
      (unless_true confs c (record c { flood = link_down c.flood link }) refl among own (ap length (down_links link) ∙ length-set c.flood.up link false ∙ ends) (down_true link))

-- a router that has started
started_state : (confs : List RouterConf) (r : RouterConf) (up : List Bool) → IsAmong confs r → IsEarlier r r → length up ≡ length r.ends → IsTrueState confs (started r up).flood (started r up).entries
unfolding started new_flood
started_state confs r up among own ends =
    let q = own_seq r up 1 in
    marked_true confs (new_flood r.system up) [] (own_lsp r up 1) (own_true confs r up 1 among own ends (omega arith) (omega arith)) (omega (arith, q))
    (record { entries_true = tt; in_order = tt; unsent = λ id link z. refl })

started_conf : (r : RouterConf) (up : List Bool) → (started r up).conf ≡ r
unfolding started
started_conf r up = refl

pub first_state_true : (confs : List RouterConf) (r : RouterConf) → IsAmong confs r → IsEarlier r r → IsTrueState confs (first_control r).flood (first_control r).entries
unfolding first_control
first_state_true confs r among own = started_state confs r (replicate (length r.ends) true) among own (length-replicate (length r.ends) true)

pub first_conf : (r : RouterConf) → (first_control r).conf ≡ r
unfolding first_control
first_conf r = started_conf r (replicate (length r.ends) true)

pub restart_true : (confs : List RouterConf) (c : Control) → IsAmong confs c.conf → IsEarlier c.conf c.conf → length c.flood.up ≡ length c.conf.ends → IsTrueReply confs c (restart c)
unfolding restart
restart_true confs c among own ends = quiet_true confs c (started c.conf c.flood.up) (record { conf = started_conf c.conf c.flood.up; state = started_state confs c.conf c.flood.up among own ends })

-- a router whose configuration becomes another one, of which its state is true: it originates its own LSP anew
pub changed_true : (confs : List RouterConf) (c : Control) (next : RouterConf) → IsAmong confs next → IsEarlier next next → length c.flood.up ≡ length next.ends → IsTrueState confs c.flood c.entries → IsTrueReply confs (record c { conf = next }) (quiet (reissue_unless_spent (record c { conf = next })))
changed_true confs c next among own ends s =
    let d : Control = record c { conf = next } in
    quiet_true confs d (reissue_unless_spent d) (unless_true confs d d refl among own ends s)
