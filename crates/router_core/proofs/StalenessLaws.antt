-- Which events leave what the systems say as it was, but for the router itself and one more.
use Rattle.std.proofs.Common.{◌≡◌, ◌∙◌, ℕ, ◌==◌, ◌&&◌, ◌||◌, nat_lt, Bool, true, false, List, [], ◌∷◌, Option, Some, None, is_none, if◌then◌else◌, refl, sym, ap, subst}
use Rattle.std.proofs.lemmas.Bool.{false≢true, true≢false}
use Rattle.std.specs.List.{fold, list_any}
use Rattle.wire_base.specs.declared.addresses.LspId.{LspId}
use Rattle.wire_base.specs.declared.addresses.SystemId.{SystemId}
use Rattle.wire_base.specs.declared.bsl.Bsl.{Bsl}
use Rattle.wire_base.specs.declared.conf.RouterConf.{RouterConf}
use Rattle.wire_base.specs.declared.entry.Age.{Age}
use Rattle.wire_base.specs.declared.entry.Age.TheVariants.{Unknown, Newer, Equal, Older, Confused}
use Rattle.wire_base.specs.declared.entry.Entry.{Entry}
use Rattle.wire_base.specs.declared.flood_out.FloodOut.{FloodOut}
use Rattle.wire_base.specs.declared.flood_out.FloodOut.TheVariants as out
use Rattle.wire_base.specs.declared.triple.Summary.{Summary}
use Rattle.wire_base.specs.model.Control.{Control, Flood, same_id, same_system, entry_in, own_entry_in, put_entry, purge, age_of, age_by_life, is_unknown, is_full, seq_of}
use Rattle.wire_base.specs.model.Flooding.{LspAnswer, SnpAnswer, answer_lsp, aged_all, end_down, end_up, is_live_summary, is_own_ahead, is_stale, is_unheld_own, join, kept, leave, link_down, link_up, listed_aged, lsp_aged, lsp_in, nothing_asked, on_csnp, on_list, on_listed, on_lsp, on_pdu, on_psnp, refreshed, reissue, reissue_if, reissue_unless_spent, relabel, snp_done, tick, wanted}
use Rattle.wire_base.specs.model.Membership.{relabelled, left, rejoined}
use Rattle.wire_base.specs.model.Pdu.{Head, head_summary, LspPdu, CsnpPdu, PsnpPdu}
use Rattle.wire_base.specs.model.Tlv.{rows_of}
use Rattle.view_graph.proofs.SystemLaws.{same_turned}
use Rattle.laws_router.specs.Becoming.{AreOfOne}
use Rattle.wire_base.proofs.AgeLaws.{unknown_is_none}
use Rattle.router_core.specs.SnpNeeds.{is_confused, is_confusing}
use Rattle.router_core.specs.Keeping.{SaysSame, is_last}
use Rattle.router_core.specs.Own.{own_past}
use Rattle.laws_router.proofs.EntryLaws.{put_reads}
use Rattle.router_core.proofs.OwnLaws.{past_id, reissue_is}
use Rattle.router_core.proofs.SaidLaws.{parts, same_said, put_apart, put_dead, second_parts, or_first, or_second}

-- each system but the router itself and one more has the same live entries
pub record IsBut (system : SystemId) (c next : Control) : Type 0 where
  pub one : AreOfOne next.conf c.conf
  pub others : (t : SystemId) → same_system t c.conf.system ≡ false → same_system system t ≡ false → parts t next.entries ≡ parts t c.entries

pub but_says : (system : SystemId) (c next : Control) → IsBut system c next → SaysSame system c next
but_says system c next is = record { one = is.one; said = λ s apart away. same_said c.conf.kinds c.entries next.entries s (is.others s apart away) }

pub says_itself : (system : SystemId) (c : Control) → SaysSame system c c
says_itself system c = record { one = refl; said = λ s apart away. refl }

but_if : (system : SystemId) (c : Control) (b : Bool) (x y : Control) → IsBut system c x → IsBut system c y → IsBut system c (if b then x else y)
but_if system c true x y h k = h
but_if system c false x y h k = k

reissue_but : (system : SystemId) (c x : Control) (s : ℕ) → IsBut system c x → IsBut system c (reissue x s)
reissue_but system c x s is = subst (IsBut system c) (sym (reissue_is x s)) (record { one = is.one; others = λ t apart away. put_apart t (own_past x.conf x.flood.up s) x.entries (own t apart) ∙ is.others t apart away })
  where
    own : (t : SystemId) → same_system t c.conf.system ≡ false → same_system (own_past x.conf x.flood.up s).id.system t ≡ false
    own t apart = ap (λ (i : LspId). same_system i.system t) (past_id x.conf x.flood.up s) ∙ ap (λ (r : RouterConf). same_system r.system t) is.one ∙ same_turned c.conf.system t ∙ apart

-- ---- an LSP

same_if : (P : List Entry → Type 0) (b : Bool) (x y : LspAnswer) → P x.entries → P y.entries → P (if b then x else y).entries
same_if P true x y h k = h
same_if P false x y h k = k

module _ (t : SystemId) (f : Flood) (es : List Entry) (link : ℕ) (h : Head) (tlvs : List ℕ) (away : same_system h.id.system t ≡ false) where
  stored : parts t (put_entry (kept h tlvs) es) ≡ parts t es
  stored = put_apart t (kept h tlvs) es (ap (λ (i : LspId). same_system i.system t) (kept_id (h.life == 0)) ∙ away)
    where
      kept_id : (b : Bool) → (if b then purge h.id h.seq else record { id = h.id; seq = h.seq; life = h.life; hold = 0; sum = h.sum; flags = h.flags; content = tlvs }).id ≡ h.id
      kept_id true = refl
      kept_id false = refl

  purged : parts t (put_entry (purge h.id h.seq) es) ≡ parts t es
  purged = put_apart t (purge h.id h.seq) es away

  aged_same : (age : Age) → parts t (lsp_aged f es link h tlvs age).entries ≡ parts t es
  aged_same Unknown = same_if (λ l. parts t l ≡ parts t es) (h.life == 0) _ _ refl (same_if (λ l. parts t l ≡ parts t es) (is_full es) _ _ refl stored)
  aged_same Newer = stored
  aged_same Confused = purged
  aged_same Equal = refl
  aged_same Older = refl

  pub lsp_same : (spent : Bool) → parts t (on_lsp f es link h tlvs spent).entries ≡ parts t es
  unfolding on_lsp
  lsp_same spent = by (age_of (entry_in es h.id) (head_summary h))
    where
      by : (age : Age) → parts t (lsp_in f es link h tlvs spent age).entries ≡ parts t es
      by age =
          same_if (λ l. parts t l ≡ parts t es) (h.seq == 0) _ _ refl (same_if (λ l. parts t l ≡ parts t es) (is_own_ahead f h.id spent age) _ _ refl
          (same_if (λ l. parts t l ≡ parts t es) (is_unheld_own f h age) _ _ (same_if (λ l. parts t l ≡ parts t es) (is_unknown age && is_full es) _ _ refl purged) (aged_same age)))

answer_but : (system : SystemId) (c x : Control) → IsBut system c x → (a : FloodOut) → IsBut system c (answer_lsp x a).control
answer_but system c x is out.Kept = is
answer_but system c x is (out.Reissue s) = reissue_but system c x s is
answer_but system c x is (out.Ack s) = is
answer_but system c x is out.Full = is
answer_but system c x is out.Zero = is

pub lsp_but : (c : Control) (link : ℕ) (h : Head) (tlvs : List ℕ) → IsBut h.id.system c (on_pdu c link (LspPdu h tlvs)).control
unfolding on_pdu
lsp_but c link h tlvs =
    answer_but h.id.system c (record c { flood = (on_lsp c.flood c.entries link h tlvs c.spent).flood; entries = (on_lsp c.flood c.entries link h tlvs c.spent).entries })
    (record { one = refl; others = λ t apart away. lsp_same t c.flood c.entries link h tlvs away c.spent }) (on_lsp c.flood c.entries link h tlvs c.spent).answer

-- ---- a sequence numbers PDU that lists nothing at odds with the LSDB

wanted_clear : (s r : Summary) → is_confused (age_of (Some (wanted s)) r) ≡ false
wanted_clear s r = by (0 == r.seq) (r.seq == 0) (r.life == 0) (0 == r.sum) (nat_lt 0 r.seq)
  where
    by : (p z l m q : Bool) → is_confused (if p then (if z then Equal else age_by_life true l m) else (if q then Newer else Older)) ≡ false
    by true true l m q = refl
    by true false true m q = refl
    by true false false m q = refl
    by false z l m true = refl
    by false z l m false = refl

put_clear : (s : Summary) (es : List Entry) (r : Summary) → is_confusing es r ≡ false → is_confusing (put_entry (wanted s) es) r ≡ false
put_clear s es r h = ap (λ (o : Option Entry). is_confused (age_of o r)) (put_reads (wanted s) es r.id) ∙ by (same_id s.id r.id)
  where
    by : (b : Bool) → is_confused (age_of (if b then Some (wanted s) else entry_in es r.id) r) ≡ false
    by true = wanted_clear s r
    by false = h

rows_clear : (s : Summary) (es : List Entry) (rows : List Summary) → list_any (is_confusing es) rows ≡ false → list_any (is_confusing (put_entry (wanted s) es)) rows ≡ false
rows_clear s es [] h = refl
rows_clear s es (r ∷ rows) h =
    ap (λ (b : Bool). b || list_any (is_confusing (put_entry (wanted s) es)) rows) (put_clear s es r (or_first (is_confusing es r) (list_any (is_confusing es) rows) h))
    ∙ rows_clear s es rows (or_second (is_confusing es r) (list_any (is_confusing es) rows) h)

-- nothing is asked of the router, a system has the same live entries, and nothing more of the list is at odds with the LSDB
pub record IsCalm (t : SystemId) (rows : List Summary) (a next : SnpAnswer) : Type 0 where
  pub same : parts t next.entries ≡ parts t a.entries
  pub asked : next.answer.reissue ≡ a.answer.reissue
  pub clear : list_any (is_confusing next.entries) rows ≡ false

calm_if : (t : SystemId) (rows : List Summary) (a : SnpAnswer) (b : Bool) (x y : SnpAnswer) → IsCalm t rows a x → IsCalm t rows a y → IsCalm t rows a (if b then x else y)
calm_if t rows a true x y h k = h
calm_if t rows a false x y h k = k

none_is : (o : Option Entry) → is_none o ≡ true → o ≡ None
none_is None h = refl
none_is (Some e) h = absurd (false≢true h)

module _ (t : SystemId) (link : ℕ) (spent : Bool) where
  by_age : (rows : List Summary) (a : SnpAnswer) (s : Summary) → list_any (is_confusing a.entries) rows ≡ false → is_confusing a.entries s ≡ false → (age : Age) → age_of (entry_in a.entries s.id) s ≡ age → IsCalm t rows a (listed_aged a link s spent age)
  by_age rows a s clear calm Unknown is =
      let new : entry_in a.entries s.id ≡ None = none_is (entry_in a.entries s.id) (sym (unknown_is_none (entry_in a.entries s.id) s) ∙ ap is_unknown is) in
      calm_if t rows a (is_live_summary s) _ _ (calm_if t rows a (is_full a.entries) _ _ (record { same = refl; asked = refl; clear = clear }) (record { same = put_dead t (wanted s) a.entries refl new; asked = refl; clear = rows_clear s a.entries rows clear }))
      (record { same = refl; asked = refl; clear = clear })
  by_age rows a s clear calm Newer is = record { same = refl; asked = refl; clear = clear }
  by_age rows a s clear calm Equal is = record { same = refl; asked = refl; clear = clear }
  by_age rows a s clear calm Older is = record { same = refl; asked = refl; clear = clear }
  by_age rows a s clear calm Confused is = absurd (true≢false (sym (ap is_confused is) ∙ calm))

  listed_calm : (rows : List Summary) (a : SnpAnswer) (s : Summary) → list_any (is_confusing a.entries) rows ≡ false → is_confusing a.entries s ≡ false → IsCalm t rows a (on_listed link spent a s)
  unfolding on_listed
  listed_calm rows a s clear calm =
      calm_if t rows a (s.seq == 0) _ _ (calm_if t rows a (nat_lt 0 (seq_of (entry_in a.entries s.id))) _ _ (record { same = refl; asked = refl; clear = clear }) (record { same = refl; asked = refl; clear = clear }))
      (by_age rows a s clear calm (age_of (entry_in a.entries s.id) s) refl)

  pub rows_calm : (rows : List Summary) (a : SnpAnswer) → list_any (is_confusing a.entries) rows ≡ false → IsCalm t [] a (fold (on_listed link spent) a rows)
  rows_calm [] a h = record { same = refl; asked = refl; clear = refl }
  rows_calm (s ∷ rows) a h =
      let one = listed_calm rows a s (or_second (is_confusing a.entries s) (list_any (is_confusing a.entries) rows) h) (or_first (is_confusing a.entries s) (list_any (is_confusing a.entries) rows) h) in
      let rest = rows_calm rows (on_listed link spent a s) one.clear in
      record { same = rest.same ∙ one.same; asked = rest.asked ∙ one.asked; clear = refl }

snp_but : (c : Control) (a : SnpAnswer) → a.answer.reissue ≡ None → ((t : SystemId) → parts t a.entries ≡ parts t c.entries) → IsBut c.conf.system c (snp_done c a).control
snp_but c a none all = subst (λ (o : Option ℕ). IsBut c.conf.system c (reissue_if (record c { flood = a.flood; entries = a.entries }) o)) (sym none) (record { one = refl; others = λ t apart away. all t })

pub csnp_but : (c : Control) (link : ℕ) (source : SystemId) (start last : LspId) (tlvs : List ℕ) → list_any (is_confusing c.entries) (rows_of tlvs) ≡ false → IsBut c.conf.system c (on_pdu c link (CsnpPdu source start last tlvs)).control
unfolding on_pdu on_csnp on_list
csnp_but c link source start last tlvs none =
    snp_but c (on_csnp c.flood c.entries link start last tlvs c.spent) (rows_calm c.conf.system link c.spent (rows_of tlvs) (record { flood = c.flood; entries = c.entries; answer = nothing_asked }) none).asked
    (λ t. (rows_calm t link c.spent (rows_of tlvs) (record { flood = c.flood; entries = c.entries; answer = nothing_asked }) none).same)

pub psnp_but : (c : Control) (link : ℕ) (source : SystemId) (tlvs : List ℕ) → list_any (is_confusing c.entries) (rows_of tlvs) ≡ false → IsBut c.conf.system c (on_pdu c link (PsnpPdu source tlvs)).control
unfolding on_pdu on_psnp on_list
psnp_but c link source tlvs none =
    snp_but c (on_psnp c.flood c.entries link tlvs c.spent) (rows_calm c.conf.system link c.spent (rows_of tlvs) (record { flood = c.flood; entries = c.entries; answer = nothing_asked }) none).asked
    (λ t. (rows_calm t link c.spent (rows_of tlvs) (record { flood = c.flood; entries = c.entries; answer = nothing_asked }) none).same)

-- ---- a second in which no entry dies

refreshed_but : (c x : Control) → IsBut c.conf.system c x → IsBut c.conf.system c (refreshed x)
refreshed_but c x is = but_if c.conf.system c (is_stale (own_entry_in x)) (reissue x (seq_of (own_entry_in x))) x (reissue_but c.conf.system c x (seq_of (own_entry_in x)) is) is

aged_but : (c : Control) → list_any is_last c.entries ≡ false → IsBut c.conf.system c (aged_all c)
unfolding aged_all
aged_but c none = record { one = refl; others = λ t apart away. second_parts t c.entries none }

pub tick_but : (c : Control) → list_any is_last c.entries ≡ false → IsBut c.conf.system c (tick c).control
unfolding tick
tick_but c none = refreshed_but c (aged_all c) (aged_but c none)

-- ---- ends

unless_but : (c x : Control) → IsBut c.conf.system c x → IsBut c.conf.system c (reissue_unless_spent x)
unfolding reissue_unless_spent
unless_but c x is = but_if c.conf.system c x.spent x (reissue x (seq_of (own_entry_in x))) is (reissue_but c.conf.system c x (seq_of (own_entry_in x)) is)

pub up_but : (c : Control) (link : ℕ) → IsBut c.conf.system c (end_up c link).control
unfolding end_up
up_but c link = unless_but c (record c { flood = link_up c.flood c.entries link }) (record { one = refl; others = λ t apart away. refl })

pub down_but : (c : Control) (link : ℕ) → IsBut c.conf.system c (end_down c link).control
unfolding end_down
down_but c link = unless_but c (record c { flood = link_down c.flood link }) (record { one = refl; others = λ t apart away. refl })

-- ---- other labels, and sub-domains that are left and joined

pub relabel_but : (c : Control) (sd : ℕ) (bsl : Bsl) (label : ℕ) → IsBut c.conf.system c (relabel c sd bsl label).control
unfolding relabel relabelled
relabel_but c sd bsl label = unless_but c (record c { conf = relabelled c.conf sd bsl label }) (record { one = refl; others = λ t apart away. refl })

pub leave_but : (c : Control) (sd : ℕ) → IsBut c.conf.system c (leave c sd).control
unfolding leave left
leave_but c sd = unless_but c (record c { conf = left c.conf sd }) (record { one = refl; others = λ t apart away. refl })

pub join_but : (c : Control) (sd : ℕ) → IsBut c.conf.system c (join c sd).control
unfolding join rejoined
join_but c sd = unless_but c (record c { conf = rejoined c.conf sd }) (record { one = refl; others = λ t apart away. refl })
