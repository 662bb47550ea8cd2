-- Once an LSP has arrived, the router has it, or a newer one.
use Rattle.std.proofs.Common.{◌≡◌, ℕ, ◌+◌, ◌<◌, ◌≤◌, ◌==◌, ◌&&◌, not, nat_lt, Bool, true, false, if◌then◌else◌, List, Option, Some, None, refl, sym, ap, subst, ◌∙◌, arith}
use Rattle.std.proofs.lemmas.Bool.{and_parts, cond_both, eqb-true, ltb-false}
use Rattle.wire_base.specs.declared.addresses.LspId.{LspId}
use Rattle.wire_base.specs.declared.conf.RouterConf.{RouterConf}
use Rattle.wire_base.specs.declared.entry.Age.{Age}
use Rattle.wire_base.specs.declared.entry.Age.TheVariants.{Unknown, Newer, Equal, Older, Confused}
use Rattle.wire_base.specs.declared.entry.Entry.{Entry}
use Rattle.wire_base.specs.declared.flood_out.FloodOut.{FloodOut}
use Rattle.wire_base.specs.declared.flood_out.FloodOut.TheVariants as out
use Rattle.wire_base.specs.declared.triple.Summary.{Summary}
use Rattle.wire_base.specs.model.Control.{Control, Flood, age_of, entry_in, fragment_0, is_full, is_newer_or_confused, is_unknown, purge, same_id, seq_of}
use Rattle.wire_base.specs.model.Flooding.{LspAnswer, answer_lsp, is_own_ahead, is_unheld_own, issue, kept, last_sequence, lsp_aged, lsp_in, on_lsp, on_pdu, only_says, puts_marked, reissue, stores}
use Rattle.wire_base.specs.model.OwnLsp.{own_lsp}
use Rattle.wire_base.specs.model.Pdu.{Head, LspPdu, head_summary}
use Rattle.wire_base.proofs.OrderLaws.{same_is}
use Rattle.domain_model.proofs.FloodTruth.{IsTrueOut, own_id, own_seq}
use Rattle.laws_settle.specs.Fresh.{number_in}
use Rattle.laws_settle.proofs.ControlOwes.{lsp_silent}
use Rattle.laws_settle.proofs.OwesLaws.{number_asked, number_put}

-- what is neither newer than the entry nor unknown has no higher number
not_newer : (o : Option Entry) (s : Summary) (age : Age) → age_of o s ≡ age → (age ≡ Newer → ⊥) → (age ≡ Unknown → ⊥) → s.seq ≤ seq_of o
not_newer None s age is new unknown = absurd (unknown (sym is))
not_newer (Some e) s age is new unknown = by (e.seq == s.seq) refl (nat_lt e.seq s.seq) refl
  where
    by : (a : Bool) → (e.seq == s.seq) ≡ a → (b : Bool) → nat_lt e.seq s.seq ≡ b → s.seq ≤ e.seq
    by true p b q = let same = eqb-true e.seq s.seq p in omega (arith, same)
    by false p true q = absurd (new (sym is ∙ rw (p, q) refl))
    by false p false q = ltb-false e.seq s.seq q

-- what an LSP leaves, by what else it requests
record Got (own : Flood) (h : Head) (a : LspAnswer) : Type 0 where
  kept_number : a.answer ≡ out.Kept → h.seq ≤ number_in a.entries h.id
  asked : (s : ℕ) → a.answer ≡ out.Reissue s → (s ≡ h.seq) × (h.id ≡ fragment_0 own.own)

module _ (f : Flood) (es : List Entry) (link : ℕ) (h : Head) (tlvs : List ℕ) where
  marked : Got f h (puts_marked f es (purge h.id h.seq))
  marked = record { kept_number = λ e. (let n = number_put (purge h.id h.seq) es in omega (arith, n)); asked = λ s e. cc }

  stored : Got f h (stores f es link (kept h tlvs))
  stored =
      cond_both (h.life == 0) (purge h.id h.seq) (record { id = h.id; seq = h.seq; life = h.life; hold = 0; sum = h.sum; flags = h.flags; content = tlvs }) (λ (e : Entry). Got f h (stores f es link e))
      (λ dead. record { kept_number = λ e. (let n = number_put (purge h.id h.seq) es in omega (arith, n)); asked = λ s e. cc })
      (λ live. record { kept_number = λ e. (let n = number_put (record { id = h.id; seq = h.seq; life = h.life; hold = 0; sum = h.sum; flags = h.flags; content = tlvs }) es in omega (arith, n)); asked = λ s e. cc })

  aged : (age : Age) → age_of (entry_in es h.id) (head_summary h) ≡ age → Got f h (lsp_aged f es link h tlvs age)
  aged Unknown is =
      cond_both (h.life == 0) (only_says f es (out.Ack (head_summary h))) (if is_full es then only_says f es out.Full else stores f es link (kept h tlvs)) (Got f h)
      (λ dead. record { kept_number = λ e. cc; asked = λ s e. cc })
      (λ live. cond_both (is_full es) (only_says f es out.Full) (stores f es link (kept h tlvs)) (Got f h) (λ full. record { kept_number = λ e. cc; asked = λ s e. cc }) (λ room. stored))
  aged Newer is = stored
  aged Confused is = marked
  aged Equal is = record { kept_number = λ e. not_newer (entry_in es h.id) (head_summary h) Equal is (λ q. cc) (λ q. cc); asked = λ s e. cc }
  aged Older is = record { kept_number = λ e. not_newer (entry_in es h.id) (head_summary h) Older is (λ q. cc) (λ q. cc); asked = λ s e. cc }

  ahead : (spent : Bool) (age : Age) → is_own_ahead f h.id spent age ≡ true → Got f h (only_says f es (out.Reissue h.seq))
  ahead spent age own = record { kept_number = λ e. cc; asked = λ s e. (sym (ap number_asked e), same_is h.id (fragment_0 f.own) (and_parts (same_id h.id (fragment_0 f.own)) (not spent && is_newer_or_confused age) own).0) }

  lsp_got : (spent : Bool) → Got f h (on_lsp f es link h tlvs spent)
  unfolding on_lsp
  lsp_got spent = by (age_of (entry_in es h.id) (head_summary h)) refl
    where
      by : (age : Age) → age_of (entry_in es h.id) (head_summary h) ≡ age → Got f h (lsp_in f es link h tlvs spent age)
      by age is =
          let strays : LspAnswer = if is_unknown age && is_full es then only_says f es out.Full else puts_marked f es (purge h.id h.seq) in
          let rest : LspAnswer = if is_unheld_own f h age then strays else lsp_aged f es link h tlvs age in
          cond_both (h.seq == 0) (only_says f es out.Zero) (if is_own_ahead f h.id spent age then only_says f es (out.Reissue h.seq) else rest) (Got f h)
          (λ none. record { kept_number = λ e. cc; asked = λ s e. cc })
          (λ some. cond_both (is_own_ahead f h.id spent age) (only_says f es (out.Reissue h.seq)) rest (Got f h)
          (λ own. ahead spent age own)
          (λ other. cond_both (is_unheld_own f h age) strays (lsp_aged f es link h tlvs age) (Got f h)
          (λ stray. cond_both (is_unknown age && is_full es) (only_says f es out.Full) (puts_marked f es (purge h.id h.seq)) (Got f h) (λ full. record { kept_number = λ e. cc; asked = λ s e. cc }) (λ room. marked))
          (λ held. aged age is)))

reissue_reaches : (c : Control) (s : ℕ) → s ≤ number_in (reissue c s).entries (fragment_0 c.conf.system)
unfolding reissue
reissue_reaches c s =
    cond_both (s == last_sequence) (issue (record c { spent = true }) (purge (fragment_0 c.conf.system) s)) (issue c (own_lsp c.conf c.flood.up (s + 1))) (λ (d : Control). s ≤ number_in d.entries (fragment_0 c.conf.system))
    (λ last. (let n = number_put (purge (fragment_0 c.conf.system) s) c.entries in omega (arith, n)))
    (λ more.
    let own = own_lsp c.conf c.flood.up (s + 1) in
    let n = number_put own c.entries in
    let m = own_seq c.conf c.flood.up (s + 1) in
    let there : s ≤ number_in (issue c own).entries own.id = omega (arith, n, m) in
    subst (λ (i : LspId). s ≤ number_in (issue c own).entries i) (own_id c.conf c.flood.up (s + 1)) there)

pub lsp_reaches : (confs : List RouterConf) (c : Control) (link : ℕ) (h : Head) (tlvs : List ℕ) → c.flood.own ≡ c.conf.system → IsTrueOut confs (on_lsp c.flood c.entries link h tlvs c.spent).answer → (0 < h.seq → 0 < h.life)
    → h.seq ≤ number_in (on_pdu c link (LspPdu h tlvs)).control.entries h.id
unfolding on_pdu
lsp_reaches confs c link h tlvs own says lives = by a.answer refl
  where
    a : LspAnswer
    a = on_lsp c.flood c.entries link h tlvs c.spent

    d : Control
    d = record c { flood = a.flood; entries = a.entries }

    got : Got c.flood h a
    got = lsp_got c.flood c.entries link h tlvs c.spent

    by : (x : FloodOut) → a.answer ≡ x → h.seq ≤ number_in (answer_lsp d x).control.entries h.id
    by out.Kept e = got.kept_number e
    by (out.Reissue s) e =
        let asked = got.asked s e in
        let here : fragment_0 c.conf.system ≡ h.id = ap fragment_0 (sym own) ∙ sym asked.1 in
        let there : s ≤ number_in (reissue d s).entries h.id = subst (λ (i : LspId). s ≤ number_in (reissue d s).entries i) here (reissue_reaches d s) in
        let same = asked.0 in
        omega (arith, there, same)
    by (out.Ack s) e = absurd (lsp_silent c.flood c.entries link h tlvs c.spent lives s e)
    by out.Full e = absurd (subst (IsTrueOut confs) e says)
    by out.Zero e = absurd (subst (IsTrueOut confs) e says)
