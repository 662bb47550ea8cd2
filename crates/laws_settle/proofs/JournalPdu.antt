-- What a PDU of the journal changes of an LSDB: an LSP of another router is stored, or one that is listed is requested. The own LSP stays.
use Rattle.std.proofs.Common.{◌≡◌, ℕ, ◌+◌, ◌<◌, ◌≤◌, ◌==◌, ◌&&◌, ◌||◌, not, nat_lt, Bool, true, false, if◌then◌else◌, List, [], ◌∷◌, replicate, Option, Some, None, refl, sym, ap, subst, ◌∙◌, arith}
use Rattle.std.proofs.lemmas.Bool.{cond_both, eqb-true, and_from, and_parts, false_from_ne_true, true≢false}
use Rattle.std.specs.List.{AllByRecursion}
use Rattle.wire_base.specs.declared.addresses.LspId.{LspId}
use Rattle.wire_base.specs.declared.addresses.SystemId.{SystemId}
use Rattle.wire_base.specs.declared.cause.Cause.TheVariants as cause
use Rattle.wire_base.specs.declared.entry.Age.{Age}
use Rattle.wire_base.specs.declared.entry.Age.TheVariants.{Unknown, Newer, Confused}
use Rattle.wire_base.specs.declared.entry.Entry.{Entry}
use Rattle.wire_base.specs.declared.flood_out.FloodOut.{FloodOut}
use Rattle.wire_base.specs.declared.flood_out.FloodOut.TheVariants as out
use Rattle.wire_base.specs.declared.triple.Summary.{Summary}
use Rattle.wire_base.specs.model.Control.{Control, Flood, age_of, entry_in, fragment_0, is_full, is_newer_or_confused, is_unknown, own_entry_in, put_entry, purge, same_id, same_system, seq_of}
use Rattle.wire_base.specs.model.Flooding.{LspAnswer, SnpAnswer, answer_lsp, ask_on, asks, is_live_summary, is_own_ahead, is_unheld_own, kept, listed_aged, lsp_aged, lsp_done, lsp_in, nothing_asked, on_csnp, on_list, on_listed, on_lsp, on_pdu, on_psnp, only_says, puts_marked, send_on, reissue_if, snp_done, stores, wanted, with_flags, with_row, Reply}
use Rattle.wire_base.specs.model.Pdu.{Head, Pdu, LspPdu, CsnpPdu, PsnpPdu, head_summary}
use Rattle.wire_base.specs.model.Tlv.{rows_of}
use Rattle.domain_model.specs.Truth.{head_of}
use Rattle.domain_model.proofs.EachLaws.{fold_keeps}
use Rattle.domain_model.proofs.FlagLaws.{put_each, put_other, same_id_is}
use Rattle.laws_settle.specs.Fresh.{AreOfJournal, IsOfJournal, IsPduOfJournal, IsRowOfJournal}
use Rattle.laws_settle.proofs.JournalAge.{low_age, told_apart, unknown_none}

-- ---- LSDBs

-- a fact of entries is kept, and the entry of an LSP ID stays
pub record Takes (own : LspId) (P : Entry → Type 0) (es after : List Entry) : Type 0 where
  pub each : AllByRecursion P es → AllByRecursion P after
  pub own_is : entry_in after own ≡ entry_in es own

module _ (own : LspId) (P : Entry → Type 0) where
  stays : (es : List Entry) → Takes own P es es
  stays es = record { each = λ all. all; own_is = refl }

  -- the entry of another LSP ID is put
  puts : (e : Entry) (es : List Entry) → P e → (e.id ≡ own → ⊥) → Takes own P es (put_entry e es)
  puts e es new other = record { each = put_each P e es new; own_is = put_other e es own (false_from_ne_true (same_id e.id own) (λ t. other (same_id_is e.id own t))) }

  follows : (es mid after : List Entry) → Takes own P es mid → Takes own P mid after → Takes own P es after
  follows es mid after one two = record { each = λ all. two.each (one.each all); own_is = two.own_is ∙ one.own_is }

kept_id : (h : Head) (tlvs : List ℕ) → (kept h tlvs).id ≡ h.id
kept_id h tlvs = cond_both (h.life == 0) (purge h.id h.seq) (record { id = h.id; seq = h.seq; life = h.life; hold = 0; sum = h.sum; flags = h.flags; content = tlvs }) (λ (e : Entry). e.id ≡ h.id) (λ t. refl) (λ t. refl)

-- ---- an LSP

-- nothing is sent at once, and no LSP is originated
abbrev IsStill : FloodOut → Type 0
IsStill out.Kept = Unit {0}
IsStill (out.Reissue s) = ⊥
IsStill (out.Ack s) = ⊥
IsStill out.Full = Unit {0}
IsStill out.Zero = Unit {0}

record LspTakes (own : LspId) (P : Entry → Type 0) (es : List Entry) (a : LspAnswer) : Type 0 where
  takes : Takes own P es a.entries
  still : IsStill a.answer

module _ (P : Entry → Type 0) (f : Flood) (es : List Entry) (link : ℕ) (h : Head) (tlvs : List ℕ) (new : P (kept h tlvs)) (lives : 0 < h.life) (named : same_system h.id.system f.own ≡ true → h.id ≡ fragment_0 f.own) where
  abbrev own : LspId
  own = fragment_0 f.own

  abbrev Done : LspAnswer → Type 0
  Done a = LspTakes own P es a

  -- there is no LSP confusion, and the own LSP is neither unknown nor newer
  record IsSettled (age : Age) : Type 0 where
    told : age ≡ Confused → ⊥
    low : h.id ≡ own → (is_unknown age || is_newer_or_confused age) ≡ false

  says : (o : FloodOut) → IsStill o → Done (only_says f es o)
  says o still = record { takes = stays own P es; still = still }

  stored : (h.id ≡ own → ⊥) → Done (stores f es link (kept h tlvs))
  stored other = record { takes = puts own P (kept h tlvs) es new (λ e. other (sym (kept_id h tlvs) ∙ e)); still = tt }

  aged_takes : (age : Age) → IsSettled age → Done (lsp_aged f es link h tlvs age)
  aged_takes Unknown s = by (h.life == 0) refl (is_full es)
    where
      by : (dead : Bool) → (h.life == 0) ≡ dead → (full : Bool) → Done (if dead then only_says f es (out.Ack (head_summary h)) else (if full then only_says f es out.Full else stores f es link (kept h tlvs)))
      by true e full = absurd (let z = eqb-true h.life 0 e in omega (arith, z, lives))
      by false e true = says out.Full tt
      by false e false = stored (λ is. true≢false (s.low is))
  aged_takes Newer s = stored (λ is. true≢false (s.low is))
  aged_takes Confused s = absurd (s.told refl)
  aged_takes other s = record { takes = stays own P es; still = tt }

  -- the own LSP is never ahead of itself
  none_ahead : (spent : Bool) (age : Age) → IsSettled age → is_own_ahead f h.id spent age ≡ true → ⊥
  none_ahead spent age s ahead =
      let p = and_parts (same_id h.id own) (not spent && is_newer_or_confused age) ahead in
      let q = and_parts (not spent) (is_newer_or_confused age) p.1 in
      or_no (is_unknown age) (is_newer_or_confused age) (s.low (same_id_is h.id own p.0)) q.1
    where
      or_no : (a b : Bool) → (a || b) ≡ false → b ≡ true → ⊥
      or_no true b none some = true≢false none
      or_no false b none some = true≢false (sym some ∙ none)

  none_unheld : (age : Age) → IsSettled age → is_unheld_own f h age ≡ true → ⊥
  none_unheld age s unheld =
      let p = and_parts (same_system h.id.system f.own) (nat_lt 0 h.life && (is_unknown age || is_newer_or_confused age)) unheld in
      let q = and_parts (nat_lt 0 h.life) (is_unknown age || is_newer_or_confused age) p.1 in
      true≢false (sym q.1 ∙ s.low (named p.0))

  lsp_takes : (spent : Bool) (age : Age) → IsSettled age → Done (lsp_in f es link h tlvs spent age)
  lsp_takes spent age s = by (h.seq == 0) (is_own_ahead f h.id spent age) refl (is_unheld_own f h age) refl (is_unknown age && is_full es)
    where
      by : (none ahead : Bool) → is_own_ahead f h.id spent age ≡ ahead → (stray : Bool) → is_unheld_own f h age ≡ stray → (full : Bool)
          → Done (if none then only_says f es out.Zero else if ahead then only_says f es (out.Reissue h.seq) else if stray then (if full then only_says f es out.Full else puts_marked f es (purge h.id h.seq)) else lsp_aged f es link h tlvs age)
      by true ahead p stray q full = says out.Zero tt
      by false true p stray q full = absurd (none_ahead spent age s p)
      by false false p true q full = absurd (none_unheld age s q)
      by false false p false q full = aged_takes age s

  on_lsp_takes : (spent : Bool) → IsSettled (age_of (entry_in es h.id) (head_summary h)) → Done (on_lsp f es link h tlvs spent)
  unfolding on_lsp
  on_lsp_takes spent s = lsp_takes spent (age_of (entry_in es h.id) (head_summary h)) s

-- ---- a CSNP or PSNP

module _ (journal : LspId → ℕ → Entry) where
  pub of_wanted : (s : Summary) → IsOfJournal journal (head_of (wanted s)) []
  of_wanted s = record { live = λ some. absurd (omega (arith, some)); sum = λ some. absurd (omega (arith, some)); flags = λ some. absurd (omega (arith, some)); content = λ some. absurd (omega (arith, some)) }

  -- a row of the journal, and what it may bring
  record IsNew (P : Entry → Type 0) (s : Summary) : Type 0 where
    row : IsRowOfJournal journal s
    new : P (wanted s)

  module _ (own : LspId) (P : Entry → Type 0) (es : List Entry) (e : Entry) (has : entry_in es own ≡ Some e) (link : ℕ) (spent : Bool) where
    record ListTakes (a : SnpAnswer) : Type 0 where
      told : AreOfJournal journal a.entries
      takes : Takes own P es a.entries
      still : a.answer.reissue ≡ None

    -- an LSP without an entry is requested
    asks_takes : (a : SnpAnswer) (s : Summary) → P (wanted s) → entry_in a.entries s.id ≡ None → ListTakes a → ListTakes (asks a link s)
    asks_takes a s new none t = by (is_full a.entries)
      where
        other : s.id ≡ own → ⊥
        other is = let both : None ≡ Some e = sym none ∙ ap (entry_in a.entries) is ∙ t.takes.own_is ∙ has in cc

        by : (full : Bool) → ListTakes (if full then record a { answer = record a.answer { full = a.answer.full + 1 } } else record a { flood = with_row a.flood s.id (ask_on link); entries = put_entry (wanted s) a.entries })
        by true = record { told = t.told; takes = t.takes; still = t.still }
        by false =
            record {
              told = put_each (λ x. IsOfJournal journal (head_of x) x.content) (wanted s) a.entries (of_wanted s) t.told;
              takes = follows own P es a.entries (put_entry (wanted s) a.entries) t.takes (puts own P (wanted s) a.entries new other);
              still = t.still;
            }

    aged_listed : (a : SnpAnswer) (s : Summary) (age : Age) → P (wanted s) → (age ≡ Unknown → entry_in a.entries s.id ≡ None) → (age ≡ Confused → ⊥) → ListTakes a → ListTakes (listed_aged a link s spent age)
    aged_listed a s Unknown new none told t = cond_both (is_live_summary s) (asks a link s) a ListTakes (λ live. asks_takes a s new (none refl) t) (λ dead. t)
    aged_listed a s Confused new none told t = absurd (told refl)
    aged_listed a s other new none told t = record { told = t.told; takes = t.takes; still = t.still }

    listed_takes : (a : SnpAnswer) (s : Summary) → IsNew P s → ListTakes a → ListTakes (on_listed link spent a s)
    unfolding on_listed
    listed_takes a s n t =
        cond_both (s.seq == 0) (if nat_lt 0 (seq_of (entry_in a.entries s.id)) then with_flags a s.id (send_on link) else a) (listed_aged a link s spent (age_of (entry_in a.entries s.id) s)) ListTakes
        (λ zero. cond_both (nat_lt 0 (seq_of (entry_in a.entries s.id))) (with_flags a s.id (send_on link)) a ListTakes (λ some. record { told = t.told; takes = t.takes; still = t.still }) (λ none. t))
        (λ some. aged_listed a s (age_of (entry_in a.entries s.id) s) n.new (unknown_none journal a.entries s t.told n.row) (told_apart journal a.entries s t.told n.row) t)

    list_takes : (f : Flood) (rows : List Summary) → AreOfJournal journal es → AllByRecursion (IsNew P) rows → ListTakes (on_list f es link rows spent)
    unfolding on_list
    list_takes f rows told each =
        fold_keeps ListTakes (IsNew P) (on_listed link spent) (λ a s n t. listed_takes a s n t) rows (record { flood = f; entries = es; answer = nothing_asked }) each
        (record { told = told; takes = stays own P es; still = refl })

-- ---- a PDU

-- what may come of a PDU has a property
abbrev pub PduBrings : (Entry → Type 0) → Pdu → Type 0
PduBrings P (LspPdu h tlvs) = P (kept h tlvs)
PduBrings P (CsnpPdu source start last tlvs) = AllByRecursion (λ s. P (wanted s)) (rows_of tlvs)
PduBrings P (PsnpPdu source tlvs) = AllByRecursion (λ s. P (wanted s)) (rows_of tlvs)
PduBrings P other = Unit {0}

pub record PduTakes (c : Control) (P : Entry → Type 0) (r : Reply) : Type 0 where
  pub takes : Takes (fragment_0 c.conf.system) P c.entries r.control.entries
  pub conf : r.control.conf ≡ c.conf
  pub spent : r.control.spent ≡ c.spent
  pub none : r.sent ≡ []

-- an LSP is a router's, and its number isn't above the router's own
pub record IsAnothers (own : LspId) (n : ℕ) (h : Head) : Type 0 where
  pub some : 0 < h.seq
  pub system : SystemId
  pub is : h.id ≡ fragment_0 system
  pub low : h.id ≡ own → h.seq ≤ n

abbrev pub IfLsp : (Head → Type 0) → Pdu → Type 0
IfLsp L (LspPdu h tlvs) = L h
IfLsp L other = Unit {0}

fragment_is : (id : LspId) (s t : SystemId) → id ≡ fragment_0 s → same_system id.system t ≡ true → id ≡ fragment_0 t
fragment_is id s t is same =
    same_id_is id (fragment_0 t) (subst (λ (i : LspId). same_system i.system t ≡ true → same_id i (fragment_0 t) ≡ true) (sym is) (λ h. and_from (same_system s t) _ h refl) same)

module _ (journal : LspId → ℕ → Entry) (c : Control) (told : AreOfJournal journal c.entries) (owner : c.flood.own ≡ c.conf.system) (e : Entry) (has : own_entry_in c ≡ Some e) (P : Entry → Type 0) where
  abbrev here : LspId
  here = fragment_0 c.conf.system

  answered : (a : LspAnswer) (o : FloodOut) → IsStill o → Takes here P c.entries a.entries → PduTakes c P (answer_lsp (record c { flood = a.flood; entries = a.entries }) o)
  answered a out.Kept still t = record { takes = t; conf = refl; spent = refl; none = refl }
  answered a (out.Reissue s) still t = absurd still
  answered a (out.Ack s) still t = absurd still
  answered a out.Full still t = record { takes = t; conf = refl; spent = refl; none = refl }
  answered a out.Zero still t = record { takes = t; conf = refl; spent = refl; none = refl }

  listed : (a : SnpAnswer) (o : Option ℕ) → o ≡ None → Takes here P c.entries a.entries → PduTakes c P (record { control = reissue_if (record c { flood = a.flood; entries = a.entries }) o; sent = []; drops = replicate a.answer.full cause.Full })
  listed a None still t = record { takes = t; conf = refl; spent = refl; none = refl }
  listed a (Some s) still t = absurd cc

  lsp_done_takes : (link : ℕ) (h : Head) (tlvs : List ℕ) → IsOfJournal journal h tlvs → IsAnothers here e.seq h → P (kept h tlvs) → PduTakes c P (lsp_done c (on_lsp c.flood c.entries link h tlvs c.spent))
  lsp_done_takes link h tlvs of l new =
      let place : fragment_0 c.flood.own ≡ here = ap fragment_0 owner in
      let row : IsRowOfJournal journal (head_summary h) = record { live = of.live; sum = of.sum } in
      let t = on_lsp_takes P c.flood c.entries link h tlvs new (of.live l.some) (fragment_is h.id l.system c.flood.own l.is) c.spent
      (record {
        told = told_apart journal c.entries (head_summary h) told row;
        low = λ is. low_age journal c.entries (head_summary h) e told row (ap (entry_in c.entries) (is ∙ place) ∙ has) (l.low (is ∙ place));
      }) in
      answered (on_lsp c.flood c.entries link h tlvs c.spent) (on_lsp c.flood c.entries link h tlvs c.spent).answer t.still
      (subst (λ (i : LspId). Takes i P c.entries (on_lsp c.flood c.entries link h tlvs c.spent).entries) place t.takes)

  rows_new : (rows : List Summary) → AllByRecursion (IsRowOfJournal journal) rows → AllByRecursion (λ s. P (wanted s)) rows → AllByRecursion (IsNew journal P) rows
  rows_new [] of new = tt
  rows_new (s ∷ rows) of new = (record { row = of.0; new = new.0 }, rows_new rows of.1 new.1)

  csnp_takes : (link : ℕ) (start last : LspId) (tlvs : List ℕ) → AllByRecursion (IsRowOfJournal journal) (rows_of tlvs) → AllByRecursion (λ s. P (wanted s)) (rows_of tlvs) → PduTakes c P (snp_done c (on_csnp c.flood c.entries link start last tlvs c.spent))
  unfolding on_csnp
  csnp_takes link start last tlvs of new =
      let t = list_takes journal here P c.entries e has link c.spent c.flood (rows_of tlvs) told (rows_new (rows_of tlvs) of new) in
      listed (on_csnp c.flood c.entries link start last tlvs c.spent) (on_list c.flood c.entries link (rows_of tlvs) c.spent).answer.reissue t.still t.takes

  psnp_takes : (link : ℕ) (tlvs : List ℕ) → AllByRecursion (IsRowOfJournal journal) (rows_of tlvs) → AllByRecursion (λ s. P (wanted s)) (rows_of tlvs) → PduTakes c P (snp_done c (on_psnp c.flood c.entries link tlvs c.spent))
  unfolding on_psnp
  psnp_takes link tlvs of new =
      let t = list_takes journal here P c.entries e has link c.spent c.flood (rows_of tlvs) told (rows_new (rows_of tlvs) of new) in
      listed (on_list c.flood c.entries link (rows_of tlvs) c.spent) (on_list c.flood c.entries link (rows_of tlvs) c.spent).answer.reissue t.still t.takes

  pub pdu_takes : (link : ℕ) (p : Pdu) → IsPduOfJournal journal p → IfLsp (IsAnothers here e.seq) p → PduBrings P p → PduTakes c P (on_pdu c link p)
  unfolding on_pdu
  pdu_takes link (LspPdu h tlvs) of l new = lsp_done_takes link h tlvs of l new
  pdu_takes link (CsnpPdu source start last tlvs) of l new = csnp_takes link start last tlvs of new
  pdu_takes link (PsnpPdu source tlvs) of l new = psnp_takes link tlvs of new
  pdu_takes link other of l new = record { takes = stays here P c.entries; conf = refl; spent = refl; none = refl }
