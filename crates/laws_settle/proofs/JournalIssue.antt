-- A router originates its own LSP anew, with the next sequence number: the journal is extended by it, and nothing else changes in it.
use Rattle.std.proofs.Common.{◌≡◌, ℕ, ◌+◌, ◌<◌, ◌≤◌, ◌==◌, ◌&&◌, Bool, true, false, if◌then◌else◌, List, [], ◌∷◌, refl, sym, ap, ◌∙◌, arith}
use Rattle.std.specs.List.{AllByRecursion}
use Rattle.std.proofs.lemmas.Bool.{cond_both, eq-eqb, eqb-true, ne_eqb, true≢false}
use Rattle.wire_base.specs.declared.addresses.LspId.{LspId}
use Rattle.wire_base.specs.declared.conf.RouterConf.{RouterConf}
use Rattle.wire_base.specs.declared.entry.Entry.{Entry}
use Rattle.wire_base.specs.declared.triple.Summary.{Summary}
use Rattle.wire_base.specs.model.Control.{Control, fragment_0, own_entry_in, purge, put_entry, same_id, seq_of}
use Rattle.wire_base.specs.model.Flooding.{issue, last_sequence, reissue, reissue_unless_spent}
use Rattle.wire_base.specs.model.Item.{Item, ControlItem, PacketItem}
use Rattle.wire_base.specs.model.OwnLsp.{own_lsp}
use Rattle.wire_base.specs.model.Pdu.{Head, Pdu, LspPdu, CsnpPdu, PsnpPdu}
use Rattle.wire_base.specs.model.Tlv.{rows_of}
use Rattle.domain_model.specs.Truth.{head_of}
use Rattle.domain_model.proofs.FlagLaws.{same_id_is, same_id_self}
use Rattle.domain_model.proofs.FloodTruth.{own_id, own_seq}
use Rattle.laws_settle.specs.Fresh.{AreOfJournal, IsItemOfJournal, IsItemWithin, IsOfJournal, IsPduOfJournal, IsRowOfJournal, IsWithin, number_in}

-- ---- the journal

abbrev pub Journal : Type 0
Journal = LspId → ℕ → Entry

-- with one LSP more
abbrev pub with_issued : Journal → Entry → Journal
with_issued journal x id n = if same_id x.id id && (x.seq == n) then x else journal id n

issued_is : (journal : Journal) (x : Entry) → with_issued journal x x.id x.seq ≡ x
issued_is journal x = rw (same_id_self x.id, eq-eqb x.seq x.seq refl) refl

others_stay : (journal : Journal) (x : Entry) (id : LspId) (n : ℕ) → (id ≡ x.id → n < x.seq) → with_issued journal x id n ≡ journal id n
others_stay journal x id n low = by (same_id x.id id) refl
  where
    by : (b : Bool) → same_id x.id id ≡ b → (if b && (x.seq == n) then x else journal id n) ≡ journal id n
    by true t = let less : n < x.seq = low (sym (same_id_is x.id id t)) in rw (ne_eqb x.seq n (λ e. omega (arith, e, less))) refl
    by false t = refl

-- an entry of an LSP ID has at most that number
abbrev pub UpTo : LspId → ℕ → Entry → Type 0
UpTo id n e = e.id ≡ id → e.seq ≤ n

module _ (journal : Journal) (x : Entry) where
  lsp_grown : (h : Head) (tlvs : List ℕ) → (h.id ≡ x.id → h.seq < x.seq) → IsOfJournal journal h tlvs → IsOfJournal (with_issued journal x) h tlvs
  lsp_grown h tlvs low of =
      let same = sym (others_stay journal x h.id h.seq low) in
      record {
        live = of.live;
        sum = λ some. of.sum some ∙ ap (λ (e : Entry). e.sum) same;
        flags = λ some. of.flags some ∙ ap (λ (e : Entry). e.flags) same;
        content = λ some. of.content some ∙ ap (λ (e : Entry). e.content) same;
      }

  row_grown : (s : Summary) → (s.id ≡ x.id → s.seq < x.seq) → IsRowOfJournal journal s → IsRowOfJournal (with_issued journal x) s
  row_grown s low of = record { live = of.live; sum = λ some. of.sum some ∙ ap (λ (e : Entry). e.sum) (sym (others_stay journal x s.id s.seq low)) }

  pub entries_grown : (n : ℕ) → n < x.seq → (es : List Entry) → AllByRecursion (UpTo x.id n) es → AreOfJournal journal es → AreOfJournal (with_issued journal x) es
  entries_grown n less [] low of = tt
  entries_grown n less (e ∷ es) low of = (lsp_grown (head_of e) e.content (λ is. (let most = low.0 is in omega (arith, most, less))) of.0, entries_grown n less es low.1 of.1)

  module _ (most : LspId → ℕ) (less : most x.id < x.seq) where
    below : (id : LspId) (n : ℕ) → n ≤ most id → id ≡ x.id → n < x.seq
    below id n low is = let same = ap most is in omega (arith, low, same, less)

    rows_grown : (rows : List Summary) → AllByRecursion (λ s. s.seq ≤ most s.id) rows → AllByRecursion (IsRowOfJournal journal) rows → AllByRecursion (IsRowOfJournal (with_issued journal x)) rows
    rows_grown [] low of = tt
    rows_grown (s ∷ rows) low of = (row_grown s (below s.id s.seq low.0) of.0, rows_grown rows low.1 of.1)

    pdu_grown : (p : Pdu) → IsWithin most p → IsPduOfJournal journal p → IsPduOfJournal (with_issued journal x) p
    pdu_grown (LspPdu h tlvs) low of = lsp_grown h tlvs (below h.id h.seq low) of
    pdu_grown (CsnpPdu source start last tlvs) low of = rows_grown (rows_of tlvs) low of
    pdu_grown (PsnpPdu source tlvs) low of = rows_grown (rows_of tlvs) low of
    pdu_grown other low of = tt

    pub items_grown : (items : List Item) → AllByRecursion (IsItemWithin most) items → AllByRecursion (IsItemOfJournal journal) items → AllByRecursion (IsItemOfJournal (with_issued journal x)) items
    items_grown [] low of = tt
    items_grown (ControlItem p ∷ items) low of = (pdu_grown p low.0 of.0, items_grown items low.1 of.1)
    items_grown (PacketItem y ∷ items) low of = (tt, items_grown items low.1 of.1)

  pub issued_of : 0 < x.life → IsOfJournal (with_issued journal x) (head_of x) x.content
  issued_of lives =
      let same = sym (issued_is journal x) in
      record { live = λ some. lives; sum = λ some. ap (λ (e : Entry). e.sum) same; flags = λ some. ap (λ (e : Entry). e.flags) same; content = λ some. ap (λ (e : Entry). e.content) same }

-- ---- the router

-- the own LSP is put anew, with the next sequence number
pub record Reissues (c after : Control) : Type 0 where
  pub conf : after.conf ≡ c.conf
  pub spent : after.spent ≡ c.spent
  pub new : Entry
  pub own : new.id ≡ fragment_0 c.conf.system
  pub lives : 0 < new.life
  pub next : new.seq ≡ number_in c.entries (fragment_0 c.conf.system) + 1
  pub entries : after.entries ≡ put_entry new c.entries

pub own_lives : (r : RouterConf) (up : List Bool) (s : ℕ) → 0 < (own_lsp r up s).life
unfolding own_lsp
own_lives r up s = omega arith

pub reissue_next : (c : Control) → number_in c.entries (fragment_0 c.conf.system) < last_sequence → Reissues c (reissue c (seq_of (own_entry_in c)))
unfolding reissue
reissue_next c low =
    let s = seq_of (own_entry_in c) in
    cond_both (s == last_sequence) (issue (record c { spent = true }) (purge (fragment_0 c.conf.system) s)) (issue c (own_lsp c.conf c.flood.up (s + 1))) (Reissues c)
    (λ last. absurd (let is = eqb-true s last_sequence last in omega (arith, is, low)))
    (λ more. record { conf = refl; spent = refl; new = own_lsp c.conf c.flood.up (s + 1); own = own_id c.conf c.flood.up (s + 1); lives = own_lives c.conf c.flood.up (s + 1); next = own_seq c.conf c.flood.up (s + 1); entries = refl })

pub unless_next : (c : Control) → c.spent ≡ false → number_in c.entries (fragment_0 c.conf.system) < last_sequence → Reissues c (reissue_unless_spent c)
unfolding reissue_unless_spent
unless_next c unspent low =
    cond_both c.spent c (reissue c (seq_of (own_entry_in c))) (Reissues c) (λ spent. absurd (true≢false (sym spent ∙ unspent))) (λ no. reissue_next c low)
