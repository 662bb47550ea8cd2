-- What a router owes a neighbor stays marked, when the neighbor's LSPs and summaries arrive that are not ahead of it.
use Rattle.std.proofs.Common.{◌≡◌, ℕ, zero, ◌<◌, ◌≤◌, ◌==◌, ◌&&◌, not, nat_lt, Bool, true, false, if◌then◌else◌, List, slice_index_or, slice_set, Option, Some, None, refl, sym, ap, subst, ◌∙◌, arith}
use Rattle.std.proofs.lemmas.Bool.{and_parts, cond_both, eqb-true, eqb-false, ltb-true}
use Rattle.wire_base.specs.declared.addresses.LspId.{LspId}
use Rattle.wire_base.specs.declared.entry.Age.{Age}
use Rattle.wire_base.specs.declared.entry.Age.TheVariants.{Unknown, Newer, Equal, Older, Confused}
use Rattle.wire_base.specs.declared.entry.Entry.{Entry}
use Rattle.wire_base.specs.declared.flood_out.FloodOut.{FloodOut}
use Rattle.wire_base.specs.declared.flood_out.FloodOut.TheVariants as out
use Rattle.wire_base.specs.declared.triple.Summary.{Summary}
use Rattle.wire_base.specs.model.Control.{Flood, FlagRow, age_of, entry_in, fragment_0, is_full, is_newer_or_confused, is_unknown, purge, put_entry, same_id, seq_of, srm}
use Rattle.wire_base.specs.model.Flooding.{LspAnswer, ask_on, is_own_ahead, is_unheld_own, kept, lsp_aged, lsp_in, mark_all, no_links, on_lsp, only_says, puts_marked, send_on, stores, with_row}
use Rattle.wire_base.specs.model.Pdu.{Head, head_summary}
use Rattle.laws_router.proofs.EntryLaws.{id_self, put_other, put_reads}
use Rattle.wire_base.proofs.OrderLaws.{same_is}
use Rattle.domain_model.proofs.FlagLaws.{KeepsId}
use Rattle.laws_settle.specs.Fresh.{number_in}
use Rattle.laws_settle.proofs.RowSrm.{IsTidy, set_elsewhere, set_here, srm_left, srm_other, srm_set}

-- an LSP has SRM on an interface that is up if its sequence number is above that of the neighbor
abbrev pub OwesIn : LspId → ℕ → ℕ → Flood → List Entry → Type 0
OwesIn id k least f es = slice_index_or f.up k false ≡ true → least < number_in es id → srm f id k ≡ true

-- ---- sequence numbers

pub number_put : (e : Entry) (es : List Entry) → number_in (put_entry e es) e.id ≡ e.seq
number_put e es = ap seq_of (put_reads e es e.id ∙ ap (λ (b : Bool). if b then Some e else entry_in es e.id) (id_self e.id))

pub number_other : (e : Entry) (es : List Entry) (id : LspId) → same_id e.id id ≡ false → number_in (put_entry e es) id ≡ number_in es id
number_other e es id other = ap seq_of (put_other e es id other)

-- an entry of the same number
pub number_kept : (e : Entry) (es : List Entry) → e.seq ≡ number_in es e.id → (id : LspId) → number_in (put_entry e es) id ≡ number_in es id
number_kept e es same id = by (same_id e.id id) refl
  where
    by : (b : Bool) → same_id e.id id ≡ b → number_in (put_entry e es) id ≡ number_in es id
    by true h = subst (λ (i : LspId). number_in (put_entry e es) i ≡ number_in es i) (same_is e.id id h) (number_put e es ∙ same)
    by false h = number_other e es id h

-- what is not older than the entry has no lower number
pub not_older : (o : Option Entry) (s : Summary) (age : Age) → age_of o s ≡ age → (age ≡ Older → ⊥) → seq_of o ≤ s.seq
not_older None s age is new = omega arith
not_older (Some e) s age is new = by (e.seq == s.seq) refl (nat_lt e.seq s.seq) refl
  where
    by : (a : Bool) → (e.seq == s.seq) ≡ a → (b : Bool) → nat_lt e.seq s.seq ≡ b → e.seq ≤ s.seq
    by true p b q = let same = eqb-true e.seq s.seq p in omega (arith, same)
    by false p true q = let less = ltb-true e.seq s.seq q in omega (arith, less)
    by false p false q = absurd (new (sym is ∙ rw (p, q) refl))

pub confused_even : (o : Option Entry) (s : Summary) → age_of o s ≡ Confused → seq_of o ≡ s.seq
confused_even None s is = cc
confused_even (Some e) s is = by (e.seq == s.seq) refl (nat_lt e.seq s.seq) refl
  where
    by : (a : Bool) → (e.seq == s.seq) ≡ a → (b : Bool) → nat_lt e.seq s.seq ≡ b → e.seq ≡ s.seq
    by true p b q = eqb-true e.seq s.seq p
    by false p true q = let no : Newer ≡ Confused = rw (p, q) at is in cc
    by false p false q = let no : Older ≡ Confused = rw (p, q) at is in cc

-- ---- what changes of a row leave

module _ (id : LspId) (k least : ℕ) where
  pub owes_low : (f : Flood) (es : List Entry) → number_in es id ≤ least → OwesIn id k least f es
  owes_low f es low open_ more = absurd (omega (arith, low, more))

  pub owes_kept : (f : Flood) (es : List Entry) (g : Flood) (new : List Entry) → g.up ≡ f.up → number_in new id ≡ number_in es id → (srm f id k ≡ true → srm g id k ≡ true) → OwesIn id k least f es → OwesIn id k least g new
  owes_kept f es g new up number keeps h open_ more = keeps (h (ap (λ (u : List Bool). slice_index_or u k false) (sym up) ∙ open_) (omega (arith, number, more)))

-- the row of the LSP ID itself
module _ (up : List Bool) (f : Flood) (t : IsTidy up f) (x : LspId) (k least link : ℕ) where
  -- SRM is set on the interface, if that is up
  sets_owes : (change : FlagRow → FlagRow) → KeepsId change → ((row : FlagRow) → (change row).srm ≡ slice_set row.srm link true) → (es : List Entry) → OwesIn x k least f es → OwesIn x k least (with_row f x change) es
  sets_owes change keeps sets es h = by (link == k) refl
    where
      by : (b : Bool) → (link == k) ≡ b → OwesIn x k least (with_row f x change) es
      by true e = λ open_ more. subst (λ (n : ℕ). srm (with_row f x change) x n ≡ true) (eqb-true link k e)
          (srm_set up f x t change link keeps (λ row w. ap (λ (l : List Bool). slice_index_or l link false) (sets row) ∙ set_here row.srm f.up link (ap (λ (n : ℕ). slice_index_or f.up n false) (eqb-true link k e) ∙ open_) w.srm_up))
      by false e = owes_kept x k least f es (with_row f x change) es refl refl
          (λ s. srm_left up f x t change k keeps (λ row. ap (λ (l : List Bool). slice_index_or l k false) (sets row) ∙ set_elsewhere row.srm link k true (eqb-false link k e)) ∙ s) h

  -- SRM is cleared on the interface
  clears_owes : (change : FlagRow → FlagRow) → KeepsId change → ((row : FlagRow) → (change row).srm ≡ slice_set row.srm link false) → (es new : List Entry) → number_in new x ≡ number_in es x → (link ≡ k → number_in new x ≤ least) → OwesIn x k least f es → OwesIn x k least (with_row f x change) new
  clears_owes change keeps clears es new number low h = by (link == k) refl
    where
      by : (b : Bool) → (link == k) ≡ b → OwesIn x k least (with_row f x change) new
      by true e = owes_low x k least (with_row f x change) new (low (eqb-true link k e))
      by false e = owes_kept x k least f es (with_row f x change) new refl number
          (λ s. srm_left up f x t change k keeps (λ row. ap (λ (l : List Bool). slice_index_or l k false) (clears row) ∙ set_elsewhere row.srm link k false (eqb-false link k e)) ∙ s) h

  -- it is to be sent on all interfaces but one
  passes_owes : (new : List Entry) → (link ≡ k → number_in new x ≤ least) → OwesIn x k least (with_row f x (λ row. record row { srm = slice_set f.up link false; ssn = slice_set (no_links f) link true })) new
  passes_owes new low = by (link == k) refl
    where
      change : FlagRow → FlagRow
      change row = record row { srm = slice_set f.up link false; ssn = slice_set (no_links f) link true }

      by : (b : Bool) → (link == k) ≡ b → OwesIn x k least (with_row f x change) new
      by true e = owes_low x k least (with_row f x change) new (low (eqb-true link k e))
      by false e = λ open_ more. srm_set up f x t change k (λ row. refl) (λ row w. set_elsewhere f.up link k false (eqb-false link k e) ∙ open_)

  -- on all
  marks_owes : (new : List Entry) → OwesIn x k least (mark_all f x) new
  unfolding mark_all
  marks_owes new = λ open_ more. srm_set up f x t (λ row. record row { srm = f.up; ssn = no_links f }) k (λ row. refl) (λ row w. open_)

-- ---- one row of any LSP ID

module _ (id : LspId) (k least : ℕ) where
  pub owes_row : (f : Flood) (es new : List Entry) (x : LspId) (change : FlagRow → FlagRow) → KeepsId change → (same_id x id ≡ false → number_in new id ≡ number_in es id) → (x ≡ id → OwesIn x k least (with_row f x change) new) → OwesIn id k least f es → OwesIn id k least (with_row f x change) new
  owes_row f es new x change keeps others here h = by (same_id x id) refl
    where
      by : (b : Bool) → same_id x id ≡ b → OwesIn id k least (with_row f x change) new
      by true e = subst (λ (i : LspId). OwesIn i k least (with_row f x change) new) (same_is x id e) (here (same_is x id e))
      by false e = owes_kept id k least f es (with_row f x change) new refl (others e) (λ s. srm_other f x id change k keeps e ∙ s) h

  module _ (up : List Bool) (f : Flood) (t : IsTidy up f) (es : List Entry) (h : OwesIn id k least f es) where
    there : (x : LspId) → x ≡ id → OwesIn x k least f es
    there x e = subst (λ (i : LspId). OwesIn i k least f es) (sym e) h

    pub set_owes : (link : ℕ) (x : LspId) (change : FlagRow → FlagRow) → KeepsId change → ((row : FlagRow) → (change row).srm ≡ slice_set row.srm link true) → OwesIn id k least (with_row f x change) es
    set_owes link x change keeps sets = owes_row f es es x change keeps (λ other. refl) (λ e. sets_owes up f t x k least link change keeps sets es (there x e)) h

    pub clear_owes : (link : ℕ) (x : LspId) (change : FlagRow → FlagRow) → KeepsId change → ((row : FlagRow) → (change row).srm ≡ slice_set row.srm link false) → (link ≡ k → x ≡ id → number_in es x ≤ least) → OwesIn id k least (with_row f x change) es
    clear_owes link x change keeps clears low = owes_row f es es x change keeps (λ other. refl) (λ e. clears_owes up f t x k least link change keeps clears es es refl (λ at. low at e) (there x e)) h

    -- an entry of the same number is put too
    pub clear_put_owes : (link : ℕ) (new : Entry) (change : FlagRow → FlagRow) → KeepsId change → ((row : FlagRow) → (change row).srm ≡ slice_set row.srm link false) → new.seq ≡ number_in es new.id → (link ≡ k → new.id ≡ id → new.seq ≤ least) → OwesIn id k least (with_row f new.id change) (put_entry new es)
    clear_put_owes link new change keeps clears same low =
        owes_row f es (put_entry new es) new.id change keeps (number_other new es id)
        (λ e. clears_owes up f t new.id k least link change keeps clears es (put_entry new es) (number_kept new es same new.id) (λ at. (let n = number_put new es in let l = low at e in omega (arith, n, l))) (there new.id e)) h

    pub pass_owes : (link : ℕ) (new : Entry) → (link ≡ k → new.id ≡ id → new.seq ≤ least) → OwesIn id k least (stores f es link new).flood (stores f es link new).entries
    pass_owes link new low =
        owes_row f es (put_entry new es) new.id (λ row. record row { srm = slice_set f.up link false; ssn = slice_set (no_links f) link true }) (λ row. refl) (number_other new es id)
        (λ e. passes_owes up f t new.id k least link (put_entry new es) (λ at. (let n = number_put new es in let l = low at e in omega (arith, n, l)))) h

    pub mark_owes : (new : Entry) → OwesIn id k least (mark_all f new.id) (put_entry new es)
    unfolding mark_all
    mark_owes new =
        owes_row f es (put_entry new es) new.id (λ row. record row { srm = f.up; ssn = no_links f }) (λ row. refl) (number_other new es id)
        (λ e. marks_owes up f t new.id k least zero (put_entry new es)) h

-- ---- an LSP

abbrev pub number_asked : FloodOut → ℕ
number_asked out.Kept = 0
number_asked (out.Reissue s) = s
number_asked (out.Ack s) = 0
number_asked out.Full = 0
number_asked out.Zero = 0

-- what it leaves marked, and how new the own LSP is that it requests, with no other change
pub record LspOwes (id : LspId) (k least : ℕ) (f : Flood) (a : LspAnswer) : Type 0 where
  pub owes : OwesIn id k least a.flood a.entries
  pub asked : (s : ℕ) → a.answer ≡ out.Reissue s → number_in a.entries (fragment_0 f.own) ≤ s
  pub same : (s : ℕ) → a.answer ≡ out.Reissue s → a.flood ≡ f

module _ (id : LspId) (k least : ℕ) (up : List Bool) (f : Flood) (t : IsTidy up f) (es : List Entry) (o : OwesIn id k least f es) (link : ℕ) (h : Head) (tlvs : List ℕ) (behind : link ≡ k → h.id ≡ id → h.seq ≤ least) where
  abbrev Done : LspAnswer → Type 0
  Done a = LspOwes id k least f a

  says : (answer : FloodOut) → ((s : ℕ) → answer ≡ out.Reissue s → ⊥) → Done (only_says f es answer)
  says answer none = record { owes = o; asked = λ s e. absurd (none s e); same = λ s e. refl }

  marked : Done (puts_marked f es (purge h.id h.seq))
  marked = record { owes = mark_owes id k least up f t es o (purge h.id h.seq); asked = λ s e. cc; same = λ s e. cc }

  stored : Done (stores f es link (kept h tlvs))
  stored =
      cond_both (h.life == 0) (purge h.id h.seq) (record { id = h.id; seq = h.seq; life = h.life; hold = 0; sum = h.sum; flags = h.flags; content = tlvs }) (λ (e : Entry). Done (stores f es link e))
      (λ dead. record { owes = pass_owes id k least up f t es o link (purge h.id h.seq) behind; asked = λ s e. cc; same = λ s e. cc })
      (λ live. record { owes = pass_owes id k least up f t es o link (record { id = h.id; seq = h.seq; life = h.life; hold = 0; sum = h.sum; flags = h.flags; content = tlvs }) behind; asked = λ s e. cc; same = λ s e. cc })

  aged : (age : Age) → age_of (entry_in es h.id) (head_summary h) ≡ age → Done (lsp_aged f es link h tlvs age)
  aged Unknown is =
      cond_both (h.life == 0) (only_says f es (out.Ack (head_summary h))) (if is_full es then only_says f es out.Full else stores f es link (kept h tlvs)) Done
      (λ dead. says (out.Ack (head_summary h)) (λ s e. cc))
      (λ live. cond_both (is_full es) (only_says f es out.Full) (stores f es link (kept h tlvs)) Done (λ full. says out.Full (λ s e. cc)) (λ room. stored))
  aged Newer is = stored
  aged Confused is = marked
  aged Equal is = record {
    owes = clear_owes id k least up f t es o link h.id (ask_on link) (λ row. refl) (λ row. refl)
        (λ at e. (let n = not_older (entry_in es h.id) (head_summary h) Equal is (λ q. cc) in let b = behind at e in omega (arith, n, b)));
    asked = λ s e. cc;
    same = λ s e. cc;
  }
  aged Older is = record { owes = set_owes id k least up f t es o link h.id (send_on link) (λ row. refl) (λ row. refl); asked = λ s e. cc; same = λ s e. cc }

  ahead : (age : Age) → age_of (entry_in es h.id) (head_summary h) ≡ age → (spent : Bool) → is_own_ahead f h.id spent age ≡ true → Done (only_says f es (out.Reissue h.seq))
  ahead age is spent own =
      let parts = and_parts (same_id h.id (fragment_0 f.own)) (not spent && is_newer_or_confused age) own in
      let newer = (and_parts (not spent) (is_newer_or_confused age) parts.1).1 in
      let n = not_older (entry_in es h.id) (head_summary h) age is (λ q. (let no : false ≡ true = ap is_newer_or_confused (sym q) ∙ newer in cc)) in
      let m : number_in es (fragment_0 f.own) ≤ h.seq = subst (λ (i : LspId). number_in es i ≤ h.seq) (same_is h.id (fragment_0 f.own) parts.0) n in
      record { owes = o; asked = λ s e. subst (λ (r : ℕ). number_in es (fragment_0 f.own) ≤ r) (ap number_asked e) m; same = λ s e. refl }

  pub lsp_owes : (spent : Bool) → Done (on_lsp f es link h tlvs spent)
  unfolding on_lsp
  lsp_owes spent = by (age_of (entry_in es h.id) (head_summary h)) refl
    where
      by : (age : Age) → age_of (entry_in es h.id) (head_summary h) ≡ age → Done (lsp_in f es link h tlvs spent age)
      by age is =
          let strays : LspAnswer = if is_unknown age && is_full es then only_says f es out.Full else puts_marked f es (purge h.id h.seq) in
          let rest : LspAnswer = if is_unheld_own f h age then strays else lsp_aged f es link h tlvs age in
          cond_both (h.seq == 0) (only_says f es out.Zero) (if is_own_ahead f h.id spent age then only_says f es (out.Reissue h.seq) else rest) Done
          (λ none. says out.Zero (λ s e. cc))
          (λ some. cond_both (is_own_ahead f h.id spent age) (only_says f es (out.Reissue h.seq)) rest Done
          (λ own. ahead age is spent own)
          (λ other. cond_both (is_unheld_own f h age) strays (lsp_aged f es link h tlvs age) Done
          (λ stray. cond_both (is_unknown age && is_full es) (only_says f es out.Full) (puts_marked f es (purge h.id h.seq)) Done (λ full. says out.Full (λ s e. cc)) (λ room. marked))
          (λ held. aged age is)))
