-- What each event at a router leaves marked for a neighbor, and that it lowers no sequence number.
use Rattle.std.proofs.Common.{◌≡◌, inl, inr, ℕ, zero, suc, ◌+◌, ◌<◌, ◌≤◌, ◌==◌, ◌&&◌, nat_lt, nat_le, Bool, true, false, if◌then◌else◌, List, [], ◌∷◌, length, map, slice_index_or, slice_set, option_and_then, Option, Some, None, refl, sym, ap, subst, ◌∙◌, arith}
use Rattle.std.specs.List.{AllByRecursion, filter_map, fold}
use Rattle.std.proofs.lemmas.Bool.{cond_both, eqb-true, eqb-false, false≢true, lt-ltb, ltb-false}
use Rattle.wire_base.specs.declared.addresses.LspId.{LspId}
use Rattle.wire_base.specs.declared.addresses.SystemId.{SystemId}
use Rattle.wire_base.specs.declared.bsl.Bsl.{Bsl}
use Rattle.wire_base.specs.declared.conf.RouterConf.{RouterConf}
use Rattle.wire_base.specs.declared.entry.Age.{Age}
use Rattle.wire_base.specs.declared.entry.Age.TheVariants.{Unknown}
use Rattle.wire_base.specs.declared.entry.Aged.{Aged}
use Rattle.wire_base.specs.declared.entry.Aged.TheVariants.{Live, Expired, Held, Removed}
use Rattle.wire_base.specs.declared.entry.Entry.{Entry}
use Rattle.wire_base.specs.declared.flood_out.FloodOut.{FloodOut}
use Rattle.wire_base.specs.declared.flood_out.FloodOut.TheVariants as out
use Rattle.wire_base.specs.declared.triple.Summary.{Summary}
use Rattle.wire_base.specs.model.Control.{Control, Flood, IsFlagRow, after_second, age_of, aged, aged_to, entry_in, fragment_0, is_full, is_unknown, own_entry_in, purge, put_entry, same_id, seq_of, srm, srm_in, without_row}
use Rattle.wire_base.specs.model.Flooding.{LspAnswer, SnpAnswer, aged_all, answer_lsp, clear_both, clear_ssn, end_down, end_up, flags_aged, flood_aged, forget, is_own_ahead, is_stale, is_unheld_own, issue, join, kept, last_sequence, leave, link_down, link_up, lsp_aged, lsp_done, lsp_in, mark_all, no_links, on_csnp, on_lsp, on_pdu, on_psnp, only_says, puts_marked, reissue, reissue_if, reissue_unless_spent, relabel, send, send_known, sent_on, set_srm, snp_done, stores, tick, with_row}
use Rattle.wire_base.specs.model.Membership.{left, rejoined, relabelled}
use Rattle.wire_base.specs.model.OwnLsp.{own_lsp}
use Rattle.wire_base.specs.model.Pdu.{Head, head_summary, Pdu, LspPdu, CsnpPdu, PsnpPdu}
use Rattle.wire_base.specs.model.Tlv.{rows_of}
use Rattle.isis_flood.specs.Kept.{Stays}
use Rattle.isis_flood.proofs.KeptLaws.{lsp_keeps}
use Rattle.laws_router.specs.Kept.{Kept}
use Rattle.laws_router.specs.State.{IsRouter}
use Rattle.wire_base.proofs.OrderLaws.{same_is}
use Rattle.laws_router.proofs.FlagLaws.{keeps_srm, link_opened}
use Rattle.laws_router.proofs.StateLaws.{all_aged, down_kept, up_kept}
use Rattle.router_core.proofs.OwnLaws.{kept_of}
use Rattle.domain_model.proofs.AgedTruth.{entry_aged}
use Rattle.domain_model.proofs.EachLaws.{each_both, each_weaker}
use Rattle.domain_model.proofs.FlagLaws.{each_is_found, found_each, gone_for, srm_same}
use Rattle.domain_model.proofs.FloodTruth.{own_id, own_seq}
use Rattle.domain_model.specs.World.{is_up}
use Rattle.laws_settle.specs.Fresh.{IsPduOfJournal, IsWithin, number_in}
use Rattle.laws_settle.proofs.ListOwes.{SnpOwes, csnp_owes, psnp_owes}
use Rattle.laws_settle.proofs.OwesLaws.{OwesIn, lsp_owes, mark_owes, number_other, number_put}
use Rattle.laws_settle.proofs.RowSrm.{IsTidy, set_elsewhere, set_here, srm_left, srm_mapped, srm_other, srm_set, tidy_row}

-- flags and LSDB after an event: no sequence number is lower than in an LSDB before it, and what is owed is marked
pub record IsAfter (id : LspId) (k least : ℕ) (before : List Entry) (f : Flood) (es : List Entry) : Type 0 where
  pub numbers : (i : LspId) → number_in before i ≤ number_in es i
  pub owes : OwesIn id k least f es

abbrev pub IsNext : LspId → ℕ → ℕ → List Entry → Control → Type 0
IsNext id k least before c = IsAfter id k least before c.flood c.entries

stays_number : (o p : Option Entry) → Stays o p → seq_of o ≤ seq_of p
stays_number None p h = omega arith
stays_number (Some x) None h = absurd h
stays_number (Some x) (Some y) (inl h) = omega (arith, h)
stays_number (Some x) (Some y) (inr h) = let same = h.0 in omega (arith, same)

tidy_of : (own : SystemId) (up : List Bool) (spent : Bool) (f : Flood) (es : List Entry) → Kept own up spent f es → IsTidy up f
tidy_of own up spent f es k = record { up_is = k.up_is; rows = k.flood.rows; in_order = k.flood.in_order }

module _ (id : LspId) (k least : ℕ) (before : List Entry) where
  -- ---- an own LSP

  issued : (up : List Bool) (c : Control) (e : Entry) → IsTidy up c.flood → IsNext id k least before c → number_in c.entries e.id ≤ e.seq → IsAfter id k least before (mark_all c.flood e.id) (put_entry e c.entries)
  issued up c e t h new = record { numbers = λ i. by i (same_id e.id i) refl; owes = mark_owes id k least up c.flood t c.entries h.owes e }
    where
      by : (i : LspId) (b : Bool) → same_id e.id i ≡ b → number_in before i ≤ number_in (put_entry e c.entries) i
      by i true s =
          let low : number_in c.entries i ≤ e.seq = subst (λ (x : LspId). number_in c.entries x ≤ e.seq) (same_is e.id i s) new in
          let put : number_in (put_entry e c.entries) i ≡ e.seq = subst (λ (x : LspId). number_in (put_entry e c.entries) x ≡ e.seq) (same_is e.id i s) (number_put e c.entries) in
          let n = h.numbers i in
          omega (arith, low, put, n)
      by i false s = let put = number_other e c.entries i s in let n = h.numbers i in omega (arith, put, n)

  pub reissue_next : (up : List Bool) (c : Control) (s : ℕ) → IsTidy up c.flood → IsNext id k least before c → number_in c.entries (fragment_0 c.conf.system) ≤ s → IsNext id k least before (reissue c s)
  unfolding reissue
  reissue_next up c s t h low =
      cond_both (s == last_sequence) (issue (record c { spent = true }) (purge (fragment_0 c.conf.system) s)) (issue c (own_lsp c.conf c.flood.up (s + 1))) (IsNext id k least before)
      (λ last. issued up c (purge (fragment_0 c.conf.system) s) t h low)
      (λ more.
      let own = own_lsp c.conf c.flood.up (s + 1) in
      let n = own_seq c.conf c.flood.up (s + 1) in
      issued up c own t h (subst (λ (x : LspId). number_in c.entries x ≤ own.seq) (sym (own_id c.conf c.flood.up (s + 1))) (omega (arith, low, n))))

  pub unless_next : (up : List Bool) (c : Control) → IsTidy up c.flood → IsNext id k least before c → IsNext id k least before (reissue_unless_spent c)
  unfolding reissue_unless_spent
  unless_next up c t h = cond_both c.spent c (reissue c (seq_of (own_entry_in c))) (IsNext id k least before) (λ spent. h) (λ unspent. reissue_next up c (seq_of (own_entry_in c)) t h (omega arith))

-- ---- an interface that comes up

-- SRM that is set stays set
module _ (up : List Bool) (link : ℕ) (open_ : slice_index_or up link false ≡ true) where
  known_tidy : (f : Flood) (e : Entry) → IsTidy up f → IsTidy up (send_known link f e)
  known_tidy f e t =
      cond_both (nat_lt 0 e.seq) (with_row f e.id (set_srm link true)) f (IsTidy up)
      (λ known. tidy_row up f e.id (set_srm link true) t (keeps_srm f.up link (ap (λ (u : List Bool). slice_index_or u link false) t.up_is ∙ open_)))
      (λ unknown. t)

  -- on the interface
  known_set : (f : Flood) (e : Entry) → IsTidy up f → 0 < e.seq → srm (send_known link f e) e.id link ≡ true
  known_set f e t some =
      ap (λ (b : Bool). srm (if b then with_row f e.id (set_srm link true) else f) e.id link) (lt-ltb 0 e.seq some)
      ∙ srm_set up f e.id t (set_srm link true) link (λ row. refl) (λ row w. set_here row.srm f.up link (ap (λ (u : List Bool). slice_index_or u link false) t.up_is ∙ open_) w.srm_up)

  -- on any interface
  known_stays : (f : Flood) (e : Entry) → IsTidy up f → (id : LspId) (k : ℕ) → srm f id k ≡ true → srm (send_known link f e) id k ≡ true
  known_stays f e t id k set = by (nat_lt 0 e.seq) refl (same_id e.id id) refl (link == k) refl
    where
      by : (a : Bool) → nat_lt 0 e.seq ≡ a → (b : Bool) → same_id e.id id ≡ b → (c : Bool) → (link == k) ≡ c → srm (if a then with_row f e.id (set_srm link true) else f) id k ≡ true
      by false p b q c s = set
      by true p false q c s = srm_other f e.id id (set_srm link true) k (λ row. refl) q ∙ set
      by true p true q true s =
          subst (λ (n : ℕ). srm (with_row f e.id (set_srm link true)) id n ≡ true) (eqb-true link k s)
          (subst (λ (i : LspId). srm (with_row f e.id (set_srm link true)) i link ≡ true) (same_is e.id id q)
          (srm_set up f e.id t (set_srm link true) link (λ row. refl) (λ row w. set_here row.srm f.up link (ap (λ (u : List Bool). slice_index_or u link false) t.up_is ∙ open_) w.srm_up)))
      by true p true q false s =
          subst (λ (i : LspId). srm (with_row f e.id (set_srm link true)) i k ≡ true) (same_is e.id id q)
          (srm_left up f e.id t (set_srm link true) k (λ row. refl) (λ row. set_elsewhere row.srm link k true (eqb-false link k s)) ∙ subst (λ (i : LspId). srm f i k ≡ true) (sym (same_is e.id id q)) set)

  all_stay : (es : List Entry) (f : Flood) → IsTidy up f → (id : LspId) (k : ℕ) → srm f id k ≡ true → srm (fold (send_known link) f es) id k ≡ true
  all_stay [] f t id k set = set
  all_stay (e ∷ es) f t id k set = all_stay es (send_known link f e) (known_tidy f e t) id k (known_stays f e t id k set)

  all_set : (es : List Entry) (f : Flood) → IsTidy up f → (id : LspId) → 0 < number_in es id → srm (fold (send_known link) f es) id link ≡ true
  all_set [] f t id some = absurd (omega (arith, some))
  all_set (e ∷ es) f t id some = by (same_id e.id id) refl some (all_set es (send_known link f e) (known_tidy f e t) id)
    where
      by : (b : Bool) → same_id e.id id ≡ b → 0 < seq_of (if b then Some e else entry_in es id) → (0 < number_in es id → srm (fold (send_known link) (send_known link f e) es) id link ≡ true) → srm (fold (send_known link) (send_known link f e) es) id link ≡ true
      by true p some more = all_stay es (send_known link f e) (known_tidy f e t) id link (subst (λ (i : LspId). srm (send_known link f e) i link ≡ true) (same_is e.id id p) (known_set f e t some))
      by false p some more = more some

-- the interfaces and rows of before, with one interface more
opened_tidy : (own : SystemId) (spent : Bool) (f : Flood) (es : List Entry) (link : ℕ) → Kept own f.up spent f es → IsTidy (slice_set f.up link true) (record f { up = slice_set f.up link true; due = slice_set f.due link true })
opened_tidy own spent f es link k = record {
  up_is = refl;
  rows = each_weaker (IsFlagRow f.up) (IsFlagRow (slice_set f.up link true)) (λ row w. record { srm_up = link_opened row.srm f.up link w.srm_up; ssn_up = link_opened row.ssn f.up link w.ssn_up }) f.rows k.flood.rows;
  in_order = k.flood.in_order;
}

set_opens : (up : List Bool) (link : ℕ) → link < length up → slice_index_or (slice_set up link true) link false ≡ true
set_opens [] link within = absurd (omega (arith, within))
set_opens (b ∷ up) zero within = refl
set_opens (b ∷ up) (suc link) within = set_opens up link (omega (arith, within))

up_owes : (id : LspId) (k least : ℕ) (own : SystemId) (spent : Bool) (f : Flood) (es : List Entry) (link : ℕ) → link < length f.up → Kept own f.up spent f es → OwesIn id k least f es → OwesIn id k least (link_up f es link) es
unfolding link_up
up_owes id k least own spent f es link within kept o open_ more = by (link == k) refl
  where
    g : Flood
    g = record f { up = slice_set f.up link true; due = slice_set f.due link true }

    t : IsTidy g.up g
    t = opened_tidy own spent f es link kept

    by : (b : Bool) → (link == k) ≡ b → srm (fold (send_known link) g es) id k ≡ true
    by true e = subst (λ (n : ℕ). srm (fold (send_known link) g es) id n ≡ true) (eqb-true link k e) (all_set g.up link (set_opens f.up link within) es g t id (omega (arith, more)))
    by false e = all_stay g.up link (set_opens f.up link within) es g t id k (o (sym (set_elsewhere f.up link k true (eqb-false link k e)) ∙ sym (ap (λ (u : List Bool). slice_index_or u k false) (known_up es g)) ∙ open_) more)
      where
        known_up : (xs : List Entry) (h : Flood) → (fold (send_known link) h xs).up ≡ h.up
        known_up [] h = refl
        known_up (x ∷ xs) h = known_up xs (send_known link h x) ∙ cond_both (nat_lt 0 x.seq) (with_row h x.id (set_srm link true)) h (λ (y : Flood). y.up ≡ h.up) (λ p. refl) (λ p. refl)

closed : (up : List Bool) (link k : ℕ) → link ≡ k → slice_index_or (slice_set up link false) k false ≡ false
closed up link k same = subst (λ (n : ℕ). slice_index_or (slice_set up link false) n false ≡ false) same (off up link)
  where
    off : (xs : List Bool) (n : ℕ) → slice_index_or (slice_set xs n false) n false ≡ false
    off [] n = refl
    off (x ∷ xs) zero = refl
    off (x ∷ xs) (suc n) = off xs n

-- ---- a second

second_number : (e : Entry) → (0 < e.seq → 0 < e.life) → (e.life ≡ 1 → ⊥) → seq_of (after_second e) ≡ e.seq
second_number e lives more = by (nat_lt 0 e.life) refl (e.life == 1) refl (nat_le e.hold 1)
  where
    by : (a : Bool) → nat_lt 0 e.life ≡ a → (b : Bool) → (e.life == 1) ≡ b → (c : Bool) → seq_of (aged_to (if a then (if b then Expired else Live) else (if c then Removed else Held)) e) ≡ e.seq
    by true p true q c = absurd (more (eqb-true e.life 1 q))
    by true p false q c = refl
    by false p b q true = let dead = ltb-false 0 e.life p in none e.seq refl dead
      where
        none : (n : ℕ) → e.seq ≡ n → e.life ≤ 0 → 0 ≡ e.seq
        none zero s dead = sym s
        none (suc n) s dead = absurd (let live = lives (omega (arith, s)) in omega (arith, live, dead))
    by false p b q false = refl

lives_on : (e : Entry) → (0 < e.seq → 0 < e.life) → (e.life ≡ 1 → ⊥) → 0 < e.seq → aged e ≡ Live
lives_on e lives more some = by (nat_lt 0 e.life) refl (e.life == 1) refl
  where
    by : (a : Bool) → nat_lt 0 e.life ≡ a → (b : Bool) → (e.life == 1) ≡ b → (if a then (if b then Expired else Live) else (if nat_le e.hold 1 then Removed else Held)) ≡ Live
    by true p true q = absurd (more (eqb-true e.life 1 q))
    by true p false q = refl
    by false p b q = absurd (let live = lives some in let dead = ltb-false 0 e.life p in omega (arith, live, dead))

aged_other : (f : Flood) (x id : LspId) (k : ℕ) (a : Aged) → same_id x id ≡ false → srm (flags_aged f x a) id k ≡ srm f id k
unfolding mark_all forget
aged_other f x id k Expired other = srm_other f x id (λ row. record row { srm = f.up; ssn = no_links f }) k (λ row. refl) other
aged_other f x id k Removed other = srm_same (without_row x f.rows) f.rows id k (gone_for x f.rows id other)
aged_other f x id k rest other = refl

-- an LSP ID whose entry lives on keeps SRM
aged_stays : (id : LspId) (k : ℕ) (es : List Entry) (f : Flood) → AllByRecursion (λ e. same_id e.id id ≡ true → aged e ≡ Live) es → srm f id k ≡ true → srm (fold flood_aged f es) id k ≡ true
aged_stays id k [] f all set = set
aged_stays id k (e ∷ es) f all set = aged_stays id k es (flood_aged f e) all.1 (by (same_id e.id id) refl)
  where
    by : (b : Bool) → same_id e.id id ≡ b → srm (flags_aged f e.id (aged e)) id k ≡ true
    by true s = ap (λ (a : Aged). srm (flags_aged f e.id a) id k) (all.0 s) ∙ set
    by false s = aged_other f e.id id k (aged e) s ∙ set

-- ---- a PDU of a journal is not answered at once

-- only a purge is, and a journal has none
pub lsp_silent : (f : Flood) (es : List Entry) (link : ℕ) (h : Head) (tlvs : List ℕ) (spent : Bool) → (0 < h.seq → 0 < h.life) → (s : Summary) → (on_lsp f es link h tlvs spent).answer ≡ out.Ack s → ⊥
unfolding on_lsp
lsp_silent f es link h tlvs spent lives s = by (age_of (entry_in es h.id) (head_summary h))
  where
    aged_never : 0 < h.seq → (age : Age) → (lsp_aged f es link h tlvs age).answer ≡ out.Ack s → ⊥
    aged_never some Unknown =
        cond_both (h.life == 0) (only_says f es (out.Ack (head_summary h))) (if is_full es then only_says f es out.Full else stores f es link (kept h tlvs)) (λ a. a.answer ≡ out.Ack s → ⊥)
        (λ dead e. (let none = eqb-true h.life 0 dead in let live = lives some in absurd (omega (arith, none, live))))
        (λ live. cond_both (is_full es) (only_says f es out.Full) (stores f es link (kept h tlvs)) (λ a. a.answer ≡ out.Ack s → ⊥) (λ full e. cc) (λ room e. cc))
    aged_never some other = λ e. cc

    by : (age : Age) → (lsp_in f es link h tlvs spent age).answer ≡ out.Ack s → ⊥
    by age =
        let strays : LspAnswer = if is_unknown age && is_full es then only_says f es out.Full else puts_marked f es (purge h.id h.seq) in
        let rest : LspAnswer = if is_unheld_own f h age then strays else lsp_aged f es link h tlvs age in
        cond_both (h.seq == 0) (only_says f es out.Zero) (if is_own_ahead f h.id spent age then only_says f es (out.Reissue h.seq) else rest) (λ a. a.answer ≡ out.Ack s → ⊥)
        (λ none e. cc)
        (λ some. cond_both (is_own_ahead f h.id spent age) (only_says f es (out.Reissue h.seq)) rest (λ a. a.answer ≡ out.Ack s → ⊥)
        (λ own e. cc)
        (λ other. cond_both (is_unheld_own f h age) strays (lsp_aged f es link h tlvs age) (λ a. a.answer ≡ out.Ack s → ⊥)
        (λ stray. cond_both (is_unknown age && is_full es) (only_says f es out.Full) (puts_marked f es (purge h.id h.seq)) (λ a. a.answer ≡ out.Ack s → ⊥) (λ full e. cc) (λ room e. cc))
        (λ held. aged_never (let n : h.seq ≡ 0 → ⊥ = eqb-false h.seq 0 some in omega (arith, n)) age)))

pub pdu_silent : (c : Control) (link : ℕ) (p : Pdu) (journal : LspId → ℕ → Entry) → IsPduOfJournal journal p → (on_pdu c link p).sent ≡ []
unfolding on_pdu
pdu_silent c link (LspPdu h tlvs) journal says = by (on_lsp c.flood c.entries link h tlvs c.spent).answer (lsp_silent c.flood c.entries link h tlvs c.spent says.live)
  where
    by : (x : FloodOut) → ((s : Summary) → x ≡ out.Ack s → ⊥) → (answer_lsp (record c { flood = (on_lsp c.flood c.entries link h tlvs c.spent).flood; entries = (on_lsp c.flood c.entries link h tlvs c.spent).entries }) x).sent ≡ []
    by out.Kept never = refl
    by (out.Reissue s) never = refl
    by (out.Ack s) never = absurd (never s refl)
    by out.Full never = refl
    by out.Zero never = refl
pdu_silent c link other journal says = refl

-- ---- PDUs

module _ (id : LspId) (k least : ℕ) (c : Control) (r : IsRouter c) (o : OwesIn id k least c.flood c.entries) where
  same_next : IsNext id k least c.entries c
  same_next = record { numbers = λ i. omega arith; owes = o }

  pub tidy : IsTidy c.flood.up c.flood
  tidy = tidy_of c.conf.system c.flood.up c.spent c.flood c.entries (kept_of c r)

  module _ (link : ℕ) (up : is_up c link ≡ true) where
    lsp_next : (h : Head) (tlvs : List ℕ) → (link ≡ k → h.id ≡ id → h.seq ≤ least) → IsNext id k least c.entries (lsp_done c (on_lsp c.flood c.entries link h tlvs c.spent)).control
    lsp_next h tlvs behind = by a.answer refl
      where
        a : LspAnswer
        a = on_lsp c.flood c.entries link h tlvs c.spent

        d : Control
        d = record c { flood = a.flood; entries = a.entries }

        done : IsNext id k least c.entries d
        done = record {
          numbers = λ i. stays_number (entry_in c.entries i) (entry_in a.entries i) ((lsp_keeps c.flood c.entries link h tlvs c.spent).entries.each i);
          owes = (lsp_owes id k least c.flood.up c.flood tidy c.entries o link h tlvs behind c.spent).owes;
        }

        by : (x : FloodOut) → a.answer ≡ x → IsNext id k least c.entries (answer_lsp d x).control
        by out.Kept e = done
        by (out.Reissue s) e =
            let told = lsp_owes id k least c.flood.up c.flood tidy c.entries o link h tlvs behind c.spent in
            let low : number_in a.entries (fragment_0 c.conf.system) ≤ s = subst (λ (x : SystemId). number_in a.entries (fragment_0 x) ≤ s) r.control.own (told.asked s e) in
            reissue_next id k least c.entries c.flood.up d s (subst (IsTidy c.flood.up) (sym (told.same s e)) tidy) done low
        by (out.Ack s) e = done
        by out.Full e = done
        by out.Zero e = done

    listed_next : (a : SnpAnswer) → SnpOwes id k least c.conf.system c.flood.up c.entries a → IsNext id k least c.entries (snp_done c a).control
    listed_next a t = by a.answer.reissue refl
      where
        d : Control
        d = record c { flood = a.flood; entries = a.entries }

        done : IsNext id k least c.entries d
        done = record { numbers = λ i. (let n = t.numbers i in omega (arith, n)); owes = t.owes }

        by : (x : Option ℕ) → a.answer.reissue ≡ x → IsNext id k least c.entries (reissue_if d x)
        by None e = done
        by (Some s) e = reissue_next id k least c.entries c.flood.up d s t.tidy done (let n = t.numbers (fragment_0 c.conf.system) in let low = t.asked s e in omega (arith, n, low))

    behind_of : (most : LspId → ℕ) → (link ≡ k → most id ≤ least) → (x : LspId) (n : ℕ) → n ≤ most x → link ≡ k → x ≡ id → n ≤ least
    behind_of most low x n within at is =
        let m : n ≤ most id = subst (λ (i : LspId). n ≤ most i) is within in
        let l = low at in
        omega (arith, m, l)

    pub pdu_next : (p : Pdu) (most : LspId → ℕ) → IsWithin most p → (link ≡ k → most id ≤ least) → IsNext id k least c.entries (on_pdu c link p).control
    unfolding on_pdu
    pdu_next (LspPdu h tlvs) most within low = lsp_next h tlvs (behind_of most low h.id h.seq within)
    pdu_next (CsnpPdu source start last tlvs) most within low =
        listed_next (on_csnp c.flood c.entries link start last tlvs c.spent)
        (csnp_owes id k least c.conf.system c.flood.up c.entries link up c.spent c.flood start last tlvs
        (each_weaker (λ (s : Summary). s.seq ≤ most s.id) (λ (s : Summary). link ≡ k → s.id ≡ id → s.seq ≤ least) (λ s. behind_of most low s.id s.seq) (rows_of tlvs) within) tidy r.control.own o)
    pdu_next (PsnpPdu source tlvs) most within low =
        listed_next (on_psnp c.flood c.entries link tlvs c.spent)
        (psnp_owes id k least c.conf.system c.flood.up c.entries link up c.spent c.flood tlvs
        (each_weaker (λ (s : Summary). s.seq ≤ most s.id) (λ (s : Summary). link ≡ k → s.id ≡ id → s.seq ≤ least) (λ s. behind_of most low s.id s.seq) (rows_of tlvs) within) tidy r.control.own o)
    pdu_next other most within low = same_next

  -- ---- an interface

  pub down_next : (link : ℕ) → IsNext id k least c.entries (end_down c link).control
  unfolding end_down link_down
  down_next link =
      let f = link_down c.flood link in
      unless_next id k least c.entries (slice_set c.flood.up link false) (record c { flood = f })
      (tidy_of c.conf.system (slice_set c.flood.up link false) c.spent f c.entries (down_kept c.conf.system c.flood.up c.spent c.flood c.entries link (kept_of c r)))
      (record { numbers = λ i. omega arith; owes = λ open_ more. by (link == k) refl open_ more })
    where
      by : (b : Bool) → (link == k) ≡ b → slice_index_or (slice_set c.flood.up link false) k false ≡ true → least < number_in c.entries id → srm_in (map (clear_both link) c.flood.rows) id k ≡ true
      by true e open_ more = absurd (false≢true (sym (closed c.flood.up link k (eqb-true link k e)) ∙ open_))
      by false e open_ more =
          srm_mapped (clear_both link) (λ row. refl) c.flood.rows id k (λ row. set_elsewhere row.srm link k false (eqb-false link k e))
          ∙ o (sym (set_elsewhere c.flood.up link k false (eqb-false link k e)) ∙ open_) more

  pub up_next : (link : ℕ) → link < length c.flood.up → IsNext id k least c.entries (end_up c link).control
  unfolding end_up
  up_next link within =
      let f = link_up c.flood c.entries link in
      let kept = up_kept c.conf.system c.flood.up c.spent c.flood c.entries link (kept_of c r) within in
      unless_next id k least c.entries (slice_set c.flood.up link true) (record c { flood = f })
      (tidy_of c.conf.system (slice_set c.flood.up link true) c.spent f c.entries kept)
      (record { numbers = λ i. omega arith; owes = opened_owes })
    where
      opened_owes : OwesIn id k least (link_up c.flood c.entries link) c.entries
      opened_owes = up_owes id k least c.conf.system c.spent c.flood c.entries link within (kept_of c r) o

  pub sent_next : (link : ℕ) → IsNext id k least c.entries (send c link).control
  unfolding send sent_on
  sent_next link = record { numbers = λ i. omega arith; owes = λ open_ more. srm_mapped (clear_ssn link) (λ row. refl) c.flood.rows id k (λ row. refl) ∙ o open_ more }

  -- ---- a second

  -- no LSP ends: each with a sequence number is live, and is so after the second
  module _ (lives : AllByRecursion (λ e. 0 < e.seq → 0 < e.life) c.entries) (goes_on : AllByRecursion (λ e. e.life ≡ 1 → ⊥) c.entries) where
    numbers_aged : (i : LspId) → number_in (filter_map after_second c.entries) i ≡ number_in c.entries i
    numbers_aged i = ap seq_of (entry_aged c.entries i r.control.entries.in_order) ∙ by (entry_in c.entries i) refl
      where
        by : (x : Option Entry) → entry_in c.entries i ≡ x → seq_of (option_and_then after_second x) ≡ seq_of x
        by None e = refl
        by (Some x) e = second_number x (found_each (λ e. 0 < e.seq → 0 < e.life) c.entries i x lives e) (found_each (λ e. e.life ≡ 1 → ⊥) c.entries i x goes_on e)

    aged_next : IsNext id k least c.entries (aged_all c)
    unfolding aged_all
    aged_next = record { numbers = λ i. (let n = numbers_aged i in omega (arith, n)); owes = λ open_ more. marked open_ (let n = numbers_aged id in omega (arith, n, more)) }
      where
        kept : Kept c.conf.system c.flood.up true (fold flood_aged c.flood c.entries) (filter_map after_second c.entries)
        kept = all_aged c.conf.system c.flood.up c.spent c.flood c.entries (kept_of c r)

        marked : slice_index_or (fold flood_aged c.flood c.entries).up k false ≡ true → least < number_in c.entries id → srm (fold flood_aged c.flood c.entries) id k ≡ true
        marked open_ more =
            aged_stays id k c.entries c.flood
            (each_weaker (λ e. ((0 < e.seq → 0 < e.life) × (e.life ≡ 1 → ⊥)) × (entry_in c.entries e.id ≡ Some e)) (λ e. same_id e.id id ≡ true → aged e ≡ Live) (λ e h same. lives_on e h.0.0 h.0.1 (some e same h.1)) c.entries
            (each_both (λ e. (0 < e.seq → 0 < e.life) × (e.life ≡ 1 → ⊥)) (λ e. entry_in c.entries e.id ≡ Some e) c.entries (each_both (λ e. 0 < e.seq → 0 < e.life) (λ e. e.life ≡ 1 → ⊥) c.entries lives goes_on) (each_is_found c.entries r.control.entries.in_order)))
            (o (ap (λ (u : List Bool). slice_index_or u k false) (sym kept.up_is) ∙ open_) more)
          where
            some : (e : Entry) → same_id e.id id ≡ true → entry_in c.entries e.id ≡ Some e → 0 < e.seq
            some e same found =
                let n : number_in c.entries id ≡ e.seq = ap (λ (i : LspId). number_in c.entries i) (sym (same_is e.id id same)) ∙ ap seq_of found in
                omega (arith, n, more)

    aged_tidy : IsTidy c.flood.up (aged_all c).flood
    unfolding aged_all
    aged_tidy = tidy_of c.conf.system c.flood.up true (fold flood_aged c.flood c.entries) (filter_map after_second c.entries) (all_aged c.conf.system c.flood.up c.spent c.flood c.entries (kept_of c r))

    pub tick_next : IsNext id k least c.entries (tick c).control
    unfolding tick
    tick_next =
        cond_both (is_stale (own_entry_in (aged_all c))) (reissue (aged_all c) (seq_of (own_entry_in (aged_all c)))) (aged_all c) (IsNext id k least c.entries)
        (λ stale. reissue_next id k least c.entries c.flood.up (aged_all c) (seq_of (own_entry_in (aged_all c))) aged_tidy aged_next (omega arith))
        (λ fresh. aged_next)

  -- ---- labels and members

  changed_next : (conf : RouterConf) → IsNext id k least c.entries (reissue_unless_spent (record c { conf = conf }))
  changed_next conf = unless_next id k least c.entries c.flood.up (record c { conf = conf }) tidy (record { numbers = λ i. omega arith; owes = o })

  pub relabel_next : (sd : ℕ) (bsl : Bsl) (label : ℕ) → IsNext id k least c.entries (relabel c sd bsl label).control
  unfolding relabel
  relabel_next sd bsl label = changed_next (relabelled c.conf sd bsl label)

  pub leave_next : (sd : ℕ) → IsNext id k least c.entries (leave c sd).control
  unfolding leave
  leave_next sd = changed_next (left c.conf sd)

  pub join_next : (sd : ℕ) → IsNext id k least c.entries (join c sd).control
  unfolding join
  join_next sd = changed_next (rejoined c.conf sd)
