-- What stands in the LSDB for the router's own system and is live, the router issued as it is now: kept by every event.
use Rattle.std.proofs.Common.{◌≡◌, ◌∙◌, ℕ, ◌+◌, ◌-◌, ◌<◌, set, ◌==◌, ◌&&◌, ◌||◌, not, nat_lt, nat_le, Bool, true, false, List, [], ◌∷◌, Option, Some, None, if◌then◌else◌, refl, sym, ap, subst, arith}
use Rattle.std.specs.Prelude.{option_and_then}
use Rattle.std.proofs.lemmas.Bool.{false≢true, true≢false, eqb-true}
use Rattle.std.proofs.lemmas.Bool.Decides.{nat_tests}
use Rattle.std.specs.List.{fold, filter_map}
use Rattle.wire_base.specs.declared.addresses.LspId.{LspId}
use Rattle.wire_base.specs.declared.addresses.SystemId.{SystemId}
use Rattle.wire_base.specs.declared.conf.RouterConf.{RouterConf}
use Rattle.wire_base.specs.declared.entry.Age.{Age}
use Rattle.wire_base.specs.declared.entry.Age.TheVariants.{Unknown, Newer, Equal, Older, Confused}
use Rattle.wire_base.specs.declared.entry.Aged.TheVariants.{Live, Expired, Held, Removed}
use Rattle.wire_base.specs.declared.entry.Entry.{Entry}
use Rattle.wire_base.specs.declared.flood_out.FloodOut.{FloodOut}
use Rattle.wire_base.specs.declared.flood_out.FloodOut.TheVariants as out
use Rattle.wire_base.specs.declared.triple.Summary.{Summary}
use Rattle.wire_base.specs.model.Control.{Flood, AreAscending, ids_of, same_id, same_system, fragment_0, entry_in, put_entry, purge, age_of, is_unknown, is_newer_or_confused, is_full, seq_of, aged_to, after_second}
use Rattle.wire_base.specs.model.Flooding.{LspAnswer, SnpAnswer, only_says, puts_marked, kept, lsp_aged, is_own_ahead, is_unheld_own, lsp_in, on_lsp, wanted, is_live_summary, listed_aged, on_listed, on_list, mark_all, last_sequence, started, new_flood, link_up, link_down, sent_on, send_known, set_srm, with_row, flood_aged}
use Rattle.wire_base.specs.model.OwnLsp.{own_lsp}
use Rattle.wire_base.specs.model.Pdu.{Head, head_summary}
use Rattle.router_core.specs.Own.{own_past, spent_past}
use Rattle.router_core.specs.Aging.{is_near}
use Rattle.router_core.specs.Received.{list_taken}
use Rattle.laws_router.specs.State.{IsIssued, AreIssued, IsRouter, control_of}
use Rattle.laws_router.proofs.EntryLaws.{put_reads, id_self, bytes_self}
use Rattle.wire_base.proofs.OrderLaws.{same_is}
use Rattle.router_core.proofs.EventLaws.{aged_reads}
use Rattle.router_core.proofs.OwnLaws.{past_id, kept_of}
use Rattle.laws_router.proofs.StateLaws.{all_aged}

some_is : (a b : Entry) → Some a ≡ Some b → a ≡ b
some_is a b q = cc

-- ---- an entry that is put

module _ (r : RouterConf) (up : List Bool) (spent : Bool) where
  pub put_issued : (e : Entry) (es : List Entry) → AreIssued r up spent es → (0 < e.life → same_system e.id.system r.system ≡ true → IsIssued r up spent e.id e) → AreIssued r up spent (put_entry e es)
  put_issued e es all new = record { each = λ id x there live own. cases id x live own (same_id e.id id) refl (sym (put_reads e es id) ∙ there) }
    where
      cases : (id : LspId) (x : Entry) → 0 < x.life → same_system id.system r.system ≡ true → (b : Bool) → same_id e.id id ≡ b → (if b then Some e else entry_in es id) ≡ Some x → IsIssued r up spent id x
      cases id x live own true same there =
          let is : e ≡ x = some_is e x there in
          let at : e.id ≡ id = same_is e.id id same in
          subst (λ (i : LspId). IsIssued r up spent i x) at
          (subst (λ (y : Entry). IsIssued r up spent e.id y) is
          (new (let P : Entry → Type 0 = λ y. 0 < y.life in subst P (sym is) live) (ap (λ (i : LspId). same_system i.system r.system) at ∙ own)))
      cases id x live own false same there = all.each id x there live own

  pub dead_issued : (e : Entry) (es : List Entry) → AreIssued r up spent es → e.life ≡ 0 → AreIssued r up spent (put_entry e es)
  dead_issued e es all dead = put_issued e es all (λ live own. absurd (omega (arith, live, dead)))

-- ---- the own LSP

past_new : (r : RouterConf) (up : List Bool) (spent : Bool) (s : ℕ) (id : LspId) (x : Entry) → spent ≡ false → id ≡ fragment_0 r.system → own_past r up s ≡ x → 0 < x.life → IsIssued r up (spent_past spent s) id x
unfolding own_past own_lsp
past_new r up spent s id x unspent at is live = by (s == last_sequence) refl is
  where
    by : (b : Bool) → (s == last_sequence) ≡ b → (if b then purge (fragment_0 r.system) s else own_lsp r up (s + 1)) ≡ x → IsIssued r up (spent || (s == last_sequence)) id x
    by true q is = absurd (let dead : 0 ≡ x.life = ap (λ (e : Entry). e.life) is in omega (arith, live, dead))
    by false q is =
        record {
          unspent = ap (λ (b : Bool). b || (s == last_sequence)) unspent ∙ q;
          fragment = at;
          flags = sym (ap (λ (e : Entry). e.flags) is);
          content = sym (ap (λ (e : Entry). e.content) is);
        }

-- what is live of the own system is its fragment 0
abbrev pub IsFragmentAlone : SystemId → List Entry → Type 0
IsFragmentAlone system es = (id : LspId) (x : Entry) → entry_in es id ≡ Some x → 0 < x.life → same_system id.system system ≡ true → id ≡ fragment_0 system

fragment_alone : (r : RouterConf) (up : List Bool) (spent : Bool) (es : List Entry) → AreIssued r up spent es → IsFragmentAlone r.system es
fragment_alone r up spent es all = λ id x there live own. (all.each id x there live own).fragment

-- in whose place the new one stands
past_issued : (r : RouterConf) (up : List Bool) (spent : Bool) (s : ℕ) (es : List Entry) → spent ≡ false → IsFragmentAlone r.system es → AreIssued r up (spent_past spent s) (put_entry (own_past r up s) es)
past_issued r up spent s es unspent alone =
    record { each = λ id x there live own. cases id x live own (same_id (own_past r up s).id id) refl (sym (put_reads (own_past r up s) es id) ∙ there) }
  where
    cases : (id : LspId) (x : Entry) → 0 < x.life → same_system id.system r.system ≡ true → (b : Bool) → same_id (own_past r up s).id id ≡ b → (if b then Some (own_past r up s) else entry_in es id) ≡ Some x → IsIssued r up (spent_past spent s) id x
    cases id x live own true same there = past_new r up spent s id x unspent (sym (same_is (own_past r up s).id id same) ∙ past_id r up s) (some_is (own_past r up s) x there) live
    cases id x live own false same there =
        absurd (true≢false (sym (ap (λ (i : LspId). same_id i id) (past_id r up s) ∙ ap (λ (i : LspId). same_id i id) (sym (alone id x there live own)) ∙ id_self id) ∙ same))

-- ---- an LSP

module _ (r : RouterConf) (up : List Bool) (spent : Bool) (f : Flood) (es : List Entry) (system : f.own ≡ r.system) (all : AreIssued r up spent es) where
  lsp_if : (b : Bool) (x y : LspAnswer) → AreIssued r up spent x.entries → AreIssued r up spent y.entries → AreIssued r up spent (if b then x else y).entries
  lsp_if true x y h k = h
  lsp_if false x y h k = k

  module _ (link : ℕ) (h : Head) (tlvs : List ℕ) where
    -- what is stored is dead, or of another system
    stored : (age : Age) → (is_unknown age || is_newer_or_confused age) ≡ true → is_unheld_own f h age ≡ false → AreIssued r up spent (put_entry (kept h tlvs) es)
    stored age new stray = put_issued r up spent (kept h tlvs) es all (λ live own. absurd (by (h.life == 0) (nat_lt 0 h.life) refl refl live own))
      where
        ours : same_system h.id.system r.system ≡ true → same_system h.id.system f.own ≡ true
        ours own = ap (λ (o : SystemId). same_system h.id.system o) system ∙ own

        by : (dead live : Bool) → (h.life == 0) ≡ dead → nat_lt 0 h.life ≡ live
            → 0 < (if dead then purge h.id h.seq else record { id = h.id; seq = h.seq; life = h.life; hold = 0; sum = h.sum; flags = h.flags; content = tlvs }).life
            → same_system (if dead then purge h.id h.seq else record { id = h.id; seq = h.seq; life = h.life; hold = 0; sum = h.sum; flags = h.flags; content = tlvs }).id.system r.system ≡ true → ⊥
        by true live p q lt own = omega (arith, lt)
        by false true p q lt own =
            true≢false (sym (ap (λ (b : Bool). b && (nat_lt 0 h.life && (is_unknown age || is_newer_or_confused age))) (ours own) ∙ ap (λ (b : Bool). b && (is_unknown age || is_newer_or_confused age)) q ∙ new) ∙ stray)
        by false false p q lt own = grind (arith, nat_tests)

    aged_issued : (age : Age) → is_unheld_own f h age ≡ false → AreIssued r up spent (lsp_aged f es link h tlvs age).entries
    aged_issued Unknown stray = lsp_if (h.life == 0) _ _ all (lsp_if (is_full es) _ _ all (stored Unknown refl stray))
    aged_issued Newer stray = stored Newer refl stray
    aged_issued Confused stray = dead_issued r up spent (purge h.id h.seq) es all refl
    aged_issued Equal stray = all
    aged_issued Older stray = all

    pub lsp_issued : AreIssued r up spent (on_lsp f es link h tlvs spent).entries
    unfolding on_lsp
    lsp_issued = by (age_of (entry_in es h.id) (head_summary h))
      where
        by : (age : Age) → AreIssued r up spent (lsp_in f es link h tlvs spent age).entries
        by age = cases (is_unheld_own f h age) refl
          where
            cases : (stray : Bool) → is_unheld_own f h age ≡ stray
                → AreIssued r up spent (if h.seq == 0 then only_says f es out.Zero else if is_own_ahead f h.id spent age then only_says f es (out.Reissue h.seq) else if stray then (if is_unknown age && is_full es then only_says f es out.Full else puts_marked f es (purge h.id h.seq)) else lsp_aged f es link h tlvs age).entries
            cases true q = lsp_if (h.seq == 0) _ _ all (lsp_if (is_own_ahead f h.id spent age) _ _ all (lsp_if (is_unknown age && is_full es) _ _ all (dead_issued r up spent (purge h.id h.seq) es all refl)))
            cases false q = lsp_if (h.seq == 0) _ _ all (lsp_if (is_own_ahead f h.id spent age) _ _ all (aged_issued age q))

-- ---- sequence numbers PDUs

module _ (r : RouterConf) (up : List Bool) (spent : Bool) (link : ℕ) where
  snp_if : (b : Bool) (x y : SnpAnswer) → AreIssued r up spent x.entries → AreIssued r up spent y.entries → AreIssued r up spent (if b then x else y).entries
  snp_if true x y h k = h
  snp_if false x y h k = k

  by_age : (a : SnpAnswer) (s : Summary) (age : Age) → AreIssued r up spent a.entries → AreIssued r up spent (listed_aged a link s spent age).entries
  by_age a s Unknown all = snp_if (is_live_summary s) _ _ (snp_if (is_full a.entries) _ _ all (dead_issued r up spent (wanted s) a.entries all refl)) all
  by_age a s Newer all = all
  by_age a s Equal all = all
  by_age a s Older all = all
  by_age a s Confused all = snp_if (same_id s.id (fragment_0 a.flood.own) && not spent) _ _ all (dead_issued r up spent (purge s.id s.seq) a.entries all refl)

  listed_issued : (a : SnpAnswer) (s : Summary) → AreIssued r up spent a.entries → AreIssued r up spent (on_listed link spent a s).entries
  unfolding on_listed
  listed_issued a s all = snp_if (s.seq == 0) _ _ (snp_if (nat_lt 0 (seq_of (entry_in a.entries s.id))) _ _ all all) (by_age a s (age_of (entry_in a.entries s.id) s) all)

  pub rows_issued : (rows : List Summary) (a : SnpAnswer) → AreIssued r up spent a.entries → AreIssued r up spent (fold (on_listed link spent) a rows).entries
  rows_issued [] a all = all
  rows_issued (s ∷ rows) a all = rows_issued rows (on_listed link spent a s) (listed_issued a s all)

  pub list_issued : (f : Flood) (es : List Entry) (range : Option (LspId × LspId)) (rows : List Summary) → AreIssued r up spent es → AreIssued r up spent (list_taken f es link range rows spent).entries
  unfolding on_list
  list_issued f es None rows all = rows_issued rows (record { flood = f; entries = es; answer = record { reissue = None; full = 0 } }) all
  list_issued f es (Some range) rows all = rows_issued rows (record { flood = f; entries = es; answer = record { reissue = None; full = 0 } }) all

-- ---- a second

-- what is live after a second was live before, and is the same but for its life
pub record IsStill (e x : Entry) : Type 0 where
  pub live : 0 < e.life
  pub flags : x.flags ≡ e.flags
  pub content : x.content ≡ e.content

still : (e x : Entry) → after_second e ≡ Some x → 0 < x.life → IsStill e x
still e x is lives = cases (nat_lt 0 e.life) (e.life == 1) (nat_le e.hold 1) refl is
  where
    same : (y : Entry) → Some y ≡ Some x → y ≡ x
    same y q = some_is y x q

    cases : (live last gone : Bool) → nat_lt 0 e.life ≡ live → aged_to (if live then (if last then Expired else Live) else (if gone then Removed else Held)) e ≡ Some x → IsStill e x
    cases true true gone p q = absurd (let dead : 0 ≡ x.life = ap (λ (y : Entry). y.life) (same (purge e.id e.seq) q) in omega (arith, dead, lives))
    cases true false gone p q =
        let at = same (record e { life = e.life - 1 }) q in
        record { live = grind (arith, nat_tests); flags = sym (ap (λ (y : Entry). y.flags) at); content = sym (ap (λ (y : Entry). y.content) at) }
    cases false last true p q = cc
    cases false last false p q =
        let at : e.life ≡ x.life = ap (λ (y : Entry). y.life) (same (record e { hold = e.hold - 1 }) q) in
        absurd (grind (arith, nat_tests))

pub second_issued : (r : RouterConf) (up : List Bool) (spent : Bool) (es : List Entry) → AreAscending (ids_of es) → AreIssued r up spent es → AreIssued r up spent (filter_map after_second es)
second_issued r up spent es asc all = record { each = λ id x there live own. read id x live own (entry_in es id) refl (sym (aged_reads es id asc) ∙ there) }
  where
    read : (id : LspId) (x : Entry) → 0 < x.life → same_system id.system r.system ≡ true → (o : Option Entry) → entry_in es id ≡ o → option_and_then after_second o ≡ Some x → IsIssued r up spent id x
    read id x live own None at q = cc
    read id x live own (Some e) at q =
        let s = still e x q live in
        let old = all.each id e at s.live own in
        record { unspent = old.unspent; fragment = old.fragment; flags = s.flags ∙ old.flags; content = s.content ∙ old.content }

-- ---- a start

pub none_issued : (r : RouterConf) (up : List Bool) (spent : Bool) → AreIssued r up spent []
none_issued r up spent = record { each = λ id e there live own. cc }

-- ---- of what the code makes

-- the own LSP was made for the ends that are up now, and is put
pub issued_over : (r : RouterConf) (ups up : List Bool) (spent now : Bool) (s : ℕ) (own : Entry) (es es' : List Entry) → own ≡ own_past r ups s → es' ≡ put_entry own es → now ≡ spent_past spent s → spent ≡ false → ups ≡ up → IsFragmentAlone r.system es → AreIssued r up now es'
issued_over r ups up spent now s own es es' is put now_is unspent ups_are alone =
    let one : AreIssued r ups (spent_past spent s) (put_entry (own_past r ups s) es) = past_issued r ups spent s es unspent alone in
    let two : AreIssued r ups (spent_past spent s) es' = subst (λ (l : List Entry). AreIssued r ups (spent_past spent s) l) (sym (put ∙ ap (λ (e : Entry). put_entry e es) is)) one in
    let three : AreIssued r ups now es' = subst (λ (b : Bool). AreIssued r ups b es') (sym now_is) two in
    subst (λ (u : List Bool). AreIssued r u now es') ups_are three

-- of a router whose configuration is the same
pub issued_now : (r : RouterConf) (ups up before_up : List Bool) (before spent now : Bool) (s : ℕ) (own : Entry) (es es' : List Entry) → own ≡ own_past r ups s → es' ≡ put_entry own es → now ≡ spent_past spent s → spent ≡ false → ups ≡ up → AreIssued r before_up before es → AreIssued r up now es'
issued_now r ups up before_up before spent now s own es es' is put now_is unspent ups_are all = issued_over r ups up spent now s own es es' is put now_is unspent ups_are (fragment_alone r before_up before es all)

pub marked_up : (f : Flood) (id : LspId) → (mark_all f id).up ≡ f.up
unfolding mark_all
marked_up f id = refl

pub started_issued : (r : RouterConf) (up : List Bool) (f : Flood) (es : List Entry) → es ≡ (started r up).entries → f ≡ (started r up).flood → AreIssued r f.up false es
unfolding started own_past own_lsp new_flood
started_issued r up f es entries flood =
    issued_now r up f.up up true false false 0 (own_past r up 0) [] es refl entries refl refl (sym (ap (λ (x : Flood). x.up) flood ∙ marked_up (new_flood r.system up) (own_past r up 0).id ∙ fresh)) (none_issued r up true)
  where
    fresh : (new_flood r.system up).up ≡ up
    fresh = refl

known_up : (link : ℕ) (f : Flood) (ys : List Entry) → (fold (send_known link) f ys).up ≡ f.up
known_up link f [] = refl
known_up link f (y ∷ ys) = known_up link (send_known link f y) ys ∙ by (nat_lt 0 y.seq)
  where
    by : (b : Bool) → (if b then with_row f y.id (set_srm link true) else f).up ≡ f.up
    by true = refl
    by false = refl

up_up : (f : Flood) (es : List Entry) (link : ℕ) → (link_up f es link).up ≡ set f.up link true
unfolding link_up
up_up f es link = known_up link (record f { up = set f.up link true; due = set f.due link true }) es

down_up : (f : Flood) (link : ℕ) → (link_down f link).up ≡ set f.up link false
unfolding link_down
down_up f link = refl

sent_up : (f : Flood) (link : ℕ) → (sent_on f link).up ≡ f.up
unfolding sent_on
sent_up f link = refl

module _ (r : RouterConf) (f : Flood) (es : List Entry) (spent : Bool) (k : IsRouter (control_of r f es spent)) (all : AreIssued r f.up spent es) where
  pub sent_issued : (link : ℕ) (f' : Flood) → f' ≡ sent_on f link → AreIssued r f'.up spent es
  sent_issued link f' is = subst (λ (u : List Bool). AreIssued r u spent es) (sym (ap (λ (x : Flood). x.up) is ∙ sent_up f link)) all

  -- one that is spent has none, whichever ends are up
  pub spent_issued : spent ≡ true → (ups : List Bool) → AreIssued r ups spent es
  spent_issued is ups = record { each = λ id x there live own. absurd (true≢false (sym is ∙ (all.each id x there live own).unspent)) }

  module _ (s : ℕ) (ups : List Bool) (own : Entry) (is : own ≡ own_past r ups s) (f' : Flood) (es' : List Entry) (now : Bool) (now_is : now ≡ spent_past spent s) where
    pub reissued_issued : f' ≡ mark_all f own.id → es' ≡ put_entry own es → spent ≡ false → ups ≡ f.up → AreIssued r f'.up now es'
    reissued_issued marked put unspent links = issued_now r ups f'.up f.up spent spent now s own es es' is put now_is unspent (links ∙ sym (ap (λ (x : Flood). x.up) marked ∙ marked_up f own.id)) all

    pub up_issued : (link : ℕ) → f' ≡ mark_all (link_up f es link) own.id → es' ≡ put_entry own es → spent ≡ false → ups ≡ set f.up link true → AreIssued r f'.up now es'
    up_issued link marked put unspent links = issued_now r ups f'.up f.up spent spent now s own es es' is put now_is unspent (links ∙ sym (ap (λ (x : Flood). x.up) marked ∙ marked_up (link_up f es link) own.id ∙ up_up f es link)) all

    pub down_issued : (link : ℕ) → f' ≡ mark_all (link_down f link) own.id → es' ≡ put_entry own es → spent ≡ false → ups ≡ set f.up link false → AreIssued r f'.up now es'
    down_issued link marked put unspent links = issued_now r ups f'.up f.up spent spent now s own es es' is put now_is unspent (links ∙ sym (ap (λ (x : Flood). x.up) marked ∙ marked_up (link_down f link) own.id ∙ down_up f link)) all

    pub tick_reissued : is_near (entry_in es (fragment_0 r.system)) ≡ true → f' ≡ mark_all (fold flood_aged f es) own.id → es' ≡ put_entry own (filter_map after_second es) → ups ≡ f.up → AreIssued r f'.up now es'
    tick_reissued near marked put links =
        issued_now r ups f'.up f.up spent spent now s own (filter_map after_second es) es' is put now_is (unspent (entry_in es (fragment_0 r.system)) refl near)
        (links ∙ sym (ap (λ (x : Flood). x.up) marked ∙ marked_up (fold flood_aged f es) own.id ∙ (all_aged r.system f.up spent f es (kept_of (control_of r f es spent) k)).up_is))
        (second_issued r f.up spent es k.control.entries.in_order all)
      where
        unspent : (o : Option Entry) → entry_in es (fragment_0 r.system) ≡ o → is_near o ≡ true → spent ≡ false
        unspent None at h = absurd (false≢true h)
        unspent (Some e) at h = (all.each (fragment_0 r.system) e at (let n : e.life ≡ 301 = eqb-true e.life 301 h in omega (arith, n)) (bytes_self r.system.0)).unspent

  pub tick_issued : (f' : Flood) (es' : List Entry) → f' ≡ fold flood_aged f es → es' ≡ filter_map after_second es → AreIssued r f'.up spent es'
  tick_issued f' es' flood entries =
      subst (λ (u : List Bool). AreIssued r u spent es') (sym (ap (λ (x : Flood). x.up) flood ∙ (all_aged r.system f.up spent f es (kept_of (control_of r f es spent) k)).up_is))
      (subst (λ (l : List Entry). AreIssued r f.up spent l) (sym entries) (second_issued r f.up spent es k.control.entries.in_order all))

  pub taken_issued : (link : ℕ) (h : Head) (tlvs : List ℕ) (f' : Flood) (es' : List Entry) (answer : FloodOut) → on_lsp f es link h tlvs spent ≡ record { flood = f'; entries = es'; answer = answer } → f'.up ≡ f.up → AreIssued r f'.up spent es'
  taken_issued link h tlvs f' es' answer is links =
      subst (λ (u : List Bool). AreIssued r u spent es') (sym links)
      (subst (λ (l : List Entry). AreIssued r f.up spent l) (ap (λ (a : LspAnswer). a.entries) is) (lsp_issued r f.up spent f es k.control.own all link h tlvs))
