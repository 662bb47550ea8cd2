-- Flooding keeps what LSDBs say true, one rule at a time.
use Rattle.std.proofs.Common.{◌≡◌, ◌⊎◌, inl, inr, ℕ, zero, suc, ◌+◌, ◌<◌, ◌≤◌, ◌^◌, ◌==◌, ◌&&◌, nat_lt, not, Bool, true, false, if◌then◌else◌, List, [], ◌∷◌, length, slice_index_or, slice_set, Option, Some, None, refl, sym, ap, ◌∙◌, arith}
use mathlib.Core.Bool.{false≢true}
use Rattle.std.specs.List.{AllByRecursion}
use Rattle.std.proofs.lemmas.Bool.{cond_both, eqb-true, eqb-false, ltb-true, ltb-false, cases_Bool, and_parts}
use Rattle.wire_base.specs.declared.limits.TheConstants.{MOST_ROUTERS}
use Rattle.wire_base.specs.declared.addresses.LspId.{LspId}
use Rattle.wire_base.specs.declared.conf.RouterConf.{RouterConf}
use Rattle.wire_base.specs.declared.entry.Age.{Age}
use Rattle.wire_base.specs.declared.entry.Age.TheVariants.{Unknown, Newer, Equal, Older, Confused}
use Rattle.wire_base.specs.declared.entry.Entry.{Entry}
use Rattle.wire_base.specs.declared.flood_out.FloodOut.{FloodOut}
use Rattle.wire_base.specs.declared.flood_out.FloodOut.TheVariants as out
use Rattle.wire_base.specs.declared.triple.Summary.{Summary}
use Rattle.wire_base.specs.model.Control.{same_id, AreAscending, ids_of, entry_in, put_entry, is_full, seq_of, purge, age_of, age_by_life, is_unknown, FlagRow, Flood, srm_in, fragment_0}
use Rattle.wire_base.specs.model.Flooding.{no_links, with_row, send_on, ask_on, set_srm, clear_both, mark_all, LspAnswer, only_says, puts_marked, kept, stores, lsp_aged, is_unheld_own, is_own_ahead, lsp_in, on_lsp, SnpAnswer, with_flags, wanted, asks, is_live_summary, listed_aged, on_listed, nothing_asked, on_list, lacks, send_lacking, on_csnp, on_psnp, last_sequence}
use Rattle.wire_base.specs.model.OwnLsp.{own_lsp, full_life}
use Rattle.wire_base.specs.model.Pdu.{Head, head_summary}
use Rattle.wire_base.specs.model.Tlv.{rows_of}
use Rattle.laws_format.proofs.PduLaws.{lsp_sum_fits}
use Rattle.lsp_store.proofs.PlaceLaws.{put_ascends}
use Rattle.laws_router.specs.Becoming.{IsEarlier}
use Rattle.domain_model.specs.Truth.{IsAmong, IsNamed, IsOwnLsp, IsDeadLsp, IsTrueLsp, IsTrueEntry, IsUnsent, IsTrueRow}
use Rattle.domain_model.proofs.EachLaws.{fold_keeps}
use Rattle.domain_model.proofs.FlagLaws.{same_id_is, put_same, put_other, put_each, each_is_found, srm_same, KeepsId, SetsNone, changed_for, changed_off}
use Rattle.domain_model.proofs.NamedLaws.{never_full}

-- an LSDB and flags: all entries are true, in order, and none is sent that only asks
pub record IsTrueState (confs : List RouterConf) (f : Flood) (entries : List Entry) : Type 0 where
  pub entries_true : AllByRecursion (IsTrueEntry confs) entries
  pub in_order : AreAscending (ids_of entries)
  pub unsent : IsUnsent f entries

-- ---- entries

pub purge_true : (confs : List RouterConf) (id : LspId) (s : ℕ) → IsNamed confs id → s ≤ last_sequence → IsTrueEntry confs (purge id s)
purge_true confs id s n low = record { named = n; seq = low; says = inr (record { dead = refl; sum = refl; flags = refl; empty = refl }) }

wanted_true : (confs : List RouterConf) (s : Summary) → IsNamed confs s.id → IsTrueEntry confs (wanted s)
wanted_true confs s n = record { named = n; seq = omega arith; says = inr (record { dead = refl; sum = refl; flags = refl; empty = refl }) }

pub own_true : (confs : List RouterConf) (r : RouterConf) (up : List Bool) (s : ℕ) → IsAmong confs r → IsEarlier r r → length up ≡ length r.ends → 0 < s → s ≤ last_sequence → IsTrueEntry confs (own_lsp r up s)
unfolding own_lsp
own_true confs r up s among own ends some low = record {
  named = record { router = r; among = among; is = refl };
  seq = low;
  says = inl (record { now = r; among = among; router = r; earlier = own; is = refl; up = up; ends = ends; content = refl; flags = refl; sum = refl; live = omega arith; fresh = omega arith; some = some });
}

pub own_seq : (r : RouterConf) (up : List Bool) (s : ℕ) → (own_lsp r up s).seq ≡ s
unfolding own_lsp
own_seq r up s = refl

pub own_id : (r : RouterConf) (up : List Bool) (s : ℕ) → (own_lsp r up s).id ≡ fragment_0 r.system
unfolding own_lsp
own_id r up s = refl

kept_true : (confs : List RouterConf) (h : Head) (tlvs : List ℕ) → IsTrueLsp confs h tlvs → IsTrueEntry confs (kept h tlvs)
kept_true confs h tlvs t = cond_both (h.life == 0) (purge h.id h.seq) (record { id = h.id; seq = h.seq; life = h.life; hold = 0; sum = h.sum; flags = h.flags; content = tlvs }) (IsTrueEntry confs) (λ e. purge_true confs h.id h.seq t.named t.seq) (λ e. t)

kept_seq : (h : Head) (tlvs : List ℕ) → (kept h tlvs).seq ≡ h.seq
kept_seq h tlvs = cond_both (h.life == 0) (purge h.id h.seq) (record { id = h.id; seq = h.seq; life = h.life; hold = 0; sum = h.sum; flags = h.flags; content = tlvs }) (λ (e : Entry). e.seq ≡ h.seq) (λ e. refl) (λ e. refl)

-- ---- one entry put, or one row changed

pub put_marked : (confs : List RouterConf) (f : Flood) (es : List Entry) (e : Entry) (change : FlagRow → FlagRow) → KeepsId change → IsTrueEntry confs e → 0 < e.seq → IsTrueState confs f es → IsTrueState confs (with_row f e.id change) (put_entry e es)
put_marked confs f es e change keeps t some s =
    record {
      entries_true = put_each (IsTrueEntry confs) e es t s.entries_true;
      in_order = put_ascends es e s.in_order;
      unsent = λ id link z. by id link z (same_id e.id id) refl;
    }
  where
    by : (id : LspId) (link : ℕ) → seq_of (entry_in (put_entry e es) id) ≡ 0 → (b : Bool) → same_id e.id id ≡ b → srm_in (with_row f e.id change).rows id link ≡ false
    by id link z true h = let k : e.seq ≡ 0 = rw (put_same e es id h) at z in absurd (omega (arith, k, some))
    by id link z false h =
        let k : seq_of (entry_in es id) ≡ 0 = rw (put_other e es id h) at z in
        srm_same (with_row f e.id change).rows f.rows id link (changed_for (length f.up) e.id change keeps f.rows id h) ∙ s.unsent id link k

put_unknown : (confs : List RouterConf) (f : Flood) (es : List Entry) (e : Entry) (change : FlagRow → FlagRow) → KeepsId change → SetsNone change → IsTrueEntry confs e → entry_in es e.id ≡ None → IsTrueState confs f es → IsTrueState confs (with_row f e.id change) (put_entry e es)
put_unknown confs f es e change keeps sets t new s =
    record {
      entries_true = put_each (IsTrueEntry confs) e es t s.entries_true;
      in_order = put_ascends es e s.in_order;
      unsent = λ id link z. changed_off (length f.up) e.id change keeps sets f.rows id link (s.unsent id link (by id z (same_id e.id id) refl));
    }
  where
    by : (id : LspId) → seq_of (entry_in (put_entry e es) id) ≡ 0 → (b : Bool) → same_id e.id id ≡ b → seq_of (entry_in es id) ≡ 0
    by id z true h = ap seq_of (ap (entry_in es) (sym (same_id_is e.id id h)) ∙ new)
    by id z false h = rw (put_other e es id h) at z

pub flags_off : (confs : List RouterConf) (f : Flood) (es : List Entry) (x : LspId) (change : FlagRow → FlagRow) → KeepsId change → SetsNone change → IsTrueState confs f es → IsTrueState confs (with_row f x change) es
flags_off confs f es x change keeps sets s =
    record { entries_true = s.entries_true; in_order = s.in_order; unsent = λ id link z. changed_off (length f.up) x change keeps sets f.rows id link (s.unsent id link z) }

pub flags_on : (confs : List RouterConf) (f : Flood) (es : List Entry) (x : LspId) (change : FlagRow → FlagRow) → KeepsId change → 0 < seq_of (entry_in es x) → IsTrueState confs f es → IsTrueState confs (with_row f x change) es
flags_on confs f es x change keeps some s =
    record { entries_true = s.entries_true; in_order = s.in_order; unsent = λ id link z. by id link z (same_id x id) refl }
  where
    by : (id : LspId) (link : ℕ) → seq_of (entry_in es id) ≡ 0 → (b : Bool) → same_id x id ≡ b → srm_in (with_row f x change).rows id link ≡ false
    by id link z true h = let k : seq_of (entry_in es x) ≡ 0 = ap (λ (i : LspId). seq_of (entry_in es i)) (same_id_is x id h) ∙ z in absurd (omega (arith, k, some))
    by id link z false h = srm_same (with_row f x change).rows f.rows id link (changed_for (length f.up) x change keeps f.rows id h) ∙ s.unsent id link z

-- changes that set SRM nowhere
set_off : (xs : List Bool) (at link : ℕ) → slice_index_or xs link false ≡ false → slice_index_or (slice_set xs at false) link false ≡ false
set_off [] at link h = h
set_off (x ∷ xs) zero zero h = refl
set_off (x ∷ xs) zero (suc link) h = h
set_off (x ∷ xs) (suc at) zero h = h
set_off (x ∷ xs) (suc at) (suc link) h = set_off xs at link h

pub ask_off : (at : ℕ) → SetsNone (ask_on at)
ask_off at row link h = set_off row.srm at link h

pub srm_off : (at : ℕ) → SetsNone (set_srm at false)
srm_off at row link h = set_off row.srm at link h

pub both_off : (at : ℕ) → SetsNone (clear_both at)
both_off at row link h = set_off row.srm at link h

pub marked_true : (confs : List RouterConf) (f : Flood) (es : List Entry) (e : Entry) → IsTrueEntry confs e → 0 < e.seq → IsTrueState confs f es → IsTrueState confs (mark_all f e.id) (put_entry e es)
unfolding mark_all
marked_true confs f es e t some s = put_marked confs f es e (λ row. record row { srm = f.up; ssn = no_links f }) (λ row. refl) t some s

-- ---- how old

pub older_some : (o : Option Entry) (s : Summary) → age_of o s ≡ Older → 0 < seq_of o
older_some None s q = cc
older_some (Some e) s q =
    elim (cases_Bool (e.seq == s.seq)) [
      | inl t ↦
          let z : (if s.seq == 0 then Equal else age_by_life (e.life == 0) (s.life == 0) (e.sum == s.sum)) ≡ Older = rw t at q in
          elim (cases_Bool (s.seq == 0)) [
            | inl u ↦ (let y : Equal ≡ Older = rw u at z in cc)
            | inr u ↦ (let n : s.seq ≡ 0 → ⊥ = eqb-false s.seq 0 u in let m = eqb-true e.seq s.seq t in omega (arith, n, m))
          ]
      | inr t ↦
          let z : (if nat_lt e.seq s.seq then Newer else Older) ≡ Older = rw t at q in
          elim (cases_Bool (nat_lt e.seq s.seq)) [
            | inl u ↦ (let y : Newer ≡ Older = rw u at z in cc)
            | inr u ↦ (let n : e.seq ≡ s.seq → ⊥ = eqb-false e.seq s.seq t in let ge = ltb-false e.seq s.seq u in omega (arith, n, ge))
          ]
    ]

unknown_none : (o : Option Entry) (s : Summary) → age_of o s ≡ Unknown → o ≡ None
unknown_none None s q = refl
unknown_none (Some e) s q = by (e.seq == s.seq) (s.seq == 0) (nat_lt e.seq s.seq) (e.life == 0) (s.life == 0) (e.sum == s.sum) q
  where
    by : (a b c x y z : Bool) → (if a then (if b then Equal else age_by_life x y z) else (if c then Newer else Older)) ≡ Unknown → Some e ≡ None
    by true true c x y z q = cc
    by true false c true true z q = cc
    by true false c true false z q = cc
    by true false c false true z q = cc
    by true false c false false true q = cc
    by true false c false false false q = cc
    by false b true x y z q = cc
    by false b false x y z q = cc

-- ---- an LSP

-- what is asked for: an LSDB is never full, and no sequence number is 0
abbrev pub IsTrueOut : List RouterConf → FloodOut → Type 0
IsTrueOut confs out.Kept = Unit {0}
IsTrueOut confs (out.Reissue s) = s ≤ last_sequence
IsTrueOut confs (out.Ack s) = IsTrueRow confs s
IsTrueOut confs out.Full = ⊥
IsTrueOut confs out.Zero = ⊥

pub record IsTrueAnswer (confs : List RouterConf) (a : LspAnswer) : Type 0 where
  pub state : IsTrueState confs a.flood a.entries
  pub says : IsTrueOut confs a.answer

fresh_life : (confs : List RouterConf) (h : Head) (tlvs : List ℕ) → IsOwnLsp confs h tlvs ⊎ IsDeadLsp h tlvs → h.life ≤ full_life
fresh_life confs h tlvs (inl own) = own.fresh
fresh_life confs h tlvs (inr dead) = omega (arith, dead.dead)

small_sum : (confs : List RouterConf) (h : Head) (tlvs : List ℕ) → IsOwnLsp confs h tlvs ⊎ IsDeadLsp h tlvs → h.sum < 2 ^ 16
small_sum confs h tlvs (inl own) = let fits = lsp_sum_fits h tlvs in omega (arith, own.sum, fits)
small_sum confs h tlvs (inr dead) = omega (arith, dead.sum)

pub row_true : (confs : List RouterConf) (h : Head) (tlvs : List ℕ) → IsTrueLsp confs h tlvs → IsTrueRow confs (head_summary h)
row_true confs h tlvs t = record { named = t.named; life = fresh_life confs h tlvs t.says; seq = t.seq; sum = small_sum confs h tlvs t.says }

module _ (confs : List RouterConf) (small : length confs ≤ MOST_ROUTERS) (f : Flood) (es : List Entry) (s : IsTrueState confs f es) (link : ℕ) (h : Head) (tlvs : List ℕ) (t : IsTrueLsp confs h tlvs) (some : 0 < h.seq) where
  room : is_full es ≡ false
  room = never_full confs es small s.in_order s.entries_true

  purged : IsTrueAnswer confs (puts_marked f es (purge h.id h.seq))
  purged = record { state = marked_true confs f es (purge h.id h.seq) (purge_true confs h.id h.seq t.named t.seq) some s; says = tt }

  stored : IsTrueAnswer confs (stores f es link (kept h tlvs))
  stored = record {
    state = put_marked confs f es (kept h tlvs) (λ row. record row { srm = slice_set f.up link false; ssn = slice_set (no_links f) link true }) (λ row. refl) (kept_true confs h tlvs t) (let q = kept_seq h tlvs in omega (arith, q, some)) s;
    says = tt;
  }

  aged_true : (age : Age) → (age ≡ Older → 0 < seq_of (entry_in es h.id)) → IsTrueAnswer confs (lsp_aged f es link h tlvs age)
  aged_true Unknown older =
      cond_both (h.life == 0) (only_says f es (out.Ack (head_summary h))) (if is_full es then only_says f es out.Full else stores f es link (kept h tlvs)) (IsTrueAnswer confs)
      (λ e. record { state = s; says = row_true confs h tlvs t })
      (λ e. cond_both (is_full es) (only_says f es out.Full) (stores f es link (kept h tlvs)) (IsTrueAnswer confs) (λ full. absurd (false≢true (sym room ∙ full))) (λ free. stored))
  aged_true Newer older = stored
  aged_true Confused older = purged
  aged_true Equal older = record { state = flags_off confs f es h.id (ask_on link) (λ row. refl) (ask_off link) s; says = tt }
  aged_true Older older = record { state = flags_on confs f es h.id (send_on link) (λ row. refl) (older refl) s; says = tt }

  lsp_true : (spent : Bool) (age : Age) → (age ≡ Older → 0 < seq_of (entry_in es h.id)) → IsTrueAnswer confs (lsp_in f es link h tlvs spent age)
  lsp_true spent age older =
      cond_both (h.seq == 0) (only_says f es out.Zero) (if is_own_ahead f h.id spent age then only_says f es (out.Reissue h.seq) else rest) (IsTrueAnswer confs)
      (λ e. absurd (let z = eqb-true h.seq 0 e in omega (arith, z, some)))
      (λ e. cond_both (is_own_ahead f h.id spent age) (only_says f es (out.Reissue h.seq)) rest (IsTrueAnswer confs) (λ own. record { state = s; says = t.seq }) (λ own. others))
    where
      strays : LspAnswer
      strays = if is_unknown age && is_full es then only_says f es out.Full else puts_marked f es (purge h.id h.seq)

      rest : LspAnswer
      rest = if is_unheld_own f h age then strays else lsp_aged f es link h tlvs age

      others : IsTrueAnswer confs rest
      others =
          cond_both (is_unheld_own f h age) strays (lsp_aged f es link h tlvs age) (IsTrueAnswer confs)
          (λ stray. cond_both (is_unknown age && is_full es) (only_says f es out.Full) (puts_marked f es (purge h.id h.seq)) (IsTrueAnswer confs)
          (λ full. absurd (false≢true (sym room ∙ (and_parts (is_unknown age) (is_full es) full).1))) (λ free. purged))
          (λ no. aged_true age older)

  pub on_lsp_true : (spent : Bool) → IsTrueAnswer confs (on_lsp f es link h tlvs spent)
  unfolding on_lsp
  on_lsp_true spent = lsp_true spent (age_of (entry_in es h.id) (head_summary h)) (λ q. older_some (entry_in es h.id) (head_summary h) q)

-- ---- a sequence number PDU

abbrev pub IsLow : Option ℕ → Type 0
IsLow None = Unit {0}
IsLow (Some s) = s ≤ last_sequence

pub record IsTrueSnp (confs : List RouterConf) (a : SnpAnswer) : Type 0 where
  pub state : IsTrueState confs a.flood a.entries
  pub roomy : a.answer.full ≡ 0
  pub low : IsLow a.answer.reissue

module _ (confs : List RouterConf) (small : length confs ≤ MOST_ROUTERS) (link : ℕ) (spent : Bool) where
  asks_true : (a : SnpAnswer) (s : Summary) → IsTrueRow confs s → entry_in a.entries s.id ≡ None → IsTrueSnp confs a → IsTrueSnp confs (asks a link s)
  asks_true a s row new t =
      cond_both (is_full a.entries) (record a { answer = record a.answer { full = a.answer.full + 1 } }) (record a { flood = with_row a.flood s.id (ask_on link); entries = put_entry (wanted s) a.entries }) (IsTrueSnp confs)
      (λ full. absurd (false≢true (sym (never_full confs a.entries small t.state.in_order t.state.entries_true) ∙ full)))
      (λ free. record { state = put_unknown confs a.flood a.entries (wanted s) (ask_on link) (λ r. refl) (ask_off link) (wanted_true confs s row.named) new t.state; roomy = t.roomy; low = t.low })

  listed_true : (a : SnpAnswer) (s : Summary) (age : Age) → IsTrueRow confs s → 0 < s.seq → (age ≡ Older → 0 < seq_of (entry_in a.entries s.id)) → (age ≡ Unknown → entry_in a.entries s.id ≡ None) → IsTrueSnp confs a → IsTrueSnp confs (listed_aged a link s spent age)
  listed_true a s Unknown row some older new t = cond_both (is_live_summary s) (asks a link s) a (IsTrueSnp confs) (λ live. asks_true a s row (new refl) t) (λ no. t)
  listed_true a s Newer row some older new t = record { state = flags_off confs a.flood a.entries s.id (ask_on link) (λ r. refl) (ask_off link) t.state; roomy = t.roomy; low = t.low }
  listed_true a s Equal row some older new t = record { state = flags_off confs a.flood a.entries s.id (set_srm link false) (λ r. refl) (srm_off link) t.state; roomy = t.roomy; low = t.low }
  listed_true a s Older row some older new t = record { state = flags_on confs a.flood a.entries s.id (send_on link) (λ r. refl) (older refl) t.state; roomy = t.roomy; low = t.low }
  listed_true a s Confused row some older new t =
      cond_both (same_id s.id (fragment_0 a.flood.own) && not spent) (record a { answer = record a.answer { reissue = Some s.seq } }) (record a { flood = mark_all a.flood s.id; entries = put_entry (purge s.id s.seq) a.entries }) (IsTrueSnp confs)
      (λ own. record { state = t.state; roomy = t.roomy; low = row.seq })
      (λ other. record { state = marked_true confs a.flood a.entries (purge s.id s.seq) (purge_true confs s.id s.seq row.named row.seq) some t.state; roomy = t.roomy; low = t.low })

  on_listed_true : (a : SnpAnswer) (s : Summary) → IsTrueRow confs s → IsTrueSnp confs a → IsTrueSnp confs (on_listed link spent a s)
  unfolding on_listed
  on_listed_true a s row t =
      cond_both (s.seq == 0) (if nat_lt 0 (seq_of (entry_in a.entries s.id)) then with_flags a s.id (send_on link) else a) (listed_aged a link s spent (age_of (entry_in a.entries s.id) s)) (IsTrueSnp confs)
      (λ zero. cond_both (nat_lt 0 (seq_of (entry_in a.entries s.id))) (with_flags a s.id (send_on link)) a (IsTrueSnp confs)
      (λ some. record { state = flags_on confs a.flood a.entries s.id (send_on link) (λ r. refl) (ltb-true 0 (seq_of (entry_in a.entries s.id)) some) t.state; roomy = t.roomy; low = t.low })
      (λ no. t))
      (λ more.
      listed_true a s (age_of (entry_in a.entries s.id) s) row (let n : s.seq ≡ 0 → ⊥ = eqb-false s.seq 0 more in omega (arith, n))
      (λ q. older_some (entry_in a.entries s.id) s q) (λ q. unknown_none (entry_in a.entries s.id) s q) t)

  pub on_list_true : (f : Flood) (es : List Entry) (rows : List Summary) → AllByRecursion (IsTrueRow confs) rows → IsTrueState confs f es → IsTrueSnp confs (on_list f es link rows spent)
  unfolding on_list
  on_list_true f es rows each s =
      fold_keeps (IsTrueSnp confs) (IsTrueRow confs) (on_listed link spent) (λ a row h t. on_listed_true a row h t) rows (record { flood = f; entries = es; answer = nothing_asked }) each
      (record { state = s; roomy = refl; low = tt })

  lacking_true : (start last : LspId) (rows : List Summary) (es : List Entry) (f : Flood) (e : Entry) → entry_in es e.id ≡ Some e → IsTrueState confs f es → IsTrueState confs (send_lacking link start last rows f e) es
  lacking_true start last rows es f e found s =
      cond_both (lacks start last rows e) (with_row f e.id (set_srm link true)) f (λ (g : Flood). IsTrueState confs g es)
      (λ lacking.
      let parts = and_parts (nat_lt 0 e.life) _ lacking in
      let more = and_parts (nat_lt 0 e.seq) _ parts.1 in
      flags_on confs f es e.id (set_srm link true) (λ r. refl) (rw found (ltb-true 0 e.seq more.0)) s)
      (λ no. s)

  pub on_csnp_true : (f : Flood) (es : List Entry) (start last : LspId) (tlvs : List ℕ) → AllByRecursion (IsTrueRow confs) (rows_of tlvs) → IsTrueState confs f es → IsTrueSnp confs (on_csnp f es link start last tlvs spent)
  unfolding on_csnp
  on_csnp_true f es start last tlvs each s =
      let a = on_list f es link (rows_of tlvs) spent in
      let t = on_list_true f es (rows_of tlvs) each s in
      record {
        state = fold_keeps (λ (g : Flood). IsTrueState confs g a.entries) (λ (e : Entry). entry_in a.entries e.id ≡ Some e) (send_lacking link start last (rows_of tlvs)) (λ g e found k. lacking_true start last (rows_of tlvs) a.entries g e found k) a.entries a.flood (each_is_found a.entries t.state.in_order) t.state;
        roomy = t.roomy;
        low = t.low;
      }

  pub on_psnp_true : (f : Flood) (es : List Entry) (tlvs : List ℕ) → AllByRecursion (IsTrueRow confs) (rows_of tlvs) → IsTrueState confs f es → IsTrueSnp confs (on_psnp f es link tlvs spent)
  unfolding on_psnp
  on_psnp_true f es tlvs each s = on_list_true f es (rows_of tlvs) each s
