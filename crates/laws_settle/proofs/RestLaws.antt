-- Where no router has an LSP to send on an interface that is up, LSDBs across each link that is up have the same live LSPs.
use Rattle.std.proofs.Common.{◌≡◌, ◌⊎◌, inl, inr, ℕ, zero, suc, ◌<◌, ◌≤◌, nat_lt, Bool, true, false, List, slice_get, Option, Some, None, refl, sym, ap, ◌∙◌, arith}
use Rattle.std.specs.List.{AllByRecursion}
use Rattle.std.proofs.lemmas.Bool.{and_from, cases_lt, eq-eqb, false≢true, lt-ltb, ltb-true}
use Rattle.wire_base.specs.declared.addresses.LspId.{LspId}
use Rattle.wire_base.specs.declared.conf.LinkConf.{LinkConf}
use Rattle.wire_base.specs.declared.entry.Entry.{Entry}
use Rattle.wire_base.specs.model.Control.{Control, entry_in, seq_of}
use Rattle.quiet_domain.specs.Live.{AreSameLive, are_alike, is_live, is_same}
use Rattle.domain_model.specs.Faults.{is_up_toward, up_over}
use Rattle.domain_model.specs.Truth.{IsDeadLsp, IsOwnLsp, IsTrueControl, IsTrueEntry, IsTruthful, confs_now, head_of}
use Rattle.domain_model.specs.World.{WorldState, is_up, link_between, peer_place}
use Rattle.domain_model.proofs.DomainLaws.{bytes_from}
use Rattle.domain_model.proofs.EachLaws.{each_both, each_from, each_got, each_weaker}
use Rattle.domain_model.proofs.FlagLaws.{found_each, found_id, same_id_is}
use Rattle.domain_model.proofs.LinkLaws.{peer_is}
use Rattle.laws_quiet.specs.Quiet.{IsQuiet, IsQuietLink, lsdb_at, lsdb_of}
use Rattle.laws_settle.specs.Fresh.{AreOfJournal, HasNoneToSend, HasWholeLinks, IsFresh, IsOfJournal, IsOwnNewest, number_at, number_in}

-- ---- entries

-- an entry of a journal, which is live exactly if it has a sequence number
record IsSaid (journal : LspId → ℕ → Entry) (e : Entry) : Type 0 where
  says : IsOfJournal journal (head_of e) e.content
  some : 0 < e.life → 0 < e.seq

live_some : (journal : LspId → ℕ → Entry) (e : Entry) → IsSaid journal e → 0 < e.seq → is_live e ≡ true
live_some journal e s some = lt-ltb 0 e.life (s.says.live some)

live_none : (journal : LspId → ℕ → Entry) (e : Entry) → IsSaid journal e → e.seq ≡ 0 → is_live e ≡ false
live_none journal e s none = by (nat_lt 0 e.life) refl
  where
    by : (b : Bool) → nat_lt 0 e.life ≡ b → b ≡ false
    by true p = absurd (let k = s.some (ltb-true 0 e.life p) in omega (arith, k, none))
    by false p = refl

-- entries of the same LSP ID and sequence number
alike_here : (journal : LspId → ℕ → Entry) (x y : Entry) → IsSaid journal x → IsSaid journal y → x.id ≡ y.id → (n : ℕ) → x.seq ≡ n → y.seq ≡ n → are_alike x y ≡ true
alike_here journal x y s t same zero p q = rw (live_none journal x s p, live_none journal y t q) refl
alike_here journal x y s t same (suc n) p q =
    rw (live_some journal x s (omega (arith, p)), live_some journal y t (omega (arith, q))) (and_from _ _ (eq-eqb x.seq y.seq (p ∙ sym q)) (and_from _ _ (eq-eqb x.flags y.flags flags) (bytes_from x.content y.content content)))
  where
    said : journal x.id x.seq ≡ journal y.id y.seq
    said = ap (λ (i : LspId). journal i x.seq) same ∙ ap (journal y.id) (p ∙ sym q)

    flags : x.flags ≡ y.flags
    flags = s.says.flags (omega (arith, p)) ∙ ap (λ (e : Entry). e.flags) said ∙ sym (t.says.flags (omega (arith, q)))

    content : x.content ≡ y.content
    content = s.says.content (omega (arith, p)) ∙ ap (λ (e : Entry). e.content) said ∙ sym (t.says.content (omega (arith, q)))

one_alike : (journal : LspId → ℕ → Entry) (xs ys : List Entry) → AllByRecursion (IsSaid journal) xs → AllByRecursion (IsSaid journal) ys → (id : LspId) → number_in xs id ≡ number_in ys id → (o p : Option Entry) → entry_in xs id ≡ o → entry_in ys id ≡ p → is_same o p ≡ true
one_alike journal xs ys s t id same None None q r = refl
one_alike journal xs ys s t id same None (Some y) q r =
    let n : 0 ≡ y.seq = sym (ap seq_of q) ∙ same ∙ ap seq_of r in
    rw (live_none journal y (found_each (IsSaid journal) ys id y t r) (sym n)) refl
one_alike journal xs ys s t id same (Some x) None q r =
    let n : x.seq ≡ 0 = sym (ap seq_of q) ∙ same ∙ ap seq_of r in
    rw (live_none journal x (found_each (IsSaid journal) xs id x s q) n) refl
one_alike journal xs ys s t id same (Some x) (Some y) q r =
    alike_here journal x y (found_each (IsSaid journal) xs id x s q) (found_each (IsSaid journal) ys id y t r)
    (same_id_is x.id id (found_id xs id x q) ∙ sym (same_id_is y.id id (found_id ys id y r))) y.seq (sym (ap seq_of q) ∙ same ∙ ap seq_of r) refl

numbers_alike : (journal : LspId → ℕ → Entry) (xs ys : List Entry) → AllByRecursion (IsSaid journal) xs → AllByRecursion (IsSaid journal) ys → ((id : LspId) → number_in xs id ≡ number_in ys id) → AreSameLive xs ys
numbers_alike journal xs ys s t same id = one_alike journal xs ys s t id (same id) (entry_in xs id) (entry_in ys id) refl refl

-- ---- routers

-- a router whose interface toward another is up
pub record IsUpAt (w : WorldState) (a b : ℕ) : Type 0 where
  pub router : Control
  pub at : slice_get w.routers a ≡ Some router
  pub link : ℕ
  pub toward : link_between w.domain.routers a b ≡ Some link
  pub up : is_up router link ≡ true

pub up_at : (w : WorldState) (a b : ℕ) → is_up_toward w a b ≡ true → IsUpAt w a b
up_at w a b h = by (slice_get w.routers a) refl (link_between w.domain.routers a b) refl h
  where
    by : (o : Option Control) → slice_get w.routers a ≡ o → (l : Option ℕ) → link_between w.domain.routers a b ≡ l → up_over o l ≡ true → IsUpAt w a b
    by None p l q k = absurd (false≢true k)
    by (Some c) p None q k = absurd (false≢true k)
    by (Some c) p (Some link) q k = record { router = c; at = p; link = link; toward = q; up = k }

-- where both interfaces of a link are up, no router has a higher sequence number than the other
abbrev pub IsLevel : WorldState → Type 0
IsLevel w = (a b : ℕ) (id : LspId) → is_up_toward w a b ≡ true → is_up_toward w b a ≡ true → number_at w a id ≤ number_at w b id

module _ (w : WorldState) (t : IsTruthful w) (fresh : IsFresh w) where
  said_at : (a : ℕ) → AllByRecursion (IsSaid fresh.journal) (lsdb_at w a)
  said_at a = by (slice_get w.routers a) refl
    where
      one : (e : Entry) → IsOfJournal fresh.journal (head_of e) e.content × IsTrueEntry (confs_now w) e → IsSaid fresh.journal e
      one e (says, true_) = record { says = says; some = live true_.says }
        where
          live : IsOwnLsp (confs_now w) (head_of e) e.content ⊎ IsDeadLsp (head_of e) e.content → 0 < e.life → 0 < e.seq
          live (inl own) lives = own.some
          live (inr dead) lives = absurd (let none = dead.dead in omega (arith, none, lives))

      by : (o : Option Control) → slice_get w.routers a ≡ o → AllByRecursion (IsSaid fresh.journal) (lsdb_of o)
      by None at = tt
      by (Some c) at =
          each_weaker (λ e. IsOfJournal fresh.journal (head_of e) e.content × IsTrueEntry (confs_now w) e) (IsSaid fresh.journal) one c.entries
          (each_both (λ e. IsOfJournal fresh.journal (head_of e) e.content) (IsTrueEntry (confs_now w)) c.entries
          (each_got (λ x. AreOfJournal fresh.journal x.entries) w.routers a c fresh.journaled.entries at) (each_got (IsTrueControl (confs_now w)) w.routers a c t.controls at).entries)

  quiet_link : IsLevel w → HasWholeLinks w → (l : LinkConf) → IsQuietLink w l
  quiet_link level whole l = record {
    whole = whole l.a l.b;
    same = λ up. numbers_alike fresh.journal (lsdb_at w l.a) (lsdb_at w l.b) (said_at l.a) (said_at l.b) (λ id. evens id (sym (whole l.a l.b) ∙ up) up);
  }
    where
      evens : (id : LspId) → is_up_toward w l.b l.a ≡ true → is_up_toward w l.a l.b ≡ true → number_at w l.a id ≡ number_at w l.b id
      evens id there here = let n = level l.a l.b id here there in let m = level l.b l.a id there here in omega (arith, n, m)

  pub level_is_quiet : IsLevel w → HasWholeLinks w → IsQuiet w
  level_is_quiet level whole = record {
    unspent = each_weaker (IsOwnNewest w) (λ c. c.spent ≡ false) (λ c own. own.unspent) w.routers fresh.own;
    links = each_from (IsQuietLink w) (quiet_link level whole) w.domain.links;
  }

  -- where none is to be sent, what a router has its neighbor has
  pub rest_is_quiet : HasNoneToSend w → HasWholeLinks w → IsQuiet w
  rest_is_quiet idle whole = level_is_quiet reached whole
    where
      reached : IsLevel w
      reached a b id h back = elim (cases_lt (number_at w b id) (number_at w a id)) [
        | inl above ↦
            let u = up_at w a b h in
            let far : peer_place w.domain.routers a u.link ≡ b = peer_is w.domain.routers t.valid.consistent.systems a b u.link u.toward in
            let n : number_at w (peer_place w.domain.routers a u.link) id ≡ number_at w b id = ap (λ (x : ℕ). number_at w x id) far in
            let m : number_at w a id ≡ number_in u.router.entries id = ap (λ (o : Option Control). number_in (lsdb_of o) id) u.at in
            let set = fresh.owed a u.link u.router id u.at u.up (omega (arith, above, n, m)) in
            absurd (false≢true (sym (idle a u.link u.router id u.at u.up) ∙ set))
        | inr low ↦ low
      ]
