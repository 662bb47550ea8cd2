-- One router of a domain changes: it keeps what its LSDB has of the journal, or originates its own LSP anew.
use Rattle.std.proofs.Common.{◌≡◌, ◌⊎◌, inl, inr, ℕ, zero, suc, ◌+◌, ◌<◌, ◌≤◌, false, List, [], ◌∷◌, slice_get, slice_set, Option, Some, None, refl, sym, ap, subst, ◌∙◌, arith}
use Rattle.std.specs.List.{AllByRecursion}
use Rattle.std.proofs.lemmas.Bool.{false_from_ne_true}
use Rattle.std.proofs.lemmas.Option.{same_Some}
use Rattle.wire_base.specs.declared.addresses.LspId.{LspId}
use Rattle.wire_base.specs.declared.addresses.SystemId.{SystemId}
use Rattle.wire_base.specs.declared.conf.RouterConf.{RouterConf}
use Rattle.wire_base.specs.declared.entry.Entry.{Entry}
use Rattle.wire_base.specs.model.Control.{Control, entry_in, fragment_0, own_entry_in, same_id, seq_of}
use Rattle.wire_base.specs.model.Flooding.{last_sequence}
use Rattle.wire_base.specs.model.Item.{Item}
use Rattle.domain_model.specs.Truth.{IsTrueControl, IsTruthful, confs_now, domain_now, head_of}
use Rattle.domain_model.specs.World.{WorldState, queue_at}
use Rattle.domain_model.proofs.DomainLaws.{system_place}
use Rattle.domain_model.proofs.EachLaws.{each_got, each_set, each_weaker}
use Rattle.domain_model.proofs.FlagLaws.{each_is_found, found_each, found_id, put_each, put_other, put_same, same_id_is, same_id_self}
use Rattle.domain_model.proofs.QueueLaws.{AllQueues, get_mapped}
use Rattle.laws_quiet.specs.Quiet.{lsdb_of}
use Rattle.laws_settle.specs.Fresh.{AreOfJournal, AreOwnNewest, IsFresh, IsItemOfJournal, IsJournal, IsOfJournal, IsOwnNewest, number_at, number_in}
use Rattle.laws_settle.proofs.JournalIssue.{Journal, Reissues, UpTo, entries_grown, issued_of, items_grown, with_issued}

-- a journal of what a domain has, and own LSPs that none exceeds
pub record IsKeptBy (v : WorldState) : Type 0 where
  pub journal : Journal
  pub journaled : IsJournal v journal
  pub own : AreOwnNewest v

-- ---- lists

pub each_by_place : {X : Type 0} (P : X → Type 0) (xs : List X) → ((i : ℕ) (x : X) → slice_get xs i ≡ Some x → P x) → AllByRecursion P xs
each_by_place P [] h = tt
each_by_place P (x ∷ xs) h = (h 0 x refl, each_by_place P xs (λ i y e. h (suc i) y e))

-- what is read after an element was set: another, or the new one
got_set : {X : Type 0} (xs : List X) (b : ℕ) (c e : X) → slice_get xs b ≡ Some c → (a : ℕ) → ((a ≡ b → ⊥) × (slice_get (slice_set xs b e) a ≡ slice_get xs a)) ⊎ ((a ≡ b) × (slice_get (slice_set xs b e) a ≡ Some e))
got_set [] b c e at a = absurd cc
got_set (x ∷ xs) zero c e at zero = inr (refl, refl)
got_set (x ∷ xs) zero c e at (suc a) = inl ((λ h. omega (arith, h)), refl)
got_set (x ∷ xs) (suc b) c e at zero = inl ((λ h. omega (arith, h)), refl)
got_set (x ∷ xs) (suc b) c e at (suc a) = elim (got_set xs b c e at a) [
  | inl h ↦ inl ((λ q. h.0 (omega (arith, q))), h.1)
  | inr h ↦ inr (ap suc h.0, h.1)
]

-- ---- numbers

pub number_low : (es : List Entry) (id : LspId) (n : ℕ) → AllByRecursion (UpTo id n) es → number_in es id ≤ n
number_low es id n all = by (entry_in es id) refl
  where
    by : (o : Option Entry) → entry_in es id ≡ o → seq_of o ≤ n
    by None q = omega arith
    by (Some e) q = found_each (UpTo id n) es id e all q (same_id_is e.id id (found_id es id e q))

-- a router by the number of its own LSP
pub newest_of : (v : WorldState) (x : Control) (n : ℕ) → x.spent ≡ false → number_in x.entries (fragment_0 x.conf.system) ≡ n → 0 < n → n ≤ v.events + 1 → ((a : ℕ) → number_at v a (fragment_0 x.conf.system) ≤ n) → IsOwnNewest v x
newest_of v x n unspent is some few newest = by (own_entry_in x) refl
  where
    by : (o : Option Entry) → own_entry_in x ≡ o → IsOwnNewest v x
    by None q = let none : number_in x.entries (fragment_0 x.conf.system) ≡ 0 = ap seq_of q in absurd (omega (arith, none, is, some))
    by (Some e) q =
        let same : e.seq ≡ n = sym (ap seq_of q) ∙ is in
        record { unspent = unspent; entry = e; own = q; some = omega (arith, same, some); few = omega (arith, same, few); newest = λ a. (let low = newest a in omega (arith, same, low)) }

module _ (w : WorldState) (t : IsTruthful w) (f : IsFresh w) where
  -- no router exceeds that number of an LSP ID
  abbrev pub Bound : LspId → ℕ → Type 0
  Bound id n = (a : ℕ) → number_at w a id ≤ n

  pub true_at : (b : ℕ) (c : Control) → slice_get w.routers b ≡ Some c → IsTrueControl (confs_now w) c
  true_at b c at = each_got (IsTrueControl (confs_now w)) w.routers b c t.controls at

  pub newest_at : (b : ℕ) (c : Control) → slice_get w.routers b ≡ Some c → IsOwnNewest w c
  newest_at b c at = each_got (IsOwnNewest w) w.routers b c f.own at

  pub told_at : (b : ℕ) (c : Control) → slice_get w.routers b ≡ Some c → AreOfJournal f.journal c.entries
  told_at b c at = each_got (λ (x : Control). AreOfJournal f.journal x.entries) w.routers b c f.journaled.entries at

  pub up_to : (b : ℕ) (c : Control) → slice_get w.routers b ≡ Some c → (id : LspId) (n : ℕ) → Bound id n → AllByRecursion (UpTo id n) c.entries
  up_to b c at id n bound =
      each_weaker (λ (e : Entry). entry_in c.entries e.id ≡ Some e) (UpTo id n)
      (λ e found is.
      let low : number_at w b id ≤ n = bound b in
      let here : number_at w b id ≡ number_in c.entries id = ap (λ (o : Option Control). number_in (lsdb_of o) id) at in
      let there : number_in c.entries id ≡ e.seq = ap (number_in c.entries) (sym is) ∙ ap seq_of found in
      omega (arith, low, here, there)) c.entries (each_is_found c.entries (true_at b c at).kept.control.entries.in_order)

  -- what a router keeps
  pub record IsCarried (c d : Control) : Type 0 where
    pub system : d.conf.system ≡ c.conf.system
    pub spent : d.spent ≡ c.spent
    pub told : AreOfJournal f.journal d.entries
    pub own : number_in d.entries (fragment_0 c.conf.system) ≡ number_in c.entries (fragment_0 c.conf.system)
    pub within : (id : LspId) (n : ℕ) → Bound id n → AllByRecursion (UpTo id n) d.entries

  -- with another configuration, or other flags
  pub carries : (b : ℕ) (c : Control) → slice_get w.routers b ≡ Some c → (d : Control) → d.conf.system ≡ c.conf.system → d.spent ≡ c.spent → d.entries ≡ c.entries → IsCarried c d
  carries b c at d system spent entries = record {
    system = system;
    spent = spent;
    told = subst (AreOfJournal f.journal) (sym entries) (told_at b c at);
    own = ap (λ (es : List Entry). number_in es (fragment_0 c.conf.system)) entries;
    within = λ id n bound. subst (AllByRecursion (UpTo id n)) (sym entries) (up_to b c at id n bound);
  }

  -- ---- the router at a place becomes another

  module _ (b : ℕ) (c : Control) (at : slice_get w.routers b ≡ Some c) (e : Control) (v : WorldState) (routers : v.routers ≡ slice_set w.routers b e) where
    number_then : (a : ℕ) (id : LspId) → (number_at v a id ≡ number_at w a id) ⊎ (number_at v a id ≡ number_in e.entries id)
    number_then a id =
        let read : number_at v a id ≡ number_in (lsdb_of (slice_get (slice_set w.routers b e) a)) id = ap (λ (rs : List Control). number_in (lsdb_of (slice_get rs a)) id) routers in
        elim (got_set w.routers b c e at a) [
          | inl h ↦ inl (read ∙ ap (λ (o : Option Control). number_in (lsdb_of o) id) h.1)
          | inr h ↦ inr (read ∙ ap (λ (o : Option Control). number_in (lsdb_of o) id) h.1)
        ]

    bound_then : (id : LspId) (n m : ℕ) → Bound id n → n ≤ m → number_in e.entries id ≤ m → (a : ℕ) → number_at v a id ≤ m
    bound_then id n m bound more here a = elim (number_then a id) [
      | inl same ↦ (let low = bound a in omega (arith, same, low, more))
      | inr same ↦ omega (arith, same, here)
    ]

    own_set : ((i : ℕ) (x : Control) → slice_get w.routers i ≡ Some x → (i ≡ b → ⊥) → IsOwnNewest v x) → IsOwnNewest v e → AreOwnNewest v
    own_set others here = subst (AllByRecursion (IsOwnNewest v)) (sym routers) (each_by_place (IsOwnNewest v) (slice_set w.routers b e) one)
      where
        one : (i : ℕ) (x : Control) → slice_get (slice_set w.routers b e) i ≡ Some x → IsOwnNewest v x
        one i x there = elim (got_set w.routers b c e at i) [
          | inl h ↦ others i x (sym h.1 ∙ there) h.0
          | inr h ↦ subst (IsOwnNewest v) (same_Some e x (sym h.1 ∙ there)) here
        ]

  module _ (b : ℕ) (c : Control) (at : slice_get w.routers b ≡ Some c) (d : Control) (k : IsCarried c d) where
    newest : IsOwnNewest w c
    newest = newest_at b c at

    own_number : number_in c.entries (fragment_0 c.conf.system) ≡ newest.entry.seq
    own_number = ap seq_of newest.own

    own_then : number_in d.entries (fragment_0 d.conf.system) ≡ newest.entry.seq
    own_then = ap (λ (s : SystemId). number_in d.entries (fragment_0 s)) k.system ∙ k.own ∙ own_number

    pub unspent_then : d.spent ≡ false
    unspent_then = k.spent ∙ newest.unspent

    -- the domain allows fewer events than there are sequence numbers
    pub number_left : number_in d.entries (fragment_0 d.conf.system) < last_sequence
    number_left = let few = newest.few in let events = t.events in omega (arith, own_then, few, events)

    low_then : (id : LspId) (n : ℕ) → Bound id n → number_in d.entries id ≤ n
    low_then id n bound = number_low d.entries id n (k.within id n bound)

    own_bound : Bound (fragment_0 d.conf.system) newest.entry.seq
    own_bound = subst (λ (s : SystemId). Bound (fragment_0 s) newest.entry.seq) (sym k.system) newest.newest

    -- it keeps its own LSP
    module _ (v : WorldState) (routers : v.routers ≡ slice_set w.routers b d) (events : v.events ≡ w.events + 1) where
      carried_own : AreOwnNewest v
      carried_own =
          own_set b c at d v routers
          (λ i x there other.
          let h = newest_at i x there in
          let id = fragment_0 x.conf.system in
          let few = h.few in
          newest_of v x h.entry.seq h.unspent (ap seq_of h.own) h.some (omega (arith, events, few)) (bound_then b c at d v routers id h.entry.seq h.entry.seq h.newest (omega arith) (low_then id h.entry.seq h.newest)))
          (let few = newest.few in
          newest_of v d newest.entry.seq unspent_then own_then newest.some (omega (arith, events, few))
          (bound_then b c at d v routers (fragment_0 d.conf.system) newest.entry.seq newest.entry.seq own_bound (omega arith) (omega (arith, own_then))))

      pub carried_step : AllQueues (λ a link. IsItemOfJournal f.journal) v.flights → IsKeptBy v
      carried_step items = record {
        journal = f.journal;
        journaled = record {
          entries = subst (AllByRecursion (λ (x : Control). AreOfJournal f.journal x.entries)) (sym routers) (each_set (λ (x : Control). AreOfJournal f.journal x.entries) w.routers b d f.journaled.entries k.told);
          items = items;
        };
        own = carried_own;
      }

    -- then it originates its own LSP anew
    module _ (e : Control) (r : Reissues d e) (v : WorldState) (routers : v.routers ≡ slice_set w.routers b e) (events : v.events ≡ w.events + 1) where
      is_next : r.new.seq ≡ newest.entry.seq + 1
      is_next = r.next ∙ ap (λ (n : ℕ). n + 1) own_then

      other_system : (i : ℕ) (x : Control) → slice_get w.routers i ≡ Some x → (i ≡ b → ⊥) → r.new.id ≡ fragment_0 x.conf.system → ⊥
      other_system i x there other same =
          let systems : x.conf.system ≡ c.conf.system = ap (λ (id : LspId). id.system) (sym same ∙ r.own) ∙ k.system in
          other (system_place (domain_now w) t.now i b x.conf c.conf (get_mapped (λ (y : Control). y.conf) w.routers i x there) (get_mapped (λ (y : Control). y.conf) w.routers b c at) systems)

      number_new : number_in e.entries r.new.id ≡ r.new.seq
      number_new = ap (λ (es : List Entry). number_in es r.new.id) r.entries ∙ ap seq_of (put_same r.new d.entries r.new.id (same_id_self r.new.id))

      number_other : (id : LspId) → (r.new.id ≡ id → ⊥) → number_in e.entries id ≡ number_in d.entries id
      number_other id other =
          ap (λ (es : List Entry). number_in es id) r.entries
          ∙ ap seq_of (put_other r.new d.entries id (false_from_ne_true (same_id r.new.id id) (λ h. other (same_id_is r.new.id id h))))

      own_e : fragment_0 e.conf.system ≡ r.new.id
      own_e = ap (λ (s : SystemId). fragment_0 s) (ap (λ (q : RouterConf). q.system) r.conf) ∙ sym r.own

      new_bound : Bound r.new.id newest.entry.seq
      new_bound = subst (λ (id : LspId). Bound id newest.entry.seq) (sym r.own) own_bound

      issued_own : AreOwnNewest v
      issued_own =
          own_set b c at e v routers
          (λ i x there other.
          let h = newest_at i x there in
          let id = fragment_0 x.conf.system in
          let few = h.few in
          let low = low_then id h.entry.seq h.newest in
          let same = number_other id (other_system i x there other) in
          newest_of v x h.entry.seq h.unspent (ap seq_of h.own) h.some (omega (arith, events, few)) (bound_then b c at e v routers id h.entry.seq h.entry.seq h.newest (omega arith) (omega (arith, low, same))))
          (let few = newest.few in
          let mine : number_in e.entries (fragment_0 e.conf.system) ≡ r.new.seq = ap (number_in e.entries) own_e ∙ number_new in
          newest_of v e r.new.seq (r.spent ∙ unspent_then) mine (omega (arith, is_next)) (omega (arith, events, few, is_next))
          (subst (λ (id : LspId). (a : ℕ) → number_at v a id ≤ r.new.seq) (sym own_e) (bound_then b c at e v routers r.new.id newest.entry.seq r.new.seq new_bound (omega (arith, is_next)) (omega (arith, number_new)))))

      less : newest.entry.seq < r.new.seq
      less = omega (arith, is_next)

      abbrev journal : Journal
      journal = with_issued f.journal r.new

      pub issued_step : v.flights ≡ w.flights → IsKeptBy v
      issued_step flights = record {
        journal = journal;
        journaled = record {
          entries = subst (AllByRecursion (λ (x : Control). AreOfJournal journal x.entries)) (sym routers)
              (each_set (λ (x : Control). AreOfJournal journal x.entries) w.routers b e
              (each_by_place (λ (x : Control). AreOfJournal journal x.entries) w.routers (λ i x there. entries_grown f.journal r.new newest.entry.seq less x.entries (up_to i x there r.new.id newest.entry.seq new_bound) (told_at i x there)))
              (subst (AreOfJournal journal) (sym r.entries) (put_each (λ (y : Entry). IsOfJournal journal (head_of y) y.content) r.new d.entries (issued_of f.journal r.new r.lives) (entries_grown f.journal r.new newest.entry.seq less d.entries (k.within r.new.id newest.entry.seq new_bound) k.told))));
          items = λ a link. subst (λ (fs : List (List (List Item))). AllByRecursion (IsItemOfJournal journal) (queue_at fs a link)) (sym flights)
              (items_grown f.journal r.new (number_at w a) (let low = new_bound a in omega (arith, low, less)) (queue_at w.flights a link) (f.behind a link) (f.journaled.items a link));
        };
        own = issued_own;
      }

  -- no router changes
  pub same_step : (v : WorldState) → v.routers ≡ w.routers → v.events ≡ w.events + 1 → AllQueues (λ a link. IsItemOfJournal f.journal) v.flights → IsKeptBy v
  same_step v routers events items = record {
    journal = f.journal;
    journaled = record { entries = subst (AllByRecursion (λ (x : Control). AreOfJournal f.journal x.entries)) (sym routers) f.journaled.entries; items = items };
    own = subst (AllByRecursion (IsOwnNewest v)) (sym routers) (each_weaker (IsOwnNewest w) (IsOwnNewest v) one w.routers f.own);
  }
    where
      one : (c : Control) → IsOwnNewest w c → IsOwnNewest v c
      one c h = record {
        unspent = h.unspent;
        entry = h.entry;
        own = h.own;
        some = h.some;
        few = (let few = h.few in omega (arith, events, few));
        newest = λ a. (let low = h.newest a in let same = ap (λ (rs : List Control). number_in (lsdb_of (slice_get rs a)) (fragment_0 c.conf.system)) routers in omega (arith, low, same));
      }
