-- In a domain that has just started the journal is of the first own LSPs.
use Rattle.std.proofs.Common.{◌≡◌, ℕ, zero, suc, ◌≤◌, ◌==◌, ◌&&◌, Bool, true, false, if◌then◌else◌, List, [], ◌∷◌, length, map, replicate, slice_get, Option, Some, None, refl, sym, ap, subst, ◌∙◌, arith}
use Rattle.std.specs.List.{AllByRecursion}
use Rattle.std.proofs.lemmas.Option.{same_Some}
use Rattle.wire_base.specs.declared.addresses.LspId.{LspId}
use Rattle.wire_base.specs.declared.conf.RouterConf.{RouterConf}
use Rattle.wire_base.specs.declared.entry.Entry.{Entry}
use Rattle.wire_base.specs.model.Configuration.{DomainConf, IsValid}
use Rattle.wire_base.specs.model.Configuration as configuration
use Rattle.wire_base.specs.model.Control.{Control, fragment_0, purge, same_id, seq_of}
use Rattle.wire_base.specs.model.Flooding.{first_control, started}
use Rattle.wire_base.specs.model.Lists.{AreApart}
use Rattle.wire_base.specs.model.OwnLsp.{own_lsp}
use Rattle.domain_model.specs.World.{first_world}
use Rattle.domain_model.proofs.ControlTruth.{first_conf}
use Rattle.domain_model.proofs.EachLaws.{each_from, each_got, each_mapped}
use Rattle.domain_model.proofs.FlagLaws.{same_id_self}
use Rattle.domain_model.proofs.FloodTruth.{own_id, own_seq}
use Rattle.domain_model.proofs.QueueLaws.{none_queued}
use Rattle.laws_quiet.specs.Quiet.{lsdb_of}
use Rattle.laws_settle.specs.Fresh.{AreOfJournal, IsItemOfJournal, IsOwnNewest, number_in}
use Rattle.laws_settle.proofs.JournalIssue.{Journal, UpTo, own_lives}
use Rattle.laws_settle.proofs.JournalTurn.{IsKeptBy, each_by_place, newest_of, number_low}

-- the first own LSP of a router
abbrev first_own : RouterConf → ℕ → Entry
first_own r n = own_lsp r (replicate (length r.ends) true) n

abbrev first_journal : List RouterConf → Journal
first_journal [] id n = purge id n
first_journal (r ∷ rs) id n = if same_id (fragment_0 r.system) id then first_own r n else first_journal rs id n

started_entries : (r : RouterConf) (up : List Bool) → (started r up).entries ≡ own_lsp r up 1 ∷ []
unfolding started
started_entries r up = refl

started_unspent : (r : RouterConf) (up : List Bool) → (started r up).spent ≡ false
unfolding started
started_unspent r up = refl

first_entries : (r : RouterConf) → (first_control r).entries ≡ first_own r 1 ∷ []
unfolding first_control
first_entries r = started_entries r (replicate (length r.ends) true)

first_unspent : (r : RouterConf) → (first_control r).spent ≡ false
unfolding first_control
first_unspent r = started_unspent r (replicate (length r.ends) true)

first_at : (rs : List RouterConf) → AreApart configuration.same_system rs → (i : ℕ) (r : RouterConf) (n : ℕ) → slice_get rs i ≡ Some r → first_journal rs (fragment_0 r.system) n ≡ first_own r n
first_at [] apart i r n at = absurd cc
first_at (q ∷ rs) apart zero r n at = subst (λ (x : RouterConf). first_journal (q ∷ rs) (fragment_0 x.system) n ≡ first_own x n) (same_Some q r at) (rw (same_id_self (fragment_0 q.system)) refl)
first_at (q ∷ rs) apart (suc i) r n at =
    let other : configuration.same_system q r ≡ false = each_got (λ (x : RouterConf). configuration.same_system q x ≡ false) rs i r apart.0 at in
    let differs : same_id (fragment_0 q.system) (fragment_0 r.system) ≡ false = ap (λ (b : Bool). b && ((0 == 0) && (0 == 0))) other in
    ap (λ (b : Bool). if b then first_own q n else first_journal rs (fragment_0 r.system) n) differs ∙ first_at rs apart.1 i r n at

module _ (d : DomainConf) (valid : IsValid d) where
  abbrev journal : Journal
  journal = first_journal d.routers

  first_of : (i : ℕ) (r : RouterConf) → slice_get d.routers i ≡ Some r → AreOfJournal journal (first_control r).entries
  first_of i r at =
      let e = first_own r 1 in
      let up = replicate (length r.ends) true in
      let is : journal e.id e.seq ≡ e = ap (λ (id : LspId). journal id e.seq) (own_id r up 1) ∙ ap (journal (fragment_0 r.system)) (own_seq r up 1) ∙ first_at d.routers valid.consistent.systems i r 1 at in
      subst (AreOfJournal journal) (sym (first_entries r)) (
        record {
          live = λ some. own_lives r up 1;
          sum = λ some. ap (λ (x : Entry). x.sum) (sym is);
          flags = λ some. ap (λ (x : Entry). x.flags) (sym is);
          content = λ some. ap (λ (x : Entry). x.content) (sym is);
        },
        tt,
      )

  -- each sequence number is 1
  first_low : (r : RouterConf) (id : LspId) → AllByRecursion (UpTo id 1) (first_control r).entries
  first_low r id = subst (AllByRecursion (UpTo id 1)) (sym (first_entries r)) ((λ is. (let one = own_seq r (replicate (length r.ends) true) 1 in omega (arith, one))), tt)

  first_number : (a : ℕ) (id : LspId) → number_in (lsdb_of (slice_get (map first_control d.routers) a)) id ≤ 1
  first_number a id = by (slice_get (map first_control d.routers) a) refl
    where
      each : AllByRecursion (λ (c : Control). AllByRecursion (UpTo id 1) c.entries) (map first_control d.routers)
      each = each_mapped (λ (c : Control). AllByRecursion (UpTo id 1) c.entries) first_control d.routers (each_from (λ r. AllByRecursion (UpTo id 1) (first_control r).entries) (λ r. first_low r id) d.routers)

      by : (o : Option Control) → slice_get (map first_control d.routers) a ≡ o → number_in (lsdb_of o) id ≤ 1
      by None at = omega arith
      by (Some c) at = number_low c.entries id 1 (each_got (λ (x : Control). AllByRecursion (UpTo id 1) x.entries) (map first_control d.routers) a c each at)

  first_own_number : (r : RouterConf) → number_in (first_control r).entries (fragment_0 (first_control r).conf.system) ≡ 1
  first_own_number r =
      let up = replicate (length r.ends) true in
      ap (λ (q : RouterConf). number_in (first_control r).entries (fragment_0 q.system)) (first_conf r)
      ∙ ap (λ (es : List Entry). number_in es (fragment_0 r.system)) (first_entries r)
      ∙ ap (λ (b : Bool). seq_of (if b then Some (first_own r 1) else None)) (ap (λ (id : LspId). same_id id (fragment_0 r.system)) (own_id r up 1) ∙ same_id_self (fragment_0 r.system))
      ∙ own_seq r up 1

  first_newest : (r : RouterConf) → IsOwnNewest (first_world d) (first_control r)
  unfolding first_world
  first_newest r = newest_of (first_world d) (first_control r) 1 (first_unspent r) (first_own_number r) (omega arith) (omega arith) (λ a. first_number a (fragment_0 (first_control r).conf.system))

  pub kept_first : IsKeptBy (first_world d)
  unfolding first_world
  kept_first = record {
    journal = journal;
    journaled = record {
      entries = each_mapped (λ (c : Control). AreOfJournal journal c.entries) first_control d.routers (each_by_place (λ r. AreOfJournal journal (first_control r).entries) d.routers first_of);
      items = none_queued (λ a link. IsItemOfJournal journal) d.routers;
    };
    own = each_mapped (IsOwnNewest (first_world d)) first_control d.routers (each_from (λ r. IsOwnNewest (first_world d) (first_control r)) first_newest d.routers);
  }
