-- The packets of an injection that is allowed, and the copies that they make.
use Rattle.std.proofs.Common.{◌≡◌, ℕ, ◌+◌, ◌*◌, ◌<◌, ◌≤◌, ◌^◌, ◌==◌, ◌||◌, nat_lt, Bool, true, false, if◌then◌else◌, List, [], ◌∷◌, length, map, filter, slice_get, Option, Some, None, is_none, unwrap_or, refl, sym, ap, subst, ◌∙◌, arith}
use mathlib.Core.Bool.{false≢true, true≢false}
use Rattle.std.specs.Prelude.{find}
use Rattle.std.specs.List.{AllByRecursion, list_any}
use Rattle.std.proofs.lemmas.Option.{same_Some}
use Rattle.std.proofs.lemmas.Bool.{cond_both, eqb-true, eqb-false, eq-eqb, ltb-false}
use Rattle.wire_base.specs.declared.bsl.Bsl.{Bsl}
use Rattle.wire_base.specs.declared.bsl.Bsl.TheVariants.{B64, B128, B256, B512, B1024, B2048, B4096}
use Rattle.wire_base.specs.declared.conf.Kind.{Kind}
use Rattle.wire_base.specs.declared.conf.Kind.TheVariants.{Mpls}
use Rattle.wire_base.specs.declared.conf.LabelRange.{LabelRange}
use Rattle.wire_base.specs.declared.conf.OwnSub.{OwnSub}
use Rattle.wire_base.specs.declared.conf.RouterConf.{RouterConf}
use Rattle.wire_base.specs.declared.conf.TableRow.{TableRow}
use Rattle.wire_base.specs.declared.faults.EdgeFault.{EdgeFault}
use Rattle.wire_base.specs.declared.faults.EdgeFault.TheVariants as faults
use Rattle.wire_base.specs.model.BitSet.{IsWithin, with_member}
use Rattle.wire_base.specs.model.Configuration.{DomainConf, IsConsistent, IsSound, IsOwnSub}
use Rattle.wire_base.specs.model.Control.{Control}
use Rattle.wire_base.specs.model.Hop.{has}
use Rattle.wire_base.specs.model.Ingress.{id_set, sets_of, IngressPacket, packet_for, packets_for, is_large, has_length, supports_length, edge_fault, ingress_kind}
use Rattle.wire_base.specs.model.Place.{bits_of, set_identifier, kind_of, sub_in, ranges_in, id_of, own_id}
use Rattle.wire_base.proofs.SetLaws.{within-filter, within-with}
use Rattle.wire_base.proofs.SoundLemmas.{sound_subs}
use Rattle.domain_model.specs.Moves.{Made, hop_made, entering_item, inject_made}
use Rattle.domain_model.specs.Truth.{IsTrueControl, InjectFits}
use Rattle.domain_model.proofs.EachLaws.{each_weaker, each_mapped, each_kept, each_passing, each_both}
use Rattle.domain_model.proofs.DomainLaws.{sound_of}
use Rattle.domain_model.proofs.HopTruth.{has_self, has_more, filter_some, IsChosen, distinct_each}
use Rattle.domain_model.proofs.CopyTruth.{SamePlaces, sub_fits, AreIds, IsTrueMade, joined_true, hop_true_here}

-- ---- what is allowed

pub record IsAllowed (r : RouterConf) (sd : ℕ) (bsl : Bsl) (ks : List ℕ) : Type 0 where
  pub some : AllByRecursion (λ k. 1 ≤ k) ks
  pub small : AllByRecursion (λ k. set_identifier (bits_of bsl) k ≤ 255) ks
  pub kind : Kind
  pub kind_is : kind_of r.kinds sd ≡ Some kind

none_zero : (ks : List ℕ) → list_any (λ k. k == 0) ks ≡ false → AllByRecursion (λ k. 1 ≤ k) ks
none_zero [] h = tt
none_zero (k ∷ ks) h = by (λ q. none_zero ks q) (k == 0) refl h
  where
    by : (list_any (λ k. k == 0) ks ≡ false → AllByRecursion (λ k. 1 ≤ k) ks) → (b : Bool) → (k == 0) ≡ b → ((k == 0) || list_any (λ k. k == 0) ks) ≡ false → AllByRecursion (λ k. 1 ≤ k) (k ∷ ks)
    by more true e h = absurd (true≢false (sym (ap (λ (b : Bool). b || list_any (λ k. k == 0) ks) e) ∙ h))
    by more false e h = (let n : k ≡ 0 → ⊥ = eqb-false k 0 e in omega (arith, n), more (rw e at h))

none_large : (bsl : Bsl) (ks : List ℕ) → find (is_large bsl) ks ≡ None → AllByRecursion (λ k. set_identifier (bits_of bsl) k ≤ 255) ks
none_large bsl [] h = tt
none_large bsl (k ∷ ks) h = by (λ q. none_large bsl ks q) (is_large bsl k) refl
  where
    by : (find (is_large bsl) ks ≡ None → AllByRecursion (λ k. set_identifier (bits_of bsl) k ≤ 255) ks) → (b : Bool) → is_large bsl k ≡ b → AllByRecursion (λ k. set_identifier (bits_of bsl) k ≤ 255) (k ∷ ks)
    by more true e = let q : Some k ≡ None = rw e at h in cc
    by more false e = (ltb-false 255 (set_identifier (bits_of bsl) k) e, more (rw e at h))

supported_kind : (o : Option Kind) (rows : List TableRow) (sd : ℕ) (bsl : Bsl) (ranges : Option (List LabelRange)) → has_length o rows sd bsl ranges ≡ true → (kind : Kind) × (o ≡ Some kind)
supported_kind o rows sd bsl None h = absurd (false≢true h)
supported_kind None rows sd bsl (Some ranges) h = absurd (false≢true h)
supported_kind (Some kind) rows sd bsl (Some ranges) h = (kind, refl)

pub allowed_of : (r : RouterConf) (sd : ℕ) (bsl : Bsl) (ks : List ℕ) → edge_fault r sd bsl ks ≡ None → IsAllowed r sd bsl ks
unfolding edge_fault
allowed_of r sd bsl [] q = cc
allowed_of r sd bsl (k ∷ ks) q = zeros (list_any (λ j. j == 0) (k ∷ ks)) refl (find (is_large bsl) (k ∷ ks)) refl (is_none (own_id r sd)) refl (supports_length r sd bsl) refl
  where
    none_some : (e : EdgeFault) → Some e ≡ None → ⊥
    none_some e h = cc

    zeros : (a : Bool) → list_any (λ j. j == 0) (k ∷ ks) ≡ a → (o : Option ℕ) → find (is_large bsl) (k ∷ ks) ≡ o → (b : Bool) → is_none (own_id r sd) ≡ b → (s : Bool) → supports_length r sd bsl ≡ s → IsAllowed r sd bsl (k ∷ ks)
    zeros true a o e b f s g = let z : Some faults.IdZero ≡ None = rw a at q in absurd (none_some faults.IdZero z)
    zeros false a (Some j) e b f s g = let z : Some (faults.SiLarge j) ≡ None = rw (a, e) at q in absurd (none_some (faults.SiLarge j) z)
    zeros false a None e true f s g = let z : Some faults.NotBfr ≡ None = rw (a, e, f) at q in absurd (none_some faults.NotBfr z)
    zeros false a None e false f false g = let z : Some faults.BslUnknown ≡ None = rw (a, e, f, g) at q in absurd (none_some faults.BslUnknown z)
    zeros false a None e false f true g =
        let kind = supported_kind (kind_of r.kinds sd) r.table sd bsl (ranges_in r.subs sd) g in
        record { some = none_zero (k ∷ ks) a; small = none_large bsl (k ∷ ks) e; kind = kind.0; kind_is = kind.1 }

-- ---- the packets

member_each : (P : ℕ → Type 0) (k : ℕ) (ks : List ℕ) → P k → AllByRecursion P ks → AllByRecursion P (with_member k ks)
member_each P k [] h all = (h, tt)
member_each P k (x ∷ xs) h all =
    cond_both (nat_lt k x) (k ∷ x ∷ xs) (if k == x then x ∷ xs else x ∷ with_member k xs) (AllByRecursion P) (λ e. (h, all))
    (λ e. cond_both (k == x) (x ∷ xs) (x ∷ with_member k xs) (AllByRecursion P) (λ f. all) (λ f. (all.0, member_each P k xs h all.1)))

set_each : (P : ℕ → Type 0) (ks : List ℕ) → AllByRecursion P ks → AllByRecursion P (id_set ks)
set_each P [] all = tt
set_each P (k ∷ ks) all = member_each P k (id_set ks) all.0 (set_each P ks all.1)

set_within : (ks : List ℕ) → AllByRecursion (λ k. 1 ≤ k) ks → AllByRecursion (λ k. k < 2 ^ 16) ks → IsWithin 0 65535 (id_set ks)
set_within [] some small = tt
set_within (k ∷ ks) some small = within-with 0 65535 k (id_set ks) (omega (arith, some.0)) (omega (arith, small.0)) (set_within ks some.1 small.1)

-- an id's place in its set
pub record IsInSet (bits si k : ℕ) : Type 0 where
  pub above : si * bits < k
  pub below : k ≤ si * bits + bits

in_set : (bsl : Bsl) (k si : ℕ) → 1 ≤ k → set_identifier (bits_of bsl) k ≡ si → IsInSet (bits_of bsl) si k
in_set B64 k si some is = record { above = omega (arith, some, is); below = omega (arith, some, is) }
in_set B128 k si some is = record { above = omega (arith, some, is); below = omega (arith, some, is) }
in_set B256 k si some is = record { above = omega (arith, some, is); below = omega (arith, some, is) }
in_set B512 k si some is = record { above = omega (arith, some, is); below = omega (arith, some, is) }
in_set B1024 k si some is = record { above = omega (arith, some, is); below = omega (arith, some, is) }
in_set B2048 k si some is = record { above = omega (arith, some, is); below = omega (arith, some, is) }
in_set B4096 k si some is = record { above = omega (arith, some, is); below = omega (arith, some, is) }

within_set : (bits si low high : ℕ) (ks : List ℕ) → IsWithin low high ks → AllByRecursion (IsInSet bits si) ks → IsWithin (si * bits) (si * bits + bits) ks
within_set bits si low high [] w all = tt
within_set bits si low high (k ∷ ks) w all = (all.0.above, all.0.below, rest k high ks w.2 all.1)
  where
    rest : (low high : ℕ) (xs : List ℕ) → IsWithin low high xs → AllByRecursion (IsInSet bits si) xs → IsWithin low (si * bits + bits) xs
    rest low high [] w all = tt
    rest low high (x ∷ xs) w all = (w.0, all.0.below, rest x high xs w.2 all.1)

mapped_chosen : (f : ℕ → ℕ) (ks : List ℕ) → AllByRecursion (IsChosen (λ k. Some (f k)) ks) (map f ks)
mapped_chosen f [] = tt
mapped_chosen f (k ∷ ks) = (
  record { id = k; here = has_self k ks; is = refl },
  each_weaker (IsChosen (λ k. Some (f k)) ks) (IsChosen (λ k. Some (f k)) (k ∷ ks)) (λ y c. record { id = c.id; here = has_more k c.id ks c.here; is = c.is }) (map f ks) (mapped_chosen f ks),
)

has_each : (P : ℕ → Type 0) (ks : List ℕ) (k : ℕ) → AllByRecursion P ks → has ks k ≡ true → P k
has_each P [] k all h = absurd (false≢true h)
has_each P (j ∷ ks) k all h = by (λ q. has_each P ks k all.1 q) (j == k) refl h
  where
    by : (has ks k ≡ true → P k) → (b : Bool) → (j == k) ≡ b → ((j == k) || has ks k) ≡ true → P k
    by more true e h = subst P (eqb-true j k e) all.0
    by more false e h = more (rw e at h)

-- a packet of an injection
pub record IsEntry (sd : ℕ) (bsl : Bsl) (p : IngressPacket) : Type 0 where
  pub sd_is : p.triple.sd ≡ sd
  pub si : p.triple.si < 2 ^ 8
  pub ids : AreIds p.triple p.ids
  pub some : p.ids ≡ [] → ⊥

pub packets_true : (r : RouterConf) (sd : ℕ) (bsl : Bsl) (ks : List ℕ) → IsAllowed r sd bsl ks → AllByRecursion (λ k. k < 2 ^ 16) ks → AllByRecursion (IsEntry sd bsl) (packets_for sd bsl ks)
unfolding packets_for
packets_true r sd bsl ks allowed small =
    let bits = bits_of bsl in
    let set = id_set ks in
    let within = set_within ks allowed.some small in
    each_mapped (IsEntry sd bsl) (packet_for sd bsl ks) (sets_of bsl ks)
    (each_weaker (IsChosen (λ k. Some (set_identifier bits k)) set) (λ si. IsEntry sd bsl (packet_for sd bsl ks si)) one (sets_of bsl ks)
    (distinct_each (IsChosen (λ k. Some (set_identifier bits k)) set) (map (set_identifier bits) set) (mapped_chosen (set_identifier bits) set)))
  where
    one : (si : ℕ) → IsChosen (λ k. Some (set_identifier (bits_of bsl) k)) (id_set ks) si → IsEntry sd bsl (packet_for sd bsl ks si)
    one si c =
        let bits = bits_of bsl in
        let set = id_set ks in
        let p : ℕ → Bool = λ k. set_identifier bits k == si in
        let is : set_identifier bits c.id ≡ si = same_Some (set_identifier bits c.id) si c.is in
        let low : set_identifier bits c.id ≤ 255 = has_each (λ k. set_identifier bits k ≤ 255) set c.id (set_each (λ k. set_identifier bits k ≤ 255) ks allowed.small) c.here in
        let kept : AllByRecursion (λ k. (1 ≤ k) × (p k ≡ true)) (filter p set) = each_both (λ k. 1 ≤ k) (λ k. p k ≡ true) (filter p set) (each_kept (λ k. 1 ≤ k) p set (set_each (λ k. 1 ≤ k) ks allowed.some)) (each_passing p set) in
        let places : AllByRecursion (IsInSet bits si) (filter p set) = each_weaker (λ k. (1 ≤ k) × (p k ≡ true)) (IsInSet bits si) (λ k h. in_set bsl k si h.0 (eqb-true (set_identifier bits k) si h.1)) (filter p set) kept in
        record {
          sd_is = refl;
          si = omega (arith, is, low);
          ids = record {
            of_set = within_set bits si 0 65535 (filter p set) (within-filter 0 65535 p set (set_within ks allowed.some small)) places;
            bfr_ids = each_kept (λ k. k < 2 ^ 16) p set (set_each (λ k. k < 2 ^ 16) ks small);
          };
          some = filter_some p c.id set c.here (eq-eqb (set_identifier bits c.id) si is);
        }

-- ---- an injection

own_small : (r : RouterConf) (sd : ℕ) → IsSound r → unwrap_or (own_id r sd) 0 < 2 ^ 16
own_small r sd sound = by (sub_in r.subs sd) refl
  where
    by : (o : Option OwnSub) → sub_in r.subs sd ≡ o → unwrap_or (id_of o) 0 < 2 ^ 16
    by None e = omega arith
    by (Some s) e =
        let own = sub_fits r.subs sd s (sound_subs r sound).each e in
        at (s.id == 0) refl own
      where
        at : (b : Bool) → (s.id == 0) ≡ b → IsOwnSub s → unwrap_or (if b then None else Some s.id) 0 < 2 ^ 16
        at true f own = omega arith
        at false f own = omega (arith, own.id)

entry_kind : (r : RouterConf) (sd : ℕ) (kind : Kind) → kind_of r.kinds sd ≡ Some kind → kind_of r.kinds sd ≡ Some (ingress_kind r sd)
entry_kind r sd kind is = is ∙ ap (λ (o : Option Kind). Some (unwrap_or o Mpls)) (sym is)

pub inject_true : (old : List RouterConf) (d : DomainConf) → IsConsistent d → SamePlaces old d.routers → (injections a : ℕ) (c : Control) → slice_get d.routers a ≡ Some c.conf → IsTrueControl d.routers c → (sd : ℕ) (bsl : Bsl) (ks : List ℕ) (ttl entropy : ℕ) (payload : List ℕ) → InjectFits (length old) a sd ks ttl entropy payload → edge_fault c.conf sd bsl ks ≡ None
    → IsTrueMade old d.routers (injections + 1) (inject_made old a c (injections + 1) sd bsl ks ttl entropy payload)
unfolding inject_made
inject_true old d valid places injections a c at t sd bsl ks ttl entropy payload fits ok =
    let allowed = allowed_of c.conf sd bsl ks ok in
    joined_true old d.routers (injections + 1) (map enter (packets_for sd bsl ks))
    (each_mapped (IsTrueMade old d.routers (injections + 1)) enter (packets_for sd bsl ks)
    (each_weaker (IsEntry sd bsl) (λ p. IsTrueMade old d.routers (injections + 1) (enter p)) (one allowed) (packets_for sd bsl ks) (packets_true c.conf sd bsl ks allowed fits.bfr_ids)))
  where
    enter : IngressPacket → Made
    enter p = hop_made old a c (entering_item c.conf (injections + 1) ttl entropy payload p) (ttl + 1)

    one : IsAllowed c.conf sd bsl ks → (p : IngressPacket) → IsEntry sd bsl p → IsTrueMade old d.routers (injections + 1) (enter p)
    one allowed p k =
        hop_true_here old d valid places (injections + 1) a c at t (entering_item c.conf (injections + 1) ttl entropy payload p) (ttl + 1)
        (record {
          told = omega arith;
          made = omega arith;
          entropy = fits.entropy_fits;
          bfir = own_small c.conf p.triple.sd (sound_of d valid c.conf t.among);
          payload = fits.short;
          sd = omega (arith, k.sd_is, fits.sd_fits);
          si = k.si;
          kind = entry_kind c.conf p.triple.sd allowed.kind (ap (kind_of c.conf.kinds) k.sd_is ∙ allowed.kind_is);
        })
        k.ids (omega (arith, fits.ttl_fits))
