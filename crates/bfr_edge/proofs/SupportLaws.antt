-- A router supports a length exactly where it has a BIFT-id for some set of it.
use Rattle.std.proofs.Common.{◌≡◌, ◌↔◌, ℕ, ◌==◌, ◌&&◌, ◌||◌, Bool, true, false, List, [], ◌∷◌, Option, Some, None, is_some, is_none, find, if◌then◌else◌, refl, ap, sym, ◌∙◌, arith, inl, inr}
use Rattle.std.specs.List.{list_any}
use Rattle.std.proofs.lemmas.Bool.{cases_Bool, true≢false, eq-eqb, le-leb}
use Rattle.wire_base.specs.declared.bsl.Bsl.{Bsl}
use Rattle.wire_base.specs.declared.conf.Kind.{Kind}
use Rattle.wire_base.specs.declared.conf.Kind.TheVariants.{Mpls, Configured}
use Rattle.wire_base.specs.declared.conf.LabelRange.{LabelRange}
use Rattle.wire_base.specs.declared.conf.TableRow.{TableRow}
use Rattle.wire_base.specs.declared.conf.RouterConf.{RouterConf}
use Rattle.wire_base.specs.declared.triple.Triple.{Triple}
use Rattle.wire_base.specs.model.Place.{code_of, own_id, kind_of, ranges_in, label_in, row_in, same_triple, own_bift}
use Rattle.wire_base.specs.declared.faults.EdgeFault.{EdgeFault}
use Rattle.wire_base.specs.declared.faults.EdgeFault.TheVariants.{NoEgress, IdZero, NotBfr, BslUnknown}
use Rattle.wire_base.specs.model.Ingress.{has_length, supports_length, edge_fault, large_fault, router_fault, is_large}

abbrev set : ℕ → Bsl → ℕ → Triple
set sd bsl si = record { sd = sd; bsl = bsl; si = si }

from-range : (sd : ℕ) (bsl : Bsl) (xs : List LabelRange) → list_any (λ x. code_of x.bsl == code_of bsl) xs ≡ true → is_some (label_in xs (set sd bsl 0)) ≡ true
from-range sd bsl [] q = absurd (true≢false (sym q))
from-range sd bsl (x ∷ xs) q = elim (cases_Bool (code_of x.bsl == code_of bsl)) [
  | inl same ↦ rw (same, le-leb 0 x.max_si (omega arith)) refl
  | inr other ↦ rw other (from-range sd bsl xs (rw other at q))
]

to-range : (sd si : ℕ) (bsl : Bsl) (xs : List LabelRange) → is_some (label_in xs (set sd bsl si)) ≡ true → list_any (λ x. code_of x.bsl == code_of bsl) xs ≡ true
to-range sd si bsl [] q = absurd (true≢false (sym q))
to-range sd si bsl (x ∷ xs) q = elim (cases_Bool (code_of x.bsl == code_of bsl)) [
  | inl same ↦ rw same refl
  | inr other ↦ rw other (to-range sd si bsl xs (rw other at q))
]

from-row : (sd : ℕ) (bsl : Bsl) (rows : List TableRow) → list_any (λ row. (row.triple.sd == sd) && (code_of row.triple.bsl == code_of bsl)) rows ≡ true → (si : ℕ) × (is_some (row_in rows (set sd bsl si)) ≡ true)
from-row sd bsl [] q = absurd (true≢false (sym q))
from-row sd bsl (row ∷ rows) q = elim (cases_Bool ((row.triple.sd == sd) && (code_of row.triple.bsl == code_of bsl))) [
  | inl same ↦ (row.triple.si, rw (whole (row.triple.sd == sd) (code_of row.triple.bsl == code_of bsl) (row.triple.si == row.triple.si) same (eq-eqb row.triple.si row.triple.si refl)) refl)
  | inr other ↦ (let later = from-row sd bsl rows (rw other at q) in (later.0, past (same_triple row.triple (set sd bsl later.0)) later.0 later.1))
]
  where
    whole : (a b c : Bool) → (a && b) ≡ true → c ≡ true → (a && (b && c)) ≡ true
    whole true true true p r = refl
    whole true true false p r = r
    whole true false c p r = p
    whole false b c p r = p

    past : (b : Bool) (si : ℕ) → is_some (row_in rows (set sd bsl si)) ≡ true → is_some (if b then Some row.bift else row_in rows (set sd bsl si)) ≡ true
    past true si r = refl
    past false si r = r

to-row : (sd si : ℕ) (bsl : Bsl) (rows : List TableRow) → is_some (row_in rows (set sd bsl si)) ≡ true → list_any (λ row. (row.triple.sd == sd) && (code_of row.triple.bsl == code_of bsl)) rows ≡ true
to-row sd si bsl [] q = absurd (true≢false (sym q))
to-row sd si bsl (row ∷ rows) q = go (row.triple.sd == sd) (code_of row.triple.bsl == code_of bsl) (row.triple.si == si) q (λ r. to-row sd si bsl rows r)
  where
    go : (a b c : Bool) → is_some (if (a && (b && c)) then Some row.bift else row_in rows (set sd bsl si)) ≡ true → (is_some (row_in rows (set sd bsl si)) ≡ true → list_any (λ r. (r.triple.sd == sd) && (code_of r.triple.bsl == code_of bsl)) rows ≡ true) → ((a && b) || list_any (λ r. (r.triple.sd == sd) && (code_of r.triple.bsl == code_of bsl)) rows) ≡ true
    go true true c q later = refl
    go true false c q later = later q
    go false b c q later = later q

pub supports-is : (r : RouterConf) (sd : ℕ) (bsl : Bsl) → (supports_length r sd bsl ≡ true) ↔ ((si : ℕ) × (is_some (own_bift r (record { sd = sd; bsl = bsl; si = si })) ≡ true))
supports-is r sd bsl = (λ q. from (ranges_in r.subs sd) refl (kind_of r.kinds sd) refl q, λ x. to (ranges_in r.subs sd) refl (kind_of r.kinds sd) refl x.0 x.1)
  where
    from : (o : Option (List LabelRange)) → ranges_in r.subs sd ≡ o → (k : Option Kind) → kind_of r.kinds sd ≡ k → has_length k r.table sd bsl o ≡ true → (si : ℕ) × (is_some (own_bift r (set sd bsl si)) ≡ true)
    from None e k f q = absurd (true≢false (sym q))
    from (Some ranges) e None f q = absurd (true≢false (sym q))
    from (Some ranges) e (Some Mpls) f q = (0, rw (e, f) (from-range sd bsl ranges q))
    from (Some ranges) e (Some Configured) f q = let x = from-row sd bsl r.table q in (x.0, rw (e, f) x.1)

    to : (o : Option (List LabelRange)) → ranges_in r.subs sd ≡ o → (k : Option Kind) → kind_of r.kinds sd ≡ k → (si : ℕ) → is_some (own_bift r (set sd bsl si)) ≡ true → has_length k r.table sd bsl o ≡ true
    to None e k f si q = absurd (true≢false (sym (rw e at q)))
    to (Some ranges) e None f si q = absurd (true≢false (sym (rw (e, f) at q)))
    to (Some ranges) e (Some Mpls) f si q = to-range sd si bsl ranges (rw (e, f) at q)
    to (Some ranges) e (Some Configured) f si q = to-row sd si bsl r.table (rw (e, f) at q)

-- ---- what the ingress answers

unknown-router : (r : RouterConf) (sd : ℕ) (bsl : Bsl) → router_fault r sd bsl ≡ Some BslUnknown → supports_length r sd bsl ≡ false
unknown-router r sd bsl q = on (is_none (own_id r sd)) (supports_length r sd bsl) q
  where
    on : (a b : Bool) → (if a then Some NotBfr else if b then None else Some BslUnknown) ≡ Some BslUnknown → b ≡ false
    on true b e = cc
    on false true e = cc
    on false false e = refl

known-router : (r : RouterConf) (sd : ℕ) (bsl : Bsl) → router_fault r sd bsl ≡ None → supports_length r sd bsl ≡ true
known-router r sd bsl q = on (is_none (own_id r sd)) (supports_length r sd bsl) q
  where
    on : (a b : Bool) → (if a then Some NotBfr else if b then None else Some BslUnknown) ≡ None → b ≡ true
    on true b e = cc
    on false true e = refl
    on false false e = cc

-- the faults of the ids come first
to-router : (r : RouterConf) (sd : ℕ) (bsl : Bsl) (ids : List ℕ) (P : Option EdgeFault → Type 0) → ((f : EdgeFault) → P (Some f) → f ≡ BslUnknown) → P (edge_fault r sd bsl ids) → P (router_fault r sd bsl)
unfolding edge_fault
to-router r sd bsl [] P only q = cc (only NoEgress q)
to-router r sd bsl (k ∷ ks) P only q = zero (list_any (λ i. i == 0) (k ∷ ks)) q
  where
    large : (o : Option ℕ) → P (large_fault r sd bsl o) → P (router_fault r sd bsl)
    large (Some i) p = cc (only _ p)
    large None p = p

    zero : (b : Bool) → P (if b then Some IdZero else large_fault r sd bsl (find (is_large bsl) (k ∷ ks))) → P (router_fault r sd bsl)
    zero true p = cc (only IdZero p)
    zero false p = large (find (is_large bsl) (k ∷ ks)) p

-- A length is unknown exactly where no set of it has a BIFT-id.
pub unsupported_is : (r : RouterConf) (sd : ℕ) (bsl : Bsl) (ids : List ℕ) → edge_fault r sd bsl ids ≡ Some BslUnknown → (si : ℕ) → own_bift r (record { sd = sd; bsl = bsl; si = si }) ≡ None
unsupported_is r sd bsl ids q si = on (own_bift r (set sd bsl si)) refl
  where
    none : supports_length r sd bsl ≡ false
    none = unknown-router r sd bsl (to-router r sd bsl ids (λ o. o ≡ Some BslUnknown) (λ f e. cc) q)

    on : (o : Option ℕ) → own_bift r (set sd bsl si) ≡ o → o ≡ None
    on None e = refl
    on (Some b) e = absurd (true≢false (sym ((supports-is r sd bsl).1 (si, ap (λ (o : Option ℕ). is_some o) e)) ∙ none))

pub supported_is : (r : RouterConf) (sd : ℕ) (bsl : Bsl) (ids : List ℕ) → edge_fault r sd bsl ids ≡ None → (si : ℕ) × (is_some (own_bift r (record { sd = sd; bsl = bsl; si = si })) ≡ true)
supported_is r sd bsl ids q = (supports-is r sd bsl).0 (known-router r sd bsl (to-router r sd bsl ids (λ o. o ≡ None) (λ f e. cc) q))
