-- An LSDB has no more entries than the domain has routers, so that it is never full: each entry is a router's, and no
-- two are one router's.
use Rattle.std.proofs.Common.{◌≡◌, ℕ, zero, suc, ◌≤◌, not, Bool, true, false, List, [], ◌∷◌, length, filter, slice_get, Some, refl, sym, ap, ◌∙◌, arith}
use mathlib.Core.Bool.{false≢true, true≢false}
use Rattle.std.specs.List.{AllByRecursion}
use Rattle.std.proofs.lemmas.Bool.{lt-leb}
use Rattle.std.proofs.lemmas.List.{length-map}
use Rattle.std.proofs.lemmas.Option.{same_Some}
use Rattle.wire_base.specs.declared.limits.TheConstants.{MOST_ENTRIES, MOST_ROUTERS}
use Rattle.wire_base.specs.declared.addresses.LspId.{LspId}
use Rattle.wire_base.specs.declared.conf.RouterConf.{RouterConf}
use Rattle.wire_base.specs.declared.entry.Entry.{Entry}
use Rattle.wire_base.specs.model.Control.{same_id, is_below, AreAscending, ids_of, is_full, fragment_0}
use Rattle.wire_base.proofs.OrderLaws.{below_differs, same_turned}
use Rattle.domain_model.specs.Truth.{IsNamed, IsTrueEntry}
use Rattle.domain_model.proofs.EachLaws.{each_weaker, each_both, each_kept, each_passing}
use Rattle.domain_model.proofs.FlagLaws.{same_id_is, same_id_self}

-- those that are another identifier
abbrev others : LspId → List LspId → List LspId
others x ids = filter (λ i. not (same_id i x)) ids

not_false : (b : Bool) → not b ≡ true → b ≡ false
not_false true h = absurd (false≢true h)
not_false false h = refl

all_others : (x : LspId) (ids : List LspId) → AllByRecursion (λ i. is_below x i ≡ true) ids → length (others x ids) ≡ length ids
all_others x [] all = refl
all_others x (i ∷ ids) all = rw (same_turned i x ∙ below_differs x i all.0) (ap suc (all_others x ids all.1))

-- of identifiers in order at most one is that one
one_less : (x : LspId) (ids : List LspId) → AreAscending ids → length ids ≤ suc (length (others x ids))
one_less x [] asc = omega arith
one_less x (i ∷ ids) asc = by (same_id i x) refl (one_less x ids asc.1)
  where
    by : (b : Bool) → same_id i x ≡ b → length ids ≤ suc (length (others x ids)) → length (i ∷ ids) ≤ suc (length (others x (i ∷ ids)))
    by true t more =
        let same : length (others x ids) ≡ length ids = ap (λ (y : LspId). length (others y ids)) (sym (same_id_is i x t)) ∙ all_others i ids asc.0 in
        rw t (omega (arith, same))
    by false t more = rw t (omega (arith, more))

below_kept : (p : LspId → Bool) (x : LspId) (ids : List LspId) → AllByRecursion (λ i. is_below x i ≡ true) ids → AllByRecursion (λ i. is_below x i ≡ true) (filter p ids)
below_kept p x ids all = each_kept (λ i. is_below x i ≡ true) p ids all

kept_ascends : (p : LspId → Bool) (ids : List LspId) → AreAscending ids → AreAscending (filter p ids)
kept_ascends p [] asc = tt
kept_ascends p (i ∷ ids) asc = by (p i) refl (kept_ascends p ids asc.1)
  where
    by : (b : Bool) → p i ≡ b → AreAscending (filter p ids) → AreAscending (filter p (i ∷ ids))
    by true t more = rw t (below_kept p i ids asc.0, more)
    by false t more = rw t more

-- what is named by the routers and isn't the first's is named by the rest
named_later : (r : RouterConf) (rs : List RouterConf) (i : LspId) → same_id i (fragment_0 r.system) ≡ false → IsNamed (r ∷ rs) i → IsNamed rs i
named_later r rs i other n = at n.among.place n.among.there
  where
    at : (place : ℕ) → slice_get (r ∷ rs) place ≡ Some n.router → IsNamed rs i
    at zero e =
        let same : i ≡ fragment_0 r.system = n.is ∙ ap (λ (q : RouterConf). fragment_0 q.system) (sym (same_Some r n.router e)) in
        absurd (true≢false (sym (same_id_self (fragment_0 r.system)) ∙ ap (λ (j : LspId). same_id j (fragment_0 r.system)) (sym same) ∙ other))
    at (suc place) e = record { router = n.router; among = record { place = place; there = e }; is = n.is }

named_few : (confs : List RouterConf) (ids : List LspId) → AreAscending ids → AllByRecursion (IsNamed confs) ids → length ids ≤ length confs
named_few [] [] asc all = omega arith
named_few [] (i ∷ ids) asc all = absurd (none all.0.router all.0.among.place all.0.among.there)
  where
    none : (r : RouterConf) (place : ℕ) → slice_get {X = RouterConf} [] place ≡ Some r → ⊥
    none r place e = cc
named_few (r ∷ rs) ids asc all =
    let x = fragment_0 r.system in
    let rest : AllByRecursion (IsNamed rs) (others x ids) =
    each_weaker _ (IsNamed rs) (λ (i : LspId) h. named_later r rs i (not_false (same_id i x) h.1) h.0) (others x ids)
    (each_both (IsNamed (r ∷ rs)) (λ i. not (same_id i x) ≡ true) (others x ids) (each_kept (IsNamed (r ∷ rs)) (λ i. not (same_id i x)) ids all) (each_passing (λ i. not (same_id i x)) ids)) in
    let few = named_few rs (others x ids) (kept_ascends (λ i. not (same_id i x)) ids asc) rest in
    let one = one_less x ids asc in
    omega (arith, few, one)

ids_named : (confs : List RouterConf) (es : List Entry) → AllByRecursion (IsTrueEntry confs) es → AllByRecursion (IsNamed confs) (ids_of es)
ids_named confs [] all = tt
ids_named confs (e ∷ es) all = (all.0.named, ids_named confs es all.1)

pub entries_few : (confs : List RouterConf) (es : List Entry) → AreAscending (ids_of es) → AllByRecursion (IsTrueEntry confs) es → length es ≤ length confs
entries_few confs es asc all =
    let few = named_few confs (ids_of es) asc (ids_named confs es all) in
    let long = length-map es (λ (e : Entry). e.id) in
    omega (arith, few, long)

pub never_full : (confs : List RouterConf) (es : List Entry) → length confs ≤ MOST_ROUTERS → AreAscending (ids_of es) → AllByRecursion (IsTrueEntry confs) es → is_full es ≡ false
never_full confs es small asc all = lt-leb MOST_ENTRIES (length es) (let few = entries_few confs es asc all in omega (arith, few, small))
