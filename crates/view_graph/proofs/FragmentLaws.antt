-- The fragments of a system stand together, from its fragment 0 on, since entries ascend.
use mathlib.Core.Bool.{false≢true}
use Rattle.std.proofs.Common.{◌≡◌, ℕ, zero, suc, ◌+◌, ◌-◌, ◌<◌, ◌≤◌, ◌==◌, nat_lt, Bool, true, false, if◌then◌else◌, List, [], ◌∷◌, ◌++◌, length, get_or, take, drop, map, filter, Some, slice_get, refl, sym, ap, subst, ◌∙◌, arith, append-nil}
use Rattle.std.specs.declared.cmp.Ordering.{Ordering}
use Rattle.std.specs.declared.cmp.Ordering.TheVariants.{Less, Equal, Greater}
use Rattle.std.specs.Ordering.{nat_cmp, ordering_then, is_eq, is_lt}
use Rattle.std.specs.List.{AllByRecursion, flat_map}
use Rattle.std.proofs.Math.Seq.{take-suc}
use Rattle.std.proofs.lemmas.Bool.{eqb-true, ltb-true}
use Rattle.std.proofs.lemmas.Grind.{flat_map-append}
use Rattle.std.proofs.lemmas.List.{append_assoc, map-append, drop_more, get_or-drop, length-drop}
use Rattle.std.proofs.lemmas.List.Elements.{filter-append}
use Rattle.std.proofs.lemmas.Option.{get_or_from_slice_get, slice_get_within}
use Rattle.std.proofs.lemmas.Slice.Eq.{bytes_eq-Decides}
use Rattle.wire_base.specs.declared.addresses.SystemId.{SystemId}
use Rattle.wire_base.specs.declared.addresses.LspId.{LspId}
use Rattle.wire_base.specs.declared.conf.SubKind.{SubKind}
use Rattle.wire_base.specs.declared.entry.Entry.{Entry}
use Rattle.wire_base.specs.model.Control.{same_system, system_order, is_below, AreAscending, ids_of}
use Rattle.wire_base.specs.model.Tlv.{Tlv, tlvs_before}
use Rattle.wire_base.specs.model.View.{Claim, is_part_of, links_in, subs_in, tlvs_of, claim_of, is_other, with_known}
use Rattle.view_graph.specs.Edges.{is_before}
use Rattle.view_graph.specs.Keep.{is_first_of}
use Rattle.view_graph.specs.Places.{Begins, IsAdding, is_live_part}
use Rattle.view_graph.proofs.SystemLaws.{tie_is_same, before_trans, before_differs, same_turned}
use Rattle.laws_format.proofs.InfoLaws.{all_weaker}
use Rattle.view_graph.proofs.GraphLaws.{and_both}

pub same_is : (a b : SystemId) → same_system a b ≡ true → a ≡ b
same_is a b h = rw ((bytes_eq-Decides a.0 b.0).0 h) refl

-- what is above an identifier is above all systems that the system of that one is above
above_step : (s : SystemId) (a b : LspId) → is_before s a.system ≡ true → is_below a b ≡ true → is_before s b.system ≡ true
above_step s a b h below = by (system_order a.system b.system) refl below
  where
    by : (o : Ordering) → system_order a.system b.system ≡ o → is_below a b ≡ true → is_before s b.system ≡ true
    by Less e k = before_trans s a.system b.system h (ap is_lt e)
    by Equal e k = subst (λ t. is_before s t ≡ true) (same_is a.system b.system (sym (tie_is_same a.system b.system) ∙ ap is_eq e)) h
    by Greater e k = absurd (false≢true (sym (ap (λ o. is_lt (ordering_then o (ordering_then (nat_cmp a.pseudonode b.pseudonode) (nat_cmp a.fragment b.fragment)))) e) ∙ k))

all_above : (s : SystemId) (a : LspId) (ids : List LspId) → is_before s a.system ≡ true → AllByRecursion (λ y. is_below a y ≡ true) ids → AllByRecursion (λ y. is_before s y.system ≡ true) ids
all_above s a ids h all = all_weaker (λ (y : LspId). is_below a y ≡ true) (λ (y : LspId). is_before s y.system ≡ true) (λ y k. above_step s a y h k) ids all

-- no fragment stands among the entries of higher systems
none_above : (s : SystemId) (es : List Entry) → AllByRecursion (λ y. is_before s y.system ≡ true) (ids_of es) → filter (is_part_of s) es ≡ []
none_above s [] all = refl
none_above s (e ∷ es) all = rw (same_turned e.id.system s ∙ before_differs s e.id.system all.0) (none_above s es all.1)

all_at : {X : Type 0} (P : X → Type 0) (f : Entry → X) (es : List Entry) (i : ℕ) (e : Entry) → AllByRecursion P (map f es) → i < length es → e ≡ get_or es i e → P (f e)
all_at P f [] i e all lt at = absurd (omega (arith, lt))
all_at P f (x ∷ xs) zero e all lt at = subst (λ y. P (f y)) (sym at) all.0
all_at P f (x ∷ xs) (suc i) e all lt at = all_at P f xs i e all.1 (omega (arith, lt)) at

-- what is below a fragment 0 is of a lower system
below_first : (a b : LspId) → b.pseudonode ≡ 0 → b.fragment ≡ 0 → is_below a b ≡ true → is_before a.system b.system ≡ true
below_first a b p f h = by (system_order a.system b.system) refl (rw (p, f) at h)
  where
    least : (n : ℕ) → nat_lt n 0 ≡ false
    least n = by (nat_lt n 0) refl
      where
        by : (b : Bool) → nat_lt n 0 ≡ b → b ≡ false
        by true e = absurd (omega (arith, ltb-true n 0 e))
        by false e = refl

    cases : (a b : Bool) → is_lt (ordering_then (if a then Equal else Greater) (if b then Equal else Greater)) ≡ false
    cases true true = refl
    cases true false = refl
    cases false b = refl

    never : (m n : ℕ) → is_lt (ordering_then (nat_cmp m 0) (nat_cmp n 0)) ≡ false
    never m n = rw (least m, least n) (cases (m == 0) (n == 0))

    by : (o : Ordering) → system_order a.system b.system ≡ o → is_lt (ordering_then (system_order a.system b.system) (ordering_then (nat_cmp a.pseudonode 0) (nat_cmp a.fragment 0))) ≡ true → is_before a.system b.system ≡ true
    by Less e k = ap is_lt e
    by Equal e k = absurd (false≢true (sym (never a.pseudonode a.fragment) ∙ sym (ap (λ o. is_lt (ordering_then o (ordering_then (nat_cmp a.pseudonode 0) (nat_cmp a.fragment 0)))) e) ∙ k))
    by Greater e k = absurd (false≢true (sym (ap (λ o. is_lt (ordering_then o (ordering_then (nat_cmp a.pseudonode 0) (nat_cmp a.fragment 0)))) e) ∙ k))

-- and it begins at fragment 0
parts_begin : (es : List Entry) (i : ℕ) (e : Entry) → AreAscending (ids_of es) → i < length es → e ≡ get_or es i e → e.id.pseudonode ≡ 0 → e.id.fragment ≡ 0 → filter (is_part_of e.id.system) (drop i es) ≡ filter (is_part_of e.id.system) es
parts_begin [] i e asc lt at p f = absurd (omega (arith, lt))
parts_begin (x ∷ xs) zero e asc lt at p f = refl
parts_begin (x ∷ xs) (suc i) e asc lt at p f =
    let below : is_below x.id e.id ≡ true = all_at (λ (y : LspId). is_below x.id y ≡ true) (λ (y : Entry). y.id) xs i e asc.0 (omega (arith, lt)) at in
    rw (before_differs x.id.system e.id.system (below_first x.id e.id p f below)) (parts_begin xs i e asc.1 (omega (arith, lt)) at p f)

-- the claim of a live fragment 0, from the entries from its place on
pub claim_at : (s : SystemId) (es : List Entry) (i : ℕ) (e : Entry) → AreAscending (ids_of es) → i < length es → e ≡ get_or es i e → is_first_of s e ≡ true → claim_of (drop i es) e ≡ claim_of es e
claim_at s es i e asc lt at first =
    let a = and_both _ _ first in
    let b = and_both _ _ a.1 in
    let c = and_both _ _ b.1 in
    rw (parts_begin es i e asc lt at (eqb-true _ 0 b.0) (eqb-true _ 0 c.0)) refl

first_parts : (own : SystemId) (e : Entry) → is_other own e ≡ true → (e.id.pseudonode ≡ 0) × (e.id.fragment ≡ 0)
first_parts own e h =
    let a = and_both _ _ h in
    let b = and_both _ _ a.1 in
    let c = and_both _ _ b.1 in
    (eqb-true _ 0 b.0, eqb-true _ 0 c.0)

claim_begins : (own : SystemId) (es : List Entry) (i : ℕ) (e : Entry) → AreAscending (ids_of es) → i < length es → e ≡ get_or es i e → is_other own e ≡ true → claim_of (drop i es) e ≡ claim_of es e
claim_begins own es i e asc lt at other =
    let f = first_parts own e other in
    rw (parts_begin es i e asc lt at f.0 f.1) refl

step_of : (own : SystemId) (es : List Entry) (i : ℕ) (e : Entry) → i < length es → e ≡ get_or es i e → filter (is_other own) (take (i + 1) es) ≡ filter (is_other own) (take i es) ++ filter (is_other own) (e ∷ [])
step_of own es i e lt at =
    let one : i + 1 ≡ suc i = omega arith in
    ap (λ k. filter (is_other own) (take k es)) one ∙ ap (filter (is_other own)) (take-suc es i e lt ∙ ap (λ x. take i es ++ x ∷ []) (sym at)) ∙ filter-append (is_other own) (take i es) (e ∷ [])

pub other_more : (kinds : List SubKind) (own : SystemId) (es : List Entry) (i : ℕ) (e : Entry) (k : Claim) (old new : List Claim) → AreAscending (ids_of es) → slice_get es i ≡ Some e → is_other own e ≡ true → k ≡ with_known kinds (claim_of (drop i es) e)
    → old ≡ map (with_known kinds) (map (claim_of es) (filter (is_other own) (take i es))) → new ≡ old ++ k ∷ [] → new ≡ map (with_known kinds) (map (claim_of es) (filter (is_other own) (take (i + 1) es)))
other_more kinds own es i e k old new asc at other known before step =
    let lt = slice_get_within es i e at in
    let read = sym (get_or_from_slice_get es i e e at) in
    let one : filter (is_other own) (e ∷ []) ≡ e ∷ [] = rw other refl in
    let claim : k ≡ with_known kinds (claim_of es e) = known ∙ ap (with_known kinds) (claim_begins own es i e asc lt read other) in
    step ∙ ap (λ (l : List Claim). l ++ k ∷ []) before ∙ ap (λ (x : Claim). map (with_known kinds) (map (claim_of es) (filter (is_other own) (take i es))) ++ x ∷ []) claim
    ∙ sym (ap (λ (l : List Entry). map (with_known kinds) (map (claim_of es) l)) (step_of own es i e lt read ∙ ap (λ (l : List Entry). filter (is_other own) (take i es) ++ l) one)
    ∙ ap (map (with_known kinds)) (map-append (claim_of es) (filter (is_other own) (take i es)) (e ∷ [])) ∙ map-append (with_known kinds) (map (claim_of es) (filter (is_other own) (take i es))) (claim_of es e ∷ []))

pub other_less : (kinds : List SubKind) (own : SystemId) (es : List Entry) (i : ℕ) (e : Entry) (old : List Claim) → slice_get es i ≡ Some e → is_other own e ≡ false
    → old ≡ map (with_known kinds) (map (claim_of es) (filter (is_other own) (take i es))) → old ≡ map (with_known kinds) (map (claim_of es) (filter (is_other own) (take (i + 1) es)))
other_less kinds own es i e old at other before =
    let lt = slice_get_within es i e at in
    let read = sym (get_or_from_slice_get es i e e at) in
    let none : filter (is_other own) (e ∷ []) ≡ [] = rw other refl in
    before ∙ sym (ap (λ (l : List Entry). map (with_known kinds) (map (claim_of es) l)) (step_of own es i e lt read ∙ ap (λ (l : List Entry). filter (is_other own) (take i es) ++ l) none ∙ append-nil (filter (is_other own) (take i es))))

pub ascending_rest : (es : List Entry) (i : ℕ) → AreAscending (ids_of es) → AreAscending (ids_of (drop i es))
ascending_rest [] zero asc = tt
ascending_rest [] (suc i) asc = tt
ascending_rest (x ∷ xs) zero asc = asc
ascending_rest (x ∷ xs) (suc i) asc = ascending_rest xs i asc.1

-- of an entry of the system it is left to ask whether it is live and of no pseudonode
pub part_is_live : (s : SystemId) (e : Entry) → same_system e.id.system s ≡ true → is_part_of s e ≡ is_live_part e
part_is_live s e h = rw h refl

-- ---- where the first entry is one of the system

same_self : (a b : SystemId) → a ≡ b → same_system a b ≡ true
same_self a b e = (bytes_eq-Decides a.0 b.0).1 (ap (λ (s : SystemId). s.0) e)

-- an entry of another system is of a higher one
pub differs_above : (s : SystemId) (es : List Entry) (i : ℕ) (e : Entry) → AreAscending (ids_of es) → Begins s es → i < length es → e ≡ get_or es i e → same_system e.id.system s ≡ false → is_before s e.id.system ≡ true
differs_above s [] i e asc begins lt at differs = absurd (omega (arith, lt))
differs_above s (x ∷ xs) zero e asc begins lt at differs = absurd (false≢true (sym differs ∙ same_self e.id.system s (ap (λ (y : Entry). y.id.system) at ∙ begins)))
differs_above s (x ∷ xs) (suc i) e asc begins lt at differs = subst (λ t. is_before t e.id.system ≡ true) begins (by (system_order x.id.system e.id.system) refl (all_at (λ (y : LspId). is_below x.id y ≡ true) (λ (y : Entry). y.id) xs i e asc.0 (omega (arith, lt)) at))
  where
    by : (o : Ordering) → system_order x.id.system e.id.system ≡ o → is_below x.id e.id ≡ true → is_before x.id.system e.id.system ≡ true
    by Less o k = ap is_lt o
    by Equal o k = absurd (false≢true (sym differs ∙ same_self e.id.system s (sym (same_is x.id.system e.id.system (sym (tie_is_same x.id.system e.id.system) ∙ ap is_eq o)) ∙ begins)))
    by Greater o k = absurd (false≢true (sym (ap (λ o. is_lt (ordering_then o (ordering_then (nat_cmp x.id.pseudonode e.id.pseudonode) (nat_cmp x.id.fragment e.id.fragment)))) o) ∙ k))

-- an entry and those after it
pub entry_and_rest : (es : List Entry) (i : ℕ) (e : Entry) → slice_get es i ≡ Some e → drop i es ≡ e ∷ drop (i + 1) es
entry_and_rest es i e at = drop_more es i e (slice_get_within es i e at) ∙ ap (λ (x : Entry). x ∷ drop (i + 1) es) (get_or_from_slice_get es i e e at)

pub begins_at : (es : List Entry) (i : ℕ) (e : Entry) → slice_get es i ≡ Some e → Begins e.id.system (drop i es)
begins_at es i e at = subst (λ (l : List Entry). Begins e.id.system l) (sym (entry_and_rest es i e at)) refl

-- so a walk over the fragments, from the first entry of the system on, ends at the first entry of another system
pub tlvs_over : (s : SystemId) (es : List Entry) (first i : ℕ) (e : Entry) → AreAscending (ids_of es) → Begins s (drop first es) → first ≤ i → slice_get es i ≡ Some e → same_system e.id.system s ≡ false → tlvs_of (drop i es) s ≡ []
tlvs_over s es first i e asc begins from at differs =
    let within : i < length es = slice_get_within es i e at in
    let there : get_or (drop first es) (i - first) e ≡ e = get_or-drop first es (i - first) e ∙ ap (λ n. get_or es n e) (omega (arith, from)) ∙ get_or_from_slice_get es i e e at in
    let long = length-drop first es in
    let high : is_before s e.id.system ≡ true = differs_above s (drop first es) (i - first) e (ascending_rest es first asc) begins (omega (arith, within, from, long)) (sym there) differs in
    let front = entry_and_rest es i e at in
    let rest : AreAscending (ids_of (e ∷ drop (i + 1) es)) = subst (λ (l : List Entry). AreAscending (ids_of l)) front (ascending_rest es i asc) in
    rw (front, none_above s (e ∷ drop (i + 1) es) (high, all_above s e.id (ids_of (drop (i + 1) es)) high rest.0)) refl

-- ---- what is left after one more fragment

carried : {X : Type 0} (f : Tlv → List X) (now new : List X) (part rest all : List Tlv) → new ≡ now ++ flat_map f part → all ≡ part ++ rest → new ++ flat_map f rest ≡ now ++ flat_map f all
carried {X} f now new part rest all step is =
    ap (λ (l : List X). l ++ flat_map f rest) step ∙ append_assoc now (flat_map f part) (flat_map f rest) ∙ ap (λ (l : List X). now ++ l) (sym (ap (flat_map f) is ∙ flat_map-append f part rest))

abbrev part_of : SystemId → Entry → List Tlv
part_of s e = if is_part_of s e then tlvs_before e.content else []

first_part : (s : SystemId) (e : Entry) (es : List Entry) → tlvs_of (e ∷ es) s ≡ part_of s e ++ tlvs_of es s
first_part s e es = by (is_part_of s e) refl
  where
    by : (b : Bool) → is_part_of s e ≡ b → tlvs_of (e ∷ es) s ≡ part_of s e ++ tlvs_of es s
    by true h = rw h refl
    by false h = rw h refl

pub adding_more : (es : List Entry) (i : ℕ) (e : Entry) (all : List Tlv) (before now new : Claim) → slice_get es i ≡ Some e → IsAdding (tlvs_of (drop i es) before.system) all before now → new.system ≡ now.system → new.overload ≡ now.overload
    → new.links ≡ now.links ++ flat_map links_in (if is_part_of now.system e then tlvs_before e.content else []) → new.subs ≡ now.subs ++ flat_map subs_in (if is_part_of now.system e then tlvs_before e.content else []) → IsAdding (tlvs_of (drop (i + 1) es) before.system) all before new
adding_more es i e all before now new at adding system overload links subs =
    let s = before.system in
    let rest : tlvs_of (drop i es) s ≡ part_of s e ++ tlvs_of (drop (i + 1) es) s = ap (λ (l : List Entry). tlvs_of l s) (entry_and_rest es i e at) ∙ first_part s e (drop (i + 1) es) in
    let mine : part_of now.system e ≡ part_of s e = ap (λ (t : SystemId). part_of t e) adding.system in
    record {
      system = system ∙ adding.system;
      overload = overload ∙ adding.overload;
      links = carried links_in now.links new.links (part_of s e) (tlvs_of (drop (i + 1) es) s) (tlvs_of (drop i es) s) (links ∙ ap (λ (ts : List Tlv). now.links ++ flat_map links_in ts) mine) rest ∙ adding.links;
      subs = carried subs_in now.subs new.subs (part_of s e) (tlvs_of (drop (i + 1) es) s) (tlvs_of (drop i es) s) (subs ∙ ap (λ (ts : List Tlv). now.subs ++ flat_map subs_in ts) mine) rest ∙ adding.subs;
    }
