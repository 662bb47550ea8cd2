-- Identifiers of systems compared as numbers.
use mathlib.Core.Bool.{false≢true, true≢false}
use Rattle.std.proofs.Common.{◌≡◌, ℕ, zero, suc, ◌+◌, ◌<◌, ◌≤◌, ◌==◌, nat_lt, true, false, List, [], ◌∷◌, ◌++◌, length, get_or, take, sym, ap, subst, ◌∙◌, arith, lt-ltb, refl}
use Rattle.std.specs.declared.cmp.Ordering.{Ordering}
use Rattle.std.specs.declared.cmp.Ordering.TheVariants.{Less, Equal, Greater}
use Rattle.std.specs.Cmp.{ranks}
use Rattle.std.specs.List.{AllByRecursion}
use Rattle.std.specs.Ordering.{MatchOrdering, is_eq, is_gt, match_ordering}
use Rattle.std.proofs.lemmas.Bool.{eq-eqb, le-ltb}
use Rattle.std.proofs.lemmas.List.{get_or_default}
use Rattle.std.proofs.Math.Seq.{take-suc}
use Rattle.wire_base.specs.declared.addresses.SystemId.{SystemId}
use Rattle.wire_base.specs.model.Control.{same_system, system_order}
use Rattle.wire_base.specs.model.View.{Claim}
use Rattle.lsp_store.specs.Keys.{octets_from}
use Rattle.lsp_store.proofs.KeyLaws.{above_by_number, system_key_order}
use Rattle.view_graph.specs.Edges.{AreInOrder, AreKeys, IsKey, is_before, is_number_at, place_in, stands_at}
use Rattle.view_graph.proofs.EdgeLaws.{above_place, apart, not_above_place}
use Rattle.view_graph.proofs.FragmentLaws.{same_is}
use Rattle.wire_base.proofs.OrderLaws.{gt_is}
use Rattle.view_graph.proofs.SystemLaws.{above_differs, above_from_before, tie_is_same}

key_above : (q k : ℕ) (s t : SystemId) → IsKey q s → IsKey k t → is_gt (system_order s t) ≡ nat_lt k q
key_above q k s t h g =
    ap is_gt (system_key_order s t h.octets g.octets) ∙ sym (above_by_number (octets_from 0 s.0) (octets_from 0 t.0))
    ∙ sym (ap (λ z. nat_lt k z) h.number ∙ ap (λ z. nat_lt z (octets_from 0 s.0)) g.number)

key_at : (ks : List ℕ) (cs : List Claim) (i k : ℕ) (d : Claim) → AreKeys ks cs → i < length cs → IsKey (get_or ks i k) (get_or cs i d).system
key_at ks [] i k d h lt = absurd (omega (arith, lt))
key_at [] (c ∷ cs) i k d h lt = absurd h
key_at (j ∷ js) (c ∷ cs) zero k d h lt = h.0
key_at (j ∷ js) (c ∷ cs) (suc i) k d h lt = key_at js cs i k d h.1 (omega (arith, lt))

pub keys_long : (ks : List ℕ) (cs : List Claim) → AreKeys ks cs → length ks ≡ length cs
keys_long [] [] h = refl
keys_long [] (c ∷ cs) h = absurd h
keys_long (k ∷ ks) [] h = absurd h
keys_long (k ∷ ks) (c ∷ cs) h = ap (λ n. suc n) (keys_long ks cs h.1)

-- where a system's number is above the one at a place, its own place is higher
pub above_key : (ks : List ℕ) (cs : List Claim) (i q : ℕ) (s : SystemId) → AreKeys ks cs → AreInOrder cs → i < length cs → IsKey q s → get_or ks i 0 < q → i < place_in s cs
above_key ks [] i q s keys asc lt is gt = absurd (omega (arith, lt))
above_key ks (d ∷ ds) i q s keys asc lt is gt =
    let c : Claim = get_or (d ∷ ds) i d in
    above_place (d ∷ ds) i c s asc lt (get_or_default (d ∷ ds) i d c lt) (key_above q (get_or ks i 0) s c.system is (key_at ks (d ∷ ds) i 0 d keys lt) ∙ lt-ltb (get_or ks i 0) q gt)

-- where it isn't, its own place is at most that one
pub not_above_key : (ks : List ℕ) (cs : List Claim) (i q : ℕ) (s : SystemId) → AreKeys ks cs → i < length cs → IsKey q s → q ≤ get_or ks i 0 → place_in s cs ≤ i
not_above_key ks [] i q s keys lt is gt = absurd (omega (arith, lt))
not_above_key ks (d ∷ ds) i q s keys lt is gt =
    let c : Claim = get_or (d ∷ ds) i d in
    not_above_place (d ∷ ds) i c s lt (get_or_default (d ∷ ds) i d c lt) (key_above q (get_or ks i 0) s c.system is (key_at ks (d ∷ ds) i 0 d keys lt) ∙ le-ltb (get_or ks i 0) q gt)

key_push : (ks : List ℕ) (cs : List Claim) (k : ℕ) (c : Claim) → AreKeys ks cs → IsKey k c.system → AreKeys (ks ++ k ∷ []) (cs ++ c ∷ [])
key_push [] [] k c h is = (is, tt)
key_push [] (d ∷ ds) k c h is = absurd h
key_push (j ∷ js) [] k c h is = absurd h
key_push (j ∷ js) (d ∷ ds) k c h is = (h.0, key_push js ds k c h.1 is)

pub keys_step : (cs : List Claim) (i : ℕ) (c : Claim) (k : ℕ) (before now : List ℕ) → i < length cs → c ≡ get_or cs i c → AreKeys before (take i cs) → now ≡ before ++ k ∷ [] → IsKey k c.system → AreKeys now (take (i + 1) cs)
keys_step cs i c k before now lt at are step is =
    let one : i + 1 ≡ suc i = omega arith in
    let longer : take (i + 1) cs ≡ take i cs ++ c ∷ [] = ap (λ n. take n cs) one ∙ take-suc cs i c lt ∙ ap (λ y. take i cs ++ y ∷ []) (sym at) in
    subst (λ ns. AreKeys ns (take (i + 1) cs)) (sym step) (subst (λ ds. AreKeys (before ++ k ∷ []) ds) (sym longer) (key_push before (take i cs) k c are is))

-- ---- a number at a place

pub number_read : (ks : List ℕ) (i key : ℕ) → i < length ks → (get_or ks i 0 == key) ≡ is_number_at ks i key
number_read [] i key lt = absurd (omega (arith, lt))
number_read (k ∷ ks) zero key lt = refl
number_read (k ∷ ks) (suc i) key lt = number_read ks i key (omega (arith, lt))

pub number_past : (ks : List ℕ) (i key : ℕ) → length ks ≤ i → is_number_at ks i key ≡ false
number_past [] i key le = refl
number_past (k ∷ ks) zero key le = absurd (omega (arith, le))
number_past (k ∷ ks) (suc i) key le = number_past ks i key (omega (arith, le))

tied_by_number : (x y : ℕ) (o : Ordering) → MatchOrdering o (x < y) (x ≡ y) (y < x) → (y == x) ≡ is_eq o
tied_by_number x y Less h = apart y x (λ e. omega (arith, h, e))
tied_by_number x y Equal h = eq-eqb y x (sym h)
tied_by_number x y Greater h = apart y x (λ e. omega (arith, h, e))

same_number : (q k : ℕ) (s t : SystemId) → IsKey q s → IsKey k t → (k == q) ≡ same_system s t
same_number q k s t h g =
    ap (λ z. z == q) g.number ∙ ap (λ z. octets_from 0 t.0 == z) h.number ∙ tied_by_number (octets_from 0 s.0) (octets_from 0 t.0) _ (ranks (octets_from 0 s.0) (octets_from 0 t.0))
    ∙ sym (ap is_eq (system_key_order s t h.octets g.octets)) ∙ tie_is_same s t

-- a system's number stands where its claim does
pub number_stands : (ks : List ℕ) (cs : List Claim) (i q : ℕ) (s : SystemId) → AreKeys ks cs → IsKey q s → is_number_at ks i q ≡ stands_at cs i s
number_stands [] [] i q s keys is = refl
number_stands [] (c ∷ cs) i q s keys is = absurd keys
number_stands (k ∷ ks) [] i q s keys is = absurd keys
number_stands (k ∷ ks) (c ∷ cs) zero q s keys is = same_number q k s c.system is keys.0
number_stands (k ∷ ks) (c ∷ cs) (suc i) q s keys is = number_stands ks cs i q s keys.1 is

-- a system that stands among later ones is above
stands_above : (c s : SystemId) (cs : List Claim) (i : ℕ) → AllByRecursion (λ d. is_before c d.system ≡ true) cs → stands_at cs i s ≡ true → is_gt (system_order s c) ≡ true
stands_above c s [] i all h = absurd (false≢true h)
stands_above c s (d ∷ ds) zero all h = above_from_before s c (subst (λ t. is_before c t ≡ true) (sym (same_is s d.system h)) all.0)
stands_above c s (d ∷ ds) (suc i) all h = stands_above c s ds i all.1 h

-- where a system stands is its place
stands_place : (s : SystemId) (cs : List Claim) (i : ℕ) → AreInOrder cs → stands_at cs i s ≡ true → i ≡ place_in s cs
stands_place s [] i asc h = absurd (false≢true h)
stands_place s (c ∷ cs) zero asc h = first (system_order s c.system) refl
  where
    first : (o : Ordering) → system_order s c.system ≡ o → 0 ≡ match_ordering o 0 0 (suc (place_in s cs))
    first Less e = refl
    first Equal e = refl
    first Greater e = absurd (true≢false (sym h ∙ above_differs s c.system (ap is_gt e)))
stands_place s (c ∷ cs) (suc i) asc h =
    ap (λ n. suc n) (stands_place s cs i asc.1 h) ∙ sym (ap (λ o. match_ordering o 0 0 (suc (place_in s cs))) (gt_is (system_order s c.system) (stands_above c.system s cs i asc.0 h)))

pub number_place : (ks : List ℕ) (cs : List Claim) (i q : ℕ) (s : SystemId) → AreKeys ks cs → AreInOrder cs → is_number_at ks i q ≡ true → IsKey q s → i ≡ place_in s cs
number_place ks cs i q s keys asc h is = stands_place s cs i asc (sym (number_stands ks cs i q s keys is) ∙ h)
