-- What a system says in an LSDB, and what is kept of it.
use mathlib.Core.Bool.{true≢false}
use Rattle.std.proofs.Common.{◌≡◌, ℕ, zero, suc, ◌+◌, ◌<◌, ◌≤◌, ◌==◌, ◌&&◌, ◌||◌, nat_lt, Bool, true, false, List, [], ◌∷◌, ◌++◌, length, get_or, take, drop, map, filter, Some, None, slice_get, refl, sym, ap, subst, ◌∙◌, arith}
use Rattle.std.specs.declared.cmp.Ordering.{Ordering}
use Rattle.std.specs.declared.cmp.Ordering.TheVariants.{Less, Equal, Greater}
use Rattle.std.specs.Ordering.{is_lt, is_gt, match_ordering}
use Rattle.std.specs.List.{AllByRecursion}
use Rattle.std.proofs.Math.Seq.{take-suc}
use Rattle.std.proofs.lemmas.List.{take_all}
use Rattle.std.proofs.lemmas.List.Elements.{filter-append}
use Rattle.std.proofs.lemmas.Option.{get_or_from_slice_get, slice_get_within}
use Rattle.std.proofs.lemmas.List.Folds.{list_any-append}
use Rattle.laws_format.proofs.TlvLaws.{some_is}
use Rattle.wire_base.specs.declared.addresses.SystemId.{SystemId}
use Rattle.wire_base.specs.declared.addresses.LspId.{LspId}
use Rattle.wire_base.specs.declared.conf.SubKind.{SubKind}
use Rattle.wire_base.specs.declared.entry.Entry.{Entry}
use Rattle.wire_base.specs.model.Control.{same_id, same_system, id_order, is_below, fragment_0, AreAscending, ids_of}
use Rattle.wire_base.specs.model.View.{Claim, claim_of, is_other, with_known}
use Rattle.lsp_store.specs.Places.{place_in as id_place}
use Rattle.wire_base.proofs.OrderLaws.{id_total, below_trans, below_differs, above_differs as above_differs_id, same_turned as same_turned_id}
use Rattle.view_graph.specs.Keep.{heard, said_by, said_in, is_first_of, is_named}
use Rattle.view_graph.proofs.FragmentLaws.{same_is, claim_at}
use Rattle.laws_format.proofs.InfoLaws.{all_weaker}

-- ---- the first entry that passes

pub first_found : {X : Type 0} (f : X → Bool) (xs : List X) (i : ℕ) (x : X) → filter f (take i xs) ≡ [] → i < length xs → x ≡ get_or xs i x → f x ≡ true → slice_get (filter f xs) 0 ≡ Some x
first_found f [] i x none lt at h = absurd (omega (arith, lt))
first_found f (y ∷ ys) zero x none lt at h = rw (sym (ap f at) ∙ h) (ap (λ z. Some z) (sym at))
first_found {X} f (y ∷ ys) (suc i) x none lt at h = by (f y) refl (λ k. first_found f ys i x k (omega (arith, lt)) at h)
  where
    by : (b : Bool) → f y ≡ b → (filter f (take i ys) ≡ [] → slice_get (filter f ys) 0 ≡ Some x) → slice_get (filter f (y ∷ ys)) 0 ≡ Some x
    by true e more = let first : filter f (take (suc i) (y ∷ ys)) ≡ y ∷ filter f (take i ys) = rw e refl in let no : y ∷ filter f (take i ys) ≡ [] = sym first ∙ none in absurd cc
    by false e more = let first : filter f (take (suc i) (y ∷ ys)) ≡ filter f (take i ys) = rw e refl in rw e (more (sym first ∙ none))

pub none_more : {X : Type 0} (f : X → Bool) (xs : List X) (i : ℕ) (x : X) → filter f (take i xs) ≡ [] → i < length xs → x ≡ get_or xs i x → f x ≡ false → filter f (take (i + 1) xs) ≡ []
none_more {X} f xs i x none lt at h =
    let one : i + 1 ≡ suc i = omega arith in
    let last : filter f (x ∷ []) ≡ [] = rw h refl in
    ap (λ k. filter f (take k xs)) one ∙ ap (filter f) (take-suc xs i x lt ∙ ap (λ y. take i xs ++ y ∷ []) (sym at)) ∙ filter-append f (take i xs) (x ∷ []) ∙ ap (λ (l : List X). l ++ filter f (x ∷ [])) none ∙ last

head_map : {X Y : Type 0} (f : X → Y) (xs : List X) (x : X) → slice_get xs 0 ≡ Some x → slice_get (map f xs) 0 ≡ Some (f x)
head_map f [] x h = absurd cc
head_map f (y ∷ ys) x h = ap (λ z. Some (f z)) (some_is y x h)

pub said_none : (kinds : List SubKind) (es : List Entry) (s : SystemId) (i : ℕ) → length es ≤ i → filter (is_first_of s) (take i es) ≡ [] → None ≡ said_in kinds es s
unfolding said_in
said_none kinds es s i past none =
    let all : filter (is_first_of s) es ≡ [] = sym (ap (filter (is_first_of s)) (take_all i es past)) ∙ none in
    sym (ap (λ (l : List Entry). slice_get (map (with_known kinds) (map (claim_of es) l)) 0) all)

-- ---- an entry of a system's fragment 0 is at its place, or nowhere

first_differs : (s : SystemId) (e : Entry) → same_id (fragment_0 s) e.id ≡ false → is_first_of s e ≡ false
first_differs s e h = by (same_system e.id.system s) (e.id.pseudonode == 0) (e.id.fragment == 0) (nat_lt 0 e.life) (same_turned_id e.id (fragment_0 s) ∙ h)
  where
    by : (a b c d : Bool) → (a && (b && c)) ≡ false → (a && (b && (c && d))) ≡ false
    by true true true d k = absurd (true≢false k)
    by true true false d k = refl
    by true false c d k = refl
    by false b c d k = refl

none_higher : (s : SystemId) (es : List Entry) → AllByRecursion (λ y. is_below (fragment_0 s) y ≡ true) (ids_of es) → filter (is_first_of s) es ≡ []
none_higher s [] all = refl
none_higher s (e ∷ es) all = rw (first_differs s e (below_differs (fragment_0 s) e.id all.0)) (none_higher s es all.1)

pub none_lower : (s : SystemId) (es : List Entry) → filter (is_first_of s) (take (id_place (ids_of es) (fragment_0 s)) es) ≡ []
none_lower s [] = refl
none_lower s (e ∷ es) = by (id_order (fragment_0 s) e.id) refl (none_lower s es)
  where
    by : (o : Ordering) → id_order (fragment_0 s) e.id ≡ o → filter (is_first_of s) (take (id_place (ids_of es) (fragment_0 s)) es) ≡ [] → filter (is_first_of s) (take (match_ordering o 0 0 (suc (id_place (ids_of es) (fragment_0 s)))) (e ∷ es)) ≡ []
    by Less o more = refl
    by Equal o more = refl
    by Greater o more = rw (first_differs s e (above_differs_id (fragment_0 s) e.id (ap is_gt o))) more

pub none_there : (s : SystemId) (es : List Entry) (x : Entry) → AreAscending (ids_of es) → id_place (ids_of es) (fragment_0 s) < length es → x ≡ get_or es (id_place (ids_of es) (fragment_0 s)) x → is_first_of s x ≡ false → filter (is_first_of s) es ≡ []
none_there s [] x asc lt at away = refl
none_there s (e ∷ es) x asc lt at away = by (id_order (fragment_0 s) e.id) refl lt at (λ l a. none_there s es x asc.1 l a away)
  where
    by : (o : Ordering) → id_order (fragment_0 s) e.id ≡ o → match_ordering o 0 0 (suc (id_place (ids_of es) (fragment_0 s))) < suc (length es) → x ≡ get_or (e ∷ es) (match_ordering o 0 0 (suc (id_place (ids_of es) (fragment_0 s)))) x
        → (id_place (ids_of es) (fragment_0 s) < length es → x ≡ get_or es (id_place (ids_of es) (fragment_0 s)) x → filter (is_first_of s) es ≡ []) → filter (is_first_of s) (e ∷ es) ≡ []
    by Less o l a more =
        let low : is_below (fragment_0 s) e.id ≡ true = ap is_lt o in
        none_higher s (e ∷ es) (low, all_weaker (λ (y : LspId). is_below e.id y ≡ true) (λ (y : LspId). is_below (fragment_0 s) y ≡ true) (λ y k. below_trans (fragment_0 s) e.id y low k) (ids_of es) asc.0)
    by Equal o l a more =
        let here : is_first_of s e ≡ false = ap (is_first_of s) (sym a) ∙ away in
        rw here (none_higher s es (all_weaker (λ (y : LspId). is_below e.id y ≡ true) (λ (y : LspId). is_below (fragment_0 s) y ≡ true) (λ y k. ap is_lt (id_total.congr (fragment_0 s) e.id y o) ∙ k) (ids_of es) asc.0))
    by Greater o l a more = rw (first_differs s e (above_differs_id (fragment_0 s) e.id (ap is_gt o))) (more (omega (arith, l)) a)

pub said_found : (kinds : List SubKind) (es : List Entry) (s : SystemId) (i : ℕ) (e : Entry) (c k : Claim) → AreAscending (ids_of es) → i ≡ id_place (ids_of es) (fragment_0 s) → slice_get es i ≡ Some e → is_first_of s e ≡ true → c ≡ claim_of (drop i es) e → k ≡ with_known kinds c → Some k ≡ said_in kinds es s
unfolding said_in
said_found kinds es s i e c k asc place at first is known =
    let lt = slice_get_within es i e at in
    let read = sym (get_or_from_slice_get es i e e at) in
    let none : filter (is_first_of s) (take i es) ≡ [] = ap (λ n. filter (is_first_of s) (take n es)) place ∙ none_lower s es in
    let claim : k ≡ with_known kinds (claim_of es e) = known ∙ ap (with_known kinds) (is ∙ claim_at s es i e asc lt read first) in
    ap (λ (x : Claim). Some x) claim ∙ sym (head_map (with_known kinds) (map (claim_of es) (filter (is_first_of s) es)) (claim_of es e) (head_map (claim_of es) (filter (is_first_of s) es) e (first_found (is_first_of s) es i e none lt read first)))

-- where it is away, the system says nothing
pub said_past : (kinds : List SubKind) (es : List Entry) (s : SystemId) (place : ℕ) → place ≡ id_place (ids_of es) (fragment_0 s) → length es ≤ place → None ≡ said_in kinds es s
said_past kinds es s place is past = said_none kinds es s place past (ap (λ n. filter (is_first_of s) (take n es)) is ∙ none_lower s es)

pub said_away : (kinds : List SubKind) (es : List Entry) (s : SystemId) (place : ℕ) (x : Entry) → AreAscending (ids_of es) → place ≡ id_place (ids_of es) (fragment_0 s) → slice_get es place ≡ Some x → is_first_of s x ≡ false → None ≡ said_in kinds es s
said_away kinds es s place x asc is at away =
    let lt = slice_get_within es place x at in
    let read = sym (get_or_from_slice_get es place x x at) in
    let none : filter (is_first_of s) es ≡ [] = none_there s es x asc (subst (λ n. n < length es) is lt) (read ∙ ap (λ n. get_or es n x) is) away in
    said_none kinds es s (length es) (omega arith) (ap (filter (is_first_of s)) (take_all (length es) es (omega arith)) ∙ none)

-- ---- named systems

pub named_step : (P : SystemId → Type 0) (systems : List SystemId) (i : ℕ) (x : SystemId) → i < length systems → x ≡ get_or systems i x → ((s : SystemId) → is_named (take i systems) s ≡ true → P s) → P x → (s : SystemId) → is_named (take (i + 1) systems) s ≡ true → P s
named_step P systems i x lt at before new s h = by (is_named (take i systems) s) refl
  where
    longer : take (i + 1) systems ≡ take i systems ++ x ∷ []
    longer = let one : i + 1 ≡ suc i = omega arith in ap (λ k. take k systems) one ∙ take-suc systems i x lt ∙ ap (λ y. take i systems ++ y ∷ []) (sym at)

    now : (is_named (take i systems) s || (same_system x s || false)) ≡ true
    now = sym (ap (λ l. is_named l s) longer ∙ list_any-append (λ y. same_system y s) (take i systems) (x ∷ [])) ∙ h

    last : (b : Bool) → (b || false) ≡ true → b ≡ true
    last true k = refl
    last false k = k

    by : (b : Bool) → is_named (take i systems) s ≡ b → P s
    by true e = before s e
    by false e = subst P (same_is x s (last (same_system x s) (sym (ap (λ b. b || (same_system x s || false)) e) ∙ now))) new

-- ---- what the other systems say

said_among : (kinds : List SubKind) (all es : List Entry) (own s : SystemId) → same_system s own ≡ false → said_by (map (with_known kinds) (map (claim_of all) (filter (is_other own) es))) s ≡ slice_get (map (with_known kinds) (map (claim_of all) (filter (is_first_of s) es))) 0
said_among kinds all [] own s apart = refl
said_among kinds all (e ∷ es) own s apart = by (same_system e.id.system s) refl (said_among kinds all es own s apart)
  where
    live : Bool
    live = (e.id.pseudonode == 0) && ((e.id.fragment == 0) && nat_lt 0 e.life)

    by : (b : Bool) → same_system e.id.system s ≡ b
        → said_by (map (with_known kinds) (map (claim_of all) (filter (is_other own) es))) s ≡ slice_get (map (with_known kinds) (map (claim_of all) (filter (is_first_of s) es))) 0
        → said_by (map (with_known kinds) (map (claim_of all) (filter (is_other own) (e ∷ es)))) s ≡ slice_get (map (with_known kinds) (map (claim_of all) (filter (is_first_of s) (e ∷ es)))) 0
    by true h more =
        let other : same_system e.id.system own ≡ false = ap (λ (t : SystemId). same_system t own) (same_is e.id.system s h) ∙ apart in
        here other ((e.id.pseudonode == 0) && ((e.id.fragment == 0) && nat_lt 0 e.life)) refl
      where
        here : same_system e.id.system own ≡ false → (b : Bool) → ((e.id.pseudonode == 0) && ((e.id.fragment == 0) && nat_lt 0 e.life)) ≡ b → said_by (map (with_known kinds) (map (claim_of all) (filter (is_other own) (e ∷ es)))) s ≡ slice_get (map (with_known kinds) (map (claim_of all) (filter (is_first_of s) (e ∷ es)))) 0
        here other true k = rw (other, h, k, h) refl
        here other false k = rw (other, h, k) more
    by false h more = here (is_other own e) refl
      where
        here : (b : Bool) → is_other own e ≡ b → said_by (map (with_known kinds) (map (claim_of all) (filter (is_other own) (e ∷ es)))) s ≡ slice_get (map (with_known kinds) (map (claim_of all) (filter (is_first_of s) (e ∷ es)))) 0
        here true k = rw (k, h) more
        here false k = rw (k, h) more

pub said_heard : (kinds : List SubKind) (es : List Entry) (own s : SystemId) → same_system s own ≡ false → said_by (heard own kinds es) s ≡ said_in kinds es s
unfolding heard said_in
said_heard kinds es own s apart = said_among kinds es es own s apart
