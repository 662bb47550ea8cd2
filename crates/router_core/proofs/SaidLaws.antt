-- What a system says in an LSDB is reported by its live entries, and which changes of an LSDB leave that as it was.
use Rattle.std.proofs.Common.{◌≡◌, ◌∙◌, ◌-◌, ◌==◌, ◌&&◌, ◌||◌, nat_lt, nat_le, Bool, true, false, List, [], ◌∷◌, ◌++◌, map, filter, Some, None, slice_get, if◌then◌else◌, refl, sym, ap, arith}
use Rattle.std.proofs.lemmas.Bool.{true≢false}
use Rattle.std.proofs.lemmas.Bool.Decides.{nat_tests}
use Rattle.std.specs.declared.cmp.Ordering.{Ordering}
use Rattle.std.specs.declared.cmp.Ordering.TheVariants.{Less, Equal, Greater}
use Rattle.std.specs.Ordering.{is_gt, match_ordering}
use Rattle.std.specs.List.{cons_option, filter_map, flat_map, list_any}
use Rattle.laws_format.proofs.TlvLaws.{some_is}
use Rattle.wire_base.specs.declared.addresses.LspId.{LspId}
use Rattle.wire_base.specs.declared.addresses.SystemId.{SystemId}
use Rattle.wire_base.specs.declared.conf.SubKind.{SubKind}
use Rattle.wire_base.specs.declared.entry.Aged.TheVariants.{Live, Expired, Held, Removed}
use Rattle.wire_base.specs.declared.entry.Entry.{Entry}
use Rattle.wire_base.specs.model.Control.{same_id, same_system, id_order, entry_in, put_entry, aged_to, after_second}
use Rattle.wire_base.specs.model.Tlv.{Tlv, tlvs_before}
use Rattle.wire_base.specs.model.View.{Claim, is_part_of, tlvs_of, claim_of, is_overload_flag, links_in, subs_in, with_known}
use Rattle.view_graph.specs.Keep.{is_first_of, said_in}
use Rattle.view_graph.proofs.FragmentLaws.{same_is as same_system_is}
use Rattle.view_graph.proofs.GraphLaws.{and_both}
use Rattle.wire_base.proofs.OrderLaws.{above_differs, same_turned, same_from_tie, same_is}
use Rattle.router_core.specs.Keeping.{is_last}
use Rattle.laws_router.proofs.EntryLaws.{id_self}

-- ---- lists

filter_in : {X : Type 0} (P : X → Bool) (x : X) (xs : List X) → P x ≡ true → filter P (x ∷ xs) ≡ x ∷ filter P xs
filter_in P x xs h = rw h refl

filter_out : {X : Type 0} (P : X → Bool) (x : X) (xs : List X) → P x ≡ false → filter P (x ∷ xs) ≡ filter P xs
filter_out P x xs h = rw h refl

filter_step : {X : Type 0} (P : X → Bool) (x : X) (xs ys : List X) → filter P xs ≡ filter P ys → filter P (x ∷ xs) ≡ filter P (x ∷ ys)
filter_step {X} P x xs ys e = ap (λ (l : List X). if P x then x ∷ l else l) e

pub or_first : (a b : Bool) → (a || b) ≡ false → a ≡ false
or_first true b h = absurd (true≢false h)
or_first false b h = refl

pub or_second : (a b : Bool) → (a || b) ≡ false → b ≡ false
or_second true b h = absurd (true≢false h)
or_second false b h = h

-- ---- what counts of an entry

-- an entry but for what it is no part of a claim by: one that is live
abbrev timeless : Entry → Entry
timeless e = record { id = e.id; seq = 0; life = 1; hold = 0; sum = 0; flags = e.flags; content = e.content }

-- what counts of a system's live entries
abbrev pub parts : SystemId → List Entry → List Entry
parts t es = map timeless (filter (is_part_of t) es)

part_still : (t : SystemId) (e : Entry) → is_part_of t e ≡ true → is_part_of t (timeless e) ≡ true
part_still t e h =
    let a = and_both _ _ h in
    let b = and_both _ _ a.1 in
    ap (λ (x : Bool). x && ((e.id.pseudonode == 0) && true)) a.0 ∙ ap (λ (x : Bool). x && true) b.0

first_still : (t : SystemId) (e : Entry) → is_part_of t e ≡ true → is_first_of t (timeless e) ≡ is_first_of t e
first_still t e h =
    let a = and_both _ _ h in
    let b = and_both _ _ a.1 in
    sym (ap (λ (x : Bool). same_system e.id.system t && ((e.id.pseudonode == 0) && ((e.id.fragment == 0) && x))) b.1)

not_first : (t : SystemId) (e : Entry) → is_part_of t e ≡ false → is_first_of t e ≡ false
not_first t e h = by (same_system e.id.system t) (e.id.pseudonode == 0) (e.id.fragment == 0) (nat_lt 0 e.life) h
  where
    by : (a b c d : Bool) → (a && (b && d)) ≡ false → (a && (b && (c && d))) ≡ false
    by true true true d h = h
    by true true false d h = refl
    by true false c d h = refl
    by false b c d h = refl

not_of : (t : SystemId) (e : Entry) → same_system e.id.system t ≡ false → is_part_of t e ≡ false
not_of t e h = ap (λ (x : Bool). x && ((e.id.pseudonode == 0) && nat_lt 0 e.life)) h

not_live : (t : SystemId) (e : Entry) → nat_lt 0 e.life ≡ false → is_part_of t e ≡ false
not_live t e h = ap (λ (x : Bool). same_system e.id.system t && ((e.id.pseudonode == 0) && x)) h ∙ by (same_system e.id.system t) (e.id.pseudonode == 0)
  where
    by : (a b : Bool) → (a && (b && false)) ≡ false
    by true true = refl
    by true false = refl
    by false b = refl

-- ---- what a system says, from these alone

abbrev claim_by : Entry → List Tlv → Claim
claim_by e ts = record { system = e.id.system; overload = is_overload_flag e.flags; links = flat_map links_in ts; subs = flat_map subs_in ts }

tlvs_still : (t : SystemId) (es : List Entry) → tlvs_of (parts t es) t ≡ tlvs_of es t
tlvs_still t [] = refl
tlvs_still t (e ∷ es) = by (is_part_of t e) refl (tlvs_still t es)
  where
    by : (b : Bool) → is_part_of t e ≡ b → tlvs_of (parts t es) t ≡ tlvs_of es t → tlvs_of (parts t (e ∷ es)) t ≡ tlvs_of (e ∷ es) t
    by true h more =
        ap (λ (l : List Entry). flat_map (λ (x : Entry). tlvs_before x.content) (filter (is_part_of t) (map timeless l))) (filter_in (is_part_of t) e es h)
        ∙ ap (λ (l : List Entry). flat_map (λ (x : Entry). tlvs_before x.content) l) (filter_in (is_part_of t) (timeless e) (parts t es) (part_still t e h))
        ∙ ap (λ (ts : List Tlv). tlvs_before e.content ++ ts) more
        ∙ sym (ap (λ (l : List Entry). flat_map (λ (x : Entry). tlvs_before x.content) l) (filter_in (is_part_of t) e es h))
    by false h more =
        ap (λ (l : List Entry). flat_map (λ (x : Entry). tlvs_before x.content) (filter (is_part_of t) (map timeless l))) (filter_out (is_part_of t) e es h)
        ∙ more
        ∙ sym (ap (λ (l : List Entry). flat_map (λ (x : Entry). tlvs_before x.content) l) (filter_out (is_part_of t) e es h))

claim_still : (t : SystemId) (all : List Entry) (e : Entry) → is_part_of t e ≡ true → claim_of (parts t all) (timeless e) ≡ claim_of all e
claim_still t all e h =
    let at : e.id.system ≡ t = same_system_is e.id.system t (and_both _ _ h).0 in
    ap (claim_by e) (ap (tlvs_of (parts t all)) at ∙ tlvs_still t all ∙ ap (tlvs_of all) (sym at))

claims_still : (t : SystemId) (all es : List Entry) → map (claim_of (parts t all)) (filter (is_first_of t) (parts t es)) ≡ map (claim_of all) (filter (is_first_of t) es)
claims_still t all [] = refl
claims_still t all (e ∷ es) = by (is_part_of t e) refl (is_first_of t e) refl (claims_still t all es)
  where
    by : (b : Bool) → is_part_of t e ≡ b → (d : Bool) → is_first_of t e ≡ d
        → map (claim_of (parts t all)) (filter (is_first_of t) (parts t es)) ≡ map (claim_of all) (filter (is_first_of t) es)
        → map (claim_of (parts t all)) (filter (is_first_of t) (parts t (e ∷ es))) ≡ map (claim_of all) (filter (is_first_of t) (e ∷ es))
    by true h true k more =
        ap (λ (l : List Entry). map (claim_of (parts t all)) (filter (is_first_of t) (map timeless l))) (filter_in (is_part_of t) e es h)
        ∙ ap (map (claim_of (parts t all))) (filter_in (is_first_of t) (timeless e) (parts t es) (first_still t e h ∙ k))
        ∙ ap (λ (c : Claim). c ∷ map (claim_of (parts t all)) (filter (is_first_of t) (parts t es))) (claim_still t all e h)
        ∙ ap (λ (cs : List Claim). claim_of all e ∷ cs) more
        ∙ sym (ap (map (claim_of all)) (filter_in (is_first_of t) e es k))
    by true h false k more =
        ap (λ (l : List Entry). map (claim_of (parts t all)) (filter (is_first_of t) (map timeless l))) (filter_in (is_part_of t) e es h)
        ∙ ap (map (claim_of (parts t all))) (filter_out (is_first_of t) (timeless e) (parts t es) (first_still t e h ∙ k))
        ∙ more
        ∙ sym (ap (map (claim_of all)) (filter_out (is_first_of t) e es k))
    by false h d k more =
        ap (λ (l : List Entry). map (claim_of (parts t all)) (filter (is_first_of t) (map timeless l))) (filter_out (is_part_of t) e es h)
        ∙ more
        ∙ sym (ap (map (claim_of all)) (filter_out (is_first_of t) e es (not_first t e h)))

said_still : (kinds : List SubKind) (es : List Entry) (t : SystemId) → said_in kinds (parts t es) t ≡ said_in kinds es t
unfolding said_in
said_still kinds es t = ap (λ (cs : List Claim). slice_get (map (with_known kinds) cs) 0) (claims_still t es es)

pub same_said : (kinds : List SubKind) (before after : List Entry) (t : SystemId) → parts t after ≡ parts t before → said_in kinds after t ≡ said_in kinds before t
same_said kinds before after t e = sym (said_still kinds after t) ∙ ap (λ (l : List Entry). said_in kinds l t) e ∙ said_still kinds before t

-- ---- an entry that is put

found_id : (es : List Entry) (id : LspId) (x : Entry) → entry_in es id ≡ Some x → x.id ≡ id
found_id [] id x h = cc
found_id (e ∷ es) id x h = by (same_id e.id id) refl (λ k. found_id es id x k)
  where
    by : (b : Bool) → same_id e.id id ≡ b → (entry_in es id ≡ Some x → x.id ≡ id) → x.id ≡ id
    by true k more =
        let first : entry_in (e ∷ es) id ≡ Some e = rw k refl in
        ap (λ (y : Entry). y.id) (some_is x e (sym h ∙ first)) ∙ same_is e.id id k
    by false k more =
        let rest : entry_in (e ∷ es) id ≡ entry_in es id = rw k refl in
        more (sym rest ∙ h)

put_out : (t : SystemId) (e : Entry) (es : List Entry) → is_part_of t e ≡ false → ((x : Entry) → entry_in es e.id ≡ Some x → is_part_of t x ≡ false) → filter (is_part_of t) (put_entry e es) ≡ filter (is_part_of t) es
put_out t e [] h old = filter_out (is_part_of t) e [] h
put_out t e (x ∷ xs) h old = by (id_order e.id x.id) refl (λ k. put_out t e xs h k)
  where
    by : (o : Ordering) → id_order e.id x.id ≡ o → (((y : Entry) → entry_in xs e.id ≡ Some y → is_part_of t y ≡ false) → filter (is_part_of t) (put_entry e xs) ≡ filter (is_part_of t) xs)
        → filter (is_part_of t) (match_ordering o (e ∷ x ∷ xs) (e ∷ xs) (x ∷ put_entry e xs)) ≡ filter (is_part_of t) (x ∷ xs)
    by Less o more = filter_out (is_part_of t) e (x ∷ xs) h
    by Equal o more =
        let same : same_id x.id e.id ≡ true = ap (λ (i : LspId). same_id i e.id) (sym (same_from_tie e.id x.id o)) ∙ id_self e.id in
        let there : entry_in (x ∷ xs) e.id ≡ Some x = rw same refl in
        filter_out (is_part_of t) e xs h ∙ sym (filter_out (is_part_of t) x xs (old x there))
    by Greater o more =
        let other : same_id x.id e.id ≡ false = same_turned x.id e.id ∙ above_differs e.id x.id (ap is_gt o) in
        let rest : entry_in (x ∷ xs) e.id ≡ entry_in xs e.id = rw other refl in
        filter_step (is_part_of t) x (put_entry e xs) xs (more (λ y k. old y (rest ∙ k)))

-- of another system
pub put_apart : (t : SystemId) (e : Entry) (es : List Entry) → same_system e.id.system t ≡ false → parts t (put_entry e es) ≡ parts t es
put_apart t e es h =
    ap (map timeless) (put_out t e es (not_of t e h) (λ x k. not_of t x (ap (λ (i : LspId). same_system i.system t) (found_id es e.id x k) ∙ h)))

-- a dead one of a new identifier
pub put_dead : (t : SystemId) (e : Entry) (es : List Entry) → e.life ≡ 0 → entry_in es e.id ≡ None → parts t (put_entry e es) ≡ parts t es
put_dead t e es dead new =
    ap (map timeless) (put_out t e es (not_live t e (ap (λ n. nat_lt 0 n) dead)) (λ x k. absurd (none_some x (sym new ∙ k))))
  where
    none_some : (x : Entry) → None ≡ Some x → ⊥
    none_some x q = absurd cc

-- ---- a second in which none dies

same_step : (t : SystemId) (x e : Entry) (xs es : List Entry) → is_part_of t x ≡ is_part_of t e → timeless x ≡ timeless e → parts t xs ≡ parts t es → parts t (x ∷ xs) ≡ parts t (e ∷ es)
same_step t x e xs es part same more = by (is_part_of t e) refl
  where
    by : (b : Bool) → is_part_of t e ≡ b → parts t (x ∷ xs) ≡ parts t (e ∷ es)
    by true h =
        ap (map timeless) (filter_in (is_part_of t) x xs (part ∙ h)) ∙ ap (λ (y : Entry). y ∷ parts t xs) same ∙ ap (λ (l : List Entry). timeless e ∷ l) more
        ∙ sym (ap (map timeless) (filter_in (is_part_of t) e es h))
    by false h = ap (map timeless) (filter_out (is_part_of t) x xs (part ∙ h)) ∙ more ∙ sym (ap (map timeless) (filter_out (is_part_of t) e es h))

pub second_parts : (t : SystemId) (es : List Entry) → list_any is_last es ≡ false → parts t (filter_map after_second es) ≡ parts t es
second_parts t [] none = refl
second_parts t (e ∷ es) none = by (nat_lt 0 e.life) (e.life == 1) (nat_le e.hold 1) refl refl (second_parts t es (or_second (e.life == 1) (list_any is_last es) none))
  where
    by : (live last gone : Bool) → nat_lt 0 e.life ≡ live → (e.life == 1) ≡ last → parts t (filter_map after_second es) ≡ parts t es
        → parts t (cons_option (aged_to (if live then (if last then Expired else Live) else (if gone then Removed else Held)) e) (filter_map after_second es)) ≡ parts t (e ∷ es)
    by true true gone p q more = absurd (true≢false (sym q ∙ or_first (e.life == 1) (list_any is_last es) none))
    by true false gone p q more =
        let lives : nat_lt 0 (e.life - 1) ≡ true = grind (arith, nat_tests) in
        same_step t (record e { life = e.life - 1 }) e (filter_map after_second es) es (ap (λ (b : Bool). same_system e.id.system t && ((e.id.pseudonode == 0) && b)) (lives ∙ sym p)) refl more
    by false last true p q more = more ∙ sym (ap (map timeless) (filter_out (is_part_of t) e es (not_live t e p)))
    by false last false p q more = same_step t (record e { hold = e.hold - 1 }) e (filter_map after_second es) es refl refl more
