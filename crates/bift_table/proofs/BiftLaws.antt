-- Laws of forwarding tables: masks by membership, masks of different routers share no position, and together they are the
-- positions that have a row.
use Rattle.std.proofs.Common.{◌≡◌, ℕ, zero, suc, ◌-◌, ◌<◌, ◌≤◌, ◌&&◌, Bool, true, false, List, [], ◌∷◌, length, get_or, map, replicate, filter, ◌+◌, ◌++◌, Option, Some, None, is_some, refl, sym, ap, ◌∙◌, arith, subst, inl, inr, ◌↔◌}
use Rattle.std.proofs.lemmas.Bool.{cases_Bool, cases_lt, true≢false, eq-eqb, eqb-true}
use Rattle.std.proofs.lemmas.List.{get_or_past, get_or-map, get_or_append_left, length-append, length-map}
use Rattle.std.proofs.lemmas.Slice.Eq.{bytes_eq-Decides}
use Rattle.std.specs.Str.{bytes_eq}
use Rattle.std.proofs.Math.Bool.{and-false}
use Rattle.std.proofs.Math.ListN.{get_or-map as any-get_or-map}
use Rattle.wire_base.specs.declared.view.First.{First}
use Rattle.wire_base.specs.model.BitSet.{has_member, IsWithin, intersection, up_to}
use Rattle.wire_base.proofs.SetLaws.{within-filter, has-filter, has-up_to, has_head, within-up_to, has-intersection}
use Rattle.bift_table.specs.Bift.{router_at, same_end, same_router, leads_to, mask_of, routed_of, member_at, table_of}

-- ---- one router

same_end-is : (a b : Option ℕ) → same_end a b ≡ true → a ≡ b
same_end-is None None q = refl
same_end-is None (Some b) q = absurd (true≢false (sym q))
same_end-is (Some a) None q = absurd (true≢false (sym q))
same_end-is (Some a) (Some b) q = ap (λ (n : ℕ). Some n) (eqb-true a b q)

same_end-refl : (a : Option ℕ) → same_end a a ≡ true
same_end-refl None = refl
same_end-refl (Some a) = eq-eqb a a refl

and-left : (a b : Bool) → (a && b) ≡ true → a ≡ true
and-left true b q = refl
and-left false b q = absurd (true≢false (sym q))

and-right : (a b : Bool) → (a && b) ≡ true → b ≡ true
and-right true b q = q
and-right false b q = absurd (true≢false (sym q))

abbrev first_with : List ℕ → Option ℕ → First
first_with octets direct = record { system = record { 0 = octets }; direct = direct }

pub same_router-is : (a b : First) → same_router a b ≡ true → a ≡ b
same_router-is a b q =
    let same = (bytes_eq-Decides a.system.0 b.system.0).0 (and-left (bytes_eq a.system.0 b.system.0) (same_end a.direct b.direct) q) in
    let ends = same_end-is a.direct b.direct (and-right (bytes_eq a.system.0 b.system.0) (same_end a.direct b.direct) q) in
    ap (λ (s : List ℕ). first_with s a.direct) same ∙ ap (λ (e : Option ℕ). first_with b.system.0 e) ends

pub same_router-refl : (a : First) → same_router a a ≡ true
same_router-refl a = rw ((bytes_eq-Decides a.system.0 a.system.0).1 refl, same_end-refl a.direct) refl

-- ---- positions

pub router_at-past : (table : List (Option First)) (p : ℕ) → length table < p → router_at table p ≡ None
router_at-past table zero past = refl
router_at-past table (suc p) past = get_or_past table p None (omega arith)

pub router_at-place : (table : List (Option First)) (i p : ℕ) → p ≡ suc i → router_at table p ≡ get_or table i None
router_at-place table i p e = ap (router_at table) e

-- a test that holds of no position outside of the table
has-positions : (n : ℕ) (test : ℕ → Bool) (p : ℕ) → test zero ≡ false → ((q : ℕ) → n < q → test q ≡ false) → has_member p (filter test (up_to n)) ≡ test p
has-positions n test p start past =
    has-filter p test (up_to n) ∙ elim (cases_lt n p) [
      | inl above ↦ rw (past p above) (and-false (has_member p (up_to n)))
      | inr within ↦ elim (cases_lt 0 p) [
        | inl low ↦ rw (has-up_to p n low within) refl
        | inr none ↦ (let e : p ≡ zero = omega arith in let off : test p ≡ false = ap test e ∙ start in rw off (and-false (has_member p (up_to n))))
      ]
    ]

pub has-mask : (table : List (Option First)) (f : First) (p : ℕ) → has_member p (mask_of table f) ≡ leads_to (router_at table p) f
unfolding mask_of
has-mask table f p = has-positions (length table) (λ q. leads_to (router_at table q) f) p refl (λ q past. ap (λ o. leads_to o f) (router_at-past table q past))

pub has-routed : (table : List (Option First)) (p : ℕ) → has_member p (routed_of table) ≡ is_some (router_at table p)
unfolding routed_of
has-routed table p = has-positions (length table) (λ q. is_some (router_at table q)) p refl (λ q past. ap (λ (o : Option First). is_some o) (router_at-past table q past))

-- ---- masks of different routers, and all of them

pub none-member : (xs : List ℕ) → ((p : ℕ) → has_member p xs ≡ false) → xs ≡ []
none-member [] none = refl
none-member (x ∷ xs) none = absurd (true≢false (sym (has_head x xs) ∙ none x))

pub masks-disjoint : (table : List (Option First)) (f g : First) → same_router f g ≡ false → intersection (mask_of table f) (mask_of table g) ≡ []
masks-disjoint table f g other =
    none-member (intersection (mask_of table f) (mask_of table g))
    (λ p. has-intersection p (mask_of table f) (mask_of table g) ∙ rw (has-mask table f p, has-mask table g p) (apart (router_at table p)))
  where
    apart : (o : Option First) → (leads_to o f && leads_to o g) ≡ false
    apart None = refl
    apart (Some h) = elim (cases_Bool (same_router h f)) [
      | inl same ↦ rw (same, same_router-is h f same) other
      | inr differs ↦ rw differs refl
    ]

pub routed-union : (table : List (Option First)) (p : ℕ) → (has_member p (routed_of table) ≡ true) ↔ ((f : First) × (has_member p (mask_of table f) ≡ true))
routed-union table p = (λ q. on (router_at table p) refl (sym (has-routed table p) ∙ q), λ x. back (router_at table p) refl x.0 (sym (has-mask table x.0 p) ∙ x.1))
  where
    on : (o : Option First) → router_at table p ≡ o → is_some o ≡ true → (f : First) × (has_member p (mask_of table f) ≡ true)
    on None e q = absurd (true≢false (sym q))
    on (Some f) e q = (f, has-mask table f p ∙ ap (λ o. leads_to o f) e ∙ same_router-refl f)

    back : (o : Option First) → router_at table p ≡ o → (f : First) → leads_to o f ≡ true → has_member p (routed_of table) ≡ true
    back None e f q = absurd (true≢false (sym q))
    back (Some g) e f q = has-routed table p ∙ ap (λ (o : Option First). is_some o) e

-- ---- a table from lists of routers

pub length-table : (rows : List (List First)) (class : ℕ) → length (table_of rows class) ≡ length rows
unfolding table_of
length-table rows class = length-map rows (member_at class)

pub router_at-table : (rows : List (List First)) (class i p : ℕ) (row : List First) → i < length rows → row ≡ get_or rows i row → p ≡ suc i → member_at class row ≡ router_at (table_of rows class) p
unfolding table_of
router_at-table rows class i p row lt is e = sym (router_at-place (map (member_at class) rows) i p e ∙ get_or-map (member_at class) rows i row None lt ∙ ap (member_at class) (sym is))

-- the same, where only the lists of the first positions are stored
pub stored-within : (rows stored : List (List First)) (k : ℕ) → rows ≡ stored ++ replicate k [] → length stored ≤ length rows
stored-within rows stored k is =
    let size : length rows ≡ length stored + length (replicate {A = List First} k []) = ap (λ (l : List (List First)). length l) is ∙ length-append stored (replicate k []) in
    omega (arith, size)

pub router_at-stored : (rows stored : List (List First)) (class k i p : ℕ) (row : List First) → rows ≡ stored ++ replicate k [] → i < length stored → row ≡ get_or stored i row → p ≡ suc i → member_at class row ≡ router_at (table_of rows class) p
router_at-stored rows stored class k i p row is lt at e =
    router_at-table rows class i p row (omega (arith, lt, stored-within rows stored k is)) (at ∙ sym (ap (λ (l : List (List First)). get_or l i row) is ∙ get_or_append_left stored (replicate k []) row i lt)) e

-- at the end of the loops over all positions
pub mask-whole : (rows : List (List First)) (class n : ℕ) (f : First) (mask : List ℕ) → n ≡ length rows → mask ≡ filter (λ p. leads_to (router_at (table_of rows class) p) f) (up_to n) → mask ≡ mask_of (table_of rows class) f
unfolding mask_of
mask-whole rows class n f mask e q = q ∙ ap (λ (k : ℕ). filter (λ p. leads_to (router_at (table_of rows class) p) f) (up_to k)) (e ∙ sym (length-table rows class))

-- the router of each position is a member of the position's list
pub table-at : (rows : List (List First)) (class p : ℕ) → 1 ≤ p → router_at (table_of rows class) p ≡ member_at class (get_or rows (p - 1) [])
unfolding table_of
table-at rows class zero low = absurd (omega arith)
table-at rows class (suc p) low = let e : p ≡ suc p - 1 = omega arith in any-get_or-map (member_at class) rows p [] ∙ ap (λ (k : ℕ). member_at class (get_or rows k [])) e

pub within-routed : (table : List (Option First)) (size : ℕ) → length table ≡ size → IsWithin 0 size (routed_of table)
unfolding routed_of
within-routed table size e = subst (λ n. IsWithin 0 n (filter (λ p. is_some (router_at table p)) (up_to (length table)))) e (within-filter 0 (length table) (λ p. is_some (router_at table p)) (up_to (length table)) (within-up_to (length table)))

pub within-mask : (table : List (Option First)) (f : First) → IsWithin 0 (length table) (mask_of table f)
unfolding mask_of
within-mask table f = within-filter 0 (length table) (λ p. leads_to (router_at table p) f) (up_to (length table)) (within-up_to (length table))
