-- The steps of the loops over ids and over sets.
use Rattle.std.proofs.Common.{◌≡◌, ℕ, suc, ◌+◌, ◌<◌, ◌==◌, ◌||◌, not, Bool, true, false, List, [], ◌∷◌, ◌++◌, length, take, get_or, filter, map, nat_lt, Some, None, refl, ap, sym, ◌∙◌, arith}
use Rattle.std.specs.List.{AllByRecursion, list_any}
use Rattle.std.specs.Option.{option_map_or}
use Rattle.std.proofs.lemmas.Bool.{le-ltb}
use Rattle.std.proofs.lemmas.List.{map-append}
use Rattle.std.proofs.lemmas.List.Folds.{list_any_more}
use Rattle.wire_base.specs.declared.bsl.Bsl.{Bsl}
use Rattle.wire_base.specs.declared.triple.Triple.{Triple}
use Rattle.wire_base.specs.model.BitSet.{has_member, with_member}
use Rattle.wire_base.specs.model.Ingress.{sets_of, ids_of_set, packet_for, packets_for}
use Rattle.wire_base.specs.model.OnFrame.{Positions}
use Rattle.wire_base.specs.model.Place.{bits_of, bit_position, position_in, set_identifier}
use Rattle.wire_base.proofs.SetLaws.{has-with}
use Rattle.bier_bits.specs.Any.{bsl_of, positions_of}
use Rattle.bfr_edge.specs.declared.packet.Packet.{Packet}
use Rattle.bfr_edge.specs.Entry.{positions_in, placed}
use Rattle.bfr_edge.proofs.GroupLaws.{named, no-bits, set-here, set-missing, all-sets}

or-comm : (a b : Bool) → (a || b) ≡ (b || a)
or-comm true true = refl
or-comm true false = refl
or-comm false true = refl
or-comm false false = refl

or-false : (a : Bool) → (a || false) ≡ a
or-false true = refl
or-false false = refl

not-false : (b : Bool) → false ≡ not b → b ≡ true
not-false true q = refl
not-false false q = cc

not-true : (b : Bool) → true ≡ not b → b ≡ false
not-true true q = cc
not-true false q = refl

-- ---- one id more

pub member-more : (t : Triple) (p i x bp : ℕ) (ids set new : List ℕ) → i < length ids → x ≡ get_or ids i 0 → position_in t x ≡ Some bp → has_member p set ≡ list_any (named t p) (take i ids) → new ≡ with_member bp set → has_member p new ≡ list_any (named t p) (take (i + 1) ids)
member-more t p i x bp ids set new lt e at so_far changed =
    let here : named t p (get_or ids i 0) ≡ (p == bp) = ap (named t p) (sym e) ∙ ap (λ o. option_map_or (λ q. p == q) o false) at in
    ap (has_member p) changed ∙ has-with p bp set ∙ or-comm (p == bp) (has_member p set)
    ∙ ap (λ b. b || (p == bp)) so_far ∙ ap (λ b. list_any (named t p) (take i ids) || b) (sym here) ∙ sym (list_any_more (named t p) ids i 0 lt)

pub member-same : (t : Triple) (p i x : ℕ) (ids set : List ℕ) → i < length ids → x ≡ get_or ids i 0 → position_in t x ≡ None → has_member p set ≡ list_any (named t p) (take i ids) → has_member p set ≡ list_any (named t p) (take (i + 1) ids)
member-same t p i x ids set lt e at so_far =
    let here : named t p (get_or ids i 0) ≡ false = ap (named t p) (sym e) ∙ ap (λ o. option_map_or (λ q. p == q) o false) at in
    so_far ∙ sym (or-false (list_any (named t p) (take i ids))) ∙ ap (λ b. list_any (named t p) (take i ids) || b) (sym here) ∙ sym (list_any_more (named t p) ids i 0 lt)

-- ---- one set more

abbrev pub among : ℕ → Bsl → List ℕ → ℕ → List Positions
among sd bsl ids n = map placed (map (packet_for sd bsl ids) (filter (λ s. nat_lt s n) (sets_of bsl ids)))

pub packets-more : (sd : ℕ) (bsl : Bsl) (ids : List ℕ) (n m : ℕ) (packets new : List Packet) (p : Packet) → list_any (λ k. k == 0) ids ≡ false → m ≡ suc n → p.triple ≡ record { sd = sd; bsl = bsl; si = n }
    → positions_of p.bits ≡ map (bit_position (bits_of bsl)) (ids_of_set bsl ids n) → false ≡ (length (positions_of p.bits) == 0) → map positions_in packets ≡ among sd bsl ids n → new ≡ packets ++ p ∷ [] → map positions_in new ≡ among sd bsl ids m
packets-more sd bsl ids n m packets new p none e triple bits some so_far changed =
    let has : has_member n (sets_of bsl ids) ≡ true = not-false (has_member n (sets_of bsl ids)) (some ∙ ap (λ l. length l == 0) bits ∙ no-bits bsl ids n) in
    let before = filter (λ s. nat_lt s n) (sets_of bsl ids) in
    let f = packet_for sd bsl ids in
    let this : positions_in p ≡ placed (f n) = ap (λ t. pair t (positions_of p.bits)) triple ∙ ap (λ l. pair (record { sd = sd; bsl = bsl; si = n }) l) bits in
    let split : among sd bsl ids m ≡ map placed (map f before) ++ placed (f n) ∷ [] = ap (λ l. map placed (map f l)) (set-here n m bsl ids none e has) ∙ ap (map placed) (map-append f before (n ∷ [])) ∙ map-append placed (map f before) (f n ∷ []) in
    ap (map positions_in) changed ∙ map-append positions_in packets (p ∷ []) ∙ ap (λ l. l ++ positions_in p ∷ []) so_far ∙ ap (λ x. map placed (map f before) ++ x ∷ []) this ∙ sym split
  where
    pair : Triple → List ℕ → Positions
    pair t l = record { triple = t; positions = l }

pub packets-same : (sd : ℕ) (bsl : Bsl) (ids : List ℕ) (n m : ℕ) (packets : List Packet) (set : List ℕ) → list_any (λ k. k == 0) ids ≡ false → m ≡ suc n → set ≡ map (bit_position (bits_of bsl)) (ids_of_set bsl ids n) → true ≡ (length set == 0) → map positions_in packets ≡ among sd bsl ids n → map positions_in packets ≡ among sd bsl ids m
packets-same sd bsl ids n m packets set none e bits empty so_far =
    let hasnt : has_member n (sets_of bsl ids) ≡ false = not-true (has_member n (sets_of bsl ids)) (empty ∙ ap (λ l. length l == 0) bits ∙ no-bits bsl ids n) in
    so_far ∙ sym (ap (λ l. map placed (map (packet_for sd bsl ids) l)) (set-missing n m bsl ids none e hasnt))

pub lengths-push : (packets : List Packet) (p : Packet) → AllByRecursion (λ q. bsl_of q.bits ≡ q.triple.bsl) packets → bsl_of p.bits ≡ p.triple.bsl → AllByRecursion (λ q. bsl_of q.bits ≡ q.triple.bsl) (packets ++ p ∷ [])
lengths-push [] p are is = (is, tt)
lengths-push (q ∷ packets) p are is = (are.0, lengths-push packets p are.1 is)

no-number : (xs : List ℕ) → filter (λ s. nat_lt s 0) xs ≡ []
no-number [] = refl
no-number (x ∷ xs) = rw (le-ltb x 0 (omega arith)) (no-number xs)

pub packets-none : (sd : ℕ) (bsl : Bsl) (ids : List ℕ) (packets : List Packet) → packets ≡ [] → map positions_in packets ≡ among sd bsl ids 0
packets-none sd bsl ids packets e = ap (map positions_in) e ∙ sym (ap (λ l. map placed (map (packet_for sd bsl ids) l)) (no-number (sets_of bsl ids)))

pub packets-whole : (sd : ℕ) (bsl : Bsl) (ids : List ℕ) (n last : ℕ) (packets : List Packet) → n ≡ suc last → list_any (λ k. nat_lt last (set_identifier (bits_of bsl) k)) ids ≡ false → map positions_in packets ≡ among sd bsl ids n → map positions_in packets ≡ map placed (packets_for sd bsl ids)
unfolding packets_for
packets-whole sd bsl ids n last packets e small so_far = so_far ∙ ap (λ l. map placed (map (packet_for sd bsl ids) l)) (all-sets bsl ids n last e small)
