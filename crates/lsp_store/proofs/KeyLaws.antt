-- The order of identifiers is that of their numbers.
use Rattle.std.proofs.Common.{◌≡◌, ℕ, ◌+◌, ◌*◌, ◌<◌, List, [], ◌∷◌, length, refl, sym, ap, ◌∙◌, arith, nat_lt, lt-ltb}
use Rattle.std.specs.declared.cmp.Ordering.{Ordering}
use Rattle.std.specs.declared.cmp.Ordering.TheVariants.{Less, Equal, Greater}
use Rattle.std.specs.Ordering.{MatchOrdering, nat_cmp, ordering_then, is_gt}
use Rattle.std.specs.Cmp.{nat_cmp_is, ranks}
use Rattle.std.specs.Cmp.Lexicographic.{slice_cmp}
use Rattle.std.specs.List.{AllByRecursion}
use Rattle.std.proofs.lemmas.Bool.{le-ltb}
use Rattle.wire_base.specs.declared.addresses.LspId.{LspId}
use Rattle.wire_base.specs.declared.addresses.SystemId.{SystemId}
use Rattle.wire_base.specs.model.Control.{id_order, system_order}
use Rattle.lsp_store.specs.Keys.{AreOctets, IsOctets, id_key, octets_from}

-- one more octet decides where the numbers before it are equal
one_more : (m n x y : ℕ) (p q : Ordering) → MatchOrdering p (m < n) (m ≡ n) (n < m) → MatchOrdering q (x < y) (x ≡ y) (y < x) → x < 256 → y < 256
    → MatchOrdering (ordering_then p q) (m * 256 + x < n * 256 + y) (m * 256 + x ≡ n * 256 + y) (n * 256 + y < m * 256 + x)
one_more m n x y Less q h k a b = omega (arith, h, a, b)
one_more m n x y Greater q h k a b = omega (arith, h, a, b)
one_more m n x y Equal Less h k a b = omega (arith, h, k)
one_more m n x y Equal Equal h k a b = omega (arith, h, k)
one_more m n x y Equal Greater h k a b = omega (arith, h, k)

decided : (m n x y : ℕ) → x < 256 → y < 256 → ordering_then (nat_cmp m n) (nat_cmp x y) ≡ nat_cmp (m * 256 + x) (n * 256 + y)
decided m n x y a b = nat_cmp_is (m * 256 + x) (n * 256 + y) _ (one_more m n x y (nat_cmp m n) (nat_cmp x y) (ranks m n) (ranks x y) a b)

then_assoc : (o p q : Ordering) → ordering_then o (ordering_then p q) ≡ ordering_then (ordering_then o p) q
then_assoc Less p q = refl
then_assoc Equal p q = refl
then_assoc Greater p q = refl

then_tie : (o : Ordering) → ordering_then o Equal ≡ o
then_tie Less = refl
then_tie Equal = refl
then_tie Greater = refl

octets_order : (xs ys : List ℕ) (m n : ℕ) → length xs ≡ length ys → AllByRecursion (λ x. x < 256) xs → AllByRecursion (λ y. y < 256) ys
    → ordering_then (nat_cmp m n) (slice_cmp nat_cmp xs ys) ≡ nat_cmp (octets_from m xs) (octets_from n ys)
octets_order [] [] m n e h k = then_tie (nat_cmp m n)
octets_order [] (y ∷ ys) m n e h k = absurd (omega (arith, e))
octets_order (x ∷ xs) [] m n e h k = absurd (omega (arith, e))
octets_order (x ∷ xs) (y ∷ ys) m n e h k =
    then_assoc (nat_cmp m n) (nat_cmp x y) (slice_cmp nat_cmp xs ys)
    ∙ ap (λ o. ordering_then o (slice_cmp nat_cmp xs ys)) (decided m n x y h.0 k.0)
    ∙ octets_order xs ys (m * 256 + x) (n * 256 + y) (omega (arith, e)) h.1 k.1

above_is : (x y : ℕ) (o : Ordering) → MatchOrdering o (x < y) (x ≡ y) (y < x) → nat_lt y x ≡ is_gt o
above_is x y Less h = le-ltb y x (omega (arith, h))
above_is x y Equal h = le-ltb y x (omega (arith, h))
above_is x y Greater h = lt-ltb _ _ h

pub above_by_number : (x y : ℕ) → nat_lt y x ≡ is_gt (nat_cmp x y)
above_by_number x y = above_is x y (nat_cmp x y) (ranks x y)

pub system_key_order : (a b : SystemId) → AreOctets a.0 → AreOctets b.0 → system_order a b ≡ nat_cmp (octets_from 0 a.0) (octets_from 0 b.0)
system_key_order a b h k = octets_order a.0 b.0 0 0 (h.six ∙ sym k.six) h.each k.each

pub key_order : (a b : LspId) → IsOctets a → IsOctets b → id_order a b ≡ nat_cmp (id_key a) (id_key b)
key_order a b h k =
    ap (λ o. ordering_then o (ordering_then (nat_cmp a.pseudonode b.pseudonode) (nat_cmp a.fragment b.fragment))) (system_key_order a.system b.system h.system k.system)
    ∙ then_assoc (nat_cmp (octets_from 0 a.system.0) (octets_from 0 b.system.0)) _ _
    ∙ ap (λ o. ordering_then o (nat_cmp a.fragment b.fragment)) (decided _ _ a.pseudonode b.pseudonode h.pseudonode k.pseudonode)
    ∙ decided _ _ a.fragment b.fragment h.fragment k.fragment
