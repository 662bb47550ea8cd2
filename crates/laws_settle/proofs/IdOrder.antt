-- The LSP ID after another: no LSP ID lies between the two.
use Rattle.std.proofs.Common.{◌≡◌, ℕ, zero, suc, ◌+◌, ◌*◌, ◌^◌, ◌/◌, ◌<◌, true, false, List, [], ◌∷◌, ◌++◌, length, length-append, slice_index, refl, sym, ap, subst, ◌∙◌, arith}
use Rattle.std.specs.List.{AllByRecursion}
use Rattle.std.specs.Ordering.{MatchOrdering, is_lt, nat_cmp}
use Rattle.std.specs.declared.cmp.Ordering.{Ordering}
use Rattle.std.specs.declared.cmp.Ordering.TheVariants.{Less}
use Rattle.std.specs.Cmp.{ranks}
use Rattle.std.specs.Int.{byte_at, bytes_high_first}
use Rattle.std.proofs.Math.Nat.{add-mul, add_assoc, mod-eq_of_lt, mod-lt, mul_assoc, pow-succ'}
use Rattle.std.proofs.lemmas.Bool.{false_from_ne_true, false≢true}
use Rattle.byteorder.specs.Endian.{big_bytes, big_from, big_number}
use Rattle.byteorder.specs.Numbers.{big_from-bytes, big_from-cons, big_from-lt}
use Rattle.wire_base.specs.declared.addresses.LspId.{LspId}
use Rattle.wire_base.specs.model.Control.{is_below}
use Rattle.wire_base.specs.model.Flooding.{id_after, id_from, last_id, zero_id}
use Rattle.wire_base.specs.model.Tlv.{lsp_id}
use Rattle.lsp_store.specs.Keys.{IsOctets, id_key, octets_from}
use Rattle.lsp_store.proofs.KeyLaws.{key_order}

-- ---- the order as that of numbers

is_less : (x y : ℕ) (o : Ordering) → MatchOrdering o (x < y) (x ≡ y) (y < x) → is_lt o ≡ true → x < y
is_less x y Less h q = h
is_less x y other h q = absurd (false≢true q)

below_less : (a b : LspId) → IsOctets a → IsOctets b → is_below a b ≡ true → id_key a < id_key b
below_less a b h k below = is_less (id_key a) (id_key b) (nat_cmp (id_key a) (id_key b)) (ranks (id_key a) (id_key b)) (ap is_lt (sym (key_order a b h k)) ∙ below)

-- ---- the number of octets

octets_joined : (xs ys : List ℕ) (n : ℕ) → octets_from n (xs ++ ys) ≡ octets_from (octets_from n xs) ys
octets_joined [] ys n = refl
octets_joined (x ∷ xs) ys n = octets_joined xs ys (n * 256 + x)

octets_number : (xs : List ℕ) (m n : ℕ) → length xs ≡ n → octets_from m xs ≡ m * 256 ^ n + big_from 0 n xs
octets_number [] m zero long = omega arith
octets_number [] m (suc n) long = absurd (omega (arith, long))
octets_number (x ∷ xs) m zero long = absurd (omega (arith, long))
octets_number (x ∷ xs) m (suc n) long =
    let rest = octets_number xs (m * 256 + x) n (omega (arith, long)) in
    let moved = big_from-cons 0 n x xs in
    let power : 256 ^ suc n ≡ 256 * 256 ^ n = pow-succ' 256 n in
    let both : (m * 256 + x) * 256 ^ n ≡ m * (256 * 256 ^ n) + x * 256 ^ n = add-mul (m * 256) x (256 ^ n) ∙ ap (λ (y : ℕ). y + x * 256 ^ n) (mul_assoc m 256 (256 ^ n)) in
    rest ∙ ap (λ (y : ℕ). y + big_from 0 n xs) both ∙ add_assoc (m * (256 * 256 ^ n)) (x * 256 ^ n) (big_from 0 n xs)
    ∙ ap (λ (y : ℕ). y + (x * 256 ^ n + big_from 0 n xs)) (ap (λ (y : ℕ). m * y) (sym power))
    ∙ ap (λ (y : ℕ). m * 256 ^ suc n + (x * 256 ^ n + y)) (sym moved)

key_number : (id : LspId) → IsOctets id → id_key id ≡ big_number 8 (lsp_id id)
key_number id h =
    sym (octets_joined id.system.0 (id.pseudonode ∷ id.fragment ∷ []) 0)
    ∙ octets_number (lsp_id id) 0 8 (length-append id.system.0 (id.pseudonode ∷ id.fragment ∷ []) ∙ ap (λ (n : ℕ). n + 2) h.system.six)
    ∙ omega arith

key_low : (id : LspId) → IsOctets id → id_key id < 256 ^ 8
key_low id h = subst (λ (n : ℕ). n < 256 ^ 8) (sym (key_number id h)) (big_from-lt 0 8 (lsp_id id) (read_low (lsp_id id) (all_low id.system.0 h.system.each)))
  where
    all_low : (xs : List ℕ) → AllByRecursion (λ x. x < 256) xs → AllByRecursion (λ x. x < 256) (xs ++ (id.pseudonode ∷ id.fragment ∷ []))
    all_low [] all = (h.pseudonode, (h.fragment, tt))
    all_low (x ∷ xs) all = (all.0, all_low xs all.1)

    read_low : (xs : List ℕ) → AllByRecursion (λ x. x < 256) xs → (k : ℕ) → slice_index xs k < 256
    read_low [] all k = omega arith
    read_low (x ∷ xs) all zero = all.0
    read_low (x ∷ xs) all (suc k) = read_low xs all.1 k

-- ---- LSP IDs of numbers

pub from_octets : (n : ℕ) → IsOctets (id_from (big_bytes 8 n))
from_octets n = record {
  system = record { six = refl; each = (low 7, (low 6, (low 5, (low 4, (low 3, (low 2, tt)))))) };
  pseudonode = low 1;
  fragment = low 0;
}
  where
    low : (k : ℕ) → byte_at k n < 256
    low zero = mod-lt n (omega arith)
    low (suc k) = mod-lt (n / 256 ^ suc k) (omega arith)

from_key : (n : ℕ) → n < 256 ^ 8 → id_key (id_from (big_bytes 8 n)) ≡ n
from_key n low =
    let octets : lsp_id (id_from (big_bytes 8 n)) ≡ bytes_high_first 8 n ++ [] = refl in
    key_number (id_from (big_bytes 8 n)) (from_octets n) ∙ ap (λ (xs : List ℕ). big_number 8 xs) octets ∙ big_from-bytes 8 n [] ∙ mod-eq_of_lt low

pub after_octets : (id : LspId) → IsOctets (id_after id)
unfolding id_after
after_octets id = from_octets (big_number 8 (lsp_id id) + 1)

after_key : (id : LspId) → IsOctets id → id_key id + 1 < 256 ^ 8 → id_key (id_after id) ≡ id_key id + 1
unfolding id_after
after_key id h low =
    let same = key_number id h in
    from_key (big_number 8 (lsp_id id) + 1) (omega (arith, low, same)) ∙ ap (λ (n : ℕ). n + 1) (sym same)

pub zero_octets : IsOctets zero_id
zero_octets = record { system = record { six = refl; each = (omega arith, (omega arith, (omega arith, (omega arith, (omega arith, (omega arith, tt)))))) }; pseudonode = omega arith; fragment = omega arith }

pub last_octets : IsOctets last_id
last_octets = record { system = record { six = refl; each = (omega arith, (omega arith, (omega arith, (omega arith, (omega arith, (omega arith, tt)))))) }; pseudonode = omega arith; fragment = omega arith }

-- ---- what no LSP ID is

-- none is below the least
pub none_below : (id : LspId) → IsOctets id → is_below id zero_id ≡ false
none_below id h = false_from_ne_true (is_below id zero_id) (λ below. let less : id_key id < 0 = below_less id zero_id h zero_octets below in absurd (omega (arith, less)))

-- none is above the greatest
pub none_above : (id : LspId) → IsOctets id → is_below last_id id ≡ false
none_above id h = false_from_ne_true (is_below last_id id) (λ below. let less : 18446744073709551615 < id_key id = below_less last_id id last_octets h below in let low : id_key id < 18446744073709551616 = key_low id h in absurd (omega (arith, less, low)))

-- and none is between one and the next
pub none_between : (a id : LspId) → IsOctets a → IsOctets id → is_below a id ≡ true → is_below id (id_after a) ≡ false
none_between a id h k above =
    false_from_ne_true (is_below id (id_after a))
    (λ below.
    let low : id_key id < 18446744073709551616 = key_low id k in
    let more : id_key a < id_key id = below_less a id h k above in
    let next : id_key (id_after a) ≡ id_key a + 1 = after_key a h (omega (arith, low, more)) in
    let less : id_key id < id_key (id_after a) = below_less id (id_after a) k (after_octets a) below in
    absurd (omega (arith, more, next, less)))
