-- A header that is read is spelled so, a header that is spelled is read again whatever follows it, and no two headers
-- have the same octets.
use Rattle.std.proofs.Common.{◌≡◌, ℕ, ◌+◌, ◌*◌, ◌/◌, ◌%◌, ◌^◌, ◌<◌, ◌≤◌, ◌==◌, Bool, true, false, not, List, [], ◌∷◌, ◌++◌, length, take, drop, Option, Some, None, Result, Ok, Err, refl, sym, ap, subst, ◌∙◌, arith, inl, inr, cond, ltb}
use Rattle.std.proofs.lemmas.Bool.{cases_lt, ltb-false, le-ltb, eq-eqb, ne_eqb}
use Rattle.std.proofs.lemmas.Bool.Decides.{eqb_tells, nat_tests}
use Rattle.std.proofs.lemmas.List.{take_at, drop-drop, length-append, length-take, length-drop, get_or-drop, get_or-take, get_or_past}
use Rattle.std.proofs.Math.Seq.{take-add}
use Rattle.byteorder.specs.Endian.{big_bytes, big_number}
use Rattle.byteorder.specs.Numbers.{big_number-reads_back, big_from-lt}
use Rattle.wire_base.specs.declared.bsl.Bsl.{Bsl}
use Rattle.wire_base.specs.declared.bsl.Bsl.TheVariants.{B64, B128, B256, B512, B1024, B2048, B4096}
use Rattle.wire_base.specs.declared.conf.Kind.{Kind}
use Rattle.wire_base.specs.declared.conf.Kind.TheVariants.{Mpls, Configured}
use Rattle.wire_base.specs.declared.faults.HeadFault.{HeadFault}
use Rattle.wire_base.specs.declared.faults.HeadFault.TheVariants as faults
use Rattle.wire_base.specs.model.Place.{bits_of, code_of, bsl_coded, bsl_with}
use Rattle.wire_base.specs.model.BitSet.{IsWithin, set_of, octets_of}
use Rattle.wire_base.specs.model.Fields.{AreOctets}
use Rattle.wire_base.specs.model.BierHeader.{BierHeader, FieldsFit, IsHeader, header_length, first_word, second_word, third_word, header_octets, word_of, has_wrong_nibble, version_of, bsl_code_of, fields_of, header_at, coded_at, coded_header_at}
use Rattle.wire_base.proofs.SetLaws.{within-set_of}
use Rattle.wire_base.proofs.SetOctets.{length-octets_of, set_of-octets_of, octets_of-set_of}

-- ---- words

cells : (a b c d x : ℕ) → a < 256 → b < 256 → c < 256 → d < 256 → x ≡ a * 16777216 + (b * 65536 + (c * 256 + d)) → (x / 16777216 % 256 ≡ a) × (x / 65536 % 256 ≡ b) × (x / 256 % 256 ≡ c) × (x % 256 ≡ d)
cells a b c d x ha hb hc hd e = (omega arith, omega arith, omega arith, omega arith)

-- four octets at the front are those of the number that they stand for
front_word : (octets : List ℕ) → 4 ≤ length octets → AreOctets octets → take 4 octets ≡ big_bytes 4 (big_number 4 octets)
front_word [] long fits = absurd (omega arith)
front_word (a ∷ []) long fits = absurd (omega arith)
front_word (a ∷ b ∷ []) long fits = absurd (omega arith)
front_word (a ∷ b ∷ c ∷ []) long fits = absurd (omega arith)
front_word (a ∷ b ∷ c ∷ d ∷ rest) long fits =
    let e = cells a b c d (big_number 4 (a ∷ b ∷ c ∷ d ∷ rest)) (fits 0) (fits 1) (fits 2) (fits 3) (omega arith) in
    rw (e.0, e.1, e.2, e.3) refl

octets-drop : (n : ℕ) (octets : List ℕ) → AreOctets octets → AreOctets (drop n octets)
octets-drop n octets fits i = rw get_or-drop (fits (n + i))

octets-take : (n : ℕ) (octets : List ℕ) → AreOctets octets → AreOctets (take n octets)
octets-take n octets fits i = elim (cases_lt i n) [
  | inl lt ↦ rw (get_or-take n octets i 0 lt) (fits i)
  | inr ge ↦ rw (get_or_past (take n octets) i 0 (omega (arith, length-take n octets))) (omega arith)
]

word_at : (n : ℕ) (octets : List ℕ) → n + 4 ≤ length octets → AreOctets octets → take 4 (drop n octets) ≡ big_bytes 4 (word_of octets n)
word_at n octets long fits = front_word (drop n octets) (omega (arith, length-drop n octets)) (octets-drop n octets fits)

word_small : (n : ℕ) (octets : List ℕ) → AreOctets octets → word_of octets n < 2 ^ 32
word_small n octets fits = big_from-lt 0 4 (drop n octets) (octets-drop n octets fits)

-- ---- what is read is spelled so

-- the front of a list, in its four parts
take_four : (n k : ℕ) (octets : List ℕ) → n ≡ 4 + k → take n octets ≡ take 4 octets ++ take k (drop 4 octets)
take_four n k octets e = ap (λ (m : ℕ). take m octets) e ∙ take-add 4 k octets

four_parts : (k : ℕ) (octets : List ℕ) → take (12 + k) octets ≡ take 4 octets ++ (take 4 (drop 4 octets) ++ (take 4 (drop 8 octets) ++ take k (drop 12 octets)))
four_parts k octets =
    take_four (12 + k) (8 + k) octets (omega arith) ∙ ap (λ (l : List ℕ). take 4 octets ++ l)
    (take_four (8 + k) (4 + k) (drop 4 octets) (omega arith) ∙ ap (λ (l : List ℕ). take 4 (drop 4 octets) ++ l)
    (ap (λ (l : List ℕ). take (4 + k) l) (drop-drop 4 4 octets) ∙ take_four (4 + k) k (drop 8 octets) refl ∙ ap (λ (l : List ℕ). take 4 (drop 8 octets) ++ take k l) (drop-drop 4 8 octets)))

first_is : (x : ℕ) (b : Bool) → b ≡ (x / 2 ^ 8 % 2 == 1) → x / 2 ^ 12 * 2 ^ 12 + x / 2 ^ 9 % 2 ^ 3 * 2 ^ 9 + (cond b 1 0) * 2 ^ 8 + x % 2 ^ 8 ≡ x
first_is x b e = elim (eqb_tells (x / 2 ^ 8 % 2) 1) [
  | inl odd ↦ rw (e, odd.0) (omega (arith, odd.1))
  | inr even ↦ rw (e, even.0) (omega (arith, even.1))
]

second_is : (x : ℕ) → version_of x ≡ 0 → x / 2 ^ 28 * 2 ^ 28 + bsl_code_of x * 2 ^ 20 + x % 2 ^ 20 ≡ x
second_is x zero = omega arith

third_is : (x : ℕ) → x / 2 ^ 30 * 2 ^ 30 + x / 2 ^ 28 % 2 ^ 2 * 2 ^ 28 + x / 2 ^ 22 % 2 ^ 6 * 2 ^ 22 + x / 2 ^ 16 % 2 ^ 6 * 2 ^ 16 + x % 2 ^ 16 ≡ x
third_is x = omega arith

fields_fit : (bsl : Bsl) (octets : List ℕ) → AreOctets octets → FieldsFit (fields_of bsl octets)
fields_fit bsl octets fits =
    let a = word_small 0 octets fits in
    let b = word_small 4 octets fits in
    let c = word_small 8 octets fits in
    record {
      bift = omega (arith, a);
      tc = omega arith;
      ttl = omega arith;
      nibble = omega (arith, b);
      bsl_code = omega arith;
      entropy = omega arith;
      oam = omega (arith, c);
      rsv = omega arith;
      dscp = omega arith;
      proto = omega arith;
      bfir = omega arith;
    }

eighth : (bsl : Bsl) → 8 * (bits_of bsl / 8) ≡ bits_of bsl
eighth B64 = refl
eighth B128 = refl
eighth B256 = refl
eighth B512 = refl
eighth B1024 = refl
eighth B2048 = refl
eighth B4096 = refl

pub fields_are : (bsl : Bsl) (octets : List ℕ) → AreOctets octets → header_length bsl ≤ length octets → version_of (word_of octets 4) ≡ 0 → IsHeader (fields_of bsl octets) × (take (header_length bsl) octets ≡ header_octets (fields_of bsl octets))
fields_are bsl octets fits long version =
    let k = bits_of bsl / 8 in
    let last = take k (drop 12 octets) in
    let long_last : length last ≡ k = omega (arith, length-take k (drop 12 octets), length-drop 12 octets) in
    let spelled : last ≡ octets_of k (set_of last) = sym (ap (λ (n : ℕ). octets_of n (set_of last)) (sym long_last) ∙ octets_of-set_of last (octets-take k (drop 12 octets) (octets-drop 12 octets fits))) in
    let high : 8 * length last ≡ bits_of bsl = ap (λ (n : ℕ). 8 * n) long_last ∙ eighth bsl in (
      record { fields = fields_fit bsl octets fits; positions = subst (λ (n : ℕ). IsWithin 0 n (set_of last)) high (within-set_of last) },
      four_parts k octets
          ∙ ap (λ (l : List ℕ). l ++ (take 4 (drop 4 octets) ++ (take 4 (drop 8 octets) ++ last))) (word_at 0 octets (omega arith) fits ∙ ap (big_bytes 4) (sym (first_is (word_of octets 0) (word_of octets 0 / 2 ^ 8 % 2 == 1) refl)))
          ∙ ap (λ (l : List ℕ). big_bytes 4 (first_word (fields_of bsl octets)) ++ (l ++ (take 4 (drop 8 octets) ++ last))) (word_at 4 octets (omega arith) fits ∙ ap (big_bytes 4) (sym (second_is (word_of octets 4) version)))
          ∙ ap (λ (l : List ℕ). big_bytes 4 (first_word (fields_of bsl octets)) ++ (big_bytes 4 (second_word (fields_of bsl octets)) ++ (l ++ last))) (word_at 8 octets (omega arith) fits ∙ ap (big_bytes 4) (sym (third_is (word_of octets 8))))
          ∙ ap (λ (l : List ℕ). big_bytes 4 (first_word (fields_of bsl octets)) ++ (big_bytes 4 (second_word (fields_of bsl octets)) ++ (big_bytes 4 (third_word (fields_of bsl octets)) ++ l))) spelled,
    )

abbrev done : {E A : Type 0} → A → Result A E
done x = Ok x

-- what was read is what is read
ok_is : {E A : Type 0} (x y : A) → done {E = E} x ≡ done y → x ≡ y
ok_is x y e = cc

-- a test that did not fail
guard_ok : {E A : Type 0} (b : Bool) (d : E) (r : Result A E) (y : A) → cond b (Err d) r ≡ Ok y → (b ≡ false) × (r ≡ Ok y)
guard_ok true d r y e = absurd cc
guard_ok false d r y e = (refl, e)

zero_version : (n : ℕ) → not (n == 0) ≡ false → n ≡ 0
zero_version n e = elim (eqb_tells n 0) [
  | inl same ↦ same.1
  | inr other ↦ absurd cc
]

pub header_takes : (kind : Kind) (bsl : Bsl) (octets : List ℕ) (h : BierHeader) → AreOctets octets → header_at kind bsl octets ≡ Ok h → IsHeader h × (take (header_length bsl) octets ≡ header_octets h) × (h.bsl ≡ bsl)
unfolding header_at
header_takes kind bsl octets h fits e =
    let long = guard_ok _ _ _ h e in
    let nibble = guard_ok _ _ _ h long.1 in
    let version = guard_ok _ _ _ h nibble.1 in
    let are = fields_are bsl octets fits (ltb-false _ _ long.0) (zero_version _ version.0) in
    subst (λ (x : BierHeader). IsHeader x × (take (header_length bsl) octets ≡ header_octets x) × (x.bsl ≡ bsl)) (ok_is (fields_of bsl octets) h version.1) (are.0, are.1, refl)

coded_is : (n : ℕ) (bsl : Bsl) → bsl_coded n ≡ Some bsl → code_of bsl ≡ n
coded_is n bsl e = grind (arith, nat_tests)

coded_takes : (o : Option Bsl) (octets : List ℕ) (h : BierHeader) → coded_at o octets ≡ Ok h → (bsl : Bsl) × (o ≡ Some bsl) × (header_length bsl ≤ length octets) × (fields_of bsl octets ≡ h)
coded_takes None octets h e = absurd cc
coded_takes (Some bsl) octets h e =
    let long = guard_ok _ _ _ h e in
    (bsl, refl, ltb-false _ _ long.0, ok_is (fields_of bsl octets) h long.1)

pub coded_header_takes : (kind : Kind) (octets : List ℕ) (h : BierHeader) → AreOctets octets → coded_header_at kind octets ≡ Ok h → IsHeader h × (take (header_length h.bsl) octets ≡ header_octets h) × (code_of h.bsl ≡ h.bsl_code)
unfolding coded_header_at
coded_header_takes kind octets h fits e =
    let long = guard_ok (ltb (length octets) 12) faults.Short _ h e in
    let nibble = guard_ok (has_wrong_nibble kind (word_of octets 4)) faults.Nibble _ h long.1 in
    let version = guard_ok (not (version_of (word_of octets 4) == 0)) faults.Version _ h nibble.1 in
    let coded = coded_takes (bsl_coded (bsl_code_of (word_of octets 4))) octets h version.1 in
    let are = fields_are coded.0 octets fits coded.2 (zero_version _ version.0) in
    subst (λ (x : BierHeader). IsHeader x × (take (header_length x.bsl) octets ≡ header_octets x) × (code_of x.bsl ≡ x.bsl_code)) coded.3 (are.0, are.1, coded_is (bsl_code_of (word_of octets 4)) coded.0 coded.1)

-- ---- what is spelled so is read again

bit_small : (b : Bool) → cond b 1 0 ≤ 1
bit_small true = omega arith
bit_small false = omega arith

first_small : (h : BierHeader) → FieldsFit h → first_word h < 2 ^ 32
first_small h fits = omega (arith, bit_small h.s, fits.bift, fits.tc, fits.ttl)

second_small : (h : BierHeader) → FieldsFit h → second_word h < 2 ^ 32
second_small h fits = omega (arith, fits.nibble, fits.bsl_code, fits.entropy)

third_small : (h : BierHeader) → FieldsFit h → third_word h < 2 ^ 32
third_small h fits = omega (arith, fits.oam, fits.rsv, fits.dscp, fits.proto, fits.bfir)

s_is : (x a b c : ℕ) (s : Bool) → x ≡ a * 2 ^ 12 + b * 2 ^ 9 + (cond s 1 0) * 2 ^ 8 + c → b < 2 ^ 3 → c < 2 ^ 8 → (x / 2 ^ 8 % 2 == 1) ≡ s
s_is x a b c true e hb hc = eq-eqb (x / 2 ^ 8 % 2) 1 (omega arith)
s_is x a b c false e hb hc = ne_eqb (x / 2 ^ 8 % 2) 1 (λ odd. omega arith)

nibble_right : (kind : Kind) (word nibble : ℕ) → word / 2 ^ 28 ≡ nibble → (kind ≡ Mpls → nibble ≡ 5) → has_wrong_nibble kind word ≡ false
nibble_right Mpls word nibble is five = rw (eq-eqb (word / 2 ^ 28) 5 (is ∙ five refl)) refl
nibble_right Configured word nibble is five = refl

same_header : (h : BierHeader) (bift tc ttl nibble bsl_code entropy oam rsv dscp proto bfir : ℕ) (s : Bool) (positions : List ℕ) → bift ≡ h.bift → tc ≡ h.tc → s ≡ h.s → ttl ≡ h.ttl → nibble ≡ h.nibble → bsl_code ≡ h.bsl_code → entropy ≡ h.entropy → oam ≡ h.oam → rsv ≡ h.rsv → dscp ≡ h.dscp → proto ≡ h.proto → bfir ≡ h.bfir → positions ≡ h.positions
    → record { bift = bift; tc = tc; s = s; ttl = ttl; nibble = nibble; bsl_code = bsl_code; entropy = entropy; oam = oam; rsv = rsv; dscp = dscp; proto = proto; bfir = bfir; bsl = h.bsl; positions = positions } ≡ h
same_header h bift tc ttl nibble bsl_code entropy oam rsv dscp proto bfir s positions e1 e2 e3 e4 e5 e6 e7 e8 e9 e10 e11 e12 e13 = rw (e1, e2, e3, e4, e5, e6, e7, e8, e9, e10, e11, e12, e13) refl

-- octets whose numbers and BitString are those of a header
record Spell (h : BierHeader) (octets : List ℕ) : Type 0 where
  long : header_length h.bsl ≤ length octets
  first : word_of octets 0 ≡ first_word h
  second : word_of octets 4 ≡ second_word h
  third : word_of octets 8 ≡ third_word h
  last : take (bits_of h.bsl / 8) (drop 12 octets) ≡ octets_of (bits_of h.bsl / 8) h.positions

fields_again : (h : BierHeader) (octets : List ℕ) → IsHeader h → Spell h octets → fields_of h.bsl octets ≡ h
fields_again h octets is spell =
    let f = is.fields in
    let small = bit_small h.s in
    let a = spell.first in
    let b = spell.second in
    let c = spell.third in
    let within : IsWithin 0 (8 * (bits_of h.bsl / 8)) h.positions = subst (λ (n : ℕ). IsWithin 0 n h.positions) (sym (eighth h.bsl)) is.positions in
    same_header h _ _ _ _ _ _ _ _ _ _ _ _ _
    (omega (arith, a, small, f.tc, f.ttl)) (omega (arith, a, small, f.tc, f.ttl)) (s_is (word_of octets 0) h.bift h.tc h.ttl h.s a f.tc f.ttl) (omega (arith, a, small, f.tc, f.ttl))
    (omega (arith, b, f.bsl_code, f.entropy)) (omega (arith, b, f.bsl_code, f.entropy)) (omega (arith, b, f.bsl_code, f.entropy))
    (omega (arith, c, f.rsv, f.dscp, f.proto, f.bfir)) (omega (arith, c, f.rsv, f.dscp, f.proto, f.bfir)) (omega (arith, c, f.rsv, f.dscp, f.proto, f.bfir)) (omega (arith, c, f.rsv, f.dscp, f.proto, f.bfir)) (omega (arith, c, f.rsv, f.dscp, f.proto, f.bfir))
    (ap set_of spell.last ∙ set_of-octets_of (bits_of h.bsl / 8) h.positions within)

spell_octets : (h : BierHeader) (rest : List ℕ) → IsHeader h → Spell h (header_octets h ++ rest)
spell_octets h rest is =
    let k = bits_of h.bsl / 8 in
    let last = octets_of k h.positions in
    let count = length-octets_of k h.positions in
    record {
      long = omega (arith, length-append last rest, count);
      first = big_number-reads_back 4 (first_word h) (big_bytes 4 (second_word h) ++ (big_bytes 4 (third_word h) ++ (last ++ rest))) (first_small h is.fields);
      second = big_number-reads_back 4 (second_word h) (big_bytes 4 (third_word h) ++ (last ++ rest)) (second_small h is.fields);
      third = big_number-reads_back 4 (third_word h) (last ++ rest) (third_small h is.fields);
      last = take_at last rest k count;
    }

code_again : (bsl : Bsl) (n : ℕ) → code_of bsl ≡ n → bsl_coded n ≡ Some bsl
code_again B64 n e = rw (sym e) refl
code_again B128 n e = rw (sym e) refl
code_again B256 n e = rw (sym e) refl
code_again B512 n e = rw (sym e) refl
code_again B1024 n e = rw (sym e) refl
code_again B2048 n e = rw (sym e) refl
code_again B4096 n e = rw (sym e) refl

version_zero : (n : ℕ) → n ≡ 0 → not (n == 0) ≡ false
version_zero n e = rw (eq-eqb n 0 e) refl

read_so : (kind : Kind) (h : BierHeader) (octets : List ℕ) → IsHeader h → (kind ≡ Mpls → h.nibble ≡ 5) → Spell h octets → header_at kind h.bsl octets ≡ Ok h
unfolding header_at
read_so kind h octets is five spell =
    let f = is.fields in
    let b = spell.second in
    rw (
      le-ltb (length octets) (header_length h.bsl) spell.long,
      nibble_right kind (word_of octets 4) h.nibble (omega (arith, b, f.bsl_code, f.entropy)) five,
      version_zero (version_of (word_of octets 4)) (omega (arith, b, f.bsl_code, f.entropy)),
    )
    (ap Ok (fields_again h octets is spell))

read_coded : (kind : Kind) (h : BierHeader) (octets : List ℕ) → IsHeader h → (kind ≡ Mpls → h.nibble ≡ 5) → code_of h.bsl ≡ h.bsl_code → Spell h octets → coded_header_at kind octets ≡ Ok h
unfolding coded_header_at
read_coded kind h octets is five code spell =
    let f = is.fields in
    let b = spell.second in
    let coded : bsl_coded (bsl_code_of (word_of octets 4)) ≡ Some h.bsl = code_again h.bsl (bsl_code_of (word_of octets 4)) (code ∙ sym (omega (arith, b, f.bsl_code, f.entropy))) in
    rw (
      le-ltb (length octets) 12 (omega (arith, spell.long)),
      nibble_right kind (word_of octets 4) h.nibble (omega (arith, b, f.bsl_code, f.entropy)) five,
      version_zero (version_of (word_of octets 4)) (omega (arith, b, f.bsl_code, f.entropy)),
      coded,
      le-ltb (length octets) (header_length h.bsl) spell.long,
    )
    (ap Ok (fields_again h octets is spell))

pub header_again : (kind : Kind) (h : BierHeader) (rest : List ℕ) → IsHeader h → (kind ≡ Mpls → h.nibble ≡ 5) → header_at kind h.bsl (header_octets h ++ rest) ≡ Ok h
header_again kind h rest is five = read_so kind h (header_octets h ++ rest) is five (spell_octets h rest is)

pub coded_header_again : (kind : Kind) (h : BierHeader) (rest : List ℕ) → IsHeader h → (kind ≡ Mpls → h.nibble ≡ 5) → code_of h.bsl ≡ h.bsl_code → coded_header_at kind (header_octets h ++ rest) ≡ Ok h
coded_header_again kind h rest is five code = read_coded kind h (header_octets h ++ rest) is five code (spell_octets h rest is)

-- ---- no two headers have the same octets

with_bits : (bsl : Bsl) → bsl_with (8 * (bits_of bsl / 8)) ≡ Some bsl
with_bits B64 = refl
with_bits B128 = refl
with_bits B256 = refl
with_bits B512 = refl
with_bits B1024 = refl
with_bits B2048 = refl
with_bits B4096 = refl

some_is : {A : Type 0} (x y : A) → Some x ≡ Some y → x ≡ y
some_is x y e = cc

pub length-header_octets : (h : BierHeader) → length (header_octets h) ≡ header_length h.bsl
length-header_octets h = omega (arith, length-octets_of (bits_of h.bsl / 8) h.positions)

pub header_octets-injective : (a b : BierHeader) → IsHeader a → IsHeader b → header_octets a ≡ header_octets b → a ≡ b
header_octets-injective a b is_a is_b same =
    let eighths : bits_of a.bsl / 8 ≡ bits_of b.bsl / 8 = omega (arith, length-header_octets a, length-header_octets b, ap length same) in
    let bsl : a.bsl ≡ b.bsl = some_is a.bsl b.bsl (sym (with_bits a.bsl) ∙ ap (λ (n : ℕ). bsl_with (8 * n)) eighths ∙ with_bits b.bsl) in
    ok_is {E = HeadFault} a b (sym (header_again Configured a [] is_a (λ e. absurd cc))
    ∙ ap (λ (l : Bsl). header_at Configured l (header_octets a ++ [])) bsl
    ∙ ap (λ (l : List ℕ). header_at Configured b.bsl (l ++ [])) same
    ∙ header_again Configured b [] is_b (λ e. absurd cc))
