-- BIER Info: what is read is in the grammar, and what is in the grammar is read.
use Rattle.std.proofs.Common.{◌≡◌, ◌≢◌, ℕ, zero, suc, ◌+◌, ◌-◌, ◌*◌, ◌/◌, ◌%◌, ◌<◌, ◌≤◌, ◌⊎◌, Bool, true, false, not, ◌&&◌, ◌||◌, cond, ltb, leb, eqb, eq-eqb, List, [], ◌∷◌, ◌++◌, length, map, get_or, set, Option, Some, None, Result, Ok, Err, refl, sym, ap, subst, ◌∙◌, append_assoc, arith, inl, inr}
use Rattle.std.specs.List.{flat_map, filter_map, list_any, cons_option, AllByRecursion}
use Rattle.std.proofs.lemmas.Bool.{cases_lt, ltb-false, le-ltb, le-leb, leb-true, eqb-true}
use Rattle.std.proofs.lemmas.List.{append-nil, length-set, get_or-set_same, get_or-set_other}
use Rattle.std.proofs.lemmas.List.Concat.{flat_map-cons}
use Rattle.std.specs.Prelude.{slice_get, IsSomeAnd}
use Rattle.byteorder.specs.Endian.{big_bytes, big_number}
use Rattle.byteorder.specs.Numbers.{big_number-reads_back, big_from-lt}
use Rattle.wire_base.specs.declared.limits.TheConstants.{LAST_LABEL}
use Rattle.wire_base.specs.declared.faults.TlvFault.{TlvFault}
use Rattle.wire_base.specs.declared.faults.InfoFault.{InfoFault}
use Rattle.wire_base.specs.declared.faults.InfoFault.TheVariants as faults
use Rattle.wire_base.specs.declared.bsl.Bsl.{Bsl}
use Rattle.wire_base.specs.declared.bsl.Bsl.TheVariants.{B64, B128, B256, B512, B1024, B2048, B4096}
use Rattle.wire_base.specs.declared.conf.LabelRange.{LabelRange}
use Rattle.wire_base.specs.model.Fields.{◌>>=◌, AreOctets}
use Rattle.wire_base.specs.model.Place.{code_of, bsl_coded}
use Rattle.wire_base.specs.model.Tlv.{Tlv, tlv, tlv_at}
use Rattle.wire_base.specs.model.BierInfo.{Info, range_word, range_tlv, range, info, RangeFits, AreApart, InfoFits, word_bsl, range_with, is_range, length_named, range_given, IsFour, IsInfo, Parts, no_parts, take_if, take_part, short, then_parts, parts_within, parts_of, info_at, last_label, HasLabel, Overlap, share_label, any_overlap}
use Rattle.laws_format.proofs.FieldLaws.{bind_ok, guard_ok, ok_is, wide2, AreOctets-front, AreOctets-back, guarded}
use Rattle.laws_format.proofs.TlvLaws.{tlv_parts, tlv_end, tlv_again, some_is}
use Rattle.laws_format.proofs.ChecksumLaws.{and_true}
use Rattle.laws_format.proofs.TlvListLaws.{tlv_shorter}
use Rattle.laws_format.proofs.PduLaws.{or_true}

-- ---- steps over the octets

step_same : (p : Parts) (r : Result (Option (Tlv × List ℕ)) TlvFault) (f g : Parts → List ℕ → Result Parts InfoFault) → ((q : Parts) (t : Tlv) (rest : List ℕ) → r ≡ Ok (Some (t, rest)) → f q rest ≡ g q rest)
    → (short r >>= λ o. then_parts p o f) ≡ (short r >>= λ o. then_parts p o g)
step_same p (Ok (Some x)) f g h = one (take_part p x.0)
  where
    one : (s : Result Parts InfoFault) → (s >>= λ q. f q x.1) ≡ (s >>= λ q. g q x.1)
    one (Ok q) = h q x.0 x.1 refl
    one (Err e) = refl
step_same p (Ok None) f g h = refl
step_same p (Err e) f g h = refl

parts_enough : (m n : ℕ) (p : Parts) (octets : List ℕ) → length octets ≤ m → length octets ≤ n → parts_within m p octets ≡ parts_within n p octets
unfolding parts_within
parts_enough zero zero p octets h k = refl
parts_enough zero (suc n) p [] h k = refl
parts_enough zero (suc n) p (x ∷ octets) h k = absurd (omega arith)
parts_enough (suc m) zero p [] h k = refl
parts_enough (suc m) zero p (x ∷ octets) h k = absurd (omega arith)
parts_enough (suc m) (suc n) p octets h k = step_same p (tlv_at octets) (parts_within m) (parts_within n) (λ q t rest e. let s = tlv_shorter octets t rest e in parts_enough m n q rest (omega arith) (omega arith))

pub parts_first : (p : Parts) (octets : List ℕ) → parts_of p octets ≡ (short (tlv_at octets) >>= λ o. then_parts p o (parts_within (length octets)))
unfolding parts_within
parts_first p octets = parts_enough (length octets) (suc (length octets)) p octets (omega arith) (omega arith)

pub parts_step : (p : Parts) (octets : List ℕ) (t : Tlv) (rest : List ℕ) → tlv_at octets ≡ Ok (Some (t, rest)) → parts_of p octets ≡ (take_part p t >>= λ q. parts_of q rest)
parts_step p octets t rest e =
    let s = tlv_shorter octets t rest e in
    parts_first p octets ∙ ap (λ (r : Result (Option (Tlv × List ℕ)) TlvFault). short r >>= λ o. then_parts p o (parts_within (length octets))) e ∙ each (take_part p t) s
  where
    each : (r : Result Parts InfoFault) → length rest + 2 ≤ length octets → (r >>= λ q. parts_within (length octets) q rest) ≡ (r >>= λ q. parts_of q rest)
    each (Ok q) s = parts_enough (length octets) (length rest) q rest (omega arith) (omega arith)
    each (Err f) s = refl

pub parts_next : (p q : Parts) (octets : List ℕ) (t : Tlv) (rest : List ℕ) → tlv_at octets ≡ Ok (Some (t, rest)) → take_part p t ≡ Ok q → parts_of p octets ≡ parts_of q rest
parts_next p q octets t rest e next = parts_step p octets t rest e ∙ ap (λ (r : Result Parts InfoFault). r >>= λ u. parts_of u rest) next

pub parts_refuses : (p : Parts) (octets : List ℕ) (t : Tlv) (rest : List ℕ) (f : InfoFault) → tlv_at octets ≡ Ok (Some (t, rest)) → take_part p t ≡ Err f → parts_of p octets ≡ Err f
parts_refuses p octets t rest f e fails = parts_step p octets t rest e ∙ ap (λ (r : Result Parts InfoFault). r >>= λ u. parts_of u rest) fails

pub parts_end : (p : Parts) (octets : List ℕ) → tlv_at octets ≡ Ok None → parts_of p octets ≡ Ok p
parts_end p octets e = parts_first p octets ∙ ap (λ (r : Result (Option (Tlv × List ℕ)) TlvFault). short r >>= λ o. then_parts p o (parts_within (length octets))) e

pub parts_short : (p : Parts) (octets : List ℕ) (f : TlvFault) → tlv_at octets ≡ Err f → parts_of p octets ≡ Err faults.Short
parts_short p octets f e = parts_first p octets ∙ ap (λ (r : Result (Option (Tlv × List ℕ)) TlvFault). short r >>= λ o. then_parts p o (parts_within (length octets))) e

-- ---- steps over the list of sub-sub-TLVs

unfoldable parts_over : Parts → List Tlv → Result Parts InfoFault
parts_over p [] = Ok p
parts_over p (t ∷ ts) = take_part p t >>= λ q. parts_over q ts

parts_spelled : (ts : List Tlv) (p : Parts) → parts_of p (flat_map tlv ts) ≡ parts_over p ts
unfolding parts_over
parts_spelled [] p = parts_end p [] refl
parts_spelled (t ∷ ts) p =
    ap (parts_of p) (flat_map-cons tlv t ts) ∙ parts_step p (tlv t ++ flat_map tlv ts) t (flat_map tlv ts) (tlv_again t (flat_map tlv ts)) ∙ each (take_part p t) (parts_spelled ts)
  where
    each : (r : Result Parts InfoFault) → ((q : Parts) → parts_of q (flat_map tlv ts) ≡ parts_over q ts) → (r >>= λ q. parts_of q (flat_map tlv ts)) ≡ (r >>= λ q. parts_over q ts)
    each (Ok q) h = h q
    each (Err f) h = refl

-- octets that are read are a list of sub-sub-TLVs
parts_listed : (n : ℕ) (octets : List ℕ) (p q : Parts) → length octets ≤ n → parts_of p octets ≡ Ok q → (ts : List Tlv) × (octets ≡ flat_map tlv ts)
parts_listed n octets p q within e = by_front n octets p q within (tlv_at octets) refl e
  where
    by_front : (n : ℕ) (octets : List ℕ) (p q : Parts) → length octets ≤ n → (r : Result (Option (Tlv × List ℕ)) TlvFault) → tlv_at octets ≡ r → parts_of p octets ≡ Ok q → (ts : List Tlv) × (octets ≡ flat_map tlv ts)
    by_front n octets p q within (Ok None) front e = ([], tlv_end octets front)
    by_front n octets p q within (Err f) front e = let both : Err faults.Short ≡ Ok q = sym (parts_short p octets f front) ∙ e in absurd cc
    by_front zero octets p q within (Ok (Some x)) front e = let s = tlv_shorter octets x.0 x.1 front in absurd (omega arith)
    by_front (suc n) octets p q within (Ok (Some x)) front e =
        let s = tlv_shorter octets x.0 x.1 front in
        let b = bind_ok (take_part p x.0) _ q (sym (parts_step p octets x.0 x.1 front) ∙ e) in
        let more = by_front n x.1 b.0 q (omega arith) (tlv_at x.1) refl b.2 in
        (x.0 ∷ more.0, tlv_parts octets x.0 x.1 front ∙ ap (λ (l : List ℕ). tlv x.0 ++ l) more.1 ∙ sym (flat_map-cons tlv x.0 more.0))

-- ---- the seven lengths

pub code_again : (b : Bsl) → bsl_coded (code_of b) ≡ Some b
code_again B64 = refl
code_again B128 = refl
code_again B256 = refl
code_again B512 = refl
code_again B1024 = refl
code_again B2048 = refl
code_again B4096 = refl

-- the code of a length, which is 1 to 7
pub record IsCode (n : ℕ) : Type 0 where
  pub above : 1 ≤ n
  pub below : n ≤ 7

pub code_is : (b : Bsl) → IsCode (code_of b)
code_is B64 = record { above = omega arith; below = omega arith }
code_is B128 = record { above = omega arith; below = omega arith }
code_is B256 = record { above = omega arith; below = omega arith }
code_is B512 = record { above = omega arith; below = omega arith }
code_is B1024 = record { above = omega arith; below = omega arith }
code_is B2048 = record { above = omega arith; below = omega arith }
code_is B4096 = record { above = omega arith; below = omega arith }

code_apart : (b c : Bsl) → (c ≡ b → ⊥) → code_of c - 1 ≢ code_of b - 1
code_apart b c apart e =
    let hb = code_is b in
    let hc = code_is c in
    let b1 = hb.above in
    let c1 = hc.above in
    let same : code_of c ≡ code_of b = omega (arith, e) in
    apart (some_is c b (sym (code_again c) ∙ ap bsl_coded same ∙ code_again b))

-- the length has not come
abbrev IsNew : List Bool → Bsl → Type 0
IsNew seen b = get_or seen (code_of b - 1) false ≡ false

abbrev with_seen : List Bool → Bsl → List Bool
with_seen seen b = set seen (code_of b - 1) true

other_new : (seen : List Bool) (b c : Bsl) → (c ≡ b → ⊥) → IsNew seen c → IsNew (with_seen seen b) c
other_new seen b c apart new = get_or-set_other seen (code_of b - 1) (code_of c - 1) true false (code_apart b c apart) ∙ new

new_apart : (seen : List Bool) (b c : Bsl) → length seen ≡ 7 → IsNew (with_seen seen b) c → c ≡ b → ⊥
new_apart seen b c len new e =
    let h = code_is b in
    let low = h.above in
    let high = h.below in
    let has : get_or (with_seen seen b) (code_of b - 1) false ≡ true = get_or-set_same seen (code_of b - 1) true false (omega (arith, len)) in
    let back : get_or (with_seen seen b) (code_of b - 1) false ≡ false = ap (λ (d : Bsl). get_or (with_seen seen b) (code_of d - 1) false) (sym e) ∙ new in
    let both : true ≡ false = sym has ∙ back in
    absurd cc

new_before : (seen : List Bool) (b c : Bsl) → length seen ≡ 7 → IsNew (with_seen seen b) c → IsNew seen c
new_before seen b c len new = sym (get_or-set_other seen (code_of b - 1) (code_of c - 1) true false (code_apart b c (new_apart seen b c len new))) ∙ new

-- ---- one sub-sub-TLV

abbrev word : Tlv → ℕ
word t = big_number 4 t.value

-- it gives nothing
record Passes (p : Parts) (t : Tlv) (q : Parts) : Type 0 where
  four : IsFour t
  named : length_named t ≡ None
  given : range_given t ≡ None
  same : q ≡ p

-- it names a length that has not come
record Names (p : Parts) (t : Tlv) (q : Parts) (b : Bsl) : Type 0 where
  four : IsFour t
  named : length_named t ≡ Some b
  new : IsNew p.seen b
  seen : q.seen ≡ with_seen p.seen b
  ranges : (rs : List LabelRange) → q.ranges ++ rs ≡ p.ranges ++ cons_option (range_given t) rs

no_range : (p : Parts) (t : Tlv) → is_range t ≡ false → take_part p t ≡ Ok p
unfolding take_part
no_range p t is = rw is refl

not_four : (p : Parts) (t : Tlv) → is_range t ≡ true → eqb (length t.value) 4 ≡ false → take_part p t ≡ Err faults.Short
unfolding take_part
not_four p t is other = rw (is, other) refl

a_range : (p : Parts) (t : Tlv) → is_range t ≡ true → eqb (length t.value) 4 ≡ true → take_part p t ≡ take_if p (word_bsl (word t)) (word t)
unfolding take_part
a_range p t is four = rw (is, four) refl

-- the ranges with what a word gives
abbrev ranges_with : List LabelRange → Bsl → ℕ → List LabelRange
ranges_with ranges b w = cond (ltb LAST_LABEL (w % 1048576 + w / 16777216)) ranges (ranges ++ record { bsl = b; max_si = w / 16777216; label = w % 1048576 } ∷ [])

given_ranges : (ranges : List LabelRange) (b : Bsl) (w : ℕ) (rs : List LabelRange) → ranges_with ranges b w ++ rs ≡ ranges ++ cons_option (range_with (Some b) w) rs
given_ranges ranges b w rs = by_test (ltb LAST_LABEL (w % 1048576 + w / 16777216)) refl
  where
    by_test : (d : Bool) → ltb LAST_LABEL (w % 1048576 + w / 16777216) ≡ d → ranges_with ranges b w ++ rs ≡ ranges ++ cons_option (range_with (Some b) w) rs
    by_test true e = rw e refl
    by_test false e = rw e (append_assoc ranges (record { bsl = b; max_si = w / 16777216; label = w % 1048576 } ∷ []) rs)

abbrev known_after : Parts → Bsl → ℕ → Parts
known_after p b w = record { seen = with_seen p.seen b; ranges = ranges_with p.ranges b w }

names : (p : Parts) (t : Tlv) (b : Bsl) → is_range t ≡ true → length t.value ≡ 4 → word_bsl (word t) ≡ Some b → IsNew p.seen b → Names p t (known_after p b (word t)) b
names p t b is four named new =
    let name : length_named t ≡ Some b = rw is named in
    let gives : range_given t ≡ range_with (Some b) (word t) = rw (is, named) refl in
    record { four = λ yes. four; named = name; new = new; seen = refl; ranges = λ rs. given_ranges p.ranges b (word t) rs ∙ ap (λ (o : Option LabelRange). p.ranges ++ cons_option o rs) (sym gives) }

passes_other : (p : Parts) (t : Tlv) → is_range t ≡ false → Passes p t p
passes_other p t is = record { four = λ yes. let both : true ≡ false = sym yes ∙ is in absurd cc; named = rw is refl; given = rw is refl; same = refl }

passes_unknown : (p : Parts) (t : Tlv) → is_range t ≡ true → length t.value ≡ 4 → word_bsl (word t) ≡ None → Passes p t p
passes_unknown p t is four none = record { four = λ yes. four; named = rw is none; given = rw (is, none) refl; same = refl }

abbrev Took : Parts → Tlv → Parts → Type 0
Took p t q = Passes p t q ⊎ ((b : Bsl) × Names p t q b)

took_range : (p : Parts) (t : Tlv) (q : Parts) (o : Option Bsl) → is_range t ≡ true → length t.value ≡ 4 → word_bsl (word t) ≡ o → take_if p o (word t) ≡ Ok q → Took p t q
took_range p t q None is four named e =
    let same : p ≡ q = ok_is {E = InfoFault} p q e in
    inl (subst (λ (r : Parts). Passes p t r) same (passes_unknown p t is four named))
took_range p t q (Some b) is four named e =
    let g = guard_ok (get_or p.seen (code_of b - 1) false) faults.RepeatedLength (known_after p b (word t)) q e in
    inr (b, subst (λ (r : Parts). Names p t r b) g.1 (names p t b is four named g.0))

-- what was taken
took : (p : Parts) (t : Tlv) (q : Parts) → take_part p t ≡ Ok q → Took p t q
took p t q e = by_type (is_range t) (eqb (length t.value) 4) refl refl
  where
    by_type : (r f : Bool) → is_range t ≡ r → eqb (length t.value) 4 ≡ f → Took p t q
    by_type false f is len =
        let same : p ≡ q = ok_is {E = InfoFault} p q (sym (no_range p t is) ∙ e) in
        inl (subst (λ (r : Parts). Passes p t r) same (passes_other p t is))
    by_type true false is len = let both : Err faults.Short ≡ Ok q = sym (not_four p t is len) ∙ e in absurd cc
    by_type true true is len = took_range p t q (word_bsl (word t)) is (eqb-true _ _ len) refl (sym (a_range p t is len) ∙ e)

-- and what is taken
takes_range : (p : Parts) (t : Tlv) (o : Option Bsl) → is_range t ≡ true → length t.value ≡ 4 → word_bsl (word t) ≡ o → ((b : Bsl) → o ≡ Some b → IsNew p.seen b) → (q : Parts) × (take_if p o (word t) ≡ Ok q) × Took p t q
takes_range p t None is four named new = (p, refl, inl (passes_unknown p t is four named))
takes_range p t (Some b) is four named new =
    let fresh = new b refl in
    (known_after p b (word t), rw fresh refl, inr (b, names p t b is four named fresh))

takes : (p : Parts) (t : Tlv) → IsFour t → ((b : Bsl) → length_named t ≡ Some b → IsNew p.seen b) → (q : Parts) × (take_part p t ≡ Ok q) × Took p t q
takes p t four new = by_type (is_range t) refl
  where
    by_type : (r : Bool) → is_range t ≡ r → (q : Parts) × (take_part p t ≡ Ok q) × Took p t q
    by_type false is = (p, no_range p t is, inl (passes_other p t is))
    by_type true is =
        let len = four is in
        let next = takes_range p t (word_bsl (word t)) is len refl (λ b e. new b (rw is e)) in
        (next.0, a_range p t is (eq-eqb _ _ len) ∙ next.1, next.2)

-- ---- all of them

abbrev lengths : List Tlv → List Bsl
lengths ts = filter_map length_named ts

abbrev ranges : List Tlv → List LabelRange
ranges ts = filter_map range_given ts

record Over (p : Parts) (ts : List Tlv) (q : Parts) : Type 0 where
  four : AllByRecursion IsFour ts
  apart : AreApart (lengths ts)
  new : AllByRecursion (IsNew p.seen) (lengths ts)
  ranges_are : q.ranges ≡ p.ranges ++ ranges ts

pub all_weaker : {X : Type 0} (P Q : X → Type 0) → ((x : X) → P x → Q x) → (xs : List X) → AllByRecursion P xs → AllByRecursion Q xs
all_weaker P Q h [] all = tt
all_weaker P Q h (x ∷ xs) all = (h x all.0, all_weaker P Q h xs all.1)

all_both : {X : Type 0} (P Q : X → Type 0) (xs : List X) → AllByRecursion P xs → AllByRecursion Q xs → AllByRecursion (λ x. P x × Q x) xs
all_both P Q [] all every = tt
all_both P Q (x ∷ xs) all every = ((all.0, every.0), all_both P Q xs all.1 every.1)

over_step : (p : Parts) (t : Tlv) (ts : List Tlv) (r q : Parts) → length p.seen ≡ 7 → Took p t r → (length r.seen ≡ 7 → Over r ts q) → Over p (t ∷ ts) q
over_step p t ts r q len (inl passes) more =
    let same = passes.same in
    let m = more (ap (λ (x : Parts). length x.seen) same ∙ len) in
    let named : lengths ts ≡ lengths (t ∷ ts) = ap (λ (o : Option Bsl). cons_option o (lengths ts)) (sym passes.named) in
    let given : ranges ts ≡ ranges (t ∷ ts) = ap (λ (o : Option LabelRange). cons_option o (ranges ts)) (sym passes.given) in
    record {
      four = (passes.four, m.four);
      apart = subst AreApart named m.apart;
      new = subst (AllByRecursion (IsNew p.seen)) named (subst (λ (x : Parts). AllByRecursion (IsNew x.seen) (lengths ts)) same m.new);
      ranges_are = m.ranges_are ∙ ap (λ (x : Parts). x.ranges ++ ranges ts) same ∙ ap (λ (rs : List LabelRange). p.ranges ++ rs) given;
    }
over_step p t ts r q len (inr one) more =
    let b = one.0 in
    let has = one.1 in
    let m = more (ap length has.seen ∙ length-set p.seen (code_of b - 1) true ∙ len) in
    let named : b ∷ lengths ts ≡ lengths (t ∷ ts) = ap (λ (o : Option Bsl). cons_option o (lengths ts)) (sym has.named) in
    let fresh : AllByRecursion (IsNew (with_seen p.seen b)) (lengths ts) = subst (λ (seen : List Bool). AllByRecursion (IsNew seen) (lengths ts)) has.seen m.new in
    let apart : AreApart (b ∷ lengths ts) = (all_weaker (IsNew (with_seen p.seen b)) (λ c. c ≡ b → ⊥) (λ c new. new_apart p.seen b c len new) (lengths ts) fresh, m.apart) in
    let new : AllByRecursion (IsNew p.seen) (b ∷ lengths ts) = (has.new, all_weaker (IsNew (with_seen p.seen b)) (IsNew p.seen) (λ c n. new_before p.seen b c len n) (lengths ts) fresh) in
    record {
      four = (has.four, m.four);
      apart = subst AreApart named apart;
      new = subst (AllByRecursion (IsNew p.seen)) named new;
      ranges_are = m.ranges_are ∙ has.ranges (ranges ts);
    }

over_ok : (ts : List Tlv) (p q : Parts) → length p.seen ≡ 7 → parts_over p ts ≡ Ok q → Over p ts q
unfolding parts_over
over_ok [] p q len e = record { four = tt; apart = tt; new = tt; ranges_are = ap (λ (x : Parts). x.ranges) (sym (ok_is {E = InfoFault} p q e)) ∙ sym (append-nil p.ranges) }
over_ok (t ∷ ts) p q len e =
    let b = bind_ok (take_part p t) _ q e in
    over_step p t ts b.0 q len (took p t b.0 b.1) (λ long. over_ok ts b.0 q long b.2)

-- a list of sub-sub-TLVs of the grammar is taken
over_again : (ts : List Tlv) (p : Parts) → length p.seen ≡ 7 → AllByRecursion IsFour ts → AreApart (lengths ts) → AllByRecursion (IsNew p.seen) (lengths ts) → (q : Parts) × (parts_over p ts ≡ Ok q)
unfolding parts_over
over_again [] p len four apart new = (p, refl)
over_again (t ∷ ts) p len four apart new =
    let next = takes p t four.0 (λ b e. (subst (λ (o : Option Bsl). AllByRecursion (IsNew p.seen) (cons_option o (lengths ts))) e new).0) in
    let more = go next.2 (over_again ts next.0) in
    (more.0, ap (λ (r : Result Parts InfoFault). r >>= λ q. parts_over q ts) next.1 ∙ more.1)
  where
    go : {r : Parts} → Took p t r → (length r.seen ≡ 7 → AllByRecursion IsFour ts → AreApart (lengths ts) → AllByRecursion (IsNew r.seen) (lengths ts) → (q : Parts) × (parts_over r ts ≡ Ok q)) → (q : Parts) × (parts_over r ts ≡ Ok q)
    go {r} (inl passes) more =
        let same = passes.same in
        let named : lengths (t ∷ ts) ≡ lengths ts = ap (λ (o : Option Bsl). cons_option o (lengths ts)) passes.named in
        more (ap (λ (x : Parts). length x.seen) same ∙ len) four.1 (subst AreApart named apart) (subst (λ (x : Parts). AllByRecursion (IsNew x.seen) (lengths ts)) (sym same) (subst (AllByRecursion (IsNew p.seen)) named new))
    go {r} (inr one) more =
        let b = one.0 in
        let has = one.1 in
        let named : lengths (t ∷ ts) ≡ b ∷ lengths ts = ap (λ (o : Option Bsl). cons_option o (lengths ts)) has.named in
        let apart' : AreApart (b ∷ lengths ts) = subst AreApart named apart in
        let new' : AllByRecursion (IsNew p.seen) (b ∷ lengths ts) = subst (AllByRecursion (IsNew p.seen)) named new in
        let both = all_both (λ c. c ≡ b → ⊥) (IsNew p.seen) (lengths ts) apart'.0 new'.1 in
        let after : AllByRecursion (IsNew (with_seen p.seen b)) (lengths ts) = all_weaker (λ c. (c ≡ b → ⊥) × IsNew p.seen c) (IsNew (with_seen p.seen b)) (λ c h. other_new p.seen b c h.0 h.1) (lengths ts) both in
        more (ap length has.seen ∙ length-set p.seen (code_of b - 1) true ∙ len) four.1 apart'.1 (subst (λ (seen : List Bool). AllByRecursion (IsNew seen) (lengths ts)) (sym has.seen) after)

all_new : (bs : List Bsl) → AllByRecursion (IsNew no_parts.seen) bs
all_new [] = tt
all_new (b ∷ bs) = (first b, all_new bs)
  where
    first : (b : Bsl) → IsNew no_parts.seen b
    first B64 = refl
    first B128 = refl
    first B256 = refl
    first B512 = refl
    first B1024 = refl
    first B2048 = refl
    first B4096 = refl

-- ---- the whole value

abbrev made : ℕ → List ℕ → Parts → Info
made sd back p = record { sd = sd; id = big_number 2 back; ranges = p.ranges }

not_false : (b : Bool) → not b ≡ false → b ≡ true
not_false true e = refl
not_false false e = absurd cc

zero_is : (a b : ℕ) → not (eqb a 0 && eqb b 0) ≡ false → (a ≡ 0) × (b ≡ 0)
zero_is a b e = let both = and_true _ _ (not_false _ e) in (eqb-true _ _ both.0, eqb-true _ _ both.1)

-- what is read is in the grammar
pub info_found : (value : List ℕ) (i : Info) → AreOctets value → info_at value ≡ Ok i → IsInfo value i
unfolding info_at
info_found [] i fits e = absurd cc
info_found (a ∷ []) i fits e = absurd cc
info_found (a ∷ b ∷ []) i fits e = absurd cc
info_found (a ∷ b ∷ c ∷ []) i fits e = absurd cc
info_found (a ∷ b ∷ c ∷ d ∷ []) i fits e = absurd cc
info_found (a ∷ b ∷ c ∷ d ∷ f ∷ more) i fits e =
    let whole = a ∷ b ∷ c ∷ d ∷ f ∷ more in
    let g0 = guarded (ltb (length whole) 5) faults.Short _ i e in
    let g1 = guarded (not (eqb a 0 && eqb b 0)) faults.Algorithm _ i g0.1 in
    let p = bind_ok (parts_of no_parts more) _ i g1.1 in
    let same : made c (d ∷ f ∷ more) p.0 ≡ i = ok_is {E = InfoFault} _ i p.2 in
    let zeros = zero_is a b g1.0 in
    let list = parts_listed (length more) more no_parts p.0 (omega arith) p.1 in
    let over : parts_over no_parts list.0 ≡ Ok p.0 = sym (parts_spelled list.0 no_parts) ∙ ap (parts_of no_parts) (sym list.1) ∙ p.1 in
    let o = over_ok list.0 no_parts p.0 refl over in
    let back : AreOctets (d ∷ f ∷ more) = λ k. fits (suc (suc (suc k))) in
    let id : d ∷ f ∷ [] ≡ big_bytes 2 (big_number 2 (d ∷ f ∷ more)) = wide2 (d ∷ f ∷ more) (omega arith) back in
    let cells : whole ≡ 0 ∷ 0 ∷ c ∷ (big_bytes 2 (big_number 2 (d ∷ f ∷ more)) ++ flat_map tlv list.0) =
    ap (λ (n : ℕ). n ∷ b ∷ c ∷ d ∷ f ∷ more) zeros.0 ∙ ap (λ (n : ℕ). 0 ∷ n ∷ c ∷ d ∷ f ∷ more) zeros.1 ∙ ap (λ (l : List ℕ). 0 ∷ 0 ∷ c ∷ d ∷ f ∷ l) list.1 ∙ ap (λ (l : List ℕ). 0 ∷ 0 ∷ c ∷ (l ++ flat_map tlv list.0)) id in
    subst (λ (j : Info). IsInfo whole j) same (record { parts = list.0; spelled = cells; id = big_from-lt 0 2 (d ∷ f ∷ more) back; four = o.four; apart = o.apart; ranges = o.ranges_are })

-- and what is in the grammar is read
pub info_only : (value : List ℕ) (i : Info) → IsInfo value i → info_at value ≡ Ok i
unfolding info_at
info_only value i is =
    let back = flat_map tlv is.parts in
    let text = 0 ∷ 0 ∷ i.sd ∷ (big_bytes 2 i.id ++ back) in
    let long : ltb (length text) 5 ≡ false = le-ltb _ _ (omega arith) in
    let id : big_number 2 (big_bytes 2 i.id ++ back) ≡ i.id = big_number-reads_back 2 i.id back is.id in
    let again = over_again is.parts no_parts refl is.four is.apart (all_new (lengths is.parts)) in
    let o = over_ok is.parts no_parts again.0 refl again.1 in
    let parts : parts_of no_parts back ≡ Ok again.0 = parts_spelled is.parts no_parts ∙ again.1 in
    let ranges_are : again.0.ranges ≡ i.ranges = o.ranges_are ∙ sym is.ranges in
    ap info_at is.spelled ∙ rw (long, parts, id, ranges_are) refl

-- ---- the spelling is in the grammar

-- the parts of a range's word
word_code : (m c l : ℕ) → c < 16 → l < 1048576 → (m * 16777216 + c * 1048576 + l) / 1048576 % 16 ≡ c
word_code m c l hc hl = omega arith

word_top : (m c l : ℕ) → c < 16 → l < 1048576 → (m * 16777216 + c * 1048576 + l) / 16777216 ≡ m
word_top m c l hc hl = omega arith

word_low : (m c l : ℕ) → c < 16 → l < 1048576 → (m * 16777216 + c * 1048576 + l) % 1048576 ≡ l
word_low m c l hc hl = omega arith

record SpeltRange (r : LabelRange) : Type 0 where
  named : length_named (range_tlv r) ≡ Some r.bsl
  given : range_given (range_tlv r) ≡ Some r

spelt_range : (r : LabelRange) → RangeFits r → SpeltRange r
spelt_range r fits =
    let code = code_is r.bsl in
    let high = code.below in
    let m = fits.max_si in
    let last = fits.last in
    let w = range_word r in
    let n : big_number 4 (big_bytes 4 w) ≡ w = ap (big_number 4) (sym (append-nil (big_bytes 4 w))) ∙ big_number-reads_back 4 w [] (omega arith) in
    let c : w / 1048576 % 16 ≡ code_of r.bsl = word_code r.max_si (code_of r.bsl) r.label (omega arith) (omega arith) in
    let top : w / 16777216 ≡ r.max_si = word_top r.max_si (code_of r.bsl) r.label (omega arith) (omega arith) in
    let low : w % 1048576 ≡ r.label = word_low r.max_si (code_of r.bsl) r.label (omega arith) (omega arith) in
    let below : ltb LAST_LABEL (r.label + r.max_si) ≡ false = le-ltb _ _ last in
    let name : word_bsl w ≡ Some r.bsl = ap bsl_coded c ∙ code_again r.bsl in
    let given : range_with (Some r.bsl) w ≡ Some r = rw (low, top, below) refl in
    record {
      named = ap word_bsl n ∙ name;
      given = ap (λ (k : ℕ). range_with (word_bsl k) k) n ∙ ap (λ (o : Option Bsl). range_with o w) name ∙ given;
    }

record SpeltRanges (rs : List LabelRange) : Type 0 where
  octets : flat_map range rs ≡ flat_map tlv (map range_tlv rs)
  four : AllByRecursion IsFour (map range_tlv rs)
  named : lengths (map range_tlv rs) ≡ map (λ r. r.bsl) rs
  given : ranges (map range_tlv rs) ≡ rs

spelt_ranges : (rs : List LabelRange) → AllByRecursion RangeFits rs → SpeltRanges rs
spelt_ranges [] fits = record { octets = refl; four = tt; named = refl; given = refl }
spelt_ranges (r ∷ rs) fits =
    let one = spelt_range r fits.0 in
    let more = spelt_ranges rs fits.1 in
    record {
      octets = flat_map-cons range r rs ∙ ap (λ (l : List ℕ). range r ++ l) more.octets ∙ sym (flat_map-cons tlv (range_tlv r) (map range_tlv rs));
      four = (λ yes. refl, more.four);
      named = ap (λ (o : Option Bsl). cons_option o (lengths (map range_tlv rs))) one.named ∙ ap (λ (bs : List Bsl). r.bsl ∷ bs) more.named;
      given = ap (λ (o : Option LabelRange). cons_option o (ranges (map range_tlv rs))) one.given ∙ ap (λ (qs : List LabelRange). r ∷ qs) more.given;
    }

pub info_spelled : (i : Info) → InfoFits i → IsInfo (info i) i
info_spelled i fits =
    let s = spelt_ranges i.ranges fits.each in
    record {
      parts = map range_tlv i.ranges;
      spelled = ap (λ (l : List ℕ). 0 ∷ 0 ∷ i.sd ∷ (big_bytes 2 i.id ++ l)) s.octets;
      id = fits.id;
      four = s.four;
      apart = subst AreApart (sym s.named) fits.apart;
      ranges = sym s.given;
    }

pub info_again : (i : Info) → InfoFits i → info_at (info i) ≡ Ok i
info_again i fits = info_only (info i) i (info_spelled i fits)

-- ---- what is read has the widths of a BIER Info, its number of ranges aside

given_none : (b : Bsl) (w : ℕ) → ltb LAST_LABEL (w % 1048576 + w / 16777216) ≡ true → range_with (Some b) w ≡ None
given_none b w test = rw test refl

given_some : (b : Bsl) (w : ℕ) → ltb LAST_LABEL (w % 1048576 + w / 16777216) ≡ false → range_with (Some b) w ≡ Some (record { bsl = b; max_si = w / 16777216; label = w % 1048576 })
given_some b w test = rw test refl

given_fits : (t : Tlv) (r : LabelRange) → AreOctets t.value → range_given t ≡ Some r → RangeFits r × (length_named t ≡ Some r.bsl)
given_fits t r fits e = by_type (is_range t) refl
  where
    by_test : (b : Bsl) (w : ℕ) (d : Bool) → word_bsl (word t) ≡ Some b → w ≡ word t → ltb LAST_LABEL (w % 1048576 + w / 16777216) ≡ d → range_with (Some b) w ≡ Some r → RangeFits r × (b ≡ r.bsl)
    by_test b w true named is test e = let both : None ≡ Some r = sym (given_none b w test) ∙ e in absurd cc
    by_test b w false named is test e =
        let same : record { bsl = b; max_si = w / 16777216; label = w % 1048576 } ≡ r = some_is _ r (sym (given_some b w test) ∙ e) in
        let small : w < 4294967296 = rw is (big_from-lt 0 4 t.value fits) in
        let last : w % 1048576 + w / 16777216 ≤ LAST_LABEL = ltb-false _ _ test in
        subst (λ (q : LabelRange). RangeFits q × (b ≡ q.bsl)) same (record { max_si = omega arith; last = last }, refl)

    by_length : (o : Option Bsl) → word_bsl (word t) ≡ o → is_range t ≡ true → range_with o (word t) ≡ Some r → RangeFits r × (length_named t ≡ Some r.bsl)
    by_length None named is e = absurd cc
    by_length (Some b) named is e =
        let one = by_test b (word t) (ltb LAST_LABEL (word t % 1048576 + word t / 16777216)) named refl refl e in
        let name : length_named t ≡ Some b = rw is named in
        (one.0, name ∙ ap (λ (c : Bsl). Some c) one.1)

    by_type : (f : Bool) → is_range t ≡ f → RangeFits r × (length_named t ≡ Some r.bsl)
    by_type false is = let none : range_given t ≡ None = rw is refl in let both : None ≡ Some r = sym none ∙ e in absurd cc
    by_type true is = let given : range_given t ≡ range_with (word_bsl (word t)) (word t) = rw is refl in by_length (word_bsl (word t)) refl is (sym given ∙ e)

-- the octets of each part
abbrev AreParts : List Tlv → Type 0
AreParts ts = AllByRecursion (λ t. AreOctets t.value) ts

parts_octets : (ts : List Tlv) → AreOctets (flat_map tlv ts) → AreParts ts
parts_octets [] fits = tt
parts_octets (t ∷ ts) fits =
    let all : AreOctets (tlv t ++ flat_map tlv ts) = subst AreOctets (flat_map-cons tlv t ts) fits in
    let front = AreOctets-front (tlv t) (flat_map tlv ts) all in
    (λ i. front (suc (suc i)), parts_octets ts (AreOctets-back (tlv t) (flat_map tlv ts) all))

abbrev bsls : List Tlv → List Bsl
bsls ts = map (λ r. r.bsl) (ranges ts)

rest_all : (P : Bsl → Type 0) (o : Option Bsl) (bs : List Bsl) → AllByRecursion P (cons_option o bs) → AllByRecursion P bs
rest_all P None bs all = all
rest_all P (Some b) bs all = all.1

rest_apart : (o : Option Bsl) (bs : List Bsl) → AreApart (cons_option o bs) → AreApart bs
rest_apart None bs apart = apart
rest_apart (Some b) bs apart = apart.1

-- the lengths of the ranges are among the lengths that are named
all_among : (P : Bsl → Type 0) (ts : List Tlv) → AreParts ts → AllByRecursion P (lengths ts) → AllByRecursion P (bsls ts)
all_among P [] fits all = tt
all_among P (t ∷ ts) fits all = by_given (range_given t) refl (all_among P ts fits.1)
  where
    by_given : (o : Option LabelRange) → range_given t ≡ o → (AllByRecursion P (lengths ts) → AllByRecursion P (bsls ts)) → AllByRecursion P (bsls (t ∷ ts))
    by_given None given more = subst (λ (o : Option LabelRange). AllByRecursion P (map (λ r. r.bsl) (cons_option o (ranges ts)))) (sym given) (more (rest_all P (length_named t) (lengths ts) all))
    by_given (Some r) given more =
        let one = given_fits t r fits.0 given in
        let a : AllByRecursion P (r.bsl ∷ lengths ts) = subst (λ (o : Option Bsl). AllByRecursion P (cons_option o (lengths ts))) one.1 all in
        subst (λ (o : Option LabelRange). AllByRecursion P (map (λ r. r.bsl) (cons_option o (ranges ts)))) (sym given) (a.0, more a.1)

apart_among : (ts : List Tlv) → AreParts ts → AreApart (lengths ts) → AreApart (bsls ts)
apart_among [] fits apart = tt
apart_among (t ∷ ts) fits apart = by_given (range_given t) refl (apart_among ts fits.1)
  where
    by_given : (o : Option LabelRange) → range_given t ≡ o → (AreApart (lengths ts) → AreApart (bsls ts)) → AreApart (bsls (t ∷ ts))
    by_given None given more = subst (λ (o : Option LabelRange). AreApart (map (λ r. r.bsl) (cons_option o (ranges ts)))) (sym given) (more (rest_apart (length_named t) (lengths ts) apart))
    by_given (Some r) given more =
        let one = given_fits t r fits.0 given in
        let a : AreApart (r.bsl ∷ lengths ts) = subst (λ (o : Option Bsl). AreApart (cons_option o (lengths ts))) one.1 apart in
        subst (λ (o : Option LabelRange). AreApart (map (λ r. r.bsl) (cons_option o (ranges ts)))) (sym given) (all_among (λ c. c ≡ r.bsl → ⊥) ts fits.1 a.0, more a.1)

ranges_fit : (ts : List Tlv) → AreParts ts → AllByRecursion RangeFits (ranges ts)
ranges_fit [] fits = tt
ranges_fit (t ∷ ts) fits = by_given (range_given t) refl (ranges_fit ts fits.1)
  where
    by_given : (o : Option LabelRange) → range_given t ≡ o → AllByRecursion RangeFits (ranges ts) → AllByRecursion RangeFits (ranges (t ∷ ts))
    by_given None given more = subst (λ (o : Option LabelRange). AllByRecursion RangeFits (cons_option o (ranges ts))) (sym given) more
    by_given (Some r) given more = subst (λ (o : Option LabelRange). AllByRecursion RangeFits (cons_option o (ranges ts))) (sym given) ((given_fits t r fits.0 given).0, more)

pub info_fits : (value : List ℕ) (i : Info) → AreOctets value → length i.ranges ≤ 7 → IsInfo value i → InfoFits i
info_fits value i fits few is =
    let text : AreOctets (0 ∷ 0 ∷ i.sd ∷ (big_bytes 2 i.id ++ flat_map tlv is.parts)) = subst AreOctets is.spelled fits in
    let back : AreOctets (big_bytes 2 i.id ++ flat_map tlv is.parts) = λ k. text (suc (suc (suc k))) in
    let parts = parts_octets is.parts (AreOctets-back (big_bytes 2 i.id) (flat_map tlv is.parts) back) in
    record {
      sd = text 2;
      id = is.id;
      few = few;
      each = subst (AllByRecursion RangeFits) (sym is.ranges) (ranges_fit is.parts parts);
      apart = subst (λ (rs : List LabelRange). AreApart (map (λ r. r.bsl) rs)) (sym is.ranges) (apart_among is.parts parts is.apart);
    }

-- ---- labels that two ranges share

or_right : (a : Bool) → (a || true) ≡ true
or_right true = refl
or_right false = refl

share_from : (a b : LabelRange) (label : ℕ) → HasLabel a label → HasLabel b label → share_label a b ≡ true
share_from a b label ha hb =
    let a0 = ha.above in
    let a1 = ha.below in
    let b0 = hb.above in
    let b1 = hb.below in
    let one : leb a.label (last_label b) ≡ true = le-leb _ _ (omega arith) in
    let two : leb b.label (last_label a) ≡ true = le-leb _ _ (omega arith) in
    rw (one, two) refl

-- the higher of both first labels is shared
shared : (a b : LabelRange) → share_label a b ≡ true → (label : ℕ) × HasLabel a label × HasLabel b label
shared a b e =
    let both = and_true _ _ e in
    let one : a.label ≤ last_label b = leb-true _ _ both.0 in
    let two : b.label ≤ last_label a = leb-true _ _ both.1 in
    elim (cases_lt a.label b.label) [
      | inl lt ↦ (b.label, record { above = omega arith; below = two }, record { above = omega arith; below = omega arith })
      | inr le ↦ (a.label, record { above = omega arith; below = omega arith }, record { above = omega arith; below = one })
    ]

-- one of the list shares a label with the range
record Shares (r : LabelRange) (rs : List LabelRange) : Type 0 where
  place : ℕ
  label : ℕ
  has : HasLabel r label
  other : IsSomeAnd (slice_get rs place) (λ q. HasLabel q label)

any_shares : (r : LabelRange) (rs : List LabelRange) → list_any (share_label r) rs ≡ true → Shares r rs
any_shares r [] e = absurd cc
any_shares r (q ∷ rs) e =
    elim (or_true (share_label r q) (list_any (share_label r) rs) e) [
      | inl one ↦ let s = shared r q one in record { place = 0; label = s.0; has = s.1; other = s.2 }
      | inr more ↦ let s = any_shares r rs more in record { place = suc s.place; label = s.label; has = s.has; other = s.other }
    ]

shares_any : (r : LabelRange) (rs : List LabelRange) (place label : ℕ) → HasLabel r label → IsSomeAnd (slice_get rs place) (λ q. HasLabel q label) → list_any (share_label r) rs ≡ true
shares_any r [] place label has other = absurd other
shares_any r (q ∷ rs) zero label has other = let e = share_from r q label has other in rw e refl
shares_any r (q ∷ rs) (suc place) label has other = let e = shares_any r rs place label has other in rw e (or_right (share_label r q))

pub overlap_found : (rs : List LabelRange) → any_overlap rs ≡ true → Overlap rs
unfolding any_overlap
overlap_found [] e = absurd cc
overlap_found (r ∷ rs) e =
    elim (or_true (list_any (share_label r) rs) (any_overlap rs) e) [
      | inl one ↦ let s = any_shares r rs one in record { first = 0; second = suc s.place; label = s.label; places = omega arith; in_first = s.has; in_second = s.other }
      | inr more ↦ let o = overlap_found rs more in record { first = suc o.first; second = suc o.second; label = o.label; places = let p = o.places in omega arith; in_first = o.in_first; in_second = o.in_second }
    ]

overlap_at : (rs : List LabelRange) (first second label : ℕ) → first < second → IsSomeAnd (slice_get rs first) (λ q. HasLabel q label) → IsSomeAnd (slice_get rs second) (λ q. HasLabel q label) → any_overlap rs ≡ true
unfolding any_overlap
overlap_at [] first second label h one two = absurd one
overlap_at (r ∷ rs) zero zero label h one two = absurd (omega arith)
overlap_at (r ∷ rs) zero (suc second) label h one two = let e = shares_any r rs second label one two in rw e refl
overlap_at (r ∷ rs) (suc first) zero label h one two = absurd (omega arith)
overlap_at (r ∷ rs) (suc first) (suc second) label h one two = let e = overlap_at rs first second label (omega arith) one two in rw e (or_right (list_any (share_label r) rs))

pub overlap_test : (rs : List LabelRange) → Overlap rs → any_overlap rs ≡ true
overlap_test rs o = overlap_at rs o.first o.second o.label o.places o.in_first o.in_second

-- those that are spelled alike are one
pub info_once : (a b : Info) → InfoFits a → InfoFits b → info a ≡ info b → a ≡ b
info_once a b fa fb e = ok_is {E = InfoFault} a b (sym (info_again a fa) ∙ ap info_at e ∙ info_again b fb)
