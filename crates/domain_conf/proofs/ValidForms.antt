-- The values of a domain file have their ranges and forms.
use Rattle.std.proofs.Common.{◌≡◌, ℕ, suc, ◌+◌, ◌-◌, ◌*◌, ◌%◌, ◌<◌, ◌≤◌, Bool, true, false, cond, eqb, leb, ltb, ℤ, pos, negsuc, List, [], ◌∷◌, length, Option, Some, None, Ok, refl, ap, subst, arith}
use Rattle.std.proofs.lemmas.Bool.{and_parts, leb-true, ltb-true, eqb-true}
use Rattle.std.proofs.lemmas.Option.{cond_some, same_Some}
use Rattle.std.specs.List.{AllByRecursion, slice_split}
use Rattle.std.specs.Prelude.{slice_index, option_map, option_and_then}
use Rattle.toml.specs.Data.{Data, get, as_integer}
use Rattle.wire_base.specs.declared.addresses.SystemId.{SystemId}
use Rattle.wire_base.specs.declared.addresses.Mac.{Mac}
use Rattle.wire_base.specs.declared.addresses.Ipv4.{Ipv4}
use Rattle.wire_base.specs.model.Configuration.{IsOctets, IsArea, IsPrefix, IsStation, is_between, is_name}
use Rattle.domain_conf.specs.declared.fault.ConfFault.{ConfFault}
use Rattle.domain_conf.specs.declared.fault.ConfFault.TheVariants as fault
use Rattle.domain_conf.specs.Reading.{or_fault}
use Rattle.domain_conf.specs.Fields.{field, number}
use Rattle.domain_conf.specs.Forms.{nat_within, name_in, hex_digit, hex_octet, before, hex_octets, octets_at, in_size, area_in, system_octets, system_of, system_in, if_station, mac_octets, mac_of, mac_in, digit_of, first_digit_of, then_digit, small_number, four_numbers, if_unicast, prefix_octets, prefix_of, prefix_in, is_parted}
use Rattle.domain_conf.specs.Links.{made_mac}
use Rattle.domain_conf.proofs.ValidLists.{bind_ok, there}

-- ---- options

and_then_ok : {A B : Type 0} (f : A → Option B) (o : Option A) (y : B) → option_and_then f o ≡ Some y → (x : A) × (o ≡ Some x) × (f x ≡ Some y)
and_then_ok f None y e = absurd cc
and_then_ok f (Some x) y e = (x, refl, e)

map_ok : {A B : Type 0} (f : A → B) (o : Option A) (y : B) → option_map f o ≡ Some y → (x : A) × (o ≡ Some x) × (f x ≡ y)
map_ok f None y e = absurd cc
map_ok f (Some x) y e = (x, refl, same_Some (f x) y e)

between_parts : (low high x : ℕ) → is_between low high x ≡ true → (low ≤ x) × (x ≤ high)
between_parts low high x e = let p = and_parts (leb low x) (leb x high) e in (leb-true low x p.0, leb-true x high p.1)

-- ---- fields

pub field_ok : {A B : Type 0} (kind : Data → Option A) (form : A → Option B) (path : List ℕ) (found : Option Data) (b : B) → field kind form path found ≡ Ok b → (x : A) × (form x ≡ Some b)
unfolding field
field_ok kind form path found b e =
    let p = bind_ok (or_fault (fault.Field path) (option_and_then kind found)) _ b e in
    (p.0, there (fault.Range path) (form p.0) b p.2)

within_is : (low high : ℕ) (z : ℤ) (n : ℕ) → nat_within low high z ≡ Some n → (low ≤ n) × (n ≤ high)
within_is low high (pos m) n e =
    let p = cond_some (is_between low high m) m n e in
    subst (λ (k : ℕ). (low ≤ k) × (k ≤ high)) p.1 (between_parts low high m p.0)
within_is low high (negsuc m) n e = absurd cc

-- a number lies within its bounds
pub number_ok : (low high : ℕ) (at : List ℕ → List ℕ) (key : List ℕ) (d : Data) (n : ℕ) → number low high at key d ≡ Ok n → (low ≤ n) × (n ≤ high)
number_ok low high at key d n e =
    let p = field_ok as_integer (nat_within low high) (at key) (get key d) n e in
    within_is low high p.0 n p.1

-- ---- names

pub name_ok : (t n : List ℕ) → name_in t ≡ Some n → is_name n ≡ true
name_ok t n e = let p = cond_some (is_name t) t n e in subst (λ (k : List ℕ). is_name k ≡ true) p.1 p.0

-- ---- hexadecimal digits

digit_small : (c h : ℕ) → hex_digit c ≡ Some h → h < 16
unfolding hex_digit
digit_small c h e = first (is_between 48 57 c) refl e
  where
    third : (b : Bool) → is_between 97 102 c ≡ b → cond b (Some (c - 87)) None ≡ Some h → h < 16
    third true is e = let p = between_parts 97 102 c is in let same = same_Some (c - 87) h e in omega (arith, p.1, same)
    third false is e = absurd cc

    second : (b : Bool) → is_between 65 70 c ≡ b → cond b (Some (c - 55)) (cond (is_between 97 102 c) (Some (c - 87)) None) ≡ Some h → h < 16
    second true is e = let p = between_parts 65 70 c is in let same = same_Some (c - 55) h e in omega (arith, p.1, same)
    second false is e = third (is_between 97 102 c) refl e

    first : (b : Bool) → is_between 48 57 c ≡ b → cond b (Some (c - 48)) (cond (is_between 65 70 c) (Some (c - 55)) (cond (is_between 97 102 c) (Some (c - 87)) None)) ≡ Some h → h < 16
    first true is e = let p = between_parts 48 57 c is in let same = same_Some (c - 48) h e in omega (arith, p.1, same)
    first false is e = second (is_between 65 70 c) refl e

octet_small : (high low x : ℕ) → hex_octet high low ≡ Some x → x < 256
unfolding hex_octet
octet_small high low x e =
    let p = and_then_ok (λ h. option_map (λ l. 16 * h + l) (hex_digit low)) (hex_digit high) x e in
    let q = map_ok (λ (l : ℕ). 16 * p.0 + l) (hex_digit low) x p.2 in
    let s = digit_small high p.0 p.1 in
    let t = digit_small low q.0 q.1 in
    omega (arith, s, t, q.2)

-- octets that stand at so many places
pub record AreThere (n : ℕ) (xs : List ℕ) : Type 0 where
  pub long : length xs ≡ n
  pub each : AllByRecursion (λ o. o < 256) xs

octets_there : (t places xs : List ℕ) → octets_at t places ≡ Some xs → AreThere (length places) xs
unfolding octets_at
octets_there t [] xs e = let same : [] ≡ xs = cc in subst (λ (ys : List ℕ). AreThere 0 ys) same (record { long = refl; each = tt })
octets_there t (at ∷ places) xs e =
    let p = and_then_ok (λ x. before x (octets_at t places)) (hex_octet (slice_index t at) (slice_index t (at + 1))) xs e in
    let q = map_ok (λ (ys : List ℕ). p.0 ∷ ys) (octets_at t places) xs p.2 in
    let r = octets_there t places q.0 q.1 in
    subst (λ (ys : List ℕ). AreThere (length (at ∷ places)) ys) q.2 (record { long = ap suc r.long; each = (octet_small (slice_index t at) (slice_index t (at + 1)) p.0 p.1, r.each) })

hex_small : (t xs : List ℕ) → hex_octets t ≡ Some xs → AllByRecursion (λ o. o < 256) xs
unfolding hex_octets
hex_small [] xs e = let same : [] ≡ xs = cc in subst (AllByRecursion (λ o. o < 256)) same tt
hex_small (high ∷ []) xs e = absurd cc
hex_small (high ∷ low ∷ more) xs e =
    let p = and_then_ok (λ x. before x (hex_octets more)) (hex_octet high low) xs e in
    let q = map_ok (λ (ys : List ℕ). p.0 ∷ ys) (hex_octets more) xs p.2 in
    subst (AllByRecursion (λ o. o < 256)) q.2 (octet_small high low p.0 p.1, hex_small more q.0 q.1)

-- ---- areas, systems, Ethernet addresses

pub area_ok : (t xs : List ℕ) → area_in t ≡ Some xs → IsArea xs
unfolding area_in
area_ok t xs e =
    let p = and_then_ok (in_size 1 13) (hex_octets t) xs e in
    let q = cond_some (is_between 1 13 (length p.0)) p.0 xs p.2 in
    let r = between_parts 1 13 (length p.0) q.0 in
    subst IsArea q.1 (record { some = r.0; few = r.1; each = hex_small t p.0 p.1 })

is_octets : (n : ℕ) (xs : List ℕ) → AreThere n xs → IsOctets n xs
is_octets n xs a = record { long = a.long; each = a.each }

pub system_ok : (t : List ℕ) (s : SystemId) → system_in t ≡ Some s → IsOctets 6 s.0
unfolding system_octets
system_ok t s e =
    let p = map_ok system_of (system_octets t) s e in
    let q = by (is_parted 14 46 (4 ∷ 9 ∷ []) t) p.0 p.1 in
    subst (λ (s : SystemId). IsOctets 6 s.0) p.2 (is_octets 6 p.0 q)
  where
    by : (b : Bool) (xs : List ℕ) → cond b (octets_at t (0 ∷ 2 ∷ 5 ∷ 7 ∷ 10 ∷ 12 ∷ [])) None ≡ Some xs → AreThere 6 xs
    by true xs e = octets_there t (0 ∷ 2 ∷ 5 ∷ 7 ∷ 10 ∷ 12 ∷ []) xs e
    by false xs e = absurd cc

station : (xs ys : List ℕ) → AreThere 6 xs → if_station xs ≡ Some ys → IsStation ys
station xs ys a e =
    let p = cond_some (eqb (slice_index xs 0 % 2) 0) xs ys e in
    subst IsStation p.1 (record { octets_are = is_octets 6 xs a; one_station = eqb-true (slice_index xs 0 % 2) 0 p.0 })

pub mac_ok : (t : List ℕ) (m : Mac) → mac_in t ≡ Some m → IsStation m.0
unfolding mac_octets
mac_ok t m e =
    let p = map_ok mac_of (mac_octets t) m e in
    subst (λ (m : Mac). IsStation m.0) p.2 (by (is_parted 17 58 (2 ∷ 5 ∷ 8 ∷ 11 ∷ 14 ∷ []) t) p.0 p.1)
  where
    by : (b : Bool) (xs : List ℕ) → cond b (option_and_then if_station (octets_at t (0 ∷ 3 ∷ 6 ∷ 9 ∷ 12 ∷ 15 ∷ []))) None ≡ Some xs → IsStation xs
    by true xs e =
        let p = and_then_ok if_station (octets_at t (0 ∷ 3 ∷ 6 ∷ 9 ∷ 12 ∷ 15 ∷ [])) xs e in
        station p.0 xs (octets_there t (0 ∷ 3 ∷ 6 ∷ 9 ∷ 12 ∷ 15 ∷ []) p.0 p.1) p.2
    by false xs e = absurd cc

-- the address that stands where a file has none
pub made_mac_ok : (own peer : ℕ) → own < 65536 → peer < 65536 → IsStation (made_mac own peer).0
unfolding made_mac
made_mac_ok own peer h k =
    record {
      octets_are = record { long = refl; each = (omega arith, (omega arith, (omega arith, (omega arith, (omega arith, (omega arith, tt)))))) };
      one_station = refl;
    }

-- ---- addresses of routers

digit_below : (c n : ℕ) → digit_of c ≡ Some n → n < 10
digit_below c n e =
    let p = cond_some (is_between 48 57 c) (c - 48) n e in
    let q = between_parts 48 57 c p.0 in
    omega (arith, q.1, p.1)

first_below : (c n : ℕ) → first_digit_of c ≡ Some n → n < 10
first_below c n e =
    let p = cond_some (is_between 49 57 c) (c - 48) n e in
    let q = between_parts 49 57 c p.0 in
    omega (arith, q.1, p.1)

two_below : (b c n : ℕ) → then_digit (first_digit_of b) c ≡ Some n → n < 100
two_below b c n e =
    let p = and_then_ok (λ n. option_map (λ d. 10 * n + d) (digit_of c)) (first_digit_of b) n e in
    let q = map_ok (λ (d : ℕ). 10 * p.0 + d) (digit_of c) n p.2 in
    let s = first_below b p.0 p.1 in
    let t = digit_below c q.0 q.1 in
    omega (arith, s, t, q.2)

small_below : (t : List ℕ) (n : ℕ) → small_number t ≡ Some n → n < 256
unfolding small_number
small_below [] n e = absurd cc
small_below (c ∷ []) n e = let s = digit_below c n e in omega (arith, s)
small_below (b ∷ c ∷ []) n e = let s = two_below b c n e in omega (arith, s)
small_below (a ∷ b ∷ c ∷ []) n e =
    let p = and_then_ok (λ n. cond (ltb n 256) (Some n) None) (then_digit (then_digit (first_digit_of a) b) c) n e in
    let q = cond_some (ltb p.0 256) p.0 n p.2 in
    subst (λ (k : ℕ). k < 256) q.1 (ltb-true p.0 256 q.0)
small_below (a ∷ b ∷ c ∷ d ∷ more) n e = absurd cc

four_there : (ps : List (List ℕ)) (xs : List ℕ) → four_numbers ps ≡ Some xs → AreThere 4 xs
four_there [] xs e = absurd cc
four_there (a ∷ []) xs e = absurd cc
four_there (a ∷ b ∷ []) xs e = absurd cc
four_there (a ∷ b ∷ c ∷ []) xs e = absurd cc
four_there (a ∷ b ∷ c ∷ d ∷ []) xs e =
    let p = and_then_ok (λ w. option_and_then (λ x. option_and_then (λ y. option_map (λ z. w ∷ x ∷ y ∷ z ∷ []) (small_number d)) (small_number c)) (small_number b)) (small_number a) xs e in
    let q = and_then_ok (λ x. option_and_then (λ y. option_map (λ z. p.0 ∷ x ∷ y ∷ z ∷ []) (small_number d)) (small_number c)) (small_number b) xs p.2 in
    let r = and_then_ok (λ y. option_map (λ z. p.0 ∷ q.0 ∷ y ∷ z ∷ []) (small_number d)) (small_number c) xs q.2 in
    let s = map_ok (λ (z : ℕ). p.0 ∷ q.0 ∷ r.0 ∷ z ∷ []) (small_number d) xs r.2 in
    subst (AreThere 4) s.2 (record { long = refl; each = (small_below a p.0 p.1, (small_below b q.0 q.1, (small_below c r.0 r.1, (small_below d s.0 s.1, tt)))) })
four_there (a ∷ b ∷ c ∷ d ∷ f ∷ more) xs e = absurd cc

pub prefix_ok : (t : List ℕ) (p : Ipv4) → prefix_in t ≡ Some p → IsPrefix p.0
unfolding prefix_octets
prefix_ok t p e =
    let m = map_ok prefix_of (prefix_octets t) p e in
    let n = and_then_ok if_unicast (four_numbers (slice_split (λ c. eqb c 46) t)) m.0 m.1 in
    let q = cond_some (is_between 1 223 (slice_index n.0 0)) n.0 m.0 n.2 in
    let b = between_parts 1 223 (slice_index n.0 0) q.0 in
    let whole : IsPrefix n.0 = record { octets_are = is_octets 4 n.0 (four_there (slice_split (λ c. eqb c 46) t) n.0 n.1); first = b.0; one_router = b.1 } in
    subst (λ (p : Ipv4). IsPrefix p.0) m.2 (subst IsPrefix q.1 whole)
