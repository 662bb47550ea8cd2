-- The three-way adjacency TLV among the TLVs of a hello: how it is found, that what is written is parsed again, and that what is
-- parsed was written so.
use Rattle.std.proofs.Common.{◌≡◌, ℕ, suc, ◌<◌, ◌^◌, Bool, true, false, not, cond, eqb, List, [], ◌∷◌, ◌++◌, length, Option, Some, None, Result, Ok, Err, refl, ap, subst, ◌∙◌, arith, inl, inr}
use Rattle.std.proofs.lemmas.Bool.{eqb-true}
use Rattle.std.proofs.lemmas.List.{length-append, nil_from_length}
use Rattle.std.proofs.lemmas.List.Concat.{flat_map-cons}
use Rattle.std.specs.List.{list_all, flat_map}
use Rattle.std.specs.Prelude.{unwrap_or}
use Rattle.byteorder.specs.Endian.{big_bytes}
use Rattle.wire_base.specs.declared.addresses.SystemId.{SystemId}
use Rattle.wire_base.specs.declared.faults.TlvFault.{TlvFault}
use Rattle.wire_base.specs.model.Fields.{◌>>=◌, AreOctets, octet_at, octets_at, number_at}
use Rattle.wire_base.specs.model.Tlv.{Tlv, tlv, tlv_at, tlvs_of}
use Rattle.laws_format.proofs.FieldLaws.{bind_ok, ok_is, guarded_else, octet_takes, octets_takes, octets_again, number_takes, number_again, wide4, AreOctets-front, AreOctets-back}
use Rattle.laws_format.proofs.TlvListLaws.{tlvs_step, tlvs_none, tlvs_fault, tlvs_again, tlvs_parts}
use Rattle.isis_hello.specs.declared.fault.HelloFault.{HelloFault}
use Rattle.isis_hello.specs.declared.fault.HelloFault.TheVariants as faults
use Rattle.isis_hello.specs.declared.hello.Tri.{Tri}
use Rattle.isis_hello.specs.declared.hello.Tri.TheVariants.{Up, Initializing, Down}
use Rattle.isis_hello.specs.declared.way.ThreeWay.{ThreeWay}
use Rattle.isis_hello.specs.Hello.{NamedFits, tri_number, named_octets, way, way_tlv, is_way, tri_at, neighbor_at, named_at, way_at, first_way, found_with, way_among, way_in}
use Rattle.laws_format.proofs.PduLaws.{chosen}
use Rattle.laws_format.proofs.ChecksumLaws.{and_true}

-- ---- the first one, with what was found before

unfoldable pub way_with : Option (Result ThreeWay HelloFault) → Result (List Tlv) TlvFault → Result ThreeWay HelloFault
way_with None r = way_among r
way_with (Some w) (Ok ts) = w
way_with (Some w) (Err f) = Err faults.Tlv

pub way_fault : (found : Option (Result ThreeWay HelloFault)) (octets : List ℕ) (f : TlvFault) → tlv_at octets ≡ Err f → way_with found (tlvs_of octets) ≡ Err faults.Tlv
unfolding way_with
way_fault None octets f e = ap way_among (tlvs_fault octets f e)
way_fault (Some w) octets f e = ap (way_with (Some w)) (tlvs_fault octets f e)

pub way_end : (found : Option (Result ThreeWay HelloFault)) (octets : List ℕ) → tlv_at octets ≡ Ok None → way_with found (tlvs_of octets) ≡ unwrap_or found (Err faults.ThreeWay)
unfolding way_with
way_end None octets e = ap way_among (tlvs_none octets e)
way_end (Some w) octets e = ap (way_with (Some w)) (tlvs_none octets e)

test_ok : (b : Bool) (x : Result ThreeWay HelloFault) (ts : List Tlv) → cond b x (first_way ts) ≡ way_with (cond b (Some x) None) (Ok ts)
unfolding way_with
test_ok true x ts = refl
test_ok false x ts = refl

test_err : (b : Bool) (x : Result ThreeWay HelloFault) (f : TlvFault) → Err faults.Tlv ≡ way_with (cond b (Some x) None) (Err f)
unfolding way_with
test_err true x f = refl
test_err false x f = refl

with_one : (found : Option (Result ThreeWay HelloFault)) (t : Tlv) (r : Result (List Tlv) TlvFault) → way_with found (r >>= λ ts. Ok (t ∷ ts)) ≡ way_with (found_with found t) r
unfolding way_with
with_one (Some w) t (Ok ts) = refl
with_one (Some w) t (Err f) = refl
with_one None t (Ok ts) = test_ok (is_way t) (way_at t.value) ts
with_one None t (Err f) = test_err (is_way t) (way_at t.value) f

pub way_next : (found : Option (Result ThreeWay HelloFault)) (octets : List ℕ) (t : Tlv) (rest : List ℕ) → tlv_at octets ≡ Ok (Some (t, rest)) → way_with found (tlvs_of octets) ≡ way_with (found_with found t) (tlvs_of rest)
way_next found octets t rest e = ap (way_with found) (tlvs_step octets t rest e) ∙ with_one found t (tlvs_of rest)

-- ---- what is written is parsed again

state_again : (state : Tri) → tri_at (tri_number state) ≡ Ok state
state_again Up = refl
state_again Initializing = refl
state_again Down = refl

named_again : (named : Option (SystemId × ℕ)) → NamedFits named → named_at (named_octets named) ≡ Ok named
unfolding named_at neighbor_at
named_again None fits = refl
named_again (Some n) fits =
    let long : length (n.0.0 ++ big_bytes 4 n.1) ≡ 10 = let f = fits.0 in omega (arith, f, length-append n.0.0 (big_bytes 4 n.1)) in
    let some : eqb (length (n.0.0 ++ big_bytes 4 n.1)) 0 ≡ false = ap (λ (k : ℕ). eqb k 0) long in
    let circuit : number_at faults.ThreeWay 4 (big_bytes 4 n.1) ≡ Ok (n.1, []) = number_again faults.ThreeWay 4 n.1 [] fits.1 in
    rw (some, octets_again faults.ThreeWay 6 n.0.0 (big_bytes 4 n.1) fits.0) (ap (λ (r : Result (ℕ × List ℕ) HelloFault). r >>= λ c. cond (eqb (length c.1) 0) (Ok (Some (record { 0 = n.0.0 }, c.0))) (Err faults.ThreeWay)) circuit)

pub way_again : (w : ThreeWay) → w.circuit < 256 ^ 4 → NamedFits w.named → way_at (way w) ≡ Ok w
unfolding way_at
way_again w circuit named = rw (state_again w.state, number_again faults.ThreeWay 4 w.circuit (named_octets w.named) circuit, named_again w.named named) refl

not_true : (b : Bool) → not b ≡ true → b ≡ false
not_true true e = absurd cc
not_true false e = refl

first_again : (before after : List Tlv) (w : ThreeWay) → list_all (λ t. not (is_way t)) before ≡ true → first_way (before ++ way_tlv w ∷ after) ≡ way_at (way w)
first_again [] after w first = refl
first_again (t ∷ before) after w first =
    let both = and_true (not (is_way t)) (list_all (λ t. not (is_way t)) before) first in
    rw (not_true (is_way t) both.0) (first_again before after w both.1)

pub way_in_again : (before after : List Tlv) (w : ThreeWay) → list_all (λ t. not (is_way t)) before ≡ true → w.circuit < 256 ^ 4 → NamedFits w.named → way_in (flat_map tlv (before ++ way_tlv w ∷ after)) ≡ Ok w
unfolding way_in
way_in_again before after w first circuit named = ap way_among (tlvs_again (before ++ way_tlv w ∷ after)) ∙ first_again before after w first ∙ way_again w circuit named

-- ---- what is parsed was written so

state_takes : (n : ℕ) (state : Tri) → tri_at n ≡ Ok state → n ≡ tri_number state
state_takes n state e =
    elim (chosen (eqb n 0) _ _ (Ok state) e) [
      | inl is ↦ eqb-true _ _ is.0 ∙ ap tri_number (ok_is {E = HelloFault} Up state is.1)
      | inr other ↦ elim (chosen (eqb n 1) _ _ (Ok state) other.1) [
        | inl is ↦ eqb-true _ _ is.0 ∙ ap tri_number (ok_is {E = HelloFault} Initializing state is.1)
        | inr never ↦ let g = guarded_else (eqb n 2) faults.ThreeWay (Ok Down) state never.1 in eqb-true _ _ g.0 ∙ ap tri_number (ok_is {E = HelloFault} Down state g.1)
      ]
    ]

neighbor_takes : (octets : List ℕ) (named : Option (SystemId × ℕ)) → AreOctets octets → neighbor_at octets ≡ Ok named → (octets ≡ named_octets named) × NamedFits named
unfolding neighbor_at
neighbor_takes octets named fits e =
    let a = bind_ok (octets_at faults.ThreeWay 6 octets) _ named e in
    let b = bind_ok (number_at faults.ThreeWay 4 a.0.1) _ named a.2 in
    let g = guarded_else (eqb (length b.0.1) 0) faults.ThreeWay (Ok (Some (record { 0 = a.0.0 }, b.0.0))) named b.2 in
    let t = octets_takes faults.ThreeWay 6 octets a.0 fits a.1 in
    let u = number_takes faults.ThreeWay 4 wide4 a.0.1 b.0 t.0.rest_fits b.1 in
    let system : SystemId = record { 0 = a.0.0 } in
    let none : b.0.1 ≡ [] = nil_from_length b.0.1 (eqb-true _ _ g.0) in
    let value : Some (system, b.0.0) ≡ named = ok_is {E = HelloFault} (Some (system, b.0.0)) named g.1 in
    let parts : octets ≡ named_octets (Some (system, b.0.0)) = t.0.parts ∙ ap (λ (l : List ℕ). a.0.0 ++ l) (u.0.parts ∙ ap (λ (l : List ℕ). big_bytes 4 b.0.0 ++ l) none) in
    subst (λ (m : Option (SystemId × ℕ)). (octets ≡ named_octets m) × NamedFits m) value (parts, (t.1, u.1))

named_takes : (octets : List ℕ) (named : Option (SystemId × ℕ)) → AreOctets octets → named_at octets ≡ Ok named → (octets ≡ named_octets named) × NamedFits named
unfolding named_at
named_takes octets named fits e =
    elim (chosen (eqb (length octets) 0) _ _ (Ok named) e) [
      | inl is ↦ subst (λ (m : Option (SystemId × ℕ)). (octets ≡ named_octets m) × NamedFits m) (ok_is {E = HelloFault} None named is.1) (nil_from_length octets (eqb-true _ _ is.0), tt)
      | inr some ↦ neighbor_takes octets named fits some.1
    ]

record WayTaken (octets : List ℕ) (w : ThreeWay) : Type 0 where
  parts : octets ≡ way w
  circuit : w.circuit < 256 ^ 4
  named : NamedFits w.named

way_takes : (octets : List ℕ) (w : ThreeWay) → AreOctets octets → way_at octets ≡ Ok w → WayTaken octets w
unfolding way_at
way_takes octets w fits e =
    let a = bind_ok (octet_at faults.ThreeWay octets) _ w e in
    let b = bind_ok (tri_at a.0.0) _ w a.2 in
    let c = bind_ok (number_at faults.ThreeWay 4 a.0.1) _ w b.2 in
    let d = bind_ok (named_at c.0.1) _ w c.2 in
    let t = octet_takes faults.ThreeWay octets a.0 fits a.1 in
    let u = number_takes faults.ThreeWay 4 wide4 a.0.1 c.0 t.0.rest_fits c.1 in
    let n = named_takes c.0.1 d.0 u.0.rest_fits d.1 in
    let made : ThreeWay = record { state = b.0; circuit = c.0.0; named = d.0 } in
    let parts : octets ≡ way made = t.0.parts ∙ ap (λ (k : ℕ). k ∷ a.0.1) (state_takes a.0.0 b.0 b.1) ∙ ap (λ (l : List ℕ). tri_number b.0 ∷ l) (u.0.parts ∙ ap (λ (l : List ℕ). big_bytes 4 c.0.0 ++ l) n.0) in
    subst (λ (x : ThreeWay). WayTaken octets x) (ok_is {E = HelloFault} made w d.2) (record { parts = parts; circuit = u.1; named = n.1 })

pub record WayFound (ts : List Tlv) (w : ThreeWay) : Type 0 where
  pub before : List Tlv
  pub after : List Tlv
  pub first : list_all (λ t. not (is_way t)) before ≡ true
  pub parts : ts ≡ before ++ way_tlv w ∷ after
  pub circuit : w.circuit < 256 ^ 4
  pub named : NamedFits w.named

with_before : (t : Tlv) (ts : List Tlv) (w : ThreeWay) → is_way t ≡ false → WayFound ts w → WayFound (t ∷ ts) w
with_before t ts w differs found = record {
  before = t ∷ found.before;
  after = found.after;
  first = rw differs found.first;
  parts = ap (λ (l : List Tlv). t ∷ l) found.parts;
  circuit = found.circuit;
  named = found.named;
}

first_takes : (ts : List Tlv) (w : ThreeWay) → AreOctets (flat_map tlv ts) → first_way ts ≡ Ok w → WayFound ts w
first_takes [] w fits e = absurd cc
first_takes (t ∷ ts) w fits e =
    let joined : AreOctets (tlv t ++ flat_map tlv ts) = subst AreOctets (flat_map-cons tlv t ts) fits in
    elim (chosen (is_way t) _ _ (Ok w) e) [
      | inl is ↦
          let own = AreOctets-front (tlv t) (flat_map tlv ts) joined in
          let taken = way_takes t.value w (λ i. own (suc (suc i))) is.1 in
          record {
            before = [];
            after = ts;
            first = refl;
            parts = ap (λ (k : ℕ). record { code = k; value = t.value } ∷ ts) (eqb-true _ _ is.0) ∙ ap (λ (l : List ℕ). record { code = 240; value = l } ∷ ts) taken.parts;
            circuit = taken.circuit;
            named = taken.named;
          }
      | inr other ↦ with_before t ts w other.0 (first_takes ts w (AreOctets-back (tlv t) (flat_map tlv ts) joined) other.1)
    ]

pub record WayTlvs (octets : List ℕ) (w : ThreeWay) : Type 0 where
  pub tlvs : List Tlv
  pub spelled : octets ≡ flat_map tlv tlvs
  pub found : WayFound tlvs w

pub way_in_takes : (octets : List ℕ) (w : ThreeWay) → AreOctets octets → way_in octets ≡ Ok w → WayTlvs octets w
unfolding way_in
way_in_takes octets w fits e = by_list (tlvs_of octets) refl e
  where
    by_list : (r : Result (List Tlv) TlvFault) → tlvs_of octets ≡ r → way_among r ≡ Ok w → WayTlvs octets w
    by_list (Ok ts) list e = record { tlvs = ts; spelled = tlvs_parts octets ts list; found = first_takes ts w (subst AreOctets (tlvs_parts octets ts list) fits) e }
    by_list (Err f) list e = absurd cc
