-- Point-to-point hellos: what is in the grammar is parsed, and what is parsed is in the grammar.
use Rattle.std.proofs.Common.{◌≡◌, ℕ, suc, ◌+◌, ◌-◌, ◌*◌, ◌/◌, ◌%◌, ◌<◌, ◌≤◌, ◌^◌, ◌⊎◌, Bool, true, false, not, ◌&&◌, ◌||◌, ltb, eqb, List, [], ◌∷◌, ◌++◌, length, Option, Some, None, Result, Ok, Err, refl, sym, ap, subst, ◌∙◌, append_assoc, arith, inl, inr}
use Rattle.std.proofs.lemmas.Bool.{ltb-false, le-ltb, eqb-true}
use Rattle.std.proofs.lemmas.List.{length-append, append-nil}
use Rattle.std.proofs.lemmas.List.Concat.{flat_map-cons}
use Rattle.std.specs.List.{flat_map}
use Rattle.std.specs.Prelude.{IfOk}
use Rattle.byteorder.specs.Endian.{big_bytes}
use Rattle.wire_base.specs.declared.addresses.SystemId.{SystemId}
use Rattle.wire_base.specs.declared.conf.Level.{Level}
use Rattle.wire_base.specs.model.Fields.{AreOctets, octet_at, octets_at, number_at}
use Rattle.wire_base.specs.model.OwnLsp.{area_tlv, protocols_tlv}
use Rattle.wire_base.specs.model.Pdu.{Free, shaped}
use Rattle.wire_base.specs.model.Tlv.{tlv}
use Rattle.laws_format.proofs.FieldLaws.{bind_ok, ok_is, guarded, octet_takes, octets_takes, octets_again, number_takes, number_again, wide2, AreOctets-front}
use Rattle.laws_format.proofs.ChecksumLaws.{and_true}
use Rattle.isis_hello.specs.declared.fault.HelloFault.{HelloFault}
use Rattle.isis_hello.specs.declared.fault.HelloFault.TheVariants as faults
use Rattle.isis_hello.specs.declared.hello.Hello.{Hello}
use Rattle.isis_hello.specs.Hello.{HelloFits, NamedFits, IsHello, around, body_at, circuit_type, hello, hello_at, hello_body, named_octets, tlvs_sized, way_in, way_of, way_tlv}
use Rattle.isis_hello.proofs.WayLemmas.{way_in_again, way_in_takes}
use Rattle.laws_format.proofs.PduLaws.{or_true}

-- ---- what is in the grammar is parsed

front_again : (f : Free) (more : List ℕ) → (f.id_length ≡ 0) ⊎ (f.id_length ≡ 6) → 12 ≤ length more → hello_at (shaped f 20 17 ++ more) ≡ body_at more
unfolding hello_at
front_again f more id enough =
    let long : ltb (length (shaped f 20 17 ++ more)) 20 ≡ false = le-ltb _ _ (omega (arith, enough)) in
    let low : (f.high * 32 + 17) % 32 ≡ 17 = omega arith in
    let id_right : (eqb f.id_length 0 || eqb f.id_length 6) ≡ true = by_id id in
    rw (long, id_right, low) refl
  where
    by_id : (f.id_length ≡ 0) ⊎ (f.id_length ≡ 6) → (eqb f.id_length 0 || eqb f.id_length 6) ≡ true
    by_id (inl z) = rw z refl
    by_id (inr s) = rw s refl

sized_again : (text rest : List ℕ) → tlvs_sized (20 + length text) (text ++ rest) ≡ Ok (text, rest)
sized_again text rest =
    let k : ltb (20 + length text) 20 ≡ false = le-ltb _ _ (omega arith) in
    let m : 20 + length text - 20 ≡ length text = omega arith in
    rw (k, m) (octets_again faults.PduLength (length text) text rest refl)

-- the octets after the source
abbrev after_source : ℕ → Hello → List ℕ → List ℕ
after_source low h tlvs = big_bytes 2 h.hold ++ (big_bytes 2 (20 + length tlvs) ++ (low ∷ tlvs))

body_again : (kind low : ℕ) (h : Hello) (tlvs rest : List ℕ) → HelloFits h → 20 + length tlvs < 256 ^ 2 → way_in tlvs ≡ Ok (way_of h) → body_at (hello_body kind low h tlvs ++ rest) ≡ Ok h
unfolding body_at
body_again kind low h tlvs rest fits size found =
    let joined : (h.source.0 ++ after_source low h tlvs) ++ rest ≡ h.source.0 ++ (after_source low h tlvs ++ rest) = append_assoc h.source.0 (after_source low h tlvs) rest in
    let source = octets_again faults.PduLength 6 h.source.0 (after_source low h tlvs ++ rest) fits.source in
    let hold = number_again faults.PduLength 2 h.hold (big_bytes 2 (20 + length tlvs) ++ (low ∷ (tlvs ++ rest))) fits.hold in
    let long = number_again faults.PduLength 2 (20 + length tlvs) (low ∷ (tlvs ++ rest)) size in
    rw (joined, source, hold, long, sized_again tlvs rest, found) refl

pub hello_only : (octets : List ℕ) (h : Hello) → IsHello octets h → hello_at octets ≡ Ok h
hello_only octets h is =
    let tlvs = around is.before h is.after in
    let body = hello_body is.kind is.low h tlvs in
    let long : 12 ≤ length (body ++ is.rest) = let s = is.fits.source in omega (arith, s, length-append body is.rest, length-append h.source.0 (after_source is.low h tlvs)) in
    ap hello_at is.parts
    ∙ front_again is.free (body ++ is.rest) is.id_length long
    ∙ body_again is.kind is.low h tlvs is.rest is.fits is.size (way_in_again is.before is.after (way_of h) is.first is.fits.circuit is.fits.named)

-- ---- what is parsed is in the grammar

not_false : (b : Bool) → not b ≡ false → b ≡ true
not_false true e = refl
not_false false e = absurd cc

record SizedTaken (size : ℕ) (octets : List ℕ) (x : List ℕ × List ℕ) : Type 0 where
  size_is : size ≡ 20 + length x.0
  parts : octets ≡ x.0 ++ x.1
  fits : AreOctets x.0

sized_takes : (size : ℕ) (octets : List ℕ) (x : List ℕ × List ℕ) → AreOctets octets → tlvs_sized size octets ≡ Ok x → SizedTaken size octets x
sized_takes size octets x fits e =
    let g = guarded (ltb size 20) faults.PduLength (octets_at faults.PduLength (size - 20) octets) x e in
    let large : 20 ≤ size = ltb-false _ _ g.0 in
    let t = octets_takes faults.PduLength (size - 20) octets x fits g.1 in
    record { size_is = omega (arith, t.1, large); parts = t.0.parts; fits = AreOctets-front x.0 x.1 (subst AreOctets t.0.parts fits) }

record BodyTaken (octets : List ℕ) (h : Hello) : Type 0 where
  kind : ℕ
  low : ℕ
  tlvs : List ℕ
  rest : List ℕ
  parts : octets ≡ hello_body kind low h tlvs ++ rest
  size : 20 + length tlvs < 256 ^ 2
  tlvs_fit : AreOctets tlvs
  found : way_in tlvs ≡ Ok (way_of h)
  source : length h.source.0 ≡ 6
  hold : h.hold < 256 ^ 2

body_takes : (octets : List ℕ) (h : Hello) → AreOctets octets → body_at octets ≡ Ok h → BodyTaken octets h
unfolding body_at
body_takes octets h fits e =
    let k = bind_ok (octet_at faults.PduLength octets) _ h e in
    let s = bind_ok (octets_at faults.PduLength 6 k.0.1) _ h k.2 in
    let t = bind_ok (number_at faults.PduLength 2 s.0.1) _ h s.2 in
    let n = bind_ok (number_at faults.PduLength 2 t.0.1) _ h t.2 in
    let l = bind_ok (octet_at faults.PduLength n.0.1) _ h n.2 in
    let v = bind_ok (tlvs_sized n.0.0 l.0.1) _ h l.2 in
    let w = bind_ok (way_in v.0.0) _ h v.2 in
    let tk = octet_takes faults.PduLength octets k.0 fits k.1 in
    let ts = octets_takes faults.PduLength 6 k.0.1 s.0 tk.0.rest_fits s.1 in
    let th = number_takes faults.PduLength 2 wide2 s.0.1 t.0 ts.0.rest_fits t.1 in
    let tn = number_takes faults.PduLength 2 wide2 t.0.1 n.0 th.0.rest_fits n.1 in
    let tl = octet_takes faults.PduLength n.0.1 l.0 tn.0.rest_fits l.1 in
    let tv = sized_takes n.0.0 l.0.1 v.0 tl.0.rest_fits v.1 in
    let made : Hello = record { source = record { 0 = s.0.0 }; hold = t.0.0; circuit = w.0.circuit; state = w.0.state; named = w.0.named } in
    let numbers : t.0.1 ≡ big_bytes 2 (20 + length v.0.0) ++ (l.0.0 ∷ (v.0.0 ++ v.0.1)) = tn.0.parts ∙ ap (λ (x : ℕ). big_bytes 2 x ++ n.0.1) tv.size_is ∙ ap (λ (x : List ℕ). big_bytes 2 (20 + length v.0.0) ++ x) (tl.0.parts ∙ ap (λ (x : List ℕ). l.0.0 ∷ x) tv.parts) in
    let tail : s.0.1 ≡ after_source l.0.0 made v.0.0 ++ v.0.1 = th.0.parts ∙ ap (λ (x : List ℕ). big_bytes 2 t.0.0 ++ x) numbers in
    let parts : octets ≡ hello_body k.0.0 l.0.0 made v.0.0 ++ v.0.1 = tk.0.parts ∙ ap (λ (x : List ℕ). k.0.0 ∷ x) (ts.0.parts ∙ ap (λ (x : List ℕ). s.0.0 ++ x) tail ∙ sym (append_assoc s.0.0 (after_source l.0.0 made v.0.0) v.0.1)) in
    subst (λ (x : Hello). BodyTaken octets x) (ok_is {E = HelloFault} made h w.2) (record {
      kind = k.0.0;
      low = l.0.0;
      tlvs = v.0.0;
      rest = v.0.1;
      parts = parts;
      size = let q = tv.size_is in omega (arith, q, tn.1);
      tlvs_fit = tv.fits;
      found = w.1;
      source = ts.1;
      hold = th.1;
    })

record Front (octets : List ℕ) (h : Hello) : Type 0 where
  free : Free
  more : List ℕ
  id_length : (free.id_length ≡ 0) ⊎ (free.id_length ≡ 6)
  parts : octets ≡ shaped free 20 17 ++ more
  more_fits : AreOctets more
  body : body_at more ≡ Ok h

front_takes : (octets : List ℕ) (h : Hello) → AreOctets octets → hello_at octets ≡ Ok h → Front octets h
unfolding hello_at
front_takes [] v fits e = absurd cc
front_takes (a ∷ []) v fits e = absurd cc
front_takes (a ∷ b ∷ []) v fits e = absurd cc
front_takes (a ∷ b ∷ c ∷ []) v fits e = absurd cc
front_takes (a ∷ b ∷ c ∷ d ∷ []) v fits e = absurd cc
front_takes (a ∷ b ∷ c ∷ d ∷ f ∷ []) v fits e = absurd cc
front_takes (a ∷ b ∷ c ∷ d ∷ f ∷ g ∷ []) v fits e = absurd cc
front_takes (a ∷ b ∷ c ∷ d ∷ f ∷ g ∷ h ∷ []) v fits e = absurd cc
front_takes (a ∷ b ∷ c ∷ d ∷ f ∷ g ∷ h ∷ i ∷ more) v fits e =
    let g0 = guarded (ltb (length (a ∷ b ∷ c ∷ d ∷ f ∷ g ∷ h ∷ i ∷ more)) 20) faults.Short _ v e in
    let g1 = guarded (not (eqb a 131)) faults.Discriminator _ v g0.1 in
    let g2 = guarded (not (eqb c 1 && eqb g 1)) faults.Version _ v g1.1 in
    let g3 = guarded (not (eqb d 0 || eqb d 6)) faults.IdLength _ v g2.1 in
    let g4 = guarded (not (eqb (f % 32) 17)) faults.Type17 _ v g3.1 in
    let g5 = guarded (not (eqb b 20)) faults.HeaderLength _ v g4.1 in
    let a-is : a ≡ 131 = eqb-true _ _ (not_false _ g1.0) in
    let versions = and_true (eqb c 1) (eqb g 1) (not_false _ g2.0) in
    let c-is : c ≡ 1 = eqb-true _ _ versions.0 in
    let g-is : g ≡ 1 = eqb-true _ _ versions.1 in
    let b-is : b ≡ 20 = eqb-true _ _ (not_false _ g5.0) in
    let low : f % 32 ≡ 17 = eqb-true _ _ (not_false _ g4.0) in
    let f-is : f ≡ f / 32 * 32 + 17 = omega (arith, low) in
    record {
      free = record { id_length = d; high = f / 32; sixth = h; seventh = i; circuit = 0; size = 0; hello = 0 };
      more = more;
      id_length = elim (or_true (eqb d 0) (eqb d 6) (not_false _ g3.0)) as (λ _. (d ≡ 0) ⊎ (d ≡ 6)) [ inl z ↦ inl (eqb-true _ _ z) | inr s ↦ inr (eqb-true _ _ s) ];
      parts = ap (λ (n : ℕ). n ∷ b ∷ c ∷ d ∷ f ∷ g ∷ h ∷ i ∷ more) a-is
          ∙ ap (λ (n : ℕ). 131 ∷ n ∷ c ∷ d ∷ f ∷ g ∷ h ∷ i ∷ more) b-is
          ∙ ap (λ (n : ℕ). 131 ∷ 20 ∷ n ∷ d ∷ f ∷ g ∷ h ∷ i ∷ more) c-is
          ∙ ap (λ (n : ℕ). 131 ∷ 20 ∷ 1 ∷ d ∷ n ∷ g ∷ h ∷ i ∷ more) f-is
          ∙ ap (λ (n : ℕ). 131 ∷ 20 ∷ 1 ∷ d ∷ (f / 32 * 32 + 17) ∷ n ∷ h ∷ i ∷ more) g-is;
      more_fits = λ k. fits (suc (suc (suc (suc (suc (suc (suc (suc k))))))));
      body = g5.1;
    }

pub hello_found : (octets : List ℕ) (h : Hello) → AreOctets octets → hello_at octets ≡ Ok h → IsHello octets h
hello_found octets h fits e =
    let f = front_takes octets h fits e in
    let b = body_takes f.more h f.more_fits f.body in
    let w = way_in_takes b.tlvs (way_of h) b.tlvs_fit b.found in
    let tlvs : b.tlvs ≡ around w.found.before h w.found.after = w.spelled ∙ ap (flat_map tlv) w.found.parts in
    record {
      free = f.free;
      kind = b.kind;
      low = b.low;
      before = w.found.before;
      after = w.found.after;
      rest = b.rest;
      id_length = f.id_length;
      first = w.found.first;
      parts = f.parts ∙ ap (λ (l : List ℕ). shaped f.free 20 17 ++ l) b.parts ∙ ap (λ (l : List ℕ). (shaped f.free 20 17 ++ hello_body b.kind b.low h l) ++ b.rest) tlvs;
      size = subst (λ (l : List ℕ). 20 + length l < 256 ^ 2) tlvs b.size;
      fits = record { source = b.source; hold = b.hold; circuit = w.found.circuit; named = w.found.named };
    }

pub found_from : (octets : List ℕ) (r : Result Hello HelloFault) → AreOctets octets → r ≡ hello_at octets → IfOk r (λ h. IsHello octets h)
found_from octets (Ok h) fits e = hello_found octets h fits (sym e)
found_from octets (Err f) fits e = tt

-- ---- what is written is in the grammar

abbrev written : Free
written = record { id_length = 0; high = 0; sixth = 0; seventh = 0; circuit = 0; size = 0; hello = 0 }

named_short : (named : Option (SystemId × ℕ)) → NamedFits named → length (named_octets named) ≤ 10
named_short None fits = omega arith
named_short (Some n) fits = let f = fits.0 in omega (arith, f, length-append n.0.0 (big_bytes 4 n.1))

tlvs_short : (area : List ℕ) (h : Hello) → length area ≤ 13 → HelloFits h → length (around (area_tlv area ∷ protocols_tlv ∷ []) h []) ≤ 36
tlvs_short area h few fits =
    let last : List ℕ = flat_map tlv (way_tlv (way_of h) ∷ []) in
    let one : last ≡ tlv (way_tlv (way_of h)) = flat_map-cons tlv (way_tlv (way_of h)) [] ∙ append-nil (tlv (way_tlv (way_of h))) in
    let all : around (area_tlv area ∷ protocols_tlv ∷ []) h [] ≡ tlv (area_tlv area) ++ (tlv protocols_tlv ++ last) = flat_map-cons tlv (area_tlv area) (protocols_tlv ∷ way_tlv (way_of h) ∷ []) ∙ ap (λ (l : List ℕ). tlv (area_tlv area) ++ l) (flat_map-cons tlv protocols_tlv (way_tlv (way_of h) ∷ [])) in
    let n = named_short h.named fits.named in
    let l = ap length all in
    let k = ap length one in
    omega (arith, n, few, l, k, length-append area (tlv protocols_tlv ++ last))

pub hello_is : (level : Level) (area : List ℕ) (h : Hello) (rest : List ℕ) → length area ≤ 13 → HelloFits h → IsHello (hello level area h ++ rest) h
hello_is level area h rest few fits = record {
  free = written;
  kind = circuit_type level;
  low = h.circuit % 256;
  before = area_tlv area ∷ protocols_tlv ∷ [];
  after = [];
  rest = rest;
  id_length = inl refl;
  first = refl;
  parts = refl;
  size = let s = tlvs_short area h few fits in omega (arith, s);
  fits = fits;
}

-- what is written is parsed again, whatever follows it
pub hello_again : (level : Level) (area : List ℕ) (h : Hello) (rest : List ℕ) → length area ≤ 13 → HelloFits h → hello_at (hello level area h ++ rest) ≡ Ok h
hello_again level area h rest few fits = hello_only (hello level area h ++ rest) h (hello_is level area h rest few fits)

-- and has at most 56 octets
pub hello_short : (level : Level) (area : List ℕ) (h : Hello) → length area ≤ 13 → HelloFits h → length (hello level area h) ≤ 56
hello_short level area h few fits =
    let tlvs = around (area_tlv area ∷ protocols_tlv ∷ []) h [] in
    let s = tlvs_short area h few fits in
    let long = fits.source in
    omega (arith, s, long, length-append h.source.0 (after_source (h.circuit % 256) h tlvs))
