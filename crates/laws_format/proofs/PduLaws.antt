-- IS-IS PDUs: what is in the grammar is read, and what is read is in the grammar.
use Rattle.std.proofs.Common.{◌≡◌, ℕ, zero, suc, ◌+◌, ◌-◌, ◌*◌, ◌/◌, ◌%◌, ◌^◌, ◌<◌, ◌≤◌, ◌⊎◌, Bool, true, false, not, ◌&&◌, ◌||◌, cond, ltb, eqb, eq-eqb, List, [], ◌∷◌, ◌++◌, length, get_or, take, drop, Ok, Err, refl, sym, ap, subst, ◌∙◌, append_assoc, arith, inl, inr}
use Rattle.std.proofs.lemmas.Bool.{ltb-false, le-ltb, lt-ltb, leb-true, eqb-true}
use Rattle.std.proofs.lemmas.List.{take_at, drop_at, drop-drop, get_or-drop, length-append}
use Rattle.byteorder.specs.Endian.{big_bytes}
use Rattle.wire_base.specs.declared.addresses.SystemId.{SystemId}
use Rattle.wire_base.specs.declared.addresses.LspId.{LspId}
use Rattle.wire_base.specs.declared.faults.PduFault.{PduFault}
use Rattle.wire_base.specs.declared.faults.PduFault.TheVariants as faults
use Rattle.wire_base.specs.declared.conf.Level.{Level}
use Rattle.wire_base.specs.declared.conf.Level.TheVariants.{One, Two}
use Rattle.wire_base.specs.model.Fields.{AreOctets, octet_at, octets_at, number_at}
use Rattle.wire_base.specs.model.Tlv.{LspIdFits, lsp_id, lsp_id_at}
use Rattle.wire_base.specs.model.Checksum.{IsRight, is_right, with_pair, check_first, check_second, check_sum}
use Rattle.wire_base.specs.model.Pdu.{Head, HeadFits, AreTlvs, Pdu, LspPdu, CsnpPdu, PsnpPdu, HelloPdu, OtherPdu, tlvs_pass, lsp_type, csnp_type, psnp_type, lsp_covered, lsp_body, csnp_body, psnp_body, lsp, csnp, psnp, lsp_sum, LspFits, CsnpFits, PsnpFits, is_hello, IsOther, Free, shaped, IsPdu, sized_at, lsp_at, csnp_at, psnp_at, body_at, pdu_at}
use Rattle.laws_format.proofs.FieldLaws.{bind_ok, ok_is, guarded, guarded_else, Takes-then, octet_takes, octets_takes, octets_again, number_takes, number_again, wide2, wide4, AreOctets-front}
use Rattle.laws_format.proofs.TlvLaws.{lsp_id_takes, lsp_id_again, length_lsp_id}
use Rattle.laws_format.proofs.TlvListLaws.{passes_are, are_passes}
use Rattle.laws_format.proofs.ChecksumLaws.{and_true, right_from, right_test, check_found, check_sum_is}

-- ---- truth values

not_false : (b : Bool) → not b ≡ false → b ≡ true
not_false true e = refl
not_false false e = absurd cc

pub or_true : (a b : Bool) → (a || b) ≡ true → (a ≡ true) ⊎ (b ≡ true)
or_true true b e = inl refl
or_true false b e = inr e

and_false : (b : Bool) → (b && false) ≡ false
and_false true = refl
and_false false = refl

never_true : (b : Bool) → (b ≡ true → ⊥) → b ≡ false
never_true true h = absurd (h refl)
never_true false h = refl

never_is : (m n : ℕ) → (m ≡ n → ⊥) → eqb m n ≡ false
never_is m n h = never_true (eqb m n) (λ e. h (eqb-true _ _ e))

is_never : (m n : ℕ) → eqb m n ≡ false → m ≡ n → ⊥
is_never m n e same = let both : true ≡ false = sym (eq-eqb _ _ same) ∙ e in absurd cc

-- ---- the eight octets that begin a PDU

front_again : (level : Level) (f : Free) (size number : ℕ) (more : List ℕ) → (f.id_length ≡ 0) ⊎ (f.id_length ≡ 6) → number < 32 → pdu_at level (shaped f size number ++ more) ≡ body_at level size number more
unfolding pdu_at
front_again level f size number more id small =
    let long : ltb (length (shaped f size number ++ more)) 8 ≡ false = le-ltb _ _ (omega arith) in
    let low : (f.high * 32 + number) % 32 ≡ number = omega arith in
    let id_right : (eqb f.id_length 0 || eqb f.id_length 6) ≡ true = by_id id in
    rw (long, id_right, low) refl
  where
    by_id : (f.id_length ≡ 0) ⊎ (f.id_length ≡ 6) → (eqb f.id_length 0 || eqb f.id_length 6) ≡ true
    by_id (inl z) = rw z refl
    by_id (inr s) = rw s refl

-- what is known where these passed
record Front (level : Level) (octets : List ℕ) (v : Pdu) : Type 0 where
  free : Free
  number : ℕ
  more : List ℕ
  id_length : (free.id_length ≡ 0) ⊎ (free.id_length ≡ 6)
  low : number < 32
  parts : octets ≡ shaped free free.size number ++ more
  more_fits : AreOctets more
  body : body_at level free.size number more ≡ Ok v

front_takes : (level : Level) (octets : List ℕ) (v : Pdu) → AreOctets octets → pdu_at level octets ≡ Ok v → Front level octets v
unfolding pdu_at
front_takes level [] v fits e = absurd cc
front_takes level (a ∷ []) v fits e = absurd cc
front_takes level (a ∷ b ∷ []) v fits e = absurd cc
front_takes level (a ∷ b ∷ c ∷ []) v fits e = absurd cc
front_takes level (a ∷ b ∷ c ∷ d ∷ []) v fits e = absurd cc
front_takes level (a ∷ b ∷ c ∷ d ∷ f ∷ []) v fits e = absurd cc
front_takes level (a ∷ b ∷ c ∷ d ∷ f ∷ g ∷ []) v fits e = absurd cc
front_takes level (a ∷ b ∷ c ∷ d ∷ f ∷ g ∷ h ∷ []) v fits e = absurd cc
front_takes level (a ∷ b ∷ c ∷ d ∷ f ∷ g ∷ h ∷ i ∷ more) v fits e =
    let g0 = guarded (ltb (length (a ∷ b ∷ c ∷ d ∷ f ∷ g ∷ h ∷ i ∷ more)) 8) faults.Short _ v e in
    let g1 = guarded (not (eqb a 131)) faults.Discriminator _ v g0.1 in
    let g2 = guarded (not (eqb c 1 && eqb g 1)) faults.Version _ v g1.1 in
    let g3 = guarded (not (eqb d 0 || eqb d 6)) faults.IdLength _ v g2.1 in
    let a-is : a ≡ 131 = eqb-true _ _ (not_false _ g1.0) in
    let versions = and_true (eqb c 1) (eqb g 1) (not_false _ g2.0) in
    let c-is : c ≡ 1 = eqb-true _ _ versions.0 in
    let g-is : g ≡ 1 = eqb-true _ _ versions.1 in
    let f-is : f ≡ f / 32 * 32 + f % 32 = omega arith in
    record {
      free = record { id_length = d; high = f / 32; sixth = h; seventh = i; circuit = 0; size = b; hello = f % 32 };
      number = f % 32;
      more = more;
      id_length = elim (or_true (eqb d 0) (eqb d 6) (not_false _ g3.0)) as (λ _. (d ≡ 0) ⊎ (d ≡ 6)) [ inl z ↦ inl (eqb-true _ _ z) | inr s ↦ inr (eqb-true _ _ s) ];
      low = omega arith;
      parts = ap (λ (n : ℕ). n ∷ b ∷ c ∷ d ∷ f ∷ g ∷ h ∷ i ∷ more) a-is
          ∙ ap (λ (n : ℕ). 131 ∷ b ∷ n ∷ d ∷ f ∷ g ∷ h ∷ i ∷ more) c-is
          ∙ ap (λ (n : ℕ). 131 ∷ b ∷ 1 ∷ d ∷ n ∷ g ∷ h ∷ i ∷ more) f-is
          ∙ ap (λ (n : ℕ). 131 ∷ b ∷ 1 ∷ d ∷ (f / 32 * 32 + f % 32) ∷ n ∷ h ∷ i ∷ more) g-is;
      more_fits = λ k. fits (suc (suc (suc (suc (suc (suc (suc (suc k))))))));
      body = g3.1;
    }

-- ---- the length of a PDU, and the octets that it counts

pub sized_again : (size : ℕ) (text rest : List ℕ) → size ≤ 10 + length text → 10 + length text < 256 ^ 2 → sized_at size (big_bytes 2 (10 + length text) ++ (text ++ rest)) ≡ Ok (text, rest)
unfolding sized_at
sized_again size text rest large short =
    let n : number_at faults.PduLength 2 (big_bytes 2 (10 + length text) ++ (text ++ rest)) ≡ Ok (10 + length text, text ++ rest) = number_again faults.PduLength 2 (10 + length text) (text ++ rest) short in
    let k : ltb (10 + length text) size ≡ false = le-ltb _ _ large in
    let m : 10 + length text - 10 ≡ length text = omega arith in
    rw (n, k, m) (octets_again faults.PduLength (length text) text rest refl)

record Sized (octets body rest : List ℕ) (size : ℕ) : Type 0 where
  parts : octets ≡ (big_bytes 2 (10 + length body) ++ body) ++ rest
  body_fits : AreOctets body
  large : size ≤ 10 + length body
  small : 10 + length body < 256 ^ 2

sized_takes : (size : ℕ) (octets : List ℕ) (x : List ℕ × List ℕ) → 10 ≤ size → AreOctets octets → sized_at size octets ≡ Ok x → Sized octets x.0 x.1 size
unfolding sized_at
sized_takes size octets x ten fits e =
    let a = bind_ok (number_at faults.PduLength 2 octets) (λ n. cond (ltb n.0 size) (Err faults.PduLength) (octets_at faults.PduLength (n.0 - 10) n.1)) x e in
    let g = guarded (ltb a.0.0 size) faults.PduLength (octets_at faults.PduLength (a.0.0 - 10) a.0.1) x a.2 in
    let large : size ≤ a.0.0 = ltb-false _ _ g.0 in
    let t0 = number_takes faults.PduLength 2 wide2 octets a.0 fits a.1 in
    let t1 = octets_takes faults.PduLength (a.0.0 - 10) a.0.1 x t0.0.rest_fits g.1 in
    let n : a.0.0 ≡ 10 + length x.0 = omega (arith, t1.1) in
    let both = Takes-then octets (big_bytes 2 a.0.0) a.0.1 x.0 x.1 t0.0 t1.0 in
    record {
      parts = both.parts ∙ ap (λ (k : ℕ). (big_bytes 2 k ++ x.0) ++ x.1) n;
      body_fits = AreOctets-front x.0 x.1 (subst AreOctets t1.0.parts t0.0.rest_fits);
      large = omega (arith, n);
      small = omega (arith, n, t0.1);
    }

-- ---- an LSP

live_test : (life : ℕ) (b : Bool) → (0 < life → b ≡ true) → (ltb 0 life && not b) ≡ false
live_test zero b h = refl
live_test (suc n) b h = let e : b ≡ true = h (omega arith) in rw e (and_false (ltb 0 (suc n)))

live_from : (life : ℕ) (b : Bool) → (ltb 0 life && not b) ≡ false → 0 < life → b ≡ true
live_from zero b e h = absurd (omega arith)
live_from (suc n) true e h = refl
live_from (suc n) false e h =
    let p : ltb 0 (suc n) ≡ true = lt-ltb _ _ h in
    let q : (true && not false) ≡ false = sym (ap (λ (b : Bool). b && not false) p) ∙ e in
    absurd cc

lsp_again : (head : Head) (tlvs rest : List ℕ) → LspFits head tlvs → lsp_at (lsp_body head tlvs ++ rest) ≡ Ok (LspPdu head tlvs)
unfolding lsp_at
lsp_again head tlvs rest fits =
    let h = fits.head_fits in
    let text = big_bytes 2 head.life ++ lsp_covered head tlvs in
    let len : 10 + length text ≡ 27 + length tlvs = omega (arith, length_lsp_id head.id h.id, length-append (lsp_id head.id) (big_bytes 4 head.seq ++ (big_bytes 2 head.sum ++ (head.flags ∷ tlvs)))) in
    let size = fits.size in
    let sized : sized_at 27 (lsp_body head tlvs ++ rest) ≡ Ok (text, rest) = ap (λ (n : ℕ). sized_at 27 (big_bytes 2 n ++ (text ++ rest))) (sym len) ∙ sized_again 27 text rest (omega (arith, len)) (omega (arith, len, size)) in
    let test : (ltb 0 head.life && not (is_right (lsp_covered head tlvs))) ≡ false = live_test head.life (is_right (lsp_covered head tlvs)) (λ live. right_test (lsp_covered head tlvs) (fits.live live)) in
    let whole : tlvs_pass false tlvs ≡ true = are_passes false tlvs fits.tlvs_are in
    rw (sized, number_again faults.PduLength 2 head.life (lsp_covered head tlvs) h.life, lsp_id_again faults.PduLength head.id (big_bytes 4 head.seq ++ (big_bytes 2 head.sum ++ (head.flags ∷ tlvs))) h.id, number_again faults.PduLength 4 head.seq (big_bytes 2 head.sum ++ (head.flags ∷ tlvs)) h.seq, number_again faults.PduLength 2 head.sum (head.flags ∷ tlvs) h.sum, test, whole) refl

record LspTaken (octets : List ℕ) (v : Pdu) : Type 0 where
  head : Head
  tlvs : List ℕ
  rest : List ℕ
  value : LspPdu head tlvs ≡ v
  parts : octets ≡ lsp_body head tlvs ++ rest
  fits : LspFits head tlvs

lsp_takes : (octets : List ℕ) (v : Pdu) → AreOctets octets → lsp_at octets ≡ Ok v → LspTaken octets v
unfolding lsp_at
lsp_takes octets v fits e =
    let s = bind_ok (sized_at 27 octets) _ v e in
    let l = bind_ok (number_at faults.PduLength 2 s.0.0) _ v s.2 in
    let i = bind_ok (lsp_id_at faults.PduLength l.0.1) _ v l.2 in
    let q = bind_ok (number_at faults.PduLength 4 i.0.1) _ v i.2 in
    let c = bind_ok (number_at faults.PduLength 2 q.0.1) _ v q.2 in
    let f = bind_ok (octet_at faults.PduLength c.0.1) _ v c.2 in
    let head : Head = record { life = l.0.0; id = i.0.0; seq = q.0.0; sum = c.0.0; flags = f.0.0 } in
    let g = guarded (ltb 0 l.0.0 && not (is_right l.0.1)) faults.Checksum (cond (tlvs_pass false f.0.1) (Ok (LspPdu head f.0.1)) (Err faults.Tlv)) v f.2 in
    let h = guarded_else (tlvs_pass false f.0.1) faults.Tlv (Ok (LspPdu head f.0.1)) v g.1 in
    let t = sized_takes 27 octets s.0 (omega arith) fits s.1 in
    let tl = number_takes faults.PduLength 2 wide2 s.0.0 l.0 t.body_fits l.1 in
    let ti = lsp_id_takes faults.PduLength l.0.1 i.0 tl.0.rest_fits i.1 in
    let tq = number_takes faults.PduLength 4 wide4 i.0.1 q.0 ti.0.rest_fits q.1 in
    let tc = number_takes faults.PduLength 2 wide2 q.0.1 c.0 tq.0.rest_fits c.1 in
    let tf = octet_takes faults.PduLength c.0.1 f.0 tc.0.rest_fits f.1 in
    let covered : l.0.1 ≡ lsp_covered head f.0.1 = ti.0.parts ∙ ap (λ (x : List ℕ). lsp_id i.0.0 ++ x) (tq.0.parts ∙ ap (λ (x : List ℕ). big_bytes 4 q.0.0 ++ x) (tc.0.parts ∙ ap (λ (x : List ℕ). big_bytes 2 c.0.0 ++ x) tf.0.parts)) in
    let body : s.0.0 ≡ big_bytes 2 l.0.0 ++ lsp_covered head f.0.1 = tl.0.parts ∙ ap (λ (x : List ℕ). big_bytes 2 l.0.0 ++ x) covered in
    let len : 10 + length s.0.0 ≡ 27 + length f.0.1 = let k = ap length body in omega (arith, k, length_lsp_id i.0.0 ti.1, length-append (lsp_id i.0.0) (big_bytes 4 q.0.0 ++ (big_bytes 2 c.0.0 ++ (f.0.0 ∷ f.0.1)))) in
    record {
      head = head;
      tlvs = f.0.1;
      rest = s.0.1;
      value = ok_is {E = PduFault} (LspPdu head f.0.1) v h.1;
      parts = t.parts ∙ ap (λ (k : ℕ). (big_bytes 2 k ++ s.0.0) ++ s.0.1) len ∙ ap (λ (x : List ℕ). (big_bytes 2 (27 + length f.0.1) ++ x) ++ s.0.1) body;
      fits = record {
        head_fits = record { life = tl.1; id = ti.1; seq = tq.1; sum = tc.1; flags = tf.1 };
        size = let k = t.small in omega (arith, k, len);
        live = λ some. right_from (lsp_covered head f.0.1) (ap is_right (sym covered) ∙ live_from l.0.0 (is_right l.0.1) g.0 some);
        tlvs_are = passes_are false f.0.1 h.0;
      };
    }

-- ---- a complete sequence numbers PDU

csnp_again : (circuit : ℕ) (source : SystemId) (start last : LspId) (tlvs rest : List ℕ) → CsnpFits source start last tlvs → csnp_at (csnp_body circuit source start last tlvs ++ rest) ≡ Ok (CsnpPdu source start last tlvs)
unfolding csnp_at
csnp_again circuit source start last tlvs rest fits =
    let text = source.0 ++ (circuit ∷ (lsp_id start ++ (lsp_id last ++ tlvs))) in
    let size = fits.size in
    let long = fits.source_long in
    let len : 10 + length text ≡ 33 + length tlvs = omega (arith, long, length_lsp_id start fits.start_fits, length_lsp_id last fits.last_fits, length-append source.0 (circuit ∷ (lsp_id start ++ (lsp_id last ++ tlvs))), length-append (lsp_id start) (lsp_id last ++ tlvs), length-append (lsp_id last) tlvs) in
    let sized : sized_at 33 (csnp_body circuit source start last tlvs ++ rest) ≡ Ok (text, rest) = ap (λ (n : ℕ). sized_at 33 (big_bytes 2 n ++ (text ++ rest))) (sym len) ∙ sized_again 33 text rest (omega (arith, len)) (omega (arith, len, size)) in
    let whole : tlvs_pass true tlvs ≡ true = are_passes true tlvs fits.tlvs_are in
    rw (sized, octets_again faults.PduLength 6 source.0 (circuit ∷ (lsp_id start ++ (lsp_id last ++ tlvs))) fits.source_long, lsp_id_again faults.PduLength start (lsp_id last ++ tlvs) fits.start_fits, lsp_id_again faults.PduLength last tlvs fits.last_fits, whole) refl

record CsnpTaken (octets : List ℕ) (v : Pdu) : Type 0 where
  circuit : ℕ
  source : SystemId
  start : LspId
  last : LspId
  tlvs : List ℕ
  rest : List ℕ
  value : CsnpPdu source start last tlvs ≡ v
  parts : octets ≡ csnp_body circuit source start last tlvs ++ rest
  fits : CsnpFits source start last tlvs

csnp_takes : (octets : List ℕ) (v : Pdu) → AreOctets octets → csnp_at octets ≡ Ok v → CsnpTaken octets v
unfolding csnp_at
csnp_takes octets v fits e =
    let b = bind_ok (sized_at 33 octets) _ v e in
    let s = bind_ok (octets_at faults.PduLength 6 b.0.0) _ v b.2 in
    let c = bind_ok (octet_at faults.PduLength s.0.1) _ v s.2 in
    let f = bind_ok (lsp_id_at faults.PduLength c.0.1) _ v c.2 in
    let l = bind_ok (lsp_id_at faults.PduLength f.0.1) _ v f.2 in
    let source : SystemId = record { 0 = s.0.0 } in
    let h = guarded_else (tlvs_pass true l.0.1) faults.Tlv (Ok (CsnpPdu source f.0.0 l.0.0 l.0.1)) v l.2 in
    let t = sized_takes 33 octets b.0 (omega arith) fits b.1 in
    let ts = octets_takes faults.PduLength 6 b.0.0 s.0 t.body_fits s.1 in
    let tc = octet_takes faults.PduLength s.0.1 c.0 ts.0.rest_fits c.1 in
    let tf = lsp_id_takes faults.PduLength c.0.1 f.0 tc.0.rest_fits f.1 in
    let tl = lsp_id_takes faults.PduLength f.0.1 l.0 tf.0.rest_fits l.1 in
    let body : b.0.0 ≡ s.0.0 ++ (c.0.0 ∷ (lsp_id f.0.0 ++ (lsp_id l.0.0 ++ l.0.1))) = ts.0.parts ∙ ap (λ (x : List ℕ). s.0.0 ++ x) (tc.0.parts ∙ ap (λ (x : List ℕ). c.0.0 ∷ x) (tf.0.parts ∙ ap (λ (x : List ℕ). lsp_id f.0.0 ++ x) tl.0.parts)) in
    let len : 10 + length b.0.0 ≡ 33 + length l.0.1 = let k = ap length body in omega (arith, k, ts.1, length_lsp_id f.0.0 tf.1, length_lsp_id l.0.0 tl.1, length-append s.0.0 (c.0.0 ∷ (lsp_id f.0.0 ++ (lsp_id l.0.0 ++ l.0.1))), length-append (lsp_id f.0.0) (lsp_id l.0.0 ++ l.0.1), length-append (lsp_id l.0.0) l.0.1) in
    record {
      circuit = c.0.0;
      source = source;
      start = f.0.0;
      last = l.0.0;
      tlvs = l.0.1;
      rest = b.0.1;
      value = ok_is {E = PduFault} (CsnpPdu source f.0.0 l.0.0 l.0.1) v h.1;
      parts = t.parts ∙ ap (λ (k : ℕ). (big_bytes 2 k ++ b.0.0) ++ b.0.1) len ∙ ap (λ (x : List ℕ). (big_bytes 2 (33 + length l.0.1) ++ x) ++ b.0.1) body;
      fits = record { source_long = ts.1; start_fits = tf.1; last_fits = tl.1; size = let k = t.small in omega (arith, k, len); tlvs_are = passes_are true l.0.1 h.0 };
    }

-- ---- a partial sequence numbers PDU

psnp_again : (circuit : ℕ) (source : SystemId) (tlvs rest : List ℕ) → PsnpFits source tlvs → psnp_at (psnp_body circuit source tlvs ++ rest) ≡ Ok (PsnpPdu source tlvs)
unfolding psnp_at
psnp_again circuit source tlvs rest fits =
    let text = source.0 ++ (circuit ∷ tlvs) in
    let size = fits.size in
    let long = fits.source_long in
    let len : 10 + length text ≡ 17 + length tlvs = omega (arith, long, length-append source.0 (circuit ∷ tlvs)) in
    let sized : sized_at 17 (psnp_body circuit source tlvs ++ rest) ≡ Ok (text, rest) = ap (λ (n : ℕ). sized_at 17 (big_bytes 2 n ++ (text ++ rest))) (sym len) ∙ sized_again 17 text rest (omega (arith, len)) (omega (arith, len, size)) in
    let whole : tlvs_pass true tlvs ≡ true = are_passes true tlvs fits.tlvs_are in
    rw (sized, octets_again faults.PduLength 6 source.0 (circuit ∷ tlvs) fits.source_long, whole) refl

record PsnpTaken (octets : List ℕ) (v : Pdu) : Type 0 where
  circuit : ℕ
  source : SystemId
  tlvs : List ℕ
  rest : List ℕ
  value : PsnpPdu source tlvs ≡ v
  parts : octets ≡ psnp_body circuit source tlvs ++ rest
  fits : PsnpFits source tlvs

psnp_takes : (octets : List ℕ) (v : Pdu) → AreOctets octets → psnp_at octets ≡ Ok v → PsnpTaken octets v
unfolding psnp_at
psnp_takes octets v fits e =
    let b = bind_ok (sized_at 17 octets) _ v e in
    let s = bind_ok (octets_at faults.PduLength 6 b.0.0) _ v b.2 in
    let c = bind_ok (octet_at faults.PduLength s.0.1) _ v s.2 in
    let source : SystemId = record { 0 = s.0.0 } in
    let h = guarded_else (tlvs_pass true c.0.1) faults.Tlv (Ok (PsnpPdu source c.0.1)) v c.2 in
    let t = sized_takes 17 octets b.0 (omega arith) fits b.1 in
    let ts = octets_takes faults.PduLength 6 b.0.0 s.0 t.body_fits s.1 in
    let tc = octet_takes faults.PduLength s.0.1 c.0 ts.0.rest_fits c.1 in
    let body : b.0.0 ≡ s.0.0 ++ (c.0.0 ∷ c.0.1) = ts.0.parts ∙ ap (λ (x : List ℕ). s.0.0 ++ x) tc.0.parts in
    let len : 10 + length b.0.0 ≡ 17 + length c.0.1 = let k = ap length body in omega (arith, k, ts.1, length-append s.0.0 (c.0.0 ∷ c.0.1)) in
    record {
      circuit = c.0.0;
      source = source;
      tlvs = c.0.1;
      rest = b.0.1;
      value = ok_is {E = PduFault} (PsnpPdu source c.0.1) v h.1;
      parts = t.parts ∙ ap (λ (k : ℕ). (big_bytes 2 k ++ b.0.0) ++ b.0.1) len ∙ ap (λ (x : List ℕ). (big_bytes 2 (17 + length c.0.1) ++ x) ++ b.0.1) body;
      fits = record { source_long = ts.1; size = let k = t.small in omega (arith, k, len); tlvs_are = passes_are true c.0.1 h.0 };
    }

-- ---- by the type

lsp_body_again : (level : Level) (head : Head) (tlvs rest : List ℕ) → LspFits head tlvs → body_at level 27 (lsp_type level) (lsp_body head tlvs ++ rest) ≡ Ok (LspPdu head tlvs)
unfolding body_at
lsp_body_again One head tlvs rest fits = lsp_again head tlvs rest fits
lsp_body_again Two head tlvs rest fits = lsp_again head tlvs rest fits

csnp_body_again : (level : Level) (circuit : ℕ) (source : SystemId) (start last : LspId) (tlvs rest : List ℕ) → CsnpFits source start last tlvs → body_at level 33 (csnp_type level) (csnp_body circuit source start last tlvs ++ rest) ≡ Ok (CsnpPdu source start last tlvs)
unfolding body_at
csnp_body_again One circuit source start last tlvs rest fits = csnp_again circuit source start last tlvs rest fits
csnp_body_again Two circuit source start last tlvs rest fits = csnp_again circuit source start last tlvs rest fits

psnp_body_again : (level : Level) (circuit : ℕ) (source : SystemId) (tlvs rest : List ℕ) → PsnpFits source tlvs → body_at level 17 (psnp_type level) (psnp_body circuit source tlvs ++ rest) ≡ Ok (PsnpPdu source tlvs)
unfolding body_at
psnp_body_again One circuit source tlvs rest fits = psnp_again circuit source tlvs rest fits
psnp_body_again Two circuit source tlvs rest fits = psnp_again circuit source tlvs rest fits

-- the types of a level
record AreTypes (level : Level) : Type 0 where
  lsp_low : lsp_type level < 32
  csnp_low : csnp_type level < 32
  psnp_low : psnp_type level < 32
  lsp_above : 17 < lsp_type level
  csnp_above : 17 < csnp_type level
  psnp_above : 17 < psnp_type level

types : (level : Level) → AreTypes level
types One = record { lsp_low = omega arith; csnp_low = omega arith; psnp_low = omega arith; lsp_above = omega arith; csnp_above = omega arith; psnp_above = omega arith }
types Two = record { lsp_low = omega arith; csnp_low = omega arith; psnp_low = omega arith; lsp_above = omega arith; csnp_above = omega arith; psnp_above = omega arith }

other_again : (level : Level) (size number : ℕ) (more : List ℕ) → IsOther level number → body_at level size number more ≡ Ok (OtherPdu number)
unfolding body_at
other_again level size number more is = rw (never_is _ _ is.no_lsp, never_is _ _ is.no_csnp, never_is _ _ is.no_psnp, is.no_hello) refl

record IsHello (number : ℕ) : Type 0 where
  above : 15 ≤ number
  below : number ≤ 17

hello_from : (number : ℕ) → is_hello number ≡ true → IsHello number
hello_from number e = let both = and_true _ _ e in record { above = leb-true _ _ both.0; below = leb-true _ _ both.1 }

hello_again : (level : Level) (size number : ℕ) (more : List ℕ) → is_hello number ≡ true → body_at level size number more ≡ Ok HelloPdu
unfolding body_at
hello_again level size number more is =
    let t = types level in
    let h = hello_from number is in
    let below = h.below in
    let a = t.lsp_above in
    let b = t.csnp_above in
    let c = t.psnp_above in
    rw (never_is number (lsp_type level) (λ e. omega (arith, e)), never_is number (csnp_type level) (λ e. omega (arith, e)), never_is number (psnp_type level) (λ e. omega (arith, e)), is) refl

-- ---- what is in the grammar is read

pub pdu_only : (level : Level) (octets : List ℕ) (v : Pdu) → IsPdu level octets v → pdu_at level octets ≡ Ok v
pdu_only level octets (LspPdu head tlvs) is = ap (pdu_at level) is.parts ∙ front_again level is.free 27 (lsp_type level) (lsp_body head tlvs ++ is.rest) is.id_length (types level).lsp_low ∙ lsp_body_again level head tlvs is.rest is.fits
pdu_only level octets (CsnpPdu source start last tlvs) is = ap (pdu_at level) is.parts ∙ front_again level is.free 33 (csnp_type level) (csnp_body is.free.circuit source start last tlvs ++ is.rest) is.id_length (types level).csnp_low ∙ csnp_body_again level is.free.circuit source start last tlvs is.rest is.fits
pdu_only level octets (PsnpPdu source tlvs) is = ap (pdu_at level) is.parts ∙ front_again level is.free 17 (psnp_type level) (psnp_body is.free.circuit source tlvs ++ is.rest) is.id_length (types level).psnp_low ∙ psnp_body_again level is.free.circuit source tlvs is.rest is.fits
pdu_only level octets HelloPdu is =
    let h = hello_from is.free.hello is.fits in
    let below = h.below in
    ap (pdu_at level) is.parts ∙ front_again level is.free is.free.size is.free.hello is.rest is.id_length (omega arith) ∙ hello_again level is.free.size is.free.hello is.rest is.fits
pdu_only level octets (OtherPdu number) is = ap (pdu_at level) is.parts ∙ front_again level is.free is.free.size number is.rest is.id_length is.fits.low ∙ other_again level is.free.size number is.rest is.fits

-- ---- what is read is in the grammar

pub chosen : {A : Type 0} (b : Bool) (x y z : A) → cond b x y ≡ z → ((b ≡ true) × (x ≡ z)) ⊎ ((b ≡ false) × (y ≡ z))
chosen true x y z e = inl (refl, e)
chosen false x y z e = inr (refl, e)

with_circuit : Free → ℕ → Free
with_circuit f circuit = record f { circuit = circuit }

lsp_found : (level : Level) (octets : List ℕ) (v : Pdu) (fr : Front level octets v) → fr.number ≡ lsp_type level → fr.free.size ≡ 27 → lsp_at fr.more ≡ Ok v → IsPdu level octets v
lsp_found level octets v fr n size e =
    let t = lsp_takes fr.more v fr.more_fits e in
    subst (λ (p : Pdu). IsPdu level octets p) t.value (record {
      free = fr.free;
      rest = t.rest;
      id_length = fr.id_length;
      parts = fr.parts ∙ ap (λ (k : ℕ). shaped fr.free k fr.number ++ fr.more) size ∙ ap (λ (k : ℕ). shaped fr.free 27 k ++ fr.more) n ∙ ap (λ (l : List ℕ). shaped fr.free 27 (lsp_type level) ++ l) t.parts;
      fits = t.fits;
    })

csnp_found : (level : Level) (octets : List ℕ) (v : Pdu) (fr : Front level octets v) → fr.number ≡ csnp_type level → fr.free.size ≡ 33 → csnp_at fr.more ≡ Ok v → IsPdu level octets v
unfolding with_circuit
csnp_found level octets v fr n size e =
    let t = csnp_takes fr.more v fr.more_fits e in
    subst (λ (p : Pdu). IsPdu level octets p) t.value (record {
      free = with_circuit fr.free t.circuit;
      rest = t.rest;
      id_length = fr.id_length;
      parts = fr.parts ∙ ap (λ (k : ℕ). shaped fr.free k fr.number ++ fr.more) size ∙ ap (λ (k : ℕ). shaped fr.free 33 k ++ fr.more) n ∙ ap (λ (l : List ℕ). shaped fr.free 33 (csnp_type level) ++ l) t.parts;
      fits = t.fits;
    })

psnp_found : (level : Level) (octets : List ℕ) (v : Pdu) (fr : Front level octets v) → fr.number ≡ psnp_type level → fr.free.size ≡ 17 → psnp_at fr.more ≡ Ok v → IsPdu level octets v
unfolding with_circuit
psnp_found level octets v fr n size e =
    let t = psnp_takes fr.more v fr.more_fits e in
    subst (λ (p : Pdu). IsPdu level octets p) t.value (record {
      free = with_circuit fr.free t.circuit;
      rest = t.rest;
      id_length = fr.id_length;
      parts = fr.parts ∙ ap (λ (k : ℕ). shaped fr.free k fr.number ++ fr.more) size ∙ ap (λ (k : ℕ). shaped fr.free 17 k ++ fr.more) n ∙ ap (λ (l : List ℕ). shaped fr.free 17 (psnp_type level) ++ l) t.parts;
      fits = t.fits;
    })

hello_found : (level : Level) (octets : List ℕ) (v : Pdu) (fr : Front level octets v) → is_hello fr.number ≡ true → HelloPdu ≡ v → IsPdu level octets v
hello_found level octets v fr is same =
    subst (λ (p : Pdu). IsPdu level octets p) same (record { free = record fr.free { hello = fr.number }; rest = fr.more; id_length = fr.id_length; parts = fr.parts; fits = is })

other_found : (level : Level) (octets : List ℕ) (v : Pdu) (fr : Front level octets v) → IsOther level fr.number → OtherPdu fr.number ≡ v → IsPdu level octets v
other_found level octets v fr is same =
    subst (λ (p : Pdu). IsPdu level octets p) same (record { free = fr.free; rest = fr.more; id_length = fr.id_length; parts = fr.parts; fits = is })

pub pdu_found : (level : Level) (octets : List ℕ) (v : Pdu) → AreOctets octets → pdu_at level octets ≡ Ok v → IsPdu level octets v
unfolding body_at
pdu_found level octets v fits e =
    let fr = front_takes level octets v fits e in
    let n = fr.number in
    let size = fr.free.size in
    elim (chosen (eqb n (lsp_type level)) _ _ (Ok v) fr.body) [
      | inl is ↦ let g = guarded_else (eqb size 27) faults.HeaderLength (lsp_at fr.more) v is.1 in lsp_found level octets v fr (eqb-true _ _ is.0) (eqb-true _ _ g.0) g.1
      | inr no_lsp ↦ elim (chosen (eqb n (csnp_type level)) _ _ (Ok v) no_lsp.1) [
        | inl is ↦ let g = guarded_else (eqb size 33) faults.HeaderLength (csnp_at fr.more) v is.1 in csnp_found level octets v fr (eqb-true _ _ is.0) (eqb-true _ _ g.0) g.1
        | inr no_csnp ↦ elim (chosen (eqb n (psnp_type level)) _ _ (Ok v) no_csnp.1) [
          | inl is ↦ let g = guarded_else (eqb size 17) faults.HeaderLength (psnp_at fr.more) v is.1 in psnp_found level octets v fr (eqb-true _ _ is.0) (eqb-true _ _ g.0) g.1
          | inr no_psnp ↦ elim (chosen (is_hello n) _ _ (Ok v) no_psnp.1) [
            | inl hello ↦ hello_found level octets v fr hello.0 (ok_is {E = PduFault} HelloPdu v hello.1)
            | inr other ↦ other_found level octets v fr (record { low = fr.low; no_lsp = is_never _ _ no_lsp.0; no_csnp = is_never _ _ no_csnp.0; no_psnp = is_never _ _ no_psnp.0; no_hello = other.0 }) (ok_is {E = PduFault} (OtherPdu n) v other.1)
          ]
        ]
      ]
    ]

-- ---- the spellings are in the grammar

abbrev written : Free
written = record { id_length = 0; high = 0; sixth = 0; seventh = 0; circuit = 0; size = 0; hello = 0 }

pub lsp_is : (level : Level) (head : Head) (tlvs rest : List ℕ) → LspFits head tlvs → IsPdu level (lsp level head tlvs ++ rest) (LspPdu head tlvs)
lsp_is One head tlvs rest fits = record { free = written; rest = rest; id_length = inl refl; parts = refl; fits = fits }
lsp_is Two head tlvs rest fits = record { free = written; rest = rest; id_length = inl refl; parts = refl; fits = fits }

pub csnp_is : (level : Level) (source : SystemId) (start last : LspId) (tlvs rest : List ℕ) → CsnpFits source start last tlvs → IsPdu level (csnp level source start last tlvs ++ rest) (CsnpPdu source start last tlvs)
csnp_is One source start last tlvs rest fits = record { free = written; rest = rest; id_length = inl refl; parts = refl; fits = fits }
csnp_is Two source start last tlvs rest fits = record { free = written; rest = rest; id_length = inl refl; parts = refl; fits = fits }

pub psnp_is : (level : Level) (source : SystemId) (tlvs rest : List ℕ) → PsnpFits source tlvs → IsPdu level (psnp level source tlvs ++ rest) (PsnpPdu source tlvs)
psnp_is One source tlvs rest fits = record { free = written; rest = rest; id_length = inl refl; parts = refl; fits = fits }
psnp_is Two source tlvs rest fits = record { free = written; rest = rest; id_length = inl refl; parts = refl; fits = fits }

pub lsp_read : (level : Level) (head : Head) (tlvs rest : List ℕ) → LspFits head tlvs → pdu_at level (lsp level head tlvs ++ rest) ≡ Ok (LspPdu head tlvs)
lsp_read level head tlvs rest fits = pdu_only level (lsp level head tlvs ++ rest) (LspPdu head tlvs) (lsp_is level head tlvs rest fits)

pub csnp_read : (level : Level) (source : SystemId) (start last : LspId) (tlvs rest : List ℕ) → CsnpFits source start last tlvs → pdu_at level (csnp level source start last tlvs ++ rest) ≡ Ok (CsnpPdu source start last tlvs)
csnp_read level source start last tlvs rest fits = pdu_only level (csnp level source start last tlvs ++ rest) (CsnpPdu source start last tlvs) (csnp_is level source start last tlvs rest fits)

pub psnp_read : (level : Level) (source : SystemId) (tlvs rest : List ℕ) → PsnpFits source tlvs → pdu_at level (psnp level source tlvs ++ rest) ≡ Ok (PsnpPdu source tlvs)
psnp_read level source tlvs rest fits = pdu_only level (psnp level source tlvs ++ rest) (PsnpPdu source tlvs) (psnp_is level source tlvs rest fits)

-- ---- one PDU for a spelling

pub pdu_once : (level : Level) (octets : List ℕ) (p q : Pdu) → IsPdu level octets p → IsPdu level octets q → p ≡ q
pdu_once level octets p q ip iq = ok_is {E = PduFault} p q (sym (pdu_only level octets p ip) ∙ pdu_only level octets q iq)

pub lsp_once : (level : Level) (a b : Head) (s t : List ℕ) → LspFits a s → LspFits b t → lsp level a s ≡ lsp level b t → LspPdu a s ≡ LspPdu b t
lsp_once level a b s t fa fb e = ok_is {E = PduFault} (LspPdu a s) (LspPdu b t) (sym (lsp_read level a s [] fa) ∙ ap (λ (l : List ℕ). pdu_at level (l ++ [])) e ∙ lsp_read level b t [] fb)

pub csnp_once : (level : Level) (sa sb : SystemId) (fa fb la lb : LspId) (ta tb : List ℕ) → CsnpFits sa fa la ta → CsnpFits sb fb lb tb → csnp level sa fa la ta ≡ csnp level sb fb lb tb → CsnpPdu sa fa la ta ≡ CsnpPdu sb fb lb tb
csnp_once level sa sb fa fb la lb ta tb a b e = ok_is {E = PduFault} (CsnpPdu sa fa la ta) (CsnpPdu sb fb lb tb) (sym (csnp_read level sa fa la ta [] a) ∙ ap (λ (l : List ℕ). pdu_at level (l ++ [])) e ∙ csnp_read level sb fb lb tb [] b)

pub psnp_once : (level : Level) (sa sb : SystemId) (ta tb : List ℕ) → PsnpFits sa ta → PsnpFits sb tb → psnp level sa ta ≡ psnp level sb tb → PsnpPdu sa ta ≡ PsnpPdu sb tb
psnp_once level sa sb ta tb a b e = ok_is {E = PduFault} (PsnpPdu sa ta) (PsnpPdu sb tb) (sym (psnp_read level sa ta [] a) ∙ ap (λ (l : List ℕ). pdu_at level (l ++ [])) e ∙ psnp_read level sb tb [] b)

-- ---- the checksum of an LSP

get_or_at : (front back : List ℕ) (n i : ℕ) → length front ≡ n → get_or (front ++ back) (n + i) 0 ≡ get_or back i 0
get_or_at front back n i len = sym (get_or-drop n (front ++ back) i 0) ∙ ap (λ (l : List ℕ). get_or l i 0) (drop_at front back n len)

drop_after : (front : List ℕ) (a b : ℕ) (back : List ℕ) → length front ≡ 12 → drop 14 (front ++ (a ∷ b ∷ back)) ≡ back
drop_after front a b back len = sym (drop-drop 2 12 (front ++ (a ∷ b ∷ back))) ∙ ap (drop 2) (drop_at front (a ∷ b ∷ back) 12 len)

without_sum : Head → List ℕ → List ℕ
without_sum head tlvs = lsp_covered (record head { sum = 0 }) tlvs

twelve : Head → List ℕ
twelve head = lsp_id head.id ++ big_bytes 4 head.seq

length_twelve : (head : Head) → LspIdFits head.id → length (twelve head) ≡ 12
unfolding twelve
length_twelve head fits = omega (arith, length_lsp_id head.id fits, length-append (lsp_id head.id) (big_bytes 4 head.seq))

covered_split : (head : Head) (tlvs : List ℕ) → lsp_covered head tlvs ≡ twelve head ++ (head.sum / 256 % 256 ∷ head.sum % 256 ∷ head.flags ∷ tlvs)
unfolding twelve
covered_split head tlvs = sym (append_assoc (lsp_id head.id) (big_bytes 4 head.seq) (head.sum / 256 % 256 ∷ head.sum % 256 ∷ head.flags ∷ tlvs))

sum_octets : (n : ℕ) (a b : ℕ) → a < 256 → b < 256 → n ≡ a * 256 + b → (n / 256 % 256 ≡ a) × (n % 256 ≡ b)
sum_octets n a b ha hb e = (omega arith, omega arith)

pub lsp_sum_right : (head : Head) (tlvs : List ℕ) → LspIdFits head.id → IsRight (lsp_covered (record head { sum = lsp_sum head tlvs }) tlvs)
unfolding twelve without_sum
lsp_sum_right head tlvs fits =
    let octets = without_sum head tlvs in
    let front = twelve head in
    let back = head.flags ∷ tlvs in
    let len = length_twelve head fits in
    let split : octets ≡ front ++ (0 ∷ 0 ∷ back) = covered_split (record head { sum = 0 }) tlvs in
    let long : 12 + 2 ≤ length octets = let l = ap length split in omega (arith, l, len, length-append front (0 ∷ 0 ∷ back)) in
    let first : get_or octets 12 0 ≡ 0 = ap (λ (l : List ℕ). get_or l 12 0) split ∙ get_or_at front (0 ∷ 0 ∷ back) 12 0 len in
    let second : get_or octets 13 0 ≡ 0 = ap (λ (l : List ℕ). get_or l 13 0) split ∙ get_or_at front (0 ∷ 0 ∷ back) 12 1 len in
    let is = check_found octets 12 long first second in
    let a = check_first octets 12 in
    let b = check_second octets 12 in
    let a-high = is.first.in_octet in
    let b-high = is.second.in_octet in
    let both = sum_octets (check_sum octets 12) a b (omega arith) (omega arith) (check_sum_is octets 12) in
    let taken : take 12 octets ≡ front = ap (take 12) split ∙ take_at front (0 ∷ 0 ∷ back) 12 len in
    let dropped : drop 14 octets ≡ back = ap (drop 14) split ∙ drop_after front 0 0 back len in
    let pair : with_pair octets 12 (a, b) ≡ front ++ (a ∷ b ∷ back) = ap (λ (l : List ℕ). l ++ (a ∷ b ∷ drop 14 octets)) taken ∙ ap (λ (l : List ℕ). front ++ (a ∷ b ∷ l)) dropped in
    let whole : lsp_covered (record head { sum = lsp_sum head tlvs }) tlvs ≡ front ++ (a ∷ b ∷ back) = covered_split (record head { sum = lsp_sum head tlvs }) tlvs ∙ ap (λ (n : ℕ). front ++ (n ∷ lsp_sum head tlvs % 256 ∷ back)) both.0 ∙ ap (λ (n : ℕ). front ++ (a ∷ n ∷ back)) both.1 in
    subst IsRight (pair ∙ sym whole) is.right

pub lsp_sum_fits : (head : Head) (tlvs : List ℕ) → lsp_sum head tlvs < 256 ^ 2
lsp_sum_fits head tlvs = let e = check_sum_is (lsp_covered (record head { sum = 0 }) tlvs) 12 in omega (arith, e)

pub lsp_sum_some : (head : Head) (tlvs : List ℕ) → 257 ≤ lsp_sum head tlvs
lsp_sum_some head tlvs = let e = check_sum_is (lsp_covered (record head { sum = 0 }) tlvs) 12 in omega (arith, e)

-- an LSP with that sum is one that a reader gives
pub lsp_with_sum : (head : Head) (tlvs : List ℕ) → HeadFits head → 27 + length tlvs < 256 ^ 2 → AreTlvs false tlvs → LspFits (record head { sum = lsp_sum head tlvs }) tlvs
lsp_with_sum head tlvs fits size are = record {
  head_fits = record { life = fits.life; id = fits.id; seq = fits.seq; sum = lsp_sum_fits head tlvs; flags = fits.flags };
  size = size;
  live = λ alive. lsp_sum_right head tlvs fits.id;
  tlvs_are = are;
}
