-- What a tunnel packet is read as, how it is spelled, and how it goes on.
use Rattle.std.proofs.Common.{◌≡◌, ℕ, ◌+◌, ◌-◌, ◌*◌, ◌/◌, ◌%◌, ◌<◌, ◌≤◌, ◌==◌, Bool, true, false, not, List, [], ◌∷◌, ◌++◌, length, take, drop, slice_index, Result, Ok, Err, IfOk, cond, refl, sym, ap, ◌∙◌, subst, append_assoc, append-nil, take-append-drop, arith, inl, inr}
use Rattle.std.proofs.lemmas.Bool.{ltb-false, le-ltb, eq-eqb, ne_eqb, eqb-true}
use Rattle.std.proofs.lemmas.Bool.Decides.{eqb_tells}
use Rattle.std.proofs.lemmas.List.{take_at, drop_at, drop-drop, drop-take, get_or-drop, length-append, length-drop, length-take}
use Rattle.byteorder.specs.Endian.{big_bytes, big_number}
use Rattle.byteorder.specs.Numbers.{big_number-reads_back}
use Rattle.wire_base.specs.declared.addresses.Ipv4.{Ipv4}
use Rattle.wire_base.specs.declared.conf.Kind.{Kind}
use Rattle.wire_base.specs.declared.conf.Kind.TheVariants.{Mpls, Configured}
use Rattle.wire_base.specs.declared.faults.IpFault.{IpFault}
use Rattle.wire_base.specs.declared.faults.IpFault.TheVariants as faults
use Rattle.wire_base.specs.model.Fields.{Gives, AreOctets, ◌>>=◌}
use Rattle.wire_base.specs.model.Ethernet.{mpls_type, bier_type}
use Rattle.wire_base.specs.model.Tunnel.{TunnelPacket, TunnelFits, IsTunnel, IpFree, plain_ip, ip_header, ip_checksum, gre, protocol_of, tunnel, tunnel_head, word_sum, ones_sum, is_right_header, total_of, tunnel_of, gre_at, tunnel_at, header_with, tunnel_on}
use Rattle.gre_ip.specs.declared.tunnel.Tunnel.{Tunnel}
use Rattle.gre_ip.specs.Tunnels.{packet_with, packet_of, held, held_at}
use Rattle.gre_ip.proofs.Sums.{makes_right}

-- ---- the rules, one by one

pub record Passes (octets : List ℕ) (kind : Kind) : Type 0 where
  pub version : slice_index octets 0 / 16 ≡ 4
  pub words : slice_index octets 0 % 16 ≡ 5
  pub heads : 24 ≤ total_of octets
  pub within : total_of octets ≤ length octets
  pub right : is_right_header (take 20 octets) ≡ true
  pub whole : big_number 2 (drop 6 octets) % 16384 ≡ 0
  pub gre : slice_index octets 9 ≡ 47
  pub flags : big_number 2 (drop 20 octets) ≡ 0
  pub carries : big_number 2 (drop 22 octets) ≡ protocol_of kind

-- a test that doesn't refuse
skip : {E A : Type 0} (b : Bool) (fault : E) (r : Result A E) → b ≡ false → cond b (Err fault) r ≡ r
skip b fault r e = rw e refl

same : (n m : ℕ) → n ≡ m → not (n == m) ≡ false
same n m e = ap not (eq-eqb n m e)

gre_read : (octets : List ℕ) (kind : Kind) → Passes octets kind → gre_at octets ≡ Ok (tunnel_of kind octets)
gre_read octets Mpls p =
    skip _ _ _ (le-ltb (total_of octets) 24 p.heads) ∙ skip _ _ _ (same _ _ p.flags)
    ∙ rw (eq-eqb (big_number 2 (drop 22 octets)) mpls_type p.carries) refl
gre_read octets Configured p =
    skip _ _ _ (le-ltb (total_of octets) 24 p.heads) ∙ skip _ _ _ (same _ _ p.flags)
    ∙ rw (ne_eqb (big_number 2 (drop 22 octets)) mpls_type (λ e. omega (arith, e, p.carries)), eq-eqb (big_number 2 (drop 22 octets)) bier_type p.carries) refl

pub passes_read : (octets : List ℕ) (kind : Kind) → Passes octets kind → tunnel_at octets ≡ Ok (tunnel_of kind octets)
unfolding tunnel_at
passes_read octets kind p =
    skip _ _ _ (le-ltb (length octets) 20 (omega (arith, p.heads, p.within)))
    ∙ skip _ _ _ (same _ _ p.version)
    ∙ skip _ _ _ (same _ _ p.words)
    ∙ skip _ _ _ (le-ltb (total_of octets) 20 (omega (arith, p.heads)))
    ∙ skip _ _ _ (le-ltb (length octets) (total_of octets) p.within)
    ∙ skip _ _ _ (ap not p.right)
    ∙ skip _ _ _ (same _ _ p.whole)
    ∙ skip _ _ _ (same _ _ p.gre)
    ∙ gre_read octets kind p

-- ---- what is read passes

guard : {E A : Type 0} (b : Bool) (fault : E) (r : Result A E) (y : A) → cond b (Err fault) r ≡ Ok y → (b ≡ false) × (r ≡ Ok y)
guard true fault r y e = absurd cc
guard false fault r y e = (refl, e)

agrees : (n m : ℕ) → not (n == m) ≡ false → n ≡ m
agrees n m e = elim (eqb_tells n m) [
  | inl is ↦ is.1
  | inr other ↦ absurd cc
]

held_true : (b : Bool) → not b ≡ false → b ≡ true
held_true true e = refl
held_true false e = absurd cc

ok_is : {E A : Type 0} (x y : A) → (let z : Result A E = Ok x in z) ≡ Ok y → x ≡ y
ok_is x y e = cc

pub record Inner (octets : List ℕ) (t : TunnelPacket) : Type 0 where
  pub kind : Kind
  pub carries : big_number 2 (drop 22 octets) ≡ protocol_of kind
  pub is : tunnel_of kind octets ≡ t

inner_of : (octets : List ℕ) (t : TunnelPacket) (n : ℕ) → n ≡ big_number 2 (drop 22 octets)
    → cond (n == mpls_type) (Ok (tunnel_of Mpls octets)) (cond (n == bier_type) (Ok (tunnel_of Configured octets)) (Err faults.GreType)) ≡ Ok t → Inner octets t
inner_of octets t n is e = elim (eqb_tells n mpls_type) [
  | inl mpls ↦ record { kind = Mpls; carries = sym is ∙ mpls.1; is = ok_is {E = IpFault} _ _ (rw mpls.0 at e) }
  | inr not_mpls ↦ elim (eqb_tells n bier_type) [
    | inl bier ↦ record { kind = Configured; carries = sym is ∙ bier.1; is = ok_is {E = IpFault} _ _ (rw bier.0 at (rw not_mpls.0 at e)) }
    | inr not_bier ↦ absurd (let f = rw not_bier.0 at (rw not_mpls.0 at e) in cc)
  ]
]

pub record IsRead (octets : List ℕ) (t : TunnelPacket) : Type 0 where
  pub kind : Kind
  pub passes : Passes octets kind
  pub is : tunnel_of kind octets ≡ t

pub read_passes : (octets : List ℕ) (t : TunnelPacket) → tunnel_at octets ≡ Ok t → IsRead octets t
unfolding tunnel_at
read_passes octets t e =
    let long = guard _ _ _ t e in
    let version = guard _ _ _ t long.1 in
    let words = guard _ _ _ t version.1 in
    let least = guard _ _ _ t words.1 in
    let within = guard _ _ _ t least.1 in
    let right = guard _ _ _ t within.1 in
    let whole = guard _ _ _ t right.1 in
    let is_gre = guard _ _ _ t whole.1 in
    let heads = guard _ _ _ t is_gre.1 in
    let flags = guard _ _ _ t heads.1 in
    let inner = inner_of octets t (big_number 2 (drop 22 octets)) refl flags.1 in
    record {
      kind = inner.kind;
      passes = record {
        version = agrees _ _ version.0;
        words = agrees _ _ words.0;
        heads = ltb-false _ _ heads.0;
        within = ltb-false _ _ within.0;
        right = held_true _ right.0;
        whole = agrees _ _ whole.0;
        gre = agrees _ _ is_gre.0;
        flags = agrees _ _ flags.0;
        carries = inner.carries;
      };
      is = inner.is;
    }

-- ---- what passes is spelled so

-- two octets are those of their number
two_again : (a b : ℕ) (rest : List ℕ) → a < 256 → b < 256 → a ∷ b ∷ [] ≡ big_bytes 2 (big_number 2 (a ∷ b ∷ rest))
two_again a b rest a-small b-small =
    let n : big_number 2 (a ∷ b ∷ rest) ≡ a * 256 + b = omega arith in
    let high : (a * 256 + b) / 256 % 256 ≡ a = omega arith in
    let low : (a * 256 + b) % 256 ≡ b = omega arith in
    sym (ap (big_bytes 2) n ∙ rw (high, low) refl)

two_small : (a b : ℕ) (rest : List ℕ) → a < 256 → b < 256 → big_number 2 (a ∷ b ∷ rest) / 16384 < 4
two_small a b rest a-small b-small = omega arith

head_is : (f : IpFree) (total ttl sum : ℕ) (src dst : Ipv4) (first protocol : ℕ) (t i h s : List ℕ) → first ≡ 69 → protocol ≡ 47
    → t ≡ big_bytes 2 total → i ≡ big_bytes 2 f.id → h ≡ big_bytes 2 (f.high * 16384) → s ≡ big_bytes 2 sum
    → first ∷ f.service ∷ (t ++ (i ++ (h ++ (ttl ∷ protocol ∷ (s ++ (src.0 ++ dst.0)))))) ≡ ip_header f total ttl src dst sum
head_is f total ttl sum src dst first protocol t i h s first-is protocol-is t-is i-is h-is s-is = rw (first-is, protocol-is, t-is, i-is, h-is, s-is) refl

first_octet : (n : ℕ) → n / 16 ≡ 4 → n % 16 ≡ 5 → n ≡ 69
first_octet n high low = omega arith

-- behind the total length nothing is carried
carried_is : (octets : List ℕ) (total : ℕ) → 24 ≤ total → drop 24 (take total octets) ≡ take (total - 24) (drop 24 octets)
carried_is octets total long =
    let n : total ≡ 24 + (total - 24) = omega arith in
    ap (λ (k : ℕ). drop 24 (take k octets)) n ∙ drop-take 24 (total - 24) octets

rest_is : (octets : List ℕ) (total : ℕ) → 24 ≤ total → drop total octets ≡ drop (total - 24) (drop 24 octets)
rest_is octets total long =
    let n : total ≡ 24 + (total - 24) = omega arith in
    ap (λ (k : ℕ). drop k octets) n ∙ sym (drop-drop (total - 24) 24 octets)

tail_is : (octets : List ℕ) (total : ℕ) → 24 ≤ total → drop 24 octets ≡ drop 24 (take total octets) ++ drop total octets
tail_is octets total long =
    sym (rw (carried_is octets total long, rest_is octets total long) (take-append-drop (total - 24) (drop 24 octets)))

carried_size : (octets : List ℕ) (total : ℕ) → 24 ≤ total → total ≤ length octets → 24 + length (drop 24 (take total octets)) ≡ total
carried_size octets total long within = omega (arith, length-drop 24 (take total octets), length-take total octets)

gre_is : (kind : Kind) (g : List ℕ) → g ≡ big_bytes 2 (protocol_of kind) → 0 ∷ 0 ∷ g ≡ gre kind
gre_is kind g e = ap (λ (l : List ℕ). 0 ∷ 0 ∷ l) e

pub passes_spelled : (octets : List ℕ) (kind : Kind) → AreOctets octets → Passes octets kind → IsTunnel octets (tunnel_of kind octets)
passes_spelled ([]) kind small p = absurd (omega (arith, p.heads, p.within))
passes_spelled (a0 ∷ []) kind small p = absurd (omega (arith, p.heads, p.within))
passes_spelled (a0 ∷ a1 ∷ []) kind small p = absurd (omega (arith, p.heads, p.within))
passes_spelled (a0 ∷ a1 ∷ a2 ∷ []) kind small p = absurd (omega (arith, p.heads, p.within))
passes_spelled (a0 ∷ a1 ∷ a2 ∷ a3 ∷ []) kind small p = absurd (omega (arith, p.heads, p.within))
passes_spelled (a0 ∷ a1 ∷ a2 ∷ a3 ∷ a4 ∷ []) kind small p = absurd (omega (arith, p.heads, p.within))
passes_spelled (a0 ∷ a1 ∷ a2 ∷ a3 ∷ a4 ∷ a5 ∷ []) kind small p = absurd (omega (arith, p.heads, p.within))
passes_spelled (a0 ∷ a1 ∷ a2 ∷ a3 ∷ a4 ∷ a5 ∷ a6 ∷ []) kind small p = absurd (omega (arith, p.heads, p.within))
passes_spelled (a0 ∷ a1 ∷ a2 ∷ a3 ∷ a4 ∷ a5 ∷ a6 ∷ a7 ∷ []) kind small p = absurd (omega (arith, p.heads, p.within))
passes_spelled (a0 ∷ a1 ∷ a2 ∷ a3 ∷ a4 ∷ a5 ∷ a6 ∷ a7 ∷ a8 ∷ []) kind small p = absurd (omega (arith, p.heads, p.within))
passes_spelled (a0 ∷ a1 ∷ a2 ∷ a3 ∷ a4 ∷ a5 ∷ a6 ∷ a7 ∷ a8 ∷ a9 ∷ []) kind small p = absurd (omega (arith, p.heads, p.within))
passes_spelled (a0 ∷ a1 ∷ a2 ∷ a3 ∷ a4 ∷ a5 ∷ a6 ∷ a7 ∷ a8 ∷ a9 ∷ a10 ∷ []) kind small p = absurd (omega (arith, p.heads, p.within))
passes_spelled (a0 ∷ a1 ∷ a2 ∷ a3 ∷ a4 ∷ a5 ∷ a6 ∷ a7 ∷ a8 ∷ a9 ∷ a10 ∷ a11 ∷ []) kind small p = absurd (omega (arith, p.heads, p.within))
passes_spelled (a0 ∷ a1 ∷ a2 ∷ a3 ∷ a4 ∷ a5 ∷ a6 ∷ a7 ∷ a8 ∷ a9 ∷ a10 ∷ a11 ∷ a12 ∷ []) kind small p = absurd (omega (arith, p.heads, p.within))
passes_spelled (a0 ∷ a1 ∷ a2 ∷ a3 ∷ a4 ∷ a5 ∷ a6 ∷ a7 ∷ a8 ∷ a9 ∷ a10 ∷ a11 ∷ a12 ∷ a13 ∷ []) kind small p = absurd (omega (arith, p.heads, p.within))
passes_spelled (a0 ∷ a1 ∷ a2 ∷ a3 ∷ a4 ∷ a5 ∷ a6 ∷ a7 ∷ a8 ∷ a9 ∷ a10 ∷ a11 ∷ a12 ∷ a13 ∷ a14 ∷ []) kind small p = absurd (omega (arith, p.heads, p.within))
passes_spelled (a0 ∷ a1 ∷ a2 ∷ a3 ∷ a4 ∷ a5 ∷ a6 ∷ a7 ∷ a8 ∷ a9 ∷ a10 ∷ a11 ∷ a12 ∷ a13 ∷ a14 ∷ a15 ∷ []) kind small p = absurd (omega (arith, p.heads, p.within))
passes_spelled (a0 ∷ a1 ∷ a2 ∷ a3 ∷ a4 ∷ a5 ∷ a6 ∷ a7 ∷ a8 ∷ a9 ∷ a10 ∷ a11 ∷ a12 ∷ a13 ∷ a14 ∷ a15 ∷ a16 ∷ []) kind small p = absurd (omega (arith, p.heads, p.within))
passes_spelled (a0 ∷ a1 ∷ a2 ∷ a3 ∷ a4 ∷ a5 ∷ a6 ∷ a7 ∷ a8 ∷ a9 ∷ a10 ∷ a11 ∷ a12 ∷ a13 ∷ a14 ∷ a15 ∷ a16 ∷ a17 ∷ []) kind small p = absurd (omega (arith, p.heads, p.within))
passes_spelled (a0 ∷ a1 ∷ a2 ∷ a3 ∷ a4 ∷ a5 ∷ a6 ∷ a7 ∷ a8 ∷ a9 ∷ a10 ∷ a11 ∷ a12 ∷ a13 ∷ a14 ∷ a15 ∷ a16 ∷ a17 ∷ a18 ∷ []) kind small p = absurd (omega (arith, p.heads, p.within))
passes_spelled (a0 ∷ a1 ∷ a2 ∷ a3 ∷ a4 ∷ a5 ∷ a6 ∷ a7 ∷ a8 ∷ a9 ∷ a10 ∷ a11 ∷ a12 ∷ a13 ∷ a14 ∷ a15 ∷ a16 ∷ a17 ∷ a18 ∷ a19 ∷ []) kind small p = absurd (omega (arith, p.heads, p.within))
passes_spelled (a0 ∷ a1 ∷ a2 ∷ a3 ∷ a4 ∷ a5 ∷ a6 ∷ a7 ∷ a8 ∷ a9 ∷ a10 ∷ a11 ∷ a12 ∷ a13 ∷ a14 ∷ a15 ∷ a16 ∷ a17 ∷ a18 ∷ a19 ∷ a20 ∷ []) kind small p = absurd (omega (arith, p.heads, p.within))
passes_spelled (a0 ∷ a1 ∷ a2 ∷ a3 ∷ a4 ∷ a5 ∷ a6 ∷ a7 ∷ a8 ∷ a9 ∷ a10 ∷ a11 ∷ a12 ∷ a13 ∷ a14 ∷ a15 ∷ a16 ∷ a17 ∷ a18 ∷ a19 ∷ a20 ∷ a21 ∷ []) kind small p = absurd (omega (arith, p.heads, p.within))
passes_spelled (a0 ∷ a1 ∷ a2 ∷ a3 ∷ a4 ∷ a5 ∷ a6 ∷ a7 ∷ a8 ∷ a9 ∷ a10 ∷ a11 ∷ a12 ∷ a13 ∷ a14 ∷ a15 ∷ a16 ∷ a17 ∷ a18 ∷ a19 ∷ a20 ∷ a21 ∷ a22 ∷ []) kind small p = absurd (omega (arith, p.heads, p.within))
passes_spelled (a0 ∷ a1 ∷ a2 ∷ a3 ∷ a4 ∷ a5 ∷ a6 ∷ a7 ∷ a8 ∷ a9 ∷ a10 ∷ a11 ∷ a12 ∷ a13 ∷ a14 ∷ a15 ∷ a16 ∷ a17 ∷ a18 ∷ a19 ∷ a20 ∷ a21 ∷ a22 ∷ a23 ∷ tail) kind small p =
    let octets = a0 ∷ a1 ∷ a2 ∷ a3 ∷ a4 ∷ a5 ∷ a6 ∷ a7 ∷ a8 ∷ a9 ∷ a10 ∷ a11 ∷ a12 ∷ a13 ∷ a14 ∷ a15 ∷ a16 ∷ a17 ∷ a18 ∷ a19 ∷ a20 ∷ a21 ∷ a22 ∷ a23 ∷ tail in
    let total = total_of octets in
    let n : total ≡ a2 * 256 + a3 = omega arith in
    let small0 : a2 < 256 = small 2 in
    let small1 : a3 < 256 = small 3 in
    let size : 24 + length (drop 24 (take total octets)) ≡ total = carried_size octets total p.heads p.within in
    let fragment = big_number 2 (drop 6 octets) in
    let high : fragment ≡ fragment / 16384 * 16384 = omega (arith, p.whole) in
    let free : IpFree = record { service = a1; id = big_number 2 (drop 4 octets); high = fragment / 16384 } in
    let src : Ipv4 = record { 0 = a12 ∷ a13 ∷ a14 ∷ a15 ∷ [] } in
    let dst : Ipv4 = record { 0 = a16 ∷ a17 ∷ a18 ∷ a19 ∷ [] } in
    let sum = big_number 2 (drop 10 octets) in
    let header : take 20 octets ≡ ip_header free (24 + length (drop 24 (take total octets))) a8 src dst sum =
    head_is free (24 + length (drop 24 (take total octets))) a8 sum src dst a0 a9 (a2 ∷ a3 ∷ []) (a4 ∷ a5 ∷ []) (a6 ∷ a7 ∷ []) (a10 ∷ a11 ∷ [])
    (first_octet a0 p.version p.words) p.gre
    (two_again a2 a3 (drop 4 octets) small0 small1 ∙ ap (big_bytes 2) (sym size))
    (two_again a4 a5 (drop 6 octets) (small 4) (small 5))
    (two_again a6 a7 (drop 8 octets) (small 6) (small 7) ∙ ap (big_bytes 2) high)
    (two_again a10 a11 (drop 12 octets) (small 10) (small 11)) in
    let zeros : (a20 ≡ 0) × (a21 ≡ 0) = (omega (arith, p.flags), omega (arith, p.flags)) in
    let carries : a22 ∷ a23 ∷ [] ≡ big_bytes 2 (protocol_of kind) = two_again a22 a23 tail (small 22) (small 23) ∙ ap (big_bytes 2) p.carries in
    let heads : a20 ∷ a21 ∷ a22 ∷ a23 ∷ [] ≡ gre kind = rw (zeros.0, zeros.1) (gre_is kind (a22 ∷ a23 ∷ []) carries) in
    record {
      free = free;
      checksum = sum;
      rest = drop total octets;
      high = omega (arith, two_small a6 a7 (drop 8 octets) (small 6) (small 7));
      spelled = ap (λ (l : List ℕ). l ++ (a20 ∷ a21 ∷ a22 ∷ a23 ∷ tail)) header
          ∙ ap (λ (l : List ℕ). ip_header free (24 + length (drop 24 (take total octets))) a8 src dst sum ++ l)
          (ap (λ (l : List ℕ). l ++ tail) heads ∙ ap (λ (l : List ℕ). gre kind ++ l) (tail_is octets total p.heads));
      right = sym (ap (λ (l : List ℕ). ones_sum (word_sum l)) header) ∙ eqb-true (ones_sum (word_sum (take 20 octets))) 65535 p.right;
      fits = record { src = omega arith; dst = omega arith; ttl = small 8; size = omega (arith, size, n) };
    }

-- ---- what is spelled passes

pub record Four (xs : List ℕ) : Type 0 where
  pub a : ℕ
  pub b : ℕ
  pub c : ℕ
  pub d : ℕ
  pub is : xs ≡ a ∷ b ∷ c ∷ d ∷ []

four : (xs : List ℕ) → length xs ≡ 4 → Four xs
four [] e = absurd (omega arith)
four (a ∷ []) e = absurd (omega arith)
four (a ∷ b ∷ []) e = absurd (omega arith)
four (a ∷ b ∷ c ∷ []) e = absurd (omega arith)
four (a ∷ b ∷ c ∷ d ∷ []) e = record { a = a; b = b; c = c; d = d; is = refl }
four (a ∷ b ∷ c ∷ d ∷ x ∷ xs) e = absurd (omega arith)

-- a packet's spelling, with these numbers in its free fields
abbrev pub spelling : IpFree → ℕ → TunnelPacket → List ℕ → List ℕ
spelling f sum t rest = ip_header f (24 + length t.carried) t.ttl t.src t.dst sum ++ (gre t.inner ++ (t.carried ++ rest))

abbrev cells : List ℕ → List ℕ → ℕ → Kind → List ℕ → TunnelPacket
cells s d ttl kind carried = record { src = record { 0 = s }; dst = record { 0 = d }; ttl = ttl; inner = kind; carried = carried }

protocol_small : (kind : Kind) → protocol_of kind < 65536
protocol_small Mpls = omega arith
protocol_small Configured = omega arith

pub cells_pass : (f : IpFree) (sum ttl : ℕ) (a b c d e g h i : ℕ) (kind : Kind) (carried rest : List ℕ) → f.high < 4 → 24 + length carried < 65536
    → ones_sum (word_sum (ip_header f (24 + length carried) ttl (record { 0 = a ∷ b ∷ c ∷ d ∷ [] }) (record { 0 = e ∷ g ∷ h ∷ i ∷ [] }) sum)) ≡ 65535
    → Passes (spelling f sum (cells (a ∷ b ∷ c ∷ d ∷ []) (e ∷ g ∷ h ∷ i ∷ []) ttl kind carried) rest) kind
    × (tunnel_of kind (spelling f sum (cells (a ∷ b ∷ c ∷ d ∷ []) (e ∷ g ∷ h ∷ i ∷ []) ttl kind carried) rest) ≡ cells (a ∷ b ∷ c ∷ d ∷ []) (e ∷ g ∷ h ∷ i ∷ []) ttl kind carried)
cells_pass f sum ttl a b c d e g h i kind carried rest high size right =
    let src : Ipv4 = record { 0 = a ∷ b ∷ c ∷ d ∷ [] } in
    let dst : Ipv4 = record { 0 = e ∷ g ∷ h ∷ i ∷ [] } in
    let octets = spelling f sum (cells (a ∷ b ∷ c ∷ d ∷ []) (e ∷ g ∷ h ∷ i ∷ []) ttl kind carried) rest in
    let total : total_of octets ≡ 24 + length carried = big_number-reads_back 2 (24 + length carried) (drop 4 octets) size in
    let fragment : big_number 2 (drop 6 octets) ≡ f.high * 16384 = big_number-reads_back 2 (f.high * 16384) (drop 8 octets) (omega arith) in
    let protocol : big_number 2 (drop 22 octets) ≡ protocol_of kind = big_number-reads_back 2 (protocol_of kind) (carried ++ rest) (protocol_small kind) in
    let all : length octets ≡ 24 + length (carried ++ rest) = omega arith in
    let inside : drop 24 (take (total_of octets) octets) ≡ carried =
    ap (λ (n : ℕ). drop 24 (take n octets)) total ∙ drop-take 24 (length carried) octets ∙ take_at carried rest (length carried) refl in (
      record {
        version = omega arith;
        words = omega arith;
        heads = omega (arith, total);
        within = omega (arith, total, all, length-append carried rest);
        right = eq-eqb _ 65535 right;
        whole = omega (arith, fragment);
        gre = refl;
        flags = omega arith;
        carries = protocol;
      },
      ap (λ (l : List ℕ). cells (a ∷ b ∷ c ∷ d ∷ []) (e ∷ g ∷ h ∷ i ∷ []) ttl kind l) inside,
    )

pub record Reads (octets : List ℕ) (t : TunnelPacket) : Type 0 where
  pub passes : Passes octets t.inner
  pub is : tunnel_of t.inner octets ≡ t

-- the same of any packet that fits
spelled_reads : (f : IpFree) (sum : ℕ) (t : TunnelPacket) (rest : List ℕ) → f.high < 4 → TunnelFits t
    → ones_sum (word_sum (ip_header f (24 + length t.carried) t.ttl t.src t.dst sum)) ≡ 65535 → Reads (spelling f sum t rest) t
spelled_reads f sum t rest high fits right =
    let s = four t.src.0 fits.src in
    let d = four t.dst.0 fits.dst in
    let packet = λ (x y : List ℕ). cells x y t.ttl t.inner t.carried in
    let Claim = λ (x y : List ℕ). ones_sum (word_sum (ip_header f (24 + length t.carried) t.ttl (packet x y).src (packet x y).dst sum)) ≡ 65535 → Reads (spelling f sum (packet x y) rest) (packet x y) in
    let known : Claim (s.a ∷ s.b ∷ s.c ∷ s.d ∷ []) (d.a ∷ d.b ∷ d.c ∷ d.d ∷ []) =
    (λ e. let p = cells_pass f sum t.ttl s.a s.b s.c s.d d.a d.b d.c d.d t.inner t.carried rest high fits.size e in record { passes = p.0; is = p.1 }) in
    subst (λ (x : List ℕ). Claim x t.dst.0) (sym s.is) (subst (λ (y : List ℕ). Claim (s.a ∷ s.b ∷ s.c ∷ s.d ∷ []) y) (sym d.is) known) right

pub tunnel_reads : (octets : List ℕ) (t : TunnelPacket) → IsTunnel octets t → Reads octets t
tunnel_reads octets t is = subst (λ (l : List ℕ). Reads l t) (sym is.spelled) (spelled_reads is.free is.checksum t is.rest is.high is.fits is.right)

-- the total length is that of the headers and what is carried
total_is : (octets : List ℕ) (t : TunnelPacket) → IsTunnel octets t → total_of octets ≡ 24 + length t.carried
total_is octets t is =
    ap total_of is.spelled ∙ big_number-reads_back 2 (24 + length t.carried) (drop 4 (spelling is.free is.checksum t is.rest)) is.fits.size

pub tunnel_only : (octets : List ℕ) (t : TunnelPacket) → IsTunnel octets t → tunnel_at octets ≡ Ok t
tunnel_only octets t is = let r = tunnel_reads octets t is in passes_read octets t.inner r.passes ∙ ap Ok r.is

pub tunnel_found : (octets : List ℕ) (t : TunnelPacket) → AreOctets octets → tunnel_at octets ≡ Ok t → IsTunnel octets t
tunnel_found octets t small e = let r = read_passes octets t e in subst (IsTunnel octets) r.is (passes_spelled octets r.kind small r.passes)

-- ---- the checksum

-- the sum of a header is that with the checksum 0, and the checksum
sum_rests : (f : IpFree) (total ttl sum a b c d e g h i : ℕ) → sum < 65536
    → word_sum (ip_header f total ttl (record { 0 = a ∷ b ∷ c ∷ d ∷ [] }) (record { 0 = e ∷ g ∷ h ∷ i ∷ [] }) sum)
    ≡ word_sum (ip_header f total ttl (record { 0 = a ∷ b ∷ c ∷ d ∷ [] }) (record { 0 = e ∷ g ∷ h ∷ i ∷ [] }) 0) + sum
sum_rests f total ttl sum a b c d e g h i small = omega arith

some_sum : (f : IpFree) (total ttl a b c d e g h i : ℕ) → 0 < word_sum (ip_header f total ttl (record { 0 = a ∷ b ∷ c ∷ d ∷ [] }) (record { 0 = e ∷ g ∷ h ∷ i ∷ [] }) 0)
some_sum f total ttl a b c d e g h i = omega arith

checksum_small : (f : IpFree) (total ttl : ℕ) (src dst : Ipv4) → ip_checksum f total ttl src dst < 65536
checksum_small f total ttl src dst = omega arith

cells_right : (f : IpFree) (total ttl a b c d e g h i : ℕ)
    → (let src : Ipv4 = record { 0 = a ∷ b ∷ c ∷ d ∷ [] } in let dst : Ipv4 = record { 0 = e ∷ g ∷ h ∷ i ∷ [] } in
    ones_sum (word_sum (ip_header f total ttl src dst (ip_checksum f total ttl src dst))) ≡ 65535)
cells_right f total ttl a b c d e g h i =
    let src : Ipv4 = record { 0 = a ∷ b ∷ c ∷ d ∷ [] } in
    let dst : Ipv4 = record { 0 = e ∷ g ∷ h ∷ i ∷ [] } in
    let sum = ip_checksum f total ttl src dst in
    ap ones_sum (sum_rests f total ttl sum a b c d e g h i (checksum_small f total ttl src dst))
    ∙ makes_right (word_sum (ip_header f total ttl src dst 0)) sum (some_sum f total ttl a b c d e g h i) refl

pub checksum_right : (f : IpFree) (total ttl : ℕ) (src dst : Ipv4) → length src.0 ≡ 4 → length dst.0 ≡ 4 → ones_sum (word_sum (ip_header f total ttl src dst (ip_checksum f total ttl src dst))) ≡ 65535
checksum_right f total ttl src dst src-four dst-four =
    let s = four src.0 src-four in
    let d = four dst.0 dst-four in
    let at = λ (x : List ℕ). (let i : Ipv4 = record { 0 = x } in i) in
    let Claim = λ (x y : List ℕ). ones_sum (word_sum (ip_header f total ttl (at x) (at y) (ip_checksum f total ttl (at x) (at y)))) ≡ 65535 in
    let known : Claim (s.a ∷ s.b ∷ s.c ∷ s.d ∷ []) (d.a ∷ d.b ∷ d.c ∷ d.d ∷ []) = cells_right f total ttl s.a s.b s.c s.d d.a d.b d.c d.d in
    subst (λ (x : List ℕ). Claim x dst.0) (sym s.is) (subst (λ (y : List ℕ). Claim (s.a ∷ s.b ∷ s.c ∷ s.d ∷ []) y) (sym d.is) known)

-- a header with its checksum, the GRE header, what is carried, and anything behind it
pub is_spelled : (f : IpFree) (t : TunnelPacket) (octets rest : List ℕ) → f.high < 4 → TunnelFits t
    → octets ≡ spelling f (ip_checksum f (24 + length t.carried) t.ttl t.src t.dst) t rest → IsTunnel octets t
is_spelled f t octets rest high fits e = record {
  free = f;
  checksum = ip_checksum f (24 + length t.carried) t.ttl t.src t.dst;
  rest = rest;
  high = high;
  spelled = e;
  right = checksum_right f (24 + length t.carried) t.ttl t.src t.dst fits.src fits.dst;
  fits = fits;
}

head_spelled : (t : TunnelPacket) (rest : List ℕ) → tunnel_head t ++ (t.carried ++ rest) ≡ spelling plain_ip (ip_checksum plain_ip (24 + length t.carried) t.ttl t.src t.dst) t rest
unfolding tunnel_head
head_spelled t rest = append_assoc (ip_header plain_ip (24 + length t.carried) t.ttl t.src t.dst (ip_checksum plain_ip (24 + length t.carried) t.ttl t.src t.dst)) (gre t.inner) (t.carried ++ rest)

pub tunnel_spelled : (t : TunnelPacket) (rest : List ℕ) → TunnelFits t → IsTunnel (tunnel t ++ rest) t
tunnel_spelled t rest fits = is_spelled plain_ip t (tunnel t ++ rest) rest (omega arith) fits (append_assoc (tunnel_head t) t.carried rest ∙ head_spelled t rest)

pub tunnel_again : (t : TunnelPacket) (rest : List ℕ) → TunnelFits t → tunnel_at (tunnel t ++ rest) ≡ Ok t
tunnel_again t rest fits = tunnel_only (tunnel t ++ rest) t (tunnel_spelled t rest fits)

same_packet : (a b : TunnelPacket) → (let x : Result TunnelPacket IpFault = Ok a in x) ≡ Ok b → a ≡ b
same_packet a b e = cc

pub tunnel_one : (a b : TunnelPacket) → TunnelFits a → TunnelFits b → tunnel a ≡ tunnel b → a ≡ b
tunnel_one a b fits-a fits-b e =
    same_packet a b (sym (tunnel_again a [] fits-a) ∙ ap (λ (l : List ℕ). tunnel_at (l ++ [])) e ∙ tunnel_again b [] fits-b)

-- ---- sending on

cells_on : (f : IpFree) (sum ttl next : ℕ) (a b c d e g h i : ℕ) (kind : Kind) (carried rest : List ℕ) → 24 + length carried < 65536
    → (let src : Ipv4 = record { 0 = a ∷ b ∷ c ∷ d ∷ [] } in let dst : Ipv4 = record { 0 = e ∷ g ∷ h ∷ i ∷ [] } in
    tunnel_on (spelling f sum (cells (a ∷ b ∷ c ∷ d ∷ []) (e ∷ g ∷ h ∷ i ∷ []) ttl kind carried) rest) next
    ≡ ip_header f (24 + length carried) next src dst (ip_checksum f (24 + length carried) next src dst) ++ (gre kind ++ carried))
unfolding tunnel_on
cells_on f sum ttl next a b c d e g h i kind carried rest size =
    let octets = spelling f sum (cells (a ∷ b ∷ c ∷ d ∷ []) (e ∷ g ∷ h ∷ i ∷ []) ttl kind carried) rest in
    let src : Ipv4 = record { 0 = a ∷ b ∷ c ∷ d ∷ [] } in
    let dst : Ipv4 = record { 0 = e ∷ g ∷ h ∷ i ∷ [] } in
    let total : total_of octets ≡ 24 + length carried = big_number-reads_back 2 (24 + length carried) (drop 4 octets) size in
    let n : 24 + length carried ≡ 20 + length (gre kind ++ carried) = omega arith in
    let behind : drop 20 (take (total_of octets) octets) ≡ gre kind ++ carried =
    ap (λ (k : ℕ). drop 20 (take k octets)) (total ∙ n) ∙ drop-take 20 (length (gre kind ++ carried)) octets ∙ take_at (gre kind ++ carried) rest (length (gre kind ++ carried)) refl in
    ap (λ (l : List ℕ). ip_header f (24 + length carried) next src dst (ip_checksum f (24 + length carried) next src dst) ++ l) behind

-- what is sent on is spelled with the new checksum
on_spelled : (f : IpFree) (sum next : ℕ) (t : TunnelPacket) (rest : List ℕ) → TunnelFits t
    → tunnel_on (spelling f sum t rest) next ≡ ip_header f (24 + length t.carried) next t.src t.dst (ip_checksum f (24 + length t.carried) next t.src t.dst) ++ (gre t.inner ++ t.carried)
on_spelled f sum next t rest fits =
    let s = four t.src.0 fits.src in
    let d = four t.dst.0 fits.dst in
    let packet = λ (x y : List ℕ). cells x y t.ttl t.inner t.carried in
    let Claim = λ (x y : List ℕ). tunnel_on (spelling f sum (packet x y) rest) next
    ≡ ip_header f (24 + length t.carried) next (packet x y).src (packet x y).dst (ip_checksum f (24 + length t.carried) next (packet x y).src (packet x y).dst) ++ (gre t.inner ++ t.carried) in
    let known : Claim (s.a ∷ s.b ∷ s.c ∷ s.d ∷ []) (d.a ∷ d.b ∷ d.c ∷ d.d ∷ []) = cells_on f sum t.ttl next s.a s.b s.c s.d d.a d.b d.c d.d t.inner t.carried rest fits.size in
    subst (λ (x : List ℕ). Claim x t.dst.0) (sym s.is) (subst (λ (y : List ℕ). Claim (s.a ∷ s.b ∷ s.c ∷ s.d ∷ []) y) (sym d.is) known)

pub onward_is : (octets rest : List ℕ) (t : TunnelPacket) (ttl : ℕ) → IsTunnel octets t → ttl < 256 → IsTunnel (tunnel_on octets ttl ++ rest) (record t { ttl = ttl })
onward_is octets rest t ttl is small =
    let f = is.free in
    let sum = ip_checksum f (24 + length t.carried) ttl t.src t.dst in
    let on = ap (λ (l : List ℕ). tunnel_on l ttl ++ rest) is.spelled ∙ ap (λ (l : List ℕ). l ++ rest) (on_spelled f is.checksum ttl t is.rest is.fits)
    ∙ append_assoc (ip_header f (24 + length t.carried) ttl t.src t.dst sum) (gre t.inner ++ t.carried) rest
    ∙ ap (λ (l : List ℕ). ip_header f (24 + length t.carried) ttl t.src t.dst sum ++ l) (append_assoc (gre t.inner) t.carried rest) in
    is_spelled f (record t { ttl = ttl }) (tunnel_on octets ttl ++ rest) rest is.high (record { src = is.fits.src; dst = is.fits.dst; ttl = small; size = is.fits.size }) on

pub spelled_onward : (t : TunnelPacket) (rest : List ℕ) (ttl : ℕ) → TunnelFits t → tunnel_on (tunnel t ++ rest) ttl ≡ tunnel (record t { ttl = ttl })
unfolding tunnel_head
spelled_onward t rest ttl fits =
    let sum = ip_checksum plain_ip (24 + length t.carried) ttl t.src t.dst in
    ap (λ (l : List ℕ). tunnel_on l ttl) (append_assoc (tunnel_head t) t.carried rest ∙ head_spelled t rest)
    ∙ on_spelled plain_ip (ip_checksum plain_ip (24 + length t.carried) t.ttl t.src t.dst) ttl t rest fits
    ∙ sym (append_assoc (ip_header plain_ip (24 + length t.carried) ttl t.src t.dst sum) (gre t.inner) t.carried)

-- ---- the code's values

pub found_from : (octets : List ℕ) (result : Result Tunnel IpFault) → AreOctets octets → Gives (packet_of octets) result (tunnel_at octets) → IfOk result (λ t. IsTunnel octets (packet_of octets t))
found_from octets (Ok t) small gives = tunnel_found octets (packet_of octets t) small gives
found_from octets (Err fault) small gives = tt

pub only_from : (octets : List ℕ) (result : Result Tunnel IpFault) → Gives (packet_of octets) result (tunnel_at octets)
    → (t : TunnelPacket) → IsTunnel octets t → Gives (packet_of octets) result (Ok t)
only_from octets result gives t is = subst (Gives (packet_of octets) result) (tunnel_only octets t is) gives

-- the range of the carried octets
pub range_is : (octets : List ℕ) (total : ℕ) → 24 ≤ total → take (total - 24) (drop 24 octets) ≡ drop 24 (take total octets)
range_is octets total long = sym (carried_is octets total long)

-- what was written
pub written_is : (t : Tunnel) (out after carried rest : List ℕ) → length (tunnel_head (packet_with t carried)) ≡ 24 → out ≡ tunnel_head (packet_with t carried) ++ after
    → take 24 out ++ (carried ++ rest) ≡ tunnel (packet_with t carried) ++ rest
written_is t out after carried rest long e =
    let head = tunnel_head (packet_with t carried) in
    ap (λ (l : List ℕ). take 24 l ++ (carried ++ rest)) e ∙ ap (λ (l : List ℕ). l ++ (carried ++ rest)) (take_at head after 24 long) ∙ sym (append_assoc head carried rest)

pub held_is : (t : Tunnel) (carried rest octets : List ℕ) → TunnelFits (packet_with t carried) → t.from ≡ 24 → t.from ≤ t.to → length carried ≡ t.to - t.from
    → octets ≡ tunnel (packet_with t carried) ++ rest → held_at octets ≡ Ok t
held_is t carried rest octets fits from ordered n e =
    let p = packet_with t carried in
    let is : IsTunnel octets p = subst (λ (l : List ℕ). IsTunnel l p) (sym e) (tunnel_spelled p rest fits) in
    let total : total_of octets ≡ t.to = total_is octets p is ∙ omega (arith, n, from) in
    ap (λ (r : Result TunnelPacket IpFault). r >>= held octets) (tunnel_only octets p is)
    ∙ ap (λ (k : ℕ). (let r : Result Tunnel IpFault = Ok (record { src = t.src; dst = t.dst; ttl = t.ttl; inner = t.inner; from = 24; to = k }) in r)) total
    ∙ ap (λ (k : ℕ). (let r : Result Tunnel IpFault = Ok (record { src = t.src; dst = t.dst; ttl = t.ttl; inner = t.inner; from = k; to = t.to }) in r)) (sym from)

pub written_fits : (t : Tunnel) (carried : List ℕ) → length t.src.0 ≡ 4 → length t.dst.0 ≡ 4 → t.ttl < 256 → t.to - t.from ≤ 65511 → length carried ≡ t.to - t.from → TunnelFits (packet_with t carried)
written_fits t carried src dst ttl size n = record { src = src; dst = dst; ttl = ttl; size = omega (arith, size, n) }

pub packet_at : (octets : List ℕ) (kind : Kind) (src dst : Ipv4) (to : ℕ) → src.0 ≡ take 4 (drop 12 octets) → dst.0 ≡ take 4 (drop 16 octets) → to ≡ total_of octets → 24 ≤ total_of octets
    → packet_with (record { src = src; dst = dst; ttl = slice_index octets 8; inner = kind; from = 24; to = to }) (take (to - 24) (drop 24 octets)) ≡ tunnel_of kind octets
packet_at octets kind src dst to src-is dst-is to-is long =
    let made = λ (s d c : List ℕ). cells s d (slice_index octets 8) kind c in
    ap (λ (s : List ℕ). made s dst.0 (take (to - 24) (drop 24 octets))) src-is
    ∙ ap (λ (d : List ℕ). made (take 4 (drop 12 octets)) d (take (to - 24) (drop 24 octets))) dst-is
    ∙ ap (λ (c : List ℕ). made (take 4 (drop 12 octets)) (take 4 (drop 16 octets)) c)
    (ap (λ (n : ℕ). take (n - 24) (drop 24 octets)) to-is ∙ range_is octets (total_of octets) long)

pub heads_are : (t : Tunnel) (carried items header unsummed : List ℕ) (total checksum : ℕ) → length carried ≡ t.to - t.from → total ≡ 24 + (t.to - t.from)
    → unsummed ≡ ip_header plain_ip total t.ttl t.src t.dst 0 → checksum ≡ 65535 - ones_sum (word_sum unsummed)
    → header ≡ ip_header plain_ip total t.ttl t.src t.dst checksum → items ≡ (header ++ 0 ∷ 0 ∷ []) ++ big_bytes 2 (protocol_of t.inner)
    → items ≡ tunnel_head (packet_with t carried)
unfolding tunnel_head
heads_are t carried items header unsummed total checksum n total-is unsummed-is checksum-is header-is items-is =
    let size : total ≡ 24 + length carried = omega (arith, n, total-is) in
    let sum : checksum ≡ ip_checksum plain_ip total t.ttl t.src t.dst = checksum-is ∙ ap (λ (l : List ℕ). 65535 - ones_sum (word_sum l)) unsummed-is in
    items-is ∙ append_assoc header (0 ∷ 0 ∷ []) (big_bytes 2 (protocol_of t.inner))
    ∙ ap (λ (l : List ℕ). l ++ gre t.inner)
    (header-is ∙ ap (λ (k : ℕ). ip_header plain_ip total t.ttl t.src t.dst k) sum ∙ ap (λ (k : ℕ). ip_header plain_ip k t.ttl t.src t.dst (ip_checksum plain_ip k t.ttl t.src t.dst)) size)

-- ---- the header written anew in place

parts : (octets : List ℕ) (ttl sum : ℕ) (rest : List ℕ) → header_with octets ttl sum ++ rest ≡ take 8 octets ++ (ttl ∷ slice_index octets 9 ∷ (big_bytes 2 sum ++ (take 8 (drop 12 octets) ++ rest)))
parts octets ttl sum rest = append_assoc (take 8 octets) (ttl ∷ slice_index octets 9 ∷ (big_bytes 2 sum ++ take 8 (drop 12 octets))) rest

header_size : (octets : List ℕ) (ttl sum : ℕ) → 20 ≤ length octets → length (header_with octets ttl sum) ≡ 20
header_size octets ttl sum long =
    omega (arith, length-append (take 8 octets) (ttl ∷ slice_index octets 9 ∷ (big_bytes 2 sum ++ take 8 (drop 12 octets))), length-take 8 octets, length-take 8 (drop 12 octets), length-drop 12 octets)

-- a header that was written with one checksum, and again with another
twice : (octets first : List ℕ) (ttl sum : ℕ) → 20 ≤ length octets → first ≡ header_with octets ttl 0 ++ drop 20 octets → header_with first ttl sum ≡ header_with octets ttl sum
twice octets first ttl sum long e =
    let more = ttl ∷ slice_index octets 9 ∷ (big_bytes 2 0 ++ (take 8 (drop 12 octets) ++ drop 20 octets)) in
    let shape : first ≡ take 8 octets ++ more = e ∙ parts octets ttl 0 (drop 20 octets) in
    let eight : length (take 8 octets) ≡ 8 = omega (arith, length-take 8 octets) in
    let late : length (take 8 (drop 12 octets)) ≡ 8 = omega (arith, length-take 8 (drop 12 octets), length-drop 12 octets) in
    let front : take 8 first ≡ take 8 octets = ap (take 8) shape ∙ take_at (take 8 octets) more 8 eight in
    let behind : drop 8 first ≡ more = ap (drop 8) shape ∙ drop_at (take 8 octets) more 8 eight in
    let ninth : slice_index first 9 ≡ slice_index octets 9 = sym (get_or-drop 8 first 1 0) ∙ ap (λ (l : List ℕ). slice_index l 1) behind in
    let twelve : drop 12 first ≡ take 8 (drop 12 octets) ++ drop 20 octets = sym (drop-drop 4 8 first) ∙ ap (drop 4) behind in
    let addresses : take 8 (drop 12 first) ≡ take 8 (drop 12 octets) = ap (take 8) twelve ∙ take_at (take 8 (drop 12 octets)) (drop 20 octets) 8 late in
    ap (λ (l : List ℕ). l ++ (ttl ∷ slice_index first 9 ∷ (big_bytes 2 sum ++ take 8 (drop 12 first)))) front
    ∙ ap (λ (n : ℕ). take 8 octets ++ (ttl ∷ n ∷ (big_bytes 2 sum ++ take 8 (drop 12 first)))) ninth
    ∙ ap (λ (l : List ℕ). take 8 octets ++ (ttl ∷ slice_index octets 9 ∷ (big_bytes 2 sum ++ l))) addresses

behind_header : (octets : List ℕ) (total : ℕ) → 20 ≤ total → drop 20 octets ≡ drop 20 (take total octets) ++ drop total octets
behind_header octets total long =
    let n : total ≡ 20 + (total - 20) = omega arith in
    let inside : drop 20 (take total octets) ≡ take (total - 20) (drop 20 octets) = ap (λ (k : ℕ). drop 20 (take k octets)) n ∙ drop-take 20 (total - 20) octets in
    let after : drop total octets ≡ drop (total - 20) (drop 20 octets) = ap (λ (k : ℕ). drop k octets) n ∙ sym (drop-drop (total - 20) 20 octets) in
    sym (rw (inside, after) (take-append-drop (total - 20) (drop 20 octets)))

pub written_onward : (octets first last : List ℕ) (ttl sum : ℕ) → 20 ≤ total_of octets → total_of octets ≤ length octets → first ≡ header_with octets ttl 0 ++ drop 20 octets
    → sum ≡ 65535 - ones_sum (word_sum (take 20 first)) → last ≡ header_with first ttl sum ++ drop 20 first → last ≡ tunnel_on octets ttl ++ drop (total_of octets) octets
unfolding tunnel_on
written_onward octets first last ttl sum head whole first-is sum-is last-is =
    let long : 20 ≤ length octets = omega (arith, head, whole) in
    let size = header_size octets ttl 0 long in
    let front : take 20 first ≡ header_with octets ttl 0 = ap (take 20) first-is ∙ take_at (header_with octets ttl 0) (drop 20 octets) 20 size in
    let behind : drop 20 first ≡ drop 20 octets = ap (drop 20) first-is ∙ drop_at (header_with octets ttl 0) (drop 20 octets) 20 size in
    let checksum : sum ≡ 65535 - ones_sum (word_sum (header_with octets ttl 0)) = sum-is ∙ ap (λ (l : List ℕ). 65535 - ones_sum (word_sum l)) front in
    last-is ∙ ap (λ (l : List ℕ). l ++ drop 20 first) (twice octets first ttl sum long first-is ∙ ap (header_with octets ttl) checksum)
    ∙ ap (λ (l : List ℕ). header_with octets ttl (65535 - ones_sum (word_sum (header_with octets ttl 0))) ++ l) (behind ∙ behind_header octets (total_of octets) head)
    ∙ sym (append_assoc (header_with octets ttl (65535 - ones_sum (word_sum (header_with octets ttl 0)))) (drop 20 (take (total_of octets) octets)) (drop (total_of octets) octets))

pub onward_again : (octets new after rest : List ℕ) (t : TunnelPacket) (ttl : ℕ) → ttl < 256 → new ≡ tunnel_on octets ttl ++ after → IsTunnel octets t → tunnel_at (new ++ rest) ≡ Ok (record t { ttl = ttl })
onward_again octets new after rest t ttl small e is =
    ap (λ (l : List ℕ). tunnel_at (l ++ rest)) e ∙ ap tunnel_at (append_assoc (tunnel_on octets ttl) after rest)
    ∙ tunnel_only (tunnel_on octets ttl ++ (after ++ rest)) (record t { ttl = ttl }) (onward_is octets (after ++ rest) t ttl is small)

-- what stands in the octets once the heads are written
pub written_again : (t : Tunnel) (heads out after carried rest : List ℕ) → length heads ≡ 24 → heads ≡ tunnel_head (packet_with t carried) → out ≡ heads ++ after
    → TunnelFits (packet_with t carried) → tunnel_at (take 24 out ++ (carried ++ rest)) ≡ Ok (packet_with t carried)
written_again t heads out after carried rest long heads-is out-is fits =
    ap tunnel_at (written_is t out after carried rest (sym (ap length heads-is) ∙ long) (out-is ∙ ap (λ (l : List ℕ). l ++ after) heads-is))
    ∙ tunnel_again (packet_with t carried) rest fits

pub written_held : (t : Tunnel) (heads out after carried rest : List ℕ) → length heads ≡ 24 → heads ≡ tunnel_head (packet_with t carried) → out ≡ heads ++ after
    → TunnelFits (packet_with t carried) → t.from ≡ 24 → t.from ≤ t.to → length carried ≡ t.to - t.from → held_at (take 24 out ++ (carried ++ rest)) ≡ Ok t
written_held t heads out after carried rest long heads-is out-is fits from ordered n =
    held_is t carried rest (take 24 out ++ (carried ++ rest)) fits from ordered n
    (written_is t out after carried rest (sym (ap length heads-is) ∙ long) (out-is ∙ ap (λ (l : List ℕ). l ++ after) heads-is))

pub written_only : (t : Tunnel) (heads out after carried : List ℕ) (other : TunnelPacket) → length heads ≡ 24 → heads ≡ tunnel_head (packet_with t carried) → out ≡ heads ++ after
    → TunnelFits (packet_with t carried) → TunnelFits other → take 24 out ++ carried ≡ tunnel other → other ≡ packet_with t carried
written_only t heads out after carried other long heads-is out-is fits fits-other e =
    let is = written_is t out after carried [] (sym (ap length heads-is) ∙ long) (out-is ∙ ap (λ (l : List ℕ). l ++ after) heads-is) in
    let spelled : take 24 out ++ carried ≡ tunnel (packet_with t carried) = ap (λ (l : List ℕ). take 24 out ++ l) (sym (append-nil carried)) ∙ is ∙ append-nil (tunnel (packet_with t carried)) in
    tunnel_one other (packet_with t carried) fits-other fits (sym e ∙ spelled)
