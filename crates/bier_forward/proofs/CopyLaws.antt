-- A copy: its header, and the way that it goes.
use Rattle.std.proofs.Common.{◌≡◌, ℕ, suc, ◌+◌, ◌*◌, ◌/◌, ◌%◌, ◌^◌, Bool, true, false, List, [], ◌∷◌, ◌++◌, map, Option, Some, None, option_and_then, option_map, slice_get, is_some, refl, sym, ap, subst, ◌∙◌, if◌then◌else◌, arith}
use Rattle.byteorder.specs.Endian.{big_bytes}
use Rattle.wire_base.specs.declared.addresses.Ipv4.{Ipv4}
use Rattle.wire_base.specs.declared.addresses.SystemId.{SystemId}
use Rattle.wire_base.specs.declared.cause.Cause.{Cause}
use Rattle.wire_base.specs.declared.cause.Cause.TheVariants as cause
use Rattle.wire_base.specs.declared.conf.End.{End}
use Rattle.wire_base.specs.declared.conf.Kind.{Kind}
use Rattle.wire_base.specs.declared.conf.RouterConf.{RouterConf}
use Rattle.wire_base.specs.declared.effects.Got.{Got}
use Rattle.wire_base.specs.declared.triple.Triple.{Triple}
use Rattle.wire_base.specs.declared.view.First.{First}
use Rattle.wire_base.specs.declared.view.ViewNode.{ViewNode}
use Rattle.wire_base.specs.model.BierHeader.{BierHeader, header_octets, second_word, third_word}
use Rattle.wire_base.specs.model.BitSet.{IsWithin, octets_of}
use Rattle.wire_base.specs.model.Choice.{end_toward, is_direct}
use Rattle.wire_base.specs.model.Control.{same_system}
use Rattle.wire_base.specs.model.Graph.{node_bift}
use Rattle.wire_base.specs.model.Hop as hops
use Rattle.wire_base.specs.model.Item as item
use Rattle.wire_base.specs.model.OnFrame.{Effects, Packet, node_place, copy_of, copy_sent, delivery, direct_copy, link_to, next_link, one_drop, one_sent, or_drop, positions_in, prefix_of, sent_on, tunnel_copy}
use Rattle.wire_base.specs.model.Place.{bits_of, id_at}
use Rattle.bier_head.specs.declared.header.HeaderFields.{HeaderFields}
use Rattle.bier_head.specs.Views.{fields_with}
use Rattle.bier_hop.specs.declared.out.Out.{Out}
use Rattle.bier_hop.specs.declared.out.Out.TheVariants.{Dropped}
use Rattle.bier_hop.specs.declared.out.Why.{Why}
use Rattle.bier_hop.specs.declared.out.Why.TheVariants.{NoRow, Ttl}
use Rattle.bier_hop.specs.Outcomes.{drop_outcome, outcome}
use Rattle.bier_forward.specs.declared.ways.Way.{Way}
use Rattle.bier_forward.proofs.IdLaws.{bit-at}
use Rattle.bier_forward.specs.Hops.{IsNext, bift_toward, cause_of, copy_head, copy_octets, frame_in, given, node_in, place_of, way_at, way_by, way_on}

-- ---- the header

pub head_written : (p : Packet) (t : Triple) (kind : Kind) (h : HeaderFields) (set payload : List ℕ) (bift ttl : ℕ) (positions out : List ℕ)
    → (let q : Packet = record { triple = t; kind = kind; header = fields_with h set; payload = payload } in q ≡ p)
    → out ≡ header_octets (record (fields_with h positions) { bift = bift; ttl = ttl }) → out ≡ copy_head p bift positions ttl
unfolding copy_head
head_written p t kind h set payload bift ttl positions out view out_is = subst (λ (q : Packet). out ≡ copy_head q bift positions ttl) view out_is

-- ---- numbers of 20 bits

-- a header has room for the lowest 20 bits of a BIFT-id
low-word : (b x y z : ℕ) → big_bytes 4 (b * 2 ^ 12 + x + y + z) ≡ big_bytes 4 (b % 2 ^ 20 * 2 ^ 12 + x + y + z)
low-word b x y z = ap (big_bytes 4) split ∙ high (b % 2 ^ 20 * 2 ^ 12 + x + y + z) (b / 2 ^ 20)
  where
    split : b * 2 ^ 12 + x + y + z ≡ b % 2 ^ 20 * 2 ^ 12 + x + y + z + b / 2 ^ 20 * 2 ^ 32
    split = omega arith

    high : (v q : ℕ) → big_bytes 4 (v + q * 2 ^ 32) ≡ big_bytes 4 v
    high v q =
        let one : (v + q * 2 ^ 32) / 16777216 % 256 ≡ v / 16777216 % 256 = omega arith in
        let two : (v + q * 2 ^ 32) / 65536 % 256 ≡ v / 65536 % 256 = omega arith in
        let three : (v + q * 2 ^ 32) / 256 % 256 ≡ v / 256 % 256 = omega arith in
        let four : (v + q * 2 ^ 32) % 256 ≡ v % 256 = omega arith in
        rw (one, two, three, four) refl

low-head : (p : Packet) (b : ℕ) (ps : List ℕ) (ttl : ℕ) → copy_head p b ps ttl ≡ copy_head p (b % 2 ^ 20) ps ttl
unfolding copy_head
low-head p b ps ttl = ap (λ (front : List ℕ). front ++ rest) (low-word b (p.header.tc * 2 ^ 9) ((if p.header.s then 1 else 0) * 2 ^ 8) ttl)
  where
    h : BierHeader
    h = record p.header { bift = b; ttl = ttl; positions = ps }

    rest : List ℕ
    rest = big_bytes 4 (second_word h) ++ (big_bytes 4 (third_word h) ++ octets_of (bits_of h.bsl / 8) h.positions)

-- ---- nodes

pub node-at-place : (g : List ViewNode) (s : SystemId) → node_in g s ≡ slice_get g (node_place g s)
node-at-place [] s = refl
node-at-place (n ∷ g) s = by (same_system n.system s) (node-at-place g s)
  where
    by : (b : Bool) → node_in g s ≡ slice_get g (node_place g s) → (if b then Some n else node_in g s) ≡ slice_get (n ∷ g) (if b then 0 else 1 + node_place g s)
    by true more = refl
    by false more = let e : suc (node_place g s) ≡ 1 + node_place g s = omega arith in more ∙ ap (λ (k : ℕ). slice_get (n ∷ g) k) e

-- ---- positions

-- the positions of the BFR-ids at positions are these
pub positions-back : (t : Triple) (low : ℕ) (ps : List ℕ) → IsWithin low (bits_of t.bsl) ps → item.positions_of t (map (id_at t) ps) ≡ ps
positions-back t low [] within = refl
positions-back t low (p ∷ ps) within =
    ap (λ (q : ℕ). q ∷ item.positions_of t (map (id_at t) ps)) (bit-at t.bsl t.si p (omega (arith, within.0)) within.1)
    ∙ ap (λ (qs : List ℕ). p ∷ qs) (positions-back t p ps within.2)

-- ---- ways

-- what a copy comes to on a way
done : RouterConf → Packet → List ℕ → ℕ → Option Way → Effects
done r p ps ttl None = one_drop cause.NoRow (Some (record { triple = p.triple; positions = ps }))
done r p ps ttl (Some w) = one_sent w.link (frame_in r p w.end (copy_octets p w.bift ps ttl) w.tunnel)

-- the end of a router that is reached directly leads to it
link-of : (r : RouterConf) (g : List ViewNode) (f : First) → IsNext r g f → is_direct g (node_place g r.system) (place_of g f) ≡ true → link_to r g (place_of g f) ≡ f.direct
link-of r g f is direct = by (slice_get g (place_of g f)) (sym (ap (λ (b : Bool). named b (slice_get g (place_of g f))) direct) ∙ is.named)
  where
    named : Bool → Option ViewNode → Option First
    named b o = option_map (λ n. record { system = n.system; direct = if b then end_toward r.ends n.system else None }) o

    by : (o : Option ViewNode) → named true o ≡ Some f → option_and_then (λ n. end_toward r.ends n.system) o ≡ f.direct
    by None e = cc
    by (Some n) e = same (record { system = n.system; direct = end_toward r.ends n.system }) f e
      where
        same : (a b : First) → Some a ≡ Some b → a.direct ≡ b.direct
        same a b e = cc

-- a copy to a router
copy-done : (r : RouterConf) (g : List ViewNode) (p : Packet) (f : First) (ps : List ℕ) (ttl : ℕ) → IsNext r g f → IsWithin 0 (bits_of p.triple.bsl) ps
    → given r g p (hops.Copy (place_of g f) ps ttl) ≡ done r p ps ttl (way_at r g p.triple f)
unfolding done copy_head
copy-done r g p f ps ttl is within =
    ap (λ (o : Option ViewNode). or_drop p ids (option_and_then (λ bift. copy_sent r g u p x (copy_of p bift ids ttl)) (option_and_then (node_bift r.kinds r.table p.triple) o))) (sym (node-at-place g f.system))
    ∙ by (bift_toward r g p.triple f.system)
  where
    u : ℕ
    u = node_place g r.system

    x : ℕ
    x = place_of g f

    ids : List ℕ
    ids = map (id_at p.triple) ps

    back : item.positions_of p.triple ids ≡ ps
    back = positions-back p.triple 0 ps within

    none : one_drop cause.NoRow (Some (positions_in p ids)) ≡ done r p ps ttl None
    none = ap (λ (qs : List ℕ). one_drop cause.NoRow (Some (record { triple = p.triple; positions = qs }))) back

    octets : (b : ℕ) → copy_of p b ids ttl ≡ copy_octets p (b % 2 ^ 20) ps ttl
    octets b = ap (λ (qs : List ℕ). header_octets (record p.header { bift = b; ttl = ttl; positions = qs }) ++ p.payload) back ∙ ap (λ (head : List ℕ). head ++ p.payload) (low-head p b ps ttl)

    on_end : (b k : ℕ) (tunnel : Option Ipv4) (e : Option End) → or_drop p ids (option_map (λ e. one_sent k (frame_in r p e (copy_of p b ids ttl) tunnel)) e)
        ≡ done r p ps ttl (option_map (λ e. record { link = k; end = e; bift = b % 2 ^ 20; tunnel = tunnel }) e)
    on_end b k tunnel None = none
    on_end b k tunnel (Some e) = ap (λ (os : List ℕ). one_sent k (frame_in r p e os tunnel)) (octets b)

    toward : (b : ℕ) (dst : Ipv4) (l : Option ℕ) → or_drop p ids (sent_on r l (λ e. frame_in r p e (copy_of p b ids ttl) (Some dst)))
        ≡ done r p ps ttl (option_and_then (way_on r (b % 2 ^ 20) (Some dst)) l)
    toward b dst None = none
    toward b dst (Some k) = on_end b k (Some dst) (slice_get r.ends k)

    in_tunnel : (b : ℕ) (o : Option Ipv4) → or_drop p ids (option_and_then (λ dst. sent_on r (next_link r g u x) (λ e. frame_in r p e (copy_of p b ids ttl) (Some dst))) o)
        ≡ done r p ps ttl (option_and_then (λ dst. option_and_then (way_on r (b % 2 ^ 20) (Some dst)) (next_link r g u x)) o)
    in_tunnel b None = none
    in_tunnel b (Some dst) = toward b dst (next_link r g u x)

    either : ℕ → Bool → Effects
    either b d = or_drop p ids (if d then direct_copy r g p x (copy_of p b ids ttl) else tunnel_copy r g u p x (copy_of p b ids ttl))

    by_link : (b : ℕ) (l : Option ℕ) → f.direct ≡ l → either b (is_direct g u x) ≡ done r p ps ttl (way_by r g p.triple f (b % 2 ^ 20) l)
    by_link b None e = ap (either b) (is.direct ∙ ap is_some e) ∙ in_tunnel b (prefix_of g p.triple.sd x)
    by_link b (Some k) e =
        let direct : is_direct g u x ≡ true = is.direct ∙ ap is_some e in
        ap (either b) direct ∙ ap (λ (l : Option ℕ). or_drop p ids (sent_on r l (λ e. frame_in r p e (copy_of p b ids ttl) None))) (link-of r g f is direct ∙ e)
        ∙ on_end b k None (slice_get r.ends k)

    by : (o : Option ℕ) → or_drop p ids (option_and_then (λ bift. copy_sent r g u p x (copy_of p bift ids ttl)) o)
        ≡ done r p ps ttl (option_and_then (λ bift. way_by r g p.triple f (bift % 2 ^ 20) f.direct) o)
    by None = none
    by (Some b) = by_link b f.direct refl

pub way-none : (r : RouterConf) (g : List ViewNode) (p : Packet) (f : First) (ps : List ℕ) (ttl : ℕ) (t : Triple) → t ≡ p.triple → IsNext r g f → IsWithin 0 (bits_of p.triple.bsl) ps
    → None ≡ way_at r g t f → one_drop cause.NoRow (Some (record { triple = t; positions = ps })) ≡ given r g p (hops.Copy (place_of g f) ps ttl)
unfolding done
way-none r g p f ps ttl t same is within none =
    ap (λ (s : Triple). one_drop cause.NoRow (Some (record { triple = s; positions = ps }))) same
    ∙ ap (done r p ps ttl) (none ∙ ap (λ (s : Triple). way_at r g s f) same)
    ∙ sym (copy-done r g p f ps ttl is within)

pub way-some : (r : RouterConf) (g : List ViewNode) (p : Packet) (f : First) (ps : List ℕ) (ttl : ℕ) (t : Triple) (w : Way) (octets : List ℕ) → t ≡ p.triple → IsNext r g f → IsWithin 0 (bits_of p.triple.bsl) ps
    → Some w ≡ way_at r g t f → octets ≡ frame_in r p w.end (copy_octets p w.bift ps ttl) w.tunnel
    → one_sent w.link octets ≡ given r g p (hops.Copy (place_of g f) ps ttl)
unfolding done
way-some r g p f ps ttl t w octets same is within some frame =
    ap (one_sent w.link) frame
    ∙ ap (done r p ps ttl) (some ∙ ap (λ (s : Triple). way_at r g s f) same)
    ∙ sym (copy-done r g p f ps ttl is within)

-- ---- drops

-- the positions of a drop are those that are dropped
drop-back : (r : RouterConf) (g : List ViewNode) (p : Packet) (number : First → ℕ) (set : List ℕ) (why : Why) → IsWithin 0 (bits_of p.triple.bsl) set
    → one_drop (cause_of why) (Some (record { triple = p.triple; positions = set })) ≡ given r g p (drop_outcome set why)
drop-back r g p number set NoRow within = ap (λ (qs : List ℕ). one_drop cause.NoRow (Some (record { triple = p.triple; positions = qs }))) (sym (positions-back p.triple 0 set within))
drop-back r g p number set Ttl within = ap (λ (qs : List ℕ). one_drop cause.Ttl (Some (record { triple = p.triple; positions = qs }))) (sym (positions-back p.triple 0 set within))

pub drop-is : {w : ℕ} (r : RouterConf) (g : List ViewNode) (p : Packet) (number : First → ℕ) (out : Out w) (set ps : List ℕ) (why : Why) (t : Triple) (c : Cause)
    → out ≡ Dropped set why → t ≡ p.triple → ps ≡ set → IsWithin 0 (bits_of t.bsl) ps → c ≡ cause_of why
    → one_drop c (Some (record { triple = t; positions = ps })) ≡ given r g p (outcome number out)
drop-is {w} r g p number out set ps why t c is same positions within why_is =
    let there = subst (λ (s : Triple). IsWithin 0 (bits_of s.bsl) set) same (subst (IsWithin 0 (bits_of t.bsl)) positions within) in
    rw (why_is, positions, same) (drop-back r g p number set why there) ∙ ap (λ (o : Out w). given r g p (outcome number o)) (sym is)

-- ---- deliveries

pub got-is : (p : Packet) (t : Triple) (kind : Kind) (h : BierHeader) (payload : List ℕ) (bp id : ℕ) (octets : List ℕ)
    → (let q : Packet = record { triple = t; kind = kind; header = h; payload = payload } in q ≡ p)
    → id ≡ id_at t bp → octets ≡ payload
    → (let got : Got = record { sd = t.sd; id = id; bfir = h.bfir; entropy = h.entropy; proto = h.proto; payload = octets } in got ≡ delivery p (id_at p.triple bp))
got-is p t kind h payload bp id octets view is same =
    subst (λ (q : Packet). (let got : Got = record { sd = t.sd; id = id; bfir = h.bfir; entropy = h.entropy; proto = h.proto; payload = octets } in got ≡ delivery q (id_at q.triple bp))) view (rw (is, same) refl)
