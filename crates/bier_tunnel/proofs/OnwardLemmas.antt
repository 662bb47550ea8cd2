-- Tunnels go nearer to their ends with each link.
use Rattle.std.proofs.Common.{◌≡◌, ℕ, zero, suc, ◌+◌, ◌-◌, ◌<◌, ◌≤◌, ◌==◌, ◌↔◌, inl, inr, Bool, true, false, List, [], ◌∷◌, length, Contains, is_some, nat_le, Option, Some, None, IfSome, option_map, option_and_then, if◌then◌else◌, slice_get, refl, ap, arith, sym, ◌∙◌, subst}
use Rattle.std.specs.List.{AllByRecursion}
use Rattle.std.specs.Str.{bytes_eq}
use Rattle.std.proofs.lemmas.Bool.{cases_Bool, ne_eqb}
use Rattle.std.proofs.lemmas.Bool.Decides.{eqb_tells}
use Rattle.std.proofs.lemmas.Option.{same_Some}
use Rattle.wire_base.specs.declared.addresses.Ipv4.{Ipv4}
use Rattle.wire_base.specs.declared.addresses.SystemId.{SystemId}
use Rattle.wire_base.specs.declared.cause.Cause.TheVariants as cause
use Rattle.wire_base.specs.declared.conf.End.{End}
use Rattle.wire_base.specs.declared.conf.RouterConf.{RouterConf}
use Rattle.wire_base.specs.declared.view.ViewEdge.{ViewEdge}
use Rattle.wire_base.specs.declared.view.ViewNode.{ViewNode}
use Rattle.wire_base.specs.model.Choice.{end_toward, is_system}
use Rattle.wire_base.specs.model.Graph.{IsGraph, edges_of}
use Rattle.wire_base.specs.model.HopCount.{follow, tunnel_links}
use Rattle.wire_base.specs.model.Item.{ip_frame}
use Rattle.wire_base.specs.model.OnFrame.{dropped, forwarded, link_to, next_link, node_with, or_no_route, outer_ttl, sent_on}
use Rattle.wire_base.specs.model.Tight.{IsTight, next_step}
use Rattle.wire_base.specs.model.Tunnel.{TunnelPacket, tunnel_on}
use Rattle.wire_base.specs.model.Walk.{dist}
use Rattle.laws_route.proofs.DescentLemmas.{IsTight-nearer, dist-end, edge-within}
use Rattle.laws_route.proofs.RouteLemmas.{next_step-some, next_step-tight, tunnel_links-some}
use Rattle.laws_route.proofs.WalkLemmas.{Contains-cases}
use Rattle.gre_ip.specs.declared.tunnel.Tunnel.{Tunnel}
use Rattle.bier_tunnel.specs.declared.next.Next.{Next}
use Rattle.bier_tunnel.specs.declared.next.Next.TheVariants.{Leave, Outer, Route}
use Rattle.bier_tunnel.specs.Onward.{GoesOver, IsNoWay, IsNoWayTo, Lasts, LeadsOver, LeadsToEnds, passed_on}
use Rattle.bier_tunnel.specs.Ways.{next_of, next_on}

-- ---- ends

-- an end toward a system is one of the ends
end-within : (ends : List End) (s : SystemId) (link : ℕ) → end_toward ends s ≡ Some link → link < length ends
end-within [] s link q = cc
end-within (e ∷ es) s link q =
    elim (cases_Bool (is_system e.peer s)) [
      | inl h ↦ let first : 0 ≡ link = same_Some 0 link (rw h at q) in omega arith
      | inr h ↦ later (end_toward es s) (λ n. end-within es s n) (rw h at q)
    ]
  where
    later : (o : Option ℕ) → ((n : ℕ) → o ≡ Some n → n < length es) → option_map (λ n. n + 1) o ≡ Some link → link < length (e ∷ es)
    later None k p = cc
    later (Some n) k p = let r = k n refl in omega (arith, same_Some (n + 1) link p)

link-node : (r : RouterConf) (g : List ViewNode) (y link : ℕ) → link_to r g y ≡ Some link → link < length r.ends
link-node r g y link q = at (slice_get g y) q
  where
    at : (o : Option ViewNode) → option_and_then (λ n. end_toward r.ends n.system) o ≡ Some link → link < length r.ends
    at None p = cc
    at (Some n) p = end-within r.ends n.system link p

-- a link on the way goes over a first step
stepped : (r : RouterConf) (g : List ViewNode) (u x link : ℕ) → next_link r g u x ≡ Some link → (y : ℕ) × (next_step g x u ≡ Some y) × (link_to r g y ≡ Some link)
stepped r g u x link q = at (next_step g x u) refl q
  where
    at : (o : Option ℕ) → next_step g x u ≡ o → option_and_then (link_to r g) o ≡ Some link → (y : ℕ) × (next_step g x u ≡ Some y) × (link_to r g y ≡ Some link)
    at None h p = cc
    at (Some y) h p = (y, h, p)

pub link-within : (r : RouterConf) (g : List ViewNode) (u x link : ℕ) → next_link r g u x ≡ Some link → link < length r.ends
link-within r g u x link q = let s = stepped r g u x link q in link-node r g s.0 link s.2

pub result-within : (r : RouterConf) (g : List ViewNode) (u x : ℕ) (o : Option ℕ) → o ≡ next_link r g u x → IfSome o (λ link. link < length r.ends)
result-within r g u x None q = tt
result-within r g u x (Some link) q = link-within r g u x link (sym q)

-- ---- one step less

-- one more where the rest has more
mapped-more : (o more : Option ℕ) (n : ℕ) → ((m : ℕ) → o ≡ Some m → more ≡ Some m) → option_map (λ n. n + 1) o ≡ Some n → option_map (λ n. n + 1) more ≡ Some n
mapped-more None more n keeps p = cc
mapped-more (Some m) more n keeps p = ap (option_map (λ n. n + 1)) (keeps m refl) ∙ p

then-more : (o : Option ℕ) (f h : ℕ → Option ℕ) (n : ℕ) → ((x m : ℕ) → f x ≡ Some m → h x ≡ Some m) → option_and_then (λ x. option_map (λ n. n + 1) (f x)) o ≡ Some n
    → option_and_then (λ x. option_map (λ n. n + 1) (h x)) o ≡ Some n
then-more None f h n keeps p = cc
then-more (Some x) f h n keeps p = mapped-more (f x) (h x) n (keeps x) p

follow-more : (next : ℕ → Option ℕ) (ends : ℕ → Bool) (k u n : ℕ) → follow next ends k u ≡ Some n → follow next ends (suc k) u ≡ Some n
follow-more next ends zero u n q = elim (cases_Bool (ends u)) [ inl h ↦ rw h (rw h at q) | inr h ↦ absurd (let p = rw h at q in cc) ]
follow-more next ends (suc k) u n q =
    elim (cases_Bool (ends u)) [
      | inl h ↦ rw h (rw h at q)
      | inr h ↦ rw h (then-more (next u) (follow next ends k) (follow next ends (suc k)) n (λ x m. follow-more next ends k x m) (rw h at q))
    ]

follow-step : (next : ℕ → Option ℕ) (ends : ℕ → Bool) (k u y h : ℕ) → ends u ≡ false → next u ≡ Some y → follow next ends k u ≡ Some h → (left : ℕ) × (h ≡ left + 1) × (follow next ends k y ≡ Some left)
follow-step next ends zero u y h apart step q = absurd (let p = rw apart at q in cc)
follow-step next ends (suc k) u y h apart step q = on (follow next ends k y) refl (rw (apart, step) at q)
  where
    on : (o : Option ℕ) → follow next ends k y ≡ o → option_map (λ n. n + 1) o ≡ Some h → (left : ℕ) × (h ≡ left + 1) × (follow next ends (suc k) y ≡ Some left)
    on None e p = cc
    on (Some left) e p = (left, sym (same_Some (left + 1) h p), follow-more next ends k y left e)

module _ (g : List ViewNode) (good : IsGraph g) (u : ℕ) (node : u < length g) where
  -- no step leads on from u toward u
  tight-apart : (x v : ℕ) → IsTight g x u v → u ≡ x → ⊥
  tight-apart x v t e =
      let nothing : t.edge.metric + t.rest ≡ 0 = same_Some (t.edge.metric + t.rest) 0 (sym t.whole ∙ ap (dist g u) (sym e) ∙ dist-end g u) in
      omega (arith, nothing, (edge-within g good u t.edge t.leaves).positive)

  pub leads-over : (r : RouterConf) (x link : ℕ) → next_link r g u x ≡ Some link → LeadsOver r g u x link
  unfolding tunnel_links
  leads-over r x link q =
      let s = stepped r g u x link q in
      let t = next_step-tight g good x u s.0 node s.1 in
      let links = tunnel_links-some g good x u (t.edge.metric + t.rest) node t.whole in
      let less = follow-step (next_step g x) (λ z. z == x) (length g) u s.0 links.0 (ne_eqb u x (tight-apart x s.0 t)) s.1 links.1 in
      record {
        next = s.0;
        step = t;
        over = s.2;
        nearer = IsTight-nearer g good x u s.0 t;
        left = less.0;
        here = links.1 ∙ ap Some less.1;
        there = less.2;
        few = omega (arith, links.2, less.1);
      }

  pub result-over : (r : RouterConf) (x : ℕ) (o : Option ℕ) → o ≡ next_link r g u x → IfSome o (LeadsOver r g u x)
  result-over r x None q = tt
  result-over r x (Some link) q = leads-over r x link (sym q)

  -- few nodes have few links between them
  pub result-lasts : (r : RouterConf) (x : ℕ) (o : Option ℕ) → length g ≤ outer_ttl + 1 → o ≡ next_link r g u x → IfSome o (λ link. Lasts g u x)
  result-lasts r x None few q = tt
  result-lasts r x (Some link) few q = let over = leads-over r x link (sym q) in record { links = over.left + 1; are = over.here; few = omega (arith, few, over.few) }

  -- ---- no way

  by-recursion : (P : ViewEdge → Type 0) (es : List ViewEdge) (e : ViewEdge) → AllByRecursion P es → Contains es e → P e
  by-recursion P [] e all (k, l, q) = absurd (omega arith)
  by-recursion P (x ∷ es) e all h = elim (Contains-cases x es e h) [ inl q ↦ subst P q all.0 | inr m ↦ by-recursion P es e all.1 m ]

  no-link : (r : RouterConf) (x : ℕ) → LeadsToEnds r g u → next_link r g u x ≡ None → IsNoWay g u x
  no-link r x leads q =
      elim (eqb_tells x u) [
        | inl h ↦ inl h.1
        | inr h ↦ inr (none (dist g u x) refl (λ e. h.1 (sym e)))
      ]
    where
      some-none : (o : Option ℕ) → is_some o ≡ true → o ≡ None → ⊥
      some-none None s n = cc
      some-none (Some v) s n = cc

      none : (o : Option ℕ) → dist g u x ≡ o → (u ≡ x → ⊥) → dist g u x ≡ None
      none None d apart = d
      none (Some n) d apart =
          let s = next_step-some g good x u n node apart d in
          let t = next_step-tight g good x u s.0 node s.1 in
          let known : is_some (link_to r g s.0) ≡ true = ap (λ (y : ℕ). is_some (link_to r g y)) (sym t.enters) ∙ by-recursion (λ e. is_some (link_to r g e.to) ≡ true) (edges_of g u) t.edge leads t.leaves in
          absurd (some-none (link_to r g s.0) known (sym (ap (option_and_then (link_to r g)) s.1) ∙ q))

  no-step : (x : ℕ) → IsNoWay g u x → (o : Option ℕ) → next_step g x u ≡ o → o ≡ None
  no-step x way None h = refl
  no-step x (inl e) (Some v) h = absurd (tight-apart x v (next_step-tight g good x u v node h) (sym e))
  no-step x (inr n) (Some v) h = absurd (let w = sym n ∙ (next_step-tight g good x u v node h).whole in cc)

  pub no-way : (r : RouterConf) (x : ℕ) → LeadsToEnds r g u → ((next_link r g u x ≡ None) ↔ IsNoWay g u x)
  no-way r x leads = (no-link r x leads, λ way. ap (option_and_then (link_to r g)) (no-step x way (next_step g x u) refl))

  pub no-way-to : (r : RouterConf) → LeadsToEnds r g u → (o : Option ℕ) → ((option_and_then (next_link r g u) o ≡ None) ↔ IsNoWayTo g u o)
  no-way-to r leads None = (λ q. tt, λ t. refl)
  no-way-to r leads (Some x) = no-way r x leads

-- ---- what becomes of a packet

next-within : (ttl : ℕ) (o : Option ℕ) (P : ℕ → Type 0) → IfSome o P → GoesOver P (next_on ttl o)
next-within ttl None P h = tt
next-within ttl (Some link) P h = h

pub of-within : (own : Ipv4) (t : Tunnel) (o : Option ℕ) (P : ℕ → Type 0) → IfSome o P → GoesOver P (next_of own t o)
of-within own t o P h =
    elim (cases_Bool (bytes_eq t.dst.0 own.0)) [
      | inl q ↦ rw q tt
      | inr q ↦ rw q (elim (cases_Bool (nat_le t.ttl 1)) [ inl p ↦ rw p tt | inr p ↦ rw p (next-within t.ttl o P h) ])
    ]

pub to-within : (r : RouterConf) (g : List ViewNode) (u : ℕ) (o : Option ℕ) → IfSome (option_and_then (next_link r g u) o) (λ link. link < length r.ends)
to-within r g u None = tt
to-within r g u (Some x) = result-within r g u x (next_link r g u x) refl

passed : (r : RouterConf) (octets : List ℕ) (ttl : ℕ) (o : Option ℕ)
    → passed_on r octets (next_on ttl o) ≡ or_no_route (sent_on r o (λ e. ip_frame e.peer_mac e.own_mac (tunnel_on octets (ttl - 1))))
passed r octets ttl None = refl
passed r octets ttl (Some link) = refl

-- in transit it is dropped where its time to live ends, and else forwarded
pub in-transit : (r : RouterConf) (g : List ViewNode) (u : ℕ) (octets : List ℕ) (own : Ipv4) (t : Tunnel) (p : TunnelPacket) (next : Next) → p.dst ≡ t.dst → p.ttl ≡ t.ttl → bytes_eq t.dst.0 own.0 ≡ false
    → next ≡ next_of own t (option_and_then (next_link r g u) (node_with g t.dst)) → (if nat_le p.ttl 1 then dropped cause.Outer else forwarded r g u octets p) ≡ passed_on r octets next
in-transit r g u octets own t p next dst ttl other is =
    let way = option_and_then (next_link r g u) (node_with g t.dst) in
    let onward = λ (d : Ipv4) (n : ℕ). or_no_route (sent_on r (option_and_then (next_link r g u) (node_with g d)) (λ e. ip_frame e.peer_mac e.own_mac (tunnel_on octets (n - 1)))) in
    let transit = λ (d : Ipv4) (n : ℕ). if nat_le n 1 then dropped cause.Outer else onward d n in
    let next-is = rw other at is in
    ap (λ (d : Ipv4). transit d p.ttl) dst ∙ ap (transit t.dst) ttl
    ∙ elim (cases_Bool (nat_le t.ttl 1)) [
      | inl h ↦ rw h (sym (ap (passed_on r octets) (rw h at next-is)))
      | inr h ↦ rw h (sym (passed r octets t.ttl way) ∙ sym (ap (passed_on r octets) (rw h at next-is)))
    ]

-- where it neither leaves nor ends, there is no route exactly where there is no way
on-route : (ttl : ℕ) (o : Option ℕ) → next_on ttl o ≡ Route → o ≡ None
on-route ttl None q = refl
on-route ttl (Some link) q = cc

pub no-route : (own : Ipv4) (t : Tunnel) (o : Option ℕ) (next : Next) → next ≡ next_of own t o → (next ≡ Leave → ⊥) → (next ≡ Outer → ⊥) → (next ≡ Route) ↔ (o ≡ None)
no-route own t o next is stays lives =
    elim (cases_Bool (bytes_eq t.dst.0 own.0)) [
      | inl h ↦ absurd (stays (rw h at is))
      | inr h ↦
          elim (cases_Bool (nat_le t.ttl 1)) [
            | inl k ↦ absurd (lives (rw k at (rw h at is)))
            | inr k ↦
                let on = rw k at (rw h at is) in
                (λ q. on-route t.ttl o (sym on ∙ q), λ none. on ∙ ap (next_on t.ttl) none)
          ]
    ]
