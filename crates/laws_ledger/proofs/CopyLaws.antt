-- What becomes of a copy of a packet: it goes over an end, or is dropped where no way leads on.
use Rattle.std.proofs.Common.{◌≡◌, ◌⊎◌, inl, inr, ℕ, ◌-◌, Bool, true, false, if◌then◌else◌, List, [], ◌∷◌, slice_get, Option, Some, None, option_map, option_and_then, refl, sym, ap, ◌∙◌}
use mathlib.Core.Bool.{true≢false}
use Rattle.wire_base.specs.declared.addresses.Ipv4.{Ipv4}
use Rattle.wire_base.specs.declared.cause.Cause.TheVariants as cause
use Rattle.wire_base.specs.declared.conf.End.{End}
use Rattle.wire_base.specs.declared.conf.RouterConf.{RouterConf}
use Rattle.wire_base.specs.declared.triple.Triple.{Triple}
use Rattle.wire_base.specs.declared.view.ViewNode.{ViewNode}
use Rattle.wire_base.specs.model.Choice.{is_direct}
use Rattle.wire_base.specs.model.Item.{PacketItem, DataItem, Outer}
use Rattle.wire_base.specs.model.OnFrame.{link_to, next_link, bift_at, prefix_of, outer_ttl, node_with}
use Rattle.domain_model.specs.Moves.{Made, none_made, over_end, packet_lost, copy_over, copied_directly, copied_in_tunnel, copied_to, or_lost, item_copied, or_no_route, sent_onward}

abbrev pub one_sent : List RouterConf → ℕ → ℕ → DataItem → Made
one_sent confs a link x = record none_made { sent = over_end confs a link (PacketItem x) ∷ [] }

-- a tunnel to the prefix that the view has for a node
pub record IsFarWay (r : RouterConf) (g : List ViewNode) (u sd y link : ℕ) (outer : Option Outer) : Type 0 where
  pub far : is_direct g u y ≡ false
  pub next : next_link r g u y ≡ Some link
  pub dst : Ipv4
  pub prefix : prefix_of g sd y ≡ Some dst
  pub outer_is : outer ≡ Some (record { src = r.prefix; dst = dst; ttl = outer_ttl })

pub record IsNearWay (r : RouterConf) (g : List ViewNode) (u y link : ℕ) (outer : Option Outer) : Type 0 where
  pub near : is_direct g u y ≡ true
  pub toward : link_to r g y ≡ Some link
  pub outer_is : outer ≡ None

-- an end that leads to the node y, directly or by a tunnel, and the BIFT-id there
pub record HasWay (r : RouterConf) (g : List ViewNode) (u : ℕ) (t : Triple) (y : ℕ) : Type 0 where
  pub link : ℕ
  pub end : End
  pub there : slice_get r.ends link ≡ Some end
  pub bift : ℕ
  pub bift_is : bift_at r g t y ≡ Some bift
  pub outer : Option Outer
  pub leads : IsNearWay r g u y link outer ⊎ IsFarWay r g u t.sd y link outer

pub record IsCopySent (confs : List RouterConf) (a : ℕ) (r : RouterConf) (g : List ViewNode) (u : ℕ) (x : DataItem) (y : ℕ) (ks : List ℕ) (ttl : ℕ) (m : Made) : Type 0 where
  pub way : HasWay r g u x.triple y
  pub is : m ≡ one_sent confs a way.link (record x { bift = way.bift; ids = ks; ttl = ttl; outer = way.outer })

pub record IsCopyLost (a : ℕ) (r : RouterConf) (g : List ViewNode) (u : ℕ) (x : DataItem) (y : ℕ) (ks : List ℕ) (m : Made) : Type 0 where
  pub none : HasWay r g u x.triple y → ⊥
  pub is : m ≡ packet_lost a x cause.NoRow ks

module _ (confs : List RouterConf) (a : ℕ) (r : RouterConf) (g : List ViewNode) (u : ℕ) (x : DataItem) (y : ℕ) (ks : List ℕ) (ttl : ℕ) where
  abbrev Done : Made → Type 0
  Done m = IsCopySent confs a r g u x y ks ttl m ⊎ IsCopyLost a r g u x y ks m

  abbrev marked : ℕ → DataItem
  marked bift = record x { bift = bift; ids = ks; ttl = ttl }

  lost : (HasWay r g u x.triple y → ⊥) → Done (packet_lost a x cause.NoRow ks)
  lost none = inr (record { none = none; is = refl })

  near_done : (bift : ℕ) → bift_at r g x.triple y ≡ Some bift → is_direct g u y ≡ true → (l : Option ℕ) → link_to r g y ≡ l → Done (or_lost a x ks (copy_over confs a r l (record (marked bift) { outer = None })))
  near_done bift b near None e = lost (λ w. no w.leads)
    where
      no : {link : ℕ} {outer : Option Outer} → IsNearWay r g u y link outer ⊎ IsFarWay r g u x.triple.sd y link outer → ⊥
      no (inl n) = (let z : None ≡ Some _ = sym e ∙ n.toward in cc)
      no (inr f) = true≢false (sym near ∙ f.far)
  near_done bift b near (Some link) e = by (slice_get r.ends link) refl
    where
      no : (w : HasWay r g u x.triple y) → slice_get r.ends link ≡ None → IsNearWay r g u y w.link w.outer ⊎ IsFarWay r g u x.triple.sd y w.link w.outer → ⊥
      no w f (inl n) =
          let same : Some link ≡ Some w.link = sym e ∙ n.toward in
          let z : None ≡ Some w.end = sym f ∙ ap (λ (o : Option ℕ). option_and_then (slice_get r.ends) o) same ∙ w.there in
          cc
      no w f (inr k) = true≢false (sym near ∙ k.far)

      by : (q : Option End) → slice_get r.ends link ≡ q → Done (or_lost a x ks (option_map (λ e. one_sent confs a link (record (marked bift) { outer = None })) q))
      by None f = lost (λ w. no w f w.leads)
      by (Some end) f = inl (record { way = record { link = link; end = end; there = f; bift = bift; bift_is = b; outer = None; leads = inl (record { near = near; toward = e; outer_is = refl }) }; is = refl })

  abbrev tunnel_to : Ipv4 → Outer
  tunnel_to dst = record { src = r.prefix; dst = dst; ttl = outer_ttl }

  far_done : (bift : ℕ) → bift_at r g x.triple y ≡ Some bift → is_direct g u y ≡ false → (p : Option Ipv4) → prefix_of g x.triple.sd y ≡ p → (l : Option ℕ) → next_link r g u y ≡ l
      → Done (or_lost a x ks (option_and_then (λ dst. copy_over confs a r l (record (marked bift) { outer = Some (tunnel_to dst) })) p))
  far_done bift b far None h l e = lost (λ w. no w.leads)
    where
      no : {link : ℕ} {outer : Option Outer} → IsNearWay r g u y link outer ⊎ IsFarWay r g u x.triple.sd y link outer → ⊥
      no (inl n) = true≢false (sym n.near ∙ far)
      no (inr f) = (let z : None ≡ Some f.dst = sym h ∙ f.prefix in cc)
  far_done bift b far (Some dst) h None e = lost (λ w. no w.leads)
    where
      no : {link : ℕ} {outer : Option Outer} → IsNearWay r g u y link outer ⊎ IsFarWay r g u x.triple.sd y link outer → ⊥
      no (inl n) = true≢false (sym n.near ∙ far)
      no (inr f) = (let z : None ≡ Some _ = sym e ∙ f.next in cc)
  far_done bift b far (Some dst) h (Some link) e = by (slice_get r.ends link) refl
    where
      no : (w : HasWay r g u x.triple y) → slice_get r.ends link ≡ None → IsNearWay r g u y w.link w.outer ⊎ IsFarWay r g u x.triple.sd y w.link w.outer → ⊥
      no w f (inl n) = true≢false (sym n.near ∙ far)
      no w f (inr k) =
          let same : Some link ≡ Some w.link = sym e ∙ k.next in
          let z : None ≡ Some w.end = sym f ∙ ap (λ (o : Option ℕ). option_and_then (slice_get r.ends) o) same ∙ w.there in
          cc

      by : (q : Option End) → slice_get r.ends link ≡ q → Done (or_lost a x ks (option_map (λ e. one_sent confs a link (record (marked bift) { outer = Some (tunnel_to dst) })) q))
      by None f = lost (λ w. no w f w.leads)
      by (Some end) f =
          inl (record {
            way = record { link = link; end = end; there = f; bift = bift; bift_is = b; outer = Some (tunnel_to dst); leads = inr (record { far = far; next = e; dst = dst; prefix = h; outer_is = refl }) };
            is = refl;
          })

  pub copied_is : Done (item_copied confs a r g u x y ks ttl)
  copied_is = by (bift_at r g x.triple y) refl
    where
      direct : (bift : ℕ) → bift_at r g x.triple y ≡ Some bift → (d : Bool) → is_direct g u y ≡ d
          → Done (or_lost a x ks (if d then copied_directly confs a r g (marked bift) y else copied_in_tunnel confs a r g u (marked bift) y))
      direct bift b true d = near_done bift b d (link_to r g y) refl
      direct bift b false d = far_done bift b d (prefix_of g x.triple.sd y) refl (next_link r g u y) refl

      by : (o : Option ℕ) → bift_at r g x.triple y ≡ o → Done (or_lost a x ks (option_and_then (λ bift. copied_to confs a r g u (marked bift) y) o))
      by None b = lost (λ w. (let z : None ≡ Some w.bift = sym b ∙ w.bift_is in cc))
      by (Some bift) b = direct bift b (is_direct g u y) refl

-- ---- in a tunnel

-- an end that leads on to a tunnel's destination
pub record HasOnward (r : RouterConf) (g : List ViewNode) (u : ℕ) (o : Outer) : Type 0 where
  pub link : ℕ
  pub end : End
  pub there : slice_get r.ends link ≡ Some end
  pub leads : option_and_then (next_link r g u) (node_with g o.dst) ≡ Some link

pub record IsOnwardSent (confs : List RouterConf) (a : ℕ) (r : RouterConf) (g : List ViewNode) (u : ℕ) (x : DataItem) (o : Outer) (m : Made) : Type 0 where
  pub way : HasOnward r g u o
  pub is : m ≡ one_sent confs a way.link (record x { outer = Some (record o { ttl = o.ttl - 1 }) })

pub record IsOnwardLost (a : ℕ) (r : RouterConf) (g : List ViewNode) (u : ℕ) (x : DataItem) (o : Outer) (m : Made) : Type 0 where
  pub none : HasOnward r g u o → ⊥
  pub is : m ≡ packet_lost a x cause.Route x.ids

pub onward_is : (confs : List RouterConf) (a : ℕ) (r : RouterConf) (g : List ViewNode) (u : ℕ) (x : DataItem) (o : Outer) → IsOnwardSent confs a r g u x o (sent_onward confs a r g u x o) ⊎ IsOnwardLost a r g u x o (sent_onward confs a r g u x o)
onward_is confs a r g u x o = by (option_and_then (next_link r g u) (node_with g o.dst)) refl
  where
    over : (link : ℕ) → option_and_then (next_link r g u) (node_with g o.dst) ≡ Some link → (q : Option End) → slice_get r.ends link ≡ q
        → IsOnwardSent confs a r g u x o (or_no_route a x (option_map (λ e. one_sent confs a link (record x { outer = Some (record o { ttl = o.ttl - 1 }) })) q)) ⊎ IsOnwardLost a r g u x o (or_no_route a x (option_map (λ e. one_sent confs a link (record x { outer = Some (record o { ttl = o.ttl - 1 }) })) q))
    over link e None f =
        inr (record {
          none = λ w. (let same : Some link ≡ Some w.link = sym e ∙ w.leads in let z : None ≡ Some w.end = sym f ∙ ap (λ (l : Option ℕ). option_and_then (slice_get r.ends) l) same ∙ w.there in cc);
          is = refl;
        })
    over link e (Some end) f = inl (record { way = record { link = link; end = end; there = f; leads = e }; is = refl })

    by : (l : Option ℕ) → option_and_then (next_link r g u) (node_with g o.dst) ≡ l
        → IsOnwardSent confs a r g u x o (or_no_route a x (copy_over confs a r l (record x { outer = Some (record o { ttl = o.ttl - 1 }) }))) ⊎ IsOnwardLost a r g u x o (or_no_route a x (copy_over confs a r l (record x { outer = Some (record o { ttl = o.ttl - 1 }) })))
    by None e = inr (record { none = λ w. (let z : None ≡ Some w.link = sym e ∙ w.leads in cc); is = refl })
    by (Some link) e = over link e (slice_get r.ends link) refl
