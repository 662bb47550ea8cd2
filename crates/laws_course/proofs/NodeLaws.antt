-- Nodes of a view and the routers that they are.
use Rattle.std.proofs.Common.{◌≡◌, ℕ, zero, suc, ◌+◌, ◌<◌, ◌≤◌, ◌==◌, ◌&&◌, ◌||◌, Bool, true, false, if◌then◌else◌, List, [], ◌∷◌, length, map, slice_get, is_some, Option, Some, None, option_map, option_and_then, refl, sym, ap, subst, ◌∙◌, arith}
use mathlib.Core.Bool.{false≢true, true≢false}
use Rattle.std.specs.List.{AllByRecursion, list_any}
use Rattle.std.specs.Str.{bytes_eq}
use Rattle.std.proofs.lemmas.Bool.{eqb-true, eq-eqb}
use Rattle.std.proofs.lemmas.Option.{same_Some}
use Rattle.wire_base.specs.declared.addresses.Ipv4.{Ipv4}
use Rattle.wire_base.specs.declared.conf.End.{End}
use Rattle.wire_base.specs.declared.conf.OwnSub.{OwnSub}
use Rattle.wire_base.specs.declared.conf.RouterConf.{RouterConf}
use Rattle.wire_base.specs.declared.view.ViewNode.{ViewNode}
use Rattle.wire_base.specs.declared.view.ViewSub.{ViewSub}
use Rattle.wire_base.specs.model.Choice.{end_toward}
use Rattle.wire_base.specs.model.Configuration.{DomainConf, IsConsistent, same_sub}
use Rattle.wire_base.specs.model.Graph.{IsGraph, place_in, node_has_id, has_id_at}
use Rattle.wire_base.specs.model.Item.{router_with}
use Rattle.wire_base.specs.model.Lists.{AreApart}
use Rattle.wire_base.specs.model.OnFrame.{node_place, link_to, prefix_of, node_with}
use Rattle.wire_base.specs.model.OwnLsp.{info_of}
use Rattle.wire_base.specs.model.Place.{sub_in, id_of, own_id}
use Rattle.wire_base.specs.model.View.{sub_of, has_prefix}
use Rattle.domain_model.specs.World.{peer_place}
use Rattle.wire_base.proofs.SoundLemmas.{sound_subs}
use Rattle.laws_router.specs.Becoming.{IsEarlier}
use Rattle.bier_forward.proofs.TableLaws.{place-of-node}
use Rattle.domain_model.proofs.EachLaws.{each_got}
use Rattle.domain_model.proofs.DomainLaws.{bytes_from, sound_of, same_by_system, same_by_prefix}
use Rattle.domain_model.proofs.LinkLaws.{end_found, peer_at, prefix_place}
use Rattle.domain_model.proofs.ViewTruth.{places_of, IsRouterNode}
use Rattle.laws_course.specs.Course.{node_by, node_at}
use Rattle.laws_course.proofs.KnownLaws.{place_has, IsOfNow}

-- ---- places in a view

pub place_is : (g : List ViewNode) → IsGraph g → (x : ℕ) (n : ViewNode) → slice_get g x ≡ Some n → node_place g n.system ≡ x
place_is g graph x n h = place-of-node g graph.in_order x n h

pub node_some : {X : Type 0} (xs : List X) (i : ℕ) → i < length xs → (x : X) × (slice_get xs i ≡ Some x)
node_some [] i h = absurd (omega (arith, h))
node_some (x ∷ xs) zero h = (x, refl)
node_some (x ∷ xs) (suc i) h = node_some xs i (omega (arith, h))

-- ---- routers of nodes

module _ (d : DomainConf) (valid : IsConsistent d) (g : List ViewNode) (graph : IsGraph g) (nodes : AllByRecursion (IsRouterNode d.routers) g) where
  -- the router of a node, and its place in the domain
  pub record IsRouterAt (x : ℕ) : Type 0 where
    pub node : ViewNode
    pub there : slice_get g x ≡ Some node
    pub router : RouterConf
    pub place : ℕ
    pub at : slice_get d.routers place ≡ Some router
    pub system : node.system ≡ router.system
    pub was : RouterConf
    pub earlier : IsEarlier was router
    pub subs : node.subs ≡ places_of was
    pub node_is : node_at d.routers g place ≡ x

  -- the system of a node is its router's of now
  system_now : (n : ViewNode) (k : IsRouterNode d.routers n) → n.system ≡ k.now.system
  system_now n k = k.system ∙ ap (λ (z : RouterConf). z.system) k.earlier.one

  pub router_at : (x : ℕ) → x < length g → IsRouterAt x
  router_at x h =
      let n = node_some g x h in
      let k = each_got (IsRouterNode d.routers) g x n.0 nodes n.1 in
      record {
        node = n.0;
        there = n.1;
        router = k.now;
        place = k.among.place;
        at = k.among.there;
        system = system_now n.0 k;
        was = k.router;
        earlier = k.earlier;
        subs = k.subs;
        node_is = ap (node_by g) k.among.there ∙ ap (node_place g) (sym (system_now n.0 k)) ∙ place_is g graph x n.0 n.1;
      }

  -- the router at the place a is that of the node
  pub same_router : (x a : ℕ) (k : IsRouterAt x) (q : RouterConf) → slice_get d.routers a ≡ Some q → node_place g q.system ≡ x → k.router ≡ q
  same_router x a k q at is =
      let found : slice_get g (node_place g q.system) ≡ Some k.node = ap (slice_get g) is ∙ k.there in
      let system : k.node.system ≡ q.system = place_has q.system g k.node found in
      same_by_system d valid k.router q (record { place = k.place; there = k.at }) (record { place = a; there = at }) (sym k.system ∙ system)

  -- the end toward a node leads to its router
  pub peer_node : (a y link : ℕ) (r : RouterConf) (e : End) → slice_get d.routers a ≡ Some r → y < length g → link_to r g y ≡ Some link → slice_get r.ends link ≡ Some e → node_at d.routers g (peer_place d.routers a link) ≡ y
  peer_node a y link r e at within toward there =
      let k = router_at y within in
      let found : end_toward r.ends k.node.system ≡ Some link = ap (λ (o : Option ViewNode). option_and_then (λ n. end_toward r.ends n.system) o) (sym k.there) ∙ toward in
      let f = end_found r.ends k.node.system link found in
      let same : f.at ≡ e = same_Some f.at e (sym f.there ∙ there) in
      let peer : peer_place d.routers a link ≡ k.place = peer_at d.routers valid.systems a link k.place r k.router e at there k.at (ap (λ (z : End). z.peer) (sym same) ∙ f.peer ∙ k.system) in
      ap (node_at d.routers g) peer ∙ k.node_is

  -- ---- prefixes

  prefix_told : (q : RouterConf) (subs : List OwnSub) (sd : ℕ) (p : Ipv4) → option_map (λ s. s.prefix) (place_in (map (λ s. sub_of q.prefix.0 (info_of q.kinds s)) subs) sd) ≡ Some p → p ≡ q.prefix
  prefix_told q [] sd p e = cc
  prefix_told q (s ∷ subs) sd p e = by (s.sd == sd) e (λ k. prefix_told q subs sd p k)
    where
      by : (b : Bool) → option_map (λ z. z.prefix) (if b then Some (sub_of q.prefix.0 (info_of q.kinds s)) else place_in (map (λ z. sub_of q.prefix.0 (info_of q.kinds z)) subs) sd) ≡ Some p
          → (option_map (λ z. z.prefix) (place_in (map (λ z. sub_of q.prefix.0 (info_of q.kinds z)) subs) sd) ≡ Some p → p ≡ q.prefix) → p ≡ q.prefix
      by true e more = sym (same_Some q.prefix p e)
      by false e more = more e

  -- the prefix of a node is its router's
  pub prefix_is : (y sd : ℕ) (p : Ipv4) (k : IsRouterAt y) → prefix_of g sd y ≡ Some p → p ≡ k.router.prefix
  prefix_is y sd p k e =
      let told : option_map (λ (s : ViewSub). s.prefix) (place_in k.node.subs sd) ≡ Some p = ap (λ (o : Option ViewNode). option_and_then (λ n. option_map (λ s. s.prefix) (place_in n.subs sd)) o) (sym k.there) ∙ e in
      prefix_told k.was k.was.subs sd p (ap (λ (l : List ViewSub). option_map (λ (s : ViewSub). s.prefix) (place_in l sd)) (sym k.subs) ∙ told) ∙ ap (λ (z : RouterConf). z.prefix) k.earlier.one

  zero_plus : (n : ℕ) → 0 + n ≡ n
  zero_plus n = omega arith

  -- and by it the router is found
  pub router_found : (j : ℕ) (q : RouterConf) → slice_get d.routers j ≡ Some q → router_with 0 d.routers q.prefix ≡ Some j
  router_found j q at = prefix_place 0 d.routers valid.prefixes j q at ∙ ap (λ (m : ℕ). Some m) (zero_plus j)

  has_own_prefix : (q : RouterConf) (subs : List OwnSub) (p : Ipv4) → has_prefix p (map (λ s. sub_of q.prefix.0 (info_of q.kinds s)) subs) ≡ true → bytes_eq q.prefix.0 p.0 ≡ true
  has_own_prefix q [] p h = absurd (false≢true h)
  has_own_prefix q (s ∷ subs) p h = by (bytes_eq q.prefix.0 p.0) refl h (has_own_prefix q subs p)
    where
      by : (b : Bool) → bytes_eq q.prefix.0 p.0 ≡ b → (b || has_prefix p (map (λ s. sub_of q.prefix.0 (info_of q.kinds s)) subs)) ≡ true → (has_prefix p (map (λ s. sub_of q.prefix.0 (info_of q.kinds s)) subs) ≡ true → bytes_eq q.prefix.0 p.0 ≡ true) → bytes_eq q.prefix.0 p.0 ≡ true
      by true e h more = e
      by false e h more = more h

  -- a node that is in some sub-domain has its router's prefix
  some_prefix : (q : RouterConf) (subs : List OwnSub) (sd : ℕ) → is_some (place_in (map (λ s. sub_of q.prefix.0 (info_of q.kinds s)) subs) sd) ≡ true → has_prefix q.prefix (map (λ s. sub_of q.prefix.0 (info_of q.kinds s)) subs) ≡ true
  some_prefix q [] sd h = absurd (false≢true h)
  some_prefix q (s ∷ subs) sd h = ap (λ (b : Bool). b || has_prefix q.prefix (map (λ s. sub_of q.prefix.0 (info_of q.kinds s)) subs)) (bytes_from q.prefix.0 q.prefix.0 refl)

  -- the first node with a prefix
  with_first : (p : Ipv4) (h : List ViewNode) (x : ℕ) (n : ViewNode) → slice_get h x ≡ Some n → has_prefix p n.subs ≡ true → ((y : ℕ) (m : ViewNode) → slice_get h y ≡ Some m → has_prefix p m.subs ≡ true → y ≡ x) → node_with h p ≡ Some x
  with_first p [] x n at has only = cc
  with_first p (m ∷ h) zero n at has only = let e : has_prefix p m.subs ≡ true = ap (λ (z : ViewNode). has_prefix p z.subs) (same_Some m n at) ∙ has in rw e refl
  with_first p (m ∷ h) (suc x) n at has only = by (has_prefix p m.subs) refl (with_first p h x n at has (λ y z a b. (let e : suc y ≡ suc x = only (suc y) z a b in omega (arith, e))))
    where
      by : (b : Bool) → has_prefix p m.subs ≡ b → node_with h p ≡ Some x → (if b then Some 0 else option_map (λ z. 1 + z) (node_with h p)) ≡ Some (suc x)
      by true e more = absurd (let z : 0 ≡ suc x = only 0 m refl e in omega (arith, z))
      by false e more = ap (λ (o : Option ℕ). option_map (λ z. 1 + z) o) more ∙ ap (λ (z : ℕ). Some z) (plus_one x)
        where
          plus_one : (z : ℕ) → 1 + z ≡ suc z
          plus_one z = omega arith

  pub node_found : (x sd : ℕ) (k : IsRouterAt x) → is_some (place_in k.node.subs sd) ≡ true → node_with g k.router.prefix ≡ Some x
  node_found x sd k some =
      let placed : is_some (place_in (places_of k.was) sd) ≡ true = ap (λ (l : List ViewSub). is_some (place_in l sd)) (sym k.subs) ∙ some in
      let was : has_prefix k.was.prefix k.node.subs ≡ true = ap (has_prefix k.was.prefix) k.subs ∙ some_prefix k.was k.was.subs sd placed in
      let has : has_prefix k.router.prefix k.node.subs ≡ true = subst (λ (p : Ipv4). has_prefix p k.node.subs ≡ true) (ap (λ (z : RouterConf). z.prefix) k.earlier.one) was in
      with_first k.router.prefix g x k.node k.there has only
    where
      only : (y : ℕ) (m : ViewNode) → slice_get g y ≡ Some m → has_prefix k.router.prefix m.subs ≡ true → y ≡ x
      only y m at h =
          let j = each_got (IsRouterNode d.routers) g y m nodes at in
          let bytes = has_own_prefix j.router j.router.subs k.router.prefix (ap (has_prefix k.router.prefix) (sym j.subs) ∙ h) in
          let now : bytes_eq j.now.prefix.0 k.router.prefix.0 ≡ true = ap (λ (z : RouterConf). bytes_eq z.prefix.0 k.router.prefix.0) (sym j.earlier.one) ∙ bytes in
          let same : j.now ≡ k.router = same_by_prefix d valid j.now k.router j.among (record { place = k.place; there = k.at }) now in
          sym (place_is g graph y m at) ∙ ap (node_place g) (system_now m j ∙ ap (λ (z : RouterConf). z.system) same ∙ sym k.system) ∙ place_is g graph x k.node k.there

  -- ---- ids

  abbrev has_told : RouterConf → List OwnSub → ℕ → ℕ → Bool
  has_told q subs sd k = list_any (λ (s : ViewSub). (s.sd == sd) && (s.id == k)) (map (λ s. sub_of q.prefix.0 (info_of q.kinds s)) subs)

  none_later : (q : RouterConf) (s : OwnSub) (subs : List OwnSub) (sd k : ℕ) → AllByRecursion (λ x. same_sub s x ≡ false) subs → s.sd ≡ sd → has_told q subs sd k ≡ true → ⊥
  none_later q s [] sd k all is h = false≢true h
  none_later q s (x ∷ subs) sd k all is h = by (x.sd == sd) refl h (none_later q s subs sd k all.1 is)
    where
      by : (b : Bool) → (x.sd == sd) ≡ b → ((b && (x.id == k)) || has_told q subs sd k) ≡ true → (has_told q subs sd k ≡ true → ⊥) → ⊥
      by true e h more = true≢false (sym (eq-eqb s.sd x.sd (is ∙ sym (eqb-true x.sd sd e))) ∙ all.0)
      by false e h more = more h

  own_told : (q : RouterConf) (subs : List OwnSub) (sd k : ℕ) → AreApart same_sub subs → has_told q subs sd k ≡ true → 1 ≤ k → id_of (sub_in subs sd) ≡ Some k
  own_told q [] sd k apart h some = absurd (false≢true h)
  own_told q (s ∷ subs) sd k apart h some = by (s.sd == sd) refl (s.id == k) refl h (λ r. own_told q subs sd k apart.1 r some)
    where
      above : (b : Bool) → (s.id == 0) ≡ b → s.id ≡ k → (if b then None else Some s.id) ≡ Some k
      above true e is = absurd (let z = eqb-true s.id 0 e in omega (arith, z, is, some))
      above false e is = ap (λ (n : ℕ). Some n) is

      by : (b : Bool) → (s.sd == sd) ≡ b → (c : Bool) → (s.id == k) ≡ c → ((b && c) || has_told q subs sd k) ≡ true → (has_told q subs sd k ≡ true → id_of (sub_in subs sd) ≡ Some k) → id_of (if b then Some s else sub_in subs sd) ≡ Some k
      by true e true f h more = above (s.id == 0) refl (eqb-true s.id k f)
      by true e false f h more = absurd (none_later q s subs sd k apart.0 (eqb-true s.sd sd e) h)
      by false e c f h more = more h

  -- a router has the ids of its node, where the node is what it says of itself now
  pub own_from : (x sd k a : ℕ) (q : RouterConf) → slice_get d.routers a ≡ Some q → x < length g → node_place g q.system ≡ x → IsOfNow q g → has_id_at g sd k x ≡ true → 1 ≤ k → own_id q sd ≡ Some k
  own_from x sd k a q at within is now h some =
      let n = node_some g x within in
      let here : list_any (λ (s : ViewSub). (s.sd == sd) && (s.id == k)) n.0.subs ≡ true = ap (node_has_id sd k) (sym n.1) ∙ h in
      let told : has_told q q.subs sd k ≡ true = ap (list_any (λ (s : ViewSub). (s.sd == sd) && (s.id == k))) (sym (now n.0 (ap (slice_get g) is ∙ n.1))) ∙ here in
      let own = sound_subs q (sound_of d valid q (record { place = a; there = at })) in
      own_told q q.subs sd k own.apart told some
