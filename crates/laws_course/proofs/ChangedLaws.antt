-- A course reads only the systems and the prefixes of a domain's routers, and the kinds and the table of the ingress. So it is the
-- same when a router's sub-domains or label ranges change.
use Rattle.std.proofs.Common.{◌≡◌, ◌⊎◌, ℕ, ◌+◌, ◌-◌, ◌%◌, false, if◌then◌else◌, List, [], ◌∷◌, map, slice_get, Option, Some, None, option_map, refl, sym, ap, subst, ◌∙◌}
use Rattle.std.specs.List.{AllByRecursion}
use Rattle.std.specs.Str.{bytes_eq}
use Rattle.wire_base.specs.declared.addresses.Ipv4.{Ipv4}
use Rattle.wire_base.specs.declared.conf.RouterConf.{RouterConf}
use Rattle.wire_base.specs.declared.view.ViewNode.{ViewNode}
use Rattle.wire_base.specs.model.Graph.{is_overloaded, owner}
use Rattle.wire_base.specs.model.HopCount.{Follows, CoversPath}
use Rattle.wire_base.specs.model.Item.{Item, ControlItem, PacketItem, DataItem, Outer, router_with, outer_target}
use Rattle.wire_base.specs.model.Tight.{IsTight}
use Rattle.wire_base.specs.model.Walk.{dist}
use Rattle.domain_model.specs.World.{peer_place, end_between, link_between}
use Rattle.domain_model.proofs.EachLaws.{each_weaker}
use Rattle.laws_router.proofs.DomainLaws.{strip, got_stripped}
use Rattle.laws_route.specs.OnWay.{IsOnWay}
use Rattle.laws_course.specs.Course.{next_for, node_by, node_at, node_of, target_at, HasLinks, IsOnCourse, IfCopyFor}

-- ---- nodes

node_by_strip : (g : List ViewNode) (o : Option RouterConf) → node_by g (option_map strip o) ≡ node_by g o
node_by_strip g None = refl
node_by_strip g (Some r) = refl

pub node_stays : (rs qs : List RouterConf) → map strip rs ≡ map strip qs → (g : List ViewNode) (a : ℕ) → node_at rs g a ≡ node_at qs g a
node_stays rs qs same g a = sym (node_by_strip g (slice_get rs a)) ∙ ap (node_by g) (got_stripped rs qs same a) ∙ node_by_strip g (slice_get qs a)

with_prefix : (n : ℕ) (rs : List RouterConf) (p : Ipv4) → router_with n (map strip rs) p ≡ router_with n rs p
with_prefix n [] p = refl
with_prefix n (r ∷ rs) p = ap (λ (o : Option ℕ). if bytes_eq r.prefix.0 p.0 then Some n else o) (with_prefix (n + 1) rs p)

target_stays : (rs qs : List RouterConf) → map strip rs ≡ map strip qs → (g : List ViewNode) (b : ℕ) (o : Option Outer) → node_of rs g (outer_target rs b o) ≡ node_of qs g (outer_target qs b o)
target_stays rs qs same g b None = node_stays rs qs same g b
target_stays rs qs same g b (Some o) =
    ap (node_of rs g) (sym (with_prefix 0 rs o.dst) ∙ ap (λ (l : List RouterConf). router_with 0 l o.dst) same ∙ with_prefix 0 qs o.dst) ∙ at (router_with 0 qs o.dst)
  where
    at : (p : Option ℕ) → node_of rs g p ≡ node_of qs g p
    at None = refl
    at (Some a) = node_stays rs qs same g a

-- ---- links

between_strip : (o p : Option RouterConf) → end_between (option_map strip o) (option_map strip p) ≡ end_between o p
between_strip None p = refl
between_strip (Some r) None = refl
between_strip (Some r) (Some q) = refl

pub link_stays : (rs qs : List RouterConf) → map strip rs ≡ map strip qs → (a b : ℕ) → link_between rs a b ≡ link_between qs a b
link_stays rs qs same a b =
    sym (between_strip (slice_get rs a) (slice_get rs b))
    ∙ ap (λ (o : Option RouterConf). end_between o (option_map strip (slice_get rs b))) (got_stripped rs qs same a)
    ∙ ap (end_between (option_map strip (slice_get qs a))) (got_stripped rs qs same b)
    ∙ between_strip (slice_get qs a) (slice_get qs b)

-- ---- courses

-- a course by the nodes of the routers
record IsCourse (r : RouterConf) (g : List ViewNode) (u k : ℕ) (x : DataItem) (near to target : ℕ) : Type 0 where
  last : ℕ
  owns : owner g x.triple.sd k ≡ Some last
  step : IsTight g last near to
  before : ℕ
  reached : dist g u near ≡ Some before
  free : (near ≡ u) ⊎ (is_overloaded g near ≡ false)
  passes : (target ≡ last) ⊎ (is_overloaded g target ≡ false)
  on : IsOnWay g to target last
  times : ℕ
  path : Follows (next_for r g x.triple x.entropy k) times u target
  covers : CoversPath g r.kinds r.table x.triple target (x.entropy % 16) k (x.ttl - 1)
  links : HasLinks g target to x.outer

by_nodes : (confs : List RouterConf) (r : RouterConf) (g : List ViewNode) (u k a b : ℕ) (x : DataItem) → IsOnCourse confs r g u k a b x → IsCourse (strip r) g u k x (node_at confs g a) (node_at confs g b) (target_at confs g b x)
by_nodes confs r g u k a b x i =
    record { last = i.last; owns = i.owns; step = i.step; before = i.before; reached = i.reached; free = i.free; passes = i.passes; on = i.on; times = i.times; path = i.path; covers = i.covers; links = i.links }

from_nodes : (confs : List RouterConf) (r : RouterConf) (g : List ViewNode) (u k a b : ℕ) (x : DataItem) → IsCourse (strip r) g u k x (node_at confs g a) (node_at confs g b) (target_at confs g b x) → IsOnCourse confs r g u k a b x
from_nodes confs r g u k a b x i =
    record { last = i.last; owns = i.owns; step = i.step; before = i.before; reached = i.reached; free = i.free; passes = i.passes; on = i.on; times = i.times; path = i.path; covers = i.covers; links = i.links }

pub course_stays : (rs qs : List RouterConf) → map strip rs ≡ map strip qs → (r q : RouterConf) → strip r ≡ strip q → (g : List ViewNode) (u k a b : ℕ) (x : DataItem) → IsOnCourse rs r g u k a b x → IsOnCourse qs q g u k a b x
course_stays rs qs same r q one g u k a b x i =
    from_nodes qs q g u k a b x
    (subst (λ (z : RouterConf). IsCourse z g u k x (node_at qs g a) (node_at qs g b) (target_at qs g b x)) one
    (subst (λ (n : ℕ). IsCourse (strip r) g u k x n (node_at qs g b) (target_at qs g b x)) (node_stays rs qs same g a)
    (subst (λ (n : ℕ). IsCourse (strip r) g u k x (node_at rs g a) n (target_at qs g b x)) (node_stays rs qs same g b)
    (subst (λ (n : ℕ). IsCourse (strip r) g u k x (node_at rs g a) (node_at rs g b) n) (target_stays rs qs same g b x.outer)
    (by_nodes rs r g u k a b x i)))))

-- what is kept of what is on the way
abbrev pub Keeps : List RouterConf → RouterConf → List ViewNode → ℕ → ℕ → ℕ → ℕ → ℕ → Item → Type 0
Keeps confs r g u n k a link item = IfCopyFor (IsOnCourse confs r g u k a (peer_place confs a link)) n k item

-- by a configuration of the ingress of now or earlier
pub keeps_stay : (confs : List RouterConf) (r q : RouterConf) → strip r ≡ strip q → (g : List ViewNode) (u n k a link : ℕ) (items : List Item) → AllByRecursion (Keeps confs r g u n k a link) items → AllByRecursion (Keeps confs q g u n k a link) items
keeps_stay confs r q one g u n k a link items all = each_weaker (Keeps confs r g u n k a link) (Keeps confs q g u n k a link) each items all
  where
    each : (x : Item) → Keeps confs r g u n k a link x → Keeps confs q g u n k a link x
    each (ControlItem p) h = h
    each (PacketItem x) h = λ number named. course_stays confs confs refl r q one g u k a (peer_place confs a link) x (h number named)
