-- Tunnels have few enough links for their outer TTL.
use Rattle.std.proofs.Common.{◌≡◌, ℕ, zero, suc, ◌-◌, ◌<◌, ◌≤◌, ◌==◌, false, List, length, Option, Some, sym, ap, ◌∙◌, arith}
use Rattle.std.proofs.lemmas.Bool.{ne_eqb}
use Rattle.std.proofs.lemmas.Option.{same_Some}
use Rattle.wire_base.specs.declared.conf.SubKind.{SubKind}
use Rattle.wire_base.specs.declared.conf.TableRow.{TableRow}
use Rattle.wire_base.specs.declared.triple.Triple.{Triple}
use Rattle.wire_base.specs.declared.view.ViewNode.{ViewNode}
use Rattle.wire_base.specs.model.Choice.{choose}
use Rattle.wire_base.specs.model.Graph.{IsGraph}
use Rattle.wire_base.specs.model.HopCount.{hops, tunnel_links, CoversPath, FitTunnels, Follows}
use Rattle.wire_base.specs.model.OnFrame.{outer_ttl}
use Rattle.wire_base.specs.model.Tight.{next_step}
use Rattle.wire_base.specs.model.Walk.{dist}
use Rattle.laws_route.proofs.DescentLemmas.{dist-end, IsTight-within, IsTight-nearer}
use Rattle.laws_route.proofs.RouteLemmas.{next_step-tight}
use Rattle.laws_course.specs.Course.{LinksLeft}
use Rattle.laws_course.proofs.FollowLaws.{follow-down, follow-most}

-- ---- few nodes

-- a tunnel has no more links than there are nodes
pub small_fit : (g : List ViewNode) (next : ℕ → Option ℕ) (u : ℕ) → length g ≤ outer_ttl → FitTunnels g next u
unfolding tunnel_links
small_fit g next u few y z h passed goes far links = let most = follow-most (next_step g z) (λ x. x == z) (length g) y h links in omega (arith, few, most)

-- so a TTL covers a path where it is at least the number of hops
pub small_covers : (g : List ViewNode) (kinds : List SubKind) (table : List TableRow) (t : Triple) (u class k ttl n : ℕ) → length g ≤ outer_ttl → hops g kinds table t class k u ≡ Some n → n ≤ ttl → CoversPath g kinds table t u class k ttl
small_covers g kinds table t u class k ttl n few is enough = record { count = n; is = is; enough = enough; tunnels = small_fit g (λ y. choose g kinds table t class y k) u few }

-- ---- the links that are left

module _ (g : List ViewNode) (graph : IsGraph g) (x : ℕ) where
  -- no step leads on from the end of a tunnel
  step_apart : (u v : ℕ) → u < length g → next_step g x u ≡ Some v → (u == x) ≡ false
  step_apart u v node step = ne_eqb u x (λ e. (
      let near = IsTight-nearer g graph x u v (next_step-tight g graph x u v node step) in
      let none : near.far ≡ 0 = same_Some near.far 0 (sym near.from ∙ ap (λ (z : ℕ). dist g z x) e ∙ dist-end g x) in
      let less = near.less in
      omega (arith, none, less)
      ))

  -- each link on the way is one less
  pub links_left : (j u y h : ℕ) → u < length g → tunnel_links g x u ≡ Some h → Follows (next_step g x) j u y → LinksLeft g x y h j
  unfolding tunnel_links
  links_left zero u y h node links step =
      let d = follow-down (next_step g x) (λ z. z == x) (length g) u h y links (step_apart u y node step) step in
      record { left = d.0; are = d.1; fewer = omega (arith, d.2) }
  links_left (suc j) u y h node links f =
      let d = follow-down (next_step g x) (λ z. z == x) (length g) u h f.0 links (step_apart u f.0 node f.1) f.1 in
      let within = IsTight-within g graph x u f.0 (next_step-tight g graph x u f.0 node f.1) in
      let more = links_left j f.0 y d.0 within d.1 f.2 in
      record { left = more.left; are = more.are; fewer = (let fewer = more.fewer in omega (arith, d.2, fewer)) }

  pub ttl_left : (j u y h : ℕ) → u < length g → tunnel_links g x u ≡ Some h → h ≤ outer_ttl → Follows (next_step g x) j u y → (left : ℕ) × (tunnel_links g x y ≡ Some left) × (left < outer_ttl - j)
  ttl_left j u y h node links few f =
      let l = links_left j u y h node links f in
      (l.left, l.are, (let fewer = l.fewer in omega (arith, fewer, few)))
