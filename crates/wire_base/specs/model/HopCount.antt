-- How many routers a bit passes until it reaches its owner, how many links a tunnel has, and when a TTL covers a path.
use Rattle.std.specs.Prelude.{◌≡◌, ℕ, zero, suc, ◌+◌, ◌≤◌, ◌==◌, ◌⊎◌, Bool, false, List, length, Option, Some, None, option_map, option_and_then, if◌then◌else◌}
use Rattle.wire_base.specs.declared.conf.SubKind.{SubKind}
use Rattle.wire_base.specs.declared.conf.TableRow.{TableRow}
use Rattle.wire_base.specs.declared.triple.Triple.{Triple}
use Rattle.wire_base.specs.declared.view.ViewNode.{ViewNode}
use Rattle.wire_base.specs.model.Graph.{has_id_at}
use Rattle.wire_base.specs.model.Tight.{next_step}
use Rattle.wire_base.specs.model.Choice.{choose, is_direct}
use Rattle.wire_base.specs.model.OnFrame.{outer_ttl}

-- how many times next is followed from u until a node that passes the test, at most k times
abbrev pub follow : (ℕ → Option ℕ) → (ℕ → Bool) → ℕ → ℕ → Option ℕ
follow next ends zero u = if ends u then Some 0 else None
follow next ends (suc k) u = if ends u then Some 0 else option_and_then (λ x. option_map (λ n. n + 1) (follow next ends k x)) (next u)

-- how many times the choice is followed from u until the owner of k: 0 where u has k itself
unfoldable pub hops : List ViewNode → List SubKind → List TableRow → Triple → ℕ → ℕ → ℕ → Option ℕ
hops g kinds table t class k u = follow (λ x. choose g kinds table t class x k) (has_id_at g t.sd k) (length g) u

-- how many tight steps with the least system ID lead from u to x
unfoldable pub tunnel_links : List ViewNode → ℕ → ℕ → Option ℕ
tunnel_links g x u = follow (next_step g x) (λ z. z == x) (length g) u

-- x is reached from u by following `next` more than j times
abbrev pub Follows : (ℕ → Option ℕ) → ℕ → ℕ → ℕ → Type 0
Follows next zero u x = next u ≡ Some x
Follows next (suc j) u x = (y : ℕ) × (next u ≡ Some y) × Follows next j y x

-- y is u, or is reached from it
abbrev pub IsPassed : (ℕ → Option ℕ) → ℕ → ℕ → Type 0
IsPassed next u y = (y ≡ u) ⊎ ((j : ℕ) × Follows next j u y)

-- each tunnel of the path from u has at most 255 links, as many as its outer TTL covers
abbrev pub FitTunnels : List ViewNode → (ℕ → Option ℕ) → ℕ → Type 0
FitTunnels g next u = (y z h : ℕ) → IsPassed next u y → next y ≡ Some z → is_direct g y z ≡ false → tunnel_links g z y ≡ Some h → h ≤ outer_ttl

-- A TTL covers the path from u to the owner of k: it is at least the number of hops, and the tunnels of the path are short enough.
pub record CoversPath (g : List ViewNode) (kinds : List SubKind) (table : List TableRow) (t : Triple) (u class k ttl : ℕ) : Type 0 where
  pub count : ℕ
  pub is : hops g kinds table t class k u ≡ Some count
  pub enough : count ≤ ttl
  pub tunnels : FitTunnels g (λ y. choose g kinds table t class y k) u
