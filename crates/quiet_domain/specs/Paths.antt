-- The paths of BFR-ids in a topology, and what is kept of its nodes: the BIRT of a node for one triple, and the costs of the paths
-- from it.
use Rattle.std.specs.Prelude.{◌≡◌, ℕ, ◌-◌, ◌<◌, ◌≤◌, List, [], length, slice_get, slice_index_or, Option, Some, None}
use Rattle.wire_base.specs.declared.conf.RouterConf.{RouterConf}
use Rattle.wire_base.specs.declared.triple.Triple.{Triple}
use Rattle.wire_base.specs.declared.view.ViewNode.{ViewNode}
use Rattle.wire_base.specs.model.Choice.{choose, row}
use Rattle.wire_base.specs.model.Place.{bits_of}
use Rattle.path_tree.specs.Ways.{AreDistsFrom}
use Rattle.quiet_domain.specs.Way.{links_over, way_to}
use Rattle.quiet_domain.specs.declared.birt.Birt.{Birt}
use Rattle.quiet_domain.specs.declared.path.Hop.{Hop}
use Rattle.quiet_domain.specs.declared.path.Way.{Way}

-- The topology of a router with its configuration, and packets of a triple and an entropy class.
pub record PathsIn : Type 0 where
  pub conf : RouterConf
  pub nodes : List ViewNode
  pub triple : Triple
  pub class : ℕ

-- the path of a BFR-id from a node
abbrev pub way_in : PathsIn → ℕ → ℕ → Option Way
way_in p u k = way_to p.nodes p.conf.kinds p.conf.table p.triple p.class k u

-- the node to which a node sends the bit of a BFR-id
abbrev pub next_in : PathsIn → ℕ → ℕ → Option ℕ
next_in p u k = choose p.nodes p.conf.kinds p.conf.table p.triple p.class u k

-- one hop of a path
abbrev pub IsHop : List ViewNode → ℕ → Option ℕ → Option Hop → Type 0
IsHop g u next None = next ≡ None
IsHop g u next (Some hop) = (next ≡ Some hop.next) × (hop.links ≡ links_over g u hop.next)

-- what is kept of the node u
pub record IsBirt (r : RouterConf) (g : List ViewNode) (t : Triple) (u : ℕ) (x : Birt) : Type 0 where
  pub bits : length x.set.bits ≡ bits_of t.bsl
  pub rows : (p : ℕ) → 0 < p → p ≤ bits_of t.bsl → slice_index_or x.set.bits (p - 1) [] ≡ row r.kinds r.table r.ends g t u p
  pub costs : AreDistsFrom g u x.costs

-- for each node what belongs to it, or nothing yet
pub record AreBirts (r : RouterConf) (g : List ViewNode) (t : Triple) (birts : List (Option Birt)) : Type 0 where
  pub count : length birts ≡ length g
  pub each : (u : ℕ) (x : Birt) → slice_get birts u ≡ Some (Some x) → IsBirt r g t u x

-- the limits of a configuration, and what is kept
pub record ArePaths (p : PathsIn) (all : List (Option Birt)) : Type 0 where
  pub ends : length p.conf.ends ≤ 65536
  pub class : p.class < 16
  pub birts : AreBirts p.conf p.nodes p.triple all
