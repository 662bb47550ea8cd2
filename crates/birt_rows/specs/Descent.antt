-- A bit comes nearer to the router that owns its BFR-id with each hop, so it is sent on until it is there (RFC 8279, 6.5
-- and 6.9).
use Rattle.std.specs.Prelude.{◌≡◌, ℕ, ◌<◌, List, [], length, Some}
use Rattle.wire_base.specs.declared.conf.End.{End}
use Rattle.wire_base.specs.declared.conf.RouterConf.{RouterConf}
use Rattle.wire_base.specs.declared.triple.Triple.{Triple}
use Rattle.wire_base.specs.declared.view.First.{First}
use Rattle.wire_base.specs.declared.view.ViewNode.{ViewNode}
use Rattle.wire_base.specs.model.Choice.{first_at, row}
use Rattle.wire_base.specs.model.Graph as graph
use Rattle.wire_base.specs.model.HopCount as hop_count
use Rattle.wire_base.specs.model.Place.{id_at}
use Rattle.laws_route.specs.Nearer.{Nearer}

-- The row of the bit position p at the node u has the router f. It is the node x, which is nearer to the owner of the
-- position's BFR-id than u is; and at x, whatever its links are, the row is empty only where x is the owner. So whichever
-- router is selected from each row, the bit reaches its owner after fewer hops than there are nodes.
pub record ComesNearer (r : RouterConf) (g : List ViewNode) (t : Triple) (u p : ℕ) (f : First) : Type 0 where
  pub x : ℕ
  pub is : first_at r.ends g u x ≡ Some f
  pub within : x < length g
  pub owner : ℕ
  pub owns : graph.owner g t.sd (id_at t p) ≡ Some owner
  pub nearer : Nearer g owner u x
  pub goes_on : (ends : List End) → row r.kinds r.table ends g t x p ≡ [] → x ≡ owner
  pub arrives : (class : ℕ) → (count : ℕ) × (hop_count.hops g r.kinds r.table t class (id_at t p) u ≡ Some count) × (count < length g)
