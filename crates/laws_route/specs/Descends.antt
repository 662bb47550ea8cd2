-- Each router sends a bit nearer to its owner.
use Rattle.std.specs.Prelude.{◌≡◌, ℕ, ◌<◌, List, length, Some}
use Rattle.wire_base.specs.declared.conf.SubKind.{SubKind}
use Rattle.wire_base.specs.declared.conf.TableRow.{TableRow}
use Rattle.wire_base.specs.declared.triple.Triple.{Triple}
use Rattle.wire_base.specs.declared.view.ViewNode.{ViewNode}
use Rattle.wire_base.specs.model.Graph as graph
use Rattle.wire_base.specs.model.Choice.{choose}
use Rattle.wire_base.specs.model.HopCount as hop_count
use Rattle.laws_route.specs.Nearer.{Nearer}

-- The id k, which u sends to x, has an owner. From x its distance is below that from u, and x forwards the id unless it is
-- the owner. So the number of hops from u is defined, and smaller than the number of nodes.
pub record Descends (g : List ViewNode) (kinds : List SubKind) (table : List TableRow) (t : Triple) (class k u x : ℕ) : Type 0 where
  pub owner : ℕ
  pub owns : graph.owner g t.sd k ≡ Some owner
  pub nearer : Nearer g owner u x
  pub within : x < length g
  pub goes_on : (x ≡ owner → ⊥) → (y : ℕ) × (choose g kinds table t class x k ≡ Some y)
  pub count : ℕ
  pub hops : hop_count.hops g kinds table t class k u ≡ Some count
  pub few : count < length g
