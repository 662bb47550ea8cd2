-- What is true of a router's configuration beside its topology.
use Rattle.std.proofs.Common.{◌≡◌, List, sym, subst}
use Rattle.wire_base.specs.declared.conf.RouterConf.{RouterConf}
use Rattle.wire_base.specs.declared.view.ViewNode.{ViewNode}
use Rattle.wire_base.specs.model.Control.{Control}
use Rattle.wire_base.specs.model.View.{control_view}
use Rattle.bier_forward.specs.Packets.{LeadsToEnds}
use Rattle.bier_forward.proofs.OwnEdges.{own_edges}

-- each edge of the router's own node leads to the peer of one of its interfaces
pub leads_to_ends : (c : Control) (r : RouterConf) (g : List ViewNode) → r ≡ c.conf → g ≡ control_view c → LeadsToEnds r g
leads_to_ends c r g conf view =
    subst (λ (q : RouterConf). LeadsToEnds q g) (sym conf)
    (subst (λ (h : List ViewNode). LeadsToEnds c.conf h) (sym view) (own_edges c.conf c.flood.up c.entries))
