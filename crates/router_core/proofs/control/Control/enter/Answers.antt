use Rattle.std.proofs.Common.{◌∙◌, List, sym, ap, subst}
use Rattle.wire_base.specs.declared.view.ViewNode.{ViewNode}
use Rattle.wire_base.specs.model.View.{control_view}
use Rattle.bier_forward.specs.Packets.{LeadsToEnds}
use Rattle.bier_forward.proofs.OwnEdges.{own_edges}
use Rattle.router_core.proofs.KeepLaws.{now_is}
use Rattle.router_core.proofs.control.Control.enter.Goals as goal

pub enter_packets-requires-clause-ends : goal.enter_packets-requires-clause-ends
enter_packets-requires-clause-ends c =
    subst (λ (g : List ViewNode). LeadsToEnds c.self.inside.conf g) (ap control_view c.self.view_is ∙ sym (now_is c.args.self.now c.keep.new.kept c.in-Some.now c.in-Some.is c.in_ok-keep.ensures).view ∙ sym c.view.ensures) (own_edges c.self.inside.conf c.self.inside.flood.flood.up c.self.inside.store.entries)
