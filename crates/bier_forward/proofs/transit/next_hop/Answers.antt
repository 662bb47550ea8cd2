use Rattle.std.proofs.Common.{Option, List, ℕ, ◌∙◌, ap, sym, subst}
use Rattle.bier_tunnel.specs.Ways.{next_of}
use Rattle.bier_tunnel.specs.declared.ways.Way.{Way}
use Rattle.bier_forward.specs.Tunnels.{HasNode}
use Rattle.bier_forward.proofs.WayLaws.{no-link-without-node}
use Rattle.bier_forward.proofs.transit.next_hop.Goals as goal

pub returns-in-None-clause-next : goal.returns-in-None-clause-next
returns-in-None-clause-next c =
    let none = subst (λ (ways : Option (List Way)). HasNode c.args.conf.now c.args.view.now.nodes ways) c.in-None.is c.in_ok-build.ensures.there in
    c.next_of.ensures ∙ ap (λ (link : Option ℕ). next_of c.args.conf.now.prefix c.args.tunnel.now link) (sym (no-link-without-node c.args.conf.now c.args.view.now.nodes _ none))
