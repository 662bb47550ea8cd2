use Rattle.std.proofs.Common.{◌<◌, length, option_and_then, subst, sym, ap, ◌∙◌}
use Rattle.wire_base.specs.model.OnFrame.{next_link, node_place, node_with}
use Rattle.wire_base.specs.model.View.{control_view}
use Rattle.bier_tunnel.specs.declared.next.Next.{Next}
use Rattle.bier_tunnel.specs.Onward.{GoesOver}
use Rattle.bier_tunnel.specs.Ways.{next_of}
use Rattle.bier_tunnel.proofs.WayLemmas.{with-is}
use Rattle.bier_tunnel.proofs.OnwardLemmas.{in-transit, no-route, no-way-to, of-within, to-within}
use Rattle.bier_tunnel.proofs.fib.Fib.transit.Goals as goal

pub returns-clause-next : goal.returns-clause-next
returns-clause-next c r g u are =
    c.next_of.ensures ∙ ap (next_of c.args.own c.args.t.now) (c.link_with.ensures ∙ with-is r g u c.args.self.now are c.args.t.now.dst)

pub returns-clause-within : goal.returns-clause-within
returns-clause-within c r g u are =
    let way = option_and_then (next_link r g u) (node_with g c.args.t.now.dst) in
    subst (λ (n : Next). GoesOver (λ link. link < length r.ends) n) (sym (returns-clause-next c r g u are))
    (of-within c.args.own c.args.t.now way (λ link. link < length r.ends) (to-within r g u (node_with g c.args.t.now.dst)))

pub returns-clause-route : goal.returns-clause-route
returns-clause-route c r g u are leads stays lives =
    let none = no-route c.args.own c.args.t.now (option_and_then (next_link r g u) (node_with g c.args.t.now.dst)) c.next_of.result (returns-clause-next c r g u are) stays lives in
    let way = no-way-to g are.graph u are.within r leads (node_with g c.args.t.now.dst) in
    (λ q. way.0 (none.0 q), λ no_way. none.1 (way.1 no_way))

pub returns-clause-passed : goal.returns-clause-passed
returns-clause-passed c control octets p are dst ttl other =
    let g = control_view control in
    let u = node_place g control.conf.system in
    in-transit control.conf g u octets c.args.own c.args.t.now p c.next_of.result dst ttl other (returns-clause-next c control.conf g u are)
