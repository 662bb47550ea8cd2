use Rattle.std.proofs.Common.{◌≡◌, ◌∙◌, ◌↔◌, ℕ, Option, None, subst, sym}
use Rattle.wire_base.specs.model.OnFrame.{node_place}
use Rattle.bier_tunnel.specs.Onward.{IsNoWay}
use Rattle.bier_tunnel.proofs.WayLemmas.{link-is}
use Rattle.bier_tunnel.proofs.OnwardLemmas.{result-lasts, result-over, result-within, no-way}
use Rattle.bier_tunnel.proofs.fib.Fib.next_link.Goals as goal

pub returns-clause-link : goal.returns-clause-link
returns-clause-link c r g u are = c.link_to.ensures ∙ link-is r g u c.args.self.now are c.args.target

pub returns-clause-onward : goal.returns-clause-onward
returns-clause-onward c r g u are =
    result-over g are.graph u are.within r (node_place g c.args.target) c.link_to.result (c.link_to.ensures ∙ link-is r g u c.args.self.now are c.args.target)

pub returns-clause-lasts : goal.returns-clause-lasts
returns-clause-lasts c r g u are few =
    result-lasts g are.graph u are.within r (node_place g c.args.target) c.link_to.result few (c.link_to.ensures ∙ link-is r g u c.args.self.now are c.args.target)

pub returns-clause-within : goal.returns-clause-within
returns-clause-within c r g u are =
    result-within r g u (node_place g c.args.target) c.link_to.result (c.link_to.ensures ∙ link-is r g u c.args.self.now are c.args.target)

pub returns-clause-none : goal.returns-clause-none
returns-clause-none c r g u are leads =
    subst (λ (o : Option ℕ). (o ≡ None) ↔ IsNoWay g u (node_place g c.args.target)) (sym (c.link_to.ensures ∙ link-is r g u c.args.self.now are c.args.target))
    (no-way g are.graph u are.within r (node_place g c.args.target) leads)
