use Rattle.std.proofs.Common.{subst}
use Rattle.wire_base.specs.model.View.{Claim}
use Rattle.view_graph.specs.Edges.{IsKey}
use Rattle.view_graph.proofs.NumberLaws.{keys_step}
use Rattle.view_graph.proofs.edges.keys_of.Goals as goal

pub claims-preserved : goal.claims-preserved
claims-preserved c =
    keys_step c.args.claims.now c.claims.claim-index c.claim-item.result c.system_key.result c.claims.keys.items c.push.new.self.items c.claims-test.true c.claim-item.is c.claims.invariant c.in_ok-push.ensures.items
    (subst (λ (x : Claim). IsKey c.system_key.result x.system) c.claim.view_is (record { number = c.system_key.ensures.key; octets = c.system_key.ensures.octets }))
