use Rattle.std.proofs.Common.{◌∷◌, ◌++◌, [], ap, ◌∙◌}
use Rattle.wire_base.specs.model.View.{Claim}
use Rattle.view_graph.proofs.ListLaws.{set_last}
use Rattle.view_graph.proofs.claims.push_claim.Goals as goal

pub returns : goal.returns
returns c =
    set_last c.args.claims.now.items c.push.new.self.items c.len-last.result c.bare_claim.result c.fill.new.claim c.in_ok-push.ensures.items (c.len-last.ensures ∙ c.args.claims.now.ok.0)
    ∙ ap (λ (x : Claim). c.args.claims.now.items ++ x ∷ []) c.in_ok-fill.ensures
