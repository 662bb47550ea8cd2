use Rattle.std.proofs.Common.{◌++◌, ap, subst, refl, ◌∙◌}
use Rattle.wire_base.specs.model.View.{Claim}
use Rattle.view_graph.specs.Owners.{AreAlone, AreOwners, prefixes_at, prefixes_in}
use Rattle.view_graph.proofs.OwnerLaws.{claims_step, alone_step}
use Rattle.view_graph.proofs.owners.all_owners.Goals as goal

pub claims-preserved : goal.claims-preserved
claims-preserved c = record {
  owners = claims_step c.args.claims.now c.claims.claim-index c.claim-item.result c.claims.owners c.add_prefixes.new.owners c.claims-test.true c.claim-item.is c.claims.invariant.owners (λ xs are. subst (λ ys. AreOwners (xs ++ ys) c.add_prefixes.new.owners) (ap (prefixes_at c.claim.inside.system) c.as_slice.ensures ∙ ap (λ (x : Claim). prefixes_in x) c.claim.view_is) (c.in_ok-is_any.ensures.owners xs are));
  alone = λ none. alone_step Unit (AreAlone c.claims.owners) (AreAlone c.add_prefixes.new.owners) c.claims.is_any c.in_ok-is_any.field-0 _ refl (λ e _. c.claims.invariant.alone e) c.in_ok-is_any.ensures.alone none tt;
}
