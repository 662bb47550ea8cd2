use Rattle.std.proofs.Common.{List, subst}
use Rattle.wire_base.specs.model.View.{Claim}
use Rattle.view_graph.specs.Owners.{AreTold}
use Rattle.view_graph.proofs.GraphLaws.{not_true}
use Rattle.view_graph.proofs.OwnerLaws.{whole_alone}
use Rattle.view_graph.proofs.nodes.nodes_of.Goals as goal

pub returns-clause-whole : goal.returns-clause-whole
returns-clause-whole c = λ e.
    whole_alone c.args.claims.items c.in_ok-owners.owners (subst (λ (l : List Claim). AreTold l c.in_ok-owners.owners) c.as_slice-2.ensures.value c.in_ok-owners.ensures.told) (c.in_ok-owners.ensures.alone (not_true c.in_ok-owners.is_any e))
