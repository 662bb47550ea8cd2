-- A view is a graph.
use Rattle.std.proofs.Common.{Bool, List, ◌≡◌, length, map, All, sym, ap, subst, ◌∙◌, arith}
use Rattle.std.proofs.lemmas.List.{length-map}
use Rattle.wire_base.specs.declared.conf.RouterConf.{RouterConf}
use Rattle.wire_base.specs.declared.entry.Entry.{Entry}
use Rattle.wire_base.specs.declared.view.ViewNode.{ViewNode}
use Rattle.wire_base.specs.model.Configuration.{IsSound}
use Rattle.wire_base.specs.model.Control.{IsDatabase}
use Rattle.wire_base.specs.model.Graph.{IsGraph, IsNode}
use Rattle.wire_base.specs.model.View.{Claim, with_known, claims_of, node_of, nodes_of, view_of}
use Rattle.view_graph.proofs.GraphLaws.{claims_in_order, few_claims, all_from, known_good, nodes_good, order_pairs, share_pairs, none_passes}
use Rattle.view_graph.proofs.ClaimLaws.{claims_good}

pub view_is_graph : (r : RouterConf) (up : List Bool) (entries : List Entry) → IsSound r → IsDatabase entries → IsGraph (view_of r up entries)
unfolding view_of
view_is_graph r up entries sound base =
    let k : List Claim = map (with_known r.kinds) (claims_of r up entries) in
    let order = claims_in_order r up entries base.in_order in
    let few = few_claims r up entries base.few in
    let long = length-map k (node_of k) in
    record {
      few = omega (arith, few, long);
      in_order = order_pairs k k order;
      nodes = subst (λ n. All (λ (x : ViewNode). IsNode n x) (map (node_of k) k)) (sym long) (all_from (λ (x : ViewNode). IsNode (length k) x) (map (node_of k) k) (nodes_good k k (known_good r.kinds (claims_of r up entries) (claims_good r up entries sound))));
      prefixes_differ = share_pairs k k order (λ p h. none_passes p k h);
    }

-- the same of the nodes of those claims
pub made_graph : (r : RouterConf) (up : List Bool) (entries : List Entry) (claims : List Claim) (nodes : List ViewNode) → IsSound r → IsDatabase entries → claims ≡ map (with_known r.kinds) (claims_of r up entries) → nodes ≡ nodes_of claims → IsGraph nodes
unfolding view_of
made_graph r up entries claims nodes sound base all made = subst IsGraph (sym (made ∙ ap nodes_of all)) (view_is_graph r up entries sound base)
