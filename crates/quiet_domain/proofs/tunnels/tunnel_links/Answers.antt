use Rattle.std.proofs.Common.{◌≡◌, ℕ, ◌<◌, ◌≤◌, ◌==◌, Option, Some, None, false, length, unwrap_or, sym, ap, subst, ◌∙◌}
use Rattle.std.proofs.lemmas.Bool.{eq-eqb, ne_eqb}
use Rattle.wire_base.specs.model.Graph.{IsGraph}
use Rattle.wire_base.specs.model.HopCount.{tunnel_links}
use Rattle.wire_base.specs.model.Tight.{next_step}
use Rattle.laws_route.proofs.DescentLemmas.{IsTight-within}
use Rattle.laws_route.proofs.RouteLemmas.{next_step-tight}
use Rattle.quiet_domain.proofs.PathLaws.{few_links, links_found, links_next, links_past, links_start, links_stuck}
use Rattle.quiet_domain.proofs.tunnels.tunnel_links.Goals as goal

pub steps-init : goal.steps-init
unfolding tunnel_links
steps-init c = record { within = c.requires.from; is = links_start (next_step c.args.v.now.nodes c.args.x) (λ z. z == c.args.x) (length c.args.v.now.nodes) c.args.u }

pub steps-preserved : goal.steps-preserved
steps-preserved c =
    let g = c.args.v.now.nodes in
    let good : IsGraph g = subst IsGraph c.as_slice-count.ensures.nodes c.as_slice-count.ensures.graph in
    let inv = c.steps.invariant in
    let less : c.steps.links < length g = rw c.as_slice-count.ensures.nodes at c.steps-test.true in
    let step : next_step g c.args.x c.steps.node ≡ Some c.in-Some.next = sym c.in_ok-next.ensures ∙ c.in-Some.is in
    let other : (c.steps.node == c.args.x) ≡ false = ne_eqb c.steps.node c.args.x c.if-node-x.false in
    record {
      within = IsTight-within g good c.args.x c.steps.node c.in-Some.next (next_step-tight g good c.args.x c.steps.node c.in-Some.next inv.within step);
      is = links_next (next_step g c.args.x) (λ z. z == c.args.x) (length g) (tunnel_links g c.args.x c.args.u) c.steps.links c.steps.node c.in-Some.next less other step inv.is;
    }

pub returns-then-node-x : goal.returns-then-node-x
returns-then-node-x c =
    let g = c.args.v.now.nodes in
    sym (ap (λ (o : Option ℕ). unwrap_or o 0)
    (links_found (next_step g c.args.x) (λ z. z == c.args.x) (length g) (tunnel_links g c.args.x c.args.u) c.steps.links c.steps.node (eq-eqb c.steps.node c.args.x c.if-node-x.true) c.steps.invariant.is))

pub returns-in_default : goal.returns-in_default
returns-in_default c =
    let g = c.args.v.now.nodes in
    let step : next_step g c.args.x c.steps.node ≡ None = sym c.in_ok-next.ensures ∙ c.in_default.is in
    sym (ap (λ (o : Option ℕ). unwrap_or o 0)
    (links_stuck (next_step g c.args.x) (λ z. z == c.args.x) (length g) (tunnel_links g c.args.x c.args.u) c.steps.links c.steps.node (ne_eqb c.steps.node c.args.x c.if-node-x.false) step c.steps.invariant.is))

pub returns : goal.returns
returns c =
    let g = c.args.v.now.nodes in
    let good : IsGraph g = subst IsGraph c.as_slice-count.ensures.nodes c.as_slice-count.ensures.graph in
    let past : length g ≤ c.steps.links = rw c.as_slice-count.ensures.nodes at c.steps-test.false in
    sym (ap (λ (o : Option ℕ). unwrap_or o 0)
    (links_past (next_step g c.args.x) (λ z. z == c.args.x) (length g) (tunnel_links g c.args.x c.args.u) c.steps.links c.steps.node past (λ n q. few_links g good c.args.x c.args.u n c.requires.from q) c.steps.invariant.is))
